use Rattle.state.proofs.plain_state.Plain.move_to.Goals as goal

pub returns : goal.returns
returns c = λ x. rw (← c.number.ensures.value) (c.set_state.ensures x)
