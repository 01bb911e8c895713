use Rattle.state.proofs.plain_state.Plain.hold.Goals as goal

pub returns : goal.returns
returns c = λ x. rw (← c.number.ensures.value, ← c.number-2.ensures.value) (c.set_register.ensures x)
