use Rattle.std.proofs.Common.{◌≡◌, ◌++◌, length, take, drop, refl, sym, ap, ◌∙◌, rules}
use Rattle.model.specs.declared.calls.Call.TheVariants as Call
use Rattle.model.specs.Outcomes.{outcome}
use Rattle.images.specs.Lent.{machine, done_answer, save_answer}
use Rattle.restoring.specs.Restored.{image_view}
use Rattle.runs.specs.Lists.{as_call}
use Rattle.heap.specs.View.{view}
use Rattle.heap.specs.Effects.{flip_answer}
use Rattle.whole_runs.specs.Lists.{with_buffer}
use Rattle.whole_runs.specs.declared.turns.Turn.TheVariants as Turn
use Rattle.whole_runs.proofs.FaultTurns.{still_match}
use Rattle.whole_runs.proofs.TurnCalls.{no_fault, turned}
use Rattle.whole_runs.proofs.Prefixes.{lent_first}
use Rattle.whole_runs.proofs.sessions.Session.carry_out.Goals as goal

pub invariant_of-self : goal.invariant_of-self
invariant_of-self g c =
    let old = c.args.self.now in
    let seen = view g.H.Host.meaning in
    let made = c.in-Mutator.call in
    record { hands_match = still_match g.L.Layout.rules (machine (seen old.heap) c.args.buffer.now (λ j. 0)) (as_call made) (seen c.carry_out.new.heap) old.hands (no_fault made) (sym (ap (λ o. o.left.heap.state) (c.carry_out.ensures.does (machine (seen old.heap) c.args.buffer.now (λ j. 0)).buffer))) old.hands_match }

pub invariant_of-self-in-Flip : goal.invariant_of-self-in-Flip
invariant_of-self-in-Flip g c =
    let old = c.args.self.now in
    let x = machine (view g.H.Host.meaning old.heap) c.args.buffer.now (λ j. 0) in
    record { hands_match = still_match g.L.Layout.rules x Call.Flip (view g.H.Host.meaning c.flip.new.self) old.hands refl (sym (ap (λ o. o.left.heap.state) (c.flip.ensures.does x.buffer))) old.hands_match }

pub invariant_of-self-in-Step : goal.invariant_of-self-in-Step
invariant_of-self-in-Step g c =
    let old = c.args.self.now in
    let x = machine (view g.H.Host.meaning old.heap) c.args.buffer.now (λ j. 0) in
    record { hands_match = still_match g.L.Layout.rules x Call.Step (view g.H.Host.meaning c.step.new.self) old.hands refl (sym (ap (λ o. o.left.heap.state) (c.step.ensures.does x.buffer))) old.hands_match }

pub returns-in-Flip-clause-carries : goal.returns-in-Flip-clause-carries
returns-in-Flip-clause-carries g c =
    let h = view g.H.Host.meaning c.args.self.now.heap in
    let k = view g.H.Host.meaning c.flip.new.self in
    let xs = c.args.buffer.now in
    let said : c.map_or_else.result ≡ flip_answer c.flip.result = search rules in
    turned g.L.Layout.rules h k xs xs c.args.call c.from.result Turn.Flip c.map_or_else.result c.from.ensures c.in-Flip.is (c.flip.ensures.does (image_view xs) ∙ ap (outcome (with_buffer k xs)) (sym said))

pub invariant_of-self-in-Mark : goal.invariant_of-self-in-Mark
invariant_of-self-in-Mark g c =
    let old = c.args.self.now in
    let first = take c.min-words-in-Mark.result c.args.buffer.now in
    let x = machine (view g.H.Host.meaning old.heap) first (λ j. 0) in
    record { hands_match = still_match g.L.Layout.rules x (Call.Mark (length first)) (view g.H.Host.meaning c.mark.new.self) old.hands refl (sym (ap (λ o. o.left.heap.state) (c.mark.ensures.writes (λ j. 0)))) old.hands_match }

pub invariant_of-self-in-Save : goal.invariant_of-self-in-Save
invariant_of-self-in-Save g c =
    let old = c.args.self.now in
    let first = take c.min-words-in-Save.result c.args.buffer.now in
    let x = machine (view g.H.Host.meaning old.heap) first (λ j. 0) in
    record { hands_match = still_match g.L.Layout.rules x (Call.Save (length first)) (view g.H.Host.meaning c.save.new.self) old.hands refl (sym (ap (λ o. o.left.heap.state) (c.save.ensures.writes (λ j. 0)))) old.hands_match }

pub returns-in-Resolve-clause-carries : goal.returns-in-Resolve-clause-carries
returns-in-Resolve-clause-carries g c =
    let h = view g.H.Host.meaning c.args.self.now.heap in
    let k = view g.H.Host.meaning c.resolve.new.self.heap in
    let a = c.in-Resolve in
    let xs = c.args.buffer.now in
    let n = c.min-words.result in
    let ys = c.resolve.new.buffer in
    turned g.L.Layout.rules h k xs (ys ++ drop n xs) c.args.call c.from.result (Turn.Resolve a.mutator a.page a.lent) c.resolve.result c.from.ensures a.is
    (lent_first g.L.Layout.rules h k c.resolve.result (Call.Resolve a.mutator a.page) xs ys a.lent n (search rules) (search rules) c.resolve.ensures.writes)

pub returns-in-Mark-clause-carries : goal.returns-in-Mark-clause-carries
returns-in-Mark-clause-carries g c =
    let h = view g.H.Host.meaning c.args.self.now.heap in
    let k = view g.H.Host.meaning c.mark.new.self in
    let a = c.map_or_else-in-Mark.result in
    let xs = c.args.buffer.now in
    let n = c.min-words-in-Mark.result in
    let ys = c.mark.new.buffer in
    let said : a ≡ done_answer c.mark.result = search rules in
    turned g.L.Layout.rules h k xs (ys ++ drop n xs) c.args.call c.from.result (Turn.Mark c.in-Mark.lent) a c.from.ensures c.in-Mark.is
    (lent_first g.L.Layout.rules h k a Call.Mark xs ys c.in-Mark.lent n (search rules) (search rules) (λ b. c.mark.ensures.writes b ∙ ap (outcome (machine k ys b)) (sym said)))

pub returns-in-Save-clause-carries : goal.returns-in-Save-clause-carries
returns-in-Save-clause-carries g c =
    let h = view g.H.Host.meaning c.args.self.now.heap in
    let k = view g.H.Host.meaning c.save.new.self in
    let a = c.map_or_else-in-Save.result in
    let xs = c.args.buffer.now in
    let n = c.min-words-in-Save.result in
    let ys = c.save.new.buffer in
    let said : a ≡ save_answer c.save.result = search rules in
    turned g.L.Layout.rules h k xs (ys ++ drop n xs) c.args.call c.from.result (Turn.Save c.in-Save.lent) a c.from.ensures c.in-Save.is
    (lent_first g.L.Layout.rules h k a Call.Save xs ys c.in-Save.lent n (search rules) (search rules) (λ b. c.save.ensures.writes b ∙ ap (outcome (machine k ys b)) (sym said)))
