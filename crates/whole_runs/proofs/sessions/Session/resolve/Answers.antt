use Rattle.std.proofs.Common.{◌≡◌, true, false, length, set, sym, ap, ◌∙◌, subst, rules}
use Rattle.model.specs.declared.calls.Answer.TheVariants.{Refused}
use Rattle.model.specs.Outcomes.{outcome}
use Rattle.images.specs.Lent.{machine}
use Rattle.heap.specs.View.{view}
use Rattle.heap.specs.Effects.{resolve_answer}
use Rattle.whole_runs.specs.Hands.{HandsMatch, at_hand}
use Rattle.whole_runs.proofs.FaultTurns.{agree, not_held, as_asked, worked_off}
use Rattle.whole_runs.proofs.sessions.Session.resolve.Goals as goal

pub returns-then-not-is_at_hand-clause-writes : goal.returns-then-not-is_at_hand-clause-writes
returns-then-not-is_at_hand-clause-writes g c =
    let old = c.args.self.now in
    let h = view g.H.Host.meaning old.heap in
    let xs = c.args.buffer.now in
    let away : at_hand old.hands c.args.m c.args.page ≡ false = search rules in λ b.
    not_held g.L.Layout.rules (machine h xs b) c.args.m c.args.page (length xs) (sym (agree h.state old.hands old.hands_match c.args.m c.args.page) ∙ away) ∙ ap (λ e. outcome (machine h xs b) (Refused e)) (sym c.not_at_hand.ensures)

pub invariant_of-self : goal.invariant_of-self
invariant_of-self g c =
    let L = g.L.Layout.rules in
    let old = c.args.self.now in
    let h = view g.H.Host.meaning old.heap in
    let k = view g.H.Host.meaning c.resolve.new.self in
    let xs = c.args.buffer.now in
    let ys = c.resolve.new.buffer in
    let m = c.args.m in
    let p = c.args.page in
    let here : at_hand old.hands m p ≡ true = search rules in
    let did = as_asked L h k old.hands xs ys m p c.in-Some.fault (resolve_answer c.resolve.result) old.hands_match here (sym c.take.ensures.value ∙ c.in-Some.is) c.resolve.ensures.writes in
    record { hands_match = subst (λ x. HandsMatch k.state (set old.hands m x)) (sym c.take.ensures.after) (worked_off L h k old.hands xs ys m p (resolve_answer c.resolve.result) old.hands_match (search rules) here did) }

pub returns-in-Some-clause-writes : goal.returns-in-Some-clause-writes
returns-in-Some-clause-writes g c =
    let old = c.args.self.now in
    let h = view g.H.Host.meaning old.heap in
    let k = view g.H.Host.meaning c.resolve.new.self in
    let xs = c.args.buffer.now in
    let ys = c.resolve.new.buffer in
    let said : c.map_or_else.result ≡ resolve_answer c.resolve.result = search rules in
    as_asked g.L.Layout.rules h k old.hands xs ys c.args.m c.args.page c.in-Some.fault c.map_or_else.result old.hands_match (search rules) (sym c.take.ensures.value ∙ c.in-Some.is) (λ b. c.resolve.ensures.writes b ∙ ap (outcome (machine k ys b)) (sym said))
