use Rattle.std.proofs.Common.{◌≡◌, None, set, sym, ap, ◌∙◌, subst, rules}
use Rattle.heap.specs.View.{view}
use Rattle.whole_runs.specs.Hands.{HandsMatch}
use Rattle.whole_runs.proofs.FaultTurns.{taken, take_refused, hand_empty, filled}
use Rattle.whole_runs.proofs.sessions.Session.take.Goals as goal

pub invariant_of-self : goal.invariant_of-self
invariant_of-self g c =
    let seen = view g.H.Host.meaning in
    let old = c.args.self.now in
    let h = seen old.heap in
    let m = c.args.m in
    let f = c.in-Ok.fault in
    let taking = c.in-Ok.ensures in
    let t = taken g.L.Layout.rules h (seen c.take.new.self) m f.page taking.does in
    let none : c.replace-old.result ≡ None = c.replace-old.ensures.value ∙ hand_empty h.state old.hands old.hands_match m taking.fault.1 t.waited in
    let same : seen c.spend.new.heap ≡ seen c.take.new.self = c.spend.ensures.kept none in
    record {
      hands_match = subst (λ x. HandsMatch (seen c.spend.new.heap).state (set old.hands m x)) (sym c.replace-old.ensures.after)
          (filled h.state old.hands old.hands_match (search rules) (seen c.spend.new.heap).state m f taking.fault.0 (ap (λ k. k.state) same ∙ t.moved));
    }

pub invariant_of-self-in-Err-1 : goal.invariant_of-self-in-Err-1
invariant_of-self-in-Err-1 g c =
    let seen = view g.H.Host.meaning in
    let old = c.args.self.now in
    record { hands_match = subst (λ s. HandsMatch s old.hands) (sym (take_refused g.L.Layout.rules (seen old.heap) (seen c.take.new.self) c.args.m c.in-Err.refusal c.in-Err.ensures.does)) old.hands_match }
