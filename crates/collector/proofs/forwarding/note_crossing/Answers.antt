use Rattle.std.proofs.Common.{◌≡◌, ℕ, ◌+◌, ◌/◌, ◌≤◌, min, cond, get_or, sym, refl, ap, ◌∙◌, arith, rules}
use Rattle.collector.proofs.Crossings.{first_from, pages_to, noted, noted_none, noted_more, noted_all}
use Rattle.collector.proofs.forwarding.note_crossing.Goals as goal

pub loop-page-init : goal.loop-page-init
loop-page-init c = (refl, λ q. noted_none _ _ q c.args.place _)

pub loop-page-preserved : goal.loop-page-preserved
loop-page-preserved c =
    let stop : pages_to c.args.size c.args.place c.args.words ≡ c.min-page-end.result + 1 = sym (ap (λ x. x + 1) (c.min-page-end.ensures ∙ ap (λ x. min (x / c.args.size) 63) c.saturating_add-2.ensures)) in
    (c.loop-page.invariant.0, noted_more c.loop-page.space.crossing _ _ c.loop-page.page c.args.place (λ q. get_or c.args.space.now.crossing q 0) (search rules) c.loop-page.auto.page (omega arith) c.loop-page.invariant.1)

pub returns : goal.returns
returns c =
    let size = c.args.size in
    let a = c.args.place in
    let n = c.args.words in
    let f : ℕ → ℕ = λ q. get_or c.args.space.now.crossing q 0 in
    let first : c.saturating_add.result / size ≡ first_from size a = ap (λ x. x / size) c.saturating_add.ensures in
    let stop : pages_to size a n ≡ c.min-page-end.result + 1 = sym (ap (λ x. x + 1) (c.min-page-end.ensures ∙ ap (λ x. min (x / size) 63) c.saturating_add-2.ensures)) in
    let past : pages_to size a n ≤ c.loop-page.page = omega arith in
    λ i. record {
      copy_end = c.loop-page.invariant.0 i;
      crossing = λ q. (c.loop-page.invariant.1 q ∙ ap (λ x. cond (noted x (pages_to size a n) c.loop-page.page q) a (f q)) first ∙ ap (λ b. cond b a (f q)) (noted_all size a n c.loop-page.page q (omega arith) (omega arith) (omega arith) (omega arith) past)) i;
    }
