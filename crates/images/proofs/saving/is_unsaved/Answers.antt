use Rattle.std.proofs.Common.{◌≡◌, false, length, sym, ◌∙◌, arith, rules}
use Rattle.std.proofs.lemmas.List.{get_or_past}
use Rattle.std.proofs.lemmas.Bool.{le-ltb, ltb-true}
use Rattle.images.proofs.saving.is_unsaved.Goals as goal

pub returns-else-page-lt64 : goal.returns-else-page-lt64
returns-else-page-lt64 c =
    let xs = c.args.unsaved.now in
    let long : length xs ≡ 64 = search rules in
    record {
      value = le-ltb c.args.page 64 (omega arith) ∙ sym (get_or_past xs c.args.page false (omega arith));
      few = λ e. ltb-true c.args.page 64 e;
    }
