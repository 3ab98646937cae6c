use Rattle.std.proofs.Common.{◌∷◌, [], take, get_or, sym, subst}
use Rattle.std.proofs.lemmas.List.{take_more}
use Rattle.literals.specs.Signed.{Signed}
use Rattle.sum_bounds.specs.Splits.{AddsOther, AddsOthers}
use Rattle.sum_bounds.proofs.SplitLaws.{others_both}
use Rattle.sum_bounds.proofs.splits.put_others.Goals as goal

pub loop-literal-preserved : goal.loop-literal-preserved
loop-literal-preserved c =
    let before = c.args.clause.now.items in
    let ls = c.args.literals.now in
    let n = c.loop-literal.literal-index in
    let l = c.literal-item.result in
    let middle = c.loop-literal.clause.items in
    let now = c.put_other.new.clause.items in
    subst (λ xs. AddsOthers before xs now) (sym (take_more ls n l c.loop-literal-test.true))
    (others_both before (take n ls) middle (get_or ls n l ∷ []) now c.loop-literal.invariant (subst (λ (x : Signed). AddsOther middle x now) c.literal-item.is c.in_ok-put_other.ensures))
