use Rattle.std.proofs.Common.{◌<◌, length, Err, ap, sym, subst}
use Rattle.fraction128.proofs.Integers.{same_bits}
use Rattle.linear_forms.specs.Folding.{form_of}
use Rattle.linear_forms.specs.Entries.{knowns}
use Rattle.linear_forms.specs.Differences.{IsDifference}
use Rattle.linear_forms.proofs.FoldLemmas.{form_constant}
use Rattle.linear_forms.proofs.TableLemmas.{length-knowns}
use Rattle.linear_forms.proofs.DifferenceLemmas.{sums_when_known, is_difference, pair_outside}
use Rattle.linear_forms.proofs.differences.difference.Goals as goal

pub subtract-requires-clause-sums : goal.subtract-requires-clause-sums
subtract-requires-clause-sums c =
    let known = knowns c.args.all.now c.args.entries.now in
    let size = length-knowns c.args.all.now c.args.entries.now in
    sums_when_known known c.args.left c.args.right (length c.args.entries.now) c.requires.known
    (subst (λ n. c.args.left < n) (sym size) c.requires.left) (subst (λ n. c.args.right < n) (sym size) c.requires.right) c.in_default.ensures.none (sym size)

pub returns-in-Ok-clause-ok : goal.returns-in-Ok-clause-ok
returns-in-Ok-clause-ok c = λ trees h.
    let known = knowns c.args.all.now c.args.entries.now in
    let size = length-knowns c.args.all.now c.args.entries.now in
    let f = form_of c.subtract.new.sum.items c.in-Ok.constant in
    let d : IsDifference trees c.args.left c.args.right f =
    is_difference trees known h c.args.left c.args.right (subst (λ n. c.args.left < n) (sym size) c.requires.left) (subst (λ n. c.args.right < n) (sym size) c.requires.right)
    c.in_default.ensures.none f c.in-Ok.ensures.fits c.in-Ok.ensures.ok in
    subst (λ z. IsDifference trees c.args.left c.args.right (form_of c.subtract.new.sum.items z)) (sym (same_bits c.in-Ok.constant (form_constant f d.ranges))) d

pub returns-in-Err-Range-clause-err : goal.returns-in-Err-Range-clause-err
returns-in-Err-Range-clause-err c = λ trees h.
    let size = length-knowns c.args.all.now c.args.entries.now in
    pair_outside trees (knowns c.args.all.now c.args.entries.now) h c.args.left c.args.right (subst (λ n. c.args.left < n) (sym size) c.requires.left)
    (subst (λ n. c.args.right < n) (sym size) c.requires.right) c.in_default.ensures.none (c.in-Err-Range.ensures.range (ap Err c.in-Err-Range.field-0-is))
