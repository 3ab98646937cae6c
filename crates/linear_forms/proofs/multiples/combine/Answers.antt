use Rattle.std.proofs.Common.{length, Err, ap, sym, subst}
use Rattle.fraction128.proofs.Integers.{same_bits}
use Rattle.linear_forms.specs.Folding.{form_of}
use Rattle.linear_forms.specs.Entries.{knowns}
use Rattle.linear_forms.specs.Multiples.{AreMultiples, IsCombination}
use Rattle.linear_forms.proofs.FoldLemmas.{form_constant}
use Rattle.linear_forms.proofs.TableLemmas.{length-knowns}
use Rattle.linear_forms.proofs.MultipleLemmas.{sums_when_all_known, is_combination, together}
use Rattle.linear_forms.proofs.multiples.combine.Goals as goal

pub combine_known-requires-clause-sums : goal.combine_known-requires-clause-sums
combine_known-requires-clause-sums c =
    let known = knowns c.args.all.now c.args.entries.now in
    let size = length-knowns c.args.all.now c.args.entries.now in
    sums_when_all_known known c.args.multiples.now (length c.args.entries.now) c.requires.known
    (subst (λ n. AreMultiples n c.args.multiples.now) (sym size) c.requires.multiples) c.in_default.ensures.none (sym size)

pub returns-in-Ok-clause-ok : goal.returns-in-Ok-clause-ok
returns-in-Ok-clause-ok c = λ trees h.
    let known = knowns c.args.all.now c.args.entries.now in
    let size = length-knowns c.args.all.now c.args.entries.now in
    let f = form_of c.combine_known.new.sum.items c.in-Ok.constant in
    let d : IsCombination trees c.args.multiples.now f =
    is_combination trees known h c.args.multiples.now (subst (λ n. AreMultiples n c.args.multiples.now) (sym size) c.requires.multiples) c.in_default.ensures.none f c.in-Ok.ensures.ok in
    subst (λ z. IsCombination trees c.args.multiples.now (form_of c.combine_known.new.sum.items z)) (sym (same_bits c.in-Ok.constant (form_constant f d.ranges))) d

pub returns-in-Err-Range-clause-err : goal.returns-in-Err-Range-clause-err
returns-in-Err-Range-clause-err c = λ trees h.
    let size = length-knowns c.args.all.now c.args.entries.now in
    together trees (knowns c.args.all.now c.args.entries.now) h c.args.multiples.now (subst (λ n. AreMultiples n c.args.multiples.now) (sym size) c.requires.multiples)
    c.in_default.ensures.none (c.in-Err-Range.ensures.range (ap Err c.in-Err-Range.field-0-is))
