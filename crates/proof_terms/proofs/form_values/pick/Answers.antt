use Rattle.std.proofs.Common.{◌<◌, sym, subst}
use Rattle.std.proofs.lemmas.List.Sorted.{All-permutation}
use Rattle.proof_terms.specs.FormValues.{IsPickOf}
use Rattle.proof_terms.proofs.FormOdd.{odd_part_permuted}
use Rattle.proof_terms.proofs.form_values.pick.Goals as goal

pub odd_part-requires-clause-parts : goal.odd_part-requires-clause-parts
odd_part-requires-clause-parts c = All-permutation (λ n. n < 2147483648) c.args.parts.numbers.now c.args.parts.sorted.now c.requires.parts.permutation c.requires.parts.numbers

pub returns-in-Xor : goal.returns-in-Xor
returns-in-Xor c =
    subst (λ o. IsPickOf o c.args.codes.now c.args.parts.numbers.now c.odd_part.result) (sym c.in-Xor.is)
    (odd_part_permuted c.args.codes.now c.args.parts.numbers.now c.args.parts.sorted.now c.odd_part.result c.requires.parts.permutation c.odd_part.ensures)
