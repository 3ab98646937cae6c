use Rattle.std.proofs.Common.{sym, subst, inl}
use Rattle.std.specs.List.Sorted.{IsNonDecreasing}
use Rattle.std.proofs.lemmas.List.Sorted.{IsNonDecreasingBy-from_sort, IsPermutation-sym}
use Rattle.proof_terms.proofs.FormLists.{permuted_to, all_among}
use Rattle.proof_terms.proofs.form_values.is_valid.Goals as goal

pub are_among-requires : goal.are_among-requires
are_among-requires c = subst IsNonDecreasing (sym c.deref.ensures.value) (IsNonDecreasingBy-from_sort (λ x. x) c.sort_unstable.new.self.items c.sort_unstable.ensures.sorted)

pub returns-then-not-are_among-clause-no : goal.returns-then-not-are_among-clause-no
returns-then-not-are_among-clause-no c =
    let p = permuted_to c.args.numbers.now c.in_ok-sorted.sorted.items c.sort_unstable.new.self.items c.deref.result.now c.in_ok-sorted.ensures.items c.sort_unstable.ensures.permutation c.deref.ensures.value in
    λ _. inl (λ all. c.are_among.ensures.no c.if-not-are_among.true (all_among c.args.own c.args.numbers.now c.deref.result.now c.args.codes.now p all))

pub is_always-requires-clause-parts : goal.is_always-requires-clause-parts
is_always-requires-clause-parts c = record {
  numbers = c.requires.numbers;
  permutation = permuted_to c.args.numbers.now c.in_ok-sorted.sorted.items c.sort_unstable.new.self.items c.deref-2.result.now c.in_ok-sorted.ensures.items c.sort_unstable.ensures.permutation c.deref-2.ensures.value;
  ascending = subst IsNonDecreasing (sym c.deref-2.ensures.value) (IsNonDecreasingBy-from_sort (λ x. x) c.sort_unstable.new.self.items c.sort_unstable.ensures.sorted);
}

pub returns-clause-among : goal.returns-clause-among
returns-clause-among c =
    let p = permuted_to c.args.numbers.now c.in_ok-sorted.sorted.items c.sort_unstable.new.self.items c.deref.result.now c.in_ok-sorted.ensures.items c.sort_unstable.ensures.permutation c.deref.ensures.value in
    λ _. all_among c.args.own c.deref.result.now c.args.numbers.now c.args.codes.now (IsPermutation-sym c.args.numbers.now c.deref.result.now p) (c.are_among.ensures.yes c.if-not-are_among.false)
