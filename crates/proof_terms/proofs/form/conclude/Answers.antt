use Rattle.std.proofs.Common.{Ok, ap, sym, subst, refl}
use Rattle.std.specs.List.Sorted.{IsNonDecreasing}
use Rattle.std.proofs.lemmas.List.Sorted.{IsNonDecreasingBy-from_sort}
use Rattle.proof_terms.proofs.FormLists.{permuted_to}
use Rattle.proof_terms.proofs.FormLifting.{concluded_right, concluded_wrong, codes_permuted}
use Rattle.proof_terms.proofs.form.conclude.Goals as goal

pub is_valid-requires-clause-codes : goal.is_valid-requires-clause-codes
is_valid-requires-clause-codes c = subst IsNonDecreasing (sym c.deref.ensures.value) (IsNonDecreasingBy-from_sort (λ x. x) c.sort_unstable.new.self.items c.sort_unstable.ensures.sorted)

pub returns-then-not-branch : goal.returns-then-not-branch
returns-then-not-branch c = λ ls parts coded numbers t.
    concluded_wrong c.args.clauses.now.atoms c.args.codes.now.items c.deref.result.now c.args.own c.args.place c.args.numbers.now c.args.connective ls parts c.len-count.ensures.apart c.requires.own
    (permuted_to c.args.codes.now.items c.args.codes.now.items c.sort_unstable.new.self.items c.deref.result.now refl c.sort_unstable.ensures.permutation c.deref.ensures.value)
    (c.in_ok-is_valid.ensures.no (ap Ok c.if-not-branch.true)) coded numbers t

pub returns : goal.returns
returns c = λ ls parts coded numbers. (
  concluded_right c.args.clauses.now.atoms c.args.codes.now.items c.deref.result.now c.args.own c.args.place c.args.numbers.now c.args.connective ls parts c.requires.own
      (permuted_to c.args.codes.now.items c.args.codes.now.items c.sort_unstable.new.self.items c.deref.result.now refl c.sort_unstable.ensures.permutation c.deref.ensures.value)
      (c.in_ok-is_valid.ensures.among (ap Ok c.if-not-branch.false)) (c.in_ok-is_valid.ensures.always (ap Ok c.if-not-branch.false)) coded numbers,
  record {
    keeps = λ before k.
        c.in_ok-keep.ensures.kept before ls k (codes_permuted c.args.clauses.now.atoms c.args.codes.now.items c.sort_unstable.new.self.items ls c.sort_unstable.ensures.permutation coded);
  },
)
