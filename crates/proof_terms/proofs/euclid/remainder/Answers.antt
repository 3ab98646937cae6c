use Rattle.std.proofs.Common.{◌<◌, ◌≡◌, ◌∷◌, [], length, List, ℕ, All, sym, subst, arith}
use Rattle.std.specs.Prelude.{slice_index_or, MatchOption}
use Rattle.smt_meaning.specs.declared.terms.Head.TheVariants.{Theory}
use Rattle.smt_meaning.specs.declared.terms.Operator.TheVariants.{Divide, Modulo}
use Rattle.term_store.specs.Terms.{tree_with, IsPlace, IsNew}
use Rattle.proof_terms.specs.declared.euclid.Division.TheVariants.{Remainder}
use Rattle.proof_terms.specs.EuclidRows.{IsDivision, HasNoRows}
use Rattle.proof_terms.proofs.EuclidDivisions.{two_of, remainder_division, no_remainder}
use Rattle.proof_terms.proofs.euclid.remainder.Goals as goal

pub returns-in-Some-clause-ok : goal.returns-in-Some-clause-ok
returns-in-Some-clause-ok c = λ i.
    (let ts = c.args.terms.now.trees in
    let js = c.args.arguments.now in
    let a = slice_index_or js 0 0 in
    let n = slice_index_or js 1 0 in
    let q = c.in-Some.quotient in
    let size : length js ≡ 2 = c.if-arguments-ne2.false in
    let e : js ≡ a ∷ n ∷ [] = two_of js size in
    let below : All (λ j. j < length ts) js = subst (λ m. All (λ j. j < m) js) (sym c.requires.count) c.requires.arguments in
    let place : IsPlace ts q (tree_with ts (Theory Divide) js) =
    subst (λ o. MatchOption o (IsNew ts (tree_with ts (Theory Divide) js)) (λ k. IsPlace ts k (tree_with ts (Theory Divide) js))) c.in-Some.is c.in_ok-quotient.ensures.ok in
    subst (λ (xs : List ℕ). IsDivision ts i (Theory Modulo) xs (Remainder a n q)) (sym e)
    (remainder_division ts i a n q (below 0 0 (omega (arith, size))) (below 1 0 (omega (arith, size))) (subst (λ (xs : List ℕ). IsPlace ts q (tree_with ts (Theory Divide) xs)) e place)))

pub returns-in-None-clause-ok : goal.returns-in-None-clause-ok
returns-in-None-clause-ok c = λ i.
    (let ts = c.args.terms.now.trees in
    let js = c.args.arguments.now in
    let a = slice_index_or js 0 0 in
    let n = slice_index_or js 1 0 in
    let size : length js ≡ 2 = c.if-arguments-ne2.false in
    let e : js ≡ a ∷ n ∷ [] = two_of js size in
    let new : IsNew ts (tree_with ts (Theory Divide) js) =
    subst (λ o. MatchOption o (IsNew ts (tree_with ts (Theory Divide) js)) (λ k. IsPlace ts k (tree_with ts (Theory Divide) js))) c.in-None.is c.in_ok-quotient.ensures.ok in
    subst (λ (xs : List ℕ). HasNoRows ts i (Theory Modulo) xs) (sym e) (no_remainder ts i a n (subst (λ (xs : List ℕ). IsNew ts (tree_with ts (Theory Divide) xs)) e new)))
