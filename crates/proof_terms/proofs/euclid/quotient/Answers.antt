use Rattle.std.proofs.Common.{◌<◌, ◌≤◌, ◌≡◌, ◌∷◌, ◌++◌, [], length, List, ℕ, All, sym, subst, refl, arith}
use Rattle.std.specs.Prelude.{slice_index_or, MatchOption}
use Rattle.std.proofs.lemmas.List.{get_or_push, length_push}
use Rattle.smt_meaning.specs.declared.terms.Head.TheVariants.{Theory}
use Rattle.smt_meaning.specs.declared.terms.Operator.TheVariants.{Divide}
use Rattle.term_store.specs.Terms.{tree_with, IsPlace, IsNew}
use Rattle.proof_terms.specs.declared.euclid.Division.TheVariants.{Quotient}
use Rattle.proof_terms.specs.EuclidRows.{IsDivision, HasNoRows}
use Rattle.proof_terms.proofs.EuclidDivisions.{two_of, quotient_division, last_division, no_last}
use Rattle.proof_terms.proofs.euclid.quotient.Goals as goal

pub returns-then-arguments-eq2-clause-ok : goal.returns-then-arguments-eq2-clause-ok
returns-then-arguments-eq2-clause-ok c = λ i.
    (let ts = c.args.terms.now.trees in
    let js = c.args.arguments.now in
    let a = slice_index_or js 0 0 in
    let n = slice_index_or js 1 0 in
    let size : length js ≡ 2 = c.if-arguments-eq2.true in
    let below : All (λ j. j < length ts) js = subst (λ m. All (λ j. j < m) js) (sym c.requires.count) c.requires.arguments in
    subst (λ (xs : List ℕ). IsDivision ts i (Theory Divide) xs (Quotient a n)) (sym (two_of js size))
    (quotient_division ts i a n (below 0 0 (omega (arith, size))) (below 1 0 (omega (arith, size)))))

pub returns-in-Some-2-clause-ok : goal.returns-in-Some-2-clause-ok
returns-in-Some-2-clause-ok c = λ i.
    (let ts = c.args.terms.now.trees in
    let js = c.args.arguments.now in
    let ks = c.in-Some.others.now in
    let n = c.in-Some.last.now in
    let a = c.in-Some-2.argument in
    let e : js ≡ ks ++ n ∷ [] = c.in-Some.ensures.cases.0 in
    let two : 2 ≤ length ks = let h = c.if-others-lt2.false in omega arith in
    let below : All (λ j. j < length ts) (ks ++ n ∷ []) = subst (All (λ j. j < length ts)) e (subst (λ m. All (λ j. j < m) js) (sym c.requires.count) c.requires.arguments) in
    let last : n < length ts = subst (λ z. z < length ts) (get_or_push ks n 0 (length ks) refl) (below (length ks) 0 (omega (arith, length_push ks n))) in
    let place : IsPlace ts a (tree_with ts (Theory Divide) ks) =
    subst (λ o. MatchOption o (IsNew ts (tree_with ts (Theory Divide) ks)) (λ k. IsPlace ts k (tree_with ts (Theory Divide) ks))) c.in-Some-2.is c.in_ok-argument.ensures.ok in
    subst (λ (xs : List ℕ). IsDivision ts i (Theory Divide) xs (Quotient a n)) (sym e) (last_division ts i a n ks last two place))

pub returns-in-None-clause-ok : goal.returns-in-None-clause-ok
returns-in-None-clause-ok c = λ i.
    (let ts = c.args.terms.now.trees in
    let js = c.args.arguments.now in
    let ks = c.in-Some.others.now in
    let n = c.in-Some.last.now in
    let e : js ≡ ks ++ n ∷ [] = c.in-Some.ensures.cases.0 in
    let two : 2 ≤ length ks = let h = c.if-others-lt2.false in omega arith in
    let new : IsNew ts (tree_with ts (Theory Divide) ks) =
    subst (λ o. MatchOption o (IsNew ts (tree_with ts (Theory Divide) ks)) (λ k. IsPlace ts k (tree_with ts (Theory Divide) ks))) c.in-None.is c.in_ok-argument.ensures.ok in
    subst (λ (xs : List ℕ). HasNoRows ts i (Theory Divide) xs) (sym e) (no_last ts i n ks two new))
