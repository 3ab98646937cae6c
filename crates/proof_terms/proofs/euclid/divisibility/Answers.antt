use Rattle.std.proofs.Common.{◌<◌, ◌≡◌, ◌∙◌, [], length, List, ℕ, All, sym, ap, subst, arith}
use Rattle.std.specs.Prelude.{slice_index_or, MatchOption}
use Rattle.smt_meaning.specs.declared.terms.Head.{Head}
use Rattle.smt_meaning.specs.declared.terms.Head.TheVariants.{Numeral}
use Rattle.term_store.specs.Terms.{tree_with, IsPlace, IsNew}
use Rattle.proof_terms.specs.Terms.{ProofTerms}
use Rattle.proof_terms.specs.EuclidRows.{IsDivisionOrNone, HasNoRows, IsByNumeral}
use Rattle.proof_terms.proofs.TermBounds.{if_ok}
use Rattle.proof_terms.proofs.EuclidDivisions.{one_of, by_numeral_is, no_numeral}
use Rattle.proof_terms.proofs.euclid.divisibility.Goals as goal

pub by_numeral-requires-clause-numeral : goal.by_numeral-requires-clause-numeral
by_numeral-requires-clause-numeral c =
    let ts = c.args.terms.now.trees in
    let head = c.args.head in
    let place : IsPlace ts c.in-Some.numeral (tree_with ts head []) =
    subst (λ o. MatchOption o (IsNew ts (tree_with ts head [])) (λ k. IsPlace ts k (tree_with ts head []))) c.in-Some.is c.in_ok-numeral.ensures.ok in
    subst (λ (s : ProofTerms). c.in-Some.numeral < length s.nodes) (sym c.term_with.ensures.same) (let within = place.0 in let count = c.requires.count in omega arith)

pub returns-in-Some-clause-ok : goal.returns-in-Some-clause-ok
returns-in-Some-clause-ok c = λ i n is.
    (let ts = c.args.terms.now.trees in
    let js = c.args.arguments.now in
    let head = c.args.head in
    let a = slice_index_or js 0 0 in
    let m = c.in-Some.numeral in
    let size : length js ≡ 1 = c.if-arguments-ne1.false in
    let below : All (λ j. j < length ts) js = subst (λ m. All (λ j. j < m) js) (sym c.requires.count) c.requires.arguments in
    let place : IsPlace ts m (tree_with ts head []) =
    subst (λ o. MatchOption o (IsNew ts (tree_with ts head [])) (λ k. IsPlace ts k (tree_with ts head []))) c.in-Some.is c.in_ok-numeral.ensures.ok in
    if_ok c.by_numeral.result _ _ c.by_numeral.ensures.ok (λ o s.
    subst (λ (h : Head). IsDivisionOrNone ts i h js o) (sym is)
    (subst (λ (xs : List ℕ). IsDivisionOrNone ts i (Numeral n) xs o) (sym (one_of js size))
    (by_numeral_is ts i a m n (place.1 ∙ ap (λ h. tree_with ts h []) is) o (below 0 0 (omega (arith, size))) place.0 (subst (λ (t : ProofTerms). IsByNumeral t.trees a m o) c.term_with.ensures.same s)))))

pub returns-in-None-clause-ok : goal.returns-in-None-clause-ok
returns-in-None-clause-ok c = λ i n is.
    (let ts = c.args.terms.now.trees in
    let js = c.args.arguments.now in
    let head = c.args.head in
    let a = slice_index_or js 0 0 in
    let size : length js ≡ 1 = c.if-arguments-ne1.false in
    let new : IsNew ts (tree_with ts head []) =
    subst (λ o. MatchOption o (IsNew ts (tree_with ts head [])) (λ k. IsPlace ts k (tree_with ts head []))) c.in-None.is c.in_ok-numeral.ensures.ok in
    subst (λ (h : Head). HasNoRows ts i h js) (sym is)
    (subst (λ (xs : List ℕ). HasNoRows ts i (Numeral n) xs) (sym (one_of js size))
    (no_numeral ts i c.args.terms.now.declared c.args.terms.now.nodes c.len-count.ensures.terms a n (subst (λ (h : Head). IsNew ts (tree_with ts h [])) is new))))
