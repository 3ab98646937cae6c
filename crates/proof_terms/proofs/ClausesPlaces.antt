-- Clauses by their rows, and a clause more.
use Rattle.std.proofs.Common.{◌≡◌, ℕ, ◌<◌, List, [], ◌∷◌, ◌++◌, length, get_or, sym, ap, subst, ◌∙◌, arith}
use Rattle.std.specs.Prelude.{All, Result, Ok, Err, OnOk, OnErr}
use Rattle.std.proofs.lemmas.List.{length-map, map-append}
use Rattle.std.proofs.lemmas.List.Elements.{All-push}
use Rattle.term_store.proofs.RowLemmas.{map_at}
use Rattle.proof_terms.specs.Kept.{AreAscending}
use Rattle.proof_terms.specs.ClausesLaid.{AllAscend, clauses_in}

pub length-clauses : (rows : List (Unit {0} × List ℕ)) → length (clauses_in rows) ≡ length rows
length-clauses rows = length-map rows (λ r. r.1)

pub clause_row : (rows : List (Unit {0} × List ℕ)) (k : ℕ) (is : List ℕ) → k < length rows → ((r : Unit {0} × List ℕ) → (get_or rows k r).1 ≡ is) → get_or (clauses_in rows) k [] ≡ is
clause_row rows k is short same = map_at (λ r. r.1) rows k [] (tt, is) short ∙ same (tt, is)

pub clause_ascends : (rows : List (Unit {0} × List ℕ)) (k : ℕ) (is : List ℕ) → AllAscend rows → k < length rows → ((r : Unit {0} × List ℕ) → (get_or rows k r).1 ≡ is) → AreAscending is
clause_ascends rows k is all short same = subst AreAscending (clause_row rows k is short same) (all k [] (omega (arith, length-clauses rows)))

pub clauses_push : (rows : List (Unit {0} × List ℕ)) (is : List ℕ) → clauses_in (rows ++ (tt, is) ∷ []) ≡ clauses_in rows ++ is ∷ []
clauses_push rows is = map-append (λ r. r.1) rows ((tt, is) ∷ [])

-- ---- by what adding it came to

module _ (rows : List (Unit {0} × List ℕ)) (is : List ℕ) where
  pub ascend_after : {E : Type 0} → AllAscend rows → AreAscending is → (longer : List (Unit {0} × List ℕ)) (r : Result (Unit {0}) E) → OnOk r (longer ≡ rows ++ (tt, is) ∷ []) → OnErr r (longer ≡ rows) → AllAscend longer
  ascend_after all up longer (Ok x) e f =
      subst (λ (css : List (List ℕ)). All AreAscending css) (sym (ap clauses_in e ∙ clauses_push rows is)) (All-push AreAscending (clauses_in rows) is all up)
  ascend_after all up longer (Err x) e f = subst AllAscend (sym f) all

  pub appended : {E : Type 0} → (longer : List (Unit {0} × List ℕ)) (r : Result (Unit {0}) E) → OnOk r (longer ≡ rows ++ (tt, is) ∷ []) → OnOk r (clauses_in longer ≡ clauses_in rows ++ is ∷ [])
  appended longer (Ok x) e = ap clauses_in e ∙ clauses_push rows is
  appended longer (Err x) e = e
