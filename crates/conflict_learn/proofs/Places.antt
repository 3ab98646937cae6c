-- Lists of places of which none stands twice.
use Rattle.std.proofs.Common.{ℕ, List, [], ◌∷◌, ◌++◌, Contains, subst, sym, inl, inr}
use Rattle.std.proofs.lemmas.List.Elements.{Contains-push_cases}
use Rattle.conflict_learn.specs.Analysing.{AreApart}
use Rattle.clause_store.proofs.Filters.{none_in, in_head, in_tail}

pub AreApart-push : (ks : List ℕ) (p : ℕ) → AreApart ks → (Contains ks p → ⊥) → AreApart (ks ++ p ∷ [])
AreApart-push [] p h off = (none_in p, tt)
AreApart-push (k ∷ ks) p h off = (
  (λ c. elim (Contains-push_cases ks p k c) [ inl old ↦ h.0 old | inr e ↦ off (subst (Contains (k ∷ ks)) (sym e) (in_head k ks)) ]),
  AreApart-push ks p h.1 (λ c. off (in_tail k p ks c)),
)
