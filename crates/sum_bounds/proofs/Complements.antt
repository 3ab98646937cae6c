-- Lists of complements, none twice.
use Rattle.std.proofs.Common.{◌≡◌, ◌≢◌, ℕ, ◌+◌, ◌<◌, ◌≤◌, ◌⊎◌, inl, inr, List, [], ◌∷◌, ◌++◌, length, get_or, sym, subst, ◌∙◌, arith}
use Rattle.std.specs.Prelude.{AllPairs, Contains}
use Rattle.std.proofs.lemmas.Bool.{cases_lt}
use Rattle.std.proofs.lemmas.List.{get_or_default}
use Rattle.std.proofs.lemmas.List.Elements.{Contains-append_left, Contains-push, Contains-push_cases}
use Rattle.std.proofs.lemmas.List.Quantifiers.{all_pairs_push}
use Rattle.literals.specs.Signed.{Signed}
use Rattle.sum_bounds.specs.Complements.{IsPut, IsClauseOf, complement}

pub put_new : (ls ms : List Signed) (l : Signed) → ms ≡ ls ++ l ∷ [] → (Contains ls l → ⊥) → IsPut ls l ms
put_new ls ms l e none =
    subst (IsPut ls l) (sym e) (record {
      keeps = λ m h. Contains-append_left ls (l ∷ []) m h;
      has = Contains-push ls l;
      only = λ m h. by m (Contains-push_cases ls l m h);
      once = λ h. all_pairs_push (λ (a b : Signed). a ≢ b) ls l h (λ k d lt same. none (k, lt, get_or_default ls k l d lt ∙ same));
    })
  where
    by : (m : Signed) → Contains ls m ⊎ (l ≡ m) → Contains ls m ⊎ (m ≡ l)
    by m (inl h) = inl h
    by m (inr h) = inr (sym h)

pub put_known : (ls ms : List Signed) (l : Signed) → ms ≡ ls → Contains ls l → IsPut ls l ms
put_known ls ms l e there = subst (IsPut ls l) (sym e) (record { keeps = λ m h. h; has = there; only = λ m h. inl h; once = λ h. h })

-- the complements of the first n words
pub record IsClauseTo (n : ℕ) (tags : List ℕ) (ls : List Signed) : Type 0 where
  pub each : (k : ℕ) → k < n → Contains ls (complement (get_or tags k 0))
  pub only : (l : Signed) → Contains ls l → (k : ℕ) × (k < n) × (l ≡ complement (get_or tags k 0))
  pub once : AllPairs (λ (a b : Signed). a ≢ b) ls

pub clause_none : (tags : List ℕ) → IsClauseTo 0 tags []
clause_none tags = record { each = λ k lt. absurd (omega (arith, lt)); only = λ l h. absurd (omega (arith, h.1)); once = λ i j d lt less. absurd (omega (arith, less)) }

pub clause_more : (n : ℕ) (tags : List ℕ) (ls ms : List Signed) → IsClauseTo n tags ls → IsPut ls (complement (get_or tags n 0)) ms → IsClauseTo (n + 1) tags ms
clause_more n tags ls ms c p = record {
  each = λ k lt. by k lt (cases_lt k n);
  only = λ l h. from l (p.only l h);
  once = p.once c.once;
}
  where
    by : (k : ℕ) → k < n + 1 → (k < n) ⊎ (n ≤ k) → Contains ms (complement (get_or tags k 0))
    by k lt (inl less) = p.keeps (complement (get_or tags k 0)) (c.each k less)
    by k lt (inr least) = let e : n ≡ k = omega arith in subst (λ i. Contains ms (complement (get_or tags i 0))) e p.has

    from : (l : Signed) → Contains ls l ⊎ (l ≡ complement (get_or tags n 0)) → (k : ℕ) × (k < n + 1) × (l ≡ complement (get_or tags k 0))
    from l (inl h) = let r = c.only l h in let lt = r.1 in (r.0, omega (arith, lt), r.2)
    from l (inr e) = (n, omega arith, e)

pub clause_all : (n : ℕ) (tags : List ℕ) (ls : List Signed) → n ≡ length tags → IsClauseTo n tags ls → IsClauseOf tags ls
clause_all n tags ls e c =
    record { each = λ k lt. c.each k (omega (arith, e, lt)); only = λ l h. let r = c.only l h in let lt = r.1 in (r.0, omega (arith, e, lt), r.2); once = c.once }
