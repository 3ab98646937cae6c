-- How many arguments a quotient has, and numbers other than 0.
use Rattle.std.proofs.Common.{◌≡◌, ◌≢◌, ℕ, zero, suc, ◌<◌, ℤ, pos, negsuc, ne_eqb, List, [], ◌∷◌, length, refl, false, map, slice_index_or, arith}
use Rattle.smt_meaning.specs.Term.{Tree, int_eq}
use Rattle.smt_meaning.specs.TreeShape.{is_quotient, has_quotient}
use Rattle.smt_meaning.specs.Sorts.{trees_of}
use Rattle.elaborate.specs.declared.value.Value.{Value}
use Rattle.elaborate.specs.Values.{typed, IsValue, AreValues}

pub no_quotient : (ts : List Tree) (vs : List Value) → length vs ≢ 2 → false ≡ is_quotient (trees_of (map (typed ts) vs))
no_quotient ts [] h = refl
no_quotient ts (u ∷ []) h = refl
no_quotient ts (u ∷ v ∷ []) h = absurd (h refl)
no_quotient ts (u ∷ v ∷ w ∷ vs) h = refl

pub no_quotient_beside : (ts : List Tree) (vs : List Value) → length vs ≢ 3 → false ≡ has_quotient (trees_of (map (typed ts) vs))
no_quotient_beside ts [] h = refl
no_quotient_beside ts (u ∷ []) h = refl
no_quotient_beside ts (u ∷ v ∷ []) h = refl
no_quotient_beside ts (u ∷ v ∷ w ∷ []) h = absurd (h refl)
no_quotient_beside ts (u ∷ v ∷ w ∷ x ∷ vs) h = refl

pub value_within : (ts : List Tree) (vs : List Value) (i : ℕ) (d : Value) → AreValues ts vs → i < length vs → IsValue ts (slice_index_or vs i d)
value_within ts [] i d h k = absurd (omega arith)
value_within ts (v ∷ vs) zero d h k = h.0
value_within ts (v ∷ vs) (suc i) d h k = value_within ts vs i d h.1 (omega arith)

pub not_zero : (n : ℤ) → n ≢ pos 0 → int_eq n (pos 0) ≡ false
not_zero (pos zero) h = absurd (h refl)
not_zero (pos (suc n)) h = ne_eqb (suc n) 0 (λ k. omega arith)
not_zero (negsuc n) h = refl
