-- The row of a variable.
use Rattle.std.proofs.Common.{◌≡◌, ◌≢◌, ℕ, zero, suc, ◌<◌, sym, ap, ◌∙◌, refl, arith, List, [], ◌∷◌, length, Bool, true, false, cond, eqb, eqb-true, eq-eqb, Some, None}
use Rattle.fraction128.specs.declared.TableRow.{TableRow}
use Rattle.fraction128.specs.Grid.{row_of}
use Rattle.tableau.specs.Table.{row_at}

pub row_first : (rs : List TableRow) (k b : ℕ) → k < length rs → (row_at rs k).basic ≡ b → ((i : ℕ) → i < k → (row_at rs i).basic ≢ b) → row_of rs b ≡ Some (row_at rs k)
row_first [] k b lt is h = absurd (omega (arith, lt))
row_first (r ∷ rs) zero b lt is h = ap (λ t. cond t (Some r) (row_of rs b)) (eq-eqb r.basic b is)
row_first (r ∷ rs) (suc k) b lt is h = by_test (row_first rs k b (omega (arith, lt)) is (λ i l. h (suc i) (omega (arith, l)))) (eqb r.basic b) refl
  where
    by_test : row_of rs b ≡ Some (row_at rs k) → (t : Bool) → eqb r.basic b ≡ t → cond t (Some r) (row_of rs b) ≡ Some (row_at rs k)
    by_test rest true e = absurd (h zero (omega arith) (eqb-true r.basic b e))
    by_test rest false e = rest

pub row_none : (rs : List TableRow) (b : ℕ) → ((k : ℕ) → k < length rs → (row_at rs k).basic ≢ b) → row_of rs b ≡ None
row_none [] b h = refl
row_none (r ∷ rs) b h = by_test (row_none rs b (λ k lt. h (suc k) (omega (arith, lt)))) (eqb r.basic b) refl
  where
    by_test : row_of rs b ≡ None → (t : Bool) → eqb r.basic b ≡ t → cond t (Some r) (row_of rs b) ≡ None
    by_test rest true e = absurd (h zero (omega arith) (eqb-true r.basic b e))
    by_test rest false e = rest

pub row_some : (rs : List TableRow) (b : ℕ) (r : TableRow) → row_of rs b ≡ Some r → (k : ℕ) × (k < length rs) × (row_at rs k ≡ r) × ((row_at rs k).basic ≡ b)
row_some [] b r h = absurd (cc)
row_some (x ∷ rs) b r h = by_test (λ e. row_some rs b r e) (eqb x.basic b) refl h
  where
    by_test : (row_of rs b ≡ Some r → (k : ℕ) × (k < length rs) × (row_at rs k ≡ r) × ((row_at rs k).basic ≡ b))
        → (t : Bool) → eqb x.basic b ≡ t → cond t (Some x) (row_of rs b) ≡ Some r → (k : ℕ) × (k < length (x ∷ rs)) × (row_at (x ∷ rs) k ≡ r) × ((row_at (x ∷ rs) k).basic ≡ b)
    by_test rest true e w = (zero, omega arith, let z : x ≡ r = cc in z, eqb-true x.basic b e)
    by_test rest false e w = let q = rest w in (suc q.0, let l = q.1 in omega (arith, l), q.2, q.3)

pub row_lacks : (rs : List TableRow) (b : ℕ) → row_of rs b ≡ None → (k : ℕ) → k < length rs → (row_at rs k).basic ≢ b
row_lacks [] b h k lt = absurd (omega (arith, lt))
row_lacks (x ∷ rs) b h k lt = by_test (λ e i l. row_lacks rs b e i l) (eqb x.basic b) refl h k lt
  where
    by_test : (row_of rs b ≡ None → (i : ℕ) → i < length rs → (row_at rs i).basic ≢ b) → (t : Bool) → eqb x.basic b ≡ t → cond t (Some x) (row_of rs b) ≡ None
        → (k : ℕ) → k < length (x ∷ rs) → (row_at (x ∷ rs) k).basic ≢ b
    by_test rest true e w k lt q = absurd (cc)
    by_test rest false e w zero lt q = let z : true ≡ false = sym (eq-eqb x.basic b q) ∙ e in absurd (cc)
    by_test rest false e w (suc k) lt q = rest w k (omega (arith, lt)) q
