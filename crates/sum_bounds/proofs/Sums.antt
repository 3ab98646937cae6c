-- Sums with a positive first coefficient, and lists of summands.
use Rattle.std.proofs.Common.{◌≡◌, ℕ, zero, suc, ◌<◌, Bool, true, false, List, [], ◌∷◌, map, length, get_or, ap, ap₂, refl, arith}
use Rattle.fraction128.specs.declared.Summand.{Summand}
use Rattle.fraction128.specs.Grid.{is_turned, turned}
use Rattle.sum_bounds.specs.Written.{turned_summand}

each_same : (ps : List Summand) → map (turned_summand false) ps ≡ ps
each_same [] = refl
each_same (p ∷ ps) = ap (λ qs. p ∷ qs) (each_same ps)

pub turned_is : (ps : List Summand) → map (turned_summand (is_turned ps)) ps ≡ turned ps
turned_is ps = by (is_turned ps) refl
  where
    by : (b : Bool) → is_turned ps ≡ b → map (turned_summand (is_turned ps)) ps ≡ turned ps
    by true e = rw e refl
    by false e = rw e (each_same ps)

-- lists of one length with the same elements are the same
pub same_lists : {A : Type 0} (xs ys : List A) → length xs ≡ length ys → ((k : ℕ) (d : A) → k < length xs → get_or xs k d ≡ get_or ys k d) → xs ≡ ys
same_lists [] [] e h = refl
same_lists [] (y ∷ ys) e h = absurd (omega (arith, e))
same_lists (x ∷ xs) [] e h = absurd (omega (arith, e))
same_lists {A = A} (x ∷ xs) (y ∷ ys) e h =
    ap₂ (λ (a : A) (bs : List A). a ∷ bs) (h zero x (omega arith)) (same_lists xs ys (omega (arith, e)) (λ k d lt. h (suc k) d (omega (arith, lt))))
