-- The number that digits write.
use Rattle.std.proofs.Common.{◌≡◌, ℕ, ◌+◌, ◌-◌, ◌*◌, ◌^◌, ◌<◌, ◌≤◌, List, [], ◌∷◌, length, get_or, drop, ap, sym, subst, ◌∙◌, arith, false, nat_lt}
use Rattle.std.proofs.lemmas.Bool.Decides.{nat_tests}
use Rattle.std.proofs.lemmas.List.{get_or_default}
use Rattle.smt_meaning.specs.Sorts.{decimal, decimal_from, is_small}
use Rattle.elaborate.proofs.Flags.{drop_here}

grows : (n : ℕ) (cs : List ℕ) → n ≤ decimal_from n cs
grows n [] = omega arith
grows n (c ∷ cs) = omega (arith, grows (10 * n + (c - 48)) cs)

not_below : (m n : ℕ) → n ≤ m → nat_lt m n ≡ false
not_below m n h = grind (arith, nat_tests)

pub too_large : (cs : List ℕ) (i n : ℕ) → i < length cs → decimal cs ≡ decimal_from n (drop i cs) → 2 ^ 127 ≤ 10 * n + (get_or cs i 0 - 48) → is_small (decimal cs) ≡ false
too_large cs i n h e k =
    let next : decimal cs ≡ decimal_from (10 * n + (get_or cs i 0 - 48)) (drop (i + 1) cs) = e ∙ ap (decimal_from n) (drop_here cs i (get_or cs i 0) h (get_or_default cs i (get_or cs i 0) 0 h)) in
    let large : 10 * n + (get_or cs i 0 - 48) ≤ decimal_from (10 * n + (get_or cs i 0 - 48)) (drop (i + 1) cs) = grows (10 * n + (get_or cs i 0 - 48)) (drop (i + 1) cs) in
    not_below (decimal cs) (2 ^ 127) (subst (λ m. 2 ^ 127 ≤ m) (sym next) (omega (arith, large, k)))
