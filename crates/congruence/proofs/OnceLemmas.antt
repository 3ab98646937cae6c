-- Literals in the order of their codes, each once.
use Rattle.std.proofs.Common.{◌≡◌, ◌≢◌, ℕ, zero, suc, ◌<◌, ◌≤◌, Bool, true, false, nat_eq, List, [], ◌∷◌, All, get_or, refl, sym, ap, ◌∙◌, eq-eqb, arith}
use Rattle.std.specs.Prelude.{cond}
use Rattle.std.specs.Cmp.{IsEquivalence, on_equiv, nat_eq_equiv}
use Rattle.std.specs.List.{AllPairs, dedup, dedup_from}
use Rattle.std.specs.List.Sorted.{IsPermutation, IsNonDecreasingBy}
use Rattle.std.proofs.lemmas.Bool.{eqb-true}
use Rattle.std.proofs.lemmas.List.Filters.{All-dedup}
use Rattle.std.proofs.lemmas.List.Kept.{AllPairs-cons, Contains-dedup, Contains-from_dedup}
use Rattle.std.proofs.lemmas.List.Sorted.{Contains-permutation, IsPermutation-sym}
use Rattle.literals.specs.Signed.{Signed, packed}
use Rattle.congruence.specs.Reasons.{NoneTwice, AreEachOnce}

-- ---- codes

by_signs : (a b : ℕ) (p q : Bool) → let l : Signed = record { atom = a; positive = p } in let m : Signed = record { atom = b; positive = q } in packed l ≡ packed m → l ≡ m
by_signs a b true true e = let s : a ≡ b = omega arith in ap (λ (n : ℕ). let l : Signed = record { atom = n; positive = true } in l) s
by_signs a b false false e = let s : a ≡ b = omega arith in ap (λ (n : ℕ). let l : Signed = record { atom = n; positive = false } in l) s
by_signs a b true false e = absurd (omega arith)
by_signs a b false true e = absurd (omega arith)

same_code : (l m : Signed) → packed l ≡ packed m → l ≡ m
same_code l m e = by_signs l.atom m.atom l.positive m.positive e

abbrev pub have_one_code : Signed → Signed → Bool
have_one_code l m = nat_eq (packed l) (packed m)

-- ---- literals in order, of equal neighbours one alone

abbrev Below : Signed → Signed → Type 0
Below l m = packed l < packed m

without_second : (l m : Signed) (ms : List Signed) → IsNonDecreasingBy packed (l ∷ m ∷ ms) → IsNonDecreasingBy packed (l ∷ ms)
without_second l m ms up zero zero d le less = omega arith
without_second l m ms up zero (suc j) d le less = up 0 (suc (suc j)) d (omega arith) (omega arith)
without_second l m ms up (suc i) zero d le less = absurd (omega arith)
without_second l m ms up (suc i) (suc j) d le less = up (suc (suc i)) (suc (suc j)) d (omega arith) (omega arith)

without_first : (l : Signed) (ms : List Signed) → IsNonDecreasingBy packed (l ∷ ms) → IsNonDecreasingBy packed ms
without_first l ms up i j d le less = up (suc i) (suc j) d (omega arith) (omega arith)

all_above : (l m : Signed) (ms : List Signed) → IsNonDecreasingBy packed (l ∷ m ∷ ms) → have_one_code m l ≡ false → All (Below l) (m ∷ ms)
all_above l m ms up apart k d less =
    let first : packed l ≤ packed m = up 0 1 l (omega arith) (omega arith) in
    let later : packed m ≤ packed (get_or (m ∷ ms) k d) = up 1 (suc k) d (omega arith) (omega arith) in
    let ne : packed m ≢ packed l = λ e. never (sym apart ∙ eq-eqb (packed m) (packed l) e) in
    omega arith
  where
    never : false ≡ true → ⊥
    never e = cc

either : (b : Bool) (ls ms : List Signed) → (b ≡ true → AllPairs Below ls) → (b ≡ false → AllPairs Below ms) → AllPairs Below (cond b ls ms)
either true ls ms f g = f refl
either false ls ms f g = g refl

rises_from : (l : Signed) (ms : List Signed) → IsNonDecreasingBy packed (l ∷ ms) → AllPairs Below (dedup_from have_one_code l ms)
rises_from l [] up = λ i j d less within. absurd (omega arith)
rises_from l (m ∷ ms) up =
    either (have_one_code m l) (dedup_from have_one_code l ms) (l ∷ dedup_from have_one_code m ms)
    (λ _. rises_from l ms (without_second l m ms up))
    (λ apart. AllPairs-cons Below l (dedup_from have_one_code m ms) (All-dedup have_one_code (Below l) (m ∷ ms) (all_above l m ms up apart)) (rises_from m ms (without_first l (m ∷ ms) up)))

rises : (ls : List Signed) → IsNonDecreasingBy packed ls → AllPairs Below (dedup have_one_code ls)
rises [] up = λ i j d less within. absurd (omega arith)
rises (l ∷ ls) up = rises_from l ls up

none_twice : (ls : List Signed) → AllPairs Below ls → NoneTwice ls
none_twice ls up i j d less within e = let below : packed (get_or ls i d) < packed (get_or ls j d) = up i j d less within in let same : packed (get_or ls i d) ≡ packed (get_or ls j d) = ap packed e in omega arith

-- what a sort by the codes and a `dedup` leave
pub each_once_by : (ls ms : List Signed) → IsPermutation ls ms → IsNonDecreasingBy packed ms → AreEachOnce ls (dedup have_one_code ms)
each_once_by ls ms p up =
    let e : IsEquivalence have_one_code = on_equiv packed nat_eq_equiv in
    record {
      same = record {
        all = λ l c. Contains-dedup e (λ x y h. same_code x y (eqb-true (packed x) (packed y) h)) ms l (Contains-permutation ls ms l p c);
        only = λ l c. Contains-permutation ms ls l (IsPermutation-sym ls ms p) (Contains-from_dedup have_one_code ms l c);
      };
      once = none_twice (dedup have_one_code ms) (rises ms up);
    }
