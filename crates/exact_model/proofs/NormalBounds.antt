-- A normal bound is true of numbers exactly where the bound is.
use Rattle.std.proofs.Common.{◌≡◌, ℕ, zero, suc, ◌+◌, ◌<◌, ◌≤◌, Bool, false, List, [], ◌∷◌, All, refl, sym, ap, ap₂, ◌∙◌, arith}
use Rattle.std.specs.Prelude.{ℤ, pos, ◌+ℤ◌, ◌-ℤ◌, ◌*ℤ◌, ◌≤ℤ◌, int_le}
use Rattle.std.proofs.lemmas.Int.{ints}
use Rattle.std.proofs.lemmas.List.Elements.{All-nil, All-cons, All-head, All-tail}
use Rattle.smt_meaning.specs.declared.values.Value.TheVariants.{Truth as TruthValue}
use Rattle.smt_meaning.specs.declared.terms.Head.TheVariants.{Numeral}
use Rattle.smt_meaning.specs.declared.clauses.Summand.{Summand}
use Rattle.smt_meaning.specs.declared.clauses.Atom.{Atom}
use Rattle.smt_meaning.specs.declared.clauses.Atom.TheVariants.{Truth, AtMost, Same}
use Rattle.smt_meaning.specs.Term.{Tree, node, none, tree_at, Interpretation, value, number_of}
use Rattle.smt_meaning.specs.Clause.{sum_value}
use Rattle.smt_meaning.specs.Atoms.{sum_gcd, divided, each_divided, normal_bound}
use Rattle.smt_meaning.specs.Ranges.{sum_at}
use Rattle.smt_laws.proofs.BoundLaw.{normal_bound_value}
use Rattle.bound_clauses.proofs.Whole.{same_bool, le_true, true_le}

-- ---- numbers as the values of numerals

numerals : (ℕ → ℤ) → ℕ → ℕ → List Tree
numerals w k zero = []
numerals w k (suc n) = node (Numeral (w k)) none ∷ numerals w (suc k) n

numeral_at : (w : ℕ → ℤ) (k n i : ℕ) → i < n → tree_at (numerals w k n) i ≡ node (Numeral (w (k + i))) none
unfolding numerals
numeral_at w k zero i h = absurd (omega (arith, h))
numeral_at w k (suc n) zero h = ap (λ j. node (Numeral (w j)) none) (omega arith)
numeral_at w k (suc n) (suc i) h = numeral_at w (suc k) n i (omega (arith, h)) ∙ ap (λ j. node (Numeral (w j)) none) (omega arith)

-- a number above the terms of a sum
above : List Summand → ℕ
above [] = 0
above (s ∷ sum) = suc (s.term + above sum)

all_above : (n : ℕ) (sum : List Summand) → above sum ≤ n → All (λ (s : Summand). s.term < n) sum
unfolding above
all_above n [] h = All-nil (λ (s : Summand). s.term < n)
all_above n (s ∷ sum) h = All-cons (λ (r : Summand). r.term < n) s sum (omega (arith, h)) (all_above n sum (omega (arith, h)))

divided_above : (g : ℤ) (sum : List Summand) → above (each_divided g sum) ≡ above sum
unfolding above
divided_above g [] = refl
divided_above g (s ∷ sum) = ap (λ n. suc (s.term + n)) (divided_above g sum)

any : Interpretation
any f vs = TruthValue false

sum_is : (w : ℕ → ℤ) (n : ℕ) (sum : List Summand) → All (λ (s : Summand). s.term < n) sum → sum_value (numerals w 0 n) any sum ≡ sum_at w sum
sum_is w n [] h = refl
sum_is w n (s ∷ sum) h =
    ap₂ (λ x y. s.coefficient *ℤ x +ℤ y)
    (ap (λ t. number_of (value any t)) (numeral_at w 0 n s.term (All-head (λ (r : Summand). r.term < n) s sum h)) ∙ ap w (omega arith)) (sum_is w n sum (All-tail (λ (r : Summand). r.term < n) s sum h))

-- ---- bounds

-- its sum is at most its threshold
abbrev pub bound_holds : (ℕ → ℤ) → Atom → Bool
bound_holds w (AtMost sum k) = int_le (sum_at w sum) k
bound_holds w (Truth p) = false
bound_holds w (Same i j) = false

pub normal_holds : (w : ℕ → ℤ) (sum : List Summand) (k : ℤ) → bound_holds w (normal_bound sum k) ≡ int_le (sum_at w sum) k
normal_holds w [] k = refl
normal_holds w (s ∷ sum) k =
    let g : ℤ = pos (sum_gcd (s ∷ sum)) in
    let n : ℕ = above (s ∷ sum) in
    ap (λ z. int_le z (divided k g)) (sym (sum_is w n (each_divided g (s ∷ sum)) (all_above n (each_divided g (s ∷ sum)) (let e = divided_above g (s ∷ sum) in omega (arith, e)))))
    ∙ normal_bound_value (numerals w 0 n) any (s ∷ sum) k ∙ ap (λ z. int_le z k) (sum_is w n (s ∷ sum) (all_above n (s ∷ sum) (omega arith)))

-- a constant on the other side
pub constant_moved : (s k c : ℤ) → int_le s (k -ℤ c) ≡ int_le (s +ℤ c) k
constant_moved s k c =
    same_bool (int_le s (k -ℤ c)) (int_le (s +ℤ c) k) (λ h. le_true (s +ℤ c) k (let i : s ≤ℤ (k -ℤ c) = true_le s (k -ℤ c) h in omega (arith, ints)))
    (λ h. le_true s (k -ℤ c) (let i : (s +ℤ c) ≤ℤ k = true_le (s +ℤ c) k h in omega (arith, ints)))
