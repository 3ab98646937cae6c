-- Floors of values that aren't whole lie well inside the range; and what two sides of a branch say.
use Rattle.std.proofs.Common.{◌≡◌, ℕ, ◌+◌, ◌*◌, ◌<◌, ◌≤◌, ◌^◌, ℤ, pos, negsuc, ◌+ℤ◌, ◌-ℤ◌, ◌*ℤ◌, ◌≤ℤ◌, neg_ℤ, unsigned_abs, Bool, true, false, not, ◌||◌, [], ◌∷◌, sym, ap, ap₂, ◌∙◌, subst, refl, arith}
use Rattle.std.specs.Prelude.{int_le}
use Rattle.std.proofs.lemmas.Int.{ints}
use Rattle.std.proofs.Math.Nat.{mul-le-mul_left}
use Rattle.fraction128.specs.Gcd.{gcd_of}
use Rattle.fraction128.specs.Whole.{InRange}
use Rattle.smt_meaning.specs.declared.clauses.Atom.TheVariants.{AtMost}
use Rattle.smt_meaning.specs.Term.{Interpretation, number_of}
use Rattle.smt_meaning.specs.Clause.{atom_true, value_at}
use Rattle.smt_meaning.specs.Atoms.{divided}
use Rattle.search_port.specs.State.{truth}
use Rattle.int_branch.specs.Branch.{multiple, other_number, AreNormal, OneHolds, BranchesAreValid}

-- ---- the floor and the next number

half : (m d n : ℕ) → 2 ≤ d → m * d ≤ n → 2 * m ≤ n
half m d n two le = let twice : m * 2 ≤ m * d = mul-le-mul_left m two in omega (arith, twice, le)

pub next_in_range : (k n : ℤ) (d : ℕ) → 2 ≤ d → (k *ℤ pos d) ≤ℤ n → InRange k → InRange n → InRange (k +ℤ pos 1)
next_in_range (negsuc m) n d two low kin nin =
    let e : unsigned_abs (negsuc m +ℤ pos 1) ≡ m = omega (arith, ints) in
    subst (λ x. x < 2 ^ 127) (sym e) (omega (arith, kin))
next_in_range (pos m) (pos n) d two low kin nin =
    let le : m * d ≤ n = omega (arith, ints, low) in
    let h : 2 * m ≤ n = half m d n two le in
    let g : m + 1 < 2 ^ 127 = omega (arith, h, nin) in g
next_in_range (pos m) (negsuc n) d two low kin nin = absurd (omega (arith, ints, low))

-- ---- sides

one_side : (x k : ℤ) → int_le (negsuc 0 *ℤ x +ℤ pos 0) (neg_ℤ k -ℤ pos 1) ≡ not (int_le (pos 1 *ℤ x +ℤ pos 0) k)
one_side x k = grind (arith, ints)

pub one_holds : OneHolds
one_holds ts I term k = one_side (number_of (value_at ts I term)) k

either : (a b : Bool) → b ≡ not a → (a || (b || false)) ≡ true
either true b e = refl
either false b e = ap (λ c. c || false) e

neither : (a b : Bool) → b ≡ not a → (not a || (not b || false)) ≡ true
neither false b e = refl
neither true b e = ap (λ c. not c || false) e

pub branches_valid : BranchesAreValid
branches_valid r level m n term k is_below is_above = (
  λ I h. either (truth r I m) (truth r I n) (sides I),
  λ I h. neither (truth r I m) (truth r I n) (sides I),
)
  where
    sides : (I : Interpretation) → truth r I n ≡ not (truth r I m)
    sides I = ap (atom_true r.trees I) is_above ∙ one_holds r.trees I term k ∙ ap (λ a. not (atom_true r.trees I a)) (sym is_below)

-- ---- normal forms

one_alone : gcd_of 1 0 ≡ 1
unfolding gcd_of
one_alone = refl

by_one : (k : ℤ) → divided k (pos 1) ≡ k
by_one (pos a) = ap pos (omega arith)
by_one (negsuc a) = ap negsuc (omega arith)

normal : (term : ℕ) (c k : ℤ) (g : ℕ) → g ≡ 1 → AtMost (record { coefficient = divided c (pos g); term = term } ∷ []) (divided k (pos g)) ≡ AtMost (multiple c term) k
normal term c k g e =
    ap (λ (n : ℕ). AtMost (record { coefficient = divided c (pos n); term = term } ∷ []) (divided k (pos n))) e
    ∙ ap₂ (λ (x y : ℤ). AtMost (record { coefficient = x; term = term } ∷ []) y) (by_one c) (by_one k)

pub are_normal : AreNormal
are_normal term k = (normal term (pos 1) k (gcd_of 1 0) one_alone, normal term (negsuc 0) (other_number k) (gcd_of 1 0) one_alone)
