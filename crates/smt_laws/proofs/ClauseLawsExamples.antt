-- Linear forms, normal bounds, the atoms of an assertion and the clauses of a node, on examples that were computed by hand.
use Rattle.std.proofs.Common.{◌≡◌, ℕ, ◌^◌, false, List, [], ◌∷◌, map, refl}
use Rattle.std.specs.Prelude.{ℤ, pos, negsuc}
use Rattle.fraction128.specs.Gcd.{gcd_of}
use Rattle.smt_meaning.specs.declared.values.Sort.{Sort}
use Rattle.smt_meaning.specs.declared.values.Sort.TheVariants.{Bool as Truths, Int as Ints}
use Rattle.smt_meaning.specs.declared.terms.Operator.{Operator}
use Rattle.smt_meaning.specs.declared.terms.Operator.TheVariants.{Equal, Distinct, Ite, Add, Subtract, Multiply, Less, AtLeast}
use Rattle.smt_meaning.specs.declared.terms.Head.TheVariants.{Numeral, Theory, Symbol}
use Rattle.smt_meaning.specs.Declaration.{Declaration}
use Rattle.smt_meaning.specs.declared.clauses.Atom.{Atom}
use Rattle.smt_meaning.specs.declared.clauses.Atom.TheVariants.{Truth, AtMost as Bound, Same}
use Rattle.smt_meaning.specs.Term.{Tree, Trees, node, none, more}
use Rattle.smt_meaning.specs.TreeShape.{with_parts}
use Rattle.smt_meaning.specs.Linear.{summand, linear_form, folding_fits}
use Rattle.smt_meaning.specs.Atoms.{normal_bound, at_most_atom, below_atom, atoms_of}
use Rattle.std.specs.Prelude.{None}

abbrev number : ℕ → Tree
number n = node (Numeral (pos n)) none

abbrev trees : List Tree → Trees
trees [] = none
trees (t ∷ ts) = more t (trees ts)

abbrev apply : Operator → List Tree → Tree
apply o ts = node (Theory o) (trees ts)

abbrev x : Tree
x = node (Symbol 0) none

abbrev y : Tree
y = node (Symbol 1) none

abbrev p : Tree
p = node (Symbol 2) none

-- ---- linear forms

-- 2 (x + 3) - y - 1 is 2 x - y + 5
sums : linear_form (x ∷ y ∷ []) (apply Subtract (apply Multiply (number 2 ∷ apply Add (x ∷ number 3 ∷ []) ∷ []) ∷ y ∷ number 1 ∷ [])) ≡ record { sum = summand 0 (pos 2) ∷ summand 1 (negsuc 0) ∷ []; constant = pos 5 }
sums = refl

-- x * (- 2) * 3 is -6 x
products : linear_form (x ∷ []) (apply Multiply (x ∷ apply Subtract (number 2 ∷ []) ∷ number 3 ∷ [])) ≡ record { sum = summand 0 (negsuc 5) ∷ []; constant = pos 0 }
products = refl

-- x - x has no summand, and 0 * x has none
nothing_left : map (linear_form (x ∷ [])) (apply Subtract (x ∷ x ∷ []) ∷ apply Multiply (number 0 ∷ x ∷ []) ∷ []) ≡ record { sum = []; constant = pos 0 } ∷ record { sum = []; constant = pos 0 } ∷ []
nothing_left = refl

-- 3 * 2^126 * x is past the range
past : folding_fits (x ∷ []) (apply Multiply (number 3 ∷ apply Multiply (number (2 ^ 126) ∷ x ∷ []) ∷ [])) ≡ false
past = refl

-- ---- normal bounds

-- 2 x <= 5 is x <= 2
halves : at_most_atom (x ∷ y ∷ []) (apply Multiply (number 2 ∷ x ∷ [])) (number 5) ≡ Bound (summand 0 (pos 1) ∷ []) (pos 2)
unfolding gcd_of
halves = refl

-- -2 x <= -5 is -x <= -3
minus_halves : normal_bound (summand 0 (negsuc 1) ∷ []) (negsuc 4) ≡ Bound (summand 0 (negsuc 0) ∷ []) (negsuc 2)
unfolding gcd_of
minus_halves = refl

-- 2 x - 2 y <= 1 is x - y <= 0
both : normal_bound (summand 0 (pos 2) ∷ summand 1 (negsuc 1) ∷ []) (pos 1) ≡ Bound (summand 0 (pos 1) ∷ summand 1 (negsuc 0) ∷ []) (pos 0)
unfolding gcd_of
both = refl

-- x < y is x - y <= -1
strict : below_atom (x ∷ y ∷ []) x y ≡ Bound (summand 0 (pos 1) ∷ summand 1 (negsuc 0) ∷ []) (negsuc 0)
unfolding gcd_of
strict = refl

-- 1 <= 0 keeps its empty sum
empty : at_most_atom [] (number 1) (number 0) ≡ Bound [] (negsuc 0)
unfolding gcd_of
empty = refl

divisor : gcd_of 84 36 ≡ 12
unfolding gcd_of
divisor = refl

-- ---- the atoms of an assertion

abbrev declared : ℕ → Sort → Declaration
declared id s = record { id = id; name = []; rank = record { arguments = []; result = s }; body = None; is_sort = false; is_name = false }

abbrev signature : List Declaration
signature = declared 0 Ints ∷ declared 1 Ints ∷ declared 2 Truths ∷ []

abbrev bound : ℤ → ℤ → ℤ → Atom
bound c d k = Bound (summand 0 c ∷ summand 1 d ∷ []) k

abbrev atoms : Tree → List Atom
atoms t = atoms_of (with_parts [] t) signature t

-- (= x y x): its truth, and the equality and both bounds of each neighbouring pair
chain : atoms (apply Equal (x ∷ y ∷ x ∷ []))
    ≡ Truth 2 ∷ Same 0 1 ∷ bound (pos 1) (negsuc 0) (pos 0) ∷ bound (negsuc 0) (pos 1) (pos 0) ∷ Same 1 0 ∷ bound (negsuc 0) (pos 1) (pos 0) ∷ bound (pos 1) (negsuc 0) (pos 0) ∷ []
unfolding gcd_of
chain = refl

-- (distinct p p p): its argument's truth and its own, and the equality of each pair
pairs : atoms (apply Distinct (p ∷ p ∷ p ∷ [])) ≡ Truth 0 ∷ Truth 0 ∷ Truth 0 ∷ Truth 1 ∷ Same 0 0 ∷ Same 0 0 ∷ Same 0 0 ∷ []
pairs = refl

-- (< x y) is x - y <= -1, and (>= x y) is y - x <= 0
comparisons : atoms (apply Less (x ∷ y ∷ [])) ≡ Truth 2 ∷ bound (pos 1) (negsuc 0) (negsuc 0) ∷ []
unfolding gcd_of
comparisons = refl

turned : atoms (apply AtLeast (x ∷ y ∷ [])) ≡ Truth 2 ∷ bound (negsuc 0) (pos 1) (pos 0) ∷ []
unfolding gcd_of
turned = refl

-- (ite p x y) of sort Int: the truth of p, and its equality and bounds with each branch
branches : atoms (apply Ite (p ∷ x ∷ y ∷ []))
    ≡ Truth 0
    ∷ Same 3 1 ∷ Bound (summand 1 (negsuc 0) ∷ summand 3 (pos 1) ∷ []) (pos 0) ∷ Bound (summand 1 (pos 1) ∷ summand 3 (negsuc 0) ∷ []) (pos 0)
    ∷ Same 3 2 ∷ Bound (summand 2 (negsuc 0) ∷ summand 3 (pos 1) ∷ []) (pos 0) ∷ Bound (summand 2 (pos 1) ∷ summand 3 (negsuc 0) ∷ []) (pos 0) ∷ []
unfolding gcd_of
branches = refl
