-- Normal bounds, and the atoms of a stack.
use Rattle.std.specs.Prelude.{◌≡◌, refl, ℕ, Bool, true, false, nat_lt, Option, Some, None, List, [], ◌∷◌, ◌++◌, map, flat_map, ℤ, pos, ◌-ℤ◌, neg_ℤ, unsigned_abs, if◌then◌else◌}
use Rattle.std.specs.Int.{int_div_euclid, ◌∣◌}
use Rattle.fraction128.specs.Gcd.{gcd_of}
use Rattle.smt_meaning.specs.declared.terms.Operator.TheVariants.{Equal, Distinct, Ite, AtMost as IsAtMost, Less, AtLeast, Greater, Divide, Modulo, Absolute, Divisible}
use Rattle.smt_meaning.specs.declared.terms.Head.{Head}
use Rattle.smt_meaning.specs.declared.terms.Head.TheVariants.{Theory}
use Rattle.smt_meaning.specs.Declaration.{Declaration}
use Rattle.smt_meaning.specs.declared.clauses.Summand.{Summand}
use Rattle.smt_meaning.specs.declared.clauses.Atom.{Atom}
use Rattle.smt_meaning.specs.declared.clauses.Atom.TheVariants.{Truth, AtMost, Same}
use Rattle.smt_meaning.specs.declared.clauses.Literal.{Literal}
use Rattle.smt_meaning.specs.Term.{Tree, Trees, node, none, more}
use Rattle.smt_meaning.specs.TreeShape.{place_of}
use Rattle.smt_meaning.specs.Signature.{tree_sort, is_int, is_bool}
use Rattle.smt_meaning.specs.Kinds.{count_trees}
use Rattle.smt_meaning.specs.Stack.{Frame, signature_of, assertions_of}
use Rattle.smt_meaning.specs.Linear.{Form, summand, form_minus, linear_form}
use Rattle.smt_meaning.specs.Division.{Limit, Row, rows_at, rows_of, combined}

-- ---- normal bounds

abbrev pub sum_gcd : List Summand → ℕ
sum_gcd [] = 0
sum_gcd (p ∷ ps) = gcd_of (unsigned_abs p.coefficient) (sum_gcd ps)

-- the quotient, rounded down
abbrev pub divided : ℤ → ℤ → ℤ
divided a b = int_div_euclid a b

abbrev pub each_divided : ℤ → List Summand → List Summand
each_divided g ps = map (λ (p : Summand). summand p.term (divided p.coefficient g)) ps

-- a number divides each coefficient
abbrev pub DividesEach : ℕ → List Summand → Type 0
DividesEach g [] = Unit {0}
DividesEach g (p ∷ ps) = (g ∣ unsigned_abs p.coefficient) × DividesEach g ps

-- sum <= k, divided by the greatest common divisor of the coefficients; an empty sum stays as it is
abbrev pub normal_bound : List Summand → ℤ → Atom
normal_bound [] k = AtMost [] k
normal_bound (p ∷ ps) k =
    let g : ℤ = pos (sum_gcd (p ∷ ps)) in AtMost (each_divided g (p ∷ ps)) (divided k g)

-- form <= 0
abbrev pub not_above_zero : Form → Atom
not_above_zero f = normal_bound f.sum (neg_ℤ f.constant)

-- form < 0
abbrev pub below_zero : Form → Atom
below_zero f = normal_bound f.sum (neg_ℤ f.constant -ℤ pos 1)

abbrev pub difference_of : List Tree → Tree → Tree → Form
difference_of ts s t = form_minus (linear_form ts s) (linear_form ts t)

-- s <= t
abbrev pub at_most_atom : List Tree → Tree → Tree → Atom
at_most_atom ts s t = not_above_zero (difference_of ts s t)

-- s < t
abbrev pub below_atom : List Tree → Tree → Tree → Atom
below_atom ts s t = below_zero (difference_of ts s t)

-- ---- the clauses of a division

-- form <= most
abbrev pub most_atom : Form → ℤ → Atom
most_atom f k = normal_bound f.sum (k -ℤ f.constant)

abbrev pub limit_atom : {A : Type 0} → (A → Form) → Limit A → Atom
limit_atom form l = most_atom (combined form l.multiples) l.most

abbrev pub row_atoms : {A : Type 0} → (A → Form) → Row A → List Atom
row_atoms form r = map (limit_atom form) r.limits

abbrev pub positive : Atom → Literal
positive a = record { atom = a; positive = true }

-- that the term at a place has this truth value, where a row speaks of it
abbrev pub truth_literals : ℕ → Option Bool → List Literal
truth_literals place None = []
truth_literals place (Some b) = record { atom = Truth place; positive = b } ∷ []

abbrev pub row_literals : List Tree → ℕ → Row Tree → List Literal
row_literals ts place r = truth_literals place r.truth ++ map positive (row_atoms (linear_form ts) r)

-- the clauses of a term's rows, in order
abbrev pub division_clauses : List Tree → Tree → List (List Literal)
division_clauses ts t = map (row_literals ts (place_of t ts)) (rows_of ts t)

-- the bounds of a term's rows
abbrev pub division_atoms : List Tree → Head → Trees → List Atom
division_atoms ts h us = flat_map (row_atoms (linear_form ts)) (rows_at ts h us)

-- ---- the atoms of a stack

-- the equality of two terms and, for Int, both bounds on their difference
abbrev pub pair_atoms : List Tree → List Declaration → Tree → Tree → List Atom
pair_atoms ts ds s t =
    Same (place_of s ts) (place_of t ts)
    ∷ (if is_int (tree_sort ds s) then at_most_atom ts s t ∷ at_most_atom ts t s ∷ [] else [])

-- the atoms of each two neighbours
abbrev pub of_neighbours_from : (Tree → Tree → List Atom) → Tree → Trees → List Atom
of_neighbours_from f t none = []
of_neighbours_from f t (more u us) = f t u ++ of_neighbours_from f u us

abbrev pub of_neighbours : (Tree → Tree → List Atom) → Trees → List Atom
of_neighbours f none = []
of_neighbours f (more t ts) = of_neighbours_from f t ts

abbrev pub of_first_with : (Tree → Tree → List Atom) → Tree → Trees → List Atom
of_first_with f t none = []
of_first_with f t (more u us) = f t u ++ of_first_with f t us

-- the atoms of each two
abbrev pub of_pairs : (Tree → Tree → List Atom) → Trees → List Atom
of_pairs f none = []
of_pairs f (more t ts) = of_first_with f t ts ++ of_pairs f ts

-- the atoms of an `ite` with each branch
abbrev pub of_branches : (Tree → Tree → List Atom) → Tree → Trees → List Atom
of_branches f t (more c (more u (more v none))) = f t u ++ f t v
of_branches f t us = []

-- the atoms that compare the arguments of a sub-term; of a division the bounds of its rows
abbrev pub comparison_atoms : List Tree → List Declaration → Head → Trees → List Atom
comparison_atoms ts ds (Theory Equal) us = of_neighbours (pair_atoms ts ds) us
comparison_atoms ts ds (Theory Distinct) us = of_pairs (pair_atoms ts ds) us
comparison_atoms ts ds (Theory Ite) us = of_branches (pair_atoms ts ds) (node (Theory Ite) us) us
comparison_atoms ts ds (Theory IsAtMost) us = of_neighbours (λ s t. at_most_atom ts s t ∷ []) us
comparison_atoms ts ds (Theory Less) us = of_neighbours (λ s t. below_atom ts s t ∷ []) us
comparison_atoms ts ds (Theory AtLeast) us = of_neighbours (λ s t. at_most_atom ts t s ∷ []) us
comparison_atoms ts ds (Theory Greater) us = of_neighbours (λ s t. below_atom ts t s ∷ []) us
comparison_atoms ts ds (Theory Divide) us = division_atoms ts (Theory Divide) us
comparison_atoms ts ds (Theory Modulo) us = division_atoms ts (Theory Modulo) us
comparison_atoms ts ds (Theory Absolute) us = division_atoms ts (Theory Absolute) us
comparison_atoms ts ds (Theory Divisible) us = division_atoms ts (Theory Divisible) us
comparison_atoms ts ds h us = []

-- of so many arguments of a `distinct` each two are compared by atoms of the stack; of more no two are
abbrev pub most_compared : ℕ
most_compared = 200

abbrev pub is_wide : Head → Trees → Bool
is_wide (Theory Distinct) us = nat_lt most_compared (count_trees us)
is_wide h us = false

-- those of them with which a check begins: what a wide `distinct` compares gets atoms where it matters
abbrev pub early_atoms : List Tree → List Declaration → Head → Trees → List Atom
early_atoms ts ds h us = if is_wide h us then [] else comparison_atoms ts ds h us

abbrev pub truth_atom : List Tree → List Declaration → Tree → List Atom
truth_atom ts ds t = if is_bool (tree_sort ds t) then Truth (place_of t ts) ∷ [] else []

abbrev mutual
  -- the atoms of a term's sub-terms
  pub atoms_of : List Tree → List Declaration → Tree → List Atom
  atoms_of ts ds (node h us) = atoms_of_all ts ds us ++ (truth_atom ts ds (node h us) ++ early_atoms ts ds h us)

  pub atoms_of_all : List Tree → List Declaration → Trees → List Atom
  atoms_of_all ts ds none = []
  atoms_of_all ts ds (more u us) = atoms_of ts ds u ++ atoms_of_all ts ds us

-- the atoms of the assertions
unfoldable pub stack_atoms : List Tree → List Frame → List Atom
stack_atoms ts frames = flat_map (atoms_of ts (signature_of frames)) (assertions_of frames)

pub stack_atoms_are : (ts : List Tree) (frames : List Frame) → stack_atoms ts frames ≡ flat_map (atoms_of ts (signature_of frames)) (assertions_of frames)
unfolding stack_atoms
stack_atoms_are ts frames = refl
