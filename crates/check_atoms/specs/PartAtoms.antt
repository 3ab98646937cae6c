-- The atoms of a part, by the places of its arguments.
use Rattle.std.specs.Prelude.{ℕ, Bool, true, false, List, [], ◌∷◌, ◌++◌, map, flat_map, ℤ, Option, Some, slice_index_or}
use Rattle.smt_meaning.specs.declared.values.Sort.{Sort}
use Rattle.smt_meaning.specs.declared.values.Sort.TheVariants.{Bool as Truths, Int as Ints, Free}
use Rattle.smt_meaning.specs.declared.terms.Operator.{Operator}
use Rattle.smt_meaning.specs.declared.terms.Operator.TheVariants.{Equal, Distinct, Ite, Divide, Modulo, Absolute, Divisible}
use Rattle.smt_meaning.specs.declared.terms.Head.{Head}
use Rattle.smt_meaning.specs.declared.terms.Head.TheVariants.{Theory}
use Rattle.smt_meaning.specs.declared.clauses.Atom.{Atom}
use Rattle.smt_meaning.specs.declared.clauses.Atom.TheVariants.{Truth as TruthAtom, Same as SameAtom}
use Rattle.smt_meaning.specs.Declaration.{Declaration}
use Rattle.smt_meaning.specs.Term.{Tree, tree_at}
use Rattle.smt_meaning.specs.Signature.{tree_sort}
use Rattle.smt_meaning.specs.Atoms.{limit_atom}
use Rattle.smt_laws.specs.Rows.{place_form}
use Rattle.pair_bounds.specs.Rows.{limits, limit_of_row, placed_rows}
use Rattle.bound_clauses.specs.Orders.{order_atoms, both_orders, bound_atom}
use Rattle.check_atoms.specs.declared.part.PartAtom.{PartAtom}
use Rattle.check_atoms.specs.declared.part.PartAtom.TheVariants.{Truth, Same, Bound, Limit}

-- the atom that it stands for
abbrev pub atom_of : List Tree → PartAtom → Atom
atom_of ts (Truth p) = TruthAtom p
atom_of ts (Same i j) = SameAtom i j
atom_of ts (Bound o) = bound_atom ts o
atom_of ts (Limit l) = limit_atom (place_form ts) (limit_of_row l)

-- ---- of two terms that are compared, by the sort of the first

-- of two Bools none, since their truths say all; of two Ints also both bounds of their difference
abbrev pub by_sort : Option Sort → ℕ → ℕ → List PartAtom
by_sort (Some Truths) i j = []
by_sort (Some Ints) i j = Same i j ∷ map Bound (both_orders i j)
by_sort s i j = Same i j ∷ []

-- of two that are compared alone, or of an `ite` and a branch: the same, but of elements none, since the truth of the comparison or of the condition says all
abbrev pub alone_by_sort : Option Sort → ℕ → ℕ → List PartAtom
alone_by_sort (Some (Free n)) i j = []
alone_by_sort s i j = by_sort s i j

abbrev pub truth_by_sort : Option Sort → ℕ → List PartAtom
truth_by_sort (Some Truths) p = Truth p ∷ []
truth_by_sort s p = []

-- the bounds of the rows of a division by a number
abbrev pub of_rows : ℤ → Operator → ℕ → List ℕ → List PartAtom
of_rows n o p is = map Limit (flat_map limits (placed_rows o n p is))

module _ (sort_at : ℕ → Option Sort) where
  abbrev pub pair : ℕ → ℕ → List PartAtom
  pair i j = by_sort (sort_at i) i j

  abbrev pub alone : ℕ → ℕ → List PartAtom
  alone i j = alone_by_sort (sort_at i) i j

  -- of each place and the next
  abbrev pub neighbours_from : ℕ → List ℕ → List PartAtom
  neighbours_from i [] = []
  neighbours_from i (j ∷ js) = pair i j ++ neighbours_from j js

  abbrev pub neighbours : List ℕ → List PartAtom
  neighbours [] = []
  neighbours (i ∷ is) = neighbours_from i is

  -- of a place with each of the others
  abbrev pub first_with : ℕ → List ℕ → List PartAtom
  first_with i [] = []
  first_with i (j ∷ js) = pair i j ++ first_with i js

  -- of each two
  abbrev pub each_two : List ℕ → List PartAtom
  each_two [] = []
  each_two (i ∷ is) = first_with i is ++ each_two is

  -- of the arguments of `=`
  abbrev pub of_equal : List ℕ → List PartAtom
  of_equal (i ∷ j ∷ []) = alone i j
  of_equal is = neighbours is

  -- of those of `distinct`
  abbrev pub of_distinct : List ℕ → List PartAtom
  of_distinct (i ∷ j ∷ []) = alone i j
  of_distinct is = each_two is

  -- of an `ite` with each branch
  abbrev pub with_branches : ℕ → List ℕ → List PartAtom
  with_branches p (c ∷ i ∷ j ∷ []) = alone p i ++ alone p j
  with_branches p is = []

  -- those that compare the arguments of the term at a place; of a division by a number the bounds of its rows
  abbrev pub compared : ℤ → Operator → ℕ → List ℕ → List PartAtom
  compared n Equal p is = of_equal is
  compared n Distinct p is = of_distinct is
  compared n Ite p is = with_branches p is
  compared n Divide p is = of_rows n Divide p is
  compared n Modulo p is = of_rows n Modulo p is
  compared n Absolute p is = of_rows n Absolute p is
  compared n Divisible p is = of_rows n Divisible p is
  compared n o p is = map Bound (order_atoms o is)

  abbrev pub compared_by_head : ℤ → Head → ℕ → List ℕ → List PartAtom
  compared_by_head n (Theory o) p is = compared n o p is
  compared_by_head n h p is = []

  -- and the truth of the term, if it is a Bool
  abbrev pub of_part : ℤ → ℕ → Head → List ℕ → List PartAtom
  of_part n p h is = truth_by_sort (sort_at p) p ++ compared_by_head n h p is

  -- of these the truth alone, or all
  abbrev pub wanted_of : Bool → ℤ → ℕ → Head → List ℕ → List PartAtom
  wanted_of true n p h is = truth_by_sort (sort_at p) p
  wanted_of false n p h is = of_part n p h is

-- the sort of the term at a place
abbrev pub sort_of : List Declaration → List Tree → ℕ → Option Sort
sort_of ds ts p = tree_sort ds (tree_at ts p)

-- the same, from a list of the terms' sorts
abbrev pub sort_in : List Sort → ℕ → Option Sort
sort_in sorts p = Some (slice_index_or sorts p Truths)
