-- The parts of `(+ 1 x)` copied in order, and out of order.
use Rattle.std.proofs.Common.{◌≡◌, ℕ, zero, suc, [], ◌∷◌, Option, Some, None, true, false, refl, arith}
use Rattle.std.specs.Prelude.{pos}
use Rattle.smt_meaning.specs.declared.terms.Operator.TheVariants.{Add}
use Rattle.smt_meaning.specs.declared.terms.Head.TheVariants.{Numeral, Theory, Place}
use Rattle.smt_meaning.specs.Term.{Tree, node, none, more}
use Rattle.smt_laws.specs.Todo.{visit, keep}
use Rattle.elaborate.specs.Parts.{HaveCopies, KeepsInOrder, steps_of}

abbrev one : Tree
one = node (Numeral (pos 1)) none

abbrev x : Tree
x = node (Place 0) none

abbrev sum : Tree
sum = node (Theory Add) (more one (more x none))

-- the sum is kept once its arguments are visited
arguments_first : KeepsInOrder (visit one ∷ visit x ∷ keep sum ∷ []) []
arguments_first = ((refl, (refl, tt)), tt)

-- not before the second of them is
argument_lacking : KeepsInOrder (visit one ∷ keep sum ∷ visit x ∷ []) [] → ⊥
argument_lacking h = let second : false ≡ true = h.0.1.0 in cc

-- two steps for each of the three
steps : steps_of sum ≡ 6
steps = refl

abbrev copied : ℕ → Option ℕ
copied zero = Some 0
copied (suc i) = None

-- of the terms `1` and `x` the first alone was copied
first_has : HaveCopies (one ∷ x ∷ []) (one ∷ []) copied
first_has zero l m = refl
first_has (suc zero) l m = absurd cc
first_has (suc (suc i)) l m = absurd (omega arith)

-- both stand in the list, and the second has no copy
second_lacks : HaveCopies (one ∷ x ∷ []) (one ∷ x ∷ []) copied → ⊥
second_lacks h = let lacks : false ≡ true = h 1 (omega arith) refl in cc
