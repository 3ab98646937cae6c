-- The numbers of a part's atoms, one kind after another.
use Rattle.std.proofs.Common.{◌≡◌, ◌⊎◌, inl, inr, ℕ, Bool, true, false, List, [], ◌∷◌, Some, map, All, Contains, subst, sym, ap, ◌∙◌, refl}
use Rattle.std.specs.Prelude.{Option, None, IsTrue, ℤ}
use Rattle.std.proofs.lemmas.List.Elements.{All-nil, All-head}
use Rattle.smt_meaning.specs.declared.values.Sort.{Sort}
use Rattle.smt_meaning.specs.declared.values.Sort.TheVariants.{Bool as Truths, Int as Ints, Free}
use Rattle.smt_meaning.specs.declared.terms.Operator.{Operator}
use Rattle.smt_meaning.specs.declared.terms.Operator.TheVariants.{Equal, Distinct, Ite, AtMost, Less, AtLeast, Greater, Divide, Modulo, Absolute, Divisible}
use Rattle.smt_meaning.specs.declared.terms.Head.{Head}
use Rattle.smt_meaning.specs.declared.terms.Head.TheVariants.{Theory}
use Rattle.smt_meaning.specs.declared.clauses.Atom.{Atom}
use Rattle.smt_meaning.specs.declared.clauses.Atom.TheVariants.{Truth as TruthAtom}
use Rattle.smt_meaning.specs.Term.{Tree}
use Rattle.smt_meaning.specs.Signature.{is_bool}
use Rattle.smt_meaning.specs.Stack.{signature_of}
use Rattle.smt_meaning.specs.StackCommand.{Stack}
use Rattle.smt_laws.specs.Rows.{place_divisor}
use Rattle.check_atoms.specs.Parts.{IsMarked}
use Rattle.bound_clauses.specs.declared.orders.Order.{Order}
use Rattle.bound_clauses.specs.Orders.{order_atoms, bound_atom}
use Rattle.bound_clauses.specs.Laws.{orders}
use Rattle.check_atoms.specs.declared.part.PartAtom.TheVariants.{Bound}
use Rattle.check_atoms.specs.PartAtoms.{atom_of, truth_by_sort, of_rows, compared, compared_by_head, sort_of}
use Rattle.check_atoms.specs.AssertedDistinct.{IsAssertedDistinct}
use Rattle.check_atoms.specs.OfStack.{IsNode, AreCheckAtoms}
use Rattle.check_atoms.specs.Laws.{HasNumbers, PartsHaveNumbers, TruthsHaveNumbers}

map_bounds : (ts : List Tree) (os : List Order) → map (atom_of ts) (map Bound os) ≡ map (bound_atom ts) os
map_bounds ts [] = refl
map_bounds ts (o ∷ os) = ap (λ xs. bound_atom ts o ∷ xs) (map_bounds ts os)

compared_orders : (f : ℕ → Option Sort) (n : ℤ) (o : Operator) (p : ℕ) (is : List ℕ) → IsTrue (orders o) → compared f n o p is ≡ map Bound (order_atoms o is)
compared_orders f n AtMost p is h = refl
compared_orders f n Less p is h = refl
compared_orders f n AtLeast p is h = refl
compared_orders f n Greater p is h = refl
compared_orders f n o p is h = absurd (let x : false ≡ true = h in cc)

-- another term has no rows
rows_there : (ts : List Tree) (atoms : List Atom) (f : ℕ → Option Sort) (n : ℤ) (o : Operator) (p : ℕ) (is : List ℕ) → All (Contains atoms) (map (atom_of ts) (compared f n o p is))
    → All (Contains atoms) (map (atom_of ts) (of_rows n o p is))
rows_there ts atoms f n Divide p is h = h
rows_there ts atoms f n Modulo p is h = h
rows_there ts atoms f n Absolute p is h = h
rows_there ts atoms f n Divisible p is h = h
rows_there ts atoms f n o p is h = All-nil (Contains atoms)

truth_there : (ts : List Tree) (atoms : List Atom) (r : Option Sort) (p : ℕ) → is_bool r ≡ true → All (Contains atoms) (map (atom_of ts) (truth_by_sort r p)) → Contains atoms (TruthAtom p)
truth_there ts atoms None p b h = absurd (let x : false ≡ true = b in cc)
truth_there ts atoms (Some Truths) p b h = All-head (Contains atoms) (TruthAtom p) [] h
truth_there ts atoms (Some Ints) p b h = absurd (let x : false ≡ true = b in cc)
truth_there ts atoms (Some (Free n)) p b h = absurd (let x : false ≡ true = b in cc)

same_operator : {o q : Operator} → Theory o ≡ Theory q → o ≡ q
same_operator e = cc

no_order : (o : Operator) → IsTrue (orders o) → o ≡ Distinct → ⊥
no_order o h e = absurd (let x : false ≡ true = subst (λ (q : Operator). IsTrue (orders q)) e h in cc)

no_equality : Equal ≡ Distinct → ⊥
no_equality e = cc

no_choice : Ite ≡ Distinct → ⊥
no_choice e = cc

module _ (s : Stack) (marks : List Bool) (atoms : List Atom) (are : AreCheckAtoms s marks atoms) (p : ℕ) where
  abbrev f : ℕ → Option Sort
  f = sort_of (signature_of s.frames) s.trees

  comparisons : (h : Head) (is : List ℕ) → IsMarked marks p → IsNode s.trees p h is → IsAssertedDistinct s p h is
      ⊎ All (Contains atoms) (map (atom_of s.trees) (compared_by_head f (place_divisor s.trees is) h p is))
  comparisons h is m n = (are.each p h is m n).compared

  -- of another operator all are numbered
  of_other : (o : Operator) (is : List ℕ) → (o ≡ Distinct → ⊥) → IsMarked marks p → IsNode s.trees p (Theory o) is → All (Contains atoms) (map (atom_of s.trees) (compared f (place_divisor s.trees is) o p is))
  of_other o is other m n = elim (comparisons (Theory o) is m n) [
    | inl alone ↦ absurd (other (same_operator alone.operator))
    | inr all ↦ all
  ]

  of_operator : (o q : Operator) (is : List ℕ) → (q ≡ Distinct → ⊥) → IsMarked marks p → IsNode s.trees p (Theory o) is → o ≡ q → All (Contains atoms) (map (atom_of s.trees) (compared f (place_divisor s.trees is) q p is))
  of_operator o q is other m n e =
      subst (λ r. All (Contains atoms) (map (atom_of s.trees) (compared f (place_divisor s.trees is) r p is))) e (of_other o is (λ d. other (sym e ∙ d)) m n)

  its_rows : (o : Operator) (is : List ℕ) → IsMarked marks p → IsNode s.trees p (Theory o) is → All (Contains atoms) (map (atom_of s.trees) (of_rows (place_divisor s.trees is) o p is))
  its_rows o is m n = elim (comparisons (Theory o) is m n) [
    | inl alone ↦
        subst (λ (q : Operator). All (Contains atoms) (map (atom_of s.trees) (of_rows (place_divisor s.trees is) q p is))) (sym (same_operator alone.operator)) (All-nil (Contains atoms))
    | inr all ↦ rows_there s.trees atoms f (place_divisor s.trees is) o p is all
  ]

  has_numbers : (o : Operator) (is : List ℕ) → IsMarked marks p → IsNode s.trees p (Theory o) is → HasNumbers s atoms p o is
  has_numbers o is m n = record {
    comparison = λ h. subst (All (Contains atoms)) (ap (map (atom_of s.trees)) (compared_orders f (place_divisor s.trees is) o p is h) ∙ map_bounds s.trees (order_atoms o is))
        (of_other o is (no_order o h) m n);
    equality = of_operator o Equal is no_equality m n;
    different = λ e. subst (λ (q : Operator). IsAssertedDistinct s p (Theory o) is ⊎ All (Contains atoms) (map (atom_of s.trees) (compared f (place_divisor s.trees is) q p is))) e (comparisons (Theory o) is m n);
    choice = of_operator o Ite is no_choice m n;
    division = its_rows o is m n;
  }

  has_truth : (h : Head) (is : List ℕ) → IsMarked marks p → IsNode s.trees p h is → is_bool (f p) ≡ true → Contains atoms (TruthAtom p)
  has_truth h is m n b = truth_there s.trees atoms (f p) p b (are.each p h is m n).truth

pub parts_numbered : PartsHaveNumbers
parts_numbered s marks atoms are p o is m n = has_numbers s marks atoms are p o is m n

pub truths_numbered : TruthsHaveNumbers
truths_numbered s marks atoms are p h is m n b = has_truth s marks atoms are p h is m n b
