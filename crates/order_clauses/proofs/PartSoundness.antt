-- The clauses of each part are sound.
use Rattle.std.proofs.Common.{◌≡◌, ℕ, Bool, true, false, List, [], ◌∷◌, length, All, Contains, refl}
use Rattle.std.specs.Prelude.{IsTrue, Some, nat_eq, if◌then◌else◌}
use Rattle.std.proofs.lemmas.List.Elements.{All-cons, All-nil, All-head, All-tail}
use Rattle.smt_meaning.specs.declared.values.Sort.{Sort}
use Rattle.smt_meaning.specs.declared.values.Sort.TheVariants.{Bool as Truths, Int as Ints, Free}
use Rattle.smt_meaning.specs.declared.terms.Operator.{Operator}
use Rattle.smt_meaning.specs.declared.terms.Operator.TheVariants.{Equal, Distinct, Ite, AtMost, Less, AtLeast, Greater, Divide, Modulo, Absolute, Divisible}
use Rattle.smt_meaning.specs.declared.terms.Head.TheVariants.{Theory}
use Rattle.smt_meaning.specs.declared.clauses.Atom.{Atom}
use Rattle.smt_meaning.specs.Declaration.{Declaration}
use Rattle.smt_meaning.specs.Term.{Tree, node, tree_at}
use Rattle.smt_meaning.specs.Signature.{tree_sort}
use Rattle.smt_meaning.specs.Nodes.{pick}
use Rattle.smt_laws.specs.TermLaws.{ValueHasItsSort}
use Rattle.smt_laws.specs.ClauseLaws.{LinearFormHasValue, LimitsHaveValues, RowsAreOfTheTerm, DivisionHoldsByPlaces}
use Rattle.pair_bounds.specs.Rows.{RowsAreAtoms}
use Rattle.equality_clauses.specs.Laws.{compares, ComparisonIsTied, ComparisonIsOver, ChoiceIsTied, ChoiceIsOver, InterpretationAgrees}
use Rattle.bound_clauses.specs.Laws.{IsReadable, OrderIsOver, EqualityIsOver, ConstantIsOver, OrderClausesAreTrue, EqualityClausesAreTrue, ConstantHasValue}
use Rattle.order_clauses.specs.Clauses.{sort_at, by_sort, of_ints, equality_part, choice_part, division_part, part_clauses_of}
use Rattle.order_clauses.specs.Needed.{atoms_of_equality, atoms_of_choice, atoms_of_division, atoms_of_part}
use Rattle.order_clauses.specs.Sound.{HasSort, IsSound, AreSound}
use Rattle.order_clauses.proofs.Sorting.{one_sort, all_ints, choice_ints}
use Rattle.order_clauses.proofs.Soundness.{order_sound, equality_sound, choice_sound}
use Rattle.order_clauses.proofs.DivisionSoundness.{division_sound}

no_int : (A : Type 0) → false ≡ true → A
no_int A e = absurd (let x : false ≡ true = e in cc)

-- the laws of the clauses
pub record Laws : Type 0 where
  pub value_sort : ValueHasItsSort
  pub constant_over : ConstantIsOver
  pub constant_value : ConstantHasValue
  pub order_over : OrderIsOver
  pub order_true : OrderClausesAreTrue
  pub equality_over : EqualityIsOver
  pub equality_true : EqualityClausesAreTrue
  pub comparison_over : ComparisonIsOver
  pub comparison_tied : ComparisonIsTied
  pub agrees : InterpretationAgrees
  pub choice_over : ChoiceIsOver
  pub choice_tied : ChoiceIsTied
  pub rows_atoms : RowsAreAtoms
  pub rows_of_term : RowsAreOfTheTerm ℕ
  pub form_value : LinearFormHasValue
  pub limit_value : LimitsHaveValues ℕ
  pub rows_hold : DivisionHoldsByPlaces

module _ (laws : Laws) (ds : List Declaration) (ts : List Tree) (table : List Atom) (sorts : List Sort) where
  abbrev AreInts : List ℕ → Type 0
  AreInts is = All (λ i. tree_sort ds (tree_at ts i) ≡ Some Ints) is

  of_equality : (o : Operator) (p : ℕ) (is : List ℕ) (s : Sort) → IsTrue (compares o) → All (IsReadable ts) is → (s ≡ Ints → AreInts is) → tree_at ts p ≡ node (Theory o) (pick ts is)
      → All (Contains table) (by_sort s (length is) (λ int. atoms_of_equality ts int o p is)) → AreSound ds ts table (by_sort s (length is) (λ int. equality_part ts table int o p is))
  of_equality o p is Truths h readable ints e has = All-nil (IsSound ds ts table)
  of_equality o p is Ints h readable ints e has =
      equality_sound ds ts table laws.constant_over laws.constant_value laws.value_sort laws.equality_over laws.equality_true laws.comparison_tied laws.comparison_over laws.agrees true o p is h
      readable (λ _. ints refl) e has
  of_equality o p is (Free a) h readable ints e has = unless_two (nat_eq (length is) 2) has
    where
      unless_two : (two : Bool) → All (Contains table) (if two then [] else atoms_of_equality ts false o p is) → AreSound ds ts table (if two then [] else equality_part ts table false o p is)
      unless_two true k = All-nil (IsSound ds ts table)
      unless_two false k =
          equality_sound ds ts table laws.constant_over laws.constant_value laws.value_sort laws.equality_over laws.equality_true laws.comparison_tied laws.comparison_over laws.agrees false o p is h
          readable (λ x. no_int (AreInts is) x) e k

  of_choice : (p c i j : ℕ) (s : Sort) → All (IsReadable ts) (p ∷ i ∷ j ∷ []) → (s ≡ Ints → AreInts (p ∷ i ∷ j ∷ [])) → tree_at ts p ≡ node (Theory Ite) (pick ts (c ∷ i ∷ j ∷ []))
      → All (Contains table) (of_ints s (atoms_of_choice ts p c i j)) → AreSound ds ts table (of_ints s (choice_part ts table p c i j))
  of_choice p c i j Truths readable ints e has = All-nil (IsSound ds ts table)
  of_choice p c i j Ints readable ints e has =
      choice_sound ds ts table laws.constant_over laws.constant_value laws.value_sort laws.equality_over laws.equality_true laws.choice_tied laws.choice_over p c i j readable (ints refl) e has
  of_choice p c i j (Free a) readable ints e has = All-nil (IsSound ds ts table)

  of_division : (o : Operator) (p : ℕ) (is : List ℕ) → tree_at ts p ≡ node (Theory o) (pick ts is) → All (IsReadable ts) (p ∷ is) → All (Contains table) (atoms_of_division ts o p is)
      → AreSound ds ts table (division_part ts table o p is)
  of_division o p is e readable has =
      division_sound ds ts table laws.constant_over laws.constant_value laws.form_value laws.limit_value laws.rows_of_term laws.rows_hold laws.rows_atoms o p is e readable has

  pub part_sound : (o : Operator) (p : ℕ) (is : List ℕ) → tree_at ts p ≡ node (Theory o) (pick ts is) → All (HasSort ds ts sorts) (p ∷ is) → All (IsReadable ts) (p ∷ is)
      → All (Contains table) (atoms_of_part sorts ts o p is) → AreSound ds ts table (part_clauses_of sorts ts table o p is)
  part_sound AtMost p is e sorted readable has = order_sound ds ts table laws.constant_over laws.constant_value laws.order_over laws.order_true AtMost p is refl (All-tail (IsReadable ts) p is readable) e has
  part_sound Less p is e sorted readable has = order_sound ds ts table laws.constant_over laws.constant_value laws.order_over laws.order_true Less p is refl (All-tail (IsReadable ts) p is readable) e has
  part_sound AtLeast p is e sorted readable has = order_sound ds ts table laws.constant_over laws.constant_value laws.order_over laws.order_true AtLeast p is refl (All-tail (IsReadable ts) p is readable) e has
  part_sound Greater p is e sorted readable has = order_sound ds ts table laws.constant_over laws.constant_value laws.order_over laws.order_true Greater p is refl (All-tail (IsReadable ts) p is readable) e has
  part_sound Equal p [] e sorted readable has = All-nil (IsSound ds ts table)
  part_sound Equal p (i ∷ is) e sorted readable has =
      of_equality Equal p (i ∷ is) (sort_at sorts i) refl (All-tail (IsReadable ts) p (i ∷ is) readable)
      (all_ints ds ts sorts p i is (one_sort ds ts sorts Equal p i is refl e sorted)) e has
  part_sound Distinct p [] e sorted readable has = All-nil (IsSound ds ts table)
  part_sound Distinct p (i ∷ is) e sorted readable has =
      of_equality Distinct p (i ∷ is) (sort_at sorts i) refl (All-tail (IsReadable ts) p (i ∷ is) readable)
      (all_ints ds ts sorts p i is (one_sort ds ts sorts Distinct p i is refl e sorted)) e has
  part_sound Ite p (c ∷ i ∷ j ∷ []) e sorted readable has =
      let own : IsReadable ts p = All-head (IsReadable ts) p (c ∷ i ∷ j ∷ []) readable in
      let branches : All (IsReadable ts) (i ∷ j ∷ []) = All-tail (IsReadable ts) c (i ∷ j ∷ []) (All-tail (IsReadable ts) p (c ∷ i ∷ j ∷ []) readable) in
      of_choice p c i j (sort_at sorts p) (All-cons (IsReadable ts) p (i ∷ j ∷ []) own branches)
      (λ int. choice_ints ds ts sorts p c i j e (All-head (HasSort ds ts sorts) p (c ∷ i ∷ j ∷ []) sorted) (All-tail (HasSort ds ts sorts) p (c ∷ i ∷ j ∷ []) sorted) int) e has
  part_sound Divide p is e sorted readable has = of_division Divide p is e readable has
  part_sound Modulo p is e sorted readable has = of_division Modulo p is e readable has
  part_sound Absolute p is e sorted readable has = of_division Absolute p is e readable has
  part_sound Divisible p is e sorted readable has = of_division Divisible p is e readable has
  part_sound o p is e sorted readable has = All-nil (IsSound ds ts table)
