-- The numbered atoms are those that a check begins with.
use Rattle.std.proofs.Common.{◌≡◌, inl, inr, ℕ, ◌<◌, Bool, true, false, List, [], ◌∷◌, Some, map, length, get_or, All, Contains, subst, sym, ap, ap₂, ◌∙◌, refl, flat_map, arith}
use Rattle.std.specs.Prelude.{Option, None, ℤ}
use Rattle.std.proofs.lemmas.List.Elements.{All-nil, All-cons, All-append, All-map, All-contains, Contains-get_or}
use Rattle.smt_meaning.specs.declared.values.Sort.{Sort}
use Rattle.smt_meaning.specs.declared.values.Sort.TheVariants.{Bool as Truths, Int as Ints, Free}
use Rattle.smt_meaning.specs.declared.terms.Operator.{Operator}
use Rattle.smt_meaning.specs.declared.terms.Operator.TheVariants.{Equal, Distinct, Ite, Divide, Modulo, Absolute, Divisible}
use Rattle.smt_meaning.specs.declared.terms.Head.{Head}
use Rattle.smt_meaning.specs.declared.terms.Head.TheVariants.{Theory}
use Rattle.smt_meaning.specs.declared.clauses.Summand.{Summand}
use Rattle.smt_meaning.specs.declared.clauses.Atom.{Atom}
use Rattle.smt_meaning.specs.declared.clauses.Atom.TheVariants.{Truth as TruthAtom, Same as SameAtom}
use Rattle.smt_meaning.specs.Declaration.{Declaration}
use Rattle.smt_meaning.specs.Term.{Tree, tree_at}
use Rattle.smt_meaning.specs.TreeShape.{place_of}
use Rattle.smt_meaning.specs.Signature.{tree_sort, is_bool}
use Rattle.smt_meaning.specs.Stack.{Frame, signature_of, assertions_of}
use Rattle.smt_meaning.specs.StackCommand.{Stack}
use Rattle.smt_meaning.specs.CheckAtoms.{IsPartOfStack, ComparesParts, IsFirstAtom}
use Rattle.smt_meaning.specs.Atoms.{normal_bound, pair_atoms, atoms_of, stack_atoms, stack_atoms_are}
use Rattle.smt_laws.specs.Flat.{flat, FlatSaysTheSame}
use Rattle.smt_laws.specs.Rows.{place_divisor}
use Rattle.scope_stack.specs.Shown.{IsLawful}
use Rattle.check_atoms.specs.Parts.{IsMarked}
use Rattle.check_atoms.specs.Marks.{AreStackParts}
use Rattle.check_atoms.proofs.Marking.{below}
use Rattle.bound_clauses.specs.declared.orders.Sense.{Sense}
use Rattle.bound_clauses.specs.declared.orders.Sense.TheVariants.{NotAbove, Below}
use Rattle.bound_clauses.specs.declared.orders.Order.{Order}
use Rattle.bound_clauses.specs.Orders.{atom_of as order_atom, both_orders, order_atoms}
use Rattle.bound_clauses.specs.Laws.{OrdersAreComparisons}
use Rattle.pair_bounds.specs.declared.rows.RowLimit.{RowLimit}
use Rattle.pair_bounds.specs.Rows.{RowsAreAtoms}
use Rattle.check_atoms.specs.declared.part.PartAtom.{PartAtom}
use Rattle.check_atoms.specs.declared.part.PartAtom.TheVariants.{Truth, Same, Bound, Limit}
use Rattle.check_atoms.specs.PartAtoms.{atom_of, by_sort, alone_by_sort, truth_by_sort, pair, alone, with_branches, compared, compared_by_head, of_part, sort_of}
use Rattle.check_atoms.specs.OfStack.{IsAtomOfPart, ComparesMarked, AreCheckAtoms, part_atoms}
use Rattle.check_atoms.specs.Laws.{IsSameOfBools, AreFirstAtoms, AtomsAreFirst}
use Rattle.check_atoms.proofs.Rows.{limits_of}
use Rattle.check_atoms.proofs.PartPlaces.{equal_all, two_all}
use Rattle.check_atoms.proofs.StackAtoms.{again as place_again, of_stack, numbered}

-- ---- no equality of two Bools is numbered

any : (is : List ℕ) → All (λ i. Unit {0}) is
any is = λ k d l. tt

module _ (f : ℕ → Option Sort) where
  -- it is no equality, or one of terms that are no Bools
  abbrev IsUnlike : PartAtom → Type 0
  IsUnlike (Truth p) = Unit {0}
  IsUnlike (Same i j) = is_bool (f i) ≡ false
  IsUnlike (Bound o) = Unit {0}
  IsUnlike (Limit l) = Unit {0}

  bounds_unlike : (os : List Order) → All IsUnlike (map Bound os)
  bounds_unlike [] = All-nil IsUnlike
  bounds_unlike (o ∷ os) = All-cons IsUnlike (Bound o) (map Bound os) tt (bounds_unlike os)

  by_sort_unlike : (r : Option Sort) (i j : ℕ) → f i ≡ r → All IsUnlike (by_sort r i j)
  by_sort_unlike None i j e = All-cons IsUnlike (Same i j) [] (ap is_bool e) (All-nil IsUnlike)
  by_sort_unlike (Some Truths) i j e = All-nil IsUnlike
  by_sort_unlike (Some Ints) i j e = All-cons IsUnlike (Same i j) (map Bound (both_orders i j)) (ap is_bool e) (bounds_unlike (both_orders i j))
  by_sort_unlike (Some (Free n)) i j e = All-cons IsUnlike (Same i j) [] (ap is_bool e) (All-nil IsUnlike)

  alone_unlike : (r : Option Sort) (i j : ℕ) → f i ≡ r → All IsUnlike (alone_by_sort r i j)
  alone_unlike None i j e = by_sort_unlike None i j e
  alone_unlike (Some Truths) i j e = All-nil IsUnlike
  alone_unlike (Some Ints) i j e = by_sort_unlike (Some Ints) i j e
  alone_unlike (Some (Free n)) i j e = All-nil IsUnlike

  single_unlike : (i j : ℕ) → All IsUnlike (alone f i j)
  single_unlike i j = alone_unlike (f i) i j refl

  pair_unlike : (i j : ℕ) → All IsUnlike (pair f i j)
  pair_unlike i j = by_sort_unlike (f i) i j refl

  truth_unlike : (r : Option Sort) (p : ℕ) → All IsUnlike (truth_by_sort r p)
  truth_unlike None p = All-nil IsUnlike
  truth_unlike (Some Truths) p = All-cons IsUnlike (Truth p) [] tt (All-nil IsUnlike)
  truth_unlike (Some Ints) p = All-nil IsUnlike
  truth_unlike (Some (Free n)) p = All-nil IsUnlike

  branches_unlike : (p : ℕ) (is : List ℕ) → All IsUnlike (with_branches f p is)
  branches_unlike p (c ∷ i ∷ j ∷ []) = All-append IsUnlike (alone f p i) (alone f p j) (single_unlike p i) (single_unlike p j)
  branches_unlike p is = All-nil IsUnlike

  limits_unlike : (ls : List RowLimit) → All IsUnlike (map Limit ls)
  limits_unlike ls = All-map IsUnlike Limit ls (λ k d l. tt)

  compared_unlike : (n : ℤ) (o : Operator) (p : ℕ) (is : List ℕ) → All IsUnlike (compared f n o p is)
  compared_unlike n Equal p is = equal_all (λ i. Unit {0}) IsUnlike f (λ i j h g. pair_unlike i j) (λ i j h g. single_unlike i j) is (any is)
  compared_unlike n Distinct p is = two_all (λ i. Unit {0}) IsUnlike f (λ i j h g. pair_unlike i j) (λ i j h g. single_unlike i j) is (any is)
  compared_unlike n Ite p is = branches_unlike p is
  compared_unlike n Divide p is = limits_unlike (limits_of n Divide p is)
  compared_unlike n Modulo p is = limits_unlike (limits_of n Modulo p is)
  compared_unlike n Absolute p is = limits_unlike (limits_of n Absolute p is)
  compared_unlike n Divisible p is = limits_unlike (limits_of n Divisible p is)
  compared_unlike n o p is = bounds_unlike (order_atoms o is)

  by_head_unlike : (n : ℤ) (h : Head) (p : ℕ) (is : List ℕ) → All IsUnlike (compared_by_head f n h p is)
  by_head_unlike n (Theory o) p is = compared_unlike n o p is
  by_head_unlike n h p is = All-nil IsUnlike

  part_unlike : (n : ℤ) (p : ℕ) (h : Head) (is : List ℕ) → All IsUnlike (of_part f n p h is)
  part_unlike n p h is = All-append IsUnlike (truth_by_sort (f p) p) (compared_by_head f n h p is) (truth_unlike (f p) p) (by_head_unlike n h p is)

normal_no_equality : (sum : List Summand) (k : ℤ) (i j : ℕ) → normal_bound sum k ≡ SameAtom i j → ⊥
normal_no_equality [] k i j e = cc
normal_no_equality (p ∷ ps) k i j e = cc

order_no_equality : (sense : Sense) (ts : List Tree) (t u : Tree) (i j : ℕ) → order_atom sense ts t u ≡ SameAtom i j → ⊥
order_no_equality NotAbove ts t u i j e = normal_no_equality _ _ i j e
order_no_equality Below ts t u i j e = normal_no_equality _ _ i j e

same_left : (i j k l : ℕ) → SameAtom i j ≡ SameAtom k l → i ≡ k
same_left i j k l e = cc

true_or_false : (b : Bool) → b ≡ true → b ≡ false → ⊥
true_or_false b p q = cc

module _ (s : Stack) where
  abbrev sort_there : ℕ → Option Sort
  sort_there = sort_of (signature_of s.frames) s.trees

  abbrev IsOther : Atom → Type 0
  IsOther a = IsSameOfBools s a → ⊥

  other : (x : PartAtom) → IsUnlike sort_there x → IsOther (atom_of s.trees x)
  other (Truth p) h b = (let e : TruthAtom p ≡ SameAtom b.left b.right = b.atom in cc)
  other (Same i j) h b = true_or_false (is_bool (sort_there i)) (ap (λ k. is_bool (sort_there k)) (same_left i j b.left b.right b.atom) ∙ b.bool) h
  other (Bound o) h b = order_no_equality o.sense s.trees (tree_at s.trees o.lesser) (tree_at s.trees o.greater) b.left b.right b.atom
  other (Limit l) h b = normal_no_equality _ _ b.left b.right b.atom

  all_other : (xs : List PartAtom) → All (IsUnlike sort_there) xs → All IsOther (map (atom_of s.trees) xs)
  all_other xs h = All-map IsOther (atom_of s.trees) xs (λ k d l. other (get_or xs k d) (h k d l))

  chord_other : (marks : List Bool) (a : Atom) → ComparesMarked s marks a → IsOther a
  chord_other marks a o b =
      let same : o.left ≡ b.left = same_left o.left o.right b.left b.right (sym o.atom ∙ b.atom) in
      true_or_false (is_bool (sort_there b.left)) b.bool (ap (λ k. is_bool (sort_there k)) (sym same) ∙ ap is_bool o.left_sort)

  no_bools : (marks : List Bool) (a : Atom) → IsAtomOfPart s marks a → IsOther a
  no_bools marks a o =
      All-contains IsOther (map (atom_of s.trees) (part_atoms s o.place o.head o.arguments)) a
      (all_other (part_atoms s o.place o.head o.arguments) (part_unlike sort_there (place_divisor s.trees o.arguments) o.place o.head o.arguments)) o.among

  -- ---- by levels that declare and assert the same

  module _ (marks : List Bool) (atoms : List Atom) (lawful : IsLawful s) (parts : AreStackParts s marks) (are : AreCheckAtoms s marks atoms) (compares : OrdersAreComparisons) (rows : RowsAreAtoms) (frames : List Frame)
      (signature : signature_of frames ≡ signature_of s.frames) (assertions : assertions_of frames ≡ assertions_of s.frames) where
    same_atoms : stack_atoms s.trees frames ≡ stack_atoms s.trees s.frames
    same_atoms =
        stack_atoms_are s.trees frames ∙ ap₂ (λ (ds : List Declaration) (ts : List Tree). flat_map (atoms_of s.trees ds) ts) signature assertions ∙ sym (stack_atoms_are s.trees s.frames)

    part_there : (t : Tree) → IsPartOfStack s.frames t → IsPartOfStack frames t
    part_there t p = record { assertion = p.assertion; asserted = subst (λ ts. Contains ts p.assertion) (sym assertions) p.asserted; part = p.part }

    inside : (p : ℕ) → IsMarked marks p → p < length s.trees
    inside p m = let short : p < length marks = below marks p m in omega (arith, short, are.size)

    chord_there : (a : Atom) → ComparesMarked s marks a → ComparesParts s.trees frames a
    chord_there a o =
        let left = tree_at s.trees o.left in
        let right = tree_at s.trees o.right in
        let again : (p : ℕ) → IsMarked marks p → place_of (tree_at s.trees p) s.trees ≡ p = λ p m. place_again s marks atoms lawful parts are compares rows p (inside p m) in
        let is : SameAtom (place_of left s.trees) (place_of right s.trees) ≡ a = ap₂ SameAtom (again o.left o.left_marked) (again o.right o.right_marked) ∙ sym o.atom in
        record {
          left = left;
          right = right;
          left_part = part_there left (parts.only o.left o.left_marked);
          right_part = part_there right (parts.only o.right o.right_marked);
          one_sort = subst (λ ds. tree_sort ds left ≡ tree_sort ds right) (sym signature) (o.left_sort ∙ sym o.right_sort);
          among = (0, omega arith, is);
        }

    pair_there : (a : Atom) → ComparesParts s.trees s.frames a → ComparesParts s.trees frames a
    pair_there a o = record {
      left = o.left;
      right = o.right;
      left_part = part_there o.left o.left_part;
      right_part = part_there o.right o.right_part;
      one_sort = subst (λ ds. tree_sort ds o.left ≡ tree_sort ds o.right) (sym signature) o.one_sort;
      among = subst (λ ds. Contains (pair_atoms s.trees ds o.left o.right) a) (sym signature) o.among;
    }

    own_there : (a : Atom) → IsAtomOfPart s marks a → IsFirstAtom s.trees frames a
    own_there a own = elim (of_stack s marks atoms lawful parts are compares rows a own) [
      | inl of_stack_there ↦ inl (subst (λ xs. Contains xs a) (sym same_atoms) of_stack_there)
      | inr two ↦ inr (inl (pair_there a two))
    ]

    first_there : (a : Atom) → Contains atoms a → IsFirstAtom s.trees frames a
    first_there a c = elim (are.only a c) [
      | inl own ↦ own_there a own
      | inr chord ↦ inr (inl (chord_there a chord))
    ]

    pub first_by : AreFirstAtoms s frames marks atoms
    first_by = record {
      first = λ k d l. first_there (get_or atoms k d) (Contains-get_or atoms k d l);
      all = λ a c. numbered s marks atoms lawful parts are compares rows a (subst (λ xs. Contains xs a) same_atoms c);
      no_bools = λ a c. elim (are.only a c) [ inl own ↦ no_bools marks a own | inr chord ↦ chord_other marks a chord ];
      parts = λ p m. part_there (tree_at s.trees p) (parts.only p m);
    }

pub first_atoms : OrdersAreComparisons → RowsAreAtoms → FlatSaysTheSame → AtomsAreFirst
first_atoms compares rows same s marks atoms lawful parts are = (
  first_by s marks atoms lawful parts are compares rows s.frames refl refl,
  first_by s marks atoms lawful parts are compares rows (flat s.frames) (same s.frames).signature (same s.frames).assertions,
)
