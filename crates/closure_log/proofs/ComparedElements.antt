-- `=` and `distinct` of elements, by their classes.
use Rattle.std.proofs.Common.{◌≡◌, ◌⊎◌, ℕ, ◌<◌, ◌&&◌, Bool, true, false, not, List, [], ◌∷◌, ◌++◌, length, map, All, Contains, Some, Option, refl, ap, ◌∙◌, subst, inl, inr, arith}
use Rattle.std.specs.Prelude.{if◌then◌else◌}
use Rattle.std.proofs.lemmas.Bool.{ne_eqb}
use Rattle.std.proofs.lemmas.List.{map-append}
use Rattle.std.proofs.lemmas.List.Elements.{All-nil, All-cons, All-head, All-tail, All-append}
use Rattle.literals.specs.Signed.{Signed}
use Rattle.smt_meaning.specs.declared.values.Value.{Value}
use Rattle.smt_meaning.specs.declared.values.Sort.{Sort}
use Rattle.smt_meaning.specs.declared.values.Sort.TheVariants.{Free}
use Rattle.smt_meaning.specs.declared.terms.Operator.TheVariants.{Equal as EqualTo, Distinct}
use Rattle.smt_meaning.specs.declared.terms.Operator.{Operator}
use Rattle.smt_meaning.specs.declared.terms.Head.TheVariants.{Theory}
use Rattle.smt_meaning.specs.declared.clauses.Atom.{Atom}
use Rattle.smt_meaning.specs.declared.clauses.Atom.TheVariants.{Truth, Same}
use Rattle.smt_meaning.specs.Term.{Tree, same_value, truth_of, operate}
use Rattle.smt_meaning.specs.Stack.{signature_of}
use Rattle.smt_meaning.specs.StackCommand.{Stack}
use Rattle.smt_laws.proofs.FrontAndBack.{all_front, all_back}
use Rattle.scope_stack.specs.Facts.{AreSorts}
use Rattle.search_port.specs.State.{IsMadeTrue}
use Rattle.congruence.specs.declared.congruence.Congruence.{Congruence}
use Rattle.check_atoms.specs.declared.part.PartAtom.{PartAtom}
use Rattle.check_atoms.specs.PartAtoms.{atom_of, sort_of, by_sort as atoms_by_sort, neighbours_from, first_with, each_two as two_atoms}
use Rattle.check_atoms.specs.AssertedDistinct.{IsAssertedDistinct}
use Rattle.check_atoms.specs.OfStack.{AreCheckAtoms}
use Rattle.check_atoms.specs.Laws.{PartsHaveNumbers, TruthsHaveNumbers}
use Rattle.order_clauses.specs.declared.pairs.Pair.{Pair}
use Rattle.order_clauses.specs.Pairs.{pair, neighbours, with_each, each_two, pairs_of, same_atom}
use Rattle.order_clauses.specs.Clauses.{truth_number, by_sort, sort_at, equality_part, part_clauses_of}
use Rattle.order_clauses.specs.Decided.{NumbersAreFound, EqualityPartIsDecided, IsGiven}
use Rattle.order_clauses.proofs.Pairing.{pairs_both}
use Rattle.closure_log.specs.Whole.{Gives}
use Rattle.closure_log.specs.ByClass.{IsElement, IsItsClass, IsNumberedPair, IsWholeOver, ComparesElements, ComparisonsAreByClass}
use Rattle.closure_log.proofs.ByClasses.{decided_by, given_to, gives_number, fits_pairs}

-- ---- the atoms of pairs of elements

module _ (ts : List Tree) (f : ℕ → Option Sort) (q : ℕ) (P : Atom → Type 0) where
  abbrev IsOf : ℕ → Type 0
  IsOf p = f p ≡ Some (Free q)

  abbrev OfPair : Pair → Type 0
  OfPair r = P (same_atom r)

  first_pair : (i j : ℕ) (rest : List PartAtom) → IsOf i → All P (map (atom_of ts) (atoms_by_sort (f i) i j ++ rest)) → P (Same i j) × All P (map (atom_of ts) rest)
  first_pair i j rest e h =
      let there : All P (Same i j ∷ map (atom_of ts) rest) = subst (λ (r : Option Sort). All P (map (atom_of ts) (atoms_by_sort r i j ++ rest))) e h in
      (All-head P (Same i j) (map (atom_of ts) rest) there, All-tail P (Same i j) (map (atom_of ts) rest) there)

  neighbours_have : (i : ℕ) (is : List ℕ) → All IsOf (i ∷ is) → All P (map (atom_of ts) (neighbours_from f i is)) → All OfPair (neighbours i is)
  neighbours_have i [] h k = All-nil OfPair
  neighbours_have i (j ∷ js) h k =
      let both : P (Same i j) × All P (map (atom_of ts) (neighbours_from f j js)) = first_pair i j (neighbours_from f j js) (All-head IsOf i (j ∷ js) h) k in
      All-cons OfPair (pair i j) (neighbours j js) both.0 (neighbours_have j js (All-tail IsOf i (j ∷ js) h) both.1)

  with_each_have : (i : ℕ) (is : List ℕ) → IsOf i → All P (map (atom_of ts) (first_with f i is)) → All OfPair (with_each i is)
  with_each_have i [] h k = All-nil OfPair
  with_each_have i (j ∷ js) h k =
      let both : P (Same i j) × All P (map (atom_of ts) (first_with f i js)) = first_pair i j (first_with f i js) h k in
      All-cons OfPair (pair i j) (with_each i js) both.0 (with_each_have i js h both.1)

  each_two_have : (is : List ℕ) → All IsOf is → All P (map (atom_of ts) (two_atoms f is)) → All OfPair (each_two is)
  each_two_have [] h k = All-nil OfPair
  each_two_have (i ∷ is) h k =
      let both : All P (map (atom_of ts) (first_with f i is) ++ map (atom_of ts) (two_atoms f is)) =
      subst (λ (as' : List Atom). All P as') (map-append (atom_of ts) (first_with f i is) (two_atoms f is)) k in
      All-append OfPair (with_each i is) (each_two is)
      (with_each_have i is (All-head IsOf i is h) (all_front P (map (atom_of ts) (first_with f i is)) (map (atom_of ts) (two_atoms f is)) both))
      (each_two_have is (All-tail IsOf i is h) (all_back P (map (atom_of ts) (first_with f i is)) (map (atom_of ts) (two_atoms f is)) both))

-- ---- two elements

with_true : (b d : Bool) → b ≡ d → b ≡ (d && true)
with_true true true e = refl
with_true false false e = refl
with_true true false e = cc
with_true false true e = cc

against : (b d : Bool) → not b ≡ d → b ≡ ((not d && true) && (true && true))
against true false e = refl
against false true e = refl
against true true e = absurd (let x : false ≡ true = e in cc)
against false false e = absurd (let x : true ≡ false = e in cc)

is_false : (b : Bool) → not b ≡ true → b ≡ false
is_false false e = refl
is_false true e = absurd (let x : false ≡ true = e in cc)

is_true : (b : Bool) → not b ≡ false → b ≡ true
is_true true e = refl
is_true false e = absurd (let x : true ≡ false = e in cc)

-- ---- parts

of_elements : {A : Type 0} (r : Sort) (q n : ℕ) (g : Bool → List A) → r ≡ Free q → (n ≡ 2 → ⊥) → by_sort r n g ≡ g false
of_elements r q n g e h = ap (λ (x : Sort). by_sort x n g) e ∙ ap (λ (b : Bool). if b then [] else g false) (ne_eqb n 2 h)

module _ (found : NumbersAreFound) (s : Stack) (marks : List Bool) (sorts : List Sort) (first table : List Atom) (log : List Signed) (c : Congruence) (v : ℕ → Value) (atoms : AreCheckAtoms s marks first)
    (kept : AreSorts (signature_of s.frames) s.trees (length s.trees) sorts) (over : IsWholeOver s first table log c) where
  abbrev IsIt : ℕ → Type 0
  IsIt p = IsItsClass c v p

  abbrev HasValue : Operator → ℕ → List ℕ → Type 0
  HasValue o p is = IsGiven log (truth_number first p) (truth_of (operate o (map v is)))

  numbered_pairs : (qs : List Pair) → All (λ (r : Pair). Contains first (same_atom r)) qs → All (λ (r : Pair). IsIt r.left × IsIt r.right) qs → All (IsNumberedPair first c v) qs
  numbered_pairs qs h k n d less = record { number = h n d less; left = (k n d less).0; right = (k n d less).1 }

  wide : EqualityPartIsDecided → (o : Operator) (p q i : ℕ) (is : List ℕ) → ComparesElements s marks o p q i is → All IsIt (i ∷ is) → All (λ (r : Pair). Contains first (same_atom r)) (pairs_of o (i ∷ is))
      → All (IsMadeTrue log) (equality_part s.trees first false o p (i ∷ is)) → HasValue o p (i ∷ is)
  wide decided o p q i is part values numbered made =
      decided v log s.trees first false o p (i ∷ is) part.compares over.consistent
      (fits_pairs found s first table log c over v (pairs_of o (i ∷ is)) (numbered_pairs (pairs_of o (i ∷ is)) numbered (pairs_both IsIt o (i ∷ is) values))) made

  listed : (q i : ℕ) (is : List ℕ) → All (λ j. j < length s.trees) (i ∷ is) → All (IsElement s q) (i ∷ is) → sort_at sorts i ≡ Free q
  listed q i is within h = kept.each i (Free q) (All-head (λ j. j < length s.trees) i is within) (All-head (IsElement s q) i is h)

  module _ (truths : TruthsHaveNumbers) (p q i j : ℕ) (values : All IsIt (i ∷ j ∷ [])) where
    left_value : IsIt i
    left_value = All-head IsIt i (j ∷ []) values

    right_value : IsIt j
    right_value = All-head IsIt j [] (All-tail IsIt i (j ∷ []) values)

    module _ (numbered : Contains first (Truth p)) where
      given : (b : Bool) × IsGiven log (truth_number first p) b
      given = given_to found s first table log c over (Truth p) numbered

      gives : (b : Bool) → given.0 ≡ b → Gives table log (Truth p) b
      gives b e = gives_number found s first table log c over (Truth p) b numbered (subst (IsGiven log (truth_number first p)) e given.1)

    two_equal : ComparesElements s marks EqualTo p q i (j ∷ []) → HasValue EqualTo p (i ∷ j ∷ [])
    two_equal part =
        let numbered : Contains first (Truth p) = truths s marks first atoms p (Theory EqualTo) (i ∷ j ∷ []) part.marked part.term part.bool in
        let truth : (given numbered).0 ≡ same_value (v i) (v j) =
        decided_by s table log c over.whole v i j (given numbered).0 left_value right_value
        (λ e. (over.whole.equalities.equal p i (j ∷ []) part.term (gives numbered true e)).0) (λ e. over.whole.apart.equal p i j part.term (gives numbered false e)) in
        subst (IsGiven log (truth_number first p)) (with_true (given numbered).0 (same_value (v i) (v j)) truth) (given numbered).1

    two_different : ComparesElements s marks Distinct p q i (j ∷ []) → HasValue Distinct p (i ∷ j ∷ [])
    two_different part =
        let numbered : Contains first (Truth p) = truths s marks first atoms p (Theory Distinct) (i ∷ j ∷ []) part.marked part.term part.bool in
        let truth : not (given numbered).0 ≡ same_value (v i) (v j) =
        decided_by s table log c over.whole v i j (not (given numbered).0) left_value right_value
        (λ e. over.whole.equalities.distinct p i j part.term (gives numbered false (is_false (given numbered).0 e)))
        (λ e. over.whole.apart.distinct p i j part.term (gives numbered true (is_true (given numbered).0 e))) in
        subst (IsGiven log (truth_number first p)) (against (given numbered).0 (same_value (v i) (v j)) truth) (given numbered).1

  module _ (decided : EqualityPartIsDecided) (numbers : PartsHaveNumbers) (truths : TruthsHaveNumbers) (p q i : ℕ) where
    not_two : (is : List ℕ) (o : Operator) → All (λ k. k < length s.trees) (i ∷ is) → All (IsElement s q) (i ∷ is) → (length (i ∷ is) ≡ 2 → ⊥)
        → All (IsMadeTrue log) (by_sort (sort_at sorts i) (length (i ∷ is)) (λ int. equality_part s.trees first int o p (i ∷ is))) → All (IsMadeTrue log) (equality_part s.trees first false o p (i ∷ is))
    not_two is o within elements other made =
        subst (λ (ls : List (List Signed)). All (IsMadeTrue log) ls)
        (of_elements (sort_at sorts i) q (length (i ∷ is)) (λ int. equality_part s.trees first int o p (i ∷ is)) (listed q i is within elements) other) made

    equal_by : (is : List ℕ) → ComparesElements s marks EqualTo p q i is → All IsIt (i ∷ is) → All (IsMadeTrue log) (part_clauses_of sorts s.trees first EqualTo p (i ∷ is)) → HasValue EqualTo p (i ∷ is)
    equal_by [] part values made =
        wide decided EqualTo p q i [] part values (All-nil (λ (r : Pair). Contains first (same_atom r))) (not_two [] EqualTo part.term.arguments part.elements (λ e. omega arith) made)
    equal_by (j ∷ []) part values made = two_equal truths p q i j values part
    equal_by (j ∷ k ∷ is) part values made =
        wide decided EqualTo p q i (j ∷ k ∷ is) part values
        (neighbours_have s.trees (sort_of (signature_of s.frames) s.trees) q (Contains first) i (j ∷ k ∷ is) part.elements
        ((numbers s marks first atoms p EqualTo (i ∷ j ∷ k ∷ is) part.marked part.term).equality refl))
        (not_two (j ∷ k ∷ is) EqualTo part.term.arguments part.elements (λ e. omega arith) made)

    different_by : (is : List ℕ) → ComparesElements s marks Distinct p q i is → All IsIt (i ∷ is) → All (IsMadeTrue log) (part_clauses_of sorts s.trees first Distinct p (i ∷ is))
        → IsAssertedDistinct s p (Theory Distinct) (i ∷ is) ⊎ HasValue Distinct p (i ∷ is)
    different_by [] part values made =
        inr (wide decided Distinct p q i [] part values (All-nil (λ (r : Pair). Contains first (same_atom r))) (not_two [] Distinct part.term.arguments part.elements (λ e. omega arith) made))
    different_by (j ∷ []) part values made = inr (two_different truths p q i j values part)
    different_by (j ∷ k ∷ is) part values made = elim ((numbers s marks first atoms p Distinct (i ∷ j ∷ k ∷ is) part.marked part.term).different refl) [
      | inl asserted ↦ inl asserted
      | inr numbered ↦
          inr (wide decided Distinct p q i (j ∷ k ∷ is) part values
          (each_two_have s.trees (sort_of (signature_of s.frames) s.trees) q (Contains first) (i ∷ j ∷ k ∷ is) part.elements numbered)
          (not_two (j ∷ k ∷ is) Distinct part.term.arguments part.elements (λ e. omega arith) made))
    ]

    compared_by : (o : Operator) (is : List ℕ) → ComparesElements s marks o p q i is → All IsIt (i ∷ is) → All (IsMadeTrue log) (part_clauses_of sorts s.trees first o p (i ∷ is))
        → IsAssertedDistinct s p (Theory o) (i ∷ is) ⊎ HasValue o p (i ∷ is)
    compared_by EqualTo is part values made = inr (equal_by is part values made)
    compared_by Distinct is part values made = different_by is part values made
    compared_by o is part values made = absurd (let x : false ≡ true = part.compares in cc)

pub comparisons_are_by_class : NumbersAreFound → EqualityPartIsDecided → PartsHaveNumbers → TruthsHaveNumbers → ComparisonsAreByClass
comparisons_are_by_class found decided numbers truths s marks sorts first table log c v o p q i is atoms kept over part values made =
    compared_by found s marks sorts first table log c v atoms kept over decided numbers truths p q i o is part values made
