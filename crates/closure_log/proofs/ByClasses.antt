-- Values of elements by their classes.
use Rattle.std.proofs.Common.{suc, ◌<◌, ◌&&◌, not, length, map, ◌≡◌, ℕ, ◌+◌, Bool, true, false, nat_eq, List, [], ◌∷◌, ◌++◌, All, Contains, refl, sym, ap, ◌∙◌, subst, inl, inr, arith}
use Rattle.std.specs.Prelude.{slice_index_or, if◌then◌else◌}
use Rattle.std.specs.List.{AllZip}
use Rattle.std.proofs.lemmas.Bool.{eq-eqb, ne_eqb}
use Rattle.std.proofs.lemmas.List.{length-append, get_or_append_left}
use Rattle.std.proofs.lemmas.List.Elements.{All-nil, All-cons, All-head, All-tail}
use Rattle.literals.specs.Signed.{Signed}
use Rattle.smt_meaning.specs.declared.values.Value.{Value}
use Rattle.smt_meaning.specs.declared.values.Value.TheVariants.{Element}
use Rattle.smt_meaning.specs.declared.clauses.Atom.{Atom}
use Rattle.smt_meaning.specs.declared.clauses.Atom.TheVariants.{Truth, Same}
use Rattle.smt_meaning.specs.declared.terms.Operator.TheVariants.{Ite}
use Rattle.smt_meaning.specs.declared.terms.Head.TheVariants.{Theory, Symbol}
use Rattle.smt_meaning.specs.Term.{same_value, truth_of, operate, differ, with_each, pairwise}
use Rattle.smt_meaning.specs.StackCommand.{Stack}
use Rattle.atom_form.specs.AtomTableNumbers.{IsAt}
use Rattle.point_closure.specs.Closure.{Equal}
use Rattle.point_closure.specs.Unions.{root_of}
use Rattle.congruence.specs.declared.congruence.Congruence.{Congruence}
use Rattle.congruence.specs.Recorded.{AreEqualTerms}
use Rattle.check_atoms.specs.OfStack.{IsNode}
use Rattle.order_clauses.specs.declared.pairs.Pair.{Pair}
use Rattle.order_clauses.specs.Pairs.{same_atom}
use Rattle.order_clauses.specs.Numbers.{number_in}
use Rattle.order_clauses.specs.Clauses.{same_number}
use Rattle.order_clauses.specs.Decided.{NumbersAreFound, IsGiven, FitsPairs, same_in}
use Rattle.closure_log.specs.Whole.{Gives, AreInOneClass, IsWholeAndApart}
use Rattle.closure_log.specs.ByClass.{IsItsClass, IsNumberedPair, IsWholeOver, SamenessIsByClass, PairsFitClasses, DistinctsAreByClass, ChoicesAreByClass, ApplicationsAreByClass, BoolsAreByClass}

-- ---- two elements

same_numbers : (b : Bool) (m n : ℕ) → (b ≡ true → m ≡ n) → (b ≡ false → m ≡ n → ⊥) → b ≡ nat_eq m n
same_numbers true m n h k = sym (eq-eqb m n (h refl))
same_numbers false m n h k = sym (ne_eqb m n (k refl))

same_elements : (b : Bool) (m n : ℕ) (x y : Value) → x ≡ Element m → y ≡ Element n → b ≡ nat_eq m n → b ≡ same_value x y
same_elements b m n x y e f h = h ∙ sym (ap (λ (z : Value). same_value z y) e ∙ ap (λ (z : Value). same_value (Element m) z) f)

module _ (s : Stack) (table : List Atom) (log : List Signed) (c : Congruence) (whole : IsWholeAndApart s table log c) where
  one_class : (i j : ℕ) → AreEqualTerms c i j → AreInOneClass c i j
  one_class i j e = (whole.classes.classes i j).1 e

  -- whether two terms are equal, where it is known
  pub decided_by : (v : ℕ → Value) (i j : ℕ) (b : Bool) → IsItsClass c v i → IsItsClass c v j → (b ≡ true → AreEqualTerms c i j) → (b ≡ false → AreEqualTerms c i j → ⊥) → b ≡ same_value (v i) (v j)
  decided_by v i j b e f equal different =
      same_elements b (root_of c.closure.classes.unions (i + 2)) (root_of c.closure.classes.unions (j + 2)) (v i) (v j) e f
      (same_numbers b (root_of c.closure.classes.unions (i + 2)) (root_of c.closure.classes.unions (j + 2)) (λ t. one_class i j (equal t)) (λ t m. different t ((whole.classes.classes i j).0 m)))

  pub same_by : (v : ℕ → Value) (i j n : ℕ) (b : Bool) → IsAt table n (Same i j) → IsGiven log n b → IsItsClass c v i → IsItsClass c v j → b ≡ same_value (v i) (v j)
  same_by v i j n b at given e f = decided_by v i j b e f
      (λ t. whole.equalities.same i j (record { number = n; at = at; told = subst (IsGiven log n) t given }))
      (λ t. whole.apart.same i j (record { number = n; at = at; told = subst (IsGiven log n) t given }))

  pub applications_by : (p q f : ℕ) (is js : List ℕ) → IsNode s.trees p (Symbol f) is → IsNode s.trees q (Symbol f) js → AllZip (AreInOneClass c) is js → AreInOneClass c p q
  applications_by p q f is js n m h = one_class p q (whole.classes.applied p q f is js n m (equal is js h))
    where
      equal : (is js : List ℕ) → AllZip (AreInOneClass c) is js → AllZip (AreEqualTerms c) is js
      equal [] [] h = tt
      equal [] (j ∷ js) h = absurd h
      equal (i ∷ is) [] h = absurd h
      equal (i ∷ is) (j ∷ js) h = ((whole.classes.classes i j).0 h.0, equal is js h.1)

  pub bools_by : (p q : ℕ) (b : Bool) → Gives table log (Truth p) b → Gives table log (Truth q) b → AreInOneClass c p q
  bools_by p q b g h = one_class p q (Equal.joined (whole.equalities.truths p b g) (Equal.turned (whole.equalities.truths q b h)))

  same_branch : (v : ℕ → Value) (p i : ℕ) → IsItsClass c v p → IsItsClass c v i → AreEqualTerms c p i → v p ≡ v i
  same_branch v p i e f h = e ∙ ap Element (one_class p i h) ∙ sym f

  pub choice_by : (v : ℕ → Value) (p t i j : ℕ) (b : Bool) → IsNode s.trees p (Theory Ite) (t ∷ i ∷ j ∷ []) → Gives table log (Truth t) b → b ≡ truth_of (v t) → All (IsItsClass c v) (p ∷ i ∷ j ∷ [])
      → v p ≡ operate Ite (v t ∷ v i ∷ v j ∷ [])
  choice_by v p t i j b n g e h = taken b (truth_of (v t)) e (whole.equalities.choices p t i j b n g)
    where
      its : IsItsClass c v p
      its = All-head (IsItsClass c v) p (i ∷ j ∷ []) h

      branches : All (IsItsClass c v) (i ∷ j ∷ [])
      branches = All-tail (IsItsClass c v) p (i ∷ j ∷ []) h

      taken : (b d : Bool) → b ≡ d → AreEqualTerms c p (if b then i else j) → v p ≡ (if d then v i else v j)
      taken true true e one = same_branch v p i its (All-head (IsItsClass c v) i (j ∷ []) branches) one
      taken false false e one = same_branch v p j its (All-head (IsItsClass c v) j [] (All-tail (IsItsClass c v) i (j ∷ []) branches)) one
      taken true false e one = cc
      taken false true e one = cc

pub sameness_is_by_class : SamenessIsByClass
sameness_is_by_class s table log c v i j n b whole at given e f = same_by s table log c whole v i j n b at given e f

pub applications_are_by_class : ApplicationsAreByClass
applications_are_by_class s table log c p q f is js whole n m h = applications_by s table log c whole p q f is js n m h

pub bools_are_by_class : BoolsAreByClass
bools_are_by_class s table log c p q b whole g h = bools_by s table log c whole p q b g h

-- ---- numbers of the first atoms

pub still_at : (first table more : List Atom) (n : ℕ) (a : Atom) → table ≡ first ++ more → IsAt first n a → IsAt table n a
still_at first table more n a e h =
    subst (λ (atoms : List Atom). IsAt atoms n a) (sym e)
    (omega (arith, length-append first more, h.0), λ d. get_or_append_left first more d n h.0 ∙ h.1 d)

module _ (found : NumbersAreFound) (s : Stack) (first table : List Atom) (log : List Signed) (c : Congruence) (over : IsWholeOver s first table log c) where
  pub number_at : (a : Atom) → Contains first a → IsAt table (number_in first a) a
  number_at a h = still_at first table over.more (number_in first a) a over.table_is (found first a h)

  -- the truth value that the log gives an atom
  pub given_to : (a : Atom) → Contains first a → (b : Bool) × IsGiven log (number_in first a) b
  given_to a h = elim (over.full (record { atom = number_in first a; positive = true }) (number_at a h).0) [
    | inl told ↦ (true, told)
    | inr denied ↦ (false, denied)
  ]

  pub gives_number : (a : Atom) (b : Bool) → Contains first a → IsGiven log (number_in first a) b → Gives table log a b
  gives_number a b h g = record { number = number_in first a; at = number_at a h; told = g }

  pub fits_pairs : (v : ℕ → Value) (qs : List Pair) → All (IsNumberedPair first c v) qs → FitsPairs v log first qs
  fits_pairs v [] h = All-nil (λ (q : Pair). IsGiven log (same_number first q) (same_in v q))
  fits_pairs v (q ∷ qs) h =
      let here : IsNumberedPair first c v q = All-head (IsNumberedPair first c v) q qs h in
      let given : (b : Bool) × IsGiven log (number_in first (same_atom q)) b = given_to (same_atom q) here.number in
      let same : given.0 ≡ same_value (v q.left) (v q.right) =
      same_by s table log c over.whole v q.left q.right (number_in first (same_atom q)) given.0 (number_at (same_atom q) here.number) given.1 here.left here.right in
      All-cons (λ (r : Pair). IsGiven log (same_number first r) (same_in v r)) q qs (subst (IsGiven log (number_in first (same_atom q))) same given.1)
      (fits_pairs v qs (All-tail (IsNumberedPair first c v) q qs h))

pub pairs_fit_classes : NumbersAreFound → PairsFitClasses
pairs_fit_classes found s first table log c v qs over h = fits_pairs found s first table log c over v qs h

pub choices_are_by_class : NumbersAreFound → ChoicesAreByClass
choices_are_by_class found s first table log c v p t i j over n numbered given h =
    choice_by s table log c over.whole v p t i j (truth_of (v t)) n (gives_number found s first table log c over (Truth t) (truth_of (v t)) numbered given) refl h

-- ---- `distinct`

both_true : (a b : Bool) → a ≡ true → b ≡ true → (a && b) ≡ true
both_true true b e f = f
both_true false b e f = absurd cc

module _ (c : Congruence) (v : ℕ → Value) where
  abbrev class_at : ℕ → ℕ
  class_at i = root_of c.closure.classes.unions (i + 2)

  two_differ : (i j : ℕ) → IsItsClass c v i → IsItsClass c v j → (class_at i ≡ class_at j → ⊥) → differ (v i) (v j) ≡ true
  two_differ i j e f h =
      ap not (sym (same_elements false (class_at i) (class_at j) (v i) (v j) e f (sym (ne_eqb (class_at i) (class_at j) h))))

  each_differs : (i : ℕ) (is : List ℕ) → IsItsClass c v i → All (IsItsClass c v) is → ((k : ℕ) → k < length is → class_at i ≡ class_at (slice_index_or is k 0) → ⊥) → with_each differ (v i) (map v is) ≡ true
  each_differs i [] e all h = refl
  each_differs i (j ∷ js) e all h =
      both_true (differ (v i) (v j)) (with_each differ (v i) (map v js)) (two_differ i j e (All-head (IsItsClass c v) j js all) (h 0 (omega arith)))
      (each_differs i js e (All-tail (IsItsClass c v) j js all) (λ k less. h (suc k) (omega arith)))

  all_differ : (is : List ℕ) → All (IsItsClass c v) is → ((j k : ℕ) → j < k → k < length is → class_at (slice_index_or is j 0) ≡ class_at (slice_index_or is k 0) → ⊥) → pairwise differ (map v is) ≡ true
  all_differ [] all h = refl
  all_differ (i ∷ is) all h =
      both_true (with_each differ (v i) (map v is)) (pairwise differ (map v is))
      (each_differs i is (All-head (IsItsClass c v) i is all) (All-tail (IsItsClass c v) i is all) (λ k less. h 0 (suc k) (omega arith) (omega arith)))
      (all_differ is (All-tail (IsItsClass c v) i is all) (λ j k before less. h (suc j) (suc k) (omega arith) (omega arith)))

pub distincts_are_by_class : NumbersAreFound → DistinctsAreByClass
distincts_are_by_class found s first table log c v p is over keeps n numbered given h =
    all_differ c v is h
    (λ j k before less e.
    keeps is (record { tree = n.tree; within = n.arguments }) (gives_number found s first table log c over (Truth p) true numbered given) j k before less
    ((over.whole.classes.classes (slice_index_or is j 0) (slice_index_or is k 0)).0 e))
