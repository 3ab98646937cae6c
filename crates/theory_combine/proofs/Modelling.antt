-- In a settled check each literal of the log is true by the exact values of terms.
use Rattle.std.proofs.Common.{◌≡◌, ◌∙◌, inl, inr, ℕ, ◌<◌, Bool, true, false, List, [], ◌∷◌, length, get_or, All, Contains, Some, refl, sym, ap, ap₂, subst}
use Rattle.std.specs.Prelude.{ℤ, pos, int_le, Option, None, if◌then◌else◌}
use Rattle.std.proofs.lemmas.List.{get_or_default}
use Rattle.std.proofs.lemmas.List.Elements.{All-head, All-tail, Contains-get_or}
use Rattle.literals.specs.Signed.{Signed, sign, literal_true}
use Rattle.smt_meaning.specs.declared.values.Value.{Value}
use Rattle.smt_meaning.specs.declared.values.Value.TheVariants.{Truth as TruthValue, Whole, Element}
use Rattle.smt_meaning.specs.declared.values.Sort.{Sort}
use Rattle.smt_meaning.specs.declared.values.Sort.TheVariants.{Bool as Truths, Int as Ints, Free}
use Rattle.smt_meaning.specs.declared.terms.Operator.TheVariants.{Add, Subtract, Multiply}
use Rattle.smt_meaning.specs.declared.terms.Head.{Head}
use Rattle.smt_meaning.specs.declared.terms.Head.TheVariants.{Numeral, Theory, Symbol, Place}
use Rattle.smt_meaning.specs.declared.clauses.Atom.{Atom}
use Rattle.smt_meaning.specs.declared.clauses.Atom.TheVariants.{Truth, AtMost, Same}
use Rattle.smt_meaning.specs.Declaration.{Declaration}
use Rattle.smt_meaning.specs.Interpretation.{has_sort}
use Rattle.smt_meaning.specs.Term.{Tree, truth_of, number_of, bool_eq, int_eq, same_value}
use Rattle.smt_meaning.specs.Signature.{tree_sort, tree_sorts, with_sorts, stands_with, all_of, if_so, is_bool}
use Rattle.smt_meaning.specs.Nodes.{pick}
use Rattle.smt_meaning.specs.CheckAtoms.{is_leaf_head}
use Rattle.smt_meaning.specs.Stack.{signature_of}
use Rattle.smt_meaning.specs.StackCommand.{Stack}
use Rattle.smt_laws.specs.Flat.{FlatSaysTheSame}
use Rattle.search_port.specs.State.{atom_at}
use Rattle.atom_form.specs.AtomTableNumbers.{IsAt}
use Rattle.equality_clauses.specs.Ties.{literal}
use Rattle.scope_stack.specs.Shown.{IsLawful}
use Rattle.linear_forms.specs.Table.{IsLinked}
use Rattle.congruence.specs.declared.congruence.Congruence.{Congruence}
use Rattle.congruence.specs.Recorded.{AreEqualTerms}
use Rattle.point_closure.specs.Closure.{Equal}
use Rattle.check_atoms.specs.Parts.{IsMarked}
use Rattle.order_clauses.specs.Clauses.{sort_at}
use Rattle.order_clauses.specs.Decided.{IsGiven}
use Rattle.order_clauses.specs.Sound.{HasSort}
use Rattle.first_clauses.proofs.Parts as parts_of
use Rattle.bound_clauses.specs.Laws.{IsNumber}
use Rattle.closure_log.specs.Seen.{IsOfTerms}
use Rattle.closure_log.specs.Whole.{Gives, HasTruth}
use Rattle.closure_log.specs.ByClass.{IsItsClass}
use Rattle.closure_log.proofs.ByClasses.{same_by, still_at}
use Rattle.exact_model.specs.Exact.{exact_at, listed}
use Rattle.exact_model.specs.Sums.{number_of_place}
use Rattle.exact_model.specs.Atoms.{HasMarkedPlaces}
use Rattle.exact_model.specs.Fitting.{IsFullCheck}
use Rattle.exact_model.proofs.Heads.{leaf_value, sum_value}
use Rattle.exact_model.proofs.Comparing.{number_at_place}
use Rattle.theory_combine.specs.declared.parts.Parts.{Parts}
use Rattle.theory_combine.specs.declared.parts.Progress.{Progress}
use Rattle.exact_model.specs.Ends.{atom_exactly, truth_exactly}
use Rattle.theory_combine.specs.Pairs.{IsFit}
use Rattle.theory_combine.specs.Progress.{AreParts, IsUnderWay}
use Rattle.theory_combine.specs.Settled.{IsToldWhereEmpty, number_there}
use Rattle.theory_combine.specs.Settling.{AreSettledValues}
use Rattle.theory_combine.specs.Shown.{IsOfCheck, IsOverLeaves}
use Rattle.theory_combine.proofs.OneSort.{one_sort}

-- ---- heads, sorts and signs

no_sum : (a b : Bool) (q : Sort) → (if a then if_so b Ints else None) ≡ Some q → (q ≡ Ints → ⊥) → ⊥
no_sum true true q h other = other cc
no_sum true false q h other = cc
no_sum false b q h other = cc

-- a numeral, a sum, a difference and a product are Ints
is_leaf_of : (ds : List Declaration) (h : Head) (r : Option (List Sort)) (q : Sort) → with_sorts ds h r ≡ Some q → (q ≡ Ints → ⊥) → is_leaf_head h ≡ true
is_leaf_of ds h None q s other = absurd cc
is_leaf_of ds (Numeral n) (Some []) q s other = absurd (other cc)
is_leaf_of ds (Numeral n) (Some (x ∷ xs)) q s other = absurd cc
is_leaf_of ds (Theory Add) (Some ss) q s other = absurd (no_sum (stands_with Add (length ss)) (all_of Ints ss) q s other)
is_leaf_of ds (Theory Subtract) (Some ss) q s other = absurd (no_sum (stands_with Subtract (length ss)) (all_of Ints ss) q s other)
is_leaf_of ds (Theory Multiply) (Some ss) q s other = absurd (no_sum (stands_with Multiply (length ss)) (all_of Ints ss) q s other)
is_leaf_of ds (Theory o) (Some ss) q s other = refl
is_leaf_of ds (Symbol f) (Some ss) q s other = refl
is_leaf_of ds (Place k) (Some ss) q s other = refl

number_by_sort : (v : Value) → has_sort v Ints ≡ true → IsNumber v
number_by_sort (TruthValue b) h = absurd cc
number_by_sort (Whole n) h = refl
number_by_sort (Element e) h = absurd cc

bool_sort : (r : Sort) → is_bool (Some r) ≡ true → r ≡ Truths
bool_sort Truths h = refl
bool_sort Ints h = absurd cc
bool_sort (Free q) h = absurd cc

own_sign : (b x : Bool) → b ≡ x → sign b x ≡ true
own_sign true true e = refl
own_sign false false e = refl
own_sign true false e = absurd cc
own_sign false true e = absurd cc

one_sort_is : (r q : Sort) → Some r ≡ Some q → r ≡ q
one_sort_is r q e = cc

module _ (p : Parts) (w : Progress) (c : Congruence) (vs : List Value) (way : IsUnderWay p w) (lawful : IsLawful p.stack.now) (settled : AreSettledValues p w c vs) where
  abbrev s : Stack
  s = p.stack.now

  abbrev ts : List Tree
  ts = s.trees

  abbrev ds : List Declaration
  ds = signature_of s.frames

  abbrev marks : List Bool
  marks = p.marks.items

  abbrev table : List Atom
  table = w.atoms.atoms

  abbrev log : List Signed
  log = w.held.closure.log.items

  abbrev check : IsFullCheck s marks table log
  check = settled.check

  abbrev v : ℕ → Value
  v q = exact_at ts vs q

  abbrev sort : ℕ → Sort
  sort q = sort_at check.sorts q

  size : length marks ≡ length ts
  size = check.decided.atoms.size

  within : (q : ℕ) → IsMarked marks q → q < length ts
  within q m = parts_of.within s marks lawful check.parts size q m

  sort_there : (q : ℕ) → IsMarked marks q → HasSort ds ts check.sorts q
  sort_there q m = parts_of.has_sort s marks lawful check.parts size check.sorts check.sorted q m

  link : (q : ℕ) → IsMarked marks q → IsLinked ts q
  link q m = way.0.forms.linked q (within q m)

  -- ---- exact values of marked terms

  is_leaf_there : (q : ℕ) (m : IsMarked marks q) → (sort q ≡ Ints → ⊥) → is_leaf_head (link q m).head ≡ true
  is_leaf_there q m other =
      is_leaf_of ds (link q m).head (tree_sorts ds (pick ts (link q m).arguments)) (sort q) (sym (ap (tree_sort ds) (link q m).tree) ∙ sort_there q m) other

  value_is_listed : (q : ℕ) (m : IsMarked marks q) → is_leaf_head (link q m).head ≡ true → v q ≡ listed vs q
  value_is_listed q m leaf = leaf_value ts vs q (link q m).head (link q m).arguments way.0.different (within q m) (link q m).tree leaf

  truth_listed : (q : ℕ) → IsMarked marks q → sort q ≡ Truths → v q ≡ listed vs q
  truth_listed q m e = value_is_listed q m (is_leaf_there q m (λ i. (let k : Truths ≡ Ints = sym e ∙ i in cc)))

  number_exact : (q : ℕ) → IsMarked marks q → sort q ≡ Ints → IsNumber (v q)
  number_exact q m e = by (is_leaf_head (link q m).head) refl
    where
      by : (b : Bool) → is_leaf_head (link q m).head ≡ b → IsNumber (v q)
      by true leaf =
          let same : v q ≡ listed vs q = value_is_listed q m leaf in
          same ∙ number_by_sort (listed vs q) (sym (ap (has_sort (listed vs q)) e) ∙ settled.sorted q m) ∙ ap (λ x. Whole (number_of x)) (sym same)
      by false sum =
          let is : v q ≡ Whole (number_of_place ts vs q) = sum_value ts vs q (link q m).head (link q m).arguments (link q m).tree sum in
          is ∙ ap (λ x. Whole (number_of x)) (sym is)

  -- ---- signs

  agree : (n : ℕ) (b d : Bool) → IsGiven log n b → IsGiven log n d → b ≡ d
  agree n true true g h = refl
  agree n false false g h = refl
  agree n true false g h = absurd (check.consistent (literal true n) g h)
  agree n false true g h = absurd (check.consistent (literal false n) g h)

  -- ---- truths

  abbrev IsTrue : Signed → Atom → Type 0
  IsTrue l a = sign l.positive (atom_exactly ts vs a) ≡ true

  atom_there : (l : Signed) → l.atom < length table → (a : Atom) → atom_at table l.atom ≡ a → IsAt table l.atom a
  atom_there l less a e = (less, λ d. get_or_default table l.atom d (Truth 0) less ∙ e)

  module _ (l : Signed) (told : Contains log l) (less : l.atom < length table) where
    marked_there : (a : Atom) → atom_at table l.atom ≡ a → HasMarkedPlaces marks a
    marked_there a e = subst (HasMarkedPlaces marks) e (way.1.marked l.atom (Truth 0) less)

    truth_case : (q : ℕ) → atom_at table l.atom ≡ Truth q → IsTrue l (Truth q)
    truth_case q e =
        let m : IsMarked marks q = All-head (IsMarked marks) q [] (marked_there (Truth q) e) in
        let terms : IsOfTerms s (Truth q) = subst (IsOfTerms s) e (way.1.setting.of_terms l.atom (Truth 0) less) in
        let bool : sort q ≡ Truths = bool_sort (sort q) (sym (ap is_bool (sort_there q m)) ∙ terms.1) in
        let is : v q ≡ TruthValue l.positive = truth_listed q m bool ∙ settled.truths l q told (atom_there l less (Truth q) e) in
        own_sign l.positive (truth_of (v q)) (sym (ap truth_of is))

    empty_case : (k : ℤ) → IsToldWhereEmpty table log l.atom → atom_at table l.atom ≡ AtMost [] k → IsTrue l (AtMost [] k)
    empty_case k where_empty e = own_sign l.positive (int_le (pos 0) k) (agree l.atom l.positive (int_le (pos 0) k) told (where_empty k e))

    -- ---- equalities

    module _ (i j : ℕ) (e : atom_at table l.atom ≡ Same i j) where
      at : IsAt table l.atom (Same i j)
      at = atom_there l less (Same i j) e

      left : IsMarked marks i
      left = All-head (IsMarked marks) i (j ∷ []) (marked_there (Same i j) e)

      right : IsMarked marks j
      right = All-head (IsMarked marks) j [] (All-tail (IsMarked marks) i (j ∷ []) (marked_there (Same i j) e))

      -- of elements, by their classes
      its_class : (q r : ℕ) → IsMarked marks q → sort q ≡ Free r → IsItsClass c v q
      its_class q r m h =
          value_is_listed q m (is_leaf_there q m (λ k. (let b : Free r ≡ Ints = sym h ∙ k in cc))) ∙ settled.elements q (record { marked = m; sort = r; has = sort_there q m ∙ ap Some h })

      elements_case : (r : ℕ) → sort i ≡ Free r → sort j ≡ Free r → IsTrue l (Same i j)
      elements_case r f g =
          own_sign l.positive (same_value (v i) (v j)) (same_by s table log c settled.closure v i j l.atom l.positive at told (its_class i r left f) (its_class j r right g))

      -- of Ints, by their numbers
      fit : AreParts p → (q : ℕ) → IsMarked marks q → sort q ≡ Ints → IsFit s marks q
      fit parts q m h = record { within = within q m; marked = m; is_int = sort_there q m ∙ ap Some h; readable = parts.1 q m }

      number_is_there : AreParts p → (q : ℕ) → IsMarked marks q → sort q ≡ Ints → number_of (v q) ≡ number_there ts w.held.bounds.bounds q
      number_is_there parts q m h = sym (number_at_place ts vs q) ∙ settled.numbers q (fit parts q m h)

      ints_case : AreParts p → sort i ≡ Ints → sort j ≡ Ints → IsTrue l (Same i j)
      ints_case parts f g =
          let x = number_there ts w.held.bounds.bounds i in
          let y = number_there ts w.held.bounds.bounds j in
          let as_is : l.positive ≡ int_eq x y = agree l.atom l.positive (int_eq x y) told (settled.ints i j (fit parts i left f) (fit parts j right g) l.atom at) in
          let values : same_value (v i) (v j) ≡ int_eq (number_of (v i)) (number_of (v j)) = ap₂ same_value (number_exact i left f) (number_exact j right g) in
          let numbers : int_eq (number_of (v i)) (number_of (v j)) ≡ int_eq x y = ap₂ int_eq (number_is_there parts i left f) (number_is_there parts j right g) in
          own_sign l.positive (same_value (v i) (v j)) (as_is ∙ sym numbers ∙ sym values)

      -- of Bools, by their truths
      truth_given : (q : ℕ) → IsMarked marks q → sort q ≡ Truths → (b : Bool) × Gives table log (Truth q) b × (v q ≡ TruthValue b)
      truth_given q m h =
          let numbered : Contains check.decided.first (Truth q) = parts_of.truth_numbered s marks lawful check.parts size check.decided.first w.forms check.decided.atoms way.0 q m (sort_there q m ∙ ap Some h) in
          let here : IsAt check.decided.first numbered.0 (Truth q) = (numbered.1, λ d. get_or_default check.decided.first numbered.0 d (Truth q) numbered.1 ∙ numbered.2) in
          let there : IsAt table numbered.0 (Truth q) = still_at check.decided.first table check.decided.more numbered.0 (Truth q) check.decided.table_is here in
          let is : (b : Bool) → IsGiven log numbered.0 b → (d : Bool) × Gives table log (Truth q) d × (v q ≡ TruthValue d) = λ b g.
          (b, record { number = numbered.0; at = there; told = g }, truth_listed q m h ∙ settled.truths (literal b numbered.0) q g there) in
          elim (check.full (literal true numbered.0) there.0) [ inl said ↦ is true said | inr denied ↦ is false denied ]

      same_truths : (d a b : Bool) → HasTruth c i a → HasTruth c j b → (d ≡ true → AreEqualTerms c i j) → (d ≡ false → AreEqualTerms c i j → ⊥) → d ≡ bool_eq a b
      same_truths true true true f g equal apart = refl
      same_truths true false false f g equal apart = refl
      same_truths false true false f g equal apart = refl
      same_truths false false true f g equal apart = refl
      same_truths true true false f g equal apart = absurd (settled.closure.apart.truths (Equal.joined (Equal.turned f) (Equal.joined (equal refl) g)))
      same_truths true false true f g equal apart = absurd (settled.closure.apart.truths (Equal.joined (Equal.turned g) (Equal.joined (Equal.turned (equal refl)) f)))
      same_truths false true true f g equal apart = absurd (apart refl (Equal.joined f (Equal.turned g)))
      same_truths false false false f g equal apart = absurd (apart refl (Equal.joined f (Equal.turned g)))

      bools_case : sort i ≡ Truths → sort j ≡ Truths → IsTrue l (Same i j)
      bools_case f g =
          let x = truth_given i left f in
          let y = truth_given j right g in
          let as_is : l.positive ≡ bool_eq x.0 y.0 =
          same_truths l.positive x.0 y.0 (settled.closure.equalities.truths i x.0 x.1) (settled.closure.equalities.truths j y.0 y.1)
          (λ t. settled.closure.equalities.same i j (record { number = l.atom; at = at; told = subst (IsGiven log l.atom) t told }))
          (λ t. settled.closure.apart.same i j (record { number = l.atom; at = at; told = subst (IsGiven log l.atom) t told })) in
          own_sign l.positive (same_value (v i) (v j)) (as_is ∙ sym (ap₂ same_value x.2 y.2))

      same_case : AreParts p → sort i ≡ sort j → IsTrue l (Same i j)
      same_case parts one = by (sort i) refl
        where
          by : (r : Sort) → sort i ≡ r → IsTrue l (Same i j)
          by Truths f = bools_case f (sym one ∙ f)
          by Ints f = ints_case parts f (sym one ∙ f)
          by (Free r) f = elements_case r f (sym one ∙ f)

      sorts_are_one : FlatSaysTheSame → sort i ≡ sort j
      sorts_are_one flat_law =
          let of_check : IsOfCheck s w.branches (Same i j) = subst (IsOfCheck s w.branches) e (way.3.atoms l.atom (Truth 0) less) in
          one_sort_is (sort i) (sort j) (sym (sort_there i left) ∙ one_sort i j flat_law s marks lawful check.parts size w.branches of_check ∙ sort_there j right)

    -- ---- any atom

    exactly_true : FlatSaysTheSame → AreParts p → IsToldWhereEmpty table log l.atom → (a : Atom) → atom_at table l.atom ≡ a → IsTrue l a
    exactly_true flat_law parts empty (Truth q) e = truth_case q e
    exactly_true flat_law parts empty (AtMost [] k) e = empty_case k empty e
    exactly_true flat_law parts empty (AtMost (x ∷ xs) k) e = settled.bounds l (x ∷ xs) k told e (λ none. cc)
    exactly_true flat_law parts empty (Same i j) e = same_case i j e parts (sorts_are_one i j e flat_law)

    literal_exact : FlatSaysTheSame → AreParts p → IsToldWhereEmpty table log l.atom → literal_true (truth_exactly ts vs table) l ≡ true
    literal_exact flat_law parts empty = exactly_true flat_law parts empty (atom_at table l.atom) refl

-- bounds of the empty sum are told as they are, and so is each other atom
pub told_are_exact : FlatSaysTheSame → (p : Parts) (w : Progress) (c : Congruence) (vs : List Value) → AreParts p → IsUnderWay p w → IsLawful p.stack.now → AreSettledValues p w c vs
    → ((n : ℕ) → n < length w.atoms.atoms → IsToldWhereEmpty w.atoms.atoms w.held.closure.log.items n)
    → All (λ (l : Signed). literal_true (truth_exactly p.stack.now.trees vs w.atoms.atoms) l ≡ true) w.held.closure.log.items
told_are_exact flat_law p w c vs parts way lawful settled told = λ k d less.
    (let l : Signed = get_or w.held.closure.log.items k d in
    let numbered : l.atom < length w.atoms.atoms = way.1.held.told.numbered k d less in
    literal_exact p w c vs way lawful settled l (Contains-get_or w.held.closure.log.items k d less) numbered flat_law parts (told l.atom numbered))

-- the sums of bounds are over leaves
pub atoms_over_leaves : (p : Parts) (w : Progress) → IsUnderWay p w → All (IsOverLeaves p.stack.now) w.atoms.atoms
atoms_over_leaves p w way = way.3.leaves
