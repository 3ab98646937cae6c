-- A log that tells each atom tells of truths and bounds what holds of listed values that fit it.
use Rattle.std.proofs.Common.{◌≡◌, inl, inr, ℕ, ◌<◌, Bool, true, false, not, List, [], ◌∷◌, ◌++◌, length, All, Contains, Some, refl, sym, ap, subst, ◌∙◌, arith, length-append}
use Rattle.std.specs.Prelude.{◌⊎◌, ℤ, pos, int_le}
use Rattle.std.proofs.lemmas.List.{get_or_append_left}
use Rattle.std.proofs.lemmas.List.Elements.{All-nil, All-cons, All-head, All-contains}
use Rattle.literals.specs.Signed.{Signed, sign}
use Rattle.smt_meaning.specs.declared.values.Value.{Value}
use Rattle.smt_meaning.specs.declared.values.Value.TheVariants.{Truth, Whole, Element}
use Rattle.smt_meaning.specs.declared.values.Sort.TheVariants.{Bool as Truths, Int as Ints}
use Rattle.smt_meaning.specs.declared.clauses.Summand.{Summand}
use Rattle.smt_meaning.specs.declared.clauses.Atom.{Atom}
use Rattle.smt_meaning.specs.declared.clauses.Atom.TheVariants.{Truth as TruthAtom, AtMost}
use Rattle.smt_meaning.specs.Declaration.{Declaration}
use Rattle.smt_meaning.specs.Term.{Tree, truth_of, number_of}
use Rattle.smt_meaning.specs.Interpretation.{has_sort}
use Rattle.smt_meaning.specs.Signature.{tree_sort, tree_sorts}
use Rattle.smt_meaning.specs.Nodes.{pick}
use Rattle.smt_meaning.specs.Linear.{summand}
use Rattle.smt_meaning.specs.Atoms.{sum_gcd, divided, each_divided, normal_bound}
use Rattle.smt_meaning.specs.Ranges.{sum_at}
use Rattle.smt_meaning.specs.CheckAtoms.{is_leaf_head}
use Rattle.smt_meaning.specs.Stack.{signature_of}
use Rattle.smt_meaning.specs.StackCommand.{Stack}
use Rattle.search_port.specs.State.{IsMadeTrue}
use Rattle.atom_form.specs.AtomTableNumbers.{IsAt}
use Rattle.scope_stack.specs.Shown.{IsLawful}
use Rattle.linear_forms.specs.Table.{Known, IsLinked}
use Rattle.bound_clauses.specs.Laws.{IsNumber}
use Rattle.equality_clauses.specs.Ties.{literal}
use Rattle.check_atoms.specs.Parts.{IsMarked}
use Rattle.check_atoms.specs.OfStack.{AreCheckAtoms}
use Rattle.check_atoms.specs.Laws.{PartsHaveNumbers}
use Rattle.order_clauses.specs.Numbers.{number_in}
use Rattle.order_clauses.specs.Clauses.{sort_at, truth_number, constant_of}
use Rattle.order_clauses.specs.Decided.{NumbersAreFound, IsGiven}
use Rattle.order_clauses.specs.Sound.{HasSort}
use Rattle.first_clauses.proofs.Parts as parts_of
use Rattle.exact_model.specs.Exact.{listed, number_at, exact_at, AreListed}
use Rattle.exact_model.specs.Sums.{number_of_place}
use Rattle.exact_model.specs.Fitting.{AreFitting}
use Rattle.exact_model.proofs.Heads.{leaf_value, sum_value}
use Rattle.exact_model.proofs.Leafs.{sum_sort}
use Rattle.exact_model.proofs.NormalBounds.{normal_holds}

-- ---- sorts

truth_by_sort : (v : Value) → has_sort v Truths ≡ true → v ≡ Truth (truth_of v)
truth_by_sort (Truth b) h = refl
truth_by_sort (Whole n) h = absurd cc
truth_by_sort (Element e) h = absurd cc

number_by_sort : (v : Value) → has_sort v Ints ≡ true → IsNumber v
number_by_sort (Truth b) h = absurd cc
number_by_sort (Whole n) h = refl
number_by_sort (Element e) h = absurd cc

contrary : (b x : Bool) → x ≡ b → sign (not b) x ≡ true → ⊥
contrary true true e h = cc
contrary true false e h = cc
contrary false true e h = cc
contrary false false e h = cc

opposed : (v : Value) → v ≡ Truth (not (truth_of v)) → ⊥
opposed v e = by (truth_of v) (ap truth_of e)
  where
    by : (b : Bool) → b ≡ not b → ⊥
    by true h = cc
    by false h = cc

-- an atom of the first part of a table
pub in_longer : (first more table : List Atom) (n : ℕ) (a : Atom) → table ≡ first ++ more → IsAt first n a → IsAt table n a
in_longer first more table n a e at =
    subst (λ (t : List Atom). IsAt t n a) (sym e) (let size = length-append first more in let less = at.0 in (omega (arith, less, size), λ d. get_or_append_left first more d n at.0 ∙ at.1 d))

-- ---- a check with listed values that fit its log

pub record Case : Type 0 where
  pub stack : Stack
  pub marks : List Bool
  pub known : List Known
  pub values : List Value
  pub lawful : IsLawful stack
  pub listed : AreListed stack.trees known values
  pub fitting : AreFitting stack marks values
  pub numbers : PartsHaveNumbers
  pub found : NumbersAreFound

module _ (c : Case) where
  abbrev pub ts : List Tree
  ts = c.stack.trees

  abbrev pub ds : List Declaration
  ds = signature_of c.stack.frames

  -- the atoms with which the check began
  abbrev pub first : List Atom
  first = c.fitting.check.decided.first

  pub atoms : AreCheckAtoms c.stack c.marks first
  atoms = c.fitting.check.decided.atoms

  -- ---- what the log tells

  either : (n : ℕ) (a : Atom) (b : Bool) → IsAt first n a → (Contains c.fitting.log (literal (not b) n) → ⊥) → IsGiven c.fitting.log n b
  either n a b at other = elim (c.fitting.check.full (literal b n) (in_longer first c.fitting.check.decided.more c.fitting.table n a c.fitting.check.decided.table_is at).0) [ inl told ↦ told | inr told ↦ absurd (other told) ]

  bound_given : (s : Summand) (sum : List Summand) (k : ℤ) (b : Bool) → int_le (sum_at (number_at c.values) (s ∷ sum)) k ≡ b → Contains first (AtMost (s ∷ sum) k)
      → IsGiven c.fitting.log (number_in first (AtMost (s ∷ sum) k)) b
  bound_given s sum k b e has =
      let a : Atom = AtMost (s ∷ sum) k in
      let n : ℕ = number_in first a in
      let at : IsAt first n a = c.found first a has in
      either n a b at (λ told. contrary b (int_le (sum_at (number_at c.values) (s ∷ sum)) k) e (c.fitting.bounds (literal (not b) n) (s ∷ sum) k told (at.1 (TruthAtom 0)) (λ none. cc)))

  only_given : (l : Signed) → IsMadeTrue c.fitting.log (l ∷ []) → Contains c.fitting.log l
  only_given l made = All-contains (λ m. Contains c.fitting.log m → Contains c.fitting.log l) (l ∷ []) made.0 (All-cons (λ m. Contains c.fitting.log m → Contains c.fitting.log l) l [] (λ told. told) (All-nil (λ m. Contains c.fitting.log m → Contains c.fitting.log l))) made.1 made.2

  -- a normal bound that is numbered, where the clause of a bound of the empty sum is made true
  pub normal_given : (sum : List Summand) (k : ℤ) (b : Bool) → int_le (sum_at (number_at c.values) sum) k ≡ b → Contains first (normal_bound sum k)
      → All (IsMadeTrue c.fitting.log) (constant_of (number_in first (normal_bound sum k)) (normal_bound sum k)) → IsGiven c.fitting.log (number_in first (normal_bound sum k)) b
  normal_given [] k b e has made =
      let n : ℕ = number_in first (AtMost [] k) in
      let l : Signed = literal (int_le (pos 0) k) n in
      subst (λ x. IsGiven c.fitting.log n x) e (only_given l (All-head (IsMadeTrue c.fitting.log) (l ∷ []) [] made))
  normal_given (s ∷ sum) k b e has made =
      let g : ℤ = pos (sum_gcd (s ∷ sum)) in
      bound_given (summand s.term (divided s.coefficient g)) (each_divided g sum) (divided k g) b (normal_holds (number_at c.values) (s ∷ sum) k ∙ e) has

  -- ---- parts

  pub within : (p : ℕ) → IsMarked c.marks p → p < length ts
  within p m = parts_of.within c.stack c.marks c.lawful c.fitting.check.parts atoms.size p m

  pub sort_there : (p : ℕ) → IsMarked c.marks p → HasSort ds ts c.fitting.check.sorts p
  sort_there p m = parts_of.has_sort c.stack c.marks c.lawful c.fitting.check.parts atoms.size c.fitting.check.sorts c.fitting.check.sorted p m

  its_link : (p : ℕ) → IsMarked c.marks p → IsLinked ts p
  its_link p m = c.listed.forms.forms.linked p (within p m)

  -- the exact value of a part is the listed one, or the part is a numeral, a sum, a difference or a product
  value_at : (p : ℕ) → IsMarked c.marks p → (exact_at ts c.values p ≡ listed c.values p) ⊎ ((exact_at ts c.values p ≡ Whole (number_of_place ts c.values p)) × (sort_at c.fitting.check.sorts p ≡ Ints))
  value_at p m = by (is_leaf_head link.head) refl
    where
      link : IsLinked ts p
      link = its_link p m

      by : (b : Bool) → is_leaf_head link.head ≡ b
          → (exact_at ts c.values p ≡ listed c.values p) ⊎ ((exact_at ts c.values p ≡ Whole (number_of_place ts c.values p)) × (sort_at c.fitting.check.sorts p ≡ Ints))
      by true e = inl (leaf_value ts c.values p link.head link.arguments c.listed.forms.different (within p m) link.tree e)
      by false e =
          inr (
            sum_value ts c.values p link.head link.arguments link.tree e,
            sum_sort ds link.head (tree_sorts ds (pick ts link.arguments)) (sort_at c.fitting.check.sorts p) e (sym (ap (tree_sort ds) link.tree) ∙ sort_there p m),
          )

  -- ---- Bools

  pub truth_listed : (p : ℕ) → IsMarked c.marks p → sort_at c.fitting.check.sorts p ≡ Truths → exact_at ts c.values p ≡ listed c.values p
  truth_listed p m e = elim (value_at p m) [ inl same ↦ same | inr other ↦ absurd (let k : Truths ≡ Ints = sym e ∙ other.1 in cc) ]

  is_truth : (p : ℕ) → IsMarked c.marks p → sort_at c.fitting.check.sorts p ≡ Truths → listed c.values p ≡ Truth (truth_of (listed c.values p))
  is_truth p m e = truth_by_sort (listed c.values p) (sym (ap (has_sort (listed c.values p)) e) ∙ c.fitting.sorted p m)

  pub truth_exact : (p : ℕ) → IsMarked c.marks p → sort_at c.fitting.check.sorts p ≡ Truths → exact_at ts c.values p ≡ Truth (truth_of (exact_at ts c.values p))
  truth_exact p m e = let same = truth_listed p m e in same ∙ is_truth p m e ∙ ap (λ v. Truth (truth_of v)) (sym same)

  truth_at : (p : ℕ) → IsMarked c.marks p → sort_at c.fitting.check.sorts p ≡ Truths → IsAt first (truth_number first p) (TruthAtom p)
  truth_at p m e =
      c.found first (TruthAtom p) (parts_of.truth_numbered c.stack c.marks c.lawful c.fitting.check.parts atoms.size first c.known atoms c.listed.forms p m (sort_there p m ∙ ap Some e))

  -- the log tells the truth of a Bool as its exact value has it
  pub truth_given : (p : ℕ) → IsMarked c.marks p → sort_at c.fitting.check.sorts p ≡ Truths → IsGiven c.fitting.log (truth_number first p) (truth_of (exact_at ts c.values p))
  truth_given p m e =
      let n : ℕ = truth_number first p in
      let at : IsAt first n (TruthAtom p) = truth_at p m e in
      let b : Bool = truth_of (exact_at ts c.values p) in
      either n (TruthAtom p) b at (λ told. opposed (exact_at ts c.values p) (truth_listed p m e ∙ c.fitting.truths (literal (not b) n) p told at))

  -- and a truth that it tells is the exact value
  pub truth_told : (p : ℕ) (b : Bool) → IsMarked c.marks p → sort_at c.fitting.check.sorts p ≡ Truths → IsGiven c.fitting.log (truth_number first p) b → exact_at ts c.values p ≡ Truth b
  truth_told p b m e told = let n : ℕ = truth_number first p in truth_listed p m e ∙ c.fitting.truths (literal b n) p told (truth_at p m e)

  -- ---- Ints

  pub number_exact : (p : ℕ) → IsMarked c.marks p → sort_at c.fitting.check.sorts p ≡ Ints → IsNumber (exact_at ts c.values p)
  number_exact p m e = elim (value_at p m) [
    | inl same ↦ same ∙ number_by_sort (listed c.values p) (sym (ap (has_sort (listed c.values p)) e) ∙ c.fitting.sorted p m) ∙ ap (λ v. Whole (number_of v)) (sym same)
    | inr other ↦ other.0 ∙ ap (λ v. Whole (number_of v)) (sym other.0)
  ]
