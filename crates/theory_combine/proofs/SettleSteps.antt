-- Steps to a settled check: what is listed by the places of terms, and Ints that are told apart.
use Rattle.std.proofs.Common.{◌≡◌, ◌∙◌, ℕ, ◌+◌, ◌<◌, inl, inr, Bool, true, false, List, [], ◌∷◌, ◌++◌, length, get_or, below_more, All, Contains, refl, sym, ap, subst}
use Rattle.std.specs.Prelude.{ℤ, slice_index_or, if◌then◌else◌}
use Rattle.std.proofs.lemmas.List.{get_or_append_left, get_or_default, get_or_push}
use Rattle.std.proofs.lemmas.List.Elements.{All-head}
use Rattle.literals.specs.Signed.{Signed}
use Rattle.smt_meaning.specs.declared.values.Value.{Value}
use Rattle.smt_meaning.specs.declared.values.Value.TheVariants.{Truth as TruthOf, Whole, Element}
use Rattle.smt_meaning.specs.declared.values.Sort.{Sort}
use Rattle.smt_meaning.specs.declared.values.Sort.TheVariants.{Bool as Truths, Int as Ints}
use Rattle.smt_meaning.specs.declared.clauses.Atom.{Atom}
use Rattle.smt_meaning.specs.declared.clauses.Atom.TheVariants.{Truth, Same}
use Rattle.smt_meaning.specs.Term.{Tree, int_eq, number_of}
use Rattle.smt_meaning.specs.Stack.{signature_of}
use Rattle.smt_laws.proofs.SameValue.{int_eq-self}
use Rattle.scope_stack.specs.Facts.{AreSorts}
use Rattle.scope_stack.specs.Shown.{IsLawful}
use Rattle.atom_form.specs.AtomTableNumbers.{IsAt, AreApart}
use Rattle.search_port.specs.State.{IsConsistent}
use Rattle.equality_clauses.specs.Ties.{literal}
use Rattle.point_closure.specs.Unions.{root_of}
use Rattle.congruence.specs.declared.congruence.Congruence.{Congruence}
use Rattle.congruence.specs.Recorded.{AreEqualTerms}
use Rattle.closure_log.specs.Distinct.{KeepsDistinct}
use Rattle.closure_log.specs.Whole.{Gives, IsWholeAndApart}
use Rattle.closure_log.proofs.Reading.{one_place}
use Rattle.bound_log.specs.Values.{AreMet}
use Rattle.first_clauses.specs.Laws.{PartsHoldOfEach}
use Rattle.model_eval.specs.Walk.{is_marked}
use Rattle.model_build.specs.declared.given.Given.{Given}
use Rattle.model_build.specs.declared.given.Given.TheVariants.{Unmarked}
use Rattle.model_build.specs.Given.{given_at}
use Rattle.model_build.specs.Building.{is_given_of}
use Rattle.exact_model.specs.Exact.{AreGivenExactly, exact_at, given_of, listed, number_at}
use Rattle.exact_model.specs.Sums.{number_of_place}
use Rattle.exact_model.specs.Atoms.{HasMarkedPlaces}
use Rattle.exact_model.specs.Fitting.{FitTruths, HaveListedSorts, IsFullCheck}
use Rattle.exact_model.proofs.Comparing.{number_at_place}
use Rattle.theory_combine.specs.declared.parts.Parts.{Parts}
use Rattle.theory_combine.specs.declared.parts.Progress.{Progress}
use Rattle.theory_combine.specs.Held.{IsHeld}
use Rattle.theory_combine.specs.Pairs.{IsFit}
use Rattle.theory_combine.specs.Ready.{IsAtLast}
use Rattle.theory_combine.specs.Settled.{number_there}
use Rattle.theory_combine.specs.Settling.{HasToldTruth, AreToldTruths, IsMarkedElement, AreAtomsTold, AreIntsTold, AreSettledValues, HaveOtherNumbers, KeepsInts, AreTellable, HasTellableInts}
use Rattle.theory_combine.proofs.Deciding.{decided_at_last}
use Rattle.theory_combine.proofs.Marking.{marked_within}
use Rattle.theory_combine.proofs.Reaching.{last_whole}

-- ---- what is listed

-- what holds of each item of a list, by its number, holds of one more
pub pushed : {A : Type 0} (P : ℕ → A → Type 0) (xs : List A) (d x : A) (n : ℕ) → length xs ≡ n → ((q : ℕ) → q < n → P q (get_or xs q d)) → P n x → (q : ℕ) → q < n + 1 → P q (get_or (xs ++ x ∷ []) q d)
pushed P xs d x n size each one =
    below_more (λ q. P q (get_or (xs ++ x ∷ []) q d)) n
    (λ q less. subst (P q) (sym (get_or_append_left xs (x ∷ []) d q (subst (λ m. q < m) (sym size) less))) (each q less))
    (subst (P n) (sym (get_or_push xs x d n size)) one)

-- an atom has one sign
one_sign : (log : List Signed) (n : ℕ) (b s : Bool) → IsConsistent log → Contains log (literal b n) → Contains log (literal s n) → b ≡ s
one_sign log n true true consistent t u = refl
one_sign log n true false consistent t u = absurd (consistent (literal true n) t u)
one_sign log n false true consistent t u = absurd (consistent (literal true n) u t)
one_sign log n false false consistent t u = refl

pub truth_told : (table : List Atom) (log : List Signed) (q n : ℕ) (b : Bool) → AreApart table → IsConsistent log → IsAt table n (Truth q) → Contains log (literal b n) → HasToldTruth table log q b
truth_told table log q n b apart consistent at told l other is =
    one_sign log l.atom b l.positive consistent (subst (λ m. Contains log (literal b m)) (one_place table n l.atom (Truth q) apart at is) told) other

-- ---- Ints that are told apart

pub ints_told : (p : Parts) (w : Progress) → AreAtomsTold p w → AreIntsTold p w
ints_told p w told i j left right n at = ((told n at.0).same i j (at.1 (Truth 0)) left right).same n at

value_whole : (v : Value) → is_given_of (given_of v) Ints ≡ true → v ≡ Whole (number_of v)
value_whole (TruthOf b) h = cc
value_whole (Whole n) h = refl
value_whole (Element e) h = cc

module _ (p : Parts) (vs : List Value) (sorts : List Sort) (gs : List Given) (sorted : AreSorts (signature_of p.stack.now.frames) p.stack.now.trees (length p.stack.now.trees) sorts)
    (exactly : AreGivenExactly p.stack.now.trees p.marks.items sorts vs gs) where
  given_is : (i : ℕ) → IsFit p.stack.now p.marks.items i → given_at gs i ≡ given_of (exact_at p.stack.now.trees vs i)
  given_is i fit = (exactly.each i fit.within).exact ∙ ap (λ (b : Bool). if b then given_of (exact_at p.stack.now.trees vs i) else Unmarked) fit.marked

  -- a marked Int is given its number
  exact_number : (i : ℕ) → IsFit p.stack.now p.marks.items i → exact_at p.stack.now.trees vs i ≡ Whole (number_of_place p.stack.now.trees vs i)
  exact_number i fit =
      let ts : List Tree = p.stack.now.trees in
      let int : slice_index_or sorts i Truths ≡ Ints = sorted.each i Ints fit.within fit.is_int in
      let of_int : is_given_of (given_at gs i) Ints ≡ true = subst (λ (s : Sort). is_given_of (given_at gs i) s ≡ true) int ((exactly.each i fit.within).sorted fit.marked) in
      value_whole (exact_at ts vs i) (subst (λ (g : Given). is_given_of g Ints ≡ true) (given_is i fit) of_int) ∙ ap Whole (sym (number_at_place ts vs i))

  given_number : (i : ℕ) → IsFit p.stack.now p.marks.items i → given_at gs i ≡ given_of (Whole (number_of_place p.stack.now.trees vs i))
  given_number i fit = given_is i fit ∙ ap given_of (exact_number i fit)

  module _ (w : Progress) (c : Congruence) (settled : AreSettledValues p w c vs) where
    -- two of one number are given the same, and a numbered equality of them is told to be true
    told_equal : (i j : ℕ) → IsFit p.stack.now p.marks.items i → IsFit p.stack.now p.marks.items j → number_of_place p.stack.now.trees vs i ≡ number_of_place p.stack.now.trees vs j
        → Contains w.atoms.atoms (Same i j) → Gives w.atoms.atoms w.held.closure.log.items (Same i j) true
    told_equal i j left right same among =
        let ts : List Tree = p.stack.now.trees in
        let m : ℤ = number_there ts w.held.bounds.bounds i in
        let n : ℤ = number_there ts w.held.bounds.bounds j in
        let equal : m ≡ n = sym (settled.numbers i left) ∙ same ∙ settled.numbers j right in
        let at : IsAt w.atoms.atoms among.0 (Same i j) = (among.1, λ d. get_or_default w.atoms.atoms among.0 d (Same i j) among.1 ∙ among.2) in
        record {
          number = among.0;
          at = at;
          told = subst (λ b. Contains w.held.closure.log.items (literal b among.0)) (ap (int_eq m) (sym equal) ∙ int_eq-self m) (settled.ints i j left right among.0 at);
        }

    tellable_apart : (i j : ℕ) → AreTellable p w gs i j → (AreEqualTerms c i j → ⊥) → IsFit p.stack.now p.marks.items i → IsFit p.stack.now p.marks.items j → HaveOtherNumbers p.stack.now.trees vs i j
    tellable_apart i j tellable apart left right same = elim (tellable left right) [
      | inl among ↦ apart (settled.closure.equalities.same i j (told_equal i j left right same among))
      | inr differ ↦ differ (given_number i left ∙ ap (λ n. given_of (Whole n)) same ∙ sym (given_number j right))
    ]

    -- where each equality that lacks a number is of Ints that are given different values, true wide `distinct`s keep their Ints apart
    pub ints_apart : All (KeepsDistinct p.stack.now.trees w.atoms.atoms w.held.closure.log.items c) p.wide_distincts.items → All (HasTellableInts p w gs) p.wide_distincts.items → All (KeepsInts p w vs) p.wide_distincts.items
    ints_apart keeps tellable q d less is distinct told j k before within =
        tellable_apart (slice_index_or is j 0) (slice_index_or is k 0) (tellable q d less is distinct j k before within) (keeps q d less is distinct told j k before within)

-- ---- settled values

module _ (p : Parts) (w : Progress) (at_last : IsAtLast p w) where
  held : IsHeld p.stack.now w.atoms.atoms w.held
  held = at_last.ready.under_way.1.held

  within : (i : ℕ) → is_marked p.marks.items i ≡ true → i < length p.stack.now.trees
  within i marked = subst (λ n. i < n) at_last.ready.parts.0.size (marked_within p.marks.items i marked)

  -- a term whose truth has a number is marked
  truth_marked : (n q : ℕ) → IsAt w.atoms.atoms n (Truth q) → is_marked p.marks.items q ≡ true
  truth_marked n q at = All-head (λ i. is_marked p.marks.items i ≡ true) q [] (subst (HasMarkedPlaces p.marks.items) (at.1 (Truth 0)) (at_last.ready.under_way.1.marked n (Truth 0) at.0))

  -- truths by place are all that the log tells
  pub told_by_place : (truths : List Bool) → AreToldTruths w.atoms.atoms w.held.closure.log.items (length p.stack.now.trees) truths → (l : Signed) (q : ℕ) → Contains w.held.closure.log.items l → IsAt w.atoms.atoms l.atom (Truth q)
      → slice_index_or truths q false ≡ l.positive
  told_by_place truths told l q among at = told q (within q (truth_marked l.atom q at)) l among at

  pub full_check : PartsHoldOfEach → IsLawful p.stack.now → (sorts : List Sort) → AreSorts (signature_of p.stack.now.frames) p.stack.now.trees (length p.stack.now.trees) sorts
      → IsFullCheck p.stack.now p.marks.items w.atoms.atoms w.held.closure.log.items
  full_check of_each law sorts sorted = record {
    parts = at_last.ready.parts.2;
    sorts = sorts;
    sorted = sorted;
    decided = decided_at_last of_each p w sorts law sorted at_last;
    consistent = held.told.consistent;
    full = (last_whole p.stack.now w.stopped_at w.atoms.atoms w.held.closure.log.items at_last.ready.under_way.2 at_last.last).full;
  }

  -- listed values are settled, which are of their sorts, fit the log, are the classes of elements, and give Ints the numbers of their forms
  pub settled_values : PartsHoldOfEach → IsLawful p.stack.now → (c : Congruence) (vs : List Value) (sorts : List Sort) (classes : List ℕ) → AreSorts (signature_of p.stack.now.frames) p.stack.now.trees (length p.stack.now.trees) sorts
      → IsWholeAndApart p.stack.now w.atoms.atoms w.held.closure.log.items c → AreAtomsTold p w → HaveListedSorts p.marks.items sorts vs → FitTruths w.atoms.atoms w.held.closure.log.items vs → AreMet w.atoms.atoms (number_at vs) w.held.bounds.log
      → ((i : ℕ) → i < length p.stack.now.trees → slice_index_or classes i 0 ≡ root_of c.closure.classes.unions (i + 2)) → ((i : ℕ) → IsMarkedElement p.stack.now p.marks.items i → listed vs i ≡ Element (slice_index_or classes i 0))
      → ((i : ℕ) → IsFit p.stack.now p.marks.items i → number_of_place p.stack.now.trees vs i ≡ number_there p.stack.now.trees w.held.bounds.bounds i) → AreSettledValues p w c vs
  unfolding full_check
  settled_values of_each law c vs sorts classes sorted closure told have_sorts truths met numbered elements numbers = record {
    check = full_check of_each law sorts sorted;
    sorted = have_sorts;
    truths = truths;
    bounds = subst (λ (log : List Signed). AreMet w.atoms.atoms (number_at vs) log) held.same met;
    closure = closure;
    elements = λ i element. elements i element ∙ ap Element (numbered i (within i element.marked));
    numbers = numbers;
    ints = ints_told p w told;
  }
