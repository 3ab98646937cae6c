-- What places are given, one after another, can be given.
use Rattle.std.proofs.Common.{◌≡◌, ℕ, ◌+◌, ◌<◌, ◌≤◌, Bool, true, false, List, [], ◌∷◌, ◌++◌, length, map, All, refl, sym, ap, subst, ◌∙◌, inl, inr, arith}
use Rattle.std.specs.Prelude.{◌⊎◌, ℤ, slice_index_or}
use Rattle.std.proofs.lemmas.Bool.{cases_lt}
use Rattle.std.proofs.lemmas.List.{get_or_past, get_or_push, get_or_append_left}
use Rattle.std.proofs.lemmas.List.Elements.{All-nil, All-cons, All-head, All-tail, All-weaker}
use Rattle.smt_meaning.specs.declared.values.Sort.{Sort}
use Rattle.smt_meaning.specs.declared.values.Sort.TheVariants.{Bool as Truths, Int as Ints}
use Rattle.smt_meaning.specs.declared.terms.Head.{Head}
use Rattle.smt_meaning.specs.Declaration.{Declaration}
use Rattle.smt_meaning.specs.Term.{Tree, Trees, node, tree_at}
use Rattle.smt_meaning.specs.Parts.{IsArgument, StandsBelow, AreInOrder}
use Rattle.smt_meaning.specs.Signature.{tree_sort}
use Rattle.term_store.specs.Terms.{AreDifferent}
use Rattle.model_build.specs.declared.given.Given.{Given}
use Rattle.model_build.specs.declared.given.Given.TheVariants.{Unmarked, InRange, PastRange}
use Rattle.model_build.specs.Given.{given_at, is_marked, is_past, arguments_of, givens, IsApplication}
use Rattle.model_build.specs.Building.{is_given_of, IsGivenOf, AreGiven}
use Rattle.model_build.proofs.Reading.{givens-pick}
use Rattle.check_atoms.specs.Parts.{IsMarked}
use Rattle.check_atoms.proofs.StackAtomsPlaces.{Picked, picked}
use Rattle.scope_stack.specs.Facts.{AreSorts}
use Rattle.model_build.specs.Parts.{AreSortedParts}
use Rattle.model_build.specs.WorkedOut.{is_worked_out, worked_out, IsWorkedOut, AreWorkedOut}
use Rattle.model_build.specs.Values.{GiveNoOthers, chosen, AllWorkedOut, IsNextWorkedOut, GiveChosen, IsPlaceGiven, AllGiven}

marked_given : (g : Given) (s : Sort) → is_given_of g s ≡ true → is_marked g ≡ true
marked_given Unmarked s h = absurd cc
marked_given (InRange v) s h = refl
marked_given PastRange s h = refl

pub mark_within : (marks : List Bool) (p : ℕ) → IsMarked marks p → p < length marks
mark_within marks p m = by (cases_lt p (length marks))
  where
    by : (p < length marks) ⊎ (length marks ≤ p) → p < length marks
    by (inl h) = h
    by (inr h) = let e : slice_index_or marks p false ≡ false = get_or_past marks p false h in absurd cc

-- the arguments of a tree that stands in a list in order, by their places
pub arguments_picked : (trees : List Tree) (order : AreInOrder trees) (p : ℕ) (h : Head) (us : Trees) → p < length trees → tree_at trees p ≡ node h us → Picked trees us
arguments_picked trees order p h us less e =
    picked trees us (λ u c. (
    let b : StandsBelow trees p u = order.after_arguments p u less (subst (IsArgument u) (sym e) c) in
    (b.0, b.2, b.3)
    ))

pub different_of : (trees : List Tree) → AreInOrder trees → AreDifferent trees
different_of trees order j k l h e = let same : j ≡ k = order.different j k (omega arith) h e in omega arith

-- ---- what is given by the marks and the sorts

pub record AreGivenAt (trees : List Tree) (marks : List Bool) (sorts : List Sort) (gs : List Given) : Type 0 where
  pub unmarked : (p : ℕ) → p < length trees → slice_index_or marks p false ≡ false → given_at gs p ≡ Unmarked
  pub sorted : (p : ℕ) → p < length trees → IsMarked marks p → is_given_of (given_at gs p) (slice_index_or sorts p Truths) ≡ true

module _ (ds : List Declaration) (trees : List Tree) (marks : List Bool) (sorts : List Sort) (gs : List Given) (at : AreGivenAt trees marks sorts gs) (parts : AreSortedParts ds trees marks)
    (are : AreSorts ds trees (length trees) sorts) (order : AreInOrder trees) where
  pub within : (p : ℕ) → IsMarked marks p → p < length trees
  within p m = subst (λ n. p < n) parts.size (mark_within marks p m)

  pub mark_of : (p : ℕ) → p < length trees → is_marked (given_at gs p) ≡ true → IsMarked marks p
  mark_of p less m = by (slice_index_or marks p false) refl
    where
      by : (b : Bool) → slice_index_or marks p false ≡ b → IsMarked marks p
      by true h = h
      by false h = let k : is_marked (given_at gs p) ≡ false = ap is_marked (at.unmarked p less h) in absurd cc

  pub marked : (p : ℕ) → IsMarked marks p → is_marked (given_at gs p) ≡ true
  marked p m = marked_given (given_at gs p) (slice_index_or sorts p Truths) (at.sorted p (within p m) m)

  given_sorted : (p : ℕ) → IsMarked marks p → IsGivenOf (given_at gs p) (tree_sort ds (tree_at trees p))
  given_sorted p m =
      let s = parts.sorted p m in
      subst (IsGivenOf (given_at gs p)) (sym s.1) (subst (λ r. is_given_of (given_at gs p) r ≡ true) (are.each p s.0 (within p m) s.1) (at.sorted p (within p m) m))

  all_marked : (is : List ℕ) → All (IsMarked marks) is → All (λ g. is_marked g ≡ true) (map (given_at gs) is)
  all_marked [] h = All-nil (λ g. is_marked g ≡ true)
  all_marked (i ∷ is) h =
      All-cons (λ g. is_marked g ≡ true) (given_at gs i) (map (given_at gs) is) (marked i (All-head (IsMarked marks) i is h)) (all_marked is (All-tail (IsMarked marks) i is h))

  arguments_marked : (p : ℕ) (h : Head) (us : Trees) → p < length trees → IsMarked marks p → tree_at trees p ≡ node h us → All (λ g. is_marked g ≡ true) (givens trees gs us)
  arguments_marked p h us less m e =
      let a = arguments_picked trees order p h us less e in
      subst (λ vs. All (λ g. is_marked g ≡ true) (givens trees gs vs)) a.are
      (subst (All (λ g. is_marked g ≡ true)) (sym (givens-pick trees gs a.places (different_of trees order) a.within))
      (all_marked a.places (parts.closed p h a.places m (e ∙ ap (node h) (sym a.are)) a.within)))

  closed : (p : ℕ) (t : Tree) → p < length trees → IsMarked marks p → tree_at trees p ≡ t → All (λ g. is_marked g ≡ true) (givens trees gs (arguments_of t))
  closed p (node h us) less m e = arguments_marked p h us less m e

  pub given_so : length gs ≡ length trees → ((f p : ℕ) → IsApplication trees gs f p → is_past (given_at gs p) ≡ false) → AreGiven ds trees gs
  given_so size applications = record {
    size = size;
    sorts = λ p less m. given_sorted p (mark_of p less m);
    closed = λ p less m. closed p (tree_at trees p) less (mark_of p less m) refl;
    applications = applications;
  }

module _ (ds : List Declaration) (trees : List Tree) (marks : List Bool) (sorts : List Sort) (ts : List Bool) (ns : List ℤ) (es : List ℕ) where
  pub all_pushed : (k : ℕ) (gs : List Given) (g : Given) → length gs ≡ k → AllGiven trees marks sorts ts ns es k gs → IsPlaceGiven trees marks sorts ts ns es k g
      → AllGiven trees marks sorts ts ns es (k + 1) (gs ++ g ∷ [])
  all_pushed k gs g size each here p less = by (cases_lt p k)
    where
      by : (p < k) ⊎ (k ≤ p) → IsPlaceGiven trees marks sorts ts ns es p (given_at (gs ++ g ∷ []) p)
      by (inl h) = subst (IsPlaceGiven trees marks sorts ts ns es p) (sym (get_or_append_left gs (g ∷ []) Unmarked p (omega arith))) (each p h)
      by (inr h) =
          let e : p ≡ k = omega arith in
          subst (IsPlaceGiven trees marks sorts ts ns es p) (sym (get_or_push gs g Unmarked p (size ∙ sym e))) (subst (λ q. IsPlaceGiven trees marks sorts ts ns es q g) (sym e) here)

  module _ (gs : List Given) (size : length gs ≡ length trees) (each : AllGiven trees marks sorts ts ns es (length trees) gs) (parts : AreSortedParts ds trees marks)
      (are : AreSorts ds trees (length trees) sorts) (order : AreInOrder trees) where
    given : AreGivenAt trees marks sorts gs
    given = record { unmarked = λ p less h. (each p less).unmarked h; sorted = λ p less m. (each p less).sorted m }

    pub give_chosen : GiveChosen ds trees marks ts ns es gs
    give_chosen p s m has plain =
        let less : p < length trees = within ds trees marks sorts gs given parts are order p m in
        (each p less).is_chosen m plain ∙ ap (λ r. InRange (chosen ts ns es r p)) (are.each p s less has)

    application_inside : (f p : ℕ) → IsApplication trees gs f p → is_past (given_at gs p) ≡ false
    application_inside f p a = ap is_past ((each p a.within).is_chosen (mark_of ds trees marks sorts gs given parts are order p a.within a.marked) (ap is_worked_out a.symbol))

    pub are_given : AreGiven ds trees gs
    are_given = given_so ds trees marks sorts gs given parts are order size application_inside

pub give_no_others : (trees : List Tree) (marks : List Bool) (sorts : List Sort) (ts : List Bool) (ns : List ℤ) (es : List ℕ) (gs : List Given) → length gs ≡ length trees
    → AllGiven trees marks sorts ts ns es (length trees) gs → GiveNoOthers marks gs
give_no_others trees marks sorts ts ns es gs size each p h = by (cases_lt p (length trees))
  where
    by : (p < length trees) ⊎ (length trees ≤ p) → given_at gs p ≡ Unmarked
    by (inl less) = (each p less).unmarked h
    by (inr past) = get_or_past gs p Unmarked (omega arith)

-- ---- what is worked out

pub given_before : (gs : List Given) (g : Given) (k : ℕ) (is : List ℕ) → length gs ≡ k → All (λ i. i < k) is → map (given_at (gs ++ g ∷ [])) is ≡ map (given_at gs) is
given_before gs g k [] size below = refl
given_before gs g k (i ∷ is) size below =
    let less : i < k = All-head (λ j. j < k) i is below in
    ap (λ x. x ∷ map (given_at (gs ++ g ∷ [])) is) (get_or_append_left gs (g ∷ []) Unmarked i (omega arith)) ∙ ap (λ xs. given_at gs i ∷ xs) (given_before gs g k is size (All-tail (λ j. j < k) i is below))

module _ (trees : List Tree) (marks : List Bool) (sorts : List Sort) where
  worked_before : (k p : ℕ) (gs : List Given) (g : Given) → length gs ≡ k → p < k → IsWorkedOut trees gs p → IsWorkedOut trees (gs ++ g ∷ []) p
  worked_before k p gs g size less w = record {
    head = w.head;
    arguments = w.arguments;
    tree = w.tree;
    earlier = w.earlier;
    is_made = λ h. get_or_append_left gs (g ∷ []) Unmarked p (omega arith) ∙ w.is_made h
        ∙ ap (worked_out w.head) (sym (given_before gs g k w.arguments size (All-weaker (λ i. i < p) (λ i. i < k) (λ i below. omega arith) w.arguments w.earlier)));
  }

  worked_here : (p : ℕ) (gs : List Given) (g : Given) → length gs ≡ p → IsNextWorkedOut trees gs p g → IsWorkedOut trees (gs ++ g ∷ []) p
  worked_here p gs g size w = record {
    head = w.head;
    arguments = w.arguments;
    tree = w.tree;
    earlier = w.earlier;
    is_made = λ h. get_or_push gs g Unmarked p size ∙ w.is_made h ∙ ap (worked_out w.head) (sym (given_before gs g p w.arguments size w.earlier));
  }

  pub worked_out_pushed : (k : ℕ) (gs : List Given) (g : Given) → length gs ≡ k → AllWorkedOut trees marks sorts k gs
      → (IsMarked marks k → slice_index_or sorts k Truths ≡ Ints → IsNextWorkedOut trees gs k g) → AllWorkedOut trees marks sorts (k + 1) (gs ++ g ∷ [])
  worked_out_pushed k gs g size each here p less m int = by (cases_lt p k)
    where
      by : (p < k) ⊎ (k ≤ p) → IsWorkedOut trees (gs ++ g ∷ []) p
      by (inl h) = worked_before k p gs g size h (each p h m int)
      by (inr h) =
          let e : p ≡ k = omega arith in
          worked_here p gs g (size ∙ sym e) (subst (λ q. IsNextWorkedOut trees gs q g) (sym e) (here (subst (IsMarked marks) e m) (subst (λ q. slice_index_or sorts q Truths ≡ Ints) e int)))

pub are_worked_out : (ds : List Declaration) (trees : List Tree) (marks : List Bool) (sorts : List Sort) (gs : List Given) → AllWorkedOut trees marks sorts (length trees) gs
    → length marks ≡ length trees → AreSorts ds trees (length trees) sorts → AreWorkedOut ds trees marks gs
are_worked_out ds trees marks sorts gs each size are p m has =
    let less : p < length trees = subst (λ n. p < n) size (mark_within marks p m) in
    each p less m (are.each p Ints less has)
