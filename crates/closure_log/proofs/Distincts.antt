-- Arguments that a closure keeps apart.
use Rattle.std.proofs.Common.{◌≡◌, ◌≢◌, ℕ, ◌<◌, ◌≤◌, ◌+◌, List, [], ◌∷◌, ◌++◌, length, set, All, Contains, refl, sym, ap, ◌∙◌, subst, inl, inr, arith, get_or-set_other, get_or-set_same}
use Rattle.std.specs.Prelude.{slice_index, slice_index_or}
use Rattle.std.proofs.lemmas.Bool.{cases_lt}
use Rattle.std.proofs.lemmas.List.Elements.{All-map, All-contains, Contains-append_left, Contains-push}
use Rattle.smt_meaning.specs.declared.terms.Operator.TheVariants.{Distinct}
use Rattle.smt_meaning.specs.declared.terms.Head.{Head}
use Rattle.smt_meaning.specs.declared.terms.Head.TheVariants.{Theory}
use Rattle.smt_meaning.specs.Atoms.{most_compared}
use Rattle.smt_meaning.specs.Nodes.{pick}
use Rattle.smt_meaning.specs.Stack.{assertions_of}
use Rattle.smt_meaning.specs.StackCommand.{Stack}
use Rattle.smt_meaning.specs.Term.{Tree, tree_at}
use Rattle.term_store.specs.Terms.{tree_with, AreDifferent}
use Rattle.scope_stack.specs.declared.answers.Assertion.{Assertion}
use Rattle.scope_stack.specs.Shown.{AreAsserted}
use Rattle.point_closure.specs.Laws.{ClassesAreTheClosure}
use Rattle.point_closure.specs.Unions.{root_of, AreUnions}
use Rattle.point_closure.proofs.LawLemmas.{root_then_equal, equal_then_root}
use Rattle.congruence.specs.declared.congruence.Congruence.{Congruence}
use Rattle.congruence.specs.Recorded.{IsRecorded, AreEqualTerms}
use Rattle.closure_log.specs.Distinct.{IsDistinct, AreAllApart, ListsWide, AreAssertedDistincts}
use Rattle.closure_log.proofs.Wide.{one_place, one_list, arguments_of}

pub its_arguments : (ts : List Tree) (p : ℕ) (h : Head) (is js : List ℕ) → AreDifferent ts → tree_at ts p ≡ tree_with ts h is → All (λ i. i < length ts) is → IsDistinct ts p js → js ≡ is
its_arguments ts p h is js different tree within d =
    sym (one_list ts different is js within d.within (arguments_of h (Theory Distinct) (pick ts is) (pick ts js) (sym tree ∙ d.tree)))

-- ---- by class the place of the newest argument

written : (newest : List ℕ) (at later : ℕ) → at < length newest → slice_index (set newest at later) at ≡ later
written newest at later inside = rw get_or-set_same refl

-- each argument before a place is the newest of its class, where no two are of one class
pub newest_more : (newest : List ℕ) (class : ℕ → ℕ) (at later : ℕ) → at ≡ class later → at < length newest → ((e : ℕ) → e < later → slice_index newest (class e) ≡ e)
    → ((e : ℕ) → e < later → class e ≡ class later → ⊥) → (e : ℕ) → e < later + 1 → slice_index (set newest at later) (class e) ≡ e
newest_more newest class at later here inside before other e less = elim (cases_lt e later) [
  | inl first ↦ let apart : class e ≢ at = λ f. other e first (f ∙ here) in (rw get_or-set_other (before e first))
  | inr last ↦
      let same : later ≡ e = omega arith in
      let there : at ≡ class e = here ∙ ap class same in
      ap (λ n. slice_index (set newest at later) n) (sym there) ∙ written newest at later inside ∙ same
]

module _ (c : Congruence) (law : ClassesAreTheClosure) (recorded : IsRecorded c) (are : AreUnions c.closure.classes.count c.closure.classes.unions) where
  abbrev pub class_of : ℕ → ℕ
  class_of i = root_of c.closure.classes.unions (i + 2)

  pub equal_by_class : (i j : ℕ) → class_of i ≡ class_of j → AreEqualTerms c i j
  equal_by_class i j e = root_then_equal c.closure law recorded.whole are (i + 2) (j + 2) e

  pub apart_by_class : (is newest : List ℕ) (later : ℕ) → length is ≤ later → ((e : ℕ) → e < later → slice_index newest (class_of (slice_index_or is e 0)) ≡ e) → AreAllApart c is
  apart_by_class is newest later past h j k before less e =
      let same : class_of (slice_index_or is j 0) ≡ class_of (slice_index_or is k 0) = equal_then_root c.closure law recorded.whole are (slice_index_or is j 0 + 2) (slice_index_or is k 0 + 2) e in
      let one : j ≡ k = sym (h j (omega arith)) ∙ ap (λ n. slice_index newest n) same ∙ h k (omega arith) in
      omega arith

-- ---- asserted ones

module _ (ts : List Tree) (different : AreDifferent ts) where
  pub lists_more : (ps : List ℕ) (p : ℕ) (t : Tree) → ListsWide ts ps t → ListsWide ts (ps ++ p ∷ []) t
  lists_more ps p t h q is n wide e = Contains-append_left ps (p ∷ []) q (h q is n wide e)

  pub lists_pushed : (ps : List ℕ) (p : ℕ) → p < length ts → ListsWide ts (ps ++ p ∷ []) (tree_at ts p)
  lists_pushed ps p less q is n wide e = subst (Contains (ps ++ p ∷ [])) (one_place ts p q different less n.within (sym e)) (Contains-push ps p)

  pub lists_other : (ps : List ℕ) (p : ℕ) → p < length ts → ((js : List ℕ) → IsDistinct ts p js → most_compared < length js → ⊥) → ListsWide ts ps (tree_at ts p)
  lists_other ps p less none q is n wide e = absurd (none is (record { tree = sym e ∙ n.tree; within = n.arguments }) wide)

pub all_listed : (s : Stack) (xs : List Assertion) (ps : List ℕ) → AreAsserted s xs → All (λ (a : Assertion). ListsWide s.trees ps (tree_at s.trees a.term)) xs → AreAssertedDistincts s ps
all_listed s xs ps asserted h p is n a =
    let listed : All (ListsWide s.trees ps) (assertions_of s.frames) =
    subst (λ (ts : List Tree). All (ListsWide s.trees ps) ts) asserted.terms (All-map (ListsWide s.trees ps) (λ (x : Assertion). tree_at s.trees x.term) xs h) in
    All-contains (ListsWide s.trees ps) (assertions_of s.frames) (tree_at s.trees p) listed a.asserted p is n a.wide refl
