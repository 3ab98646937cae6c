-- Which terms are assertions, and which are no Bools by the listed sorts.
use Rattle.std.proofs.Common.{◌≡◌, ◌≢◌, ℕ, ◌<◌, List, length, get_or, All, Contains, Some, slice_index_or, subst, sym, ◌∙◌, refl}
use Rattle.std.proofs.lemmas.List.Elements.{All-map, All-contains}
use Rattle.smt_meaning.specs.declared.values.Sort.{Sort}
use Rattle.smt_meaning.specs.declared.values.Sort.TheVariants.{Bool as Truths}
use Rattle.smt_meaning.specs.Term.{Tree, tree_at}
use Rattle.smt_meaning.specs.Stack.{signature_of, assertions_of}
use Rattle.smt_meaning.specs.StackCommand.{Stack}
use Rattle.scope_stack.specs.declared.answers.Assertion.{Assertion}
use Rattle.scope_stack.specs.Shown.{AreAsserted, IsLawful}
use Rattle.check_atoms.specs.PartAtoms.{sort_of, sort_in}
use Rattle.check_atoms.specs.AssertedDistinct.{IsNoBool, IsListedNoBool}
use Rattle.check_atoms.proofs.Marking.{are_assertions}

abbrev pub AreNoBools : List Sort → List ℕ → Type 0
AreNoBools sorts is = All (IsListedNoBool sorts) is

module _ (s : Stack) (xs : List Assertion) (p : ℕ) where
  pub asserted_there : AreAsserted s xs → (a : Assertion) → Contains xs a → a.term ≡ p → Contains (assertions_of s.frames) (tree_at s.trees p)
  asserted_there h a c e =
      subst (λ q. Contains (assertions_of s.frames) (tree_at s.trees q)) e
      (All-contains (λ (b : Assertion). Contains (assertions_of s.frames) (tree_at s.trees b.term)) xs a (are_assertions s xs h) c)

  pub not_asserted : IsLawful s → p < length s.trees → AreAsserted s xs → All (λ (a : Assertion). a.term ≢ p) xs → Contains (assertions_of s.frames) (tree_at s.trees p) → ⊥
  not_asserted law within h none c =
      let other : All (λ (t : Tree). t ≢ tree_at s.trees p) (assertions_of s.frames) =
      subst (All (λ (t : Tree). t ≢ tree_at s.trees p)) h.terms
      (All-map (λ (t : Tree). t ≢ tree_at s.trees p) (λ (a : Assertion). tree_at s.trees a.term) xs (λ k d l e. none k d l (law.in_order.different (get_or xs k d).term p (h.within k d l) within e))) in
      All-contains (λ (t : Tree). t ≢ tree_at s.trees p) (assertions_of s.frames) (tree_at s.trees p) other c refl

module _ (s : Stack) (sorts : List Sort) where
  abbrev Agree : ℕ → Type 0
  Agree i = sort_in sorts i ≡ sort_of (signature_of s.frames) s.trees i

  pub are_of_stack : (is : List ℕ) → All Agree is → AreNoBools sorts is → All (IsNoBool s) is
  are_of_stack is agree h = λ k d l. record { sort = slice_index_or sorts (get_or is k d) Truths; has = sym (agree k d l); other = h k d l }

  pub are_listed : (is : List ℕ) → All Agree is → All (IsNoBool s) is → AreNoBools sorts is
  are_listed is agree h = λ k d l e. let here = h k d l in here.other (sym (one (agree k d l ∙ here.has)) ∙ e)
    where
      one : {r q : Sort} → Some r ≡ Some q → r ≡ q
      one e = cc
