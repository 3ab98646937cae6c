-- The assertions are numbered, and a store that knows the atoms and nothing else begins.
use Rattle.std.proofs.Common.{◌≡◌, ℕ, ◌<◌, Bool, List, length, get_or, All, Contains, Some, subst}
use Rattle.std.proofs.lemmas.List.Elements.{All-contains}
use Rattle.smt_meaning.specs.declared.values.Sort.TheVariants.{Bool as Truths}
use Rattle.smt_meaning.specs.declared.clauses.Atom.{Atom}
use Rattle.smt_meaning.specs.declared.clauses.Atom.TheVariants.{Truth}
use Rattle.smt_meaning.specs.Term.{Tree, tree_at}
use Rattle.smt_meaning.specs.Signature.{tree_sort}
use Rattle.smt_meaning.specs.Stack.{signature_of, assertions_of}
use Rattle.smt_meaning.specs.StackCommand.{Stack}
use Rattle.scope_stack.specs.declared.answers.Assertion.{Assertion}
use Rattle.scope_stack.specs.Shown.{AreAsserted, IsLawful}
use Rattle.linear_forms.specs.Table.{Known, AreForms}
use Rattle.check_atoms.specs.Parts.{IsMarked}
use Rattle.check_atoms.specs.Marks.{AreStackParts}
use Rattle.check_atoms.proofs.Marking.{assertion_of_stack, are_assertions}
use Rattle.check_atoms.specs.OfStack.{AreCheckAtoms}
use Rattle.first_clauses.proofs.Parts.{within, truth_numbered}

module _ (s : Stack) (marks : List Bool) (law : IsLawful s) (parts : AreStackParts s marks) (table : List Atom) (known : List Known) (atoms : AreCheckAtoms s marks table) (forms : AreForms s.trees known) where
  assertion_numbered : (p : ℕ) → p < length s.trees → Contains (assertions_of s.frames) (tree_at s.trees p) → Contains table (Truth p)
  assertion_numbered p h c =
      let at = parts.each (tree_at s.trees p) (assertion_of_stack s.frames (tree_at s.trees p) c) in
      let inside : at.0 < length s.trees = within s marks law parts atoms.size at.0 at.1 in
      let same : at.0 ≡ p = law.in_order.different at.0 p inside h at.2 in
      let sort : tree_sort (signature_of s.frames) (tree_at s.trees p) ≡ Some Truths =
      All-contains (λ (t : Tree). tree_sort (signature_of s.frames) t ≡ Some Truths) (assertions_of s.frames) (tree_at s.trees p) law.truths c in
      truth_numbered s marks law parts atoms.size table known atoms forms p (subst (IsMarked marks) same at.1) sort

  pub all_numbered : (xs : List Assertion) → AreAsserted s xs → All (λ (a : Assertion). Contains table (Truth a.term)) xs
  all_numbered xs h =
      let among : All (λ (a : Assertion). Contains (assertions_of s.frames) (tree_at s.trees a.term)) xs = are_assertions s xs h in
      λ k d l. assertion_numbered (get_or xs k d).term (h.within k d l) (among k d l)
