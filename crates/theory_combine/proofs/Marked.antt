-- The leaves of the assertions are marked.
use Rattle.std.proofs.Common.{◌≡◌, ℕ, ◌<◌, Bool, true, List, length, Contains, Some, sym, subst}
use Rattle.smt_meaning.specs.declared.values.Sort.TheVariants.{Int as Ints}
use Rattle.smt_meaning.specs.Declaration.{Declaration}
use Rattle.smt_meaning.specs.Term.{Tree}
use Rattle.smt_meaning.specs.TreeShape.{place_of}
use Rattle.smt_meaning.specs.Signature.{tree_sort}
use Rattle.smt_meaning.specs.Stack.{signature_of}
use Rattle.smt_meaning.specs.StackCommand.{Stack}
use Rattle.smt_meaning.specs.CheckAtoms.{IsPartOfStack, IsLeaf, is_leaf}
use Rattle.term_store.specs.Terms.{AreDifferent}
use Rattle.term_store.proofs.PlaceLemmas.{place_of-is}
use Rattle.smt_laws.specs.Flat.{flat, SaysTheSame, FlatSaysTheSame}
use Rattle.check_atoms.specs.Marks.{AreStackParts}
use Rattle.model_build.specs.Parts.{AreSortedParts}
use Rattle.theory_combine.specs.Shown.{IsMarkedLeaf}
use Rattle.theory_combine.proofs.Marking.{marked_within}

module _ (s : Stack) (marks : List Bool) (sorted : AreSortedParts (signature_of s.frames) s.trees marks) (parts : AreStackParts s marks) (different : AreDifferent s.trees) where
  pub leaf_marked : (u : Tree) → IsPartOfStack s.frames u → tree_sort (signature_of s.frames) u ≡ Some Ints → is_leaf u ≡ true → IsMarkedLeaf s marks (place_of u s.trees)
  leaf_marked u part int leaf =
      let at = parts.each u part in
      let within : at.0 < length s.trees = subst (λ n. at.0 < n) sorted.size (marked_within marks at.0 at.1) in
      subst (IsMarkedLeaf s marks) (sym (place_of-is u s.trees at.0 different within at.2))
      (record {
        within = within;
        marked = at.1;
        is_int = subst (λ (t : Tree). tree_sort (signature_of s.frames) t ≡ Some Ints) (sym at.2) int;
        leaf = subst (λ (t : Tree). is_leaf t ≡ true) (sym at.2) leaf;
      })

  pub marked_leaf : FlatSaysTheSame → (p : ℕ) → IsLeaf s.trees (flat s.frames) p → IsMarkedLeaf s marks p
  marked_leaf flat_law p h =
      let same : SaysTheSame s.frames = flat_law s.frames in
      let of = h.part.part in
      subst (IsMarkedLeaf s marks) h.part.place_is
      (leaf_marked h.leaf (record { assertion = of.assertion; asserted = subst (λ (us : List Tree). Contains us of.assertion) same.assertions of.asserted; part = of.part })
      (subst (λ (ds : List Declaration). tree_sort ds h.leaf ≡ Some Ints) same.signature h.part.int) h.is)
