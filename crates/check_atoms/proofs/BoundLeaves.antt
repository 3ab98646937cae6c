-- The sum of the bound of two Ints among the parts of a stack is over Int leaves among them.
use Rattle.std.proofs.Common.{◌≡◌, ℕ, ◌<◌, Bool, true, List, length, Some, subst, sym, arith}
use Rattle.smt_meaning.specs.declared.values.Sort.TheVariants.{Int as Ints}
use Rattle.smt_meaning.specs.Term.{Tree, tree_at}
use Rattle.smt_meaning.specs.TreeShape.{place_of}
use Rattle.smt_meaning.specs.Parts.{IsPart}
use Rattle.smt_meaning.specs.Signature.{tree_sort}
use Rattle.smt_meaning.specs.CheckAtoms.{is_leaf}
use Rattle.smt_meaning.specs.Stack.{signature_of}
use Rattle.smt_meaning.specs.StackCommand.{Stack}
use Rattle.term_store.specs.Terms.{AreDifferent}
use Rattle.term_store.proofs.PlaceLemmas.{place_of-is}
use Rattle.scope_stack.specs.Shown.{IsLawful}
use Rattle.bound_clauses.specs.declared.orders.Sense.TheVariants.{NotAbove}
use Rattle.check_atoms.specs.Parts.{IsMarked}
use Rattle.check_atoms.specs.Marks.{AreStackParts}
use Rattle.check_atoms.specs.Laws.{IsIntLeaf, BoundsAreOverLeaves}
use Rattle.check_atoms.proofs.Marking.{below, part_of_part}
use Rattle.check_atoms.proofs.Sums.{IsInt, bound_places}

module _ (s : Stack) (marks : List Bool) (law : IsLawful s) (parts : AreStackParts s marks) (size : length marks ≡ length s.trees) where
  different : AreDifferent s.trees
  different j k less within e = let same : j ≡ k = law.in_order.different j k (omega (arith, less, within)) within e in omega (arith, same, less)

  leaf_at : (p : ℕ) → IsMarked marks p → (u : Tree) → IsPart u (tree_at s.trees p) → is_leaf u ≡ true → IsInt (signature_of s.frames) u → IsIntLeaf s marks (place_of u s.trees)
  leaf_at p m u q leaf int =
      let whole = parts.only p m in
      let there = parts.each u (record { assertion = whole.assertion; asserted = whole.asserted; part = part_of_part u (tree_at s.trees p) whole.assertion q whole.part }) in
      let short : there.0 < length marks = below marks there.0 there.1 in
      let inside : there.0 < length s.trees = omega (arith, size, short) in
      subst (IsIntLeaf s marks) (sym (place_of-is u s.trees there.0 different inside there.2))
      (record {
        within = inside;
        marked = there.1;
        int = subst (λ v. tree_sort (signature_of s.frames) v ≡ Some Ints) (sym there.2) int;
        leaf = subst (λ v. is_leaf v ≡ true) (sym there.2) leaf;
      })

pub bounds_over_leaves : BoundsAreOverLeaves
bounds_over_leaves s marks left right law parts size l r i j =
    bound_places (IsIntLeaf s marks) s.trees (signature_of s.frames) (record { sense = NotAbove; lesser = left; greater = right }) i j (leaf_at s marks law parts size left l) (leaf_at s marks law parts size right r)
