-- A stack is taken where no part of its assertions is an Int.
use Rattle.std.proofs.Common.{◌≡◌, ◌≢◌, ℕ, ◌<◌, Bool, true, false, List, Some, length, slice_index_or, sym, ap, ◌∙◌, arith, refl}
use Rattle.std.proofs.lemmas.List.Elements.{All-contains}
use Rattle.smt_meaning.specs.declared.values.Sort.{Sort}
use Rattle.smt_meaning.specs.declared.values.Sort.TheVariants.{Bool as Truths, Int as Ints, Free}
use Rattle.smt_meaning.specs.Term.{Tree, tree_at}
use Rattle.smt_meaning.specs.Signature.{tree_sort, is_int}
use Rattle.smt_meaning.specs.Stack.{signature_of, assertions_of}
use Rattle.smt_meaning.specs.StackCommand.{Stack}
use Rattle.smt_meaning.specs.Report.{IsPartOfStack}
use Rattle.scope_stack.specs.declared.answers.Assertion.{Assertion}
use Rattle.scope_stack.specs.Shown.{AreAsserted, IsLawful}
use Rattle.check_atoms.specs.Parts.{IsMarked, AreParts}
use Rattle.smt_meaning.specs.Kinds.{has_no_integers}
use Rattle.check_atoms.specs.Marks.{AreMarked, AreStackParts}
use Rattle.scope_stack.specs.Facts.{AreSorts}
use Rattle.check_atoms.proofs.Sorting.{HasSort, part_has_sort}
use Rattle.check_atoms.proofs.StackAtomsIntegers.{part_of_stack_is_no_int, stack_without_integers}
use Rattle.check_atoms.proofs.Marking.{below}
use Rattle.check_atoms.proofs.StackAtomsPlaces.{stack_parts}

-- ---- the sort of a part

pub its_sort : (s : Stack) (u : Tree) → IsLawful s → IsPartOfStack s.frames u → HasSort (signature_of s.frames) u
its_sort s u law p =
    part_has_sort (signature_of s.frames) u p.assertion p.part
    (Truths, All-contains (λ (t : Tree). tree_sort (signature_of s.frames) t ≡ Some Truths) (assertions_of s.frames) p.assertion law.truths p.asserted)

is_no_int : (s : Sort) → s ≢ Ints → is_int (Some s) ≡ false
is_no_int Truths h = refl
is_no_int Ints h = absurd (h refl)
is_no_int (Free n) h = refl

no_int_of : (s : Sort) → is_int (Some s) ≡ false → s ≡ Ints → ⊥
no_int_of s h e = let both : true ≡ false = sym (ap (λ r. is_int (Some r)) e) ∙ h in cc

false_if : (b : Bool) → (b ≡ true → ⊥) → false ≡ b
false_if true h = absurd (h refl)
false_if false h = refl

module _ (s : Stack) (xs : List Assertion) (marks : List Bool) (law : IsLawful s) (asserted : AreAsserted s xs) (marked : AreMarked s xs 0 marks) where
  inside : (p : ℕ) → IsMarked marks p → p < length s.trees
  inside p m = let short : p < length marks = below marks p m in let size : length marks ≡ length s.trees = marked.parts.size in omega arith

  -- ---- parts without integers

  not_int : (p : ℕ) (m : IsMarked marks p) → has_no_integers s.frames ≡ true → (its_sort s (tree_at s.trees p) law (marked.parts.only p m)).0 ≢ Ints
  not_int p m h =
      let sort : HasSort (signature_of s.frames) (tree_at s.trees p) = its_sort s (tree_at s.trees p) law (marked.parts.only p m) in
      no_int_of sort.0 (sym (ap is_int sort.1) ∙ part_of_stack_is_no_int s.frames (tree_at s.trees p) (marked.parts.only p m) h)

  pub parts_are : has_no_integers s.frames ≡ true → AreParts (signature_of s.frames) s.trees marks
  parts_are h = record {
    size = marked.parts.size;
    sorted = λ p m.
        let sort : HasSort (signature_of s.frames) (tree_at s.trees p) = its_sort s (tree_at s.trees p) law (marked.parts.only p m) in
        record { sort = sort.0; has = sort.1; not_int = not_int p m h };
    closed = λ p g is m e w. marked.parts.closed p g is (omega arith) m e w;
  }

  -- ---- whether it is taken

  module _ (sorts : List Sort) (sorted : AreSorts (signature_of s.frames) s.trees (length s.trees) sorts) where
    no_int_at : (u : Tree) → ((p : ℕ) → IsMarked marks p → slice_index_or sorts p Truths ≢ Ints) → IsPartOfStack s.frames u → is_int (tree_sort (signature_of s.frames) u) ≡ false
    no_int_at u h part =
        let parts : AreStackParts s marks = stack_parts s xs marks law.in_order asserted marked in
        let at : (p : ℕ) × IsMarked marks p × (tree_at s.trees p ≡ u) = parts.each u part in
        let sort : HasSort (signature_of s.frames) u = its_sort s u law part in
        let same : slice_index_or sorts at.0 Truths ≡ sort.0 = sorted.each at.0 sort.0 (inside at.0 at.1) (ap (tree_sort (signature_of s.frames)) at.2 ∙ sort.1) in
        ap is_int sort.1 ∙ is_no_int sort.0 (λ e. h at.0 at.1 (same ∙ e))

    int_there : (p : ℕ) → IsMarked marks p → slice_index_or sorts p Truths ≡ Ints → has_no_integers s.frames ≡ true → ⊥
    int_there p m e h =
        let sort : HasSort (signature_of s.frames) (tree_at s.trees p) = its_sort s (tree_at s.trees p) law (marked.parts.only p m) in
        not_int p m h (sym (sorted.each p sort.0 (inside p m) sort.1) ∙ e)

    pub taken : (b : Bool) → (b ≡ true → (p : ℕ) → IsMarked marks p → slice_index_or sorts p Truths ≢ Ints)
        → (b ≡ false → (p : ℕ) × IsMarked marks p × (slice_index_or sorts p Truths ≡ Ints)) → b ≡ has_no_integers s.frames
    taken true clear found = sym (stack_without_integers s.frames (λ u part. no_int_at u (clear refl) part))
    taken false clear found =
        let there : (p : ℕ) × IsMarked marks p × (slice_index_or sorts p Truths ≡ Ints) = found refl in
        false_if (has_no_integers s.frames) (int_there there.0 there.1 there.2)
