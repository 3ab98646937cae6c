-- A term whose folding is refused.
use Rattle.std.proofs.Common.{◌≡◌, ◌⊎◌, inl, inr, ℕ, ◌<◌, false, ◌&&◌, List, [], ◌∷◌, length, All, subst, sym, ap₂, refl, arith}
use Rattle.std.proofs.lemmas.List.Elements.{All-nil, All-cons, All-head, All-tail, All-weaker, All-contains}
use Rattle.smt_meaning.specs.declared.terms.Head.{Head}
use Rattle.smt_meaning.specs.Term.{Tree, node, none, tree_at}
use Rattle.smt_meaning.specs.Nodes.{pick}
use Rattle.smt_meaning.specs.Parts.{IsPart, IsPartOfOne}
use Rattle.smt_meaning.specs.Linear.{folding_fits}
use Rattle.smt_meaning.specs.Ranges.{LeavesInPart}
use Rattle.smt_meaning.specs.Stack.{signature_of}
use Rattle.smt_meaning.specs.StackCommand.{Stack}
use Rattle.smt_laws.specs.Rows.{place_divisor}
use Rattle.term_store.specs.Terms.{AreDifferent}
use Rattle.term_store.proofs.PlaceLemmas.{place_of-is}
use Rattle.scope_stack.specs.Shown.{IsLawful}
use Rattle.check_atoms.proofs.Marking.{part_of_part}
use Rattle.linear_forms.specs.Table.{FoldsOutside, IsOutside}
use Rattle.check_atoms.specs.declared.refusal.Refusal.TheVariants.{Term, Memory}
use Rattle.check_atoms.specs.declared.part.PartAtom.TheVariants.{Bound, Limit}
use Rattle.linear_forms.specs.declared.multiples.Multiple.{Multiple}
use Rattle.pair_bounds.specs.Rows.{multiples, DivisorIsOutside}
use Rattle.check_atoms.specs.PartAtoms.{sort_of}
use Rattle.check_atoms.specs.Numbering.{RefusesBound, RefusesRows}
use Rattle.check_atoms.specs.OfStack.{part_atoms, RefusesPart}
use Rattle.check_atoms.specs.Laws.{RefusedTermLeavesRange}
use Rattle.check_atoms.proofs.PartPlaces.{IsOver, part_over}

folds : (ts : List Tree) (t : Tree) → FoldsOutside ts t → folding_fits ts t ≡ false
folds ts (node h us) o = ap₂ (λ a b. a && b) o.0 o.1

pub itself : (t : Tree) → IsPart t t
itself (node h us) = inl refl

no_memory : (p : ℕ) → Term p ≡ Memory → ⊥
no_memory p e = cc

module _ (s : Stack) (lawful : IsLawful s) where
  pub different : AreDifferent s.trees
  different j k less within e = let same : j ≡ k = lawful.in_order.different j k (omega (arith, less, within)) within e in omega (arith, same, less)

  -- a place of a part of the term at a place
  abbrev pub IsBelow : ℕ → ℕ → Type 0
  IsBelow p i = IsPart (tree_at s.trees i) (tree_at s.trees p) × (i < length s.trees)

  arguments_below : (is : List ℕ) → All (λ i. IsPartOfOne (tree_at s.trees i) (pick s.trees is)) is
  arguments_below [] = All-nil (λ i. IsPartOfOne (tree_at s.trees i) none)
  arguments_below (i ∷ is) =
      All-cons (λ j. IsPartOfOne (tree_at s.trees j) (pick s.trees (i ∷ is))) i is (inl (itself (tree_at s.trees i)))
      (All-weaker (λ j. IsPartOfOne (tree_at s.trees j) (pick s.trees is)) (λ j. IsPartOfOne (tree_at s.trees j) (pick s.trees (i ∷ is))) (λ j q. inr q) is (arguments_below is))

  pub all_below : (p : ℕ) (h : Head) (is : List ℕ) → tree_at s.trees p ≡ node h (pick s.trees is) → All (λ i. i < length s.trees) is → All (IsBelow p) is
  all_below p h is e w = λ k d l. (subst (IsPart _) (sym e) (inr (arguments_below is k d l)), w k d l)

  module _ (part : ℕ) (r : RefusesPart s (Term part)) where
    leaves : (i : ℕ) → IsBelow r.place i → IsOutside s.trees i part → LeavesInPart s.trees s.frames part
    leaves i b o =
        let order = o.before in
        let low = b.1 in
        let within : part < length s.trees = omega (arith, order, low) in
        record {
          tree = tree_at s.trees part;
          part = record {
            assertion = r.part.assertion;
            asserted = r.part.asserted;
            part = part_of_part (tree_at s.trees part) (tree_at s.trees r.place) r.part.assertion (part_of_part (tree_at s.trees part) (tree_at s.trees i) (tree_at s.trees r.place) o.is_part b.0) r.part.part;
          };
          place_is = place_of-is (tree_at s.trees part) s.trees part different within refl;
          leaves = inl (folds s.trees (tree_at s.trees part) o.own);
        }

    over : All (IsOver (IsBelow r.place)) (part_atoms s r.place r.head r.arguments)
    over =
        part_over (IsBelow r.place) (sort_of (signature_of s.frames) s.trees) (place_divisor s.trees r.arguments) r.place r.head r.arguments (itself (tree_at s.trees r.place), r.term.within)
        (all_below r.place r.head r.arguments r.term.tree r.term.arguments)

    of_bound : RefusesBound s.trees r.place (part_atoms s r.place r.head r.arguments) (Term part) → LeavesInPart s.trees s.frames part
    of_bound b = by (All-contains (IsOver (IsBelow r.place)) (part_atoms s r.place r.head r.arguments) (Bound b.order) over b.among) b.refuses
      where
        by : IsBelow r.place b.order.lesser × IsBelow r.place b.order.greater → IsOutside s.trees b.order.lesser part ⊎ IsOutside s.trees b.order.greater part → LeavesInPart s.trees s.frames part
        by under (inl o) = leaves b.order.lesser under.0 o
        by under (inr o) = leaves b.order.greater under.1 o

    of_limit : RefusesRows s.trees r.place (part_atoms s r.place r.head r.arguments) (Term part) → LeavesInPart s.trees s.frames part
    of_limit b =
        let under : All (λ (m : Multiple). IsBelow r.place m.term) (multiples b.limit) =
        All-contains (IsOver (IsBelow r.place)) (part_atoms s r.place r.head r.arguments) (Limit b.limit) over b.among in
        leaves b.refuses.multiple.term (All-contains (λ (m : Multiple). IsBelow r.place m.term) (multiples b.limit) b.refuses.multiple under b.refuses.among) b.refuses.outside

    of_divisor : (is : List ℕ) → All (IsBelow r.place) is → DivisorIsOutside s.trees is part → LeavesInPart s.trees s.frames part
    of_divisor [] h o = absurd o
    of_divisor (i ∷ []) h o = absurd o
    of_divisor (i ∷ j ∷ is) h o = leaves j (All-head (IsBelow r.place) j is (All-tail (IsBelow r.place) i (j ∷ is) h)) o

    refused : LeavesInPart s.trees s.frames part
    refused = elim r.atom [
      | inl b ↦ of_bound b
      | inr other ↦ elim other [ inl l ↦ of_limit l | inr d ↦ of_divisor r.arguments (all_below r.place r.head r.arguments r.term.tree r.term.arguments) d ]
    ]

pub refused_term : RefusedTermLeavesRange
refused_term s part lawful (inl m) = absurd (no_memory part m)
refused_term s part lawful (inr r) = refused s lawful part r
