-- A limit of a division that is refused.
use Rattle.std.proofs.Common.{◌≡◌, inl, inr, ℕ, false, List, [], ◌∷◌, All, Contains, subst, sym, ap, ◌∙◌, refl}
use Rattle.std.specs.Prelude.{IsTrue}
use Rattle.std.proofs.lemmas.List.Elements.{All-contains, All-contains_itself}
use Rattle.smt_laws.proofs.Both.{and_right}
use Rattle.smt_meaning.specs.declared.terms.Operator.{Operator}
use Rattle.smt_meaning.specs.declared.terms.Head.TheVariants.{Theory}
use Rattle.smt_meaning.specs.Term.{Tree, node, tree_at}
use Rattle.smt_meaning.specs.Nodes.{pick}
use Rattle.fraction128.specs.Whole.{is_in_range}
use Rattle.smt_meaning.specs.Linear.{sum_fits}
use Rattle.smt_meaning.specs.Comparisons.{compared_fits}
use Rattle.smt_meaning.specs.Ranges.{LeavesInPart}
use Rattle.smt_meaning.specs.Stack.{signature_of}
use Rattle.smt_meaning.specs.StackCommand.{Stack}
use Rattle.term_store.proofs.PlaceLemmas.{place_of-is}
use Rattle.scope_stack.specs.Shown.{IsLawful}
use Rattle.pair_bounds.specs.declared.rows.RowLimit.{RowLimit}
use Rattle.linear_forms.proofs.SumLemmas.{fits_in_range}
use Rattle.pair_bounds.specs.Rows.{DivisorIsLarge, RowsAreAtoms}
use Rattle.smt_laws.specs.Numerals.{numerals_fit}
use Rattle.smt_laws.specs.LinearLaws.{PlacedFormsFit}
use Rattle.smt_laws.specs.Rows.{place_form, place_divisor}
use Rattle.check_atoms.specs.declared.refusal.Refusal.TheVariants.{Limit as RefusedLimit, Memory}
use Rattle.check_atoms.specs.declared.part.PartAtom.{PartAtom}
use Rattle.check_atoms.specs.declared.part.PartAtom.TheVariants.{Truth, Same, Bound, Limit}
use Rattle.check_atoms.specs.PartAtoms.{sort_of}
use Rattle.check_atoms.specs.Numbering.{RefusesRows}
use Rattle.check_atoms.specs.OfStack.{part_atoms, RefusesPart}
use Rattle.check_atoms.specs.PairRangesLaws.{LawfulLimitsLeaveRange}
use Rattle.check_atoms.proofs.Rows.{limits_of, comparison_unfit}
use Rattle.check_atoms.proofs.PartPlaces.{part_any}
use Rattle.check_atoms.proofs.Refused.{different}

no_memory : (p : ℕ) → RefusedLimit p ≡ Memory → ⊥
no_memory p e = cc

module _ (s : Stack) (lawful : IsLawful s) (law : RowsAreAtoms) (part : ℕ) (r : RefusesPart s (RefusedLimit part)) (rows : RefusesRows s.trees r.place (part_atoms s r.place r.head r.arguments) (RefusedLimit part)) where
  -- the limit is one of the rows of an operator's term
  record IsOfRows (l : RowLimit) : Type 0 where
    operator : Operator
    head : r.head ≡ Theory operator
    among : Contains (limits_of (place_divisor s.trees r.arguments) operator r.place r.arguments) l

  abbrev IsOfPart : PartAtom → Type 0
  IsOfPart (Truth p) = Unit {0}
  IsOfPart (Same i j) = Unit {0}
  IsOfPart (Bound o) = Unit {0}
  IsOfPart (Limit l) = IsOfRows l

  of_rows : IsOfRows rows.limit
  of_rows =
      All-contains IsOfPart (part_atoms s r.place r.head r.arguments) (Limit rows.limit)
      (part_any IsOfPart (λ i j. tt) (λ o. tt) (sort_of (signature_of s.frames) s.trees) (place_divisor s.trees r.arguments) r.place (λ e. tt) r.head r.arguments
      (λ o e k d l. record { operator = o; head = e; among = All-contains_itself (limits_of (place_divisor s.trees r.arguments) o r.place r.arguments) k d l }))
      rows.among

  unfit : compared_fits s.trees (signature_of s.frames) (tree_at s.trees r.place) ≡ false
  unfit =
      let at : tree_at s.trees r.place ≡ node (Theory of_rows.operator) (pick s.trees r.arguments) = r.term.tree ∙ ap (λ h. node h (pick s.trees r.arguments)) of_rows.head in
      subst (λ t. compared_fits s.trees (signature_of s.frames) t ≡ false) (sym at)
      (comparison_unfit s.trees (signature_of s.frames) law r.place r.arguments rows.limit rows.refuses.1.outside of_rows.operator at of_rows.among)

  refused : LeavesInPart s.trees s.frames part
  refused =
      subst (LeavesInPart s.trees s.frames) (sym rows.refuses.0)
      (record {
        tree = tree_at s.trees r.place;
        part = r.part;
        place_is = place_of-is (tree_at s.trees r.place) s.trees r.place (different s lawful) r.term.within refl;
        leaves = inr unfit;
      })

-- a divisor that is folded within the range isn't large
not_large : (ts : List Tree) (is : List ℕ) → PlacedFormsFit → All (λ (t : Tree). IsTrue (numerals_fit t)) ts → DivisorIsLarge ts is → ⊥
not_large ts [] fit numerals d = d
not_large ts (i ∷ []) fit numerals d = d
not_large ts (i ∷ j ∷ is) fit numerals d =
    d.1 (fits_in_range (place_form ts j).constant (and_right (sum_fits (place_form ts j).sum) (is_in_range (place_form ts j).constant) (fit ts j numerals d.0)))

pub lawful_limits : PlacedFormsFit → RowsAreAtoms → LawfulLimitsLeaveRange
lawful_limits fit law s part lawful numerals (inl m) = absurd (no_memory part m)
lawful_limits fit law s part lawful numerals (inr r) = elim r.atom [
  | inl b ↦ absurd b.refuses
  | inr other ↦ elim other [ inl rows ↦ refused s lawful law part r rows | inr d ↦ absurd (not_large s.trees r.arguments fit numerals d.1) ]
]
