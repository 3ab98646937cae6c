-- Terms whose equality may get a number, and their bounds.
use Rattle.std.proofs.Common.{◌≡◌, ◌∙◌, ℕ, ◌+◌, ◌<◌, ◌&&◌, Bool, true, false, List, [], ◌∷◌, length, All, refl, sym, ap, subst}
use Rattle.std.specs.Prelude.{◌^◌, Some, slice_index_or, unsigned_abs}
use Rattle.std.proofs.lemmas.Bool.{ltb-true}
use Rattle.std.proofs.lemmas.List.Elements.{All-nil, All-cons}
use Rattle.fraction128.specs.Whole.{is_in_range}
use Rattle.smt_meaning.specs.declared.values.Sort.{Sort}
use Rattle.smt_meaning.specs.declared.values.Sort.TheVariants.{Bool as Truths, Int as Ints}
use Rattle.smt_meaning.specs.declared.clauses.Summand.{Summand}
use Rattle.smt_meaning.specs.Term.{tree_at}
use Rattle.smt_meaning.specs.Signature.{tree_sort}
use Rattle.smt_meaning.specs.CheckAtoms.{is_leaf}
use Rattle.smt_meaning.specs.Linear.{sum_fits}
use Rattle.smt_meaning.specs.Stack.{signature_of}
use Rattle.smt_meaning.specs.StackCommand.{Stack}
use Rattle.scope_stack.specs.Facts.{AreSorts}
use Rattle.linear_forms.specs.Sums.{IsSumWithin}
use Rattle.bound_log.specs.Growth.{IsProper}
use Rattle.model_eval.specs.Walk.{is_marked}
use Rattle.model_build.specs.Parts.{AreSortedParts}
use Rattle.theory_combine.specs.Pairs.{AreReadable, IsFit}
use Rattle.theory_combine.specs.Shown.{IsMarkedLeaf}
use Rattle.theory_combine.proofs.Marking.{marked_within}

pub in_list : (s : Stack) (marks : List Bool) (p : ℕ) → AreSortedParts (signature_of s.frames) s.trees marks → is_marked marks p ≡ true → p < length s.trees
in_list s marks p parts marked = subst (λ n. p < n) parts.size (marked_within marks p marked)

pub fit : (s : Stack) (marks : List Bool) (sorts : List Sort) (p : ℕ) → AreSortedParts (signature_of s.frames) s.trees marks → AreReadable s.trees marks
    → AreSorts (signature_of s.frames) s.trees (length s.trees) sorts → is_marked marks p ≡ true → slice_index_or sorts p Truths ≡ Ints → IsFit s marks p
fit s marks sorts p parts reads are marked int =
    let within : p < length s.trees = subst (λ n. p < n) parts.size (marked_within marks p marked) in
    let has = parts.sorted p marked in
    let sort : has.0 ≡ Ints = sym (are.each p has.0 within has.1) ∙ int in
    record {
      within = within;
      marked = marked;
      is_int = has.1 ∙ ap (λ (t : Sort). Some t) sort;
      readable = reads p marked;
    }

-- a marked place whose listed sort is Int
pub marked_int : (s : Stack) (marks : List Bool) (sorts : List Sort) (p : ℕ) → AreSortedParts (signature_of s.frames) s.trees marks → AreSorts (signature_of s.frames) s.trees (length s.trees) sorts
    → is_marked marks p ≡ true → slice_index_or sorts p Truths ≡ Ints → tree_sort (signature_of s.frames) (tree_at s.trees p) ≡ Some Ints
marked_int s marks sorts p parts are marked int =
    let has = parts.sorted p marked in
    let sort : has.0 ≡ Ints = sym (are.each p has.0 (in_list s marks p parts marked) has.1) ∙ int in
    has.1 ∙ ap (λ (t : Sort). Some t) sort

pub marked_leaf : (s : Stack) (marks : List Bool) (sorts : List Sort) (p : ℕ) → AreSortedParts (signature_of s.frames) s.trees marks → AreSorts (signature_of s.frames) s.trees (length s.trees) sorts
    → is_marked marks p ≡ true → slice_index_or sorts p Truths ≡ Ints → is_leaf (tree_at s.trees p) ≡ true → IsMarkedLeaf s marks p
marked_leaf s marks sorts p parts are marked int leaf =
    record { within = in_list s marks p parts marked; marked = marked; is_int = marked_int s marks sorts p parts are marked int; leaf = leaf }

and_first : (a b : Bool) → (a && b) ≡ true → a ≡ true
and_first true b e = refl
and_first false b e = e

and_second : (a b : Bool) → (a && b) ≡ true → b ≡ true
and_second true b e = e
and_second false b e = absurd (clash e)
  where
    clash : false ≡ true → ⊥
    clash f = cc

pub proper_sum : (low high : ℕ) (sum : List Summand) → IsSumWithin low high sum → sum_fits sum ≡ true → All IsProper sum
proper_sum low high [] h fits = All-nil IsProper
proper_sum low high (p ∷ ps) h fits =
    All-cons IsProper p ps (record { in_range = ltb-true (unsigned_abs p.coefficient) (2 ^ 127) (and_first (is_in_range p.coefficient) (sum_fits ps) fits); nonzero = h.2 })
    (proper_sum (p.term + 1) high ps h.3 (and_second (is_in_range p.coefficient) (sum_fits ps) fits))
