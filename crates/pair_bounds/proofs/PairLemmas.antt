-- The bounds that compare two terms, from their difference.
use Rattle.std.proofs.Common.{◌≡◌, ℕ, ◌≤◌, true, List, ◌++◌, length, take, drop, subst, sym, ap, ◌∙◌, arith}
use Rattle.std.specs.Prelude.{ℤ, pos, ◌-ℤ◌, neg_ℤ}
use Rattle.std.proofs.lemmas.List.{take_all, drop_all, append-nil}
use Rattle.fraction128.specs.Whole.{InRange, is_in_range}
use Rattle.smt_laws.proofs.Both.{and_both}
use Rattle.smt_meaning.specs.declared.clauses.Summand.{Summand}
use Rattle.smt_meaning.specs.declared.clauses.Atom.{Atom}
use Rattle.smt_meaning.specs.declared.clauses.Atom.TheVariants.{AtMost}
use Rattle.smt_meaning.specs.Term.{Tree, tree_at}
use Rattle.smt_meaning.specs.Linear.{sum_fits}
use Rattle.smt_meaning.specs.Atoms.{difference_of, normal_bound, not_above_zero, below_zero}
use Rattle.linear_forms.specs.Sums.{IsSumWithin}
use Rattle.linear_forms.specs.Folding.{form_of}
use Rattle.linear_forms.specs.Differences.{difference_fits, IsDifference}
use Rattle.linear_forms.proofs.SumLemmas.{in_range_fits}
use Rattle.pair_bounds.specs.Sums.{HaveNoZero}
use Rattle.pair_bounds.specs.Pairs.{threshold_below, IsBound, IsAtMost, IsBelow}
use Rattle.pair_bounds.proofs.NormalLemmas.{no_zero}

-- a list after all of its items were written
pub written_back : (items new : List Summand) (count : ℕ) → length new ≡ length items → length new ≤ count → take count (new ++ drop (length new) items) ≡ new
written_back items new count e l =
    ap (λ xs. take count (new ++ xs)) (drop_all (length new) items (omega arith)) ∙ ap (take count) (append-nil new) ∙ take_all count new l

-- the bound that is written where a sum was
module _ (ts : List Tree) (sum : List Summand) (is_sum : IsSumWithin 0 (length ts) sum) where
  pub sum_no_zero : (now : List Summand) → now ≡ sum → HaveNoZero now
  sum_no_zero now e = subst HaveNoZero (sym e) (no_zero 0 (length ts) sum is_sum)

  pub is_bound : (now new out : List Summand) (k n m : ℤ) → now ≡ sum → out ≡ new → m ≡ n → AtMost new n ≡ normal_bound now k → sum_fits new ≡ true → InRange n
      → ((low high : ℕ) → IsSumWithin low high now → IsSumWithin low high new) → (a : Atom) → normal_bound sum k ≡ a → IsBound ts a out m
  is_bound now new out k n m same written given bound fits in_range order a e = record {
    atom = ap (λ xs. AtMost xs m) written ∙ ap (AtMost new) given ∙ bound ∙ ap (λ xs. normal_bound xs k) same ∙ e;
    is_sum = subst (IsSumWithin 0 (length ts)) (sym written) (order 0 (length ts) (subst (IsSumWithin 0 (length ts)) (sym same) is_sum));
    coefficients = ap sum_fits written ∙ fits;
    in_range = subst InRange (sym given) in_range;
  }

module _ (ts : List Tree) (left right : ℕ) (sum : List Summand) (constant : ℤ) (d : IsDifference ts left right (form_of sum constant)) where
  pub difference_no_zero : (now : List Summand) → now ≡ sum → HaveNoZero now
  difference_no_zero now e = sum_no_zero ts sum d.is_sum now e

  module _ (now new out : List Summand) (k n m : ℤ) (same : now ≡ sum) (written : out ≡ new) (given : m ≡ n) (bound : AtMost new n ≡ normal_bound now k)
      (fits : sum_fits new ≡ true) (in_range : InRange n) (order : (low high : ℕ) → IsSumWithin low high now → IsSumWithin low high new) where
    bounded : (a : Atom) → normal_bound sum k ≡ a → IsBound ts a out m
    bounded a e = is_bound ts sum d.is_sum now new out k n m same written given bound fits in_range order a e

    pub is_at_most : k ≡ neg_ℤ constant → IsAtMost ts left right out m
    is_at_most e = record { fits = d.fits; bound = bounded (not_above_zero (difference_of ts (tree_at ts left) (tree_at ts right))) (ap (normal_bound sum) e ∙ ap not_above_zero d.form) }

    pub is_below : k ≡ neg_ℤ constant -ℤ pos 1 → InRange k → IsBelow ts left right out m
    is_below e r = record {
      fits =
          and_both (difference_fits ts (tree_at ts left) (tree_at ts right)) (is_in_range (threshold_below (difference_of ts (tree_at ts left) (tree_at ts right)))) d.fits
          (in_range_fits (threshold_below (difference_of ts (tree_at ts left) (tree_at ts right))) (subst InRange (e ∙ ap threshold_below d.form) r));
      bound = bounded (below_zero (difference_of ts (tree_at ts left) (tree_at ts right))) (ap (normal_bound sum) e ∙ ap below_zero d.form);
    }
