-- The difference of two terms from their forms.
use Rattle.std.proofs.Common.{◌≡◌, ℕ, zero, suc, ◌<◌, true, false, ◌&&◌, List, [], ◌∷◌, length, All, None, subst, sym, ap, ◌∙◌, arith}
use Rattle.smt_laws.proofs.Both.{and_left, and_right, and_both}
use Rattle.smt_meaning.specs.Term.{Tree, tree_at}
use Rattle.smt_meaning.specs.Linear.{Form, form_minus, form_fits, folding_fits}
use Rattle.linear_forms.specs.Sums.{IsSum}
use Rattle.linear_forms.specs.Folding.{combined_form, combined_fits}
use Rattle.linear_forms.specs.Table.{Known, known_at, AreForms}
use Rattle.linear_forms.specs.Entries.{forms_at, AreSums}
use Rattle.linear_forms.specs.Differences.{difference_fits, KnowsForms, IsDifference, LeavesRangeTogether}
use Rattle.linear_forms.proofs.FoldLemmas.{folds_end}
use Rattle.linear_forms.proofs.NodeLemmas.{combined_sums, all_sums}
use Rattle.linear_forms.proofs.Unfolding.{forms_in, all_fit}
use Rattle.linear_forms.proofs.TableLemmas.{argument_sums, argument_forms, argument_fits}

abbrev both_of : ℕ → ℕ → List ℕ
both_of left right = left ∷ right ∷ []

abbrev pub AreInside : List Known → ℕ → ℕ → Type 0
AreInside known left right = All (λ i. (known_at known i).outside ≡ None) (both_of left right)

module _ (ts : List Tree) (known : List Known) (forms : AreForms ts known) (left right : ℕ) (below_left : left < length known) (below_right : right < length known) where
  size : length known ≡ length ts
  size = let f = forms.forms in f.size

  before : All (λ i. i < length ts) (both_of left right)
  before zero d h = let s = size in omega arith
  before (suc zero) d h = let s = size in omega arith
  before (suc (suc k)) d h = absurd (omega arith)

  module _ (inside : AreInside known left right) where
    sums : AreSums (length ts) known (both_of left right)
    sums = argument_sums ts (length ts) known forms.forms (both_of left right) before inside

    pub sums_of_both : (count : ℕ) → count ≡ length known → AreSums count known (both_of left right)
    sums_of_both count e = subst (λ n. AreSums n known (both_of left right)) (sym (e ∙ size)) sums

    same_forms : forms_in ts (both_of left right) ≡ forms_at known (both_of left right)
    same_forms = argument_forms ts (length ts) known forms.forms (both_of left right) before inside

    both_fit : all_fit ts (both_of left right) ≡ true
    both_fit = argument_fits ts (length ts) known forms.forms (both_of left right) before inside

    pub is_difference : (f : Form) → combined_fits true (forms_at known (both_of left right)) ≡ true → f ≡ combined_form true (forms_at known (both_of left right)) → IsDifference ts left right f
    is_difference f h e = record {
      fits = and_both (all_fit ts (both_of left right)) (combined_fits true (forms_in ts (both_of left right))) both_fit (ap (combined_fits true) same_forms ∙ h);
      form = e ∙ ap (combined_form true) (sym same_forms);
      is_sum = subst (λ (g : Form). IsSum (length ts) g.sum) (sym e) (combined_sums (length ts) true (forms_at known (both_of left right)) (all_sums (length ts) known (both_of left right) sums));
      ranges = ap form_fits e ∙ folds_end form_minus (known_at known left).form ((known_at known right).form ∷ []) h;
    }

    pub pair_outside : combined_fits true (forms_at known (both_of left right)) ≡ false → LeavesRangeTogether ts (difference_fits ts) left right
    pair_outside h =
        let unfit : combined_fits true (forms_in ts (both_of left right)) ≡ false = ap (combined_fits true) same_forms ∙ h in
        record {
          left_fits = and_left (folding_fits ts (tree_at ts left)) (folding_fits ts (tree_at ts right) && true) both_fit;
          right_fits = and_left (folding_fits ts (tree_at ts right)) true (and_right (folding_fits ts (tree_at ts left)) (folding_fits ts (tree_at ts right) && true) both_fit);
          outside = ap (λ b. all_fit ts (both_of left right) && b) unfit ∙ ap (λ b. b && false) both_fit;
        }

pub sums_when_known : (known : List Known) (left right count : ℕ) → KnowsForms known → left < length known → right < length known → AreInside known left right → count ≡ length known
    → AreSums count known (both_of left right)
sums_when_known known left right count k l r i e = sums_of_both k.trees known k.forms left right l r i count e
