-- The form of a term is in the range, where its numerals are and its folding stays there.
use Rattle.std.proofs.Common.{◌≡◌, ℕ, zero, suc, ◌^◌, List, [], ◌∷◌, All, ap, ◌∙◌, refl, true, nat_lt, arith}
use Rattle.std.specs.Prelude.{IsTrue, ℤ, pos, negsuc, ◌*ℤ◌, neg_ℤ, unsigned_abs}
use Rattle.std.proofs.lemmas.List.Elements.{All-head, All-tail}
use Rattle.fraction128.specs.Whole.{is_in_range}
use Rattle.smt_meaning.specs.declared.clauses.Summand.{Summand}
use Rattle.smt_meaning.specs.declared.terms.Operator.TheVariants.{Add, Subtract, Multiply}
use Rattle.smt_meaning.specs.declared.terms.Head.{Head}
use Rattle.smt_meaning.specs.declared.terms.Head.TheVariants.{Numeral, Theory, Symbol, Place}
use Rattle.smt_meaning.specs.Term.{Tree, node, tree_at}
use Rattle.smt_meaning.specs.Linear.{Form, each_times, form_times, form_plus, form_minus, form_product, fold_forms, folded, difference_form, head_form, leaf_form, linear_forms, sum_fits, form_fits, folds_fit, folded_fits, head_folding_fits, foldings_fit}
use Rattle.smt_laws.proofs.Both.{and_left, and_right, and_both}
use Rattle.smt_laws.specs.Numerals.{head_in_range, numerals_fit, all_numerals_fit}
use Rattle.smt_laws.specs.LinearLaws.{FoldedFormsFit, PlacedFormsFit}

-- ---- a negated form

minus_one : (z : ℤ) → negsuc 0 *ℤ z ≡ neg_ℤ z
minus_one (pos n) = ap (λ m. neg_ℤ (pos m)) (omega arith)
minus_one (negsuc n) = ap (λ m. pos m) (omega arith)

abs_negated : (z : ℤ) → unsigned_abs (negsuc 0 *ℤ z) ≡ unsigned_abs z
abs_negated z = ap unsigned_abs (minus_one z) ∙ by z
  where
    by : (z : ℤ) → unsigned_abs (neg_ℤ z) ≡ unsigned_abs z
    by (pos zero) = refl
    by (pos (suc n)) = refl
    by (negsuc n) = refl

negated : (z : ℤ) → is_in_range z ≡ true → is_in_range (negsuc 0 *ℤ z) ≡ true
negated z h = ap (λ n. nat_lt n (2 ^ 127)) (abs_negated z) ∙ h

sum_negated : (ps : List Summand) → sum_fits ps ≡ true → sum_fits (each_times (negsuc 0) ps) ≡ true
sum_negated [] h = refl
sum_negated (p ∷ ps) h =
    and_both (is_in_range (negsuc 0 *ℤ p.coefficient)) (sum_fits (each_times (negsuc 0) ps)) (negated p.coefficient (and_left (is_in_range p.coefficient) (sum_fits ps) h))
    (sum_negated ps (and_right (is_in_range p.coefficient) (sum_fits ps) h))

form_negated : (f : Form) → form_fits f ≡ true → form_fits (form_times (negsuc 0) f) ≡ true
form_negated f h =
    and_both (sum_fits (each_times (negsuc 0) f.sum)) (is_in_range (negsuc 0 *ℤ f.constant)) (sum_negated f.sum (and_left (sum_fits f.sum) (is_in_range f.constant) h))
    (negated f.constant (and_right (sum_fits f.sum) (is_in_range f.constant) h))

-- ---- folding

folds_end : (op : Form → Form → Form) (f : Form) (rest : List Form) → folds_fit op f rest ≡ true → form_fits (fold_forms op f rest) ≡ true
folds_end op f [] h = h
folds_end op f (g ∷ gs) h = folds_end op (op f g) gs (and_right (form_fits f) (folds_fit op (op f g) gs) h)

folded_end : (op : Form → Form → Form) (fs : List Form) → folded_fits op fs ≡ true → form_fits (folded op fs) ≡ true
folded_end op [] h = refl
folded_end op (f ∷ fs) h = folds_end op f fs h

difference_end : (fs : List Form) → folded_fits form_minus fs ≡ true → form_fits (difference_form fs) ≡ true
difference_end [] h = refl
difference_end (f ∷ []) h = form_negated f h
difference_end (f ∷ g ∷ fs) h = folded_end form_minus (f ∷ g ∷ fs) h

head_fits : (h : Head) (fs : List Form) (leaf : Form) → head_in_range h ≡ true → head_folding_fits h fs ≡ true → form_fits leaf ≡ true → form_fits (head_form h fs leaf) ≡ true
head_fits (Numeral n) fs leaf k e l = k
head_fits (Theory Add) fs leaf k e l = folded_end form_plus fs e
head_fits (Theory Subtract) fs leaf k e l = difference_end fs e
head_fits (Theory Multiply) fs leaf k e l = folded_end form_product fs e
head_fits (Theory _) fs leaf k e l = l
head_fits (Symbol f) fs leaf k e l = l
head_fits (Place j) fs leaf k e l = l

pub folded_form_fits : FoldedFormsFit
folded_form_fits ts (node h us) k e =
    head_fits h (linear_forms ts us) (leaf_form ts (node h us)) (and_left (head_in_range h) (all_numerals_fit us) k)
    (and_right (foldings_fit ts us) (head_folding_fits h (linear_forms ts us)) e) refl

numerals_at : (ts : List Tree) (p : ℕ) → All (λ (t : Tree). IsTrue (numerals_fit t)) ts → IsTrue (numerals_fit (tree_at ts p))
numerals_at [] p h = refl
numerals_at (t ∷ ts) zero h = All-head (λ (u : Tree). IsTrue (numerals_fit u)) t ts h
numerals_at (t ∷ ts) (suc p) h = numerals_at ts p (All-tail (λ (u : Tree). IsTrue (numerals_fit u)) t ts h)

pub placed_form_fits : PlacedFormsFit
placed_form_fits ts p h e = folded_form_fits ts (tree_at ts p) (numerals_at ts p h) e
