-- The form of a node from those of its arguments.
use Rattle.std.proofs.Common.{◌≡◌, ◌≢◌, ℕ, zero, suc, ◌+◌, ◌≤◌, Bool, true, false, List, [], ◌∷◌, ◌++◌, get_or, Result, Ok, Err, subst, sym, ap, ◌∙◌, refl, arith}
use Rattle.std.specs.Prelude.{ℤ, pos, negsuc, IfOk}
use Rattle.std.proofs.lemmas.List.Elements.{All-head, All-tail}
use Rattle.smt_meaning.specs.declared.clauses.Summand.{Summand}
use Rattle.smt_meaning.specs.declared.terms.Head.TheVariants.{Numeral, Theory, Symbol, Place}
use Rattle.smt_meaning.specs.declared.terms.Operator.{Operator}
use Rattle.smt_meaning.specs.declared.terms.Operator.TheVariants.{Add, Subtract, Multiply}
use Rattle.smt_meaning.specs.Linear.{Form, form_plus, form_minus, form_product, form_times, fold_forms, folded, folded_fits, number_form, sum_fits}
use Rattle.linear_forms.specs.declared.coefficients.Coefficient.{Coefficient}
use Rattle.linear_forms.specs.declared.coefficients.Stop.{Stop}
use Rattle.linear_forms.specs.Sums.{IsSum}
use Rattle.linear_forms.specs.Scratch.{cell, at, AreZero, HasCoefficients}
use Rattle.linear_forms.specs.Folding.{form_of, combined_form, combined_fits, IsCombined, IsFolded, leaf_at}
use Rattle.linear_forms.specs.Table.{Known, known_at}
use Rattle.linear_forms.specs.Entries.{forms_at, AreSums}
use Rattle.linear_forms.proofs.SumLemmas.{sum_times_sum, to_higher}
use Rattle.linear_forms.proofs.FoldLemmas.{combine_sum}

-- ---- room

pub zero_push : (vs : List Coefficient) → AreZero vs → AreZero (vs ++ cell (pos 0) ∷ [])
zero_push vs z i = by vs z i
  where
    by : (vs : List Coefficient) → AreZero vs → (i : ℕ) → at (vs ++ cell (pos 0) ∷ []) i ≡ pos 0
    by [] z zero = refl
    by [] z (suc i) = refl
    by (v ∷ vs) z zero = z 0
    by (v ∷ vs) z (suc i) = by vs (λ j. z (suc j)) i

-- ---- the sum that is taken out

pub taken_form : (bound : ℕ) (s : Bool) (fs : List Form) (vs : List Coefficient) (n : ℤ) (sum : List Summand) → IsCombined bound s fs vs n
    → ((ps : List Summand) → IsSum bound ps → HasCoefficients vs ps → sum ≡ ps) → form_of sum n ≡ combined_form s fs
taken_form bound s fs vs n sum c t =
    ap (λ ps. form_of ps n) (t (combined_form s fs).sum c.is_sum c.holds.coefficients) ∙ ap (form_of (combined_form s fs).sum) c.holds.constant_is

pub taken_ranges : (bound : ℕ) (s : Bool) (fs : List Form) (vs : List Coefficient) (n : ℤ) (sum : List Summand) → IsCombined bound s fs vs n
    → ((ps : List Summand) → IsSum bound ps → HasCoefficients vs ps → sum ≡ ps) → sum_fits sum ≡ true
taken_ranges bound s fs vs n sum c t = ap sum_fits (t (combined_form s fs).sum c.is_sum c.holds.coefficients) ∙ c.ranges

pub higher_sums : (low high : ℕ) (known : List Known) (is : List ℕ) → low ≤ high → AreSums low known is → AreSums high known is
higher_sums low high known is l a k d h = to_higher 0 low high (known_at known (get_or is k d)).form.sum l (a k d h)

-- ---- the places of a folded form

abbrev pub AllSums : ℕ → List Form → Type 0
AllSums bound [] = Unit {0}
AllSums bound (f ∷ fs) = IsSum bound f.sum × AllSums bound fs

pub all_sums : (bound : ℕ) (known : List Known) (is : List ℕ) → AreSums bound known is → AllSums bound (forms_at known is)
all_sums bound known [] a = tt
all_sums bound known (i ∷ is) a =
    (All-head (λ j. IsSum bound (known_at known j).form.sum) i is a, all_sums bound known is (All-tail (λ j. IsSum bound (known_at known j).form.sum) i is a))

module _ (bound : ℕ) (op : Form → Form → Form) (closed : (f g : Form) → IsSum bound f.sum → IsSum bound g.sum → IsSum bound (op f g).sum) where
  fold_sums : (f : Form) (fs : List Form) → IsSum bound f.sum → AllSums bound fs → IsSum bound (fold_forms op f fs).sum
  fold_sums f [] a h = a
  fold_sums f (g ∷ gs) a h = fold_sums (op f g) gs (closed f g a h.0) h.1

  folded_sums : (fs : List Form) → AllSums bound fs → IsSum bound (folded op fs).sum
  folded_sums [] h = tt
  folded_sums (f ∷ fs) h = fold_sums f fs h.0 h.1

abbrev HasSum : ℕ → Form → Type 0
HasSum bound h = IsSum bound h.sum

product_sums : (bound : ℕ) (f g : Form) → IsSum bound f.sum → IsSum bound g.sum → IsSum bound (form_product f g).sum
product_sums bound f g a b = by f.sum
  where
    by : (ps : List Summand) → HasSum bound (elim ps [ [] ↦ form_times f.constant g | p ∷ rest ↦ form_times g.constant f ])
    by [] = sum_times_sum bound f.constant g.sum b
    by (p ∷ rest) = sum_times_sum bound g.constant f.sum a

pub combined_sums : (bound : ℕ) (s : Bool) (fs : List Form) → AllSums bound fs → IsSum bound (combined_form s fs).sum
combined_sums bound true [] h = tt
combined_sums bound true (f ∷ []) h = sum_times_sum bound (negsuc 0) f.sum h.0
combined_sums bound true (f ∷ g ∷ gs) h = folded_sums bound form_minus (combine_sum bound true) (f ∷ g ∷ gs) h
combined_sums bound false fs h = folded_sums bound form_plus (combine_sum bound false) fs h

module _ (place : ℕ) (known : List Known) (is : List ℕ) (a : AreSums place known is) (f : Form) where
  pub folded_add : combined_fits false (forms_at known is) ≡ true → f ≡ combined_form false (forms_at known is) → sum_fits f.sum ≡ true → IsFolded (Theory Add) (forms_at known is) place f
  folded_add fits e r = record {
    fits = fits;
    whole = e;
    is_sum = to_higher 0 place (place + 1) f.sum (omega arith) (subst (λ (g : Form). IsSum place g.sum) (sym e) (combined_sums place false (forms_at known is) (all_sums place known is a)));
    ranges = r;
  }

  pub folded_subtract : combined_fits true (forms_at known is) ≡ true → f ≡ combined_form true (forms_at known is) → sum_fits f.sum ≡ true → IsFolded (Theory Subtract) (forms_at known is) place f
  folded_subtract fits e r = record {
    fits = fits;
    whole = e;
    is_sum = to_higher 0 place (place + 1) f.sum (omega arith) (subst (λ (g : Form). IsSum place g.sum) (sym e) (combined_sums place true (forms_at known is) (all_sums place known is a)));
    ranges = r;
  }

  pub folded_multiply : folded_fits form_product (forms_at known is) ≡ true → f ≡ folded form_product (forms_at known is) → sum_fits f.sum ≡ true → IsFolded (Theory Multiply) (forms_at known is) place f
  folded_multiply fits e r = record {
    fits = fits;
    whole = e;
    is_sum = to_higher 0 place (place + 1) f.sum (omega arith) (subst (λ (g : Form). IsSum place g.sum) (sym e) (folded_sums place form_product (product_sums place) (forms_at known is) (all_sums place known is a)));
    ranges = r;
  }

pub folded_numeral : (n : ℤ) (fs : List Form) (place : ℕ) (f : Form) → f ≡ number_form n → IsFolded (Numeral n) fs place f
folded_numeral n fs place f e = subst (IsFolded (Numeral n) fs place) (sym e) (record { fits = refl; whole = refl; is_sum = tt; ranges = refl })

leaf_sum : (place : ℕ) → IsSum (place + 1) (leaf_at place).sum
leaf_sum place = (omega arith, omega arith, λ e. cc, tt)

pub folded_symbol : (f : ℕ) (fs : List Form) (place : ℕ) (g : Form) → g ≡ leaf_at place → IsFolded (Symbol f) fs place g
folded_symbol f fs place g e = subst (IsFolded (Symbol f) fs place) (sym e) (record { fits = refl; whole = refl; is_sum = leaf_sum place; ranges = refl })

pub folded_place : (f : ℕ) (fs : List Form) (place : ℕ) (g : Form) → g ≡ leaf_at place → IsFolded (Place f) fs place g
folded_place f fs place g e = subst (IsFolded (Place f) fs place) (sym e) (record { fits = refl; whole = refl; is_sum = leaf_sum place; ranges = refl })

leaf_operator : (o : Operator) (fs : List Form) (place : ℕ) → o ≢ Add → o ≢ Subtract → o ≢ Multiply → IsFolded (Theory o) fs place (leaf_at place)
leaf_operator Add fs place a b c = absurd (a refl)
leaf_operator Subtract fs place a b c = absurd (b refl)
leaf_operator Multiply fs place a b c = absurd (c refl)
leaf_operator _ fs place a b c = record { fits = refl; whole = refl; is_sum = leaf_sum place; ranges = refl }

pub folded_other : (o : Operator) (fs : List Form) (place : ℕ) (g : Form) → o ≢ Add → o ≢ Subtract → o ≢ Multiply → g ≡ leaf_at place → IsFolded (Theory o) fs place g
folded_other o fs place g a b c e = subst (IsFolded (Theory o) fs place) (sym e) (leaf_operator o fs place a b c)

-- ---- answers with a constant

pub each_ok : (r : Result ℤ Stop) (P Q : ℤ → Type 0) → IfOk r P → ((n : ℤ) → P n → Q n) → IfOk r Q
each_ok (Ok n) P Q p f = f n p
each_ok (Err e) P Q p f = tt

pub each_of_three : (r : Result ℤ Stop) (P Q R S : ℤ → Type 0) → IfOk r P → IfOk r Q → IfOk r R → ((n : ℤ) → P n → Q n → R n → S n) → IfOk r S
each_of_three (Ok n) P Q R S p q t f = f n p q t
each_of_three (Err e) P Q R S p q t f = tt
