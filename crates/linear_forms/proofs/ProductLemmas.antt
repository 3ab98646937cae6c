-- Products of forms.
use Rattle.std.proofs.Common.{◌≡◌, ◌≢◌, ℕ, zero, suc, ◌+◌, ◌*◌, ◌<◌, true, false, ◌&&◌, List, [], ◌∷◌, ◌++◌, length, get_or, take, drop, ◌≤◌, subst, sym, ap, ◌∙◌, refl, arith}
use Rattle.std.specs.Prelude.{ℤ, pos, negsuc, ◌*ℤ◌, neg_ℤ}
use Rattle.std.proofs.lemmas.List.{take_more, take_all, drop_more, drop_all, map-append}
use Rattle.fraction128.specs.Whole.{InRange, is_in_range}
use Rattle.smt_laws.proofs.Both.{and_left, and_right, and_both}
use Rattle.smt_meaning.specs.declared.clauses.Summand.{Summand}
use Rattle.smt_meaning.specs.Linear.{Form, summand, form_times, form_product, form_fits, sum_fits, each_times, sum_times, fold_forms, folds_fit, folded, folded_fits, number_form}
use Rattle.linear_forms.specs.Folding.{form_of, IsMultiplying}
use Rattle.linear_forms.specs.Table.{Known, known_at}
use Rattle.linear_forms.specs.Entries.{forms_at}
use Rattle.linear_forms.proofs.SumLemmas.{fits_in_range, in_range_fits}
use Rattle.linear_forms.proofs.FoldLemmas.{false_if, after_true, folds_unfit}

-- ---- a sum times a number

pub times_each : (k : ℤ) (ps : List Summand) → k ≢ pos 0 → sum_times k ps ≡ each_times k ps
times_each (pos zero) ps h = absurd (h refl)
times_each (pos (suc n)) ps h = refl
times_each (negsuc n) ps h = refl

pub times_zero : (k : ℤ) (ps : List Summand) → k ≡ pos 0 → sum_times k ps ≡ []
times_zero k ps e = ap (λ z. sum_times z ps) e

sum_fits-append : (xs ys : List Summand) → sum_fits xs ≡ true → sum_fits ys ≡ true → sum_fits (xs ++ ys) ≡ true
sum_fits-append [] ys a b = b
sum_fits-append (x ∷ xs) ys a b =
    and_both (is_in_range x.coefficient) (sum_fits (xs ++ ys)) (and_left (is_in_range x.coefficient) (sum_fits xs) a)
    (sum_fits-append xs ys (and_right (is_in_range x.coefficient) (sum_fits xs) a) b)

summand_fits : (ps : List Summand) (k : ℕ) (d : Summand) → k < length ps → sum_fits ps ≡ true → InRange (get_or ps k d).coefficient
summand_fits [] k d l h = absurd (omega arith)
summand_fits (p ∷ ps) zero d l h = fits_in_range p.coefficient (and_left (is_in_range p.coefficient) (sum_fits ps) h)
summand_fits (p ∷ ps) (suc k) d l h = summand_fits ps k d (omega arith) (and_right (is_in_range p.coefficient) (sum_fits ps) h)

each_at : (k : ℤ) (ps : List Summand) (i : ℕ) (d e : Summand) → i < length ps → (get_or (each_times k ps) i e).coefficient ≡ k *ℤ (get_or ps i d).coefficient
each_at k [] i d e l = absurd (omega arith)
each_at k (p ∷ ps) zero d e l = refl
each_at k (p ∷ ps) (suc i) d e l = each_at k ps i d e (omega arith)

each_length : (k : ℤ) (ps : List Summand) → length (each_times k ps) ≡ length ps
each_length k [] = refl
each_length k (p ∷ ps) = ap suc (each_length k ps)

pub record IsScaling (k : ℤ) (ps : List Summand) (i : ℕ) (out : List Summand) : Type 0 where
  pub made : out ≡ each_times k (take i ps)
  pub fits : sum_fits out ≡ true

pub scaling_start : (k : ℤ) (ps out : List Summand) → out ≡ [] → IsScaling k ps 0 out
scaling_start k ps out e = record { made = e; fits = ap sum_fits e }

pub scaling_step : (k : ℤ) (ps : List Summand) (i : ℕ) (d : Summand) (out next : List Summand) → IsScaling k ps i out → i < length ps
    → next ≡ out ++ summand (get_or ps i d).term (k *ℤ (get_or ps i d).coefficient) ∷ [] → InRange (k *ℤ (get_or ps i d).coefficient) → IsScaling k ps (i + 1) next
scaling_step k ps i d out next s l e r =
    let p : Summand = get_or ps i d in
    record {
      made = e ∙ ap (λ xs. xs ++ summand p.term (k *ℤ p.coefficient) ∷ []) s.made ∙ sym (map-append (λ (q : Summand). summand q.term (k *ℤ q.coefficient)) (take i ps) (p ∷ [])) ∙ ap (each_times k) (sym (take_more ps i d l));
      fits = subst (λ xs. sum_fits xs ≡ true) (sym e) (sum_fits-append out (summand p.term (k *ℤ p.coefficient) ∷ []) s.fits (and_both (is_in_range (k *ℤ p.coefficient)) true (in_range_fits (k *ℤ p.coefficient) r) refl));
    }

pub scaling_fails : (k : ℤ) (ps : List Summand) (i : ℕ) (d : Summand) → k ≢ pos 0 → i < length ps → (InRange (k *ℤ (get_or ps i d).coefficient) → ⊥) → sum_fits (sum_times k ps) ≡ false
scaling_fails k ps i d n l out =
    ap sum_fits (times_each k ps n) ∙ false_if (sum_fits (each_times k ps)) (λ h. out (subst InRange (each_at k ps i d d l) (summand_fits (each_times k ps) i d (omega (arith, each_length k ps)) h)))

-- ---- a form times a number

pub form_times_fits : (k : ℤ) (ps : List Summand) (c : ℤ) → sum_fits (sum_times k ps) ≡ true → InRange (k *ℤ c) → form_fits (form_times k (form_of ps c)) ≡ true
form_times_fits k ps c a b = and_both (sum_fits (sum_times k ps)) (is_in_range (k *ℤ c)) a (in_range_fits (k *ℤ c) b)

pub form_times_sum_unfit : (k : ℤ) (ps : List Summand) (c : ℤ) → sum_fits (sum_times k ps) ≡ false → form_fits (form_times k (form_of ps c)) ≡ false
form_times_sum_unfit k ps c e = ap (λ b. b && is_in_range (k *ℤ c)) e

pub form_times_constant_unfit : (k : ℤ) (ps : List Summand) (c : ℤ) → (InRange (k *ℤ c) → ⊥) → form_fits (form_times k (form_of ps c)) ≡ false
form_times_constant_unfit k ps c out =
    false_if (form_fits (form_times k (form_of ps c))) (λ h. out (fits_in_range (k *ℤ c) (and_right (sum_fits (sum_times k ps)) (is_in_range (k *ℤ c)) h)))

-- ---- a product and a form more

pub product_of_constant : (ps : List Summand) (c : ℤ) (g : Form) → ps ≡ [] → form_times c g ≡ form_product (form_of ps c) g
product_of_constant ps c g e = sym (ap (λ xs. form_product (form_of xs c) g) e)

pub product_by_constant : (ps : List Summand) (c : ℤ) (g : Form) → ps ≢ [] → form_times g.constant (form_of ps c) ≡ form_product (form_of ps c) g
product_by_constant [] c g h = absurd (h refl)
product_by_constant (p ∷ ps) c g h = refl

one_times : (z : ℤ) → pos 1 *ℤ z ≡ z
one_times (pos n) = ap pos (omega arith)
one_times (negsuc n) = ap (λ m. neg_ℤ (pos m)) (let e : 1 * suc n ≡ suc n = omega arith in e)

one_each : (ps : List Summand) → each_times (pos 1) ps ≡ ps
one_each [] = refl
one_each (p ∷ ps) = ap (λ z. summand p.term z ∷ each_times (pos 1) ps) (one_times p.coefficient) ∙ ap (λ xs. p ∷ xs) (one_each ps)

product_first : (f : Form) → form_product (number_form (pos 1)) f ≡ f
product_first f = ap (λ ps. form_of ps (pos 1 *ℤ f.constant)) (one_each f.sum) ∙ ap (form_of f.sum) (one_times f.constant)

pub multiplying_start : (fs : List Form) (f : Form) → f ≡ number_form (pos 1) → IsMultiplying fs fs f
multiplying_start fs f e = subst (IsMultiplying fs fs) (sym e) (record { in_range = refl; whole = refl; fits = refl })

module _ (fs : List Form) (g : Form) (rest : List Form) (f : Form) (m : IsMultiplying fs (g ∷ rest) f) where
  pub multiplying_step : (next : Form) → next ≡ form_product f g → form_fits (form_product f g) ≡ true → IsMultiplying fs rest next
  multiplying_step next e r = subst (IsMultiplying fs rest) (sym e) (record {
    in_range = r;
    whole = m.whole;
    fits = after_true (form_fits f) (folds_fit form_product (form_product f g) rest) (folds_fit form_product (number_form (pos 1)) fs) m.in_range m.fits;
  })

  pub multiplying_fails : form_fits (form_product f g) ≡ false → folds_fit form_product (number_form (pos 1)) fs ≡ false
  multiplying_fails e =
      sym (after_true (form_fits f) (folds_fit form_product (form_product f g) rest) (folds_fit form_product (number_form (pos 1)) fs) m.in_range m.fits)
      ∙ folds_unfit form_product (form_product f g) rest e

whole_product : (fs : List Form) → fs ≢ [] → fold_forms form_product (number_form (pos 1)) fs ≡ folded form_product fs
whole_product [] h = absurd (h refl)
whole_product (f ∷ fs) h = ap (λ x. fold_forms form_product x fs) (product_first f)

pub whole_product_fits : (fs : List Form) → fs ≢ [] → folds_fit form_product (number_form (pos 1)) fs ≡ folded_fits form_product fs
whole_product_fits [] h = absurd (h refl)
whole_product_fits (f ∷ fs) h = ap (λ x. folds_fit form_product x fs) (product_first f)

pub multiplied : (fs : List Form) (f : Form) → fs ≢ [] → IsMultiplying fs [] f → f ≡ folded form_product fs
multiplied fs f n m = m.whole ∙ whole_product fs n

pub multiplied_fits : (fs : List Form) (f : Form) → fs ≢ [] → IsMultiplying fs [] f → folded_fits form_product fs ≡ true
multiplied_fits fs f n m = sym (whole_product_fits fs n) ∙ sym m.fits ∙ m.in_range

pub multiplied_ranges : (fs : List Form) (f : Form) → IsMultiplying fs [] f → sum_fits f.sum ≡ true
multiplied_ranges fs f m = and_left (sum_fits f.sum) (is_in_range f.constant) m.in_range

-- ---- at the ends of the loops

pub scaled_all : (k : ℤ) (ps : List Summand) (i : ℕ) (out : List Summand) → k ≢ pos 0 → IsScaling k ps i out → length ps ≤ i → out ≡ sum_times k ps
scaled_all k ps i out n s l = s.made ∙ ap (each_times k) (take_all i ps l) ∙ sym (times_each k ps n)

pub scaled_fits : (k : ℤ) (ps : List Summand) (i : ℕ) (out : List Summand) → k ≢ pos 0 → IsScaling k ps i out → length ps ≤ i → sum_fits (sum_times k ps) ≡ true
scaled_fits k ps i out n s l = ap sum_fits (sym (scaled_all k ps i out n s l)) ∙ s.fits

module _ (known : List Known) (args : List ℕ) where
  not_empty : 0 < length args → forms_at known args ≢ []
  not_empty some e = by args some e
    where
      by : (xs : List ℕ) → 0 < length xs → forms_at known xs ≢ []
      by [] h e = absurd (omega arith)
      by (x ∷ xs) h e = cc

  module _ (k : ℕ) (more : k < length args) (f g : Form) (e : g ≡ (known_at known (get_or args k 0)).form) (m : IsMultiplying (forms_at known args) (forms_at known (drop k args)) f) where
    here : IsMultiplying (forms_at known args) (g ∷ forms_at known (drop (k + 1) args)) f
    here =
        subst (λ x. IsMultiplying (forms_at known args) (x ∷ forms_at known (drop (k + 1) args)) f) (sym e)
        (subst (λ xs. IsMultiplying (forms_at known args) (forms_at known xs) f) (drop_more args k 0 more) m)

    pub product_next : (next : Form) → next ≡ form_product f g → form_fits (form_product f g) ≡ true → IsMultiplying (forms_at known args) (forms_at known (drop (k + 1) args)) next
    product_next next h r = multiplying_step (forms_at known args) g (forms_at known (drop (k + 1) args)) f here next h r

    pub product_fails : form_fits (form_product f g) ≡ false → folded_fits form_product (forms_at known args) ≡ false
    product_fails h =
        sym (whole_product_fits (forms_at known args) (not_empty (omega arith))) ∙ multiplying_fails (forms_at known args) g (forms_at known (drop (k + 1) args)) f here h

  module _ (some : 0 < length args) (k : ℕ) (all : length args ≤ k) (f : Form) (m : IsMultiplying (forms_at known args) (forms_at known (drop k args)) f) where
    at_end : IsMultiplying (forms_at known args) [] f
    at_end = subst (λ xs. IsMultiplying (forms_at known args) (forms_at known xs) f) (drop_all k args all) m

    pub product_all : f ≡ folded form_product (forms_at known args)
    product_all = multiplied (forms_at known args) f (not_empty some) at_end

    pub product_all_fits : folded_fits form_product (forms_at known args) ≡ true
    product_all_fits = multiplied_fits (forms_at known args) f (not_empty some) at_end
