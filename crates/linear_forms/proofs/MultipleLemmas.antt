-- Sums of multiples, folded from the right.
use Rattle.std.proofs.Common.{◌≡◌, ◌⊎◌, inl, inr, ℕ, zero, suc, ◌+◌, ◌<◌, ◌≤◌, true, false, ◌&&◌, List, [], ◌∷◌, length, get_or, drop, All, Contains, None, subst, sym, ap, ◌∙◌, refl, arith}
use Rattle.std.specs.Prelude.{ℤ, pos, ◌+ℤ◌}
use Rattle.std.proofs.lemmas.List.{drop_more}
use Rattle.std.proofs.lemmas.List.Elements.{All-head, All-tail}
use Rattle.fraction128.specs.Whole.{InRange}
use Rattle.smt_laws.proofs.Both.{and_left, and_right, and_both}
use Rattle.smt_meaning.specs.declared.clauses.Summand.{Summand}
use Rattle.smt_meaning.specs.Term.{Tree, tree_at}
use Rattle.smt_meaning.specs.Linear.{Form, form_times, form_plus, form_fits, folding_fits}
use Rattle.smt_meaning.specs.Division.{combined, combined_fits}
use Rattle.smt_laws.specs.Rows.{place_form}
use Rattle.linear_forms.specs.declared.coefficients.Coefficient.{Coefficient}
use Rattle.linear_forms.specs.declared.multiples.Multiple.{Multiple}
use Rattle.linear_forms.specs.Sums.{coefficient_of, IsSum}
use Rattle.linear_forms.specs.Scratch.{AreRanged, AreZero, AreTouched, HasCoefficients, IsAdded, LeavesRange}
use Rattle.linear_forms.specs.Folding.{form_of, Holds}
use Rattle.linear_forms.specs.Table.{Known, known_at, AreForms, HasForm}
use Rattle.linear_forms.specs.Differences.{KnowsForms}
use Rattle.linear_forms.specs.Multiples.{multiples_of, IsMultiple, AreMultiples, IsCombination, OneIsOutside, LeaveRangeTogether, form_in, AreSumsOf, HasOutsideTerm, AreAddedUp, IsFoldedSum}
use Rattle.linear_forms.proofs.SumLemmas.{plus_comm, sums_added_sum, sums_added_at, sum_times_sum, to_higher}
use Rattle.linear_forms.proofs.FoldLemmas.{false_if, form_constant, form_coefficient, holds_fits}
use Rattle.linear_forms.proofs.TableLemmas.{known_form, known_outside}

not_fits : (b : _) → b ≡ false → b ≡ true → ⊥
not_fits b e h = let x : true ≡ false = sym h ∙ e in cc

-- ---- one more

-- why a multiple of a form that is added leaves the range
abbrev pub MayLeaveBy : ℤ → List Coefficient → ℤ → Form → Type 0
MayLeaveBy k vs n f = (form_fits (form_times k f) ≡ false) ⊎ ((InRange (n +ℤ (form_times k f).constant) → ⊥) ⊎ LeavesRange false vs (form_times k f).sum)

-- what adding a multiple of a form gives
pub record IsMore (k : ℤ) (vs us : List Coefficient) (n m : ℤ) (f : Form) : Type 0 where
  pub fits : form_fits (form_times k f) ≡ true
  pub added : IsAdded false vs us (form_times k f).sum
  pub constant : m ≡ n +ℤ (form_times k f).constant
  pub ranged : AreRanged us
  pub in_range : InRange m

pub leaves_as : (vs : List Coefficient) (n k : ℤ) (ps : List Summand) (f : Form) → k ≡ f.constant → ps ≡ f.sum → (InRange (n +ℤ k) → ⊥) ⊎ LeavesRange false vs ps
    → (InRange (n +ℤ f.constant) → ⊥) ⊎ LeavesRange false vs f.sum
leaves_as vs n k ps f e s l =
    subst (λ x. (InRange (n +ℤ x) → ⊥) ⊎ LeavesRange false vs f.sum) e (subst (λ xs. (InRange (n +ℤ k) → ⊥) ⊎ LeavesRange false vs xs) s l)

module _ (bound : ℕ) (form : ℕ → Form) where
  pub none_added : (vs : List Coefficient) → AreZero vs → AreAddedUp bound form [] vs (pos 0)
  none_added vs z = record { fits = refl; is_sum = tt; holds = record { constant_is = refl; coefficients = z }; in_range = refl }

  module _ (m : Multiple) (ms : List Multiple) (vs : List Coefficient) (n : ℤ) (a : AreAddedUp bound form ms vs n) (b : IsSum bound (form m.term).sum) where
    abbrev so_far : Form
    so_far = combined form (multiples_of ms)

    abbrev scaled : Form
    scaled = form_times m.factor (form m.term)

    abbrev whole : Form
    whole = form_plus scaled so_far

    whole_sum : IsSum bound whole.sum
    whole_sum = sums_added_sum bound scaled.sum so_far.sum (sum_times_sum bound m.factor (form m.term).sum b) a.is_sum

    whole_at : (i : ℕ) → coefficient_of whole.sum i ≡ coefficient_of so_far.sum i +ℤ coefficient_of scaled.sum i
    whole_at i =
        sums_added_at bound scaled.sum so_far.sum i (sum_times_sum bound m.factor (form m.term).sum b) a.is_sum ∙ plus_comm (coefficient_of scaled.sum i) (coefficient_of so_far.sum i)

    whole_constant : n +ℤ scaled.constant ≡ whole.constant
    whole_constant = ap (λ z. z +ℤ scaled.constant) a.holds.constant_is ∙ plus_comm so_far.constant scaled.constant

    one_more : (us : List Coefficient) (k : ℤ) → IsMore m.factor vs us n k (form m.term) → AreAddedUp bound form (m ∷ ms) us k
    one_more us k h =
        let holds : Holds us k whole =
        record { constant_is = h.constant ∙ whole_constant; coefficients = λ i. h.added i ∙ ap (λ z. z +ℤ coefficient_of scaled.sum i) (a.holds.coefficients i) ∙ sym (whole_at i) } in
        let fits : form_fits whole ≡ true = holds_fits bound us k whole whole_sum holds h.ranged h.in_range in
        record {
          fits = and_both (combined_fits form (multiples_of ms)) (form_fits scaled && form_fits whole) a.fits (and_both (form_fits scaled) (form_fits whole) h.fits fits);
          is_sum = whole_sum;
          holds = holds;
          in_range = fits;
        }

    both_fit : combined_fits form (multiples_of (m ∷ ms)) ≡ true → (form_fits scaled && form_fits whole) ≡ true
    both_fit h = and_right (combined_fits form (multiples_of ms)) (form_fits scaled && form_fits whole) h

    one_fails : MayLeaveBy m.factor vs n (form m.term) → combined_fits form (multiples_of (m ∷ ms)) ≡ false
    one_fails l = false_if (combined_fits form (multiples_of (m ∷ ms))) (λ h. by l (both_fit h))
      where
        by : MayLeaveBy m.factor vs n (form m.term) → (form_fits scaled && form_fits whole) ≡ true → ⊥
        by (inl e) h = not_fits (form_fits scaled) e (and_left (form_fits scaled) (form_fits whole) h)
        by (inr (inl out)) h = out (subst InRange (sym whole_constant) (form_constant whole (and_right (form_fits scaled) (form_fits whole) h)))
        by (inr (inr o)) h =
            o.outside (subst InRange (whole_at o.place ∙ ap (λ z. z +ℤ coefficient_of scaled.sum o.place) (sym (a.holds.coefficients o.place)))
            (form_coefficient whole o.place (and_right (form_fits scaled) (form_fits whole) h)))

-- ---- all of them, the last one first

unfit_end : (form : ℕ → Form) (ms : List Multiple) (i : ℕ) → combined_fits form (multiples_of (drop i ms)) ≡ false → combined_fits form (multiples_of ms) ≡ false
unfit_end form ms zero e = e
unfit_end form [] (suc i) e = e
unfit_end form (m ∷ ms) (suc i) e =
    ap (λ b. b && (form_fits (form_times m.factor (form m.term)) && form_fits (combined form (multiples_of (m ∷ ms))))) (unfit_end form ms i e)

-- what the loop keeps
pub record AddsUp (bound : ℕ) (form : ℕ → Form) (ms : List Multiple) (i : ℕ) (vs : List Coefficient) (is : List ℕ) (n : ℤ) : Type 0 where
  pub within : i ≤ length ms
  pub added : AreAddedUp bound form (drop i ms) vs n
  pub ranged : AreRanged vs
  pub touched : AreTouched vs is
  pub size : length vs ≡ bound

abbrev pub nothing : Multiple
nothing = record { factor = pos 0; term = 0 }

module _ (known : List Known) (bound : ℕ) (ms : List Multiple) (sums : AreSumsOf bound known ms) where
  pub adding_start : (vs : List Coefficient) (is : List ℕ) (i : ℕ) → i ≡ length ms → AreZero vs → AreRanged vs → AreTouched vs is → length vs ≡ bound → AddsUp bound (form_in known) ms i vs is (pos 0)
  adding_start vs is i e z r t s = record {
    within = omega arith;
    added = subst (λ xs. AreAddedUp bound (form_in known) xs vs (pos 0)) (sym (drop_all' ms i (omega arith))) (none_added bound (form_in known) vs z);
    ranged = r;
    touched = t;
    size = s;
  }
    where
      drop_all' : (xs : List Multiple) (i : ℕ) → length xs ≤ i → drop i xs ≡ []
      drop_all' [] zero l = refl
      drop_all' [] (suc i) l = refl
      drop_all' (x ∷ xs) zero l = absurd (omega arith)
      drop_all' (x ∷ xs) (suc i) l = drop_all' xs i (omega arith)

  module _ (i k : ℕ) (next : i ≡ k + 1) (vs : List Coefficient) (is : List ℕ) (n : ℤ) (a : AddsUp bound (form_in known) ms i vs is n) where
    more : k < length ms
    more = let w = a.within in omega arith

    here : drop k ms ≡ get_or ms k nothing ∷ drop i ms
    here = drop_more ms k nothing more ∙ ap (λ j. get_or ms k nothing ∷ drop j ms) (sym next)

    module _ (m : Multiple) (at : m ≡ get_or ms k nothing) (f : Form) (e : f ≡ form_in known m.term) where
      at_form : f ≡ form_in known (get_or ms k nothing).term
      at_form = e ∙ ap (λ (x : Multiple). form_in known x.term) at

      pub adding_step : (us : List Coefficient) (js : List ℕ) (o : ℤ) → IsMore m.factor vs us n o f → AreTouched us js → length us ≡ bound → AddsUp bound (form_in known) ms k us js o
      adding_step us js o h t s = record {
        within = let w = more in omega arith;
        added =
            subst (λ xs. AreAddedUp bound (form_in known) xs us o) (sym here)
            (one_more bound (form_in known) (get_or ms k nothing) (drop i ms) vs n a.added (sums k nothing more) us o
            (subst (λ x. IsMore x vs us n o (form_in known (get_or ms k nothing).term)) (ap (λ (x : Multiple). x.factor) at) (subst (IsMore m.factor vs us n o) at_form h)));
        ranged = h.ranged;
        touched = t;
        size = s;
      }

      pub adding_fails : MayLeaveBy m.factor vs n f → combined_fits (form_in known) (multiples_of ms) ≡ false
      adding_fails l =
          unfit_end (form_in known) ms k (ap (λ xs. combined_fits (form_in known) (multiples_of xs)) here
          ∙ one_fails bound (form_in known) (get_or ms k nothing) (drop i ms) vs n a.added (sums k nothing more)
          (subst (λ x. MayLeaveBy x vs n (form_in known (get_or ms k nothing).term)) (ap (λ (x : Multiple). x.factor) at) (subst (MayLeaveBy m.factor vs n) at_form l)))

  pub adding_end : (i : ℕ) (vs : List Coefficient) (is : List ℕ) (n : ℤ) → i ≡ 0 → AddsUp bound (form_in known) ms i vs is n → AreAddedUp bound (form_in known) ms vs n
  adding_end i vs is n e a = subst (λ j. AreAddedUp bound (form_in known) (drop j ms) vs n) e a.added

pub higher_all : (low high : ℕ) (known : List Known) (ms : List Multiple) → low ≤ high → AreSumsOf low known ms → AreSumsOf high known ms
higher_all low high known ms l a k d h = to_higher 0 low high (form_in known (get_or ms k d).term).sum l (a k d h)

-- ---- the sum that is taken out

pub taken_sum : (bound : ℕ) (form : ℕ → Form) (ms : List Multiple) (vs : List Coefficient) (n : ℤ) (sum : _) → AreAddedUp bound form ms vs n
    → ((ps : _) → IsSum bound ps → HasCoefficients vs ps → sum ≡ ps) → IsFoldedSum form ms (form_of sum n)
taken_sum bound form ms vs n sum a t = record {
  fits = a.fits;
  whole =
      ap (λ ps. form_of ps n) (t (combined form (multiples_of ms)).sum a.is_sum a.holds.coefficients) ∙ ap (form_of (combined form (multiples_of ms)).sum) a.holds.constant_is;
}

combined_ranges : (form : ℕ → Form) (ms : List Multiple) → combined_fits form (multiples_of ms) ≡ true → form_fits (combined form (multiples_of ms)) ≡ true
combined_ranges form [] h = refl
combined_ranges form (m ∷ ms) h =
    let t : Form = form_times m.factor (form m.term) in
    let f : Form = combined form (multiples_of (m ∷ ms)) in
    and_right (form_fits t) (form_fits f) (and_right (combined_fits form (multiples_of ms)) (form_fits t && form_fits f) h)

combined_sum : (bound : ℕ) (known : List Known) (ms : List Multiple) → AreSumsOf bound known ms → IsSum bound (combined (form_in known) (multiples_of ms)).sum
combined_sum bound known [] s = tt
combined_sum bound known (m ∷ ms) s =
    sums_added_sum bound (form_times m.factor (form_in known m.term)).sum (combined (form_in known) (multiples_of ms)).sum
    (sum_times_sum bound m.factor (form_in known m.term).sum (All-head (λ (m : Multiple). IsSum bound (form_in known m.term).sum) m ms s))
    (combined_sum bound known ms (All-tail (λ (m : Multiple). IsSum bound (form_in known m.term).sum) m ms s))

-- ---- of the terms of a list

abbrev AreInside : List Known → List Multiple → Type 0
AreInside known ms = All (λ (m : Multiple). (known_at known m.term).outside ≡ None) ms

module _ (ts : List Tree) (known : List Known) (forms : AreForms ts known) where
  size : length known ≡ length ts
  size = let f = forms.forms in f.size

  one_form : (m : Multiple) → IsMultiple (length known) m → (known_at known m.term).outside ≡ None → HasForm ts m.term (form_in known m.term)
  one_form m w e = known_form ts (length ts) known forms.forms m.term (let l = w.within in let s = size in omega arith) e

  same_form : (ms : List Multiple) → AreMultiples (length known) ms → AreInside known ms → combined (place_form ts) (multiples_of ms) ≡ combined (form_in known) (multiples_of ms)
  same_form [] w e = refl
  same_form (m ∷ ms) w e =
      let f = one_form m (All-head (IsMultiple (length known)) m ms w) (All-head (λ (m : Multiple). (known_at known m.term).outside ≡ None) m ms e) in
      let rest = same_form ms (All-tail (IsMultiple (length known)) m ms w) (All-tail (λ (m : Multiple). (known_at known m.term).outside ≡ None) m ms e) in
      ap (λ x. form_plus (form_times m.factor x) (combined (place_form ts) (multiples_of ms))) f.form ∙ ap (form_plus (form_times m.factor (form_in known m.term))) rest

  same_fits : (ms : List Multiple) → AreMultiples (length known) ms → AreInside known ms → combined_fits (place_form ts) (multiples_of ms) ≡ combined_fits (form_in known) (multiples_of ms)
  same_fits [] w e = refl
  same_fits (m ∷ ms) w e =
      let f = one_form m (All-head (IsMultiple (length known)) m ms w) (All-head (λ (m : Multiple). (known_at known m.term).outside ≡ None) m ms e) in
      let rest = same_fits ms (All-tail (IsMultiple (length known)) m ms w) (All-tail (λ (m : Multiple). (known_at known m.term).outside ≡ None) m ms e) in
      ap (λ b. b && (form_fits (form_times m.factor (place_form ts m.term)) && form_fits (combined (place_form ts) (multiples_of (m ∷ ms))))) rest
      ∙ ap (λ x. combined_fits (form_in known) (multiples_of ms) && (form_fits (form_times m.factor x) && form_fits (combined (place_form ts) (multiples_of (m ∷ ms))))) f.form
      ∙ ap (λ x. combined_fits (form_in known) (multiples_of ms) && (form_fits (form_times m.factor (form_in known m.term)) && form_fits x)) (same_form (m ∷ ms) w e)

  module _ (ms : List Multiple) (w : AreMultiples (length known) ms) (inside : AreInside known ms) where
    sums : AreSumsOf (length ts) known ms
    sums k d h =
        let m : Multiple = get_or ms k d in
        let f = one_form m (w k d h) (inside k d h) in
        let l = (w k d h).within in
        let s = size in
        to_higher 0 (m.term + 1) (length ts) (form_in known m.term).sum (omega arith) f.is_sum

    terms_fit : All (λ (m : Multiple). folding_fits ts (tree_at ts m.term) ≡ true) ms
    terms_fit k d h = let f = one_form (get_or ms k d) (w k d h) (inside k d h) in f.fits

    pub sums_of_all : (count : ℕ) → count ≡ length known → AreSumsOf count known ms
    sums_of_all count e = subst (λ n. AreSumsOf n known ms) (sym (e ∙ size)) sums

    pub is_combination : (f : Form) → IsFoldedSum (form_in known) ms f → IsCombination ts ms f
    is_combination f h = record {
      terms_fit = terms_fit;
      fits = same_fits ms w inside ∙ h.fits;
      form = h.whole ∙ sym (same_form ms w inside);
      is_sum = subst (λ (g : Form). IsSum (length ts) g.sum) (sym h.whole) (combined_sum (length ts) known ms sums);
      ranges = ap form_fits h.whole ∙ combined_ranges (form_in known) ms h.fits;
    }

    pub together : combined_fits (form_in known) (multiples_of ms) ≡ false → LeaveRangeTogether ts ms
    together e = record { terms_fit = terms_fit; outside = same_fits ms w inside ∙ e }

  pub one_is_outside : (ms : List Multiple) → AreMultiples (length known) ms → (part : ℕ) → HasOutsideTerm known ms part → OneIsOutside ts ms part
  one_is_outside ms w part h =
      let c = h.among in
      record { multiple = h.multiple; among = c; outside = known_outside ts (length ts) known forms.forms h.multiple.term part (inside c) h.here }
    where
      inside : Contains ms h.multiple → h.multiple.term < length ts
      inside c =
          let l = (w c.0 h.multiple c.1).within in
          let e : (get_or ms c.0 h.multiple).term ≡ h.multiple.term = ap (λ (m : Multiple). m.term) c.2 in
          let s = size in
          omega arith

pub sums_when_all_known : (known : List Known) (ms : List Multiple) (count : ℕ) → KnowsForms known → AreMultiples (length known) ms → AreInside known ms → count ≡ length known → AreSumsOf count known ms
sums_when_all_known known ms count k w i e = sums_of_all k.trees known k.forms ms w i count e
