-- One row through a pivot, and the places of the form.
use Rattle.std.proofs.Common.{◌≡◌, ◌≢◌, ℕ, zero, suc, ◌+◌, ◌-◌, ◌<◌, ◌≤◌, ◌⊎◌, inl, inr, pos, negsuc, sym, ap, ap₂, ◌∙◌, subst, refl, arith, List, [], ◌∷◌, length, take, drop, get_or, Bool, true, false, cond, nat_lt, length-append, Contains}
use Rattle.std.proofs.lemmas.Bool.Decides.{nat_tests}
use Rattle.std.proofs.lemmas.List.{get_or-take, get_or_append_left, get_or-append-add, length-take-le, length-drop, get_or-drop, get_or_default}
use Rattle.fraction128.specs.declared.ratio.Ratio.{Ratio}
use Rattle.fraction128.specs.Listed.{product_of, negation_of}
use Rattle.fraction128.specs.declared.Entry.{Entry}
use Rattle.fraction128.specs.Number.{whole}
use Rattle.tableau.specs.declared.rows.Row.{Row}
use Rattle.tableau.specs.Rows.{entry, scaled, zero_form, without, coefficient_at, entry_at}
use Rattle.tableau.specs.Staged.{IsSameRow, IsTried, IsTriedPivot, IsCommitted, IsChanged, IsReplaced, Lacks, IsForm, IsPivoted, IsFitting, RowFits, IsFormRefused, IsOtherRefused, IsRefused, HasVariable}
use Rattle.tableau.proofs.Lists.{in_list}

-- the row that b leaves
pub solved_row : (b c : ℕ) (form : List Entry) (q : ℕ) (before mid now : Row) → IsSameRow before mid → IsTried b c form q mid → IsCommitted mid now → before.basic ≡ b
    → (now.basic ≡ c) × (now.entries.items ≡ without q form)
solved_row b c form q before mid now same (inl t) (inl h) is = (h.1 ∙ t.2, h.2 ∙ t.1)
solved_row b c form q before mid now same (inl t) (inr h) is = absurd (let e : true ≡ false = sym t.3 ∙ h.0 in cc)
solved_row b c form q before mid now same (inr t) h is = absurd (t.0 (same.basic ∙ is))

-- another row
pub changed_row : (b c : ℕ) (form : List Entry) (q : ℕ) (before mid now : Row) → IsSameRow before mid → IsTried b c form q mid → IsCommitted mid now → before.basic ≢ b
    → IsChanged c form before now
changed_row b c form q before mid now same (inl t) h other = absurd (other (sym same.basic ∙ t.0))
changed_row b c form q before mid now same (inr (o, inl t)) (inl h) other =
    (h.1 ∙ t.1 ∙ same.basic, inl (subst (λ es. IsReplaced c form es now.entries.items) same.entries (subst (λ es. IsReplaced c form mid.entries.items es) (sym h.2) t.2)))
changed_row b c form q before mid now same (inr (o, inl t)) (inr h) other = absurd (let e : true ≡ false = sym t.0 ∙ h.0 in cc)
changed_row b c form q before mid now same (inr (o, inr t)) (inl h) other = absurd (let e : true ≡ false = sym h.0 ∙ t.0 in cc)
changed_row b c form q before mid now same (inr (o, inr t)) (inr h) other =
    (h.1 ∙ same.basic, inr (subst (Lacks c) same.entries t.1, h.2 ∙ same.entries))

-- ---- the places of a form

length_scaled : (t : Ratio) (es : List Entry) → length (scaled t es) ≡ length es
length_scaled t [] = refl
length_scaled t (e ∷ es) = ap suc (length_scaled t es)

length_zero_form : (p b : ℕ) (es : List Entry) → p ≤ length es → length (zero_form p b es) ≡ length es + 1
length_zero_form p b es h =
    omega (arith, length-append (take p es) (entry b (whole (negsuc 0)) ∷ drop p es), length-take-le p es h, length-drop p es)

pub form_length : (b c : ℕ) (es form : List Entry) (q : ℕ) → IsForm b c es form q → length form ≡ length es + 1
form_length b c es form q f = ap length f.form_is ∙ length_scaled (negation_of f.reciprocal) (zero_form f.before b es) ∙ length_zero_form f.before b es f.within

pub place_in_form : (b c : ℕ) (es form : List Entry) (q : ℕ) → IsForm b c es form q → q < length form
place_in_form b c es form q f = by_test (nat_lt f.place f.before) f.q_is
  where
    by_test : (t : Bool) → q ≡ cond t f.place (f.place + 1) → q < length form
    by_test true e = omega (arith, e, f.in_row, form_length b c es form q f)
    by_test false e = omega (arith, e, f.in_row, form_length b c es form q f)

low_place : (p b : ℕ) (es : List Entry) (k : ℕ) (d : Entry) → p ≤ length es → k < p → get_or (zero_form p b es) k d ≡ get_or es k d
low_place p b es k d h lt =
    get_or_append_left (take p es) (entry b (whole (negsuc 0)) ∷ drop p es) d k (omega (arith, length-take-le p es h)) ∙ get_or-take p es k d lt

high_place : (p b : ℕ) (es : List Entry) (k : ℕ) (d : Entry) → p ≤ length es → p ≤ k → get_or (zero_form p b es) (k + 1) d ≡ get_or es k d
high_place p b es k d h le =
    ap (λ n. get_or (zero_form p b es) n d) (let e : k + 1 ≡ length (take p es) + suc (k - p) = omega (arith, length-take-le p es h) in e)
    ∙ get_or-append-add (take p es) (entry b (whole (negsuc 0)) ∷ drop p es) (suc (k - p)) d
    ∙ get_or-drop p es (k - p) d
    ∙ ap (λ n. get_or es n d) (let e : p + (k - p) ≡ k = omega arith in e)

scaled_place : (t : Ratio) (es : List Entry) (k : ℕ) (d : Entry) → k < length es
    → get_or (scaled t es) k d ≡ entry (get_or es k d).variable (product_of (get_or es k d).coefficient t)
scaled_place t [] k d h = absurd (omega arith)
scaled_place t (e ∷ es) zero d h = refl
scaled_place t (e ∷ es) (suc k) d h = scaled_place t es k d (omega arith)

-- the entry of c in the form
pub entering_entry : (b c : ℕ) (es form : List Entry) (q : ℕ) → (f : IsForm b c es form q)
    → entry_at form q ≡ entry c (product_of (coefficient_at es f.place) (negation_of f.reciprocal))
entering_entry b c es form q f = by_test (nat_lt f.place f.before) refl f.q_is
  where
    d : Entry
    d = entry 0 (whole (pos 0))

    at_place : (k : ℕ) → k < length (zero_form f.before b es) → get_or (zero_form f.before b es) k d ≡ get_or es f.place d → q ≡ k
        → entry_at form q ≡ entry c (product_of (coefficient_at es f.place) (negation_of f.reciprocal))
    at_place k lt e is =
        ap₂ (λ xs n. get_or xs n d) f.form_is is ∙ scaled_place (negation_of f.reciprocal) (zero_form f.before b es) k d lt
        ∙ ap (λ x. entry x.variable (product_of x.coefficient (negation_of f.reciprocal))) e
        ∙ ap (λ n. entry n (product_of (coefficient_at es f.place) (negation_of f.reciprocal))) f.is_entering

    by_test : (t : Bool) → nat_lt f.place f.before ≡ t → q ≡ cond t f.place (f.place + 1)
        → entry_at form q ≡ entry c (product_of (coefficient_at es f.place) (negation_of f.reciprocal))
    by_test true less e =
        let lt : f.place < f.before = grind (arith, nat_tests) in
        at_place f.place (omega (arith, length_zero_form f.before b es f.within, f.in_row)) (low_place f.before b es f.place d f.within lt) e
    by_test false less e =
        let le : f.before ≤ f.place = grind (arith, nat_tests) in
        at_place (f.place + 1) (omega (arith, length_zero_form f.before b es f.within, f.in_row)) (high_place f.before b es f.place d f.within le) e

-- ---- all rows

form_here : (before : List Row) (c place q : ℕ) (form entries : List Entry) (r r' d : Row) → place < length before → entries ≡ (get_or before place r').entries.items
    → IsForm (get_or before place r).basic c entries form q → IsForm (get_or before place d).basic c (get_or before place d).entries.items form q
form_here before c place q form entries r r' d lt entries_is f =
    subst (λ (x : Row). IsForm (get_or before place d).basic c x.entries.items form q) (get_or_default before place r' d lt)
    (subst (λ es. IsForm (get_or before place d).basic c es form q) entries_is (subst (λ (x : Row). IsForm x.basic c entries form q) (get_or_default before place r d lt) f))

pub tried_is : (before mid : List Row) (c place q : ℕ) (ks : List ℕ) (form form' entries : List Entry) (r r' d : Row) → place < length before
    → entries ≡ (get_or before place r').entries.items → form' ≡ form → IsForm (get_or before place r).basic c entries form q
    → ((k : ℕ) (e : Row) → k < length before → Contains ks k → IsTried (get_or before place r).basic c form' q (get_or mid k e))
    → ((k : ℕ) (e : Row) → k < length before → HasVariable c (get_or before k e).entries.items → Contains ks k)
    → IsTriedPivot c place ks before mid d
tried_is before mid c place q ks form form' entries r r' d lt entries_is form_is is_form tried listed =
    record {
      form = form;
      q = q;
      is_form = form_here before c place q form entries r r' d lt entries_is is_form;
      tried = λ k h is.
          subst (λ (x : Row). IsTried x.basic c form q (get_or mid k d)) (get_or_default before place r d lt)
          (subst (λ es. IsTried (get_or before place r).basic c es q (get_or mid k d)) form_is (tried k d h is));
      others = λ k h none i li is. none (listed k d h (i, li, is));
    }

pub refused_form : (before : List Row) (c place : ℕ) (entries : List Entry) (r r' d : Row) → place < length before → entries ≡ (get_or before place r').entries.items
    → IsFormRefused (get_or before place r).basic c entries → IsRefused c place before d
refused_form before c place entries r r' d lt entries_is f =
    inl
    (subst (λ (x : Row). IsFormRefused (get_or before place d).basic c x.entries.items) (get_or_default before place r' d lt)
    (subst (λ es. IsFormRefused (get_or before place d).basic c es) entries_is (subst (λ (x : Row). IsFormRefused x.basic c entries) (get_or_default before place r d lt) f)))

pub refused_other : (before : List Row) (c place q : ℕ) (form form' entries : List Entry) (r r' d : Row) → place < length before
    → entries ≡ (get_or before place r').entries.items → form' ≡ form → IsForm (get_or before place r).basic c entries form q
    → IsOtherRefused (get_or before place r).basic c form' before d → IsRefused c place before d
refused_other before c place q form form' entries r r' d lt entries_is form_is is_form o =
    inr (
      form,
      q,
      form_here before c place q form entries r r' d lt entries_is is_form,
      subst (λ (x : Row). IsOtherRefused x.basic c form before d) (get_or_default before place r d lt) (subst (λ es. IsOtherRefused (get_or before place r).basic c es before d) form_is o),
    )

-- all rows through a pivot
pub pivoted_is : (before mid now : List Row) (c place : ℕ) (ks : List ℕ) (d : Row) → place < length before
    → ((k : ℕ) (e : Row) → k < length before → (get_or before k e).basic ≡ (get_or before place e).basic → k ≡ place)
    → ((k : ℕ) (e : Row) → k < length before → HasVariable c (get_or before k e).entries.items → Contains ks k)
    → ((k : ℕ) (e : Row) → k < length before → IsSameRow (get_or before k e) (get_or mid k e))
    → IsTriedPivot c place ks before mid d
    → ((k : ℕ) (e : Row) → k < length mid → Contains ks k → IsCommitted (get_or mid k e) (get_or now k e))
    → ((k : ℕ) (e : Row) → (Contains ks k → ⊥) → get_or now k e ≡ get_or mid k e)
    → length mid ≡ length before
    → IsPivoted c place before now d
pivoted_is before mid now c place ks d lt distinct listed same p committed rest len =
    let f = p.is_form in
    let here : Contains ks place = listed place d lt (f.place, f.in_row, f.is_entering) in
    let solved = solved_row (get_or before place d).basic c p.form p.q (get_or before place d) (get_or mid place d) (get_or now place d) (same place d lt) (p.tried place lt here) (committed place d (omega arith) here) refl in
    record {
      form = p.form;
      q = p.q;
      is_form = p.is_form;
      basic = solved.0;
      solved = solved.1;
      others = λ k h ne. by_list k h (λ e. ne (distinct k d h e)) (in_list ks k);
    }
  where
    by_list : (k : ℕ) → k < length before → (get_or before k d).basic ≢ (get_or before place d).basic → Contains ks k ⊎ (Contains ks k → ⊥) → IsChanged c p.form (get_or before k d) (get_or now k d)
    by_list k h other (inl is) =
        changed_row (get_or before place d).basic c p.form p.q (get_or before k d) (get_or mid k d) (get_or now k d) (same k d h) (p.tried k h is) (committed k d (omega (arith, h, len)) is) other
    by_list k h other (inr none) =
        let e = rest k d none in
        (ap (λ (x : Row). x.basic) e ∙ (same k d h).basic, inr (p.others k h none, ap (λ (x : Row). x.entries.items) e ∙ (same k d h).entries))

-- ---- what fits

pub pivoted_fitting : (before now : List Row) (c place : ℕ) (d : Row) → IsPivoted c place before now d → IsFitting c place before d
pivoted_fitting before now c place d p =
    record {
      form = p.form;
      q = p.q;
      is_form = p.is_form;
      others = λ k h ne. kind (get_or before k d) (get_or now k d) (p.others k h (λ e. ne (ap (λ i. (get_or before i d).basic) e))).1;
    }
  where
    kind : (x y : Row) → IsReplaced c p.form x.entries.items y.entries.items ⊎ (Lacks c x.entries.items × (y.entries.items ≡ x.entries.items)) → RowFits c p.form x.entries.items
    kind x y (inl (i, l, is, e, fits)) = inl (i, l, is, fits)
    kind x y (inr (l, e)) = inr l

pub tried_fitting : (before mid : List Row) (c place : ℕ) (ks : List ℕ) (d : Row) → ((k : ℕ) (e : Row) → k < length before → IsSameRow (get_or before k e) (get_or mid k e))
    → IsTriedPivot c place ks before mid d → IsFitting c place before d
tried_fitting before mid c place ks d same p =
    record {
      form = p.form;
      q = p.q;
      is_form = p.is_form;
      others = λ k h ne. by_list k h ne (in_list ks k);
    }
  where
    replaced : (y : Row) → IsReplaced c p.form y.entries.items y.next.items → RowFits c p.form y.entries.items
    replaced y (i, l, is, e, fits) = inl (i, l, is, fits)

    kind : (x y : Row) → IsSameRow x y → x.basic ≢ (get_or before place d).basic → IsTried (get_or before place d).basic c p.form p.q y → RowFits c p.form x.entries.items
    kind x y s ne (inl t) = absurd (ne (sym s.basic ∙ t.0))
    kind x y s ne (inr (o, inl t)) = subst (RowFits c p.form) s.entries (replaced y t.2)
    kind x y s ne (inr (o, inr t)) = subst (RowFits c p.form) s.entries (inr t.1)

    by_list : (k : ℕ) → k < length before → (get_or before k d).basic ≢ (get_or before place d).basic → Contains ks k ⊎ (Contains ks k → ⊥) → RowFits c p.form (get_or before k d).entries.items
    by_list k h ne (inl is) = kind (get_or before k d) (get_or mid k d) (same k d h) ne (p.tried k h is)
    by_list k h ne (inr none) = inr (p.others k h none)
