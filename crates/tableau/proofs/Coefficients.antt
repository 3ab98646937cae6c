-- A row's entries by their coefficients: of multiples, merges and forms; and the list that given coefficients make.
use Rattle.std.proofs.Common.{◌≡◌, ◌≢◌, ℕ, ℤ, unsigned_abs, zero, suc, ◌+◌, ◌<◌, ◌≤◌, ◌⊎◌, inl, inr, pos, negsuc, sym, ap, ap₂, ◌∙◌, subst, refl, arith, List, [], ◌∷◌, length, Bool, true, false, cond, nat_lt, eqb, eqb-true, eq-eqb}
use Rattle.std.proofs.lemmas.Bool.Decides.{nat_tests}
use Rattle.fraction128.specs.declared.ratio.Ratio.{Ratio}
use Rattle.fraction128.specs.Listed.{product_of, fused}
use Rattle.fraction128.specs.Number.{whole, is_zero}
use Rattle.fraction128.specs.declared.Entry.{Entry}
use Rattle.fraction128.specs.Grid.{coefficient, entries_from}
use Rattle.tableau.specs.Rows.{entry, scaled, multiplied, merged, merged_onto, unless_none, zero_form, without, variable_at}
use Rattle.tableau.specs.Table.{IsNonzero, AreNonzero}
use Rattle.tableau.proofs.Shape.{From, from_weaker, from_bound, from_merged, Free}
use Rattle.tableau.proofs.Kept.{left_out, without_is}
use Rattle.tableau.proofs.Absent.{product_none, times_absent, fused_absent, absent_fused}

-- ---- one entry

pub coefficient_head : (e : Entry) (es : List Entry) (j : ℕ) → e.variable ≡ j → coefficient (e ∷ es) j ≡ e.coefficient
coefficient_head e es j h = by_test (eqb e.variable j) refl
  where
    by_test : (t : Bool) → eqb e.variable j ≡ t → cond t e.coefficient (coefficient es j) ≡ e.coefficient
    by_test true p = refl
    by_test false p = absurd (grind (arith, nat_tests))

pub coefficient_tail : (e : Entry) (es : List Entry) (j : ℕ) → e.variable ≢ j → coefficient (e ∷ es) j ≡ coefficient es j
coefficient_tail e es j h = by_test (eqb e.variable j) refl
  where
    by_test : (t : Bool) → eqb e.variable j ≡ t → cond t e.coefficient (coefficient es j) ≡ coefficient es j
    by_test true p = absurd (h (eqb-true e.variable j p))
    by_test false p = refl

-- below its first variable a list has no coefficient
pub coefficient_below : (n : ℕ) (es : List Entry) (j : ℕ) → From n es → j < n → coefficient es j ≡ whole (pos 0)
coefficient_below n [] j h lt = refl
coefficient_below n (e ∷ es) j h lt =
    coefficient_tail e es j (λ p. let q : e.variable ≡ j = p in absurd (omega (arith, q, h.0, lt)))
    ∙ coefficient_below (e.variable + 1) es j h.1 (omega (arith, h.0, lt))

pub decide : (m n : ℕ) → (m ≡ n) ⊎ (m ≢ n)
decide m n = by_test (eqb m n) refl
  where
    by_test : (t : Bool) → eqb m n ≡ t → (m ≡ n) ⊎ (m ≢ n)
    by_test true p = inl (eqb-true m n p)
    by_test false p = inr (λ q. grind (arith, nat_tests))

-- ---- multiples

pub coefficient_scaled : (t : Ratio) (es : List Entry) (j : ℕ) → 0 < t.denominator → coefficient (scaled t es) j ≡ product_of (coefficient es j) t
coefficient_scaled t [] j f = sym (product_none t f)
coefficient_scaled t (e ∷ es) j f = by_test (coefficient_scaled t es j f) (eqb e.variable j)
  where
    by_test : coefficient (scaled t es) j ≡ product_of (coefficient es j) t → (u : Bool) → cond u (product_of e.coefficient t) (coefficient (scaled t es) j) ≡ product_of (cond u e.coefficient (coefficient es j)) t
    by_test rest true = refl
    by_test rest false = rest

pub coefficient_multiplied : (a : Ratio) (es : List Entry) (j : ℕ) → 0 < a.denominator → coefficient (multiplied a es) j ≡ product_of a (coefficient es j)
coefficient_multiplied a [] j f = sym (times_absent a f)
coefficient_multiplied a (e ∷ es) j f = by_test (coefficient_multiplied a es j f) (eqb e.variable j)
  where
    by_test : coefficient (multiplied a es) j ≡ product_of a (coefficient es j) → (u : Bool) → cond u (product_of a e.coefficient) (coefficient (multiplied a es) j) ≡ product_of a (cond u e.coefficient (coefficient es j))
    by_test rest true = refl
    by_test rest false = rest

-- ---- merges

-- two coefficients are the same, or both are 0
abbrev pub Agrees : Ratio → Ratio → Type 0
Agrees x y = (x ≡ y) ⊎ ((is_zero x ≡ true) × (is_zero y ≡ true))

agrees_by : (x x' y y' : Ratio) → x ≡ x' → y ≡ y' → Agrees x' y' → Agrees x y
agrees_by x x' y y' e f h = subst (λ z. Agrees z y) (sym e) (subst (λ z. Agrees x' z) (sym f) h)

-- the merge of x before xs with zs has the coefficients that it should, where the merges of xs have
onto : (a : Ratio) (x : Entry) (xs : List Entry) → 0 < a.denominator → From (x.variable + 1) xs
    → ((m : ℕ) (ws : List Entry) → From m xs → From m ws → (j : ℕ) → Agrees (coefficient (merged a xs ws) j) (fused (coefficient xs j) a (coefficient ws j)))
    → (n : ℕ) (zs : List Entry) → From n zs → (j : ℕ) → Agrees (coefficient (merged_onto a x (merged a xs) zs) j) (fused (coefficient (x ∷ xs) j) a (coefficient zs j))
onto a x xs fa hx ih n [] hz j = by_place (decide x.variable j)
  where
    by_place : (x.variable ≡ j) ⊎ (x.variable ≢ j) → Agrees (coefficient (x ∷ merged a xs []) j) (fused (coefficient (x ∷ xs) j) a (whole (pos 0)))
    by_place (inl p) = inl (coefficient_head x (merged a xs []) j p ∙ sym (ap (λ c. fused c a (whole (pos 0))) (coefficient_head x xs j p) ∙ fused_absent x.coefficient a fa))
    by_place (inr q) =
        agrees_by (coefficient (x ∷ merged a xs []) j) (coefficient (merged a xs []) j) (fused (coefficient (x ∷ xs) j) a (whole (pos 0))) (fused (coefficient xs j) a (whole (pos 0)))
        (coefficient_tail x (merged a xs []) j q) (ap (λ c. fused c a (whole (pos 0))) (coefficient_tail x xs j q)) (ih (x.variable + 1) [] hx tt j)
onto a x xs fa hx ih n (z ∷ zs) hz j =
    by_test (onto a x xs fa hx ih (z.variable + 1) zs hz.1 j) (nat_lt x.variable z.variable) refl (nat_lt z.variable x.variable) refl
  where
    product : Entry
    product = entry z.variable (product_of a z.coefficient)

    sum : Entry
    sum = entry x.variable (fused x.coefficient a z.coefficient)

    goal : Bool → Bool → Type 0
    goal t u = Agrees (coefficient (cond t (x ∷ merged a xs (z ∷ zs)) (cond u (product ∷ merged_onto a x (merged a xs) zs) (unless_none sum (merged a xs zs)))) j) (fused (coefficient (x ∷ xs) j) a (coefficient (z ∷ zs) j))

    first : x.variable < z.variable → (x.variable ≡ j) ⊎ (x.variable ≢ j) → Agrees (coefficient (x ∷ merged a xs (z ∷ zs)) j) (fused (coefficient (x ∷ xs) j) a (coefficient (z ∷ zs) j))
    first lt (inl p) =
        inl (coefficient_head x (merged a xs (z ∷ zs)) j p
        ∙ sym (ap₂ (λ c d. fused c a d) (coefficient_head x xs j p) (coefficient_below (x.variable + 1) (z ∷ zs) j (omega (arith, lt), hz.1) (omega (arith, p))) ∙ fused_absent x.coefficient a fa))
    first lt (inr q) =
        agrees_by (coefficient (x ∷ merged a xs (z ∷ zs)) j) (coefficient (merged a xs (z ∷ zs)) j) (fused (coefficient (x ∷ xs) j) a (coefficient (z ∷ zs) j)) (fused (coefficient xs j) a (coefficient (z ∷ zs) j))
        (coefficient_tail x (merged a xs (z ∷ zs)) j q) (ap (λ c. fused c a (coefficient (z ∷ zs) j)) (coefficient_tail x xs j q)) (ih (x.variable + 1) (z ∷ zs) hx (omega (arith, lt), hz.1) j)

    second : Agrees (coefficient (merged_onto a x (merged a xs) zs) j) (fused (coefficient (x ∷ xs) j) a (coefficient zs j)) → z.variable < x.variable → (z.variable ≡ j) ⊎ (z.variable ≢ j) → Agrees (coefficient (product ∷ merged_onto a x (merged a xs) zs) j) (fused (coefficient (x ∷ xs) j) a (coefficient (z ∷ zs) j))
    second rest lt (inl p) =
        inl (coefficient_head product (merged_onto a x (merged a xs) zs) j p
        ∙ sym (ap₂ (λ c d. fused c a d) (coefficient_below x.variable (x ∷ xs) j (omega arith, hx) (omega (arith, p, lt))) (coefficient_head z zs j p) ∙ absent_fused a z.coefficient))
    second rest lt (inr q) =
        agrees_by (coefficient (product ∷ merged_onto a x (merged a xs) zs) j) (coefficient (merged_onto a x (merged a xs) zs) j) (fused (coefficient (x ∷ xs) j) a (coefficient (z ∷ zs) j)) (fused (coefficient (x ∷ xs) j) a (coefficient zs j))
        (coefficient_tail product (merged_onto a x (merged a xs) zs) j q) (ap (λ c. fused (coefficient (x ∷ xs) j) a c) (coefficient_tail z zs j q)) rest

    third : x.variable ≡ z.variable → (x.variable ≡ j) ⊎ (x.variable ≢ j) → (v : Bool) → is_zero (fused x.coefficient a z.coefficient) ≡ v
        → Agrees (coefficient (cond v (merged a xs zs) (sum ∷ merged a xs zs)) j) (fused (coefficient (x ∷ xs) j) a (coefficient (z ∷ zs) j))
    third same (inl p) true e =
        inr (
          ap is_zero (coefficient_below (x.variable + 1) (merged a xs zs) j (from_merged a xs (x.variable + 1) zs hx (from_weaker (x.variable + 1) (z.variable + 1) zs (omega (arith, same)) hz.1)) (omega (arith, p))),
          ap is_zero (ap₂ (λ c d. fused c a d) (coefficient_head x xs j p) (coefficient_head z zs j (sym same ∙ p))) ∙ e,
        )
    third same (inl p) false e =
        inl (coefficient_head sum (merged a xs zs) j p ∙ sym (ap₂ (λ c d. fused c a d) (coefficient_head x xs j p) (coefficient_head z zs j (sym same ∙ p))))
    third same (inr q) v e =
        agrees_by (coefficient (cond v (merged a xs zs) (sum ∷ merged a xs zs)) j) (coefficient (merged a xs zs) j) (fused (coefficient (x ∷ xs) j) a (coefficient (z ∷ zs) j)) (fused (coefficient xs j) a (coefficient zs j))
        (skip v) (ap₂ (λ c d. fused c a d) (coefficient_tail x xs j q) (coefficient_tail z zs j (λ p. q (same ∙ p))))
        (ih (x.variable + 1) zs hx (from_weaker (x.variable + 1) (z.variable + 1) zs (omega (arith, same)) hz.1) j)
      where
        skip : (w : Bool) → coefficient (cond w (merged a xs zs) (sum ∷ merged a xs zs)) j ≡ coefficient (merged a xs zs) j
        skip true = refl
        skip false = coefficient_tail sum (merged a xs zs) j q

    by_test : Agrees (coefficient (merged_onto a x (merged a xs) zs) j) (fused (coefficient (x ∷ xs) j) a (coefficient zs j)) → (t : Bool) → nat_lt x.variable z.variable ≡ t → (u : Bool) → nat_lt z.variable x.variable ≡ u → goal t u
    by_test rest true p u q = first (grind (arith, nat_tests)) (decide x.variable j)
    by_test rest false p true q = second rest (grind (arith, nat_tests)) (decide z.variable j)
    by_test rest false p false q = third (grind (arith, nat_tests)) (decide x.variable j) (is_zero (fused x.coefficient a z.coefficient)) refl

pub coefficient_merged : (a : Ratio) (xs : List Entry) (n : ℕ) (zs : List Entry) → 0 < a.denominator → From n xs → From n zs → (j : ℕ) → Agrees (coefficient (merged a xs zs) j) (fused (coefficient xs j) a (coefficient zs j))
coefficient_merged a [] n zs fa hx hz j = inl (coefficient_multiplied a zs j fa ∙ sym (absent_fused a (coefficient zs j)))
coefficient_merged a (x ∷ xs) n zs fa hx hz j = onto a x xs fa hx.1 (λ m ws p q i. coefficient_merged a xs m ws fa p q i) n zs hz j

-- ---- forms

zero_form_start : (b : ℕ) (es : List Entry) (j : ℕ) → coefficient (entry b (whole (negsuc 0)) ∷ es) j ≡ cond (eqb j b) (whole (negsuc 0)) (coefficient es j)
zero_form_start b es j = by_test (eqb b j) refl (eqb j b) refl
  where
    by_test : (t : Bool) → eqb b j ≡ t → (u : Bool) → eqb j b ≡ u → cond t (whole (negsuc 0)) (coefficient es j) ≡ cond u (whole (negsuc 0)) (coefficient es j)
    by_test true p true q = refl
    by_test false p false q = refl
    by_test true p false q = absurd (grind (arith, nat_tests))
    by_test false p true q = absurd (grind (arith, nat_tests))

pub coefficient_zero_form : (p b : ℕ) (es : List Entry) (j : ℕ) → Free b es → coefficient (zero_form p b es) j ≡ cond (eqb j b) (whole (negsuc 0)) (coefficient es j)
coefficient_zero_form zero b es j h = zero_form_start b es j
coefficient_zero_form (suc p) b [] j h = zero_form_start b [] j
coefficient_zero_form (suc p) b (e ∷ es) j h = by_place (coefficient_zero_form p b es j h.1) (decide e.variable j)
  where
    other : j ≢ b → cond (eqb j b) (whole (negsuc 0)) (coefficient (e ∷ es) j) ≡ coefficient (e ∷ es) j
    other q = by_test (eqb j b) refl
      where
        by_test : (t : Bool) → eqb j b ≡ t → cond t (whole (negsuc 0)) (coefficient (e ∷ es) j) ≡ coefficient (e ∷ es) j
        by_test true r = absurd (q (eqb-true j b r))
        by_test false r = refl

    by_place : coefficient (zero_form p b es) j ≡ cond (eqb j b) (whole (negsuc 0)) (coefficient es j) → (e.variable ≡ j) ⊎ (e.variable ≢ j) → coefficient (e ∷ zero_form p b es) j ≡ cond (eqb j b) (whole (negsuc 0)) (coefficient (e ∷ es) j)
    by_place rest (inl q) = coefficient_head e (zero_form p b es) j q ∙ sym (other (λ r. h.0 (q ∙ r)) ∙ coefficient_head e es j q)
    by_place rest (inr q) = coefficient_tail e (zero_form p b es) j q ∙ rest ∙ ap (cond (eqb j b) (whole (negsuc 0))) (sym (coefficient_tail e es j q))

-- an ascending list without one of its entries
coefficient_left_out : (q : ℕ) (n c : ℕ) (es : List Entry) (j : ℕ) → From n es → q < length es → variable_at es q ≡ c → coefficient (left_out q es) j ≡ cond (eqb j c) (whole (pos 0)) (coefficient es j)
unfolding left_out
coefficient_left_out q n c [] j h lt e = absurd (omega arith)
coefficient_left_out zero n c (x ∷ es) j h lt e = by_place (decide x.variable j)
  where
    by_place : (x.variable ≡ j) ⊎ (x.variable ≢ j) → coefficient es j ≡ cond (eqb j c) (whole (pos 0)) (coefficient (x ∷ es) j)
    by_place (inl p) = coefficient_below (x.variable + 1) es j h.1 (omega (arith, p)) ∙ sym (ap (λ t. cond t (whole (pos 0)) (coefficient (x ∷ es) j)) (eq-eqb j c (sym p ∙ e)))
    by_place (inr r) = by_test (eqb j c) refl
      where
        by_test : (t : Bool) → eqb j c ≡ t → coefficient es j ≡ cond t (whole (pos 0)) (coefficient (x ∷ es) j)
        by_test true s = absurd (r (e ∙ sym (eqb-true j c s)))
        by_test false s = sym (coefficient_tail x es j r)
coefficient_left_out (suc q) n c (x ∷ es) j h lt e = by_place (coefficient_left_out q (x.variable + 1) c es j h.1 (omega arith) e) (decide x.variable j)
  where
    above : x.variable < c
    above = let b = from_bound (x.variable + 1) es q h.1 (omega arith) in let f : variable_at es q ≡ c = e in omega (arith, b, f)

    by_place : coefficient (left_out q es) j ≡ cond (eqb j c) (whole (pos 0)) (coefficient es j) → (x.variable ≡ j) ⊎ (x.variable ≢ j) → coefficient (x ∷ left_out q es) j ≡ cond (eqb j c) (whole (pos 0)) (coefficient (x ∷ es) j)
    by_place rest (inl p) = coefficient_head x (left_out q es) j p ∙ by_test (eqb j c) refl
      where
        by_test : (t : Bool) → eqb j c ≡ t → x.coefficient ≡ cond t (whole (pos 0)) (coefficient (x ∷ es) j)
        by_test true s = absurd (let f : j ≡ c = eqb-true j c s in omega (arith, f, p, above))
        by_test false s = sym (coefficient_head x es j p)
    by_place rest (inr r) = coefficient_tail x (left_out q es) j r ∙ rest ∙ ap (cond (eqb j c) (whole (pos 0))) (sym (coefficient_tail x es j r))

pub coefficient_without : (q : ℕ) (n c : ℕ) (es : List Entry) (j : ℕ) → From n es → q < length es → variable_at es q ≡ c → coefficient (without q es) j ≡ cond (eqb j c) (whole (pos 0)) (coefficient es j)
coefficient_without q n c es j h lt e = ap (λ xs. coefficient xs j) (sym (without_is q es)) ∙ coefficient_left_out q n c es j h lt e

-- ---- the list of given coefficients

abbrev pub Below : ℕ → List Entry → Type 0
Below m [] = Unit {0}
Below m (e ∷ es) = (e.variable < m) × Below m es

zero_when : (x y : Ratio) → Agrees x y → is_zero x ≡ true → is_zero y ≡ true
zero_when x y (inl e) h = ap is_zero (sym e) ∙ h
zero_when x y (inr p) h = p.1

nonzero_when : (x y : Ratio) → Agrees x y → is_zero x ≡ false → x ≡ y
nonzero_when x y (inl e) h = e
nonzero_when x y (inr p) h = absurd (let f : true ≡ false = sym p.0 ∙ h in cc)

is_nonzero : (x : Ratio) → IsNonzero x → is_zero x ≡ false
is_nonzero x h = by_test (is_zero x) refl
  where
    by_test : (t : Bool) → is_zero x ≡ t → t ≡ false
    by_test false p = refl
    by_test true p = absurd (h.1 (numerator_none x.numerator (eqb-true _ 0 p)))
      where
        numerator_none : (z : ℤ) → unsigned_abs z ≡ 0 → z ≡ pos 0
        numerator_none (pos k) e = ap pos e
        numerator_none (negsuc k) e = absurd (omega (arith, e))

below_same : (i n : ℕ) (ys : List Entry) → Below (i + suc n) ys → Below ((i + 1) + n) ys
below_same i n [] k = tt
below_same i n (y ∷ ys) k = (omega (arith, k.0), below_same i n ys k.1)

pub entries_are : (n i : ℕ) (f : ℕ → Ratio) (es : List Entry) → From i es → AreNonzero es → Below (i + n) es → ((j : ℕ) → i ≤ j → Agrees (coefficient es j) (f j)) → entries_from i n f ≡ es
entries_are zero i f [] h nz b g = refl
entries_are zero i f (e ∷ es) h nz b g = absurd (omega (arith, h.0, b.0))
entries_are (suc n) i f [] h nz b g =
    let none : is_zero (f i) ≡ true = zero_when (whole (pos 0)) (f i) (g i (omega arith)) refl in
    ap (λ t. cond t (entries_from (i + 1) n f) (entry i (f i) ∷ entries_from (i + 1) n f)) none
    ∙ entries_are n (i + 1) f [] tt tt tt (λ j le. g j (omega (arith, le)))
entries_are (suc n) i f (e ∷ es) h nz b g = by_place (λ ys p q r k. entries_are n (i + 1) f ys p q r k) (decide e.variable i)
  where
    by_place : ((ys : List Entry) → From (i + 1) ys → AreNonzero ys → Below ((i + 1) + n) ys → ((j : ℕ) → i + 1 ≤ j → Agrees (coefficient ys j) (f j)) → entries_from (i + 1) n f ≡ ys)
        → (e.variable ≡ i) ⊎ (e.variable ≢ i) → entries_from i (suc n) f ≡ e ∷ es
    by_place rest (inl p) =
        let is : e.coefficient ≡ f i = nonzero_when e.coefficient (f i) (subst (λ z. Agrees z (f i)) (coefficient_head e es i p) (g i (omega arith))) (is_nonzero e.coefficient nz.0) in
        ap (λ t. cond t (entries_from (i + 1) n f) (entry i (f i) ∷ entries_from (i + 1) n f)) (ap is_zero (sym is) ∙ is_nonzero e.coefficient nz.0)
        ∙ ap₂ ◌∷◌ (ap₂ entry (sym p) (sym is))
        (rest es (from_weaker (i + 1) (e.variable + 1) es (omega (arith, p)) h.1) nz.1 (below_same i n es b.1)
        (λ j le. subst (λ z. Agrees z (f j)) (coefficient_tail e es j (λ q. absurd (omega (arith, p, q, le)))) (g j (omega (arith, le)))))
    by_place rest (inr q) =
        let above : i < e.variable = omega (arith, h.0, q) in
        let none : is_zero (f i) ≡ true = zero_when (coefficient (e ∷ es) i) (f i) (g i (omega arith)) (ap is_zero (coefficient_below (i + 1) (e ∷ es) i (omega (arith, above), h.1) (omega arith))) in
        ap (λ t. cond t (entries_from (i + 1) n f) (entry i (f i) ∷ entries_from (i + 1) n f)) none
        ∙ rest (e ∷ es) (omega (arith, above), h.1) nz (below_same i n (e ∷ es) b) (λ j le. g j (omega (arith, le)))
