-- Sums of multiples as fractions, and the same over one scale.
use Rattle.std.proofs.Common.{◌≡◌, ℕ, ◌+◌, ◌*◌, ◌<◌, ◌≤◌, ◌^◌, Bool, true, false, List, [], ◌∷◌, ◌++◌, All, nat_eq, sym, ap, ap₂, subst, ◌∙◌, refl, arith, Some, eqb-true, eq-eqb}
use Rattle.std.specs.Prelude.{ℤ, pos, negsuc, ◌+ℤ◌, ◌*ℤ◌, ◌<ℤ◌, ◌≤ℤ◌, int_lt, unsigned_abs, if◌then◌else◌}
use Rattle.std.proofs.lemmas.Int.{ints}
use Rattle.std.proofs.lemmas.Bool.{eqb-false, ne_eqb}
use Rattle.std.proofs.lemmas.List.Elements.{All-head, All-tail}
use Rattle.std.proofs.Math.Nat.{mul_comm, mul_assoc}
use Rattle.fraction128.specs.declared.ratio.Ratio.{Ratio}
use Rattle.fraction128.specs.Listed.{sum_of}
use Rattle.fraction128.specs.Number.{whole, unreduced_sum, unreduced_product, is_zero, is_positive}
use Rattle.fraction128.proofs.LowestTerms.{pos_times}
use Rattle.fraction128.proofs.Comparisons.{times_cancel}
use Rattle.fraction128.proofs.RingEquations.{var, sum, product, nothing, unit, solve}
use Rattle.fraction128.proofs.WholeNumbers.{wholes}
use Rattle.fraction128.proofs.RationalRing.{same_trans}
use Rattle.fraction128.proofs.RationalOrder.{mul_mono, mul_strict, none_times}
use Rattle.fraction128.proofs.ExactSteps.{sum_same, sum_positive, product_same, product_positive}
use Rattle.smt_meaning.specs.declared.clauses.Summand.{Summand}
use Rattle.smt_meaning.specs.declared.clauses.Literal.{Literal}
use Rattle.proof_meaning.specs.declared.proof.Weighted.{Weighted}
use Rattle.smt_meaning.specs.Linear.{Form, sums_added, sum_times, form_plus, form_times, number_form}
use Rattle.proof_meaning.specs.Rules.{add_times, total, AreScaled, IsFarkas}
use Rattle.linear_forms.specs.Sums.{coefficient_of, IsSumWithin, IsSum}
use Rattle.linear_forms.proofs.SumLemmas.{at_first, past_first, same_sums, sums_added_sum, sums_added_at, sum_times_sum, sum_times_at}
use Rattle.proof_terms.specs.Range.{lowest, multiplier, of_leaf, leaf_multiples, leaf_terms}
use Rattle.proof_form.specs.FarkasSums.{IsMultiple, multiple, constant_multiple, constant_with, literals_of}
use Rattle.proof_form.proofs.FarkasNumbers.{lowest_is}
use Rattle.proof_form.proofs.FarkasForms.{weighted_form, HaveForms}
use Rattle.proof_form.proofs.FarkasRange.{products, products-append, added}

-- ---- a fraction is a whole number over the scale

pub record Over (scale : ℕ) (r : Ratio) (n : ℤ) : Type 0 where
  pub above : 0 < r.denominator
  pub same : r.numerator *ℤ pos scale ≡ n *ℤ pos r.denominator

over : (scale : ℕ) → ℤ → Ratio
over scale n = record { numerator = n; denominator = scale }

pub over_none : (scale : ℕ) → Over scale (whole (pos 0)) (pos 0)
over_none scale = record { above = omega arith; same = solve wholes (pos scale ∷ []) (product nothing (var 0)) (product nothing unit) refl }

pub over_sum : (scale : ℕ) (x y : Ratio) (m n : ℤ) → Over scale x m → Over scale y n → Over scale (sum_of x y) (m +ℤ n)
over_sum scale x y m n hx hy =
    let w : Ratio = record { numerator = m +ℤ n; denominator = scale } in
    record {
      above = sum_positive x y hx.above hy.above;
      same =
          same_trans (sum_of x y) (unreduced_sum x y) w (pos_times x.denominator y.denominator hx.above hy.above) (sum_same x y)
          (solve wholes (x.numerator ∷ pos x.denominator ∷ y.numerator ∷ pos y.denominator ∷ pos scale ∷ [])
          (product (sum (product (var 0) (var 3)) (product (var 2) (var 1))) (var 4))
          (sum (product (product (var 0) (var 4)) (var 3)) (product (product (var 2) (var 4)) (var 1))) refl
          ∙ ap₂ (λ s t. s *ℤ pos y.denominator +ℤ t *ℤ pos x.denominator) hx.same hy.same
          ∙ solve wholes (m ∷ n ∷ pos x.denominator ∷ pos y.denominator ∷ [])
          (sum (product (product (var 0) (var 2)) (var 3)) (product (product (var 1) (var 3)) (var 2)))
          (product (sum (var 0) (var 1)) (product (var 2) (var 3))) refl);
    }

pub over_multiple : (scale : ℕ) (m : Ratio) (n c : ℤ) → Over scale m n → Over scale (multiple m c) (n *ℤ c)
over_multiple scale m n c h =
    let w : Ratio = record { numerator = n *ℤ c; denominator = scale } in
    record {
      above = product_positive m (whole c) h.above (omega arith);
      same =
          same_trans (multiple m c) (unreduced_product m (whole c)) w (pos_times m.denominator 1 h.above (omega arith)) (product_same m (whole c))
          (solve wholes (m.numerator ∷ c ∷ pos scale ∷ []) (product (product (var 0) (var 1)) (var 2)) (product (product (var 0) (var 2)) (var 1)) refl
          ∙ ap (λ z. z *ℤ c) h.same
          ∙ solve wholes (n ∷ c ∷ pos m.denominator ∷ []) (product (product (var 0) (var 2)) (var 1)) (product (product (var 0) (var 1)) (product (var 2) unit)) refl);
    }

pub over_lowest : (scale a b n : ℕ) → a < 2 ^ 127 → 0 < b → b < 2 ^ 127 → n * b ≡ a * scale → Over scale (lowest a b) (pos n)
over_lowest scale a b n a_in above b_in e =
    let found = lowest_is a b a_in above b_in in
    let r : Ratio = record { numerator = pos a; denominator = b } in
    let w : Ratio = record { numerator = pos n; denominator = scale } in
    record { above = found.1.positive; same = same_trans (lowest a b) r w above found.0 (ap pos (sym e)) }

-- ---- its sign

pub over_zero : (scale : ℕ) (r : Ratio) (n : ℤ) → Over scale r n → is_zero r ≡ true → n ≡ pos 0
over_zero scale r n h e =
    let none : r.numerator ≡ pos 0 = abs_zero r.numerator (eqb-true (unsigned_abs r.numerator) 0 e) in
    times_cancel n (pos 0) r.denominator h.above (sym h.same ∙ ap (λ z. z *ℤ pos scale) none ∙ none_times scale ∙ sym (none_times r.denominator))
  where
    abs_zero : (z : ℤ) → unsigned_abs z ≡ 0 → z ≡ pos 0
    abs_zero (pos m) f = ap pos f
    abs_zero (negsuc m) f = absurd (omega arith)

pub zero_over : (scale : ℕ) (r : Ratio) (n : ℤ) → 0 < scale → Over scale r n → n ≡ pos 0 → is_zero r ≡ true
zero_over scale r n above h e =
    let none : r.numerator ≡ pos 0 =
    times_cancel r.numerator (pos 0) scale above (h.same ∙ ap (λ z. z *ℤ pos r.denominator) e ∙ none_times r.denominator ∙ sym (none_times scale)) in
    eq-eqb (unsigned_abs r.numerator) 0 (ap unsigned_abs none)

below : (a b : ℤ) → int_lt a b ≡ true → a <ℤ b
below a b h = grind (arith, ints)

not_below : (a b : ℤ) → int_lt a b ≡ false → b ≤ℤ a
not_below a b h = grind (arith, ints)

is_below : (a b : ℤ) → a <ℤ b → int_lt a b ≡ true
is_below a b h = grind (arith, ints)

-- of two products with positive numbers that are the same, both first factors are above 0
sign : (x y : ℤ) (a b : ℕ) → 0 < a → x *ℤ pos a ≡ y *ℤ pos b → pos 0 <ℤ x → pos 0 <ℤ y
sign x y a b above e h = by (int_lt (pos 0) y) refl
  where
    up : (pos 0 *ℤ pos a) <ℤ (x *ℤ pos a)
    up = mul_strict (pos 0) x a above h

    by : (t : Bool) → int_lt (pos 0) y ≡ t → pos 0 <ℤ y
    by true f = below (pos 0) y f
    by false f =
        let down : (y *ℤ pos b) ≤ℤ (pos 0 *ℤ pos b) = mul_mono y (pos 0) b (not_below (pos 0) y f) in
        let p = none_times a in
        let q = none_times b in
        absurd (omega (arith, ints, up, down, p, q, e))

pub over_positive : (scale : ℕ) (r : Ratio) (n : ℤ) → 0 < scale → Over scale r n → is_positive r ≡ true → pos 0 <ℤ n
over_positive scale r n above h e = sign r.numerator n scale r.denominator above h.same (below (pos 0) r.numerator e)

pub positive_over : (scale : ℕ) (r : Ratio) (n : ℤ) → Over scale r n → pos 0 <ℤ n → is_positive r ≡ true
positive_over scale r n h e = is_below (pos 0) r.numerator (sign n r.numerator r.denominator scale h.above (sym h.same) e)

-- ---- one bound

of_leaf_absent : (low high x : ℕ) (m : Ratio) (ps : List Summand) → IsSumWithin low high ps → x < low → of_leaf x m ps ≡ []
of_leaf_absent low high x m [] h l = refl
of_leaf_absent low high x m (p ∷ ps) h l =
    let a : low ≤ p.term = h.0 in
    ap (λ b. if b then (m, p.coefficient) ∷ of_leaf x m ps else of_leaf x m ps) (ne_eqb x p.term (λ s. absurd (omega arith)))
    ∙ of_leaf_absent (p.term + 1) high x m ps h.3 (omega arith)

added-append : (x : Ratio) (ys zs : List Ratio) → added x (ys ++ zs) ≡ added (added x ys) zs
added-append x [] zs = refl
added-append x (y ∷ ys) zs = added-append (sum_of x y) ys zs

module _ (scale : ℕ) (x : ℕ) (m : Ratio) (n : ℤ) (of_m : Over scale m n) where
  leaf_over : (low high : ℕ) (ps : List Summand) (r : Ratio) (z : ℤ) → IsSumWithin low high ps → Over scale r z → Over scale (added r (products (of_leaf x m ps))) (z +ℤ n *ℤ coefficient_of ps x)
  leaf_over low high [] r z s h = subst (Over scale r) (solve wholes (z ∷ n ∷ []) (var 0) (sum (var 0) (product (var 1) nothing)) refl) h
  leaf_over low high (p ∷ ps) r z s h = by (leaf_over (p.term + 1) high ps r z s.3 h) (nat_eq x p.term) refl
    where
      by : Over scale (added r (products (of_leaf x m ps))) (z +ℤ n *ℤ coefficient_of ps x) → (b : Bool) → nat_eq x p.term ≡ b → Over scale (added r (products (if b then (m, p.coefficient) ∷ of_leaf x m ps else of_leaf x m ps))) (z +ℤ n *ℤ coefficient_of (p ∷ ps) x)
      by again true t =
          let same : x ≡ p.term = eqb-true x p.term t in
          subst (λ qs. Over scale (added (sum_of r (multiple m p.coefficient)) (products qs)) (z +ℤ n *ℤ coefficient_of (p ∷ ps) x))
          (sym (of_leaf_absent (p.term + 1) high x m ps s.3 (omega arith)))
          (subst (λ c. Over scale (sum_of r (multiple m p.coefficient)) (z +ℤ n *ℤ c)) (sym (at_first p ps x (sym same)))
          (over_sum scale r (multiple m p.coefficient) z (n *ℤ p.coefficient) h (over_multiple scale m n p.coefficient of_m)))
      by again false f =
          subst (λ c. Over scale (added r (products (of_leaf x m ps))) (z +ℤ n *ℤ c)) (sym (past_first p ps x (λ e. eqb-false x p.term f (sym e)))) again

-- ---- all of them

pub record IsTotal (high scale : ℕ) (ws : List Weighted) (ns : List ℕ) : Type 0 where
  pub form : Form
  pub total_is : total ws ns ≡ Some form
  pub is_sum : IsSum high form.sum
  pub leaves : (x : ℕ) (r : Ratio) (z : ℤ) → Over scale r z → Over scale (added r (products (leaf_terms x ws))) (z +ℤ coefficient_of form.sum x)
  pub constant : (r : Ratio) (z : ℤ) → Over scale r z → Over scale (constant_with r ws) (z +ℤ form.constant)

plus_nothing : (z : ℤ) → z ≡ z +ℤ pos 0
plus_nothing z = omega (arith, ints)

plus_assoc : (x y z : ℤ) → (x +ℤ y) +ℤ z ≡ x +ℤ (y +ℤ z)
plus_assoc x y z = omega (arith, ints)

pub total_of : (high scale : ℕ) (ws : List Weighted) (ns : List ℕ) → All (IsMultiple high) ws → HaveForms high ws → AreScaled scale ws ns → IsTotal high scale ws ns
total_of high scale [] [] all h s =
    record {
      form = number_form (pos 0);
      total_is = refl;
      is_sum = tt;
      leaves = λ x r z o. subst (Over scale r) (plus_nothing z) o;
      constant = λ r z o. subst (Over scale r) (plus_nothing z) o;
    }
total_of high scale [] (n ∷ ns) all h s = absurd s
total_of high scale (w ∷ ws) [] all h s = absurd s
total_of high scale (w ∷ ws) (n ∷ ns) all h s =
    let one : IsMultiple high w = All-head (IsMultiple high) w ws all in
    let more : IsTotal high scale ws ns = total_of high scale ws ns (All-tail (IsMultiple high) w ws all) h.1 s.3 in
    let m : Ratio = multiplier w in
    let f : Form = weighted_form w in
    let g : Form = more.form in
    let of_m : Over scale m (pos n) = over_lowest scale w.numerator w.denominator n one.numerator_in one.denominator_above one.denominator_in s.2 in
    record {
      form = form_plus (form_times (pos n) f) g;
      total_is = ap₂ (add_times n) h.0.form more.total_is;
      is_sum = sums_added_sum high (sum_times (pos n) f.sum) g.sum (sum_times_sum high (pos n) f.sum h.0.is_sum) more.is_sum;
      leaves = λ x r z o.
          subst (λ u. Over scale (added r (products (leaf_multiples x m u ++ leaf_terms x ws))) (z +ℤ coefficient_of (sums_added (sum_times (pos n) f.sum) g.sum) x)) (sym h.0.form)
          (subst (λ ys. Over scale (added r ys) (z +ℤ coefficient_of (sums_added (sum_times (pos n) f.sum) g.sum) x)) (sym (products-append (of_leaf x m f.sum) (leaf_terms x ws)))
          (subst (λ y. Over scale y (z +ℤ coefficient_of (sums_added (sum_times (pos n) f.sum) g.sum) x)) (sym (added-append r (products (of_leaf x m f.sum)) (products (leaf_terms x ws))))
          (subst (Over scale (added (added r (products (of_leaf x m f.sum))) (products (leaf_terms x ws))))
          (plus_assoc z (pos n *ℤ coefficient_of f.sum x) (coefficient_of g.sum x)
          ∙ ap (λ c. z +ℤ (c +ℤ coefficient_of g.sum x)) (sym (sum_times_at (pos n) f.sum x))
          ∙ ap (λ c. z +ℤ c) (sym (sums_added_at high (sum_times (pos n) f.sum) g.sum x (sum_times_sum high (pos n) f.sum h.0.is_sum) more.is_sum)))
          (more.leaves x (added r (products (of_leaf x m f.sum))) (z +ℤ pos n *ℤ coefficient_of f.sum x) (leaf_over scale x m (pos n) of_m 0 high f.sum r z h.0.is_sum o)))));
      constant = λ r z o.
          subst (Over scale (constant_with (sum_of r (constant_multiple w)) ws)) (plus_assoc z (pos n *ℤ f.constant) g.constant)
          (more.constant (sum_of r (constant_multiple w)) (z +ℤ pos n *ℤ f.constant) (over_sum scale r (constant_multiple w) z (pos n *ℤ f.constant) o (over_multiple scale m (pos n) f.constant of_m)));
    }

-- ---- a scale for all multipliers

abbrev scale_of : List Weighted → ℕ
scale_of [] = 1
scale_of (w ∷ ws) = w.denominator * scale_of ws

abbrev enlarged : ℕ → List ℕ → List ℕ
enlarged d [] = []
enlarged d (n ∷ ns) = n * d ∷ enlarged d ns

abbrev weights_of : List Weighted → List ℕ
weights_of [] = []
weights_of (w ∷ ws) = w.numerator * scale_of ws ∷ enlarged w.denominator (weights_of ws)

enlarged_scale : (d scale : ℕ) (ws : List Weighted) (ns : List ℕ) → AreScaled scale ws ns → AreScaled (d * scale) ws (enlarged d ns)
enlarged_scale d scale [] [] s = tt
enlarged_scale d scale [] (n ∷ ns) s = absurd s
enlarged_scale d scale (w ∷ ws) [] s = absurd s
enlarged_scale d scale (w ∷ ws) (n ∷ ns) s = (s.0, s.1, more n w.denominator w.numerator s.2, enlarged_scale d scale ws ns s.3)
  where
    more : (n b a : ℕ) → n * b ≡ a * scale → n * d * b ≡ a * (d * scale)
    more n b a e =
        mul_assoc n d b ∙ ap (λ k. n * k) (mul_comm d b) ∙ sym (mul_assoc n b d) ∙ ap (λ k. k * d) e ∙ mul_assoc a scale d ∙ ap (λ k. a * k) (mul_comm scale d)

scale_above : (high : ℕ) (ws : List Weighted) → All (IsMultiple high) ws → 0 < scale_of ws
scale_above high [] all = omega arith
scale_above high (w ∷ ws) all =
    let one : IsMultiple high w = All-head (IsMultiple high) w ws all in
    pos_times w.denominator (scale_of ws) one.denominator_above (scale_above high ws (All-tail (IsMultiple high) w ws all))

scaled_by : (high : ℕ) (ws : List Weighted) → All (IsMultiple high) ws → AreScaled (scale_of ws) ws (weights_of ws)
scaled_by high [] all = tt
scaled_by high (w ∷ ws) all =
    let one : IsMultiple high w = All-head (IsMultiple high) w ws all in (
      one.numerator_above,
      one.denominator_above,
      mul_assoc w.numerator (scale_of ws) w.denominator ∙ ap (λ k. w.numerator * k) (mul_comm (scale_of ws) w.denominator),
      enlarged_scale w.denominator (scale_of ws) ws (weights_of ws) (scaled_by high ws (All-tail (IsMultiple high) w ws all)),
    )

-- ---- the rule

none_and : (z : ℤ) → pos 0 +ℤ z ≡ z
none_and z = omega (arith, ints)

abbrev pub AllVanish : List Weighted → Type 0
AllVanish ws = (x : ℕ) → is_zero (added (whole (pos 0)) (products (leaf_terms x ws))) ≡ true

pub is_farkas : (high : ℕ) (ws : List Weighted) → All (IsMultiple high) ws → HaveForms high ws → AllVanish ws → is_positive (constant_with (whole (pos 0)) ws) ≡ true → IsFarkas ws (literals_of ws)
is_farkas high ws all h none above =
    let scale = scale_of ws in
    let t : IsTotal high scale ws (weights_of ws) = total_of high scale ws (weights_of ws) all h (scaled_by high ws all) in
    let at : (x : ℕ) → coefficient_of t.form.sum x ≡ pos 0 =
    λ x. sym (none_and (coefficient_of t.form.sum x)) ∙ over_zero scale (added (whole (pos 0)) (products (leaf_terms x ws))) (pos 0 +ℤ coefficient_of t.form.sum x) (t.leaves x (whole (pos 0)) (pos 0) (over_none scale)) (none x) in
    let empty : t.form.sum ≡ [] = same_sums 0 high t.form.sum [] t.is_sum tt at in
    record {
      scale = scale;
      scale_above = scale_above high ws all;
      weights = weights_of ws;
      scaled = scaled_by high ws all;
      constant = t.form.constant;
      sums = t.total_is ∙ ap (λ ps. Some (let f : Form = record { sum = ps; constant = t.form.constant } in f)) empty;
      above =
          subst (λ z. pos 0 <ℤ z) (none_and t.form.constant)
          (over_positive scale (constant_with (whole (pos 0)) ws) (pos 0 +ℤ t.form.constant) (scale_above high ws all) (t.constant (whole (pos 0)) (pos 0) (over_none scale)) above);
      clause = refl;
    }

pub farkas_is : (high : ℕ) (ws : List Weighted) (ls : List Literal) → All (IsMultiple high) ws → HaveForms high ws → IsFarkas ws ls → AllVanish ws × (is_positive (constant_with (whole (pos 0)) ws) ≡ true)
farkas_is high ws ls all h f =
    let t : IsTotal high f.scale ws f.weights = total_of high f.scale ws f.weights all h f.scaled in
    let same : Some t.form ≡ Some (let g : Form = record { sum = []; constant = f.constant } in g) = sym t.total_is ∙ f.sums in
    let empty : t.form.sum ≡ [] = cc in
    let constant : t.form.constant ≡ f.constant = cc in (
      λ x.
          zero_over f.scale (added (whole (pos 0)) (products (leaf_terms x ws))) (pos 0 +ℤ coefficient_of t.form.sum x) f.scale_above (t.leaves x (whole (pos 0)) (pos 0) (over_none f.scale))
          (ap (λ ps. pos 0 +ℤ coefficient_of ps x) empty),
      positive_over f.scale (constant_with (whole (pos 0)) ws) (pos 0 +ℤ t.form.constant) (t.constant (whole (pos 0)) (pos 0) (over_none f.scale))
          (subst (λ z. pos 0 <ℤ z) (sym (none_and t.form.constant ∙ constant)) f.above),
    )
