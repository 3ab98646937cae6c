-- The exact value of a numeral, sum, difference or product is what its operator makes of those of its arguments.
use Rattle.std.proofs.Common.{◌≡◌, ℕ, zero, suc, List, [], ◌∷◌, ap, sym, ◌∙◌, refl, arith, Bool, true, false, nat_eq, nat_lt, ◌⊎◌, inl, inr}
use Rattle.std.specs.Prelude.{ℤ, pos, negsuc, ◌+ℤ◌, ◌-ℤ◌, ◌*ℤ◌, neg_ℤ, if◌then◌else◌}
use Rattle.std.proofs.lemmas.Int.{ints}
use Rattle.std.proofs.lemmas.Bool.{eqb-true}
use Rattle.std.proofs.Math.IntN.{zero-*ℤ, *ℤ-zero, *ℤ_comm}
use Rattle.smt_meaning.specs.declared.values.Value.{Value}
use Rattle.smt_meaning.specs.declared.values.Value.TheVariants.{Whole}
use Rattle.smt_meaning.specs.declared.clauses.Summand.{Summand}
use Rattle.smt_meaning.specs.declared.terms.Operator.TheVariants.{Add, Subtract, Multiply}
use Rattle.smt_meaning.specs.declared.terms.Head.TheVariants.{Numeral, Theory, Symbol, Place}
use Rattle.smt_meaning.specs.Term.{Tree, Trees, node, none, more, tree_at, number_of, on_numbers, fold_left, operate}
use Rattle.smt_meaning.specs.Nodes.{pick}
use Rattle.term_store.specs.Terms.{tree_with}
use Rattle.smt_meaning.specs.TreeShape.{place_of, is_constant, are_constant, at_most_one_varies}
use Rattle.smt_meaning.specs.Linear.{Form, unless_zero, placed, with_term, sums_added, each_times, sum_times, form_times, form_plus, form_minus, form_product, fold_forms, leaf_form, linear_form, linear_forms}
use Rattle.smt_meaning.specs.Ranges.{sum_at, form_at}
use Rattle.fraction128.proofs.Ring.{sum-times, times-sum, times_assoc}
use Rattle.smt_laws.proofs.SameTree.{and_left, and_right}
use Rattle.smt_laws.proofs.LinearLaw.{Bare, product_bare, constant_bare}
use Rattle.model_build.specs.Building.{each}
use Rattle.exact_model.specs.Exact.{exact, listed, number_at}

-- ---- forms at numbers of their terms

module _ (w : ℕ → ℤ) where
  unless_zero_at : (i : ℕ) (c : ℤ) (ps : List Summand) → sum_at w (unless_zero i c ps) ≡ c *ℤ w i +ℤ sum_at w ps
  unless_zero_at i (pos zero) ps = zero_first (w i) (sum_at w ps)
    where
      zero_first : (a s : ℤ) → s ≡ pos 0 *ℤ a +ℤ s
      zero_first a s = rw (zero-*ℤ a) (omega (arith, ints))
  unless_zero_at i (pos (suc n)) ps = refl
  unless_zero_at i (negsuc n) ps = refl

  placed_at : (i : ℕ) (c : ℤ) (p : Summand) (ps rest : List Summand) (a b : Bool) → nat_eq i p.term ≡ b
      → sum_at w rest ≡ c *ℤ w i +ℤ sum_at w ps → sum_at w (placed a b i c p ps rest) ≡ c *ℤ w i +ℤ sum_at w (p ∷ ps)
  placed_at i c p ps rest true b e h = unless_zero_at i c (p ∷ ps)
  placed_at i c p ps rest false true e h =
      unless_zero_at i (c +ℤ p.coefficient) ps
      ∙ ap (λ z. z +ℤ sum_at w ps) (sum-times c p.coefficient (w i))
      ∙ assoc (c *ℤ w i) (p.coefficient *ℤ w i) (sum_at w ps)
      ∙ ap (λ j. c *ℤ w i +ℤ (p.coefficient *ℤ w j +ℤ sum_at w ps)) (eqb-true i p.term e)
    where
      assoc : (x y z : ℤ) → (x +ℤ y) +ℤ z ≡ x +ℤ (y +ℤ z)
      assoc x y z = omega (arith, ints)
  placed_at i c p ps rest false false e h =
      ap (λ z. p.coefficient *ℤ w p.term +ℤ z) h ∙ swap (p.coefficient *ℤ w p.term) (c *ℤ w i) (sum_at w ps)
    where
      swap : (x y z : ℤ) → x +ℤ (y +ℤ z) ≡ y +ℤ (x +ℤ z)
      swap x y z = omega (arith, ints)

  with_term_at : (i : ℕ) (c : ℤ) (ps : List Summand) → sum_at w (with_term i c ps) ≡ c *ℤ w i +ℤ sum_at w ps
  with_term_at i c [] = unless_zero_at i c []
  with_term_at i c (p ∷ ps) = placed_at i c p ps (with_term i c ps) (nat_lt i p.term) (nat_eq i p.term) refl (with_term_at i c ps)

  sums_added_at : (ps qs : List Summand) → sum_at w (sums_added ps qs) ≡ sum_at w ps +ℤ sum_at w qs
  sums_added_at [] qs = zero_left (sum_at w qs)
    where
      zero_left : (z : ℤ) → z ≡ pos 0 +ℤ z
      zero_left z = omega (arith, ints)
  sums_added_at (p ∷ ps) qs =
      with_term_at p.term p.coefficient (sums_added ps qs) ∙ ap (λ z. p.coefficient *ℤ w p.term +ℤ z) (sums_added_at ps qs)
      ∙ assoc (p.coefficient *ℤ w p.term) (sum_at w ps) (sum_at w qs)
    where
      assoc : (x y z : ℤ) → x +ℤ (y +ℤ z) ≡ (x +ℤ y) +ℤ z
      assoc x y z = omega (arith, ints)

  each_times_at : (k : ℤ) (ps : List Summand) → sum_at w (each_times k ps) ≡ k *ℤ sum_at w ps
  each_times_at k [] = sym (*ℤ-zero k)
  each_times_at k (p ∷ ps) =
      ap (λ z. z +ℤ sum_at w (each_times k ps)) (times_assoc k p.coefficient (w p.term))
      ∙ ap (λ z. k *ℤ (p.coefficient *ℤ w p.term) +ℤ z) (each_times_at k ps)
      ∙ sym (times-sum k (p.coefficient *ℤ w p.term) (sum_at w ps))

  sum_times_at : (k : ℤ) (ps : List Summand) → sum_at w (sum_times k ps) ≡ k *ℤ sum_at w ps
  sum_times_at (pos zero) ps = sym (zero-*ℤ (sum_at w ps))
  sum_times_at (pos (suc n)) ps = each_times_at (pos (suc n)) ps
  sum_times_at (negsuc n) ps = each_times_at (negsuc n) ps

  pub form_times_at : (k : ℤ) (f : Form) → form_at w (form_times k f) ≡ k *ℤ form_at w f
  form_times_at k f = ap (λ z. z +ℤ k *ℤ f.constant) (sum_times_at k f.sum) ∙ sym (times-sum k (sum_at w f.sum) f.constant)

  pub form_plus_at : (f g : Form) → form_at w (form_plus f g) ≡ form_at w f +ℤ form_at w g
  form_plus_at f g =
      ap (λ z. z +ℤ (f.constant +ℤ g.constant)) (sums_added_at f.sum g.sum) ∙ regroup (sum_at w f.sum) (sum_at w g.sum) f.constant g.constant
    where
      regroup : (a b c d : ℤ) → (a +ℤ b) +ℤ (c +ℤ d) ≡ (a +ℤ c) +ℤ (b +ℤ d)
      regroup a b c d = omega (arith, ints)

  minus_one : (z : ℤ) → negsuc 0 *ℤ z ≡ neg_ℤ z
  minus_one (pos n) = ap (λ m. neg_ℤ (pos m)) (omega arith)
  minus_one (negsuc n) = ap pos (omega arith)

  pub form_minus_at : (f g : Form) → form_at w (form_minus f g) ≡ form_at w f -ℤ form_at w g
  form_minus_at f g = form_plus_at f (form_times (negsuc 0) g) ∙ ap (λ z. form_at w f +ℤ z) (form_times_at (negsuc 0) g ∙ minus_one (form_at w g))

  -- a form without summands has the value of its constant
  pub bare_at : (f : Form) → f.sum ≡ [] → form_at w f ≡ f.constant
  bare_at f e = ap (λ ps. sum_at w ps +ℤ f.constant) e ∙ zero_left f.constant
    where
      zero_left : (z : ℤ) → pos 0 +ℤ z ≡ z
      zero_left z = omega (arith, ints)

  product_first : (f g : Form) → f.sum ≡ [] → form_at w (form_times f.constant g) ≡ form_at w f *ℤ form_at w g
  product_first f g e = form_times_at f.constant g ∙ ap (λ z. z *ℤ form_at w g) (sym (bare_at f e))

  product_second : (f g : Form) → g.sum ≡ [] → form_at w (form_times g.constant f) ≡ form_at w f *ℤ form_at w g
  product_second f g e = product_first g f e ∙ *ℤ_comm (form_at w g) (form_at w f)

  product_at : (f g : Form) → (f.sum ≡ []) ⊎ (g.sum ≡ []) → form_at w (form_product f g) ≡ form_at w f *ℤ form_at w g
  product_at f g h = by_sum f.sum refl h
    where
      by_sum : (ps : List Summand) → f.sum ≡ ps → (f.sum ≡ []) ⊎ (g.sum ≡ [])
          → form_at w (elim ps [ [] ↦ form_times f.constant g | p ∷ rest ↦ form_times g.constant f ]) ≡ form_at w f *ℤ form_at w g
      by_sum [] e k = product_first f g e
      by_sum (p ∷ rest) e (inl a) = absurd (cc)
      by_sum (p ∷ rest) e (inr b) = product_second f g b

-- ---- the number of a term is the value of its form

module _ (ts : List Tree) (vs : List Value) where
  leaf_number : (t : Tree) → number_of (listed vs (place_of t ts)) ≡ form_at (number_at vs) (leaf_form ts t)
  leaf_number t = once (number_at vs (place_of t ts))
    where
      once : (z : ℤ) → z ≡ (pos 1 *ℤ z +ℤ pos 0) +ℤ pos 0
      once (pos n) = ap pos (omega arith)
      once (negsuc n) = omega (arith, ints)

  pub number_is : (t : Tree) → number_of (exact ts vs t) ≡ form_at (number_at vs) (linear_form ts t)
  unfolding exact
  number_is (node (Numeral n) us) = refl
  number_is (node (Theory Add) us) = refl
  number_is (node (Theory Subtract) us) = refl
  number_is (node (Theory Multiply) us) = refl
  number_is (node (Theory o) us) = leaf_number (node (Theory o) us)
  number_is (node (Symbol f) us) = leaf_number (node (Symbol f) us)
  number_is (node (Place k) us) = leaf_number (node (Place k) us)

  pub numeral_is : (n : ℤ) (us : Trees) → exact ts vs (node (Numeral n) us) ≡ Whole n
  unfolding exact
  numeral_is n us = ap Whole (zero_left n)
    where
      zero_left : (z : ℤ) → pos 0 +ℤ z ≡ z
      zero_left z = omega (arith, ints)

  -- a sum or a difference, folded from the left
  fold_is : (op : Form → Form → Form) (o : ℤ → ℤ → ℤ) → ((f g : Form) → form_at (number_at vs) (op f g) ≡ o (form_at (number_at vs) f) (form_at (number_at vs) g))
      → (us : Trees) (v : Value) (f : Form) → number_of v ≡ form_at (number_at vs) f
      → number_of (fold_left (on_numbers o) v (each (exact ts vs) us)) ≡ form_at (number_at vs) (fold_forms op f (linear_forms ts us))
  fold_is op o law none v f e = e
  fold_is op o law (more u us) v f e =
      fold_is op o law us (on_numbers o v (exact ts vs u)) (op f (linear_form ts u))
      (ap (λ z. o z (number_of (exact ts vs u))) e ∙ ap (o (form_at (number_at vs) f)) (number_is u) ∙ sym (law f (linear_form ts u)))

  times_step : (v : Value) (f : Form) (u : Tree) → number_of v ≡ form_at (number_at vs) f → (f.sum ≡ []) ⊎ ((linear_form ts u).sum ≡ [])
      → number_of (on_numbers ◌*ℤ◌ v (exact ts vs u)) ≡ form_at (number_at vs) (form_product f (linear_form ts u))
  times_step v f u e b =
      ap (λ z. z *ℤ number_of (exact ts vs u)) e ∙ ap (λ z. form_at (number_at vs) f *ℤ z) (number_is u) ∙ sym (product_at (number_at vs) f (linear_form ts u) b)

  split : {A : Type 0} (b x y : Bool) → (if b then x else y) ≡ true → (b ≡ true → x ≡ true → A) → (y ≡ true → A) → A
  split true x y e f g = f refl e
  split false x y e f g = g e

  -- a product with factors that are constants
  fold_constant : (us : Trees) (v : Value) (f : Form) → number_of v ≡ form_at (number_at vs) f → are_constant us ≡ true
      → number_of (fold_left (on_numbers ◌*ℤ◌) v (each (exact ts vs) us)) ≡ form_at (number_at vs) (fold_forms form_product f (linear_forms ts us))
  fold_constant none v f e c = e
  fold_constant (more u us) v f e c =
      fold_constant us (on_numbers ◌*ℤ◌ v (exact ts vs u)) (form_product f (linear_form ts u))
      (times_step v f u e (inr (constant_bare ts u (and_left (is_constant u) (are_constant us) c)))) (and_right (is_constant u) (are_constant us) c)

  -- a constant times factors of which at most one varies
  fold_one : (us : Trees) (v : Value) (f : Form) → number_of v ≡ form_at (number_at vs) f → Bare f → at_most_one_varies us ≡ true
      → number_of (fold_left (on_numbers ◌*ℤ◌) v (each (exact ts vs) us)) ≡ form_at (number_at vs) (fold_forms form_product f (linear_forms ts us))
  fold_one none v f e a m = e
  fold_one (more u us) v f e a m =
      split (is_constant u) (at_most_one_varies us) (are_constant us) m
      (λ c k. fold_one us (on_numbers ◌*ℤ◌ v (exact ts vs u)) (form_product f (linear_form ts u)) (times_step v f u e (inl a)) (product_bare f (linear_form ts u) a (constant_bare ts u c)) k)
      (λ k. fold_constant us (on_numbers ◌*ℤ◌ v (exact ts vs u)) (form_product f (linear_form ts u)) (times_step v f u e (inl a)) k)

  product_number : (u : Tree) (us : Trees) → at_most_one_varies (more u us) ≡ true
      → number_of (fold_left (on_numbers ◌*ℤ◌) (exact ts vs u) (each (exact ts vs) us)) ≡ form_at (number_at vs) (fold_forms form_product (linear_form ts u) (linear_forms ts us))
  product_number u us m =
      split (is_constant u) (at_most_one_varies us) (are_constant us) m
      (λ c k. fold_one us (exact ts vs u) (linear_form ts u) (number_is u) (constant_bare ts u c) k) (λ k. fold_constant us (exact ts vs u) (linear_form ts u) (number_is u) k)

  -- ---- and the value of the term is that number

  fold_whole : (o : ℤ → ℤ → ℤ) (z : ℤ) (ws : List Value) → fold_left (on_numbers o) (Whole z) ws ≡ Whole (number_of (fold_left (on_numbers o) (Whole z) ws))
  fold_whole o z [] = refl
  fold_whole o z (w ∷ ws) = fold_whole o (o z (number_of w)) ws

  folds_to : (o : ℤ → ℤ → ℤ) (v w : Value) (ws : List Value) (z : ℤ) → number_of (fold_left (on_numbers o) v (w ∷ ws)) ≡ z → Whole z ≡ fold_left (on_numbers o) v (w ∷ ws)
  folds_to o v w ws z e = sym (fold_whole o (o (number_of v) (number_of w)) ws ∙ ap Whole e)

  -- a term that is a sum, a difference or a product has the value of its form
  pub sum_is : (i j : ℕ) (is : List ℕ) → exact ts vs (tree_with ts (Theory Add) (i ∷ j ∷ is)) ≡ operate Add (each (exact ts vs) (pick ts (i ∷ j ∷ is)))
  unfolding exact
  sum_is i j is =
      folds_to ◌+ℤ◌ (exact ts vs (tree_at ts i)) (exact ts vs (tree_at ts j)) (each (exact ts vs) (pick ts is)) _
      (fold_is form_plus ◌+ℤ◌ (form_plus_at (number_at vs)) (pick ts (j ∷ is)) (exact ts vs (tree_at ts i)) (linear_form ts (tree_at ts i)) (number_is (tree_at ts i)))

  pub difference_is : (i j : ℕ) (is : List ℕ) → exact ts vs (tree_with ts (Theory Subtract) (i ∷ j ∷ is)) ≡ operate Subtract (each (exact ts vs) (pick ts (i ∷ j ∷ is)))
  unfolding exact
  difference_is i j is =
      folds_to ◌-ℤ◌ (exact ts vs (tree_at ts i)) (exact ts vs (tree_at ts j)) (each (exact ts vs) (pick ts is)) _
      (fold_is form_minus ◌-ℤ◌ (form_minus_at (number_at vs)) (pick ts (j ∷ is)) (exact ts vs (tree_at ts i)) (linear_form ts (tree_at ts i)) (number_is (tree_at ts i)))

  pub negation_is : (i : ℕ) → exact ts vs (tree_with ts (Theory Subtract) (i ∷ [])) ≡ operate Subtract (each (exact ts vs) (pick ts (i ∷ [])))
  unfolding exact
  negation_is i =
      ap Whole (form_times_at (number_at vs) (negsuc 0) (linear_form ts (tree_at ts i)) ∙ minus_one (number_at vs) (form_at (number_at vs) (linear_form ts (tree_at ts i))) ∙ ap neg_ℤ (sym (number_is (tree_at ts i))))

  pub product_is : (i j : ℕ) (is : List ℕ) → at_most_one_varies (pick ts (i ∷ j ∷ is)) ≡ true
      → exact ts vs (tree_with ts (Theory Multiply) (i ∷ j ∷ is)) ≡ operate Multiply (each (exact ts vs) (pick ts (i ∷ j ∷ is)))
  unfolding exact
  product_is i j is m =
      folds_to ◌*ℤ◌ (exact ts vs (tree_at ts i)) (exact ts vs (tree_at ts j)) (each (exact ts vs) (pick ts is)) _ (product_number (tree_at ts i) (pick ts (j ∷ is)) m)
