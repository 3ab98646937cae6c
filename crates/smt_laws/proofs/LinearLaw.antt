-- The linear form of an Int term has the term's value.
use Rattle.std.proofs.Common.{◌≡◌, ℕ, zero, suc, List, [], ◌∷◌, All, ap, sym, ◌∙◌, refl, arith, Bool, true, false, nat_eq, nat_lt, ◌⊎◌, inl, inr}
use Rattle.std.specs.Prelude.{ℤ, pos, negsuc, ◌+ℤ◌, ◌-ℤ◌, ◌*ℤ◌, neg_ℤ, IsTrue, if◌then◌else◌}
use Rattle.std.proofs.lemmas.Int.{ints}
use Rattle.std.proofs.lemmas.Bool.{eqb-true}
use Rattle.std.proofs.lemmas.List.Elements.{All-head}
use Rattle.std.proofs.Math.IntN.{zero-*ℤ, *ℤ-zero, *ℤ_comm}
use Rattle.smt_meaning.specs.declared.values.Value.{Value}
use Rattle.smt_meaning.specs.declared.clauses.Summand.{Summand}
use Rattle.smt_meaning.specs.declared.terms.Operator.TheVariants.{Add, Subtract, Multiply}
use Rattle.smt_meaning.specs.declared.terms.Head.{Head}
use Rattle.smt_meaning.specs.declared.terms.Head.TheVariants.{Numeral, Theory, Symbol, Place}
use Rattle.smt_meaning.specs.Term.{Tree, Trees, node, none, more, tree_at, Interpretation, value, values, number_of, on_numbers, fold_left}
use Rattle.smt_meaning.specs.TreeShape.{place_of, is_among, is_constant_head, is_constant, are_constant, at_most_one_varies, is_linear_at, is_linear, are_linear}
use Rattle.smt_meaning.specs.Clause.{sum_value, value_at}
use Rattle.smt_meaning.specs.Linear.{Form, form_value, unless_zero, placed, with_term, sums_added, each_times, sum_times, form_times, form_plus, form_minus, form_product, fold_forms, folded, difference_form, leaf_form, linear_form, linear_forms, leaves, leaves_of}
use Rattle.fraction128.proofs.Ring.{sum-times, times-sum, times_assoc}
use Rattle.smt_laws.proofs.Included.{All-included, included_left, included_right}
use Rattle.smt_laws.proofs.Both.{and_left, and_right}
use Rattle.smt_laws.proofs.SameTree.{found_again}

abbrev at : List Tree → Interpretation → ℕ → ℤ
at ts I i = number_of (value_at ts I i)

unless_zero_value : (ts : List Tree) (I : Interpretation) (i : ℕ) (c : ℤ) (ps : List Summand) → sum_value ts I (unless_zero i c ps) ≡ c *ℤ at ts I i +ℤ sum_value ts I ps
unless_zero_value ts I i (pos zero) ps = zero_first (at ts I i) (sum_value ts I ps)
  where
    zero_first : (a s : ℤ) → s ≡ pos 0 *ℤ a +ℤ s
    zero_first a s = rw (zero-*ℤ a) (omega (arith, ints))
unless_zero_value ts I i (pos (suc n)) ps = refl
unless_zero_value ts I i (negsuc n) ps = refl

placed_value : (ts : List Tree) (I : Interpretation) (i : ℕ) (c : ℤ) (p : Summand) (ps rest : List Summand) (a b : Bool) → nat_eq i p.term ≡ b
    → sum_value ts I rest ≡ c *ℤ at ts I i +ℤ sum_value ts I ps
    → sum_value ts I (placed a b i c p ps rest) ≡ c *ℤ at ts I i +ℤ sum_value ts I (p ∷ ps)
placed_value ts I i c p ps rest true b e h = unless_zero_value ts I i c (p ∷ ps)
placed_value ts I i c p ps rest false true e h =
    unless_zero_value ts I i (c +ℤ p.coefficient) ps
    ∙ ap (λ z. z +ℤ sum_value ts I ps) (sum-times c p.coefficient (at ts I i))
    ∙ assoc (c *ℤ at ts I i) (p.coefficient *ℤ at ts I i) (sum_value ts I ps)
    ∙ ap (λ j. c *ℤ at ts I i +ℤ (p.coefficient *ℤ at ts I j +ℤ sum_value ts I ps)) (eqb-true i p.term e)
  where
    assoc : (x y z : ℤ) → (x +ℤ y) +ℤ z ≡ x +ℤ (y +ℤ z)
    assoc x y z = omega (arith, ints)
placed_value ts I i c p ps rest false false e h =
    ap (λ z. p.coefficient *ℤ at ts I p.term +ℤ z) h ∙ swap (p.coefficient *ℤ at ts I p.term) (c *ℤ at ts I i) (sum_value ts I ps)
  where
    swap : (x y z : ℤ) → x +ℤ (y +ℤ z) ≡ y +ℤ (x +ℤ z)
    swap x y z = omega (arith, ints)

with_term_value : (ts : List Tree) (I : Interpretation) (i : ℕ) (c : ℤ) (ps : List Summand) → sum_value ts I (with_term i c ps) ≡ c *ℤ at ts I i +ℤ sum_value ts I ps
with_term_value ts I i c [] = unless_zero_value ts I i c []
with_term_value ts I i c (p ∷ ps) = placed_value ts I i c p ps (with_term i c ps) (nat_lt i p.term) (nat_eq i p.term) refl (with_term_value ts I i c ps)

sums_added_value : (ts : List Tree) (I : Interpretation) (ps qs : List Summand) → sum_value ts I (sums_added ps qs) ≡ sum_value ts I ps +ℤ sum_value ts I qs
sums_added_value ts I [] qs = zero_left (sum_value ts I qs)
  where
    zero_left : (z : ℤ) → z ≡ pos 0 +ℤ z
    zero_left z = omega (arith, ints)
sums_added_value ts I (p ∷ ps) qs =
    with_term_value ts I p.term p.coefficient (sums_added ps qs) ∙ ap (λ z. p.coefficient *ℤ at ts I p.term +ℤ z) (sums_added_value ts I ps qs)
    ∙ assoc (p.coefficient *ℤ at ts I p.term) (sum_value ts I ps) (sum_value ts I qs)
  where
    assoc : (x y z : ℤ) → x +ℤ (y +ℤ z) ≡ (x +ℤ y) +ℤ z
    assoc x y z = omega (arith, ints)

each_times_value : (ts : List Tree) (I : Interpretation) (k : ℤ) (ps : List Summand) → sum_value ts I (each_times k ps) ≡ k *ℤ sum_value ts I ps
each_times_value ts I k [] = sym (*ℤ-zero k)
each_times_value ts I k (p ∷ ps) =
    ap (λ z. z +ℤ sum_value ts I (each_times k ps)) (times_assoc k p.coefficient (at ts I p.term))
    ∙ ap (λ z. k *ℤ (p.coefficient *ℤ at ts I p.term) +ℤ z) (each_times_value ts I k ps)
    ∙ sym (times-sum k (p.coefficient *ℤ at ts I p.term) (sum_value ts I ps))

sum_times_value : (ts : List Tree) (I : Interpretation) (k : ℤ) (ps : List Summand) → sum_value ts I (sum_times k ps) ≡ k *ℤ sum_value ts I ps
sum_times_value ts I (pos zero) ps = sym (zero-*ℤ (sum_value ts I ps))
sum_times_value ts I (pos (suc n)) ps = each_times_value ts I (pos (suc n)) ps
sum_times_value ts I (negsuc n) ps = each_times_value ts I (negsuc n) ps

pub form_times_value : (ts : List Tree) (I : Interpretation) (k : ℤ) (f : Form) → form_value ts I (form_times k f) ≡ k *ℤ form_value ts I f
form_times_value ts I k f =
    ap (λ z. z +ℤ k *ℤ f.constant) (sum_times_value ts I k f.sum) ∙ sym (times-sum k (sum_value ts I f.sum) f.constant)

pub form_plus_value : (ts : List Tree) (I : Interpretation) (f g : Form) → form_value ts I (form_plus f g) ≡ form_value ts I f +ℤ form_value ts I g
form_plus_value ts I f g =
    ap (λ z. z +ℤ (f.constant +ℤ g.constant)) (sums_added_value ts I f.sum g.sum)
    ∙ regroup (sum_value ts I f.sum) (sum_value ts I g.sum) f.constant g.constant
  where
    regroup : (a b c d : ℤ) → (a +ℤ b) +ℤ (c +ℤ d) ≡ (a +ℤ c) +ℤ (b +ℤ d)
    regroup a b c d = omega (arith, ints)

pub minus_one : (z : ℤ) → negsuc 0 *ℤ z ≡ neg_ℤ z
minus_one (pos n) = ap (λ m. neg_ℤ (pos m)) (omega arith)
minus_one (negsuc n) = ap pos (omega arith)

pub form_minus_value : (ts : List Tree) (I : Interpretation) (f g : Form) → form_value ts I (form_minus f g) ≡ form_value ts I f -ℤ form_value ts I g
form_minus_value ts I f g =
    form_plus_value ts I f (form_times (negsuc 0) g) ∙ ap (λ z. form_value ts I f +ℤ z) (form_times_value ts I (negsuc 0) g ∙ minus_one (form_value ts I g))

-- each of these terms has the value of its form
abbrev Lawful : List Tree → Interpretation → Trees → Type 0
Lawful ts I none = Unit {0}
Lawful ts I (more u us) = (number_of (value I u) ≡ form_value ts I (linear_form ts u)) × Lawful ts I us

-- a sum or a difference, folded from the left
fold_value : (ts : List Tree) (I : Interpretation) (op : Form → Form → Form) (o : ℤ → ℤ → ℤ)
    → ((f g : Form) → form_value ts I (op f g) ≡ o (form_value ts I f) (form_value ts I g))
    → (us : Trees) (v : Value) (f : Form) → number_of v ≡ form_value ts I f → Lawful ts I us
    → number_of (fold_left (on_numbers o) v (values I us)) ≡ form_value ts I (fold_forms op f (linear_forms ts us))
fold_value ts I op o law none v f e h = e
fold_value ts I op o law (more u us) v f e h =
    fold_value ts I op o law us (on_numbers o v (value I u)) (op f (linear_form ts u))
    (ap (λ z. o z (number_of (value I u))) e ∙ ap (o (form_value ts I f)) h.0 ∙ sym (law f (linear_form ts u))) h.1

-- a sum: what its arguments have, it has
pub sum_lawful : (ts : List Tree) (I : Interpretation) (us : Trees) → Lawful ts I us
    → number_of (value I (node (Theory Add) us)) ≡ form_value ts I (linear_form ts (node (Theory Add) us))
sum_lawful ts I none h = refl
sum_lawful ts I (more u us) h = fold_value ts I form_plus ◌+ℤ◌ (form_plus_value ts I) us (value I u) (linear_form ts u) h.0 h.1

pub difference_lawful : (ts : List Tree) (I : Interpretation) (us : Trees) → Lawful ts I us
    → number_of (value I (node (Theory Subtract) us)) ≡ form_value ts I (linear_form ts (node (Theory Subtract) us))
difference_lawful ts I none h = refl
difference_lawful ts I (more u none) h = ap neg_ℤ h.0 ∙ sym (form_times_value ts I (negsuc 0) (linear_form ts u) ∙ minus_one (form_value ts I (linear_form ts u)))
difference_lawful ts I (more u (more w us)) h =
    fold_value ts I form_minus ◌-ℤ◌ (form_minus_value ts I) (more w us) (value I u) (linear_form ts u) h.0 h.1

pub numeral_lawful : (ts : List Tree) (I : Interpretation) (n : ℤ) → number_of (value I (node (Numeral n) none)) ≡ form_value ts I (linear_form ts (node (Numeral n) none))
numeral_lawful ts I n = zero_left n
  where
    zero_left : (z : ℤ) → z ≡ pos 0 +ℤ z
    zero_left z = omega (arith, ints)

-- a leaf that stands in the list
pub leaf_lawful : (ts : List Tree) (I : Interpretation) (t : Tree) → tree_at ts (place_of t ts) ≡ t → number_of (value I t) ≡ form_value ts I (leaf_form ts t)
leaf_lawful ts I t e = ap (λ u. number_of (value I u)) (sym e) ∙ once (at ts I (place_of t ts))
  where
    once : (z : ℤ) → z ≡ (pos 1 *ℤ z +ℤ pos 0) +ℤ pos 0
    once (pos n) = ap pos (omega arith)
    once (negsuc n) = omega (arith, ints)

-- ---- products

sum_times-nil : (k : ℤ) → sum_times k [] ≡ []
sum_times-nil (pos zero) = refl
sum_times-nil (pos (suc n)) = refl
sum_times-nil (negsuc n) = refl

-- a form without summands has the value of its constant
bare_value : (ts : List Tree) (I : Interpretation) (f : Form) → f.sum ≡ [] → form_value ts I f ≡ f.constant
bare_value ts I f e = ap (λ ps. sum_value ts I ps +ℤ f.constant) e ∙ zero_left f.constant
  where
    zero_left : (z : ℤ) → pos 0 +ℤ z ≡ z
    zero_left z = omega (arith, ints)

abbrev pub OneIsBare : Form → Form → Type 0
OneIsBare f g = (f.sum ≡ []) ⊎ (g.sum ≡ [])

product_first : (ts : List Tree) (I : Interpretation) (f g : Form) → f.sum ≡ [] → form_value ts I (form_times f.constant g) ≡ form_value ts I f *ℤ form_value ts I g
product_first ts I f g e = form_times_value ts I f.constant g ∙ ap (λ z. z *ℤ form_value ts I g) (sym (bare_value ts I f e))

product_second : (ts : List Tree) (I : Interpretation) (f g : Form) → g.sum ≡ [] → form_value ts I (form_times g.constant f) ≡ form_value ts I f *ℤ form_value ts I g
product_second ts I f g e = product_first ts I g f e ∙ *ℤ_comm (form_value ts I g) (form_value ts I f)

product_value : (ts : List Tree) (I : Interpretation) (f g : Form) → OneIsBare f g → form_value ts I (form_product f g) ≡ form_value ts I f *ℤ form_value ts I g
product_value ts I f g h = by_sum f.sum refl h
  where
    by_sum : (ps : List Summand) → f.sum ≡ ps → OneIsBare f g
        → form_value ts I (elim ps [ [] ↦ form_times f.constant g | p ∷ rest ↦ form_times g.constant f ]) ≡ form_value ts I f *ℤ form_value ts I g
    by_sum [] e k = product_first ts I f g e
    by_sum (p ∷ rest) e (inl a) = absurd (cc)
    by_sum (p ∷ rest) e (inr b) = product_second ts I f g b

-- ---- constants have forms without summands

abbrev pub Bare : Form → Type 0
Bare f = f.sum ≡ []

abbrev AllBare : List Form → Type 0
AllBare [] = Unit {0}
AllBare (f ∷ fs) = Bare f × AllBare fs

plus_bare : (f g : Form) → Bare f → Bare g → Bare (form_plus f g)
plus_bare f g a b = ap (λ ps. sums_added ps g.sum) a ∙ b

times_bare : (k : ℤ) (f : Form) → Bare f → Bare (form_times k f)
times_bare k f a = ap (sum_times k) a ∙ sum_times-nil k

minus_bare : (f g : Form) → Bare f → Bare g → Bare (form_minus f g)
minus_bare f g a b = plus_bare f (form_times (negsuc 0) g) a (times_bare (negsuc 0) g b)

pub product_bare : (f g : Form) → Bare f → Bare g → Bare (form_product f g)
product_bare f g a b =
    ap (λ (ps : List Summand). sum_of (elim ps [ [] ↦ form_times f.constant g | p ∷ rest ↦ form_times g.constant f ])) a ∙ times_bare f.constant g b
  where
    sum_of : Form → List Summand
    sum_of h = h.sum

fold_bare : (op : Form → Form → Form) → ((f g : Form) → Bare f → Bare g → Bare (op f g)) → (f : Form) (fs : List Form) → Bare f → AllBare fs → Bare (fold_forms op f fs)
fold_bare op closed f [] a h = a
fold_bare op closed f (g ∷ gs) a h = fold_bare op closed (op f g) gs (closed f g a h.0) h.1

folded_bare : (op : Form → Form → Form) → ((f g : Form) → Bare f → Bare g → Bare (op f g)) → (fs : List Form) → AllBare fs → Bare (folded op fs)
folded_bare op closed [] h = refl
folded_bare op closed (f ∷ fs) h = fold_bare op closed f fs h.0 h.1

difference_bare : (fs : List Form) → AllBare fs → Bare (difference_form fs)
difference_bare [] h = refl
difference_bare (f ∷ []) h = times_bare (negsuc 0) f h.0
difference_bare (f ∷ g ∷ gs) h = folded_bare form_minus minus_bare (f ∷ g ∷ gs) h

head_bare : (ts : List Tree) (h : Head) (us : Trees) → is_constant_head h ≡ true → AllBare (linear_forms ts us) → Bare (linear_form ts (node h us))
head_bare ts (Numeral n) us e h = refl
head_bare ts (Theory Add) us e h = folded_bare form_plus plus_bare (linear_forms ts us) h
head_bare ts (Theory Subtract) us e h = difference_bare (linear_forms ts us) h
head_bare ts (Theory Multiply) us e h = folded_bare form_product product_bare (linear_forms ts us) h
head_bare ts (Theory _) us e h = absurd (cc)
head_bare ts (Symbol f) us e h = absurd (cc)
head_bare ts (Place k) us e h = absurd (cc)

mutual
  pub constant_bare : (ts : List Tree) (t : Tree) → is_constant t ≡ true → Bare (linear_form ts t)
  constant_bare ts (node h us) e =
      head_bare ts h us (and_left (is_constant_head h) (are_constant us) e) (constants_bare ts us (and_right (is_constant_head h) (are_constant us) e))

  constants_bare : (ts : List Tree) (us : Trees) → are_constant us ≡ true → AllBare (linear_forms ts us)
  constants_bare ts none e = tt
  constants_bare ts (more u us) e =
      (constant_bare ts u (and_left (is_constant u) (are_constant us) e), constants_bare ts us (and_right (is_constant u) (are_constant us) e))

-- ---- products of which at most one factor varies

pub times_step : (ts : List Tree) (I : Interpretation) (v w : Value) (f g : Form) → number_of v ≡ form_value ts I f → number_of w ≡ form_value ts I g → OneIsBare f g
    → number_of (on_numbers ◌*ℤ◌ v w) ≡ form_value ts I (form_product f g)
times_step ts I v w f g e h b =
    ap (λ z. z *ℤ number_of w) e ∙ ap (λ z. form_value ts I f *ℤ z) h ∙ sym (product_value ts I f g b)

pub split : {A : Type 0} (b x y : Bool) → (if b then x else y) ≡ true → (b ≡ true → x ≡ true → A) → (y ≡ true → A) → A
split true x y e f g = f refl e
split false x y e f g = g e

fold_constant : (ts : List Tree) (I : Interpretation) (us : Trees) (v : Value) (f : Form) → number_of v ≡ form_value ts I f → Lawful ts I us → are_constant us ≡ true
    → number_of (fold_left (on_numbers ◌*ℤ◌) v (values I us)) ≡ form_value ts I (fold_forms form_product f (linear_forms ts us))
fold_constant ts I none v f e h c = e
fold_constant ts I (more u us) v f e h c =
    fold_constant ts I us (on_numbers ◌*ℤ◌ v (value I u)) (form_product f (linear_form ts u))
    (times_step ts I v (value I u) f (linear_form ts u) e h.0 (inr (constant_bare ts u (and_left (is_constant u) (are_constant us) c)))) h.1
    (and_right (is_constant u) (are_constant us) c)

fold_one : (ts : List Tree) (I : Interpretation) (us : Trees) (v : Value) (f : Form) → number_of v ≡ form_value ts I f → Lawful ts I us → Bare f → at_most_one_varies us ≡ true
    → number_of (fold_left (on_numbers ◌*ℤ◌) v (values I us)) ≡ form_value ts I (fold_forms form_product f (linear_forms ts us))
fold_one ts I none v f e h a m = e
fold_one ts I (more u us) v f e h a m =
    split (is_constant u) (at_most_one_varies us) (are_constant us) m
    (λ c k.
    fold_one ts I us (on_numbers ◌*ℤ◌ v (value I u)) (form_product f (linear_form ts u))
    (times_step ts I v (value I u) f (linear_form ts u) e h.0 (inl a)) h.1 (product_bare f (linear_form ts u) a (constant_bare ts u c)) k)
    (λ k.
    fold_constant ts I us (on_numbers ◌*ℤ◌ v (value I u)) (form_product f (linear_form ts u))
    (times_step ts I v (value I u) f (linear_form ts u) e h.0 (inl a)) h.1 k)

product_lawful : (ts : List Tree) (I : Interpretation) (us : Trees) → Lawful ts I us → at_most_one_varies us ≡ true
    → number_of (value I (node (Theory Multiply) us)) ≡ form_value ts I (linear_form ts (node (Theory Multiply) us))
product_lawful ts I none h m = refl
product_lawful ts I (more u us) h m =
    split (is_constant u) (at_most_one_varies us) (are_constant us) m
    (λ c k. fold_one ts I us (value I u) (linear_form ts u) h.0 h.1 (constant_bare ts u c) k)
    (λ k. fold_constant ts I us (value I u) (linear_form ts u) h.0 h.1 k)

-- ---- whole terms

abbrev AreAmong : List Tree → List Tree → Type 0
AreAmong ts us = All (λ u. IsTrue (is_among u ts)) us

leaf_of : (ts : List Tree) (I : Interpretation) (t : Tree) → AreAmong ts (t ∷ []) → number_of (value I t) ≡ form_value ts I (leaf_form ts t)
leaf_of ts I t h = leaf_lawful ts I t (found_again t ts (All-head (λ u. IsTrue (is_among u ts)) t [] h))

at_head : (ts : List Tree) (I : Interpretation) (h : Head) (us : Trees) → is_linear_at h us ≡ true → AreAmong ts (leaves (node h us)) → (AreAmong ts (leaves_of us) → Lawful ts I us)
    → number_of (value I (node h us)) ≡ form_value ts I (linear_form ts (node h us))
at_head ts I (Numeral n) us e a rest = zero_left n
  where
    zero_left : (z : ℤ) → z ≡ pos 0 +ℤ z
    zero_left z = omega (arith, ints)
at_head ts I (Theory Add) us e a rest = sum_lawful ts I us (rest a)
at_head ts I (Theory Subtract) us e a rest = difference_lawful ts I us (rest a)
at_head ts I (Theory Multiply) us e a rest = product_lawful ts I us (rest a) e
at_head ts I (Theory o) us e a rest = leaf_of ts I (node (Theory o) us) a
at_head ts I (Symbol f) us e a rest = leaf_of ts I (node (Symbol f) us) a
at_head ts I (Place k) us e a rest = leaf_of ts I (node (Place k) us) a

mutual
  pub has_value : (ts : List Tree) (I : Interpretation) (t : Tree) → is_linear t ≡ true → AreAmong ts (leaves t) → number_of (value I t) ≡ form_value ts I (linear_form ts t)
  has_value ts I (node h us) e a =
      at_head ts I h us (and_left (is_linear_at h us) (are_linear us) e) a (have_values ts I us (and_right (is_linear_at h us) (are_linear us) e))

  pub have_values : (ts : List Tree) (I : Interpretation) (us : Trees) → are_linear us ≡ true → AreAmong ts (leaves_of us) → Lawful ts I us
  have_values ts I none e a = tt
  have_values ts I (more u us) e a = (
    has_value ts I u (and_left (is_linear u) (are_linear us) e) (All-included (λ x. IsTrue (is_among x ts)) _ _ (included_left (leaves u) (leaves_of us)) a),
    have_values ts I us (and_right (is_linear u) (are_linear us) e) (All-included (λ x. IsTrue (is_among x ts)) _ _ (included_right (leaves u) (leaves_of us)) a),
  )
