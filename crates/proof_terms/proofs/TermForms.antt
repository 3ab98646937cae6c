-- Linear forms and bounds whose leaves are named by other places, in the same order.
use Rattle.std.proofs.Common.{◌≡◌, ◌⊎◌, ℕ, ◌<◌, ◌≤◌, Bool, true, false, ◌&&◌, nat_eq, nat_lt, List, [], ◌∷◌, map, inl, inr, refl, ap, sym, ◌∙◌, arith}
use Rattle.std.specs.Prelude.{if◌then◌else◌, ℤ, pos, negsuc, ◌+ℤ◌, ◌*ℤ◌, ◌-ℤ◌, neg_ℤ, unsigned_abs}
use Rattle.std.proofs.lemmas.Bool.{cases_lt}
use Rattle.std.proofs.lemmas.Bool.Decides.{nat_tests}
use Rattle.fraction128.specs.Whole.{is_in_range}
use Rattle.fraction128.specs.Gcd.{gcd_of}
use Rattle.smt_meaning.specs.declared.clauses.Summand.{Summand}
use Rattle.smt_meaning.specs.declared.clauses.Atom.TheVariants.{AtMost}
use Rattle.smt_meaning.specs.declared.terms.Head.{Head}
use Rattle.smt_meaning.specs.declared.terms.Head.TheVariants.{Numeral, Theory, Symbol, Place}
use Rattle.smt_meaning.specs.declared.terms.Operator.TheVariants.{Add, Subtract, Multiply}
use Rattle.smt_meaning.specs.Term.{Tree, Trees, node, none, more}
use Rattle.smt_meaning.specs.TreeShape.{place_of}
use Rattle.smt_meaning.specs.Linear.{Form, summand, is_zero, unless_zero, placed, with_term, sums_added, each_times, sum_times, form_times, form_plus, form_minus, form_product, fold_forms, folded, difference_form, head_form, leaf_form, linear_form, linear_forms, sum_fits, form_fits, folds_fit, folded_fits, head_folding_fits, folding_fits, foldings_fit}
use Rattle.smt_meaning.specs.Atoms.{sum_gcd, divided, each_divided, normal_bound, not_above_zero, below_zero, difference_of, at_most_atom, below_atom}
use Rattle.linear_forms.specs.Differences.{difference_fits}
use Rattle.pair_bounds.specs.Pairs.{threshold_below, below_fits}
use Rattle.proof_terms.specs.TermRenaming.{renamed, renamed_form, renamed_bound, Ascends}

abbrev renamed_forms : (ℕ → ℕ) → List Form → List Form
renamed_forms r fs = map (renamed_form r) fs

module _ (r : ℕ → ℕ) (a : Ascends r) where
  -- two places and what they are named by stand in the same order
  in_order : {A : Type 0} (i j : ℕ) → (i < j → r i < r j → A) → (j < i → r j < r i → A) → (i ≡ j → r i ≡ r j → A) → A
  in_order {A = A} i j before behind same = by (cases_lt i j) (cases_lt j i)
    where
      by : (i < j) ⊎ (j ≤ i) → (j < i) ⊎ (i ≤ j) → A
      by (inl less) other = before less (a.at i j less)
      by (inr from) (inl more') = behind more' (a.at j i more')
      by (inr from) (inr to) = let e : i ≡ j = omega arith in same e (ap r e)

  less_same : (i j : ℕ) → nat_lt (r i) (r j) ≡ nat_lt i j
  less_same i j = in_order i j (λ l b. grind (arith, nat_tests)) (λ l b. grind (arith, nat_tests)) (λ e f. grind (arith, nat_tests))

  same_same : (i j : ℕ) → nat_eq (r i) (r j) ≡ nat_eq i j
  same_same i j = in_order i j (λ l b. grind (arith, nat_tests)) (λ l b. grind (arith, nat_tests)) (λ e f. grind (arith, nat_tests))

  -- ---- sums

  unless_zero_renamed : (i : ℕ) (c : ℤ) (ps : List Summand) → renamed r (unless_zero i c ps) ≡ unless_zero (r i) c (renamed r ps)
  unless_zero_renamed i c ps = by (is_zero c)
    where
      by : (b : Bool) → renamed r (if b then ps else summand i c ∷ ps) ≡ (if b then renamed r ps else summand (r i) c ∷ renamed r ps)
      by true = refl
      by false = refl

  placed_renamed : (x y : Bool) (i : ℕ) (c : ℤ) (p : Summand) (ps rest : List Summand)
      → renamed r (placed x y i c p ps rest) ≡ placed x y (r i) c (summand (r p.term) p.coefficient) (renamed r ps) (renamed r rest)
  placed_renamed true y i c p ps rest = unless_zero_renamed i c (p ∷ ps)
  placed_renamed false true i c p ps rest = unless_zero_renamed i (c +ℤ p.coefficient) ps
  placed_renamed false false i c p ps rest = refl

  with_term_renamed : (i : ℕ) (c : ℤ) (ps : List Summand) → renamed r (with_term i c ps) ≡ with_term (r i) c (renamed r ps)
  with_term_renamed i c [] = unless_zero_renamed i c []
  with_term_renamed i c (p ∷ ps) =
      let q : Summand = summand (r p.term) p.coefficient in
      placed_renamed (nat_lt i p.term) (nat_eq i p.term) i c p ps (with_term i c ps)
      ∙ ap (λ rest. placed (nat_lt i p.term) (nat_eq i p.term) (r i) c q (renamed r ps) rest) (with_term_renamed i c ps)
      ∙ ap (λ x. placed x (nat_eq i p.term) (r i) c q (renamed r ps) (with_term (r i) c (renamed r ps))) (sym (less_same i p.term))
      ∙ ap (λ y. placed (nat_lt (r i) (r p.term)) y (r i) c q (renamed r ps) (with_term (r i) c (renamed r ps))) (sym (same_same i p.term))

  sums_renamed : (ps qs : List Summand) → renamed r (sums_added ps qs) ≡ sums_added (renamed r ps) (renamed r qs)
  sums_renamed [] qs = refl
  sums_renamed (p ∷ ps) qs = with_term_renamed p.term p.coefficient (sums_added ps qs) ∙ ap (with_term (r p.term) p.coefficient) (sums_renamed ps qs)

  each_renamed : (k : ℤ) (ps : List Summand) → renamed r (each_times k ps) ≡ each_times k (renamed r ps)
  each_renamed k [] = refl
  each_renamed k (p ∷ ps) = ap (λ xs. summand (r p.term) (k *ℤ p.coefficient) ∷ xs) (each_renamed k ps)

  times_renamed : (k : ℤ) (ps : List Summand) → renamed r (sum_times k ps) ≡ sum_times k (renamed r ps)
  times_renamed k ps = by (is_zero k)
    where
      by : (b : Bool) → renamed r (if b then [] else each_times k ps) ≡ (if b then [] else each_times k (renamed r ps))
      by true = refl
      by false = each_renamed k ps

  -- ---- forms

  pub form_times_renamed : (k : ℤ) (f : Form) → renamed_form r (form_times k f) ≡ form_times k (renamed_form r f)
  form_times_renamed k f = ap (λ (ps : List Summand). let g : Form = record { sum = ps; constant = k *ℤ f.constant } in g) (times_renamed k f.sum)

  pub form_plus_renamed : (f g : Form) → renamed_form r (form_plus f g) ≡ form_plus (renamed_form r f) (renamed_form r g)
  form_plus_renamed f g = ap (λ (ps : List Summand). let h : Form = record { sum = ps; constant = f.constant +ℤ g.constant } in h) (sums_renamed f.sum g.sum)

  form_minus_renamed : (f g : Form) → renamed_form r (form_minus f g) ≡ form_minus (renamed_form r f) (renamed_form r g)
  form_minus_renamed f g = form_plus_renamed f (form_times (negsuc 0) g) ∙ ap (form_plus (renamed_form r f)) (form_times_renamed (negsuc 0) g)

  form_product_renamed : (f g : Form) → renamed_form r (form_product f g) ≡ form_product (renamed_form r f) (renamed_form r g)
  form_product_renamed f g = by f.sum
    where
      by : (ps : List Summand) → renamed_form r (elim ps [ [] ↦ form_times f.constant g | p ∷ rest ↦ form_times g.constant f ])
          ≡ elim (renamed r ps) [ [] ↦ form_times f.constant (renamed_form r g) | p ∷ rest ↦ form_times g.constant (renamed_form r f) ]
      by [] = form_times_renamed f.constant g
      by (p ∷ rest) = form_times_renamed g.constant f

  fits_renamed : (ps : List Summand) → sum_fits (renamed r ps) ≡ sum_fits ps
  fits_renamed [] = refl
  fits_renamed (p ∷ ps) = ap (λ b. is_in_range p.coefficient && b) (fits_renamed ps)

  pub form_fits_renamed : (f : Form) → form_fits (renamed_form r f) ≡ form_fits f
  form_fits_renamed f = ap (λ b. b && is_in_range f.constant) (fits_renamed f.sum)

  module _ (op : Form → Form → Form) (commutes : (f g : Form) → renamed_form r (op f g) ≡ op (renamed_form r f) (renamed_form r g)) where
    fold_renamed : (f : Form) (fs : List Form) → fold_forms op (renamed_form r f) (renamed_forms r fs) ≡ renamed_form r (fold_forms op f fs)
    fold_renamed f [] = refl
    fold_renamed f (g ∷ gs) = ap (λ h. fold_forms op h (renamed_forms r gs)) (sym (commutes f g)) ∙ fold_renamed (op f g) gs

    folded_renamed : (fs : List Form) → folded op (renamed_forms r fs) ≡ renamed_form r (folded op fs)
    folded_renamed [] = refl
    folded_renamed (f ∷ fs) = fold_renamed f fs

    folds_fit_renamed : (f : Form) (fs : List Form) → folds_fit op (renamed_form r f) (renamed_forms r fs) ≡ folds_fit op f fs
    folds_fit_renamed f [] = form_fits_renamed f
    folds_fit_renamed f (g ∷ gs) =
        ap (λ b. b && folds_fit op (op (renamed_form r f) (renamed_form r g)) (renamed_forms r gs)) (form_fits_renamed f)
        ∙ ap (λ b. form_fits f && b) (ap (λ h. folds_fit op h (renamed_forms r gs)) (sym (commutes f g)) ∙ folds_fit_renamed (op f g) gs)

    folded_fits_renamed : (fs : List Form) → folded_fits op (renamed_forms r fs) ≡ folded_fits op fs
    folded_fits_renamed [] = refl
    folded_fits_renamed (f ∷ fs) = folds_fit_renamed f fs

  difference_form_renamed : (fs : List Form) → difference_form (renamed_forms r fs) ≡ renamed_form r (difference_form fs)
  difference_form_renamed [] = refl
  difference_form_renamed (f ∷ []) = sym (form_times_renamed (negsuc 0) f)
  difference_form_renamed (f ∷ g ∷ gs) = folded_renamed form_minus form_minus_renamed (f ∷ g ∷ gs)

  head_renamed : (h : Head) (fs : List Form) (leaf : Form) → head_form h (renamed_forms r fs) (renamed_form r leaf) ≡ renamed_form r (head_form h fs leaf)
  head_renamed (Numeral n) fs leaf = refl
  head_renamed (Theory Add) fs leaf = folded_renamed form_plus form_plus_renamed fs
  head_renamed (Theory Subtract) fs leaf = difference_form_renamed fs
  head_renamed (Theory Multiply) fs leaf = folded_renamed form_product form_product_renamed fs
  head_renamed (Theory o) fs leaf = refl
  head_renamed (Symbol f) fs leaf = refl
  head_renamed (Place k) fs leaf = refl

  head_fits_renamed : (h : Head) (fs : List Form) → head_folding_fits h (renamed_forms r fs) ≡ head_folding_fits h fs
  head_fits_renamed (Numeral n) fs = refl
  head_fits_renamed (Theory Add) fs = folded_fits_renamed form_plus form_plus_renamed fs
  head_fits_renamed (Theory Subtract) fs = folded_fits_renamed form_minus form_minus_renamed fs
  head_fits_renamed (Theory Multiply) fs = folded_fits_renamed form_product form_product_renamed fs
  head_fits_renamed (Theory o) fs = refl
  head_fits_renamed (Symbol f) fs = refl
  head_fits_renamed (Place k) fs = refl

  -- ---- bounds

  gcd_renamed : (ps : List Summand) → sum_gcd (renamed r ps) ≡ sum_gcd ps
  gcd_renamed [] = refl
  gcd_renamed (p ∷ ps) = ap (gcd_of (unsigned_abs p.coefficient)) (gcd_renamed ps)

  divided_renamed : (g : ℤ) (ps : List Summand) → each_divided g (renamed r ps) ≡ renamed r (each_divided g ps)
  divided_renamed g [] = refl
  divided_renamed g (p ∷ ps) = ap (λ xs. summand (r p.term) (divided p.coefficient g) ∷ xs) (divided_renamed g ps)

  pub normal_renamed : (ps : List Summand) (k : ℤ) → normal_bound (renamed r ps) k ≡ renamed_bound r (normal_bound ps k)
  normal_renamed [] k = refl
  normal_renamed (p ∷ ps) k =
      ap (λ (n : ℕ). AtMost (each_divided (pos n) (renamed r (p ∷ ps))) (divided k (pos n))) (gcd_renamed (p ∷ ps))
      ∙ ap (λ (qs : List Summand). AtMost qs (divided k (pos (sum_gcd (p ∷ ps))))) (divided_renamed (pos (sum_gcd (p ∷ ps))) (p ∷ ps))

-- ---- terms

abbrev mutual
  -- the tree and its parts have the property
  pub EachPart : (Tree → Type 0) → Tree → Type 0
  EachPart P (node h us) = P (node h us) × EachPartOf P us

  pub EachPartOf : (Tree → Type 0) → Trees → Type 0
  EachPartOf P none = Unit {0}
  EachPartOf P (more u us) = EachPart P u × EachPartOf P us

abbrev pub IsRenamed : (ℕ → ℕ) → List Tree → List Tree → Tree → Type 0
IsRenamed r ts us t = place_of t ts ≡ r (place_of t us)

module _ (r : ℕ → ℕ) (a : Ascends r) (ts us : List Tree) where
  mutual
    pub form_renamed : (t : Tree) → EachPart (IsRenamed r ts us) t → linear_form ts t ≡ renamed_form r (linear_form us t)
    form_renamed (node h vs) p =
        ap (λ fs. head_form h fs (leaf_form ts (node h vs))) (forms_renamed vs p.1)
        ∙ ap (λ (i : ℕ). head_form h (renamed_forms r (linear_forms us vs)) (record { sum = summand i (pos 1) ∷ []; constant = pos 0 })) p.0
        ∙ head_renamed r a h (linear_forms us vs) (leaf_form us (node h vs))

    forms_renamed : (vs : Trees) → EachPartOf (IsRenamed r ts us) vs → linear_forms ts vs ≡ renamed_forms r (linear_forms us vs)
    forms_renamed none p = refl
    forms_renamed (more v vs) p =
        ap (λ f. f ∷ linear_forms ts vs) (form_renamed v p.0) ∙ ap (λ fs. renamed_form r (linear_form us v) ∷ fs) (forms_renamed vs p.1)

  mutual
    pub folding_renamed : (t : Tree) → EachPart (IsRenamed r ts us) t → folding_fits ts t ≡ folding_fits us t
    folding_renamed (node h vs) p =
        ap (λ b. b && head_folding_fits h (linear_forms ts vs)) (foldings_renamed vs p.1)
        ∙ ap (λ fs. foldings_fit us vs && head_folding_fits h fs) (forms_renamed vs p.1)
        ∙ ap (λ b. foldings_fit us vs && b) (head_fits_renamed r a h (linear_forms us vs))

    foldings_renamed : (vs : Trees) → EachPartOf (IsRenamed r ts us) vs → foldings_fit ts vs ≡ foldings_fit us vs
    foldings_renamed none p = refl
    foldings_renamed (more v vs) p =
        ap (λ b. b && foldings_fit ts vs) (folding_renamed v p.0) ∙ ap (λ b. folding_fits us v && b) (foldings_renamed vs p.1)

  -- of a node whose parts are so
  node_renamed : (h : Head) (vs : Trees) → EachPartOf (IsRenamed r ts us) vs → folding_fits ts (node h vs) ≡ folding_fits us (node h vs)
  node_renamed h vs p =
      ap (λ b. b && head_folding_fits h (linear_forms ts vs)) (foldings_renamed vs p)
      ∙ ap (λ fs. foldings_fit us vs && head_folding_fits h fs) (forms_renamed vs p)
      ∙ ap (λ b. foldings_fit us vs && b) (head_fits_renamed r a h (linear_forms us vs))

  module _ (s t : Tree) (p : EachPart (IsRenamed r ts us) s) (q : EachPart (IsRenamed r ts us) t) where
    pub difference_renamed : difference_of ts s t ≡ renamed_form r (difference_of us s t)
    difference_renamed =
        ap (λ f. form_minus f (linear_form ts t)) (form_renamed s p)
        ∙ ap (form_minus (renamed_form r (linear_form us s))) (form_renamed t q)
        ∙ sym (form_minus_renamed r a (linear_form us s) (linear_form us t))

    pub difference_fits_renamed : difference_fits ts s t ≡ difference_fits us s t
    difference_fits_renamed = node_renamed (Theory Subtract) (more s (more t none)) (p, (q, tt))

    pub at_most_renamed : at_most_atom ts s t ≡ renamed_bound r (at_most_atom us s t)
    at_most_renamed = ap not_above_zero difference_renamed ∙ normal_renamed r a (difference_of us s t).sum (neg_ℤ (difference_of us s t).constant)

    pub below_renamed : below_atom ts s t ≡ renamed_bound r (below_atom us s t)
    below_renamed = ap below_zero difference_renamed ∙ normal_renamed r a (difference_of us s t).sum (neg_ℤ (difference_of us s t).constant -ℤ pos 1)

    pub below_fits_renamed : below_fits ts s t ≡ below_fits us s t
    below_fits_renamed =
        ap (λ b. b && is_in_range (threshold_below (difference_of ts s t))) difference_fits_renamed
        ∙ ap (λ f. difference_fits us s t && is_in_range (threshold_below f)) difference_renamed
