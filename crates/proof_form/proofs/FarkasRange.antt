-- Adding each leaf's multiples, and the constants, stays in the range where the loops find so.
use Rattle.std.proofs.Common.{◌≡◌, ℕ, Bool, true, false, ◌&&◌, List, [], ◌∷◌, ◌++◌, All, map, nat_eq, sym, ap, ap₂, subst, ◌∙◌, refl, Option, Some, None, eq-eqb, cond}
use Rattle.std.specs.Prelude.{ℤ, if◌then◌else◌}
use Rattle.std.specs.List.{filter}
use Rattle.std.proofs.lemmas.List.Elements.{All-nil, All-cons, All-head, All-tail}
use Rattle.fraction128.specs.Whole.{is_in_range, first_outside}
use Rattle.fraction128.specs.declared.range.Range.{Range}
use Rattle.fraction128.specs.declared.ratio.Ratio.{Ratio}
use Rattle.fraction128.specs.Listed.{sum_of, sum_steps, product_steps}
use Rattle.fraction128.specs.Number.{whole}
use Rattle.smt_meaning.specs.declared.clauses.Summand.{Summand}
use Rattle.proof_meaning.specs.declared.proof.Weighted.{Weighted}
use Rattle.smt_meaning.specs.Linear.{Form, sum_fits, form_fits}
use Rattle.smt_laws.proofs.Both.{and_left, and_right, and_both}
use Rattle.proof_terms.specs.Range.{AddsFit, of_leaf, multiplier, leaf_multiples, constant_multiples, leaf_terms, constant_terms, FormFits}
use Rattle.proof_form.specs.declared.farkas_entries.Entry.{Entry}
use Rattle.proof_form.specs.FarkasSums.{weighted_sum, weighted_constant, none_outside, sum_inside, multiple, multiple_inside, entries_of, multiples_inside, entries_with, constant_inside, constant_multiple, parts_inside}
use Rattle.proof_form.proofs.FarkasForms.{weighted_form, HaveForms}

-- ---- steps

pub none_is : (o : Option Range) → none_outside o ≡ true → o ≡ None
none_is None e = refl
none_is (Some r) e = absurd (cc)

pub is_none : (o : Option Range) → o ≡ None → none_outside o ≡ true
is_none o e = ap none_outside e

abbrev pub products : List (Ratio × ℤ) → List Ratio
products [] = []
products (p ∷ ps) = multiple p.0 p.1 ∷ products ps

abbrev pub products_inside : List (Ratio × ℤ) → Bool
products_inside [] = true
products_inside (p ∷ ps) = multiple_inside p.0 p.1 && products_inside ps

abbrev pub sums_inside : Ratio → List Ratio → Bool
sums_inside x [] = true
sums_inside x (y ∷ ys) = sum_inside x y && sums_inside (sum_of x y) ys

abbrev pub added : Ratio → List Ratio → Ratio
added x [] = x
added x (y ∷ ys) = added (sum_of x y) ys

pub adds_products : (x : Ratio) (ps : List (Ratio × ℤ)) → AddsFit x ps → products_inside ps ≡ true
adds_products x [] h = refl
adds_products x (p ∷ ps) h =
    and_both (multiple_inside p.0 p.1) (products_inside ps) (is_none (first_outside (product_steps p.0 (whole p.1))) h.0) (adds_products (sum_of x (multiple p.0 p.1)) ps h.2)

pub adds_sums : (x : Ratio) (ps : List (Ratio × ℤ)) → AddsFit x ps → sums_inside x (products ps) ≡ true
adds_sums x [] h = refl
adds_sums x (p ∷ ps) h =
    and_both (sum_inside x (multiple p.0 p.1)) (sums_inside (sum_of x (multiple p.0 p.1)) (products ps)) (is_none (first_outside (sum_steps x (multiple p.0 p.1))) h.1) (adds_sums (sum_of x (multiple p.0 p.1)) ps h.2)

pub adds_fit : (x : Ratio) (ps : List (Ratio × ℤ)) → products_inside ps ≡ true → sums_inside x (products ps) ≡ true → AddsFit x ps
adds_fit x [] h k = tt
adds_fit x (p ∷ ps) h k = (
  none_is (first_outside (product_steps p.0 (whole p.1))) (and_left (multiple_inside p.0 p.1) (products_inside ps) h),
  none_is (first_outside (sum_steps x (multiple p.0 p.1))) (and_left (sum_inside x (multiple p.0 p.1)) (sums_inside (sum_of x (multiple p.0 p.1)) (products ps)) k),
  adds_fit (sum_of x (multiple p.0 p.1)) ps (and_right (multiple_inside p.0 p.1) (products_inside ps) h)
      (and_right (sum_inside x (multiple p.0 p.1)) (sums_inside (sum_of x (multiple p.0 p.1)) (products ps)) k),
)

pub products-append : (ps qs : List (Ratio × ℤ)) → products (ps ++ qs) ≡ products ps ++ products qs
products-append [] qs = refl
products-append (p ∷ ps) qs = ap (λ ys. multiple p.0 p.1 ∷ ys) (products-append ps qs)

products_inside-left : (ps qs : List (Ratio × ℤ)) → products_inside (ps ++ qs) ≡ true → products_inside ps ≡ true
products_inside-left [] qs h = refl
products_inside-left (p ∷ ps) qs h =
    and_both (multiple_inside p.0 p.1) (products_inside ps) (and_left (multiple_inside p.0 p.1) (products_inside (ps ++ qs)) h)
    (products_inside-left ps qs (and_right (multiple_inside p.0 p.1) (products_inside (ps ++ qs)) h))

products_inside-right : (ps qs : List (Ratio × ℤ)) → products_inside (ps ++ qs) ≡ true → products_inside qs ≡ true
products_inside-right [] qs h = h
products_inside-right (p ∷ ps) qs h = products_inside-right ps qs (and_right (multiple_inside p.0 p.1) (products_inside (ps ++ qs)) h)

products_inside-both : (ps qs : List (Ratio × ℤ)) → products_inside ps ≡ true → products_inside qs ≡ true → products_inside (ps ++ qs) ≡ true
products_inside-both [] qs h k = k
products_inside-both (p ∷ ps) qs h k =
    and_both (multiple_inside p.0 p.1) (products_inside (ps ++ qs)) (and_left (multiple_inside p.0 p.1) (products_inside ps) h)
    (products_inside-both ps qs (and_right (multiple_inside p.0 p.1) (products_inside ps) h) k)

-- ---- the multiples of a leaf, among all entries

abbrev pub at_leaf : ℕ → List Entry → List Ratio
at_leaf x [] = []
at_leaf x (e ∷ es) = if nat_eq x e.leaf then e.multiple ∷ at_leaf x es else at_leaf x es

pub at_leaf-filter : (x : ℕ) (es : List Entry) → at_leaf x es ≡ map (λ (e : Entry). e.multiple) (filter (λ (e : Entry). nat_eq x e.leaf) es)
at_leaf-filter x [] = refl
at_leaf-filter x (e ∷ es) = by (at_leaf-filter x es) (nat_eq x e.leaf)
  where
    by : at_leaf x es ≡ map (λ (f : Entry). f.multiple) (filter (λ (f : Entry). nat_eq x f.leaf) es) → (b : Bool) → (if b then e.multiple ∷ at_leaf x es else at_leaf x es)
        ≡ map (λ (f : Entry). f.multiple) (cond b (e ∷ filter (λ (f : Entry). nat_eq x f.leaf) es) (filter (λ (f : Entry). nat_eq x f.leaf) es))
    by again true = ap (λ ys. e.multiple ∷ ys) again
    by again false = again

at_leaf-append : (x : ℕ) (es fs : List Entry) → at_leaf x (es ++ fs) ≡ at_leaf x es ++ at_leaf x fs
at_leaf-append x [] fs = refl
at_leaf-append x (e ∷ es) fs = by (at_leaf-append x es fs) (nat_eq x e.leaf)
  where
    by : at_leaf x (es ++ fs) ≡ at_leaf x es ++ at_leaf x fs → (b : Bool) → (if b then e.multiple ∷ at_leaf x (es ++ fs) else at_leaf x (es ++ fs)) ≡ (if b then e.multiple ∷ at_leaf x es else at_leaf x es) ++ at_leaf x fs
    by again true = ap (λ ys. e.multiple ∷ ys) again
    by again false = again

at_leaf-entries : (x : ℕ) (m : Ratio) (ps : List Summand) → at_leaf x (entries_of m ps) ≡ products (of_leaf x m ps)
at_leaf-entries x m [] = refl
at_leaf-entries x m (p ∷ ps) = by (at_leaf-entries x m ps) (nat_eq x p.term)
  where
    by : at_leaf x (entries_of m ps) ≡ products (of_leaf x m ps) → (b : Bool) → (if b then multiple m p.coefficient ∷ at_leaf x (entries_of m ps) else at_leaf x (entries_of m ps))
        ≡ products (if b then (m, p.coefficient) ∷ of_leaf x m ps else of_leaf x m ps)
    by again true = ap (λ ys. multiple m p.coefficient ∷ ys) again
    by again false = again

pub at_leaf-all : (high x : ℕ) (ws : List Weighted) → HaveForms high ws → at_leaf x (entries_with ws) ≡ products (leaf_terms x ws)
at_leaf-all high x [] h = refl
at_leaf-all high x (w ∷ ws) h =
    at_leaf-append x (entries_of (multiplier w) (weighted_sum w)) (entries_with ws)
    ∙ ap₂ (λ ys zs. ys ++ zs) (at_leaf-entries x (multiplier w) (weighted_sum w)) (at_leaf-all high x ws h.1)
    ∙ sym (products-append (of_leaf x (multiplier w) (weighted_sum w)) (leaf_terms x ws))
    ∙ ap (λ o. products (leaf_multiples x (multiplier w) o ++ leaf_terms x ws)) (sym h.0.form)

-- ---- all multiples in the range

leaf_inside : (x : ℕ) (m : Ratio) (ps : List Summand) → multiples_inside m ps ≡ true → products_inside (of_leaf x m ps) ≡ true
leaf_inside x m [] h = refl
leaf_inside x m (p ∷ ps) h = by (leaf_inside x m ps (and_right (multiple_inside m p.coefficient) (multiples_inside m ps) h)) (nat_eq x p.term)
  where
    by : products_inside (of_leaf x m ps) ≡ true → (b : Bool) → products_inside (if b then (m, p.coefficient) ∷ of_leaf x m ps else of_leaf x m ps) ≡ true
    by rest true = and_both (multiple_inside m p.coefficient) (products_inside (of_leaf x m ps)) (and_left (multiple_inside m p.coefficient) (multiples_inside m ps) h) rest
    by rest false = rest

leaves_all_inside : (m : Ratio) (ps : List Summand) → ((x : ℕ) → products_inside (of_leaf x m ps) ≡ true) → multiples_inside m ps ≡ true
leaves_all_inside m [] h = refl
leaves_all_inside m (p ∷ ps) h =
    and_both (multiple_inside m p.coefficient) (multiples_inside m ps)
    (and_left (multiple_inside m p.coefficient) (products_inside (of_leaf p.term m ps))
    (ap (λ b. products_inside (if b then (m, p.coefficient) ∷ of_leaf p.term m ps else of_leaf p.term m ps)) (sym (eq-eqb p.term p.term refl)) ∙ h p.term))
    (leaves_all_inside m ps (λ x. by x (nat_eq x p.term) (h x)))
  where
    by : (x : ℕ) (b : Bool) → products_inside (if b then (m, p.coefficient) ∷ of_leaf x m ps else of_leaf x m ps) ≡ true → products_inside (of_leaf x m ps) ≡ true
    by x true k = and_right (multiple_inside m p.coefficient) (products_inside (of_leaf x m ps)) k
    by x false k = k

-- what is asked of the sums but for the sums of each leaf
pub record PartsFit (k : Ratio) (ws : List Weighted) : Type 0 where
  pub forms : All FormFits ws
  pub products : (x : ℕ) → products_inside (leaf_terms x ws) ≡ true
  pub constants : AddsFit k (constant_terms ws)

pub parts_inside_fit : (high : ℕ) (k : Ratio) (ws : List Weighted) → HaveForms high ws → parts_inside k ws ≡ true → PartsFit k ws
parts_inside_fit high k [] h e = record { forms = All-nil FormFits; products = λ x. refl; constants = tt }
parts_inside_fit high k (w ∷ ws) h e =
    let m = multiplier w in
    let c = weighted_constant w in
    let next = sum_of k (constant_multiple w) in
    let here : (constant_inside k w && multiples_inside m (weighted_sum w)) ≡ true = and_left (constant_inside k w && multiples_inside m (weighted_sum w)) (parts_inside next ws) e in
    let rest : PartsFit next ws = parts_inside_fit high next ws h.1 (and_right (constant_inside k w && multiples_inside m (weighted_sum w)) (parts_inside next ws) e) in
    let limit : constant_inside k w ≡ true = and_left (constant_inside k w) (multiples_inside m (weighted_sum w)) here in
    let number : (multiple_inside m c && sum_inside k (multiple m c)) ≡ true = and_right (is_in_range c) (multiple_inside m c && sum_inside k (multiple m c)) limit in
    record {
      forms =
          All-cons FormFits w ws
          (λ f g. subst (λ o. (f : Form) → o ≡ Some f → form_fits f ≡ true) (sym h.0.form)
          (λ f' g'. let same : weighted_form w ≡ f' = cc in subst (λ (x : Form). form_fits x ≡ true) same (and_both (sum_fits (weighted_sum w)) (is_in_range c) h.0.coefficients (and_left (is_in_range c) (multiple_inside m c && sum_inside k (multiple m c)) limit))) f g)
          rest.forms;
      products = λ x.
          subst (λ o. products_inside (leaf_multiples x m o ++ leaf_terms x ws) ≡ true) (sym h.0.form)
          (products_inside-both (of_leaf x m (weighted_sum w)) (leaf_terms x ws) (leaf_inside x m (weighted_sum w) (and_right (constant_inside k w) (multiples_inside m (weighted_sum w)) here)) (rest.products x));
      constants =
          subst (λ o. AddsFit k (constant_multiples m o ++ constant_terms ws)) (sym h.0.form) (
            none_is (first_outside (product_steps m (whole c))) (and_left (multiple_inside m c) (sum_inside k (multiple m c)) number),
            none_is (first_outside (sum_steps k (multiple m c))) (and_right (multiple_inside m c) (sum_inside k (multiple m c)) number),
            rest.constants,
          );
    }

pub parts_fit_inside : (high : ℕ) (k : Ratio) (ws : List Weighted) → HaveForms high ws → PartsFit k ws → parts_inside k ws ≡ true
parts_fit_inside high k [] h f = refl
parts_fit_inside high k (w ∷ ws) h f =
    let m = multiplier w in
    let c = weighted_constant w in
    let next = sum_of k (constant_multiple w) in
    let constants : AddsFit k ((m, c) ∷ constant_terms ws) = subst (λ o. AddsFit k (constant_multiples m o ++ constant_terms ws)) h.0.form f.constants in
    let products : (x : ℕ) → products_inside (of_leaf x m (weighted_sum w) ++ leaf_terms x ws) ≡ true =
    λ x. subst (λ o. products_inside (leaf_multiples x m o ++ leaf_terms x ws) ≡ true) h.0.form (f.products x) in
    let form : form_fits (weighted_form w) ≡ true = All-head FormFits w ws f.forms (weighted_form w) h.0.form in
    and_both (constant_inside k w && multiples_inside m (weighted_sum w)) (parts_inside next ws)
    (and_both (constant_inside k w) (multiples_inside m (weighted_sum w))
    (and_both (is_in_range c) (multiple_inside m c && sum_inside k (multiple m c)) (and_right (sum_fits (weighted_sum w)) (is_in_range c) form)
    (and_both (multiple_inside m c) (sum_inside k (multiple m c)) (is_none (first_outside (product_steps m (whole c))) constants.0) (is_none (first_outside (sum_steps k (multiple m c))) constants.1)))
    (leaves_all_inside m (weighted_sum w) (λ x. products_inside-left (of_leaf x m (weighted_sum w)) (leaf_terms x ws) (products x))))
    (parts_fit_inside high next ws h.1
    (record { forms = All-tail FormFits w ws f.forms; products = λ x. products_inside-right (of_leaf x m (weighted_sum w)) (leaf_terms x ws) (products x); constants = constants.2 }))
