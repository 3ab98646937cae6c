-- A divisor that isn't in the range.
use Rattle.std.proofs.Common.{◌≡◌, ◌≢◌, ℕ, suc, true, false, ◌&&◌, List, [], ◌∷◌, subst, sym, ap, ◌∙◌, refl, lit<, arith, ◌*◌}
use Rattle.std.specs.Prelude.{ℤ, pos, negsuc, ◌-ℤ◌, ◌*ℤ◌, neg_ℤ, IsTrue}
use Rattle.std.specs.List.{list_all}
use Rattle.fraction128.specs.Whole.{InRange, is_in_range}
use Rattle.smt_laws.proofs.Both.{and_left, and_right}
use Rattle.smt_laws.proofs.SameTree.{tree_eq-true}
use Rattle.smt_meaning.specs.declared.terms.Operator.{Operator}
use Rattle.smt_meaning.specs.declared.terms.Operator.TheVariants.{Divide, Modulo, Divisible}
use Rattle.smt_meaning.specs.declared.terms.Head.TheVariants.{Theory}
use Rattle.smt_meaning.specs.Term.{Tree, Trees, node, tree_at}
use Rattle.smt_meaning.specs.TreeShape.{is_linear, are_linear, is_divisor, quotient_tree, tree_eq}
use Rattle.smt_meaning.specs.Nodes.{pick}
use Rattle.smt_meaning.specs.Linear.{Form, form_times, form_fits, sum_fits, sum_times, linear_form, leaf_form}
use Rattle.smt_meaning.specs.Division.{Row, limit, always, beyond, combined, combined_fits, limit_fits, row_fits, rows_fit, rows_at}
use Rattle.smt_laws.specs.Rows.{place_divisor}
use Rattle.linear_forms.proofs.SumLemmas.{fits_in_range}
use Rattle.linear_forms.proofs.FoldLemmas.{false_if}
use Rattle.linear_forms.proofs.ProductLemmas.{times_each}
use Rattle.pair_bounds.specs.Rows.{divides, LargeDivisorLeavesRange}

by_one : (z : ℤ) → z *ℤ pos 1 ≡ z
by_one (pos n) = ap pos (omega arith)
by_one (negsuc n) = ap (λ m. neg_ℤ (pos m)) (let e : suc n * 1 ≡ suc n = omega arith in e)

module _ (ts : List Tree) (n : ℤ) (out : InRange n → ⊥) where
  not_zero : n ≢ pos 0
  not_zero e = out (subst InRange (sym e) (lit< tt))

  leaf_outside : (t : Tree) → form_fits (form_times n (leaf_form ts t)) ≡ true → ⊥
  leaf_outside t h =
      let f : Form = leaf_form ts t in
      let fits : sum_fits (sum_times n f.sum) ≡ true = and_left (sum_fits (sum_times n f.sum)) (is_in_range (n *ℤ pos 0)) h in
      let each : (is_in_range (n *ℤ pos 1) && true) ≡ true = ap sum_fits (sym (times_each n f.sum not_zero)) ∙ fits in
      out (subst InRange (by_one n) (fits_in_range (n *ℤ pos 1) (and_left (is_in_range (n *ℤ pos 1)) true each)))

  beyond_outside : (a q : Tree) (k : ℤ) → linear_form ts q ≡ leaf_form ts q → limit_fits (linear_form ts) (limit (beyond a n q) k) ≡ true → ⊥
  beyond_outside a q k e h =
      let rest : List (ℤ × Tree) = (negsuc 0, a) ∷ [] in
      let own : _ = form_fits (form_times n (linear_form ts q)) in
      let both = and_left (combined_fits (linear_form ts) (beyond a n q)) (is_in_range (k -ℤ (combined (linear_form ts) (beyond a n q)).constant)) h in
      leaf_outside q (subst (λ f. form_fits (form_times n f) ≡ true) e
      (and_left own (form_fits (combined (linear_form ts) (beyond a n q))) (and_right (combined_fits (linear_form ts) rest) (own && form_fits (combined (linear_form ts) (beyond a n q))) both)))

  first_outside : (a q : Tree) (rows : List (Row Tree)) → linear_form ts q ≡ leaf_form ts q → rows_fit ts (always (beyond a n q) (pos 0) ∷ rows) ≡ true → ⊥
  first_outside a q rows e h =
      let own : _ = limit_fits (linear_form ts) (limit (beyond a n q) (pos 0)) in
      beyond_outside a q (pos 0) e (and_left own true (and_left (own && true) (list_all (row_fits (linear_form ts)) rows) h))

-- the quotient beside a remainder is a term of its own
quotient_is_leaf : (ts : List Tree) (t u q : Tree) → tree_eq q (quotient_tree t u) ≡ true → linear_form ts q ≡ leaf_form ts q
quotient_is_leaf ts t u q h = subst (λ x. linear_form ts x ≡ leaf_form ts x) (sym (tree_eq-true q (quotient_tree t u) h)) refl

beside : (ts : List Tree) (t u q : Tree) (us : Trees) → IsTrue ((is_divisor u && tree_eq q (quotient_tree t u)) && are_linear us) → linear_form ts q ≡ leaf_form ts q
beside ts t u q us h =
    let shape = and_left (is_divisor u && tree_eq q (quotient_tree t u)) (are_linear us) h in
    quotient_is_leaf ts t u q (and_right (is_divisor u) (tree_eq q (quotient_tree t u)) shape)

none_true : (A : Type 0) → false ≡ true → A
none_true A e = absurd (let x : false ≡ true = e in cc)

abbrev later : List (Row Tree) → List (Row Tree)
later [] = []
later (r ∷ rs) = rs

-- a term and a divisor with their quotient beside them
with_quotient : (ts : List Tree) (a n q : ℕ) (rows : List (Row Tree)) → (InRange (place_divisor ts (a ∷ n ∷ q ∷ [])) → ⊥)
    → IsTrue ((is_divisor (tree_at ts n) && tree_eq (tree_at ts q) (quotient_tree (tree_at ts a) (tree_at ts n))) && are_linear (pick ts (a ∷ n ∷ q ∷ [])))
    → rows_fit ts (always (beyond (tree_at ts a) (place_divisor ts (a ∷ n ∷ q ∷ [])) (tree_at ts q)) (pos 0) ∷ rows) ≡ true → ⊥
with_quotient ts a n q rows out h =
    first_outside ts (place_divisor ts (a ∷ n ∷ q ∷ [])) out (tree_at ts a) (tree_at ts q) rows (beside ts (tree_at ts a) (tree_at ts n) (tree_at ts q) (pick ts (a ∷ n ∷ q ∷ [])) h)

by_shape : (ts : List Tree) (o : Operator) (is : List ℕ) → IsTrue (divides o) → IsTrue (is_linear (node (Theory o) (pick ts is))) → (InRange (place_divisor ts is) → ⊥)
    → rows_fit ts (rows_at ts (Theory o) (pick ts is)) ≡ true → ⊥
by_shape ts Divide (a ∷ n ∷ []) d h out =
    first_outside ts (place_divisor ts (a ∷ n ∷ [])) out (tree_at ts a) (node (Theory Divide) (pick ts (a ∷ n ∷ []))) (later (rows_at ts (Theory Divide) (pick ts (a ∷ n ∷ [])))) refl
by_shape ts Modulo (a ∷ n ∷ q ∷ []) d h out = with_quotient ts a n q (later (rows_at ts (Theory Modulo) (pick ts (a ∷ n ∷ q ∷ [])))) out h
by_shape ts Divisible (a ∷ n ∷ q ∷ []) d h out = with_quotient ts a n q (later (rows_at ts (Theory Divisible) (pick ts (a ∷ n ∷ q ∷ [])))) out h
by_shape ts Divide is d h out = none_true _ h
by_shape ts Modulo is d h out = none_true _ h
by_shape ts Divisible is d h out = none_true _ h
by_shape ts o is d h out = none_true _ d

pub large_divisor : LargeDivisorLeavesRange
large_divisor ts o p is d e h out =
    false_if (rows_fit ts (rows_at ts (Theory o) (pick ts is))) (by_shape ts o is d (subst (λ t. IsTrue (is_linear t)) e h) out)
