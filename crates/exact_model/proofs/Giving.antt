-- What is given exactly can be given, and tables that are made of it give exact values.
use Rattle.std.proofs.Common.{◌≡◌, ℕ, ◌<◌, ◌&&◌, Bool, true, false, List, length, refl, sym, ap, subst, ◌∙◌}
use Rattle.std.specs.Prelude.{Some, if◌then◌else◌, slice_index_or}
use Rattle.smt_laws.proofs.Both.{and_right}
use Rattle.smt_meaning.specs.declared.values.Value.{Value}
use Rattle.smt_meaning.specs.declared.values.Sort.{Sort}
use Rattle.smt_meaning.specs.declared.values.Sort.TheVariants.{Bool as Truths, Int as Ints}
use Rattle.smt_meaning.specs.declared.terms.Head.TheVariants.{Symbol}
use Rattle.smt_meaning.specs.Declaration.{Declaration}
use Rattle.smt_meaning.specs.Term.{Tree, node, tree_at, in_range}
use Rattle.smt_meaning.specs.Signature.{tree_sort}
use Rattle.smt_meaning.specs.Interpretation.{has_sort}
use Rattle.smt_meaning.specs.Parts.{AreInOrder}
use Rattle.smt_meaning.specs.CheckAtoms.{is_leaf, is_leaf_head}
use Rattle.model_build.specs.declared.given.Given.{Given}
use Rattle.model_build.specs.declared.given.Given.TheVariants.{Unmarked, InRange, PastRange}
use Rattle.model_build.specs.Given.{given_at, head_of, is_past, is_marked}
use Rattle.model_build.specs.Building.{is_given_of, AreGiven, AreValues}
use Rattle.scope_stack.specs.Facts.{AreSorts}
use Rattle.model_build.specs.Parts.{AreSortedParts}
use Rattle.model_build.proofs.Placing.{AreGivenAt, given_so, mark_within}
use Rattle.linear_forms.specs.Table.{Known}
use Rattle.check_atoms.specs.Parts.{IsMarked}
use Rattle.exact_model.specs.Exact.{exact, exact_at, listed, given_of, AreListed, MayBeGiven, HaveOperatorsValues, AreGivenExactly, ArePlacesGiven}
use Rattle.exact_model.specs.Ends.{TablesGiveExactValues}
use Rattle.exact_model.proofs.Leafs.{listed_by_leaf, sum_is_int}

-- ---- one place

given_marked : (v : Value) → is_marked (given_of v) ≡ true
given_marked v = by (in_range v)
  where
    by : (b : Bool) → is_marked (if b then InRange v else PastRange) ≡ true
    by true = refl
    by false = refl

pub value_in_range : (v : Value) (s : Sort) → is_given_of (InRange v) s ≡ true → in_range v ≡ true
value_in_range v s h = and_right (has_sort v s) (in_range v) h

pub in_range_given : (v : Value) → in_range v ≡ true → given_of v ≡ InRange v
in_range_given v h = ap (λ (b : Bool). if b then InRange v else PastRange) h

number_given : (v : Value) → has_sort v Ints ≡ true → is_given_of (given_of v) Ints ≡ true
number_given v h = by (in_range v) refl
  where
    by : (b : Bool) → in_range v ≡ b → is_given_of (if b then InRange v else PastRange) Ints ≡ true
    by true k = ap (λ (x : Bool). x && in_range v) h ∙ k
    by false k = refl

value_within : (w v : Value) (b : Bool) → in_range w ≡ b → InRange v ≡ (if b then InRange w else PastRange) → w ≡ v
value_within w v true k e = cc
value_within w v false k e = absurd cc

value_past : (w : Value) (b : Bool) → in_range w ≡ b → PastRange ≡ (if b then InRange w else PastRange) → in_range w ≡ false
value_past w true k e = absurd cc
value_past w false k e = k

leaf_of_symbol : (t : Tree) (f : ℕ) → head_of t ≡ Symbol f → is_leaf t ≡ true
leaf_of_symbol (node h us) f e = ap is_leaf_head e

-- ---- all places

module _ (ts : List Tree) (marks : List Bool) (vs : List Value) (gs : List Given) (at : ArePlacesGiven ts marks vs gs) where
  mark_of : (p : ℕ) → p < length ts → is_marked (given_at gs p) ≡ true → IsMarked marks p
  mark_of p less m = by (slice_index_or marks p false) refl
    where
      by : (b : Bool) → slice_index_or marks p false ≡ b → IsMarked marks p
      by true h = h
      by false h =
          let none : is_marked (given_at gs p) ≡ false = ap is_marked (at.each p less ∙ ap (λ (b : Bool). if b then given_of (exact_at ts vs p) else Unmarked) h) in absurd cc

  given_here : (p : ℕ) → p < length ts → IsMarked marks p → given_at gs p ≡ given_of (exact_at ts vs p)
  given_here p less m = at.each p less ∙ ap (λ (b : Bool). if b then given_of (exact_at ts vs p) else Unmarked) m

  pub are_values : HaveOperatorsValues ts marks vs → AreValues ts gs (exact ts vs)
  unfolding exact_at
  are_values operators = record {
    within = λ p v less e.
        value_within (exact ts vs (tree_at ts p)) v (in_range (exact ts vs (tree_at ts p))) refl (sym e ∙ given_here p less (mark_of p less (ap is_marked e)));
    past = λ p less e. value_past (exact ts vs (tree_at ts p)) (in_range (exact ts vs (tree_at ts p))) refl (sym e ∙ given_here p less (mark_of p less (ap is_marked e)));
    operators = λ p less m. operators p (mark_of p less m);
  }

  -- ---- what may be given

  module _ (ds : List Declaration) (known : List Known) (parts : AreSortedParts ds ts marks) (are : AreListed ts known vs) (may : MayBeGiven ds ts marks vs) where
    within : (p : ℕ) → IsMarked marks p → p < length ts
    within p m = subst (λ n. p < n) parts.size (mark_within marks p m)

    of_leaf : (p : ℕ) (r : Sort) → IsMarked marks p → tree_sort ds (tree_at ts p) ≡ Some r → is_leaf (tree_at ts p) ≡ true → given_at gs p ≡ InRange (listed vs p)
    of_leaf p r m e leaf =
        given_here p (within p m) m ∙ ap given_of (listed_by_leaf ts vs p are.forms.different (within p m) leaf)
        ∙ in_range_given (listed vs p) (value_in_range (listed vs p) r (may p r (within p m) m e))

    sorted : (p : ℕ) (r : Sort) → IsMarked marks p → tree_sort ds (tree_at ts p) ≡ Some r → is_given_of (given_at gs p) r ≡ true
    sorted p r m e = by (is_leaf (tree_at ts p)) refl
      where
        by : (b : Bool) → is_leaf (tree_at ts p) ≡ b → is_given_of (given_at gs p) r ≡ true
        by true leaf = ap (λ g. is_given_of g r) (of_leaf p r m e leaf) ∙ may p r (within p m) m e
        by false sum =
            let made = sum_is_int ts vs ds p r sum e in
            subst (λ q. is_given_of (given_at gs p) q ≡ true) (sym made.0)
            (ap (λ g. is_given_of g Ints) (given_here p (within p m) m) ∙ number_given (exact_at ts vs p) (ap (λ v. has_sort v Ints) made.1))

    inside : (p : ℕ) → p < length ts → is_leaf (tree_at ts p) ≡ true → is_past (given_at gs p) ≡ false
    inside p less leaf = by (slice_index_or marks p false) refl
      where
        by : (b : Bool) → slice_index_or marks p false ≡ b → is_past (given_at gs p) ≡ false
        by true m = let own = parts.sorted p m in ap is_past (of_leaf p own.0 m own.1 leaf)
        by false m = ap is_past (at.each p less ∙ ap (λ (b : Bool). if b then given_of (exact_at ts vs p) else Unmarked) m)

    module _ (sorts : List Sort) (kept : AreSorts ds ts (length ts) sorts) where
      kept_sort : (p : ℕ) → p < length ts → IsMarked marks p → is_given_of (given_at gs p) (slice_index_or sorts p Truths) ≡ true
      kept_sort p less m = let own = parts.sorted p m in subst (λ r. is_given_of (given_at gs p) r ≡ true) (sym (kept.each p own.0 less own.1)) (sorted p own.0 m own.1)

      pub given_so_exactly : AreGivenExactly ts marks sorts vs gs
      given_so_exactly = record { size = at.size; each = λ p less. record { exact = at.each p less; sorted = kept_sort p less; inside = inside p less } }

      given : AreGivenAt ts marks sorts gs
      given = record {
        unmarked = λ p less h. at.each p less ∙ ap (λ (b : Bool). if b then given_of (exact_at ts vs p) else Unmarked) h;
        sorted = kept_sort;
      }

      pub are_given : AreInOrder ts → AreGiven ds ts gs
      are_given order = given_so ds ts marks sorts gs given parts kept order at.size (λ f p x. inside p x.within (leaf_of_symbol (tree_at ts p) f x.symbol))

-- ---- tables

pub tables_give : TablesGiveExactValues
unfolding exact_at
tables_give ts marks sorts vs gs tables size exactly values give p m =
    let less : p < length ts = subst (λ n. p < n) size (mark_within marks p m) in
    let here : given_at gs p ≡ given_of (exact_at ts vs p) = (exactly.each p less).exact ∙ ap (λ (b : Bool). if b then given_of (exact_at ts vs p) else Unmarked) m in
    give (exact ts vs) values p less (ap is_marked here ∙ given_marked (exact_at ts vs p))
