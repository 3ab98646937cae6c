-- Values of leaves, listed one after another.
use Rattle.std.proofs.Common.{◌≡◌, ℕ, ◌+◌, ◌<◌, ◌≤◌, Bool, true, false, List, [], ◌∷◌, ◌++◌, length, sym, ap, subst, ◌∙◌, inl, inr, arith}
use Rattle.std.specs.Prelude.{◌⊎◌, ◌&&◌, ℤ, pos, ◌*ℤ◌, slice_index_or, Some}
use Rattle.std.proofs.lemmas.Bool.{cases_lt}
use Rattle.std.proofs.lemmas.List.{get_or_push, get_or_append_left}
use Rattle.fraction128.specs.declared.ratio.Ratio.{Ratio}
use Rattle.fraction128.specs.Number.{whole, SameNumber}
use Rattle.smt_meaning.specs.declared.values.Value.{Value}
use Rattle.smt_meaning.specs.declared.values.Value.TheVariants.{Truth, Whole}
use Rattle.smt_meaning.specs.declared.values.Sort.{Sort}
use Rattle.smt_meaning.specs.declared.values.Sort.TheVariants.{Bool as Truths, Int as Ints, Free}
use Rattle.smt_meaning.specs.Term.{tree_at, number_of, in_range}
use Rattle.smt_meaning.specs.Stack.{signature_of}
use Rattle.smt_meaning.specs.StackCommand.{Stack}
use Rattle.smt_meaning.specs.CheckAtoms.{is_leaf}
use Rattle.smt_meaning.specs.Ranges.{HasValue}
use Rattle.scope_stack.specs.Facts.{AreSorts}
use Rattle.sum_bounds.specs.Bounds.{leaf_values}
use Rattle.sum_bounds.specs.Written.{HasLeaf}
use Rattle.sum_bounds.proofs.Parts.{has_variable}
use Rattle.bound_log.specs.Told.{State, IsState}
use Rattle.bound_log.specs.Pending.{plain_grid}
use Rattle.smt_meaning.specs.Interpretation.{has_sort}
use Rattle.smt_laws.proofs.Both.{and_left}
use Rattle.model_build.specs.declared.given.Given.TheVariants.{InRange}
use Rattle.model_build.specs.Building.{is_given_of}
use Rattle.exact_model.specs.Exact.{listed, MayBeGiven}
use Rattle.smt_meaning.specs.Signature.{tree_sort}
use Rattle.check_atoms.specs.Parts.{IsMarked}
use Rattle.model_build.specs.Parts.{AreSortedParts}
use Rattle.exact_model.specs.Leaves.{IsIntLeaf, IsLeafValue, IsListedNumber, IsListedBy, AreListedBy, HaveLeafValues}

same_whole : (x : Ratio) (n : ℤ) → x.denominator ≡ 1 → n ≡ x.numerator → SameNumber x (whole n)
same_whole x n one e = ap (λ z. z *ℤ pos 1) (sym e) ∙ ap (λ d. n *ℤ pos d) (sym one)

-- a variable with a whole value gives its term that value
pub leaf_has : (b : State) (p : ℕ) (x : Ratio) (n : ℤ) → IsState b → HasLeaf b.bounds.columns p → x ≡ leaf_values b.bounds p → x.denominator ≡ 1 → n ≡ x.numerator → HasValue (plain_grid b) p (whole n)
leaf_has b p x n state leaf e one number = record {
  within = (has_variable b.bounds.columns p state.bounds.apart leaf).0;
  value = subst (λ y. SameNumber y (whole n)) e (same_whole x n one number);
}

pub listed_leaf : (b : State) (p : ℕ) (v : Value) → in_range v ≡ true → IsLeafValue b p v → IsListedNumber b p true v
listed_leaf b p v inside has = record { is_number = has.number ∙ ap (λ w. Whole (number_of w)) (sym has.number); in_range = inside; of_leaf = λ _. has }

-- what is listed may be given
may_be_given : (b : State) (p : ℕ) (leaf truth : Bool) (element : ℕ) (r : Sort) (v : Value) → IsListedBy b p leaf truth element r v → is_given_of (InRange v) r ≡ true
may_be_given b p leaf truth element Truths v h = ap (λ w. is_given_of (InRange w) Truths) h
may_be_given b p leaf truth element Ints v h = ap (λ w. has_sort w Ints && in_range v) h.is_number ∙ h.in_range
may_be_given b p leaf truth element (Free a) v h = ap (λ w. is_given_of (InRange w) (Free a)) h

-- and has the sort
pub listed_sort : (b : State) (p : ℕ) (leaf truth : Bool) (element : ℕ) (r : Sort) (v : Value) → IsListedBy b p leaf truth element r v → has_sort v r ≡ true
listed_sort b p leaf truth element r v h = and_left (has_sort v r) (in_range v) (may_be_given b p leaf truth element r v h)

module _ (s : Stack) (marks : List Bool) (b : State) (truths : List Bool) (elements : List ℕ) where
  -- what is listed for a place, by the sort of its term
  abbrev pub IsListedAt : ℕ → Value → Type 0
  IsListedAt p v =
      (r : Sort) → IsMarked marks p → tree_sort (signature_of s.frames) (tree_at s.trees p) ≡ Some r → IsListedBy b p (is_leaf (tree_at s.trees p)) (slice_index_or truths p false) (slice_index_or elements p 0) r v

  pub listed_pushed : (k : ℕ) (vs : List Value) (v : Value) → length vs ≡ k → AreListedBy s marks b truths elements k vs → IsListedAt k v → AreListedBy s marks b truths elements (k + 1) (vs ++ v ∷ [])
  listed_pushed k vs v size all here p r less = by (cases_lt p k)
    where
      by : (p < k) ⊎ (k ≤ p) → IsMarked marks p → tree_sort (signature_of s.frames) (tree_at s.trees p) ≡ Some r
          → IsListedBy b p (is_leaf (tree_at s.trees p)) (slice_index_or truths p false) (slice_index_or elements p 0) r (listed (vs ++ v ∷ []) p)
      by (inl h) =
          subst (λ w. IsMarked marks p → tree_sort (signature_of s.frames) (tree_at s.trees p) ≡ Some r → IsListedBy b p (is_leaf (tree_at s.trees p)) (slice_index_or truths p false) (slice_index_or elements p 0) r w)
          (sym (get_or_append_left vs (v ∷ []) (Truth false) p (omega arith))) (all p r h)
      by (inr h) =
          let e : p ≡ k = omega arith in
          subst (λ w. IsMarked marks p → tree_sort (signature_of s.frames) (tree_at s.trees p) ≡ Some r → IsListedBy b p (is_leaf (tree_at s.trees p)) (slice_index_or truths p false) (slice_index_or elements p 0) r w)
          (sym (get_or_push vs v (Truth false) p (size ∙ sym e))) (subst (λ q. IsListedAt q v) (sym e) here r)

  -- where all places are listed

  module _ (vs : List Value) (all : AreListedBy s marks b truths elements (length s.trees) vs) where
    pub all_may_be : MayBeGiven (signature_of s.frames) s.trees marks vs
    all_may_be p r less m e = may_be_given b p _ _ _ r (listed vs p) (all p r less m e)

    pub have_values : HaveLeafValues s marks (plain_grid b) (length s.trees) vs
    have_values p less leaf = ((all p Ints less leaf.marked leaf.is_int).of_leaf leaf.leaf).has

  module _ (sorts : List Sort) (are : AreSorts (signature_of s.frames) s.trees (length s.trees) sorts) where
    -- by the sort that is kept
    pub listed_by_sort : (p : ℕ) (v : Value) → p < length s.trees
        → (IsMarked marks p → IsListedBy b p (is_leaf (tree_at s.trees p)) (slice_index_or truths p false) (slice_index_or elements p 0) (slice_index_or sorts p Truths) v) → IsListedAt p v
    listed_by_sort p v less h r m e = subst (λ q. IsListedBy b p (is_leaf (tree_at s.trees p)) (slice_index_or truths p false) (slice_index_or elements p 0) q v) (are.each p r less e) (h m)

    pub leaf_by_sort : (p : ℕ) → AreSortedParts (signature_of s.frames) s.trees marks → p < length s.trees → IsMarked marks p → slice_index_or sorts p Truths ≡ Ints → is_leaf (tree_at s.trees p) ≡ true
        → IsIntLeaf s marks p
    leaf_by_sort p parts less m int leaf =
        let own = parts.sorted p m in
        record { within = less; marked = m; is_int = own.1 ∙ ap Some (sym (are.each p own.0 less own.1) ∙ int); leaf = leaf }
