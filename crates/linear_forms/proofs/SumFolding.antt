-- The forms of some terms added up, one after another.
use Rattle.std.proofs.Common.{◌≡◌, ◌≢◌, ◌⊎◌, inl, inr, ℕ, ◌+◌, ◌<◌, ◌≤◌, Bool, true, false, List, [], ◌∷◌, length, get_or, drop, Result, Ok, Err, subst, sym, refl, arith}
use Rattle.std.specs.Prelude.{ℤ, pos, ◌+ℤ◌, IfOk}
use Rattle.std.proofs.lemmas.List.{drop_more, drop_all}
use Rattle.fraction128.specs.Whole.{InRange}
use Rattle.smt_meaning.specs.Linear.{Form}
use Rattle.linear_forms.specs.declared.coefficients.Coefficient.{Coefficient}
use Rattle.linear_forms.specs.declared.coefficients.Stop.{Stop}
use Rattle.linear_forms.specs.Sums.{IsSum, signed}
use Rattle.linear_forms.specs.Scratch.{AreRanged, AreZero, AreTouched, IsAdded, LeavesRange}
use Rattle.linear_forms.specs.Folding.{combined_fits, IsCombined, IsFolding}
use Rattle.linear_forms.specs.Table.{Known, known_at}
use Rattle.linear_forms.specs.Entries.{forms_at, AreSums}
use Rattle.linear_forms.proofs.FoldLemmas.{FoldsOn, first_holds, negation_holds, first_constant_unfit, first_sum_unfit, negated_constant_unfit, negated_sum_unfit, combined_negation, folding_start, start_unfit, folding_step, step_constant_unfit, step_sum_unfit, folding_end}

pub all_ok : (r : Result ℤ Stop) (P Q R S : ℤ → Type 0) → IfOk r P → IfOk r Q → IfOk r R → ((n : ℤ) → P n → Q n → R n → S n) → IfOk r S
all_ok (Ok n) P Q R S p q t f = f n p q t
all_ok (Err e) P Q R S p q t f = tt

abbrev pub MayLeave : Bool → List Coefficient → ℤ → Form → Type 0
MayLeave s vs k f = (InRange (k +ℤ signed s f.constant) → ⊥) ⊎ LeavesRange s vs f.sum

module _ (known : List Known) (bound : ℕ) (s : Bool) (vs : List Coefficient) (none : AreZero vs) where
  alone_known : (i : ℕ) (f : Form) (us : List Coefficient) (n : ℤ) → s ≡ true → IsSum bound f.sum → IsAdded true vs us f.sum → n ≡ pos 0 +ℤ signed true f.constant → AreRanged us → InRange n
      → IsCombined bound s (f ∷ []) us n
  alone_known i f us n t a added e r m =
      subst (λ b. IsCombined bound b (f ∷ []) us n) (sym t) (combined_negation bound f us n a (negation_holds f vs us n none added e) r m)

  pub alone_ok : (args : List ℕ) (f : Form) (us : List Coefficient) (n : ℤ) → s ≡ true → length args ≡ 1 → f ≡ (known_at known (get_or args 0 0)).form → AreSums bound known args → IsAdded true vs us f.sum
      → n ≡ pos 0 +ℤ signed true f.constant → AreRanged us → InRange n → IsCombined bound s (forms_at known args) us n
  alone_ok [] f us n t one e sums added k r m = absurd (omega arith)
  alone_ok (i ∷ []) f us n t one e sums added k r m =
      subst (λ g. IsCombined bound s (g ∷ []) us n) e (alone_known i f us n t (subst (λ (g : Form). IsSum bound g.sum) (sym e) (sums 0 0 (omega arith))) added k r m)
  alone_ok (i ∷ j ∷ is) f us n t one e sums added k r m = absurd (omega arith)

  pub alone_fails : (args : List ℕ) (f : Form) → s ≡ true → length args ≡ 1 → f ≡ (known_at known (get_or args 0 0)).form → MayLeave true vs (pos 0) f → combined_fits s (forms_at known args) ≡ false
  alone_fails [] f t one e l = absurd (omega arith)
  alone_fails (i ∷ is) f t one e (inl out) = subst (λ g. combined_fits s (g ∷ forms_at known is) ≡ false) e (start_unfit bound s f (forms_at known is) (negated_constant_unfit f out))
  alone_fails (i ∷ is) f t one e (inr l) = subst (λ g. combined_fits s (g ∷ forms_at known is) ≡ false) e (start_unfit bound s f (forms_at known is) (negated_sum_unfit f vs none l))

  pub first_ok : (args : List ℕ) (f : Form) (us : List Coefficient) (js : List ℕ) (n : ℤ) → (s ≡ true → length args ≢ 1) → 0 < length args → f ≡ (known_at known (get_or args 0 0)).form → AreSums bound known args
      → IsAdded false vs us f.sum → n ≡ pos 0 +ℤ f.constant → AreRanged us → InRange n → AreTouched us js → length us ≡ bound → FoldsOn bound s (forms_at known args) (forms_at known (drop 1 args)) us js n
  first_ok [] f us js n other some e sums added k r m t size = absurd (omega arith)
  first_ok (i ∷ is) f us js n other some e sums added k r m t size =
      let a : IsSum bound f.sum = subst (λ (g : Form). IsSum bound g.sum) (sym e) (sums 0 0 (omega arith)) in
      record {
        folding = subst (λ g. IsFolding bound s (g ∷ forms_at known is) (forms_at known is) us n) e
            (folding_start bound s f (forms_at known is) us n (λ b x. other b (single is x)) a (first_holds f vs us n none added k) r m);
        ranged = r;
        touched = t;
        size = size;
      }
    where
      single : (is : List ℕ) → forms_at known is ≡ [] → length (i ∷ is) ≡ 1
      single [] x = refl
      single (j ∷ js) x = absurd (cc)

  pub first_fails : (args : List ℕ) (f : Form) → 0 < length args → f ≡ (known_at known (get_or args 0 0)).form → MayLeave false vs (pos 0) f → combined_fits s (forms_at known args) ≡ false
  first_fails [] f some e l = absurd (omega arith)
  first_fails (i ∷ is) f some e (inl out) = subst (λ g. combined_fits s (g ∷ forms_at known is) ≡ false) e (start_unfit bound s f (forms_at known is) (first_constant_unfit f out))
  first_fails (i ∷ is) f some e (inr l) = subst (λ g. combined_fits s (g ∷ forms_at known is) ≡ false) e (start_unfit bound s f (forms_at known is) (first_sum_unfit f vs none l))

module _ (known : List Known) (bound : ℕ) (s : Bool) (args : List ℕ) (sums : AreSums bound known args) (k : ℕ) (more : k < length args) (vs : List Coefficient) (is : List ℕ) (m : ℤ)
    (folds : FoldsOn bound s (forms_at known args) (forms_at known (drop k args)) vs is m) (f : Form) (e : f ≡ (known_at known (get_or args k 0)).form) where
  here : IsFolding bound s (forms_at known args) (f ∷ forms_at known (drop (k + 1) args)) vs m
  here =
      subst (λ g. IsFolding bound s (forms_at known args) (g ∷ forms_at known (drop (k + 1) args)) vs m) (sym e)
      (subst (λ xs. IsFolding bound s (forms_at known args) (forms_at known xs) vs m) (drop_more args k 0 more) folds.folding)

  is_sum : IsSum bound f.sum
  is_sum = subst (λ (g : Form). IsSum bound g.sum) (sym e) (sums k 0 more)

  pub next_ok : (us : List Coefficient) (js : List ℕ) (n : ℤ) → IsAdded s vs us f.sum → n ≡ m +ℤ signed s f.constant → AreRanged us → InRange n → AreTouched us js → length us ≡ bound
      → FoldsOn bound s (forms_at known args) (forms_at known (drop (k + 1) args)) us js n
  next_ok us js n added c r i t size = record {
    folding = folding_step bound s (forms_at known args) f (forms_at known (drop (k + 1) args)) vs m here is_sum us n added c r i;
    ranged = r;
    touched = t;
    size = size;
  }

  pub next_fails : MayLeave s vs m f → combined_fits s (forms_at known args) ≡ false
  next_fails (inl out) = step_constant_unfit bound s (forms_at known args) f (forms_at known (drop (k + 1) args)) vs m here is_sum out
  next_fails (inr l) = step_sum_unfit bound s (forms_at known args) f (forms_at known (drop (k + 1) args)) vs m here is_sum l

pub all_folded : (known : List Known) (bound : ℕ) (s : Bool) (args : List ℕ) (k : ℕ) (vs : List Coefficient) (is : List ℕ) (n : ℤ) → length args ≤ k
    → FoldsOn bound s (forms_at known args) (forms_at known (drop k args)) vs is n → IsCombined bound s (forms_at known args) vs n
all_folded known bound s args k vs is n l f =
    folding_end bound s (forms_at known args) vs n (subst (λ xs. IsFolding bound s (forms_at known args) (forms_at known xs) vs n) (drop_all k args l) f.folding)
