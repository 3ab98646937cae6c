-- The form of the term at a place by those at its arguments' places, in a list of trees and in a longer one.
use Rattle.std.proofs.Common.{◌≡◌, inl, inr, ℕ, zero, suc, ◌<◌, ◌≤◌, Bool, true, false, ◌&&◌, List, [], ◌∷◌, length, get_or, map, All, Option, Some, None, subst, sym, ap, ◌∙◌, refl, arith}
use Rattle.std.specs.Prelude.{pos, MatchOption}
use Rattle.std.proofs.lemmas.List.Elements.{All-head, All-tail}
use Rattle.smt_meaning.specs.declared.terms.Head.{Head}
use Rattle.smt_meaning.specs.Term.{Tree, node, tree_at}
use Rattle.smt_meaning.specs.Nodes.{pick}
use Rattle.smt_meaning.specs.Parts.{IsPart, IsPartOfOne}
use Rattle.smt_meaning.specs.Linear.{Form, summand, linear_form, linear_forms, leaf_form, head_form, folding_fits, foldings_fit, head_folding_fits}
use Rattle.term_store.specs.Terms.{tree_with, AreDifferent}
use Rattle.term_store.proofs.PlaceLemmas.{place_of-is}
use Rattle.term_store.proofs.NodeLemmas.{pick-agree}
use Rattle.linear_forms.specs.Folding.{form_of, leaf_at}
use Rattle.linear_forms.specs.Table.{FoldsOutside, IsOutside, HasForm, IsKnown, IsLinked, Known}

-- the forms at these places, and whether their foldings all stay in the range
abbrev pub forms_in : List Tree → List ℕ → List Form
forms_in ts is = map (λ i. linear_form ts (tree_at ts i)) is

abbrev pub all_fit : List Tree → List ℕ → Bool
all_fit ts [] = true
all_fit ts (i ∷ is) = folding_fits ts (tree_at ts i) && all_fit ts is

forms_picked : (ts : List Tree) (is : List ℕ) → linear_forms ts (pick ts is) ≡ forms_in ts is
forms_picked ts [] = refl
forms_picked ts (i ∷ is) = ap (λ fs. linear_form ts (tree_at ts i) ∷ fs) (forms_picked ts is)

fit_picked : (ts : List Tree) (is : List ℕ) → foldings_fit ts (pick ts is) ≡ all_fit ts is
fit_picked ts [] = refl
fit_picked ts (i ∷ is) = ap (λ b. folding_fits ts (tree_at ts i) && b) (fit_picked ts is)

module _ (ts : List Tree) (k : ℕ) (h : Head) (is : List ℕ) (different : AreDifferent ts) (inside : k < length ts) (tree : tree_at ts k ≡ tree_with ts h is) where
  pub form_unfolds : linear_form ts (tree_at ts k) ≡ head_form h (forms_in ts is) (leaf_at k)
  form_unfolds =
      ap (linear_form ts) tree ∙ ap (λ fs. head_form h fs (leaf_form ts (node h (pick ts is)))) (forms_picked ts is)
      ∙ ap (λ p. head_form h (forms_in ts is) (form_of (summand p (pos 1) ∷ []) (pos 0))) (place_of-is (node h (pick ts is)) ts k different inside tree)

  pub fits_unfolds : folding_fits ts (tree_at ts k) ≡ (all_fit ts is && head_folding_fits h (forms_in ts is))
  fits_unfolds =
      ap (folding_fits ts) tree ∙ ap (λ b. b && head_folding_fits h (linear_forms ts (pick ts is))) (fit_picked ts is) ∙ ap (λ fs. all_fit ts is && head_folding_fits h fs) (forms_picked ts is)

  pub outside_here : all_fit ts is ≡ true → head_folding_fits h (forms_in ts is) ≡ false → FoldsOutside ts (tree_at ts k)
  outside_here a b = subst (FoldsOutside ts) (sym tree) (fit_picked ts is ∙ a, ap (head_folding_fits h) (forms_picked ts is) ∙ b)

  pub outside_there : FoldsOutside ts (tree_at ts k) → (all_fit ts is ≡ true) × (head_folding_fits h (forms_in ts is) ≡ false)
  outside_there o =
      let p : FoldsOutside ts (tree_with ts h is) = subst (FoldsOutside ts) tree o in
      (sym (fit_picked ts is) ∙ p.0, ap (head_folding_fits h) (sym (forms_picked ts is)) ∙ p.1)

  pub part_of_argument : (u : Tree) (j : ℕ) → j < length is → IsPart u (tree_at ts (get_or is j 0)) → IsPart u (tree_at ts k)
  part_of_argument u j l p = subst (IsPart u) (sym tree) (inr (among is j l p))
    where
      among : (xs : List ℕ) (j : ℕ) → j < length xs → IsPart u (tree_at ts (get_or xs j 0)) → IsPartOfOne u (pick ts xs)
      among [] j l p = absurd (omega arith)
      among (x ∷ xs) zero l p = inl p
      among (x ∷ xs) (suc j) l p = inr (among xs j (omega arith) p)

pub part_of_itself : (t : Tree) → IsPart t t
part_of_itself (node h us) = inl refl

pub unfit_argument : (ts : List Tree) (is : List ℕ) (j : ℕ) → j < length is → folding_fits ts (tree_at ts (get_or is j 0)) ≡ false → all_fit ts is ≡ false
unfit_argument ts [] j l e = absurd (omega arith)
unfit_argument ts (i ∷ is) zero l e = ap (λ b. b && all_fit ts is) e
unfit_argument ts (i ∷ is) (suc j) l e = ap (λ b. folding_fits ts (tree_at ts i) && b) (unfit_argument ts is j (omega arith) e) ∙ and_none (folding_fits ts (tree_at ts i))
  where
    and_none : (b : Bool) → (b && false) ≡ false
    and_none true = refl
    and_none false = refl

-- ---- two lists that begin alike

module _ (ts us : List Tree) (n : ℕ) (short : n ≤ length ts) (within : n ≤ length us) (dt : AreDifferent ts) (du : AreDifferent us) (same : (k : ℕ) → k < n → tree_at us k ≡ tree_at ts k) (linked : (k : ℕ) → k < n → IsLinked ts k) where
  tree_same : (k : ℕ) (l : k < n) → tree_at us k ≡ tree_with us (linked k l).head (linked k l).arguments
  tree_same k l =
      let a : IsLinked ts k = linked k l in
      same k l ∙ a.tree ∙ ap (node a.head) (sym (pick-agree ts us a.arguments k (λ i below. same i (omega arith)) a.earlier))

  pub linked_same : (k : ℕ) → k < n → IsLinked us k
  linked_same k l = let a : IsLinked ts k = linked k l in record { head = a.head; arguments = a.arguments; tree = tree_same k l; earlier = a.earlier }

  forms_agree : (m : ℕ) (is : List ℕ) → ((i : ℕ) → i < m → linear_form us (tree_at us i) ≡ linear_form ts (tree_at ts i)) → All (λ i. i < m) is → forms_in us is ≡ forms_in ts is
  forms_agree m [] f a = refl
  forms_agree m (i ∷ is) f a =
      ap (λ x. x ∷ forms_in us is) (f i (All-head (λ j. j < m) i is a)) ∙ ap (λ xs. linear_form ts (tree_at ts i) ∷ xs) (forms_agree m is f (All-tail (λ j. j < m) i is a))

  fits_agree : (m : ℕ) (is : List ℕ) → ((i : ℕ) → i < m → folding_fits us (tree_at us i) ≡ folding_fits ts (tree_at ts i)) → All (λ i. i < m) is → all_fit us is ≡ all_fit ts is
  fits_agree m [] f a = refl
  fits_agree m (i ∷ is) f a =
      ap (λ b. b && all_fit us is) (f i (All-head (λ j. j < m) i is a)) ∙ ap (λ b. folding_fits ts (tree_at ts i) && b) (fits_agree m is f (All-tail (λ j. j < m) i is a))

  form_same : (m k : ℕ) → k < m → k < n → linear_form us (tree_at us k) ≡ linear_form ts (tree_at ts k)
  form_same zero k l h = absurd (omega arith)
  form_same (suc m) k l h =
      let a : IsLinked ts k = linked k h in
      form_unfolds us k a.head a.arguments du (omega arith) (tree_same k h)
      ∙ ap (λ fs. head_form a.head fs (leaf_at k)) (forms_agree k a.arguments (λ i below. form_same m i (omega arith) (omega arith)) a.earlier)
      ∙ sym (form_unfolds ts k a.head a.arguments dt (omega arith) a.tree)

  fit_same : (m k : ℕ) → k < m → k < n → folding_fits us (tree_at us k) ≡ folding_fits ts (tree_at ts k)
  fit_same zero k l h = absurd (omega arith)
  fit_same (suc m) k l h =
      let a : IsLinked ts k = linked k h in
      fits_unfolds us k a.head a.arguments du (omega arith) (tree_same k h)
      ∙ ap (λ x. x && head_folding_fits a.head (forms_in us a.arguments)) (fits_agree k a.arguments (λ i below. fit_same m i (omega arith) (omega arith)) a.earlier)
      ∙ ap (λ fs. all_fit ts a.arguments && head_folding_fits a.head fs) (forms_agree k a.arguments (λ i below. form_same m i (omega arith) (omega arith)) a.earlier)
      ∙ sym (fits_unfolds ts k a.head a.arguments dt (omega arith) a.tree)

  outside_same : (p : ℕ) → p < n → FoldsOutside ts (tree_at ts p) → FoldsOutside us (tree_at us p)
  outside_same p l o =
      let a : IsLinked ts p = linked p l in
      let q : (all_fit ts a.arguments ≡ true) × (head_folding_fits a.head (forms_in ts a.arguments) ≡ false) = outside_there ts p a.head a.arguments dt (omega arith) a.tree o in
      outside_here us p a.head a.arguments du (omega arith) (tree_same p l)
      (fits_agree p a.arguments (λ i below. fit_same p i below (omega arith)) a.earlier ∙ q.0)
      (ap (head_folding_fits a.head) (forms_agree p a.arguments (λ i below. form_same p i below (omega arith)) a.earlier) ∙ q.1)

  pub known_same : (k : ℕ) (x : Known) → k < n → IsKnown ts k x → IsKnown us k x
  known_same k x l h = by x.outside h
    where
      by : (o : Option ℕ) → MatchOption o (HasForm ts k x.form) (IsOutside ts k) → MatchOption o (HasForm us k x.form) (IsOutside us k)
      by None f = record { fits = fit_same (suc k) k (omega arith) l ∙ f.fits; form = form_same (suc k) k (omega arith) l ∙ f.form; is_sum = f.is_sum; ranges = f.ranges }
      by (Some p) o = let before = o.before in record {
        unfit = fit_same (suc k) k (omega arith) l ∙ o.unfit;
        is_part = subst (λ t. IsPart (tree_at us p) t) (sym (same k l)) (subst (λ t. IsPart t (tree_at ts k)) (sym (same p (omega arith))) o.is_part);
        before = o.before;
        own = outside_same p (omega arith) o.own;
      }
