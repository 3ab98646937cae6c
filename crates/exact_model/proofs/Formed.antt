-- Linear forms at numbers that agree on the leaves of their terms.
use Rattle.std.proofs.Common.{◌≡◌, inl, inr, ℕ, zero, ◌<◌, true, List, [], ◌∷◌, length, Some, refl, sym, ap, ap₂, subst, ◌∙◌}
use Rattle.std.specs.Prelude.{ℤ, pos, negsuc, ◌+ℤ◌, ◌-ℤ◌, ◌*ℤ◌}
use Rattle.smt_meaning.specs.declared.values.Sort.{Sort}
use Rattle.smt_meaning.specs.declared.values.Sort.TheVariants.{Int as Ints}
use Rattle.smt_meaning.specs.declared.terms.Operator.{Operator}
use Rattle.smt_meaning.specs.declared.terms.Operator.TheVariants.{Add, Subtract, Multiply}
use Rattle.smt_meaning.specs.declared.terms.Head.TheVariants.{Numeral, Theory}
use Rattle.smt_meaning.specs.declared.clauses.Summand.{Summand}
use Rattle.smt_meaning.specs.Declaration.{Declaration}
use Rattle.smt_meaning.specs.Term.{Tree, Trees, node, none, more, tree_at, number_of}
use Rattle.smt_meaning.specs.TreeShape.{place_of}
use Rattle.smt_meaning.specs.Parts.{IsPart, IsPartOfOne}
use Rattle.smt_meaning.specs.Signature.{tree_sort, tree_sorts, operator_sort, if_so, all_of, sort_eq, stands_with}
use Rattle.smt_meaning.specs.Linear.{Form, form_times, form_plus, form_minus, form_product, fold_forms, folded, difference_form, linear_form, linear_forms}
use Rattle.smt_meaning.specs.Ranges.{form_at}
use Rattle.smt_meaning.specs.CheckAtoms.{is_leaf}
use Rattle.smt_meaning.specs.Stack.{signature_of}
use Rattle.smt_laws.proofs.Both.{and_left, and_right}
use Rattle.term_store.proofs.PlaceLemmas.{place_of-is}
use Rattle.scope_stack.proofs.SortLemmas.{HasArguments, arguments_of, HasFirst, first_of, stands_so}
use Rattle.check_atoms.proofs.Sorting.{sort_is, if_so_true}
use Rattle.check_atoms.proofs.Marking.{part_of_part}
use Rattle.model_build.proofs.Placing.{mark_within, different_of}
use Rattle.bound_log.specs.Values.{numbers_of}
use Rattle.exact_model.specs.Exact.{listed, number_at}
use Rattle.exact_model.specs.Sums.{number_of_place}
use Rattle.exact_model.specs.Leaves.{IsListedNumber, ListedNumbersAreOfForms}
use Rattle.exact_model.proofs.Forms.{form_times_at, form_plus_at, form_minus_at}

-- ---- the arguments of sums, differences and products

abbrev pub IsInt : List Declaration → Tree → Type 0
IsInt ds t = tree_sort ds t ≡ Some Ints

abbrev pub AreInts : List Declaration → Trees → Type 0
AreInts ds none = Unit {0}
AreInts ds (more u us) = IsInt ds u × AreInts ds us

all_ints : (ds : List Declaration) (us : Trees) (ss : List Sort) → tree_sorts ds us ≡ Some ss → all_of Ints ss ≡ true → AreInts ds us
all_ints ds none ss e a = tt
all_ints ds (more u us) ss e a =
    let f : HasFirst ds u us ss = first_of ds u us ss e in
    let b : all_of Ints (f.first ∷ f.rest) ≡ true = subst (λ xs. all_of Ints xs ≡ true) f.are a in
    (f.here ∙ ap Some (sym (sort_is Ints f.first (and_left (sort_eq Ints f.first) _ b))), all_ints ds us f.rest f.later (and_right (sort_eq Ints f.first) _ b))

pub inner_ints : (ds : List Declaration) (o : Operator) (us : Trees) → ((ss : List Sort) → operator_sort o ss ≡ if_so (all_of Ints ss) Ints) → IsInt ds (node (Theory o) us) → AreInts ds us
inner_ints ds o us by i =
    let args : HasArguments ds (Theory o) us Ints = arguments_of ds (Theory o) us Ints i in
    let made : operator_sort o args.sorts ≡ Some Ints = stands_so (stands_with o (length args.sorts)) (operator_sort o args.sorts) Ints args.made in
    all_ints ds us args.sorts args.are (if_so_true (all_of Ints args.sorts) Ints Ints (sym (by args.sorts) ∙ made))

-- ---- forms

module _ (w x : ℕ → ℤ) where
  -- a form has one value at both
  abbrev Agree : Form → Type 0
  Agree f = form_at w f ≡ form_at x f

  abbrev AllAgree : List Form → Type 0
  AllAgree [] = Unit {0}
  AllAgree (f ∷ fs) = Agree f × AllAgree fs

  times : (k : ℤ) (f : Form) → Agree f → Agree (form_times k f)
  times k f a = form_times_at w k f ∙ ap (λ z. k *ℤ z) a ∙ sym (form_times_at x k f)

  added : (f g : Form) → Agree f → Agree g → Agree (form_plus f g)
  added f g a b = form_plus_at w f g ∙ ap₂ ◌+ℤ◌ a b ∙ sym (form_plus_at x f g)

  taken : (f g : Form) → Agree f → Agree g → Agree (form_minus f g)
  taken f g a b = form_minus_at w f g ∙ ap₂ ◌-ℤ◌ a b ∙ sym (form_minus_at x f g)

  multiplied : (f g : Form) → Agree f → Agree g → Agree (form_product f g)
  multiplied f g a b = by f.sum f.constant a
    where
      by : (ps : List Summand) (n : ℤ) → Agree (record { sum = ps; constant = n }) → Agree (form_product (record { sum = ps; constant = n }) g)
      by [] n h = times n g b
      by (p ∷ ps) n h = times g.constant (record { sum = p ∷ ps; constant = n }) h

  module _ (op : Form → Form → Form) (keeps : (f g : Form) → Agree f → Agree g → Agree (op f g)) where
    folded_from : (f : Form) (gs : List Form) → Agree f → AllAgree gs → Agree (fold_forms op f gs)
    folded_from f [] a b = a
    folded_from f (g ∷ gs) a b = folded_from (op f g) gs (keeps f g a b.0) b.1

    all_folded : (fs : List Form) → AllAgree fs → Agree (folded op fs)
    all_folded [] a = refl
    all_folded (f ∷ fs) a = folded_from f fs a.0 a.1

  subtracted : (fs : List Form) → AllAgree fs → Agree (difference_form fs)
  subtracted [] a = refl
  subtracted (f ∷ []) a = times (negsuc zero) f a.0
  subtracted (f ∷ g ∷ gs) a = folded_from form_minus taken f (g ∷ gs) a.0 a.1

  module _ (ts : List Tree) (ds : List Declaration) where
    abbrev AgreeAt : Tree → Type 0
    AgreeAt u = is_leaf u ≡ true → IsInt ds u → w (place_of u ts) ≡ x (place_of u ts)

    mutual
      pub forms_agree : (t : Tree) → IsInt ds t → ((u : Tree) → IsPart u t → AgreeAt u) → Agree (linear_form ts t)
      forms_agree (node (Numeral n) us) i leaves = refl
      forms_agree (node (Theory Add) us) i leaves = all_folded form_plus added (linear_forms ts us) (all_agree us (inner_ints ds Add us (λ ss. refl) i) (λ u q. leaves u (inr q)))
      forms_agree (node (Theory Subtract) us) i leaves = subtracted (linear_forms ts us) (all_agree us (inner_ints ds Subtract us (λ ss. refl) i) (λ u q. leaves u (inr q)))
      forms_agree (node (Theory Multiply) us) i leaves =
          all_folded form_product multiplied (linear_forms ts us) (all_agree us (inner_ints ds Multiply us (λ ss. refl) i) (λ u q. leaves u (inr q)))
      forms_agree (node h us) i leaves = ap (λ z. (pos 1 *ℤ z +ℤ pos 0) +ℤ pos 0) (leaves (node h us) (inl refl) refl i)

      all_agree : (us : Trees) → AreInts ds us → ((u : Tree) → IsPartOfOne u us → AgreeAt u) → AllAgree (linear_forms ts us)
      all_agree none i leaves = tt
      all_agree (more u us) i leaves = (forms_agree u i.0 (λ v q. leaves v (inl q)), all_agree us i.1 (λ v q. leaves v (inr q)))

-- ---- listed numbers

pub numbers_of_forms : ListedNumbersAreOfForms
unfolding number_of_place
numbers_of_forms s marks b truths elements vs values lawful parts size p m int =
    forms_agree (number_at vs) (numbers_of b.bounds) s.trees (signature_of s.frames) (tree_at s.trees p) int leaf_at
  where
    leaf_at : (u : Tree) → IsPart u (tree_at s.trees p) → is_leaf u ≡ true → IsInt (signature_of s.frames) u → number_at vs (place_of u s.trees) ≡ numbers_of b.bounds (place_of u s.trees)
    leaf_at u q leaf i =
        let whole = parts.only p m in
        let there = parts.each u (record { assertion = whole.assertion; asserted = whole.asserted; part = part_of_part u (tree_at s.trees p) whole.assertion q whole.part }) in
        let k : ℕ = there.0 in
        let less : k < length s.trees = subst (λ n. k < n) size (mark_within marks k there.1) in
        let value : IsListedNumber b k (is_leaf (tree_at s.trees k)) (listed vs k) = values k Ints less there.1 (ap (tree_sort (signature_of s.frames)) there.2 ∙ i) in
        subst (λ j. number_at vs j ≡ numbers_of b.bounds j) (sym (place_of-is u s.trees k (different_of s.trees lawful.in_order) less there.2))
        (ap number_of (value.of_leaf (ap is_leaf there.2 ∙ leaf)).number)
