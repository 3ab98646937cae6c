-- The sorts of a term's arguments and of its parts.
use Rattle.std.proofs.Common.{◌≡◌, inl, inr, ℕ, Bool, true, false, List, [], ◌∷◌, Some, length, All, subst, sym, ap, ◌∙◌, refl}
use Rattle.std.proofs.lemmas.Bool.{eqb-true}
use Rattle.std.proofs.lemmas.List.Elements.{All-nil, All-cons}
use Rattle.smt_laws.proofs.Both.{and_left, and_right}
use Rattle.smt_meaning.specs.declared.values.Sort.{Sort}
use Rattle.smt_meaning.specs.declared.values.Sort.TheVariants.{Bool as Truths, Int as Ints, Free}
use Rattle.smt_meaning.specs.declared.terms.Operator.TheVariants.{Distinct}
use Rattle.smt_meaning.specs.declared.terms.Head.TheVariants.{Theory}
use Rattle.smt_meaning.specs.Declaration.{Declaration}
use Rattle.smt_meaning.specs.Term.{Tree, Trees, node, none, more, tree_at}
use Rattle.smt_meaning.specs.Nodes.{pick}
use Rattle.smt_meaning.specs.Parts.{IsPart, IsPartOfOne}
use Rattle.smt_meaning.specs.Signature.{tree_sort, tree_sorts, operator_sort, if_so, all_of, all_the_same, sort_eq, stands_with}
use Rattle.term_store.specs.Terms.{tree_with}
use Rattle.scope_stack.proofs.SortLemmas.{HasArguments, arguments_of, HasFirst, first_of, stands_so}

-- ---- parts

abbrev pub HasSort : List Declaration → Tree → Type 0
HasSort ds t = (s : Sort) × (tree_sort ds t ≡ Some s)

mutual
  pub part_has_sort : (ds : List Declaration) (u t : Tree) → IsPart u t → HasSort ds t → HasSort ds u
  part_has_sort ds u (node h us) (inl e) s = subst (HasSort ds) (sym e) s
  part_has_sort ds u (node h us) (inr q) s = let a : HasArguments ds h us s.0 = arguments_of ds h us s.0 s.1 in some_has_sort ds u us a.sorts q a.are

  some_has_sort : (ds : List Declaration) (u : Tree) (us : Trees) (ss : List Sort) → IsPartOfOne u us → tree_sorts ds us ≡ Some ss → HasSort ds u
  some_has_sort ds u none ss q e = absurd q
  some_has_sort ds u (more t us) ss (inl q) e = let f : HasFirst ds t us ss = first_of ds t us ss e in part_has_sort ds u t q (f.first, f.here)
  some_has_sort ds u (more t us) ss (inr q) e = let f : HasFirst ds t us ss = first_of ds t us ss e in some_has_sort ds u us f.rest q f.later

-- ---- operators

pub sort_is : (a b : Sort) → sort_eq a b ≡ true → a ≡ b
sort_is Truths Truths h = refl
sort_is Truths Ints h = absurd cc
sort_is Truths (Free b) h = absurd cc
sort_is Ints Truths h = absurd cc
sort_is Ints Ints h = refl
sort_is Ints (Free b) h = absurd cc
sort_is (Free a) Truths h = absurd cc
sort_is (Free a) Ints h = absurd cc
sort_is (Free a) (Free b) h = ap Free (eqb-true a b h)

pub if_so_true : (b : Bool) (r s : Sort) → if_so b r ≡ Some s → b ≡ true
if_so_true true r s h = refl
if_so_true false r s h = absurd cc

module _ (ds : List Declaration) (trees : List Tree) where
  -- ---- arguments of one sort

  pub all_of_one : (r : Sort) (is : List ℕ) (ss : List Sort) → tree_sorts ds (pick trees is) ≡ Some ss → all_of r ss ≡ true → All (λ i. tree_sort ds (tree_at trees i) ≡ Some r) is
  all_of_one r [] ss e a = All-nil (λ i. tree_sort ds (tree_at trees i) ≡ Some r)
  all_of_one r (i ∷ is) ss e a =
      let f : HasFirst ds (tree_at trees i) (pick trees is) ss = first_of ds (tree_at trees i) (pick trees is) ss e in
      let b : all_of r (f.first ∷ f.rest) ≡ true = subst (λ xs. all_of r xs ≡ true) f.are a in
      All-cons (λ j. tree_sort ds (tree_at trees j) ≡ Some r) i is (f.here ∙ ap Some (sym (sort_is r f.first (and_left (sort_eq r f.first) _ b))))
      (all_of_one r is f.rest f.later (and_right (sort_eq r f.first) _ b))

  pub record HaveOneSort (is : List ℕ) : Type 0 where
    pub sort : Sort
    pub each : All (λ i. tree_sort ds (tree_at trees i) ≡ Some sort) is

  one_sort : (is : List ℕ) (ss : List Sort) → tree_sorts ds (pick trees is) ≡ Some ss → all_the_same ss ≡ true → HaveOneSort is
  one_sort [] ss e a = record { sort = Truths; each = All-nil (λ i. tree_sort ds (tree_at trees i) ≡ Some Truths) }
  one_sort (i ∷ is) ss e a =
      let f : HasFirst ds (tree_at trees i) (pick trees is) ss = first_of ds (tree_at trees i) (pick trees is) ss e in
      let b : all_of f.first f.rest ≡ true = subst (λ xs. all_the_same xs ≡ true) f.are a in
      record { sort = f.first; each = All-cons (λ j. tree_sort ds (tree_at trees j) ≡ Some f.first) i is f.here (all_of_one f.first is f.rest f.later b) }

  pub distinct_sort : (is : List ℕ) (s : Sort) → tree_sort ds (tree_with trees (Theory Distinct) is) ≡ Some s → HaveOneSort is
  distinct_sort is s e =
      let args : HasArguments ds (Theory Distinct) (pick trees is) s = arguments_of ds (Theory Distinct) (pick trees is) s e in
      one_sort is args.sorts args.are
      (if_so_true (all_the_same args.sorts) Truths s (stands_so (stands_with Distinct (length args.sorts)) (operator_sort Distinct args.sorts) s args.made))
