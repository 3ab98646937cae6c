-- The tree that a term stands for has the term's sort, and the value that the term's head makes of those of its arguments.
use Rattle.std.proofs.Common.{◌≡◌, ℕ, zero, suc, Bool, true, false, nat_eq, List, [], ◌∷◌, length, map, Option, Some, None, ap, ap₂, sym, subst, ◌∙◌, refl, arith}
use Rattle.std.specs.Prelude.{ℤ, pos, if◌then◌else◌}
use Rattle.std.proofs.lemmas.Bool.{eqb-true}
use Rattle.smt_meaning.specs.declared.values.Value.{Value}
use Rattle.smt_meaning.specs.declared.values.Value.TheVariants.{Truth}
use Rattle.smt_meaning.specs.declared.values.Sort.{Sort}
use Rattle.smt_meaning.specs.declared.values.Sort.TheVariants.{Bool as Truths, Int as Ints, Free}
use Rattle.smt_meaning.specs.declared.terms.Operator.{Operator}
use Rattle.smt_meaning.specs.declared.terms.Operator.TheVariants.{Subtract, Divide, Modulo, Divisible}
use Rattle.smt_meaning.specs.declared.terms.Head.{Head}
use Rattle.smt_meaning.specs.declared.terms.Head.TheVariants.{Numeral, Theory, Symbol, Place}
use Rattle.smt_meaning.specs.Declaration.{Declaration}
use Rattle.smt_meaning.specs.Term.{Tree, Trees, node, none, more, tree_at, Interpretation, value, values, apply, number_of, int_eq, remainder}
use Rattle.smt_meaning.specs.TreeShape.{operation, quotient_tree, divided_from, is_divisor}
use Rattle.smt_meaning.specs.Nodes.{pick}
use Rattle.smt_meaning.specs.Clause.{value_at}
use Rattle.smt_meaning.specs.Signature.{sort_eq, all_of, if_so, stands_with, operator_sort, head_sort, cons_sort, with_sorts, tree_sort, tree_sorts}
use Rattle.proof_meaning.specs.Proof.{is_written, written_sort, with_term_sorts, term_sort, term_sorts, meant, all_meant, meant_at}
use Rattle.smt_laws.proofs.Both.{and_left, and_right}
use Rattle.smt_laws.proofs.EnvironmentLaw.{operation_value}

-- ---- lists of trees

pub meant_tree : (ts : List Tree) (i : ℕ) → tree_at (map meant ts) i ≡ meant (tree_at ts i)
meant_tree [] i = refl
meant_tree (t ∷ ts) zero = refl
meant_tree (t ∷ ts) (suc i) = meant_tree ts i

pub meant_picked : (ts : List Tree) (is : List ℕ) → pick (map meant ts) is ≡ all_meant (pick ts is)
meant_picked ts [] = refl
meant_picked ts (i ∷ is) = ap (λ t. more t (pick (map meant ts) is)) (meant_tree ts i) ∙ ap (more (meant (tree_at ts i))) (meant_picked ts is)

pub meant_value_at : (ts : List Tree) (I : Interpretation) (i : ℕ) → value_at (map meant ts) I i ≡ value I (meant (tree_at ts i))
meant_value_at ts I i = ap (value I) (meant_tree ts i)

-- ---- values

-- what a head makes of the values of the arguments that are written
abbrev pub apply_written : Interpretation → Head → List Value → Value
apply_written I (Numeral n) (v ∷ []) = Truth (int_eq (remainder (number_of v) n) (pos 0))
apply_written I h vs = apply I h vs

pub written_value : (I : Interpretation) (h : Head) (us : Trees) → value I (meant_at h us) ≡ apply_written I h (values I us)
written_value I (Numeral n) none = refl
written_value I (Numeral n) (more u none) = refl
written_value I (Numeral n) (more u (more v us)) = refl
written_value I (Theory o) us = operation_value I [] o us
written_value I (Symbol f) us = refl
written_value I (Place k) us = refl

-- a divisor stands for itself
pub meant_divisor : (t : Tree) → is_divisor t ≡ true → meant t ≡ t
meant_divisor (node (Numeral n) none) h = refl
meant_divisor (node (Theory Subtract) (more (node (Numeral n) none) none)) h = refl
meant_divisor t h = cc

-- ---- sorts

some_is : (r s : Sort) → Some r ≡ Some s → r ≡ s
some_is r s h = cc

some_list : (rs ss : List Sort) → Some rs ≡ Some ss → rs ≡ ss
some_list rs ss h = cc

-- the sorts of the first and of the others
pub record Split (o : Option Sort) (p : Option (List Sort)) (ss : List Sort) : Type 0 where
  pub first : Sort
  pub others : List Sort
  pub first_is : o ≡ Some first
  pub others_are : p ≡ Some others
  pub all : first ∷ others ≡ ss

pub split : (o : Option Sort) (p : Option (List Sort)) (ss : List Sort) → cons_sort o p ≡ Some ss → Split o p ss
split None p ss e = absurd (cc)
split (Some r) None ss e = absurd (cc)
split (Some r) (Some rs) ss e = record { first = r; others = rs; first_is = refl; others_are = refl; all = some_list (r ∷ rs) ss e }

pub is_so : (b : Bool) (r s : Sort) → if_so b r ≡ Some s → (b ≡ true) × (r ≡ s)
is_so true r s e = (refl, some_is r s e)
is_so false r s e = absurd (cc)

int_is : (s : Sort) → sort_eq Ints s ≡ true → s ≡ Ints
int_is Ints h = refl
int_is Truths h = cc
int_is (Free k) h = cc

pub first_int : (s : Sort) (ss : List Sort) → all_of Ints (s ∷ ss) ≡ true → s ≡ Ints
first_int s ss h = int_is s (and_left (sort_eq Ints s) (all_of Ints ss) h)

pub other_ints : (s : Sort) (ss : List Sort) → all_of Ints (s ∷ ss) ≡ true → all_of Ints ss ≡ true
other_ints s ss h = and_right (sort_eq Ints s) (all_of Ints ss) h

quotient_sort : (ds : List Declaration) (t u : Tree) → tree_sort ds t ≡ Some Ints → tree_sort ds u ≡ Some Ints → tree_sort ds (quotient_tree t u) ≡ Some Ints
quotient_sort ds t u h k = ap₂ (λ o p. with_sorts ds (Theory Divide) (cons_sort o (cons_sort p (Some [])))) h k

divided_sort : (ds : List Declaration) (t : Tree) (us : Trees) (ss : List Sort) → tree_sort ds t ≡ Some Ints → tree_sorts ds us ≡ Some ss → all_of Ints ss ≡ true
    → tree_sort ds (divided_from t us) ≡ Some Ints
divided_sort ds t none ss h e a = h
divided_sort ds t (more u us) ss h e a =
    let s : Split (tree_sort ds u) (tree_sorts ds us) ss = split (tree_sort ds u) (tree_sorts ds us) ss e in
    let ints : all_of Ints (s.first ∷ s.others) ≡ true = subst (λ xs. all_of Ints xs ≡ true) (sym s.all) a in
    divided_sort ds (quotient_tree t u) us s.others (quotient_sort ds t u h (s.first_is ∙ ap Some (first_int s.first s.others ints))) s.others_are (other_ints s.first s.others ints)

left_over_sort : (ds : List Declaration) (o : Operator) (t u : Tree) → tree_sort ds t ≡ Some Ints → tree_sort ds u ≡ Some Ints
    → tree_sort ds (node (Theory o) (more t (more u (more (quotient_tree t u) none)))) ≡ head_sort ds (Theory o) (Ints ∷ Ints ∷ Ints ∷ [])
left_over_sort ds o t u h k =
    ap₂ (λ p q. with_sorts ds (Theory o) (cons_sort p (cons_sort q (cons_sort (tree_sort ds (quotient_tree t u)) (Some []))))) h k
    ∙ ap (λ p. with_sorts ds (Theory o) (cons_sort (Some Ints) (cons_sort (Some Ints) (cons_sort p (Some []))))) (quotient_sort ds t u h k)

-- as it stands
plain : (ds : List Declaration) (o : Operator) (us : Trees) (ss : List Sort) (s : Sort) → tree_sorts ds us ≡ Some ss → stands_with o (length ss) ≡ true → operator_sort o ss ≡ Some s
    → tree_sort ds (node (Theory o) us) ≡ Some s
plain ds o us ss s e h k = ap (with_sorts ds (Theory o)) e ∙ ap (λ b. if b then operator_sort o ss else None) h ∙ k

two_of_three : (n : ℕ) → nat_eq (suc (suc (suc n))) 2 ≡ true → ⊥
two_of_three n h = let q : suc (suc (suc n)) ≡ 2 = eqb-true (suc (suc (suc n))) 2 h in omega (arith, q)

-- two arguments
remainder_sort : (ds : List Declaration) (us : Trees) (ss : List Sort) (s : Sort) → tree_sorts ds us ≡ Some ss → nat_eq (length ss) 2 ≡ true → if_so (all_of Ints ss) Ints ≡ Some s
    → tree_sort ds (operation Modulo us) ≡ Some s
remainder_sort ds none ss s e h k = let q : nat_eq 0 2 ≡ true = subst (λ xs. nat_eq (length xs) 2 ≡ true) (sym (some_list [] ss e)) h in cc
remainder_sort ds (more t none) ss s e h k =
    let a : Split (tree_sort ds t) (Some []) ss = split (tree_sort ds t) (Some []) ss e in
    let q : nat_eq (length (a.first ∷ a.others)) 2 ≡ true = subst (λ xs. nat_eq (length xs) 2 ≡ true) (sym a.all) h in
    let r : nat_eq 1 2 ≡ true = subst (λ xs. nat_eq (suc (length xs)) 2 ≡ true) (sym (some_list [] a.others a.others_are)) q in
    cc
remainder_sort ds (more t (more u none)) ss s e h k =
    let a : Split (tree_sort ds t) (cons_sort (tree_sort ds u) (Some [])) ss = split (tree_sort ds t) (cons_sort (tree_sort ds u) (Some [])) ss e in
    let b : Split (tree_sort ds u) (Some []) a.others = split (tree_sort ds u) (Some []) a.others a.others_are in
    let are : (all_of Ints ss ≡ true) × (Ints ≡ s) = is_so (all_of Ints ss) Ints s k in
    let ints : all_of Ints (a.first ∷ a.others) ≡ true = subst (λ xs. all_of Ints xs ≡ true) (sym a.all) are.0 in
    let later : all_of Ints (b.first ∷ b.others) ≡ true = subst (λ xs. all_of Ints xs ≡ true) (sym b.all) (other_ints a.first a.others ints) in
    left_over_sort ds Modulo t u (a.first_is ∙ ap Some (first_int a.first a.others ints)) (b.first_is ∙ ap Some (first_int b.first b.others later)) ∙ ap Some are.1
remainder_sort ds (more t (more u (more v us))) ss s e h k =
    let a : Split (tree_sort ds t) (tree_sorts ds (more u (more v us))) ss = split (tree_sort ds t) (tree_sorts ds (more u (more v us))) ss e in
    let b : Split (tree_sort ds u) (tree_sorts ds (more v us)) a.others = split (tree_sort ds u) (tree_sorts ds (more v us)) a.others a.others_are in
    let c : Split (tree_sort ds v) (tree_sorts ds us) b.others = split (tree_sort ds v) (tree_sorts ds us) b.others b.others_are in
    let all : a.first ∷ b.first ∷ c.first ∷ c.others ≡ ss = ap (λ xs. a.first ∷ b.first ∷ xs) c.all ∙ ap (λ xs. a.first ∷ xs) b.all ∙ a.all in
    absurd (two_of_three (length c.others) (subst (λ xs. nat_eq (length xs) 2 ≡ true) (sym all) h))

division_sort : (ds : List Declaration) (us : Trees) (ss : List Sort) (s : Sort) → tree_sorts ds us ≡ Some ss → is_written Divide (length ss) ≡ true → if_so (all_of Ints ss) Ints ≡ Some s
    → tree_sort ds (operation Divide us) ≡ Some s
division_sort ds none ss s e h k = let q : is_written Divide 0 ≡ true = subst (λ xs. is_written Divide (length xs) ≡ true) (sym (some_list [] ss e)) h in cc
division_sort ds (more t us) ss s e h k =
    let a : Split (tree_sort ds t) (tree_sorts ds us) ss = split (tree_sort ds t) (tree_sorts ds us) ss e in
    let are : (all_of Ints ss ≡ true) × (Ints ≡ s) = is_so (all_of Ints ss) Ints s k in
    let ints : all_of Ints (a.first ∷ a.others) ≡ true = subst (λ xs. all_of Ints xs ≡ true) (sym a.all) are.0 in
    divided_sort ds t us a.others (a.first_is ∙ ap Some (first_int a.first a.others ints)) a.others_are (other_ints a.first a.others ints) ∙ ap Some are.1

operation_sort : (ds : List Declaration) (o : Operator) (us : Trees) (ss : List Sort) (s : Sort) → tree_sorts ds us ≡ Some ss → is_written o (length ss) ≡ true → operator_sort o ss ≡ Some s
    → tree_sort ds (operation o us) ≡ Some s
operation_sort ds Divide us ss s e h k = division_sort ds us ss s e h k
operation_sort ds Modulo us ss s e h k = remainder_sort ds us ss s e h k
operation_sort ds Divisible us ss s e h k = cc
operation_sort ds o us ss s e h k = plain ds o us ss s e h k

-- a numeral alone, or with what it is to divide
numeral_sort : (ds : List Declaration) (n : ℤ) (us : Trees) (ss : List Sort) (s : Sort) → tree_sorts ds us ≡ Some ss → written_sort ds (Numeral n) ss ≡ Some s
    → tree_sort ds (meant_at (Numeral n) us) ≡ Some s
numeral_sort ds n none ss s e k = subst (λ xs. written_sort ds (Numeral n) xs ≡ Some s) (sym (some_list [] ss e)) k
numeral_sort ds n (more u none) ss s e k =
    let a : Split (tree_sort ds u) (Some []) ss = split (tree_sort ds u) (Some []) ss e in
    let one : a.first ∷ [] ≡ ss = ap (λ xs. a.first ∷ xs) (some_list [] a.others a.others_are) ∙ a.all in
    let are : (sort_eq a.first Ints ≡ true) × (Truths ≡ s) = is_so (sort_eq a.first Ints) Truths s (subst (λ xs. written_sort ds (Numeral n) xs ≡ Some s) (sym one) k) in
    left_over_sort ds Divisible u (node (Numeral n) none) (a.first_is ∙ ap Some (is_int a.first are.0)) refl ∙ ap Some are.1
  where
    is_int : (r : Sort) → sort_eq r Ints ≡ true → r ≡ Ints
    is_int Ints h = refl
    is_int Truths h = cc
    is_int (Free j) h = cc
numeral_sort ds n (more u (more v us)) ss s e k =
    let a : Split (tree_sort ds u) (tree_sorts ds (more v us)) ss = split (tree_sort ds u) (tree_sorts ds (more v us)) ss e in
    let b : Split (tree_sort ds v) (tree_sorts ds us) a.others = split (tree_sort ds v) (tree_sorts ds us) a.others a.others_are in
    let all : a.first ∷ b.first ∷ b.others ≡ ss = ap (λ xs. a.first ∷ xs) b.all ∙ a.all in
    let q : None ≡ Some s = subst (λ xs. written_sort ds (Numeral n) xs ≡ Some s) (sym all) k in
    absurd (cc)

pub written_head : (b : Bool) (o : Option Sort) (s : Sort) → (if b then o else None) ≡ Some s → (b ≡ true) × (o ≡ Some s)
written_head true o s e = (refl, e)
written_head false o s e = absurd (cc)

at_sort : (ds : List Declaration) (h : Head) (us : Trees) (ss : List Sort) (s : Sort) → tree_sorts ds us ≡ Some ss → written_sort ds h ss ≡ Some s → tree_sort ds (meant_at h us) ≡ Some s
at_sort ds (Numeral n) us ss s e k = numeral_sort ds n us ss s e k
at_sort ds (Theory o) us ss s e k =
    let are : (is_written o (length ss) ≡ true) × (operator_sort o ss ≡ Some s) = written_head (is_written o (length ss)) (operator_sort o ss) s k in
    operation_sort ds o us ss s e are.0 are.1
at_sort ds (Symbol f) us ss s e k = ap (with_sorts ds (Symbol f)) e ∙ k
at_sort ds (Place j) us ss s e k = absurd (cc)

-- those of the arguments
pub record Sorted (ds : List Declaration) (h : Head) (us : Trees) (s : Sort) : Type 0 where
  pub sorts : List Sort
  pub arguments : term_sorts ds us ≡ Some sorts
  pub whole : written_sort ds h sorts ≡ Some s

pub sorted : (ds : List Declaration) (h : Head) (us : Trees) (s : Sort) → term_sort ds (node h us) ≡ Some s → Sorted ds h us s
sorted ds h us s e = go (term_sorts ds us) refl e
  where
    go : (o : Option (List Sort)) → term_sorts ds us ≡ o → with_term_sorts ds h o ≡ Some s → Sorted ds h us s
    go None p q = absurd (cc)
    go (Some ss) p q = record { sorts = ss; arguments = p; whole = q }

mutual
  pub meant_sort : (ds : List Declaration) (t : Tree) (s : Sort) → term_sort ds t ≡ Some s → tree_sort ds (meant t) ≡ Some s
  meant_sort ds (node h us) s e = let a : Sorted ds h us s = sorted ds h us s e in at_sort ds h (all_meant us) a.sorts s (meant_sorts ds us a.sorts a.arguments) a.whole

  meant_sorts : (ds : List Declaration) (us : Trees) (ss : List Sort) → term_sorts ds us ≡ Some ss → tree_sorts ds (all_meant us) ≡ Some ss
  meant_sorts ds none ss e = e
  meant_sorts ds (more u us) ss e =
      let a : Split (term_sort ds u) (term_sorts ds us) ss = split (term_sort ds u) (term_sorts ds us) ss e in
      ap₂ cons_sort (meant_sort ds u a.first a.first_is) (meant_sorts ds us a.others a.others_are) ∙ ap Some a.all
