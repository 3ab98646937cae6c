-- A propositional term has the sort Bool, and so has each part of it.
use Rattle.std.proofs.Common.{◌≡◌, ℕ, suc, Bool, true, false, ◌&&◌, not, ◌+◌, List, [], ◌∷◌, ◌∙◌, Option, Some, None, length, nat_eq, if◌then◌else◌, arith, subst, sym, ap, refl}
use Rattle.std.specs.List.{list_all}
use Rattle.std.proofs.lemmas.Bool.{eqb-true}
use Rattle.smt_meaning.specs.declared.values.Sort.{Sort}
use Rattle.smt_meaning.specs.declared.values.Sort.TheVariants.{Bool as Truths, Int as Ints, Free}
use Rattle.smt_meaning.specs.declared.terms.Operator.{Operator}
use Rattle.smt_meaning.specs.declared.terms.Operator.TheVariants.{True, False, Not, And, Or, Xor, Implies, Equal, Distinct, Ite, Add, Subtract, Multiply, AtMost, Less, AtLeast, Greater, Divide, Modulo, Absolute, Divisible}
use Rattle.smt_meaning.specs.declared.terms.Head.{Head}
use Rattle.smt_meaning.specs.declared.terms.Head.TheVariants.{Numeral, Theory, Symbol, Place}
use Rattle.smt_meaning.specs.Declaration.{Declaration}
use Rattle.smt_meaning.specs.Term.{Tree, Trees, node, none, more}
use Rattle.smt_meaning.specs.Signature.{tree_sort, tree_sorts, head_sort, with_sorts, operator_sort, symbol_sort, function_with_id, if_so, all_of, all_the_same, stands_with, is_bool, is_int}
use Rattle.smt_meaning.specs.Stack.{signature_of, assertions_of}
use Rattle.smt_meaning.specs.Kinds.{is_connective, count_trees, is_propositional_head, is_propositional_tree, are_propositional_trees, has_no_int, have_no_int}
use Rattle.smt_laws.specs.KindLaws.{PropositionalHasNoIntegers}

left_true : (a b : Bool) → (a && b) ≡ true → a ≡ true
left_true true b h = refl
left_true false b h = h

right_true : (a b : Bool) → (a && b) ≡ true → b ≡ true
right_true true b h = h
right_true false b h = absurd cc

both_true : (a b : Bool) → a ≡ true → b ≡ true → (a && b) ≡ true
both_true a b p q = rw (p, q)

-- as many sorts Bool as there are trees
abbrev truths_of : Trees → List Sort
truths_of none = []
truths_of (more t ts) = Truths ∷ truths_of ts

counted : (ts : Trees) → length (truths_of ts) ≡ count_trees ts
counted none = refl
counted (more t ts) = let e : length (truths_of ts) ≡ count_trees ts = counted ts in omega arith

all_truths : (ts : Trees) → all_of Truths (truths_of ts) ≡ true
all_truths none = refl
all_truths (more t ts) = all_truths ts

all_alike : (ts : Trees) → all_the_same (truths_of ts) ≡ true
all_alike none = refl
all_alike (more t ts) = all_truths ts

given_all : (ts : Trees) → if_so (all_of Truths (truths_of ts)) Truths ≡ Some Truths
given_all ts = rw (all_truths ts)

given_alike : (ts : Trees) → if_so (all_the_same (truths_of ts)) Truths ≡ Some Truths
given_alike ts = rw (all_alike ts)

-- ---- a connective over Bools gives a Bool

choice_is_truth : (ts : Trees) → nat_eq (length (truths_of ts)) 3 ≡ true → operator_sort Ite (truths_of ts) ≡ Some Truths
choice_is_truth none h = absurd cc
choice_is_truth (more a none) h = absurd cc
choice_is_truth (more a (more b none)) h = absurd cc
choice_is_truth (more a (more b (more c none))) h = refl
choice_is_truth (more a (more b (more c (more d ts)))) h =
    let q : suc (suc (suc (suc (length (truths_of ts))))) ≡ 3 = eqb-true (suc (suc (suc (suc (length (truths_of ts)))))) 3 h in absurd (omega arith)

connective_is_truth : (o : Operator) (ts : Trees) → is_connective o ≡ true → stands_with o (length (truths_of ts)) ≡ true → operator_sort o (truths_of ts) ≡ Some Truths
connective_is_truth True ts a h = refl
connective_is_truth False ts a h = refl
connective_is_truth Not ts a h = given_all ts
connective_is_truth And ts a h = given_all ts
connective_is_truth Or ts a h = given_all ts
connective_is_truth Xor ts a h = given_all ts
connective_is_truth Implies ts a h = given_all ts
connective_is_truth Equal ts a h = given_alike ts
connective_is_truth Distinct ts a h = given_alike ts
connective_is_truth Ite ts a h = choice_is_truth ts h
connective_is_truth Add ts a h = absurd cc
connective_is_truth Subtract ts a h = absurd cc
connective_is_truth Multiply ts a h = absurd cc
connective_is_truth AtMost ts a h = absurd cc
connective_is_truth Less ts a h = absurd cc
connective_is_truth AtLeast ts a h = absurd cc
connective_is_truth Greater ts a h = absurd cc
connective_is_truth Divide ts a h = absurd cc
connective_is_truth Modulo ts a h = absurd cc
connective_is_truth Absolute ts a h = absurd cc
connective_is_truth Divisible ts a h = absurd cc

if_standing : (b : Bool) (s : Option Sort) → b ≡ true → (if b then s else None) ≡ s
if_standing b s h = rw h

bool_is : (s : Option Sort) → is_bool s ≡ true → s ≡ Some Truths
bool_is None h = absurd cc
bool_is (Some Truths) h = refl
bool_is (Some Ints) h = absurd cc
bool_is (Some (Free n)) h = absurd cc

symbol_is_truth : (ds : List Declaration) (f : ℕ) (ts : Trees) → is_propositional_head ds (Symbol f) (count_trees ts) ≡ true → symbol_sort (function_with_id f ds) (truths_of ts) ≡ Some Truths
symbol_is_truth ds f none h = bool_is (symbol_sort (function_with_id f ds) []) (right_true (nat_eq 0 0) (is_bool (symbol_sort (function_with_id f ds) [])) h)
symbol_is_truth ds f (more t ts) h =
    let q : count_trees ts + 1 ≡ 0 = eqb-true (count_trees ts + 1) 0 (left_true (nat_eq (count_trees ts + 1) 0) (is_bool (symbol_sort (function_with_id f ds) [])) h) in absurd (omega arith)

head_is_truth : (ds : List Declaration) (h : Head) (ts : Trees) → is_propositional_head ds h (count_trees ts) ≡ true → head_sort ds h (truths_of ts) ≡ Some Truths
head_is_truth ds (Numeral n) ts b = absurd cc
head_is_truth ds (Place k) ts b = absurd cc
head_is_truth ds (Symbol f) ts b = symbol_is_truth ds f ts b
head_is_truth ds (Theory o) ts b =
    let stands : stands_with o (length (truths_of ts)) ≡ true = subst (λ n. stands_with o n ≡ true) (sym (counted ts)) (right_true (is_connective o) (stands_with o (count_trees ts)) b) in
    if_standing (stands_with o (length (truths_of ts))) (operator_sort o (truths_of ts)) stands ∙
    connective_is_truth o ts (left_true (is_connective o) (stands_with o (count_trees ts)) b) stands

mutual
  is_truth : (ds : List Declaration) (t : Tree) → is_propositional_tree ds t ≡ true → tree_sort ds t ≡ Some Truths
  is_truth ds (node h ts) b =
      ap (with_sorts ds h) (are_truths ds ts (right_true (is_propositional_head ds h (count_trees ts)) (are_propositional_trees ds ts) b)) ∙
      head_is_truth ds h ts (left_true (is_propositional_head ds h (count_trees ts)) (are_propositional_trees ds ts) b)

  are_truths : (ds : List Declaration) (ts : Trees) → are_propositional_trees ds ts ≡ true → tree_sorts ds ts ≡ Some (truths_of ts)
  are_truths ds none b = refl
  are_truths ds (more t ts) b =
      rw (is_truth ds t (left_true (is_propositional_tree ds t) (are_propositional_trees ds ts) b), are_truths ds ts (right_true (is_propositional_tree ds t) (are_propositional_trees ds ts) b))

mutual
  without : (ds : List Declaration) (t : Tree) → is_propositional_tree ds t ≡ true → has_no_int ds t ≡ true
  without ds (node h ts) b =
      both_true (not (is_int (tree_sort ds (node h ts)))) (have_no_int ds ts) (subst (λ s. not (is_int s) ≡ true) (sym (is_truth ds (node h ts) b)) refl)
      (withouts ds ts (right_true (is_propositional_head ds h (count_trees ts)) (are_propositional_trees ds ts) b))

  withouts : (ds : List Declaration) (ts : Trees) → are_propositional_trees ds ts ≡ true → have_no_int ds ts ≡ true
  withouts ds none b = refl
  withouts ds (more t ts) b =
      both_true (has_no_int ds t) (have_no_int ds ts) (without ds t (left_true (is_propositional_tree ds t) (are_propositional_trees ds ts) b))
      (withouts ds ts (right_true (is_propositional_tree ds t) (are_propositional_trees ds ts) b))

all_without : (ds : List Declaration) (ts : List Tree) → list_all (is_propositional_tree ds) ts ≡ true → list_all (has_no_int ds) ts ≡ true
all_without ds [] h = refl
all_without ds (t ∷ ts) h =
    both_true (has_no_int ds t) (list_all (has_no_int ds) ts) (without ds t (left_true (is_propositional_tree ds t) (list_all (is_propositional_tree ds) ts) h))
    (all_without ds ts (right_true (is_propositional_tree ds t) (list_all (is_propositional_tree ds) ts) h))

pub propositional_without : PropositionalHasNoIntegers
propositional_without frames h = all_without (signature_of frames) (assertions_of frames) h
