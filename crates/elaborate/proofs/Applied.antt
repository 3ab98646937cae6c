-- Applications, case by case.
use Rattle.std.proofs.Common.{◌≡◌, ℕ, List, [], ◌∷◌, suc, length, ap, sym, subst, ◌∙◌, refl, Bool, true, false, ◌&&◌, ◌||◌, not, map, Option, Some, None, nat_eq}
use Rattle.std.specs.Prelude.{nat_le, Result, Ok, Err, IfOk, OnErr}
use Rattle.smt_meaning.specs.declared.values.Sort.{Sort}
use Rattle.smt_meaning.specs.declared.values.Sort.TheVariants.{Bool as Truths}
use Rattle.smt_meaning.specs.declared.terms.Head.TheVariants.{Theory, Symbol as Function}
use Rattle.smt_meaning.specs.declared.terms.Operator.{Operator}
use Rattle.smt_meaning.specs.declared.terms.Operator.TheVariants.{True, False, Not, And, Or, Xor, Implies, Equal, Distinct, Ite, Add, Subtract, Multiply, AtMost, Less, AtLeast, Greater, Divide, Modulo, Absolute, Divisible}
use Rattle.smt_meaning.specs.declared.refusals.Refusal.{Refusal}
use Rattle.smt_meaning.specs.declared.refusals.Refusal.TheVariants.{ArgumentCount, SortsDiffer, NotLinear}
use Rattle.smt_meaning.specs.Declaration.{Declaration, Body}
use Rattle.smt_meaning.specs.Term.{Tree, Trees, node, none, tree_at}
use Rattle.smt_meaning.specs.TreeShape.{are_linear, is_linear_operation, operation, with_parts}
use Rattle.smt_meaning.specs.Signature.{takes, stands_with, operator_sort, sorts_eq}
use Rattle.smt_meaning.specs.Sorts.{Scope, done, refused, Judging, ◌>>=◌, ◌>>◌, return, refuse, require, required, note, found, trees_of, sorts_of, Typed, Rules, operator, function, judge_symbol, judge_operator, judge_application, judge_bare}
use Rattle.elaborate.specs.declared.value.Value.{Value}
use Rattle.elaborate.specs.declared.error.JudgeError.{JudgeError}
use Rattle.elaborate.specs.declared.error.JudgeError.TheVariants.{Refused, Memory}
use Rattle.elaborate.specs.Values.{sort_of, typed, AreValues, IsNode, IsTerm, Comes, IsErrorOf, all_linear}
use Rattle.elaborate.proofs.Stored.{linears}

abbrev at : Scope → List Tree → Scope
at s us = record s { trees = us }

pub comes_err : (m : Judging Typed) (s : Scope) (us : List Tree) (r : Refusal) (e : JudgeError) → m s ≡ refused r → IsErrorOf r e → Comes m s us (Err e)
comes_err m s us r (Refused x) h k = h ∙ ap refused (sym k)
comes_err m s us r Memory h k = tt

pub memory_err : (m : Judging Typed) (s : Scope) (us : List Tree) (e : JudgeError) → e ≡ Memory → Comes m s us (Err e)
memory_err m s us (Refused x) k = absurd (cc)
memory_err m s us Memory k = tt

pub error_is : (e : JudgeError) → (let x : Result Value JudgeError = Err e in x ≡ Err Memory) → e ≡ Memory
error_is e h = cc

-- ---- an operator

op_count : (r : Rules) (n : List ℕ) (o : Operator) (as' : List Typed) (s : Scope) → takes o (length as') ≡ false → judge_application r n (operator o) as' s ≡ refused (ArgumentCount n)
unfolding ◌>>=◌ ◌>>◌ return refuse require
op_count r n o as' s e = ap (λ b. (require b (ArgumentCount n) >> (required (operator_sort o (sorts_of as')) (SortsDiffer n) >>= (λ x. judge_operator r o (trees_of as') x))) s) e

op_sorts : (r : Rules) (n : List ℕ) (o : Operator) (as' : List Typed) (s : Scope) → takes o (length as') ≡ true → operator_sort o (sorts_of as') ≡ None → judge_application r n (operator o) as' s ≡ refused (SortsDiffer n)
unfolding ◌>>=◌ ◌>>◌ return refuse require required
op_sorts r n o as' s e f =
    ap (λ b. (require b (ArgumentCount n) >> (required (operator_sort o (sorts_of as')) (SortsDiffer n) >>= (λ x. judge_operator r o (trees_of as') x))) s) e
    ∙ ap (λ q. (required q (SortsDiffer n) >>= (λ x. judge_operator r o (trees_of as') x)) s) f

op_is : (r : Rules) (n : List ℕ) (o : Operator) (as' : List Typed) (x : Sort) (s : Scope) → takes o (length as') ≡ true → operator_sort o (sorts_of as') ≡ Some x
    → judge_application r n (operator o) as' s ≡ judge_operator r o (trees_of as') x s
unfolding ◌>>=◌ ◌>>◌ return refuse require required
op_is r n o as' x s e f =
    ap (λ b. (require b (ArgumentCount n) >> (required (operator_sort o (sorts_of as')) (SortsDiffer n) >>= (λ y. judge_operator r o (trees_of as') y))) s) e
    ∙ ap (λ q. (required q (SortsDiffer n) >>= (λ y. judge_operator r o (trees_of as') y)) s) f

op_linear : (r : Rules) (o : Operator) (us : Trees) (x : Sort) (s : Scope) → (not r.closed || is_linear_operation o us) ≡ false → judge_operator r o us x s ≡ refused NotLinear
unfolding ◌>>=◌ ◌>>◌ return refuse require note found
op_linear r o us x s e = ap (λ b. (require b NotLinear >> (note (operation o us ∷ []) >> found (operation o us) x)) s) e

pub op_done : (r : Rules) (o : Operator) (us : Trees) (x : Sort) (s : Scope) → (not r.closed || is_linear_operation o us) ≡ true
    → judge_operator r o us x s ≡ done (record { tree = operation o us; sort = x }) (at s (with_parts s.trees (operation o us)))
unfolding ◌>>=◌ ◌>>◌ return refuse require note found
op_done r o us x s e = ap (λ b. (require b NotLinear >> (note (operation o us ∷ []) >> found (operation o us) x)) s) e

counted : (ts : List Tree) (vs : List Value) → length (map (typed ts) vs) ≡ length vs
counted ts [] = refl
counted ts (v ∷ vs) = ap suc (counted ts vs)

sorted : (ts : List Tree) (vs : List Value) → sorts_of (map (typed ts) vs) ≡ map sort_of vs
sorted ts [] = refl
sorted ts (v ∷ vs) = ap (λ ss. v.sort ∷ ss) (sorted ts vs)

pub operator_count : (r : Rules) (n : List ℕ) (o : Operator) (vs : List Value) (s : Scope) (us : List Tree) (e : JudgeError) → takes o (length vs) ≡ false → IsErrorOf (ArgumentCount n) e
    → Comes (judge_application r n (operator o) (map (typed s.trees) vs)) s us (Err e)
operator_count r n o vs s us e h k = comes_err (judge_application r n (operator o) (map (typed s.trees) vs)) s us (ArgumentCount n) e (op_count r n o (map (typed s.trees) vs) s (ap (takes o) (counted s.trees vs) ∙ h)) k

pub operator_sorts : (r : Rules) (n : List ℕ) (o : Operator) (vs : List Value) (s : Scope) (us : List Tree) (e : JudgeError) → takes o (length vs) ≡ true → operator_sort o (map sort_of vs) ≡ None → IsErrorOf (SortsDiffer n) e
    → Comes (judge_application r n (operator o) (map (typed s.trees) vs)) s us (Err e)
operator_sorts r n o vs s us e h i k =
    comes_err (judge_application r n (operator o) (map (typed s.trees) vs)) s us (SortsDiffer n) e (op_sorts r n o (map (typed s.trees) vs) s (ap (takes o) (counted s.trees vs) ∙ h) (ap (operator_sort o) (sorted s.trees vs) ∙ i)) k

pub operator_linear : (r : Rules) (n : List ℕ) (o : Operator) (vs : List Value) (x : Sort) (s : Scope) → takes o (length vs) ≡ true → operator_sort o (map sort_of vs) ≡ Some x
    → (not r.closed || is_linear_operation o (trees_of (map (typed s.trees) vs))) ≡ false → judge_application r n (operator o) (map (typed s.trees) vs) s ≡ refused NotLinear
operator_linear r n o vs x s h i l =
    op_is r n o (map (typed s.trees) vs) x s (ap (takes o) (counted s.trees vs) ∙ h) (ap (operator_sort o) (sorted s.trees vs) ∙ i) ∙ op_linear r o (trees_of (map (typed s.trees) vs)) x s l

value_is : (h : Tree) (x : Sort) (us : List Tree) (v : Value) → tree_at us v.id ≡ h → v.sort ≡ x → record { tree = h; sort = x } ≡ typed us v
value_is h x us v e f = ap (λ t. record { tree = t; sort = x }) (sym e) ∙ ap (λ y. record { tree = tree_at us v.id; sort = y }) (sym f)

pub node_is : (h : Tree) (x : Sort) (s : Scope) (us : List Tree) (v : Value) → us ≡ with_parts s.trees h → tree_at us v.id ≡ h → v.sort ≡ x
    → done (record { tree = h; sort = x }) (at s (with_parts s.trees h)) ≡ done (typed us v) (at s us)
node_is h x s us v e f g = ap (λ ts. done (record { tree = h; sort = x }) (at s ts)) (sym e) ∙ ap (λ t. done t (at s us)) (value_is h x us v f g)

operator_stored : (r : Rules) (n : List ℕ) (o : Operator) (vs : List Value) (x : Sort) (s : Scope) (us : List Tree) (v : Value) → takes o (length vs) ≡ true → operator_sort o (map sort_of vs) ≡ Some x
    → (not r.closed || is_linear_operation o (trees_of (map (typed s.trees) vs))) ≡ true → IsTerm (operation o (trees_of (map (typed s.trees) vs))) x s.trees us v → Comes (judge_application r n (operator o) (map (typed s.trees) vs)) s us (Ok v)
operator_stored r n o vs x s us v h i l k = (
  op_is r n o (map (typed s.trees) vs) x s (ap (takes o) (counted s.trees vs) ∙ h) (ap (operator_sort o) (sorted s.trees vs) ∙ i)
      ∙ op_done r o (trees_of (map (typed s.trees) vs)) x s l
      ∙ node_is (operation o (trees_of (map (typed s.trees) vs))) x s us v k.trees k.tree k.sort,
  k.value,
)

pub operator_result : (r : Rules) (n : List ℕ) (o : Operator) (vs : List Value) (x : Sort) (s : Scope) (us : List Tree) (y : Result Value JudgeError) → takes o (length vs) ≡ true → operator_sort o (map sort_of vs) ≡ Some x
    → (not r.closed || is_linear_operation o (trees_of (map (typed s.trees) vs))) ≡ true → IfOk y (λ v. IsTerm (operation o (trees_of (map (typed s.trees) vs))) x s.trees us v) → OnErr y (y ≡ Err Memory)
    → Comes (judge_application r n (operator o) (map (typed s.trees) vs)) s us y
operator_result r n o vs x s us (Ok v) h i l k m = operator_stored r n o vs x s us v h i l k
operator_result r n o vs x s us (Err e) h i l k m = memory_err (judge_application r n (operator o) (map (typed s.trees) vs)) s us e (error_is e m)

-- ---- an operator that stands bare

pub or_true : (b : Bool) → (b || true) ≡ true
or_true true = refl
or_true false = refl

bare_is : (r : Rules) (n : List ℕ) (o : Operator) → stands_with o 0 ≡ true → judge_bare r n (operator o) ≡ judge_operator r o none Truths
bare_is r n True e = refl
bare_is r n False e = refl
bare_is r n Not e = absurd (cc)
bare_is r n And e = absurd (cc)
bare_is r n Or e = absurd (cc)
bare_is r n Xor e = absurd (cc)
bare_is r n Implies e = absurd (cc)
bare_is r n Equal e = absurd (cc)
bare_is r n Distinct e = absurd (cc)
bare_is r n Ite e = absurd (cc)
bare_is r n Add e = absurd (cc)
bare_is r n Subtract e = absurd (cc)
bare_is r n Multiply e = absurd (cc)
bare_is r n AtMost e = absurd (cc)
bare_is r n Less e = absurd (cc)
bare_is r n AtLeast e = absurd (cc)
bare_is r n Greater e = absurd (cc)
bare_is r n Divide e = absurd (cc)
bare_is r n Modulo e = absurd (cc)
bare_is r n Absolute e = absurd (cc)
bare_is r n Divisible e = absurd (cc)

bare_not : (r : Rules) (n : List ℕ) (o : Operator) (s : Scope) → stands_with o 0 ≡ false → judge_bare r n (operator o) s ≡ refused (ArgumentCount n)
unfolding refuse
bare_not r n True s e = absurd (cc)
bare_not r n False s e = absurd (cc)
bare_not r n Not s e = refl
bare_not r n And s e = refl
bare_not r n Or s e = refl
bare_not r n Xor s e = refl
bare_not r n Implies s e = refl
bare_not r n Equal s e = refl
bare_not r n Distinct s e = refl
bare_not r n Ite s e = refl
bare_not r n Add s e = refl
bare_not r n Subtract s e = refl
bare_not r n Multiply s e = refl
bare_not r n AtMost s e = refl
bare_not r n Less s e = refl
bare_not r n AtLeast s e = refl
bare_not r n Greater s e = refl
bare_not r n Divide s e = refl
bare_not r n Modulo s e = refl
bare_not r n Absolute s e = refl
bare_not r n Divisible s e = refl

linear_none : (o : Operator) → is_linear_operation o none ≡ true
linear_none True = refl
linear_none False = refl
linear_none Not = refl
linear_none And = refl
linear_none Or = refl
linear_none Xor = refl
linear_none Implies = refl
linear_none Equal = refl
linear_none Distinct = refl
linear_none Ite = refl
linear_none Add = refl
linear_none Subtract = refl
linear_none Multiply = refl
linear_none AtMost = refl
linear_none Less = refl
linear_none AtLeast = refl
linear_none Greater = refl
linear_none Divide = refl
linear_none Modulo = refl
linear_none Absolute = refl
linear_none Divisible = refl

bare_tree : (o : Operator) → operation o none ≡ node (Theory o) none
bare_tree True = refl
bare_tree False = refl
bare_tree Not = refl
bare_tree And = refl
bare_tree Or = refl
bare_tree Xor = refl
bare_tree Implies = refl
bare_tree Equal = refl
bare_tree Distinct = refl
bare_tree Ite = refl
bare_tree Add = refl
bare_tree Subtract = refl
bare_tree Multiply = refl
bare_tree AtMost = refl
bare_tree Less = refl
bare_tree AtLeast = refl
bare_tree Greater = refl
bare_tree Divide = refl
bare_tree Modulo = refl
bare_tree Absolute = refl
bare_tree Divisible = refl

pub bare_refused : (r : Rules) (n : List ℕ) (o : Operator) (s : Scope) (us : List Tree) (e : JudgeError) → stands_with o 0 ≡ false → IsErrorOf (ArgumentCount n) e → Comes (judge_bare r n (operator o)) s us (Err e)
bare_refused r n o s us e h k = comes_err (judge_bare r n (operator o)) s us (ArgumentCount n) e (bare_not r n o s h) k

pub bare_result : (r : Rules) (n : List ℕ) (o : Operator) (s : Scope) (us : List Tree) (y : Result Value JudgeError) → stands_with o 0 ≡ true → IfOk y (λ v. IsNode (Theory o) Truths [] s.trees us v) → OnErr y (y ≡ Err Memory)
    → Comes (judge_bare r n (operator o)) s us y
bare_result r n o s us (Ok v) h k m = (
  ap (λ j. j s) (bare_is r n o h)
      ∙ op_done r o none Truths s (ap (λ b. not r.closed || b) (linear_none o) ∙ or_true (not r.closed))
      ∙ node_is (operation o none) Truths s us v (k.trees ∙ ap (with_parts s.trees) (sym (bare_tree o))) (k.tree ∙ sym (bare_tree o)) k.sort,
  k.value,
)
bare_result r n o s us (Err e) h k m = memory_err (judge_bare r n (operator o)) s us e (error_is e m)

-- ---- a declared function

and_true : (b : Bool) → (b && true) ≡ b
and_true true = refl
and_true false = refl

abbrev with_body : Declaration → Option Body → Declaration
with_body d o = record { id = d.id; name = d.name; rank = d.rank; body = o; is_sort = d.is_sort; is_name = d.is_name }

plain_symbol : (r : Rules) (d : Declaration) (us : Trees) (s : Scope)
    → judge_symbol r (with_body d None) us s ≡ (require (not r.closed || are_linear us) NotLinear >> (note (node (Function d.id) us ∷ []) >> found (node (Function d.id) us) d.rank.result)) s
unfolding ◌>>=◌ ◌>>◌ return refuse require note found
plain_symbol r d us s = ap (λ b. (require (not r.closed || b) NotLinear >> (note (node (Function d.id) us ∷ []) >> found (node (Function d.id) us) d.rank.result)) s) (and_true (are_linear us))

plain_is : (r : Rules) (d : Declaration) (us : Trees) (s : Scope) → d.body ≡ None
    → judge_symbol r d us s ≡ (require (not r.closed || are_linear us) NotLinear >> (note (node (Function d.id) us ∷ []) >> found (node (Function d.id) us) d.rank.result)) s
plain_is r d us s e = ap (λ o. judge_symbol r (with_body d o) us s) e ∙ plain_symbol r d us s

symbol_test : (r : Rules) (d : Declaration) (us : Trees) (s : Scope) (b : Bool) → d.body ≡ None → (not r.closed || are_linear us) ≡ b
    → judge_symbol r d us s ≡ (require b NotLinear >> (note (node (Function d.id) us ∷ []) >> found (node (Function d.id) us) d.rank.result)) s
symbol_test r d us s b e h = plain_is r d us s e ∙ ap (λ c. (require c NotLinear >> (note (node (Function d.id) us ∷ []) >> found (node (Function d.id) us) d.rank.result)) s) h

pub symbol_linear : (r : Rules) (d : Declaration) (vs : List Value) (s : Scope) → AreValues s.trees vs → d.body ≡ None → (not r.closed || all_linear vs) ≡ false
    → judge_symbol r d (trees_of (map (typed s.trees) vs)) s ≡ refused NotLinear
unfolding ◌>>◌ refuse require
symbol_linear r d vs s a e l = symbol_test r d (trees_of (map (typed s.trees) vs)) s false e (sym (ap (λ b. not r.closed || b) (linears s.trees vs a)) ∙ l)

found_is : (h : Tree) (x : Sort) (s : Scope) → (require true NotLinear >> (note (h ∷ []) >> found h x)) s ≡ done (record { tree = h; sort = x }) (at s (with_parts s.trees h))
unfolding ◌>>◌ return require note found
found_is h x s = refl

pub symbol_stored : (r : Rules) (d : Declaration) (vs : List Value) (s : Scope) (us : List Tree) (v : Value) → AreValues s.trees vs → d.body ≡ None → (not r.closed || all_linear vs) ≡ true
    → IsNode (Function d.id) d.rank.result vs s.trees us v → Comes (judge_symbol r d (trees_of (map (typed s.trees) vs))) s us (Ok v)
symbol_stored r d vs s us v a e l k = (
  symbol_test r d (trees_of (map (typed s.trees) vs)) s true e (sym (ap (λ b. not r.closed || b) (linears s.trees vs a)) ∙ l)
      ∙ found_is (node (Function d.id) (trees_of (map (typed s.trees) vs))) d.rank.result s
      ∙ node_is (node (Function d.id) (trees_of (map (typed s.trees) vs))) d.rank.result s us v k.trees k.tree k.sort,
  k.value,
)

pub symbol_result : (r : Rules) (d : Declaration) (i : ℕ) (x : Sort) (vs : List Value) (s : Scope) (us : List Tree) (y : Result Value JudgeError) → AreValues s.trees vs → d.body ≡ None → (not r.closed || all_linear vs) ≡ true → i ≡ d.id → x ≡ d.rank.result
    → IfOk y (λ v. IsNode (Function i) x vs s.trees us v) → OnErr y (y ≡ Err Memory) → Comes (judge_symbol r d (trees_of (map (typed s.trees) vs))) s us y
symbol_result r d i x vs s us (Ok v) a e l f g k m =
    symbol_stored r d vs s us v a e l (subst (λ j. IsNode (Function j) d.rank.result vs s.trees us v) f (subst (λ z. IsNode (Function i) z vs s.trees us v) g k))
symbol_result r d i x vs s us (Err y) a e l f g k m = memory_err (judge_symbol r d (trees_of (map (typed s.trees) vs))) s us y (error_is y m)

fun_count : (r : Rules) (n : List ℕ) (d : Declaration) (as' : List Typed) (s : Scope) → (nat_eq (length as') (length d.rank.arguments) && nat_le 1 (length as')) ≡ false → judge_application r n (function d) as' s ≡ refused (ArgumentCount n)
unfolding ◌>>◌ refuse require
fun_count r n d as' s e = ap (λ b. (require b (ArgumentCount n) >> (require (sorts_eq (sorts_of as') d.rank.arguments) (SortsDiffer n) >> judge_symbol r d (trees_of as'))) s) e

fun_is : (r : Rules) (n : List ℕ) (d : Declaration) (as' : List Typed) (s : Scope) → (nat_eq (length as') (length d.rank.arguments) && nat_le 1 (length as')) ≡ true
    → judge_application r n (function d) as' s ≡ (require (sorts_eq (sorts_of as') d.rank.arguments) (SortsDiffer n) >> judge_symbol r d (trees_of as')) s
unfolding ◌>>◌ return require
fun_is r n d as' s e = ap (λ b. (require b (ArgumentCount n) >> (require (sorts_eq (sorts_of as') d.rank.arguments) (SortsDiffer n) >> judge_symbol r d (trees_of as'))) s) e

sorts_test : (r : Rules) (n : List ℕ) (d : Declaration) (as' : List Typed) (s : Scope) → sorts_eq (sorts_of as') d.rank.arguments ≡ false
    → (require (sorts_eq (sorts_of as') d.rank.arguments) (SortsDiffer n) >> judge_symbol r d (trees_of as')) s ≡ refused (SortsDiffer n)
unfolding ◌>>◌ refuse require
sorts_test r n d as' s e = ap (λ b. (require b (SortsDiffer n) >> judge_symbol r d (trees_of as')) s) e

sorts_right : (r : Rules) (n : List ℕ) (d : Declaration) (as' : List Typed) (s : Scope) → sorts_eq (sorts_of as') d.rank.arguments ≡ true
    → (require (sorts_eq (sorts_of as') d.rank.arguments) (SortsDiffer n) >> judge_symbol r d (trees_of as')) s ≡ judge_symbol r d (trees_of as') s
unfolding ◌>>◌ return require
sorts_right r n d as' s e = ap (λ b. (require b (SortsDiffer n) >> judge_symbol r d (trees_of as')) s) e

pub function_count : (r : Rules) (n : List ℕ) (d : Declaration) (vs : List Value) (s : Scope) (us : List Tree) (e : JudgeError) → (nat_eq (length vs) (length d.rank.arguments) && nat_le 1 (length vs)) ≡ false → IsErrorOf (ArgumentCount n) e
    → Comes (judge_application r n (function d) (map (typed s.trees) vs)) s us (Err e)
function_count r n d vs s us e h k =
    comes_err (judge_application r n (function d) (map (typed s.trees) vs)) s us (ArgumentCount n) e (fun_count r n d (map (typed s.trees) vs) s (ap (λ m. nat_eq m (length d.rank.arguments) && nat_le 1 m) (counted s.trees vs) ∙ h)) k

pub function_sorts : (r : Rules) (n : List ℕ) (d : Declaration) (vs : List Value) (s : Scope) (us : List Tree) (e : JudgeError) → (nat_eq (length vs) (length d.rank.arguments) && nat_le 1 (length vs)) ≡ true → sorts_eq (map sort_of vs) d.rank.arguments ≡ false
    → IsErrorOf (SortsDiffer n) e → Comes (judge_application r n (function d) (map (typed s.trees) vs)) s us (Err e)
function_sorts r n d vs s us e h i k =
    comes_err (judge_application r n (function d) (map (typed s.trees) vs)) s us (SortsDiffer n) e
    (fun_is r n d (map (typed s.trees) vs) s (ap (λ m. nat_eq m (length d.rank.arguments) && nat_le 1 m) (counted s.trees vs) ∙ h)
    ∙ sorts_test r n d (map (typed s.trees) vs) s (ap (λ ss. sorts_eq ss d.rank.arguments) (sorted s.trees vs) ∙ i)) k

-- a judgement that is another one at this scope comes to the same
pub comes_same : (m n : Judging Typed) (s : Scope) (us : List Tree) (x : Result Value JudgeError) → m s ≡ n s → Comes n s us x → Comes m s us x
comes_same m n s us (Ok v) e h = (e ∙ h.0, h.1)
comes_same m n s us (Err (Refused r)) e h = e ∙ h
comes_same m n s us (Err Memory) e h = tt

pub function_applied : (r : Rules) (n : List ℕ) (d : Declaration) (vs : List Value) (s : Scope) (us : List Tree) (x : Result Value JudgeError) → (nat_eq (length vs) (length d.rank.arguments) && nat_le 1 (length vs)) ≡ true → sorts_eq (map sort_of vs) d.rank.arguments ≡ true
    → Comes (judge_symbol r d (trees_of (map (typed s.trees) vs))) s us x → Comes (judge_application r n (function d) (map (typed s.trees) vs)) s us x
function_applied r n d vs s us x h i k =
    comes_same (judge_application r n (function d) (map (typed s.trees) vs)) (judge_symbol r d (trees_of (map (typed s.trees) vs))) s us x
    (fun_is r n d (map (typed s.trees) vs) s (ap (λ m. nat_eq m (length d.rank.arguments) && nat_le 1 m) (counted s.trees vs) ∙ h)
    ∙ sorts_right r n d (map (typed s.trees) vs) s (ap (λ ss. sorts_eq ss d.rank.arguments) (sorted s.trees vs) ∙ i)) k

fun_bare_not : (r : Rules) (n : List ℕ) (d : Declaration) (s : Scope) → nat_eq (length d.rank.arguments) 0 ≡ false → judge_bare r n (function d) s ≡ refused (ArgumentCount n)
unfolding ◌>>◌ refuse require
fun_bare_not r n d s e = ap (λ b. (require b (ArgumentCount n) >> judge_symbol r d none) s) e

fun_bare : (r : Rules) (n : List ℕ) (d : Declaration) (s : Scope) → nat_eq (length d.rank.arguments) 0 ≡ true → judge_bare r n (function d) s ≡ judge_symbol r d none s
unfolding ◌>>◌ return require
fun_bare r n d s e = ap (λ b. (require b (ArgumentCount n) >> judge_symbol r d none) s) e

pub bare_count : (r : Rules) (n : List ℕ) (d : Declaration) (s : Scope) (us : List Tree) (e : JudgeError) → nat_eq (length d.rank.arguments) 0 ≡ false → IsErrorOf (ArgumentCount n) e → Comes (judge_bare r n (function d)) s us (Err e)
bare_count r n d s us e h k = comes_err (judge_bare r n (function d)) s us (ArgumentCount n) e (fun_bare_not r n d s h) k

pub bare_applied : (r : Rules) (n : List ℕ) (d : Declaration) (s : Scope) (us : List Tree) (x : Result Value JudgeError) → nat_eq (length d.rank.arguments) 0 ≡ true → Comes (judge_symbol r d none) s us x → Comes (judge_bare r n (function d)) s us x
bare_applied r n d s us x h k = comes_same (judge_bare r n (function d)) (judge_symbol r d none) s us x (fun_bare r n d s h) k
