-- A head that divides by a number, and its term.
use Rattle.std.proofs.Common.{◌≡◌, ◌≢◌, ◌≤◌, ℕ, zero, suc, List, [], ◌∷◌, length, ap, sym, subst, ◌∙◌, refl, arith, Bool, true, false, ◌||◌, ◌&&◌, not, map, Option, Some, None, slice_index_or}
use Rattle.std.specs.Prelude.{Result, Ok, Err, IfOk, OnErr, pos, nat_le, codes}
use Rattle.std.proofs.lemmas.Bool.Decides.{nat_tests}
use Rattle.smt_meaning.specs.declared.values.Sort.TheVariants.{Bool as Truths, Int as Ints}
use Rattle.smt_meaning.specs.declared.terms.Head.TheVariants.{Numeral}
use Rattle.smt_meaning.specs.declared.terms.Operator.TheVariants.{Divisible}
use Rattle.smt_meaning.specs.declared.refusals.Refusal.TheVariants.{NumeralTooLarge, WrongArguments, ArgumentCount, SortsDiffer}
use Rattle.smt_meaning.specs.Term.{Tree, Trees, node, none, more, tree_at}
use Rattle.smt_meaning.specs.TreeShape.{operation, is_linear_operation}
use Rattle.smt_meaning.specs.Signature.{sort_eq}
use Rattle.smt_meaning.specs.Sorts.{Scope, done, refused, ◌>>◌, return, refuse, require, Rules, is_small, judge_head, judge_operator, judge_divisible}
use Rattle.elaborate.specs.declared.value.Value.{Value}
use Rattle.elaborate.specs.declared.error.JudgeError.{JudgeError}
use Rattle.elaborate.specs.declared.error.JudgeError.TheVariants.{Memory}
use Rattle.elaborate.specs.Values.{typed, IsTerm, Comes, IsErrorOf}
use Rattle.elaborate.specs.Frames.{IsDivisor}
use Rattle.elaborate.specs.Steps.{IsDivisorHead}
use Rattle.elaborate.proofs.Applied.{comes_err, memory_err, error_is, node_is, op_done, or_true}
use Rattle.elaborate.proofs.Dividing.{not_zero}

-- ---- its number

pub no_divisor : (o : Option ℕ) → o ≡ None → (s : Scope) → judge_head o s ≡ refused WrongArguments
unfolding refuse
no_divisor o e s = subst (λ q. judge_head q s ≡ refused WrongArguments) (sym e) refl

pub zero_divisor : (n : ℕ) → n ≡ 0 → (s : Scope) → judge_head (Some n) s ≡ refused WrongArguments
unfolding ◌>>◌ require refuse
zero_divisor n e s = subst (λ m. judge_head (Some m) s ≡ refused WrongArguments) (sym e) refl

large_positive : (n : ℕ) → is_small n ≡ false → nat_le 1 n ≡ true
large_positive zero e = absurd (cc)
large_positive (suc n) e = grind (arith, nat_tests)

pub large_divisor : (n : ℕ) → is_small n ≡ false → (s : Scope) → judge_head (Some n) s ≡ refused NumeralTooLarge
unfolding ◌>>◌ require refuse return
large_divisor n e s =
    ap (λ b. (require b WrongArguments >> (require (is_small n) NumeralTooLarge >> return n)) s) (large_positive n e)
    ∙ ap (λ b. (require true WrongArguments >> (require b NumeralTooLarge >> return n)) s) e

small_divisor : (n : ℕ) → nat_le 1 n ≡ true → is_small n ≡ true → (s : Scope) → judge_head (Some n) s ≡ done n s
unfolding ◌>>◌ require refuse return
small_divisor n h e s =
    ap (λ b. (require b WrongArguments >> (require (is_small n) NumeralTooLarge >> return n)) s) h
    ∙ ap (λ b. (require true WrongArguments >> (require b NumeralTooLarge >> return n)) s) e

pub divisor_is : (n m : ℕ) → n ≡ m → n ≢ 0 → is_small n ≡ true → IsDivisorHead (Some m) (Ok n)
divisor_is n m e h k =
    let positive : 1 ≤ n = (let other : n ≢ 0 = h in omega arith) in
    let test : nat_le 1 n ≡ true = grind (arith, nat_tests) in
    (λ s. subst (λ j. judge_head (Some j) s ≡ done n s) e (small_divisor n test k s), record { positive = positive; small = k })

-- ---- its judgement

not_one : (r : Rules) (n : ℕ) (vs : List Value) (s : Scope) → length vs ≢ 1 → judge_divisible r n (map (typed s.trees) vs) s ≡ refused (ArgumentCount (codes "divisible"))
unfolding refuse
not_one r n [] s h = refl
not_one r n (v ∷ []) s h = absurd (h refl)
not_one r n (v ∷ w ∷ vs) s h = refl

pub divisible_count : (r : Rules) (n : ℕ) (vs : List Value) (s : Scope) (us : List Tree) (e : JudgeError) → length vs ≢ 1 → IsErrorOf (ArgumentCount (codes "divisible")) e
    → Comes (judge_divisible r n (map (typed s.trees) vs)) s us (Err e)
divisible_count r n vs s us e h k = comes_err (judge_divisible r n (map (typed s.trees) vs)) s us (ArgumentCount (codes "divisible")) e (not_one r n vs s h) k

abbrev parts : ℕ → Tree → Trees
parts n t = more t (more (node (Numeral (pos n)) none) none)

one_judged : (r : Rules) (n : ℕ) (vs : List Value) (d : Value) (s : Scope) (b : Bool) → length vs ≡ 1 → sort_eq (slice_index_or vs 0 d).sort Ints ≡ b
    → judge_divisible r n (map (typed s.trees) vs) s ≡ (require b (SortsDiffer (codes "divisible")) >> judge_operator r Divisible (parts n (tree_at s.trees (slice_index_or vs 0 d).id)) Truths) s
one_judged r n [] d s b h e = absurd (omega arith)
one_judged r n (v ∷ []) d s b h e = ap (λ c. (require c (SortsDiffer (codes "divisible")) >> judge_operator r Divisible (parts n (tree_at s.trees v.id)) Truths) s) e
one_judged r n (v ∷ w ∷ vs) d s b h e = absurd (omega arith)

other_sort : (r : Rules) (n : ℕ) (t : Tree) (s : Scope) → (require false (SortsDiffer (codes "divisible")) >> judge_operator r Divisible (parts n t) Truths) s ≡ refused (SortsDiffer (codes "divisible"))
unfolding ◌>>◌ require refuse
other_sort r n t s = refl

same_sort : (r : Rules) (n : ℕ) (t : Tree) (s : Scope) → (require true (SortsDiffer (codes "divisible")) >> judge_operator r Divisible (parts n t) Truths) s ≡ judge_operator r Divisible (parts n t) Truths s
unfolding ◌>>◌ require return
same_sort r n t s = refl

pub divisible_sorts : (r : Rules) (n : ℕ) (vs : List Value) (d : Value) (s : Scope) (us : List Tree) (e : JudgeError) → length vs ≡ 1 → sort_eq (slice_index_or vs 0 d).sort Ints ≡ false → IsErrorOf (SortsDiffer (codes "divisible")) e
    → Comes (judge_divisible r n (map (typed s.trees) vs)) s us (Err e)
divisible_sorts r n vs d s us e h i k =
    comes_err (judge_divisible r n (map (typed s.trees) vs)) s us (SortsDiffer (codes "divisible")) e (one_judged r n vs d s false h i ∙ other_sort r n (tree_at s.trees (slice_index_or vs 0 d).id) s) k

-- the number divides
number_divides : (n : ℕ) → 1 ≤ n → (t : Tree) → is_linear_operation Divisible (parts n t) ≡ true
number_divides zero h t = absurd (omega arith)
number_divides (suc n) h t = ap (λ b. not b && true) (not_zero (pos (suc n)) (λ e. cc))

pub divisible_result : (r : Rules) (n : ℕ) (vs : List Value) (d : Value) (s : Scope) (us : List Tree) (y : Result Value JudgeError) → IsDivisor n → length vs ≡ 1 → sort_eq (slice_index_or vs 0 d).sort Ints ≡ true
    → IfOk y (λ v. IsTerm (operation Divisible (parts n (tree_at s.trees (slice_index_or vs 0 d).id))) Truths s.trees us v) → OnErr y (y ≡ Err Memory) → Comes (judge_divisible r n (map (typed s.trees) vs)) s us y
divisible_result r n vs d s us (Ok v) divisor h i k m =
    let t : Tree = tree_at s.trees (slice_index_or vs 0 d).id in (
      one_judged r n vs d s true h i ∙ same_sort r n t s
          ∙ op_done r Divisible (parts n t) Truths s (ap (λ b. not r.closed || b) (number_divides n divisor.positive t) ∙ or_true (not r.closed))
          ∙ node_is (operation Divisible (parts n t)) Truths s us v k.trees k.tree k.sort,
      k.value,
    )
divisible_result r n vs d s us (Err e) divisor h i k m = memory_err (judge_divisible r n (map (typed s.trees) vs)) s us e (error_is e m)
