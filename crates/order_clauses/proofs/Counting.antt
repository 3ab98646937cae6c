-- How many pairs there are.
use Rattle.std.proofs.Common.{◌≡◌, ℕ, zero, suc, ◌+◌, ◌-◌, ◌*◌, ◌/◌, ◌≤◌, Bool, true, false, List, [], ◌∷◌, length, nat_eq, if◌then◌else◌, refl, sym, ap, ◌∙◌, arith}
use Rattle.std.proofs.Math.Nat.{add-mul-div_right, add_comm, mul_comm}
use Rattle.std.proofs.lemmas.List.{length-append}
use Rattle.smt_meaning.specs.declared.values.Sort.{Sort}
use Rattle.smt_meaning.specs.declared.values.Sort.TheVariants.{Bool as Truths, Int as Ints, Free}
use Rattle.smt_meaning.specs.declared.terms.Operator.{Operator}
use Rattle.smt_meaning.specs.declared.terms.Operator.TheVariants.{Distinct}
use Rattle.order_clauses.specs.Pairs.{with_each, each_two}
use Rattle.order_clauses.specs.Clauses.{sort_at}
use Rattle.order_clauses.specs.Counted.{pairs_among, distinct_pairs, pairs_by_sort, pairs_of_part}

-- one more term makes a pair with each of those before
pub pairs_next : (n : ℕ) → pairs_among (suc n) ≡ n + pairs_among n
unfolding pairs_among
pairs_next zero = refl
pairs_next (suc m) =
    let swap : m * suc m ≡ suc m * m = mul_comm m (suc m) in
    let size : suc (suc m) * suc m ≡ suc m * m + suc m * 2 = omega arith in
    let parts : (suc m * m + suc m * 2) / 2 ≡ suc m * m / 2 + suc m = add-mul-div_right (suc m * m) (suc m) (omega arith) in
    let before : suc (suc m) - 1 ≡ suc m = omega arith in
    let now : suc m - 1 ≡ m = omega arith in
    ap (λ k. suc (suc m) * k / 2) before ∙ ap (λ x. x / 2) size ∙ parts ∙ add_comm (suc m * m / 2) (suc m) ∙ ap (λ k. suc m + suc m * k / 2) (sym now)

-- the same of a list and its first element
pub pairs_first : (xs js : List ℕ) (i : ℕ) → xs ≡ i ∷ js → pairs_among (length xs) ≡ length js + pairs_among (length js)
pairs_first xs js i e = ap (λ ys. pairs_among (length ys)) e ∙ pairs_next (length js)

pub pairs_none : (n : ℕ) → n ≡ 0 → pairs_among n ≡ 0
unfolding pairs_among
pairs_none n e = ap (λ k. k * (k - 1) / 2) e

pub distinct_none : (o : Operator) (n : ℕ) → n ≡ 0 → distinct_pairs o n ≡ 0
distinct_none Distinct n e = pairs_none n e
distinct_none o n e = refl

with_each_counted : (i : ℕ) (is : List ℕ) → length (with_each i is) ≡ length is
with_each_counted i [] = refl
with_each_counted i (j ∷ js) = ap suc (with_each_counted i js)

pub each_two_counted : (is : List ℕ) → length (each_two is) ≡ pairs_among (length is)
each_two_counted [] = sym (pairs_none 0 refl)
each_two_counted (i ∷ is) =
    length-append (with_each i is) (each_two is) ∙ ap (λ n. n + length (each_two is)) (with_each_counted i is) ∙ ap (λ n. length is + n) (each_two_counted is)
    ∙ sym (pairs_next (length is))

unless_two : (b : Bool) (n : ℕ) → (if b then 0 else n) ≤ n
unless_two true n = omega arith
unless_two false n = omega arith

sort_at_most : (s : Sort) (n pairs : ℕ) → pairs_by_sort s n pairs ≤ pairs
sort_at_most Truths n pairs = omega arith
sort_at_most Ints n pairs = omega arith
sort_at_most (Free s) n pairs = unless_two (nat_eq n 2) pairs

pub part_at_most : (sorts : List Sort) (o : Operator) (is : List ℕ) → pairs_of_part sorts o is ≤ distinct_pairs o (length is)
part_at_most sorts o [] = omega arith
part_at_most sorts o (i ∷ is) = sort_at_most (sort_at sorts i) (length (i ∷ is)) (distinct_pairs o (length (i ∷ is)))

pub of_four : pairs_among 4 ≡ 6
unfolding pairs_among
of_four = refl

pub not_neighbours : pairs_among 4 ≡ 3 → ⊥
not_neighbours e = absurd (omega (arith, of_four, e))
