-- A report from each worker.
use Rattle.std.proofs.Common.{◌≡◌, ◌∙◌, ℕ, ◌+◌, zero, suc, ℤ, List, [], ◌∷◌, ◌++◌, map, sym, ap, subst, arith}
use Rattle.std.specs.List.{range_with_len}
use Rattle.std.specs.Prelude.{All}
use Rattle.std.proofs.lemmas.List.{map-append}
use Rattle.std.proofs.lemmas.List.Elements.{All-append, All-cons, All-nil}
use Rattle.smt_meaning.specs.declared.reports.Report.{Report}
use Rattle.smt_meaning.specs.declared.reports.Cause.TheVariants.{Memory}
use Rattle.smt_meaning.specs.Report.{Shows}
use Rattle.smt_meaning.specs.Stack.{Frame}
use Rattle.smt_meaning.specs.Term.{Tree}

abbrev worker_of : Report → ℕ
worker_of r = r.worker

range_more : (a n : ℕ) → range_with_len a (suc n) ≡ range_with_len a n ++ (a + n) ∷ []
range_more a zero = let same : a ≡ a + 0 = omega arith in ap (λ x. x ∷ []) same
range_more a (suc n) =
    let same : a + 1 + n ≡ a + suc n = omega arith in
    ap (λ xs. a ∷ xs) (range_more (a + 1) n ∙ ap (λ x. range_with_len (a + 1) n ++ x ∷ []) same)

pub one_more : (rs : List Report) (n : ℕ) (r : Report) → map (λ (x : Report). x.worker) rs ≡ range_with_len 0 n → r.worker ≡ n → map (λ (x : Report). x.worker) (rs ++ r ∷ []) ≡ range_with_len 0 (n + 1)
one_more rs n r h e =
    let worker : r.worker ≡ 0 + n = omega (arith, e) in
    let next : suc n ≡ n + 1 = omega arith in
    map-append worker_of rs (r ∷ []) ∙ ap (λ xs. xs ++ r.worker ∷ []) h ∙ ap (λ x. range_with_len 0 n ++ x ∷ []) worker ∙ sym (range_more 0 n) ∙ ap (range_with_len 0) next

-- each of these workers wants memory
pub shown_more : (ts : List Tree) (frames : List Frame) (limit : ℤ) (rs : List Report) (r : Report) → All (λ (x : Report). Shows ts frames limit x.branches x.cause) rs → r.cause ≡ Memory
    → All (λ (x : Report). Shows ts frames limit x.branches x.cause) (rs ++ r ∷ [])
shown_more ts frames limit rs r h e =
    All-append (λ (x : Report). Shows ts frames limit x.branches x.cause) rs (r ∷ []) h
    (All-cons (λ (x : Report). Shows ts frames limit x.branches x.cause) r [] (subst (λ c. Shows ts frames limit r.branches c) (sym e) tt) (All-nil (λ (x : Report). Shows ts frames limit x.branches x.cause)))

pub none_shown : (ts : List Tree) (frames : List Frame) (limit : ℤ) → All (λ (x : Report). Shows ts frames limit x.branches x.cause) []
none_shown ts frames limit = All-nil (λ (x : Report). Shows ts frames limit x.branches x.cause)
