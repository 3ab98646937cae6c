use Rattle.std.proofs.Common.{arith, ◌≡◌, ◌<◌, ◌≤◌, List, ℕ, length, take, refl, min, Option, subst}
use Rattle.ports.specs.Flow.{RoseBy}
use Rattle.std.proofs.lemmas.Grind.{common_steps}
use Rattle.smt_top.specs.Progress.{run_of}
use Rattle.smt_top.proofs.Turns.{fed, closed, Consumes-none, cut_short, read_fault}
use Rattle.std.proofs.lemmas.Result.{err_from_is_err_and}
use Rattle.smt_top.proofs.top.take_more.Goals as goal

-- a call that gave something counts as one
one : (n : ℕ) (old new : Option ℕ) → (n ≡ 0 → ⊥) → RoseBy (min n 1) old new → RoseBy 1 old new
one n old new some rose = let same : min n 1 ≡ 1 = omega (arith, some) in subst (λ k. RoseBy k old new) same rose

-- a front that is taken has something in it
some : (n : ℕ) (xs : List ℕ) → (n ≡ 0 → ⊥) → n ≤ length xs → 0 < length (take n xs)
some n xs h l = grind (arith, common_steps)

most : (n m : ℕ) (xs : List ℕ) → n ≤ length xs → length xs ≡ m → length (take n xs) ≤ m
most n m xs l e = grind (arith, common_steps)

pub returns-in-Got-eq0-clause-ok : goal.returns-in-Got-eq0-clause-ok
returns-in-Got-eq0-clause-ok g c t e count entries s at =
    let gave = rw c.in-Got-eq0.field-0-test at c.in-Got-eq0.ensures.bytes in
    closed t e count (run_of c.args.server.now entries) _ _ c.requires.going (rw at (Consumes-none _ _ gave.0)) (rw at (rw c.in-Got-eq0.field-0-test at c.in-Got-eq0.ensures.given)) (gave.1 refl (omega (arith, c.requires.buffer))) (rw at c.in-Got-eq0.ensures.cause) c.finish.ensures refl refl s

pub returns-in_ok-feed-in-Got-clause-ok : goal.returns-in_ok-feed-in-Got-clause-ok
returns-in_ok-feed-in-Got-clause-ok g c t e count entries s at =
    fed t e count (run_of c.args.server.now entries) _ (take c.in-Got.count c.more.new.buf) _ c.requires.going (rw at c.in-Got.ensures.bytes.0) (rw at (one c.in-Got.count _ _ c.in-Got.count-test.1 c.in-Got.ensures.given))
    (some c.in-Got.count c.more.new.buf c.in-Got.count-test.1 c.in-Got.ensures.bound) (most c.in-Got.count 65536 c.more.new.buf c.in-Got.ensures.bound (omega (arith, c.more.auto.buf, c.requires.buffer)))
    (rw at c.in-Got.ensures.cause) c.in_ok-feed-in-Got.ensures.ok refl refl s

pub returns-in-End-clause-ok : goal.returns-in-End-clause-ok
returns-in-End-clause-ok g c t e count entries s at =
    closed t e count (run_of c.args.server.now entries) _ _ c.requires.going (rw at c.in-End.ensures.bytes.0) (rw at c.in-End.ensures.given) c.in-End.ensures.bytes.1 (rw at c.in-End.ensures.cause) c.finish-in-End.ensures refl refl s

pub returns-in_err-feed-in-Got-clause-err : goal.returns-in_err-feed-in-Got-clause-err
returns-in_err-feed-in-Got-clause-err g c =
    let p = err_from_is_err_and c.from_residual.result c.from_residual.ensures.1 in
    rw (p.1, p.2) (λ t e count entries s at. cut_short t e count (run_of c.args.server.now entries) _ (take c.in-Got.count c.more.new.buf) _ c.requires.going (rw at c.in-Got.ensures.bytes.0) (rw at (one c.in-Got.count _ _ c.in-Got.count-test.1 c.in-Got.ensures.given)) (rw at c.in-Got.ensures.cause) refl s)

pub returns-in-Failed-clause-err : goal.returns-in-Failed-clause-err
returns-in-Failed-clause-err g c t e count entries s at =
    read_fault t e count (run_of c.args.server.now entries) _ c.requires.going c.requires.settled (rw at c.in-Failed.ensures.bytes) (rw at c.in-Failed.ensures.given) (rw at c.in-Failed.ensures.cause.0) (rw at c.in-Failed.ensures.cause.1) s
