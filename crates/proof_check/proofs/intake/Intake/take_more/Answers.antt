use Rattle.std.proofs.Common.{◌≡◌, ◌≢◌, ◌+◌, ◌-◌, take, arith, refl}
use Rattle.std.proofs.lemmas.Result.{err_from_is_err_and}
use Rattle.proof_check.specs.declared.intake.Intake.{Intake}
use Rattle.ports.proofs.Flows.{Consumes-none}
use Rattle.proof_check.proofs.Takings.{one_call, some_bytes, too_long, read_fault, unfed, fed, closed}
use Rattle.proof_check.proofs.intake.Intake.take_more.Goals as goal

pub returns-then-self-eq0-clause-err : goal.returns-then-self-eq0-clause-err
returns-then-self-eq0-clause-err g c budget first p s = too_long budget first _ p c.args.self.now s c.requires.going c.requires.settled (omega arith)

pub returns-in_err-feed-in-Got-clause-err : goal.returns-in_err-feed-in-Got-clause-err
returns-in_err-feed-in-Got-clause-err g c =
    let e = err_from_is_err_and c.from_residual.result c.from_residual.ensures.1 in
    let some : c.args.self.now.calls ≢ 0 = λ none. omega (arith, none) in
    rw (e.1, e.2)
    (λ budget first p s. unfed budget first _ p c.args.self.now s c.requires.going _ (take c.in-Got.count c.more.new.buf) some c.in-Got.ensures.bytes.0 (one_call c.in-Got.count _ _ c.in-Got.count-test.1 c.in-Got.ensures.given))

pub returns-in-Failed-clause-err : goal.returns-in-Failed-clause-err
returns-in-Failed-clause-err g c budget first p s =
    let some : c.args.self.now.calls ≢ 0 = λ none. omega (arith, none) in
    read_fault budget first _ p c.args.self.now s c.requires.going _ c.requires.settled some c.in-Failed.ensures.bytes c.in-Failed.ensures.given c.in-Failed.ensures.cause.1

pub returns-in_ok-feed-in-Got-clause-ok : goal.returns-in_ok-feed-in-Got-clause-ok
returns-in_ok-feed-in-Got-clause-ok g c budget first p s =
    let new : Intake = record { reader = c.feed.new.self; calls = c.args.self.now.calls - 1 } in
    let called : c.args.self.now.calls - 1 + 1 ≡ c.args.self.now.calls = omega arith in
    fed budget first _ p c.args.self.now s c.requires.going _ new called c.in-Got.ensures.cause (take c.in-Got.count c.more.new.buf) c.in-Got.ensures.bytes.0
    (one_call c.in-Got.count _ _ c.in-Got.count-test.1 c.in-Got.ensures.given) (some_bytes c.in-Got.count c.more.new.buf c.in-Got.count-test.1 c.in-Got.ensures.bound) c.in_ok-feed-in-Got.ensures.ok

pub returns-in-Got-eq0-clause-ok : goal.returns-in-Got-eq0-clause-ok
returns-in-Got-eq0-clause-ok g c budget first p s =
    let new : Intake = record { reader = c.finish.new.self; calls = c.args.self.now.calls - 1 } in
    let called : c.args.self.now.calls - 1 + 1 ≡ c.args.self.now.calls = omega arith in
    let gave = rw c.in-Got-eq0.field-0-test at c.in-Got-eq0.ensures.bytes in
    closed budget first _ p c.args.self.now s c.requires.going _ new called c.in-Got-eq0.ensures.cause (Consumes-none _ _ gave.0) (rw c.in-Got-eq0.field-0-test at c.in-Got-eq0.ensures.given)
    (gave.1 refl (omega (arith, c.requires.buffer))) c.finish.ensures

pub returns-in-End-clause-ok : goal.returns-in-End-clause-ok
returns-in-End-clause-ok g c budget first p s =
    let new : Intake = record { reader = c.finish-in-End.new.self; calls = c.args.self.now.calls - 1 } in
    let called : c.args.self.now.calls - 1 + 1 ≡ c.args.self.now.calls = omega arith in
    closed budget first _ p c.args.self.now s c.requires.going _ new called c.in-End.ensures.cause c.in-End.ensures.bytes.0 c.in-End.ensures.given c.in-End.ensures.bytes.1 c.finish-in-End.ensures
