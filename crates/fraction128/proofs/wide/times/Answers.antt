use Rattle.std.proofs.Common.{◌^◌, ◌≤◌, sym, subst, unsigned_abs, arith}
use Rattle.fraction128.proofs.DigitLemmas.{times_is}
use Rattle.fraction128.proofs.wide.times.Goals as goal

pub returns-clause-value : goal.returns-clause-value
returns-clause-value c = (times_is c.args.a c.args.b (2 ^ 32) (2 ^ 32) c.requires.left c.requires.right (omega arith) (omega arith) (omega arith)).0

pub returns-clause-bound : goal.returns-clause-bound
returns-clause-bound c =
    let h = times_is c.args.a c.args.b (2 ^ 32) (2 ^ 32) c.requires.left c.requires.right (omega arith) (omega arith) (omega arith) in
    subst (λ z. unsigned_abs z ≤ 2 ^ 64) (sym h.0) h.1
