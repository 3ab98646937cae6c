use Rattle.std.proofs.Common.{length, arith, ap}
use Rattle.smt_reader.proofs.Scanned.{scan_tokens}
use Rattle.smt_reader.proofs.scan.Scan.find.Goals as goal

pub returns-in-Some-2-clause-finds : goal.returns-in-Some-2-clause-finds
returns-in-Some-2-clause-finds c = let comes = rw c.in-Some-2.is at c.in_ok-found.ensures.ok in comes.0 c.args.finished

pub loop-turn-smaller : goal.loop-turn-smaller
loop-turn-smaller c =
    let goes = rw c.in_default-2.is at c.in_ok-found.ensures.ok in
    omega (arith, goes.onward, goes.scan.within, scan_tokens _ _ goes.scan, c.pass.ensures.onward, ap length c.pass.ensures.tokens)
