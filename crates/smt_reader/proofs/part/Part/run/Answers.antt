use Rattle.std.proofs.Common.{◌≡◌, ◌+◌, ◌<◌, length, get_or, arith, subst}
use Rattle.std.proofs.lemmas.Grind.{common_steps}
use Rattle.std.proofs.lemmas.List.{take_rest}
use Rattle.smt_reader.specs.Parts.{GoesOnTo, Passes}
use Rattle.smt_reader.proofs.PartRuns.{reads_more, stays, passes_next}
use Rattle.smt_reader.proofs.part.Part.run.Goals as goal

pub loop-byte-preserved : goal.loop-byte-preserved
loop-byte-preserved c =
    let bytes = c.args.bytes.now in
    let part = c.loop-byte.part in
    let passed = c.loop-byte.passed in
    let steady = c.steady-passed.result in
    let on = reads_more stays c.args.self part part bytes passed steady c.loop-byte.invariant
    (subst (λ left. Passes part part left steady) (take_rest bytes passed) c.steady-passed.ensures) in
    let lt : passed + steady < length bytes = grind (arith, common_steps, c.in-Some.ensures.lookup) in
    let byte : c.in-Some.byte.now ≡ get_or bytes (passed + steady) 0 = grind (arith, common_steps, c.in-Some.ensures.lookup) in
    passes_next c.args.self part c.in-Stays.next bytes (passed + steady) lt on (subst (λ b. GoesOnTo part b c.in-Stays.next) byte c.in-Stays.ensures)

pub returns-in-Turns-clause-passes : goal.returns-in-Turns-clause-passes
returns-in-Turns-clause-passes c =
    let bytes = c.args.bytes.now in
    let part = c.loop-byte.part in
    let passed = c.loop-byte.passed in
    let steady = c.steady-passed.result in
    reads_more stays c.args.self part part bytes passed steady c.loop-byte.invariant
    (subst (λ left. Passes part part left steady) (take_rest bytes passed) c.steady-passed.ensures)
