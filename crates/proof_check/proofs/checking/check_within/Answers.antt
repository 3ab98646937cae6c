use Rattle.std.proofs.Common.{◌<◌, ◌≤◌, arith, length, refl}
use Rattle.proof_check.proofs.Endings.{refused, cut, told}
use Rattle.proof_check.proofs.checking.check_within.Goals as goal

pub returns-then-len-gt1-clause-checked : goal.returns-then-len-gt1-clause-checked
returns-then-len-gt1-clause-checked g c =
    let more : 1 < length c.args.words.now.items = omega (arith, c.args.words.now.ok, c.len.ensures, c.if-len-gt1.true) in
    refused c.args.budget _ _ _ _ _ _ more refl refl refl refl

pub returns-in-Ok-clause-checked : goal.returns-in-Ok-clause-checked
returns-in-Ok-clause-checked g c =
    let few : length c.args.words.now.items ≤ 1 = omega (arith, c.args.words.now.ok, c.len.ensures, c.if-len-gt1.false) in
    told c.args.budget _ _ _ _ _ c.tell.result few c.good_proof_refutes.ensures c.in-Ok.found c.in-Ok.ensures c.tell.ensures.told

pub returns-in-Err-clause-checked : goal.returns-in-Err-clause-checked
returns-in-Err-clause-checked g c =
    let few : length c.args.words.now.items ≤ 1 = omega (arith, c.args.words.now.ok, c.len.ensures, c.if-len-gt1.false) in
    cut c.args.budget _ _ _ _ _ _ few c.in-Err.halt c.in-Err.ensures refl c.halted.ensures refl
