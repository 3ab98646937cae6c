use Rattle.std.proofs.Common.{subst}
use Rattle.std.proofs.lemmas.List.{take_rest}
use Rattle.smt_reader.specs.Parts.{Passes}
use Rattle.smt_reader.proofs.Scanned.{scan_passed}
use Rattle.smt_reader.proofs.scan.Scan.pass.Goals as goal

pub returns-clause-scan : goal.returns-clause-scan
returns-clause-scan c =
    let s = c.args.self.now in
    let run = c.run-run.result in
    scan_passed c.args.bytes.now s run.part run.passed c.requires
    (subst (λ left. Passes s.part run.part left run.passed) (take_rest c.args.bytes.now s.looked) c.run-run.ensures.passes)
