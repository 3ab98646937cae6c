use Rattle.theory_combine.proofs.Answering.{kept_looked}
use Rattle.theory_combine.proofs.cycles.meet_differences.Goals as goal

pub returns-in-None-clause-keeps : goal.returns-in-None-clause-keeps
returns-in-None-clause-keeps c =
    let old = c.args.held.now in
    kept_looked c.args.stack.now c.args.atoms.now.atoms old (record old.looked { differences = c.take.new.self }) c.requires.held

pub returns-in-Some-clause-keeps : goal.returns-in-Some-clause-keeps
returns-in-Some-clause-keeps c =
    let old = c.args.held.now in
    kept_looked c.args.stack.now c.args.atoms.now.atoms old (record old.looked { differences = c.take.new.self }) c.requires.held

pub returns-in_err-take-clause-keeps : goal.returns-in_err-take-clause-keeps
returns-in_err-take-clause-keeps c =
    let old = c.args.held.now in
    kept_looked c.args.stack.now c.args.atoms.now.atoms old (record old.looked { differences = c.take.new.self }) c.requires.held

pub clause_of-requires : goal.clause_of-requires
clause_of-requires c =
    let old = c.args.held.now in
    let keeps = kept_looked c.args.stack.now c.args.atoms.now.atoms old (record old.looked { differences = c.take.new.self }) c.requires.held in
    record { setting = c.requires.setting; held = keeps.held }
