use Rattle.theory_combine.proofs.Answering.{kept_none}
use Rattle.theory_combine.proofs.judge.broken_clause.Goals as goal

pub returns-in-Some-clause-keeps : goal.returns-in-Some-clause-keeps
returns-in-Some-clause-keeps c = kept_none c.args.parts.now.stack.now c.args.atoms.now.atoms c.args.held.now c.requires.held

pub returns-in-Some-2-clause-keeps : goal.returns-in-Some-2-clause-keeps
returns-in-Some-2-clause-keeps c = kept_none c.args.parts.now.stack.now c.args.atoms.now.atoms c.args.held.now c.requires.held

pub returns-in_err-clause-clause-keeps : goal.returns-in_err-clause-clause-keeps
returns-in_err-clause-clause-keeps c = kept_none c.args.parts.now.stack.now c.args.atoms.now.atoms c.args.held.now c.requires.held

pub returns-in_err-clause-2-clause-keeps : goal.returns-in_err-clause-2-clause-keeps
returns-in_err-clause-2-clause-keeps c = kept_none c.args.parts.now.stack.now c.args.atoms.now.atoms c.args.held.now c.requires.held
