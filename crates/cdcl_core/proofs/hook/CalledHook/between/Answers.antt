use Rattle.cdcl_core.proofs.hook.CalledHook.between.Goals as goal

pub returns-clause-same : goal.returns-clause-same
returns-clause-same g c = ((c.requires.may _ c.args.budget c.args.theory c.requires.heard c.requires.shorts).1 _ _ c.f.ensures).0

pub returns-clause-kept : goal.returns-clause-kept
returns-clause-kept g c = ((c.requires.may _ c.args.budget c.args.theory c.requires.heard c.requires.shorts).1 _ _ c.f.ensures).1

pub returns-clause-by : goal.returns-clause-by
returns-clause-by g c = ((c.requires.may _ c.args.budget c.args.theory c.requires.heard c.requires.shorts).1 _ _ c.f.ensures).2

pub returns-clause-given : goal.returns-clause-given
returns-clause-given g c = ((c.requires.may _ c.args.budget c.args.theory c.requires.heard c.requires.shorts).1 _ _ c.f.ensures).3
