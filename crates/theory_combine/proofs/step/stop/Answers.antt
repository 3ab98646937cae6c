use Rattle.theory_combine.proofs.step.stop.Goals as goal

pub returns : goal.returns
returns c = record { went = c.stays.ensures; found = tt }
