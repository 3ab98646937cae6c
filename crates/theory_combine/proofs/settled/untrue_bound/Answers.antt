use Rattle.theory_combine.proofs.Settling.{all_told}
use Rattle.theory_combine.proofs.settled.untrue_bound.Goals as goal

pub truth_told-requires-clause-told : goal.truth_told-requires-clause-told
truth_told-requires-clause-told c = all_told c.args.parts.now c.args.progress.now c.requires.at_last
