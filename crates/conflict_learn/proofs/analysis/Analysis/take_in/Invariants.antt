use Rattle.conflict_learn.proofs.Taking.{Taking}
use Rattle.conflict_learn.proofs.analysis.Analysis.take_in.Given as goal

abbrev pub invariant-loop-literal : goal.invariant-loop-literal
invariant-loop-literal l = Taking l.store.clauses l.store.trail.steps l.id l.below l.literal-index l.but l.literals l.fn.self l.self
