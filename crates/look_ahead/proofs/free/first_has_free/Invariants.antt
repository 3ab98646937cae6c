use Rattle.std.proofs.Common.{◌≡◌, reverse}
use Rattle.look_ahead.specs.Ahead.{ahead}
use Rattle.look_ahead.specs.Lets.{names_of}
use Rattle.look_ahead.specs.Free.{first_free, todo, jobs_weight}
use Rattle.look_ahead.proofs.free.first_has_free.Given as goal

abbrev pub invariant-loop-job : goal.invariant-loop-job
invariant-loop-job g l = first_free (g.N.Names.names l.names) (ahead l.term l.place) ≡ todo l.term (g.N.Names.names l.names) (names_of l.hidden.items) (reverse l.jobs.items)

abbrev pub decreases-loop-job : goal.decreases-loop-job
decreases-loop-job g l = jobs_weight l.term (reverse l.jobs.items)
