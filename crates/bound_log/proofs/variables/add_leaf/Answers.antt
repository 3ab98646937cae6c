use Rattle.bound_log.proofs.Growing.{grown_self, grown_same, grown_by_leaf}
use Rattle.bound_log.proofs.Resting.{still_self, still_same, still_by_leaf}
use Rattle.std.proofs.Common.{refl}
use Rattle.sum_bounds.proofs.Bases.{bases_same}
use Rattle.bound_log.proofs.variables.add_leaf.Goals as goal

pub returns-then-count-eq4294967295-clause-grown : goal.returns-then-count-eq4294967295-clause-grown
returns-then-count-eq4294967295-clause-grown c = grown_self c.args.bounds.now

pub returns-in_err-_variable-clause-grown : goal.returns-in_err-_variable-clause-grown
returns-in_err-_variable-clause-grown c = grown_same c.args.bounds.now c.leaf.new.self c.in_err-_variable.ensures.err

pub returns-clause-grown : goal.returns-clause-grown
returns-clause-grown c = grown_by_leaf c.args.bounds.now c.leaf.new.self c.args.term c.in_ok-_variable.ensures.same

pub returns-then-count-eq4294967295-clause-still : goal.returns-then-count-eq4294967295-clause-still
returns-then-count-eq4294967295-clause-still c = still_self c.args.bounds.now

pub returns-in_err-_variable-clause-still : goal.returns-in_err-_variable-clause-still
returns-in_err-_variable-clause-still c = still_same c.args.bounds.now c.leaf.new.self c.in_err-_variable.ensures.err

pub returns-clause-still : goal.returns-clause-still
returns-clause-still c = still_by_leaf c.args.bounds.now c.leaf.new.self c.args.term c.in_ok-_variable.ensures.same

pub returns-then-count-eq4294967295-clause-bases : goal.returns-then-count-eq4294967295-clause-bases
returns-then-count-eq4294967295-clause-bases c = bases_same c.args.bounds.now c.args.bounds.now refl
