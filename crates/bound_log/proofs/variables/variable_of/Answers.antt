use Rattle.fraction128.specs.Grid.{turned}
use Rattle.bound_log.specs.Columns.{IsPartIn}
use Rattle.bound_log.proofs.Columns.{adds_through, adds_sum, adds_leaves, as_part}
use Rattle.bound_log.proofs.Resting.{still_through, still_by_sum, in_either}
use Rattle.sum_bounds.proofs.Bases.{bases_through}
use Rattle.bound_log.proofs.variables.variable_of.Goals as goal

pub returns-clause-still : goal.returns-clause-still
returns-clause-still c =
    let mid = c.add_leaves.new.bounds in
    let new = c.sum.new.self in
    still_through c.args.bounds.now mid new c.add_leaves.ensures.still (still_by_sum mid new (turned c.args.sum.now) (in_either mid new (turned c.args.sum.now) c.sum.result c.sum.ensures.same c.sum.ensures.err))

pub returns-clause-sums : goal.returns-clause-sums
returns-clause-sums c =
    let mid = c.add_leaves.new.bounds in
    let new = c.sum.new.self in
    adds_through (IsPartIn c.args.sum.now) c.args.bounds.now mid new (adds_leaves c.args.sum.now c.args.bounds.now mid c.add_leaves.ensures.sums)
    (adds_sum (IsPartIn c.args.sum.now) mid new (turned c.args.sum.now) (as_part c.args.sum.now) (in_either mid new (turned c.args.sum.now) c.sum.result c.sum.ensures.same c.sum.ensures.err))

pub returns-in_err-add_leaves-clause-sums : goal.returns-in_err-add_leaves-clause-sums
returns-in_err-add_leaves-clause-sums c = adds_leaves c.args.sum.now c.args.bounds.now c.add_leaves.new.bounds c.add_leaves.ensures.sums

pub returns-then-count-eq4294967295-clause-sums : goal.returns-then-count-eq4294967295-clause-sums
returns-then-count-eq4294967295-clause-sums c = adds_leaves c.args.sum.now c.args.bounds.now c.add_leaves.new.bounds c.add_leaves.ensures.sums

pub returns-clause-bases : goal.returns-clause-bases
returns-clause-bases c = bases_through c.args.bounds.now c.add_leaves.new.bounds c.sum.new.self c.add_leaves.ensures.bases c.sum.ensures.bases
