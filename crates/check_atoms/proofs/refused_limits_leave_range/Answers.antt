use Rattle.check_atoms.proofs.RefusedPairs.{refused_limits}
use Rattle.check_atoms.proofs.refused_limits_leave_range.Goals as goal

pub returns : goal.returns
returns c =
    refused_limits c.lawful_limits_leave_range.ensures c.numerals_are_in_range.ensures c.no_id_twice.ensures c.assertions_are_truths.ensures c.trees_are_in_order.ensures
    c.parts_are_among_the_trees.ensures c.trees_are_linear.ensures
