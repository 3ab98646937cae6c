use Rattle.std.proofs.Common.{length}
use Rattle.linear_forms.specs.Entries.{knowns}
use Rattle.linear_forms.proofs.NodeLemmas.{higher_sums}
use Rattle.linear_forms.proofs.nodes.fold_combined.Goals as goal

pub combine_into-folded-requires-clause-sums : goal.combine_into-folded-requires-clause-sums
combine_into-folded-requires-clause-sums c =
    higher_sums c.args.place (length c.reach.new.values.items) (knowns c.args.all.now c.args.entries.now) c.args.arguments.now c.in_ok-reach.ensures.size c.requires.sums
