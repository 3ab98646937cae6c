use Rattle.std.proofs.Common.{length}
use Rattle.linear_forms.specs.Entries.{knowns}
use Rattle.linear_forms.proofs.MultipleLemmas.{higher_all}
use Rattle.linear_forms.proofs.multiples.combine_known.Goals as goal

pub combine_into-folded-requires-clause-sums : goal.combine_into-folded-requires-clause-sums
combine_into-folded-requires-clause-sums c =
    higher_all (length c.args.entries.now) (length c.reach.new.values.items) (knowns c.args.all.now c.args.entries.now) c.args.multiples.now c.in_ok-reach.ensures.size c.requires.sums
