use Rattle.std.proofs.lemmas.Option.{IfSome_then}
use Rattle.sum_bounds.proofs.SplitLaws.{extends_both, extends_kept, split_back}
use Rattle.sum_bounds.proofs.splits.split_at.Goals as goal

pub returns-clause-extends : goal.returns-clause-extends
returns-clause-extends c =
    let s = c.variable_of.new.copy in
    extends_both c.args.copy.now s c.split.new.copy c.variable_of.ensures.extends (extends_kept s c.split.new.copy c.split.ensures.keeps c.split.ensures.told)

pub returns-clause-some : goal.returns-clause-some
returns-clause-some c =
    IfSome_then c.split.result c.split.ensures.some (λ ls h. split_back c.variable_of.new.copy c.split.new.copy ls.items c.split.ensures.keeps c.split.ensures.told h)
