use Rattle.std.proofs.Common.{◌∙◌}
use Rattle.std.proofs.lemmas.Result.{on_ok_weaker}
use Rattle.sum_bounds.proofs.SplitLaws.{other_put}
use Rattle.sum_bounds.proofs.splits.put_other.Goals as goal

pub returns : goal.returns
returns c =
    on_ok_weaker c.put.result (other_put c.args.clause.now.items c.put.new.clause.items c.args.literal (λ e. c.if-atom-eq-SPARE.false (c.atom.ensures ∙ e))) c.put.ensures
