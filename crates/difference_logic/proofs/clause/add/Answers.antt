use Rattle.std.proofs.Common.{sym, subst}
use Rattle.std.specs.Prelude.{All, Contains}
use Rattle.difference_logic.proofs.Clausing.{all_more}
use Rattle.difference_logic.proofs.clause.add.Goals as goal

pub returns : goal.returns
returns c = λ log among all. subst (All (Contains log)) (sym c.in_ok-push.ensures.items) (all_more log c.args.literals.now.items c.args.literal among all)
