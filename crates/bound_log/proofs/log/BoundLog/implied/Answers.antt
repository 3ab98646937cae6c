use Rattle.std.proofs.Common.{◌<◌, length, subst, sym}
use Rattle.bound_log.proofs.Implying.{if_some, implied_by}
use Rattle.bound_log.proofs.log.BoundLog.implied.Goals as goal

pub returns-clause-clause : goal.returns-clause-clause
returns-clause-clause c =
    let same = c.in_ok-literal.ensures in
    if_some c.try_literal.result
    (λ d t. implied_by c.args.self.now c.in_ok-literal.literal d (subst (λ a. a < length c.args.self.now.said) (sym same) c.requires.numbered) (c.requires.open c.in_ok-literal.literal same) t)
    c.try_literal.ensures.clause
