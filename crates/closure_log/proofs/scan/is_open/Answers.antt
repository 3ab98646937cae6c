use Rattle.std.proofs.Common.{rules, ◌≡◌, None}
use Rattle.closure_log.proofs.Scanning.{where_none}
use Rattle.closure_log.proofs.scan.is_open.Goals as goal

pub returns : goal.returns
returns c = λ e.
    let none : c.told_of.result ≡ None = search rules in
    where_none c.told_of.result none c.told_of.ensures.none
