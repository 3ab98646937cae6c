use Rattle.std.proofs.Common.{reverse}
use Rattle.look_ahead.proofs.FreeLemmas.{unhidden}
use Rattle.look_ahead.proofs.free.look_once.Goals as goal

pub returns-in-Unhide : goal.returns-in-Unhide
returns-in-Unhide g c =
    unhidden c.args.term.now (g.N.Names.names c.args.names.now) c.args.job c.in-Unhide.count c.args.hidden.now.items c.truncate.new.self.items (reverse c.args.jobs.now.items) c.in-Unhide.is c.truncate.ensures.items
