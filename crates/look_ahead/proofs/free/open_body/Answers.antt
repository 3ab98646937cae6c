use Rattle.std.proofs.Common.{arith}
use Rattle.look_ahead.proofs.FreeLemmas.{body_opened}
use Rattle.look_ahead.proofs.free.open_body.Goals as goal

pub returns : goal.returns
returns c =
    body_opened c.args.term.now c.args.places c.args.hidden.now.items _ c.len-count.result c.args.jobs.now.items c.push.new.self.items _ c.in_ok-hide.ensures (omega arith) c.in_ok-push.ensures.items c.in_ok-push-2.ensures.items
