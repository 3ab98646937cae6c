use Rattle.look_ahead.proofs.FreeLemmas.{begun}
use Rattle.look_ahead.proofs.free.first_has_free.Goals as goal

pub loop-job-init : goal.loop-job-init
loop-job-init g c =
    begun c.args.term.now (g.N.Names.names c.args.names.now) c.args.place c.new-hidden.result.items c.new-jobs.result.items _ c.new-hidden.ensures.items c.new-jobs.ensures.items c.in_ok-push.ensures.items
