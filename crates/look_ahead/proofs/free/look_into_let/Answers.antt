use Rattle.look_ahead.proofs.FreeLemmas.{inside_right, inside_malformed}
use Rattle.look_ahead.proofs.free.look_into_let.Goals as goal

pub returns-in_ok-push-in-Some-2 : goal.returns-in_ok-push-in-Some-2
returns-in_ok-push-in-Some-2 c = inside_right c.args.term.now c.args.place c.in-Some.places c.args.jobs.now.items c.push.new.self.items _ c.requires.word c.in-Some.ensures c.in_ok-push-in-Some.ensures.items c.in_ok-push-in-Some-2.ensures.items

pub returns-in_ok-push-in-None : goal.returns-in_ok-push-in-None
returns-in_ok-push-in-None c = inside_malformed c.args.term.now c.args.place c.args.jobs.now.items _ c.requires.word c.in-None.ensures c.in_ok-push-in-None.ensures.items
