use Rattle.look_ahead.proofs.FreeLemmas.{inside_annotation, inside_head, inside_other}
use Rattle.look_ahead.proofs.free.look_inside.Goals as goal

pub returns-in_ok-push-in-Annotation : goal.returns-in_ok-push-in-Annotation
returns-in_ok-push-in-Annotation c = inside_annotation c.args.term.now c.args.place c.args.jobs.now.items _ c.in-Annotation.ensures.1 c.in_ok-push-in-Annotation.ensures.items

pub returns-in_ok-push-in-Head : goal.returns-in_ok-push-in-Head
returns-in_ok-push-in-Head c = inside_head c.args.term.now c.args.place c.in-Head.close c.args.jobs.now.items _ c.in-Head.ensures c.in_ok-push-in-Head.ensures.items

pub returns-in_ok-push-in-Other : goal.returns-in_ok-push-in-Other
returns-in_ok-push-in-Other c = inside_other c.args.term.now c.args.place c.args.jobs.now.items _ c.in-Other.ensures c.in_ok-push-in-Other.ensures.items
