use Rattle.std.proofs.Common.{sym, subst}
use Rattle.std.proofs.lemmas.List.Elements.{All-push}
use Rattle.point_closure.specs.declared.classes.Reason.TheVariants.{Alike}
use Rattle.point_closure.specs.declared.pending.Pending.{Pending}
use Rattle.point_closure.specs.Sound.{IsPending}
use Rattle.point_closure.specs.Rest.{AreTied}
use Rattle.point_closure.proofs.SoundLemmas.{pending_alike}
use Rattle.point_closure.proofs.RestLemmas.{tied_pending}
use Rattle.point_closure.proofs.file.pair.Goals as goal

pub returns-in_ok-push-clause-sound : goal.returns-in_ok-push-clause-sound
returns-in_ok-push-clause-sound c = λ log all.
    let p : Pending = record { left = c.args.left; right = c.args.right; reason = Alike } in
    rw c.in_ok-push.ensures.items
    (All-push (IsPending c.args.graph.now c.args.classes.now.unions log) c.args.pending.now.items p all
    (pending_alike c.args.graph.now c.args.classes.now.unions log c.args.left c.args.right c.requires.left_within c.requires.right_within c.requires.takes c.requires.congruent))

pub returns-in_ok-push-clause-ok : goal.returns-in_ok-push-clause-ok
returns-in_ok-push-clause-ok c =
    let p : Pending = record { left = c.args.left; right = c.args.right; reason = Alike } in
    subst (λ xs. AreTied c.args.classes.now.unions xs c.args.right c.args.left) (sym c.in_ok-push.ensures.items)
    (λ class r. sym (tied_pending c.args.classes.now.unions c.args.pending.now.items p class r))
