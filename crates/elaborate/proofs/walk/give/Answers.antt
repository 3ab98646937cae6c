use Rattle.std.proofs.Common.{◌∙◌, refl}
use Rattle.elaborate.proofs.Giving.{give_whole, give_frame}
use Rattle.elaborate.proofs.walk.give.Goals as goal

pub returns-in-None : goal.returns-in-None
returns-in-None c = give_whole c.args.walk.now _ c.args.value c.requires.none c.in-None.ensures.none.0 refl refl c.in-None.ensures.none.1

pub returns-in_ok-push-in-Some : goal.returns-in_ok-push-in-Some
returns-in_ok-push-in-Some c =
    give_frame c.args.walk.now _ c.args.value c.in-Some.frame c.in_ok-frame-in-Some.frame c.pop.new.self c.requires.none c.in-Some.ensures.some refl
    (c.drop_newest.ensures ∙ c.bound_by-count.ensures c.args.walk.now.bindings) c.in_ok-push-in-Some.ensures.ok c.in_ok-frame-in-Some.ensures
