use Rattle.look_ahead.proofs.LetLemmas.{more_names}
use Rattle.look_ahead.proofs.lets.names_bound.Goals as goal

pub loop-at-preserved : goal.loop-at-preserved
loop-at-preserved c =
    more_names c.loop-at.names.items c.push.new.self.items c.in-Named.name _ _ _ c.loop-at.invariant c.in-Named.ensures.1 c.in_ok-push-in-Named.ensures.items
