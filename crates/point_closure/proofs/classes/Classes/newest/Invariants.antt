use Rattle.std.proofs.Common.{◌+◌, ◌-◌, ◌^◌}
use Rattle.point_closure.specs.Links.{link_at}
use Rattle.point_closure.proofs.UnionLemmas.{AreMeeting}
use Rattle.point_closure.proofs.classes.Classes.newest.Given as goal

abbrev pub invariant-walk : goal.invariant-walk
invariant-walk l = AreMeeting l.self-inside.unions.items l.self-inside.links.items l.left l.right l.one l.other

abbrev pub decreases-walk : goal.decreases-walk
decreases-walk l = (2 ^ 32 - (link_at l.self-inside.links.items l.one).edge) + (2 ^ 32 - (link_at l.self-inside.links.items l.other).edge)
