use Rattle.std.proofs.Common.{◌≡◌, ◌-◌, ◌^◌, ◌<◌, length}
use Rattle.point_closure.specs.Unions.{root_of}
use Rattle.point_closure.specs.Links.{link_at}
use Rattle.point_closure.proofs.classes.Classes.class_of.Given as goal

abbrev pub invariant-walk : goal.invariant-walk
invariant-walk l = record {
  within : l.at < length l.self-inside.links.items;
  same : root_of l.self-inside.unions.items l.at ≡ root_of l.self-inside.unions.items l.point;
}

abbrev pub decreases-walk : goal.decreases-walk
decreases-walk l = 2 ^ 32 - (link_at l.self-inside.links.items l.at).edge
