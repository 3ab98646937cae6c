use Rattle.std.proofs.Common.{◌≡◌, ◌<◌, ◌+◌, length, sym, subst, arith}
use Rattle.point_closure.specs.Unions.{Joined, IsUnion}
use Rattle.point_closure.proofs.UnionLemmas.{links_join, no_edge}
use Rattle.point_closure.proofs.classes.Classes.join.Goals as goal

pub invariant_of-self-2 : goal.invariant_of-self-2
invariant_of-self-2 c =
    let is : IsUnion (length c.self.inside.links.items) c.self.inside.unions.items c.args.union =
    subst (λ (j : Joined). IsUnion j.count j.unions c.args.union) (sym c.self.view_is) c.requires in
    let few : length c.self.inside.unions.items + 1 < no_edge = omega arith in
    let e : c.len-edge.result ≡ length c.self.inside.unions.items = omega arith in
    rw (c.in_ok-push.ensures.items, e) (links_join c.self.inside.unions.items c.self.inside.links.items c.args.union c.self.invariant few is)
