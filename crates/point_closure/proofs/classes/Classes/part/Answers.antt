use Rattle.std.proofs.Common.{List, subst}
use Rattle.point_closure.specs.declared.classes.Union.{Union}
use Rattle.point_closure.specs.Links.{AreLinks}
use Rattle.point_closure.proofs.UnionLemmas.{links_part}
use Rattle.point_closure.proofs.classes.Classes.part.Goals as goal

pub invariant_of-self-2 : goal.invariant_of-self-2
invariant_of-self-2 c =
    links_part c.pop.new.self.items c.self.inside.links.items c.in_ok-union.union
    (subst (λ (us : List Union). AreLinks us c.self.inside.links.items) c.in_ok-union.ensures.items c.self.invariant)
