use Rattle.std.proofs.Common.{ℕ, ◌<◌, List, All, length, sym, subst}
use Rattle.point_closure.proofs.GoingLemmas.{list_below}
use Rattle.point_closure.proofs.join.join_all.Goals as goal

pub meet_pairs-requires-clause-slots : goal.meet_pairs-requires-clause-slots
meet_pairs-requires-clause-slots c =
    subst (λ (l : List ℕ). All (λ x. x < length c.args.pairs.now) l) (sym c.list.ensures) (list_below (length c.args.pairs.now) c.args.watches.now.changes c.args.union.gone c.requires.slots)
