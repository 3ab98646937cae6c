use Rattle.std.proofs.Common.{◌≡◌, List, [], ◌∷◌, ◌++◌, sym, ap, ◌∙◌, subst}
use Rattle.atomic_table.specs.Table.{opening}
use Rattle.race_cell.specs.Rules.{Kept, opening_view}
use Rattle.race_cell.proofs.Opens.{opens}
use Rattle.race_cell.proofs.race.Race.lay.Goals as goal

pub new-requires : goal.new-requires
new-requires g c =
    let S : Type 0 = g.row.S.Denot in
    let y : S = c.begin.new.self in
    let items : c.push_reserved.new.self.items ≡ y ∷ [] = ◌∙◌ {A = List S} c.push_reserved.ensures.items (ap (λ (l : List S). l ++ y ∷ []) c.in-Ok-with_capacity.ensures.items) in
    let b = g.S.Shelf.state in
    subst (λ (z : S × List S). Kept b (b z.0) c.args.workers (opening (0 ∷ 0 ∷ 0 ∷ []) z.1 (opening_view z.0 c.args.workers))) (λ i. (sym c.of.ensures i, sym items i))
    (opens b y c.args.workers c.in-Ok.ensures.ok.room c.ranges.workers.fits)
