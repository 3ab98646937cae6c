use Rattle.std.proofs.Common.{◌≡◌, ◌∙◌, ap, sym, subst, arith, length, map}
use Rattle.std.specs.List.{range_with_len}
use Rattle.smt_meaning.specs.Report.{AreReports}
use Rattle.race_cell.specs.Passes.{claim_of}
use Rattle.portfolio.proofs.Orders.{claim_worker, pass_count, workers_of_claims}
use Rattle.portfolio.proofs.Parts.{nobody_found, all_reports}
use Rattle.portfolio.proofs.race.conclude.Goals as goal

pub end-shelf-requires-clause-all : goal.end-shelf-requires-clause-all
end-shelf-requires-clause-all g c =
    let long : length c.args.passes.items ≡ c.args.settings.now.workers = pass_count c.args.passes.items 0 c.args.settings.now.workers c.requires.order in
    let some = c.requires.workers in
    (long ∙ sym c.requires.key, omega arith)

pub unreachable-requires : goal.unreachable-requires
unreachable-requires g c =
    let order : map claim_worker (map claim_of c.args.passes.items) ≡ range_with_len 0 c.args.race.table.shared.key.workers =
    sym (workers_of_claims c.args.passes.items) ∙ (c.requires.order ∙ ap (range_with_len 0) (sym c.requires.key)) in
    let none = nobody_found c.args.stack.now c.args.settings.now.units g.S.Shelf.state c.winner_has_won.ensures _ _ _ _ c.end-shelf.ensures order c.args.tally c.requires.tallied c.in-None.is in
    let some = c.in-Some.is in
    cc

pub returns-clause-verdict : goal.returns-clause-verdict
returns-clause-verdict g c =
    subst (AreReports c.args.settings.now.workers c.args.stack.now.trees c.args.stack.now.frames c.args.settings.now.units) (sym c.from_vec.ensures)
    (all_reports c.args.stack.now c.args.settings.now.units c.args.settings.now.workers (map claim_of c.args.passes.items) c.args.tally
    (sym (workers_of_claims c.args.passes.items) ∙ c.requires.order) c.requires.tallied c.in-None.is c.in-None-winner.is)
