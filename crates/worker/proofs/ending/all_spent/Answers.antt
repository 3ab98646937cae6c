use Rattle.std.proofs.Common.{◌≡◌, ℕ, List, map, subst, sym, ap, ◌∙◌, refl}
use Rattle.smt_meaning.specs.declared.reports.Unit.{Unit as ShownUnit}
use Rattle.smt_meaning.specs.declared.reports.Cause.TheVariants.{Units}
use Rattle.smt_meaning.specs.Stack.{depth}
use Rattle.smt_meaning.specs.Report.{Shows}
use Rattle.search_port.specs.State.{Reading}
use Rattle.search_port.specs.declared.budget.Spent.{Spent}
use Rattle.worker.specs.Shown.{unit_of}
use Rattle.worker.proofs.ending.all_spent.Goals as goal

pub returns-clause-report : goal.returns-clause-report
returns-clause-report g c =
    let s = c.args.stack.now in
    let q : Reading = (g.T.Theory.state c.args.theory).reading in
    let deep : map (unit_of q.table c.depth.result) c.into_units.result.items ≡ map (unit_of q.table (depth s.frames)) c.into_units.result.items =
    ap (λ (d : ℕ). map (unit_of q.table d) c.into_units.result.items) c.depth.ensures in
    let spent : map (unit_of q.table (depth s.frames)) c.into_units.result.items ≡ map (unit_of q.table (depth s.frames)) c.args.budget.units =
    ap (λ (us : List Spent). map (unit_of q.table (depth s.frames)) us) c.into_units.ensures in
    let same : c.in-Ok.units ≡ map (unit_of q.table (depth s.frames)) c.args.budget.units = c.in-Ok.ensures ∙ deep ∙ spent in (
      refl,
      subst (λ (us : List ShownUnit). Shows s.trees s.frames c.args.settings.now.units c.show-shown.result.branches (Units us)) (sym same)
          (c.requires.spent (sym c.if-may_forget.ensures) c.show-shown.result c.show-shown.ensures),
    )
