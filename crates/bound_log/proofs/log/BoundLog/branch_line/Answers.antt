use Rattle.std.proofs.Common.{◌≡◌, List, true, Some, None, sym, subst}
use Rattle.std.specs.Prelude.{Contains}
use Rattle.std.proofs.lemmas.Result.{IfOk-weaker}
use Rattle.fraction128.specs.declared.Member.{Member}
use Rattle.fraction128.specs.Grid.{is_basic}
use Rattle.fraction128.specs.Lines.{line_of, IsRowIn}
use Rattle.smt_meaning.specs.declared.clauses.Atom.{Atom}
use Rattle.smt_meaning.specs.CheckAtoms.{IsBoundOf}
use Rattle.simplex_steps.specs.Run.{AreWithin}
use Rattle.sum_bounds.specs.Bounds.{IsFirstIn}
use Rattle.bound_log.specs.Told.{State, IsState, column_sums}
use Rattle.bound_log.specs.Atoms.{Knows}
use Rattle.bound_log.specs.Pending.{plain_grid}
use Rattle.bound_log.proofs.Telling.{state_is}
use Rattle.bound_log.proofs.Lines.{branch_value, broken_basic, row_in}
use Rattle.bound_log.proofs.log.BoundLog.branch_line.Goals as goal

pub returns-clause-row : goal.returns-clause-row
returns-clause-row c =
    let s = c.self.inside in
    let now : State = record { bounds = s.bounds; said = s.said.items; log = s.log.items } in
    let state : IsState now = state_is s.bounds s.said.items s.log.items s.starts.items c.facts.ensures c.self.invariant.0 in
    let first : IsFirstIn s.bounds.columns c.args.leaf = subst (λ (o : State). IsFirstIn o.bounds.columns c.args.leaf) (sym c.self.view_is) c.requires.first in
    let within : AreWithin s.bounds.columns = subst (λ (o : State). AreWithin o.bounds.columns) (sym c.self.view_is) c.requires.within in
    let basic : is_basic s.bounds.table.rows c.args.leaf.variable ≡ true = broken_basic now c.args.leaf c.self.invariant.1 first in
    IfOk-weaker c.line.result (λ l. l ≡ line_of (plain_grid now) c.args.leaf.variable None)
    (λ l. (table : List Atom) → Knows table c.args.self.now → IsRowIn (column_sums c.args.self.now) (IsBoundOf (Contains table)) l)
    (λ l is table knows.
    subst (λ (o : State). IsRowIn (column_sums o) (IsBoundOf (Contains table)) l) c.self.view_is
    (row_in table now c.args.leaf.variable l state c.origins.ensures c.self.invariant.1 basic within is (subst (Knows table) (sym c.self.view_is) knows)))
    c.line.ensures

pub returns-clause-value : goal.returns-clause-value
returns-clause-value c =
    let s = c.self.inside in
    let now : State = record { bounds = s.bounds; said = s.said.items; log = s.log.items } in
    let first : IsFirstIn s.bounds.columns c.args.leaf = subst (λ (o : State). IsFirstIn o.bounds.columns c.args.leaf) (sym c.self.view_is) c.requires.first in
    IfOk-weaker c.line.result (λ l. l ≡ line_of (plain_grid now) c.args.leaf.variable None) (λ l. (b : Member) → l.basic ≡ Some b → b.column.value ≡ c.args.leaf.value)
    (λ l is. branch_value now c.args.leaf l first is) c.line.ensures
