use Rattle.std.proofs.Common.{◌≡◌, List, sym, subst}
use Rattle.std.specs.Prelude.{Contains}
use Rattle.std.proofs.lemmas.Result.{IfOk-weaker}
use Rattle.fraction128.specs.Lines.{IsSoundGrid}
use Rattle.smt_meaning.specs.declared.clauses.Atom.{Atom}
use Rattle.smt_meaning.specs.CheckAtoms.{IsBoundOf}
use Rattle.bound_log.specs.Told.{State, IsState, column_sums}
use Rattle.bound_log.specs.Atoms.{Knows}
use Rattle.bound_log.specs.Pending.{plain_grid}
use Rattle.bound_log.proofs.Telling.{state_is}
use Rattle.bound_log.proofs.Lines.{sound_grid}
use Rattle.bound_log.proofs.log.BoundLog.grid.Goals as goal

pub returns-clause-sound : goal.returns-clause-sound
returns-clause-sound c =
    let s = c.self.inside in
    let now : State = record { bounds = s.bounds; said = s.said.items; log = s.log.items } in
    let state : IsState now = state_is s.bounds s.said.items s.log.items s.starts.items c.facts.ensures c.self.invariant.0 in
    IfOk-weaker c.grid.result (λ g. g ≡ plain_grid now) (λ g. (table : List Atom) → Knows table c.args.self.now → IsSoundGrid (column_sums c.args.self.now) (IsBoundOf (Contains table)) g)
    (λ g is table knows.
    subst (λ (o : State). IsSoundGrid (column_sums o) (IsBoundOf (Contains table)) g) c.self.view_is
    (subst (IsSoundGrid (column_sums now) (IsBoundOf (Contains table))) (sym is) (sound_grid table now state c.origins.ensures c.self.invariant.1 (subst (Knows table) (sym c.self.view_is) knows))))
    c.grid.ensures
