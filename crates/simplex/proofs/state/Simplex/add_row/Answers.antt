use Rattle.std.proofs.Common.{ap, subst, sym, ◌∷◌, [], ◌++◌, List}
use Rattle.fraction128.specs.declared.Column.{Column}
use Rattle.fraction128.specs.declared.Entry.{Entry}
use Rattle.tableau.specs.Table.{Table}
use Rattle.tableau.specs.Written.{AreParts}
use Rattle.simplex.specs.Sums.{IsMeant, AreMatched}
use Rattle.simplex.proofs.Meaning.{rows_keep}
use Rattle.simplex.specs.State.{State, IsWatched, new_column, with_row}
use Rattle.simplex.proofs.GrowLemmas.{grown_row, on_cases, open_known}
use Rattle.simplex.proofs.WatchLemmas.{watched_grown, watched_refused, watched_roomy}
use Rattle.simplex.proofs.state.Simplex.add_row.Goals as goal

pub value_of-requires : goal.value_of-requires
value_of-requires c =
    open_known c.self.inside.tableau c.self.inside.columns.items c.in_ok-entries.entries.items c.in_ok-entries.ensures.ok.open_row c.self.invariant.core.solution.count

pub invariant_of-self-2 : goal.invariant_of-self-2
invariant_of-self-2 c =
    let t = c.self.inside.tableau in
    let cs = c.self.inside.columns.items in
    let column = new_column c.args.sum c.in_ok-value.value in
    let trail = c.add_variable-2.new.self in
    let suspects = c.add_variable.new.self in
    let meant =
    subst (λ (xs : List Entry). IsMeant (t.rows ++ record { basic = t.count; entries = xs } ∷ []) (cs ++ column ∷ [])) (sym c.in_ok-entries.ensures.ok.exact)
    (rows_keep t cs column c.args.parts.now c.facts.ensures c.self.invariant.core.solution.count c.self.invariant.core.meant
    (subst (λ (u : Table). AreParts u.count c.args.parts.now) (sym (ap (λ (s : State). s.table) c.self.view_is)) c.requires.parts)
    (subst (λ (ds : List Column). AreMatched ds c.args.sum c.args.parts.now) (sym (ap (λ (s : State). s.columns) c.self.view_is)) c.requires.matched)) in
    on_cases c.append.result c.append.ensures.table c.append.ensures.columns c.append.ensures.err
    (λ e f. subst (λ u. IsWatched u c.append.new.columns.items trail suspects) (sym e)
    (subst (λ ds. IsWatched (with_row t (record { basic = t.count; entries = c.in_ok-entries.entries.items })) ds trail suspects) (sym f)
    (watched_grown t (with_row t (record { basic = t.count; entries = c.in_ok-entries.entries.items })) cs c.self.inside.trail trail c.self.inside.suspects suspects c.args.sum c.in_ok-value.value c.self.invariant
    (grown_row t cs column c.in_ok-entries.entries.items c.facts.ensures c.self.invariant.core.solution c.in_ok-entries.ensures.ok.open_row c.in_ok-value.ensures.value c.in_ok-value.ensures.fraction)
    meant c.in_ok-add_variable-2.ensures.ok c.in_ok-add_variable.ensures.ok)))
    (λ e. subst (λ u. IsWatched u c.append.new.columns.items trail suspects) (sym e.0)
    (subst (λ ds. IsWatched t ds trail suspects) (sym e.1) (watched_roomy t cs c.self.inside.trail trail c.self.inside.suspects suspects c.self.invariant c.in_ok-add_variable-2.ensures.ok c.in_ok-add_variable.ensures.ok)))

pub invariant_of-self-in_err-add_variable-2 : goal.invariant_of-self-in_err-add_variable-2
invariant_of-self-in_err-add_variable-2 c =
    watched_refused c.self.inside.tableau c.self.inside.columns.items c.self.inside.trail c.add_variable-2.new.self c.self.inside.suspects c.add_variable.new.self c.self.invariant c.in_err-add_variable-2.ensures.err c.in_ok-add_variable.ensures.ok
