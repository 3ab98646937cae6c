use Rattle.std.proofs.Common.{◌∙◌, ap, sym, subst, arith, ◌<◌, length, get_or}
use Rattle.std.proofs.lemmas.List.Elements.{Contains-get_or}
use Rattle.fraction128.specs.declared.Column.{Column}
use Rattle.fraction128.specs.Grid.{is_some, missed}
use Rattle.simplex_steps.specs.State.{column_in}
use Rattle.simplex_steps.specs.Suspects.{IsCalm}
use Rattle.simplex_steps.proofs.SuspectLemmas.{listed_at, column_found, calm_at, covers_removed}
use Rattle.simplex_steps.proofs.suspects.sift_at.Goals as goal

pub bounds-columns-variable : goal.bounds-columns-variable
bounds-columns-variable c =
    listed_at c.args.suspects.now c.args.columns.now c.variables.result.now c.args.place c.requires.covers c.variables.ensures (subst (λ js. c.args.place < length js) (sym c.variables.ensures) c.requires.place)

pub remove-requires-clause-known : goal.remove-requires-clause-known
remove-requires-clause-known c =
    let is = c.args.suspects.now.variables in
    let l = c.requires.covers.known (get_or is c.args.place 0) (Contains-get_or is c.args.place 0 c.requires.place) in
    let r = c.requires.covers.room in omega (arith, l, r)

pub returns-clause-covers : goal.returns-clause-covers
returns-clause-covers c =
    let cs = c.args.columns.now in
    let v = get_or c.variables.result.now c.args.place 0 in
    let lt = listed_at c.args.suspects.now cs c.variables.result.now c.args.place c.requires.covers c.variables.ensures (subst (λ js. c.args.place < length js) (sym c.variables.ensures) c.requires.place) in
    let is = column_found cs v c.index-columns-variable.result lt c.index-columns-variable.is in
    let calm = calm_at cs v c.requires.uncrossed lt (ap (λ (x : Column). is_some (missed x)) (sym is) ∙ sym c.is_outside.ensures ∙ c.if-is_outside.false) in
    covers_removed c.args.suspects.now c.remove.new.self cs (get_or c.args.suspects.now.variables c.args.place 0) c.requires.covers
    (subst (λ js. IsCalm (column_in cs (get_or js c.args.place 0))) c.variables.ensures calm) c.remove.ensures
