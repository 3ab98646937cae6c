use Rattle.std.proofs.Common.{List, length, Contains, sym, subst, rules}
use Rattle.fraction128.specs.declared.Grid.{Grid}
use Rattle.smt_meaning.specs.Term.{Tree}
use Rattle.smt_meaning.specs.Interpretation.{meaning}
use Rattle.model_eval.specs.Unfit.{IsFirstUnfitOfAny}
use Rattle.bound_log.specs.Told.{column_sums}
use Rattle.exact_model.specs.Places.{marked_places, AllMarkedFit}
use Rattle.exact_model.specs.Leaves.{HaveLeafValues}
use Rattle.exact_model.proofs.Spreading.{marked_are}
use Rattle.exact_model.proofs.Ending.{are_within, in_model}
use Rattle.exact_model.proofs.ends.end_exactly.Goals as goal

pub returns-in-Ok : goal.returns-in-Ok
returns-in-Ok c =
    let s = c.args.stack.now in
    let marks = c.args.marks.now in
    are_within c.flat_says_the_same.ensures c.truths_are_of_bools.ensures s marks c.args.values.now c.args.tables c.laws.ensures c.requires.size c.requires.fitting c.requires.exact c.requires.tables
    (subst (λ (ts : List Tree). AllMarkedFit ts marks (meaning c.args.tables)) c.terms.ensures.trees c.in-Ok.ensures.fits)

pub returns-in_ok-grid-in-Err-Range : goal.returns-in_ok-grid-in-Err-Range
returns-in_ok-grid-in-Err-Range c = λ table knows.
    let s = c.args.stack.now in
    let marks = c.args.marks.now in
    let i = c.in-Err-Range.place in
    let first : IsFirstUnfitOfAny (meaning c.args.tables) c.terms.result.now.trees (marked_places marks) i = search rules in
    let have : HaveLeafValues s marks c.in_ok-grid-in-Err-Range.grid (length s.trees) c.args.values.now =
    subst (λ (g : Grid). HaveLeafValues s marks g (length s.trees) c.args.values.now) (sym c.in_ok-grid-in-Err-Range.ensures.exact) c.requires.have in
    in_model c.flat_says_the_same.ensures c.truths_are_of_bools.ensures s marks c.args.values.now c.args.tables c.laws.ensures c.requires.size c.requires.fitting c.requires.exact
    c.in_ok-grid-in-Err-Range.grid have (column_sums c.args.bounds.now) (Contains table) i c.requires.tables
    (subst (λ (ts : List Tree). IsFirstUnfitOfAny (meaning c.args.tables) ts (marked_places marks) i) c.terms.ensures.trees first) (marked_are marks) (c.in_ok-grid-in-Err-Range.ensures.sound table knows)
