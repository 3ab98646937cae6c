use Rattle.std.proofs.Common.{◌∙◌, map, ap}
use Rattle.std.proofs.lemmas.Result.{IfOk-weaker}
use Rattle.simplex.specs.State.{tag_in}
use Rattle.simplex_steps.specs.State.{column_in}
use Rattle.sum_bounds.specs.Bounds.{told_of}
use Rattle.sum_bounds.specs.Complements.{IsClauseOf}
use Rattle.sum_bounds.specs.Wholes.{IsWholeConflict}
use Rattle.sum_bounds.proofs.WholeRows.{whole_conflict_at}
use Rattle.sum_bounds.proofs.wholes.clause_at.Goals as goal

pub returns : goal.returns
returns c =
    let s = c.args.simplex.now in
    let exact = c.deref-2.ensures.value ∙ c.in_ok-tags.ensures ∙ ap (map (tag_in s.bounds)) c.deref.ensures.value in
    IfOk-weaker c.clause_of.result (λ ls. IsClauseOf c.deref-2.result.now ls.items) (λ ls. IsWholeConflict (λ i. (column_in s.columns i).sum) (map told_of s.bounds) ls.items)
    (λ ls e. whole_conflict_at s c.args.place c.in_ok-bounds.bounds.items c.deref-2.result.now ls.items c.facts.ensures c.requires.place c.requires.lacks c.in_ok-bounds.ensures exact e)
    c.clause_of.ensures
