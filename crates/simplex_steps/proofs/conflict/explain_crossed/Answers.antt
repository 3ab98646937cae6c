use Rattle.std.proofs.Common.{◌∙◌, ap, ap₂, [], ◌∷◌, ◌++◌}
use Rattle.simplex_steps.proofs.ConflictLemmas.{crossing}
use Rattle.simplex_steps.proofs.conflict.explain_crossed.Goals as goal

pub returns : goal.returns
returns c =
    crossing c.args.columns.now c.args.variable c.push-2.new.self.items c.requires.known c.requires.crossed c.requires.least
    (c.in_ok-push-2.ensures.items ∙ ap (λ xs. xs ++ c.bound-2.result ∷ []) (c.in_ok-push.ensures.items ∙ ap (λ xs. xs ++ c.bound.result ∷ []) c.new-bounds.ensures.items)
    ∙ ap₂ (λ x y. x ∷ y ∷ []) c.bound.ensures c.bound-2.ensures)
