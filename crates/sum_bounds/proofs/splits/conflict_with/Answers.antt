use Rattle.std.proofs.Common.{◌∙◌, ◌++◌, ◌∷◌, [], false, ℤ, ap}
use Rattle.std.proofs.lemmas.Option.{IfSome_then}
use Rattle.fraction128.proofs.Integers.{same_bits}
use Rattle.sum_bounds.specs.Bounds.{told_bound}
use Rattle.sum_bounds.proofs.SplitLaws.{keeps_values, keeps_both, taken_back, conflict_more}
use Rattle.sum_bounds.proofs.splits.conflict_with.Goals as goal

pub returns-in-Ok-clause-keeps : goal.returns-in-Ok-clause-keeps
returns-in-Ok-clause-keeps c =
    keeps_both c.args.copy.now c.assert.new.self c.conflict_and_undo.new.copy (keeps_values c.args.copy.now c.assert.new.self c.assert.ensures.values) c.conflict_and_undo.ensures.keeps

pub returns-in-Ok-clause-told : goal.returns-in-Ok-clause-told
returns-in-Ok-clause-told c =
    taken_back c.args.copy.now c.assert.new.self c.conflict_and_undo.new.copy c.len-count.result (told_bound c.args.literal c.args.variable false c.args.number) c.len-count.ensures
    (c.in-Ok.ensures.told ∙ ap (λ (k : ℤ). c.args.copy.now.told ++ told_bound c.args.literal c.args.variable false k ∷ []) (same_bits c.args.number c.requires.number)) c.conflict_and_undo.ensures.told

pub returns-in-Ok-clause-some : goal.returns-in-Ok-clause-some
returns-in-Ok-clause-some c =
    let told = c.in-Ok.ensures.told ∙ ap (λ (k : ℤ). c.args.copy.now.told ++ told_bound c.args.literal c.args.variable false k ∷ []) (same_bits c.args.number c.requires.number) in
    IfSome_then c.conflict_and_undo.result c.conflict_and_undo.ensures.some
    (λ ls h. conflict_more c.args.copy.now c.assert.new.self (told_bound c.args.literal c.args.variable false c.args.number) ls.items (keeps_values c.args.copy.now c.assert.new.self c.assert.ensures.values) told h)
