use Rattle.race_model.proofs.LevelLemmas.{both_new, not_new}
use Rattle.race_model.proofs.levels.Levels.is_new.Goals as goal

pub returns-then-each_is_new : goal.returns-then-each_is_new
returns-then-each_is_new c =
    both_new c.args.self.now.terms c.args.self.now.levels.items _ _ c.args.addition.now.named _ c.args.addition.now.declared _ _ _
    c.as_slice.ensures.value c.as_slice-then-each_is_new.ensures.value c.as_slice-named.ensures c.as_slice-2.ensures
    c.each_is_new.ensures c.if-each_is_new.true c.each_is_new-then-each_is_new.ensures

pub returns-else-each_is_new : goal.returns-else-each_is_new
returns-else-each_is_new c =
    not_new c.args.self.now.terms c.args.self.now.levels.items _ c.args.addition.now.named _ c.args.addition.now.declared _ _
    c.as_slice.ensures.value c.as_slice-named.ensures c.as_slice-2.ensures
    c.each_is_new.ensures c.if-each_is_new.false
