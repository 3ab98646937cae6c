use Rattle.std.proofs.Common.{◌<◌, ◌≤◌, ◌∙◌, length, arith}
use Rattle.race_model.proofs.LevelLemmas.{at_level, at_no_level}
use Rattle.race_model.proofs.levels.Levels.asserted_at.Goals as goal

pub returns-then-level-len : goal.returns-then-level-len
returns-then-level-len c =
    let size = c.args.self.now.levels.ok.0 in
    let inside : c.args.level < length c.args.self.now.levels.items = omega arith in
    c.len-then-level-len.ensures ∙ at_level c.args.self.now.terms c.args.self.now.levels.items c.args.level c.index.result.now inside c.index.ensures

pub returns-else-level-len : goal.returns-else-level-len
returns-else-level-len c =
    let size = c.args.self.now.levels.ok.0 in
    let outside : length c.args.self.now.levels.items ≤ c.args.level = omega arith in
    at_no_level c.args.self.now.terms c.args.self.now.levels.items c.args.level outside
