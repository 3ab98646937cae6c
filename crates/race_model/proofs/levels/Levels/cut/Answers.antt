use Rattle.std.proofs.Common.{ap, ◌∙◌, map}
use Rattle.race_model.specs.Base.{frame_of}
use Rattle.race_model.proofs.LevelLemmas.{map_take}
use Rattle.race_model.proofs.levels.Levels.cut.Goals as goal

pub returns-clause-frames : goal.returns-clause-frames
returns-clause-frames c = ap (map (frame_of c.args.self.now.terms)) c.truncate.ensures.items ∙ map_take (frame_of c.args.self.now.terms) c.args.count c.args.self.now.levels.items
