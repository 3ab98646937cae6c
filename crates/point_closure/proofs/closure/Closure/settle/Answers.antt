use Rattle.point_closure.proofs.KeepsLemmas.{keeps_more}
use Rattle.point_closure.proofs.closure.Closure.settle.Goals as goal

pub returns-clause-keeps : goal.returns-clause-keeps
returns-clause-keeps c = keeps_more c.args.self.now c.file.new.self c.close.new.self c.file.ensures.keeps c.close.ensures.keeps
