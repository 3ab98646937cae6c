use Rattle.point_closure.proofs.ClassLaws.{root_equal}
use Rattle.point_closure.proofs.classes_are_equal.Goals as goal

pub returns : goal.returns
returns c = λ ps log us i j unions alike merges e. root_equal ps log us unions alike merges i j e
