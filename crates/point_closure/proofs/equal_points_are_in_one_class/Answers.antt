use Rattle.point_closure.proofs.ClassLaws.{equal_class}
use Rattle.point_closure.proofs.equal_points_are_in_one_class.Goals as goal

pub returns : goal.returns
returns c = λ ps pairs class i j respects e. equal_class ps pairs class respects e
