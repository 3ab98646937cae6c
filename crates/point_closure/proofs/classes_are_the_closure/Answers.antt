use Rattle.point_closure.specs.Unions.{root_of}
use Rattle.point_closure.specs.Explained.{merged}
use Rattle.point_closure.proofs.ClassLaws.{root_equal, equal_class}
use Rattle.point_closure.proofs.classes_are_the_closure.Goals as goal

pub returns : goal.returns
returns c = λ ps log us i j unions alike merges rest. (
  λ e. root_equal ps log us unions alike merges i j e,
  λ e. equal_class ps (merged log) (root_of us) (record { pairs_in_one = rest.merges; congruent = rest.congruent }) e,
)
