use Rattle.int_branch.proofs.Branches.{are_normal, one_holds, branches_valid}
use Rattle.int_branch.proofs.sides.branches_hold.Goals as goal

pub returns : goal.returns
returns c = record { normal = are_normal; one = one_holds; valid = branches_valid }
