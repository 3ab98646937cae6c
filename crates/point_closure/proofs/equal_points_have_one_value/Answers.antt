use Rattle.point_closure.proofs.ClosureLaws.{equal_value}
use Rattle.point_closure.proofs.equal_points_have_one_value.Goals as goal

pub returns : goal.returns
returns c = λ ts ps pairs I i j read true' e. equal_value ts ps pairs I read true' e
