-- How a proof stores points. No definition speaks of it.
use Rattle.std.specs.Prelude.{ℕ, List, refl}
use Rattle.std.specs.Coded.{Coded, code_by, coded×, coded_ℕ, coded_list}
use Rattle.point_closure.specs.declared.shape.Shape.{Shape}
use Rattle.point_closure.specs.contracts.shape.Shape as shape
use Rattle.point_closure.specs.Closure.{Point}

abbrev pub point_code : Coded Point
point_code = code_by (Shape × List ℕ) (coded× shape.the_row.coded (coded_list coded_ℕ)) (λ p. (p.shape, p.arguments)) (λ p. record { shape = p.0; arguments = p.1 }) (λ _. refl)

abbrev pub points_code : Coded (List Point)
points_code = coded_list point_code
