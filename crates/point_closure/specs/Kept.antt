-- How points are kept: as rows, each point's shape at the head.
use Rattle.std.specs.Prelude.{ℕ, List, map}
use Rattle.point_closure.specs.declared.shape.Shape.{Shape}
use Rattle.point_closure.specs.Closure.{Point}

abbrev pub point_of : Shape → List ℕ → Point
point_of shape arguments = record { shape = shape; arguments = arguments }

abbrev pub points_of : List (Shape × List ℕ) → List Point
points_of rows = map (λ r. point_of r.0 r.1) rows
