-- How a proof stores classes. No definition speaks of it.
use Rattle.std.specs.Prelude.{ℕ, List, refl}
use Rattle.std.specs.Coded.{Coded, code_by, coded×, coded_ℕ, coded_list}
use Rattle.point_closure.specs.declared.classes.Union.{Union}
use Rattle.point_closure.specs.contracts.classes.Union as union
use Rattle.point_closure.specs.Unions.{Joined}

abbrev pub joined_code : Coded Joined
joined_code = code_by (ℕ × List Union) (coded× coded_ℕ (coded_list union.the_row.coded)) (λ j. (j.count, j.unions)) (λ p. record { count = p.0; unions = p.1 }) (λ _. refl)
