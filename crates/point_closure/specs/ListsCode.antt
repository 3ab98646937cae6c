-- How a proof stores lists of classes. No definition speaks of it.
use Rattle.std.specs.Prelude.{ℕ, List, refl}
use Rattle.std.specs.Coded.{Coded, code_by, coded×, coded_ℕ, coded_list}
use Rattle.point_closure.specs.declared.lists.Change.{Change}
use Rattle.point_closure.specs.contracts.lists.Change as change
use Rattle.point_closure.specs.Lists.{Listed}

abbrev pub listed_code : Coded Listed
listed_code = code_by (ℕ × List Change) (coded× coded_ℕ (coded_list change.the_row.coded)) (λ s. (s.count, s.changes)) (λ p. record { count = p.0; changes = p.1 }) (λ _. refl)
