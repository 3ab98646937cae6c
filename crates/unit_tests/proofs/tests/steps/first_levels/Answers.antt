use Rattle.std.proofs.Common.{rules}
use Rattle.unit_tests.proofs.Stated.{base_is}
use Rattle.unit_tests.proofs.tests.steps.first_levels.Goals as goal

pub returns : goal.returns
returns c = base_is (record { terms = c.in_ok-terms.terms; levels = c.in_ok-levels.levels }) c.in_ok-terms.ensures (search rules)
