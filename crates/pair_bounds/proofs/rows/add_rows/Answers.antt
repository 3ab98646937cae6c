use Rattle.std.proofs.Common.{subst}
use Rattle.std.specs.Prelude.{◌≡◌, OnOk, ◌++◌}
use Rattle.fraction128.proofs.Integers.{same_bits}
use Rattle.pair_bounds.specs.Rows.{placed_rows}
use Rattle.pair_bounds.proofs.RowLemmas.{all_rows}
use Rattle.pair_bounds.proofs.rows.add_rows.Goals as goal

pub returns-clause-within : goal.returns-clause-within
returns-clause-within c =
    all_rows c.add_of_term.result c.args.operator c.args.divisor c.args.place c.args.arguments.now c.args.rows.now.items c.add_of_term.new.rows.items c.requires
    (subst (λ n. OnOk c.add_of_term.result (c.add_of_term.new.rows.items ≡ c.args.rows.now.items ++ placed_rows c.args.operator n c.args.place c.args.arguments.now))
    (same_bits c.args.divisor c.requires) c.add_of_term.ensures)
