use Rattle.std.proofs.Common.{map, arith}
use Rattle.smt_meaning.specs.Seen.{seen}
use Rattle.elaborate.specs.Judged.{scope_of, rules_of}
use Rattle.elaborate.specs.Frames.{variable_at}
use Rattle.elaborate.proofs.Names.{left_out, stands_for_none}
use Rattle.elaborate.proofs.token.judge_token.Goals as goal

pub returns-in-Decimal-clause-comes : goal.returns-in-Decimal-clause-comes
returns-in-Decimal-clause-comes c =
    left_out (rules_of c.args.rules) (map (variable_at c.args.store.now.trees) c.args.bindings.now) (seen c.args.token) (scope_of c.args.table.now c.args.store.now.trees) c.args.store.now.trees c.unknown.result (grind (arith, c.in-Decimal.is)) c.unknown.ensures

pub returns-in_default-clause-comes : goal.returns-in_default-clause-comes
returns-in_default-clause-comes c = stands_for_none (rules_of c.args.rules) (map (variable_at c.args.store.now.trees) c.args.bindings.now) c.args.token (scope_of c.args.table.now c.args.store.now.trees) c.in_default.not-Symbol c.in_default.not-Numeral c.in_default.not-Decimal c.in_default.not-Hex c.in_default.not-Binary c.in_default.not-Text
