use Rattle.std.proofs.Common.{arith}
use Rattle.model_eval.proofs.Folds.{right_fits, fold_and, fold_or, fold_xor}
use Rattle.model_eval.proofs.Quotients.{fold_divide, left_fits}
use Rattle.model_eval.proofs.operators.operate.Goals as goal

pub returns-in-Implies : goal.returns-in-Implies
returns-in-Implies c = grind (arith, right_fits c.args.arguments.now)

pub returns-in-And : goal.returns-in-And
returns-in-And c = grind (arith, fold_and c.args.arguments.now, fold_or c.args.arguments.now, fold_xor c.args.arguments.now, fold_divide c.args.arguments.now)

pub returns-in-Modulo : goal.returns-in-Modulo
returns-in-Modulo c = grind (arith, left_fits c.args.arguments.now)
