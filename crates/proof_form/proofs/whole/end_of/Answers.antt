use Rattle.std.proofs.Common.{refl, arith}
use Rattle.proof_form.proofs.Going.{ends_empty, ends_full, ends_nowhere}
use Rattle.proof_form.proofs.whole.end_of.Goals.{else-count-gt0-via-then-count-gt0+else-is_empty, else-count-gt0-via-else-count-gt0}
use Rattle.proof_form.proofs.whole.end_of.Goals as goal

pub returns-then-is_empty : goal.returns-then-is_empty
returns-then-is_empty c =
    ends_empty c.args.clauses.now c.len-count.result c.clause.result.now c.len-count.ensures.count c.if-count-gt0.true c.clause.ensures c.if-is_empty.ensures

pub returns-else-count-gt0 : goal.returns-else-count-gt0
returns-else-count-gt0 c = λ all keeps. (
  refl,
  elim c.else-count-gt0.branch [
    | else-count-gt0-via-then-count-gt0+else-is_empty w ↦ ends_full c.args.clauses.now c.len-count.result w.clause.result.now c.len-count.ensures.count w.clause.ensures w.if-is_empty.ensures all keeps
    | else-count-gt0-via-else-count-gt0 w ↦ ends_nowhere c.args.clauses.now c.len-count.result c.len-count.ensures.count (λ some. omega (arith, w.if-count-gt0.false, some)) all keeps
  ],
)
