use Rattle.std.proofs.Common.{sym}
use Rattle.smt_meaning.specs.declared.tokens.Token.TheVariants.{Symbol}
use Rattle.smt_meaning.specs.declared.refusals.Refusal.TheVariants.{UnknownSymbol}
use Rattle.scope_stack.proofs.SortSteps.{named_gives, named_refused, applied_refused, error_cause}
use Rattle.scope_stack.proofs.judge.judge_sort.Goals as goal

pub returns-in-Some-clause-gives : goal.returns-in-Some-clause-gives
returns-in-Some-clause-gives c = rw (c.in-Name.is, ← c.as_slice.ensures) (named_gives c.as_slice.result.now c.args.table.now c.in-Some.found (sym c.in-Some.ensures))

pub returns-in-None-clause-causes : goal.returns-in-None-clause-causes
returns-in-None-clause-causes c = λ ts.
    rw c.in-Name.is
    (error_cause _ (UnknownSymbol (Symbol c.as_slice-in-None.result.now)) c.unknown.result
    (rw c.as_slice-in-None.ensures (named_refused c.in-Name.name c.args.table.now ts (rw c.as_slice.ensures at (sym c.in-None.ensures))))
    c.unknown.ensures)

pub returns-in-Applied-clause-causes : goal.returns-in-Applied-clause-causes
returns-in-Applied-clause-causes c = λ ts.
    rw (c.in-Applied.is, ← c.as_slice-in-Applied.ensures)
    (error_cause _ (UnknownSymbol (Symbol c.as_slice-in-Applied.result.now)) c.unknown-in-Applied.result (applied_refused c.as_slice-in-Applied.result.now c.args.table.now ts) c.unknown-in-Applied.ensures)
