use Rattle.std.proofs.Common.{[]}
use Rattle.std.proofs.lemmas.List.Elements.{All-nil}
use Rattle.smt_meaning.specs.CheckAtoms.{IsLeaf}
use Rattle.smt_laws.specs.Flat.{flat}
use Rattle.bound_log.proofs.Taking.{err_is}
use Rattle.theory_combine.specs.declared.errors.BoundError.TheVariants.{Memory}
use Rattle.theory_combine.specs.Errors.{IsErrorSeen}
use Rattle.theory_combine.proofs.Beginning.{error_seen}
use Rattle.theory_combine.proofs.start.begin.Goals as goal

pub returns-in_err-bounds-clause-err : goal.returns-in_err-bounds-clause-err
returns-in_err-bounds-clause-err c =
    let s = c.args.stack.now in
    let e = c.in_err-bounds.field-0.0 in
    err_is c.from_residual.result e (IsErrorSeen s) c.from_residual.ensures.1
    (error_seen c.flat_says_the_same.ensures c.atoms_are_first.ensures s c.args.marks.now c.args.atoms.now.atoms c.laws.ensures c.requires.marks c.requires.atoms e c.in_err-bounds.ensures.err)

pub begin_with-requires-clause-columns : goal.begin_with-requires-clause-columns
begin_with-requires-clause-columns c =
    record { own = []; leaves = All-nil (IsLeaf c.args.stack.now.trees (flat c.args.stack.now.frames)); columns = c.in_ok-bounds.ensures.columns }

pub returns-in_err-begun-clause-err : goal.returns-in_err-begun-clause-err
returns-in_err-begun-clause-err c = err_is c.from_residual-in_err-begun.result Memory (IsErrorSeen c.args.stack.now) c.from_residual-in_err-begun.ensures.1 tt
