use Rattle.std.proofs.Common.{◌∙◌, ◌++◌, ◌∷◌, [], refl}
use Rattle.bound_log.specs.Told.{column_sums}
use Rattle.bound_log.proofs.Taking.{err_is}
use Rattle.theory_combine.specs.declared.errors.BoundError.TheVariants.{Memory}
use Rattle.theory_combine.specs.declared.held.Held.{Held}
use Rattle.theory_combine.specs.Errors.{IsErrorOver}
use Rattle.theory_combine.specs.Numbering.{atom_of}
use Rattle.theory_combine.proofs.NewAtoms.{whole_more}
use Rattle.theory_combine.proofs.Growing.{grows_none}
use Rattle.theory_combine.proofs.Telling.{adds_known, known_more}
use Rattle.theory_combine.proofs.numbering.add.Goals as goal

pub returns-clause-whole : goal.returns-clause-whole
returns-clause-whole c =
    whole_more c.what_was_told_stays.ensures c.args.parts.now.stack.now c.args.parts.now.marks.items c.args.atoms.now c.number.new.atoms c.args.atom.now c.args.held.now
    (let k : Held = record { closure = c.args.held.now.closure; bounds = c.know.new.bounds; scan = c.grow.new.self; looked = c.args.held.now.looked } in k) c.in_ok-number.ensures.ok c.requires.whole c.requires.of_stack refl c.in_ok-know.ensures.knows
    c.know.ensures.columns c.know.ensures.log (c.in_ok-grow.ensures.size ∙ c.len.ensures.count) c.grow.ensures.told
    c.know.ensures.variables

pub returns-in_err-number-clause-err : goal.returns-in_err-number-clause-err
returns-in_err-number-clause-err c =
    err_is c.from_residual.result Memory (IsErrorOver (column_sums c.args.held.now.bounds) (c.args.atoms.now.atoms ++ atom_of c.args.atom.now ∷ [])) c.from_residual.ensures.1 tt

pub returns-in_err-know-clause-err : goal.returns-in_err-know-clause-err
returns-in_err-know-clause-err c =
    let table = c.args.atoms.now.atoms in
    let a = atom_of c.args.atom.now in
    err_is c.from_residual-in_err-know.result c.in_err-know.field-0.0 (IsErrorOver (column_sums c.know.new.bounds) (table ++ a ∷ [])) c.from_residual-in_err-know.ensures.1
    (c.in_err-know.ensures.err table c.requires.whole.held.knows)

pub returns-in_err-grow-clause-err : goal.returns-in_err-grow-clause-err
returns-in_err-grow-clause-err c =
    err_is c.from_residual-in_err-grow.result Memory (IsErrorOver (column_sums c.know.new.bounds) (c.args.atoms.now.atoms ++ atom_of c.args.atom.now ∷ [])) c.from_residual-in_err-grow.ensures.1 tt

pub returns-in_err-number-clause-columns : goal.returns-in_err-number-clause-columns
returns-in_err-number-clause-columns c = known_more c.args.parts.now.stack.now c.args.atoms.now.atoms (atom_of c.args.atom.now) c.args.held.now.bounds c.requires.whole.held.columns

pub returns-in_err-know-clause-columns : goal.returns-in_err-know-clause-columns
returns-in_err-know-clause-columns c =
    adds_known c.args.parts.now.stack.now c.args.atoms.now.atoms (atom_of c.args.atom.now) c.args.held.now.bounds c.know.new.bounds c.know.ensures.columns c.requires.whole.held.columns

pub returns-in_err-grow-clause-columns : goal.returns-in_err-grow-clause-columns
returns-in_err-grow-clause-columns c =
    adds_known c.args.parts.now.stack.now c.args.atoms.now.atoms (atom_of c.args.atom.now) c.args.held.now.bounds c.know.new.bounds c.know.ensures.columns c.requires.whole.held.columns

pub returns-clause-columns : goal.returns-clause-columns
returns-clause-columns c =
    adds_known c.args.parts.now.stack.now c.args.atoms.now.atoms (atom_of c.args.atom.now) c.args.held.now.bounds c.know.new.bounds c.know.ensures.columns c.requires.whole.held.columns

pub returns-in_err-number-clause-variables : goal.returns-in_err-number-clause-variables
returns-in_err-number-clause-variables c = grows_none c.args.held.now.bounds
