use Rattle.std.proofs.Common.{rules, ◌∙◌, ◌<◌, ◌++◌, ◌∷◌, [], List, length, sym, subst}
use Rattle.std.proofs.lemmas.Grind.{take_at_read}
use Rattle.std.specs.Prelude.{take}
use Rattle.smt_meaning.specs.declared.clauses.Atom.{Atom}
use Rattle.smt_meaning.specs.declared.clauses.Atom.TheVariants.{Truth}
use Rattle.bound_log.specs.Told.{column_sums}
use Rattle.bound_log.specs.Atoms.{Knows}
use Rattle.bound_log.specs.Columns.{HasColumnsOf}
use Rattle.bound_log.proofs.Taking.{err_is}
use Rattle.search_port.specs.State.{atom_at}
use Rattle.theory_combine.specs.Errors.{IsErrorIn}
use Rattle.theory_combine.proofs.Past.{error_in, front_within}
use Rattle.theory_combine.proofs.Growing.{first_grown}
use Rattle.theory_combine.proofs.Sums.{sums_in}
use Rattle.theory_combine.proofs.start.bounds_of.Goals as goal

pub loop-number-preserved : goal.loop-number-preserved
loop-number-preserved c =
    let less : c.loop-number.number < length c.args.atoms.now.atoms = search rules in
    record {
      knows =
          subst (λ (table : List Atom). Knows table c.learn-learnt.new.bounds) (sym ((take_at_read c.args.atoms.now.atoms c.loop-number.number (Truth 0) less).1))
          (c.in_ok-learnt.ensures.knows (take c.loop-number.number c.args.atoms.now.atoms) c.loop-number.invariant.knows);
      columns =
          subst (λ (table : List Atom). HasColumnsOf table c.learn-learnt.new.bounds) (sym ((take_at_read c.args.atoms.now.atoms c.loop-number.number (Truth 0) less).1))
          (c.learn-learnt.ensures.columns (take c.loop-number.number c.args.atoms.now.atoms) c.loop-number.invariant.columns);
      basis = first_grown c.loop-number.bounds c.learn-learnt.new.bounds c.learn-learnt.ensures.variables c.loop-number.invariant.basis;
      log = c.learn-learnt.ensures.log ∙ c.loop-number.invariant.log;
    }

pub returns-in_err-learnt-clause-err : goal.returns-in_err-learnt-clause-err
returns-in_err-learnt-clause-err c =
    let table = c.args.atoms.now.atoms in
    let n = c.loop-number.number in
    let less : n < length table = search rules in
    let new = c.learn-learnt.new.bounds in
    let e = c.in_err-learnt.field-0.0 in
    let t = take n table ++ atom_at table n ∷ [] in
    err_is c.from_residual.result e (IsErrorIn table) c.from_residual.ensures.1
    (error_in (column_sums new) t table (front_within table n less) (c.sums_are_apart.ensures new c.facts.ensures)
    (sums_in t new (c.learn-learnt.ensures.columns (take n table) c.loop-number.invariant.columns)) e (c.in_err-learnt.ensures.err (take n table) c.loop-number.invariant.knows))
