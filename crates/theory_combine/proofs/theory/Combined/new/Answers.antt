use Rattle.std.proofs.Common.{[], sym, subst}
use Rattle.std.specs.Prelude.{None}
use Rattle.fraction128.specs.Chain.{unbounded}
use Rattle.fraction128.specs.Lines.{first_basis}
use Rattle.search_port.specs.State.{TheoryState}
use Rattle.search_port.specs.Pivots.{AreBasic, ArePivots}
use Rattle.bound_log.specs.Pending.{plain_grid}
use Rattle.theory_combine.specs.Columns.{variables_of}
use Rattle.theory_combine.proofs.Chained.{none_said, unbounded_same}
use Rattle.theory_combine.proofs.Growing.{basis_told}
use Rattle.theory_combine.proofs.theory.Combined.new.Goals as goal

pub returns-in-Ok-clause-basis : goal.returns-in-Ok-clause-basis
returns-in-Ok-clause-basis c =
    let bounds = c.in-Ok.begun.held.bounds in
    subst (λ (t : TheoryState). AreBasic (first_basis t.variables.sums) t.variables) (sym c.start.ensures) (basis_told (first_basis (variables_of None bounds).sums) bounds c.in-Ok.ensures.begun.basis)

pub returns-in-Ok-clause-pivots : goal.returns-in-Ok-clause-pivots
returns-in-Ok-clause-pivots c =
    let bounds = c.in-Ok.begun.held.bounds in
    subst (λ (t : TheoryState). ArePivots t []) (sym c.start.ensures)
    (record {
      grid = unbounded (plain_grid bounds);
      of_log = record { bounds = none_said c.args.parts.atoms.atoms [] (plain_grid bounds); variables = unbounded_same (plain_grid bounds) };
      lines = tt;
      basis = basis_told (first_basis (variables_of None bounds).sums) bounds c.in-Ok.ensures.begun.basis;
    })
