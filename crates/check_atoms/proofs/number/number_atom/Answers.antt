use Rattle.std.proofs.Common.{[], ◌∷◌, length, OnOk, sym, subst, to_z, of_z}
use mir.Syntax.{w128}
use Rattle.fraction128.proofs.Integers.{same_bits}
use Rattle.smt_meaning.specs.Atoms.{limit_atom}
use Rattle.smt_laws.specs.Rows.{place_form}
use Rattle.pair_bounds.specs.Pairs.{IsBound}
use Rattle.pair_bounds.specs.Rows.{limit_of_row}
use Rattle.check_atoms.specs.declared.part.PartAtom.{PartAtom}
use Rattle.check_atoms.specs.PartAtoms.{atom_of}
use Rattle.check_atoms.specs.Numbering.{Adds}
use Rattle.check_atoms.proofs.Adding.{refuses_order, refuses_row}
use Rattle.check_atoms.proofs.number.number_atom.Goals as goal

pub returns-in-Err-clause-err : goal.returns-in-Err-clause-err
returns-in-Err-clause-err c = λ trees f. refuses_order trees c.args.part c.args.atom c.in-Bound.order c.refusal_of.result c.in-Bound.is (c.refusal_of.ensures trees (c.in-Err.ensures.err trees f))

pub returns-in-Ok-row_bound-clause-ok : goal.returns-in-Ok-row_bound-clause-ok
returns-in-Ok-row_bound-clause-ok c = λ trees f.
    let a = limit_atom (place_form trees) (limit_of_row c.in-Limit.limit) in
    let b = (c.in-Ok-row_bound.ensures.ok trees f).bound in
    let n : IsBound trees a c.deref-in-Ok-row_bound.result.now (to_z w128 (of_z w128 c.in-Ok-row_bound.threshold)) = rw (c.deref-in-Ok-row_bound.ensures.value, same_bits c.in-Ok-row_bound.threshold b.in_range) b in
    subst (λ (x : PartAtom). OnOk c.number_bound-in-Ok-row_bound.result (Adds (length trees) c.args.atoms.now.atoms (atom_of trees x ∷ []) c.number_bound-in-Ok-row_bound.new.atoms.atoms)) (sym c.in-Limit.is)
    (c.number_bound-in-Ok-row_bound.ensures.ok trees a n)

pub returns-in-Err-row_bound-clause-err : goal.returns-in-Err-row_bound-clause-err
returns-in-Err-row_bound-clause-err c = λ trees f.
    refuses_row trees c.args.part c.args.atom c.in-Limit.limit c.refusal_of_limit.result c.in-Limit.is (c.refusal_of_limit.ensures trees (c.in-Err-row_bound.ensures.err trees f))
