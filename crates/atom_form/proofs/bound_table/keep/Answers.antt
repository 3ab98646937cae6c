use Rattle.std.proofs.Common.{ℕ, List, take, subst, sym}
use Rattle.atom_form.specs.declared.bound.SumBound.{SumBound}
use Rattle.atom_form.specs.BoundTableHash.{bound_hash}
use Rattle.atom_form.specs.Numbering.{IsTable}
use Rattle.atom_form.proofs.TableNumbering.{table_take}
use Rattle.atom_form.proofs.bound_table.keep.Goals as goal

pub returns-clause-table : goal.returns-clause-table
returns-clause-table c =
    subst (λ (xs : List SumBound). IsTable bound_hash xs c.truncate-2.new.self) (sym c.truncate.ensures.items)
    (subst (λ (ks : List ℕ). IsTable bound_hash (take c.args.len c.args.bounds.now.items) ks) (sym c.truncate-2.ensures) (table_take bound_hash c.args.bounds.now.items c.args.keys.now c.requires c.args.len))
