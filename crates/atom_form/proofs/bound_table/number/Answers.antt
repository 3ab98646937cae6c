use Rattle.std.proofs.Common.{◌≡◌, List, length, subst, arith}
use Rattle.std.proofs.lemmas.Grind.{common_steps}
use Rattle.std.specs.Prelude.{Contains}
use Rattle.atom_form.specs.declared.bound.SumBound.{SumBound}
use Rattle.atom_form.specs.BoundTableHash.{bound_hash}
use Rattle.atom_form.proofs.TableNumbering.{table_push, numbered_new}
use Rattle.atom_form.proofs.bound_table.number.Goals as goal

pub returns-in_ok-append-in-None-clause-table : goal.returns-in_ok-append-in-None-clause-table
returns-in_ok-append-in-None-clause-table c =
    table_push bound_hash c.args.bounds.now.items c.args.keys.now c.requires.table c.args.bound c.hash_of-hash.result c.hash_of-hash.ensures
    (subst (λ (xs : List SumBound). Contains xs c.args.bound → ⊥) c.deref.ensures.value c.in-None.ensures.none) c.append.new.items.items c.append.new.hashes c.in_ok-append-in-None.ensures.items c.in_ok-append-in-None.ensures.hashes

pub returns-in_ok-append-in-None-clause-ok : goal.returns-in_ok-append-in-None-clause-ok
returns-in_ok-append-in-None-clause-ok c =
    let size : c.len-next.result ≡ length c.args.bounds.now.items = grind (arith, common_steps) in
    numbered_new c.args.bounds.now.items c.append.new.items.items c.args.bound c.len-next.result size c.in_ok-append-in-None.ensures.items
    (subst (λ (xs : List SumBound). Contains xs c.args.bound → ⊥) c.deref.ensures.value c.in-None.ensures.none)
