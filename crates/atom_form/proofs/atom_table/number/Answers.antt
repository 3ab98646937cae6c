use Rattle.std.proofs.Common.{◌≡◌, List, length, subst, arith}
use Rattle.std.proofs.lemmas.Grind.{common_steps}
use Rattle.std.specs.Prelude.{Contains}
use Rattle.atom_form.specs.declared.compact.CompactAtom.{CompactAtom}
use Rattle.atom_form.specs.Compact.{atom_hash}
use Rattle.atom_form.proofs.TableNumbering.{table_push}
use Rattle.atom_form.proofs.AtomTableNumbering.{numbered_new}
use Rattle.atom_form.proofs.atom_table.number.Goals as goal

pub returns-in_ok-append-in-None-clause-table : goal.returns-in_ok-append-in-None-clause-table
returns-in_ok-append-in-None-clause-table c =
    table_push atom_hash c.args.atoms.now.items c.args.keys.now c.requires.table c.args.atom c.hash_of-hash.result c.hash_of-hash.ensures
    (subst (λ (xs : List CompactAtom). Contains xs c.args.atom → ⊥) c.deref.ensures.value c.in-None.ensures.none) c.append.new.items.items c.append.new.hashes c.in_ok-append-in-None.ensures.items c.in_ok-append-in-None.ensures.hashes

pub returns-in_ok-append-in-None-clause-ok : goal.returns-in_ok-append-in-None-clause-ok
returns-in_ok-append-in-None-clause-ok c =
    let size : c.len-next.result ≡ length c.args.atoms.now.items = grind (arith, common_steps) in
    numbered_new c.args.atoms.now.items c.append.new.items.items c.args.atom c.len-next.result size c.in_ok-append-in-None.ensures.items
    (subst (λ (xs : List CompactAtom). Contains xs c.args.atom → ⊥) c.deref.ensures.value c.in-None.ensures.none)
