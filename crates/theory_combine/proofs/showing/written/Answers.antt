use Rattle.std.proofs.Common.{◌≡◌, subst}
use Rattle.std.specs.Prelude.{IfOk}
use Rattle.smt_meaning.specs.declared.clauses.Atom.{Atom}
use Rattle.theory_combine.proofs.Own.{at_table, within_table}
use Rattle.theory_combine.proofs.showing.written.Goals as goal

pub write_atom-requires : goal.write_atom-requires
write_atom-requires c = within_table c.args.progress.now.stopped_at c.args.progress.now.atoms.atoms c.args.number c.requires.numbered

pub returns : goal.returns
returns c =
    subst (λ (b : Atom). IfOk c.write_atom.result (λ a. a ≡ b)) (at_table c.args.progress.now.stopped_at c.args.progress.now.atoms.atoms c.args.number c.requires.numbered) c.write_atom.ensures
