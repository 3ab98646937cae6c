use Rattle.std.proofs.Common.{List, length, subst, sym, ◌∙◌}
use Rattle.std.proofs.lemmas.List.Elements.{Contains-get_or}
use Rattle.std.proofs.lemmas.Result.{err_from_is_err_and}
use Rattle.linear_forms.specs.Table.{Known, AreForms}
use Rattle.check_atoms.specs.declared.part.PartAtom.TheVariants.{Truth}
use Rattle.check_atoms.proofs.Adding.{adds_next, refuses_more}
use Rattle.check_atoms.proofs.number.number_all.Goals as goal

pub returns-in_err-number_atom-clause-err : goal.returns-in_err-number_atom-clause-err
returns-in_err-number_atom-clause-err c = λ trees f.
    let p = err_from_is_err_and c.from_residual.result c.from_residual.ensures.1 in
    rw (p.1, p.2)
    (refuses_more trees c.args.part c.args.wanted.now _ c.in_err-number_atom.field-0.0 (Contains-get_or c.args.wanted.now c.loop-atom.atom-index (Truth 0) c.loop-atom-test.true)
    (c.in_err-number_atom.ensures.err trees (subst (λ (ks : List Known). AreForms trees ks) (sym c.loop-atom.invariant.0) f)))

pub loop-atom-preserved : goal.loop-atom-preserved
loop-atom-preserved c = (
  c.in_ok-number_atom.ensures.same ∙ c.loop-atom.invariant.0,
  λ trees f.
      adds_next (length trees) trees c.args.wanted.now c.loop-atom.atom-index (Truth 0) c.args.atoms.now.atoms c.loop-atom.atoms.atoms c.number_atom.new.atoms.atoms c.loop-atom-test.true (c.loop-atom.invariant.1 trees f)
      (c.in_ok-number_atom.ensures.ok trees (subst (λ (ks : List Known). AreForms trees ks) (sym c.loop-atom.invariant.0) f)),
)
