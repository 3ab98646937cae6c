use Rattle.std.proofs.Common.{◌⊎◌, ◌∙◌, List, Contains, sym, ap, subst}
use Rattle.smt_meaning.specs.declared.clauses.Atom.{Atom}
use Rattle.search_port.specs.State.{Reading}
use Rattle.check_atoms.specs.declared.atoms.CheckAtoms.{CheckAtoms}
use Rattle.check_atoms.specs.Laws.{IsSameOfNoInts}
use Rattle.search_port.specs.State.{IsGrown}
use Rattle.first_clauses.specs.CheckClausesFirst.{reading_of, IsFirst}
use Rattle.portfolio.proofs.job.form.Goals as goal

pub run-requires-clause-start : goal.run-requires-clause-start
run-requires-clause-start g c =
    let s = c.args.stack.now in
    let numbers = c.in-Ok-numbered.parts in
    let first = c.atoms_are_first.ensures s numbers.marks.items numbers.atoms.atoms c.laws.ensures c.in-Ok-numbered.ensures.parts c.in-Ok-numbered.ensures.atoms in
    λ κs order.
    record {
      first = subst (λ (table : List Atom). IsFirst s table c.keep_axioms.new.store) (sym (ap (λ (r : Reading). r.table) c.in-Ok-new.ensures.reading)) c.in-Ok-keep_axioms.ensures.first;
      all = λ a among.
          subst (λ (table : List Atom). Contains table a ⊎ IsSameOfNoInts s a)
          (sym (ap (λ (r : Reading). r.table) c.in-Ok-new.ensures.reading ∙ ap (λ (p : CheckAtoms). p.atoms.atoms) c.check_clauses.ensures.same)) (first.0.all a among);
      reading = c.in-Ok-new.ensures.reading ∙ sym (ap (λ (r : Reading). reading_of s r.table) c.in-Ok-new.ensures.reading);
      untold = c.in-Ok-new.ensures.log;
      pivots = c.in-Ok-new.ensures.pivots;
      agreed = λ q log grown full consistent made.
          c.first_clauses_agree.ensures s numbers.marks.items c.sorts.result.now numbers.atoms.atoms c.in-Ok-check_clauses.store q log c.laws.ensures c.in-Ok-numbered.ensures.parts
          c.in-Ok-numbered.ensures.atoms c.sorts.ensures c.in-Ok-check_clauses.ensures.first c.in-Ok-check_clauses.ensures.parts
          (subst (λ (r : Reading). IsGrown r q) (c.in-Ok-new.ensures.reading ∙ ap (λ (p : CheckAtoms). reading_of s p.atoms.atoms) c.check_clauses.ensures.same) grown) full consistent
          (λ k among. made k (c.keep_axioms.ensures.stay k among));
    }
