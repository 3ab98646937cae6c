use Rattle.std.proofs.Common.{List, sym, subst}
use Rattle.std.specs.Prelude.{IsTrue, ◌↔◌}
use Rattle.smt_meaning.specs.declared.clauses.Summand.{Summand}
use Rattle.smt_meaning.specs.declared.clauses.Atom.{Atom}
use Rattle.smt_meaning.specs.declared.clauses.Atom.TheVariants.{AtMost}
use Rattle.proof_meaning.specs.Proof.{IsAtom}
use Rattle.proof_terms.proofs.literals.is_literal.Goals as goal

pub returns-in-AtMost : goal.returns-in-AtMost
returns-in-AtMost c =
    let t = c.args.terms.now in
    subst (λ (a : Atom). IsTrue c.is_sum.result ↔ IsAtom t.declared t.trees a) (sym c.in-AtMost.is)
    (subst (λ (ps : List Summand). IsTrue c.is_sum.result ↔ IsAtom t.declared t.trees (AtMost ps c.in-AtMost.field-1)) c.as_slice.ensures c.is_sum.ensures)
