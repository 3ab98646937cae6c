use Rattle.std.proofs.Common.{sym, ap}
use Rattle.smt_meaning.specs.Sexp.{sexp}
use Rattle.look_ahead.specs.Ahead.{ahead}
use Rattle.proof_terms.specs.Terms.{ProofTerms}
use Rattle.proof_form.proofs.Finding.{found_wrong, found_rest}
use Rattle.proof_form.proofs.whole.judge_lists.Goals as goal

pub add_terms-requires-clause-none : goal.add_terms-requires-clause-none
add_terms-requires-clause-none c = (ap (λ (t : ProofTerms). t.nodes) c.requires.none, ap (λ (t : ProofTerms). t.trees) c.requires.none)

pub returns-in-Some : goal.returns-in-Some
returns-in-Some c = λ frames same asserted.
    let t = c.args.terms.now in
    let ts = c.args.proof.now in
    found_wrong frames (sexp ts) (ahead ts c.args.lists.terms) (ahead ts c.args.lists.steps) t.declared t.held t c.add_terms.new.terms c.in-Some.number c.requires.none same c.requires.lists.read (rw c.in-Some.is at c.in_ok-number.ensures)

pub returns : goal.returns
returns c = λ frames same asserted.
    let t = c.args.terms.now in
    let ts = c.args.proof.now in
    found_rest frames (sexp ts) (ahead ts c.args.lists.terms) (ahead ts c.args.lists.steps) t.declared t.held t c.add_terms.new.terms c.args.asserted.now c.judge_steps.result c.requires.none same c.requires.lists.read
    (rw c.in_default.is at c.in_ok-number.ensures) (sym asserted) c.judge_steps.ensures
