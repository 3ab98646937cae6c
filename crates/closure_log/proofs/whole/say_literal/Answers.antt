use Rattle.std.proofs.Common.{◌≡◌, Bool, sym, ap, subst, ◌∙◌}
use Rattle.std.specs.Prelude.{List}
use Rattle.smt_meaning.specs.declared.clauses.Atom.TheVariants.{Truth}
use Rattle.smt_meaning.specs.Term.{Tree}
use Rattle.search_port.specs.State.{atom_at}
use Rattle.closure_log.specs.Whole.{SaysAtom}
use Rattle.closure_log.proofs.Setting.{atom_is}
use Rattle.closure_log.proofs.whole.say_literal.Goals as goal

pub returns-in_ok-add_truth-in-Truth-clause-whole : goal.returns-in_ok-add_truth-in-Truth-clause-whole
returns-in_ok-add_truth-in-Truth-clause-whole c =
    let table = c.args.atoms.now.atoms in
    let here : atom_at table c.args.literal.atom ≡ Truth c.in-Truth.term = ap (λ n. atom_at table n) (sym c.atom.ensures) ∙ atom_is table c.atom.result (Truth c.in-Truth.term) c.in-Truth.ensures.atom in
    subst (SaysAtom c.args.stack.now.trees c.add_truth.new.steps.items c.args.literal.positive) (sym here)
    (subst (λ (b : Bool). SaysAtom c.args.stack.now.trees c.add_truth.new.steps.items b (Truth c.in-Truth.term)) c.is_positive.ensures
    (subst (λ (ts : List Tree). SaysAtom ts c.add_truth.new.steps.items c.is_positive.result (Truth c.in-Truth.term)) c.terms.ensures.trees c.in_ok-add_truth-in-Truth.ensures.whole))
