use Rattle.std.proofs.Common.{◌≡◌, ◌<◌, ◌∷◌, ◌++◌, [], Bool, length, sym, ap, ◌∙◌, subst, arith}
use Rattle.std.specs.Prelude.{List}
use Rattle.smt_meaning.specs.declared.clauses.Atom.TheVariants.{Same}
use Rattle.smt_meaning.specs.Term.{Tree}
use Rattle.search_port.specs.State.{atom_at}
use Rattle.smt_meaning.specs.Stack.{signature_of}
use Rattle.point_closure.specs.declared.step.Step.{Step}
use Rattle.congruence.specs.Steps.{pair_step}
use Rattle.closure_log.specs.Said.{AreSaid}
use Rattle.closure_log.proofs.Saying.{same_told}
use Rattle.closure_log.proofs.Setting.{atom_is, truth_within, left_within, right_within}
use Rattle.closure_log.proofs.said.say.Goals as goal

pub add_truth-requires-clause-within : goal.add_truth-requires-clause-within
add_truth-requires-clause-within c =
    subst (λ (ts : List Tree). c.in-Truth.term < length ts) (sym c.terms.ensures.trees)
    (truth_within c.args.stack.now c.args.atoms.now.atoms c.requires.setting c.atom.result c.in-Truth.term c.in-Truth.ensures.atom)

pub add_pair_step-requires-clause-left : goal.add_pair_step-requires-clause-left
add_pair_step-requires-clause-left c =
    let within : c.in-Same.left < length c.args.stack.now.trees = left_within c.args.stack.now c.args.atoms.now.atoms c.requires.setting c.atom.result c.in-Same.left c.in-Same.right c.in-Same.ensures.atom in
    omega arith

pub add_pair_step-requires-clause-right : goal.add_pair_step-requires-clause-right
add_pair_step-requires-clause-right c =
    let within : c.in-Same.right < length c.args.stack.now.trees = right_within c.args.stack.now c.args.atoms.now.atoms c.requires.setting c.atom.result c.in-Same.left c.in-Same.right c.in-Same.ensures.atom in
    omega arith

pub returns-in_ok-add_pair_step-in-Same : goal.returns-in_ok-add_pair_step-in-Same
returns-in_ok-add_pair_step-in-Same c =
    let steps : c.add_pair_step.new.steps.items ≡ pair_step c.in-Same.left c.in-Same.right c.args.literal.positive ∷ [] =
    c.in_ok-add_pair_step-in-Same.ensures
    ∙ ap (λ (xs : List Step). xs ++ pair_step c.in-Same.left c.in-Same.right c.is_positive-in-Same.result ∷ []) c.clear.ensures.items
    ∙ ap (λ (b : Bool). pair_step c.in-Same.left c.in-Same.right b ∷ []) c.is_positive-in-Same.ensures in
    subst (AreSaid (signature_of c.args.stack.now.frames) c.args.stack.now.trees c.args.atoms.now.atoms c.args.literal) (sym steps)
    (same_told c.sameness_is_justified.ensures (signature_of c.args.stack.now.frames) c.args.stack.now.trees c.args.atoms.now.atoms c.args.literal c.in-Same.left c.in-Same.right
    (ap (λ n. atom_at c.args.atoms.now.atoms n) (sym c.atom.ensures) ∙ atom_is c.args.atoms.now.atoms c.atom.result (Same c.in-Same.left c.in-Same.right) c.in-Same.ensures.atom)
    (left_within c.args.stack.now c.args.atoms.now.atoms c.requires.setting c.atom.result c.in-Same.left c.in-Same.right c.in-Same.ensures.atom)
    (right_within c.args.stack.now c.args.atoms.now.atoms c.requires.setting c.atom.result c.in-Same.left c.in-Same.right c.in-Same.ensures.atom))
