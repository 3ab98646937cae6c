use Rattle.std.proofs.Common.{◌≡◌, ℕ, ◌<◌, ◌+◌, ◌++◌, [], Bool, true, All, length, refl, sym, ap, ◌∙◌, subst, arith}
use Rattle.std.specs.Prelude.{List}
use Rattle.std.proofs.lemmas.List.Elements.{All-weaker}
use Rattle.smt_meaning.specs.declared.clauses.Atom.TheVariants.{Truth}
use Rattle.smt_meaning.specs.Stack.{signature_of}
use Rattle.smt_meaning.specs.Term.{Tree, tree_at}
use Rattle.term_store.specs.Terms.{tree_with, AreDifferent}
use Rattle.search_port.specs.State.{atom_at}
use Rattle.point_closure.specs.declared.step.Step.{Step}
use Rattle.point_closure.specs.Whole.{IsWithin}
use Rattle.congruence.specs.Justified.{IsJustified}
use Rattle.congruence.specs.Steps.{choice_steps}
use Rattle.check_atoms.specs.Atoms.{is_bool_at}
use Rattle.closure_log.specs.Said.{AreSaidBy}
use Rattle.closure_log.proofs.Saying.{choice_said, nothing_said}
use Rattle.closure_log.proofs.Setting.{atom_is, truth_bool}
use Rattle.closure_log.proofs.WholeSteps.{still_grounded, partly_keeps, more_within, no_choice, open_choice, taken_choice}
use Rattle.closure_log.proofs.whole.record_choice.Goals as goal

below : (n m : ℕ) → n < m → (is : List ℕ) → All (λ i. i < n) is → All (λ i. i < m) is
below n m less is all = All-weaker (λ i. i < n) (λ i. i < m) (λ i small. omega arith) is all

pub returns-in_default-clause-says : goal.returns-in_default-clause-says
returns-in_default-clause-says c =
    let node = c.node-node.result in
    let ts = c.args.stack.now.trees in
    let different : AreDifferent ts = subst AreDifferent c.terms-store.ensures.trees c.len-different.ensures.different in
    let tree : tree_at ts c.args.place ≡ tree_with ts node.head node.arguments.now =
    subst (λ (us : List Tree). tree_at us c.args.place ≡ tree_with us node.head node.arguments.now) c.terms-store.ensures.trees c.node-node.ensures.tree in
    no_choice ts c.args.atoms.now.atoms c.args.log.now c.args.place node.head node.arguments.now different tree (below c.args.place (length ts) c.requires.within node.arguments.now c.node-node.ensures.earlier)
    c.args.congruence.now.closure.steps.items c.in_default.ensures.none

pub returns-in_default-truth_told-clause-says : goal.returns-in_default-truth_told-clause-says
returns-in_default-truth_told-clause-says c =
    let node = c.node-node.result in
    let ts = c.args.stack.now.trees in
    let different : AreDifferent ts = subst AreDifferent c.terms-store.ensures.trees c.len-different.ensures.different in
    let tree : tree_at ts c.args.place ≡ tree_with ts node.head node.arguments.now =
    subst (λ (us : List Tree). tree_at us c.args.place ≡ tree_with us node.head node.arguments.now) c.terms-store.ensures.trees c.node-node.ensures.tree in
    open_choice ts c.args.atoms.now.atoms c.args.log.now c.args.place node.head node.arguments.now different tree (below c.args.place (length ts) c.requires.within node.arguments.now c.node-node.ensures.earlier)
    c.in-Some.condition c.in-Some.ensures.some c.args.congruence.now.closure.steps.items c.in_default-truth_told.ensures.none

pub record_all-requires-clause-within : goal.record_all-requires-clause-within
record_all-requires-clause-within c =
    let node = c.node-node.result in
    let ts = c.args.stack.now.trees in
    let p = c.args.place in
    let tree : tree_at ts p ≡ tree_with ts node.head node.arguments.now =
    subst (λ (us : List Tree). tree_at us p ≡ tree_with us node.head node.arguments.now) c.terms-store.ensures.trees c.node-node.ensures.tree in
    let steps : c.deref.result.now ≡ choice_steps p node.head node.arguments.now c.in-Some.condition c.is_positive.result =
    c.deref.ensures.value ∙ c.in_ok-add_choice_steps.ensures ∙ ap (λ (xs : List Step). xs ++ choice_steps p node.head node.arguments.now c.in-Some.condition c.is_positive.result) c.clear.ensures.items in
    let said : AreSaidBy ts c.in-Some.condition c.is_positive.result (choice_steps p node.head node.arguments.now c.in-Some.condition c.is_positive.result) =
    choice_said c.choice_steps_are_justified.ensures ts c.in-Some.condition p c.is_positive.result node.head node.arguments.now [] c.requires.within tree
    (below p (length ts) c.requires.within node.arguments.now c.node-node.ensures.earlier) (nothing_said ts c.in-Some.condition c.is_positive.result) in
    more_within (length ts + 2) (length c.args.congruence.now.closure.graph) c.deref.result.now c.requires.grounded.reasoned.every
    (subst (λ (ss : List Step). All (IsWithin (length ts + 2)) ss) (sym steps) said.within)

pub returns-clause-grounded : goal.returns-clause-grounded
returns-clause-grounded c =
    let node = c.node-node.result in
    let s = c.args.stack.now in
    let ts = s.trees in
    let table = c.args.atoms.now.atoms in
    let p = c.args.place in
    let l = c.in-Some-truth_told.literal in
    let t = c.in-Some.condition in
    let told = c.in-Some-truth_told.ensures.some in
    let tree : tree_at ts p ≡ tree_with ts node.head node.arguments.now =
    subst (λ (us : List Tree). tree_at us p ≡ tree_with us node.head node.arguments.now) c.terms-store.ensures.trees c.node-node.ensures.tree in
    let steps : c.deref.result.now ≡ choice_steps p node.head node.arguments.now t l.positive =
    c.deref.ensures.value ∙ c.in_ok-add_choice_steps.ensures ∙ ap (λ (xs : List Step). xs ++ choice_steps p node.head node.arguments.now t c.is_positive.result) c.clear.ensures.items
    ∙ ap (λ (b : Bool). choice_steps p node.head node.arguments.now t b) c.is_positive.ensures in
    let said : AreSaidBy ts t l.positive (choice_steps p node.head node.arguments.now t l.positive) =
    choice_said c.choice_steps_are_justified.ensures ts t p l.positive node.head node.arguments.now [] c.requires.within tree
    (below p (length ts) c.requires.within node.arguments.now c.node-node.ensures.earlier) (nothing_said ts t l.positive) in
    let atom : atom_at table l.atom ≡ Truth t = atom_is table l.atom (Truth t) told.at in
    let bool : is_bool_at (signature_of s.frames) ts t ≡ true = truth_bool s table c.requires.setting l.atom t told.at in
    let justified : All (IsJustified (signature_of s.frames) ts table l) c.deref.result.now =
    subst (λ (ss : List Step). All (IsJustified (signature_of s.frames) ts table l) ss) (sym steps) (said.justified (signature_of s.frames) table l atom bool refl) in
    still_grounded s table c.args.log.now c.args.congruence.now c.record_all.new.congruence c.requires.grounded
    (c.in_ok-record_all.ensures.reasoned (signature_of s.frames) ts table c.args.log.now c.requires.grounded.reasoned told.told justified) c.in_ok-record_all.ensures.records.graph

pub returns-clause-keeps : goal.returns-clause-keeps
returns-clause-keeps c = partly_keeps c.args.congruence.now c.record_all.new.congruence c.deref.result.now c.in-Some-truth_told.literal c.in_ok-record_all.ensures.records.partly

pub returns-clause-says : goal.returns-clause-says
returns-clause-says c =
    let node = c.node-node.result in
    let ts = c.args.stack.now.trees in
    let p = c.args.place in
    let l = c.in-Some-truth_told.literal in
    let t = c.in-Some.condition in
    let different : AreDifferent ts = subst AreDifferent c.terms-store.ensures.trees c.len-different.ensures.different in
    let tree : tree_at ts p ≡ tree_with ts node.head node.arguments.now =
    subst (λ (us : List Tree). tree_at us p ≡ tree_with us node.head node.arguments.now) c.terms-store.ensures.trees c.node-node.ensures.tree in
    let steps : c.deref.result.now ≡ choice_steps p node.head node.arguments.now t l.positive =
    c.deref.ensures.value ∙ c.in_ok-add_choice_steps.ensures ∙ ap (λ (xs : List Step). xs ++ choice_steps p node.head node.arguments.now t c.is_positive.result) c.clear.ensures.items
    ∙ ap (λ (b : Bool). choice_steps p node.head node.arguments.now t b) c.is_positive.ensures in
    taken_choice ts c.args.atoms.now.atoms c.args.log.now p node.head node.arguments.now different tree (below p (length ts) c.requires.within node.arguments.now c.node-node.ensures.earlier) t c.in-Some.ensures.some
    l.positive c.args.congruence.now.closure.steps.items c.deref.result.now c.record_all.new.congruence.closure.steps.items c.in-Some-truth_told.ensures.one steps c.in_ok-record_all.ensures.records.ok
