use Rattle.std.proofs.Common.{Ok, ap, sym, subst, map}
use Rattle.std.proofs.lemmas.Result.{IfOk-weaker}
use Rattle.smt_meaning.specs.declared.clauses.Atom.TheVariants.{Truth}
use Rattle.proof_meaning.specs.Rules.{along}
use Rattle.proof_terms.specs.declared.form_values.Connective.TheVariants.{And}
use Rattle.proof_terms.specs.FormParts.{AreNumbersOf, IsConcluded, IsJudgedForm, relation_atom}
use Rattle.proof_terms.specs.FormPairs.{IsConcludedPairs}
use Rattle.proof_terms.proofs.FormNumbers.{number_kept, extends_further, no_truth_own, no_neighbours_own}
use Rattle.proof_terms.proofs.FormLifting.{own_apart, small_numbers}
use Rattle.proof_terms.proofs.FormLaw.{judged_bools, judged_neighbours, judged_pairs}
use Rattle.proof_terms.proofs.form.judge_theory.Goals as goal

pub kind_of-requires : goal.kind_of-requires
kind_of-requires c = record { within = c.requires.within; terms = c.requires.terms; node = c.requires.node; earlier = c.requires.earlier }

pub conclude-requires-clause-other : goal.conclude-requires-clause-other
conclude-requires-clause-other c =
    let ps = map Truth c.args.arguments.now in
    let numbers = subst (λ ns. AreNumbersOf c.number_truths.new.clauses.atoms ns ps) (sym c.deref.ensures.value) c.in_ok-number_truths-in-Bools.ensures.numbers in
    own_apart c.number_truths.new.clauses.atoms c.in_ok-own.own c.args.place c.deref.result.now ps
    (number_kept c.number_truth.new.clauses c.number_truths.new.clauses c.in_ok-own.own (Truth c.args.place) c.number_truths.ensures.more c.in_ok-own.ensures.number) numbers
    (no_truth_own c.args.arguments.now c.args.place c.requires.earlier)

pub conclude-requires-clause-numbers : goal.conclude-requires-clause-numbers
conclude-requires-clause-numbers c =
    let ps = map Truth c.args.arguments.now in
    let numbers = subst (λ ns. AreNumbersOf c.number_truths.new.clauses.atoms ns ps) (sym c.deref.ensures.value) c.in_ok-number_truths-in-Bools.ensures.numbers in
    small_numbers c.number_truths.new.clauses.atoms c.deref.result.now ps numbers

pub returns-in-Bools-clause-judged : goal.returns-in-Bools-clause-judged
returns-in-Bools-clause-judged c =
    let t = c.args.terms.now in
    let ps = map Truth c.args.arguments.now in
    let numbers = subst (λ ns. AreNumbersOf c.number_truths.new.clauses.atoms ns ps) (sym c.deref.ensures.value) c.in_ok-number_truths-in-Bools.ensures.numbers in
    IfOk-weaker c.conclude.result (IsConcluded c.number_truths.new.clauses c.conclude.new.clauses c.args.codes.now.items c.args.place c.in-Bools.connective c.deref.result.now)
    (IsJudgedForm t.declared t.nodes t.trees c.args.operator c.args.arguments.now c.args.place c.args.literals.now c.args.clauses.now c.conclude.new.clauses)
    (λ v h.
    judged_bools t.declared t.nodes t.trees c.args.operator c.args.arguments.now c.args.place c.args.literals.now c.args.clauses.now c.number_truths.new.clauses c.conclude.new.clauses c.args.codes.now.items
    c.deref.result.now c.in-Bools.connective c.requires.within c.requires.node c.in-Bools.ensures c.requires.codes
    (extends_further c.args.clauses.now c.number_truth.new.clauses c.number_truths.new.clauses c.number_truth.ensures.more c.number_truths.ensures.more) numbers v h)
    c.conclude.ensures

pub conclude-requires-in-Neighbours-clause-other : goal.conclude-requires-in-Neighbours-clause-other
conclude-requires-in-Neighbours-clause-other c =
    let ps = along (relation_atom c.args.terms.now.trees c.in-Neighbours.relation) c.args.arguments.now in
    let numbers =
    subst (λ ns. AreNumbersOf c.number_neighbours.new.clauses.atoms ns ps) (sym c.deref-in-Neighbours.ensures.value) (c.in_ok-number_neighbours-in-Neighbours.ensures.numbers (ap Ok c.if-not-branch.false)) in
    own_apart c.number_neighbours.new.clauses.atoms c.in_ok-own.own c.args.place c.deref-in-Neighbours.result.now ps
    (number_kept c.number_truth.new.clauses c.number_neighbours.new.clauses c.in_ok-own.own (Truth c.args.place) c.number_neighbours.ensures.more c.in_ok-own.ensures.number) numbers
    (no_neighbours_own c.args.terms.now.trees c.in-Neighbours.relation c.args.arguments.now c.args.place)

pub conclude-requires-in-Neighbours-clause-numbers : goal.conclude-requires-in-Neighbours-clause-numbers
conclude-requires-in-Neighbours-clause-numbers c =
    let ps = along (relation_atom c.args.terms.now.trees c.in-Neighbours.relation) c.args.arguments.now in
    let numbers =
    subst (λ ns. AreNumbersOf c.number_neighbours.new.clauses.atoms ns ps) (sym c.deref-in-Neighbours.ensures.value) (c.in_ok-number_neighbours-in-Neighbours.ensures.numbers (ap Ok c.if-not-branch.false)) in
    small_numbers c.number_neighbours.new.clauses.atoms c.deref-in-Neighbours.result.now ps numbers

pub returns-in-Neighbours-clause-judged : goal.returns-in-Neighbours-clause-judged
returns-in-Neighbours-clause-judged c =
    let t = c.args.terms.now in
    let ps = along (relation_atom t.trees c.in-Neighbours.relation) c.args.arguments.now in
    let numbers =
    subst (λ ns. AreNumbersOf c.number_neighbours.new.clauses.atoms ns ps) (sym c.deref-in-Neighbours.ensures.value) (c.in_ok-number_neighbours-in-Neighbours.ensures.numbers (ap Ok c.if-not-branch.false)) in
    IfOk-weaker c.conclude-in-Neighbours.result (IsConcluded c.number_neighbours.new.clauses c.conclude-in-Neighbours.new.clauses c.args.codes.now.items c.args.place And c.deref-in-Neighbours.result.now)
    (IsJudgedForm t.declared t.nodes t.trees c.args.operator c.args.arguments.now c.args.place c.args.literals.now c.args.clauses.now c.conclude-in-Neighbours.new.clauses)
    (λ v h.
    judged_neighbours t.declared t.nodes t.trees c.args.operator c.args.arguments.now c.args.place c.args.literals.now c.args.clauses.now c.number_neighbours.new.clauses c.conclude-in-Neighbours.new.clauses
    c.args.codes.now.items c.deref-in-Neighbours.result.now c.in-Neighbours.relation c.requires.within c.requires.node c.in-Neighbours.ensures
    (c.in_ok-number_neighbours-in-Neighbours.ensures.fits (ap Ok c.if-not-branch.false)) c.requires.codes
    (extends_further c.args.clauses.now c.number_truth.new.clauses c.number_neighbours.new.clauses c.number_truth.ensures.more c.number_neighbours.ensures.more) numbers v h)
    c.conclude-in-Neighbours.ensures

pub returns-in-Pairs-clause-judged : goal.returns-in-Pairs-clause-judged
returns-in-Pairs-clause-judged c =
    let t = c.args.terms.now in
    IfOk-weaker c.judge_pairs.result (IsConcludedPairs c.number_truth.new.clauses c.judge_pairs.new.clauses c.args.codes.now.items c.args.place c.args.arguments.now c.args.literals.now)
    (IsJudgedForm t.declared t.nodes t.trees c.args.operator c.args.arguments.now c.args.place c.args.literals.now c.args.clauses.now c.judge_pairs.new.clauses)
    (λ v h.
    judged_pairs t.declared t.nodes t.trees c.args.operator c.args.arguments.now c.args.place c.args.literals.now c.args.clauses.now c.number_truth.new.clauses c.judge_pairs.new.clauses c.args.codes.now.items
    c.requires.within c.requires.node c.in-Pairs.ensures c.requires.codes c.number_truth.ensures.more v h)
    c.judge_pairs.ensures
