use Rattle.std.proofs.Common.{◌≡◌, ◌∷◌, inl, All, sym, refl}
use Rattle.std.proofs.lemmas.List.Elements.{All-cons, All-tail, All-weaker}
use Rattle.smt_meaning.specs.declared.values.Sort.TheVariants.{Bool as Truths}
use Rattle.smt_meaning.specs.declared.terms.Head.TheVariants.{Theory}
use Rattle.smt_meaning.specs.Stack.{signature_of}
use Rattle.bound_clauses.specs.Laws.{IsReadable}
use Rattle.check_atoms.specs.Parts.{IsMarked}
use Rattle.order_clauses.specs.Clauses.{sort_at}
use Rattle.order_clauses.specs.Sound.{HasSort}
use Rattle.first_clauses.specs.CheckClausesFirst.{AreBools}
use Rattle.first_clauses.proofs.Parts.{arguments_marked, has_sort, bool_sort, truth_numbered}
use Rattle.first_clauses.proofs.Counting.{bools_compare}
use Rattle.first_clauses.proofs.Refusing.{never_missing, part_refused}
use Rattle.first_clauses.proofs.nodes.keep_node.Goals as goal

pub keep_bools-requires-clause-numbered : goal.keep_bools-requires-clause-numbered
keep_bools-requires-clause-numbered g c =
    let s = c.args.stack.now in
    let r = c.requires in
    let marks = c.args.marks.now in
    let table = c.args.atoms.now.atoms in
    let is = c.args.arguments.now in
    let marked : All (IsMarked marks) is = arguments_marked s marks c.laws.ensures r.ready.parts r.ready.atoms.size c.args.place (Theory c.args.operator) is r.marked r.node.tree r.node.arguments in
    let all : All (IsMarked marks) (c.args.place ∷ is) = All-cons (IsMarked marks) c.args.place is r.marked marked in
    let sort = bool_sort s marks c.laws.ensures r.ready.parts r.ready.atoms.size c.args.sorts.now r.ready.sorted in
    let numbered = truth_numbered s marks c.laws.ensures r.ready.parts r.ready.atoms.size table c.args.forms.now r.ready.atoms r.ready.forms in
    λ k d l. numbered _ (all k d l) (sort _ (all k d l) (c.are_bools.ensures.yes c.if-are_bools.true k d l))

pub keep_bools-requires-clause-sorted : goal.keep_bools-requires-clause-sorted
keep_bools-requires-clause-sorted g c =
    let s = c.args.stack.now in
    let r = c.requires in
    let marks = c.args.marks.now in
    let is = c.args.arguments.now in
    let marked : All (IsMarked marks) is = arguments_marked s marks c.laws.ensures r.ready.parts r.ready.atoms.size c.args.place (Theory c.args.operator) is r.marked r.node.tree r.node.arguments in
    let bools : AreBools c.args.sorts.now is = All-tail (λ p. sort_at c.args.sorts.now p ≡ Truths) c.args.place is (c.are_bools.ensures.yes c.if-are_bools.true) in
    λ k d l. bool_sort s marks c.laws.ensures r.ready.parts r.ready.atoms.size c.args.sorts.now r.ready.sorted _ (marked k d l) (bools k d l)

pub keep_compared-requires : goal.keep_compared-requires
keep_compared-requires g c = λ κs lives.
    let s = c.args.stack.now in
    let r = c.requires in
    let marks = c.args.marks.now in
    let is = c.args.arguments.now in
    let marked : All (IsMarked marks) is = arguments_marked s marks c.laws.ensures r.ready.parts r.ready.atoms.size c.args.place (Theory c.args.operator) is r.marked r.node.tree r.node.arguments in
    let sort = has_sort s marks c.laws.ensures r.ready.parts r.ready.atoms.size c.args.sorts.now r.ready.sorted in
    let sorted : All (HasSort (signature_of s.frames) s.trees c.args.sorts.now) (c.args.place ∷ is) =
    All-cons (HasSort (signature_of s.frames) s.trees c.args.sorts.now) c.args.place is (sort c.args.place r.marked) (λ k d l. sort _ (marked k d l)) in
    let readable : All (IsReadable s.trees) (c.args.place ∷ is) =
    All-weaker (IsMarked marks) (IsReadable s.trees) (λ p m. c.lawful_parts_are_readable.ensures s p c.laws.ensures (r.ready.parts.only p m)) (c.args.place ∷ is) (All-cons (IsMarked marks) c.args.place is r.marked marked) in
    (lives, (refl, (r.ready.atoms.declared, (r.ready.forms, (r.node, (r.ready.sorted.size, (sorted, (readable, r.begun))))))))

pub is_asserted_distinct-requires-clause-sorted : goal.is_asserted_distinct-requires-clause-sorted
is_asserted_distinct-requires-clause-sorted g c =
    let s = c.args.stack.now in
    let r = c.requires in
    let marks = c.args.marks.now in
    let marked : All (IsMarked marks) c.args.arguments.now =
    arguments_marked s marks c.laws.ensures r.ready.parts r.ready.atoms.size c.args.place (Theory c.args.operator) c.args.arguments.now r.marked r.node.tree r.node.arguments in
    λ k d l. sym (has_sort s marks c.laws.ensures r.ready.parts r.ready.atoms.size c.args.sorts.now r.ready.sorted _ (marked k d l))

pub returns-then-is_asserted_distinct-clause-has : goal.returns-then-is_asserted_distinct-clause-has
returns-then-is_asserted_distinct-clause-has g c = record {
  of_bools = λ all. absurd (c.are_bools.ensures.no c.if-are_bools.false all);
  of_others = λ none. inl (c.is_asserted_distinct.ensures.yes c.if-is_asserted_distinct.true);
}

pub returns-then-are_bools-clause-has : goal.returns-then-are_bools-clause-has
returns-then-are_bools-clause-has g c = record {
  of_bools = λ all. c.in_ok-keep_bools.ensures.has;
  of_others = λ none. absurd (none (c.are_bools.ensures.yes c.if-are_bools.true));
}

pub returns-then-are_bools-clause-counted : goal.returns-then-are_bools-clause-counted
returns-then-are_bools-clause-counted g c =
    bools_compare c.args.stack.now c.args.marks.now c.args.sorts.now c.args.place c.args.operator c.args.arguments.now c.args.steps.now c.args.steps.now (c.are_bools.ensures.yes c.if-are_bools.true) refl

pub refusal_of-requires : goal.refusal_of-requires
refusal_of-requires g c =
    let r = c.requires in
    never_missing c.args.stack.now c.args.marks.now c.laws.ensures r.ready.parts c.args.sorts.now r.ready.sorted c.args.atoms.now.atoms r.ready.atoms c.args.operator c.args.place c.args.arguments.now r.marked r.node c.args.forms.now r.ready.forms
    (c.is_asserted_distinct.ensures.no c.if-is_asserted_distinct.false) c.in-Err.error c.in-Err.ensures.cause

pub returns-in-Err-clause-err : goal.returns-in-Err-clause-err
returns-in-Err-clause-err g c =
    let r = c.requires in
    part_refused c.args.stack.now c.args.marks.now c.laws.ensures r.ready.parts c.args.sorts.now r.ready.sorted c.args.atoms.now.atoms r.ready.atoms c.args.operator c.args.place c.args.arguments.now r.marked r.node c.in-Err.error
    c.refusal_of.result c.in-Err.ensures.cause c.refusal_of.ensures
