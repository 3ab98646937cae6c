use Rattle.std.proofs.Common.{◌≡◌, ◌+◌, List, length, subst, sym, ◌∙◌, rules}
use Rattle.std.specs.Prelude.{slice_index_or}
use Rattle.smt_meaning.specs.declared.values.Sort.TheVariants.{Bool as Truths, Int as Ints}
use Rattle.check_atoms.specs.Parts.{IsMarked}
use Rattle.smt_meaning.specs.Term.{Tree}
use Rattle.smt_meaning.specs.Stack.{signature_of}
use Rattle.model_build.specs.declared.given.Given.{Given}
use Rattle.model_build.specs.Values.{AllGiven, AllWorkedOut, IsPlaceGiven, IsNextWorkedOut}
use Rattle.model_build.proofs.Placing.{all_pushed, give_no_others, are_given, give_chosen, worked_out_pushed, are_worked_out}
use Rattle.model_build.proofs.value_model_given.given_values.Goals as goal

pub loop-place-preserved : goal.loop-place-preserved
loop-place-preserved c =
    let here : IsPlaceGiven c.args.stack.now.trees c.args.marks.now c.args.sorts.now c.args.values.now.truths.now c.args.values.now.numbers.now c.args.values.now.elements.now c.loop-place.place c.place_given-next.result =
    subst (λ (ts : List Tree). IsPlaceGiven ts c.args.marks.now c.args.sorts.now c.args.values.now.truths.now c.args.values.now.numbers.now c.args.values.now.elements.now c.loop-place.place c.place_given-next.result)
    c.terms-store.ensures.trees c.place_given-next.ensures.place in
    let next : IsMarked c.args.marks.now c.loop-place.place → slice_index_or c.args.sorts.now c.loop-place.place Truths ≡ Ints → IsNextWorkedOut c.args.stack.now.trees c.loop-place.given.items c.loop-place.place c.place_given-next.result =
    λ m int. subst (λ (ts : List Tree). IsNextWorkedOut ts c.loop-place.given.items c.loop-place.place c.place_given-next.result) c.terms-store.ensures.trees
    (subst (λ (gs : List Given). IsNextWorkedOut c.terms-store.result.now.trees gs c.loop-place.place c.place_given-next.result) c.deref.ensures.value (c.place_given-next.ensures.made m int)) in
    let count : length c.push.new.self.items ≡ c.loop-place.place + 1 = search rules in
    record {
      count = count;
      each = subst (λ (gs : List Given). AllGiven c.args.stack.now.trees c.args.marks.now c.args.sorts.now c.args.values.now.truths.now c.args.values.now.numbers.now c.args.values.now.elements.now (c.loop-place.place + 1) gs)
          (sym c.in_ok-push.ensures.items)
          (all_pushed (signature_of c.args.stack.now.frames) c.args.stack.now.trees c.args.marks.now c.args.sorts.now c.args.values.now.truths.now c.args.values.now.numbers.now c.args.values.now.elements.now
          c.loop-place.place c.loop-place.given.items c.place_given-next.result c.loop-place.invariant.count c.loop-place.invariant.each here);
      made = subst (λ (gs : List Given). AllWorkedOut c.args.stack.now.trees c.args.marks.now c.args.sorts.now (c.loop-place.place + 1) gs) (sym c.in_ok-push.ensures.items)
          (worked_out_pushed c.args.stack.now.trees c.args.marks.now c.args.sorts.now c.loop-place.place c.loop-place.given.items c.place_given-next.result c.loop-place.invariant.count c.loop-place.invariant.made next);
    }

pub returns-clause-given : goal.returns-clause-given
returns-clause-given c =
    let all : c.loop-place.place ≡ length c.args.stack.now.trees = search rules in
    are_given (signature_of c.args.stack.now.frames) c.args.stack.now.trees c.args.marks.now c.args.sorts.now c.args.values.now.truths.now c.args.values.now.numbers.now c.args.values.now.elements.now
    c.loop-place.given.items (c.loop-place.invariant.count ∙ all)
    (subst (λ n. AllGiven c.args.stack.now.trees c.args.marks.now c.args.sorts.now c.args.values.now.truths.now c.args.values.now.numbers.now c.args.values.now.elements.now n c.loop-place.given.items) all
    c.loop-place.invariant.each)
    c.requires.parts c.requires.sorts c.laws.ensures.in_order

pub returns-clause-chosen : goal.returns-clause-chosen
returns-clause-chosen c =
    let all : c.loop-place.place ≡ length c.args.stack.now.trees = search rules in
    give_chosen (signature_of c.args.stack.now.frames) c.args.stack.now.trees c.args.marks.now c.args.sorts.now c.args.values.now.truths.now c.args.values.now.numbers.now c.args.values.now.elements.now
    c.loop-place.given.items (c.loop-place.invariant.count ∙ all)
    (subst (λ n. AllGiven c.args.stack.now.trees c.args.marks.now c.args.sorts.now c.args.values.now.truths.now c.args.values.now.numbers.now c.args.values.now.elements.now n c.loop-place.given.items) all
    c.loop-place.invariant.each)
    c.requires.parts c.requires.sorts c.laws.ensures.in_order

pub returns-clause-worked_out : goal.returns-clause-worked_out
returns-clause-worked_out c =
    let all : c.loop-place.place ≡ length c.args.stack.now.trees = search rules in
    are_worked_out (signature_of c.args.stack.now.frames) c.args.stack.now.trees c.args.marks.now c.args.sorts.now c.loop-place.given.items
    (subst (λ n. AllWorkedOut c.args.stack.now.trees c.args.marks.now c.args.sorts.now n c.loop-place.given.items) all c.loop-place.invariant.made) c.requires.parts.size c.requires.sorts

pub returns-clause-no_others : goal.returns-clause-no_others
returns-clause-no_others c =
    let all : c.loop-place.place ≡ length c.args.stack.now.trees = search rules in
    give_no_others c.args.stack.now.trees c.args.marks.now c.args.sorts.now c.args.values.now.truths.now c.args.values.now.numbers.now c.args.values.now.elements.now c.loop-place.given.items (c.loop-place.invariant.count ∙ all)
    (subst (λ n. AllGiven c.args.stack.now.trees c.args.marks.now c.args.sorts.now c.args.values.now.truths.now c.args.values.now.numbers.now c.args.values.now.elements.now n c.loop-place.given.items) all
    c.loop-place.invariant.each)
