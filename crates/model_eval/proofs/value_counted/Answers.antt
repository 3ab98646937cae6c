use Rattle.std.proofs.Common.{◌≡◌, ◌+◌, ◌<◌, false, [], length, get_or, ap, ◌∙◌, arith}
use Rattle.std.proofs.lemmas.List.{get_or_default}
use Rattle.std.proofs.lemmas.List.Elements.{All-head}
use Rattle.smt_meaning.specs.declared.values.Value.TheVariants.{Truth}
use Rattle.smt_meaning.specs.Interpretation.{meaning}
use Rattle.model_eval.specs.Walk.{IsKept}
use Rattle.model_eval.proofs.PartLemmas.{below_next, step_a_part_of_one}
use Rattle.model_eval.proofs.value_counted.Goals as goal

pub returns-in_err-found-clause-few : goal.returns-in_err-found-clause-few
returns-in_err-found-clause-few g c = let few = c.evaluated.ensures.few (c.args.term + 1) (below_next c.args.term) in omega arith

pub returns-clause-few : goal.returns-clause-few
returns-clause-few g c = let few = c.evaluated.ensures.few (c.args.term + 1) (below_next c.args.term) in omega arith

pub returns-clause-counted : goal.returns-clause-counted
returns-clause-counted g c = step_a_part_of_one c.args.store.now.trees c.args.term c.args.steps.now c.evaluated.new.steps c.in_ok-found.ensures.counted

pub returns-clause-value : goal.returns-clause-value
returns-clause-value g c =
    let slots = c.in_ok-found.found.slots.items in
    let values = c.in_ok-found.found.values.items in
    let kept = All-head (IsKept (meaning c.args.interp.now) c.args.store.now.trees slots values) c.args.term [] c.in_ok-found.ensures.kept in
    let places = All-head (λ t. t < length slots) c.args.term [] c.in_ok-found.ensures.places in
    let slot : c.index-slot.result.now ≡ get_or slots c.args.term 0 = c.index-slot.ensures ∙ get_or_default slots c.args.term c.index-slot.result.now 0 places in
    c.index.ensures ∙ ap (λ k. get_or values k c.index.result.now) slot ∙ get_or_default values (get_or slots c.args.term 0) c.index.result.now (Truth false) kept.slot ∙ kept.value
