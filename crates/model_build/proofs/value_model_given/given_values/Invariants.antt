use Rattle.std.proofs.Common.{◌≡◌, length}
use Rattle.model_build.specs.Values.{AllGiven, AllWorkedOut}
use Rattle.model_build.proofs.value_model_given.given_values.Given as goal

abbrev pub invariant-loop-place : goal.invariant-loop-place
invariant-loop-place l = record {
  count : length l.given.items ≡ l.place;
  each : AllGiven l.stack.trees l.marks l.sorts l.values.truths.now l.values.numbers.now l.values.elements.now l.place l.given.items;
  made : AllWorkedOut l.stack.trees l.marks l.sorts l.place l.given.items;
}
