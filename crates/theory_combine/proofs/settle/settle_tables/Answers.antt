use Rattle.std.proofs.Common.{List, Bool, sym, subst, length}
use Rattle.smt_meaning.specs.StackCommand.{Stack}
use Rattle.bound_log.specs.Pending.{plain_grid}
use Rattle.exact_model.specs.Ends.{AreWithin, IsEnd}
use Rattle.exact_model.specs.Leaves.{HaveLeafValues}
use Rattle.theory_combine.specs.Progress.{state}
use Rattle.theory_combine.proofs.SettleEnds.{fitting_by, is_model}
use Rattle.theory_combine.proofs.settle.settle_tables.Goals as goal

pub end_exactly-ended-requires-clause-fitting : goal.end_exactly-ended-requires-clause-fitting
end_exactly-ended-requires-clause-fitting c =
    fitting_by c.first_fit.ensures c.args.parts.now c.args.progress.now c.args.closure.now c.args.values.now c.deref.result.now c.deref.ensures.value c.requires.values.settled

pub end_exactly-ended-requires-clause-have : goal.end_exactly-ended-requires-clause-have
end_exactly-ended-requires-clause-have c =
    let s : Stack = c.args.parts.now.stack.now in
    subst (λ (l : List Bool). HaveLeafValues s l (plain_grid c.args.progress.now.held.bounds) (length s.trees) c.args.values.now) (sym c.deref.ensures.value) c.requires.values.have

pub returns-in-Ok-Within : goal.returns-in-Ok-Within
returns-in-Ok-Within c =
    let p = c.args.parts.now in
    let w = c.args.progress.now in
    let vs = c.args.values.now in
    let ms = c.deref.result.now in
    let within : AreWithin p.stack.now ms vs c.in-Ok-Within.tables = subst (IsEnd p.stack.now ms w.held.bounds vs) c.in-Ok-Within.field-0-is c.in-Ok-Within.ensures in
    record {
      went = c.stays.ensures;
      found =
          is_model c.flat_says_the_same.ensures c.tables_within_are_models.ensures p w c.args.closure.now vs ms c.in-Ok-Within.tables c.deref.ensures.value c.laws.ensures c.requires.at_last c.requires.told
          c.requires.values.settled within;
    }

pub returns-in-Ok-Past : goal.returns-in-Ok-Past
returns-in-Ok-Past c =
    let stop = c.stop_in_model in
    record { went = stop.ensures.went; found = c.checked.ensures (state c.args.parts.now stop.new.progress) c.args.budget.now c.args.budget.now stop.ensures.found }
