use Rattle.search_port.specs.Calls.{InferredBy}
use Rattle.search_port.specs.declared.theory.Inferred.{Inferred}
use Rattle.theory_combine.specs.Progress.{state}
use Rattle.theory_combine.specs.Ready.{Infers}
use Rattle.theory_combine.proofs.Answering.{held_of, left_now, left_then, ready_held, same_held}
use Rattle.theory_combine.proofs.Spending.{inferred_before}
use Rattle.theory_combine.proofs.judge.look_at_sums.Goals as goal

pub returns-in-Some : goal.returns-in-Some
returns-in-Some c = record {
  went = c.meet_sums.ensures.went;
  found = c.inferred.ensures (state c.args.parts.now c.meet_sums.new.progress) c.args.budget.now c.meet_sums.new.budget c.in-Some.ensures.some;
}

pub follow_rows-found-requires : goal.follow_rows-found-requires
follow_rows-found-requires c = held_of c.args.parts.now c.meet_sums.new.progress c.in-None.ensures.none.ready

pub stays-requires : goal.stays-requires
stays-requires c =
    let rows = c.follow_rows-found in
    let here = ready_held c.args.parts.now c.meet_sums.new.progress rows.new.held c.in-None.ensures.none.ready rows.ensures.held rows.ensures.variables.sums in here.under_way

pub returns-in-None : goal.returns-in-None
returns-in-None c =
    let p = c.args.parts.now in
    let sums = c.meet_sums in
    let middle = sums.new.progress in
    let rows = c.follow_rows-found in
    let none = c.in-None.ensures.none in
    let new = record middle { held = rows.new.held } in
    let b = sums.new.budget in
    let here : Infers p middle new b b rows.result =
    left_now Inferred InferredBy p middle new b rows.result (same_held p middle rows.new.held rows.ensures.log rows.ensures.variables) none.ready.under_way.2 c.stays.ensures (rows.ensures.found b b) in
    left_then Inferred InferredBy p inferred_before c.args.progress.now middle new c.args.budget.now b b rows.result none.same sums.ensures.went here
