use Rattle.search_port.specs.Calls.{InferredBy}
use Rattle.search_port.specs.declared.theory.Inferred.{Inferred}
use Rattle.theory_combine.specs.Progress.{state}
use Rattle.theory_combine.proofs.Answering.{held_of, left_after, left_now, ready_kept, same_kept}
use Rattle.theory_combine.proofs.judge.infer_more.Goals as goal

pub go_on_with_pair-requires-clause-ready : goal.go_on_with_pair-requires-clause-ready
go_on_with_pair-requires-clause-ready c = record { parts = c.requires.parts; under_way = c.requires.under_way }

pub returns-in-Some : goal.returns-in-Some
returns-in-Some c =
    let pair = c.go_on_with_pair in
    record { went = pair.ensures.went; found = c.inferred.ensures (state c.args.parts.now pair.new.progress) c.args.budget.now pair.new.budget pair.ensures.found }

pub follow_told-found-requires : goal.follow_told-found-requires
follow_told-found-requires c = held_of c.args.parts.now c.args.progress.now c.requires

pub stays-requires : goal.stays-requires
stays-requires c =
    let here = ready_kept c.args.parts.now c.args.progress.now c.follow_told-found.new.held c.requires c.follow_told-found.ensures.keeps in here.under_way

pub returns-in-Some-found : goal.returns-in-Some-found
returns-in-Some-found c =
    let w = c.args.progress.now in
    let b = c.args.budget.now in
    let told = c.follow_told-found in
    left_now Inferred InferredBy c.args.parts.now w (record w { pairs = c.next_pair.new.pairs; held = told.new.held }) b c.in-Some-found.found (same_kept c.args.parts.now w told.new.held told.ensures.keeps) c.requires.under_way.2 c.stays.ensures
    (rw c.in-Some-found.is at told.ensures.found b b)

pub look_at_sums-requires : goal.look_at_sums-requires
look_at_sums-requires c =
    let here = ready_kept c.args.parts.now c.args.progress.now c.follow_told-found.new.held c.requires c.follow_told-found.ensures.keeps in record { parts = here.parts; under_way = here.under_way }

pub returns-in-None : goal.returns-in-None
returns-in-None c =
    let w = c.args.progress.now in
    let told = c.follow_told-found in
    let sums = c.look_at_sums in
    left_after Inferred InferredBy c.args.parts.now w (record w { pairs = c.next_pair.new.pairs; held = told.new.held }) sums.new.progress c.args.budget.now sums.new.budget sums.result (same_kept c.args.parts.now w told.new.held told.ensures.keeps)
    sums.ensures
