use Rattle.search_port.specs.Calls.{CheckedBy}
use Rattle.search_port.specs.declared.theory.Checked.{Checked}
use Rattle.search_port.specs.declared.theory.Checked.TheVariants.{Conflict, Ended}
use Rattle.search_port.specs.declared.budget.Cause.TheVariants.{Memory}
use Rattle.theory_combine.proofs.Answering.{held_of, last_kept, left_after, left_now, ready_kept, same_kept}
use Rattle.theory_combine.proofs.judge.judge.Goals as goal

pub broken_clause-broken-requires : goal.broken_clause-broken-requires
broken_clause-broken-requires c = held_of c.args.parts.now c.args.progress.now c.requires.ready

pub stays-requires : goal.stays-requires
stays-requires c =
    let here = ready_kept c.args.parts.now c.args.progress.now c.broken_clause-broken.new.held c.requires.ready c.broken_clause-broken.ensures.keeps in here.under_way

pub returns-in-Err : goal.returns-in-Err
returns-in-Err c =
    let w = c.args.progress.now in
    let held = c.broken_clause-broken.new.held in
    left_now Checked CheckedBy c.args.parts.now w (record w { held = held }) c.args.budget.now (Ended Memory) (same_kept c.args.parts.now w held c.broken_clause-broken.ensures.keeps) c.requires.ready.under_way.2 c.stays.ensures tt

pub returns-in-Ok-Some : goal.returns-in-Ok-Some
returns-in-Ok-Some c =
    let w = c.args.progress.now in
    let held = c.broken_clause-broken.new.held in
    left_now Checked CheckedBy c.args.parts.now w (record w { held = held }) c.args.budget.now (Conflict c.in-Ok-Some.clause) (same_kept c.args.parts.now w held c.broken_clause-broken.ensures.keeps) c.requires.ready.under_way.2 c.stays.ensures
    (rw c.in-Ok-Some.field-0-is at c.in-Ok-Some.ensures.clause)

pub judge_numbers-requires : goal.judge_numbers-requires
judge_numbers-requires c = last_kept c.args.parts.now c.args.progress.now c.broken_clause-broken.new.held c.requires c.broken_clause-broken.ensures.keeps

pub returns-then-leads : goal.returns-then-leads
returns-then-leads c =
    let w = c.args.progress.now in
    let held = c.broken_clause-broken.new.held in
    left_after Checked CheckedBy c.args.parts.now w (record w { held = held }) c.judge_numbers.new.progress c.args.budget.now c.judge_numbers.new.budget c.judge_numbers.result (same_kept c.args.parts.now w held c.broken_clause-broken.ensures.keeps)
    c.judge_numbers.ensures

pub judge_sums-requires : goal.judge_sums-requires
judge_sums-requires c = last_kept c.args.parts.now c.args.progress.now c.broken_clause-broken.new.held c.requires c.broken_clause-broken.ensures.keeps

pub returns-else-leads : goal.returns-else-leads
returns-else-leads c =
    let w = c.args.progress.now in
    let held = c.broken_clause-broken.new.held in
    left_after Checked CheckedBy c.args.parts.now w (record w { held = held }) c.judge_sums.new.progress c.args.budget.now c.judge_sums.new.budget c.judge_sums.result (same_kept c.args.parts.now w held c.broken_clause-broken.ensures.keeps)
    c.judge_sums.ensures
