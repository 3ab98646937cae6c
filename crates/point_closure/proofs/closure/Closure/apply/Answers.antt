use Rattle.std.proofs.Common.{length, subst}
use Rattle.point_closure.specs.declared.classes.Reason.TheVariants.{Step as AtStep}
use Rattle.point_closure.specs.declared.pending.Pending.{Pending}
use Rattle.point_closure.specs.declared.step.Step.{Step}
use Rattle.point_closure.specs.declared.step.Step.TheVariants.{Merge}
use Rattle.point_closure.specs.Whole.{IsLast, IsWithin, state_of}
use Rattle.point_closure.proofs.KeepsLemmas.{keeps_more}
use Rattle.point_closure.proofs.BackLemmas.{differ_rest, merge_stands}
use Rattle.point_closure.proofs.ListsLemmas.{ok_then}
use Rattle.point_closure.proofs.SoundLemmas.{last_pending}
use Rattle.point_closure.proofs.closure.Closure.apply.Goals as goal

pub start-requires-clause-pending : goal.start-requires-clause-pending
start-requires-clause-pending c =
    let s = c.args.self.now in
    let within : IsWithin (length s.graph) (Merge c.in-Merge.left c.in-Merge.right) = subst (λ (x : Step). IsWithin (length s.graph) x) c.in-Merge.is c.requires.within in
    last_pending s.graph s.classes.unions s.steps.items c.in-Merge.left c.in-Merge.right c.args.index within.0 within.1
    (subst (λ (x : Step). IsLast s.steps.items c.args.index x) c.in-Merge.is c.requires.last)

pub close-requires-clause-stands : goal.close-requires-clause-stands
close-requires-clause-stands c =
    let s = c.args.self.now in
    let n = c.start.new.self in
    let p : Pending = record { left = c.in-Merge.left; right = c.in-Merge.right; reason = AtStep c.args.index } in
    merge_stands s.graph n.graph s.steps.items n.steps.items (state_of s) (state_of n) n.pending.items p c.args.index c.start.ensures.keeps.graph c.start.ensures.keeps.steps c.start.ensures.state c.in_ok-start-in-Merge.ensures.ok
    (subst (λ (x : Step). IsLast s.steps.items c.args.index x) c.in-Merge.is c.requires.last) c.requires.rest

pub returns-in_ok-start-in-Merge-clause-keeps : goal.returns-in_ok-start-in-Merge-clause-keeps
returns-in_ok-start-in-Merge-clause-keeps c = keeps_more c.args.self.now c.start.new.self c.close.new.self c.start.ensures.keeps c.close.ensures.keeps

pub returns-in-Differ-clause-rest : goal.returns-in-Differ-clause-rest
returns-in-Differ-clause-rest c = ok_then c.add_watch.result _ _ c.add_watch.ensures.watches (λ h.
    let s = c.args.self.now in
    let n = c.add_watch.new.self in
    differ_rest s.graph n.graph s.steps.items n.steps.items (state_of s) (state_of n) c.in-Differ.left c.in-Differ.right c.args.index c.add_watch.ensures.keeps.graph c.add_watch.ensures.keeps.steps
    (subst (λ (x : Step). IsLast s.steps.items c.args.index x) c.in-Differ.is c.requires.last) c.requires.rest h)
