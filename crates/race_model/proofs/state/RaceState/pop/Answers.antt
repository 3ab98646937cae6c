use Rattle.std.proofs.Common.{rules, ap, ◌∙◌, ◌≡◌, ◌≤◌, ◌-◌, length, take, map, arith}
use Rattle.std.specs.Prelude.{nat_lt}
use Rattle.std.specs.Vec.{with_items}
use Rattle.std.proofs.lemmas.List.{with_items_is}
use Rattle.std.proofs.lemmas.Fn.{filter_same}
use Rattle.smt_meaning.specs.Stack.{depth}
use Rattle.race_model.specs.declared.event.Entry.{Entry}
use Rattle.race_model.specs.Base.{base_of}
use Rattle.race_model.specs.Race.{cut_worker, entries_below}
use Rattle.race_model.proofs.state.RaceState.pop.Goals as goal

pub returns : goal.returns
returns c =
    let s = c.args.self.now in
    let fs = (base_of s.levels).frames in
    let n = length fs - c.args.count in
    let few : c.args.count ≤ depth fs = omega arith in
    let kept : c.len.result - c.args.count ≡ n = ap (λ k. k - c.args.count) c.len.ensures in
    let entries : c.retain.new.self.items ≡ entries_below n s.entries.items =
    filter_same _ (λ (e : Entry). nat_lt e.clause.level (c.len.result - c.args.count)) _ (λ x b f' k. search rules) _ _ c.retain.ensures.filtered
    ∙ ap (λ k. entries_below k s.entries.items) kept in
    let size = s.workers.ok.0 in
    let long : length c.cut_workers.new.workers ≡ s.workers.len = omega (arith, c.cut_workers.auto.workers, c.as_mut_slice.ensures.len) in
    let workers : (with_items s.workers c.cut_workers.new.workers).items ≡ map (cut_worker n s.entries.items) s.workers.items =
    with_items_is s.workers c.cut_workers.new.workers long ∙ (c.cut_workers.ensures ∙ (λ i. map (cut_worker (kept i) (c.as_slice.ensures.value i)) (c.as_mut_slice.ensures.value i))) in (
      (few, tt),
      (λ i. record {
        base = record { trees = c.cut.ensures.terms i; frames = (c.cut.ensures.frames ∙ ap (λ k. take k fs) kept) i };
        entries = entries i;
        workers = workers i;
        winner = s.winner;
        global = s.global;
      }),
    )
