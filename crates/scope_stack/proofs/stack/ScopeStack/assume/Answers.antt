use Rattle.std.proofs.Common.{◌≡◌, ◌∙◌, ◌≤◌, map, length, ap, subst, sym}
use Rattle.std.proofs.lemmas.Result.{err_from_is_err_and}
use Rattle.smt_meaning.specs.Stack.{depth}
use Rattle.smt_meaning.specs.StackCommand.{Stack}
use Rattle.smt_sorts.specs.Names.{Names}
use Rattle.scope_stack.specs.Facts.{AreFacts, HaveGivenSymbols, HaveLevels}
use Rattle.scope_stack.specs.Inside.{asserted_by, frames_by}
use Rattle.scope_stack.proofs.AssumeLemmas.{assumed_is, assumed_keeps, failed_assumes}
use Rattle.scope_stack.proofs.FactLemmas.{asked_before, facts_pushed}
use Rattle.scope_stack.proofs.LawLemmas.{reached_given}
use Rattle.scope_stack.proofs.LevelSteps.{asked_levels, levels_pushed}
use Rattle.scope_stack.proofs.TermSteps.{still_within}
use Rattle.scope_stack.proofs.stack.ScopeStack.assume.Goals as goal

pub returns-in_err-assumed : goal.returns-in_err-assumed
returns-in_err-assumed c =
    let p = err_from_is_err_and c.from_residual.result c.from_residual.ensures.1 in
    let d : c.depth-depth.result ≡ depth (frames_by c.self.inside.terms.trees c.self.inside.table.levels c.self.inside.asserted) = c.depth-depth.ensures ∙ ap (λ (s : Stack). depth s.frames) (sym c.self.view_is) in
    rw (← c.self.view_is, p.1, p.2)
    (failed_assumes c.self.inside.global c.depth-depth.result c.args.terms.now c.self.inside.table c.judge_assumptions.new.table c.self.inside.terms c.judge_assumptions.new.terms c.self.inside.asserted _
    c.in_err-assumed.ensures.causes d c.in_err-assumed.ensures.table c.in_err-assumed.ensures.err)

pub add_level-requires : goal.add_level-requires
add_level-requires c = record {
  within = still_within c.self.inside.terms c.judge_assumptions.new.terms c.len-count.result c.in_ok-assumed.ensures.longer c.len-count.ensures.value;
  few = subst (λ (t : Names). length t.levels ≤ 65536) (sym c.in_ok-assumed.ensures.table) c.self.invariant.stack.few;
  given =
      let d : c.depth-depth.result ≡ depth (frames_by c.self.inside.terms.trees c.self.inside.table.levels c.self.inside.asserted) = c.depth-depth.ensures ∙ ap (λ (s : Stack). depth s.frames) (sym c.self.view_is) in
      let after =
      assumed_keeps c.self.inside.global c.depth-depth.result c.args.terms.now c.self.inside.table c.in_ok-assumed.ensures.gives.0 c.self.inside.terms c.judge_assumptions.new.terms
      c.in_ok-assumed.assumed.items c.self.inside.asserted c.self.invariant.stack c.in_ok-assumed.ensures.gives.1 d c.in_ok-assumed.ensures.longer c.assumptions_are_commands.ensures
      c.in_ok-assumed.ensures.limit in
      subst (λ (t : Names). HaveGivenSymbols t.given c.judge_assumptions.new.terms.trees) (sym c.in_ok-assumed.ensures.table) (reached_given _ after.reached c.symbols_are_given.ensures);
  facts =
      asked_before c.self.inside.table c.judge_assumptions.new.table c.self.inside.terms c.judge_assumptions.new.terms c.len-count.result c.self.inside.facts.sorts.items c.len-count.ensures.value
      c.in_ok-assumed.ensures.table c.in_ok-assumed.ensures.longer c.self.invariant.facts;
  levels =
      asked_levels c.self.inside.table c.judge_assumptions.new.table c.self.inside.terms c.judge_assumptions.new.terms c.len-count.result c.self.inside.facts.levels.items c.len-count.ensures.value
      c.in_ok-assumed.ensures.table c.in_ok-assumed.ensures.longer c.self.invariant.levels;
}

pub invariant_of-self-in-Ok : goal.invariant_of-self-in-Ok
invariant_of-self-in-Ok c =
    let d : c.depth-depth.result ≡ depth (frames_by c.self.inside.terms.trees c.self.inside.table.levels c.self.inside.asserted) = c.depth-depth.ensures ∙ ap (λ (s : Stack). depth s.frames) (sym c.self.view_is) in
    rw (c.push.ensures, c.in-Ok.ensures.ok, c.in_ok-assumed.ensures.table)
    (record {
      stack =
          assumed_keeps c.self.inside.global c.depth-depth.result c.args.terms.now c.self.inside.table c.in_ok-assumed.ensures.gives.0 c.self.inside.terms c.judge_assumptions.new.terms
          c.in_ok-assumed.assumed.items c.self.inside.asserted c.self.invariant.stack c.in_ok-assumed.ensures.gives.1 d c.in_ok-assumed.ensures.longer c.assumptions_are_commands.ensures
          c.in_ok-assumed.ensures.limit;
      facts =
          facts_pushed c.self.inside.table 1 c.judge_assumptions.new.terms.trees (length c.judge_assumptions.new.terms.trees) c.add_level.new.facts.sorts.items
          (subst (λ (t : Names). AreFacts t c.judge_assumptions.new.terms.trees (length c.judge_assumptions.new.terms.trees) c.add_level.new.facts.sorts.items) c.in_ok-assumed.ensures.table c.in-Ok.ensures.extended.facts);
      levels =
          levels_pushed c.self.inside.table 1 c.judge_assumptions.new.terms.trees (length c.judge_assumptions.new.terms.trees) c.add_level.new.facts.levels.items
          (subst (λ (t : Names). HaveLevels t c.judge_assumptions.new.terms.trees (length c.judge_assumptions.new.terms.trees) c.add_level.new.facts.levels.items) c.in_ok-assumed.ensures.table c.in-Ok.ensures.extended.levels);
    })

pub returns-in-Ok : goal.returns-in-Ok
returns-in-Ok c =
    let d : c.depth-depth.result ≡ depth (frames_by c.self.inside.terms.trees c.self.inside.table.levels c.self.inside.asserted) = c.depth-depth.ensures ∙ ap (λ (s : Stack). depth s.frames) (sym c.self.view_is) in
    rw (c.push.ensures, c.in-Ok.ensures.ok, c.in_ok-assumed.ensures.table, ← c.self.view_is) (
      map (asserted_by c.judge_assumptions.new.terms.trees) c.in_ok-assumed.assumed.items,
      assumed_is c.self.inside.global c.depth-depth.result c.args.terms.now c.self.inside.table c.in_ok-assumed.ensures.gives.0 c.self.inside.terms c.judge_assumptions.new.terms
          c.in_ok-assumed.assumed.items c.self.inside.asserted c.self.invariant.stack c.in_ok-assumed.ensures.gives.1 d c.in_ok-assumed.ensures.longer,
    )
