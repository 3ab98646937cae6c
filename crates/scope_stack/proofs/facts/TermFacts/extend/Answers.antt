use Rattle.std.proofs.Common.{◌∙◌, ◌≡◌, ◌≤◌, [], ◌∷◌, length, arith, subst}
use Rattle.std.proofs.lemmas.List.{take-append-le}
use Rattle.scope_stack.specs.Facts.{AreFacts, HaveLevels}
use Rattle.scope_stack.proofs.FactLemmas.{facts_more}
use Rattle.scope_stack.proofs.LevelSteps.{levels_more}
use Rattle.scope_stack.proofs.facts.TermFacts.extend.Goals as goal

pub loop-id-preserved : goal.loop-id-preserved
loop-id-preserved c =
    let facts = c.loop-id.invariant.0 in
    let levels = c.loop-id.invariant.1 in
    let kept = c.loop-id.invariant.2 in
    let sorted : length c.loop-id.self.sorts.items ≡ c.loop-id.id = facts.sorts.size in
    let leveled : length c.loop-id.self.levels.items ≡ c.loop-id.id = levels.size in
    let since : c.args.from ≤ c.loop-id.id = c.loop-id.invariant.3 in
    rw (c.in_ok-push.ensures.items, c.in_ok-push-2.ensures.items) (
      facts_more c.args.table.now c.args.terms.now.trees c.loop-id.id c.loop-id.self.sorts.items c.sort_at-sort.result facts c.sort_at-sort.ensures,
      levels_more c.args.table.now c.args.terms.now.trees c.loop-id.id c.loop-id.self.levels.items c.level_at-level.result levels c.level_at-level.ensures,
      record {
        sorts = take-append-le c.args.from c.loop-id.self.sorts.items (c.sort_at-sort.result ∷ []) (omega (arith, sorted, since)) ∙ kept.sorts;
        levels = take-append-le c.args.from c.loop-id.self.levels.items (c.level_at-level.result ∷ []) (omega (arith, leveled, since)) ∙ kept.levels;
      },
      omega (arith, since),
    )

pub returns-clause-extended : goal.returns-clause-extended
returns-clause-extended c =
    let same : c.loop-id.id ≡ length c.args.terms.now.trees = omega (arith, c.loop-id-test.false, c.loop-id.auto.id, c.loop-id.auto.id-end, c.len-id-end.ensures.value) in
    record {
      facts = subst (λ n. AreFacts c.args.table.now c.args.terms.now.trees n c.loop-id.self.sorts.items) same c.loop-id.invariant.0;
      levels = subst (λ n. HaveLevels c.args.table.now c.args.terms.now.trees n c.loop-id.self.levels.items) same c.loop-id.invariant.1;
    }
