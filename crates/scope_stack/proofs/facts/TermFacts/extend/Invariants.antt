use Rattle.std.proofs.Common.{◌≤◌}
use Rattle.scope_stack.specs.Facts.{AreFacts, HaveLevels, KeepFirst}
use Rattle.scope_stack.proofs.facts.TermFacts.extend.Given as goal

abbrev pub invariant-loop-id : goal.invariant-loop-id
invariant-loop-id l =
    AreFacts l.table l.terms.trees l.id l.self.sorts.items × HaveLevels l.table l.terms.trees l.id l.self.levels.items
    × KeepFirst l.from l.fn.self.sorts.items l.self.sorts.items l.fn.self.levels.items l.self.levels.items × (l.from ≤ l.id)
