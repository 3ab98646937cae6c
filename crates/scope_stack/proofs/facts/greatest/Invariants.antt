use Rattle.std.proofs.Common.{◌≡◌, ◌<◌, length, All}
use Rattle.scope_stack.specs.Facts.{greatest_of}
use Rattle.scope_stack.proofs.facts.greatest.Given as goal

abbrev pub invariant-loop-first : goal.invariant-loop-first
invariant-loop-first l = (greatest_of l.levels l.rest l.most ≡ greatest_of l.levels l.places l.level) × All (λ p. p < length l.levels) l.rest

abbrev pub decreases-loop-first : goal.decreases-loop-first
decreases-loop-first l = length l.rest
