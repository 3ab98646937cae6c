use Rattle.std.proofs.Common.{◌≡◌, ◌⊎◌, ◌+◌, ◌^◌, ◌≤◌}
use Rattle.smt_meaning.specs.Term.{tree_at}
use Rattle.goal_search.specs.Points.{IsPoint, most_above}
use Rattle.goal_search.proofs.descent.descend.Given as goal

abbrev pub invariant-loop-turn : goal.invariant-loop-turn
invariant-loop-turn g l = record {
  may : g.D.Decider.may l.decider;
  stays : l.stack ≡ l.fn.stack;
  point : IsPoint l.fn.stack.frames l.text (tree_at l.fn.stack.trees l.term) l.point;
  near : (l.point.above ≡ 0) ⊎ (l.point.above + 2 ^ l.turn ≤ most_above + 1);
}
