use Rattle.std.proofs.Common.{◌≡◌, ◌+◌, ◌-◌, ◌^◌, ◌≤◌}
use Rattle.smt_meaning.specs.Term.{tree_at}
use Rattle.goal_search.specs.Points.{IsFloor, IsPoint, number_at}
use Rattle.goal_search.proofs.descent.narrow.Given as goal

abbrev pub invariant-loop-turn : goal.invariant-loop-turn
invariant-loop-turn g l = record {
  may : g.D.Decider.may l.decider;
  stays : l.stack ≡ l.fn.stack;
  point : IsPoint l.fn.stack.frames l.text (tree_at l.fn.stack.trees l.term) l.point;
  floor : IsFloor l.fn.stack.frames (tree_at l.fn.stack.trees l.term) (number_at l.floor);
  near : l.point.above ≤ l.floor + 2 ^ (128 - l.turn);
}
