use Rattle.std.proofs.Common.{◌≡◌, ◌<◌, ◌+◌, ◌-◌, ◌*◌, ◌^◌, ℕ, [], length, get_or}
use Rattle.point_closure.specs.Unions.{root_of}
use Rattle.point_closure.specs.declared.pending.Pending.{Pending}
use Rattle.point_closure.specs.State.{Stands}
use Rattle.point_closure.specs.Whole.{IsClosure, Keeps, state_of}
use Rattle.point_closure.proofs.closure.Closure.close.Given as goal

abbrev pub invariant-pairs : goal.invariant-pairs
invariant-pairs l = record {
  whole : IsClosure l.self;
  keeps : Keeps l.fn.self l.self;
  stands : Stands l.self.graph l.self.steps.items (state_of l.self) l.self.pending.items [] 0;
  done : (k : ℕ) (d : Pending) → k < l.head → k < length l.self.pending.items → root_of l.self.classes.unions (get_or l.self.pending.items k d).left ≡ root_of l.self.classes.unions (get_or l.self.pending.items k d).right;
}

abbrev pub decreases-pairs : goal.decreases-pairs
decreases-pairs l = (2 ^ 32 - length l.self.classes.unions) * 2 ^ 64 + (length l.self.pending.items - l.head)
