-- A source in memory that never fails: what callers see of it, and what each call answers and leaves.
use Rattle.std.specs.Prelude.{◌==◌, ℕ, min, if◌then◌else◌, List, length, drop}
use Rattle.ports.specs.Flow.{gifts, raised_by}
use Rattle.ports.specs.declared.More.{More}
use Rattle.ports.specs.declared.More.TheVariants.{Got, End, Failed as MoreFailed}

-- The bytes still to come, the most that a call gives, and how many calls gave a byte or more.
pub record CalmState : Type 0 where
  pub left : List ℕ
  pub piece : ℕ
  pub given : ℕ

-- What the next call answers, for a buffer of this length.
abbrev pub calm_answer : CalmState → ℕ → More
calm_answer s room = if length s.left == 0 then End else Got (min (min s.piece (length s.left)) room)

-- How many bytes an answer moved.
abbrev pub moved : More → ℕ
moved (Got n) = n
moved End = 0
moved MoreFailed = 0

-- The source after it gave this answer.
abbrev pub calm_after : CalmState → More → CalmState
calm_after s answer = record s { left = drop (moved answer) s.left; given = raised_by (gifts answer) s.given }
