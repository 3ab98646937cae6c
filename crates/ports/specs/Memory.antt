-- Sources and sinks in memory that may fail: what callers see of one, and what each call answers and leaves.
use Rattle.std.specs.Prelude.{◌==◌, ℕ, ◌-◌, min, nat_le, Bool, if◌then◌else◌, List, ◌++◌, length, take, drop}
use Rattle.std.specs.List.{list_any}
use Rattle.ports.specs.Flow.{raised, raised_by, gifts, more_faults, put_faults}
use Rattle.ports.specs.Calm.{calm_answer, moved}
use Rattle.ports.specs.declared.More.{More}
use Rattle.ports.specs.declared.More.TheVariants.{Failed as MoreFailed}
use Rattle.ports.specs.declared.Put.{Put}
use Rattle.ports.specs.declared.Put.TheVariants.{Ok as PutOk, Failed as PutFailed}

-- A source: the bytes still to come, the most that a call gives, the calls that fail by their
-- numbers from 1, and how many calls there were, gave a byte or more, and failed. The counts are of 64 bits.
pub record SourceState : Type 0 where
  pub left : List ℕ
  pub piece : ℕ
  pub fails : List ℕ
  pub calls : ℕ
  pub given : ℕ
  pub faults : ℕ

-- A sink: the bytes written, for how many there is room in all, how many bytes a call that fails takes at most, and the rest as in a source, but for
-- what a call gave.
pub record SinkState : Type 0 where
  pub written : List ℕ
  pub room : ℕ
  pub cut : ℕ
  pub fails : List ℕ
  pub calls : ℕ
  pub faults : ℕ

-- Whether the call after this many is one that fails. The count of calls stands still at its end,
-- so each call from the one numbered 2 ^ 64 - 1 on has that number.
abbrev pub fails_next : List ℕ → ℕ → Bool
fails_next fails calls = list_any (λ call. call == raised calls) fails

-- What the next call answers, for a buffer of this length.
abbrev pub source_answer : SourceState → ℕ → More
source_answer s room =
    if fails_next s.fails s.calls then MoreFailed
    else calm_answer (record { left = s.left; piece = s.piece; given = s.given }) room

-- The source after it gave this answer.
abbrev pub source_after : SourceState → More → SourceState
source_after s answer =
    record s { left = drop (moved answer) s.left; calls = raised s.calls; given = raised_by (gifts answer) s.given; faults = more_faults answer s.faults }

-- How many of this many bytes the next call takes.
abbrev pub sink_takes : SinkState → ℕ → ℕ
sink_takes s size = min (if fails_next s.fails s.calls then min size s.cut else size) (s.room - length s.written)

-- What the next call answers to this many bytes.
abbrev pub sink_answer : SinkState → ℕ → Put
sink_answer s size =
    if fails_next s.fails s.calls then PutFailed
    else (if nat_le size (s.room - length s.written) then PutOk else PutFailed)

-- The sink after it was given these bytes.
abbrev pub sink_after : SinkState → List ℕ → SinkState
sink_after s bytes =
    record s { written = s.written ++ take (sink_takes s (length bytes)) bytes; calls = raised s.calls; faults = put_faults (sink_answer s (length bytes)) s.faults }
