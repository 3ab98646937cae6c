-- Which checks are answered by what a decider finds.
use Rattle.std.specs.Prelude.{true}
use Rattle.smt_meaning.specs.MayReply.{Decided}

-- those of every stack
abbrev pub every_stack : Decided
every_stack frames = true
