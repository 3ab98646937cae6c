use Rattle.std.proofs.Common.{◌≡◌, slice_range}
use Rattle.smt_meaning.proofs.tokens.Tokens.part.Given as goal

abbrev pub invariant-loop-place : goal.invariant-loop-place
invariant-loop-place l = l.part ≡ slice_range l.self l.from l.place
