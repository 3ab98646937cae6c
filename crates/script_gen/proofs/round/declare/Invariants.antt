use Rattle.std.proofs.Common.{◌≡◌, ◌++◌, ◌-◌, string_bytes}
use Rattle.script_gen.specs.Script.{declarations}
use Rattle.script_gen.proofs.round.declare.Given as goal

abbrev pub invariant-loop-place : goal.invariant-loop-place
invariant-loop-place l =
    string_bytes l.text ++ declarations l.place-counter (l.size - l.place-counter) ≡ string_bytes l.initial.text ++ declarations 0 l.size
