use Rattle.std.proofs.Common.{◌≡◌, ◌++◌, ◌-◌, string_bytes}
use Rattle.script_gen.specs.Script.{rounds}
use Rattle.script_gen.proofs.script.Given as goal

abbrev pub invariant-loop : goal.invariant-loop
invariant-loop l =
    string_bytes l.text ++ rounds l.size l.shift (4 - l.counter) l.rng ≡ string_bytes l.initial.text ++ rounds l.size l.shift 4 l.initial.rng
