use Rattle.std.proofs.Common.{◌≡◌, ◌++◌, drop, string_bytes}
use Rattle.script_gen.specs.Script.{all_facts}
use Rattle.script_gen.proofs.round.assert_all.Given as goal

abbrev pub invariant-loop-place : goal.invariant-loop-place
invariant-loop-place l =
    string_bytes l.text ++ all_facts l.shift l.values l.place (drop l.place l.partners) ≡ string_bytes l.initial.text ++ all_facts l.shift l.values 0 l.partners
