use Rattle.std.proofs.Common.{◌≡◌, ◌++◌, ◌-◌, drop, map}
use Rattle.smt_meaning.specs.declared.replies.Held.{Held}
use Rattle.smt_meaning.specs.Core.{text_at}
use Rattle.session.proofs.cores.texts_held.Given as goal

abbrev pub invariant-loop-one : goal.invariant-loop-one
invariant-loop-one l =
    l.found ++ map (λ (h : Held). text_at l.texts (h.place - l.below)) (drop l.one-index l.held) ≡ map (λ (h : Held). text_at l.texts (h.place - l.below)) l.held
