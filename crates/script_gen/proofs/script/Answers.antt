use Rattle.std.proofs.Common.{arith, ◌≡◌, ◌∙◌, ◌++◌, ◌-◌, ◌+◌, ℕ, ap, append_assoc, string_bytes}
use Rattle.rand_pcg.specs.Lcg.{Lcg}
use Rattle.script_gen.specs.Draws.{draw, seeded}
use Rattle.script_gen.specs.Script.{opening, closing, round, rounds}
use Rattle.script_gen.proofs.Rounds.{goes_on, is_over, round_more, no_round}
use Rattle.script_gen.proofs.script.Goals as goal

pub loop-preserved : goal.loop-preserved
loop-preserved c =
    let k = c.loop.counter in
    let size = c.args.size in
    let shift = c.draw-shift.result in
    let g = c.loop.rng in
    let more : rounds size shift (4 - k) g ≡ (round size shift g).0 ++ rounds size shift (4 - (k + 1)) c.round.new.rng =
    rw c.in_ok-round.ensures.drawn (round_more size shift 4 k g (omega arith)) in
    goes_on (string_bytes c.loop.text) (string_bytes c.round.new.text) (round size shift g).0 (rounds size shift (4 - (k + 1)) c.round.new.rng) (rounds size shift (4 - k) g) _
    c.in_ok-round.ensures.text more c.loop.invariant

pub returns : goal.returns
returns c =
    let size = c.args.size in
    let shift = c.draw-shift.result in
    let g = c.draw-shift.new.rng in
    let rounded : string_bytes c.loop.text ≡ string_bytes c.write.new.self ++ rounds size shift 4 g =
    is_over (string_bytes c.loop.text) (rounds size shift (4 - c.loop.counter) c.loop.rng) _ (no_round size shift 4 c.loop.counter c.loop.rng (omega arith)) c.loop.invariant in
    let opened : string_bytes c.write.new.self ≡ opening = c.in_ok-write.ensures.bytes ∙ ap (λ s. s ++ opening) c.new-text.ensures.bytes in
    let closed : string_bytes c.write-2.new.self ≡ string_bytes c.loop.text ++ closing size = c.in_ok-write-2.ensures.bytes in
    let drawn : (shift, g) ≡ draw 1000 (seeded c.args.seed) = c.draw-shift.ensures.drawn ∙ ap (draw 1000) c.seed_from_u64-rng.ensures in
    closed ∙ ap (λ s. s ++ closing size) (rounded ∙ ap (λ s. s ++ rounds size shift 4 g) opened) ∙ append_assoc opening (rounds size shift 4 g) (closing size)
    ∙ ap (λ (p : ℕ × Lcg). opening ++ (rounds size p.0 4 p.1 ++ closing size)) drawn
