use Rattle.std.proofs.Common.{arith, ◌≡◌, ◌++◌, ◌+◌, ◌-◌, string_bytes}
use Rattle.script_gen.specs.Script.{declaration, declarations}
use Rattle.script_gen.proofs.Rounds.{goes_on, is_over, declaration_more, no_declaration}
use Rattle.script_gen.proofs.round.declare.Goals as goal

pub loop-place-preserved : goal.loop-place-preserved
loop-place-preserved c =
    let k = c.loop-place.place-counter in
    let written : string_bytes c.write.new.self ≡ string_bytes c.loop-place.text ++ declaration k = c.in_ok-write.ensures.bytes in
    goes_on (string_bytes c.loop-place.text) (string_bytes c.write.new.self) (declaration k) (declarations (k + 1) (c.args.size - (k + 1))) (declarations k (c.args.size - k)) (string_bytes c.args.text.now ++ declarations 0 c.args.size)
    written (declaration_more c.args.size k (omega arith)) c.loop-place.invariant

pub returns : goal.returns
returns c =
    let k = c.loop-place.place-counter in
    is_over (string_bytes c.loop-place.text) (declarations k (c.args.size - k)) (string_bytes c.args.text.now ++ declarations 0 c.args.size)
    (no_declaration c.args.size k (omega arith)) c.loop-place.invariant
