use Rattle.std.proofs.Common.{arith, ◌++◌, ◌+◌, drop, string_bytes, slice_index}
use Rattle.script_gen.specs.Script.{facts, all_facts}
use Rattle.script_gen.proofs.Rounds.{goes_on, is_over, facts_written, facts_more, no_facts}
use Rattle.script_gen.proofs.round.assert_all.Goals as goal

pub loop-place-preserved : goal.loop-place-preserved
loop-place-preserved c =
    let j = c.loop-place.place in
    let vs = c.args.values.now in
    let ks = c.args.partners.now in
    let k = slice_index ks j in
    goes_on (string_bytes c.loop-place.text) (string_bytes c.choose.new.text) (facts c.args.shift j (slice_index vs j) k (slice_index vs j + slice_index vs k)) (all_facts c.args.shift vs (j + 1) (drop (j + 1) ks))
    (all_facts c.args.shift vs j (drop j ks)) (string_bytes c.args.text.now ++ all_facts c.args.shift vs 0 ks) (facts_written c.args.shift j (slice_index vs j) k (slice_index vs j + slice_index vs k) (string_bytes c.loop-place.text) (string_bytes c.bound.new.text) (string_bytes c.map.new.text) (string_bytes c.choose.new.text) c.in_ok-bound.ensures c.in_ok-map.ensures c.in_ok-choose.ensures) (facts_more c.args.shift vs j ks (omega arith)) c.loop-place.invariant

pub returns : goal.returns
returns c =
    let j = c.loop-place.place in
    is_over (string_bytes c.loop-place.text) (all_facts c.args.shift c.args.values.now j (drop j c.args.partners.now)) (string_bytes c.args.text.now ++ all_facts c.args.shift c.args.values.now 0 c.args.partners.now)
    (no_facts c.args.shift c.args.values.now j c.args.partners.now (omega arith)) c.loop-place.invariant
