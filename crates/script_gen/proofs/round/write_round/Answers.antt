use Rattle.std.proofs.Common.{string_bytes}
use Rattle.script_gen.proofs.Rounds.{round_written}
use Rattle.script_gen.proofs.round.write_round.Goals as goal

pub returns : goal.returns
returns c = round_written c.check.result c.args.shift c.args.values.now c.args.partners.now (string_bytes c.args.text.now) (string_bytes c.write.new.self) (string_bytes c.declare.new.text) (string_bytes c.assert_all.new.text) (string_bytes c.check.new.text)
    c.in_ok-write.ensures.bytes c.in_ok-declare.ensures c.in_ok-assert_all.ensures c.check.ensures
