use Rattle.std.proofs.Common.{◌+◌, arith}
use Rattle.look_ahead.proofs.PartLemmas.{word_here}
use Rattle.proof_read.proofs.read_parts.Source.part_at.Goals as goal

pub returns-in_default : goal.returns-in_default
returns-in_default c =
    (omega arith, word_here c.args.self.now.proof.now c.args.place c.token.result c.token.ensures.rest (c.requires.inside (c.args.place + 1)) c.in_default.not-Enter c.in_default.not-Leave)
