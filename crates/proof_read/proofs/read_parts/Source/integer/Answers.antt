use mir.Syntax.{w128}
use Rattle.std.proofs.lemmas.Int.{to_z-of_z}
use Rattle.proof_read.proofs.ReadIntegerLemmas.{takes_integer}
use Rattle.proof_read.proofs.read_parts.Source.integer.Goals as goal

pub returns-in_ok-digits-in-Word-clause-reads : goal.returns-in_ok-digits-in-Word-clause-reads
returns-in_ok-digits-in-Word-clause-reads c =
    rw (to_z-of_z w128 c.not_negative.result (record { sfits = c.not_negative.type_inv }))
    (takes_integer _ _ _ _ _ _ c.in_ok-digits-in-Word.ensures c.not_negative.ensures.place c.not_negative.ensures.notes)
