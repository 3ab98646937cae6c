use Rattle.std.proofs.Common.{◌≡◌, ◌++◌, drop}
use Rattle.smt_meaning.specs.Text.{quotes_doubled}
use Rattle.reply_print.proofs.name.double_quotes.Given as goal

abbrev pub invariant-loop-byte : goal.invariant-loop-byte
invariant-loop-byte l = l.out ++ quotes_doubled (drop l.byte-index l.text) ≡ l.initial.out ++ quotes_doubled l.text
