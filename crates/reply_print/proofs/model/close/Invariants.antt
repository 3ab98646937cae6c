use Rattle.std.proofs.Common.{◌≡◌, ◌++◌, ◌-◌, replicate}
use Rattle.reply_print.proofs.model.close.Given as goal

abbrev pub invariant-loop : goal.invariant-loop
invariant-loop l = l.out ++ replicate (l.count - l.counter) 41 ≡ l.initial.out ++ replicate l.count 41
