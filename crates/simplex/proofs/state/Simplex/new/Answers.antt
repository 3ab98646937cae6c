use Rattle.simplex.proofs.WatchLemmas.{watched_none}
use Rattle.simplex.proofs.state.Simplex.new.Goals as goal

pub invariant_of-result : goal.invariant_of-result
invariant_of-result c = rw (c.new.ensures, c.new-2.ensures.items, c.new-4.ensures, c.new-5.ensures) watched_none
