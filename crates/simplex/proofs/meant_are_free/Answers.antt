use Rattle.simplex.proofs.Free as Free
use Rattle.simplex.proofs.meant_are_free.Goals as goal

pub returns : goal.returns
returns c = Free.meant_are_free
