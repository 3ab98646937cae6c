use Rattle.search_port.proofs.Written.{written-follows, follows-written}
use Rattle.search_port.proofs.follows_as_written.Goals as goal

pub returns : goal.returns
returns c = λ r level ls. (written-follows r level ls, follows-written r level ls)
