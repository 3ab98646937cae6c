use Rattle.first_clauses.proofs.Deciding.{same_signature}
use Rattle.first_clauses.proofs.laws.signature_stays.Goals as goal

pub returns : goal.returns
returns c = same_signature c.flat_says_the_same.ensures
