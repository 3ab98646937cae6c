use Rattle.std.proofs.Common.{rules}
use Rattle.proof_terms.proofs.terms_held.held_place.Goals as goal

pub find_meant-requires : goal.find_meant-requires
find_meant-requires c = record { complete = c.requires.complete; arguments = search rules }
