use Rattle.atom_form.specs.Compact.{atom_of}
use Rattle.order_clauses.proofs.Numbering.{number_of}
use Rattle.order_clauses.proofs.find.find.Goals as goal

pub returns-in-Some-clause-found : goal.returns-in-Some-clause-found
returns-in-Some-clause-found c = number_of c.args.atoms.now.atoms c.in-Some.number (atom_of c.args.atom) c.are_apart.ensures c.are_few.ensures c.in-Some.ensures.some
