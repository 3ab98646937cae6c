use Rattle.std.proofs.Common.{subst}
use Rattle.std.specs.Int.{w128}
use Rattle.std.proofs.lemmas.Int.{to_z-of_z}
use Rattle.smt_meaning.specs.declared.clauses.Atom.TheVariants.{AtMost}
use Rattle.atom_form.specs.AtomTableNumbers.{IsAt}
use Rattle.order_clauses.proofs.Numbering.{number_of}
use Rattle.order_clauses.proofs.find.find_bound.Goals as goal

pub returns-in-Some-clause-found : goal.returns-in-Some-clause-found
returns-in-Some-clause-found c =
    number_of c.args.atoms.now.atoms c.in-Some.number (AtMost c.args.sum.now c.args.threshold) c.are_apart.ensures c.are_few.ensures
    (subst (λ z. IsAt c.args.atoms.now.atoms c.in-Some.number (AtMost c.args.sum.now z)) (to_z-of_z w128 c.args.threshold c.ranges.threshold) c.in-Some.ensures.some)
