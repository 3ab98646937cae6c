use Rattle.std.proofs.Common.{nat_eq, take, All}
use Rattle.std.specs.HashMap.{get}
use Rattle.smt_meaning.specs.declared.clauses.Literal.{Literal}
use Rattle.proof_terms.specs.FormPairs.{IsOnPair}
use Rattle.proof_terms.proofs.form_pairs.are_on_pairs.Given as goal

abbrev pub invariant-loop-literal : goal.invariant-loop-literal
invariant-loop-literal l = All (λ (x : Literal). IsOnPair (get nat_eq l.fronts.place_of) (get nat_eq l.rears.place_of) l.count l.place x.atom) (take l.literal-index l.literals)
