use Rattle.std.proofs.Common.{◌≡◌, true, take}
use Rattle.proof_meaning.specs.Rules.{along}
use Rattle.proof_terms.specs.Range.{neighbours_fit}
use Rattle.proof_terms.specs.FormParts.{AreNumbersOf, Extends, relation_atom, relation_fits}
use Rattle.proof_terms.proofs.form_parts.number_neighbours.Given as goal

abbrev pub invariant-loop-place : goal.invariant-loop-place
invariant-loop-place l =
    (l.terms ≡ l.fn.terms) × Extends l.fn.clauses l.clauses
    × AreNumbersOf l.clauses.atoms l.numbers.items (along (relation_atom l.fn.terms.trees l.relation) (take l.place l.arguments))
    × (neighbours_fit (relation_fits l.fn.terms.trees l.relation) (take l.place l.arguments) ≡ true)
