use Rattle.std.proofs.Common.{take, map}
use Rattle.smt_meaning.specs.declared.clauses.Atom.TheVariants.{Truth}
use Rattle.proof_terms.specs.FormParts.{AreNumbersOf, Extends}
use Rattle.proof_terms.proofs.form_parts.number_truths.Given as goal

abbrev pub invariant-loop-place : goal.invariant-loop-place
invariant-loop-place l = Extends l.fn.clauses l.clauses × AreNumbersOf l.clauses.atoms l.numbers.items (map Truth (take l.place-index l.places))
