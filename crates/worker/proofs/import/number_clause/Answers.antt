use Rattle.std.proofs.Common.{◌≡◌, ◌<◌, map, length, All, ap, ◌∙◌}
use Rattle.literals.specs.Signed.{Signed}
use Rattle.first_clauses.specs.PartClausesFirst.{written_literal}
use Rattle.worker.proofs.Carried.{addable_here, of_some, pair_shown}
use Rattle.worker.proofs.import.number_clause.Goals as goal

pub returns-then-has_pair-clause-none : goal.returns-then-has_pair-clause-none
returns-then-has_pair-clause-none g c = λ few may.
    let table = (g.T.Theory.state c.args.theory.now).reading.table in
    pair_shown table c.deref.result.now c.args.clause.now.literals
    (ap (map (written_literal table)) c.deref.ensures.value
    ∙ (of_some (λ v. map (written_literal table) v.items ≡ c.as_slice.result.now) _ c.in-Some.literals c.in-Some.is c.in_ok-literals.ensures.same ∙ c.as_slice.ensures))
    c.if-has_pair.ensures may

pub returns-clause-addable : goal.returns-clause-addable
returns-clause-addable g c =
    let r = (g.T.Theory.state c.args.theory.now).reading in
    addable_here c.flat_says_the_same.ensures c.follows_as_written.ensures c.still_follows_above.ensures c.args.stack.now r c.args.clause.now c.in-Some.literals.items c.deref.result.now c.from_vec.result
    c.requires.heard c.requires.sound
    (of_some (λ v. map (written_literal r.table) v.items ≡ c.as_slice.result.now) _ c.in-Some.literals c.in-Some.is c.in_ok-literals.ensures.same ∙ c.as_slice.ensures)
    (of_some (λ v. All (λ (l : Signed). l.atom < length r.table) v.items) _ c.in-Some.literals c.in-Some.is c.in_ok-literals.ensures.within)
    c.if-has_pair.ensures c.deref.ensures.value c.from_vec.ensures
