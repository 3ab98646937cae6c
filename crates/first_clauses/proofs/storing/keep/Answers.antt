use Rattle.std.proofs.Common.{refl}
use Rattle.clause_store.specs.Stored.{Kept}
use Rattle.first_clauses.proofs.PartClausesKeeping.{begun_more, has}
use Rattle.first_clauses.proofs.storing.keep.Goals as goal

pub returns-clause-begun : goal.returns-clause-begun
returns-clause-begun c = λ q b k.
    let new : Kept = record { id = c.in_ok-_id._id; literals = c.args.literals.now; level = 0 } in
    begun_more q c.args.store.now c.add.new.self new c.in_ok-_id.ensures.added b k

pub returns-clause-has : goal.returns-clause-has
returns-clause-has c =
    let new : Kept = record { id = c.in_ok-_id._id; literals = c.args.literals.now; level = 0 } in
    has c.args.store.now c.add.new.self new c.args.literals.now c.in_ok-_id.ensures.added refl
