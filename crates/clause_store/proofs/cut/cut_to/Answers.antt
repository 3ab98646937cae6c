use Rattle.std.proofs.Common.{◌≡◌, ℕ, nat_lt, int_le, pos, w32}
use Rattle.std.proofs.lemmas.Int.{to_z-of_z}
use Rattle.clause_store.proofs.Fewer.{Fewer-cut, kept_from-cut}
use Rattle.clause_store.proofs.cut.cut_to.Goals as goal

pub returns-clause-fewer : goal.returns-clause-fewer
returns-clause-fewer c = Fewer-cut c.bound.result c.args.rows.now.entries c.cut_rows.new.rows.entries c.cut_rows.ensures.cut

pub returns-clause-clauses : goal.returns-clause-clauses
returns-clause-clauses c =
    let below : (n : ℕ) → nat_lt n c.bound.result ≡ int_le (pos n) c.args.level = rw (to_z-of_z w32 c.args.level c.ranges.level) at c.bound.ensures in
    kept_from-cut c.bound.result c.args.level c.args.rows.now.entries c.cut_rows.new.rows.entries below c.cut_rows.ensures.cut
