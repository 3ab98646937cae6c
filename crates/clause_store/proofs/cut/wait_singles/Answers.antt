use Rattle.std.proofs.Common.{subst, sym, arith}
use Rattle.clause_store.specs.Empties.{all_filled}
use Rattle.clause_store.specs.From.{HasSingles}
use Rattle.clause_store.proofs.Fewer.{HasSingles-none}
use Rattle.clause_store.proofs.cut.wait_singles.Goals as goal

pub loop-i-init : goal.loop-i-init
loop-i-init c = record {
  singles = subst (HasSingles (all_filled c.args.rows.now.entries) 0) (sym c.requires.none) (HasSingles-none (all_filled c.args.rows.now.entries));
  room = omega arith;
}

pub returns-clause-singles : goal.returns-clause-singles
returns-clause-singles c = subst (λ n. HasSingles (all_filled c.args.rows.now.entries) n c.loop-i.waiting.items) (omega arith) c.loop-i.invariant.singles
