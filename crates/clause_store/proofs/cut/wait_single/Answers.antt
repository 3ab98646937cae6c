use Rattle.std.proofs.Common.{◌≤◌, length, ◌∙◌, sym, refl, arith}
use Rattle.clause_store.specs.declared.waits.Wait.{Wait}
use Rattle.clause_store.specs.Empties.{all_filled}
use Rattle.clause_store.proofs.Empties.{filled_first, filled_second}
use Rattle.clause_store.proofs.Fewer.{HasSingles-push}
use Rattle.clause_store.proofs.Numbers.{few_wait}
use Rattle.clause_store.proofs.cut.wait_single.Goals as goal

pub push_wait-requires : goal.push_wait-requires
push_wait-requires c =
    let few : length c.args.waiting.now.items ≤ c.args.i = few_wait c.args.waiting.now.items c.args.i c.requires.singles.apart c.requires.singles.below in
    omega (arith, c.args.waiting.now.ok, c.requires.within, c.requires.room)

pub returns-then-is_single-clause-singles : goal.returns-then-is_single-clause-singles
returns-then-is_single-clause-singles c =
    let es = c.args.rows.now.entries in
    let w : Wait = record { row = c.args.i; literal = c.first-literal.result; depth = 0 } in
    let is = c.is_single.ensures.yes c.if-is_single.true in
    rw c.push_wait.ensures.items (HasSingles-push (all_filled es) c.args.i c.args.waiting.now.items w refl refl (c.first-literal.ensures ∙ sym (filled_first es c.args.i)) is.0
    (filled_first es c.args.i ∙ (is.1 ∙ sym (filled_second es c.args.i))) c.requires.singles)
