use Rattle.std.proofs.Common.{length}
use Rattle.worker.proofs.Carried.{numbered_more, within_more}
use Rattle.worker.proofs.import.number_literals.Goals as goal

pub loop-literal-preserved : goal.loop-literal-preserved
loop-literal-preserved g c =
    let table = (g.T.Theory.state c.args.theory.now).reading.table in
    record {
      same = numbered_more table c.loop-literal.numbers.items c.push.new.self.items c.new.result c.in-Some.number c.args.literals.now c.loop-literal.literal-index c.literal-item.result c.loop-literal-test.true
          c.literal-item.is c.in_ok-push.ensures.items c.new.ensures c.in-Some.ensures.some.1 c.loop-literal.invariant.same;
      within = within_more (length table) c.loop-literal.numbers.items c.push.new.self.items c.new.result c.in-Some.number c.literal-item.result.positive c.in_ok-push.ensures.items c.new.ensures
          c.in-Some.ensures.some.0 c.loop-literal.invariant.within;
    }
