use Rattle.std.proofs.Common.{arith}
use Rattle.point_closure.proofs.KeepsLemmas.{keeps_itself, keeps_more, done_step}
use Rattle.point_closure.proofs.GoingLemmas.{stands_done}
use Rattle.point_closure.specs.Whole.{state_of}
use Rattle.point_closure.proofs.closure.Closure.close.Goals as goal

pub pairs-init : goal.pairs-init
pairs-init c = record { whole = c.requires.whole; keeps = keeps_itself c.args.self.now; stands = c.requires.stands; done = λ k d less. absurd (omega arith) }

pub pairs-preserved : goal.pairs-preserved
pairs-preserved c = record {
  whole = c.take.ensures.whole;
  keeps = keeps_more c.args.self.now c.pairs.self c.take.new.self c.pairs.invariant.keeps c.take.ensures.keeps;
  stands = c.in_ok-take.ensures.stands;
  done = done_step c.pairs.self c.take.new.self c.pairs.head c.index-next.result.now (omega arith) c.index-next.ensures c.take.ensures.pending c.in_ok-take.ensures.united c.pairs.invariant.done;
}

pub returns-in_err-take-clause-keeps : goal.returns-in_err-take-clause-keeps
returns-in_err-take-clause-keeps c = keeps_more c.args.self.now c.pairs.self c.take.new.self c.pairs.invariant.keeps c.take.ensures.keeps

pub returns-clause-rest : goal.returns-clause-rest
returns-clause-rest c = stands_done c.pairs.self.graph c.pairs.self.steps.items (state_of c.pairs.self) c.pairs.self.pending.items (λ k d less. c.pairs.invariant.done k d (omega arith) less) c.pairs.invariant.stands
