use Rattle.look_ahead.proofs.FreeLemmas.{binding_right, binding_wrong}
use Rattle.look_ahead.proofs.free.look_through_bindings.Goals as goal

pub returns-in_ok-push-in-List-2 : goal.returns-in_ok-push-in-List-2
returns-in_ok-push-in-List-2 c =
    binding_right c.args.term.now c.args.place c.in-Some.bound c.in-List.close c.args.jobs.now.items c.push-in-List.new.self.items _ c.in-List.ensures.is c.in-Some.ensures c.in_ok-push-in-List.ensures.items c.in_ok-push-in-List-2.ensures.items

pub returns-in_default : goal.returns-in_default
returns-in_default c = binding_wrong c.args.term.now c.args.place c.in-List.close c.args.jobs.now.items _ c.in-List.ensures.is c.in_default.ensures c.in_ok-push-in-List.ensures.items
