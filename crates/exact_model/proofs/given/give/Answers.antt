use Rattle.std.proofs.Common.{◌≡◌, ◌+◌, length, List, subst, sym, rules}
use Rattle.model_build.specs.declared.given.Given.{Given}
use Rattle.exact_model.specs.Exact.{AllGiven}
use Rattle.exact_model.proofs.Heads.{given_pushed}
use Rattle.exact_model.proofs.given.give.Goals as goal

pub loop-place-preserved : goal.loop-place-preserved
loop-place-preserved c =
    let count : length c.push.new.self.items ≡ c.loop-place.place + 1 = search rules in
    record {
      count = count;
      each = subst (λ (gs : List Given). AllGiven c.args.listed.now.store.now.trees c.args.marks.now c.args.listed.now.values.now (c.loop-place.place + 1) gs) (sym c.in_ok-push.ensures.items)
          (given_pushed c.args.listed.now.store.now.trees c.args.marks.now c.args.listed.now.values.now c.loop-place.place c.loop-place.given.items c.in_ok-next.next c.loop-place.invariant.count
          c.loop-place.invariant.each c.in_ok-next.ensures);
    }
