use Rattle.std.proofs.Common.{List, All, refl, sym, ◌∙◌, subst}
use Rattle.std.proofs.lemmas.List.Elements.{All-push}
use Rattle.point_closure.specs.declared.pending.Pending.{Pending}
use Rattle.point_closure.specs.Sound.{IsPending}
use Rattle.point_closure.specs.Whole.{state_of}
use Rattle.point_closure.proofs.SoundLemmas.{All_none}
use Rattle.point_closure.proofs.StateLemmas.{grows_itself}
use Rattle.point_closure.proofs.closure.Closure.start.Goals as goal

pub returns-clause-whole : goal.returns-clause-whole
returns-clause-whole c =
    let s = c.args.self.now in
    let w = c.requires.whole in
    record {
      sized = record { points = w.sized.points; weights = w.sized.weights; use_lists = w.sized.use_lists; watch_lists = w.sized.watch_lists };
      pending = subst (λ (xs : List Pending). All (IsPending s.graph s.classes.unions s.steps.items) xs) (sym c.in_ok-push.ensures.items)
          (All-push (IsPending s.graph s.classes.unions s.steps.items) c.clear.new.self.items c.args.pending (All_none (IsPending s.graph s.classes.unions s.steps.items) c.clear.new.self.items c.clear.ensures.items) c.requires.pending);
      parts = w.parts;
    }

pub returns-in_err-push-clause-whole : goal.returns-in_err-push-clause-whole
returns-in_err-push-clause-whole c =
    let s = c.args.self.now in
    let w = c.requires.whole in
    record {
      sized = record { points = w.sized.points; weights = w.sized.weights; use_lists = w.sized.use_lists; watch_lists = w.sized.watch_lists };
      pending = All_none (IsPending s.graph s.classes.unions s.steps.items) c.push.new.self.items (c.in_err-push.ensures.items ∙ c.clear.ensures.items);
      parts = w.parts;
    }

pub returns-clause-keeps : goal.returns-clause-keeps
returns-clause-keeps c = record { graph = refl; steps = refl; marks = refl; grows = grows_itself (state_of c.args.self.now) }

pub returns-in_err-push-clause-keeps : goal.returns-in_err-push-clause-keeps
returns-in_err-push-clause-keeps c = record { graph = refl; steps = refl; marks = refl; grows = grows_itself (state_of c.args.self.now) }
