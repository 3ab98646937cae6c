use Rattle.std.proofs.Common.{◌≡◌, ◌∙◌, ap, sym, nat_eq}
use Rattle.smt_meaning.specs.Stack.{depth}
use Rattle.smt_meaning.specs.StackCommand.{Stack}
use Rattle.scope_stack.specs.Inside.{frames_by}
use Rattle.scope_stack.proofs.StackLemmas.{set_keeps}
use Rattle.scope_stack.proofs.stack.ScopeStack.set_global.Goals as goal

pub invariant_of-self : goal.invariant_of-self
invariant_of-self c =
    let d : c.depth.result ≡ depth (frames_by c.self.inside.terms.trees c.self.inside.table.levels c.self.inside.asserted) = c.depth.ensures ∙ ap (λ (s : Stack). depth s.frames) (sym c.self.view_is) in
    record {
      stack = set_keeps c.args.global c.self.inside.global c.self.inside.table c.self.inside.terms c.self.inside.asserted (ap (λ n. nat_eq n 0) (sym d ∙ c.if-depth-eq0.true)) c.self.invariant.stack;
      facts = c.self.invariant.facts;
      levels = c.self.invariant.levels;
    }
