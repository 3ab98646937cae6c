use Rattle.std.proofs.Common.{◌≡◌, ◌∙◌, ap, sym, subst, List, length}
use Rattle.smt_meaning.specs.Stack.{assertions_of}
use Rattle.smt_meaning.specs.StackCommand.{Stack}
use Rattle.smt_sorts.specs.Names.{Names}
use Rattle.scope_stack.specs.declared.answers.Assertion.{Assertion}
use Rattle.scope_stack.specs.Inside.{stack_by}
use Rattle.scope_stack.specs.Seen.{IsSeen}
use Rattle.scope_stack.specs.Trials.{Trial, marks, kept_levels, IsThinned}
use Rattle.scope_stack.proofs.SeenLemmas.{names_back}
use Rattle.scope_stack.proofs.ThinLemmas.{marked_levels, seen_of_kept_levels, thinned_levels}
use Rattle.scope_stack.proofs.trial.Trial.thinned.Goals as goal

pub kept-requires : goal.kept-requires
kept-requires c =
    ap length c.deref.ensures.value
    ∙ marked_levels c.stack.inside.table c.stack.inside.terms c.stack.inside.asserted c.stack.inside.facts.sorts.items c.stack.inside.facts.levels.items c.self.inside.kept.items c.stack.invariant
    (c.self.invariant ∙ ap (λ (s : Stack). length (assertions_of s.frames)) (sym c.stack.view_is))

pub invariant_of-stack : goal.invariant_of-stack
invariant_of-stack c =
    let same : c.in-Ok.fewer ≡ kept_levels (marks c.self.inside.kept.items) 0 c.stack.inside.asserted = c.in-Ok.ensures ∙ ap (λ ks. kept_levels (marks ks) 0 c.stack.inside.asserted) c.deref.ensures.value in
    subst (λ (yss : List (List Assertion)). IsSeen c.stack.inside.global c.stack.inside.table c.stack.inside.terms yss c.stack.inside.facts.sorts.items c.stack.inside.facts.levels.items) (sym same)
    (seen_of_kept_levels c.stack.inside.table c.stack.inside.terms c.stack.inside.asserted c.stack.inside.facts.sorts.items c.stack.inside.facts.levels.items c.self.inside.kept.items c.stack.invariant)

pub invariant_of-result : goal.invariant_of-result
invariant_of-result c =
    let same : c.in-Ok.fewer ≡ kept_levels (marks c.self.inside.kept.items) 0 c.stack.inside.asserted = c.in-Ok.ensures ∙ ap (λ ks. kept_levels (marks ks) 0 c.stack.inside.asserted) c.deref.ensures.value in
    subst (λ (yss : List (List Assertion)). IsThinned (stack_by c.stack.inside.global c.stack.inside.table c.stack.inside.terms.trees yss) c.stack.inside.asserted c.self.inside.kept.items) (sym same)
    (thinned_levels c.stack.inside.table c.stack.inside.terms c.stack.inside.asserted c.stack.inside.facts.sorts.items c.stack.inside.facts.levels.items c.self.inside.kept.items c.stack.invariant
    (marked_levels c.stack.inside.table c.stack.inside.terms c.stack.inside.asserted c.stack.inside.facts.sorts.items c.stack.inside.facts.levels.items c.self.inside.kept.items c.stack.invariant
    (c.self.invariant ∙ ap (λ (s : Stack). length (assertions_of s.frames)) (sym c.stack.view_is))))

pub returns-in-Ok-clause-ok : goal.returns-in-Ok-clause-ok
returns-in-Ok-clause-ok c =
    ap (λ (n : Names). the_trial (stack_by c.stack.inside.global n c.stack.inside.terms.trees c.stack.inside.asserted)) (names_back c.stack.inside.global c.stack.inside.table c.stack.inside.terms.trees c.in-Ok.fewer)
    ∙ ap the_trial c.stack.view_is
    ∙ c.self.view_is
  where
    the_trial : Stack → Trial
    the_trial s = record { stack = s; kept = c.self.inside.kept.items }
