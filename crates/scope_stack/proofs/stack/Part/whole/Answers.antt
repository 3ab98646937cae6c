use Rattle.std.proofs.Common.{◌∙◌, ap, ap₂, sym}
use Rattle.smt_meaning.specs.StackCommand.{Stack}
use Rattle.scope_stack.specs.Inside.{stack_by}
use Rattle.scope_stack.proofs.SeenLemmas.{kept_again_by, names_again}
use Rattle.scope_stack.proofs.stack.Part.whole.Goals as goal

pub invariant_of-result : goal.invariant_of-result
invariant_of-result c =
    kept_again_by c.stack.inside.table c.stack.inside.terms.trees c.stack.inside.asserted c.self.inside.stack c.self.inside.terms c.self.inside.asserted c.self.inside.facts.sorts.items
    c.self.inside.facts.levels.items c.stack.view_is c.self.invariant

pub returns : goal.returns
returns c =
    ap₂ (λ b n. stack_by b n c.self.inside.terms.trees c.self.inside.asserted) (ap (λ (s : Stack). s.global) c.stack.view_is)
    (sym (names_again c.stack.inside.table c.stack.inside.terms.trees c.stack.inside.asserted c.self.inside.stack c.stack.view_is))
    ∙ c.self.view_is
