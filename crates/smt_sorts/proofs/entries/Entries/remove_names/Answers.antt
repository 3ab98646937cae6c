use Rattle.std.proofs.Common.{◌≡◌, rules, arith, length, ap, ◌∙◌}
use Rattle.std.specs.Prelude.{filter}
use Rattle.std.proofs.lemmas.Fn.{filter_same}
use Rattle.smt_meaning.specs.Stack.{stays}
use Rattle.smt_sorts.specs.Listed.{Listed}
use Rattle.smt_sorts.proofs.ListedLemmas.{IsListed-names}
use Rattle.smt_sorts.proofs.entries.Entries.remove_names.Goals as goal

pub invariant_of-self : goal.invariant_of-self
invariant_of-self c =
    let kept : c.retain.new.self.items ≡ filter stays c.self.inside.declarations.items = filter_same _ stays _ (λ x b f' k. search rules) _ _ c.retain.ensures.filtered in
    let few = rw (c.deref.ensures.value, kept) at c.file-self-inside.ensures.within in
    let hashed = rw (c.deref.ensures.value, kept) at c.file-self-inside.ensures.hashed in
    rw (kept, c.truncate.ensures.items)
    (IsListed-names c.self.inside.declarations.items c.self.inside.levels.items c.self.inside.index c.file-self-inside.new.index c.self.inside.indexed c.file-self-inside.result c.len.result c.self.invariant (grind (arith, ap length kept)) few hashed)

pub returns-clause-declarations : goal.returns-clause-declarations
returns-clause-declarations c =
    let kept : c.retain.new.self.items ≡ filter stays c.self.inside.declarations.items = filter_same _ stays _ (λ x b f' k. search rules) _ _ c.retain.ensures.filtered in
    kept ∙ ap (λ (a : Listed). filter stays a.declarations) c.self.view_is
