use Rattle.std.proofs.Common.{◌≡◌, ◌∙◌, length, replicate, false, sym, ap, arith}
use Rattle.std.proofs.lemmas.List.{length-replicate}
use Rattle.std.proofs.lemmas.Grind.{common_steps}
use Rattle.model_eval.proofs.marks.parts_of.Goals as goal

pub mark-requires-clause-fresh : goal.mark-requires-clause-fresh
mark-requires-clause-fresh c =
    let e : c.resize.new.self.items ≡ replicate c.top_of.result false = grind (arith, common_steps) in
    let f : c.deref_mut.result.now ≡ replicate c.top_of.result false = c.deref_mut.ensures.value ∙ e in
    f ∙ ap (λ n. replicate n false) (sym (ap length f ∙ length-replicate c.top_of.result false))

pub mark-requires-clause-within : goal.mark-requires-clause-within
mark-requires-clause-within c =
    let e : c.resize.new.self.items ≡ replicate c.top_of.result false = grind (arith, common_steps) in
    let size : length c.deref_mut.result.now ≡ c.top_of.result = ap length (c.deref_mut.ensures.value ∙ e) ∙ length-replicate c.top_of.result false in
    let least = c.top_of.ensures.least (length c.args.store.now.trees) c.requires in
    omega arith

pub returns-clause-within : goal.returns-clause-within
returns-clause-within c =
    let e : c.resize.new.self.items ≡ replicate c.top_of.result false = grind (arith, common_steps) in
    let size : length c.deref_mut.result.now ≡ c.top_of.result = ap length (c.deref_mut.ensures.value ∙ e) ∙ length-replicate c.top_of.result false in
    let least = c.top_of.ensures.least (length c.args.store.now.trees) c.requires in
    let marked = c.mark.ensures.size in
    grind (arith, common_steps)

pub returns-clause-least : goal.returns-clause-least
returns-clause-least c n h =
    let e : c.resize.new.self.items ≡ replicate c.top_of.result false = grind (arith, common_steps) in
    let size : length c.deref_mut.result.now ≡ c.top_of.result = ap length (c.deref_mut.ensures.value ∙ e) ∙ length-replicate c.top_of.result false in
    let least = c.top_of.ensures.least n h in
    let marked = c.mark.ensures.size in
    grind (arith, common_steps)
