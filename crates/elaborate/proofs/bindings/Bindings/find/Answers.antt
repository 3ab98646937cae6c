use Rattle.std.proofs.Common.{◌≡◌, List, Some, get_or, sym, ap, ◌∙◌}
use Rattle.std.specs.Prelude.{reverse}
use Rattle.elaborate.specs.declared.frame.Binding.{Binding}
use Rattle.elaborate.specs.Frames.{find_value}
use Rattle.elaborate.proofs.FiledLemmas.{bound_newest, bound_never}
use Rattle.elaborate.proofs.bindings.Bindings.find.Goals as goal

pub returns-in-Some : goal.returns-in-Some
returns-in-Some c =
    let here : Some c.index.result.now.value ≡ Some (get_or c.self.inside.items.items c.in-Some.place c.index.result.now).value = ap (λ (b : Binding). Some b.value) c.index.ensures in
    let there : Some (get_or c.self.inside.items.items c.in-Some.place c.index.result.now).value ≡ Some (get_or c.deref.result.now c.in-Some.place c.index.result.now).value =
    ap (λ (bs : List Binding). Some (get_or bs c.in-Some.place c.index.result.now).value) (sym c.deref.ensures.value) in
    here ∙ there ∙ bound_newest c.args.name.now c.deref.result.now c.in-Some.place c.index.result.now c.in-Some.ensures.some
    ∙ ap (λ bs. find_value c.args.name.now (reverse bs)) c.deref.ensures.value ∙ ap (find_value c.args.name.now) c.self.view_is

pub returns-in-None : goal.returns-in-None
returns-in-None c =
    bound_never c.args.name.now c.deref.result.now c.in-None.ensures.none ∙ ap (λ bs. find_value c.args.name.now (reverse bs)) c.deref.ensures.value
    ∙ ap (find_value c.args.name.now) c.self.view_is
