use Rattle.std.proofs.Common.{take, subst, sym, ap, ◌∙◌}
use Rattle.std.proofs.lemmas.List.{take-map}
use Rattle.linear_forms.specs.Table.{AreForms}
use Rattle.linear_forms.specs.Entries.{known_of, knowns}
use Rattle.linear_forms.proofs.Growing.{cut_forms}
use Rattle.linear_forms.proofs.table.LinearForms.cut.Goals as goal

pub returns-clause-first : goal.returns-clause-first
returns-clause-first c =
    ap (knowns c.self.inside.summands.items) c.keep.ensures ∙ sym (take-map (known_of c.self.inside.summands.items) c.args.len c.self.inside.entries.items) ∙ ap (take c.args.len) c.self.view_is

pub returns-clause-forms : goal.returns-clause-forms
returns-clause-forms c = λ trees h.
    subst (AreForms (take c.args.len trees))
    (sym (ap (knowns c.self.inside.summands.items) c.keep.ensures ∙ sym (take-map (known_of c.self.inside.summands.items) c.args.len c.self.inside.entries.items) ∙ ap (take c.args.len) c.self.view_is))
    (cut_forms trees c.args.self.now c.args.len h)
