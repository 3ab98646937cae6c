use Rattle.std.proofs.Common.{◌∙◌, ap, [], ◌∷◌, ◌++◌}
use Rattle.std.proofs.lemmas.List.{length-set}
use Rattle.std.specs.Prelude.{true}
use Rattle.simplex_steps.specs.Suspects.{Listing}
use Rattle.simplex_steps.proofs.SuspectLemmas.{added}
use Rattle.simplex_steps.proofs.suspects.Suspects.add.Goals as goal

pub returns-in_ok-push-clause-ok : goal.returns-in_ok-push-clause-ok
returns-in_ok-push-clause-ok c =
    added c.args.self.now _ c.args.variable (length-set c.self.inside.flags.items c.args.variable true ∙ ap (λ (s : Listing). s.count) c.self.view_is)
    (c.in_ok-push.ensures.items ∙ ap (λ (s : Listing). s.variables ++ c.args.variable ∷ []) c.self.view_is)
