use Rattle.std.proofs.Common.{◌∙◌, ℕ, List, length, refl, sym, ap, subst}
use Rattle.closure_log.specs.Places.{ArePlaces}
use Rattle.theory_combine.proofs.held.follow.Goals as goal

pub returns-clause-keeps : goal.returns-clause-keeps
returns-clause-keeps c =
    let h = c.requires.held in
    let same = c.infer.ensures.places in
    record {
      held = record {
        told = h.told;
        knows = h.knows;
        same = h.same;
        size = ap (λ (places : List ℕ). length places) same ∙ h.size;
        told_at = subst (ArePlaces c.args.held.now.closure.log.items) (sym same) h.told_at;
        columns = h.columns;
      };
      log = refl;
      bounds = refl;
    }
