use Rattle.std.proofs.Common.{rules, ap, ◌∙◌}
use Rattle.std.specs.Prelude.{nat_lt}
use Rattle.std.proofs.lemmas.Fn.{filter_same}
use Rattle.smt_meaning.specs.declared.clauses.Clause.{Clause}
use Rattle.race_model.specs.Race.{clauses_below}
use Rattle.race_model.proofs.state.cut_own.Goals as goal

pub returns : goal.returns
returns c =
    c.from_vec.ensures
    ∙ (filter_same _ (λ (x : Clause). nat_lt x.level c.args.count) _ (λ x b f' k. search rules) _ _ c.retain.ensures.filtered
    ∙ ap (clauses_below c.args.count) (c.into_vec-clauses.ensures ∙ c.replace.ensures.value))
