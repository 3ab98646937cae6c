use Rattle.model_eval.proofs.values.Given as goal

abbrev pub ghosts-values_from : goal.ghosts-values_from
ghosts-values_from a = record { name = a.blank.name; parts = a.blank.parts }
