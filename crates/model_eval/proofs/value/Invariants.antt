use Rattle.model_eval.proofs.value.Given as goal

abbrev pub ghosts-value_from : goal.ghosts-value_from
ghosts-value_from a = record { name = a.blank.name; parts = a.blank.parts }
