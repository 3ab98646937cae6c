use Rattle.linear_forms.proofs.table.LinearForms.cover.Given as goal

abbrev pub ghosts-cover_from : goal.ghosts-cover_from
ghosts-cover_from a = record { name = a.blank.name; parts = a.blank.parts }
