use Rattle.theory_combine.proofs.judge.follow_told.Goals as goal

pub follow_xors-found-requires : goal.follow_xors-found-requires
follow_xors-found-requires c = record { setting = c.requires.setting; held = c.follow-found.ensures.keeps.held }

pub follow_differences-requires : goal.follow_differences-requires
follow_differences-requires c = record { setting = c.requires.setting; held = c.follow_xors-found.ensures.keeps.held }
