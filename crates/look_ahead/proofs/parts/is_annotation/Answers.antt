use Rattle.look_ahead.proofs.PartLemmas.{annotated, not_annotated, nothing_annotated}
use Rattle.look_ahead.proofs.parts.is_annotation.Goals as goal

pub returns-in-None : goal.returns-in-None
returns-in-None c = nothing_annotated _ c.in-None.ensures

pub returns-in-None-skip : goal.returns-in-None-skip
returns-in-None-skip c = not_annotated _ c.in-Some.ensures.part _ c.in-Some.ensures.is c.in-None-skip.ensures

pub returns-in-Some-skip : goal.returns-in-Some-skip
returns-in-Some-skip c = annotated _ c.in-Some.ensures.part c.in-Some-skip.ensures.part _ _ c.may_follow.result c.in-Some.ensures.is c.in-Some-skip.ensures.is c.may_follow.ensures
