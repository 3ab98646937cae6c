use Rattle.proof_form.proofs.whole.judge.Goals as goal

pub judge_parts-requires-clause-lists : goal.judge_parts-requires-clause-lists
judge_parts-requires-clause-lists c = record { read = c.in-Some.ensures.some; terms = c.in-Some.ensures.within.0; steps = c.in-Some.ensures.within.1 }
