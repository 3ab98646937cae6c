use Rattle.simplex_steps.proofs.Next.{chosen, known_row, none_helps, entering_none}
use Rattle.simplex_steps.proofs.find.entering_variable.Goals as goal

pub first_helping-requires : goal.first_helping-requires
first_helping-requires c = known_row c.args.tableau.now c.args.columns.now c.args.place c.entries-entries.result.now c.facts.ensures c.requires.count c.requires.place c.entries-entries.ensures.value

pub returns-in-Some-clause-known : goal.returns-in-Some-clause-known
returns-in-Some-clause-known c =
    (chosen c.args.tableau.now c.args.columns.now c.args.place c.args.rises c.in-Some.i c.entries-entries.result.now c.index-entries-i.result c.facts.ensures c.requires.count c.requires.place c.entries-entries.ensures.value
    c.in-Some.ensures.some c.in-Some.ensures.helps c.in-Some.ensures.first).known

pub returns-in-Some-clause-entry : goal.returns-in-Some-clause-entry
returns-in-Some-clause-entry c =
    (chosen c.args.tableau.now c.args.columns.now c.args.place c.args.rises c.in-Some.i c.entries-entries.result.now c.index-entries-i.result c.facts.ensures c.requires.count c.requires.place c.entries-entries.ensures.value
    c.in-Some.ensures.some c.in-Some.ensures.helps c.in-Some.ensures.first).entry

pub returns-in-Some-clause-some : goal.returns-in-Some-clause-some
returns-in-Some-clause-some c =
    (chosen c.args.tableau.now c.args.columns.now c.args.place c.args.rises c.in-Some.i c.entries-entries.result.now c.index-entries-i.result c.facts.ensures c.requires.count c.requires.place c.entries-entries.ensures.value
    c.in-Some.ensures.some c.in-Some.ensures.helps c.in-Some.ensures.first).found

pub returns-in-None-clause-none : goal.returns-in-None-clause-none
returns-in-None-clause-none c =
    entering_none c.args.tableau.now c.args.columns.now c.args.place c.args.rises c.facts.ensures c.requires.place
    (none_helps c.args.tableau.now c.args.columns.now c.args.place c.args.rises c.entries-entries.result.now c.entries-entries.ensures.value c.in-None.ensures.none)

pub returns-in-None-clause-stopped : goal.returns-in-None-clause-stopped
returns-in-None-clause-stopped c =
    none_helps c.args.tableau.now c.args.columns.now c.args.place c.args.rises c.entries-entries.result.now c.entries-entries.ensures.value c.in-None.ensures.none
