use Rattle.std.proofs.Common.{ap, ◌∙◌, pos}
use Rattle.std.proofs.lemmas.List.{get_or_default}
use Rattle.fraction128.specs.declared.Entry.{Entry}
use Rattle.fraction128.specs.Number.{whole}
use Rattle.tableau.specs.Rows.{entry}
use Rattle.tableau.proofs.Shape.{coefficient_found, found_nonzero, lacking_zero}
use Rattle.tableau.proofs.search.coefficient_in.Goals as goal

pub returns-in-Some-clause-some : goal.returns-in-Some-clause-some
returns-in-Some-clause-some c =
    ap (λ (e : Entry). e.coefficient) (get_or_default c.args.entries.now c.in-Some.i c.index-entries-i.result (entry 0 (whole (pos 0))) c.in-Some.ensures.some)
    ∙ coefficient_found c.args.entries.now c.in-Some.i c.args.variable c.requires.ascending c.in-Some.ensures.some c.in-Some.ensures.variable

pub returns-in-Some-clause-nonzero : goal.returns-in-Some-clause-nonzero
returns-in-Some-clause-nonzero c = found_nonzero c.args.entries.now c.in-Some.i c.index-entries-i.result c.requires.nonzero c.in-Some.ensures.some

pub returns-in-None-clause-zero : goal.returns-in-None-clause-zero
returns-in-None-clause-zero c = lacking_zero c.args.entries.now c.args.variable c.in-None.ensures.none
