use Rattle.std.proofs.Common.{rules, ◌≡◌, map}
use Rattle.literals.specs.Signed.{opposite}
use Rattle.difference_logic.proofs.Clausing.{false_clause}
use Rattle.difference_logic.proofs.clause.broken.Goals as goal

pub returns : goal.returns
returns c = λ ds t known told all.
    let pushed : c.add_negations.new.clause.items ≡ map opposite c.args.literals.now = search rules in
    c.lemma_of.ensures.conflict ds t told
    (false_clause ds t.reading.trees c.args.atoms.now.atoms t.reading.table t.log c.args.literals.now c.add_negations.new.clause.items pushed known
    (c.is_cycle.ensures c.if-not-is_cycle.false) all)
