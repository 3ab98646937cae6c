use Rattle.elaborate.specs.Judged.{scope_of, rules_of}
use Rattle.smt_meaning.specs.Sexp.{sexp}
use Rattle.smt_meaning.specs.Sorts.{judge}
use Rattle.std.proofs.Common.{[], true, sym, ap, append-nil, ◌∙◌}
use Rattle.elaborate.proofs.Runs.{cut_back}
use Rattle.term_store.specs.Terms.{Terms}
use Rattle.elaborate.proofs.Named.{term_cause}
use Rattle.elaborate.proofs.term.Goals as goal

pub returns-in-Err-clause-refused : goal.returns-in-Err-clause-refused
returns-in-Err-clause-refused c = term_cause (judge (rules_of (record { naming = c.args.naming; closed = true })) [] (sexp c.args.term.now)) (scope_of c.args.table.now c.args.store.now.trees) (scope_of c.judged.new.table c.judged.new.store.trees) c.in-Err.error c.in-Err.ensures.comes

pub returns-in-Err-clause-err : goal.returns-in-Err-clause-err
returns-in-Err-clause-err c = (c.cut_ids.ensures.restored c.args.table.now (sym c.ids-ids.ensures.value) (c.judged.ensures.gained c.args.table.now c.ids-ids.ensures.gained), cut_back c.args.store.now c.judged.new.store c.cut.new.self c.len-count.result c.judged.ensures.longer c.len-count.ensures.value c.cut.ensures)

pub returns-in-Err-clause-longer : goal.returns-in-Err-clause-longer
returns-in-Err-clause-longer c = ([], ap (λ (z : Terms). z.trees) (cut_back c.args.store.now c.judged.new.store c.cut.new.self c.len-count.result c.judged.ensures.longer c.len-count.ensures.value c.cut.ensures) ∙ sym (append-nil c.args.store.now.trees))
