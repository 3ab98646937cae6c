use Rattle.std.proofs.Common.{map, ap, sym, subst}
use Rattle.smt_meaning.specs.Seen.{seen}
use Rattle.smt_laws.specs.Walk.{on_head}
use Rattle.look_ahead.specs.Ahead.{ahead}
use Rattle.elaborate.specs.Judged.{scope_of, rules_of}
use Rattle.elaborate.specs.Frames.{variable_at}
use Rattle.elaborate.specs.Steps.{FrameComes}
use Rattle.elaborate.proofs.Heads.{head_wrong}
use Rattle.elaborate.proofs.head.list_head.Goals as goal

pub returns-in-Symbol : goal.returns-in-Symbol
returns-in-Symbol c = λ ts.
    subst (λ t. FrameComes (on_head (rules_of c.args.rules) (map (variable_at ts) c.args.bindings.now) t (ahead c.args.term.now c.args.place)) (scope_of c.args.table.now ts) c.args.term.now c.args.bindings.now c.name_head.result) (sym (ap seen c.in-Symbol.is)) (c.name_head.ensures c.args.term.now (ahead c.args.term.now c.args.place) ts)

pub returns-in-Reserved : goal.returns-in-Reserved
returns-in-Reserved c = λ ts.
    subst (λ t. FrameComes (on_head (rules_of c.args.rules) (map (variable_at ts) c.args.bindings.now) t (ahead c.args.term.now c.args.place)) (scope_of c.args.table.now ts) c.args.term.now c.args.bindings.now c.word_head.result) (sym (ap seen c.in-Reserved.is)) (c.word_head.ensures ts)

pub returns-in_default : goal.returns-in_default
returns-in_default c = λ ts. head_wrong (rules_of c.args.rules) (map (variable_at ts) c.args.bindings.now) c.args.token (ahead c.args.term.now c.args.place) (scope_of c.args.table.now ts) c.in_default.not-Symbol c.in_default.not-Reserved
