use Rattle.std.proofs.Common.{List, map, ap}
use Rattle.smt_meaning.specs.declared.tokens.Token.TheVariants.{Reserved}
use Rattle.smt_meaning.specs.declared.refusals.Refusal.TheVariants.{UnknownSymbol}
use Rattle.smt_meaning.specs.Sexp.{Sexps}
use Rattle.smt_meaning.specs.Sorts.{Variable}
use Rattle.smt_laws.specs.Walk.{on_head}
use Rattle.look_ahead.specs.Ahead.{ahead}
use Rattle.elaborate.specs.Judged.{scope_of, rules_of}
use Rattle.elaborate.specs.Frames.{variable_at}
use Rattle.elaborate.proofs.Heads.{frame_err, let_comes, annotation_comes, head_reserved}
use Rattle.elaborate.proofs.head.word_head.Goals as goal

pub returns-in-Let : goal.returns-in-Let
returns-in-Let c = λ ts. let_comes (rules_of c.args.rules) (Reserved c.args.word) (ahead c.args.term.now c.args.place) (scope_of c.args.table.now ts) c.args.term.now c.args.bindings.now c.let_head.result (ap Reserved c.in-Let.is) c.let_head.ensures

pub returns-in-Exclamation : goal.returns-in-Exclamation
returns-in-Exclamation c = λ ts. annotation_comes (rules_of c.args.rules) (Reserved c.args.word) c.args.term.now c.args.place (scope_of c.args.table.now ts) c.args.bindings.now c.annotation_head.result (ap Reserved c.in-Exclamation.is) c.annotation_head.ensures

pub returns-in_default : goal.returns-in_default
returns-in_default c = λ ts.
    let vs : List Variable = map (variable_at ts) c.args.bindings.now in
    let inside : Sexps = ahead c.args.term.now c.args.place in
    frame_err (on_head (rules_of c.args.rules) vs (Reserved c.args.word) inside) (scope_of c.args.table.now ts) c.args.term.now c.args.bindings.now (UnknownSymbol (Reserved c.args.word)) c.unknown.result
    (head_reserved (rules_of c.args.rules) vs c.args.word inside (scope_of c.args.table.now ts) c.in_default.not-Let c.in_default.not-Exclamation) c.unknown.ensures
