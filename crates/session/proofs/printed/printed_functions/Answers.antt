use Rattle.std.proofs.Common.{sym, ◌∙◌, arith}
use Rattle.smt_meaning.specs.Stack.{signature_of}
use Rattle.smt_meaning.specs.State.{printed_functions}
use Rattle.session.proofs.Prints.{function_more, function_less}
use Rattle.session.proofs.printed.printed_functions.Goals as goal
use Rattle.session.proofs.printed.printed_functions.Goals.{then-is_symbol+in_ok-printed_function+in_ok-push, else-is_symbol}

pub loop-declaration-preserved : goal.loop-declaration-preserved
loop-declaration-preserved c =
    let l = c.loop-declaration in
    let xs = c.declarations-declaration-items.result.now in
    let ds = signature_of c.args.stack.now.frames in
    let ts = c.args.tables.now in
    let same = c.declarations-declaration-items.ensures in
    let d = c.declaration-item.result in
    elim c.if-is_symbol.branch [
      | then-is_symbol+in_ok-printed_function+in_ok-push w ↦
          function_more ds xs ts l.declaration-index l.next c.if-is_symbol.next d w.index-tables-next.result w.in_ok-printed_function.field-0
          l.out c.if-is_symbol.out (printed_functions ds ds ts)
          same (omega arith) c.declaration-item.is (omega arith) w.index-tables-next.is (sym c.is_symbol.ensures ∙ w.if-is_symbol.true)
          w.in_ok-printed_function.ensures (w.out-is ∙ w.in_ok-push.ensures.ok) w.next-is l.invariant
      | else-is_symbol w ↦
          rw (w.out-is, w.next-is)
          (function_less ds xs ts l.declaration-index l.next d l.out (printed_functions ds ds ts)
          same (omega arith) c.declaration-item.is (omega arith) (sym c.is_symbol.ensures ∙ w.if-is_symbol.false) l.invariant)
    ]
