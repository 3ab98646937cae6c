use Rattle.std.proofs.Common.{◌∙◌, arith, sym}
use Rattle.std.proofs.lemmas.Result.{err_from_is_err_and}
use Rattle.proof_check.specs.Folds.{IsOpen}
use Rattle.proof_check.specs.Progress.{folded, past}
use Rattle.proof_check.proofs.Takings.{read_of, cut_by_memory, not_true}
use Rattle.proof_check.proofs.Foldings.{cut_before, exits_now, folds_on, unasked_now}
use Rattle.proof_check.proofs.folding.fold_commands.Goals as goal

pub returns-in_err-sexpr-clause-asked : goal.returns-in_err-sexpr-clause-asked
returns-in_err-sexpr-clause-asked g c =
    let e = err_from_is_err_and c.from_residual.result c.from_residual.ensures.1 in
    let state = c.loop-sexpr.session in
    rw (e.1, e.2)
    (λ budget first s. cut_before budget first _ state _ c.next.new.self c.next.new.self state (c.in_err-sexpr.ensures.next budget first (folded state) (c.loop-sexpr.invariant.so_far budget first s)))

pub returns-in_err-fold-clause-asked : goal.returns-in_err-fold-clause-asked
returns-in_err-fold-clause-asked g c =
    let e = err_from_is_err_and c.from_residual-in_err-fold.result c.from_residual-in_err-fold.ensures.1 in
    let state = c.loop-sexpr.session in
    let next = rw c.in-Some.is at c.in_ok-sexpr.ensures.next in
    rw (e.1, e.2)
    (λ budget first s.
    let n = next budget first (folded state) (c.loop-sexpr.invariant.so_far budget first s) in
    cut_by_memory budget first _ IsOpen (read_of budget first _ (past (folded state) c.in-Some.sexpr) c.next.new.self n.1))

pub returns-then-branch-clause-asked : goal.returns-then-branch-clause-asked
returns-then-branch-clause-asked g c budget first s =
    let state = c.loop-sexpr.session in
    let next = rw c.in-Some.is at c.in_ok-sexpr.ensures.next in
    let n = next budget first (folded state) (c.loop-sexpr.invariant.so_far budget first s) in
    exits_now budget first _ state c.next.new.self c.in-Some.sexpr n.0 n.1 c.fold.new.session (c.in_ok-fold.ensures.stop.0 c.if-branch.true)

pub loop-sexpr-preserved : goal.loop-sexpr-preserved
loop-sexpr-preserved g c = record {
  room = c.in_ok-sexpr.ensures.room;
  buffer = omega (arith, c.next.auto.buf, c.loop-sexpr.invariant.buffer);
  so_far = λ budget first s.
      let state = c.loop-sexpr.session in
      let next = rw c.in-Some.is at c.in_ok-sexpr.ensures.next in
      let n = next budget first (folded state) (c.loop-sexpr.invariant.so_far budget first s) in
      let reply = c.in_ok-fold.ensures.reply in
      folds_on budget first _ state c.next.new.self c.in-Some.sexpr n.0 n.1 c.fold.new.session
      (λ last. not_true (sym c.if-branch.false ∙ c.in_ok-fold.ensures.stop.1 last))
      (λ is. not_true (sym c.if-is_get_proof.false ∙ c.is_get_proof.ensures.1 is))
      reply.0 reply.1 reply.2;
}

pub returns-clause-asked : goal.returns-clause-asked
returns-clause-asked g c budget first s =
    let state = c.loop-sexpr.session in
    let next = rw c.in_default.is at c.in_ok-sexpr.ensures.next in
    unasked_now budget first _ state c.next.new.self c.next.new.self (next budget first (folded state) (c.loop-sexpr.invariant.so_far budget first s))
