use Rattle.std.proofs.lemmas.Result.{err_from_is_err_and}
use Rattle.proof_check.specs.Checked.{without}
use Rattle.proof_check.specs.Folds.{IsOpen, get_proof}
use Rattle.proof_check.specs.Progress.{folded, past}
use Rattle.proof_check.proofs.Takings.{read_nothing, read_of, cut_by_memory}
use Rattle.proof_check.proofs.Foldings.{begins, unchecked_now, unproved_now, judged_now, cut_behind}
use Rattle.proof_check.proofs.checking.found.Goals as goal

pub returns-in_err-buf : goal.returns-in_err-buf
returns-in_err-buf g c =
    let e = err_from_is_err_and c.from_residual.result c.from_residual.ensures.1 in
    rw (e.1, e.2) (cut_by_memory c.args.budget _ _ IsOpen (read_nothing c.args.budget _))

pub returns-in_err-fold_commands : goal.returns-in_err-fold_commands
returns-in_err-fold_commands g c =
    let e = err_from_is_err_and c.from_residual-in_err-fold_commands.result c.from_residual-in_err-fold_commands.ensures.1 in
    let start = begins c.args.budget (g.S.Source.told c.args.source.now) c.new-session.result c.new-intake.result c.new-session.ensures c.new-intake.ensures.reader c.new-intake.ensures.calls in
    rw (e.1, e.2) (c.in_err-fold_commands.ensures.asked c.args.budget _ start)

pub returns-then-not-branch : goal.returns-then-not-branch
returns-then-not-branch g c =
    let start = begins c.args.budget (g.S.Source.told c.args.source.now) c.new-session.result c.new-intake.result c.new-session.ensures c.new-intake.ensures.reader c.new-intake.ensures.calls in
    let asked = rw c.if-not-branch.true at c.in_ok-fold_commands.ensures.asked in
    let h = asked c.args.budget _ start in
    (h.0, without h.1)

pub returns-in_default : goal.returns-in_default
returns-in_default g c =
    let start = begins c.args.budget (g.S.Source.told c.args.source.now) c.new-session.result c.new-intake.result c.new-session.ensures c.new-intake.ensures.reader c.new-intake.ensures.calls in
    let asked = rw c.if-not-branch.false at c.in_ok-fold_commands.ensures.asked in
    unchecked_now c.args.budget _ _ c.fold_commands.new.session c.fold_commands.new.intake (asked c.args.budget _ start) c.in_default.ensures.none

pub returns-in_err-proof : goal.returns-in_err-proof
returns-in_err-proof g c =
    let e = err_from_is_err_and c.from_residual-in_err-proof.result c.from_residual-in_err-proof.ensures.1 in
    let start = begins c.args.budget (g.S.Source.told c.args.source.now) c.new-session.result c.new-intake.result c.new-session.ensures c.new-intake.ensures.reader c.new-intake.ensures.calls in
    let asked = rw c.if-not-branch.false at c.in_ok-fold_commands.ensures.asked in
    let state = c.fold_commands.new.session in
    let check = c.in-Some.ensures.some in
    rw (e.1, e.2)
    (cut_behind c.args.budget _ _ state check.after_check _ c.next.new.self (c.in_err-proof.ensures.next c.args.budget _ (past (folded state) get_proof) (asked c.args.budget _ start)))

pub returns-in_default-2 : goal.returns-in_default-2
returns-in_default-2 g c =
    let start = begins c.args.budget (g.S.Source.told c.args.source.now) c.new-session.result c.new-intake.result c.new-session.ensures c.new-intake.ensures.reader c.new-intake.ensures.calls in
    let asked = rw c.if-not-branch.false at c.in_ok-fold_commands.ensures.asked in
    let state = c.fold_commands.new.session in
    let check = c.in-Some.ensures.some in
    let next = rw c.in_default-2.is at c.in_ok-proof.ensures.next in
    unproved_now c.args.budget _ _ state check.after_check c.next.new.self (next c.args.budget _ (past (folded state) get_proof) (asked c.args.budget _ start))

pub returns-in_err-judged : goal.returns-in_err-judged
returns-in_err-judged g c =
    let e = err_from_is_err_and c.from_residual-in_err-judged.result c.from_residual-in_err-judged.ensures.1 in
    let start = begins c.args.budget (g.S.Source.told c.args.source.now) c.new-session.result c.new-intake.result c.new-session.ensures c.new-intake.ensures.reader c.new-intake.ensures.calls in
    let asked = rw c.if-not-branch.false at c.in_ok-fold_commands.ensures.asked in
    let state = c.fold_commands.new.session in
    let next = rw c.in-Some-2.is at c.in_ok-proof.ensures.next in
    let n = next c.args.budget _ (past (folded state) get_proof) (asked c.args.budget _ start) in
    rw (e.1, e.2) (cut_by_memory c.args.budget _ _ IsOpen (read_of c.args.budget _ _ (past (past (folded state) get_proof) c.in-Some-2.proof) c.next.new.self n.1))

pub returns : goal.returns
returns g c =
    let start = begins c.args.budget (g.S.Source.told c.args.source.now) c.new-session.result c.new-intake.result c.new-session.ensures c.new-intake.ensures.reader c.new-intake.ensures.calls in
    let asked = rw c.if-not-branch.false at c.in_ok-fold_commands.ensures.asked in
    let state = c.fold_commands.new.session in
    let check = c.in-Some.ensures.some in
    let next = rw c.in-Some-2.is at c.in_ok-proof.ensures.next in
    judged_now c.args.budget _ _ state check.after_check c.next.new.self c.in-Some-2.proof c.in_ok-judged.field-0 (next c.args.budget _ (past (folded state) get_proof) (asked c.args.budget _ start)) (c.in_ok-judged.ensures state check)
