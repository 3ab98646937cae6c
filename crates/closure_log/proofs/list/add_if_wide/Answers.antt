use Rattle.std.proofs.Common.{◌+◌, ℕ, List, sym, subst}
use Rattle.closure_log.specs.Parts.{AreWideXorsBelow}
use Rattle.closure_log.proofs.Wide.{added, left_out}
use Rattle.closure_log.proofs.list.add_if_wide.Goals as goal

pub returns-in_ok-push : goal.returns-in_ok-push
returns-in_ok-push c = λ h.
    subst (λ (ps : List ℕ). AreWideXorsBelow c.args.stack.now.trees c.args.marks.now (c.args.place + 1) ps) (sym c.in_ok-push.ensures.items)
    (added c.args.stack.now.trees c.args.marks.now c.args.place c.args.parts.now.items h)

pub returns-else-is_marked_xor : goal.returns-else-is_marked_xor
returns-else-is_marked_xor c = λ h.
    left_out c.args.stack.now.trees c.args.marks.now c.args.place c.args.parts.now.items (λ is m x. c.is_marked_xor.ensures c.if-is_marked_xor.false is m x) h
