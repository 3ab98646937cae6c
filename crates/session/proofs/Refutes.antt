-- What is known once a check is answered by unsat.
use Rattle.std.proofs.Common.{◌≡◌, ℕ, ℤ, List, sym, subst, append-nil}
use Rattle.smt_meaning.specs.declared.answers.Mode.{Mode}
use Rattle.smt_meaning.specs.Stack.{HasNoModel}
use Rattle.smt_meaning.specs.StackCommand.{Stack}
use Rattle.scope_stack.specs.declared.answers.Assertion.{Assertion}
use Rattle.goal_search.specs.declared.answer.Answer.{Answer}
use Rattle.goal_search.specs.Assumed.{IsRefutedUnder}
use Rattle.goal_search.specs.Checked.{IsChecked, WhereUnsat}
use Rattle.goal_search.proofs.Answered.{where_unsat}
use Rattle.session.specs.declared.above.Above.TheVariants.{Nothing, Assumed}
use Rattle.session.specs.Refuted.{IsRefuted}

alone_refuted : (old new : Stack) → new ≡ old → HasNoModel old.frames → IsRefuted new Nothing
alone_refuted old new e h = subst (λ (s : Stack). IsRefuted s Nothing) (sym e) (record { none = subst HasNoModel (sym (append-nil old.frames)) h; again = tt })

pub check_refutes : (workers : ℕ) (limit : ℤ) (old new : Stack) (a : Answer) → IsChecked workers limit old a → new ≡ old → WhereUnsat a.mode (IsRefuted new Nothing)
check_refutes workers limit old new a k e = where_unsat a.mode (HasNoModel old.frames) (IsRefuted new Nothing) (alone_refuted old new e) k.refuted

pub under_refutes : (m : Mode) (s : Stack) (xs : List Assertion) → WhereUnsat m (IsRefutedUnder s xs) → WhereUnsat m (IsRefuted s (Assumed xs))
under_refutes m s xs h = where_unsat m (IsRefutedUnder s xs) (IsRefuted s (Assumed xs)) (λ k. record { none = k.none; again = k.again }) h
