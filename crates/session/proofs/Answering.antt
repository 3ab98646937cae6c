-- How an s-expression is answered.
use Rattle.std.proofs.Common.{◌≡◌, List, Result, Ok, Err, refl, subst, IfOk}
use Rattle.std.specs.declared.alloc.AllocError.{AllocError}
use Rattle.smt_meaning.specs.declared.tokens.Token.{Token}
use Rattle.smt_meaning.specs.declared.commands.Command.{Command}
use Rattle.smt_meaning.specs.declared.errors.Error.{Error}
use Rattle.smt_meaning.specs.declared.answers.Reply.TheVariants as Given
use Rattle.smt_meaning.specs.declared.replies.Kept.TheVariants.{Nothing}
use Rattle.smt_meaning.specs.Sexp.{sexp}
use Rattle.smt_meaning.specs.Command.{command}
use Rattle.smt_meaning.specs.State.{State}
use Rattle.smt_meaning.specs.MayReply.{MayReply, MayReplyTo, Replies}
use Rattle.session.specs.declared.state.Done.{Done}
use Rattle.session.specs.Taken.{every_stack}

module _ (old : State) (ts : List Token) where
  -- by what the command comes to
  pub replied : (new : State) (c : Command) (r : Result Done AllocError) → Ok c ≡ command (sexp ts)
      → IfOk r (λ d. MayReply every_stack old c d.reply d.kept new) → IfOk r (λ d. Replies every_stack old ts d.reply d.kept new)
  unfolding Replies
  replied new c (Ok d) is may = subst (λ x. MayReplyTo every_stack old x d.reply d.kept new) is may
  replied new c (Err e) is may = may

  -- by the error, where it is no command
  pub refused : (e : Error) → Err e ≡ command (sexp ts) → Replies every_stack old ts (Given.Error e) Nothing old
  unfolding Replies
  refused e is = subst (λ x. MayReplyTo every_stack old x (Given.Error e) Nothing old) is (record { reply_is = refl; kept_is = refl; new_is = refl })
