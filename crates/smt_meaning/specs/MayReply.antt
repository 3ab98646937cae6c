-- Which replies a command may get, and what it leaves (SMT-LIB 2.6, sections 4.1 and 4.2).
use Rattle.std.specs.Prelude.{◌≡◌, Bool, List, Result, Ok, Err, MatchBool, if◌then◌else◌}
use Rattle.smt_meaning.specs.declared.tokens.Token.{Token}
use Rattle.smt_meaning.specs.declared.values.Table.{Table}
use Rattle.smt_meaning.specs.declared.errors.Error.{Error}
use Rattle.smt_meaning.specs.declared.commands.Command.{Command}
use Rattle.smt_meaning.specs.declared.answers.Mode.TheVariants as In
use Rattle.smt_meaning.specs.declared.answers.Reply.{Reply}
use Rattle.smt_meaning.specs.declared.answers.Reply.TheVariants as Given
use Rattle.smt_meaning.specs.declared.replies.Kept.{Kept}
use Rattle.smt_meaning.specs.declared.replies.Kept.TheVariants.{Nothing, Model, Reports, Core, Best as KeptBest}
use Rattle.smt_meaning.specs.declared.replies.Held.{Held}
use Rattle.smt_meaning.specs.declared.replies.Best.{Best}
use Rattle.smt_meaning.specs.declared.reports.Report.{Report}
use Rattle.smt_meaning.specs.Term.{Tree}
use Rattle.smt_meaning.specs.Stack.{Frame, HasNoModel}
use Rattle.smt_meaning.specs.Report.{AreReports, reason_of}
use Rattle.smt_meaning.specs.Sexp.{sexp}
use Rattle.smt_meaning.specs.Command.{command}
use Rattle.smt_meaning.specs.State.{State, Candidates, checked_frames, Effect, denied, left_out, accepted, answered, checked, minimizes, reduces, effect}
pub use Rattle.smt_meaning.specs.Model.{Fits, IsModel}
use Rattle.smt_meaning.specs.Core.{IsCore, core_reply}
use Rattle.smt_meaning.specs.Least.{IsMinimum, IsBest}

-- the stacks of which checks are decided
abbrev pub Decided : Type 0
Decided = List Frame → Bool

-- what may be answered to a check that is decided: of the stack's levels, and that of the assumptions above them
abbrev pub MayDecide : State → Reply → Kept → State → Type 0
MayDecide s Given.Sat kept new = (i : List Table) × (kept ≡ Model i) × IsModel (checked_frames s) i × (new ≡ record s { mode = In.Sat i })
MayDecide s Given.Unsat kept new = (kept ≡ Nothing) × HasNoModel (checked_frames s) × (new ≡ record s { mode = In.Unsat })
MayDecide s Given.Unknown kept new =
    (rs : List Report) × (kept ≡ Reports rs)
    × AreReports s.settings.workers s.stack.trees (checked_frames s) s.options.reproducible_resource_limit rs
    × (new ≡ record s { mode = In.Unknown (reason_of rs) })
MayDecide s _ kept new = ⊥

-- exactly this reply, and this state
pub record IsExactly (should : Reply) (state : State) (reply : Reply) (kept : Kept) (new : State) : Type 0 where
  pub reply_is : reply ≡ should
  pub kept_is : kept ≡ Nothing
  pub new_is : new ≡ state

-- what may be answered to the question for a least value in this state: the least value, or that the stack has no model, or the best that was found
abbrev pub MayMinimize : State → List Token → Tree → Reply → Kept → State → Type 0
MayMinimize s text t (Given.Minimum v) kept new =
    (i : List Table) × (kept ≡ Model i) × IsMinimum s.stack.frames text t v i × (new ≡ record s { mode = In.Sat i })
MayMinimize s text t Given.Unsat kept new = (kept ≡ Nothing) × HasNoModel s.stack.frames × (new ≡ record s { mode = In.Unsat })
MayMinimize s text t Given.Unknown kept new =
    (b : Best) × (kept ≡ KeptBest b)
    × IsBest s.settings.workers s.stack.trees s.stack.frames s.options.reproducible_resource_limit text t b
    × (new ≡ record s { mode = In.Unknown (reason_of b.reports) })
MayMinimize s text t _ kept new = ⊥

-- what may be answered to the question for a core: the candidates that are held
abbrev pub MayReduce : Candidates → State → Reply → Kept → State → Type 0
MayReduce among s reply kept new = (hs : List Held) × (kept ≡ Core hs) × IsCore among s hs × (reply ≡ core_reply among s hs) × (new ≡ s)

-- success, where it is printed in the state after the command
abbrev pub success : State → Reply
success new = if new.options.print_success then Given.Success else Given.Silent

abbrev pub MayCome : Decided → State → Effect → Reply → Kept → State → Type 0
MayCome decided old (denied e) reply kept new = IsExactly (Given.Error e) old reply kept new
MayCome decided old left_out reply kept new = IsExactly Given.Unsupported old reply kept new
MayCome decided old (accepted s) reply kept new = IsExactly (success s) s reply kept new
MayCome decided old (answered r s) reply kept new = IsExactly r s reply kept new
MayCome decided old (checked s) reply kept new =
    MatchBool (decided (checked_frames s)) (MayDecide s reply kept new) (IsExactly Given.Unsupported old reply kept new)
MayCome decided old (minimizes text t s) reply kept new = MayMinimize s text t reply kept new
MayCome decided old (reduces among) reply kept new = MayReduce among old reply kept new

-- in the old state the command may be answered so, and leave the new state
unfoldable pub MayReply : Decided → State → Command → Reply → Kept → State → Type 0
MayReply decided old c reply kept new = MayCome decided old (effect old c) reply kept new

abbrev pub MayReplyTo : Decided → State → Result Command Error → Reply → Kept → State → Type 0
MayReplyTo decided old (Ok c) reply kept new = MayReply decided old c reply kept new
MayReplyTo decided old (Err e) reply kept new = IsExactly (Given.Error e) old reply kept new

-- so may the s-expression of these tokens be answered
unfoldable pub Replies : Decided → State → List Token → Reply → Kept → State → Type 0
Replies decided old ts reply kept new = MayReplyTo decided old (command (sexp ts)) reply kept new
