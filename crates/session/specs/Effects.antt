-- What a command that doesn't ask the decider comes to: its reply and the state after it.
use Rattle.std.specs.Prelude.{◌≡◌, ℕ, ℤ, Bool, true, false, List, codes, Result}
use Rattle.smt_meaning.specs.declared.commands.Command.{Command}
use Rattle.smt_meaning.specs.declared.commands.Command.TheVariants.{DeclareSort, DefineSort, DeclareConst, DeclareFun, DefineFun, Assert, CheckSat, CheckSatAssuming, Push, Pop, GetUnsatCore, GetUnsatAssumptions, Minimize}
use Rattle.smt_meaning.specs.declared.answers.Reply.{Reply}
use Rattle.smt_meaning.specs.declared.answers.Reply.TheVariants as Given
use Rattle.smt_meaning.specs.declared.tokens.Token.{Token}
use Rattle.smt_meaning.specs.declared.values.Table.{Table}
use Rattle.smt_meaning.specs.State.{State, Effect, denied, left_out, accepted, answered, checked, minimizes, reduces, valued}
use Rattle.smt_meaning.specs.MayReply.{success}
use Rattle.smt_meaning.specs.StackCommand.{Stack, declare_sort, judged}
use Rattle.scope_stack.specs.declared.answers.Carried.{Carried}
use Rattle.scope_stack.specs.declared.answers.StackError.{StackError}
use Rattle.scope_stack.specs.Carries.{Carries, question}

abbrev pub Comes : Effect → State → Reply → State → Type 0
Comes (denied e) old reply new = (reply ≡ Given.Error e) × (new ≡ old)
Comes left_out old reply new = (reply ≡ Given.Unsupported) × (new ≡ old)
Comes (accepted s) old reply new = (reply ≡ success s) × (new ≡ s)
Comes (answered r s) old reply new = (reply ≡ r) × (new ≡ s)
Comes (checked s) old reply new = ⊥
Comes (minimizes text t s) old reply new = ⊥
Comes (reduces among) old reply new = ⊥

-- the commands that ask the decider
abbrev pub is_check : Command → Bool
is_check CheckSat = true
is_check (CheckSatAssuming ts) = true
is_check GetUnsatCore = true
is_check GetUnsatAssumptions = true
is_check (Minimize t) = true
is_check _ = false

-- the commands that the stack carries out or refuses
abbrev pub is_carried : Command → Bool
is_carried (DeclareSort n arity) = true
is_carried (DefineSort n ps w) = true
is_carried (DeclareConst n w) = true
is_carried (DeclareFun n ws w) = true
is_carried (DefineFun n ps w t) = true
is_carried (Assert t) = true
is_carried (Push n) = true
is_carried (Pop n) = true
is_carried _ = false

-- their names
abbrev pub word_of : Command → List ℕ
word_of (DeclareSort n arity) = codes "declare-sort"
word_of (DefineSort n ps w) = codes "define-sort"
word_of (DeclareConst n w) = codes "declare-const"
word_of (DeclareFun n ws w) = codes "declare-fun"
word_of (DefineFun n ps w t) = codes "define-fun"
word_of (Assert t) = codes "assert"
word_of (Push n) = codes "push"
word_of (Pop n) = codes "pop"
word_of _ = codes ""

-- a sort of this name and arity is declared
unfoldable pub DeclaresSort : List ℕ → ℤ → Stack → Result Carried StackError → Stack → Type 0
DeclaresSort n arity old r new = Carries (λ level. declare_sort n arity) old r new

-- this comes of the question of the terms' values under this model, in each state with this stack
abbrev pub ComesOfQuestion : List Table → List (List Token) → Stack → Reply → Stack → Type 0
ComesOfQuestion i ts old reply new =
    (s : State) → s.stack ≡ old → Comes (valued s i ts (judged (question ts) s.stack)) s reply (record s { stack = new })
