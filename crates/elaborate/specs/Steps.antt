-- The steps of the reading of a term.
use Rattle.std.specs.Prelude.{◌≡◌, ℕ, zero, suc, Bool, true, false, List, [], ◌∷◌, Option, Some, None, nat_eq, if◌then◌else◌, bytes_eq, codes, Result, Ok, Err}
use Rattle.smt_meaning.specs.declared.tokens.Token.{Token}
use Rattle.smt_meaning.specs.declared.tokens.Token.TheVariants.{Enter, Leave, Symbol, Keyword}
use Rattle.smt_meaning.specs.declared.refusals.Refusal.{Refusal}
use Rattle.smt_meaning.specs.declared.refusals.Refusal.TheVariants.{WrongArguments}
use Rattle.smt_meaning.specs.Sexp.{Sexps}
use Rattle.smt_meaning.specs.Sorts.{Scope, done, refused, Judging, judge_head}
use Rattle.smt_laws.specs.Walk.{Frame as Meant, given as given_to, give as given_all, check_let, check_annotation}
use Rattle.elaborate.specs.declared.value.Value.{Value}
use Rattle.elaborate.specs.declared.frame.Binding.{Binding as Pair}
use Rattle.elaborate.specs.declared.frame.Frame.{Frame}
use Rattle.elaborate.specs.declared.frame.Frame.TheVariants.{Opened, Application, Dividing, Division, LetOpen, Bindings, BindingOpen, Bound, BoundTo, Body, Done, Annotation, Attributes, Naming}
use Rattle.elaborate.specs.declared.frame.Walk.{Walk}
use Rattle.elaborate.specs.declared.walk.Kind.{Kind}
use Rattle.elaborate.specs.declared.walk.Kind.TheVariants.{Answered, Whole, Argument, Divided, Term, Head, LetList, Binding, BoundName, BindingEnd, LetEnd, Attribute, Passed, Name}
use Rattle.elaborate.specs.declared.error.JudgeError.{JudgeError}
use Rattle.elaborate.specs.declared.error.JudgeError.TheVariants.{Refused, Memory}
use Rattle.elaborate.specs.declared.steps.Class.{Class}
use Rattle.elaborate.specs.declared.steps.Class.TheVariants.{Opening, Closing, Word}
use Rattle.elaborate.specs.Values.{typed, IsValue}
use Rattle.elaborate.specs.Frames.{frame_of, outside, walk_of, IsDivisor, Holds, Stands}

abbrev pub attribute_kind : ℕ → Kind
attribute_kind d = if nat_eq d 0 then Attribute else Passed

abbrev pub kind_of_frame : Frame → Kind
kind_of_frame Opened = Head
kind_of_frame (Application n o vs) = Argument
kind_of_frame (Dividing n d) = Passed
kind_of_frame (Division n vs) = Divided
kind_of_frame LetOpen = LetList
kind_of_frame (Bindings xs) = Binding
kind_of_frame (BindingOpen xs) = BoundName
kind_of_frame (Bound xs n) = Term
kind_of_frame (BoundTo xs n v) = BindingEnd
kind_of_frame (Body k) = Term
kind_of_frame (Done v) = LetEnd
kind_of_frame (Annotation p) = Term
kind_of_frame (Attributes v p d) = attribute_kind d
kind_of_frame (Naming v p) = Name

-- what may come next
abbrev pub kind_of : Option Value → List Frame → Kind
kind_of (Some v) fs = Answered
kind_of None [] = Whole
kind_of None (f ∷ fs) = kind_of_frame f

-- a term may come next
abbrev pub awaits_term : Kind → Bool
awaits_term Whole = true
awaits_term Argument = true
awaits_term Divided = true
awaits_term Term = true
awaits_term _ = false

abbrev pub is_answered : Kind → Bool
is_answered Answered = true
is_answered _ = false

-- the token is passed over
abbrev pub is_past : Kind → Bool
is_past Answered = true
is_past Passed = true
is_past _ = false

abbrev pub is_argument : Kind → Bool
is_argument Argument = true
is_argument _ = false

abbrev pub is_divided : Kind → Bool
is_divided Divided = true
is_divided _ = false

abbrev pub is_head : Kind → Bool
is_head Head = true
is_head _ = false

-- the name of a term comes next
abbrev pub is_name : Kind → Bool
is_name Name = true
is_name _ = false

-- a list that is no term may come next
abbrev pub takes_list : Kind → Bool
takes_list LetList = true
takes_list Binding = true
takes_list Attribute = true
takes_list Passed = true
takes_list _ = false

-- a token that is no term may come next
abbrev pub takes_word : Kind → Bool
takes_word BoundName = true
takes_word Attribute = true
takes_word Name = true
takes_word _ = false

-- a list that is no application may end
abbrev pub may_end : Kind → Bool
may_end Binding = true
may_end BindingEnd = true
may_end LetEnd = true
may_end Attribute = true
may_end Passed = true
may_end _ = false

abbrev pub class_of : Token → Class
class_of Enter = Opening
class_of Leave = Closing
class_of _ = Word

-- a frame with the term for which it waits
pub record IsGiven (f : Frame) (v : Value) (g : Frame) : Type 0 where
  pub given : (tokens : List Token) (s : Scope) (bs : List Pair) → frame_of tokens s (outside bs f) g ≡ given_to (frame_of tokens s bs f) (typed s.trees v)
  pub outer : (bs : List Pair) → outside (outside bs f) g ≡ outside bs f
  pub holds : (s : Scope) → Holds s f → IsValue s.trees v → Holds s g

-- the term is given to the innermost one
pub record Given (w : Walk) (v : Value) (w' : Walk) : Type 0 where
  pub walk : (tokens : List Token) (s : Scope) → walk_of tokens s w' ≡ given_all (typed s.trees v) (walk_of tokens s w)
  pub stands : (s : Scope) → Stands s w → IsValue s.trees v → Stands s w'

-- a step gives this result
abbrev pub StepComes : Judging (List Meant) → Scope → List Token → Scope → Walk → Result (Unit {0}) JudgeError → Type 0
StepComes m s tokens u w (Ok a) = (m s ≡ done (walk_of tokens u w) u) × Stands u w
StepComes m s tokens u w (Err (Refused r)) = m s ≡ refused r
StepComes m s tokens u w (Err Memory) = Unit {0}

-- a judgement gives this frame
pub record IsFrame (m : Judging Meant) (s : Scope) (tokens : List Token) (bs : List Pair) (g : Frame) : Type 0 where
  pub judged : m s ≡ done (frame_of tokens s bs g) s
  pub outer : outside bs g ≡ bs
  pub holds : Holds s g

abbrev pub FrameComes : Judging Meant → Scope → List Token → List Pair → Result Frame JudgeError → Type 0
FrameComes m s tokens bs (Ok g) = IsFrame m s tokens bs g
FrameComes m s tokens bs (Err (Refused r)) = m s ≡ refused r
FrameComes m s tokens bs (Err Memory) = Unit {0}

-- what is ahead of `let` is looked at
abbrev pub IsLetHead : Sexps → Result Frame JudgeError → Type 0
IsLetHead l (Ok g) = (g ≡ LetOpen) × ((s : Scope) → check_let l s ≡ done tt s)
IsLetHead l (Err (Refused r)) = (s : Scope) → check_let l s ≡ refused r
IsLetHead l (Err Memory) = Unit {0}

-- what is ahead of `!`
abbrev pub IsAnnotationHead : Sexps → ℕ → Result Frame JudgeError → Type 0
IsAnnotationHead l p (Ok g) = (g ≡ Annotation p) × ((s : Scope) → check_annotation l s ≡ done tt s)
IsAnnotationHead l p (Err (Refused r)) = (s : Scope) → check_annotation l s ≡ refused r
IsAnnotationHead l p (Err Memory) = Unit {0}

-- what is ahead of a list that is a head
abbrev pub IsDivisorHead : Option ℕ → Result ℕ Refusal → Type 0
IsDivisorHead o (Ok n) = ((s : Scope) → judge_head o s ≡ done n s) × IsDivisor n
IsDivisorHead o (Err r) = (s : Scope) → judge_head o s ≡ refused r

-- after a `)` in a head that divides, in so many lists of it
abbrev pub out_of_head : ℕ → ℕ → Frame
out_of_head n zero = Division n []
out_of_head n (suc d) = Dividing n d

-- a keyword that names a term
abbrev pub is_named : Token → Bool
is_named (Keyword k) = bytes_eq k (codes "named")
is_named _ = false

abbrev pub is_symbol : Token → Bool
is_symbol (Symbol n) = true
is_symbol _ = false

-- the token is no name
abbrev pub IsNoName : Token → JudgeError → Type 0
IsNoName t (Refused r) = (is_symbol t ≡ false) × (r ≡ WrongArguments)
IsNoName t Memory = Unit {0}
