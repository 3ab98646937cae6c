-- What the frames of the reading of a term stand for.
use Rattle.std.specs.Prelude.{◌≡◌, ℕ, ◌≤◌, Bool, true, false, List, [], ◌∷◌, map, take, drop, Option, Some, None, if◌then◌else◌, bytes_eq}
use Rattle.smt_meaning.specs.declared.tokens.Token.{Token}
use Rattle.smt_meaning.specs.declared.terms.Operator.{Operator}
use Rattle.smt_meaning.specs.Declaration.{Declaration}
use Rattle.smt_meaning.specs.Term.{Tree}
use Rattle.smt_meaning.specs.Sexp.{open_lists_of}
use Rattle.smt_meaning.specs.Signature.{find_function}
use Rattle.smt_meaning.specs.Sorts.{Scope, Variable, known_symbol, is_small}
use Rattle.smt_laws.specs.Walk.{Frame as Meant, whole, answer, opened, application, dividing, division, let_open, bindings, binding_open, binding, bound_to, body, result, annotation, attributes, naming, has_free_first, first_list}
use Rattle.elaborate.specs.declared.value.Value.{Value}
use Rattle.elaborate.specs.declared.frame.Binding.{Binding}
use Rattle.elaborate.specs.declared.frame.Frame.{Frame}
use Rattle.elaborate.specs.declared.frame.Frame.TheVariants.{Opened, Application, Dividing, Division, LetOpen, Bindings, BindingOpen, Bound, BoundTo, Body, Done, Annotation, Attributes, Naming}
use Rattle.elaborate.specs.declared.frame.Walk.{Walk}
use Rattle.elaborate.specs.Values.{typed, IsValue, AreValues}

abbrev pub find_value : List ℕ → List Binding → Option Value
find_value n [] = None
find_value n (b ∷ bs) = if bytes_eq n b.name then Some b.value else find_value n bs

abbrev pub variable_at : List Tree → Binding → Variable
variable_at ts b = record { name = b.name; term = typed ts b.value }

-- a term at a place has a variable bound outside
abbrev pub is_open_at : List Token → List Tree → List Binding → ℕ → Bool
is_open_at tokens ts bs p = has_free_first (map (variable_at ts) bs) (first_list (open_lists_of (drop p tokens)))

-- under these bindings, the newest first
abbrev pub frame_of : List Token → Scope → List Binding → Frame → Meant
frame_of tokens s bs Opened = opened
frame_of tokens s bs (Application n o vs) = application n (known_symbol o (find_function n s.signature)) (map (typed s.trees) vs)
frame_of tokens s bs (Dividing n d) = dividing n d
frame_of tokens s bs (Division n vs) = division n (map (typed s.trees) vs)
frame_of tokens s bs LetOpen = let_open
frame_of tokens s bs (Bindings xs) = bindings (map (variable_at s.trees) xs)
frame_of tokens s bs (BindingOpen xs) = binding_open (map (variable_at s.trees) xs)
frame_of tokens s bs (Bound xs n) = binding (map (variable_at s.trees) xs) n
frame_of tokens s bs (BoundTo xs n v) = bound_to (map (variable_at s.trees) xs) n (typed s.trees v)
frame_of tokens s bs (Body k) = body (map (variable_at s.trees) (take k bs))
frame_of tokens s bs (Done v) = result (typed s.trees v)
frame_of tokens s bs (Annotation p) = annotation (is_open_at tokens s.trees bs p)
frame_of tokens s bs (Attributes v p d) = attributes (typed s.trees v) (is_open_at tokens s.trees bs p) d
frame_of tokens s bs (Naming v p) = naming (typed s.trees v) (is_open_at tokens s.trees bs p)

-- the bindings outside
abbrev pub outside : List Binding → Frame → List Binding
outside bs (Body k) = drop k bs
outside bs _ = bs

abbrev pub frames_of : List Token → Scope → List Binding → List Frame → List Meant
frames_of tokens s bs [] = whole (map (variable_at s.trees) bs) ∷ []
frames_of tokens s bs (f ∷ fs) = frame_of tokens s bs f ∷ frames_of tokens s (outside bs f) fs

abbrev pub stack_of : List Token → Scope → Option Value → List Binding → List Frame → List Meant
stack_of tokens s None bs fs = frames_of tokens s bs fs
stack_of tokens s (Some v) bs fs = answer (typed s.trees v) ∷ []

-- what a walk stands for
abbrev pub walk_of : List Token → Scope → Walk → List Meant
walk_of tokens s w = stack_of tokens s w.answer w.bindings w.frames

-- ---- what holds of the values and the heads

abbrev pub AreBound : List Tree → List Binding → Type 0
AreBound ts [] = Unit {0}
AreBound ts (b ∷ bs) = IsValue ts b.value × AreBound ts bs

-- something is known under the name
abbrev pub IsHead : Option Operator → Option Declaration → Type 0
IsHead (Some o) d = Unit {0}
IsHead None (Some d) = Unit {0}
IsHead None None = ⊥

-- a head may divide by this number
pub record IsDivisor (n : ℕ) : Type 0 where
  pub positive : 1 ≤ n
  pub small : is_small n ≡ true

abbrev pub Holds : Scope → Frame → Type 0
Holds s Opened = Unit {0}
Holds s (Application n o vs) = IsHead o (find_function n s.signature) × AreValues s.trees vs
Holds s (Dividing n d) = IsDivisor n
Holds s (Division n vs) = IsDivisor n × AreValues s.trees vs
Holds s LetOpen = Unit {0}
Holds s (Bindings xs) = AreBound s.trees xs
Holds s (BindingOpen xs) = AreBound s.trees xs
Holds s (Bound xs n) = AreBound s.trees xs
Holds s (BoundTo xs n v) = AreBound s.trees xs × IsValue s.trees v
Holds s (Body k) = Unit {0}
Holds s (Done v) = IsValue s.trees v
Holds s (Annotation p) = Unit {0}
Holds s (Attributes v p d) = IsValue s.trees v
Holds s (Naming v p) = IsValue s.trees v

abbrev pub AllHold : Scope → List Frame → Type 0
AllHold s [] = Unit {0}
AllHold s (f ∷ fs) = Holds s f × AllHold s fs

-- the frame waits for a term
abbrev pub waits : Frame → Bool
waits (Application n o vs) = true
waits (Division n vs) = true
waits (Bound xs n) = true
waits (Body k) = true
waits (Annotation p) = true
waits _ = false

abbrev pub AllWait : List Frame → Type 0
AllWait [] = Unit {0}
AllWait (f ∷ fs) = (waits f ≡ true) × AllWait fs

-- all but the innermost wait for a term
abbrev pub OthersWait : List Frame → Type 0
OthersWait [] = Unit {0}
OthersWait (f ∷ fs) = AllWait fs

abbrev pub AnswerHolds : Scope → Option Value → Type 0
AnswerHolds s None = Unit {0}
AnswerHolds s (Some v) = IsValue s.trees v

pub record Stands (s : Scope) (w : Walk) : Type 0 where
  pub answer : AnswerHolds s w.answer
  pub frames : AllHold s w.frames
  pub others : OthersWait w.frames
  pub bindings : AreBound s.trees w.bindings
