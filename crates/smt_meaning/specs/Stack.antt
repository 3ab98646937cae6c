-- The stack of levels, and what it says (SMT-LIB 2.6, sections 4.1.4 and 5.3).
use Rattle.std.specs.Prelude.{ℕ, ◌+◌, ◌-◌, Bool, true, false, not, List, [], ◌∷◌, ◌++◌, map, filter, take, length, flat_map, replicate, IsTrue, All}
use Rattle.smt_meaning.specs.declared.tokens.Token.{Token}
use Rattle.smt_meaning.specs.Declaration.{Declaration}
use Rattle.smt_meaning.specs.Term.{Tree, Interpretation, value, truth_of}
use Rattle.smt_meaning.specs.Interpretation.{Interprets}

pub record Assertion : Type 0 where
  -- the term as written
  pub text : List Token
  pub term : Tree

-- a level: its declarations, definitions and names, and its assertions
pub record Frame : Type 0 where
  pub declared : List Declaration
  pub asserted : List Assertion

abbrev pub signature_of : List Frame → List Declaration
signature_of frames = flat_map (λ (f : Frame). f.declared) frames

abbrev pub terms_of : Frame → List Tree
terms_of f = map (λ (a : Assertion). a.term) f.asserted

abbrev pub assertions_of : List Frame → List Tree
assertions_of frames = flat_map terms_of frames

-- ---- models

abbrev pub Satisfies : Interpretation → Tree → Type 0
Satisfies I t = IsTrue (truth_of (value I t))

-- every assertion is true
abbrev pub Holds : Interpretation → List Frame → Type 0
Holds I frames = All (Satisfies I) (assertions_of frames)

-- no interpretation makes every assertion true
unfoldable pub HasNoModel : List Frame → Type 0
HasNoModel frames = (I : Interpretation) → Interprets (signature_of frames) I → Holds I frames → ⊥

pub no_model : (frames : List Frame) → ((I : Interpretation) → Interprets (signature_of frames) I → Holds I frames → ⊥) → HasNoModel frames
unfolding HasNoModel
no_model frames h = h

pub no_model_is : (frames : List Frame) → HasNoModel frames → (I : Interpretation) → Interprets (signature_of frames) I → Holds I frames → ⊥
unfolding HasNoModel
no_model_is frames h = h

-- ---- levels, the first of which is level 0

abbrev pub empty_frame : Frame
empty_frame = record { declared = []; asserted = [] }

abbrev pub start_frames : List Frame
start_frames = empty_frame ∷ []

-- how many levels stand above level 0
abbrev pub depth : List Frame → ℕ
depth frames = length frames - 1

-- the newest level gains declarations and assertions
abbrev pub on_top : List Declaration → List Assertion → List Frame → List Frame
on_top ds xs [] = []
on_top ds xs (f ∷ []) = record { declared = f.declared ++ ds; asserted = f.asserted ++ xs } ∷ []
on_top ds xs (f ∷ g ∷ frames) = f ∷ on_top ds xs (g ∷ frames)

-- level 0 gains declarations
abbrev pub at_base : List Declaration → List Frame → List Frame
at_base ds [] = []
at_base ds (f ∷ frames) = record f { declared = f.declared ++ ds } ∷ frames

-- where declarations are global, level 0 gains them, at whatever depth; else the newest level does
abbrev pub with_declared : Bool → List Declaration → List Frame → List Frame
with_declared true ds frames = at_base ds frames
with_declared false ds frames = on_top ds [] frames

abbrev pub stays : Declaration → Bool
stays d = not d.is_name

-- level 0 alone, without its assertions and the names that went with them
abbrev pub base_of : List Frame → List Frame
base_of [] = start_frames
base_of (f ∷ frames) = record { declared = filter stays f.declared; asserted = [] } ∷ []

-- what `reset-assertions` leaves: where declarations are global, those of level 0
abbrev pub cleared : Bool → List Frame → List Frame
cleared true frames = base_of frames
cleared false frames = start_frames

abbrev pub pushed : ℕ → List Frame → List Frame
pushed n frames = frames ++ replicate n empty_frame

abbrev pub popped : ℕ → List Frame → List Frame
popped n frames = take (length frames - n) frames

-- the levels from 0 to l
abbrev pub up_to : ℕ → List Frame → List Frame
up_to l frames = take (l + 1) frames
