-- The levels of a stack as one level.
use Rattle.std.specs.Prelude.{◌≡◌, ℕ, List, [], ◌∷◌, flat_map}
use Rattle.smt_meaning.specs.Stack.{Frame, signature_of, assertions_of, up_to, HasNoModel}

-- one level with all declarations and all assertions
abbrev pub flat : List Frame → List Frame
flat frames = record { declared = signature_of frames; asserted = flat_map (λ (f : Frame). f.asserted) frames } ∷ []

-- it declares and asserts what the levels do, so it has no model exactly where they have none
pub record SaysTheSame (frames : List Frame) : Type 0 where
  pub signature : signature_of (flat frames) ≡ signature_of frames
  pub assertions : assertions_of (flat frames) ≡ assertions_of frames
  pub every_level : (l : ℕ) → up_to l (flat frames) ≡ flat frames
  pub no_model : HasNoModel (flat frames) → HasNoModel frames

abbrev pub FlatSaysTheSame : Type 0
FlatSaysTheSame = (frames : List Frame) → SaysTheSame frames
