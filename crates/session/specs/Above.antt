-- What stood above the stack at the last check: the level of the assumptions, where there was one.
use Rattle.std.specs.Prelude.{◌≡◌, ℕ, ◌<◌, List, [], ◌∷◌, map, length, All}
use Rattle.smt_meaning.specs.Term.{Tree, tree_at}
use Rattle.smt_meaning.specs.Stack.{Frame}
use Rattle.smt_meaning.specs.State.{frame_of}
use Rattle.scope_stack.specs.Inside.{asserted_by, IsWithin}
use Rattle.session.specs.declared.above.Above.{Above}
use Rattle.session.specs.declared.above.Above.TheVariants.{Nothing, Assumed}

-- the level, whose terms stand at places of the list
abbrev pub above_by : List Tree → Above → List Frame
above_by ts Nothing = []
above_by ts (Assumed xs) = frame_of (map (asserted_by ts) xs) ∷ []

-- their places are among the trees
abbrev pub AreAbove : List Tree → Above → Type 0
AreAbove ts Nothing = Unit {0}
AreAbove ts (Assumed xs) = All (IsWithin ts) xs

-- each tree of the one list stands at the same place of the other
abbrev pub StandIn : List Tree → List Tree → Type 0
StandIn ts us = (i : ℕ) → i < length ts → (i < length us) × (tree_at us i ≡ tree_at ts i)
