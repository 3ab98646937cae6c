-- Edges taken one after another, and their tags.
use Rattle.std.specs.Prelude.{◌≡◌, ℕ, List, [], ◌∷◌, ◌++◌, All, Contains}
use Rattle.difference_logic.specs.declared.edge.Edge.{Edge}
use Rattle.difference_logic.specs.declared.graph.Asserted.{Asserted}
use Rattle.difference_logic.specs.declared.graph.Asserted.TheVariants.{Taken, Cycle, Beyond}

-- the tag of one of the edges
abbrev pub IsTagOf : List Edge → ℕ → Type 0
IsTagOf edges tag = (e : Edge) × Contains edges e × (e.tag ≡ tag)

abbrev pub AreTags : List Edge → List ℕ → Type 0
AreTags edges tags = All (IsTagOf edges) tags

-- or of one more
abbrev pub AreTagsWith : List Edge → Edge → List ℕ → Type 0
AreTagsWith edges edge tags = AreTags (edges ++ edge ∷ []) tags

-- the edge is taken; or nothing is, and the tags of a cycle are its own and those of edges before it
abbrev pub IsAsserted : List Edge → Edge → List Edge → Asserted → Type 0
IsAsserted old edge new Taken = new ≡ old ++ edge ∷ []
IsAsserted old edge new (Cycle tags) = (new ≡ old) × AreTagsWith old edge tags.items
IsAsserted old edge new Beyond = new ≡ old
