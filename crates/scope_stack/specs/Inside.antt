-- What a stack keeps, and what it is seen as: the names and the assertions by levels, and the terms, by whose places the assertions name their trees.
use Rattle.std.specs.Prelude.{◌≡◌, ◌+◌, ◌≤◌, ◌<◌, Bool, List, [], ◌∷◌, map, length, All}
use Rattle.smt_meaning.specs.declared.commands.Command.{Command}
use Rattle.smt_meaning.specs.Declaration.{Declaration}
use Rattle.smt_meaning.specs.Term.{Tree, tree_at}
use Rattle.smt_meaning.specs.Stack.{Assertion as Asserted, Frame}
use Rattle.smt_meaning.specs.StackCommand.{Stack, start, after_all, most_terms, most_levels}
use Rattle.smt_sorts.specs.Names.{Names}
use Rattle.term_store.specs.Terms.{Terms}
use Rattle.scope_stack.specs.declared.answers.Assertion.{Assertion}
use Rattle.scope_stack.specs.Pieces.{all_of}

abbrev pub asserted_by : List Tree → Assertion → Asserted
asserted_by ts a = record { text = a.text; term = tree_at ts a.term }

abbrev pub frame_by : List Tree → List Declaration → List Assertion → Frame
frame_by ts ds xs = record { declared = ds; asserted = map (asserted_by ts) xs }

abbrev pub frames_by : List Tree → List (List Declaration) → List (List Assertion) → List Frame
frames_by ts [] xss = []
frames_by ts (ds ∷ dss) [] = frame_by ts ds [] ∷ frames_by ts dss []
frames_by ts (ds ∷ dss) (xs ∷ xss) = frame_by ts ds xs ∷ frames_by ts dss xss

-- where declarations are global or not
abbrev pub stack_by : Bool → Names → List Tree → List (List Assertion) → Stack
stack_by g t ts xss = record { frames = frames_by ts t.levels xss; given = t.given; trees = ts; global = g }

-- commands give this stack
unfoldable pub IsReached : Stack → Type 0
IsReached s = (cs : List Command) × (after_all start cs ≡ s)

-- the assertion's place is one of the list of terms
abbrev pub IsWithin : List Tree → Assertion → Type 0
IsWithin ts a = a.term < length ts

pub record IsStack (g : Bool) (t : Names) (store : Terms) (xss : List (List Assertion)) : Type 0 where
  pub limit : store.limit ≡ most_terms
  pub as_many : length xss ≡ length t.levels
  pub some : 0 < length t.levels
  pub few : length t.levels ≤ most_levels + 1
  pub within : All (IsWithin store.trees) (all_of xss)
  pub reached : IsReached (stack_by g t store.trees xss)
