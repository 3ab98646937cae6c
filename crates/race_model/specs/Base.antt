-- Levels whose terms are named by their places in a list of trees, read as the frames of a stack.
use Rattle.std.specs.Prelude.{List, [], ◌∷◌, ◌++◌, map}
use Rattle.smt_meaning.specs.Declaration.{Declaration}
use Rattle.smt_meaning.specs.Term.{Tree, tree_at}
use Rattle.smt_meaning.specs.Stack.{Assertion, Frame}
use Rattle.race_model.specs.declared.event.Formula.{Formula}
use Rattle.race_model.specs.declared.levels.Level.{Level}
use Rattle.race_model.specs.declared.levels.Levels.{Levels}

-- the frames from which clauses follow, and the list of trees by which these are read
pub record Base : Type 0 where
  pub trees : List Tree
  pub frames : List Frame

abbrev pub assertion_of : List Tree → Formula → Assertion
assertion_of ts f = record { text = f.text; term = tree_at ts f.term }

abbrev pub frame_of : List Tree → Level → Frame
frame_of ts l = record { declared = l.declared; asserted = map (assertion_of ts) l.asserted }

abbrev pub base_of : Levels → Base
base_of l = record { trees = l.terms; frames = map (frame_of l.terms) l.levels.items }

-- all that is declared at some level
abbrev pub declared_in : List Level → List Declaration
declared_in [] = []
declared_in (l ∷ ls) = l.declared ++ declared_in ls
