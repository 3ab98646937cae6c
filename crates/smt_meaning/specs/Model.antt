-- What shows that the assertions of levels have a model.
use Rattle.std.specs.Prelude.{List, IsTrue, All}
use Rattle.smt_meaning.specs.declared.values.Table.{Table}
use Rattle.smt_meaning.specs.Term.{Tree, Interpretation, fits}
use Rattle.smt_meaning.specs.Interpretation.{meaning, AreTablesFor}
use Rattle.smt_meaning.specs.Stack.{Frame, signature_of, assertions_of, Holds}

abbrev pub Fits : Interpretation → Tree → Type 0
Fits I t = IsTrue (fits I t)

-- the tables make every assertion true, and every number on the way is in the range
pub record IsModel (frames : List Frame) (i : List Table) : Type 0 where
  pub tables : AreTablesFor (signature_of frames) i
  pub holds : Holds (meaning i) frames
  pub fits : All (Fits (meaning i)) (assertions_of frames)
