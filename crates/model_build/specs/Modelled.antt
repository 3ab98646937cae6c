-- What tables are made of what places are given.
use Rattle.std.specs.Prelude.{List}
use Rattle.smt_meaning.specs.Declaration.{Declaration}
use Rattle.smt_meaning.specs.Term.{Tree}
use Rattle.smt_meaning.specs.Interpretation.{AreTablesFor}
use Rattle.model_build.specs.declared.given.Given.{Given}
use Rattle.model_build.specs.Given.{IsClash}
use Rattle.model_build.specs.Building.{GiveValues}
use Rattle.model_build.specs.declared.model.Modelled.{Modelled}
use Rattle.model_build.specs.declared.model.Modelled.TheVariants.{Clash, Tables}

-- tables for the declarations that give each place its value, or two applications that no tables give what they are given
abbrev pub IsModelled : List Declaration → List Tree → List Given → Modelled → Type 0
IsModelled ds trees gs (Tables tables) = AreTablesFor ds tables × GiveValues trees gs tables
IsModelled ds trees gs (Clash c) = IsClash trees gs c.first c.second
