-- The names of the logics.
use Rattle.std.specs.Prelude.{ℕ, List, Option, Some, None, codes}
use Rattle.session.specs.declared.logic.Logic.{Logic}
use Rattle.session.specs.declared.logic.Logic.TheVariants.{QfUflia, QfUf, QfLia, QfIdl, QfUfidl, All}

abbrev pub logic_name : Logic → List ℕ
logic_name QfUflia = codes "QF_UFLIA"
logic_name QfUf = codes "QF_UF"
logic_name QfLia = codes "QF_LIA"
logic_name QfIdl = codes "QF_IDL"
logic_name QfUfidl = codes "QF_UFIDL"
logic_name All = codes "ALL"

abbrev pub named : Option Logic → Option (List ℕ)
named None = None
named (Some l) = Some (logic_name l)
