-- Which atoms the theory takes.
use Rattle.smt_meaning.specs.declared.clauses.Atom.{Atom}

-- each
abbrev pub TakesAll : Atom → Type 0
TakesAll a = Unit {0}
