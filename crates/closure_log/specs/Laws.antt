-- What stays true of a log while atoms are added.
use Rattle.std.specs.Prelude.{ℕ, ◌++◌, List}
use Rattle.literals.specs.Signed.{Signed}
use Rattle.smt_meaning.specs.declared.clauses.Atom.{Atom}
use Rattle.smt_meaning.specs.StackCommand.{Stack}
use Rattle.congruence.specs.declared.congruence.Congruence.{Congruence}
use Rattle.closure_log.specs.Told.{IsTold}

-- what was told stays told where more atoms have numbers
abbrev pub StaysTold : Type 0
StaysTold = (s : Stack) (table more : List Atom) (c : Congruence) (log : List Signed) (starts : List ℕ) → IsTold s table c log starts → IsTold s (table ++ more) c log starts
