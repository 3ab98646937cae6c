-- The law of the walk.
use Rattle.std.specs.Prelude.{◌≡◌, List, [], ◌∷◌}
use Rattle.smt_meaning.specs.declared.tokens.Token.{Token}
use Rattle.smt_meaning.specs.Sexp.{sexp, IsSexp}
use Rattle.smt_meaning.specs.Sorts.{Scope, ◌>>=◌, Variable, Rules, judge}
use Rattle.smt_laws.specs.Walk.{whole, run, finish}

-- reading the tokens with a stack gives what judging the term gives
abbrev pub WalkGivesTheJudgement : Type 0
WalkGivesTheJudgement = (r : Rules) (vs : List Variable) (ts : List Token) (s : Scope) → IsSexp ts → (run r ts (whole vs ∷ []) >>= finish) s ≡ judge r vs (sexp ts) s
