-- What no interpretation gives a `xor` and its arguments.
use Rattle.std.specs.Prelude.{◌≡◌, ℕ, Bool, true, List, ◌∷◌}
use Rattle.std.specs.List.{AllZip}
use Rattle.literals.specs.Signed.{Signed}
use Rattle.smt_meaning.specs.declared.clauses.Atom.{Atom}
use Rattle.smt_meaning.specs.Declaration.{Declaration}
use Rattle.smt_meaning.specs.Term.{Tree}
use Rattle.congruence.specs.Clauses.{IsTrueEverywhere}
use Rattle.closure_log.specs.Odd.{is_odd, IsXor, HasAgainst}

-- truths of a `xor` and of its arguments of which an odd count is true are none that an interpretation gives: a clause against each of them is true
abbrev pub OddClauseIsTrue : Type 0
OddClauseIsTrue =
    (ds : List Declaration) (ts : List Tree) (table : List Atom) (p i : ℕ) (is : List ℕ) (bs : List Bool) (ls : List Signed) → IsXor ds ts p (i ∷ is)
    → AllZip (HasAgainst table ls) (p ∷ i ∷ is) bs → is_odd bs ≡ true → IsTrueEverywhere ds ts table ls
