-- The values of terms, which may be fractions, and what a log's literals say of them.
use Rattle.std.specs.Prelude.{◌≡◌, ◌≢◌, true, List, [], Contains, ℤ}
use Rattle.fraction128.specs.Lines.{IsPositive}
use Rattle.smt_meaning.specs.declared.clauses.Summand.{Summand}
use Rattle.smt_meaning.specs.declared.clauses.Atom.{Atom}
use Rattle.smt_meaning.specs.declared.clauses.Atom.TheVariants.{AtMost}
use Rattle.smt_meaning.specs.CheckAtoms.{Meets}
use Rattle.literals.specs.Signed.{Signed}
use Rattle.search_port.specs.State.{atom_at}
use Rattle.sum_bounds.specs.declared.fractions.FractionalLeaf.{FractionalLeaf}
use Rattle.sum_bounds.specs.Bounds.{leaf_values, IsFirstIn}
use Rattle.bound_log.specs.Told.{State, IsState}
use Rattle.bound_log.specs.Atoms.{Knows}
use Rattle.bound_log.specs.Values.{MeetsAll}

-- where the terms' values meet all bounds told, they meet each atom on a sum that isn't empty which the log tells to be true
abbrev pub FractionsHold : Type 0
FractionsHold =
    (table : List Atom) (s : State) → IsState s → Knows table s → MeetsAll s → (l : Signed) (sum : List Summand) (k : ℤ) → Contains s.log l → l.positive ≡ true
    → atom_at table l.atom ≡ AtMost sum k → sum ≢ [] → Meets (leaf_values s.bounds) (AtMost sum k)

-- they have positive denominators, and that of the first term whose value isn't whole is the one found
abbrev pub LeavesHaveValues : Type 0
LeavesHaveValues = (s : State) → IsState s → IsPositive (leaf_values s.bounds) × ((f : FractionalLeaf) → IsFirstIn s.bounds.columns f → leaf_values s.bounds f.term ≡ f.value)
