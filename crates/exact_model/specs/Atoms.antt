-- The truth of atoms and of literals by the values of terms.
use Rattle.std.specs.Prelude.{◌≡◌, ℕ, ◌<◌, Bool, true, List, [], ◌∷◌, All, ℤ, pos, ◌+ℤ◌, ◌*ℤ◌, int_le}
use Rattle.smt_meaning.specs.declared.values.Value.{Value}
use Rattle.smt_meaning.specs.declared.clauses.Summand.{Summand}
use Rattle.smt_meaning.specs.declared.clauses.Atom.{Atom}
use Rattle.smt_meaning.specs.declared.clauses.Atom.TheVariants.{Truth, AtMost, Same}
use Rattle.smt_meaning.specs.Term.{number_of, truth_of, same_value}
use Rattle.smt_meaning.specs.Clause.{atom_places}
use Rattle.search_port.specs.State.{atom_at}
use Rattle.model_eval.specs.Walk.{is_marked}
use Rattle.exact_model.specs.Places.{value_at}

-- the value of a sum, without bound
abbrev pub sum_by : List Value → List Summand → ℤ
sum_by values [] = pos 0
sum_by values (s ∷ sum) = s.coefficient *ℤ number_of (value_at values s.term) +ℤ sum_by values sum

abbrev pub atom_true_by : List Value → Atom → Bool
atom_true_by values (Truth p) = truth_of (value_at values p)
atom_true_by values (AtMost sum k) = int_le (sum_by values sum) k
atom_true_by values (Same p q) = same_value (value_at values p) (value_at values q)

-- the truth of each number's atom
abbrev pub truth_by : List Value → List Atom → ℕ → Bool
truth_by values atoms n = atom_true_by values (atom_at atoms n)

-- its places are below a bound
abbrev pub HasPlacesBelow : ℕ → Atom → Type 0
HasPlacesBelow bound a = All (λ p. p < bound) (atom_places a)

-- its places are marked
abbrev pub HasMarkedPlaces : List Bool → Atom → Type 0
HasMarkedPlaces marks a = All (λ p. is_marked marks p ≡ true) (atom_places a)

-- ---- no public contract speaks of it

-- a coefficient beside its term's value
abbrev pub pair_by : List Value → Summand → ℤ × ℤ
pair_by values s = (s.coefficient, number_of (value_at values s.term))
