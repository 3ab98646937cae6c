-- Atoms and clauses: their truth and their symbols, read by a list of trees.
use Rattle.std.specs.Prelude.{ℕ, Bool, true, false, not, ◌||◌, List, [], ◌∷◌, ◌++◌, ℤ, pos, ◌+ℤ◌, ◌*ℤ◌, int_le, IsTrue}
use Rattle.smt_meaning.specs.declared.values.Value.{Value}
use Rattle.smt_meaning.specs.declared.terms.Head.{Head}
use Rattle.smt_meaning.specs.declared.terms.Head.TheVariants.{Symbol}
use Rattle.smt_meaning.specs.declared.clauses.Summand.{Summand}
use Rattle.smt_meaning.specs.declared.clauses.Atom.{Atom}
use Rattle.smt_meaning.specs.declared.clauses.Atom.TheVariants.{Truth, AtMost, Same}
use Rattle.smt_meaning.specs.declared.clauses.Literal.{Literal}
use Rattle.smt_meaning.specs.declared.clauses.Clause.{Clause}
use Rattle.smt_meaning.specs.Term.{Tree, Trees, node, none, more, Interpretation, value, truth_of, number_of, same_value, tree_at}

-- ---- truth

-- the value of the term at a place
abbrev pub value_at : List Tree → Interpretation → ℕ → Value
value_at ts I i = value I (tree_at ts i)

abbrev pub sum_value : List Tree → Interpretation → List Summand → ℤ
sum_value ts I [] = pos 0
sum_value ts I (p ∷ ps) = p.coefficient *ℤ number_of (value_at ts I p.term) +ℤ sum_value ts I ps

abbrev pub atom_true : List Tree → Interpretation → Atom → Bool
atom_true ts I (Truth t) = truth_of (value_at ts I t)
atom_true ts I (AtMost sum k) = int_le (sum_value ts I sum) k
atom_true ts I (Same s t) = same_value (value_at ts I s) (value_at ts I t)

abbrev pub signed : Bool → Bool → Bool
signed true b = b
signed false b = not b

abbrev pub literal_true : List Tree → Interpretation → Literal → Bool
literal_true ts I l = signed l.positive (atom_true ts I l.atom)

-- one of the literals is true
abbrev pub some_true : List Tree → Interpretation → List Literal → Bool
some_true ts I [] = false
some_true ts I (l ∷ ls) = literal_true ts I l || some_true ts I ls

abbrev pub ClauseTrue : List Tree → Interpretation → Clause → Type 0
ClauseTrue ts I c = IsTrue (some_true ts I c.literals)

-- ---- places

abbrev pub sum_places : List Summand → List ℕ
sum_places [] = []
sum_places (p ∷ ps) = p.term ∷ sum_places ps

-- the places that an atom names
abbrev pub atom_places : Atom → List ℕ
atom_places (Truth t) = t ∷ []
atom_places (AtMost sum k) = sum_places sum
atom_places (Same s t) = s ∷ t ∷ []

abbrev pub places : List Literal → List ℕ
places [] = []
places (l ∷ ls) = atom_places l.atom ++ places ls

-- ---- symbols

abbrev pub head_symbols : Head → List ℕ
head_symbols (Symbol f) = f ∷ []
head_symbols _ = []

abbrev mutual
  -- the ids of the function symbols in a tree
  pub symbols : Tree → List ℕ
  symbols (node h us) = head_symbols h ++ symbols_of us

  pub symbols_of : Trees → List ℕ
  symbols_of none = []
  symbols_of (more u us) = symbols u ++ symbols_of us

-- those in the trees at these places
abbrev pub symbols_at : List Tree → List ℕ → List ℕ
symbols_at ts [] = []
symbols_at ts (i ∷ is) = symbols (tree_at ts i) ++ symbols_at ts is

abbrev pub clause_symbols : List Tree → Clause → List ℕ
clause_symbols ts c = symbols_at ts (places c.literals)
