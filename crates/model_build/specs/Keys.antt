-- How the applications are gone through: the first of those with like arguments is kept, and found by a hash. No public contract speaks of it.
use Rattle.std.specs.Prelude.{◌≡◌, ℕ, ◌<◌, ◌≤◌, ◌/◌, ◌^◌, List, [], ◌∷◌, map, length, All, AllPairs, Contains, if◌then◌else◌}
use Rattle.smt_meaning.specs.declared.terms.Head.{Head}
use Rattle.smt_meaning.specs.declared.terms.Head.TheVariants.{Numeral, Theory, Symbol, Place}
use Rattle.smt_meaning.specs.Term.{Tree, tree_at}
use Rattle.term_store.specs.Hash.{mixed, value_state}
use Rattle.model_build.specs.declared.given.Given.{Given}
use Rattle.model_build.specs.declared.given.Given.TheVariants.{Unmarked, InRange, PastRange}
use Rattle.model_build.specs.Given.{given_at, has_past, head_of, arguments_given, IsApplication, AreAlike}

-- ---- hashes

-- the state of a hash after what one more place is given
abbrev pub given_state : ℕ → Given → ℕ
given_state state Unmarked = mixed state 2
given_state state (InRange v) = value_state state v
given_state state PastRange = mixed state 3

abbrev pub givens_state : ℕ → List Given → ℕ
givens_state state [] = state
givens_state state (g ∷ gs) = givens_state (given_state state g) gs

-- of a symbol and what its arguments are given: the upper half of the last state
unfoldable pub key_hash : ℕ → List Given → ℕ
key_hash f gs = (if has_past gs then mixed (mixed 5 f) 1 else givens_state (mixed 6 f) gs) / 2 ^ 32

-- ---- the first applications

abbrev pub symbol_of : Head → ℕ
symbol_of (Numeral n) = 0
symbol_of (Theory o) = 0
symbol_of (Symbol f) = f
symbol_of (Place k) = 0

abbrev pub symbol_at : List Tree → ℕ → ℕ
symbol_at ts p = symbol_of (head_of (tree_at ts p))

abbrev pub hash_at : List Tree → List Given → ℕ → ℕ
hash_at ts gs p = key_hash (symbol_at ts p) (arguments_given ts gs p)

-- an application, its symbol and its arguments' places
pub record IsApplicationOf (ts : List Tree) (gs : List Given) (p f : ℕ) (is : List ℕ) : Type 0 where
  pub application : IsApplication ts gs f p
  pub arguments : arguments_given ts gs p ≡ map (given_at gs) is
  pub below : All (λ i. i < length gs) is

-- the application at a place is of this symbol, with arguments for which a table gives what it gives for these
pub record HasKey (ts : List Tree) (gs : List Given) (f : ℕ) (arguments : List Given) (q : ℕ) : Type 0 where
  pub symbol : symbol_at ts q ≡ f
  pub alike : AreAlike arguments (arguments_given ts gs q)

abbrev pub HaveOneKey : List Tree → List Given → ℕ → ℕ → Type 0
HaveOneKey ts gs p q = HasKey ts gs (symbol_at ts p) (arguments_given ts gs p) q

-- an application that is kept for another, which is given the same
pub record IsKeptFor (ts : List Tree) (gs : List Given) (ps : List ℕ) (p : ℕ) : Type 0 where
  pub kept : ℕ
  pub member : Contains ps kept
  pub key : HaveOneKey ts gs p kept
  pub same : given_at gs p ≡ given_at gs kept

-- of the applications below a place those that are kept, no two with one key
pub record AreFirst (ts : List Tree) (gs : List Given) (top : ℕ) (ps : List ℕ) : Type 0 where
  pub few : length ps ≤ top
  pub applications : All (λ p. IsApplication ts gs (symbol_at ts p) p) ps
  pub apart : AllPairs (λ p q. HaveOneKey ts gs p q → ⊥) ps
  pub all : (f p : ℕ) → p < top → IsApplication ts gs f p → IsKeptFor ts gs ps p
