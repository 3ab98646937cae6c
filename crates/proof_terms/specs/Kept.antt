-- How clauses are kept: each as an ascending list of the codes of its literals, where atoms have numbers.
use Rattle.std.specs.Prelude.{◌≡◌, ◌<◌, ◌+◌, ◌*◌, ℕ, Bool, true, false, List, [], ◌∷◌, ◌++◌, length, AllPairs, Contains, slice_index_or, refl}
use Rattle.std.specs.Coded.{Coded, code_by, coded×, coded_list, coded_ℕ}
use Rattle.smt_meaning.specs.contracts.clauses.Atom as atom_type
use Rattle.smt_meaning.specs.declared.clauses.Atom.{Atom}
use Rattle.smt_meaning.specs.declared.clauses.Literal.{Literal}

-- the atoms by their numbers, and the clauses by the numbers of their steps
pub record Kept : Type 0 where
  pub atoms : List Atom
  pub clauses : List (List ℕ)

abbrev pub kept_code : Coded Kept
kept_code =
    code_by (List Atom × List (List ℕ)) (coded× (coded_list atom_type.the_row.coded) (coded_list (coded_list coded_ℕ)))
    (λ (k : Kept). (k.atoms, k.clauses)) (λ p. record { atoms = p.0; clauses = p.1 }) (λ _. refl)

abbrev pub sign_code : Bool → ℕ
sign_code true = 1
sign_code false = 0

-- the code of a literal: twice the number of its atom, and one more where it is positive
pub record IsCodeOf (atoms : List Atom) (code : ℕ) (l : Literal) : Type 0 where
  pub number : ℕ
  pub within : number < length atoms
  pub code_is : code ≡ number * 2 + sign_code l.positive
  pub atom : (d : Atom) → slice_index_or atoms number d ≡ l.atom

-- one code for each literal of a clause, and for no other
pub record AreCodesOf (atoms : List Atom) (codes : List ℕ) (ls : List Literal) : Type 0 where
  pub coded : (l : Literal) → Contains ls l → (c : ℕ) × (IsCodeOf atoms c l × Contains codes c)
  pub of_literals : (c : ℕ) → Contains codes c → (l : Literal) × (IsCodeOf atoms c l × Contains ls l)

-- ascending codes
abbrev pub AreAscending : List ℕ → Type 0
AreAscending cs = AllPairs (λ (a b : ℕ). a < b) cs

pub record IsKept (atoms : List Atom) (codes : List ℕ) (ls : List Literal) : Type 0 where
  pub ascending : AreAscending codes
  pub are_codes : AreCodesOf atoms codes ls

-- a clause of each step
abbrev pub AreKept : List Atom → List (List ℕ) → List (List Literal) → Type 0
AreKept atoms [] [] = Unit {0}
AreKept atoms (cs ∷ rest) (ls ∷ more) = IsKept atoms cs ls × AreKept atoms rest more
AreKept atoms _ _ = ⊥

abbrev pub KeepsAll : Kept → List (List Literal) → Type 0
KeepsAll k clauses = AreKept k.atoms k.clauses clauses

-- atoms keep their numbers
abbrev pub GoOn : List Atom → List Atom → Type 0
GoOn old new = (more : List Atom) × (new ≡ old ++ more)

-- no atom has two numbers
abbrev pub AreApart : List Atom → Type 0
AreApart atoms = AllPairs (λ (a b : Atom). a ≡ b → ⊥) atoms
