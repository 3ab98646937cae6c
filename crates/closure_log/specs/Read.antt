-- How far the terms of a part were read.
use Rattle.std.specs.Prelude.{◌≡◌, ℕ, Bool, true, not, List, [], ◌∷◌, ◌++◌, Contains, Option, Some, None, IfSome}
use Rattle.std.specs.List.{AllZip}
use Rattle.literals.specs.Signed.{Signed}
use Rattle.smt_meaning.specs.declared.clauses.Atom.{Atom}
use Rattle.smt_meaning.specs.declared.clauses.Atom.TheVariants.{Truth}
use Rattle.smt_meaning.specs.Term.{xor}
use Rattle.smt_meaning.specs.StackCommand.{Stack}
use Rattle.atom_form.specs.AtomTableNumbers.{IsAt}
use Rattle.search_port.specs.State.{IsOpenIn, AllFalseIn}
use Rattle.search_port.specs.Calls.{IsConflict}
use Rattle.search_port.specs.declared.budget.Lemma.{Lemma}
use Rattle.congruence.specs.Implied.{IsPressingLemma}
use Rattle.closure_log.specs.Seen.{state_of, IsSetting}
use Rattle.closure_log.specs.declared.read.Said.{Said}
use Rattle.closure_log.specs.declared.read.Said.TheVariants.{Nothing, Open, Told}
use Rattle.closure_log.specs.Odd.{is_odd, HasAgainst}
use Rattle.closure_log.specs.Parts.{IsWideXor, IsPlacedLog, TellsTruth}

-- the log tells no truth of the term
abbrev pub IsUntold : List Atom → List Signed → ℕ → Type 0
IsUntold table log p = (b : Bool) → TellsTruth table log p b → ⊥

-- the log tells no truth of one of these terms
abbrev pub LacksOne : List Atom → List Signed → List ℕ → Type 0
LacksOne table log ps = (p : ℕ) × Contains ps p × IsUntold table log p

-- the literal that the term is true is open
pub record IsOpenTruth (table : List Atom) (log : List Signed) (p : ℕ) (l : Signed) : Type 0 where
  pub at : IsAt table l.atom (Truth p)
  pub positive : l.positive ≡ true
  pub is_open : (m : Signed) → m.atom ≡ l.atom → IsOpenIn log m

-- the literal is told, and is on the truth of the term
pub record IsToldTruth (table : List Atom) (log : List Signed) (p : ℕ) (l : Signed) : Type 0 where
  pub at : IsAt table l.atom (Truth p)
  pub told : Contains log l

abbrev pub IsSaid : List Atom → List Signed → ℕ → Said → Type 0
IsSaid table log p Nothing = Contains table (Truth p) → ⊥
IsSaid table log p (Open l) = IsOpenTruth table log p l
IsSaid table log p (Told l) = IsToldTruth table log p l

-- the literal that an open term hasn't this truth
abbrev pub assumed : Option Signed → Bool → List Signed
assumed None b = []
assumed (Some l) b = record { atom = l.atom; positive = not b } ∷ []

-- the count with this truth of an open term
abbrev pub counted : Option Signed → Bool → Bool → Bool
counted None b odd = odd
counted (Some l) b odd = xor odd b

-- truths of these terms, each with a literal against it
pub record AreAgainst (table : List Atom) (ls : List Signed) (ps : List ℕ) (odd : Bool) : Type 0 where
  pub truths : List Bool
  pub against : AllZip (HasAgainst table ls) ps truths
  pub count : is_odd truths ≡ odd

-- an open one among these terms
pub record HasOpen (table : List Atom) (log : List Signed) (ps : List ℕ) (l : Signed) : Type 0 where
  pub place : ℕ
  pub among : Contains ps place
  pub is : IsOpenTruth table log place l

-- false literals against the truths of these terms, an odd count of them true or not, but for one that is open and may have either truth
pub record IsRead (table : List Atom) (log : List Signed) (ps : List ℕ) (ls : List Signed) (open_one : Option Signed) (odd : Bool) : Type 0 where
  pub is_false : AllFalseIn log ls
  pub has_open : IfSome open_one (HasOpen table log ps)
  pub against : (b : Bool) → AreAgainst table (ls ++ assumed open_one b) ps (counted open_one b odd)

-- wherever a part was read so, the clause gives the open term, or is false
abbrev pub PressesWhereRead : List Signed → Option Signed → Bool → Lemma → Type 0
PressesWhereRead ls open_one odd c =
    (s : Stack) (table : List Atom) (log : List Signed) (places : List ℕ) (p : ℕ) (is : List ℕ) → IsSetting s table → IsPlacedLog table log places → IsWideXor s.trees p is
    → IsRead table log (p ∷ is) ls open_one odd → IsPressingLemma (state_of s table log) c

-- wherever a part was read so, the clause is false
abbrev pub IsFalseWhereRead : List Signed → Lemma → Type 0
IsFalseWhereRead ls c =
    (s : Stack) (table : List Atom) (log : List Signed) (places : List ℕ) (p : ℕ) (is : List ℕ) → IsSetting s table → IsPlacedLog table log places → IsWideXor s.trees p is
    → IsRead table log (p ∷ is) ls None true → IsConflict (state_of s table log) c
