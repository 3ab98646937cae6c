-- The laws of a theory's calls.
use Rattle.std.specs.Prelude.{◌≡◌, ℕ, ◌+◌, ◌<◌, ◌≤◌, true, false, List, [], ◌∷◌, ◌++◌, length, All, Contains}
use Rattle.std.specs.List.{range_with_len}
use Rattle.literals.specs.Signed.{Signed, literal_true}
use Rattle.smt_meaning.specs.declared.values.Table.{Table}
use Rattle.smt_meaning.specs.Interpretation.{AreTablesFor, meaning}
use Rattle.smt_meaning.specs.Model.{Fits}
use Rattle.smt_meaning.specs.Stack.{signature_of, assertions_of}
use Rattle.search_port.specs.State.{Reading, TheoryState, IsGrown, ComparesInts, atom_at, truth, AllFalseIn, IsPressing, IsMadeTrue}
use Rattle.search_port.specs.Valid.{IsTheoryClause}
use Rattle.search_port.specs.Spending.{Spending}
use Rattle.search_port.specs.declared.budget.Lemma.{Lemma}
use Rattle.search_port.specs.declared.budget.Spent.{Spent}
use Rattle.search_port.specs.declared.budget.Spent.TheVariants.{Learnt, Numbered, Pivot}
use Rattle.search_port.specs.declared.budget.Cause.{Cause}
use Rattle.search_port.specs.declared.budget.Cause.TheVariants.{Units, Memory, Cancelled}
use Rattle.search_port.specs.declared.theory.Asserted.{Asserted}
use Rattle.search_port.specs.declared.theory.Asserted.TheVariants.{Taken, Conflict as AssertConflict, Ended as AssertEnded}
use Rattle.search_port.specs.declared.theory.Inferred.{Inferred}
use Rattle.search_port.specs.declared.theory.Inferred.TheVariants.{Quiet, Conflict as InferConflict, Lemmas as InferLemmas, Ended as InferEnded}
use Rattle.search_port.specs.declared.theory.Checked.{Checked}
use Rattle.search_port.specs.declared.theory.Checked.TheVariants.{Fine, Conflict as CheckConflict, Lemmas as CheckLemmas, Ended as CheckEnded}

-- ---- units

-- a unit that a theory may spend: an atom that is newly numbered, of equalities one of Ints alone, or a pivot
abbrev pub IsTheoryUnit : Reading → Reading → Spent → Type 0
IsTheoryUnit old new (Learnt c) = ⊥
IsTheoryUnit old new (Numbered n) = (length old.table ≤ n) × (n < length new.table) × ComparesInts new.trees new.frames (atom_at new.table n)
IsTheoryUnit old new (Pivot l) = Unit {0}

abbrev pub IsNoPivot : Spent → Type 0
IsNoPivot (Learnt c) = Unit {0}
IsNoPivot (Numbered n) = Unit {0}
IsNoPivot (Pivot l) = ⊥

-- the numbers of the atoms that units number
abbrev pub numbers : List Spent → List ℕ
numbers [] = []
numbers (Learnt c ∷ us) = numbers us
numbers (Numbered n ∷ us) = n ∷ numbers us
numbers (Pivot l ∷ us) = numbers us

-- what a call that may spend units keeps and adds
pub record Goes (old new : TheoryState) (b c : Spending) : Type 0 where
  -- atoms are only added, and the literals asserted stay
  pub grown : IsGrown old.reading new.reading
  pub log : new.log ≡ old.log
  -- units are only added, and the rest of the budget stays
  pub added : List Spent
  pub budget : c ≡ record { units = b.units ++ added; limit = b.limit; bound = b.bound; counts_learnt = b.counts_learnt; keeps_lines = b.keeps_lines; share = b.share; short = b.short }
  pub units : All (IsTheoryUnit old.reading new.reading) added
  pub in_bound : length b.units + length added ≤ b.bound
  -- pivots are units only where their lines are kept
  pub no_pivots : b.keeps_lines ≡ false → All IsNoPivot added
  -- each new atom is a unit, once and in order
  pub numbered : numbers added ≡ range_with_len (length old.reading.table) (length grown.more)
  -- so each is paid for
  pub paid : length new.reading.table ≤ length old.reading.table + length added

-- ---- answers

abbrev pub IsLemma : Reading → Lemma → Type 0
IsLemma r c = IsTheoryClause r c.level c.literals

-- a clause of the theory that is false under the literals asserted
pub record IsConflict (t : TheoryState) (c : Lemma) : Type 0 where
  pub clause : IsLemma t.reading c
  pub is_false : AllFalseIn t.log c.literals

-- the cause with which a call ends
abbrev pub EndsBy : TheoryState → Spending → Cause → Type 0
EndsBy t b Units = length b.units ≡ b.bound
EndsBy t b Memory = Unit {0}
EndsBy t b (Cancelled w) = ⊥

-- the literal joins those asserted, unless the call ended
abbrev pub AssertedBy : TheoryState → TheoryState → Signed → Asserted → Type 0
AssertedBy old new l Taken = new ≡ record old { log = old.log ++ l ∷ [] }
AssertedBy old new l (AssertConflict c) = (new ≡ record old { log = old.log ++ l ∷ [] }) × IsConflict new c
AssertedBy old new l (AssertEnded Units) = ⊥
AssertedBy old new l (AssertEnded Memory) = new ≡ old
AssertedBy old new l (AssertEnded (Cancelled w)) = ⊥

-- lemmas of the theory, one of which has this fact
pub record AreLemmas (t : TheoryState) (cs : List Lemma) (P : List Signed → Type 0) : Type 0 where
  pub lemmas : All (IsLemma t.reading) cs
  pub one : Lemma
  pub among : Contains cs one
  pub is : P one.literals

-- lemmas of the theory, one of which has this fact where no unit was spent
pub record AreNews (t : TheoryState) (b c : Spending) (cs : List Lemma) (P : List Signed → Type 0) : Type 0 where
  pub all : All (IsLemma t.reading) cs
  pub news : length c.units ≤ length b.units → AreLemmas t cs P

-- what propagation by the theory finds: nothing, a conflict, or lemmas one of which has all literals false but at most one
abbrev pub InferredBy : TheoryState → Spending → Spending → Inferred → Type 0
InferredBy t b c Quiet = Unit {0}
InferredBy t b c (InferConflict d) = IsConflict t d
InferredBy t b c (InferLemmas cs) = AreNews t b c cs (IsPressing t.log)
InferredBy t b c (InferEnded cause) = EndsBy t c cause

-- tables for the declared functions that make each asserted literal true, and under which every number in an assertion is in the range
pub record IsModelOf (t : TheoryState) (tables : List Table) : Type 0 where
  pub tables_for : AreTablesFor (signature_of t.reading.frames) tables
  pub makes_true : All (λ l. literal_true (truth t.reading (meaning tables)) l ≡ true) t.log
  pub fits : All (Fits (meaning tables)) (assertions_of t.reading.frames)

-- what a last check finds: a model, a conflict, or lemmas one of which isn't made true
abbrev pub CheckedBy : TheoryState → Spending → Spending → Checked → Type 0
CheckedBy t b c (Fine tables) = IsModelOf t tables
CheckedBy t b c (CheckConflict d) = IsConflict t d
CheckedBy t b c (CheckLemmas cs) = AreNews t b c cs (λ ls. IsMadeTrue t.log ls → ⊥)
CheckedBy t b c (CheckEnded cause) = EndsBy t c cause
