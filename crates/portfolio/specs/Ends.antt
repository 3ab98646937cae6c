-- How checks end without a limit.
use Rattle.std.specs.Prelude.{◌≡◌, ◌<◌, ◌^◌, true, List, length, ℤ, All, Contains}
use Rattle.smt_meaning.specs.declared.clauses.Atom.{Atom}
use Rattle.smt_meaning.specs.declared.reports.Unit.{Unit as Spent}
use Rattle.smt_meaning.specs.declared.reports.Cause.TheVariants.{Memory, Units}
use Rattle.smt_meaning.specs.declared.reports.Report.{Report}
use Rattle.smt_meaning.specs.Term.{Tree}
use Rattle.smt_meaning.specs.Stack.{Frame}
use Rattle.smt_meaning.specs.CheckAtoms.{IsFirstAtom}
use Rattle.smt_meaning.specs.Kinds.{has_no_integers, is_propositional}
use Rattle.smt_meaning.specs.Report.{is_unlimited}
use Rattle.report_laws.specs.Boxed.{AreBoxed}
use Rattle.theory_port.specs.declared.decider.Verdict.{Verdict}
use Rattle.theory_port.specs.declared.decider.Verdict.TheVariants.{Sat, Unsat, Unknown}

-- a model, or none, or each worker shows want of memory
abbrev pub EndsByMemory : Verdict → Type 0
EndsByMemory (Sat i) = Unit {0}
EndsByMemory Unsat = Unit {0}
EndsByMemory (Unknown rs) = All (λ (r : Report). r.cause ≡ Memory) rs

-- without a limit and without integers, want of memory alone ends a check
abbrev pub MemoryAloneEnds : List Frame → ℤ → Verdict → Type 0
MemoryAloneEnds frames limit v = has_no_integers frames ≡ true → is_unlimited limit ≡ true → EndsByMemory v

-- so where all assertions are propositional
abbrev pub MemoryAloneEndsBoolean : List Frame → ℤ → Verdict → Type 0
MemoryAloneEndsBoolean frames limit v = is_propositional frames ≡ true → is_unlimited limit ≡ true → EndsByMemory v

-- ---- boxes

-- a list of fewer than 2^40 atoms has each of the check's
pub record HasFewAtoms (ts : List Tree) (frames : List Frame) : Type 0 where
  pub atoms : List Atom
  pub each : (a : Atom) → IsFirstAtom ts frames a → Contains atoms a
  pub few : length atoms < 2 ^ 40

-- it doesn't show spent units
abbrev pub IsNotSpent : Report → Type 0
IsNotSpent r = (us : List Spent) → r.cause ≡ Units us → ⊥

-- a model, or none, or each worker shows a number that left the range, or want of memory
abbrev pub EndsByRangeOrMemory : Verdict → Type 0
EndsByRangeOrMemory (Sat i) = Unit {0}
EndsByRangeOrMemory Unsat = Unit {0}
EndsByRangeOrMemory (Unknown rs) = All IsNotSpent rs

-- so without a limit, where each Int leaf has a box and a check has few atoms
abbrev pub BoxedIsNotSpent : List Tree → List Frame → ℤ → Verdict → Type 0
BoxedIsNotSpent ts frames limit v = AreBoxed ts frames → HasFewAtoms ts frames → is_unlimited limit ≡ true → EndsByRangeOrMemory v
