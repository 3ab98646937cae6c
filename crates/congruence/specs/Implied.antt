-- Clauses that give a literal from what was told.
use Rattle.std.specs.Prelude.{◌≡◌, ◌+◌, ◌<◌, List, length, All, Contains}
use Rattle.literals.specs.Signed.{Signed, opposite}
use Rattle.smt_meaning.specs.Declaration.{Declaration}
use Rattle.search_port.specs.State.{TheoryState, IsOpenIn, IsPressing}
use Rattle.search_port.specs.Calls.{IsLemma}
use Rattle.search_port.specs.declared.budget.Lemma.{Lemma}
use Rattle.point_closure.specs.declared.step.Step.{Step}
use Rattle.point_closure.specs.declared.step.Step.TheVariants.{Merge, Differ}
use Rattle.point_closure.specs.Closure.{Point, Pair, Equal}
use Rattle.congruence.specs.declared.congruence.Congruence.{Congruence}
use Rattle.congruence.specs.declared.implied.Refuted.{Refuted}
use Rattle.congruence.specs.Justified.{IsJustified}
use Rattle.congruence.specs.Reasoned.{IsReasoned}
use Rattle.congruence.specs.Clauses.{IsToldAtOneLevel}

-- the step doesn't hold where the two points have one value: it says that they differ, or that the one has the truth value that the other isn't
abbrev pub Opposes : Step → Refuted → Type 0
Opposes (Differ i j) r = (r.left ≡ i) × (r.right ≡ j)
Opposes (Merge i j) r = (r.left ≡ i) × (r.right + j ≡ 1)

-- the two points are equal, and the step doesn't hold where they have one value
pub record IsRefuted (ps : List Point) (pairs : List Pair) (s : Step) (r : Refuted) : Type 0 where
  pub left : r.left < length ps
  pub right : r.right < length ps
  pub equal : Equal ps pairs r.left r.right
  pub opposes : Opposes s r

pub record IsOneRefuted (ps : List Point) (pairs : List Pair) (ss : List Step) (r : Refuted) : Type 0 where
  pub step : Step
  pub among : Contains ss step
  pub is : IsRefuted ps pairs step r

-- a clause of the theory all of whose literals are false but at most one, which is open
pub record IsPressingLemma (t : TheoryState) (c : Lemma) : Type 0 where
  pub lemma : IsLemma t.reading c
  pub pressing : IsPressing t.log c.literals

-- whatever tells the reasons of the closure, and what the negation of an open literal says: the clause presses
abbrev pub Presses : Congruence → Signed → List Step → Lemma → Type 0
Presses c l ss lemma =
    (ds : List Declaration) (t : TheoryState) → IsToldAtOneLevel ds t → IsReasoned ds t.reading.trees t.reading.table t.log c → l.atom < length t.reading.table → IsOpenIn t.log l
    → All (IsJustified ds t.reading.trees t.reading.table (opposite l)) ss → IsPressingLemma t lemma
