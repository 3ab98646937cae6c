-- What a call is given where the search hasn't stopped, and what it leaves with its answer.
use Rattle.std.specs.Prelude.{◌≡◌, ◌<◌, ℕ, List, length}
use Rattle.smt_meaning.specs.declared.clauses.Atom.{Atom}
use Rattle.smt_meaning.specs.Atoms.{at_most_atom}
use Rattle.smt_meaning.specs.StackCommand.{Stack}
use Rattle.smt_meaning.specs.Term.{Tree, tree_at}
use Rattle.atom_form.specs.AtomTableNumbers.{IsAt}
use Rattle.search_port.specs.State.{TheoryState}
use Rattle.search_port.specs.Spending.{Spending}
use Rattle.search_port.specs.Calls.{Goes, InferredBy, CheckedBy}
use Rattle.search_port.specs.Pivots.{KeepsPivots}
use Rattle.search_port.specs.declared.theory.Inferred.{Inferred}
use Rattle.search_port.specs.declared.theory.Checked.{Checked}
use Rattle.model_build.specs.declared.given.Clash.{Clash}
use Rattle.theory_combine.specs.declared.held.Met.{Met}
use Rattle.theory_combine.specs.declared.parts.Parts.{Parts}
use Rattle.theory_combine.specs.declared.parts.Progress.{Progress}
use Rattle.theory_combine.specs.declared.step.Step.{Step}
use Rattle.sum_bounds.specs.Bounds.{AreWhole}
use Rattle.theory_combine.specs.Held.{AllFit, IsMet}
use Rattle.theory_combine.specs.Last.{IsLast}
use Rattle.theory_combine.specs.Pivots.{SpendsAll}
use Rattle.theory_combine.specs.Progress.{full_state, state, AreParts, IsProgress, IsUnderWay, Went}
use Rattle.theory_combine.specs.Steps.{IsStep}

-- ---- what is given

-- the search hasn't stopped
pub record IsReady (p : Parts) (w : Progress) : Type 0 where
  pub parts : AreParts p
  pub under_way : IsUnderWay p w

-- what a last check is given
pub record IsAtLast (p : Parts) (w : Progress) : Type 0 where
  pub ready : IsReady p w
  pub last : IsLast (state p w)

-- a last check in which the variables have whole values within all bounds, and these meet all that is told
pub record IsMetAtLast (p : Parts) (w : Progress) : Type 0 where
  pub at_last : IsAtLast p w
  pub fits : AllFit w.held.bounds
  pub whole : AreWhole w.held.bounds.bounds

-- the two applications are among the terms
abbrev pub IsClashIn : Stack → Clash → Type 0
IsClashIn s c = (c.first < length s.trees) × (c.second < length s.trees)

-- the bound that one term is at most another has this number
abbrev pub IsAtMostAt : List Tree → List Atom → ℕ → ℕ → ℕ → Type 0
IsAtMostAt trees atoms left right n = IsAt atoms n (at_most_atom trees (tree_at trees left) (tree_at trees right))

-- ---- what is left

-- the bounds were met: the search stands as before, but for values
pub record HasMet (p : Parts) (old new : Progress) (c : Spending) (m : Met) : Type 0 where
  pub ready : IsReady p new
  pub same : state p new ≡ state p old
  pub met : IsMet new.held.bounds (state p new) m
  pub spent : SpendsAll c m

-- what a call leaves, and that its answer is one
pub record Leaves (A : Type 0) (Answers : TheoryState → Spending → Spending → A → Type 0) (p : Parts) (old new : Progress) (b c : Spending) (answer : A) : Type 0 where
  pub went : Went p old new b c
  pub found : Answers (state p new) b c answer

abbrev pub Steps : Parts → Progress → Progress → Spending → Spending → Step → Type 0
Steps = Leaves Step IsStep

abbrev pub Infers : Parts → Progress → Progress → Spending → Spending → Inferred → Type 0
Infers = Leaves Inferred InferredBy

abbrev pub Checks : Parts → Progress → Progress → Spending → Spending → Checked → Type 0
Checks = Leaves Checked CheckedBy

-- what a call leaves, with the variables of the bounds
pub record WentOn (p : Parts) (old new : Progress) (b c : Spending) : Type 0 where
  pub progress : IsProgress p new
  pub goes : Goes (full_state p old) (full_state p new) b c
  pub pivots : KeepsPivots (full_state p old) (full_state p new) b c
