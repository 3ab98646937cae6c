-- Two applications that clash where values are settled, and the pair of Ints that they differ by.
use Rattle.std.specs.Prelude.{◌≡◌, ℕ, ◌<◌, Bool, true, false, List, map, length, All, slice_index_or}
use Rattle.smt_meaning.specs.declared.values.Value.{Value}
use Rattle.smt_meaning.specs.declared.terms.Head.TheVariants.{Symbol}
use Rattle.smt_meaning.specs.StackCommand.{Stack}
use Rattle.check_atoms.specs.OfStack.{IsNode}
use Rattle.model_eval.specs.Walk.{is_marked}
use Rattle.sum_bounds.specs.Bounds.{AreWhole}
use Rattle.congruence.specs.declared.congruence.Congruence.{Congruence}
use Rattle.model_build.specs.declared.given.Given.{Given}
use Rattle.model_build.specs.declared.given.Clash.{Clash}
use Rattle.model_build.specs.Given.{IsClash, given_at, arguments_given, has_past}
use Rattle.closure_log.specs.Whole.{AreInOneClass}
use Rattle.exact_model.specs.Exact.{AreGivenExactly}
use Rattle.theory_combine.specs.declared.parts.Pair.{Pair}
use Rattle.theory_combine.specs.declared.parts.Parts.{Parts}
use Rattle.theory_combine.specs.declared.parts.Progress.{Progress}
use Rattle.theory_combine.specs.Held.{AllFit}
use Rattle.theory_combine.specs.Ready.{IsAtLast}
use Rattle.theory_combine.specs.Settling.{AreSettledValues}

-- places are given the exact values of settled ones
pub record AreSettledGiven (p : Parts) (w : Progress) (c : Congruence) (gs : List Given) : Type 0 where
  pub values : List Value
  pub settled : AreSettledValues p w c values
  pub exact : AreGivenExactly p.stack.now.trees p.marks.items settled.check.sorts values gs

-- a last check in which the variables have whole values within all bounds, and places are given values that are settled
pub record HasSettledGiven (p : Parts) (w : Progress) (c : Congruence) (gs : List Given) : Type 0 where
  pub at_last : IsAtLast p w
  pub fits : AllFit w.held.bounds
  pub whole : AreWhole w.held.bounds.bounds
  pub given : AreSettledGiven p w c gs

-- ---- no public contract speaks of it

-- a marked application of a declared symbol, whose arguments, at these places, are marked
pub record IsMarkedApplication (s : Stack) (marks : List Bool) (gs : List Given) (p f : ℕ) (is : List ℕ) : Type 0 where
  pub node : IsNode s.trees p (Symbol f) is
  pub marked : is_marked marks p ≡ true
  pub arguments : All (λ i. is_marked marks i ≡ true) is
  pub given : arguments_given s.trees gs p ≡ map (given_at gs) is

-- two terms at one place of both lists that are in two classes
pub record AreApartAt (c : Congruence) (is js : List ℕ) (p : Pair) : Type 0 where
  pub place : ℕ
  pub within : place < length is
  pub left : p.left ≡ slice_index_or is place 0
  pub right : p.right ≡ slice_index_or js place 0
  pub apart : AreInOneClass c p.left p.right → ⊥

-- two applications that clash, where no argument of the first is past the range
pub record IsClashInRange (p : Parts) (gs : List Given) (c : Clash) : Type 0 where
  pub clash : IsClash p.stack.now.trees gs c.first c.second
  pub in_range : has_past (arguments_given p.stack.now.trees gs c.first) ≡ false
