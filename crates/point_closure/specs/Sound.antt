-- Every pair that is pending has its reason, and so has every union.
use Rattle.std.specs.Prelude.{◌≡◌, ℕ, ◌<◌, List, All, length}
use Rattle.point_closure.specs.declared.classes.Union.{Union}
use Rattle.point_closure.specs.declared.classes.Reason.TheVariants.{Alike, Step as AtStep}
use Rattle.point_closure.specs.declared.step.Step.{Step}
use Rattle.point_closure.specs.Closure.{Point}
use Rattle.point_closure.specs.Explained.{IsMerge, AreCongruent}
use Rattle.point_closure.specs.declared.pending.Pending.{Pending}

-- two points that are to be in one class, for a reason
pub record IsPending (ps : List Point) (us : List Union) (log : List Step) (p : Pending) : Type 0 where
  pub left_within : p.left < length ps
  pub right_within : p.right < length ps
  pub alike : p.reason ≡ Alike → AreCongruent ps us (length us) p.left p.right
  pub merge : (s : ℕ) → p.reason ≡ AtStep s → IsMerge log s p.left p.right

-- whatever log gives reasons to the first pairs gives them to the second
abbrev pub KeepsPending : List Point → List Union → List Pending → List Pending → Type 0
KeepsPending ps us xs ys = (log : List Step) → All (IsPending ps us log) xs → All (IsPending ps us log) ys

-- the reason of a union that is to come
pub record IsJustified (ps : List Point) (us : List Union) (log : List Step) (u : Union) : Type 0 where
  pub alike : u.reason ≡ Alike → AreCongruent ps us (length us) u.from u.to
  pub merge : (s : ℕ) → u.reason ≡ AtStep s → IsMerge log s u.from u.to
