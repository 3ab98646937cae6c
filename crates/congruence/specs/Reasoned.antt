-- A closure whose steps have reasons that a log tells.
use Rattle.std.specs.Prelude.{◌≡◌, ℕ, ◌+◌, ◌≤◌, ◌++◌, List, length, take, replicate, All, Contains, Result, OnOk}
use Rattle.literals.specs.Signed.{Signed}
use Rattle.smt_meaning.specs.declared.clauses.Atom.{Atom}
use Rattle.smt_meaning.specs.Declaration.{Declaration}
use Rattle.smt_meaning.specs.Term.{Tree}
use Rattle.point_closure.specs.declared.step.Step.{Step}
use Rattle.point_closure.specs.Closure.{AreRead}
use Rattle.congruence.specs.declared.congruence.Congruence.{Congruence}
use Rattle.congruence.specs.Recorded.{IsRecorded}
use Rattle.congruence.specs.Justified.{AreJustified}

-- the terms are read, and each step has a reason of the log that justifies it
pub record IsReasoned (ds : List Declaration) (ts : List Tree) (table : List Atom) (log : List Signed) (c : Congruence) : Type 0 where
  pub recorded : IsRecorded c
  pub read : AreRead ts c.closure.graph
  pub every : length ts + 2 ≤ length c.closure.graph
  pub justified : AreJustified ds ts table c.closure.steps.items c.reasons.items
  pub told : All (Contains log) c.reasons.items

-- the first of these steps are recorded, each for this reason
pub record IsPartly (old new : Congruence) (more : List Step) (reason : Signed) : Type 0 where
  pub count : ℕ
  pub within : count ≤ length more
  pub steps : new.closure.steps.items ≡ old.closure.steps.items ++ take count more
  pub reasons : new.reasons.items ≡ old.reasons.items ++ replicate count reason

-- these steps are recorded, each for this reason, or the first of them alone
pub record AddsSteps {T E : Type 0} (old new : Congruence) (more : List Step) (reason : Signed) (r : Result T E) : Type 0 where
  pub recorded : IsRecorded new
  pub graph : new.closure.graph ≡ old.closure.graph
  pub partly : IsPartly old new more reason
  pub ok : OnOk r (new.closure.steps.items ≡ old.closure.steps.items ++ more)
  pub reasons : OnOk r (new.reasons.items ≡ old.reasons.items ++ replicate (length more) reason)
