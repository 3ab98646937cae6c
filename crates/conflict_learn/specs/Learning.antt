-- What is learnt from a false clause.
use Rattle.std.specs.Prelude.{◌≡◌, ◌≢◌, ℕ, ◌<◌, ◌≤◌, ◌-◌, Bool, true, List, [], ◌∷◌, All, Contains}
use Rattle.literals.specs.Signed.{Signed, opposite, some_true}
use Rattle.smt_meaning.specs.Forced.{Forces}
use Rattle.clause_store.specs.declared.trail.Step.{Step}
use Rattle.clause_store.specs.Trail.{IsOpen, up_to}
use Rattle.clause_store.specs.Stored.{Kept, Stored, IsQuiet}
use Rattle.clause_store.specs.Found.{HasKept}
use Rattle.conflict_learn.specs.declared.learn.Learnt.{Learnt}
use Rattle.conflict_learn.specs.declared.learn.Learnt.TheVariants.{Clause, Empty}

-- what a learner has learnt: the clause, and the ids of the clauses that it comes from
pub record Lesson : Type 0 where
  pub literals : List Signed
  pub premises : List ℕ

-- ---- premises

-- the kept clauses of these ids are true
abbrev pub PremisesTrue : (ℕ → Bool) → List Kept → List ℕ → Type 0
PremisesTrue values clauses ids = (c : Kept) → Contains clauses c → Contains ids c.id → some_true values c.literals ≡ true

-- a clause is kept under this id
abbrev pub IsKeptId : List Kept → ℕ → Type 0
IsKeptId clauses id = HasKept clauses id (λ ls. Unit {0})

-- a premise of this level
pub record HasPremiseAt (clauses : List Kept) (ids : List ℕ) (level : ℕ) : Type 0 where
  pub premise : Kept
  pub kept : Contains clauses premise
  pub among : Contains ids premise.id
  pub at_level : premise.level ≡ level

-- the premises are kept clauses, the clause is true wherever they are, and its level is the greatest of theirs
pub record ComesFrom (clauses : List Kept) (ids : List ℕ) (level : ℕ) (ls : List Signed) : Type 0 where
  pub are_kept : All (IsKeptId clauses) ids
  pub true_wherever : (values : ℕ → Bool) → PremisesTrue values clauses ids → some_true values ls ≡ true
  pub within : (c : Kept) → Contains clauses c → Contains ids c.id → c.level ≤ level
  pub greatest : HasPremiseAt clauses ids level

-- the literal stands in a premise
pub record IsDrawn (clauses : List Kept) (ids : List ℕ) (l : Signed) : Type 0 where
  pub premise : Kept
  pub kept : Contains clauses premise
  pub among : Contains ids premise.id
  pub has : Contains premise.literals l

-- ---- depths

-- the literal is false by a step of this depth
pub record IsFalseAt (steps : List Step) (at : ℕ) (l : Signed) : Type 0 where
  pub step : Step
  pub on : Contains steps step
  pub literal : step.literal ≡ opposite l
  pub depth : step.depth ≡ at

-- by a step of at most this depth
pub record IsFalseUpTo (steps : List Step) (most : ℕ) (l : Signed) : Type 0 where
  pub step : Step
  pub on : Contains steps step
  pub literal : step.literal ≡ opposite l
  pub depth : step.depth ≤ most

-- the greatest depth of these literals, the first of which has it; 0 where there is none
abbrev pub IsGreatestDepth : List Step → List Signed → ℕ → Type 0
IsGreatestDepth steps [] depth = depth ≡ 0
IsGreatestDepth steps (l ∷ ls) depth = IsFalseAt steps depth l × All (IsFalseUpTo steps depth) ls

-- no two of these literals have one atom
abbrev pub HaveOwnAtoms : List Signed → Type 0
HaveOwnAtoms [] = Unit {0}
HaveOwnAtoms (l ∷ ls) = All (λ m. m.atom ≢ l.atom) ls × HaveOwnAtoms ls

-- ---- what is learnt

-- the greatest depth of the false clause's literals is this one, and isn't 0
pub record IsDeepest (steps : List Step) (ls : List Signed) (depth : ℕ) : Type 0 where
  pub all : All (IsFalseUpTo steps depth) ls
  pub some : Signed
  pub has : Contains ls some
  pub at_depth : IsFalseAt steps depth some
  pub above : 0 < depth

pub record IsLearnt (s : Stored) (id : ℕ) (ids : List ℕ) (ls : List Signed) (level back : ℕ) : Type 0 where
  pub comes : ComesFrom s.clauses ids level ls
  pub drawn : All (IsDrawn s.clauses ids) ls
  pub own_atoms : HaveOwnAtoms ls
  -- the greatest depth of its literals, which the first alone has, is that of the false clause
  pub first : Signed
  pub rest : List Signed
  pub is : ls ≡ first ∷ rest
  pub deepest : ℕ
  pub of_clause : HasKept s.clauses id (λ ms. IsDeepest s.trail.steps ms deepest)
  pub at_deepest : IsFalseAt s.trail.steps deepest first
  pub above : back < deepest
  pub back_to : IsGreatestDepth s.trail.steps rest back
  -- at each depth below, the first literal is open
  pub is_open : (depth : ℕ) → depth < deepest → IsOpen (up_to depth s.trail.steps) first
  -- clauses that were quiet before the decision of that depth don't force it
  pub unforced : (known : List (List Signed)) → All (IsQuiet (up_to (deepest - 1) s.trail.steps)) known → Forces opposite known ls → ⊥

abbrev pub LearntBy : Stored → ℕ → Lesson → Learnt → Type 0
LearntBy s id lesson (Empty level) =
    ComesFrom s.clauses lesson.premises level [] × (lesson.literals ≡ []) × HasKept s.clauses id (All (IsFalseAt s.trail.steps 0))
LearntBy s id lesson (Clause level back) = IsLearnt s id lesson.premises lesson.literals level back
