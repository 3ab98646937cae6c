-- What the turns of a worker in a race add to what its pass knows.
use Rattle.std.specs.Prelude.{◌≡◌, ◌⊎◌, ℕ, ◌+◌, ◌<◌, List, [], ◌∷◌, ◌++◌, false, length, slice_index_or}
use Rattle.std.proofs.Common.{subst, refl}
use Rattle.smt_meaning.specs.declared.clauses.Atom.{Atom}
use Rattle.smt_meaning.specs.StackCommand.{Stack}
use Rattle.smt_laws.specs.Flat.{flat}
use Rattle.search_port.specs.State.{Reading}
use Rattle.search_port.specs.Spending.{Spending}
use Rattle.search_port.specs.declared.budget.Lemma.{Lemma}
use Rattle.search_port.specs.declared.budget.Cause.{Cause}
use Rattle.search_port.specs.declared.budget.Cause.TheVariants.{Cancelled}
use Rattle.race_model.specs.declared.shelf.Shelf.{Ghosts}
use Rattle.race_model.specs.Base.{Base}
use Rattle.std.specs.Coded.{Coded, code_by, coded×, coded_list}
use Rattle.smt_meaning.specs.Term.{Tree}
use Rattle.smt_meaning.specs.TreeCode.{coded_trees}
use Rattle.smt_meaning.specs.Stack.{Frame}
use Rattle.scope_stack.specs.StackCode.{coded_frame}
use Rattle.race_cell.specs.declared.action.Action.{Action}
use Rattle.race_cell.specs.declared.action.Action.TheVariants.{Share, TakeBatch, Win, End}
use Rattle.race_cell.specs.declared.race.Pass.{Pass}
use Rattle.race_cell.specs.declared.view.Claim.{Claim}
use Rattle.race_cell.specs.Passes.{claim_of, IsSamePass}
use Rattle.worker.specs.Shown.{clause_of}
use Rattle.worker.specs.Endings.{IsHeard}
use Rattle.worker.specs.declared.export.Sent.{Sent}
use Rattle.worker.specs.declared.export.Sent.TheVariants.{Stands, Full, Waits}

-- what a race over the stack stands on
abbrev pub base_of_stack : Stack → Base
base_of_stack s = record { trees = s.trees; frames = s.frames }

-- a base as lists: how a proof stores one. No definition speaks of it.
abbrev pub coded_base : Coded Base
coded_base = code_by (List Tree × List Frame) (coded× coded_trees (coded_list coded_frame)) (λ (b : Base). (b.trees, b.frames)) (λ p. record { trees = p.0; frames = p.1 }) (λ b. refl)

-- by what clauses are read before any atom is numbered
abbrev pub first_reading : Stack → Reading
first_reading s = record { trees = s.trees; frames = flat s.frames; table = []; closed = false }

-- ---- calls, one after another

-- each call leads from where the one before it led
abbrev pub Leads : {X : Type 0} → (X → Spending → X → Type 0) → X → List Spending → X → Type 0
Leads R x [] y = y ≡ x
Leads {X} R x (b ∷ bs) y = (z : X) × R x b z × Leads R z bs y

pub leads_both : {X : Type 0} (R : X → Spending → X → Type 0) (h i j : X) (ms ns : List Spending) → Leads R h ms i → Leads R i ns j → Leads R h (ms ++ ns) j
leads_both R h i j [] ns p q = subst (λ x. Leads R x ns j) p q
leads_both R h i j (m ∷ ms) ns p q = (p.0, p.1, leads_both R p.0 i j ms ns p.2 q)

-- ---- what a worker does

-- it shares or takes, and neither wins nor ends
abbrev pub IsWork : Action → Type 0
IsWork (Share w c) = Unit {0}
IsWork (TakeBatch w) = Unit {0}
IsWork (Win w) = ⊥
IsWork (End w) = ⊥

-- these are added to the worker's own actions, and the looks that it made are so many more
pub record Adds (more : List Action) (times : ℕ) (c d : Claim) : Type 0 where
  pub worker : d.worker ≡ c.worker
  pub own : d.own ≡ c.own ++ more
  pub looks : d.looks ≡ c.looks + times

-- the clause, written out by a list of atoms at this level
abbrev pub IsShare : ℕ → ℕ → Lemma → List Action → Type 0
IsShare w level c es = (table : List Atom) × (es ≡ Share w (clause_of table level c.literals) ∷ [])

-- the next of the clauses to share is shared, or none is
abbrev pub SharesNext : ℕ → ℕ → List Lemma → ℕ → List Action → ℕ → Type 0
SharesNext w level short sent es sent' =
    ((es ≡ []) × (sent' ≡ sent)) ⊎ ((sent < length short) × (sent' ≡ sent + 1) × ((d : Lemma) → IsShare w level (slice_index_or short sent d) es))

-- a batch is taken, or none is
abbrev pub TakesOne : ℕ → List Action → Type 0
TakesOne w es = (es ≡ []) ⊎ (es ≡ TakeBatch w ∷ [])

-- one try to share a clause
abbrev pub Tries : List Atom → ℕ → Lemma → Claim → Sent → Claim → Type 0
Tries table level c old Stands new = Adds (Share old.worker (clause_of table level c.literals) ∷ []) 0 old new
Tries table level c old Full new = Adds [] 0 old new
Tries table level c old Waits new = Adds [] 0 old new

-- one turn of a worker: a look at the winner, perhaps the next clause to share, and perhaps a batch
pub record Turned {S : Type 0} {G : Ghosts S} (level : ℕ) (p : Pass S G) (sent : ℕ) (b : Spending) (q : Pass S G) (sent' : ℕ) : Type 0 where
  pub same : IsSamePass p q
  pub shared : List Action
  pub taken : List Action
  pub adds : Adds (shared ++ taken) 1 (claim_of p) (claim_of q)
  pub shares : SharesNext (claim_of p).worker level b.short sent shared sent'
  pub takes : TakesOne (claim_of p).worker taken

-- the worker has read who has won
abbrev pub HasRead : Claim → Cause → Type 0
HasRead c cause = (w : ℕ) × (cause ≡ Cancelled w) × (c.found ≡ w + 1)

-- turns of one worker, by the budget at each, from its pass and how many of its clauses were shared on to another pass and number
abbrev pub TakesTurns : {S : Type 0} {G : Ghosts S} → ℕ → Pass S G → ℕ → List Spending → Pass S G → ℕ → Type 0
TakesTurns level p sent [] q sent' = (q ≡ p) × (sent' ≡ sent)
TakesTurns {S} {G} level p sent (b ∷ bs) q sent' = (r : Pass S G) × (n : ℕ) × Turned level p sent b r n × TakesTurns level r n bs q sent'

-- at the end nothing is added, or a win
abbrev pub MayWin : Claim → Claim → Type 0
MayWin c d = (d.own ≡ c.own) ⊎ (d.own ≡ c.own ++ Win c.worker ∷ [])

-- a worker's part in a race: between any two units of its search, and any two clauses to share, it took a turn; so it has shared the first of these clauses, in order; and then it may have won
pub record HasRaced {S : Type 0} {G : Ghosts S} (level share : ℕ) (p q : Pass S G) : Type 0 where
  pub last : Pass S G
  pub sent : ℕ
  pub turns : IsHeard share (λ calls. TakesTurns level p 0 calls last sent)
  pub ends : MayWin (claim_of last) (claim_of q)
