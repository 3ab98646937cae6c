-- What is held, and what bounds break.
use Rattle.std.proofs.Common.{◌≡◌, ◌∙◌, ℕ, List, [], ◌∷◌, ◌++◌, length, take, sym, ap}
use Rattle.std.proofs.lemmas.List.{take_at}
use Rattle.literals.specs.Signed.{Signed}
use Rattle.smt_meaning.specs.declared.clauses.Atom.{Atom}
use Rattle.smt_meaning.specs.Stack.{signature_of}
use Rattle.smt_meaning.specs.StackCommand.{Stack}
use Rattle.search_port.specs.State.{TheoryState}
use Rattle.search_port.specs.Calls.{AssertedBy, IsConflict}
use Rattle.search_port.specs.declared.budget.Cause.{Cause}
use Rattle.search_port.specs.declared.budget.Cause.TheVariants.{Units, Memory, Cancelled}
use Rattle.search_port.specs.declared.theory.Asserted.TheVariants.{Ended as AssertEnded}
use Rattle.search_port.specs.declared.budget.Lemma.{Lemma}
use Rattle.smt_laws.specs.Flat.{SaysTheSame, FlatSaysTheSame}
use Rattle.congruence.specs.Clauses.{IsToldAtOneLevel}
use Rattle.closure_log.specs.Seen.{state_of, IsSetting}
use Rattle.bound_log.specs.Told.{State}
use Rattle.bound_log.specs.Atoms.{Knows}
use Rattle.bound_log.specs.Reporting.{IsClause}
use Rattle.theory_combine.specs.declared.held.Held.{Held}
use Rattle.theory_combine.specs.declared.held.Met.{Met}
use Rattle.theory_combine.specs.declared.held.Met.TheVariants.{Fits, Conflict, Past, Spent, Ended}
use Rattle.theory_combine.specs.Held.{IsHeld, IsMet, IsMetBy}

pub at_one_level : FlatSaysTheSame → (s : Stack) (table : List Atom) (h : Held) → IsSetting s table → IsHeld s table h → IsToldAtOneLevel (signature_of s.frames) (state_of s table h.closure.log.items)
at_one_level flat_law s table h setting held =
    let same : SaysTheSame s.frames = flat_law s.frames in
    record {
      one_level = same.every_level;
      declares = same.signature;
      atoms = setting.declared;
      within = held.told.numbered;
      consistent = held.told.consistent;
    }

-- what the bounds have is a conflict of what is held, or a grid of its atoms
pub met : FlatSaysTheSame → (s : Stack) (table : List Atom) (h : Held) (b : State) (m : Met) → IsSetting s table → (held : IsHeld s table h) → Knows table b → b.log ≡ h.bounds.log
    → IsMetBy b table m → IsMet b (state_of s table h.closure.log.items) m
met flat_law s table h b Fits setting held knows log by = by
met flat_law s table h b (Conflict c) setting held knows log by =
    by.conflict (signature_of s.frames) (state_of s table h.closure.log.items) knows (sym (log ∙ held.same)) (at_one_level flat_law s table h setting held)
met flat_law s table h b (Past g) setting held knows log by = by
met flat_law s table h b Spent setting held knows log by = tt
met flat_law s table h b Ended setting held knows log by = tt

-- a clause that the log breaks is one
pub clause_met : FlatSaysTheSame → (s : Stack) (table : List Atom) (h : Held) (c : Lemma) → IsSetting s table → IsHeld s table h → IsClause h.bounds c → IsConflict (state_of s table h.closure.log.items) c
clause_met flat_law s table h c setting held clause =
    clause.conflict (signature_of s.frames) (state_of s table h.closure.log.items) held.knows (sym held.same) (at_one_level flat_law s table h setting held)

-- a call that ended took nothing
pub ended_same : (t u : TheoryState) (l : Signed) (cause : Cause) → AssertedBy t u l (AssertEnded cause) → u.log ≡ t.log
ended_same t u l Units h = absurd h
ended_same t u l Memory h = ap (λ (v : TheoryState). v.log) h
ended_same t u l (Cancelled w) h = absurd h

-- the front of a list with one more
pub front_of : (ls : List Signed) (l : Signed) (n : ℕ) → n ≡ length ls → take n (ls ++ l ∷ []) ≡ ls
front_of ls l n e = take_at ls (l ∷ []) n (sym e)
