-- Clauses of differences, as conflicts of what is held, and as clauses by which a literal follows.
use Rattle.std.proofs.Common.{◌<◌, List, length, refl}
use Rattle.std.specs.Prelude.{All, Contains, Option, Some, None, Result, Ok, Err, IfOk, IfSome, MatchOption}
use Rattle.literals.specs.Signed.{Signed}
use Rattle.smt_meaning.specs.declared.clauses.Atom.{Atom}
use Rattle.smt_meaning.specs.Stack.{signature_of}
use Rattle.smt_meaning.specs.StackCommand.{Stack}
use Rattle.search_port.specs.State.{IsOpenIn}
use Rattle.search_port.specs.Calls.{IsConflict}
use Rattle.search_port.specs.declared.budget.Lemma.{Lemma}
use Rattle.smt_laws.specs.Flat.{FlatSaysTheSame}
use Rattle.congruence.specs.Implied.{IsPressingLemma}
use Rattle.closure_log.specs.Seen.{state_of, IsSetting}
use Rattle.difference_logic.specs.Clauses.{IsBroken, IsImpliedBy}
use Rattle.theory_combine.specs.declared.held.Held.{Held}
use Rattle.theory_combine.specs.Held.{IsHeld}
use Rattle.theory_combine.proofs.Holding.{at_one_level}

some_of : {A : Type 0} {P Q : A → Type 0} (o : Option A) → ((a : A) → P a → Q a) → IfSome o P → IfSome o Q
some_of None f h = tt
some_of (Some a) f h = f a h

pub ok_some : {A E : Type 0} {P Q : A → Type 0} (r : Result (Option A) E) → ((a : A) → P a → Q a) → IfOk r (λ o. IfSome o P) → IfOk r (λ o. IfSome o Q)
ok_some (Ok o) f h = some_of o f h
ok_some (Err e) f h = tt

match_of : {A : Type 0} {X : Type 0} {P Q : A → Type 0} (o : Option A) → X → ((a : A) → P a → Q a) → IfSome o P → MatchOption o X Q
match_of None x f h = x
match_of (Some a) x f h = f a h

pub ok_match : {A E : Type 0} {X : Type 0} {P Q : A → Type 0} (r : Result (Option A) E) → X → ((a : A) → P a → Q a) → IfOk r (λ o. IfSome o P) → IfOk r (λ o. MatchOption o X Q)
ok_match (Ok o) x f h = match_of o x f h
ok_match (Err e) x f h = tt

pub broken_met : FlatSaysTheSame → (s : Stack) (table : List Atom) (h : Held) (ls : List Signed) (c : Lemma) → IsSetting s table → IsHeld s table h → All (Contains h.closure.log.items) ls → IsBroken table ls c
    → IsConflict (state_of s table h.closure.log.items) c
broken_met flat_law s table h ls c setting held told is =
    is (signature_of s.frames) (state_of s table h.closure.log.items) refl (at_one_level flat_law s table h setting held) told

pub implied_met : FlatSaysTheSame → (s : Stack) (table : List Atom) (h : Held) (l : Signed) (ls : List Signed) (c : Lemma) → IsSetting s table → IsHeld s table h → l.atom < length table → IsOpenIn h.closure.log.items l
    → All (Contains h.closure.log.items) ls → IsImpliedBy table l ls c → IsPressingLemma (state_of s table h.closure.log.items) c
implied_met flat_law s table h l ls c setting held number is_open told is =
    is (signature_of s.frames) (state_of s table h.closure.log.items) refl (at_one_level flat_law s table h setting held) number is_open told
