-- A clause by which an open bound follows is a lemma that presses.
use Rattle.std.proofs.Common.{List, sym}
use Rattle.std.specs.Prelude.{Option, Some, None, IfSome}
use Rattle.smt_meaning.specs.declared.clauses.Atom.{Atom}
use Rattle.smt_meaning.specs.Stack.{signature_of}
use Rattle.smt_meaning.specs.StackCommand.{Stack}
use Rattle.search_port.specs.declared.budget.Lemma.{Lemma}
use Rattle.smt_laws.specs.Flat.{FlatSaysTheSame}
use Rattle.congruence.specs.Implied.{IsPressingLemma}
use Rattle.closure_log.specs.Seen.{state_of, IsSetting}
use Rattle.bound_log.specs.Implied.{IsImplied}
use Rattle.theory_combine.specs.declared.held.Held.{Held}
use Rattle.theory_combine.specs.Held.{IsHeld}
use Rattle.theory_combine.proofs.Holding.{at_one_level}

pub if_some : {A : Type 0} {P Q : A → Type 0} (o : Option A) → ((a : A) → P a → Q a) → IfSome o P → IfSome o Q
if_some None f h = tt
if_some (Some a) f h = f a h

pub implied_met : FlatSaysTheSame → (s : Stack) (table : List Atom) (h : Held) (c : Lemma) → IsSetting s table → IsHeld s table h → IsImplied h.bounds c → IsPressingLemma (state_of s table h.closure.log.items) c
implied_met flat_law s table h c setting held implied =
    let both = implied.lemma (signature_of s.frames) (state_of s table h.closure.log.items) held.knows (sym held.same) (at_one_level flat_law s table h setting held) in
    record { lemma = both.0; pressing = both.1 }
