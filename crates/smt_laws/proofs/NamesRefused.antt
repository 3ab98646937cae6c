-- A question gives no name: each is refused there.
use Rattle.std.proofs.Common.{Bool}
use Rattle.smt_meaning.specs.declared.tokens.Token.TheVariants.{Symbol}
use Rattle.smt_meaning.specs.Sexp.{Sexps, word, end, ◌▸◌}
use Rattle.smt_meaning.specs.Sorts.{Scope, Outcome, done, refused, Judging, go_on, ◌>>=◌, ◌>>◌, return, refuse, require, the_scope, Typed, name_by}
use Rattle.smt_meaning.specs.StackCommand.{in_question}

abbrev pub IsRefused : {A : Type 0} → Outcome A → Type 0
IsRefused (done a t) = ⊥
IsRefused (refused r) = Unit {0}

pub first_refused : {A B : Type 0} (x : Outcome A) (k : A → Judging B) → IsRefused x → IsRefused (go_on x k)
first_refused (done a t) k h = absurd h
first_refused (refused r) k h = tt

pub name_refused : (o : Bool) (t : Typed) (ss : Sexps) (s : Scope) → IsRefused (name_by in_question o t ss s)
unfolding ◌>>=◌ ◌>>◌ return refuse require the_scope
name_refused o t end s = tt
name_refused o t (word (Symbol n) ▸ rest) s = tt
name_refused o t (_ ▸ rest) s = tt
