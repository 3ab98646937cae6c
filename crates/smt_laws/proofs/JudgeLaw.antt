-- Judging only adds to the signature.
use Rattle.std.proofs.Common.{◌≡◌, ℕ, List, [], ◌∷◌, ◌++◌, sym, ap, ◌∙◌, refl, Bool, true, false, Option, Some, None, nat_lt, append_assoc, append-nil}
use Rattle.std.specs.Prelude.{codes, bytes_eq}
use Rattle.smt_meaning.specs.declared.tokens.Token.TheVariants.{Symbol, Keyword}
use Rattle.smt_meaning.specs.Declaration.{Declaration}
use Rattle.smt_meaning.specs.declared.refusals.Refusal.{Refusal}
use Rattle.smt_meaning.specs.Term.{Tree}
use Rattle.smt_meaning.specs.Sexp.{Sexps, word, end, ◌▸◌}
use Rattle.smt_meaning.specs.Sorts.{Scope, Outcome, done, refused, Judging, go_on, ◌>>=◌, ◌>>◌, return, refuse, require, required, the_scope, note, declare, declare_in, most_symbols, Typed, Rules, name_by, judge_attributes, either}

-- the signature after has the one before as its beginning
abbrev pub Grows : {A : Type 0} → Scope → Outcome A → Type 0
Grows s (done a t) = (names : List Declaration) × (t.signature ≡ s.signature ++ names)
Grows s (refused r) = Unit {0}

pub record Growing {A : Type 0} (m : Judging A) : Type 0 where
  pub grows : (s : Scope) → Grows s (m s)

further : {B : Type 0} (s t : Scope) (names : List Declaration) → t.signature ≡ s.signature ++ names → (y : Outcome B) → Grows t y → Grows s y
further s t names e (done b u) w = (names ++ w.0, w.1 ∙ ap (λ xs. xs ++ w.0) e ∙ append_assoc s.signature names w.0)
further s t names e (refused r) w = tt

after_go_on : {A B : Type 0} (s : Scope) (x : Outcome A) (k : A → Judging B) → Grows s x → ((a : A) (t : Scope) → Grows t (k a t)) → Grows s (go_on x k)
after_go_on s (done a t) k h g = further s t h.0 h.1 (k a t) (g a t)
after_go_on s (refused r) k h g = tt

bind_growing : {A B : Type 0} {m : Judging A} {k : A → Judging B} → Growing m → ((a : A) → Growing (k a)) → Growing (m >>= k)
unfolding ◌>>=◌
bind_growing {m = m} {k = k} h g = record { grows = λ s. after_go_on s (m s) k (h.grows s) (λ a t. (g a).grows t) }

next_growing : {A B : Type 0} {m : Judging A} {n : Judging B} → Growing m → Growing n → Growing (m >> n)
unfolding ◌>>◌
next_growing {m = m} {n = n} h g = record { grows = λ s. after_go_on s (m s) (λ a. n) (h.grows s) (λ a t. g.grows t) }

return_growing : {A : Type 0} (a : A) → Growing (return a)
unfolding return
return_growing a = record { grows = λ s. ([], sym (append-nil s.signature)) }

refuse_growing : (A : Type 0) (r : Refusal) → Growing {A = A} (refuse r)
unfolding refuse
refuse_growing A r = record { grows = λ s. tt }

require_growing : (b : Bool) (r : Refusal) → Growing (require b r)
unfolding require return refuse
require_growing b r = by_cases b
  where
    by_cases : (c : Bool) → Growing (require c r)
    by_cases true = record { grows = λ s. ([], sym (append-nil s.signature)) }
    by_cases false = record { grows = λ s. tt }

scope_growing : Growing the_scope
unfolding the_scope
scope_growing = record { grows = λ s. ([], sym (append-nil s.signature)) }

note_growing : (ts : List Tree) → Growing (note ts)
unfolding note
note_growing ts = record { grows = λ s. ([], sym (append-nil s.signature)) }

declare_growing : (d : ℕ → Declaration) → Growing (declare d)
unfolding declare
declare_growing d = record { grows = λ s. go (d s.given) s (nat_lt s.given most_symbols) }
  where
    go : (e : Declaration) (s : Scope) (b : Bool) → Grows s (declare_in e b s)
    go e s true = (e ∷ [], refl)
    go e s false = tt

required_growing : {A : Type 0} (o : Option A) (r : Refusal) → Growing (required o r)
unfolding required
required_growing None r = refuse_growing _ r
required_growing (Some a) r = return_growing a

ruleset growing = (bind_growing, next_growing, return_growing, refuse_growing, require_growing, scope_growing, note_growing, declare_growing, required_growing)

first_growing : (r : Rules) (open_term : Bool) (t : Typed) (ss : Sexps) → Growing (name_by r open_term t ss)
first_growing r open_term t (word (Symbol n) ▸ rest) = bind_growing scope_growing (λ s. search (growing) depth 9)
first_growing r open_term t _ = search growing

either_growing : {A : Type 0} (b : Bool) (m n : Judging A) → Growing m → Growing n → Growing (either b m n)
either_growing true m n h g = h
either_growing false m n h g = g

pub attributes_growing : (r : Rules) (open_term : Bool) (t : Typed) (ss : Sexps) → Growing (judge_attributes r open_term t ss)
attributes_growing r open_term t end = search growing
attributes_growing r open_term t (word (Keyword k) ▸ rest) =
    either_growing (bytes_eq k (codes "named")) _ _ (next_growing (first_growing r open_term t rest) (attributes_growing r open_term t rest)) (attributes_growing r open_term t rest)
attributes_growing r open_term t (_ ▸ rest) = attributes_growing r open_term t rest
