-- What is settled, and what isn't.
use Rattle.std.proofs.Common.{◌≡◌, ℕ, Bool, true, false, List, [], ◌++◌, refl, sym, ◌∙◌, subst, append-nil}
use Rattle.smt_meaning.specs.Reading.{First, Answer, Unread, MayFollow, IsSettled}
use Rattle.smt_reader.specs.Scan.{IsUnsettled}
use Rattle.smt_reader.proofs.Answers.{one_answer}

pub nothing_may_follow : (finished : Bool) → MayFollow finished []
nothing_may_follow true = refl
nothing_may_follow false = tt

-- the answer for the bytes alone
first_now : (u : Unread) (a : Answer) → IsSettled u a → First u.place u.bytes a
first_now u a settled = subst (λ bytes. First u.place bytes a) (append-nil u.bytes) (settled [] (nothing_may_follow u.finished))

pub settled_once : (u : Unread) (a b : Answer) → IsSettled u a → IsSettled u b → a ≡ b
settled_once u a b s t = one_answer u.place u.bytes a b (first_now u a s) (first_now u b t)

-- Where different answers come first with different bytes behind, none is settled.
pub unsettled : (bytes more others : List ℕ) (a b : ℕ → Answer) → ((place : ℕ) → First place (bytes ++ more) (a place)) → ((place : ℕ) → First place (bytes ++ others) (b place))
    → ((place : ℕ) → a place ≡ b place → ⊥) → IsUnsettled bytes
unsettled bytes more others a b f g differ place c settled =
    let is_a = one_answer place (bytes ++ more) c (a place) (settled more tt) (f place) in
    let is_b = one_answer place (bytes ++ others) c (b place) (settled others tt) (g place) in
    differ place (sym is_a ∙ is_b)
