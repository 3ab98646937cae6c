-- What is written after one more reply.
use Rattle.std.proofs.Common.{arith, ◌≡◌, ℕ, ◌+◌, List, [], ◌∷◌, ◌++◌, take, append_assoc, Option, Some, None, Result, Ok, Err, refl, sym, ap, subst, ◌∙◌, append-nil, zero-add}
use Rattle.std.specs.Prelude.{IsErrAnd}
use Rattle.std.proofs.lemmas.Grind.{flat_map-append}
use Rattle.std.proofs.lemmas.List.Sums.{sum_by-append}
use Rattle.std.specs.Io.KnownBytes.{Appends}
use Rattle.ports.specs.Flow.{SinkTold, RoseBy, raised_by}
use Rattle.smt_meaning.specs.LegalJournal.{journal_text}
use Rattle.smt_meaning.specs.Text.{text}
use Rattle.smt_meaning.specs.declared.answers.Entry.{Entry}
use Rattle.smt_top.specs.Progress.{calls_for, journal_calls, Tallies, Writes, IsWritten, IsTorn, PutAfter, WrittenAfter, given}
use Rattle.smt_top.specs.declared.serving.Server.{Server}
use Rattle.smt_top.specs.declared.serving.Stop.{Stop}
use Rattle.smt_top.specs.declared.serving.Stop.TheVariants.{Memory as StopMemory, WriteFault as StopWriteFault}

raised-twice : (j k a : ℕ) → raised_by k (raised_by j a) ≡ raised_by (j + k) a
raised-twice j k a = omega arith

-- a count that rose twice rose by both
pub RoseBy-twice : (j k : ℕ) (a b c : Option ℕ) → RoseBy j a b → RoseBy k b c → RoseBy (j + k) a c
RoseBy-twice j k None b c p q = tt
RoseBy-twice j k (Some a) b c p q = let q' : RoseBy k (Some (raised_by j a)) c = subst (λ x. RoseBy k x c) p q in q' ∙ ap Some (raised-twice j k a)

raised-none : (a : ℕ) → a ≡ raised_by 0 a
raised-none a = omega arith

-- a count that stays rose by none
pub RoseBy-none : (a : Option ℕ) → RoseBy 0 a a
RoseBy-none None = tt
RoseBy-none (Some a) = ap Some (raised-none a)

pub Appends-twice : (before old new : Option (List ℕ)) (xs ys : List ℕ) → Appends before old xs → Appends old new ys → Appends before new (xs ++ ys)
Appends-twice None old new xs ys p q = tt
Appends-twice (Some b) None new xs ys p q = absurd p
Appends-twice (Some b) (Some o) None xs ys p q = absurd q
Appends-twice (Some b) (Some o) (Some n) xs ys p q = rw (q, p, append_assoc) refl

Appends-none : (a : Option (List ℕ)) → Appends a a []
Appends-none None = tt
Appends-none (Some a) = sym (append-nil a)

-- nothing is written by no call
pub Writes-none : (a : SinkTold) → Writes a a [] 0
Writes-none a = record { appended = Appends-none a.written; called = RoseBy-none a.calls }

pub Writes-twice : (before old new : SinkTold) (xs ys : List ℕ) (j k : ℕ) → Writes before old xs j → Writes old new ys k → Writes before new (xs ++ ys) (j + k)
Writes-twice before old new xs ys j k p q = record {
  appended = Appends-twice before.written old.written new.written xs ys p.appended q.appended;
  called = RoseBy-twice j k before.calls old.calls new.calls p.called q.called;
}

-- a text of which there is something takes a call
pub one_call : (text : List ℕ) → (text ≡ [] → ⊥) → calls_for text ≡ 1
one_call [] some = absurd (some refl)
one_call (x ∷ xs) some = refl

pub journal_text-push : (j : List Entry) (e : Entry) → journal_text (j ++ e ∷ []) ≡ journal_text j ++ text e.reply
journal_text-push j e = flat_map-append (λ (x : Entry). text x.reply) j (e ∷ []) ∙ ap (λ t. journal_text j ++ t) (append-nil (text e.reply))

pub journal_calls-push : (j : List Entry) (e : Entry) → journal_calls (j ++ e ∷ []) ≡ journal_calls j + calls_for (text e.reply)
journal_calls-push j e = sum_by-append (λ (x : Entry). calls_for (text x.reply)) j (e ∷ []) ∙ ap (λ n. journal_calls j + n) (zero-add (calls_for (text e.reply)))

pub written_more : (before old new : SinkTold) (j : List Entry) (e : Entry) → IsWritten before old j → Writes old new (text e.reply) (calls_for (text e.reply)) → IsWritten before new (j ++ e ∷ [])
written_more before old new j e p q =
    rw (journal_text-push, journal_calls-push) (Writes-twice before old new (journal_text j) (text e.reply) (journal_calls j) (calls_for (text e.reply)) p q)

pub written_part : (before old new : SinkTold) (j : List Entry) (e : Entry) (n : ℕ) → IsWritten before old j → Writes old new (take n (text e.reply)) (calls_for (text e.reply)) → IsTorn before new (j ++ e ∷ [])
written_part before old new j e n p q = record {
  front = j;
  last = e;
  taken = n;
  entries = refl;
  written = rw journal_calls-push (Writes-twice before old new (journal_text j) (take n (text e.reply)) (journal_calls j) (calls_for (text e.reply)) p q);
}

-- what is written after a put of an entry's text
pub written_after : {T : Type 0} (r : Result T Stop) (before old new : SinkTold) (j : List Entry) (e : Entry) (bytes : List ℕ) → bytes ≡ text e.reply
    → IsWritten before old j → PutAfter r old new bytes → WrittenAfter r before new (j ++ given r e)
written_after (Ok x) before old new j e bytes is p q = written_more before old new j e p (subst (λ b. Writes old new b (calls_for b)) is q)
written_after (Err StopMemory) before old new j e bytes is p q = absurd q
written_after (Err StopWriteFault) before old new j e bytes is p q = written_part before old new j e q.0 p (subst (λ b. Writes old new (take q.0 b) (calls_for b)) is q.1)

both_empty : (xs ys : List ℕ) → xs ++ ys ≡ [] → (xs ≡ []) × (ys ≡ [])
both_empty [] ys e = (refl, e)
both_empty (x ∷ xs) ys e = absurd cc

-- where entries have no text, neither have those of the front and those of the rest
pub silent_both : (xs ys : List Entry) → journal_text (xs ++ ys) ≡ [] → (journal_text xs ≡ []) × (journal_text ys ≡ [])
silent_both xs ys none = both_empty (journal_text xs) (journal_text ys) (sym (flat_map-append (λ (x : Entry). text x.reply) xs ys) ∙ none)

pub one_text : (e : Entry) → journal_text (e ∷ []) ≡ text e.reply
one_text e = append-nil (text e.reply)

-- a put never wants memory, so the entry was given
pub given_put : {T : Type 0} (r : Result T Stop) (old new : SinkTold) (bytes : List ℕ) (e : Entry) → PutAfter r old new bytes → given r e ≡ e ∷ []
given_put (Ok x) old new bytes e p = refl
given_put (Err StopMemory) old new bytes e p = absurd p
given_put (Err StopWriteFault) old new bytes e p = refl

-- memory was wanting before the entry was given
pub tally_kept : {T : Type 0} (r : Result T Stop) (server : Server) (j : List Entry) (e : Entry) → IsErrAnd r (λ why. why ≡ StopMemory) → Tallies server j → Tallies server (j ++ given r e)
tally_kept (Ok x) server j e is h = absurd is
tally_kept {T} (Err why) server j e is h = subst (λ (y : Stop). Tallies server (j ++ given {T = T} (Err y) e)) (sym is) (subst (λ (k : List Entry). Tallies server k) (sym (append-nil j)) h)

pub written_kept : {T : Type 0} (r : Result T Stop) (before now : SinkTold) (j : List Entry) (e : Entry) → IsErrAnd r (λ why. why ≡ StopMemory) → IsWritten before now j → WrittenAfter r before now (j ++ given r e)
written_kept (Ok x) before now j e is h = absurd is
written_kept {T} (Err why) before now j e is h =
    subst (λ (y : Stop). WrittenAfter {T = T} (Err y) before now (j ++ given {T = T} (Err y) e)) (sym is) (subst (λ (k : List Entry). IsWritten before now k) (sym (append-nil j)) h)
