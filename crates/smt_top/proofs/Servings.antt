-- What the calls of a server come to, one after another.
use Rattle.std.proofs.Common.{◌≡◌, ◌∙◌, ℕ, ◌≤◌, ◌↔◌, Bool, true, false, IsTrue, List, [], ◌∷◌, ◌++◌, append_assoc, append-nil, refl, sym, ap, subst, MatchOption, Option, Some, None, IfOk, IfErr, Result, Ok, Err}
use Rattle.std.specs.Prelude.{⊤}
use Rattle.std.specs.Bool.{then_some}
use Rattle.smt_meaning.specs.Reading.{IsSettled, Takes, ready, fault}
use Rattle.smt_meaning.specs.declared.settings.Settings.{Settings}
use Rattle.smt_meaning.specs.MayReply.{Replies}
use Rattle.smt_meaning.specs.LegalJournal.{IsExit, journal_text}
use Rattle.smt_meaning.specs.declared.tokens.Token.{Token}
use Rattle.smt_meaning.specs.declared.tokens.FaultKind.{FaultKind}
use Rattle.smt_meaning.specs.declared.answers.Entry.{Entry}
use Rattle.smt_meaning.specs.declared.answers.Reply.{Reply}
use Rattle.smt_meaning.specs.declared.answers.Reply.TheVariants.{Error}
use Rattle.smt_meaning.specs.declared.errors.Error.TheVariants.{Fault}
use Rattle.smt_meaning.specs.declared.replies.Kept.{Kept}
use Rattle.smt_meaning.specs.declared.replies.Kept.TheVariants.{Nothing}
use Rattle.ports.specs.Flow.{SinkTold}
use Rattle.session.specs.Taken.{every_stack}
use Rattle.smt_top.specs.Ledgers.{Gains}
use Rattle.smt_top.specs.Progress.{Run, run_of, HasAnswered, IsFront, Comes, IsWritten, WrittenAfter, Served, Tallies, given}
use Rattle.smt_top.specs.declared.serving.Server.{Server}
use Rattle.smt_top.specs.declared.serving.Stage.{Stage}
use Rattle.smt_top.specs.declared.serving.Stage.TheVariants.{Asks, Complete}
use Rattle.smt_top.specs.declared.serving.Stop.{Stop}
use Rattle.smt_top.specs.declared.serving.Stop.TheVariants.{Memory, WriteFault}
use Rattle.smt_top.proofs.Written.{silent_both}
use Rattle.smt_top.proofs.Turns.{entry_of, next, faults, reply_cut, fault_cut, idle_cut}

pub Gains-none : (a : Option (List Entry)) → Gains a [] a
Gains-none None = tt
Gains-none (Some a) = ap Some (sym (append-nil a))

pub Gains-twice : (a b c : Option (List Entry)) (xs ys : List Entry) → Gains a xs b → Gains b ys c → Gains a (xs ++ ys) c
Gains-twice None b c xs ys p q = tt
Gains-twice (Some a) b c xs ys p q = let q' : Gains (Some (a ++ xs)) ys c = subst (λ x. Gains x ys c) p q in q' ∙ ap Some (append_assoc a xs ys)

-- what an empty list gained is all that it has
pub gained_all : (old new xs : List Entry) → old ≡ [] → Gains (Some old) xs (Some new) → xs ≡ new
gained_all old new xs none p = some_is xs new (subst (λ o. Some new ≡ Some (o ++ xs)) none p) where
  some_is : (xs new : List Entry) → Some new ≡ Some xs → xs ≡ new
  some_is xs new e = cc

-- a server with the same counts has counted the same
pub tally_same : (old new : Server) → new.count ≡ old.count → new.is_faulty ≡ old.is_faulty → (entries : List Entry) → Tallies old entries → Tallies new entries
tally_same old new same marked entries t = record { count = same ∙ t.count; faulty = rw marked t.faulty }

-- there are no more entries than bytes read, whether the run stops or not
pub numbered_next : (stop : Bool) (count place : ℕ) → count ≤ place → MatchOption (then_some stop Complete) (count ≤ place) (λ stage. stage ≡ Asks → count ≤ place)
numbered_next true count place l = λ _. l
numbered_next false count place l = l

-- the entries of a call, at their place in the journal
module _ (old : Server) (reply : Reply) (kept : Kept) where
  abbrev pub entered : Entry
  entered = record { number = old.count; reply = reply; kept = kept }

  placed : (f : Entry → List Entry) (entries : List Entry) → Tallies old entries → entries ++ f entered ≡ entries ++ f (entry_of entries reply kept)
  placed f entries t = ap (λ n. entries ++ f (record { number = n; reply = reply; kept = kept })) t.count

-- what is said of a call that answers all that comes next
abbrev pub Next : Settings → List ℕ → Option Stage → Run → Type 0
Next s input r run = MatchOption r (HasAnswered s input run) (λ stage. Comes s stage input run)

abbrev pub Still : Settings → List ℕ → ⊤ → Run → Type 0
Still s input u run = HasAnswered s input run

pub served_none : {K : Type 0} (old : Server) (sink : K) (told : SinkTold) (has : Option (List Entry)) → Served (Ok tt) old old sink sink told told has has Still
served_none old sink told has = record {
  added = [];
  gained = Gains-none has;
  tally = λ entries t. subst (Tallies old) (sym (append-nil entries)) t;
  silent = λ _. refl;
  written = λ before entries w. subst (IsWritten before told) (sym (append-nil entries)) w;
  comes = λ s input entries t had. subst (λ es. HasAnswered s input (run_of old es)) (sym (append-nil entries)) had;
  cut = λ s input entries t had. tt;
}

pub served_on : {T K : Type 0} (result : Result T Stop) (old mid new : Server) (sink sink1 sink2 : K) (told told1 told2 : SinkTold) (has has1 has2 : Option (List Entry)) (After : Settings → List ℕ → T → Run → Type 0)
    → Served (Ok tt) old mid sink sink1 told told1 has has1 Still → Served result mid new sink1 sink2 told1 told2 has1 has2 After → Served result old new sink sink2 told told2 has has2 After
served_on result old mid new sink sink1 sink2 told told1 told2 has has1 has2 After p q = record {
  added = p.added ++ q.added;
  gained = Gains-twice has has1 has2 p.added q.added p.gained q.gained;
  tally = λ entries t. subst (Tallies new) (append_assoc entries p.added q.added) (q.tally (entries ++ p.added) (p.tally entries t));
  silent = λ none. let parts = silent_both p.added q.added none in q.silent parts.1 ∙ p.silent parts.0;
  written = λ before entries w. subst (WrittenAfter result before told2) (append_assoc entries p.added q.added) (q.written before (entries ++ p.added) (p.written before entries w));
  comes = λ s input entries t had.
      subst (λ es. IfOk result (λ r. After s input r (run_of new es))) (append_assoc entries p.added q.added)
      (q.comes s input (entries ++ p.added) (p.tally entries t) (p.comes s input entries t had));
  cut = λ s input entries t had.
      subst (λ es. IfErr result (λ _. IsFront s input new.reader.finished es)) (append_assoc entries p.added q.added)
      (q.cut s input (entries ++ p.added) (p.tally entries t) (p.comes s input entries t had));
}

module _ {T U K : Type 0} (old new : Server) (sink sink_now : K) (told told_now : SinkTold) (has has_now : Option (List Entry)) (After : Settings → List ℕ → T → Run → Type 0) (Then : Settings → List ℕ → U → Run → Type 0) where
  pub served_as : (r : T) (u : U) → ((s : Settings) (input : List ℕ) (run : Run) → After s input r run → Then s input u run)
      → Served (Ok r) old new sink sink_now told told_now has has_now After → Served (Ok u) old new sink sink_now told told_now has has_now Then
  served_as r u turn p = record {
    added = p.added;
    gained = p.gained;
    tally = p.tally;
    silent = p.silent;
    written = p.written;
    comes = λ s input entries t had. turn s input (run_of new (entries ++ p.added)) (p.comes s input entries t had);
    cut = p.cut;
  }

  pub served_cut : (stop : Stop) → Served (Err stop) old new sink sink_now told told_now has has_now After → Served (Err stop) old new sink sink_now told told_now has has_now Then
  served_cut stop p = record {
    added = p.added;
    gained = p.gained;
    tally = p.tally;
    silent = p.silent;
    written = λ before entries w. torn_as stop before (entries ++ p.added) (p.written before entries w);
    comes = λ s input entries t had. tt;
    cut = p.cut;
  } where
    torn_as : (stop : Stop) (before : SinkTold) (entries : List Entry) → WrittenAfter {T = T} (Err stop) before told_now entries → WrittenAfter {T = U} (Err stop) before told_now entries
    torn_as Memory before entries w = w
    torn_as WriteFault before entries w = w

-- a call that gave nothing
module _ {T K : Type 0} (old new : Server) (sink : K) (told : SinkTold) (has : Option (List Entry)) (After : Settings → List ℕ → T → Run → Type 0) (same : new.count ≡ old.count) (marked : new.is_faulty ≡ old.is_faulty) where
  tally_none : (entries : List Entry) → Tallies old entries → Tallies new (entries ++ [])
  tally_none entries t = subst (Tallies new) (sym (append-nil entries)) (tally_same old new same marked entries t)

  pub served_idle : (r : T) → ((s : Settings) (input : List ℕ) (entries : List Entry) → HasAnswered s input (run_of old entries) → After s input r (run_of new entries))
      → Served (Ok r) old new sink sink told told has has After
  served_idle r stays = record {
    added = [];
    gained = Gains-none has;
    tally = tally_none;
    silent = λ _. refl;
    written = λ before entries w. subst (IsWritten before told) (sym (append-nil entries)) w;
    comes = λ s input entries t had. subst (λ es. After s input r (run_of new es)) (sym (append-nil entries)) (stays s input entries had);
    cut = λ s input entries t had. tt;
  }

  pub served_short : new.reader.finished ≡ old.reader.finished → Served (Err Memory) old new sink sink told told has has After
  served_short still = record {
    added = [];
    gained = Gains-none has;
    tally = tally_none;
    silent = λ _. refl;
    written = λ before entries w. subst (IsWritten before told) (sym (append-nil entries)) w;
    comes = λ s input entries t had. tt;
    cut = λ s input entries t had. idle_cut s (run_of old entries) (run_of new (entries ++ [])) still (append-nil entries) input had;
  }

-- a call that answers an s-expression
module _ {K : Type 0} (old new : Server) (sink sink_now : K) (told told_now : SinkTold) (has has_now : Option (List Entry)) (ts : List Token) (reply : Reply) (kept : Kept) (stop : Bool)
    (settled : IsSettled old.reader (ready ts)) (takes : Takes old.reader ts new.reader) (replies : Replies every_stack old.session ts reply kept new.session) (both : IsTrue stop ↔ IsExit ts) where
  pub reply_served : Gains has (entered old reply kept ∷ []) has_now → ((entries : List Entry) → Tallies old entries → Tallies new (entries ++ entered old reply kept ∷ []))
      → (journal_text (entered old reply kept ∷ []) ≡ [] → sink_now ≡ sink)
      → ((before : SinkTold) (entries : List Entry) → IsWritten before told entries → IsWritten before told_now (entries ++ entered old reply kept ∷ []))
      → Served (Ok (then_some stop Complete)) old new sink sink_now told told_now has has_now Next
  reply_served gained tally silent written = record {
    added = entered old reply kept ∷ [];
    gained = gained;
    tally = tally;
    silent = silent;
    written = written;
    comes = λ s input entries t had.
        next s (run_of old entries) (run_of new (entries ++ entered old reply kept ∷ [])) ts reply kept settled takes replies (placed old reply kept (λ e. e ∷ []) entries t) stop both input had;
    cut = λ s input entries t had. tt;
  }

  pub reply_torn : (T : Type 0) (why : Stop) → Gains has (given {T = T} (Err why) (entered old reply kept)) has_now
      → ((entries : List Entry) → Tallies old entries → Tallies new (entries ++ given {T = T} (Err why) (entered old reply kept)))
      → (journal_text (given {T = T} (Err why) (entered old reply kept)) ≡ [] → sink_now ≡ sink)
      → ((before : SinkTold) (entries : List Entry) → IsWritten before told entries → WrittenAfter {T = T} (Err why) before told_now (entries ++ given {T = T} (Err why) (entered old reply kept)))
      → Served {T = T} (Err why) old new sink sink_now told told_now has has_now (λ s input r run. ⊤)
  reply_torn T why gained tally silent written = record {
    added = given {T = T} (Err why) (entered old reply kept);
    gained = gained;
    tally = tally;
    silent = silent;
    written = written;
    comes = λ s input entries t had. tt;
    cut = λ s input entries t had.
        reply_cut T s (run_of old entries) (run_of new (entries ++ given {T = T} (Err why) (entered old reply kept))) ts reply kept stop why settled takes replies both
        (placed old reply kept (λ e. given {T = T} (Err why) e) entries t) input had;
  }

-- a call that answers a fault
module _ {K : Type 0} (old new : Server) (sink sink_now : K) (told told_now : SinkTold) (has has_now : Option (List Entry)) (kind : FaultKind) (at : ℕ)
    (settled : IsSettled old.reader (fault kind at)) (same : new.reader ≡ old.reader) where
  abbrev told_fault : Entry
  told_fault = entered old (Error (Fault kind at)) Nothing

  pub fault_served : Gains has (told_fault ∷ []) has_now → ((entries : List Entry) → Tallies old entries → Tallies new (entries ++ told_fault ∷ []))
      → (journal_text (told_fault ∷ []) ≡ [] → sink_now ≡ sink)
      → ((before : SinkTold) (entries : List Entry) → IsWritten before told entries → IsWritten before told_now (entries ++ told_fault ∷ []))
      → Served (Ok (Some Complete)) old new sink sink_now told told_now has has_now Next
  fault_served gained tally silent written = record {
    added = told_fault ∷ [];
    gained = gained;
    tally = tally;
    silent = silent;
    written = written;
    comes = λ s input entries t had.
        faults s (run_of old entries) (run_of new (entries ++ told_fault ∷ [])) kind at settled same (placed old (Error (Fault kind at)) Nothing (λ e. e ∷ []) entries t) input had;
    cut = λ s input entries t had. tt;
  }

  pub fault_torn : (T : Type 0) (why : Stop) → Gains has (given {T = T} (Err why) told_fault) has_now
      → ((entries : List Entry) → Tallies old entries → Tallies new (entries ++ given {T = T} (Err why) told_fault))
      → (journal_text (given {T = T} (Err why) told_fault) ≡ [] → sink_now ≡ sink)
      → ((before : SinkTold) (entries : List Entry) → IsWritten before told entries → WrittenAfter {T = T} (Err why) before told_now (entries ++ given {T = T} (Err why) told_fault))
      → Served {T = T} (Err why) old new sink sink_now told told_now has has_now (λ s input r run. ⊤)
  fault_torn T why gained tally silent written = record {
    added = given {T = T} (Err why) told_fault;
    gained = gained;
    tally = tally;
    silent = silent;
    written = written;
    comes = λ s input entries t had. tt;
    cut = λ s input entries t had.
        fault_cut T s (run_of old entries) (run_of new (entries ++ given {T = T} (Err why) told_fault)) kind at why settled same
        (placed old (Error (Fault kind at)) Nothing (λ e. given {T = T} (Err why) e) entries t) input had;
  }
