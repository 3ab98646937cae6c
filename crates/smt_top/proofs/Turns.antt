-- What a turn does to a run.
use Rattle.std.proofs.Common.{◌≡◌, ℕ, ◌+◌, ◌<◌, List, [], ◌∷◌, ◌++◌, length, append_assoc, refl, sym, ap, subst, ◌∙◌, inl, inr, arith, length-append, append-nil, add-zero, Bool, true, false, IsTrue, ◌↔◌, MatchOption, Option, Some, None, IfSome, IfErr, Result, Ok, Err, ◌≤◌}
use Rattle.std.specs.Io.KnownBytes.{Consumes, Keeps, IsAtEnd}
use Rattle.std.specs.Bool.{then_some}
use Rattle.smt_meaning.specs.Reading.{Unread, Answer, MayFollow, IsSettled, Takes, ready, fault, end}
use Rattle.smt_meaning.specs.declared.settings.Settings.{Settings}
use Rattle.smt_meaning.specs.State.{start}
use Rattle.smt_meaning.specs.MayReply.{Replies}
use Rattle.smt_meaning.specs.LegalJournal.{Moment, beginning, Answers, IsExit, GoesOn, IsLast, Answered, Runs, IsLegal, IsLegalSoFar, IsStopped, AnswersSettled}
use Rattle.smt_meaning.specs.declared.tokens.Token.{Token}
use Rattle.smt_meaning.specs.declared.answers.Entry.{Entry}
use Rattle.smt_meaning.specs.declared.answers.Reply.{Reply}
use Rattle.smt_meaning.specs.declared.answers.Reply.TheVariants.{Error}
use Rattle.smt_meaning.specs.declared.errors.Error.TheVariants.{Fault}
use Rattle.smt_meaning.specs.declared.replies.Kept.{Kept}
use Rattle.smt_meaning.specs.declared.replies.Kept.TheVariants.{Nothing}
use Rattle.smt_meaning.specs.declared.tokens.FaultKind.{FaultKind}
use Rattle.smt_reader.specs.Reader.{Skips}
use Rattle.smt_reader.proofs.Skipping.{skips_none, skips_twice, skips_fed, skips_finished, settled_before, settled_after, takes_before}
use Rattle.smt_top.specs.Progress.{Run, moment, HasLeft, HasAnswered, IsComplete, IsFront, IsOver, NoneSettled, given, Comes, SoFar, Ends, Stands, at_source, at_sink}
use Rattle.smt_top.specs.declared.serving.Stage.{Stage}
use Rattle.smt_top.specs.declared.serving.Stage.TheVariants.{Asks, Complete}
use Rattle.smt_top.specs.Progress.{CutOff, Over, Took, IsDone, WrittenAfter, WriteCause, IsWritten}
use Rattle.smt_top.specs.Ended.{HaltOf}
use Rattle.smt_top.specs.declared.serving.Stop.{Stop}
use Rattle.smt_top.specs.declared.serving.Stop.TheVariants.{Memory as StopMemory, WriteFault as StopWriteFault}
use Rattle.smt_top.specs.declared.top.Halt.{Halt}
use Rattle.smt_top.specs.declared.top.Halt.TheVariants.{Memory, ReadFault, WriteFault}
use Rattle.ports.specs.Flow.{SourceTold, SinkTold, Rose, RoseBy}
use Rattle.session.specs.Taken.{every_stack}
use Rattle.smt_top.proofs.Written.{RoseBy-twice}

pub not_true : ◌≡◌ {A = Bool} false true → ⊥
not_true e = cc

-- the entry of a reply
abbrev pub entry_of : List Entry → Reply → Kept → Entry
entry_of j reply kept = record { number = length j; reply = reply; kept = kept }

nothing_follows : (b : Bool) → MayFollow b []
nothing_follows true = refl
nothing_follows false = tt

-- what holds holds at an error too
pub at_err : {T E : Type 0} (r : Result T E) (P : Type 0) → P → IfErr r (λ _. P)
at_err (Ok x) P p = tt
at_err (Err e) P p = p

Consumes-twice : (a b c : Option (List ℕ)) (xs ys : List ℕ) → Consumes a b xs → Consumes b c ys → Consumes a c (xs ++ ys)
Consumes-twice None b c xs ys p q = tt
Consumes-twice (Some a) None c xs ys p q = absurd p
Consumes-twice (Some a) (Some b) None xs ys p q = absurd q
Consumes-twice (Some a) (Some b) (Some c) xs ys p q = rw (p, q, append_assoc) refl

Consumes-Keeps : (a b c : Option (List ℕ)) (xs : List ℕ) → Consumes a b xs → Keeps b c → Consumes a c xs
Consumes-Keeps None b c xs p q = tt
Consumes-Keeps (Some a) None c xs p q = absurd p
Consumes-Keeps (Some a) (Some b) None xs p q = absurd q
Consumes-Keeps (Some a) (Some b) (Some c) xs p q = rw q p

-- what holds of the bytes so far and whatever follows holds of all that the source has
pub for_all : (P : List ℕ → Type 0) (left now : Option (List ℕ)) (finished : Bool) (input : List ℕ) → Consumes left now input → (finished ≡ true → IsAtEnd now)
    → ((more : List ℕ) → MayFollow finished more → P (input ++ more)) → IfSome left P
for_all P None now finished input taken ended holds = tt
for_all P (Some all) None finished input taken ended holds = absurd taken
for_all P (Some all) (Some rest) true input taken ended holds = subst P (sym taken) (holds rest (ended refl))
for_all P (Some all) (Some rest) false input taken ended holds = subst P (sym taken) (holds rest tt)

-- a source that gave more took more
Took-more : (e : Ends) (next : SourceTold) (xs ys : List ℕ) (j k : ℕ) → Took e xs j → Consumes e.source_now.left next.left ys → RoseBy k e.source_now.given next.given → Took (at_source e next) (xs ++ ys) (j + k)
Took-more e next xs ys j k took gave counts = record {
  bytes = Consumes-twice e.source.left e.source_now.left next.left xs ys took.bytes gave;
  calls = RoseBy-twice j k e.source.given e.source_now.given next.given took.calls counts;
}

-- a source that kept its bytes took none
Took-kept : (e : Ends) (next : SourceTold) (xs : List ℕ) (j : ℕ) → Took e xs j → Keeps e.source_now.left next.left → RoseBy 0 e.source_now.given next.given → Took (at_source e next) xs j
Took-kept e next xs j took kept counts = record {
  bytes = Consumes-Keeps e.source.left e.source_now.left next.left xs took.bytes kept;
  calls = subst (λ n. RoseBy n e.source.given next.given) (add-zero j) (RoseBy-twice j 0 e.source.given e.source_now.given next.given took.calls counts);
}

pub Consumes-none : (a b : Option (List ℕ)) → Consumes a b [] → Keeps a b
Consumes-none None b p = tt
Consumes-none (Some a) None p = absurd p
Consumes-none (Some a) (Some b) p = sym p

Rose-later : (a b c : ℕ) → a ≤ b → Rose b c → Rose a c
Rose-later a b c l r = omega (arith, r)

-- a run, and one entry more
pub Runs-push : (old mid new : Moment) (es : List Entry) (e : Entry) → Runs every_stack old es mid → GoesOn every_stack mid e new → Runs every_stack old (es ++ e ∷ []) new
Runs-push old mid new [] e r g = (new, subst (λ m. GoesOn every_stack m e new) (sym r) g, refl)
Runs-push old mid new (x ∷ es) e r g = (r.0, r.1, Runs-push r.0 mid new es e r.2 g)

-- a run, and the rest of the entries
pub Runs-Answered : (old mid : Moment) (es rest : List Entry) → Runs every_stack old es mid → Answered every_stack mid rest → Answered every_stack old (es ++ rest)
Runs-Answered old mid [] rest r a = subst (λ m. Answered every_stack m rest) (sym r) a
Runs-Answered old mid (x ∷ es) rest r a = inr (r.0, r.1, Runs-Answered r.0 mid es rest r.2 a)

-- What answers to the front of an input

left_front : (s : Settings) (input : List ℕ) (old : Run) → HasLeft s input old → IsFront s input old.reader.finished old.journal
unfolding HasLeft IsFront IsLegalSoFar
left_front s input old had more may = inl (moment old more, had more may)

pub had_front : (s : Settings) (input : List ℕ) (old : Run) → HasAnswered s input old → IsFront s input old.reader.finished old.journal
unfolding HasAnswered
had_front s input old had = subst (λ b. IsFront s input b old.journal) (sym had.1.finished) (left_front s input (record old { reader = had.0 }) had.2)

-- with all that is left of it
pub left_now : (s : Settings) (input : List ℕ) (r : Run) → HasLeft s input r → HasAnswered s input r
unfolding HasAnswered
left_now s input r had = (r.reader, skips_none r.reader, had)

-- the journal at hand is legal for the bytes so far, and those so far alone
pub front_now : (s : Settings) (input : List ℕ) (finished : Bool) (journal : List Entry) → IsFront s input finished journal → IsLegalSoFar every_stack s input journal
unfolding IsFront
front_now s input finished journal front = subst (λ bytes. IsLegalSoFar every_stack s bytes journal) (append-nil input) (front [] (nothing_follows finished))

legal_front : (s : Settings) (input : List ℕ) (r : Run) → IsComplete s input r → IsFront s input r.reader.finished r.journal
unfolding IsComplete IsFront IsLegalSoFar
legal_front s input r complete more may = inr (complete more may)

module _ (s : Settings) (old new : Run) (ts : List Token) (reply : Reply) (kept : Kept)
    (settled : IsSettled old.reader (ready ts)) (takes : Takes old.reader ts new.reader)
    (replies : Replies every_stack old.session ts reply kept new.session)
    (pushed : new.journal ≡ old.journal ++ entry_of old.journal reply kept ∷ []) where
  -- the reply answers the s-expression
  pub answers : (more : List ℕ) → MayFollow old.reader.finished more → Answers every_stack (moment old more) (entry_of old.journal reply kept) ts (moment new more)
  answers more may = record {
    reads = record {
      sexpr = (settled more may).0;
      lexes = takes.lexes more may;
      place = omega (arith, takes.place, length-append old.reader.bytes more, length-append new.reader.bytes more);
    };
    number = (refl, ap length pushed ∙ length-append old.journal (entry_of old.journal reply kept ∷ []));
    reply = replies;
  }

  before : (more : List ℕ) → MayFollow new.reader.finished more → MayFollow old.reader.finished more
  before more may = subst (λ b. MayFollow b more) takes.finished may

  goes_on : (IsExit ts → ⊥) → (input : List ℕ) → HasLeft s input old → HasLeft s input new
  unfolding HasLeft
  goes_on other input had more may =
      subst (λ j. Runs every_stack (beginning s (input ++ more)) j (moment new more)) (sym pushed)
      (Runs-push (beginning s (input ++ more)) (moment old more) (moment new more) old.journal _ (had more (before more may)) (ts, other, answers more (before more may)))

  exits : IsExit ts → (input : List ℕ) → HasLeft s input old → IsComplete s input new
  unfolding HasLeft IsComplete IsLegal
  exits last input had more may =
      subst (λ j. Answered every_stack (beginning s (input ++ more)) j) (sym pushed)
      (Runs-Answered (beginning s (input ++ more)) (moment old more) old.journal _ (had more (before more may)) (inl (inl (ts, moment new more, last, answers more (before more may)), refl)))

  stops : IsExit ts → (input : List ℕ) → HasLeft s input old → IsStopped every_stack s input new.journal
  unfolding HasLeft IsStopped
  stops last input had =
      let may = nothing_follows old.reader.finished in
      let ran : Runs every_stack (beginning s input) old.journal (moment old []) = subst (λ bytes. Runs every_stack (beginning s bytes) old.journal (moment old [])) (append-nil input) (had [] may) in
      (old.journal, entry_of old.journal reply kept, moment old [], pushed, ran, inl (ts, moment new [], last, answers [] may))

  next_left : (stop : Bool) → (IsTrue stop ↔ IsExit ts) → (input : List ℕ) → HasLeft s input old
      → MatchOption (then_some stop Complete) (HasAnswered s input new) (λ stage. Comes s stage input new)
  next_left true both input had = (exits (both.0 refl) input had, inr (stops (both.0 refl) input had))
  next_left false both input had = left_now s input new (goes_on (λ last. not_true (both.1 last)) input had)

  front_left : (stop : Bool) → (IsTrue stop ↔ IsExit ts) → (input : List ℕ) → HasLeft s input old → IsFront s input new.reader.finished new.journal
  front_left true both input had = legal_front s input new (exits (both.0 refl) input had)
  front_left false both input had = left_front s input new (goes_on (λ last. not_true (both.1 last)) input had)

module _ (s : Settings) (old new : Run) (ts : List Token) (reply : Reply) (kept : Kept)
    (settled : IsSettled old.reader (ready ts)) (takes : Takes old.reader ts new.reader)
    (replies : Replies every_stack old.session ts reply kept new.session)
    (pushed : new.journal ≡ old.journal ++ entry_of old.journal reply kept ∷ []) where
  takes_left : (left : Unread) → Skips left old.reader → Takes left ts new.reader
  takes_left left p = takes_before left old.reader p ts new.reader (settled [] (nothing_follows old.reader.finished)).0 takes

  -- what stands after the reply, whether it ends the run or not
  pub next : (stop : Bool) → (IsTrue stop ↔ IsExit ts) → (input : List ℕ) → HasAnswered s input old
      → MatchOption (then_some stop Complete) (HasAnswered s input new) (λ stage. Comes s stage input new)
  unfolding HasAnswered
  next stop both input had =
      next_left s (record old { reader = had.0 }) new ts reply kept (settled_before had.0 old.reader had.1 (ready ts) settled) (takes_left had.0 had.1) replies pushed stop both input had.2

  front_by : (stop : Bool) → (IsTrue stop ↔ IsExit ts) → (input : List ℕ) → HasAnswered s input old → IsFront s input new.reader.finished new.journal
  unfolding HasAnswered
  front_by stop both input had =
      front_left s (record old { reader = had.0 }) new ts reply kept (settled_before had.0 old.reader had.1 (ready ts) settled) (takes_left had.0 had.1) replies pushed stop both input had.2

-- where the reply's text wasn't taken, or memory was wanting for it
pub reply_cut : (T : Type 0) (s : Settings) (old new : Run) (ts : List Token) (reply : Reply) (kept : Kept) (stop : Bool) (why : Stop)
    → IsSettled old.reader (ready ts) → Takes old.reader ts new.reader → Replies every_stack old.session ts reply kept new.session → (IsTrue stop ↔ IsExit ts)
    → new.journal ≡ old.journal ++ given {T = T} (Err why) (entry_of old.journal reply kept) → (input : List ℕ) → HasAnswered s input old → IsFront s input new.reader.finished new.journal
reply_cut T s old new ts reply kept stop StopWriteFault settled takes replies both entry input had = front_by s old new ts reply kept settled takes replies entry stop both input had
reply_cut T s old new ts reply kept stop StopMemory settled takes replies both entry input had =
    let front = had_front s input old had in
    subst (λ j. IsFront s input new.reader.finished j) (sym (entry ∙ append-nil old.journal)) (subst (λ b. IsFront s input b old.journal) (sym takes.finished) front)

module _ (s : Settings) (old new : Run) (kind : FaultKind) (at : ℕ) (settled : IsSettled old.reader (fault kind at)) (same : new.reader.finished ≡ old.reader.finished)
    (pushed : new.journal ≡ old.journal ++ entry_of old.journal (Error (Fault kind at)) Nothing ∷ []) where
  last_of : (more : List ℕ) → MayFollow old.reader.finished more → IsLast every_stack (moment old more) (entry_of old.journal (Error (Fault kind at)) Nothing)
  last_of more may = inr (kind, at, settled more may, refl, refl, refl)

  fault_completes : (input : List ℕ) → HasLeft s input old → IsComplete s input new
  unfolding HasLeft IsComplete IsLegal
  fault_completes input had more may =
      let may' : MayFollow old.reader.finished more = subst (λ b. MayFollow b more) same may in
      subst (λ j. Answered every_stack (beginning s (input ++ more)) j) (sym pushed)
      (Runs-Answered (beginning s (input ++ more)) (moment old more) old.journal _ (had more may') (inl (last_of more may', refl)))

  fault_stops : (input : List ℕ) → HasLeft s input old → IsStopped every_stack s input new.journal
  unfolding HasLeft IsStopped
  fault_stops input had =
      let may = nothing_follows old.reader.finished in
      let ran : Runs every_stack (beginning s input) old.journal (moment old []) = subst (λ bytes. Runs every_stack (beginning s bytes) old.journal (moment old [])) (append-nil input) (had [] may) in
      (old.journal, entry_of old.journal (Error (Fault kind at)) Nothing, moment old [], pushed, ran, last_of [] may)

module _ (s : Settings) (old new : Run) (kind : FaultKind) (at : ℕ) (settled : IsSettled old.reader (fault kind at)) (same : new.reader ≡ old.reader)
    (pushed : new.journal ≡ old.journal ++ entry_of old.journal (Error (Fault kind at)) Nothing ∷ []) where
  still : (left : Unread) → Skips left old.reader → new.reader.finished ≡ left.finished
  still left p = ap (λ (u : Unread). u.finished) same ∙ p.finished

  fault_complete : (input : List ℕ) → HasAnswered s input old → IsComplete s input new
  unfolding HasAnswered
  fault_complete input had =
      fault_completes s (record old { reader = had.0 }) new kind at (settled_before had.0 old.reader had.1 (fault kind at) settled) (still had.0 had.1) pushed input had.2

  -- a fault ends the run
  pub faults : (input : List ℕ) → HasAnswered s input old → IsComplete s input new × IsOver s input new
  unfolding HasAnswered
  faults input had = (
    fault_complete input had,
    inr (fault_stops s (record old { reader = had.0 }) new kind at (settled_before had.0 old.reader had.1 (fault kind at) settled) (still had.0 had.1) pushed input had.2),
  )

-- where the fault's text wasn't taken, or memory was wanting for it
pub fault_cut : (T : Type 0) (s : Settings) (old new : Run) (kind : FaultKind) (at : ℕ) (why : Stop) → IsSettled old.reader (fault kind at) → new.reader ≡ old.reader
    → new.journal ≡ old.journal ++ given {T = T} (Err why) (entry_of old.journal (Error (Fault kind at)) Nothing) → (input : List ℕ) → HasAnswered s input old → IsFront s input new.reader.finished new.journal
fault_cut T s old new kind at StopWriteFault settled same entry input had = legal_front s input new (fault_complete s old new kind at settled same entry input had)
fault_cut T s old new kind at StopMemory settled same entry input had =
    let front = had_front s input old had in
    subst (λ j. IsFront s input new.reader.finished j) (sym (entry ∙ append-nil old.journal)) (subst (λ b. IsFront s input b old.journal) (sym (ap (λ (u : Unread). u.finished) same)) front)

-- where nothing was done
pub idle_cut : (s : Settings) (old new : Run) → new.reader.finished ≡ old.reader.finished → new.journal ≡ old.journal → (input : List ℕ) → HasAnswered s input old → IsFront s input new.reader.finished new.journal
idle_cut s old new same kept input had =
    let front = had_front s input old had in
    subst (λ j. IsFront s input new.reader.finished j) (sym kept) (subst (λ b. IsFront s input b old.journal) (sym same) front)

ends_left : (s : Settings) (old new : Run) → IsSettled old.reader end → new.reader.finished ≡ old.reader.finished → new.journal ≡ old.journal → (input : List ℕ) → HasLeft s input old → IsComplete s input new
unfolding HasLeft IsComplete IsLegal
ends_left s old new settled same kept input had more may =
    let may' : MayFollow old.reader.finished more = subst (λ b. MayFollow b more) same may in
    subst (λ j. Answered every_stack (beginning s (input ++ more)) j) (append-nil old.journal ∙ sym kept)
    (Runs-Answered (beginning s (input ++ more)) (moment old more) old.journal [] (had more may') (settled more may'))

-- the end of the input ends the run
pub ends : (s : Settings) (old new : Run) → IsSettled old.reader end → old.reader.finished ≡ true → new.reader ≡ old.reader → new.journal ≡ old.journal
    → (input : List ℕ) → HasAnswered s input old → IsComplete s input new × IsOver s input new
unfolding HasAnswered
ends s old new settled over same kept input had = (
  ends_left s (record old { reader = had.0 }) new (settled_before had.0 old.reader had.1 end settled) (ap (λ (u : Unread). u.finished) same ∙ had.1.finished) kept input had.2,
  inl (ap (λ (u : Unread). u.finished) same ∙ over),
)

left_as : (s : Settings) (old new : Run) → new.reader ≡ old.reader → new.session ≡ old.session → new.journal ≡ old.journal → (input : List ℕ) → HasLeft s input old → HasLeft s input new
unfolding HasLeft
left_as s old new same state kept input had more may =
    let may' : MayFollow old.reader.finished more = subst (λ (u : Unread). MayFollow u.finished more) same may in
    let is : moment old more ≡ moment new more = rw (same, state, kept) refl in
    subst (λ m. Runs every_stack (beginning s (input ++ more)) new.journal m) is (rw kept (had more may'))

-- more is asked for
pub asks : (s : Settings) (old new : Run) → Skips old.reader new.reader → new.session ≡ old.session → new.journal ≡ old.journal → old.reader.finished ≡ false → ((a : Answer) → IsSettled old.reader a → ⊥)
    → (input : List ℕ) → HasAnswered s input old → HasAnswered s input new × (new.reader.finished ≡ false) × NoneSettled new.reader
unfolding HasAnswered
asks s old new skips state kept going none input had = (
  (had.0, skips_twice had.0 old.reader new.reader had.1 skips, left_as s (record old { reader = had.0 }) (record new { reader = had.0 }) refl state kept input had.2),
  skips.finished ∙ going,
  (λ a settled. none a (settled_before old.reader new.reader skips a settled)),
)

begins_left : (s : Settings) (r : Run) → r.reader ≡ record { place = 0; bytes = []; finished = false } → r.session ≡ start s → r.journal ≡ [] → HasLeft s [] r
unfolding HasLeft
begins_left s r e f h more may = subst (λ j. Runs every_stack (beginning s more) j (moment r more)) (sym h) (rw (e, f, h) refl)

-- a run that has just begun
pub begins : (s : Settings) (r : Run) → r.reader ≡ record { place = 0; bytes = []; finished = false } → r.session ≡ start s → r.journal ≡ [] → HasAnswered s [] r
begins s r e f h = left_now s [] r (begins_left s r e f h)

feeds_left : (s : Settings) (old new : Run) (input bytes : List ℕ) → old.reader.finished ≡ false → new.reader ≡ record old.reader { bytes = old.reader.bytes ++ bytes } → new.session ≡ old.session → new.journal ≡ old.journal
    → HasLeft s input old → HasLeft s (input ++ bytes) new
unfolding HasLeft
feeds_left s old new input bytes going e f h had more may =
    let same : moment old (bytes ++ more) ≡ moment new more = rw (e, f, h, append_assoc) refl in
    let run = had (bytes ++ more) (subst (λ b. MayFollow b (bytes ++ more)) (sym going) tt) in
    subst (λ m. Runs every_stack (beginning s ((input ++ bytes) ++ more)) new.journal m) same (rw (append_assoc, h) run)

-- more input
pub feeds : (s : Settings) (old new : Run) (input bytes : List ℕ) → old.reader.finished ≡ false → new.reader ≡ record old.reader { bytes = old.reader.bytes ++ bytes } → new.session ≡ old.session → new.journal ≡ old.journal
    → HasAnswered s input old → HasAnswered s (input ++ bytes) new
unfolding HasAnswered
feeds s old new input bytes going e f h had =
    let left : Unread = record had.0 { bytes = had.0.bytes ++ bytes } in (
      left,
      subst (Skips left) (sym e) (skips_fed had.0 old.reader had.1 bytes),
      feeds_left s (record old { reader = had.0 }) (record new { reader = left }) input bytes (sym had.1.finished ∙ going) refl f h had.2,
    )

finishes_left : (s : Settings) (old new : Run) (input : List ℕ) → new.reader ≡ record old.reader { finished = true } → new.session ≡ old.session → new.journal ≡ old.journal
    → HasLeft s input old → HasLeft s input new
unfolding HasLeft
finishes_left s old new input e f h had more may =
    let none : more ≡ [] = subst (λ (u : Unread). MayFollow u.finished more) e may in
    let same : moment old more ≡ moment new more = rw (e, f, h) refl in
    let run = had more (subst (λ m. MayFollow old.reader.finished m) (sym none) (nothing_follows old.reader.finished)) in
    subst (λ m. Runs every_stack (beginning s (input ++ more)) new.journal m) same (rw h run)

-- no more input
pub finishes : (s : Settings) (old new : Run) (input : List ℕ) → new.reader ≡ record old.reader { finished = true } → new.session ≡ old.session → new.journal ≡ old.journal
    → HasAnswered s input old → HasAnswered s input new
unfolding HasAnswered
finishes s old new input e f h had =
    let left : Unread = record had.0 { finished = true } in (
      left,
      subst (Skips left) (sym e) (skips_finished had.0 old.reader had.1),
      finishes_left s (record old { reader = had.0 }) (record new { reader = left }) input refl f h had.2,
    )

-- bytes that were taken but not fed follow the input
unfed : (s : Settings) (input bytes : List ℕ) (journal : List Entry) → IsFront s input false journal → IsFront s (input ++ bytes) false journal
unfolding IsFront
unfed s input bytes journal front more may = subst (λ b. IsLegalSoFar every_stack s b journal) (sym (append_assoc input bytes more)) (front (bytes ++ more) tt)

-- the entries answer all that is settled
settled_left : (s : Settings) (input : List ℕ) (r : Run) → HasLeft s input r → r.reader.finished ≡ false → NoneSettled r.reader → AnswersSettled every_stack s input r.journal
unfolding HasLeft
settled_left s input r had going none = record {
  place = r.reader.place;
  rest = r.reader.bytes;
  state = r.session;
  runs = λ more. had more (subst (λ b. MayFollow b more) (sym going) tt);
  none_settled = λ a settled. none a (subst (λ b. IsSettled (record { place = r.reader.place; bytes = r.reader.bytes; finished = b }) a) (sym going) settled);
}

pub answered_settled : (s : Settings) (input : List ℕ) (r : Run) → HasAnswered s input r → r.reader.finished ≡ false → NoneSettled r.reader → AnswersSettled every_stack s input r.journal
unfolding HasAnswered
answered_settled s input r had going none =
    settled_left s input (record r { reader = had.0 }) had.2 (sym had.1.finished ∙ going) (λ a settled. none a (settled_after had.0 r.reader had.1 a settled))

complete_is : (s : Settings) (input : List ℕ) (r : Run) → IsComplete s input r → (more : List ℕ) → MayFollow r.reader.finished more → IsLegal every_stack s (input ++ more) r.journal
unfolding IsComplete
complete_is s input r h = h

pub front_is : (s : Settings) (input : List ℕ) (finished : Bool) (journal : List Entry) → IsFront s input finished journal → (more : List ℕ) → MayFollow finished more → IsLegalSoFar every_stack s (input ++ more) journal
unfolding IsFront
front_is s input finished journal h = h

-- the source gave bytes, and the reader has them
pub fed : (t : Settings) (e : Ends) (count : ℕ) (old new : Run) (bytes : List ℕ) (next : SourceTold) → old.reader.finished ≡ false
    → Consumes e.source_now.left next.left bytes → RoseBy 1 e.source_now.given next.given → 0 < length bytes → length bytes ≤ 65536 → e.source_now.faults ≤ next.faults
    → new.reader ≡ record old.reader { bytes = old.reader.bytes ++ bytes } → new.session ≡ old.session → new.journal ≡ old.journal
    → SoFar t e count old → SoFar t (at_source e next) (count + 1) new
fed t e count old new bytes next going gave counts some most later er es ej s = record {
  input = s.input ++ bytes;
  given = s.given + 1;
  took = Took-more e next s.input bytes s.given 1 s.took gave counts;
  many = omega (arith, s.many, length-append s.input bytes);
  each = λ _. omega (arith, s.each going);
  but_one = λ over. absurd (not_true (sym going ∙ sym (ap (λ (u : Unread). u.finished) er) ∙ over));
  few = rw er (omega (arith, s.few, length-append old.reader.bytes bytes));
  ended = λ over. absurd (not_true (sym going ∙ sym (ap (λ (u : Unread). u.finished) er) ∙ over));
  answered = feeds t old new s.input bytes going er es ej s.answered;
  numbered = rw (ej, er) s.numbered;
  whole = rw ej s.whole;
  later = record { read = omega (arith, s.later.read); write = s.later.write };
}

-- the source is at its end, and the reader knows
pub closed : (t : Settings) (e : Ends) (count : ℕ) (old new : Run) (next : SourceTold) → old.reader.finished ≡ false
    → Keeps e.source_now.left next.left → RoseBy 0 e.source_now.given next.given → IsAtEnd next.left → e.source_now.faults ≤ next.faults
    → new.reader ≡ record old.reader { finished = true } → new.session ≡ old.session → new.journal ≡ old.journal
    → SoFar t e count old → SoFar t (at_source e next) (count + 1) new
closed t e count old new next going kept counts over later er es ej s = record {
  input = s.input;
  given = s.given;
  took = Took-kept e next s.input s.given s.took kept counts;
  many = s.many;
  each = λ other. absurd (not_true (sym other ∙ ap (λ (u : Unread). u.finished) er));
  but_one = λ _. omega (arith, s.each going);
  few = rw er (omega (arith, s.few));
  ended = λ _. over;
  answered = finishes t old new s.input er es ej s.answered;
  numbered = rw (ej, er) s.numbered;
  whole = rw ej s.whole;
  later = record { read = omega (arith, s.later.read); write = s.later.write };
}

-- as many calls gave bytes as there were, or fewer
given_within : (t : Settings) (e : Ends) (count : ℕ) (r : Run) (finished : Bool) → r.reader.finished ≡ finished → (s : SoFar t e count r) → s.given ≤ count
given_within t e count r true same s = omega (arith, s.but_one same)
given_within t e count r false same s = omega (arith, s.each same)

done_by : (s : Settings) (e : Ends) (count given : ℕ) (input : List ℕ) (r : Run) (finished : Bool) → r.reader.finished ≡ finished → (finished ≡ true → IsAtEnd e.source_now.left) → (finished ≡ true → given < count)
    → IsOver s input r → IsDone s e count input given r.journal
done_by s e count given input r finished same ended fewer (inl is) = inl (ended (sym same ∙ is), fewer (sym same ∙ is))
done_by s e count given input r finished same ended fewer (inr is) = inr is

complete_now : (s : Settings) (input : List ℕ) (r : Run) → IsComplete s input r → IsLegal every_stack s input r.journal
complete_now s input r complete = subst (λ bytes. IsLegal every_stack s bytes r.journal) (append-nil input) (complete_is s input r complete [] (nothing_follows r.reader.finished))

-- what an advance of the run comes to
pub advanced : (t : Settings) (e : Ends) (count : ℕ) (old new : Run) (stage : Stage) (next : SinkTold) (s : SoFar t e count old)
    → new.reader.finished ≡ old.reader.finished → new.reader.place + length new.reader.bytes ≡ old.reader.place + length old.reader.bytes
    → Comes t stage s.input new → (stage ≡ Asks → length new.journal ≤ new.reader.place) → IsWritten e.sink next new.journal → e.sink_now.faults ≤ next.faults
    → Stands t (Ok stage) (at_sink e next) count new
advanced t e count old new Complete next s same size comes numbered whole later = record {
  input = s.input;
  given = s.given;
  took = record { bytes = s.took.bytes; calls = s.took.calls };
  within = given_within t e count old old.reader.finished refl s;
  legal = complete_now t s.input new comes.0;
  legal_for_all = for_all (λ all. IsLegal every_stack t all new.journal) e.source.left e.source_now.left old.reader.finished s.input s.took.bytes s.ended
      (subst (λ b. (more : List ℕ) → MayFollow b more → IsLegal every_stack t (s.input ++ more) new.journal) same (complete_is t s.input new comes.0));
  over = done_by t e count s.given s.input new old.reader.finished same s.ended s.but_one comes.1;
  whole = whole;
  later = record { read = s.later.read; write = omega (arith, s.later.write) };
}
advanced t e count old new Asks next s same size comes numbered whole later = (
  record {
    input = s.input;
    given = s.given;
    took = record { bytes = s.took.bytes; calls = s.took.calls };
    many = s.many;
    each = λ going. s.each (sym same ∙ going);
    but_one = λ over. s.but_one (sym same ∙ over);
    few = omega (arith, s.few);
    ended = λ over. s.ended (sym same ∙ over);
    answered = comes.0;
    numbered = numbered refl;
    whole = whole;
    later = record { read = s.later.read; write = omega (arith, s.later.write) };
  },
  comes.1,
  comes.2,
)

module _ (t : Settings) (e : Ends) (count : ℕ) (old new : Run) (s : SoFar t e count old) (next : SinkTold)
    (same : new.reader.finished ≡ old.reader.finished) (front : IsFront t s.input new.reader.finished new.journal) where
  front_all : IfSome e.source.left (λ all. IsLegalSoFar every_stack t all new.journal)
  front_all = for_all (λ all. IsLegalSoFar every_stack t all new.journal) e.source.left e.source_now.left old.reader.finished s.input s.took.bytes s.ended
      (subst (λ b. (more : List ℕ) → MayFollow b more → IsLegalSoFar every_stack t (s.input ++ more) new.journal) same (front_is t s.input new.reader.finished new.journal front))

  -- a fault of the sink, or want of memory, cuts the run off
  pub cut_off : (stop : Stop) (halt : Halt) → HaltOf stop halt → WrittenAfter {T = Stage} (Err stop) e.sink next new.journal → WriteCause {T = Stage} (Err stop) e.sink_now.faults next.faults
      → CutOff t halt (at_sink e next) count new
  cut_off StopMemory Memory is written cause = record {
    input = s.input;
    given = s.given;
    took = record { bytes = s.took.bytes; calls = s.took.calls };
    within = given_within t e count old old.reader.finished refl s;
    legal = front_now t s.input new.reader.finished new.journal front;
    legal_for_all = front_all;
    settled = λ h. absurd (cc h);
    written = written;
    later = record { read = s.later.read; write = omega (arith, s.later.write, cause) };
    read = λ h. absurd (cc h);
    write = λ h. absurd (cc h);
  }
  cut_off StopMemory ReadFault is written cause = absurd (cc is)
  cut_off StopMemory WriteFault is written cause = absurd (cc is)
  cut_off StopWriteFault WriteFault is written cause = record {
    input = s.input;
    given = s.given;
    took = record { bytes = s.took.bytes; calls = s.took.calls };
    within = given_within t e count old old.reader.finished refl s;
    legal = front_now t s.input new.reader.finished new.journal front;
    legal_for_all = front_all;
    settled = λ h. absurd (cc h);
    written = written;
    later = record { read = s.later.read; write = omega (arith, s.later.write, cause.0) };
    read = λ h. absurd (cc h);
    write = λ _. Rose-later e.sink.faults e.sink_now.faults next.faults s.later.write cause.1;
  }
  cut_off StopWriteFault Memory is written cause = absurd (cc is)
  cut_off StopWriteFault ReadFault is written cause = absurd (cc is)

-- want of memory cuts a run off before it has taken anything
pub cut_at_start : (t : Settings) (e : Ends) (count : ℕ) (r : Run) → SoFar t e count r → CutOff t Memory e count r
cut_at_start t e count r s = record {
  input = s.input;
  given = s.given;
  took = s.took;
  within = given_within t e count r r.reader.finished refl s;
  legal = front_now t s.input r.reader.finished r.journal (had_front t s.input r s.answered);
  legal_for_all = for_all (λ all. IsLegalSoFar every_stack t all r.journal) e.source.left e.source_now.left r.reader.finished s.input s.took.bytes s.ended
      (front_is t s.input r.reader.finished r.journal (had_front t s.input r s.answered));
  settled = λ h. absurd (cc h);
  written = s.whole;
  later = s.later;
  read = λ h. absurd (cc h);
  write = λ h. absurd (cc h);
}

-- want of memory for bytes that were taken cuts a run off as it stands
pub cut_short : (t : Settings) (e : Ends) (count : ℕ) (r new : Run) (bytes : List ℕ) (next : SourceTold) → r.reader.finished ≡ false
    → Consumes e.source_now.left next.left bytes → RoseBy 1 e.source_now.given next.given → e.source_now.faults ≤ next.faults
    → new.journal ≡ r.journal → SoFar t e count r → CutOff t Memory (at_source e next) (count + 1) new
cut_short t e count r new bytes next going gave counts l ej s =
    let before : IsFront t s.input false r.journal = subst (λ b. IsFront t s.input b r.journal) going (had_front t s.input r s.answered) in
    let front = unfed t s.input bytes r.journal before in
    let took : Took (at_source e next) (s.input ++ bytes) (s.given + 1) = Took-more e next s.input bytes s.given 1 s.took gave counts in
    rw ej (record {
      input = s.input ++ bytes;
      given = s.given + 1;
      took = took;
      within = omega (arith, s.each going);
      legal = front_now t (s.input ++ bytes) false r.journal front;
      legal_for_all = for_all (λ all. IsLegalSoFar every_stack t all r.journal) e.source.left next.left false (s.input ++ bytes) took.bytes (λ over. absurd (not_true over))
          (front_is t (s.input ++ bytes) false r.journal front);
      settled = λ h. absurd (cc h);
      written = s.whole;
      later = record { read = omega (arith, s.later.read); write = s.later.write };
      read = λ h. absurd (cc h);
      write = λ h. absurd (cc h);
    })

-- a fault of the source cuts a run off
pub read_fault : (t : Settings) (e : Ends) (count : ℕ) (r : Run) (next : SourceTold) → r.reader.finished ≡ false → NoneSettled r.reader
    → Keeps e.source_now.left next.left → RoseBy 0 e.source_now.given next.given → e.source_now.faults ≤ next.faults → Rose e.source_now.faults next.faults
    → SoFar t e count r → CutOff t ReadFault (at_source e next) (count + 1) r
read_fault t e count r next going none kept counts l rose s =
    let front : IsFront t s.input false r.journal = subst (λ b. IsFront t s.input b r.journal) going (had_front t s.input r s.answered) in
    let took : Took (at_source e next) s.input s.given = Took-kept e next s.input s.given s.took kept counts in
    record {
      input = s.input;
      given = s.given;
      took = took;
      within = omega (arith, s.each going);
      legal = front_now t s.input false r.journal front;
      legal_for_all = for_all (λ all. IsLegalSoFar every_stack t all r.journal) e.source.left next.left false s.input took.bytes (λ over. absurd (not_true over)) (front_is t s.input false r.journal front);
      settled = λ _. answered_settled t s.input r s.answered going none;
      written = s.whole;
      later = record { read = omega (arith, s.later.read); write = s.later.write };
      read = λ _. (Rose-later e.source.faults e.source_now.faults next.faults s.later.read rose, omega (arith, s.each going));
      write = λ h. absurd (cc h);
    }

done_later : (s : Settings) (e : Ends) (j k : ℕ) (input : List ℕ) (given : ℕ) (journal : List Entry) → j ≤ k → IsDone s e j input given journal → IsDone s e k input given journal
done_later s e j k input given journal l (inl is) = inl (is.0, omega (arith, l, is.1))
done_later s e j k input given journal l (inr is) = inr is

-- a run that is over within so many calls is over within more
pub over_later : (s : Settings) (e : Ends) (j k : ℕ) (r : Run) → j ≤ k → Over s e j r → Over s e k r
over_later s e j k r l o = record {
  input = o.input;
  given = o.given;
  took = o.took;
  within = omega (arith, l, o.within);
  legal = o.legal;
  legal_for_all = o.legal_for_all;
  over = done_later s e j k o.input o.given r.journal l o.over;
  whole = o.whole;
  later = o.later;
}

-- so it is with one that was cut off
pub cut_later : (s : Settings) (halt : Halt) (e : Ends) (j k : ℕ) (r : Run) → j ≤ k → CutOff s halt e j r → CutOff s halt e k r
cut_later s halt e j k r l o = record {
  input = o.input;
  given = o.given;
  took = o.took;
  within = omega (arith, l, o.within);
  legal = o.legal;
  legal_for_all = o.legal_for_all;
  settled = o.settled;
  written = o.written;
  later = o.later;
  read = λ h. let p = o.read h in (p.0, omega (arith, l, p.1));
  write = o.write;
}
