-- What a run comes to.
use Rattle.std.proofs.Common.{◌≡◌, ◌<◌, ◌⊎◌, inl, inr, ℕ, true, false, List, [], ◌+◌, length, append-nil, arith, refl, sym, ◌∙◌, ap, subst, Ok, Err, Option, Some, None, Result, ◌↔◌}
use Rattle.std.specs.Prelude.{IfSome}
use Rattle.std.specs.Io.KnownBytes.{Consumes}
use Rattle.smt_meaning.specs.Reading.{Unread}
use Rattle.smt_meaning.specs.State.{State, start}
use Rattle.smt_meaning.specs.LegalJournal.{beginning, IsLegal, IsLegalSoFar, AnswersSettled}
use Rattle.smt_meaning.specs.declared.answers.Entry.{Entry}
use Rattle.smt_meaning.specs.declared.settings.Settings.{Settings}
use Rattle.script_gen.specs.Script.{script}
use Rattle.smt_words.specs.declared.Generated.{Generated}
use Rattle.smt_words.specs.Words.{are_taken, settings_of}
use Rattle.smt_words.specs.Causes.{IsCause}
use Rattle.smt_words.specs.declared.error.WordsError.{WordsError}
use Rattle.smt_words.specs.declared.error.WordsError.TheVariants.{Refused, Memory as WordsMemory}
use Rattle.ports.specs.Flow.{SourceTold, SinkTold}
use Rattle.session.specs.Taken.{every_stack}
use Rattle.smt_top.specs.Progress.{Run, Ends, Took, HasAnswered, Stands, SoFar, Over, CutOff, WrittenAtHalt, NoneSettled, IsWritten, IsFaulty, between}
use Rattle.smt_top.specs.Ended.{Ran, RanBy, RanMade, StatusOf, MatchesStatus, IsUnbegun, made_of}
use Rattle.smt_top.specs.declared.serving.Stage.{Stage}
use Rattle.smt_top.specs.declared.serving.Stage.TheVariants.{Asks, Complete}
use Rattle.smt_top.specs.declared.top.Halt.{Halt}
use Rattle.smt_top.specs.declared.top.Halt.TheVariants.{Memory, ReadFault, WriteFault}
use Rattle.smt_top.specs.declared.top.Ended.{Ended}
use Rattle.smt_top.proofs.Written.{RoseBy-none, Writes-none}
use Rattle.smt_top.proofs.Turns.{answered_settled, begins, had_front, front_is, front_now, for_all, not_true}

complete_so_far : (s : Settings) (input : List ℕ) (journal : List Entry) → IsLegal every_stack s input journal → IsLegalSoFar every_stack s input journal
unfolding IsLegalSoFar
complete_so_far s input journal legal = inr legal

complete_for_all : (s : Settings) (left : Option (List ℕ)) (journal : List Entry) → IfSome left (λ all. IsLegal every_stack s all journal) → IfSome left (λ all. IsLegalSoFar every_stack s all journal)
complete_for_all s None journal legal = tt
complete_for_all s (Some all) journal legal = complete_so_far s all journal legal

not_cut : (status : ℕ) → status < 2 → (status ≡ 3) ⊎ (status ≡ 6) → ⊥
not_cut status l (inl h) = omega (arith, l, h)
not_cut status l (inr h) = omega (arith, l, h)

module _ (budget : ℕ) (words : List (List ℕ)) (e : Ends) (r : Run) (ended : Ended) (taken : are_taken words ≡ true) (same : ended.journal ≡ r.journal) (note : MatchesStatus ended.note ended.status) where
  not_refused : are_taken words ≡ false → (ended.status ≡ 2) ⊎ (ended.status ≡ 5)
  not_refused no' = absurd (not_true (sym no' ∙ taken))

  done : Over (settings_of words) e budget r → ended.status < 2 → ((ended.status ≡ 1) ↔ IsFaulty ended.journal) → Ran budget words e ended
  done over status error = record {
    input = over.input;
    given = over.given;
    took = over.took;
    within = over.within;
    legal = λ _. rw same over.legal;
    legal_for_all = λ _. rw same over.legal_for_all;
    over = λ _. rw same over.over;
    error = λ _. error;
    legal_so_far = rw same (complete_so_far (settings_of words) over.input r.journal over.legal);
    legal_so_far_for_all = rw same (complete_for_all (settings_of words) e.source.left r.journal over.legal_for_all);
    settled = λ h. absurd (not_cut ended.status status h);
    whole = λ _. rw same over.whole;
    torn = λ h. absurd (omega arith);
    note = note;
    words_refused = λ h. absurd (omega arith);
    words_untaken = not_refused;
    read = λ h. absurd (omega arith);
    write = λ h. absurd (omega arith);
    long = λ h. absurd (omega arith);
  }

  asking : SoFar (settings_of words) e budget r → r.reader.finished ≡ false → NoneSettled r.reader → ended.status ≡ 6 → Ran budget words e ended
  asking s going none status = record {
    input = s.input;
    given = s.given;
    took = s.took;
    within = omega (arith, s.each going);
    legal = λ h. absurd (omega arith);
    legal_for_all = λ h. absurd (omega arith);
    over = λ h. absurd (omega arith);
    error = λ h. absurd (omega arith);
    legal_so_far = rw same (front_now (settings_of words) s.input r.reader.finished r.journal (had_front (settings_of words) s.input r s.answered));
    legal_so_far_for_all = rw same (for_all (λ all. IsLegalSoFar every_stack (settings_of words) all r.journal) e.source.left e.source_now.left r.reader.finished s.input s.took.bytes s.ended
        (front_is (settings_of words) s.input r.reader.finished r.journal (had_front (settings_of words) s.input r s.answered)));
    settled = λ _. rw same (answered_settled (settings_of words) s.input r s.answered going none);
    whole = λ _. rw same s.whole;
    torn = λ h. absurd (omega arith);
    note = note;
    words_refused = λ h. absurd (omega arith);
    words_untaken = not_refused;
    read = λ h. absurd (omega arith);
    write = λ h. absurd (omega arith);
    long = λ _. (s.each going, omega (arith, s.each going, s.many));
  }

  settled_at : (k : ℕ) (halt : Halt) (input : List ℕ) → ended.status ≡ k → k < 6 → (k ≡ 3 → halt ≡ ReadFault) → (halt ≡ ReadFault → AnswersSettled every_stack (settings_of words) input ended.journal)
      → (ended.status ≡ 3) ⊎ (ended.status ≡ 6) → AnswersSettled every_stack (settings_of words) input ended.journal
  settled_at k halt input status high is settled (inl h) = settled (is (sym status ∙ h))
  settled_at k halt input status high is settled (inr h) = absurd (omega arith)

  whole_at : (halt : Halt) → (halt ≡ WriteFault → ⊥) → WrittenAtHalt halt e.sink e.sink_now r.journal → IsWritten e.sink e.sink_now r.journal
  whole_at Memory other written = written
  whole_at ReadFault other written = written
  whole_at WriteFault other written = absurd (other refl)

  cut : (halt : Halt) (k : ℕ) → CutOff (settings_of words) halt e budget r → ended.status ≡ k → 2 < k → k < 6 → (k ≡ 3 → halt ≡ ReadFault) → (k ≡ 4 → halt ≡ WriteFault) → (halt ≡ WriteFault → k ≡ 4) → Ran budget words e ended
  cut halt k off status low high is_read is_write write_is = record {
    input = off.input;
    given = off.given;
    took = off.took;
    within = off.within;
    legal = λ h. absurd (omega arith);
    legal_for_all = λ h. absurd (omega arith);
    over = λ h. absurd (omega arith);
    error = λ h. absurd (omega arith);
    legal_so_far = rw same off.legal;
    legal_so_far_for_all = rw same off.legal_for_all;
    settled = settled_at k halt off.input status high is_read (λ h. rw same (off.settled h));
    whole = λ other. rw same (whole_at halt (λ h. other (status ∙ write_is h)) off.written);
    torn = λ h. rw same (subst (λ x. WrittenAtHalt x e.sink e.sink_now r.journal) (is_write (sym status ∙ h)) off.written);
    note = note;
    words_refused = λ h. absurd (omega arith);
    words_untaken = not_refused;
    read = λ h. off.read (is_read (sym status ∙ h));
    write = λ h. off.write (is_write (sym status ∙ h));
    long = λ h. absurd (omega arith);
  }

  pub ran : (outcome : Result Stage Halt) → Stands (settings_of words) outcome e budget r → StatusOf outcome ended.status
      → (outcome ≡ Ok Complete → ((ended.status ≡ 1) ↔ IsFaulty ended.journal)) → Ran budget words e ended
  ran (Ok Complete) stands status error = done stands status (error refl)
  ran (Ok Asks) stands status error = asking stands.0 stands.1 stands.2 status
  ran (Err Memory) stands status error = cut Memory 5 stands status (omega arith) (omega arith) (λ h. absurd (omega arith)) (λ h. absurd (omega arith)) (λ h. absurd cc)
  ran (Err ReadFault) stands status error = cut ReadFault 3 stands status (omega arith) (omega arith) (λ _. refl) (λ h. absurd (omega arith)) (λ h. absurd cc)
  ran (Err WriteFault) stands status error = cut WriteFault 4 stands status (omega arith) (omega arith) (λ h. absurd (omega arith)) (λ _. refl) (λ _. refl)

Consumes-none : (a : Option (List ℕ)) → Consumes a a []
Consumes-none None = tt
Consumes-none (Some a) = refl

none_took : (source : SourceTold) (sink : SinkTold) → Took (between source sink source sink) [] 0
none_took source sink = record { bytes = Consumes-none source.left; calls = RoseBy-none source.given }

pub none_so_far : (s : Settings) (input : List ℕ) → IsLegalSoFar every_stack s input []
unfolding IsLegalSoFar
none_so_far s input = inl (beginning s input, refl)

none_for_all : (s : Settings) (left : Option (List ℕ)) → IfSome left (λ all. IsLegalSoFar every_stack s all [])
none_for_all s None = tt
none_for_all s (Some all) = none_so_far s all

-- a run that has ended before it began
unbegun_at : (budget : ℕ) (words : List (List ℕ)) (e : Ends) (input : List ℕ) (ended : Ended) (error : WordsError) → Took e input 0 → IsWritten e.sink e.sink_now []
    → IsUnbegun error ended.status → IsCause words error → MatchesStatus ended.note ended.status → ended.journal ≡ [] → Ran budget words e ended
unbegun_at budget words e input ended error took whole status cause note none = record {
  input = input;
  given = 0;
  took = took;
  within = omega arith;
  legal = λ h. absurd (not_low error ended.status status h);
  legal_for_all = λ h. absurd (not_low error ended.status status h);
  over = λ h. absurd (not_low error ended.status status h);
  error = λ h. absurd (not_low error ended.status status h);
  legal_so_far = rw none (none_so_far (settings_of words) input);
  legal_so_far_for_all = rw none (none_for_all (settings_of words) e.source.left);
  settled = λ h. absurd (not_fault error ended.status status h);
  whole = λ _. rw none whole;
  torn = λ h. absurd (not_four error ended.status status h);
  note = note;
  words_refused = λ h. refused_by error ended.status status cause h;
  words_untaken = λ _. either error ended.status status;
  read = λ h. absurd (not_fault error ended.status status (inl h));
  write = λ h. absurd (not_four error ended.status status h);
  long = λ h. absurd (not_fault error ended.status status (inr h));
} where
  not_low : (error : WordsError) (status : ℕ) → IsUnbegun error status → status < 2 → ⊥
  not_low Refused status is h = omega (arith, is, h)
  not_low WordsMemory status is h = omega (arith, is, h)

  not_four : (error : WordsError) (status : ℕ) → IsUnbegun error status → status ≡ 4 → ⊥
  not_four Refused status is h = omega (arith, is, h)
  not_four WordsMemory status is h = omega (arith, is, h)

  not_fault : (error : WordsError) (status : ℕ) → IsUnbegun error status → (status ≡ 3) ⊎ (status ≡ 6) → ⊥
  not_fault Refused status is (inl h) = omega (arith, is, h)
  not_fault WordsMemory status is (inl h) = omega (arith, is, h)
  not_fault Refused status is (inr h) = omega (arith, is, h)
  not_fault WordsMemory status is (inr h) = omega (arith, is, h)

  refused_by : (error : WordsError) (status : ℕ) → IsUnbegun error status → IsCause words error → status ≡ 2 → are_taken words ≡ false
  refused_by Refused status is cause h = cause
  refused_by WordsMemory status is cause h = absurd (omega (arith, is, h))

  either : (error : WordsError) (status : ℕ) → IsUnbegun error status → (status ≡ 2) ⊎ (status ≡ 5)
  either Refused status is = inl is
  either WordsMemory status is = inr is

-- what a run of a script that is made takes
pub made_took : (bytes : List ℕ) (sink sink_now : SinkTold) → Took (made_of bytes sink sink_now) bytes 0
made_took bytes sink sink_now = record { bytes = sym (append-nil bytes); calls = tt }

-- such a run never fails to read, and its input isn't too long
pub ran_made : (words : List (List ℕ)) (bytes : List ℕ) (e : Ends) (ended : Ended) → e.source_now ≡ e.source → Ran (length bytes + 1) words (made_of bytes e.sink e.sink_now) ended → RanMade words bytes e ended
ran_made words bytes e ended unasked r = record {
  unasked = unasked;
  ran = r;
  unfailing = λ h. absurd (omega (arith, (r.read h).0));
  not_long = λ h.
      let all : bytes ≡ r.input = r.took.bytes ∙ append-nil r.input in
      let same : length bytes ≡ length r.input = ap length all in
      absurd (omega (arith, same, (r.long h).1));
}

-- under words that give no settings
pub unbegun : (made : Option Generated) (budget : ℕ) (words : List (List ℕ)) (source : SourceTold) (sink : SinkTold) (ended : Ended) (error : WordsError)
    → IsUnbegun error ended.status → IsCause words error → MatchesStatus ended.note ended.status → ended.journal ≡ [] → RanBy made budget words (between source sink source sink) ended
unbegun None budget words source sink ended error status cause note none =
    unbegun_at budget words (between source sink source sink) [] ended error (none_took source sink) (Writes-none sink) status cause note none
unbegun (Some g) budget words source sink ended error status cause note none =
    let bytes = script g.seed g.size in
    ran_made words bytes (between source sink source sink) ended refl
    (unbegun_at (length bytes + 1) words (made_of bytes sink sink) bytes ended error (made_took bytes sink sink) (Writes-none sink) status cause note none)

-- a run that begins
pub begun : (settings : Settings) (source : SourceTold) (sink : SinkTold) (r : Run) → r.reader ≡ record { place = 0; bytes = []; finished = false } → r.session ≡ start settings → r.journal ≡ []
    → SoFar r.session.settings (between source sink source sink) 0 r
begun settings source sink r er es ej = record {
  input = [];
  given = 0;
  took = none_took source sink;
  many = omega arith;
  each = λ _. refl;
  but_one = λ over. absurd (not_true (sym (ap (λ (u : Unread). u.finished) er) ∙ over));
  few = rw er (omega arith);
  ended = λ over. absurd (not_true (sym (ap (λ (u : Unread). u.finished) er) ∙ over));
  answered = subst (λ t. HasAnswered t [] r) (sym (ap (λ (s : State). s.settings) es)) (begins settings r er es ej);
  numbered = rw (ej, er) (omega arith);
  whole = rw ej (Writes-none sink);
  later = record { read = omega arith; write = omega arith };
}
