-- A script that is made and fed whole.
use Rattle.std.proofs.Common.{◌≡◌, ◌∙◌, ℕ, ◌+◌, true, List, [], ◌++◌, length, arith, refl, sym, ap, ap₂, subst, false}
use Rattle.ports.specs.Flow.{SinkTold}
use Rattle.smt_meaning.specs.declared.settings.Settings.{Settings}
use Rattle.smt_meaning.specs.Reading.{Unread}
use Rattle.smt_meaning.specs.State.{start}
use Rattle.smt_meaning.specs.LegalJournal.{beginning, Runs}
use Rattle.session.specs.Taken.{every_stack}
use Rattle.smt_top.specs.Progress.{Run, SoFar, CutOff, HasLeft, moment}
use Rattle.smt_top.specs.Ended.{made_of}
use Rattle.smt_top.specs.declared.top.Halt.TheVariants.{Memory}
use Rattle.smt_top.proofs.Written.{Writes-none}
use Rattle.smt_top.proofs.Turns.{not_true, left_now}
use Rattle.smt_top.proofs.Runs.{made_took, none_so_far}

-- a reader that was fed all of the input
pub fed_reader : (old mid new : Unread) (piece bytes : List ℕ) → old ≡ record { place = 0; bytes = []; finished = false } → mid ≡ record old { bytes = old.bytes ++ piece } → new ≡ record mid { finished = true }
    → piece ≡ bytes → new ≡ record { place = 0; bytes = bytes; finished = true }
fed_reader old mid new piece bytes begun fed over is =
    over ∙ ap (λ (u : Unread). record u { finished = true }) (fed ∙ ap₂ (λ (u : Unread) (p : List ℕ). record u { bytes = u.bytes ++ p }) begun is)

begins_whole : (s : Settings) (r : Run) (bytes : List ℕ) → r.reader ≡ record { place = 0; bytes = bytes; finished = true } → r.session ≡ start s → r.journal ≡ [] → HasLeft s bytes r
unfolding HasLeft
begins_whole s r bytes e f h more may = subst (λ j. Runs every_stack (beginning s (bytes ++ more)) j (moment r more)) (sym h) (rw (e, f, h) refl)

-- a run that begins with all of its input
pub begun_whole : (s : Settings) (r : Run) (bytes : List ℕ) (sink : SinkTold) → r.reader ≡ record { place = 0; bytes = bytes; finished = true } → r.session ≡ start s → r.journal ≡ []
    → SoFar s (made_of bytes sink sink) (length bytes + 1) r
begun_whole s r bytes sink er es ej = record {
  input = bytes;
  given = 0;
  took = made_took bytes sink sink;
  many = omega arith;
  each = λ going. absurd (not_true (sym going ∙ ap (λ (u : Unread). u.finished) er));
  but_one = λ _. omega arith;
  few = rw er (omega arith);
  ended = λ _. refl;
  answered = left_now s bytes r (begins_whole s r bytes er es ej);
  numbered = rw (ej, er) (omega arith);
  whole = rw ej (Writes-none sink);
  later = record { read = omega arith; write = omega arith };
}

-- memory was wanting for the input
pub cut_unfed : (s : Settings) (r : Run) (bytes : List ℕ) (sink : SinkTold) → r.journal ≡ [] → CutOff s Memory (made_of bytes sink sink) (length bytes + 1) r
cut_unfed s r bytes sink ej = record {
  input = bytes;
  given = 0;
  took = made_took bytes sink sink;
  within = omega arith;
  legal = rw ej (none_so_far s bytes);
  legal_for_all = rw ej (none_so_far s bytes);
  settled = λ h. absurd (cc h);
  written = rw ej (Writes-none sink);
  later = record { read = omega arith; write = omega arith };
  read = λ h. absurd (cc h);
  write = λ h. absurd (cc h);
}
