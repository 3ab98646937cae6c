-- What a server that is driven comes to, turn by turn.
use Rattle.std.proofs.Common.{◌≡◌, ◌∙◌, ℕ, ◌+◌, ◌≤◌, List, [], ◌++◌, length, subst, Option, Result, Ok, Err}
use Rattle.smt_meaning.specs.declared.settings.Settings.{Settings}
use Rattle.smt_meaning.specs.declared.answers.Entry.{Entry}
use Rattle.ports.specs.Flow.{SinkTold}
use Rattle.smt_top.specs.Progress.{run_of, Ends, SoFar, CutOff, Stands, Comes, IsWritten, WriteCause, Served, Tallies, Advances, Driven, at_sink}
use Rattle.smt_top.specs.Ended.{HaltOf}
use Rattle.smt_top.specs.declared.serving.Server.{Server}
use Rattle.smt_top.specs.declared.serving.Stage.{Stage}
use Rattle.smt_top.specs.declared.serving.Stage.TheVariants.{Asks}
use Rattle.smt_top.specs.declared.serving.Stop.{Stop}
use Rattle.smt_top.specs.declared.top.Halt.{Halt}
use Rattle.smt_top.proofs.Written.{silent_both}
use Rattle.smt_top.proofs.Servings.{Gains-twice}
use Rattle.smt_top.proofs.Turns.{advanced, cut_off}

-- there are no more entries than bytes read
pub counts_fit : (s : Settings) (e : Ends) (count : ℕ) (server : Server) (entries : List Entry) → Tallies server entries → SoFar s e count (run_of server entries)
    → server.count ≤ server.reader.place
counts_fit s e count server entries t so = rw t.count so.numbered

-- an advance
module _ {K : Type 0} (old new : Server) (sink sink_now : K) (told told_now : SinkTold) (has has_now : Option (List Entry)) (still : new.reader.finished ≡ old.reader.finished) where
  pub goes_on : (stage : Stage) → Served (Ok stage) old new sink sink_now told told_now has has_now (λ s input stage run. Comes s stage input run)
      → new.reader.place + length new.reader.bytes ≡ old.reader.place + length old.reader.bytes → (stage ≡ Asks → new.count ≤ new.reader.place) → told.faults ≤ told_now.faults
      → Advances (Ok stage) old new sink sink_now told told_now has has_now
  goes_on stage p size numbered cause = record {
    added = p.added;
    gained = p.gained;
    tally = p.tally;
    silent = p.silent;
    stands = λ s e count entries t so at.
        advanced s e count (run_of old entries) (run_of new (entries ++ p.added)) stage told_now so still size (p.comes s so.input entries t so.answered)
        (λ asks. let t' = p.tally entries t in subst (λ n. n ≤ new.reader.place) t'.count (numbered asks))
        (p.written e.sink entries (subst (λ x. IsWritten e.sink x entries) at so.whole)) (rw at cause);
  }

  pub cuts_off : (stop : Stop) (halt : Halt) → HaltOf stop halt → Served (Err stop) old new sink sink_now told told_now has has_now (λ s input stage run. Comes s stage input run)
      → WriteCause {T = Stage} (Err stop) told.faults told_now.faults → Advances (Err halt) old new sink sink_now told told_now has has_now
  cuts_off stop halt is p cause = record {
    added = p.added;
    gained = p.gained;
    tally = p.tally;
    silent = p.silent;
    stands = λ s e count entries t so at.
        cut_off s e count (run_of old entries) (run_of new (entries ++ p.added)) so told_now still (p.cut s so.input entries t so.answered) stop halt is
        (p.written e.sink entries (subst (λ x. IsWritten e.sink x entries) at so.whole)) (rw at cause);
  }

-- the first advance
pub driven_first : {K : Type 0} (s : Settings) (e : Ends) (result : Result Stage Halt) (old new : Server) (sink sink_now : K) (told told_now : SinkTold) (has has_now : Option (List Entry))
    → SoFar s e 0 (run_of old []) → Tallies old [] → e.sink_now ≡ told → Advances result old new sink sink_now told told_now has has_now
    → Driven s result (at_sink e told_now) 0 new sink sink_now has has_now
driven_first s e result old new sink sink_now told told_now has has_now so t at p = record {
  journal = p.added;
  gained = p.gained;
  tally = p.tally [] t;
  silent = p.silent;
  stands = p.stands s e 0 [] t so at;
}

-- and each that comes after it
module _ {K : Type 0} (s : Settings) (e : Ends) (n : ℕ) (old mid : Server) (sink sink1 : K) (has has1 : Option (List Entry)) (d : Driven s (Ok Asks) e n old sink sink1 has has1) (t : Tallies mid d.journal) (later : Ends) (count : ℕ) where
  pub driven_more : (result : Result Stage Halt) (new : Server) (sink2 : K) (told told_now : SinkTold) (has2 : Option (List Entry)) → SoFar s later count (run_of mid d.journal) → later.sink_now ≡ told
      → Advances result mid new sink1 sink2 told told_now has1 has2 → Driven s result (at_sink later told_now) count new sink sink2 has has2
  driven_more result new sink2 told told_now has2 so at p = record {
    journal = d.journal ++ p.added;
    gained = Gains-twice has has1 has2 d.journal p.added d.gained p.gained;
    tally = p.tally d.journal t;
    silent = λ none. let parts = silent_both d.journal p.added none in p.silent parts.1 ∙ d.silent parts.0;
    stands = p.stands s later count d.journal t so at;
  }

  pub driven_off : (halt : Halt) → CutOff s halt later count (run_of mid d.journal) → Driven s (Err halt) later count mid sink sink1 has has1
  driven_off halt off = record {
    journal = d.journal;
    gained = d.gained;
    tally = t;
    silent = d.silent;
    stands = off;
  }

-- within more calls
pub driven_by : {K : Type 0} (s : Settings) (e : Ends) (result : Result Stage Halt) (j k : ℕ) (server : Server) (sink sink_now : K) (has has_now : Option (List Entry)) (d : Driven s result e j server sink sink_now has has_now)
    → Stands s result e k (run_of server d.journal) → Driven s result e k server sink sink_now has has_now
driven_by s e result j k server sink sink_now has has_now d stands = record { journal = d.journal; gained = d.gained; tally = d.tally; silent = d.silent; stands = stands }
