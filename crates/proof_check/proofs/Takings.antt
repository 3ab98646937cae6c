-- What was taken from a source, and how a run stands after it.
use Rattle.std.proofs.Common.{◌≡◌, ◌∙◌, ℕ, ◌+◌, ◌<◌, ◌≤◌, ◌≢◌, Bool, true, false, List, [], ◌++◌, length, length-append, append_assoc, add-zero, arith, refl, sym, ap, subst, inl, inr, min, take, Option, Some, None, Ok}
use Rattle.std.proofs.lemmas.Grind.{common_steps}
use Rattle.std.specs.Prelude.{IfSome}
use Rattle.std.specs.Io.KnownBytes.{Consumes, Keeps, IsAtEnd}
use Rattle.smt_meaning.specs.declared.tokens.Token.{Token}
use Rattle.smt_meaning.specs.declared.tokens.FaultKind.{FaultKind}
use Rattle.smt_meaning.specs.Reading.{Unread, IsSettled, MayFollow, Takes, ready, fault, end}
use Rattle.ports.specs.Flow.{SourceTold, Rose, RoseBy}
use Rattle.ports.proofs.Flows.{Consumes-twice, Consumes-Keeps, Consumes-still, RoseBy-twice, RoseBy-none, Rose-later}
use Rattle.smt_reader.specs.Reader.{Skips}
use Rattle.smt_reader.proofs.Skipping.{skips_none, skips_twice, skips_fed, skips_finished, settled_before, settled_after, takes_before}
use Rattle.proof_check.specs.declared.intake.Halt.{Halt}
use Rattle.proof_check.specs.declared.intake.Halt.TheVariants.{Memory, ReadFault, TooLong}
use Rattle.proof_check.specs.declared.intake.Intake.{Intake}
use Rattle.proof_check.specs.Folds.{IsOver}
use Rattle.proof_check.specs.Checked.{Read}
use Rattle.proof_check.specs.Progress.{Phase, Reached, IsOpenAt, NoneSettled, SoFar, CutOff, IsNext, HasRoom, weight}

pub not_true : ◌≡◌ {A = Bool} false true → ⊥
not_true e = cc

pub nothing_follows : (b : Bool) → MayFollow b []
nothing_follows true = refl
nothing_follows false = tt

-- ---- bytes and counts

-- a call that gave something counts as one
pub one_call : (n : ℕ) (old new : Option ℕ) → (n ≡ 0 → ⊥) → RoseBy (min n 1) old new → RoseBy 1 old new
one_call n old new some rose = let same : min n 1 ≡ 1 = omega (arith, some) in subst (λ k. RoseBy k old new) same rose

-- a front that is taken has something in it
pub some_bytes : (n : ℕ) (xs : List ℕ) → (n ≡ 0 → ⊥) → n ≤ length xs → 0 < length (take n xs)
some_bytes n xs h l = grind (arith, common_steps)

-- all that the source has is what was taken, and more
pub whole_of : (left now : Option (List ℕ)) (ended : Bool) (input : List ℕ) → Consumes left now input → (ended ≡ true → IsAtEnd now)
    → IfSome left (λ all. (more : List ℕ) × MayFollow ended more × (all ≡ input ++ more))
whole_of None now ended input taken at = tt
whole_of (Some all) None ended input taken at = absurd taken
whole_of (Some all) (Some rest) true input taken at = (rest, at refl, taken)
whole_of (Some all) (Some rest) false input taken at = (rest, tt, taken)

-- ---- what was read

pub read_nothing : (budget : ℕ) (source : SourceTold) → Read budget source source
read_nothing budget source = record {
  input = [];
  given = 0;
  bytes = Consumes-still source.left;
  calls = RoseBy-none source.given;
  within = omega arith;
  ended = false;
  at_end = λ e. absurd (not_true e);
  whole = whole_of source.left source.left false [] (Consumes-still source.left) (λ e. absurd (not_true e));
}

-- what holds of an input whatever happens is a cause of what cuts the run off
pub cut_as : (budget : ℕ) (source now : SourceTold) (P Q : List ℕ → Type 0) (halt : Halt) → ((input : List ℕ) → P input → Q input) → CutOff budget source now P halt → CutOff budget source now Q halt
cut_as budget source now P Q Memory f c = record { read = c.read; cause = tt }
cut_as budget source now P Q ReadFault f c = record { read = c.read; cause = (c.cause.0, c.cause.1, f c.read.input c.cause.2) }
cut_as budget source now P Q TooLong f c = record { read = c.read; cause = (c.cause.0, c.cause.1, f c.read.input c.cause.2) }

pub cut_by_memory : (budget : ℕ) (source now : SourceTold) (P : List ℕ → Type 0) → Read budget source now → CutOff budget source now P Memory
cut_by_memory budget source now P r = record { read = r; cause = tt }

module _ (budget : ℕ) (source now : SourceTold) (p : Phase) (old : Intake) (s : SoFar budget source now p old) where
  pub within : (finished : Bool) → old.reader.finished ≡ finished → s.given ≤ budget
  within true e = omega (arith, s.but_one e)
  within false e = omega (arith, s.each e)

  abbrev pub read_of : Read budget source now
  read_of = record {
    input = s.input;
    given = s.given;
    bytes = s.bytes;
    calls = s.calls;
    within = within old.reader.finished refl;
    ended = old.reader.finished;
    at_end = λ e. (s.ended e, s.but_one e);
    whole = whole_of source.left now.left old.reader.finished s.input s.bytes s.ended;
  }

  -- what may follow
  may_left : (more : List ℕ) → MayFollow old.reader.finished more → MayFollow s.left.finished more
  may_left more may = subst (λ b. MayFollow b more) s.skips.finished may

  -- white space and comments are let go
  pub skipped : (new : Intake) → Skips old.reader new.reader → new.calls ≡ old.calls → SoFar budget source now p new
  skipped new skips calls = record {
    input = s.input;
    given = s.given;
    bytes = s.bytes;
    calls = s.calls;
    faults = s.faults;
    many = s.many;
    each = λ e. let before = s.each (sym skips.finished ∙ e) in omega (arith, calls, before);
    but_one = λ e. s.but_one (sym skips.finished ∙ e);
    ended = λ e. s.ended (sym skips.finished ∙ e);
    left = s.left;
    skips = skips_twice s.left old.reader new.reader s.skips skips;
    reached = λ more may. s.reached more (subst (λ b. MayFollow b more) skips.finished may);
  }

  -- the next s-expression is read
  pub read_next : (new : Intake) (tokens : List Token) → IsSettled old.reader (ready tokens) → Takes old.reader tokens new.reader → new.calls ≡ old.calls → IsNext budget source now p (Ok (Some tokens)) new
  read_next new tokens settled takes calls = (
    (settled [] (nothing_follows old.reader.finished)).0,
    record {
      input = s.input;
      given = s.given;
      bytes = s.bytes;
      calls = s.calls;
      faults = s.faults;
      many = s.many;
      each = λ e. let before = s.each (sym takes.finished ∙ e) in omega (arith, calls, before);
      but_one = λ e. s.but_one (sym takes.finished ∙ e);
      ended = λ e. s.ended (sym takes.finished ∙ e);
      left = new.reader;
      skips = skips_none new.reader;
      reached = λ more may.
          let may' = subst (λ b. MayFollow b more) takes.finished may in
          let takes' = takes_before s.left old.reader s.skips tokens new.reader (settled [] (nothing_follows old.reader.finished)).0 takes in
          (s.left.bytes ++ more, s.reached more may', takes'.lexes more (may_left more may'));
    },
  )

  over_at_fault : (kind : FaultKind) (at : ℕ) → IsSettled old.reader (fault kind at) → (more : List ℕ) → MayFollow old.reader.finished more → IsOver (s.left.bytes ++ more)
  over_at_fault kind at settled more may = let f = settled_before s.left old.reader s.skips (fault kind at) settled more (may_left more may) in inl (kind, f.0, f.1)

  none_by : (new : Intake) → ((more : List ℕ) → MayFollow old.reader.finished more → IsOver (s.left.bytes ++ more)) → IsNext budget source now p (Ok None) new
  none_by new over = (read_of, λ more may. (s.left.bytes ++ more, s.reached more may, over more may))

  -- a fault comes
  pub fault_next : (new : Intake) (kind : FaultKind) (at : ℕ) → IsSettled old.reader (fault kind at) → IsNext budget source now p (Ok None) new
  fault_next new kind at settled = none_by new (over_at_fault kind at settled)

  -- the end does
  pub end_next : (new : Intake) → IsSettled old.reader end → IsNext budget source now p (Ok None) new
  end_next new settled = none_by new (λ more may. inr (settled_before s.left old.reader s.skips end settled more (may_left more may)))

  -- ---- more bytes

  module _ (going : old.reader.finished ≡ false) where
    open_now : NoneSettled old.reader → IsOpenAt p s.input
    open_now none = (
      s.left.bytes,
      λ more. s.reached more (subst (λ b. MayFollow b more) (sym going) tt),
      (
        s.left.place,
        λ a settled. none a (settled_after s.left old.reader s.skips a
            (subst (λ b. IsSettled (record { place = s.left.place; bytes = s.left.bytes; finished = b }) a) (sym going ∙ s.skips.finished) settled)),
      ),
    )

    -- no call is left
    pub too_long : NoneSettled old.reader → old.calls ≡ 0 → CutOff budget source now (IsOpenAt p) TooLong
    too_long none no_call =
        let spent : s.given ≡ budget = omega (arith, no_call, s.each going) in
        record { read = read_of; cause = (spent, omega (arith, spent, s.many), open_now none) }

    module _ (next : SourceTold) where
      -- the source failed
      pub read_fault : NoneSettled old.reader → old.calls ≢ 0 → Keeps now.left next.left → RoseBy 0 now.given next.given → Rose now.faults next.faults → CutOff budget source next (IsOpenAt p) ReadFault
      read_fault none some kept counts rose =
          let bytes : Consumes source.left next.left s.input = Consumes-Keeps source.left now.left next.left s.input s.bytes kept in
          record {
            read = record {
              input = s.input;
              given = s.given;
              bytes = bytes;
              calls = subst (λ n. RoseBy n source.given next.given) (add-zero s.given) (RoseBy-twice s.given 0 source.given now.given next.given s.calls counts);
              within = omega (arith, s.each going);
              ended = false;
              at_end = λ e. absurd (not_true e);
              whole = whole_of source.left next.left false s.input bytes (λ e. absurd (not_true e));
            };
            cause = (Rose-later source.faults now.faults next.faults s.faults rose, omega (arith, some, s.each going), open_now none);
          }

      -- the bytes that it gave weren't fed
      pub unfed : (bytes : List ℕ) → old.calls ≢ 0 → Consumes now.left next.left bytes → RoseBy 1 now.given next.given → CutOff budget source next (IsOpenAt p) Memory
      unfed bytes some gave counts =
          let all : Consumes source.left next.left (s.input ++ bytes) = Consumes-twice source.left now.left next.left s.input bytes s.bytes gave in
          record {
            read = record {
              input = s.input ++ bytes;
              given = s.given + 1;
              bytes = all;
              calls = RoseBy-twice s.given 1 source.given now.given next.given s.calls counts;
              within = omega (arith, some, s.each going);
              ended = false;
              at_end = λ e. absurd (not_true e);
              whole = whole_of source.left next.left false (s.input ++ bytes) all (λ e. absurd (not_true e));
            };
            cause = tt;
          }

      module _ (new : Intake) (called : new.calls + 1 ≡ old.calls) (later : now.faults ≤ next.faults) where
        -- they were
        pub fed : (bytes : List ℕ) → Consumes now.left next.left bytes → RoseBy 1 now.given next.given → 0 < length bytes → new.reader ≡ record old.reader { bytes = old.reader.bytes ++ bytes } → SoFar budget source next p new
        fed bytes gave counts some is =
            let still : new.reader.finished ≡ false = ap (λ (u : Unread). u.finished) is ∙ going in
            record {
              input = s.input ++ bytes;
              given = s.given + 1;
              bytes = Consumes-twice source.left now.left next.left s.input bytes s.bytes gave;
              calls = RoseBy-twice s.given 1 source.given now.given next.given s.calls counts;
              faults = omega (arith, s.faults, later);
              many = omega (arith, some, s.many, length-append s.input bytes);
              each = λ e. let before = s.each going in omega (arith, called, before);
              but_one = λ e. absurd (not_true (sym still ∙ e));
              ended = λ e. absurd (not_true (sym still ∙ e));
              left = record s.left { bytes = s.left.bytes ++ bytes };
              skips = subst (Skips (record s.left { bytes = s.left.bytes ++ bytes })) (sym is) (skips_fed s.left old.reader s.skips bytes);
              reached = λ more may.
                  let h = s.reached (bytes ++ more) (subst (λ b. MayFollow b (bytes ++ more)) (sym going) tt) in
                  subst (λ xs. Reached p xs ((s.left.bytes ++ bytes) ++ more)) (sym (append_assoc s.input bytes more))
                  (subst (λ xs. Reached p (s.input ++ (bytes ++ more)) xs) (sym (append_assoc s.left.bytes bytes more)) h);
            }

        -- it is at its end
        pub closed : Keeps now.left next.left → RoseBy 0 now.given next.given → IsAtEnd next.left → new.reader ≡ record old.reader { finished = true } → SoFar budget source next p new
        closed kept counts at is =
            let over : new.reader.finished ≡ true = ap (λ (u : Unread). u.finished) is in
            record {
              input = s.input;
              given = s.given;
              bytes = Consumes-Keeps source.left now.left next.left s.input s.bytes kept;
              calls = subst (λ n. RoseBy n source.given next.given) (add-zero s.given) (RoseBy-twice s.given 0 source.given now.given next.given s.calls counts);
              faults = omega (arith, s.faults, later);
              many = s.many;
              each = λ e. absurd (not_true (sym e ∙ over));
              but_one = λ e. let before = s.each going in omega (arith, called, before);
              ended = λ e. at;
              left = record s.left { finished = true };
              skips = subst (Skips (record s.left { finished = true })) (sym is) (skips_finished s.left old.reader s.skips);
              reached = λ more may.
                  let none : more ≡ [] = subst (λ b. MayFollow b more) over may in
                  s.reached more (subst (λ xs. MayFollow old.reader.finished xs) (sym none) (nothing_follows old.reader.finished));
            }

-- ---- room

pub room_fed : (old new : Intake) (bytes : List ℕ) → HasRoom old → new.calls + 1 ≡ old.calls → length bytes ≤ 65536 → new.reader ≡ record old.reader { bytes = old.reader.bytes ++ bytes } → HasRoom new × (new.calls < old.calls) × (weight new < weight old)
room_fed old new bytes room called few is =
    let place : new.reader.place ≡ old.reader.place = ap (λ (u : Unread). u.place) is in
    let size : length new.reader.bytes ≡ length old.reader.bytes + length bytes = ap (λ (u : Unread). length u.bytes) is ∙ length-append old.reader.bytes bytes in
    (omega (arith, place, size, called, few, room), omega (arith, called), omega (arith, size, called, few))

pub room_closed : (old new : Intake) → HasRoom old → new.calls + 1 ≡ old.calls → new.reader ≡ record old.reader { finished = true } → HasRoom new × (new.calls < old.calls) × (weight new < weight old)
room_closed old new room called is =
    let place : new.reader.place ≡ old.reader.place = ap (λ (u : Unread). u.place) is in
    let size : length new.reader.bytes ≡ length old.reader.bytes = ap (λ (u : Unread). length u.bytes) is in
    (omega (arith, place, size, called, room), omega (arith, called), omega (arith, size, called))

pub room_skipped : (old new : Intake) → HasRoom old → new.calls ≡ old.calls → Skips old.reader new.reader → HasRoom new × (weight new ≤ weight old)
room_skipped old new room called skips = (omega (arith, called, skips.place, room), omega (arith, called, skips.shorter))

pub none_skipped : (old new : Unread) → Skips old new → NoneSettled old → NoneSettled new
none_skipped old new skips none a settled = none a (settled_before old new skips a settled)

pub room_read : (old new : Intake) (tokens : List Token) → HasRoom old → new.calls ≡ old.calls → Takes old.reader tokens new.reader → HasRoom new × (weight new < weight old)
room_read old new tokens room called takes = (omega (arith, called, takes.place, room), omega (arith, called, takes.some))
