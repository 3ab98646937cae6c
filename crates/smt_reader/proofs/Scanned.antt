-- A scan by its places: how it goes on, and what it finds.
use Rattle.std.proofs.Common.{◌≡◌, ◌<◌, ◌≤◌, ℕ, ◌+◌, ◌-◌, Bool, true, inl, inr, List, [], ◌∷◌, ◌++◌, length, take, drop, slice_range, zero, suc, Some, arith, refl, sym, ◌∙◌, ap, subst, append-nil, append_assoc, length-append, length-drop}
use Rattle.std.proofs.lemmas.List.{drop-drop, drop_all, drop-append-le, take-append-le}
use Rattle.std.proofs.lemmas.List.Folds.{drop_split}
use Rattle.std.proofs.Math.Seq.{take-add}
use Rattle.smt_meaning.specs.Reading.{lexeme, token, nothing, shape, shapes, Opens, most_open, Completes}
use Rattle.smt_meaning.specs.declared.tokens.Token.{Token}
use Rattle.smt_meaning.specs.declared.tokens.Token.TheVariants.{Enter, Leave}
use Rattle.smt_meaning.specs.declared.tokens.FaultKind.TheVariants.{Character, Closing, Unfinished, Nesting}
use Rattle.smt_reader.specs.declared.part.Part.{Part}
use Rattle.smt_reader.specs.declared.part.Part.TheVariants.{Blank}
use Rattle.smt_reader.specs.declared.part.Turn.{Turn}
use Rattle.smt_reader.specs.declared.part.Turn.TheVariants.{Enters, Leaves, Begins, Adds, Ends, Closes, Wrong, Malformed}
use Rattle.smt_reader.specs.declared.part.Ending.{Ending}
use Rattle.smt_reader.specs.declared.part.Ending.TheVariants.{Bare, Whole, Halted, Formless}
use Rattle.smt_reader.specs.declared.scan.Scan.{Scan}
use Rattle.smt_reader.specs.declared.scan.Found.{Found}
use Rattle.smt_reader.specs.declared.scan.Found.TheVariants.{Ready, Fault, End}
use Rattle.smt_reader.specs.Parts.{goes_on, part_token, Passes, Extends, StopsAt, EndsSo}
use Rattle.smt_reader.specs.Scan.{Stands, start_of, IsScan, EndsAt, IsUnsettled, Finds, Keeps, Goes}
use Rattle.smt_reader.proofs.Unsettled.{top_unsettled, list_unsettled}
use Rattle.smt_reader.proofs.Runs.{Lexes-push, shapes-push, Lexes-shorter}
use Rattle.smt_reader.proofs.PartRuns.{extends_on}
use Rattle.smt_reader.proofs.Scans.{stands_anew, stands_fed, stands_passed, stands_begun, stands_extended, stands_on, completes, has_character, has_closing, has_nesting, top_lexeme, part_single, IsCutShort, list_is_open}

-- Places

next_drop : (bytes rest : List ℕ) (i b : ℕ) → drop i bytes ≡ b ∷ rest → drop (i + 1) bytes ≡ rest
next_drop bytes rest i b e = sym (drop-drop 1 i bytes) ∙ ap (drop 1) e

within_byte : (bytes rest : List ℕ) (i b : ℕ) → drop i bytes ≡ b ∷ rest → i + 1 ≤ length bytes
within_byte bytes rest i b e = omega (arith, length-drop i bytes, ap length e)

pub within_stop : (bytes : List ℕ) (part : Part) (looked : ℕ) (turn : Turn) → StopsAt part bytes looked (Some turn) → looked + 1 ≤ length bytes
within_stop bytes part looked turn (b, rest, e, turns) = within_byte bytes rest looked b e

one_byte : (bytes rest : List ℕ) (i b : ℕ) → drop i bytes ≡ b ∷ rest → slice_range bytes i (i + 1) ≡ b ∷ []
one_byte bytes rest i b e =
    let n : (i + 1) - i ≡ 1 = omega arith in
    ap (λ k. take k (drop i bytes)) n ∙ ap (take 1) e

slice_on : (bytes : List ℕ) (start looked passed : ℕ) → start ≤ looked → slice_range bytes start looked ++ take passed (drop looked bytes) ≡ slice_range bytes start (looked + passed)
slice_on bytes start looked passed le =
    let n : (looked + passed) - start ≡ (looked - start) + passed = omega arith in
    let m : start + (looked - start) ≡ looked = omega arith in
    sym (
    ap (λ k. take k (drop start bytes)) n
    ∙ take-add (looked - start) passed (drop start bytes)
    ∙ ap (λ xs. slice_range bytes start looked ++ take passed xs) (drop-drop (looked - start) start bytes ∙ ap (λ k. drop k bytes) m)
    )

start_place : (bytes : List ℕ) (start looked : ℕ) → start ≤ looked → looked ≤ length bytes → start + length (slice_range bytes start looked ++ drop looked bytes) ≡ length bytes
start_place bytes start looked le within = omega (arith, ap length (drop_split bytes start looked le), length-drop start bytes)

-- How a scan goes on

anew_at : (unread : List ℕ) (tokens : List Token) (depth from looked : ℕ) (part : Part) (start content : List ℕ) → looked ≡ 0 → part ≡ Blank → tokens ≡ [] → depth ≡ 0
    → Stands unread tokens depth from part start content (drop looked unread)
anew_at unread tokens depth from looked part start content l p t d = rw (l, p, t, d) (stands_anew unread start content from)

-- anew
pub scan_anew : (unread : List ℕ) (s : Scan) → s.looked ≡ 0 → s.start ≡ 0 → s.part ≡ Blank → s.tokens ≡ [] → s.depth ≡ 0 → IsScan unread s
scan_anew unread s l b p t d = record {
  within = omega arith;
  begun = omega arith;
  stands = anew_at unread s.tokens s.depth s.from s.looked s.part (start_of unread s) s.content.items l p t d;
}

-- with the same tokens
pub scan_same : (bytes : List ℕ) (old new : Scan) → new.looked ≡ old.looked → new.start ≡ old.start → new.part ≡ old.part → new.content.items ≡ old.content.items
    → new.tokens ≡ old.tokens → new.depth ≡ old.depth → new.from ≡ old.from → IsScan bytes old → IsScan bytes new
scan_same bytes old new l b p c t d f s = record {
  within = omega (arith, s.within);
  begun = omega (arith, s.begun);
  stands = rw (l, b, p, c, t, d, f) s.stands;
}

slice_fed : (bytes piece : List ℕ) (start looked : ℕ) → start ≤ looked → looked ≤ length bytes → slice_range bytes start looked ≡ slice_range (bytes ++ piece) start looked
slice_fed bytes piece start looked le within =
    let short : looked - start ≤ length (drop start bytes) = omega (arith, length-drop start bytes) in
    let far : start ≤ length bytes = omega arith in
    sym (ap (take (looked - start)) (drop-append-le start bytes piece far) ∙ take-append-le (looked - start) (drop start bytes) piece short)

-- where more bytes are there
pub scan_fed : (bytes piece : List ℕ) (s : Scan) → IsScan bytes s → IsScan (bytes ++ piece) s
scan_fed bytes piece s h =
    let fed = stands_fed bytes piece s.tokens s.depth s.from s.part (start_of bytes s) s.content.items (drop s.looked bytes) h.stands in
    let here = subst (λ start. Stands (bytes ++ piece) s.tokens s.depth s.from s.part start s.content.items (drop s.looked bytes ++ piece)) (slice_fed bytes piece s.start s.looked h.begun h.within) fed in
    record {
      within = omega (arith, h.within, length-append bytes piece);
      begun = h.begun;
      stands = subst (Stands (bytes ++ piece) s.tokens s.depth s.from s.part (start_of (bytes ++ piece) s) s.content.items) (sym (drop-append-le s.looked bytes piece h.within)) here;
    }

-- There are no more tokens than bytes.
pub scan_tokens : (bytes : List ℕ) (s : Scan) → IsScan bytes s → length s.tokens ≤ length bytes
scan_tokens bytes s h = omega (arith, Lexes-shorter (bytes ++ []) (h.stands.tail ++ []) s.tokens (h.stands.lexes []), length-append bytes [])

-- past some bytes
pub scan_passed : (bytes : List ℕ) (s : Scan) (part : Part) (passed : ℕ) → IsScan bytes s → Passes s.part part (drop s.looked bytes) passed
    → IsScan bytes (record s { looked = s.looked + passed; part = part })
scan_passed bytes s part passed h p =
    let on = stands_passed bytes s.tokens s.depth s.from s.part part (start_of bytes s) s.content.items (drop s.looked bytes) passed h.stands p in
    record {
      within = omega (arith, p.within, h.within, length-drop s.looked bytes);
      begun = omega (arith, h.begun);
      stands = subst (λ start. Stands bytes s.tokens s.depth s.from part start s.content.items (drop (s.looked + passed) bytes)) (slice_on bytes s.start s.looked passed h.begun)
          (subst (Stands bytes s.tokens s.depth s.from part (start_of bytes s ++ take passed (drop s.looked bytes)) s.content.items) (drop-drop passed s.looked bytes) on);
    }

-- into a token
pub scan_begun : (bytes : List ℕ) (old new : Scan) (part : Part) → IsScan bytes old → StopsAt old.part bytes old.looked (Some (Begins part))
    → new.looked ≡ old.looked + 1 → new.start ≡ old.looked → new.part ≡ part → new.content.items ≡ [] → new.tokens ≡ old.tokens → new.depth ≡ old.depth → new.from ≡ old.from
    → Goes bytes old new
scan_begun bytes old new part s (b, rest, e, turns) l st p c t d f =
    let left = subst (Stands bytes old.tokens old.depth old.from old.part (start_of bytes old) old.content.items) e s.stands in
    let on = stands_begun bytes old.tokens old.depth old.from old.part part (start_of bytes old) old.content.items b rest left turns in
    let here = subst (λ start. Stands bytes old.tokens old.depth old.from part start [] rest) (sym (one_byte bytes rest old.looked b e)) on in
    let now = subst (Stands bytes old.tokens old.depth old.from part (slice_range bytes old.looked (old.looked + 1)) []) (sym (next_drop bytes rest old.looked b e)) here in
    record {
      scan = record {
        within = omega (arith, within_byte bytes rest old.looked b e);
        begun = omega arith;
        stands = rw (l, st, p, c, t, d, f) now;
      };
      onward = omega (arith, ap length t);
    }

-- in a token
pub scan_extended : (bytes : List ℕ) (old new : Scan) (part : Part) (more : ℕ) → IsScan bytes old → StopsAt old.part bytes old.looked (Some (Adds part))
    → Extends part part (drop (old.looked + 1) bytes) more
    → new.looked ≡ old.looked + (1 + more) → new.start ≡ old.start → new.part ≡ part → new.content.items ≡ old.content.items ++ slice_range bytes old.looked (old.looked + (1 + more))
    → new.tokens ≡ old.tokens → new.depth ≡ old.depth → new.from ≡ old.from → Goes bytes old new
scan_extended bytes old new part more s (b, rest, e, turns) behind l st p c t d f =
    let added = 1 + more in
    let first = extends_on old.part part b rest more turns (subst (λ xs. Extends part part xs more) (next_drop bytes rest old.looked b e) behind) in
    let x = subst (λ xs. Extends old.part part xs added) (sym e) first in
    let on = stands_extended bytes old.tokens old.depth old.from old.part part (start_of bytes old) old.content.items (drop old.looked bytes) added s.stands x in
    let n : (old.looked + added) - old.looked ≡ added = omega arith in
    let content : new.content.items ≡ old.content.items ++ take added (drop old.looked bytes) = c ∙ ap (λ k. old.content.items ++ take k (drop old.looked bytes)) n in
    let now = subst (λ start. Stands bytes old.tokens old.depth old.from part start (old.content.items ++ take added (drop old.looked bytes)) (drop (old.looked + added) bytes)) (slice_on bytes old.start old.looked added s.begun)
    (subst (Stands bytes old.tokens old.depth old.from part (start_of bytes old ++ take added (drop old.looked bytes)) (old.content.items ++ take added (drop old.looked bytes))) (drop-drop added old.looked bytes) on) in
    record {
      scan = record {
        within = omega (arith, x.within, s.within, length-drop old.looked bytes);
        begun = omega (arith, s.begun);
        stands = rw (l, st, p, content, t, d, f) now;
      };
      onward = omega (arith, ap length t);
    }

-- The next byte, or the token before it, is a token, and the bytes go on from a place.
abbrev pub TokenAt : List ℕ → Scan → Token → List ℕ → ℕ → Type 0
TokenAt bytes s t first after = (more : List ℕ) → goes_on s.part (start_of bytes s) s.content.items (drop s.looked bytes ++ more) ≡ token (first ++ more) t (drop after bytes ++ more)

-- past a token
pub scan_on : (bytes : List ℕ) (old new : Scan) (t : Token) (first : List ℕ) (after : ℕ) → IsScan bytes old → TokenAt bytes old t first after → old.looked ≤ after → after ≤ length bytes
    → new.looked ≡ after → new.start ≡ after → new.part ≡ Blank → new.tokens ≡ old.tokens ++ t ∷ [] → Opens old.depth (shape t ∷ []) new.depth
    → (old.depth ≡ 0 → new.from + length first ≡ length bytes) → (0 < old.depth → new.from ≡ old.from) → Goes bytes old new
scan_on bytes old new t first after s is le within l st p ts o top inner =
    let on = stands_on bytes old.tokens old.depth old.from old.part (start_of bytes old) old.content.items (drop old.looked bytes) s.stands
    t first (drop after bytes) is new.depth new.from (slice_range bytes new.start after) new.content.items o top inner in
    record {
      scan = record {
        within = omega arith;
        begun = omega arith;
        stands = rw (l, p, ts) on;
      };
      onward = omega (arith, ap length ts, length-append old.tokens (t ∷ []));
    }

-- What a scan finds

-- an s-expression
pub found_ready : (bytes : List ℕ) (s : Scan) (t : Token) (first : List ℕ) (after : ℕ) → IsScan bytes s → TokenAt bytes s t first after → after ≤ length bytes → Completes s.depth (shape t)
    → (finished : Bool) → Finds bytes finished (Ready (s.tokens ++ t ∷ []) after)
found_ready bytes s t first after h is within c finished =
    let done = completes bytes s.tokens s.depth s.from s.part (start_of bytes s) s.content.items (drop s.looked bytes) h.stands t first (drop after bytes) is c in
    let shorter = Lexes-shorter (bytes ++ []) (drop after bytes ++ []) (s.tokens ++ t ∷ []) (done.1 []) in (
      done.0,
      omega (arith, shorter, length-append bytes [], length-append (drop after bytes) [], length-drop after bytes, length-append s.tokens (t ∷ [])),
      within,
      λ more may. done.1 more,
    )

pub comes_ready : (bytes : List ℕ) (new : Scan) (f : Found) (all ts : List Token) (used : ℕ) → f ≡ Ready all used → all ≡ ts
    → ((finished : Bool) → Finds bytes finished (Ready ts used)) → ((unread : List ℕ) → IsScan unread new) → ((finished : Bool) → Finds bytes finished f) × Keeps bytes f new
comes_ready bytes new f all ts used e a h k = rw (e, a) (h, k)

module _ (bytes : List ℕ) (s : Scan) (h : IsScan bytes s) where
  left_place : s.looked + length (drop s.looked bytes) ≡ length bytes
  left_place = omega (arith, h.within, length-drop s.looked bytes)

  pub enters_at : StopsAt s.part bytes s.looked (Some Enters) → TokenAt bytes s Enter (drop s.looked bytes) (s.looked + 1)
  enters_at (b, rest, e, turns) more = rw (e, next_drop bytes rest s.looked b e) (turns (start_of bytes s) s.content.items (rest ++ more))

  pub leaves_at : StopsAt s.part bytes s.looked (Some Leaves) → TokenAt bytes s Leave (drop s.looked bytes) (s.looked + 1)
  leaves_at (b, rest, e, turns) more = rw (e, next_drop bytes rest s.looked b e) (turns (start_of bytes s) s.content.items (rest ++ more))

  pub ends_at : StopsAt s.part bytes s.looked (Some Ends) → EndsAt bytes s s.looked
  ends_at (b, rest, e, turns) =
      let now = turns (start_of bytes s) s.content.items rest h.stands.is_part in
      record {
        t = now.0;
        first = start_of bytes s ++ b ∷ rest;
        is = now.1;
        ends = λ more.
            let later = turns (start_of bytes s) s.content.items (rest ++ more) h.stands.is_part in
            let same : later.0 ≡ now.0 = cc in
            rw (e, append_assoc (start_of bytes s) (b ∷ rest) more, ← same) later.2;
        onward = omega arith;
        within = h.within;
      }

  pub closes_at : StopsAt s.part bytes s.looked (Some Closes) → EndsAt bytes s (s.looked + 1)
  closes_at (b, rest, e, turns) =
      let now = turns (start_of bytes s) s.content.items rest in
      record {
        t = now.0;
        first = start_of bytes s ++ b ∷ rest;
        is = now.1;
        ends = λ more.
            let later = turns (start_of bytes s) s.content.items (rest ++ more) in
            let same : later.0 ≡ now.0 = cc in
            rw (e, next_drop bytes rest s.looked b e, append_assoc (start_of bytes s) (b ∷ rest) more, ← same) later.2;
        onward = omega arith;
        within = within_byte bytes rest s.looked b e;
      }

  -- a byte that can't stand there
  pub found_wrong : StopsAt s.part bytes s.looked (Some Wrong) → (finished : Bool) → Finds bytes finished (Fault Character s.looked)
  found_wrong (b, rest, e, turns) finished = (
    drop s.looked bytes,
    left_place,
    λ more may. has_character bytes s.tokens s.depth s.from s.part (start_of bytes s) s.content.items (drop s.looked bytes) h.stands more (drop s.looked bytes ++ more)
        (rw e (turns (start_of bytes s) s.content.items (rest ++ more))),
  )

  -- a word of no form
  pub found_malformed : StopsAt s.part bytes s.looked (Some Malformed) → (finished : Bool) → Finds bytes finished (Fault Character s.start)
  found_malformed (b, rest, e, turns) finished = (
    start_of bytes s ++ drop s.looked bytes,
    start_place bytes s.start s.looked h.begun h.within,
    λ more may. has_character bytes s.tokens s.depth s.from s.part (start_of bytes s) s.content.items (drop s.looked bytes) h.stands more ((start_of bytes s ++ drop s.looked bytes) ++ more)
        (rw (e, append_assoc (start_of bytes s) (b ∷ rest) more) (turns (start_of bytes s) s.content.items (rest ++ more) h.stands.is_part)),
  )

  pub found_closing : StopsAt s.part bytes s.looked (Some Leaves) → s.depth ≡ 0 → (finished : Bool) → Finds bytes finished (Fault Closing s.looked)
  found_closing stops none finished = (
    drop s.looked bytes,
    left_place,
    λ more may. has_closing bytes s.tokens s.depth s.from s.part (start_of bytes s) s.content.items (drop s.looked bytes) h.stands more (drop s.looked bytes ++ more) (drop (s.looked + 1) bytes ++ more) none
        (leaves_at stops more),
  )

  pub found_nesting : StopsAt s.part bytes s.looked (Some Enters) → most_open ≤ s.depth → (finished : Bool) → Finds bytes finished (Fault Nesting s.looked)
  found_nesting stops full finished = (
    drop s.looked bytes,
    left_place,
    λ more may. has_nesting bytes s.tokens s.depth s.from s.part (start_of bytes s) s.content.items (drop s.looked bytes) h.stands more (drop s.looked bytes ++ more) (drop (s.looked + 1) bytes ++ more) full
        (enters_at stops more),
  )

  -- Where all bytes were looked at

  module _ (all : s.looked ≡ length bytes) where
    none_left : drop s.looked bytes ≡ []
    none_left = drop_all s.looked bytes (omega arith)

    pub stands_at_end : Stands bytes s.tokens s.depth s.from s.part (start_of bytes s) s.content.items []
    stands_at_end = subst (Stands bytes s.tokens s.depth s.from s.part (start_of bytes s) s.content.items) none_left h.stands

    whole_place : s.start + length (start_of bytes s) ≡ length bytes
    whole_place = omega (arith, start_place bytes s.start s.looked h.begun h.within, ap length none_left, length-append (start_of bytes s) (drop s.looked bytes))

    -- and more bytes may follow
    pub scan_unsettled : IsUnsettled bytes
    scan_unsettled = by_depth s.depth refl where
      by_depth : (depth : ℕ) → s.depth ≡ depth → IsUnsettled bytes
      by_depth zero none = top_unsettled bytes s.tokens s.depth s.from s.part (start_of bytes s) s.content.items stands_at_end none (omega (arith, whole_place))
      by_depth (suc d) some = list_unsettled bytes s.tokens s.depth s.from s.part (start_of bytes s) s.content.items stands_at_end (omega arith)

    -- or none do
    pub found_end : s.depth ≡ 0 → EndsSo s.part Bare → Finds bytes true End
    found_end none ends = (
      refl,
      subst (λ b. lexeme b ≡ nothing) (append-nil bytes)
          (top_lexeme bytes s.tokens s.depth s.from s.part (start_of bytes s) s.content.items [] stands_at_end none [] ∙ ends (start_of bytes s) s.content.items),
    )

    pub found_halted : s.depth ≡ 0 → EndsSo s.part Halted → Finds bytes true (Fault Unfinished s.start)
    found_halted none ends = (
      start_of bytes s,
      whole_place,
      λ more may. rw (may, append-nil (start_of bytes s))
          (inr (top_lexeme bytes s.tokens s.depth s.from s.part (start_of bytes s) s.content.items [] stands_at_end none [] ∙ ends (start_of bytes s) s.content.items)),
    )

    pub found_formless : EndsSo s.part Formless → Finds bytes true (Fault Character s.start)
    found_formless ends = (
      start_of bytes s,
      whole_place,
      λ more may. rw (may, append-nil (start_of bytes s))
          (has_character bytes s.tokens s.depth s.from s.part (start_of bytes s) s.content.items [] stands_at_end [] (start_of bytes s) (ends (start_of bytes s) s.content.items h.stands.is_part)),
    )

    ends_cut : (e : Ending) → (e ≡ Formless → ⊥) → EndsSo s.part e → IsCutShort (goes_on s.part (start_of bytes s) s.content.items [])
    ends_cut Bare other ends = subst IsCutShort (sym (ends (start_of bytes s) s.content.items)) tt
    ends_cut Whole other ends =
        let w = ends (start_of bytes s) s.content.items h.stands.is_part in
        subst IsCutShort (sym w.2) (part_single s.part (start_of bytes s) s.content.items w.0 w.1, refl)
    ends_cut Halted other ends = subst IsCutShort (sym (ends (start_of bytes s) s.content.items)) tt
    ends_cut Formless other ends = absurd (other refl)

    pub found_open : 0 < s.depth → (e : Ending) → (e ≡ Formless → ⊥) → EndsSo s.part e → Finds bytes true (Fault Unfinished s.from)
    found_open some e other ends =
        let o = list_is_open bytes s.tokens s.depth s.from s.part (start_of bytes s) s.content.items [] [] stands_at_end some (ends_cut e other ends) in
        (o.0, o.1, λ more may. rw may (inl o.2))

    pub found_last : s.depth ≡ 0 → EndsSo s.part Whole → (t : Token) → part_token s.part (start_of bytes s) s.content.items ≡ Some t
        → Finds bytes true (Ready (s.tokens ++ t ∷ []) s.looked)
    found_last none ends t is =
        let w = ends (start_of bytes s) s.content.items h.stands.is_part in
        let same : w.0 ≡ t = cc in
        let st = stands_at_end in
        let goes = subst (λ x. goes_on s.part (start_of bytes s) s.content.items [] ≡ token (start_of bytes s) x []) same w.2 in
        let lexes = Lexes-push (bytes ++ []) (st.tail ++ []) (start_of bytes s) [] s.tokens t (st.lexes []) (st.goes [] ∙ goes) in
        let shorter = Lexes-shorter (bytes ++ []) [] (s.tokens ++ t ∷ []) lexes in (
          (shapes s.tokens, s.depth, shape t, shapes-push s.tokens t, st.opens, subst (Completes s.depth) (sym (part_single s.part (start_of bytes s) s.content.items t is)) none),
          omega (arith, shorter, length-append bytes [], length-append s.tokens (t ∷ [])),
          h.within,
          λ more may. rw (may, none_left) lexes,
        )
