-- White space and comments that are let go.
use Rattle.std.proofs.Common.{◌≡◌, ◌<◌, ◌≤◌, ℕ, ◌+◌, ◌-◌, Bool, List, [], ◌∷◌, ◌++◌, length, drop, set, arith, refl, sym, ◌∙◌, ap, subst, length-drop}
use Rattle.std.proofs.lemmas.List.{drop-drop, drop-set, length-set}
use Rattle.smt_meaning.specs.Reading.{Unread, lexeme, shape, shapes, Opens}
use Rattle.smt_meaning.specs.declared.tokens.Token.{Token}
use Rattle.smt_reader.specs.declared.part.Part.TheVariants.{Blank, Comment}
use Rattle.smt_reader.specs.declared.scan.Scan.{Scan}
use Rattle.smt_reader.specs.Parts.{goes_on}
use Rattle.smt_reader.specs.Scan.{Stands, IsScan, IsReading, start_of}
use Rattle.smt_reader.specs.Reader.{Skips}
use Rattle.smt_reader.proofs.Runs.{begun_open}
use Rattle.smt_reader.proofs.Scans.{top_lexeme}
use Rattle.smt_reader.proofs.Scanned.{scan_anew}

no_tokens : (ts : List Token) (depth : ℕ) → depth ≡ 0 → Opens 0 (shapes ts) depth → ts ≡ []
no_tokens [] depth none o = refl
no_tokens (t ∷ ts) depth none o = absurd (omega (arith, none, begun_open depth (shape t) (shapes ts) o))

module _ (bytes : List ℕ) (s : Scan) (h : IsScan bytes s) (none : s.depth ≡ 0) where
  -- what comes first comes behind the bytes that were looked at
  pub blank_skipped : s.part ≡ Blank → (more : List ℕ) → lexeme (bytes ++ more) ≡ lexeme (drop s.looked bytes ++ more)
  unfolding goes_on
  blank_skipped part more =
      subst (λ p. lexeme (bytes ++ more) ≡ goes_on p (start_of bytes s) s.content.items (drop s.looked bytes ++ more)) part
      (top_lexeme bytes s.tokens s.depth s.from s.part (start_of bytes s) s.content.items (drop s.looked bytes) h.stands none more)

  -- or behind a mark of a comment
  pub comment_skipped : s.part ≡ Comment → (more : List ℕ) → lexeme (bytes ++ more) ≡ lexeme ((59 ∷ drop s.looked bytes) ++ more)
  unfolding goes_on lexeme
  comment_skipped part more =
      subst (λ p. lexeme (bytes ++ more) ≡ goes_on p (start_of bytes s) s.content.items (drop s.looked bytes ++ more)) part
      (top_lexeme bytes s.tokens s.depth s.from s.part (start_of bytes s) s.content.items (drop s.looked bytes) h.stands none more)

  pub blank_scan : (unread : List ℕ) (new : Scan) → s.part ≡ Blank → new ≡ record s { looked = 0; start = 0 } → IsScan unread new
  blank_scan unread new part is = rw is (scan_anew unread (record s { looked = 0; start = 0 }) refl refl part (no_tokens s.tokens s.depth none h.stands.opens) none)

comment_at : (rest : List ℕ) (tokens : List Token) (depth from : ℕ) (start content : List ℕ) → tokens ≡ [] → depth ≡ 0 → Stands (59 ∷ rest) tokens depth from Comment start content rest
unfolding goes_on lexeme
comment_at rest tokens depth from start content t d = rw (t, d) (record {
  opens = refl;
  begins = tt;
  tail = 59 ∷ rest;
  lexes = λ more. refl;
  goes = λ more. refl;
  is_part = tt;
})

-- behind the mark a comment goes on
pub comment_scan : (bytes rest unread : List ℕ) (s new : Scan) → IsScan bytes s → s.depth ≡ 0 → s.part ≡ Comment → unread ≡ 59 ∷ rest → new ≡ record s { looked = 1; start = 1 } → IsScan unread new
comment_scan bytes rest unread s new h none part e is = rw (e, is) (record {
  within = omega arith;
  begun = omega arith;
  stands = rw part (comment_at rest s.tokens s.depth s.from _ s.content.items (no_tokens s.tokens s.depth none h.stands.opens) none);
})

-- What a reader keeps then

module _ (items : List ℕ) (base at : ℕ) (s : Scan) (r : IsReading items base at s) (none : s.depth ≡ 0) where
  size : at + length (drop at items) ≡ length items
  size = omega (arith, r.within, length-drop at items)

  onward : at + s.looked ≤ length items
  onward = omega (arith, size, r.scan.within)

  onward_size : (at + s.looked) + length (drop (at + s.looked) items) ≡ length items
  onward_size = omega (arith, onward, length-drop (at + s.looked) items)

  pub blank_reading : (new : Scan) → s.part ≡ Blank → new ≡ record s { looked = 0; start = 0 } → IsReading items base (at + s.looked) new
  blank_reading new part is = record {
    within = onward;
    room = r.room;
    scan = blank_scan (drop at items) s r.scan none (drop (at + s.looked) items) new part is;
  }

  pub blank_skips : (u : Unread) (f : Bool) → ◌≡◌ {A = Unread} (record { place = base + at; bytes = drop at items; finished = f }) u → s.part ≡ Blank
      → Skips u (record { place = base + (at + s.looked); bytes = drop (at + s.looked) items; finished = f })
  blank_skips u f is part = subst (λ (v : Unread). Skips v (record { place = base + (at + s.looked); bytes = drop (at + s.looked) items; finished = f })) is (record {
    lexeme_is = λ more. blank_skipped (drop at items) s r.scan none part more ∙ ap (λ xs. lexeme (xs ++ more)) (drop-drop s.looked at items);
    place = omega (arith, size, onward_size);
    shorter = omega (arith, size, onward_size);
    finished = refl;
  })

  module _ (some : 0 < s.looked) where
    abbrev mark_at : ℕ
    mark_at = at + (s.looked - 1)

    marked : drop mark_at (set items mark_at 59) ≡ 59 ∷ drop (at + s.looked) items
    marked =
        let behind : mark_at + 1 ≡ at + s.looked = omega (arith, some) in
        drop-set items mark_at 59 (omega (arith, some, onward)) ∙ ap (λ n. 59 ∷ drop n items) behind

    marked_size : length (drop mark_at (set items mark_at 59)) ≡ 1 + length (drop (at + s.looked) items)
    marked_size = omega (arith, ap length marked)

    pub comment_reading : (new : Scan) → s.part ≡ Comment → new ≡ record s { looked = 1; start = 1 } → IsReading (set items mark_at 59) base mark_at new
    comment_reading new part is = record {
      within = omega (arith, some, onward, length-set items mark_at 59);
      room = omega (arith, r.room, length-set items mark_at 59);
      scan = comment_scan (drop at items) (drop (at + s.looked) items) (drop mark_at (set items mark_at 59)) s new r.scan none part marked is;
    }

    pub comment_skips : (u : Unread) (f : Bool) → ◌≡◌ {A = Unread} (record { place = base + at; bytes = drop at items; finished = f }) u → s.part ≡ Comment
        → Skips u (record { place = base + mark_at; bytes = drop mark_at (set items mark_at 59); finished = f })
    comment_skips u f is part = subst (λ (v : Unread). Skips v (record { place = base + mark_at; bytes = drop mark_at (set items mark_at 59); finished = f })) is (record {
      lexeme_is = λ more.
          comment_skipped (drop at items) s r.scan none part more
          ∙ ap (λ xs. lexeme ((59 ∷ xs) ++ more)) (drop-drop s.looked at items)
          ∙ ap (λ xs. lexeme (xs ++ more)) (sym marked);
      place = omega (arith, some, size, onward_size, marked_size);
      shorter = omega (arith, some, size, onward_size, marked_size);
      finished = refl;
    })
