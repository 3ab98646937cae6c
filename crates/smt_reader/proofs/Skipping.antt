-- Where white space and comments are let go, nothing else changes.
use Rattle.std.proofs.Common.{◌≡◌, ◌↔◌, ℕ, ◌+◌, Bool, true, false, inl, inr, List, [], ◌∷◌, ◌++◌, length, arith, refl, sym, ◌∙◌, ap, subst, append_assoc, length-append}
use Rattle.smt_meaning.specs.Reading.{lexeme, wrong, Lexes, Shape, shapes, Opens, most_open, IsSExpr, HasCharacter, HasNesting, HasUnfinished, HasFault, First, Answer, ready, fault, end, Unread, MayFollow, IsSettled, Takes}
use Rattle.smt_meaning.specs.declared.tokens.Token.{Token}
use Rattle.smt_meaning.specs.declared.tokens.FaultKind.{FaultKind}
use Rattle.smt_meaning.specs.declared.tokens.FaultKind.TheVariants.{Character, Closing, Unfinished, Nesting}
use Rattle.smt_reader.specs.Reader.{Skips}
use Rattle.smt_reader.proofs.Runs.{Lexes-shorter}

no_tokens : (front : List Shape) (last : Shape) → ◌≡◌ {A = List Shape} [] (front ++ last ∷ []) → ⊥
no_tokens [] last e = cc
no_tokens (s ∷ ss) last e = cc

-- bytes in which the same comes first
module _ (a b : List ℕ) (e : lexeme a ≡ lexeme b) where
  lexes_alike : (ts : List Token) (rest : List ℕ) → IsSExpr ts → Lexes a ts rest → Lexes b ts rest
  lexes_alike [] rest s l = absurd (no_tokens s.0 s.2 s.3)
  lexes_alike (t ∷ ts) rest s (start, after, is, l) = (start, after, sym e ∙ is, l)

  character_alike : (from : List ℕ) → HasCharacter a from → HasCharacter b from
  character_alike from h = by_read h.read h.depth h.rest h.opens h.lexes h.is_wrong where
    by_read : (read : List Token) (depth : ℕ) (rest : List ℕ) → Opens 0 (shapes read) depth → Lexes a read rest → lexeme rest ≡ wrong from → HasCharacter b from
    by_read [] depth rest o l w = record {
      read = [];
      depth = depth;
      rest = b;
      opens = o;
      lexes = refl;
      is_wrong = sym e ∙ ap lexeme l ∙ w;
    }
    by_read (t ∷ ts) depth rest o (start, after, is, l) w = record {
      read = t ∷ ts;
      depth = depth;
      rest = rest;
      opens = o;
      lexes = (start, after, sym e ∙ is, l);
      is_wrong = w;
    }

  nesting_alike : (from : List ℕ) → HasNesting a from → HasNesting b from
  nesting_alike from h = by_read h.read h.opens h.lexes where
    by_read : (read : List Token) → Opens 0 (shapes read) most_open → Lexes a read h.rest → HasNesting b from
    by_read [] o l = absurd (omega (arith, o))
    by_read (t ∷ ts) o (start, after, is, l) = record {
      read = t ∷ ts;
      rest = h.rest;
      after = h.after;
      opens = o;
      lexes = (start, after, sym e ∙ is, l);
      enter = h.enter;
    }

  unfinished_alike : (from : List ℕ) → HasUnfinished a from → HasUnfinished b from
  unfinished_alike from (inl h) = inl (record {
    first = h.first;
    after = h.after;
    begins = sym e ∙ h.begins;
    read = h.read;
    depth = h.depth;
    rest = h.rest;
    opens = h.opens;
    lexes = h.lexes;
    is_cut = h.is_cut;
  })
  unfinished_alike from (inr h) = inr (sym e ∙ h)

  fault_alike : (kind : FaultKind) (from : List ℕ) → HasFault kind a from → HasFault kind b from
  fault_alike Character from h = character_alike from h
  fault_alike Closing from h = record { after = h.after; leave = sym e ∙ h.leave }
  fault_alike Unfinished from h = unfinished_alike from h
  fault_alike Nesting from h = nesting_alike from h

  answer_alike : (p q : ℕ) → q + length b ≡ p + length a → (x : Answer) → First p a x → First q b x
  answer_alike p q same (ready ts) (s, rest, l) = (s, rest, lexes_alike ts rest s l)
  answer_alike p q same (fault kind at) (from, h, place) = (from, fault_alike kind from h, place ∙ sym same)
  answer_alike p q same end h = sym e ∙ h

pub skips_none : (u : Unread) → Skips u u
skips_none u = record {
  lexeme_is = λ more. refl;
  place = refl;
  shorter = omega arith;
  finished = refl;
}

nothing_follows : (b : Bool) → MayFollow b []
nothing_follows true = refl
nothing_follows false = tt

pub skips_twice : (u v w : Unread) → Skips u v → Skips v w → Skips u w
skips_twice u v w p q = record {
  lexeme_is = λ more. p.lexeme_is more ∙ q.lexeme_is more;
  place = q.place ∙ p.place;
  shorter = omega (arith, p.shorter, q.shorter);
  finished = q.finished ∙ p.finished;
}

module _ (old new : Unread) (p : Skips old new) where
  sizes : (more : List ℕ) → new.place + length (new.bytes ++ more) ≡ old.place + length (old.bytes ++ more)
  sizes more = omega (arith, p.place, length-append old.bytes more, length-append new.bytes more)

  pub first_before : (more : List ℕ) (a : Answer) → First new.place (new.bytes ++ more) a → First old.place (old.bytes ++ more) a
  first_before more a f = answer_alike (new.bytes ++ more) (old.bytes ++ more) (sym (p.lexeme_is more)) new.place old.place (sym (sizes more)) a f

  pub first_after : (more : List ℕ) (a : Answer) → First old.place (old.bytes ++ more) a → First new.place (new.bytes ++ more) a
  first_after more a f = answer_alike (old.bytes ++ more) (new.bytes ++ more) (p.lexeme_is more) old.place new.place (sizes more) a f

  -- whatever is settled for one is settled for the other
  pub settled_before : (a : Answer) → IsSettled new a → IsSettled old a
  settled_before a s more may = first_before more a (s more (subst (λ b. MayFollow b more) (sym p.finished) may))

  pub settled_after : (a : Answer) → IsSettled old a → IsSettled new a
  settled_after a s more may = first_after more a (s more (subst (λ b. MayFollow b more) p.finished may))

  -- and an s-expression that is taken from one is taken from the other
  pub takes_before : (ts : List Token) (later : Unread) → IsSExpr ts → Takes new ts later → Takes old ts later
  takes_before ts later s t = record {
    lexes = λ more may. lexes_alike (new.bytes ++ more) (old.bytes ++ more) (sym (p.lexeme_is more)) ts (later.bytes ++ more) s (t.lexes more (subst (λ b. MayFollow b more) (sym p.finished) may));
    place = t.place ∙ p.place;
    finished = t.finished ∙ p.finished;
    some = omega (arith, t.some, p.shorter);
  }

  some_token : (ts : List Token) → IsSExpr ts → length ts ≡ 0 → ⊥
  some_token [] s e = no_tokens s.0 s.2 s.3
  some_token (t ∷ ts) s e = omega (arith, e)

  pub takes_after : (ts : List Token) (later : Unread) → IsSExpr ts → Takes old ts later → Takes new ts later
  takes_after ts later s t =
      let lexes : (more : List ℕ) → MayFollow new.finished more → Lexes (new.bytes ++ more) ts (later.bytes ++ more)
      = λ more may. lexes_alike (old.bytes ++ more) (new.bytes ++ more) (p.lexeme_is more) ts (later.bytes ++ more) s (t.lexes more (subst (λ b. MayFollow b more) p.finished may)) in
      let shorter = Lexes-shorter (new.bytes ++ []) (later.bytes ++ []) ts (lexes [] (nothing_follows new.finished)) in
      record {
        lexes = lexes;
        place = t.place ∙ sym p.place;
        finished = t.finished ∙ sym p.finished;
        some = omega (arith, shorter, some_token ts s, length-append new.bytes [], length-append later.bytes []);
      }

  pub answer_both : (a : Answer) → IsSettled old a ↔ IsSettled new a
  answer_both a = (settled_after a, settled_before a)

  pub takes_both : (ts : List Token) (later : Unread) → IsSExpr ts → Takes old ts later ↔ Takes new ts later
  takes_both ts later s = (takes_after ts later s, takes_before ts later s)

  -- more bytes come
  pub skips_fed : (piece : List ℕ) → Skips (record old { bytes = old.bytes ++ piece }) (record new { bytes = new.bytes ++ piece })
  skips_fed piece = record {
    lexeme_is = λ more. ap lexeme (append_assoc old.bytes piece more) ∙ p.lexeme_is (piece ++ more) ∙ ap lexeme (sym (append_assoc new.bytes piece more));
    place = omega (arith, p.place, length-append old.bytes piece, length-append new.bytes piece);
    shorter = omega (arith, p.shorter, length-append old.bytes piece, length-append new.bytes piece);
    finished = p.finished;
  }

  -- or no more
  pub skips_finished : Skips (record old { finished = true }) (record new { finished = true })
  skips_finished = record {
    lexeme_is = p.lexeme_is;
    place = p.place;
    shorter = p.shorter;
    finished = refl;
  }
