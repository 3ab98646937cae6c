-- An input has one first answer.
use Rattle.std.proofs.Common.{◌≡◌, ℕ, ◌+◌, ◌-◌, inl, inr, List, [], ◌∷◌, ◌++◌, length, arith, refl, sym, ◌∙◌, ap, subst, eqb, cond}
use Rattle.smt_meaning.specs.Reading.{lexeme, Lexeme, token, wrong, unended, nothing, Lexes, Shape, opening, closing, single, shape, shapes, Opens, Completes, IsSExpr, IsCut, HasCharacter, HasClosing, HasNesting, HasUnfinished, most_open, First, Answer, ready, fault, end}
use Rattle.smt_meaning.specs.declared.tokens.Token.{Token}
use Rattle.smt_meaning.specs.declared.tokens.FaultKind.TheVariants.{Character, Closing, Unfinished, Nesting}
use Rattle.smt_reader.proofs.Runs.{Stops, same_run}

-- the answer where bytes, read as far as they go on, come to l inside so many open lists; a place is counted from the end of so many bytes
by_shape : ℕ → List Token → ℕ → List ℕ → Token → Shape → Answer
by_shape total read depth from t opening = fault Nesting (total - length from)
by_shape total read depth from t closing = cond (eqb depth 0) (fault Closing (total - length from)) (ready (read ++ t ∷ []))
by_shape total read depth from t single = ready (read ++ t ∷ [])

at_end : ℕ → Lexeme → Answer
at_end total (token start t after) = fault Unfinished (total - length start)
at_end total (wrong from) = end
at_end total (unended start) = fault Unfinished (total - length start)
at_end total nothing = end

verdict : ℕ → List ℕ → List Token → ℕ → Lexeme → Answer
verdict total bytes read depth (token from t after) = by_shape total read depth from t (shape t)
verdict total bytes read depth (wrong from) = fault Character (total - length from)
verdict total bytes read depth (unended start) = at_end total (lexeme bytes)
verdict total bytes read depth nothing = at_end total (lexeme bytes)

record Verdict (total : ℕ) (bytes : List ℕ) (a : Answer) : Type 0 where
  read : List Token
  depth : ℕ
  rest : List ℕ
  opens : Opens 0 (shapes read) depth
  lexes : Lexes bytes read rest
  stops : Stops depth (lexeme rest)
  is : a ≡ verdict total bytes read depth (lexeme rest)

-- the last token of a list with these shapes
record Last (ts : List Token) (front : List Shape) (last : Shape) : Type 0 where
  read : List Token
  t : Token
  all : ts ≡ read ++ t ∷ []
  front_is : shapes read ≡ front
  last_is : shape t ≡ last

last_of : (ts : List Token) (front : List Shape) (last : Shape) → shapes ts ≡ front ++ last ∷ [] → Last ts front last
last_of [] [] last e = absurd cc
last_of [] (s ∷ ss) last e = absurd cc
last_of (t ∷ []) [] last e = record { read = []; t = t; all = refl; front_is = refl; last_is = cc }
last_of (t ∷ u ∷ ts) [] last e = absurd cc
last_of (t ∷ ts) (s ∷ ss) last e =
    let first : shape t ≡ s = cc in
    let more : shapes ts ≡ ss ++ last ∷ [] = cc in
    let again = last_of ts ss last more in
    record { read = t ∷ again.read; t = again.t; all = ap (λ l. t ∷ l) again.all; front_is = cc (first, again.front_is); last_is = again.last_is }

record Popped (bytes : List ℕ) (read : List Token) (t : Token) : Type 0 where
  mid : List ℕ
  start : List ℕ
  after : List ℕ
  lexes : Lexes bytes read mid
  is : lexeme mid ≡ token start t after

Lexes-pop : (bytes rest : List ℕ) (read : List Token) (t : Token) → Lexes bytes (read ++ t ∷ []) rest → Popped bytes read t
Lexes-pop bytes rest [] t (start, after, is, l) = record { mid = bytes; start = start; after = after; lexes = refl; is = is }
Lexes-pop bytes rest (x ∷ read) t (start, after, is, l) =
    let again = Lexes-pop after rest read t l in
    record { mid = again.mid; start = again.start; after = again.after; lexes = (start, after, is, again.lexes); is = again.is }

completes_stops : (n : ℕ) (s : Shape) → Completes n s → (k : ℕ) → Opens n (s ∷ []) k → ⊥
completes_stops n opening c k o = c
completes_stops n closing c k o = omega (arith, o.0)
completes_stops n single c k o = omega (arith, o.0)

completes_ready : (total n : ℕ) (read : List Token) (from : List ℕ) (t : Token) (s : Shape) → Completes n s → ready (read ++ t ∷ []) ≡ by_shape total read n from t s
unfolding by_shape
completes_ready total n read from t opening c = absurd c
completes_ready total n read from t closing c = rw c refl
completes_ready total n read from t single c = refl

ready_verdict : (total : ℕ) (bytes rest : List ℕ) (ts : List Token) → IsSExpr ts → Lexes bytes ts rest → Verdict total bytes (ready ts)
unfolding verdict
ready_verdict total bytes rest ts (front, n, last, is, o, c) l =
    let split = last_of ts front last is in
    let pop = Lexes-pop bytes rest split.read split.t (subst (λ us. Lexes bytes us rest) split.all l) in
    let c' : Completes n (shape split.t) = subst (Completes n) (sym split.last_is) c in
    record {
      read = split.read;
      depth = n;
      rest = pop.mid;
      opens = subst (λ ss. Opens 0 ss n) (sym split.front_is) o;
      lexes = pop.lexes;
      stops = subst (Stops n) (sym pop.is) (completes_stops n (shape split.t) c');
      is = ap ready split.all ∙ completes_ready total n split.read pop.start split.t (shape split.t) c' ∙ ap (verdict total bytes split.read n) (sym pop.is);
    }

place_is : (at total : ℕ) (from : List ℕ) → at + length from ≡ total → at ≡ total - length from
place_is at total from e = omega arith

character_verdict : (at total : ℕ) (bytes from : List ℕ) → HasCharacter bytes from → at + length from ≡ total → Verdict total bytes (fault Character at)
unfolding verdict
character_verdict at total bytes from h e = record {
  read = h.read;
  depth = h.depth;
  rest = h.rest;
  opens = h.opens;
  lexes = h.lexes;
  stops = subst (Stops h.depth) (sym h.is_wrong) tt;
  is = ap (fault Character) (place_is at total from e) ∙ ap (verdict total bytes h.read h.depth) (sym h.is_wrong);
}

nesting_verdict : (at total : ℕ) (bytes from : List ℕ) → HasNesting bytes from → at + length from ≡ total → Verdict total bytes (fault Nesting at)
unfolding verdict by_shape
nesting_verdict at total bytes from h e = record {
  read = h.read;
  depth = most_open;
  rest = h.rest;
  opens = h.opens;
  lexes = h.lexes;
  stops = subst (Stops most_open) (sym h.enter) (λ k o. omega (arith, o.0));
  is = ap (fault Nesting) (place_is at total from e) ∙ ap (verdict total bytes h.read most_open) (sym h.enter);
}

closing_verdict : (at total : ℕ) (bytes from : List ℕ) → HasClosing bytes from → at + length from ≡ total → Verdict total bytes (fault Closing at)
unfolding verdict by_shape
closing_verdict at total bytes from h e = record {
  read = [];
  depth = 0;
  rest = bytes;
  opens = refl;
  lexes = refl;
  stops = subst (Stops 0) (sym h.leave) (λ k o. omega (arith, o.0));
  is = ap (fault Closing) (place_is at total from e) ∙ ap (verdict total bytes [] 0) (sym h.leave);
}

cut_stops : (n : ℕ) (l : Lexeme) → IsCut l → Stops n l
cut_stops n (token start t after) h = absurd h
cut_stops n (wrong from) h = absurd h
cut_stops n (unended start) h = tt
cut_stops n nothing h = tt

cut_verdict : (total depth : ℕ) (bytes : List ℕ) (read : List Token) (l : Lexeme) → IsCut l → at_end total (lexeme bytes) ≡ verdict total bytes read depth l
unfolding verdict
cut_verdict total depth bytes read (token start t after) h = absurd h
cut_verdict total depth bytes read (wrong from) h = absurd h
cut_verdict total depth bytes read (unended start) h = refl
cut_verdict total depth bytes read nothing h = refl

unfinished_verdict : (at total : ℕ) (bytes from : List ℕ) → HasUnfinished bytes from → at + length from ≡ total → Verdict total bytes (fault Unfinished at)
unfolding verdict at_end
unfinished_verdict at total bytes from (inl h) e = record {
  read = h.first ∷ h.read;
  depth = h.depth;
  rest = h.rest;
  opens = h.opens;
  lexes = (from, h.after, h.begins, h.lexes);
  stops = cut_stops h.depth (lexeme h.rest) h.is_cut;
  is = ap (fault Unfinished) (place_is at total from e) ∙ ap (at_end total) (sym h.begins) ∙ cut_verdict total h.depth bytes (h.first ∷ h.read) (lexeme h.rest) h.is_cut;
}
unfinished_verdict at total bytes from (inr h) e = record {
  read = [];
  depth = 0;
  rest = bytes;
  opens = refl;
  lexes = refl;
  stops = subst (Stops 0) (sym h) tt;
  is = ap (fault Unfinished) (place_is at total from e) ∙ ap (at_end total) (sym h) ∙ ap (verdict total bytes [] 0) (sym h);
}

end_verdict : (total : ℕ) (bytes : List ℕ) → lexeme bytes ≡ nothing → Verdict total bytes end
unfolding verdict at_end
end_verdict total bytes e = record {
  read = [];
  depth = 0;
  rest = bytes;
  opens = refl;
  lexes = refl;
  stops = subst (Stops 0) (sym e) tt;
  is = ap (at_end total) (sym e) ∙ ap (verdict total bytes [] 0) (sym e);
}

verdict_of : (place : ℕ) (bytes : List ℕ) (a : Answer) → First place bytes a → Verdict (place + length bytes) bytes a
verdict_of place bytes (ready ts) (s, rest, l) = ready_verdict (place + length bytes) bytes rest ts s l
verdict_of place bytes (fault Character at) (from, h, e) = character_verdict at (place + length bytes) bytes from h e
verdict_of place bytes (fault Closing at) (from, h, e) = closing_verdict at (place + length bytes) bytes from h e
verdict_of place bytes (fault Unfinished at) (from, h, e) = unfinished_verdict at (place + length bytes) bytes from h e
verdict_of place bytes (fault Nesting at) (from, h, e) = nesting_verdict at (place + length bytes) bytes from h e
verdict_of place bytes end e = end_verdict (place + length bytes) bytes e

-- what comes first is determined
pub one_answer : (place : ℕ) (bytes : List ℕ) (a b : Answer) → First place bytes a → First place bytes b → a ≡ b
one_answer place bytes a b f g =
    let v = verdict_of place bytes a f in
    let w = verdict_of place bytes b g in
    let same = same_run 0 v.depth w.depth v.read w.read bytes v.rest w.rest v.opens v.lexes v.stops w.opens w.lexes w.stops in
    let va = v.is in
    let wa = w.is in
    let e0 = same.0 in
    let e1 = same.1 in
    let e2 = same.2 in
    cc
