-- Where the bytes end in a token, no answer is settled.
use Rattle.std.proofs.Common.{◌≡◌, ◌<◌, ◌≤◌, ℕ, ◌+◌, ◌-◌, inl, inr, List, [], ◌∷◌, ◌++◌, length, arith, refl, sym, ◌∙◌, ap, subst, length-append}
use Rattle.smt_meaning.specs.Reading.{Lexeme, lexeme, comment_rest, text_rest, mark_rest, quoted_rest, token, wrong, unended, nothing, single, shape, Opens, Completes, HasCharacter, First, Answer, ready, fault, end}
use Rattle.smt_meaning.specs.declared.tokens.Token.{Token}
use Rattle.smt_meaning.specs.declared.tokens.Token.TheVariants.{Text}
use Rattle.smt_meaning.specs.declared.tokens.FaultKind.TheVariants.{Character, Unfinished}
use Rattle.smt_reader.specs.declared.part.Part.{Part}
use Rattle.smt_reader.specs.declared.part.Part.TheVariants.{Blank, Comment, Word, Text as InText, Mark, Quoted}
use Rattle.smt_reader.specs.Parts.{goes_on, IsPart}
use Rattle.smt_reader.specs.Scan.{Stands, IsUnsettled}
use Rattle.smt_reader.proofs.PartLaws.{IsBroken, one_is_wrong, breaks, word_may_end, word_may_break, mark_may_open}
use Rattle.smt_reader.proofs.Runs.{Lexes-push, Opens-push, Lexes-shorter}
use Rattle.smt_reader.proofs.Shorter.{wrong_within}
use Rattle.smt_reader.proofs.Scans.{IsCutShort, top_lexeme, list_is_open}
use Rattle.smt_reader.proofs.Settled.{unsettled}

-- Answers for bytes

character_within : (bytes from : List ℕ) → HasCharacter bytes from → length from ≤ length bytes
character_within bytes from h = omega (arith, wrong_within h.rest from h.is_wrong, Lexes-shorter bytes h.rest h.read h.lexes)

character_first : (bytes from : List ℕ) → HasCharacter bytes from → (place : ℕ) → First place bytes (fault Character (place + length bytes - length from))
character_first bytes from h place = (from, h, omega (arith, character_within bytes from h))

top_character : (bytes from : List ℕ) → lexeme bytes ≡ wrong from → HasCharacter bytes from
top_character bytes from w = record {
  read = [];
  depth = 0;
  rest = bytes;
  opens = refl;
  lexes = refl;
  is_wrong = w;
}

top_ready : (bytes start after : List ℕ) (t : Token) → shape t ≡ single → lexeme bytes ≡ token start t after → (place : ℕ) → First place bytes (ready (t ∷ []))
top_ready bytes start after t one is place = (([], 0, shape t, refl, refl, subst (Completes 0) (sym one) refl), after, (start, after, is, refl))

-- what comes first where a wrong byte or a token is at the front
abbrev broken_answer : ℕ → Lexeme → Answer
broken_answer total (token start t after) = ready (t ∷ [])
broken_answer total (wrong from) = fault Character (total - length from)
broken_answer total (unended start) = end
broken_answer total nothing = end

broken_first : (bytes : List ℕ) (l : Lexeme) → lexeme bytes ≡ l → IsBroken l → (place : ℕ) → First place bytes (broken_answer (place + length bytes) l)
broken_first bytes (token start t after) e (one, is) place = top_ready bytes start after t one e place
broken_first bytes (wrong from) e is place = character_first bytes from (top_character bytes from e) place
broken_first bytes (unended start) e h place = absurd h
broken_first bytes nothing e h place = absurd h

no_end : (total : ℕ) (l : Lexeme) → IsBroken l → end ≡ broken_answer total l → ⊥
no_end total (token start t after) h e = cc
no_end total (wrong from) h e = cc
no_end total (unended start) h e = h
no_end total nothing h e = h

not_unfinished : (total at : ℕ) (l : Lexeme) → IsBroken l → fault Unfinished at ≡ broken_answer total l → ⊥
not_unfinished total at (token start t after) h e = cc
not_unfinished total at (wrong from) h e = cc
not_unfinished total at (unended start) h e = h
not_unfinished total at nothing h e = h

-- At top level

module _ (bytes : List ℕ) (tokens : List Token) (depth from : ℕ) (part : Part) (start content : List ℕ) (s : Stands bytes tokens depth from part start content []) (none : depth ≡ 0) where
  top_goes : (more : List ℕ) → lexeme (bytes ++ more) ≡ goes_on part start content more
  top_goes more = top_lexeme bytes tokens depth from part start content [] s none more

  -- nothing, or a wrong byte
  bare_unsettled : goes_on part start content [] ≡ nothing → IsUnsettled bytes
  bare_unsettled bare =
      let b = breaks part start content s.is_part in
      let l = goes_on part start content b.0 in
      unsettled bytes [] b.0 (λ place. end) (λ place. broken_answer (place + length (bytes ++ b.0)) l)
      (λ place. top_goes [] ∙ bare)
      (broken_first (bytes ++ b.0) l (top_goes b.0) b.1)
      (λ place same. no_end (place + length (bytes ++ b.0)) l b.1 same)

  -- a text or quoted symbol that isn't closed, or a wrong byte
  halted_unsettled : (begun : List ℕ) → goes_on part start content [] ≡ unended begun → length begun ≤ length bytes → IsUnsettled bytes
  halted_unsettled begun halted within =
      let b = breaks part start content s.is_part in
      let l = goes_on part start content b.0 in
      unsettled bytes [] b.0 (λ place. fault Unfinished (place + length bytes - length begun)) (λ place. broken_answer (place + length (bytes ++ b.0)) l)
      (λ place. (begun, inr (top_goes [] ∙ halted), omega (arith, within, length-append bytes [])))
      (broken_first (bytes ++ b.0) l (top_goes b.0) b.1)
      (λ place same. not_unfinished (place + length (bytes ++ b.0)) _ l b.1 same)

  -- a token that ends with the bytes, or goes on
  module _ (more others : List ℕ) where
    ready_or_wrong : (t : Token) (begun from : List ℕ) → shape t ≡ single → goes_on part start content more ≡ token begun t [] → goes_on part start content others ≡ wrong from → IsUnsettled bytes
    ready_or_wrong t begun from one ends broken =
        unsettled bytes more others (λ place. ready (t ∷ [])) (λ place. fault Character (place + length (bytes ++ others) - length from))
        (top_ready (bytes ++ more) begun [] t one (top_goes more ∙ ends))
        (character_first (bytes ++ others) from (top_character (bytes ++ others) from (top_goes others ∙ broken)))
        (λ place same. cc)

    ready_or_halted : (t : Token) (begun from : List ℕ) → shape t ≡ single → goes_on part start content more ≡ token begun t [] → goes_on part start content others ≡ unended from → length from ≤ length (bytes ++ others)
        → IsUnsettled bytes
    ready_or_halted t begun from one ends halted within =
        unsettled bytes more others (λ place. ready (t ∷ [])) (λ place. fault Unfinished (place + length (bytes ++ others) - length from))
        (top_ready (bytes ++ more) begun [] t one (top_goes more ∙ ends))
        (λ place. (from, inr (top_goes others ∙ halted), omega arith))
        (λ place same. cc)

pub top_unsettled : (bytes : List ℕ) (tokens : List Token) (depth from : ℕ) (part : Part) (start content : List ℕ) → Stands bytes tokens depth from part start content [] → depth ≡ 0
    → length start ≤ length bytes → IsUnsettled bytes
unfolding goes_on lexeme comment_rest text_rest mark_rest quoted_rest
top_unsettled bytes tokens depth from Blank start content s none within = bare_unsettled bytes tokens depth from Blank start content s none refl
top_unsettled bytes tokens depth from Comment start content s none within = bare_unsettled bytes tokens depth from Comment start content s none refl
top_unsettled bytes tokens depth from (Word form) start content s none within =
    let e = word_may_end form start content s.is_part in
    let b = word_may_break form start content s.is_part in
    ready_or_wrong bytes tokens depth from (Word form) start content s none e.0 b.0 e.1 _ _ e.2 e.3 b.1
top_unsettled bytes tokens depth from InText start content s none within =
    halted_unsettled bytes tokens depth from InText start content s none (start ++ []) refl (omega (arith, length-append start []))
top_unsettled bytes tokens depth from Mark start content s none within =
    ready_or_halted bytes tokens depth from Mark start content s none [] (34 ∷ []) (Text (content ++ [])) (start ++ []) (start ++ 34 ∷ []) refl refl (mark_may_open start content)
    (omega (arith, length-append start (34 ∷ []), length-append bytes (34 ∷ [])))
top_unsettled bytes tokens depth from Quoted start content s none within =
    halted_unsettled bytes tokens depth from Quoted start content s none (start ++ []) refl (omega (arith, length-append start []))

-- Inside a list

other_fault : (m n : ℕ) → fault Unfinished m ≡ fault Character n → ⊥
other_fault m n same = cc

-- what may stand behind, so that nothing whole is left
cut_short : (part : Part) (start content : List ℕ) → IsPart part start → (more : List ℕ) × IsCutShort (goes_on part start content more)
unfolding goes_on lexeme comment_rest text_rest mark_rest quoted_rest
cut_short Blank start content is = ([], tt)
cut_short Comment start content is = ([], tt)
cut_short (Word form) start content is =
    let e = word_may_end form start content is in
    (e.0, subst IsCutShort (sym e.3) (e.2, refl))
cut_short InText start content is = ([], tt)
cut_short Mark start content is = ([], (refl, refl))
cut_short Quoted start content is = ([], tt)

-- and so that a wrong byte follows
list_broken : (bytes : List ℕ) (tokens : List Token) (depth from : ℕ) (part : Part) (start content more : List ℕ) → Stands bytes tokens depth from part start content [] → 0 < depth
    → (l : Lexeme) → goes_on part start content more ≡ l → IsBroken l → HasCharacter (bytes ++ more) (1 ∷ [])
list_broken bytes tokens depth from part start content more s some (token begun t after) e (one, is) = record {
  read = tokens ++ t ∷ [];
  depth = depth;
  rest = 1 ∷ [];
  opens = Opens-push 0 depth depth tokens t s.opens (subst (λ x. Opens depth (x ∷ []) depth) (sym one) (some, refl));
  lexes = Lexes-push (bytes ++ more) (s.tail ++ more) begun (1 ∷ []) tokens t (s.lexes more) (s.goes more ∙ e ∙ ap (token begun t) is);
  is_wrong = one_is_wrong;
}
list_broken bytes tokens depth from part start content more s some (wrong at) e is = record {
  read = tokens;
  depth = depth;
  rest = s.tail ++ more;
  opens = s.opens;
  lexes = s.lexes more;
  is_wrong = s.goes more ∙ e ∙ ap wrong is;
}
list_broken bytes tokens depth from part start content more s some (unended begun) e h = absurd h
list_broken bytes tokens depth from part start content more s some nothing e h = absurd h

pub list_unsettled : (bytes : List ℕ) (tokens : List Token) (depth from : ℕ) (part : Part) (start content : List ℕ) → Stands bytes tokens depth from part start content [] → 0 < depth
    → IsUnsettled bytes
list_unsettled bytes tokens depth from part start content s some =
    let cut = cut_short part start content s.is_part in
    let o = list_is_open bytes tokens depth from part start content [] cut.0 s some cut.1 in
    let b = breaks part start content s.is_part in
    unsettled bytes cut.0 b.0 (λ place. fault Unfinished (place + from)) (λ place. fault Character (place + length (bytes ++ b.0) - length {A = ℕ} (1 ∷ [])))
    (λ place. (o.0 ++ cut.0, inl o.2, omega (arith, o.1, length-append o.0 cut.0, length-append bytes cut.0)))
    (character_first (bytes ++ b.0) (1 ∷ []) (list_broken bytes tokens depth from part start content b.0 s some (goes_on part start content b.0) refl b.1))
    (λ place same. other_fault _ _ same)
