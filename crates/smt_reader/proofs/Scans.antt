-- What was scanned of bytes, and what it comes to.
use Rattle.std.proofs.Common.{◌≡◌, ◌<◌, ◌≤◌, ℕ, ◌+◌, List, [], ◌∷◌, ◌++◌, length, take, drop, Option, Some, None, arith, refl, sym, ◌∙◌, ap, subst, append_assoc, length-append}
use Rattle.std.specs.Prelude.{⊤}
use Rattle.smt_meaning.specs.Reading.{Lexeme, lexeme, token, wrong, unended, nothing, Lexes, single, shape, shapes, symbol_token, reserved_word, Opens, most_open, Completes, IsSExpr, IsCut, HasCharacter, HasClosing, HasNesting, HasOpenList}
use Rattle.smt_meaning.specs.declared.tokens.Word.{Word}
use Rattle.smt_meaning.specs.declared.tokens.Token.{Token}
use Rattle.smt_meaning.specs.declared.tokens.Token.TheVariants.{Enter, Leave, Numeral, Decimal, Hex, Binary, Text, Symbol, Keyword}
use Rattle.smt_reader.specs.declared.form.Form.{Form}
use Rattle.smt_reader.specs.declared.form.Form.TheVariants.{Simple, Zero, Digits, Point, Places, Hash, HexMark, HexDigits, BinaryMark, BinaryDigits, Colon, Named}
use Rattle.smt_reader.specs.declared.part.Part.{Part}
use Rattle.smt_reader.specs.declared.part.Part.TheVariants.{Blank, Comment, Word as InWord, Text as InText, Mark, Quoted}
use Rattle.smt_reader.specs.declared.part.Turn.TheVariants.{Begins}
use Rattle.smt_reader.specs.Parts.{goes_on, part_token, form_token, Passes, Extends, Turns}
use Rattle.smt_reader.specs.Scan.{BeginsAt, Stands}
use Rattle.smt_reader.proofs.Runs.{Lexes-push, Opens-push, shapes-push, begun_open, at_most_open}

-- where nothing was looked at
pub stands_anew : (unread start content : List ℕ) (from : ℕ) → Stands unread [] 0 from Blank start content unread
unfolding goes_on
stands_anew unread start content from = record {
  opens = refl;
  begins = tt;
  tail = unread;
  lexes = λ more. refl;
  goes = λ more. refl;
  is_part = tt;
}

begins_fed : (bytes piece : List ℕ) (tokens : List Token) (from : ℕ) → BeginsAt bytes tokens from → BeginsAt (bytes ++ piece) tokens from
begins_fed bytes piece [] from b = tt
begins_fed bytes piece (t ∷ ts) from (top, after, place, is) = (
  top ++ piece,
  after ++ piece,
  omega (arith, place, length-append top piece, length-append bytes piece),
  λ more. rw (append_assoc bytes piece more, append_assoc top piece more, append_assoc after piece more) (is (piece ++ more)),
)

-- more bytes are there
pub stands_fed : (bytes piece : List ℕ) (tokens : List Token) (depth from : ℕ) (part : Part) (start content left : List ℕ) → Stands bytes tokens depth from part start content left
    → Stands (bytes ++ piece) tokens depth from part start content (left ++ piece)
stands_fed bytes piece tokens depth from part start content left s = record {
  opens = s.opens;
  begins = begins_fed bytes piece tokens from s.begins;
  tail = s.tail ++ piece;
  lexes = λ more. rw (append_assoc bytes piece more, append_assoc s.tail piece more) (s.lexes (piece ++ more));
  goes = λ more. rw (append_assoc s.tail piece more, append_assoc left piece more) (s.goes (piece ++ more));
  is_part = s.is_part;
}

-- bytes are passed over
pub stands_passed : (bytes : List ℕ) (tokens : List Token) (depth from : ℕ) (old later : Part) (start content left : List ℕ) (passed : ℕ)
    → Stands bytes tokens depth from old start content left → Passes old later left passed
    → Stands bytes tokens depth from later (start ++ take passed left) content (drop passed left)
stands_passed bytes tokens depth from old later start content left passed s p = record {
  opens = s.opens;
  begins = s.begins;
  tail = s.tail;
  lexes = s.lexes;
  goes = λ more. s.goes more ∙ p.rest start content more;
  is_part = p.part start s.is_part;
}

-- the next byte begins a token
pub stands_begun : (bytes : List ℕ) (tokens : List Token) (depth from : ℕ) (old later : Part) (start content : List ℕ) (b : ℕ) (rest : List ℕ)
    → Stands bytes tokens depth from old start content (b ∷ rest) → Turns old b (Begins later) → Stands bytes tokens depth from later (b ∷ []) [] rest
stands_begun bytes tokens depth from old later start content b rest s t = record {
  opens = s.opens;
  begins = s.begins;
  tail = s.tail;
  lexes = s.lexes;
  goes = λ more. s.goes more ∙ t.1 start content (rest ++ more);
  is_part = t.0;
}

-- or bytes stand in one
pub stands_extended : (bytes : List ℕ) (tokens : List Token) (depth from : ℕ) (old later : Part) (start content left : List ℕ) (added : ℕ)
    → Stands bytes tokens depth from old start content left → Extends old later left added
    → Stands bytes tokens depth from later (start ++ take added left) (content ++ take added left) (drop added left)
stands_extended bytes tokens depth from old later start content left added s x = record {
  opens = s.opens;
  begins = s.begins;
  tail = s.tail;
  lexes = s.lexes;
  goes = λ more. s.goes more ∙ x.rest start content more;
  is_part = x.part start s.is_part;
}

begins_push : (bytes first after : List ℕ) (ts : List Token) (t : Token) (depth from new : ℕ) → Opens 0 (shapes ts) depth → BeginsAt bytes ts from
    → (depth ≡ 0 → new + length first ≡ length bytes) → (0 < depth → new ≡ from)
    → (ts ≡ [] → (more : List ℕ) → lexeme (bytes ++ more) ≡ token (first ++ more) t (after ++ more)) → BeginsAt bytes (ts ++ t ∷ []) new
begins_push bytes first after [] t depth from new o b top inner is = (first, after, top (sym o), is refl)
begins_push bytes first after (x ∷ ts) t depth from new o b top inner is = subst (BeginsAt bytes (x ∷ ts)) (sym (inner (begun_open depth (shape x) (shapes ts) o))) b

module _ (bytes : List ℕ) (tokens : List Token) (depth from : ℕ) (part : Part) (start content left : List ℕ) (s : Stands bytes tokens depth from part start content left) where
  -- at top level
  pub top_lexeme : depth ≡ 0 → (more : List ℕ) → lexeme (bytes ++ more) ≡ goes_on part start content (left ++ more)
  top_lexeme none more = by_tokens tokens s.opens (s.lexes more) where
    by_tokens : (ts : List Token) → Opens 0 (shapes ts) depth → Lexes (bytes ++ more) ts (s.tail ++ more) → lexeme (bytes ++ more) ≡ goes_on part start content (left ++ more)
    by_tokens [] o l = ap lexeme l ∙ s.goes more
    by_tokens (x ∷ ts) o l = absurd (omega (arith, begun_open depth (shape x) (shapes ts) o))

  -- the token ends
  module _ (t : Token) (first after : List ℕ) (is : (more : List ℕ) → goes_on part start content (left ++ more) ≡ token (first ++ more) t (after ++ more)) where
    pushed_lexes : (more : List ℕ) → Lexes (bytes ++ more) (tokens ++ t ∷ []) (after ++ more)
    pushed_lexes more = Lexes-push (bytes ++ more) (s.tail ++ more) (first ++ more) (after ++ more) tokens t (s.lexes more) (s.goes more ∙ is more)

    -- and the list goes on
    pub stands_on : (next new : ℕ) (begun old : List ℕ) → Opens depth (shape t ∷ []) next → (depth ≡ 0 → new + length first ≡ length bytes) → (0 < depth → new ≡ from)
        → Stands bytes (tokens ++ t ∷ []) next new Blank begun old after
    unfolding goes_on
    stands_on next new begun old o top inner = record {
      opens = Opens-push 0 depth next tokens t s.opens o;
      begins = begins_push bytes first after tokens t depth from new s.opens s.begins top inner
          (λ none more. ap lexeme (subst (λ ts. Lexes (bytes ++ more) ts (s.tail ++ more)) none (s.lexes more)) ∙ s.goes more ∙ is more);
      tail = after;
      lexes = pushed_lexes;
      goes = λ more. refl;
      is_part = tt;
    }

    -- and so does the s-expression
    pub completes : Completes depth (shape t) → IsSExpr (tokens ++ t ∷ []) × ((more : List ℕ) → Lexes (bytes ++ more) (tokens ++ t ∷ []) (after ++ more))
    completes c = ((shapes tokens, depth, shape t, shapes-push tokens t, s.opens, c), pushed_lexes)

  -- a byte or word that is no part of a token
  pub has_character : (more at : List ℕ) → goes_on part start content (left ++ more) ≡ wrong at → HasCharacter (bytes ++ more) at
  has_character more at w = record {
    read = tokens;
    depth = depth;
    rest = s.tail ++ more;
    opens = s.opens;
    lexes = s.lexes more;
    is_wrong = s.goes more ∙ w;
  }

  pub has_closing : (more at after : List ℕ) → depth ≡ 0 → goes_on part start content (left ++ more) ≡ token at Leave after → HasClosing (bytes ++ more) at
  has_closing more at after none is = record { after = after; leave = top_lexeme none more ∙ is }

  pub has_nesting : (more at after : List ℕ) → most_open ≤ depth → goes_on part start content (left ++ more) ≡ token at Enter after → HasNesting (bytes ++ more) at
  has_nesting more at after full is =
      let most : depth ≡ most_open = omega (arith, at_most_open 0 depth (shapes tokens) s.opens (omega arith)) in
      record {
        read = tokens;
        rest = s.tail ++ more;
        after = after;
        opens = subst (Opens 0 (shapes tokens)) most s.opens;
        lexes = s.lexes more;
        enter = s.goes more ∙ is;
      }

-- Nothing whole is left, or a token that goes to the end of the bytes.
abbrev pub IsCutShort : Lexeme → Type 0
IsCutShort (token start t after) = (shape t ≡ single) × (after ≡ [])
IsCutShort (wrong from) = ⊥
IsCutShort (unended start) = ⊤
IsCutShort nothing = ⊤

nothing_is_cut : IsCut (lexeme [])
unfolding lexeme
nothing_is_cut = tt

module _ (bytes top : List ℕ) (t : Token) (ts : List Token) (depth : ℕ) (o : Opens 0 (shapes (t ∷ ts)) depth) (some : 0 < depth) (after tail : List ℕ)
    (begins : lexeme bytes ≡ token top t after) (l : Lexes after ts tail) where
  list_cut : (x : Lexeme) → lexeme tail ≡ x → IsCutShort x → HasOpenList bytes top
  list_cut (token start u end) e (one, ends) = record {
    first = t;
    after = after;
    begins = begins;
    read = ts ++ u ∷ [];
    depth = depth;
    rest = [];
    opens = Opens-push 0 depth depth (t ∷ ts) u o (subst (λ s. Opens depth (s ∷ []) depth) (sym one) (some, refl));
    lexes = Lexes-push after tail start [] ts u l (subst (λ r. lexeme tail ≡ token start u r) ends e);
    is_cut = nothing_is_cut;
  }
  list_cut (wrong from) e h = absurd h
  list_cut (unended start) e h = record {
    first = t;
    after = after;
    begins = begins;
    read = ts;
    depth = depth;
    rest = tail;
    opens = o;
    lexes = l;
    is_cut = subst IsCut (sym e) tt;
  }
  list_cut nothing e h = record {
    first = t;
    after = after;
    begins = begins;
    read = ts;
    depth = depth;
    rest = tail;
    opens = o;
    lexes = l;
    is_cut = subst IsCut (sym e) tt;
  }

-- the bytes end inside a list
pub list_is_open : (bytes : List ℕ) (tokens : List Token) (depth from : ℕ) (part : Part) (start content left more : List ℕ) → Stands bytes tokens depth from part start content left
    → 0 < depth → IsCutShort (goes_on part start content (left ++ more)) → (top : List ℕ) × (from + length top ≡ length bytes) × HasOpenList (bytes ++ more) (top ++ more)
list_is_open bytes [] depth from part start content left more s some cut = absurd (omega (arith, s.opens))
list_is_open bytes (t ∷ ts) depth from part start content left more s some cut =
    let b = s.begins in
    let l = s.lexes more in
    let first = b.3 more in
    let first' = l.2 in
    let behind : l.1 ≡ b.1 ++ more = cc in (
      b.0,
      b.2,
      list_cut (bytes ++ more) (b.0 ++ more) t ts depth s.opens some (b.1 ++ more) (s.tail ++ more) first
          (subst (λ a. Lexes a ts (s.tail ++ more)) behind l.3) _ (s.goes more) cut,
    )

-- Tokens that end in a part

word_single : (r : Option Word) (w : List ℕ) → shape (symbol_token r w) ≡ single
word_single (Some r) w = refl
word_single None w = refl

form_single : (form : Form) (w : List ℕ) (t : Token) → form_token form w ≡ Some t → shape t ≡ single
form_single Simple w t e = let same : symbol_token (reserved_word w) w ≡ t = cc in subst (λ x. shape x ≡ single) same (word_single (reserved_word w) w)
form_single Zero w t e = let same : Numeral w ≡ t = cc in subst (λ x. shape x ≡ single) same refl
form_single Digits w t e = let same : Numeral w ≡ t = cc in subst (λ x. shape x ≡ single) same refl
form_single Point w t e = absurd cc
form_single Places w t e = let same : Decimal w ≡ t = cc in subst (λ x. shape x ≡ single) same refl
form_single Hash w t e = absurd cc
form_single HexMark w t e = absurd cc
form_single HexDigits w t e = let same : Hex w ≡ t = cc in subst (λ x. shape x ≡ single) same refl
form_single BinaryMark w t e = absurd cc
form_single BinaryDigits w t e = let same : Binary w ≡ t = cc in subst (λ x. shape x ≡ single) same refl
form_single Colon w t e = absurd cc
form_single Named w t e = let same : Keyword (drop 1 w) ≡ t = cc in subst (λ x. shape x ≡ single) same refl

-- such a token is no parenthesis
pub part_single : (part : Part) (start content : List ℕ) (t : Token) → part_token part start content ≡ Some t → shape t ≡ single
part_single Blank start content t e = absurd cc
part_single Comment start content t e = absurd cc
part_single (InWord form) start content t e = form_single form start t e
part_single InText start content t e = absurd cc
part_single Mark start content t e = let same : Text content ≡ t = cc in subst (λ x. shape x ≡ single) same refl
part_single Quoted start content t e = let same : Symbol content ≡ t = cc in subst (λ x. shape x ≡ single) same refl
