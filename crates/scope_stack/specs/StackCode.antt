-- A stack as numbers and lists: how a proof stores one. No definition speaks of it.
use Rattle.std.specs.Prelude.{◌≡◌, ℕ, zero, suc, Bool, List, [], ◌∷◌, refl}
use Rattle.std.specs.Coded.{Coded, code_by, coded×, coded_ℕ, coded_bool, coded_list}
use Rattle.std.proofs.Common.{ap}
use Rattle.smt_meaning.specs.declared.tokens.Word.{Word}
use Rattle.smt_meaning.specs.declared.tokens.Word.TheVariants.{Exclamation, Underscore, As, Let, Exists, Forall, Match, Par}
use Rattle.smt_meaning.specs.declared.tokens.Token.{Token}
use Rattle.smt_meaning.specs.declared.tokens.Token.TheVariants.{Enter, Leave, Numeral, Decimal, Hex, Binary, Text, Symbol, Reserved, Keyword}
use Rattle.smt_meaning.specs.Declaration.{Declaration}
use Rattle.smt_meaning.specs.DeclarationCode.{coded_declaration}
use Rattle.smt_meaning.specs.Term.{Tree}
use Rattle.smt_meaning.specs.TreeCode.{coded_tree, coded_trees}
use Rattle.smt_meaning.specs.Stack.{Assertion, Frame}
use Rattle.smt_meaning.specs.StackCommand.{Stack}

-- ---- tokens

abbrev word_code : Word → ℕ
word_code Exclamation = 0
word_code Underscore = 1
word_code As = 2
word_code Let = 3
word_code Exists = 4
word_code Forall = 5
word_code Match = 6
word_code Par = 7

abbrev word_in : ℕ → List Word → Word
word_in k [] = Par
word_in zero (w ∷ ws) = w
word_in (suc k) (w ∷ ws) = word_in k ws

abbrev word_at : ℕ → Word
word_at k = word_in k (Exclamation ∷ Underscore ∷ As ∷ Let ∷ Exists ∷ Forall ∷ Match ∷ [])

pub word_back : (w : Word) → word_at (word_code w) ≡ w
word_back Exclamation = refl
word_back Underscore = refl
word_back As = refl
word_back Let = refl
word_back Exists = refl
word_back Forall = refl
word_back Match = refl
word_back Par = refl

abbrev token_code : Token → ℕ × List ℕ
token_code Enter = (0, [])
token_code Leave = (1, [])
token_code (Numeral b) = (2, b)
token_code (Decimal b) = (3, b)
token_code (Hex b) = (4, b)
token_code (Binary b) = (5, b)
token_code (Text b) = (6, b)
token_code (Symbol b) = (7, b)
token_code (Keyword b) = (8, b)
token_code (Reserved w) = (9, word_code w ∷ [])

abbrev reserved_at : List ℕ → Token
reserved_at [] = Enter
reserved_at (k ∷ ks) = Reserved (word_at k)

abbrev token_in : ℕ → List ℕ → List (List ℕ → Token) → Token
token_in k b [] = reserved_at b
token_in zero b (f ∷ fs) = f b
token_in (suc k) b (f ∷ fs) = token_in k b fs

abbrev token_at : ℕ × List ℕ → Token
token_at p = token_in p.0 p.1 ((λ b. Enter) ∷ (λ b. Leave) ∷ Numeral ∷ Decimal ∷ Hex ∷ Binary ∷ Text ∷ Symbol ∷ Keyword ∷ [])

pub token_back : (t : Token) → token_at (token_code t) ≡ t
token_back Enter = refl
token_back Leave = refl
token_back (Numeral b) = refl
token_back (Decimal b) = refl
token_back (Hex b) = refl
token_back (Binary b) = refl
token_back (Text b) = refl
token_back (Symbol b) = refl
token_back (Keyword b) = refl
token_back (Reserved w) = ap Reserved (word_back w)

abbrev pub coded_token : Coded Token
coded_token = code_by (ℕ × List ℕ) (coded× coded_ℕ (coded_list coded_ℕ)) token_code token_at token_back

-- ---- levels

abbrev pub coded_assertion : Coded Assertion
coded_assertion =
    code_by (List Token × Tree) (coded× (coded_list coded_token) coded_tree) (λ (a : Assertion). (a.text, a.term)) (λ p. record { text = p.0; term = p.1 }) (λ a. refl)

abbrev pub coded_frame : Coded Frame
coded_frame =
    code_by (List Declaration × List Assertion) (coded× (coded_list coded_declaration) (coded_list coded_assertion))
    (λ (f : Frame). (f.declared, f.asserted))
    (λ p. record { declared = p.0; asserted = p.1 })
    (λ f. refl)

abbrev pub coded_stack : Coded Stack
coded_stack =
    code_by (List Frame × (ℕ × (List Tree × Bool))) (coded× (coded_list coded_frame) (coded× coded_ℕ (coded× coded_trees coded_bool)))
    (λ (s : Stack). (s.frames, (s.given, (s.trees, s.global))))
    (λ p. record { frames = p.0; given = p.1.0; trees = p.1.1.0; global = p.1.1.1 })
    (λ s. refl)
