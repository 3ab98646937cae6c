-- S-expressions as trees, and the list of tokens that stands for one.
use Rattle.std.specs.Prelude.{◌≡◌, ℕ, suc, max, Bool, true, false, not, ◌&&◌, List, [], ◌∷◌, ◌++◌}
use Rattle.smt_meaning.specs.declared.tokens.Token.{Token}
use Rattle.smt_meaning.specs.declared.tokens.Token.TheVariants.{Enter, Leave}

infixr 67 ◌▸◌
mutual
  pub data Sexp : Type 0 where
    word : (token : Token) → Sexp
    group : (parts : Sexps) → Sexp

  pub data Sexps : Type 0 where
    end : Sexps
    ◌▸◌ : (first : Sexp) (rest : Sexps) → Sexps

-- the tokens of an s-expression
abbrev mutual
  pub tokens : Sexp → List Token
  tokens (word t) = t ∷ []
  tokens (group ss) = Enter ∷ (tokens_of ss ++ Leave ∷ [])

  pub tokens_of : Sexps → List Token
  tokens_of end = []
  tokens_of (s ▸ ss) = tokens s ++ tokens_of ss

-- ---- back from tokens: read from the right, with the lists that are open, the innermost first

abbrev pub before : Token → List Sexps → List Sexps
before t [] = []
before Leave (inner ∷ rest) = end ∷ inner ∷ rest
before Enter (inner ∷ []) = []
before Enter (inner ∷ outer ∷ rest) = (group inner ▸ outer) ∷ rest
before t (inner ∷ rest) = (word t ▸ inner) ∷ rest

abbrev pub open_lists_of : List Token → List Sexps
open_lists_of [] = end ∷ []
open_lists_of (t ∷ ts) = before t (open_lists_of ts)

abbrev pub first_of_all : List Sexps → Sexp
first_of_all ((s ▸ ss) ∷ rest) = s
first_of_all _ = group end

-- the s-expression that begins a list of tokens
abbrev pub sexp : List Token → Sexp
sexp ts = first_of_all (open_lists_of ts)

-- a list of tokens is one s-expression
abbrev pub IsSexp : List Token → Type 0
IsSexp ts = open_lists_of ts ≡ (sexp ts ▸ end) ∷ []

-- ---- no word of an s-expression is a parenthesis

abbrev pub is_parenthesis : Token → Bool
is_parenthesis Enter = true
is_parenthesis Leave = true
is_parenthesis _ = false

abbrev mutual
  pub is_proper : Sexp → Bool
  is_proper (word t) = not (is_parenthesis t)
  is_proper (group ss) = are_proper ss

  pub are_proper : Sexps → Bool
  are_proper end = true
  are_proper (s ▸ ss) = is_proper s && are_proper ss

-- ---- how deep its lists are nested

abbrev mutual
  pub nested : Sexp → ℕ
  nested (word t) = 0
  nested (group ss) = suc (deepest ss)

  pub deepest : Sexps → ℕ
  deepest end = 0
  deepest (s ▸ ss) = max (nested s) (deepest ss)
