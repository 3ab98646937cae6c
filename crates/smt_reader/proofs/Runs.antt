-- Tokens one after another.
use Rattle.std.proofs.Common.{◌≡◌, ◌<◌, ◌≤◌, ℕ, ◌+◌, ◌-◌, List, [], ◌∷◌, ◌++◌, length, arith, refl, sym, ◌∙◌, ap, subst}
use Rattle.std.specs.Prelude.{⊤}
use Rattle.smt_meaning.specs.Reading.{lexeme, Lexeme, token, wrong, unended, nothing, Lexes, Shape, opening, closing, single, shape, shapes, Opens, most_open}
use Rattle.smt_meaning.specs.declared.tokens.Token.{Token}
use Rattle.smt_reader.proofs.Shorter.{token_shorter}

pub Lexes-push : (bytes mid start after : List ℕ) (ts : List Token) (t : Token) → Lexes bytes ts mid → lexeme mid ≡ token start t after → Lexes bytes (ts ++ t ∷ []) after
Lexes-push bytes mid start after [] t l e = (start, after, rw l e, refl)
Lexes-push bytes mid start after (x ∷ ts) t (s, a, is, l) e = (s, a, is, Lexes-push a mid start after ts t l e)

pub shapes-push : (ts : List Token) (t : Token) → shapes (ts ++ t ∷ []) ≡ shapes ts ++ shape t ∷ []
shapes-push [] t = refl
shapes-push (x ∷ ts) t = ap (λ ss. shape x ∷ ss) (shapes-push ts t)

Opens-append : (m n k : ℕ) (ss : List Shape) (s : Shape) → Opens m ss n → Opens n (s ∷ []) k → Opens m (ss ++ s ∷ []) k
Opens-append m n k [] s o p = subst (λ i. Opens i (s ∷ []) k) (sym o) p
Opens-append m n k (opening ∷ ss) s o p = (o.0, Opens-append (m + 1) n k ss s o.1 p)
Opens-append m n k (closing ∷ ss) s o p = (o.0, Opens-append (m - 1) n k ss s o.1 p)
Opens-append m n k (single ∷ ss) s o p = (o.0, Opens-append m n k ss s o.1 p)

pub Opens-push : (m n k : ℕ) (ts : List Token) (t : Token) → Opens m (shapes ts) n → Opens n (shape t ∷ []) k → Opens m (shapes (ts ++ t ∷ [])) k
Opens-push m n k ts t o p = subst (λ ss. Opens m ss k) (sym (shapes-push ts t)) (Opens-append m n k (shapes ts) (shape t) o p)

-- inside a list, some list stays open
some_open : (m n : ℕ) (ss : List Shape) → Opens m ss n → 0 < m → 0 < n
some_open m n [] o h = omega arith
some_open m n (opening ∷ ss) o h = some_open (m + 1) n ss o.1 (omega arith)
some_open m n (closing ∷ ss) o h = some_open (m - 1) n ss o.1 (omega (arith, o.0))
some_open m n (single ∷ ss) o h = some_open m n ss o.1 h

-- and so behind the first token
pub begun_open : (n : ℕ) (s : Shape) (ss : List Shape) → Opens 0 (s ∷ ss) n → 0 < n
begun_open n opening ss o = some_open 1 n ss o.1 (omega arith)
begun_open n closing ss o = absurd (omega (arith, o.0))
begun_open n single ss o = absurd (omega (arith, o.0))

pub at_most_open : (m n : ℕ) (ss : List Shape) → Opens m ss n → m ≤ most_open → n ≤ most_open
at_most_open m n [] o h = omega arith
at_most_open m n (opening ∷ ss) o h = at_most_open (m + 1) n ss o.1 (omega (arith, o.0))
at_most_open m n (closing ∷ ss) o h = at_most_open (m - 1) n ss o.1 (omega arith)
at_most_open m n (single ∷ ss) o h = at_most_open m n ss o.1 h

-- each token takes a byte
pub Lexes-shorter : (bytes left : List ℕ) (ts : List Token) → Lexes bytes ts left → length ts + length left ≤ length bytes
Lexes-shorter bytes left [] l = omega (arith, ap length l)
Lexes-shorter bytes left (t ∷ ts) (start, after, is, l) = omega (arith, token_shorter bytes start after t is, Lexes-shorter after left ts l)

-- No token that l is goes on inside n open lists.
abbrev pub Stops : ℕ → Lexeme → Type 0
Stops n (token start t after) = (k : ℕ) → Opens n (shape t ∷ []) k → ⊥
Stops n (wrong from) = ⊤
Stops n (unended start) = ⊤
Stops n nothing = ⊤

opens_first : (n k : ℕ) (s : Shape) (ss : List Shape) → Opens n (s ∷ ss) k → (j : ℕ) × Opens n (s ∷ []) j
opens_first n k opening ss o = (n + 1, (o.0, refl))
opens_first n k closing ss o = (n - 1, (o.0, refl))
opens_first n k single ss o = (n, (o.0, refl))

stopped : (m n k : ℕ) (left start after : List ℕ) (t : Token) (ss : List Shape) → m ≡ n → Stops n (lexeme left) → lexeme left ≡ token start t after → Opens m (shape t ∷ ss) k → ⊥
stopped m n k left start after t ss e stops is o =
    let s = subst (Stops n) is stops in
    let first = opens_first n k (shape t) ss (subst (λ i. Opens i (shape t ∷ ss) k) e o) in
    s first.0 first.1

both_open : (m n k : ℕ) (s : Shape) (ss rs : List Shape) → Opens m (s ∷ ss) n → Opens m (s ∷ rs) k → (j : ℕ) × Opens j ss n × Opens j rs k
both_open m n k opening ss rs o p = (m + 1, o.1, p.1)
both_open m n k closing ss rs o p = (m - 1, o.1, p.1)
both_open m n k single ss rs o p = (m, o.1, p.1)

-- tokens read as far as they go on are one list
pub same_run : (m n k : ℕ) (ts us : List Token) (bytes left rest : List ℕ) → Opens m (shapes ts) n → Lexes bytes ts left → Stops n (lexeme left)
    → Opens m (shapes us) k → Lexes bytes us rest → Stops k (lexeme rest) → (ts ≡ us) × (n ≡ k) × (left ≡ rest)
same_run m n k [] [] bytes left rest o l s p r q = (refl, sym o ∙ p, sym l ∙ r)
same_run m n k [] (u ∷ us) bytes left rest o l s p (start, after, is, r) q = absurd (stopped m n k left start after u (shapes us) o s (subst (λ b. lexeme b ≡ token start u after) l is) p)
same_run m n k (t ∷ ts) [] bytes left rest o (start, after, is, l) s p r q = absurd (stopped m k n rest start after t (shapes ts) p q (subst (λ b. lexeme b ≡ token start t after) r is) o)
same_run m n k (t ∷ ts) (u ∷ us) bytes left rest o (start, after, is, l) s p (start', after', is', r) q =
    let same : u ≡ t = cc in
    let behind : after' ≡ after = cc in
    let both = both_open m n k (shape t) (shapes ts) (shapes us) o (subst (λ x. Opens m (shape x ∷ shapes us) k) same p) in
    let again = same_run both.0 n k ts us after left rest both.1 l s both.2 (subst (λ b. Lexes b us rest) behind r) q in
    (cc, again.1, again.2)
