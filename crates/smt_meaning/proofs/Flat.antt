-- What stays and what comes as a token is added to a flat list of tokens, and the token at a place.
use Rattle.std.proofs.Common.{◌≡◌, ◌≤◌, ◌<◌, ℕ, zero, suc, ◌+◌, ◌-◌, List, [], ◌∷◌, ◌++◌, length, take, drop, slice_range, slice_index_or, refl, sym, ◌∙◌, ap, subst, arith, length-append}
use Rattle.std.proofs.lemmas.List.{drop-append-le, take-append-le, drop_at, take_all, length-drop, get_or_default}
use Rattle.smt_meaning.specs.declared.tokens.Token.{Token}
use Rattle.smt_meaning.specs.declared.kinds.Kind.{Kind}
use Rattle.smt_meaning.specs.declared.kinds.Kind.TheVariants.{Enter as IsEnter}
use Rattle.smt_meaning.specs.Flat.{token_of, tokens_from, start_from, AreEnds}

pub start_within : (start : ℕ) (ks : List Kind) (es : List ℕ) (end : ℕ) → AreEnds start ks es end → start ≤ end
start_within start [] [] end h = omega (arith, h)
start_within start [] (e ∷ es) end h = absurd h
start_within start (k ∷ ks) [] end h = absurd h
start_within start (k ∷ ks) (e ∷ es) end h = omega (arith, h.0, start_within e ks es end h.1)

pub as_many : (start : ℕ) (ks : List Kind) (es : List ℕ) (end : ℕ) → AreEnds start ks es end → length ks ≡ length es
as_many start [] [] end h = refl
as_many start [] (e ∷ es) end h = absurd h
as_many start (k ∷ ks) [] end h = absurd h
as_many start (k ∷ ks) (e ∷ es) end h = ap suc (as_many e ks es end h.1)

pub tokens_length : (start : ℕ) (ks : List Kind) (es : List ℕ) (bytes : List ℕ) (end : ℕ) → AreEnds start ks es end → length (tokens_from start ks es bytes) ≡ length ks
tokens_length start [] [] bytes end h = refl
tokens_length start [] (e ∷ es) bytes end h = absurd h
tokens_length start (k ∷ ks) [] bytes end h = absurd h
tokens_length start (k ∷ ks) (e ∷ es) bytes end h = ap suc (tokens_length e ks es bytes end h.1)

-- a part of the bytes is the same with more bytes behind them
range_stays : (bytes more : List ℕ) (from to : ℕ) → from ≤ to → to ≤ length bytes → slice_range (bytes ++ more) from to ≡ slice_range bytes from to
range_stays bytes more from to order within =
    ap (take (to - from)) (drop-append-le from bytes more (omega (arith, order, within))) ∙ take-append-le (to - from) (drop from bytes) more (omega (arith, order, within, length-drop from bytes))

-- and the bytes behind are a part of all
range_last : (bytes more : List ℕ) (to : ℕ) → to ≡ length bytes + length more → slice_range (bytes ++ more) (length bytes) to ≡ more
range_last bytes more to is = ap (take (to - length bytes)) (drop_at bytes more (length bytes) refl) ∙ take_all (to - length bytes) more (omega (arith, is))

pub ends_push : (start : ℕ) (ks : List Kind) (es : List ℕ) (end : ℕ) (k : Kind) (next : ℕ) → AreEnds start ks es end → end ≤ next → AreEnds start (ks ++ k ∷ []) (es ++ next ∷ []) next
ends_push start [] [] end k next h le = (omega (arith, h, le), refl)
ends_push start [] (e ∷ es) end k next h le = absurd h
ends_push start (x ∷ ks) [] end k next h le = absurd h
ends_push start (x ∷ ks) (e ∷ es) end k next h le = (h.0, ends_push e ks es end k next h.1 le)

pub tokens_push : (start : ℕ) (ks : List Kind) (es : List ℕ) (bytes more : List ℕ) (k : Kind) (next : ℕ) → AreEnds start ks es (length bytes) → next ≡ length bytes + length more
    → tokens_from start (ks ++ k ∷ []) (es ++ next ∷ []) (bytes ++ more) ≡ tokens_from start ks es bytes ++ token_of k more ∷ []
tokens_push start [] [] bytes more k next h is = ap (λ b. token_of k b ∷ []) (subst (λ s. slice_range (bytes ++ more) s next ≡ more) (sym h) (range_last bytes more next is))
tokens_push start [] (e ∷ es) bytes more k next h is = absurd h
tokens_push start (x ∷ ks) [] bytes more k next h is = absurd h
tokens_push start (x ∷ ks) (e ∷ es) bytes more k next h is =
    rw (range_stays bytes more start e h.0 (start_within e ks es (length bytes) h.1), tokens_push e ks es bytes more k next h.1 is) refl

-- the bytes of the token at a place
pub start_le_end : (start : ℕ) (ks : List Kind) (es : List ℕ) (end place : ℕ) → AreEnds start ks es end → place < length ks
    → (start_from start es place ≤ slice_index_or es place 0) × (slice_index_or es place 0 ≤ end)
start_le_end start [] es end place h in_list = absurd (omega (arith, in_list))
start_le_end start (k ∷ ks) [] end place h in_list = absurd h
start_le_end start (k ∷ ks) (e ∷ es) end zero h in_list = (h.0, start_within e ks es end h.1)
start_le_end start (k ∷ ks) (e ∷ es) end (suc zero) h in_list = start_le_end e ks es end zero h.1 (omega (arith, in_list))
start_le_end start (k ∷ ks) (e ∷ es) end (suc (suc place)) h in_list = start_le_end e ks es end (suc place) h.1 (omega (arith, in_list))

pub token_at : (start : ℕ) (ks : List Kind) (es : List ℕ) (bytes : List ℕ) (end place : ℕ) (d : Token) → AreEnds start ks es end → place < length ks
    → slice_index_or (tokens_from start ks es bytes) place d ≡ token_of (slice_index_or ks place IsEnter) (slice_range bytes (start_from start es place) (slice_index_or es place 0))
token_at start [] es bytes end place d h in_list = absurd (omega (arith, in_list))
token_at start (k ∷ ks) [] bytes end place d h in_list = absurd h
token_at start (k ∷ ks) (e ∷ es) bytes end zero d h in_list = refl
token_at start (k ∷ ks) (e ∷ es) bytes end (suc zero) d h in_list = token_at e ks es bytes end zero d h.1 (omega (arith, in_list))
token_at start (k ∷ ks) (e ∷ es) bytes end (suc (suc place)) d h in_list = token_at e ks es bytes end (suc place) d h.1 (omega (arith, in_list))

-- ---- as the calls need them

pub place_within : (ks : List Kind) (es bs : List ℕ) (ts : List Token) (place : ℕ) → AreEnds 0 ks es (length bs) → tokens_from 0 ks es bs ≡ ts → place ≤ length ts
    → (place ≤ length ks) × (place ≤ length es) × (length ts ≡ length ks)
place_within ks es bs ts place h is le =
    let n : length ts ≡ length ks = sym (ap length is) ∙ tokens_length 0 ks es bs (length bs) h in
    (omega (arith, n, le), omega (arith, n, le, as_many 0 ks es (length bs) h), n)

module _ (ks : List Kind) (es bs : List ℕ) (ts : List Token) (place : ℕ) (h : AreEnds 0 ks es (length bs)) (is : tokens_from 0 ks es bs ≡ ts) (lt : place < length ts) where
  in_kinds : place < length ks
  in_kinds = omega (arith, lt, (place_within ks es bs ts place h is (omega (arith, lt))).2)

  in_ends : place < length es
  in_ends = omega (arith, in_kinds, as_many 0 ks es (length bs) h)

  pub bounds_at : (start end : ℕ) → start ≡ start_from 0 es place → end ≡ slice_index_or es place end → (start ≤ end) × (end ≤ length bs)
  bounds_at start end s e =
      let b = start_le_end 0 ks es (length bs) place h in_kinds in
      let e' : end ≡ slice_index_or es place 0 = e ∙ get_or_default es place end 0 in_ends in
      (omega (arith, s, e', b.0), omega (arith, e', b.1))

  pub read_at : (k : Kind) (start end : ℕ) → k ≡ slice_index_or ks place k → start ≡ start_from 0 es place → end ≡ slice_index_or es place end
      → (d : Token) → slice_index_or ts place d ≡ token_of k (slice_range bs start end)
  read_at k start end kind s e d =
      let e' : end ≡ slice_index_or es place 0 = e ∙ get_or_default es place end 0 in_ends in
      let k' : k ≡ slice_index_or ks place IsEnter = kind ∙ get_or_default ks place k IsEnter in_kinds in
      ap (λ x. slice_index_or x place d) (sym is) ∙ token_at 0 ks es bs (length bs) place d h in_kinds
      ∙ sym (ap (λ x. token_of x (slice_range bs start end)) k' ∙ ap (λ x. token_of (slice_index_or ks place IsEnter) (slice_range bs x end)) s ∙ ap (λ x. token_of (slice_index_or ks place IsEnter) (slice_range bs (start_from 0 es place) x)) e')

module _ (ks more_kinds : List Kind) (es more_ends bs all more : List ℕ) (k : Kind) (next : ℕ) (h : AreEnds 0 ks es (length bs))
    (kinds_are : more_kinds ≡ ks ++ k ∷ []) (ends_are : more_ends ≡ es ++ next ∷ []) (bytes_are : all ≡ bs ++ more) (next_is : next ≡ length bs + length more) where
  pub pushed_ends : AreEnds 0 more_kinds more_ends (length all)
  pushed_ends =
      let n : length all ≡ next = ap length bytes_are ∙ length-append bs more ∙ sym next_is in
      rw (kinds_are, ends_are, n) (ends_push 0 ks es (length bs) k next h (omega (arith, next_is)))

  pub pushed_tokens : (ts : List Token) (t : Token) → tokens_from 0 ks es bs ≡ ts → token_of k more ≡ t → tokens_from 0 more_kinds more_ends all ≡ ts ++ t ∷ []
  pushed_tokens ts t is one =
      rw (kinds_are, ends_are, bytes_are) (tokens_push 0 ks es bs more k next h next_is ∙ ap (λ x. x ++ token_of k more ∷ []) is ∙ ap (λ x. ts ++ x ∷ []) one)
