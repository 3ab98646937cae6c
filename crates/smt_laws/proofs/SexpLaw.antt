-- The tokens of an s-expression read back as it.
use Rattle.std.proofs.Common.{◌≡◌, List, [], ◌∷◌, ◌++◌, sym, ap, ◌∙◌, refl, true, not, append_assoc, append-nil}
use Rattle.smt_meaning.specs.declared.tokens.Token.{Token}
use Rattle.smt_meaning.specs.declared.tokens.Token.TheVariants.{Enter, Leave}
use Rattle.smt_meaning.specs.Sexp.{Sexp, Sexps, word, group, end, ◌▸◌, tokens, tokens_of, before, open_lists_of, sexp, IsSexp, first_of_all, is_parenthesis, is_proper, are_proper}
use Rattle.smt_laws.proofs.Both.{and_left, and_right}

abbrev joined : Sexps → Sexps → Sexps
joined end us = us
joined (s ▸ ss) us = s ▸ joined ss us

joined_end : (ss : Sexps) → joined ss end ≡ ss
joined_end end = refl
joined_end (s ▸ ss) = ap (λ us. s ▸ us) (joined_end ss)

before_word : (t : Token) (inner : Sexps) (rest : List Sexps) → not (is_parenthesis t) ≡ true → before t (inner ∷ rest) ≡ (word t ▸ inner) ∷ rest
before_word Enter inner rest h = cc
before_word Leave inner rest h = cc
before_word _ inner rest h = refl

mutual
  pub reads_back : (s : Sexp) (ts : List Token) (inner : Sexps) (rest : List Sexps) → is_proper s ≡ true → open_lists_of ts ≡ inner ∷ rest
      → open_lists_of (tokens s ++ ts) ≡ (s ▸ inner) ∷ rest
  reads_back (word t) ts inner rest h e = rw e (before_word t inner rest h)
  reads_back (group ss) ts inner rest h e =
      ap (λ us. before Enter (open_lists_of us)) (append_assoc (tokens_of ss) (Leave ∷ []) ts)
      ∙ ap (before Enter) (reads_back_all ss (Leave ∷ ts) end (inner ∷ rest) h (ap (before Leave) e))
      ∙ ap (λ us. (group us ▸ inner) ∷ rest) (joined_end ss)

  pub reads_back_all : (ss : Sexps) (ts : List Token) (inner : Sexps) (rest : List Sexps) → are_proper ss ≡ true → open_lists_of ts ≡ inner ∷ rest
      → open_lists_of (tokens_of ss ++ ts) ≡ joined ss inner ∷ rest
  reads_back_all end ts inner rest h e = e
  reads_back_all (s ▸ ss) ts inner rest h e =
      ap open_lists_of (append_assoc (tokens s) (tokens_of ss) ts)
      ∙ reads_back s (tokens_of ss ++ ts) (joined ss inner) rest (and_left (is_proper s) (are_proper ss) h) (reads_back_all ss ts inner rest (and_right (is_proper s) (are_proper ss) h) e)

pub sexp-tokens : (s : Sexp) → is_proper s ≡ true → sexp (tokens s) ≡ s
sexp-tokens s h = ap sexp (sym (append-nil (tokens s))) ∙ ap first_of_all (reads_back s [] end [] h refl)

pub is_sexp-tokens : (s : Sexp) → is_proper s ≡ true → IsSexp (tokens s)
is_sexp-tokens s h =
    let opens : open_lists_of (tokens s) ≡ (s ▸ end) ∷ [] = ap open_lists_of (sym (append-nil (tokens s))) ∙ reads_back s [] end [] h refl in
    opens ∙ ap (λ x. (x ▸ end) ∷ []) (sym (sexp-tokens s h))
