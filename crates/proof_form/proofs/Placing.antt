-- The places of assertions among the terms of a stack.
use Rattle.std.proofs.Common.{◌≡◌, ℕ, ◌<◌, ◌≤◌, ◌+◌, List, [], ◌∷◌, ◌++◌, length, map, take, All, get_or, refl, sym, ap, ◌∙◌, subst}
use Rattle.std.proofs.lemmas.List.{take_more, take_all, map-append}
use Rattle.std.proofs.lemmas.List.Elements.{All-append, All-map}
use Rattle.scope_stack.specs.declared.answers.Assertion.{Assertion}
use Rattle.smt_meaning.specs.Term.{Tree, tree_at}
use Rattle.proof_form.specs.Asserted.{asserted_at}

abbrev pub places : List Assertion → List ℕ
places xs = map (λ (a : Assertion). a.term) xs

pub one_more : (xs : List Assertion) (i : ℕ) (x : Assertion) (old new : List ℕ) → i < length xs → x ≡ get_or xs i x → old ≡ places (take i xs) → new ≡ old ++ x.term ∷ []
    → new ≡ places (take (i + 1) xs)
one_more xs i x old new within is so next =
    next ∙ ap (λ ys. ys ++ x.term ∷ []) so ∙ sym (map-append (λ (a : Assertion). a.term) (take i xs) (x ∷ []))
    ∙ ap places (sym (take_more xs i x within ∙ ap (λ (a : Assertion). take i xs ++ a ∷ []) (sym is)))

each_tree : (ts : List Tree) (xs : List Assertion) → asserted_at ts (places xs) ≡ map (λ (a : Assertion). tree_at ts a.term) xs
each_tree ts [] = refl
each_tree ts (x ∷ xs) = ap (λ us. tree_at ts x.term ∷ us) (each_tree ts xs)

pub all_placed : (ts : List Tree) (xs : List Assertion) (i : ℕ) (old new above : List ℕ) (trees : List Tree) → length xs ≤ i → old ≡ places (take i xs) → new ≡ old ++ above
    → map (λ (a : Assertion). tree_at ts a.term) xs ≡ trees → asserted_at ts new ≡ trees ++ asserted_at ts above
all_placed ts xs i old new above trees over so next terms =
    ap (asserted_at ts) (next ∙ ap (λ ys. ys ++ above) (so ∙ ap places (take_all i xs over))) ∙ map-append (tree_at ts) (places xs) above
    ∙ ap (λ us. us ++ asserted_at ts above) (each_tree ts xs ∙ terms)

pub all_within : (bound : ℕ) (xs : List Assertion) (i : ℕ) (old new above : List ℕ) → length xs ≤ i → old ≡ places (take i xs) → new ≡ old ++ above
    → All (λ (a : Assertion). a.term < bound) xs → All (λ k. k < bound) above → All (λ k. k < bound) new
all_within bound xs i old new above over so next within more =
    subst (All (λ k. k < bound)) (sym (next ∙ ap (λ ys. ys ++ above) (so ∙ ap places (take_all i xs over))))
    (All-append (λ k. k < bound) (places xs) above (All-map (λ k. k < bound) (λ (a : Assertion). a.term) xs within) more)
