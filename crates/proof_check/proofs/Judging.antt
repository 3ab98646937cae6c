-- The terms of assumptions by their places.
use Rattle.std.proofs.Common.{◌≡◌, ◌<◌, ℕ, List, [], ◌∷◌, map, All, ap, refl}
use Rattle.std.proofs.lemmas.List.Elements.{All-head, All-tail, All-nil, All-cons}
use Rattle.smt_meaning.specs.Term.{Tree, tree_at}
use Rattle.scope_stack.specs.declared.answers.Assertion.{Assertion}
use Rattle.proof_form.specs.Asserted.{asserted_at}

pub terms_within : (n : ℕ) (xs : List Assertion) → All (λ (a : Assertion). a.term < n) xs → All (λ i. i < n) (map (λ (a : Assertion). a.term) xs)
terms_within n [] h = All-nil (λ i. i < n)
terms_within n (x ∷ xs) h =
    All-cons (λ i. i < n) x.term (map (λ (a : Assertion). a.term) xs) (All-head (λ (a : Assertion). a.term < n) x xs h) (terms_within n xs (All-tail (λ (a : Assertion). a.term < n) x xs h))

pub terms_at : (held : List Tree) (xs : List Assertion) → map (λ (a : Assertion). tree_at held a.term) xs ≡ asserted_at held (map (λ (a : Assertion). a.term) xs)
terms_at held [] = refl
terms_at held (x ∷ xs) = ap (λ us. tree_at held x.term ∷ us) (terms_at held xs)
