-- The nodes of a proof's terms: each by its row, and one more.
use Rattle.std.proofs.Common.{◌≡◌, ℕ, ◌<◌, List, [], ◌∷◌, ◌++◌, length, get_or, ap, ◌∙◌}
use Rattle.std.specs.Prelude.{Result, Ok, Err, OnOk, OnErr, is_err, true}
use Rattle.std.proofs.lemmas.List.{map-append, length-map}
use Rattle.smt_meaning.specs.declared.terms.Head.{Head}
use Rattle.smt_meaning.specs.declared.nodes.Node.{Node}
use Rattle.term_store.proofs.RowLemmas.{map_at}
use Rattle.proof_terms.specs.TermNodes.{written, written_node}

pub length-written : (rows : List (Head × List ℕ)) → length (written rows) ≡ length rows
length-written rows = length-map rows (λ r. written_node r.0 r.1)

pub written_row : (rows : List (Head × List ℕ)) (k : ℕ) (d : Node) (head : Head) (is : List ℕ) → k < length rows → ((r : Head × List ℕ) → (get_or rows k r).0 ≡ head) → ((r : Head × List ℕ) → (get_or rows k r).1 ≡ is)
    → get_or (written rows) k d ≡ written_node head is
written_row rows k d head is short heads numbers =
    map_at (λ r. written_node r.0 r.1) rows k d (head, is) short
    ∙ ap (λ (h : Head). written_node h (get_or rows k (head, is)).1) (heads (head, is))
    ∙ ap (λ (xs : List ℕ). written_node head xs) (numbers (head, is))

pub written_push : (rows : List (Head × List ℕ)) (head : Head) (is : List ℕ) → written (rows ++ (head, is) ∷ []) ≡ written rows ++ written_node head is ∷ []
written_push rows head is = map-append (λ r. written_node r.0 r.1) rows ((head, is) ∷ [])

-- ---- after a call that may want memory

pub at_err : {T E : Type 0} (r : Result T E) (P : Type 0) → is_err r ≡ true → OnErr r P → P
at_err (Ok x) P e h = cc
at_err (Err y) P e h = h

pub in_two : {T E : Type 0} (r : Result T E) (A B C : Type 0) → OnOk r A → OnErr r B → (A → C) → (B → C) → C
in_two (Ok x) A B C a b f g = f a
in_two (Err e) A B C a b f g = g b
