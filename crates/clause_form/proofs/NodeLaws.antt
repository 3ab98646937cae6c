-- The clauses of a node over numbered atoms.
use Rattle.std.proofs.Common.{◌≡◌, ◌≢◌, ℕ, List, [], ◌∷◌, ◌++◌, map, refl, sym, ◌∙◌, ap, Bool, true, false, not, ◌||◌, All, Contains, IsTrue, ◌⊎◌, inl, inr}
use Rattle.std.proofs.lemmas.List.Elements.{All-nil, All-cons, All-head, All-tail, All-append, All-contains, Contains-append_cases, Contains-push_cases}
use Rattle.literals.specs.Signed.{Signed, opposite, literal_true, some_true}
use Rattle.smt_meaning.specs.declared.terms.Operator.{Operator}
use Rattle.smt_meaning.specs.Term.{bool_eq}
use Rattle.smt_meaning.specs.Forced.{Sign, some_sign_true, IsTrueOfNode}
use Rattle.clause_form.specs.NodeClauses.{node_clauses}
use Rattle.clause_form.specs.WideClauses.{wide_clauses}
use Rattle.clause_form.specs.NodeClausesLaws.{HasNoPlaceTwice, NodeClausesAreTrue, NodeClausesAreOver, NodeClausesAreApart, WideClausesAreTrue, WideClausesAreOver, WideClausesAreApart}
use Rattle.clause_form.specs.Node.{signed, literals_of_node, HasNoAtomTwice, IsOfNode, NodeClausesHold, NodeClausesDecide}
use Rattle.clause_form.specs.ForcedClausesLaws.{NodeClausesDecide as Decide}

-- ---- truth

pub signed_true : (a : ℕ → Bool) (ss : List Sign) → some_sign_true a ss ≡ some_true a (map signed ss)
signed_true a [] = refl
signed_true a (s ∷ ss) = by_either (bool_eq (a s.place) s.positive) (some_sign_true a ss) ∙ both (a s.place) s.positive ∙ ap (λ b. literal_true a (signed s) || b) (signed_true a ss)
  where
    by_either : (b c : Bool) → elim b [ true ↦ true | false ↦ c ] ≡ (b || c)
    by_either true c = refl
    by_either false c = refl

    both : (p q : Bool) → (bool_eq p q || some_sign_true a ss) ≡ (literal_true (λ i. p) (record { atom = 0; positive = q }) || some_sign_true a ss)
    both true true = refl
    both true false = refl
    both false true = refl
    both false false = refl

-- ---- atoms

over_signed : (P : ℕ → Type 0) (ss : List Sign) → All (λ (s : Sign). P s.place) ss → All (λ (l : Signed). P l.atom) (map signed ss)
over_signed P [] all = All-nil (λ (l : Signed). P l.atom)
over_signed P (s ∷ ss) all =
    All-cons (λ (l : Signed). P l.atom) (signed s) (map signed ss) (All-head (λ (s : Sign). P s.place) s ss all) (over_signed P ss (All-tail (λ (s : Sign). P s.place) s ss all))

none_twice : (ss : List Sign) → HasNoPlaceTwice ss → HasNoAtomTwice (map signed ss)
none_twice [] h = tt
none_twice (s ∷ ss) h = (over_signed (λ i. s.place ≢ i) ss h.0, none_twice ss h.1)

none_in : {X : Type 0} (x : X) → Contains [] x → ⊥
none_in {X} x c = All-contains (λ (y : X). ⊥) [] x (All-nil (λ (y : X). ⊥)) c

pub in_cons : {X : Type 0} (x y : X) (xs : List X) → Contains (x ∷ xs) y → (x ≡ y) ⊎ Contains xs y
in_cons x y xs c =
    elim (Contains-append_cases (x ∷ []) xs y c) [
      | inl here ↦ elim (Contains-push_cases [] x y here) [ inl none ↦ absurd (none_in y none) | inr e ↦ inl e ]
      | inr later ↦ inr later
    ]

-- two literals of one clause on one atom are the same
no_pair : (ls : List Signed) → HasNoAtomTwice ls → (l m : Signed) → Contains ls l → Contains ls m → l.atom ≡ m.atom → l ≡ m
no_pair [] h l m c d e = absurd (none_in l c)
no_pair (k ∷ ks) h l m c d e =
    elim (in_cons k l ks c) [
      | inl a ↦
          elim (in_cons k m ks d) [
            | inl b ↦ sym a ∙ b
            | inr b ↦ absurd (All-contains (λ (n : Signed). k.atom ≢ n.atom) ks m h.0 b (ap (λ (n : Signed). n.atom) a ∙ e))
          ]
      | inr a ↦
          elim (in_cons k m ks d) [
            | inl b ↦ absurd (All-contains (λ (n : Signed). k.atom ≢ n.atom) ks l h.0 a (ap (λ (n : Signed). n.atom) b ∙ sym e))
            | inr b ↦ no_pair ks h.1 l m a b e
          ]
    ]

pub not_opposite : (l : Signed) → l ≡ opposite l → ⊥
not_opposite l e = at l.positive (ap (λ (m : Signed). m.positive) e)
  where
    at : (b : Bool) → b ≡ not b → ⊥
    at true h = (let k : true ≡ false = h in cc)
    at false h = (let k : false ≡ true = h in cc)

-- ---- of a node

of_node : (o : Operator) (t : ℕ) (xs : List ℕ) (c : List Sign) → IsTrueOfNode o t xs c → All (λ (s : Sign). Contains (t ∷ xs) s.place) c → HasNoPlaceTwice c → IsOfNode o t xs (map signed c)
of_node o t xs c true_of over once = record {
  true_of = λ a h. sym (signed_true a c) ∙ true_of a h;
  over = over_signed (Contains (t ∷ xs)) c over;
  no_pair = λ l h k. not_opposite l (no_pair (map signed c) (none_twice c once) l (opposite l) h k refl);
  once = none_twice c once;
}

each : (o : Operator) (t : ℕ) (xs : List ℕ) (cs : List (List Sign)) → All (IsTrueOfNode o t xs) cs → All (All (λ (s : Sign). Contains (t ∷ xs) s.place)) cs → All HasNoPlaceTwice cs
    → All (IsOfNode o t xs) (map (map signed) cs)
each o t xs [] holds over once = All-nil (IsOfNode o t xs)
each o t xs (c ∷ cs) holds over once =
    All-cons (IsOfNode o t xs) (map signed c) (map (map signed) cs)
    (of_node o t xs c (All-head (IsTrueOfNode o t xs) c cs holds) (All-head (All (λ (s : Sign). Contains (t ∷ xs) s.place)) c cs over) (All-head HasNoPlaceTwice c cs once))
    (each o t xs cs (All-tail (IsTrueOfNode o t xs) c cs holds) (All-tail (All (λ (s : Sign). Contains (t ∷ xs) s.place)) c cs over) (All-tail HasNoPlaceTwice c cs once))

pub hold : NodeClausesAreTrue → WideClausesAreTrue → NodeClausesAreOver → WideClausesAreOver → NodeClausesAreApart → WideClausesAreApart → NodeClausesHold
unfolding literals_of_node
hold holds wide_holds over wide_over apart wide_apart o t xs h =
    each o t xs (node_clauses o t xs ++ wide_clauses o t xs)
    (All-append (IsTrueOfNode o t xs) (node_clauses o t xs) (wide_clauses o t xs) (holds o t xs) (wide_holds o t xs))
    (All-append (All (λ (s : Sign). Contains (t ∷ xs) s.place)) (node_clauses o t xs) (wide_clauses o t xs) (over o t xs) (wide_over o t xs))
    (All-append HasNoPlaceTwice (node_clauses o t xs) (wide_clauses o t xs) (apart o t xs h) (wide_apart o t xs h))

met_back : (a : ℕ → Bool) (cs : List (List Sign)) → All (λ ls. some_true a ls ≡ true) (map (map signed) cs) → All (λ c. IsTrue (some_sign_true a c)) cs
met_back a [] all = All-nil (λ c. IsTrue (some_sign_true a c))
met_back a (c ∷ cs) all =
    All-cons (λ c. IsTrue (some_sign_true a c)) c cs (signed_true a c ∙ All-head (λ ls. some_true a ls ≡ true) (map signed c) (map (map signed) cs) all)
    (met_back a cs (All-tail (λ ls. some_true a ls ≡ true) (map signed c) (map (map signed) cs) all))

pub decide : Decide → NodeClausesDecide
unfolding literals_of_node
decide law a o t xs f all = law a o t xs f (met_back a (node_clauses o t xs ++ wide_clauses o t xs) all)
