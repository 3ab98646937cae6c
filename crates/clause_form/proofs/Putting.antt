-- From clauses read as those over places back to clauses over numbered atoms, and clauses put one after another.
use Rattle.std.proofs.Common.{◌≡◌, ℕ, List, [], ◌∷◌, ◌++◌, map, refl, sym, ◌∙◌, ap, Bool, true, false, not}
use Rattle.std.specs.Prelude.{Result, Ok, Err, OnOk}
use Rattle.std.proofs.lemmas.List.{map-append, append_assoc}
use Rattle.literals.specs.Signed.{Signed, opposite}
use Rattle.smt_meaning.specs.declared.terms.Operator.{Operator}
use Rattle.smt_meaning.specs.Forced.{Sign}
use Rattle.clause_form.specs.NodeClauses.{node_clauses}
use Rattle.clause_form.specs.WideClauses.{excluding, parity_of_three, wide_clauses}
use Rattle.clause_form.specs.Node.{signed, literals_of_node}
use Rattle.clause_form.specs.Plain.{signs, sign_lists}

back_literals : (ls : List Signed) → map signed (signs ls) ≡ ls
back_literals [] = refl
back_literals (l ∷ ls) = ap (λ ms. l ∷ ms) (back_literals ls)

back : (cs : List (List Signed)) → map (map signed) (sign_lists cs) ≡ cs
unfolding sign_lists
back [] = refl
back (c ∷ cs) = ap (λ d. d ∷ map (map signed) (map signs cs)) (back_literals c) ∙ ap (λ ds. c ∷ ds) (back cs)

pub node_ok : {X E : Type 0} (r : Result X E) (o : Operator) (t : ℕ) (xs : List ℕ) (a b c : List (List Signed)) → sign_lists b ≡ sign_lists a ++ node_clauses o t xs
    → OnOk r (sign_lists c ≡ sign_lists b ++ wide_clauses o t xs) → OnOk r (c ≡ a ++ literals_of_node o t xs)
unfolding literals_of_node
node_ok (Ok x) o t xs a b c h k =
    let all : sign_lists c ≡ sign_lists a ++ (node_clauses o t xs ++ wide_clauses o t xs) =
    k ∙ ap (λ ss. ss ++ wide_clauses o t xs) h ∙ append_assoc (sign_lists a) (node_clauses o t xs) (wide_clauses o t xs) in
    sym (back c) ∙ ap (map (map signed)) all ∙ map-append (map signed) (sign_lists a) (node_clauses o t xs ++ wide_clauses o t xs)
    ∙ ap (λ cs. cs ++ map (map signed) (node_clauses o t xs ++ wide_clauses o t xs)) (back a)
node_ok (Err x) o t xs a b c h k = tt

-- where the first of three has this truth value
abbrev four : ℕ → ℕ → ℕ → ℕ → Bool → List (List Sign)
four t x y z p = excluding t x y z p false false ∷ excluding t x y z p false true ∷ excluding t x y z p true false ∷ excluding t x y z p true true ∷ []

pub three_ok : {X E : Type 0} (r : Result X E) (t : ℕ) (x n y z : Signed) (a b c : List (List Signed)) → x.positive ≡ true → n ≡ opposite x
    → sign_lists b ≡ sign_lists a ++ four t n.atom y.atom z.atom n.positive → OnOk r (sign_lists c ≡ sign_lists b ++ four t x.atom y.atom z.atom x.positive)
    → OnOk r (sign_lists c ≡ sign_lists a ++ parity_of_three t x.atom y.atom z.atom)
three_ok (Ok u) t x n y z a b c p e h k =
    let first : sign_lists b ≡ sign_lists a ++ four t x.atom y.atom z.atom false =
    h ∙ ap (λ (m : Signed). sign_lists a ++ four t m.atom y.atom z.atom m.positive) e ∙ ap (λ q. sign_lists a ++ four t x.atom y.atom z.atom (not q)) p in
    let second : sign_lists c ≡ sign_lists b ++ four t x.atom y.atom z.atom true = k ∙ ap (λ q. sign_lists b ++ four t x.atom y.atom z.atom q) p in
    second ∙ ap (λ ss. ss ++ four t x.atom y.atom z.atom true) first ∙ append_assoc (sign_lists a) (four t x.atom y.atom z.atom false) (four t x.atom y.atom z.atom true)
three_ok (Err u) t x n y z a b c p e h k = tt
