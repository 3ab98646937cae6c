-- The clauses of a node force each clause that is true of the node and no part of which is.
use Rattle.std.proofs.Common.{◌≡◌, ℕ, List, [], ◌∷◌, map, refl, sym, ◌∙◌, ap, subst, Bool, true, false, not, ◌&&◌, nat_eq, Contains, All, arith}
use Rattle.std.specs.Prelude.{if◌then◌else◌}
use Rattle.std.proofs.lemmas.Bool.{eqb-true}
use Rattle.std.proofs.lemmas.List.Elements.{All-weaker, All-contains_itself, All-head, All-tail}
use Rattle.smt_meaning.specs.declared.values.Value.TheVariants.{Truth}
use Rattle.smt_meaning.specs.declared.terms.Operator.{Operator}
use Rattle.smt_meaning.specs.declared.terms.Operator.TheVariants.{True, False, Not, And, Or, Xor, Implies, Equal, Distinct, Ite}
use Rattle.smt_meaning.specs.Forced.{Sign}
use Rattle.smt_meaning.specs.Term.{bool_eq, xor, truth_of}
use Rattle.smt_meaning.specs.Forced.{IsTrueOfNode, IsNodeClause, Forces}
use Rattle.clause_form.specs.Signs.{yes, no, negated, clashes}
use Rattle.clause_form.specs.NodeClauses.{node_clauses, premises}
use Rattle.clause_form.specs.NodeClausesLaws.{fits_node}
use Rattle.clause_form.proofs.Signs.{each_in}
use Rattle.clause_form.proofs.TrueClauses.{each_true, and_from, or_from, implies_from, as_true, as_false}
use Rattle.clause_form.proofs.Over.{On, on_nil, on_signs, on_premises}
use Rattle.clause_form.proofs.Hits.{Hits, hit, both_signs}
use Rattle.clause_form.proofs.Falsified.{NoClash, no_both, no_clash, Clash, clash_of}
use Rattle.clause_form.proofs.Complete.{Apart, all_of_complete}
use Rattle.clause_form.proofs.Ternary.{one_of_two_complete, chosen_complete}

not_same : (b c : Bool) → not b ≡ not c → b ≡ c
not_same true true h = refl
not_same true false h = no_both true refl (sym h)
not_same false true h = no_both true refl h
not_same false false h = refl

abbrev Other : ℕ → ℕ → Type 0
Other t i = nat_eq i t ≡ false

others : (t : ℕ) (xs : List ℕ) → (Contains xs t → ⊥) → All (Other t) xs
others t xs h = All-weaker (Contains xs) (Other t) (λ i c. at i c (nat_eq i t) refl) xs (All-contains_itself xs)
  where
    at : (i : ℕ) → Contains xs i → (b : Bool) → nat_eq i t ≡ b → b ≡ false
    at i c true e = absurd (h (subst (Contains xs) (eqb-true i t e) c))
    at i c false e = refl

apart : (out : Sign) (us : List Sign) → On (Other out.place) us → Apart out us
apart out us all s h = each_in (λ (s : Sign). nat_eq s.place out.place ≡ false) us all s h

complete : (o : Operator) (t : ℕ) (xs : List ℕ) (ss : List Sign) → NoClash ss → fits_node o xs ≡ true → All (Other t) xs → IsTrueOfNode o t xs ss → Hits (node_clauses o t xs) ss
complete True t xs ss nc f other holds =
    all_of_complete (yes t) [] ss nc (apart (yes t) [] (on_nil (Other t))) (λ a h. holds a (sym (as_true (a t)) ∙ h))
complete False t xs ss nc f other holds =
    all_of_complete (no t) [] ss nc (apart (no t) [] (on_nil (Other t))) (λ a h. holds a (not_same (a t) false (sym (as_false (a t)) ∙ h)))
complete Not t (x ∷ []) ss nc f other holds =
    all_of_complete (yes t) (no x ∷ []) ss nc (apart (yes t) (no x ∷ []) (on_signs (Other t) false (x ∷ []) other))
    (λ a h. holds a (sym (as_true (a t)) ∙ h ∙ at (a x)))
  where
    at : (b : Bool) → (bool_eq b false && true) ≡ not b
    at true = refl
    at false = refl
complete And t (x ∷ xs) ss nc f other holds =
    all_of_complete (yes t) (map yes (x ∷ xs)) ss nc (apart (yes t) (map yes (x ∷ xs)) (on_signs (Other t) true (x ∷ xs) other))
    (λ a h. holds a (sym (as_true (a t)) ∙ h ∙ ap (λ b. b && each_true a (map yes xs)) (as_true (a x)) ∙ sym (and_from a (a x) xs)))
complete Or t (x ∷ xs) ss nc f other holds =
    all_of_complete (no t) (map no (x ∷ xs)) ss nc (apart (no t) (map no (x ∷ xs)) (on_signs (Other t) false (x ∷ xs) other))
    (λ a h. holds a (not_same (a t) _ (sym (as_false (a t)) ∙ h ∙ ap (λ b. b && each_true a (map no xs)) (as_false (a x)) ∙ sym (or_from a (a x) xs))))
complete Implies t (x ∷ y ∷ ys) ss nc f other holds =
    all_of_complete (no t) (premises (x ∷ y ∷ ys)) ss nc (apart (no t) (premises (x ∷ y ∷ ys)) (on_premises (Other t) x (y ∷ ys) (All-head (Other t) x (y ∷ ys) other) (All-tail (Other t) x (y ∷ ys) other)))
    (λ a h. holds a (not_same (a t) _ (sym (as_false (a t)) ∙ h ∙ sym (implies_from a x (y ∷ ys)))))
complete Ite t (c ∷ x ∷ y ∷ []) ss nc f other holds =
    chosen_complete t c x y ss nc (other 0 c (omega arith)) (other 1 x (omega arith)) (other 2 y (omega arith)) (λ a h. holds a (h ∙ at (a c) (a x) (a y)))
  where
    at : (c x y : Bool) → (if c then x else y) ≡ truth_of (if c then Truth x else Truth y)
    at true x y = refl
    at false x y = refl
complete Xor t (x ∷ y ∷ []) ss nc f other holds =
    one_of_two_complete (yes t) x y ss nc (other 0 x (omega arith)) (other 1 y (omega arith)) (λ a h. holds a (sym (as_true (a t)) ∙ h))
complete Distinct t (x ∷ y ∷ []) ss nc f other holds =
    one_of_two_complete (yes t) x y ss nc (other 0 x (omega arith)) (other 1 y (omega arith)) (λ a h. holds a (sym (as_true (a t)) ∙ h ∙ at (a x) (a y)))
  where
    at : (b c : Bool) → xor b c ≡ ((not (bool_eq b c) && true) && true)
    at true true = refl
    at true false = refl
    at false true = refl
    at false false = refl
complete Equal t (x ∷ y ∷ []) ss nc f other holds =
    one_of_two_complete (no t) x y ss nc (other 0 x (omega arith)) (other 1 y (omega arith))
    (λ a h. holds a (not_same (a t) (bool_eq (a x) (a y) && true) (sym (as_false (a t)) ∙ h ∙ at (a x) (a y))))
  where
    at : (b c : Bool) → xor b c ≡ not (bool_eq b c && true)
    at true true = refl
    at true false = refl
    at false true = refl
    at false false = refl
complete o t xs ss nc f other holds = cc

pub forces : (o : Operator) (t : ℕ) (xs : List ℕ) (ss : List Sign) → fits_node o xs ≡ true → (Contains xs t → ⊥) → IsNodeClause o t xs ss → Forces negated (node_clauses o t xs) ss
forces o t xs ss f h n = at (clashes ss) refl
  where
    at : (b : Bool) → clashes ss ≡ b → Forces negated (node_clauses o t xs) ss
    at true e =
        let c : Clash ss = clash_of ss e in
        both_signs (node_clauses o t xs) ss c.literal c.one c.other (λ before after s e' all. n.least before after s e' (λ a respects. all a))
    at false e = hit (node_clauses o t xs) ss (complete o t xs ss (no_clash ss e) f (others t xs h) n.true_of)
