-- The clauses of nodes, on examples that were worked out by hand.
use Rattle.std.proofs.Common.{◌≡◌, [], ◌∷◌, refl}
use Rattle.smt_meaning.specs.declared.terms.Operator.TheVariants.{True, And, Or, Xor, Implies, Equal, Ite}
use Rattle.clause_form.specs.Signs.{yes, no}
use Rattle.clause_form.specs.NodeClauses.{node_clauses}

-- 9 is (and 1 2 1): the second 1 is the one that stays
conjunction_example : node_clauses And 9 (1 ∷ 2 ∷ 1 ∷ []) ≡ (yes 9 ∷ no 2 ∷ no 1 ∷ []) ∷ (no 9 ∷ yes 2 ∷ []) ∷ (no 9 ∷ yes 1 ∷ []) ∷ []
conjunction_example = refl

disjunction_example : node_clauses Or 9 (1 ∷ 2 ∷ []) ≡ (no 9 ∷ yes 1 ∷ yes 2 ∷ []) ∷ (yes 9 ∷ no 1 ∷ []) ∷ (yes 9 ∷ no 2 ∷ []) ∷ []
disjunction_example = refl

-- (=> 1 2 3)
implication_example : node_clauses Implies 9 (1 ∷ 2 ∷ 3 ∷ []) ≡ (no 9 ∷ no 1 ∷ no 2 ∷ yes 3 ∷ []) ∷ (yes 9 ∷ yes 1 ∷ []) ∷ (yes 9 ∷ yes 2 ∷ []) ∷ (yes 9 ∷ no 3 ∷ []) ∷ []
implication_example = refl

-- (=> 1 1) is true, (xor 1 1) is false, (= 1 1) is true
always : node_clauses Implies 9 (1 ∷ 1 ∷ []) ≡ (yes 9 ∷ []) ∷ []
always = refl

never_example : node_clauses Xor 9 (1 ∷ 1 ∷ []) ≡ (no 9 ∷ []) ∷ []
never_example = refl

same_example : node_clauses Equal 9 (1 ∷ 1 ∷ []) ≡ (yes 9 ∷ []) ∷ []
same_example = refl

-- (ite 1 1 2) is (or 1 2)
choice_example : node_clauses Ite 9 (1 ∷ 1 ∷ 2 ∷ []) ≡ (no 9 ∷ yes 1 ∷ yes 2 ∷ []) ∷ (yes 9 ∷ no 1 ∷ []) ∷ (yes 9 ∷ no 2 ∷ []) ∷ []
choice_example = refl

constants : node_clauses True 9 [] ≡ (yes 9 ∷ []) ∷ []
constants = refl
