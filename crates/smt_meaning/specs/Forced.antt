-- Unit propagation over any type of literals with a negation, and the clauses of a node.
use Rattle.std.specs.Prelude.{◌≡◌, ℕ, Bool, true, false, ◌&&◌, List, [], ◌∷◌, ◌++◌, map, Contains, All, IsTrue, ◌⊎◌}
use Rattle.smt_meaning.specs.declared.values.Value.TheVariants.{Truth}
use Rattle.smt_meaning.specs.declared.terms.Operator.{Operator}
use Rattle.smt_meaning.specs.declared.terms.Operator.TheVariants.{True, False, Not, And, Or, Xor, Implies, Equal, Distinct, Ite}
use Rattle.smt_meaning.specs.declared.terms.Head.TheVariants.{Theory}
use Rattle.smt_meaning.specs.Declaration.{Declaration}
use Rattle.smt_meaning.specs.declared.clauses.Literal.{Literal}
use Rattle.smt_meaning.specs.declared.clauses.Atom.TheVariants.{Truth as TruthAtom}
use Rattle.smt_meaning.specs.Term.{Tree, Trees, node, none, more, operate, truth_of, bool_eq}
use Rattle.smt_meaning.specs.TreeShape.{place_of}
use Rattle.smt_meaning.specs.Signature.{tree_sort, is_bool}

-- what propagation reaches from given literals: each of them, and the last literal of a clause whose others are false
pub data Reaches {L : Type 0} (negated : L → L) (clauses : List (List L)) (given : List L) : L → Type 0 where
  start : {l : L} → Contains given l → Reaches negated clauses given l
  unit : {l : L} (before after : List L) → Contains clauses (before ++ l ∷ after)
      → ((m : L) → Contains (before ++ after) m → Reaches negated clauses given (negated m)) → Reaches negated clauses given l

-- propagation reaches a clause with all literals false
pub record Conflicts {L : Type 0} (negated : L → L) (clauses : List (List L)) (given : List L) : Type 0 where
  pub clause : List L
  pub kept : Contains clauses clause
  pub all_false : (m : L) → Contains clause m → Reaches negated clauses given (negated m)

-- for each literal of the clause, propagation from the negations of the others reaches it, or a conflict
abbrev pub Forces : {L : Type 0} → (L → L) → List (List L) → List L → Type 0
Forces {L} negated clauses c =
    (before after : List L) (l : L) → c ≡ before ++ l ∷ after
    → Reaches negated clauses (map negated (before ++ after)) l ⊎ Conflicts negated clauses (map negated (before ++ after))

-- ---- the clauses of a node, over the truth of places

abbrev pub are_two_bools : List Declaration → Trees → Bool
are_two_bools ds (more t (more u none)) = is_bool (tree_sort ds t) && is_bool (tree_sort ds u)
are_two_bools ds us = false

-- a place and whether it is to be true
pub record Sign : Type 0 where
  pub place : ℕ
  pub positive : Bool

abbrev pub some_sign_true : (ℕ → Bool) → List Sign → Bool
some_sign_true a [] = false
some_sign_true a (s ∷ ss) = elim (bool_eq (a s.place) s.positive) [ true ↦ true | false ↦ some_sign_true a ss ]

-- truth values at which the node at place t has the value of its operator
abbrev pub RespectsNode : (ℕ → Bool) → Operator → ℕ → List ℕ → Type 0
RespectsNode a o t arguments = a t ≡ truth_of (operate o (map (λ i. Truth (a i)) arguments))

-- true whatever truth values the arguments have
abbrev pub IsTrueOfNode : Operator → ℕ → List ℕ → List Sign → Type 0
IsTrueOfNode o t arguments ss = (a : ℕ → Bool) → RespectsNode a o t arguments → IsTrue (some_sign_true a ss)

-- over the truth of a node and of its arguments, true of the node, and no part of it is
pub record IsNodeClause (o : Operator) (t : ℕ) (arguments : List ℕ) (ss : List Sign) : Type 0 where
  pub over : All (λ (s : Sign). Contains (t ∷ arguments) s.place) ss
  pub true_of : IsTrueOfNode o t arguments ss
  pub least : (before after : List Sign) (s : Sign) → ss ≡ before ++ s ∷ after → IsTrueOfNode o t arguments (before ++ after) → ⊥

-- whether a term with this operator, of these arguments, has such clauses: the connectives, a Bool `ite`, and `xor`, `=` and `distinct` of two Bools
abbrev pub has_node_clauses : List Declaration → Operator → Trees → Bool
has_node_clauses ds True us = true
has_node_clauses ds False us = true
has_node_clauses ds Not us = true
has_node_clauses ds And us = true
has_node_clauses ds Or us = true
has_node_clauses ds Implies us = true
has_node_clauses ds Ite us = is_bool (tree_sort ds (node (Theory Ite) us))
has_node_clauses ds Xor us = are_two_bools ds us
has_node_clauses ds Equal us = are_two_bools ds us
has_node_clauses ds Distinct us = are_two_bools ds us
has_node_clauses ds o us = false

abbrev pub places_in : List Tree → Trees → List ℕ
places_in ts none = []
places_in ts (more u us) = place_of u ts ∷ places_in ts us

-- a clause of a term, over the places of a list of trees
pub record IsClauseOf (ts : List Tree) (ds : List Declaration) (o : Operator) (us : Trees) (ss : List Sign) : Type 0 where
  pub has : IsTrue (has_node_clauses ds o us)
  pub clause : IsNodeClause o (place_of (node (Theory o) us) ts) (places_in ts us) ss

abbrev pub literals_of : List Sign → List Literal
literals_of ss = map (λ (s : Sign). record { atom = TruthAtom s.place; positive = s.positive }) ss
