-- The parts of terms, and choices.
use Rattle.std.proofs.Common.{◌≡◌, ℕ, zero, suc, Bool, true, false, not, ◌||◌, ◌&&◌, List, [], ◌∷◌, ◌++◌, map, All, ap, sym, subst, ◌∙◌, refl, arith}
use Rattle.std.specs.Prelude.{IsTrue, if◌then◌else◌, ℤ, pos, ◌+ℤ◌, ◌-ℤ◌, neg_ℤ, int_le, int_lt, ◌≤ℤ◌, ◌<ℤ◌}
use Rattle.std.proofs.lemmas.Int.{ints}
use Rattle.std.proofs.lemmas.List.Elements.{All-head, All-tail}
use Rattle.smt_meaning.specs.declared.values.Value.{Value}
use Rattle.smt_meaning.specs.declared.values.Value.TheVariants.{Truth as IsTruth}
use Rattle.smt_meaning.specs.declared.terms.Operator.{Operator}
use Rattle.smt_meaning.specs.declared.nodes.Node.{Node}
use Rattle.smt_meaning.specs.declared.clauses.Atom.{Atom}
use Rattle.smt_meaning.specs.declared.clauses.Atom.TheVariants.{Same}
use Rattle.smt_meaning.specs.declared.clauses.Literal.{Literal}
use Rattle.smt_meaning.specs.Declaration.{Declaration}
use Rattle.smt_meaning.specs.Term.{Tree, Interpretation, tree_at, values, truth_of, same_value, differ, operate, chain_from, chainable, with_each, pairwise, compare, int_ge, int_gt}
use Rattle.smt_meaning.specs.Nodes.{pick}
use Rattle.smt_meaning.specs.Clause.{some_true, literal_true, atom_true, value_at, sum_value}
use Rattle.smt_meaning.specs.Linear.{Form}
use Rattle.smt_meaning.specs.Atoms.{difference_of}
use Rattle.proof_meaning.specs.Proof.{meant, AreTerms, IsBoolAt, IsIntAt, node_at, are_same}
use Rattle.proof_meaning.specs.Rules.{IsForm, IsPick, HasParts, of_bools, of_equal, of_distinct, of_at_most, of_less, of_at_least, of_greater, along, along_from, not_above, below, turned, some_by, truths, every, no_one, with_others, pairs, pick_clause}
use Rattle.smt_laws.proofs.BoundLaw.{normal_bound_value}
use Rattle.proof_meaning.proofs.Meant.{apply_written}
use Rattle.proof_meaning.proofs.Terms.{standing_value}
use Rattle.proof_meaning.proofs.Facts.{Facts}
use Rattle.proof_meaning.proofs.Linking.{le_moved, same_bool, number_at, difference_value}

some_same : (ts : List Tree) (I : Interpretation) (ls : List Literal) → some_by (atom_true ts I) ls ≡ some_true ts I ls
some_same ts I [] = refl
some_same ts I (l ∷ ls) = ap (λ b. literal_true ts I l || b) (some_same ts I ls)

-- a truth value is that of its truth
itself : (v : Value) → (b : Bool) × (v ≡ IsTruth b) → IsTruth (truth_of v) ≡ v
itself v h = ap (λ w. IsTruth (truth_of w)) h.1 ∙ sym h.1

truths_are : (ds : List Declaration) (ts : List Tree) (I : Interpretation) → Facts ds ts I → (is : List ℕ) → All (IsBoolAt ds ts) is → truths (atom_true (map meant ts) I) is ≡ values I (pick (map meant ts) is)
truths_are ds ts I f [] all = refl
truths_are ds ts I f (i ∷ is) all =
    ap (λ v. v ∷ truths (atom_true (map meant ts) I) is) (itself (value_at (map meant ts) I i) (f.bool i (All-head (IsBoolAt ds ts) i is all)))
    ∙ ap (λ vs. value_at (map meant ts) I i ∷ vs) (truths_are ds ts I f is (All-tail (IsBoolAt ds ts) i is all))

chained : (ts : List Tree) (I : Interpretation) (i : ℕ) (is : List ℕ) → every (atom_true ts I) (along_from Same i is) ≡ chain_from same_value (value_at ts I i) (values I (pick ts is))
chained ts I i [] = refl
chained ts I i (j ∷ js) = ap (λ b. same_value (value_at ts I i) (value_at ts I j) && b) (chained ts I j js)

chained_all : (ts : List Tree) (I : Interpretation) (is : List ℕ) → every (atom_true ts I) (along Same is) ≡ chainable same_value (values I (pick ts is))
chained_all ts I [] = refl
chained_all ts I (i ∷ is) = chained ts I i is

none_append : (v : Atom → Bool) (xs ys : List Atom) → no_one v (xs ++ ys) ≡ (no_one v xs && no_one v ys)
none_append v [] ys = refl
none_append v (x ∷ xs) ys = rw (none_append v xs ys) (assoc (not (v x)) (no_one v xs) (no_one v ys))
  where
    assoc : (a b c : Bool) → (a && (b && c)) ≡ ((a && b) && c)
    assoc true b c = refl
    assoc false b c = refl

others : (ts : List Tree) (I : Interpretation) (i : ℕ) (js : List ℕ) → no_one (atom_true ts I) (with_others i js) ≡ with_each differ (value_at ts I i) (values I (pick ts js))
others ts I i [] = refl
others ts I i (j ∷ js) = ap (λ b. differ (value_at ts I i) (value_at ts I j) && b) (others ts I i js)

apart : (ts : List Tree) (I : Interpretation) (is : List ℕ) → no_one (atom_true ts I) (pairs is) ≡ pairwise differ (values I (pick ts is))
apart ts I [] = refl
apart ts I (i ∷ is) =
    none_append (atom_true ts I) (with_others i is) (pairs is)
    ∙ ap (λ b. b && no_one (atom_true ts I) (pairs is)) (others ts I i is)
    ∙ ap (λ b. with_each differ (value_at ts I i) (values I (pick ts is)) && b) (apart ts I is)

lt_moved : (a c m n : ℤ) → a +ℤ c ≡ m -ℤ n → int_le a (neg_ℤ c -ℤ pos 1) ≡ int_lt m n
lt_moved a c m n e =
    same_bool (int_le a (neg_ℤ c -ℤ pos 1)) (int_lt m n)
    (λ h. lt_true m n (let k : a ≤ℤ (neg_ℤ c -ℤ pos 1) = true_le a (neg_ℤ c -ℤ pos 1) h in omega (arith, ints)))
    (λ h. le_true a (neg_ℤ c -ℤ pos 1) (let k : m <ℤ n = true_lt m n h in omega (arith, ints)))
  where
    lt_true : (a b : ℤ) → a <ℤ b → int_lt a b ≡ true
    lt_true a b h = grind (arith, ints)

    true_lt : (a b : ℤ) → int_lt a b ≡ true → a <ℤ b
    true_lt a b h = grind (arith, ints)

    le_true : (a b : ℤ) → a ≤ℤ b → int_le a b ≡ true
    le_true a b h = grind (arith, ints)

    true_le : (a b : ℤ) → int_le a b ≡ true → a ≤ℤ b
    true_le a b h = grind (arith, ints)

not_above_value : (ds : List Declaration) (ts : List Tree) (I : Interpretation) → Facts ds ts I → (i j : ℕ) → IsIntAt ds ts i → IsIntAt ds ts j
    → atom_true (map meant ts) I (not_above ts i j) ≡ compare int_le (value_at (map meant ts) I i) (value_at (map meant ts) I j)
not_above_value ds ts I facts i j hi hj =
    let f : Form = difference_of ts (tree_at ts i) (tree_at ts j) in
    normal_bound_value (map meant ts) I f.sum (neg_ℤ f.constant)
    ∙ le_moved (sum_value (map meant ts) I f.sum) f.constant (number_at ts I i) (number_at ts I j) (difference_value ds ts I facts i j hi hj)

below_value : (ds : List Declaration) (ts : List Tree) (I : Interpretation) → Facts ds ts I → (i j : ℕ) → IsIntAt ds ts i → IsIntAt ds ts j
    → atom_true (map meant ts) I (below ts i j) ≡ compare int_lt (value_at (map meant ts) I i) (value_at (map meant ts) I j)
below_value ds ts I facts i j hi hj =
    let f : Form = difference_of ts (tree_at ts i) (tree_at ts j) in
    normal_bound_value (map meant ts) I f.sum (neg_ℤ f.constant -ℤ pos 1)
    ∙ lt_moved (sum_value (map meant ts) I f.sum) f.constant (number_at ts I i) (number_at ts I j) (difference_value ds ts I facts i j hi hj)

abbrev IsComparedBy : List Declaration → List Tree → Interpretation → (ℕ → ℕ → Atom) → (Value → Value → Bool) → Type 0
IsComparedBy ds ts I at r = (i j : ℕ) → IsIntAt ds ts i → IsIntAt ds ts j → atom_true (map meant ts) I (at i j) ≡ r (value_at (map meant ts) I i) (value_at (map meant ts) I j)

compared_from : (ds : List Declaration) (ts : List Tree) (I : Interpretation) (at : ℕ → ℕ → Atom) (r : Value → Value → Bool) → IsComparedBy ds ts I at r
    → (i : ℕ) (is : List ℕ) → IsIntAt ds ts i → All (IsIntAt ds ts) is → every (atom_true (map meant ts) I) (along_from at i is) ≡ chain_from r (value_at (map meant ts) I i) (values I (pick (map meant ts) is))
compared_from ds ts I at r one i [] hi all = refl
compared_from ds ts I at r one i (j ∷ js) hi all =
    let hj : IsIntAt ds ts j = All-head (IsIntAt ds ts) j js all in
    ap (λ b. b && every (atom_true (map meant ts) I) (along_from at j js)) (one i j hi hj)
    ∙ ap (λ b. r (value_at (map meant ts) I i) (value_at (map meant ts) I j) && b) (compared_from ds ts I at r one j js hj (All-tail (IsIntAt ds ts) j js all))

compared : (ds : List Declaration) (ts : List Tree) (I : Interpretation) (at : ℕ → ℕ → Atom) (r : Value → Value → Bool) → IsComparedBy ds ts I at r
    → (is : List ℕ) → All (IsIntAt ds ts) is → every (atom_true (map meant ts) I) (along at is) ≡ chainable r (values I (pick (map meant ts) is))
compared ds ts I at r one [] all = refl
compared ds ts I at r one (i ∷ is) all = compared_from ds ts I at r one i is (All-head (IsIntAt ds ts) i is all) (All-tail (IsIntAt ds ts) i is all)

-- the parts' truth gives the operator's value
parts_give : (ds : List Declaration) (ts : List Tree) (I : Interpretation) → Facts ds ts I
    → (o : Operator) (is : List ℕ) (ps : List Atom) (f : (Atom → Bool) → Bool) → HasParts ds ts o is ps f → f (atom_true (map meant ts) I) ≡ truth_of (operate o (values I (pick (map meant ts) is)))
parts_give ds ts I facts _ _ _ _ (of_bools {o = o} {is = is} all) = ap (λ vs. truth_of (operate o vs)) (truths_are ds ts I facts is all)
parts_give ds ts I facts _ _ _ _ (of_equal {is = is} other) = chained_all (map meant ts) I is
parts_give ds ts I facts _ _ _ _ (of_distinct {is = is} other) = apart (map meant ts) I is
parts_give ds ts I facts _ _ _ _ (of_at_most {is = is} all) = compared ds ts I (not_above ts) (compare int_le) (not_above_value ds ts I facts) is all
parts_give ds ts I facts _ _ _ _ (of_less {is = is} all) = compared ds ts I (below ts) (compare int_lt) (below_value ds ts I facts) is all
parts_give ds ts I facts _ _ _ _ (of_at_least {is = is} all) =
    compared ds ts I (turned (not_above ts)) (compare int_ge) (λ i j hi hj. not_above_value ds ts I facts j i hj hi) is all
parts_give ds ts I facts _ _ _ _ (of_greater {is = is} all) = compared ds ts I (turned (below ts)) (compare int_gt) (λ i j hi hj. below_value ds ts I facts j i hj hi) is all

pub form_true : (ds : List Declaration) (ns : List Node) (ts : List Tree) (I : Interpretation) → AreTerms ds ns ts → Facts ds ts I → (i : ℕ) (ls : List Literal)
    → IsForm ds ns ts i ls → some_true (map meant ts) I ls ≡ true
form_true ds ns ts I terms facts i ls h =
    sym (some_same (map meant ts) I ls)
    ∙ h.always (atom_true (map meant ts) I)
    (ap truth_of (standing_value ds ns ts I terms i h.within ∙ ap (λ k. apply_written I k (values I (pick (map meant ts) arguments))) h.head)
    ∙ sym (parts_give ds ts I facts h.operator arguments h.parts h.value h.by))
  where
    arguments : List ℕ
    arguments = (node_at ns i).arguments

pub pick_true : (ds : List Declaration) (ns : List Node) (ts : List Tree) (I : Interpretation) → AreTerms ds ns ts → ((i : ℕ) → IsTrue (some_true (map meant ts) I (are_same i i ∷ [])))
    → (i which : ℕ) (ls : List Literal) → IsPick ds ns ts i which ls → some_true (map meant ts) I ls ≡ true
pick_true ds ns ts I terms same i which ls h = subst (λ ms. some_true (map meant ts) I ms ≡ true) (sym h.clause) (by which (truth_of (at h.condition)) refl)
  where
    at : ℕ → Value
    at j = value_at (map meant ts) I j

    here : at i ≡ (if truth_of (at h.condition) then at h.first else at h.second)
    here = standing_value ds ns ts I terms i h.within ∙ ap (λ (n : Node). apply_written I n.head (values I (pick (map meant ts) n.arguments))) h.node_is

    by : (n : ℕ) (b : Bool) → truth_of (at h.condition) ≡ b → some_true (map meant ts) I (pick_clause i n h.condition h.first h.second) ≡ true
    by zero false e = ap (λ x. not x || (same_value (at i) (at h.first) || false)) e
    by zero true e =
        ap (λ x. not x || (same_value (at i) (at h.first) || false)) e
        ∙ subst (λ v. (same_value (at i) v || false) ≡ true) (here ∙ ap (λ x. if x then at h.first else at h.second) e) (same i)
    by (suc n) true e = ap (λ x. x || (same_value (at i) (at h.second) || false)) e
    by (suc n) false e =
        ap (λ x. x || (same_value (at i) (at h.second) || false)) e
        ∙ subst (λ v. (same_value (at i) v || false) ≡ true) (here ∙ ap (λ x. if x then at h.first else at h.second) e) (same i)
