-- Applications of one head to equal arguments.
use Rattle.std.proofs.Common.{◌≡◌, ℕ, length, Bool, true, false, not, ◌||◌, List, [], ◌∷◌, ◌++◌, map, ◌⊎◌, inl, inr, ap, sym, subst, ◌∙◌, refl, arith}
use Rattle.std.specs.Prelude.{IsTrue, ℤ, pos, negsuc}
use Rattle.std.proofs.lemmas.Bool.{eqb-true}
use Rattle.smt_meaning.specs.declared.values.Value.{Value}
use Rattle.smt_meaning.specs.declared.values.Value.TheVariants.{Truth, Whole, Element}
use Rattle.smt_meaning.specs.declared.clauses.Literal.{Literal}
use Rattle.smt_meaning.specs.Term.{Tree, Interpretation, values, same_value, bool_eq, int_eq}
use Rattle.smt_meaning.specs.Nodes.{pick}
use Rattle.smt_meaning.specs.Clause.{some_true, literal_true, value_at}
use Rattle.smt_meaning.specs.declared.nodes.Node.{Node}
use Rattle.smt_meaning.specs.Declaration.{Declaration}
use Rattle.proof_meaning.specs.Proof.{meant, AreTerms, node_at, are_same}
use Rattle.proof_meaning.specs.Rules.{IsCong, differing}
use Rattle.proof_meaning.proofs.Meant.{apply_written}
use Rattle.proof_meaning.proofs.Terms.{standing_value}
use Rattle.proof_meaning.proofs.Resolving.{or_left, or_right}

same_bool : (a b : Bool) → bool_eq a b ≡ true → a ≡ b
same_bool true b h = sym h
same_bool false true h = let e : false ≡ true = h in cc
same_bool false false h = refl

same_int : (m n : ℤ) → int_eq m n ≡ true → m ≡ n
same_int (pos m) (pos n) h = ap pos (eqb-true m n h)
same_int (negsuc m) (negsuc n) h = ap negsuc (eqb-true m n h)
same_int (pos m) (negsuc n) h = let e : false ≡ true = h in cc
same_int (negsuc m) (pos n) h = let e : false ≡ true = h in cc

pub same_is : (v w : Value) → same_value v w ≡ true → v ≡ w
same_is (Truth a) (Truth b) h = ap Truth (same_bool a b h)
same_is (Whole m) (Whole n) h = ap Whole (same_int m n h)
same_is (Element i) (Element j) h = ap Element (eqb-true i j h)
same_is (Truth a) (Whole n) h = let e : false ≡ true = h in cc
same_is (Truth a) (Element j) h = let e : false ≡ true = h in cc
same_is (Whole m) (Truth b) h = let e : false ≡ true = h in cc
same_is (Whole m) (Element j) h = let e : false ≡ true = h in cc
same_is (Element i) (Truth b) h = let e : false ≡ true = h in cc
same_is (Element i) (Whole n) h = let e : false ≡ true = h in cc

append : (ts : List Tree) (I : Interpretation) (xs ys : List Literal) → some_true ts I (xs ++ ys) ≡ (some_true ts I xs || some_true ts I ys)
append ts I [] ys = refl
append ts I (x ∷ xs) ys = rw (append ts I xs ys) (assoc (literal_true ts I x) (some_true ts I xs) (some_true ts I ys))
  where
    assoc : (a b c : Bool) → (a || (b || c)) ≡ ((a || b) || c)
    assoc true b c = refl
    assoc false b c = refl

arguments : (ts : List Tree) (I : Interpretation) (is js : List ℕ) → length is ≡ length js
    → (some_true ts I (differing is js) ≡ true) ⊎ (values I (pick ts is) ≡ values I (pick ts js))
arguments ts I [] [] h = inr refl
arguments ts I [] (j ∷ js) h = absurd (omega (arith, h))
arguments ts I (i ∷ is) [] h = absurd (omega (arith, h))
arguments ts I (i ∷ is) (j ∷ js) h = by (same_value (value_at ts I i) (value_at ts I j)) refl (arguments ts I is js (omega (arith, h)))
  where
    by : (b : Bool) → same_value (value_at ts I i) (value_at ts I j) ≡ b → (some_true ts I (differing is js) ≡ true) ⊎ (values I (pick ts is) ≡ values I (pick ts js))
        → (some_true ts I (differing (i ∷ is) (j ∷ js)) ≡ true) ⊎ (values I (pick ts (i ∷ is)) ≡ values I (pick ts (j ∷ js)))
    by false e rest = inl (or_left (not (same_value (value_at ts I i) (value_at ts I j))) (some_true ts I (differing is js)) (ap not e))
    by true e rest = elim rest [
      | inl one ↦ inl (or_right (not (same_value (value_at ts I i) (value_at ts I j))) (some_true ts I (differing is js)) one)
      | inr later ↦ inr (ap (λ v. v ∷ values I (pick ts is)) (same_is (value_at ts I i) (value_at ts I j) e) ∙ ap (λ vs. value_at ts I j ∷ vs) later)
    ]

pub cong_true : (ds : List Declaration) (ns : List Node) (ts : List Tree) (I : Interpretation) → AreTerms ds ns ts → ((i : ℕ) → IsTrue (some_true (map meant ts) I (are_same i i ∷ [])))
    → (i j : ℕ) (ls : List Literal) → IsCong ns i j ls → some_true (map meant ts) I ls ≡ true
cong_true ds ns ts I terms same i j ls h =
    subst (λ ms. some_true trees I ms ≡ true) (sym h.clause) (append trees I (differing left right) (are_same i j ∷ []) ∙ elim (arguments trees I left right h.count) [
      | inl one ↦ or_left (some_true trees I (differing left right)) (some_true trees I (are_same i j ∷ [])) one
      | inr equal ↦ or_right (some_true trees I (differing left right)) (some_true trees I (are_same i j ∷ [])) (subst (λ v. (same_value (value_at trees I i) v || false) ≡ true) (one_value equal) (same i))
    ])
  where
    trees : List Tree
    trees = map meant ts

    left : List ℕ
    left = (node_at ns i).arguments

    right : List ℕ
    right = (node_at ns j).arguments

    one_value : values I (pick trees left) ≡ values I (pick trees right) → value_at trees I i ≡ value_at trees I j
    one_value e =
        standing_value ds ns ts I terms i h.left_within ∙ ap (apply_written I (node_at ns i).head) e ∙ ap (λ k. apply_written I k (values I (pick trees right))) h.head
        ∙ sym (standing_value ds ns ts I terms j h.right_within)
