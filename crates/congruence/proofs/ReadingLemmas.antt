-- Terms as points.
use Rattle.std.proofs.Common.{◌≡◌, ℕ, suc, ◌+◌, ◌<◌, ◌==◌, Bool, true, false, not, List, [], ◌∷◌, ◌++◌, length, map, All, refl, sym, ap, ◌∙◌, subst, inl, inr, arith}
use Rattle.std.proofs.lemmas.Bool.{cases_lt, eqb-true}
use Rattle.std.proofs.lemmas.List.{get_or_append_left, get_or_push, length_push, nil_from_length}
use Rattle.smt_meaning.specs.declared.terms.Operator.TheVariants.{True, False}
use Rattle.smt_meaning.specs.declared.terms.Head.{Head}
use Rattle.smt_meaning.specs.declared.terms.Head.TheVariants.{Numeral, Theory, Symbol, Place}
use Rattle.smt_meaning.specs.Term.{Tree, node, more, tree_at}
use Rattle.smt_meaning.specs.Nodes.{pick}
use Rattle.std.proofs.lemmas.List.Elements.{All-cons}
use Rattle.point_closure.specs.declared.shape.Shape.{Shape}
use Rattle.point_closure.specs.declared.shape.Shape.TheVariants.{Leaf, Truth, Application}
use Rattle.point_closure.specs.Closure.{Point, IsPointOf, AreRead, with_truths}
use Rattle.term_store.specs.Terms.{tree_with}
use Rattle.congruence.specs.Reading.{point_number, shape_for, arguments_for, is_applied, IsSeen, AreSeen}

pub skip_truths : (ts : List Tree) (t : ℕ) → tree_at (with_truths ts) (t + 2) ≡ tree_at ts t
skip_truths ts t = ap (tree_at (with_truths ts)) (let e : t + 2 ≡ suc (suc t) = omega arith in e)

pick_points : (ts : List Tree) (is : List ℕ) → pick (with_truths ts) (map point_number is) ≡ pick ts is
pick_points ts [] = refl
pick_points ts (i ∷ is) = ap (λ t. more t (pick (with_truths ts) (map point_number is))) (skip_truths ts i) ∙ ap (more (tree_at ts i)) (pick_points ts is)

pub point_of : (ts : List Tree) (h : Head) (is : List ℕ) (b : Bool) → (b ≡ false → is ≡ []) → IsPointOf (with_truths ts) (record { shape = shape_for h b; arguments = arguments_for (shape_for h b) is }) (node h (pick ts is))
point_of ts (Symbol f) is true empty = ap (node (Symbol f)) (sym (pick_points ts is))
point_of ts (Numeral n) is true empty = tt
point_of ts (Theory o) is true empty = tt
point_of ts (Place k) is true empty = tt
point_of ts (Theory True) is false empty = ap (λ js. node (Theory True) (pick ts js)) (empty refl)
point_of ts (Theory False) is false empty = ap (λ js. node (Theory False) (pick ts js)) (empty refl)
point_of ts (Theory _) is false empty = tt
point_of ts (Symbol f) is false empty = tt
point_of ts (Numeral n) is false empty = tt
point_of ts (Place k) is false empty = tt

abbrev point_with : Shape → List ℕ → Point
point_with s args = record { shape = s; arguments = args }

pub read_more : (ts : List Tree) (ps : List Point) (p : Point) → AreRead ts ps → IsPointOf (with_truths ts) p (tree_at (with_truths ts) (length ps)) → AreRead ts (ps ++ p ∷ [])
read_more ts ps p read here i less = elim (cases_lt i (length ps)) [
  | inl before ↦ subst (λ (q : Point). IsPointOf (with_truths ts) q (tree_at (with_truths ts) i)) (sym (get_or_append_left ps (p ∷ []) (record { shape = Leaf; arguments = [] }) i before)) (read i before)
  | inr above ↦
      let last : length ps ≡ i = omega (arith, length_push ps p) in
      subst (λ (q : Point). IsPointOf (with_truths ts) q (tree_at (with_truths ts) i)) (sym (get_or_push ps p (record { shape = Leaf; arguments = [] }) i last))
      (subst (λ n. IsPointOf (with_truths ts) p (tree_at (with_truths ts) n)) last here)
]

empty_is : (is : List ℕ) (r : Bool) → r ≡ (length is == 0) → not r ≡ false → is ≡ []
empty_is is r e h = nil_from_length is (eqb-true (length is) 0 (sym e ∙ truth r h))
  where
    truth : (b : Bool) → not b ≡ false → b ≡ true
    truth true h = refl
    truth false h = cc

pub read_next : (ts : List Tree) (ps : List Point) (h : Head) (is : List ℕ) (empty : Bool) (s : Shape) (args : List ℕ) (t : ℕ) → empty ≡ (length is == 0) → s ≡ shape_for h (not empty) → args ≡ arguments_for s is
    → length ps ≡ t + 2 → tree_at ts t ≡ node h (pick ts is) → AreRead ts ps → AreRead ts (ps ++ record { shape = s; arguments = args } ∷ [])
read_next ts ps h is empty s args t is_empty is_shape are size tree read =
    read_more ts ps (point_with s args) read
    (subst (λ (u : Tree). IsPointOf (with_truths ts) (point_with s args) u) (sym (ap (tree_at (with_truths ts)) size ∙ skip_truths ts t ∙ tree))
    (subst (λ (q : Point). IsPointOf (with_truths ts) q (node h (pick ts is))) (sym (ap (point_with s) are ∙ ap (λ x. point_with x (arguments_for x is)) is_shape))
    (point_of ts h is (not empty) (empty_is is empty is_empty))))

pub arguments_below : (s : Shape) (is : List ℕ) (t : ℕ) → All (λ i. i < t) is → All (λ i. i < t + 2) (arguments_for s is)
arguments_below (Application f) [] t all = λ k d less. absurd (omega arith)
arguments_below (Application f) (i ∷ is) t all = All-cons (λ n. n < t + 2) (i + 2) (map point_number is) (let h : i < t = all 0 i (omega arith) in omega arith)
    (arguments_below (Application f) is t (λ k d less. all (suc k) d (omega arith)))
arguments_below (Truth b) is t all = λ k d less. absurd (omega arith)
arguments_below Leaf is t all = λ k d less. absurd (omega arith)

-- ---- what each term is seen as

applied_is : (is : List ℕ) (r : Bool) → r ≡ (length is == 0) → not r ≡ is_applied is
applied_is [] true e = refl
applied_is [] false e = cc
applied_is (i ∷ is) true e = let h : length (i ∷ is) ≡ 0 = eqb-true (length (i ∷ is)) 0 (sym e) in absurd (omega arith)
applied_is (i ∷ is) false e = refl

kept_seen : (ts : List Tree) (ps : List Point) (p : Point) (t : ℕ) → t + 2 < length ps → IsSeen ts ps t → IsSeen ts (ps ++ p ∷ []) t
kept_seen ts ps p t less s = record {
  head = s.head;
  arguments = s.arguments;
  tree = s.tree;
  earlier = s.earlier;
  point = get_or_append_left ps (p ∷ []) (record { shape = Leaf; arguments = [] }) (t + 2) less ∙ s.point;
}

pub see_next : (ts : List Tree) (ps : List Point) (h : Head) (is : List ℕ) (empty : Bool) (s : Shape) (args : List ℕ) (t : ℕ) → empty ≡ (length is == 0) → s ≡ shape_for h (not empty) → args ≡ arguments_for s is
    → length ps ≡ t + 2 → tree_at ts t ≡ tree_with ts h is → All (λ i. i < t) is → AreSeen ts ps → AreSeen ts (ps ++ record { shape = s; arguments = args } ∷ [])
see_next ts ps h is empty s args t is_empty is_shape are size tree earlier seen u less = elim (cases_lt (u + 2) (length ps)) [
  | inl before ↦ kept_seen ts ps (point_with s args) u before (seen u before)
  | inr above ↦
      let here : t ≡ u = omega (arith, length_push ps (point_with s args)) in
      subst (λ n. IsSeen ts (ps ++ point_with s args ∷ []) n) here (record {
        head = h;
        arguments = is;
        tree = tree;
        earlier = earlier;
        point = get_or_push ps (point_with s args) (record { shape = Leaf; arguments = [] }) (t + 2) size
            ∙ ap (point_with s) are ∙ ap (λ x. point_with x (arguments_for x is)) (is_shape ∙ ap (shape_for h) (applied_is is empty is_empty));
      })
]
