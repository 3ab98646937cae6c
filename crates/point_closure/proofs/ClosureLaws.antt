-- The value of equal points, by induction on why they are equal.
use Rattle.std.proofs.Common.{◌≡◌, ℕ, suc, ◌<◌, inl, inr, false, List, [], ◌∷◌, length, refl, sym, ap, ◌∙◌, subst, arith, get_or}
use Rattle.std.proofs.lemmas.Bool.{cases_lt}
use Rattle.std.proofs.lemmas.List.{get_or_past}
use Rattle.std.specs.Prelude.{IsTrue}
use Rattle.smt_meaning.specs.Term.{Tree, tree_at, Interpretation, value, values}
use Rattle.smt_meaning.specs.Nodes.{pick}
use Rattle.point_closure.specs.declared.shape.Shape.{Shape}
use Rattle.point_closure.specs.declared.shape.Shape.TheVariants.{Leaf, Truth, Application}
use Rattle.point_closure.specs.Closure.{Point, Pair, point_at, takes_part, AreAlike, Equal, given, same, turned, joined, applied, with_truths, IsPointOf, AreRead}
use Rattle.point_closure.specs.Laws.{point_value, MakesPairsTrue}

-- arguments with equal values, one by one
pub values_pick : (I : Interpretation) (all : List Tree) (is js : List ℕ) → length is ≡ length js
    → ((k : ℕ) → k < length is → value I (tree_at all (get_or is k 0)) ≡ value I (tree_at all (get_or js k 0)))
    → values I (pick all is) ≡ values I (pick all js)
values_pick I all [] [] e h = refl
values_pick I all [] (j ∷ js) e h = absurd (omega arith)
values_pick I all (i ∷ is) [] e h = absurd (omega arith)
values_pick I all (i ∷ is) (j ∷ js) e h =
    let first : value I (tree_at all i) ≡ value I (tree_at all j) = h 0 (omega arith) in
    let rest : values I (pick all is) ≡ values I (pick all js) = values_pick I all is js (omega arith) (λ k less. h (suc k) (omega arith)) in
    ap (λ v. v ∷ values I (pick all is)) first ∙ ap (λ vs. value I (tree_at all j) ∷ vs) rest

not_true : IsTrue false → ⊥
not_true e = cc

-- two points with one symbol and arguments of equal values have equal values
same_shape : (I : Interpretation) (all : List Tree) (s : Shape) (is js : List ℕ) (t u : Tree) → IsTrue (takes_part s)
    → IsPointOf all (record { shape = s; arguments = is }) t → IsPointOf all (record { shape = s; arguments = js }) u
    → values I (pick all is) ≡ values I (pick all js) → value I t ≡ value I u
same_shape I all Leaf is js t u takes h k e = absurd (not_true takes)
same_shape I all (Truth b) is js t u takes h k e = ap (value I) (h ∙ sym k)
same_shape I all (Application f) is js t u takes h k e = ap (value I) h ∙ ap (I f) e ∙ ap (value I) (sym k)

pub point_within : (ps : List Point) (i : ℕ) → IsTrue (takes_part (point_at ps i).shape) → i < length ps
point_within ps i takes =
    elim (cases_lt i (length ps)) [
      | inl less ↦ less
      | inr past ↦ absurd (not_true (subst (λ (p : Point). IsTrue (takes_part p.shape)) (get_or_past ps i (record { shape = Leaf; arguments = [] }) past) takes))
    ]

pub alike_value : (I : Interpretation) (all : List Tree) (p q : Point) (t u : Tree) → AreAlike p q → IsPointOf all p t → IsPointOf all q u
    → ((k : ℕ) → k < length p.arguments → value I (tree_at all (get_or p.arguments k 0)) ≡ value I (tree_at all (get_or q.arguments k 0)))
    → value I t ≡ value I u
alike_value I all p q t u alike h k each =
    let h' : IsPointOf all (record { shape = q.shape; arguments = p.arguments }) t =
    subst (λ (s : Shape). IsPointOf all (record { shape = s; arguments = p.arguments }) t) alike.shape h in
    same_shape I all q.shape p.arguments q.arguments t u (subst (λ (s : Shape). IsTrue (takes_part s)) alike.shape alike.takes) h' k
    (values_pick I all p.arguments q.arguments alike.count each)

pub equal_value : (ts : List Tree) (ps : List Point) (pairs : List Pair) (I : Interpretation) → AreRead ts ps → MakesPairsTrue ts I pairs
    → {i j : ℕ} → Equal ps pairs i j → point_value ts I i ≡ point_value ts I j
equal_value ts ps pairs I read true' (given c) = true' _ c
equal_value ts ps pairs I read true' same = refl
equal_value ts ps pairs I read true' (turned e) = sym (equal_value ts ps pairs I read true' e)
equal_value ts ps pairs I read true' (joined e f) = equal_value ts ps pairs I read true' e ∙ equal_value ts ps pairs I read true' f
equal_value ts ps pairs I read true' (applied {i = i} {j = j} alike each) =
    alike_value I (with_truths ts) (point_at ps i) (point_at ps j) (tree_at (with_truths ts) i) (tree_at (with_truths ts) j) alike
    (read i (point_within ps i alike.takes)) (read j (point_within ps j (subst (λ (s : Shape). IsTrue (takes_part s)) alike.shape alike.takes)))
    (λ k less. equal_value ts ps pairs I read true' (each k less))
