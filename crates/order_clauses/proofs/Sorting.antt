-- The sorts of what a part compares.
use Rattle.std.proofs.Common.{◌≡◌, ℕ, Bool, true, false, ◌&&◌, List, [], ◌∷◌, map, length, All, refl, sym, ap, ◌∙◌}
use Rattle.std.specs.Prelude.{Option, Some, None, if◌then◌else◌}
use Rattle.std.proofs.lemmas.Bool.{eqb-true}
use Rattle.std.proofs.lemmas.List.Elements.{All-cons, All-nil, All-head, All-tail, All-weaker}
use Rattle.smt_meaning.specs.declared.values.Sort.{Sort}
use Rattle.smt_meaning.specs.declared.values.Sort.TheVariants.{Bool as Truths, Int as Ints, Free}
use Rattle.smt_meaning.specs.declared.terms.Operator.{Operator}
use Rattle.smt_meaning.specs.declared.terms.Operator.TheVariants.{Ite}
use Rattle.smt_meaning.specs.declared.terms.Head.TheVariants.{Theory}
use Rattle.smt_meaning.specs.Declaration.{Declaration}
use Rattle.smt_meaning.specs.Term.{Tree, node, tree_at}
use Rattle.smt_meaning.specs.Nodes.{pick}
use Rattle.smt_meaning.specs.Signature.{sort_eq, all_of, if_so, operator_sort, stands_with, cons_sort, with_sorts, tree_sort, tree_sorts}
use Rattle.order_clauses.specs.Clauses.{sort_at}
use Rattle.order_clauses.specs.Sound.{HasSort}

if_some : (b : Bool) (x : Option Sort) (s : Sort) → (if b then x else None) ≡ Some s → x ≡ Some s
if_some true x s h = h
if_some false x s h = cc

pub if_so_true : (b : Bool) (t s : Sort) → if_so b t ≡ Some s → (b ≡ true) × (t ≡ s)
if_so_true true t s h = (refl, cc)
if_so_true false t s h = absurd (let x : None ≡ Some s = h in cc)

sort_is : (r s : Sort) → sort_eq r s ≡ true → s ≡ r
sort_is Truths Truths h = refl
sort_is Truths Ints h = absurd (let x : false ≡ true = h in cc)
sort_is Truths (Free a) h = absurd (let x : false ≡ true = h in cc)
sort_is Ints Truths h = absurd (let x : false ≡ true = h in cc)
sort_is Ints Ints h = refl
sort_is Ints (Free a) h = absurd (let x : false ≡ true = h in cc)
sort_is (Free a) Truths h = absurd (let x : false ≡ true = h in cc)
sort_is (Free a) Ints h = absurd (let x : false ≡ true = h in cc)
sort_is (Free a) (Free b) h = ap Free (sym (eqb-true a b h))

pub and_left : (a b : Bool) → (a && b) ≡ true → a ≡ true
and_left true b h = refl
and_left false b h = cc

right : (a b : Bool) → (a && b) ≡ true → b ≡ true
right true b h = h
right false b h = cc

module _ (ds : List Declaration) (ts : List Tree) (sorts : List Sort) where
  listed : (is : List ℕ) → All (HasSort ds ts sorts) is → tree_sorts ds (pick ts is) ≡ Some (map (sort_at sorts) is)
  listed [] h = refl
  listed (i ∷ is) h =
      ap (λ s. cons_sort s (tree_sorts ds (pick ts is))) (All-head (HasSort ds ts sorts) i is h)
      ∙ ap (λ ss. cons_sort (Some (sort_at sorts i)) ss) (listed is (All-tail (HasSort ds ts sorts) i is h))

  -- what the operator asks of the sorts of its arguments
  pub asked : (o : Operator) (p : ℕ) (is : List ℕ) → tree_at ts p ≡ node (Theory o) (pick ts is) → HasSort ds ts sorts p → All (HasSort ds ts sorts) is
      → operator_sort o (map (sort_at sorts) is) ≡ Some (sort_at sorts p)
  asked o p is e h hs =
      if_some (stands_with o (length (map (sort_at sorts) is))) (operator_sort o (map (sort_at sorts) is)) (sort_at sorts p)
      (sym (ap (λ ss. with_sorts ds (Theory o) ss) (listed is hs)) ∙ sym (ap (tree_sort ds) e) ∙ h)

  -- where all listed sorts of these are one, so are those that they have
  same_sorts : (r : Sort) (is : List ℕ) → All (HasSort ds ts sorts) is → all_of r (map (sort_at sorts) is) ≡ true → All (λ k. tree_sort ds (tree_at ts k) ≡ Some r) is
  same_sorts r [] hs h = All-nil (λ k. tree_sort ds (tree_at ts k) ≡ Some r)
  same_sorts r (i ∷ is) hs h =
      All-cons (λ k. tree_sort ds (tree_at ts k) ≡ Some r) i is
      (All-head (HasSort ds ts sorts) i is hs ∙ ap Some (sort_is r (sort_at sorts i) (and_left (sort_eq r (sort_at sorts i)) (all_of r (map (sort_at sorts) is)) h)))
      (same_sorts r is (All-tail (HasSort ds ts sorts) i is hs) (right (sort_eq r (sort_at sorts i)) (all_of r (map (sort_at sorts) is)) h))

  -- a Bool, and all that it compares are of one sort
  pub record ComparesOneSort (p i : ℕ) (is : List ℕ) : Type 0 where
    pub same : All (λ k. tree_sort ds (tree_at ts k) ≡ Some (sort_at sorts i)) (i ∷ is)
    pub bool : Truths ≡ sort_at sorts p

  -- so is `=`, and so is `distinct`
  pub one_sort : (o : Operator) (p i : ℕ) (is : List ℕ) → operator_sort o (map (sort_at sorts) (i ∷ is)) ≡ if_so (all_of (sort_at sorts i) (map (sort_at sorts) is)) Truths
      → tree_at ts p ≡ node (Theory o) (pick ts (i ∷ is)) → All (HasSort ds ts sorts) (p ∷ i ∷ is) → ComparesOneSort p i is
  one_sort o p i is says e hs =
      let others : All (HasSort ds ts sorts) (i ∷ is) = All-tail (HasSort ds ts sorts) p (i ∷ is) hs in
      let so = if_so_true (all_of (sort_at sorts i) (map (sort_at sorts) is)) Truths (sort_at sorts p) (sym says ∙ asked o p (i ∷ is) e (All-head (HasSort ds ts sorts) p (i ∷ is) hs) others) in
      record {
        same = All-cons (λ k. tree_sort ds (tree_at ts k) ≡ Some (sort_at sorts i)) i is (All-head (HasSort ds ts sorts) i is others)
            (same_sorts (sort_at sorts i) is (All-tail (HasSort ds ts sorts) i is others) so.0);
        bool = so.1;
      }

  -- where the first is an Int, all are
  pub all_ints : (p i : ℕ) (is : List ℕ) → ComparesOneSort p i is → sort_at sorts i ≡ Ints → All (λ k. tree_sort ds (tree_at ts k) ≡ Some Ints) (i ∷ is)
  all_ints p i is one int = All-weaker (λ k. tree_sort ds (tree_at ts k) ≡ Some (sort_at sorts i)) (λ k. tree_sort ds (tree_at ts k) ≡ Some Ints) (λ k e. e ∙ ap Some int) (i ∷ is) one.same

  -- where an `ite` is an Int, both branches are
  pub choice_ints : (p c i j : ℕ) → tree_at ts p ≡ node (Theory Ite) (pick ts (c ∷ i ∷ j ∷ [])) → HasSort ds ts sorts p → All (HasSort ds ts sorts) (c ∷ i ∷ j ∷ []) → sort_at sorts p ≡ Ints
      → All (λ k. tree_sort ds (tree_at ts k) ≡ Some Ints) (p ∷ i ∷ j ∷ [])
  choice_ints p c i j e h hs int =
      let branches : All (HasSort ds ts sorts) (i ∷ j ∷ []) = All-tail (HasSort ds ts sorts) c (i ∷ j ∷ []) hs in
      let says : ((sort_eq (sort_at sorts c) Truths && sort_eq (sort_at sorts i) (sort_at sorts j)) ≡ true) × (sort_at sorts i ≡ sort_at sorts p) =
      if_so_true (sort_eq (sort_at sorts c) Truths && sort_eq (sort_at sorts i) (sort_at sorts j)) (sort_at sorts i) (sort_at sorts p) (asked Ite p (c ∷ i ∷ j ∷ []) e h hs) in
      let same : sort_eq (sort_at sorts i) (sort_at sorts j) ≡ true = right (sort_eq (sort_at sorts c) Truths) (sort_eq (sort_at sorts i) (sort_at sorts j)) says.0 in
      let first : sort_at sorts i ≡ Ints = says.1 ∙ int in
      let second : sort_at sorts j ≡ Ints = sort_is Ints (sort_at sorts j) (sym (ap (λ s. sort_eq s (sort_at sorts j)) first) ∙ same) in
      All-cons (λ k. tree_sort ds (tree_at ts k) ≡ Some Ints) p (i ∷ j ∷ []) (h ∙ ap Some int)
      (All-cons (λ k. tree_sort ds (tree_at ts k) ≡ Some Ints) i (j ∷ []) ((All-head (HasSort ds ts sorts) i (j ∷ []) branches) ∙ ap Some first)
      (All-cons (λ k. tree_sort ds (tree_at ts k) ≡ Some Ints) j []
      ((All-head (HasSort ds ts sorts) j [] (All-tail (HasSort ds ts sorts) i (j ∷ []) branches)) ∙ ap Some second) (All-nil (λ k. tree_sort ds (tree_at ts k) ≡ Some Ints))))
