-- The sorts of parts and of their arguments.
use Rattle.std.proofs.Common.{◌≡◌, ℕ, Bool, true, false, List, [], ◌∷◌, map, length, All, Some, refl, sym, ap, ◌∙◌}
use Rattle.std.specs.Prelude.{Option, None, ◌&&◌, if◌then◌else◌}
use Rattle.std.proofs.lemmas.List.{length-map}
use Rattle.std.proofs.lemmas.List.Elements.{All-nil, All-cons, All-head, All-tail, All-weaker}
use Rattle.smt_laws.proofs.Both.{and_left, and_right}
use Rattle.smt_meaning.specs.declared.values.Sort.{Sort}
use Rattle.smt_meaning.specs.declared.values.Sort.TheVariants.{Bool as Truths}
use Rattle.smt_meaning.specs.declared.terms.Operator.{Operator}
use Rattle.smt_meaning.specs.declared.terms.Operator.TheVariants.{Ite}
use Rattle.smt_meaning.specs.declared.terms.Head.TheVariants.{Theory}
use Rattle.smt_meaning.specs.Signature.{tree_sort, tree_sorts, cons_sort, with_sorts, operator_sort, stands_with, if_so, all_of, sort_eq}
use Rattle.smt_meaning.specs.Nodes.{pick}
use Rattle.check_atoms.specs.Parts.{IsMarked}
use Rattle.check_atoms.specs.OfStack.{IsNode}
use Rattle.check_atoms.proofs.Sorting.{sort_is}
use Rattle.order_clauses.specs.Clauses.{sort_at}
use Rattle.order_clauses.specs.Sound.{HasSort}
use Rattle.order_clauses.proofs.Sorting.{asked, if_so_true}
use Rattle.first_clauses.proofs.Parts as parts_of
use Rattle.exact_model.proofs.FullLogs.{Case, ts, ds, atoms, sort_there}

pub all_listed : (f : ℕ → Sort) (r : Sort) (is : List ℕ) → all_of r (map f is) ≡ true → All (λ i. f i ≡ r) is
all_listed f r [] h = All-nil (λ i. f i ≡ r)
all_listed f r (i ∷ is) h =
    All-cons (λ j. f j ≡ r) i is (sym (sort_is r (f i) (and_left (sort_eq r (f i)) (all_of r (map f is)) h))) (all_listed f r is (and_right (sort_eq r (f i)) (all_of r (map f is)) h))

stands : (b : Bool) (x : Option Sort) (q : Sort) → (if b then x else None) ≡ Some q → b ≡ true
stands true x q h = refl
stands false x q h = absurd cc

module _ (c : Case) where
  abbrev pub HasListed : Sort → ℕ → Type 0
  HasListed r i = sort_at c.fitting.check.sorts i ≡ r

  sorts_picked : (is : List ℕ) → All (IsMarked c.marks) is → tree_sorts (ds c) (pick (ts c) is) ≡ Some (map (sort_at c.fitting.check.sorts) is)
  sorts_picked [] h = refl
  sorts_picked (i ∷ is) h =
      ap (λ r. cons_sort r (tree_sorts (ds c) (pick (ts c) is))) (sort_there c i (All-head (IsMarked c.marks) i is h))
      ∙ ap (λ rs. cons_sort (Some (sort_at c.fitting.check.sorts i)) rs) (sorts_picked is (All-tail (IsMarked c.marks) i is h))

  module _ (p : ℕ) (o : Operator) (is : List ℕ) (m : IsMarked c.marks p) (n : IsNode (ts c) p (Theory o) is) where
    pub arguments_marked : All (IsMarked c.marks) is
    arguments_marked = parts_of.arguments_marked c.stack c.marks c.lawful c.fitting.check.parts (atoms c).size p (Theory o) is m n.tree n.arguments

    -- it has as many arguments as it takes
    pub stands_here : stands_with o (length is) ≡ true
    stands_here =
        let here : with_sorts (ds c) (Theory o) (Some (map (sort_at c.fitting.check.sorts) is)) ≡ Some (sort_at c.fitting.check.sorts p) =
        sym (ap (with_sorts (ds c) (Theory o)) (sorts_picked is arguments_marked)) ∙ sym (ap (tree_sort (ds c)) n.tree) ∙ sort_there c p m in
        ap (stands_with o) (sym (length-map is (sort_at c.fitting.check.sorts)))
        ∙ stands (stands_with o (length (map (sort_at c.fitting.check.sorts) is))) (operator_sort o (map (sort_at c.fitting.check.sorts) is)) (sort_at c.fitting.check.sorts p) here

    asked_here : operator_sort o (map (sort_at c.fitting.check.sorts) is) ≡ Some (sort_at c.fitting.check.sorts p)
    asked_here = asked (ds c) (ts c) c.fitting.check.sorts o p is n.tree (sort_there c p m) (All-weaker (IsMarked c.marks) (HasSort (ds c) (ts c) c.fitting.check.sorts) (sort_there c) is arguments_marked)

    -- an operator that asks a test of the sorts of its arguments
    pub tested_sort : (b : Bool) (q : Sort) → operator_sort o (map (sort_at c.fitting.check.sorts) is) ≡ if_so b q → (b ≡ true) × (sort_at c.fitting.check.sorts p ≡ q)
    tested_sort b q says = let so = if_so_true b q (sort_at c.fitting.check.sorts p) (sym says ∙ asked_here) in (so.0, sym so.1)

    -- that asks one sort
    pub asked_sort : (r q : Sort) → operator_sort o (map (sort_at c.fitting.check.sorts) is) ≡ if_so (all_of r (map (sort_at c.fitting.check.sorts) is)) q → All (HasListed r) is × (sort_at c.fitting.check.sorts p ≡ q)
    asked_sort r q says = let so = tested_sort (all_of r (map (sort_at c.fitting.check.sorts) is)) q says in (all_listed (sort_at c.fitting.check.sorts) r is so.0, so.1)

  -- an `ite` asks a Bool, and one sort of its branches, which is its own
  pub record ChoosesSorts (p k i j : ℕ) : Type 0 where
    pub condition : sort_at c.fitting.check.sorts k ≡ Truths
    pub first : sort_at c.fitting.check.sorts i ≡ sort_at c.fitting.check.sorts p
    pub second : sort_at c.fitting.check.sorts j ≡ sort_at c.fitting.check.sorts p

  pub choice_sorts : (p k i j : ℕ) → IsMarked c.marks p → IsNode (ts c) p (Theory Ite) (k ∷ i ∷ j ∷ []) → ChoosesSorts p k i j
  choice_sorts p k i j m n =
      let r : Sort = sort_at c.fitting.check.sorts i in
      let so = tested_sort p Ite (k ∷ i ∷ j ∷ []) m n (sort_eq (sort_at c.fitting.check.sorts k) Truths && sort_eq r (sort_at c.fitting.check.sorts j)) r refl in
      record {
        condition = sort_is (sort_at c.fitting.check.sorts k) Truths (and_left (sort_eq (sort_at c.fitting.check.sorts k) Truths) (sort_eq r (sort_at c.fitting.check.sorts j)) so.0);
        first = sym so.1;
        second = sym (sort_is r (sort_at c.fitting.check.sorts j) (and_right (sort_eq (sort_at c.fitting.check.sorts k) Truths) (sort_eq r (sort_at c.fitting.check.sorts j)) so.0)) ∙ sym so.1;
      }
