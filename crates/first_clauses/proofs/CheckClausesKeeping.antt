-- Clauses of parts that are kept stay kept.
use Rattle.std.proofs.Common.{◌≡◌, inl, inr, ℕ, ◌<◌, ◌+◌, Bool, List, length, All, Contains, subst, sym, ◌∙◌, arith}
use Rattle.std.specs.Prelude.{Result, Ok, Err, OnOk, ⊤}
use Rattle.std.proofs.lemmas.List.Elements.{All-weaker}
use Rattle.literals.specs.Signed.{Signed}
use Rattle.clause_store.specs.Stored.{Kept}
use Rattle.smt_meaning.specs.declared.values.Sort.{Sort}
use Rattle.smt_meaning.specs.declared.terms.Operator.{Operator}
use Rattle.smt_meaning.specs.declared.terms.Head.{Head}
use Rattle.smt_meaning.specs.declared.terms.Head.TheVariants.{Theory}
use Rattle.smt_meaning.specs.declared.clauses.Atom.{Atom}
use Rattle.smt_meaning.specs.Term.{Tree, Trees, node, tree_at}
use Rattle.smt_meaning.specs.Nodes.{pick}
use Rattle.smt_meaning.specs.StackCommand.{Stack}
use Rattle.term_store.specs.Terms.{tree_with}
use Rattle.scope_stack.specs.Shown.{IsLawful}
use Rattle.scope_stack.proofs.SortLemmas.{last_or_before}
use Rattle.clause_form.specs.Node.{literals_of_node}
use Rattle.order_clauses.specs.Clauses.{part_clauses_of}
use Rattle.check_atoms.specs.Parts.{IsMarked}
use Rattle.check_atoms.proofs.Marking.{same_arguments}
use Rattle.check_atoms.specs.OfStack.{IsNode}
use Rattle.first_clauses.specs.PartClausesFirst.{HasClause}
use Rattle.first_clauses.proofs.PartClausesKeeping.{clause_stays, all_turned_stay}
use Rattle.first_clauses.specs.CheckClausesFirst.{HasTruths, HasPart, HasPartAt, HasParts}

module _ (old new : List Kept) (stay : (c : Kept) → Contains old c → Contains new c) where
  all_stay : (cs : List (List Signed)) → All (HasClause old) cs → All (HasClause new) cs
  all_stay cs h = All-weaker (HasClause old) (HasClause new) (clause_stays old new stay) cs h

  truths_stay : (trees : List Tree) (table : List Atom) (p : ℕ) (o : Operator) (is : List ℕ) → HasTruths trees table old p o is → HasTruths trees table new p o is
  truths_stay trees table p o is h =
      record { number = h.number; numbers = h.numbers; here = h.here; are = h.are; kept = all_turned_stay trees table old new (literals_of_node o h.number h.numbers) stay h.kept }

  pub part_stays : (s : Stack) (marks : List Bool) (sorts : List Sort) (table : List Atom) (p : ℕ) → HasPartAt s marks sorts table old p → HasPartAt s marks sorts table new p
  part_stays s marks sorts table p h = λ o is m n.
      let part : HasPart s sorts table old p o is = h o is m n in
      record {
        of_bools = λ all. truths_stay s.trees table p o is (part.of_bools all);
        of_others = λ none. elim (part.of_others none) [ inl alone ↦ inl alone | inr kept ↦ inr (all_stay (part_clauses_of sorts s.trees table o p is) kept) ];
      }

pub on_ok : {E : Type 0} (r : Result ⊤ E) (P Q : Type 0) → OnOk r P → (P → Q) → OnOk r Q
on_ok (Ok u) P Q h f = f h
on_ok (Err e) P Q h f = h

pub node_here : (trees : List Tree) (p : ℕ) (h k : Head) (is : List ℕ) → h ≡ k → p < length trees → tree_at trees p ≡ tree_with trees h is → All (λ i. i < p) is → IsNode trees p k is
node_here trees p h k is same within tree earlier = record {
  within = within;
  tree = subst (λ x. tree_at trees p ≡ tree_with trees x is) same tree;
  arguments = All-weaker (λ i. i < p) (λ i. i < length trees) (λ i l. omega (arith, l, within)) is earlier;
}

-- ---- the one node at a place

head_of : (h k : Head) (ts us : Trees) → node h ts ≡ node k us → h ≡ k
head_of h k ts us e = cc

theory_of : (o q : Operator) → Theory o ≡ Theory q → o ≡ q
theory_of o q e = cc

pub heads_same : (trees : List Tree) (p : ℕ) (h k : Head) (is js : List ℕ) → tree_at trees p ≡ tree_with trees h is → tree_at trees p ≡ tree_with trees k js → h ≡ k
heads_same trees p h k is js e f = head_of h k (pick trees is) (pick trees js) (sym e ∙ f)

pub part_there : (s : Stack) (marks : List Bool) (sorts : List Sort) (table : List Atom) (clauses : List Kept) (p : ℕ) (q : Operator) (js : List ℕ) → IsLawful s → IsNode s.trees p (Theory q) js
    → HasPart s sorts table clauses p q js → HasPartAt s marks sorts table clauses p
part_there s marks sorts table clauses p q js law at h = λ o is m n.
    let heads : Theory q ≡ Theory o = heads_same s.trees p (Theory q) (Theory o) js is at.tree n.tree in
    let arguments : js ≡ is = same_arguments s.trees p (Theory q) (Theory o) js is law.in_order at.arguments n.arguments at.tree n.tree in
    subst (λ xs. HasPart s sorts table clauses p o xs) arguments (subst (λ x. HasPart s sorts table clauses p x js) (theory_of q o heads) h)

pub no_part : (s : Stack) (marks : List Bool) (sorts : List Sort) (table : List Atom) (clauses : List Kept) (p : ℕ) → (IsMarked marks p → ⊥) → HasPartAt s marks sorts table clauses p
no_part s marks sorts table clauses p h = λ o is m n. absurd (h m)

pub no_operator : (s : Stack) (marks : List Bool) (sorts : List Sort) (table : List Atom) (clauses : List Kept) (p : ℕ) (h : Head) (js : List ℕ) → tree_at s.trees p ≡ tree_with s.trees h js
    → ((o : Operator) → h ≡ Theory o → ⊥) → HasPartAt s marks sorts table clauses p
no_operator s marks sorts table clauses p h js e none = λ o is m n. absurd (none o (heads_same s.trees p h (Theory o) js is e n.tree))

-- ---- one place more

pub parts_more : (s : Stack) (marks : List Bool) (sorts : List Sort) (table : List Atom) (old new : List Kept) (k : ℕ) → ((c : Kept) → Contains old c → Contains new c)
    → ((p : ℕ) → p < k → HasPartAt s marks sorts table old p) → HasPartAt s marks sorts table new k → (p : ℕ) → p < k + 1 → HasPartAt s marks sorts table new p
parts_more s marks sorts table old new k stay before here = λ p l. elim (last_or_before k p l) [
  | inl less ↦ part_stays old new stay s marks sorts table p (before p less)
  | inr last ↦ subst (HasPartAt s marks sorts table new) last here
]

pub all_parts : (s : Stack) (marks : List Bool) (sorts : List Sort) (table : List Atom) (clauses : List Kept) → ((p : ℕ) → p < length s.trees → HasPartAt s marks sorts table clauses p)
    → HasParts s marks sorts table clauses
all_parts s marks sorts table clauses h = λ p o is m n. h p n.within o is m n
