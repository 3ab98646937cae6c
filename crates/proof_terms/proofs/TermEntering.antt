-- A term that joins the terms of a proof.
use Rattle.std.proofs.Common.{◌≡◌, inl, inr, ℕ, ◌+◌, ◌<◌, ◌&&◌, true, List, [], ◌∷◌, ◌++◌, length, take, All, refl, ap, sym, subst, ◌∙◌, arith}
use Rattle.std.specs.Prelude.{Some}
use Rattle.std.proofs.lemmas.List.{take_all, take-append-le, take_at}
use Rattle.smt_meaning.specs.declared.values.Sort.{Sort}
use Rattle.smt_meaning.specs.declared.terms.Head.{Head}
use Rattle.smt_meaning.specs.declared.nodes.Node.{Node}
use Rattle.smt_meaning.specs.Declaration.{Declaration}
use Rattle.smt_meaning.specs.Term.{Tree, node}
use Rattle.smt_meaning.specs.TreeShape.{is_constant_head}
use Rattle.smt_meaning.specs.Nodes.{pick, tree_of, trees_of}
use Rattle.proof_meaning.specs.Proof.{IsTerm, no_terms}
use Rattle.smt_laws.proofs.Both.{and_left, and_right, and_both}
use Rattle.term_store.specs.Terms.{tree_with}
use Rattle.linear_forms.specs.Table.{AreForms}
use Rattle.linear_forms.proofs.Growing.{within}
use Rattle.proof_terms.specs.declared.terms_facts.Fact.{Fact}
use Rattle.proof_terms.specs.declared.terms_table.TermTable.{TermTable}
use Rattle.proof_terms.specs.TermFacts.{facts_at, places_at, all_constant, is_linear_here, divides_at, held_of}
use Rattle.proof_terms.specs.TermTable.{IsHeldPlace, IsNoTerm, AreFiled, IsInterned, IsEntered, IsTable, CanEnter}
use Rattle.proof_terms.proofs.TermFiling.{AreFactsOf, sort_is, constant_is, linear_is, held_within, held_is, picked, gathered_below, gathered, trees_count, filed_more}

-- ---- a tree that is taken away again

pub forgotten : (us : List Tree) (facts : List Fact) (vs : List Tree) (new : List Fact) (t : Tree) (f : Fact) (p n : ℕ) → IsInterned us facts vs new t f p → length facts ≡ length us → n ≡ length us
    → (take n vs ≡ us) × (take n new ≡ facts)
forgotten us facts vs new t f p n (inl i) e k = (ap (take n) i.1 ∙ take_all n us (omega arith), ap (take n) i.2 ∙ take_all n facts (omega arith))
forgotten us facts vs new t f p n (inr i) e k = (ap (take n) i.2 ∙ take_at us (t ∷ []) n (sym k), ap (take n) i.3 ∙ take_at facts (f ∷ []) n (e ∙ sym k))

-- ---- no term

pub nothing_filed : (ds : List Declaration) (hs : List Tree) (ns : List Node) (places : List ℕ) (us : List Tree) (facts : List Fact) → ns ≡ [] → places ≡ [] → us ≡ [] → facts ≡ [] → AreFiled ds hs ns places us facts
nothing_filed ds hs ns places us facts a b c d =
    subst (λ xs. AreFiled ds hs xs places us facts) (sym a)
    (subst (λ xs. AreFiled ds hs [] xs us facts) (sym b)
    (subst (λ xs. AreFiled ds hs [] [] xs facts) (sym c)
    (subst (λ xs. AreFiled ds hs [] [] [] xs) (sym d) (record {
      terms = no_terms;
      few = omega arith;
      places_count = refl;
      placed = λ i h. absurd (omega arith);
      different = λ i j less h. absurd (omega arith);
      facts_count = refl;
      each = λ p h. absurd (omega arith);
      ascending = λ p q less h. absurd (omega arith);
    }))))

-- ---- a term that is none

pub no_term : (ds : List Declaration) (hs : List Tree) (ns : List Node) (places : List ℕ) (us : List Tree) (facts : List Fact) (head : Head) (is seen : List ℕ) (fs : List Fact) → AreFiled ds hs ns places us facts
    → All (λ i. i < length ns) is → seen ≡ places_at places is → fs ≡ facts_at facts (places_at places is) → IsNoTerm ds us head seen fs → IsTerm ds (trees_of ns) (record { head = head; arguments = is }) → ⊥
no_term ds hs ns places us facts head is seen fs filed below p e none term = by none
  where
    facts_are : AreFactsOf ds hs (trees_of ns) (pick (trees_of ns) is) fs
    facts_are = subst (AreFactsOf ds hs (trees_of ns) (pick (trees_of ns) is)) (sym e) (gathered ds hs ns places us facts filed is below)

    linear : (is_linear_here head fs && divides_at head (pick (trees_of ns) is)) ≡ true
    linear = sym (linear_is ds hs (trees_of ns) head (pick (trees_of ns) is) fs facts_are) ∙ term.linear

    by : IsNoTerm ds us head seen fs → ⊥
    by (inl h) = let s = sort_is ds hs (trees_of ns) head (pick (trees_of ns) is) fs facts_are in let t = term.has_sort in cc
    by (inr (inl h)) = let l = and_left (is_linear_here head fs) (divides_at head (pick (trees_of ns) is)) linear in cc
    by (inr (inr h)) =
        let l = and_right (is_linear_here head fs) (divides_at head (pick (trees_of ns) is)) linear in
        let same : pick us seen ≡ pick (trees_of ns) is = ap (pick us) p ∙ picked ds hs ns places us facts filed is below in
        let s : divides_at head (pick us seen) ≡ divides_at head (pick (trees_of ns) is) = ap (divides_at head) same in
        cc

-- ---- one that is

module _ (ds : List Declaration) (hs : List Tree) (t : TermTable) (head : Head) (is : List ℕ) (sort : Sort) (can : CanEnter ds hs t head is sort) where
  abbrev trees : List Tree
  trees = trees_of t.nodes

  abbrev us : List Tree
  us = t.distinct.store.trees

  abbrev new_node : Node
  new_node = record { head = head; arguments = is }

  facts_are : AreFactsOf ds hs trees (pick trees is) t.arguments.facts.items
  facts_are = subst (AreFactsOf ds hs trees (pick trees is)) (sym can.facts) (gathered ds hs t.nodes t.places.items us t.distinct.facts.items can.table.filed is can.below)

  pub held_below : (js : List ℕ) → held_of t.arguments.facts.items ≡ Some js → All (λ i. i < length t.held.trees) js
  held_below js e = subst (λ (xs : List Tree). All (λ i. i < length xs) js) (sym can.table.held) (held_within ds hs trees head (pick trees is) t.arguments.facts.items facts_are js e)

  pub seen_below : All (λ p. p < length us) t.arguments.places.items
  seen_below = subst (All (λ p. p < length us)) (sym can.places) (gathered_below ds hs t.nodes t.places.items us t.distinct.facts.items can.table.filed is can.below)

  same_arguments : pick us t.arguments.places.items ≡ pick trees is
  same_arguments = ap (pick us) can.places ∙ picked ds hs t.nodes t.places.items us t.distinct.facts.items can.table.filed is can.below

  divides_too : divides_at head (pick trees is) ≡ true
  divides_too = ap (divides_at head) (sym same_arguments) ∙ can.may.divides

  pub term_is : IsTerm ds trees new_node
  term_is = record {
    earlier = subst (λ n. All (λ i. i < n) is) (sym (trees_count ds hs t.nodes t.places.items us t.distinct.facts.items can.table.filed)) can.below;
    sort = sort;
    has_sort = sort_is ds hs trees head (pick trees is) t.arguments.facts.items facts_are ∙ can.may.sort_is;
    linear = linear_is ds hs trees head (pick trees is) t.arguments.facts.items facts_are ∙ and_both (is_linear_here head t.arguments.facts.items) (divides_at head (pick trees is)) can.may.linear divides_too;
  }

  same_tree : tree_with us head t.arguments.places.items ≡ tree_of trees new_node
  same_tree = ap (node head) same_arguments

  forms_kept : (vs : List Tree) (new : List Fact) (v : Tree) (f : Fact) (p : ℕ) → IsInterned us t.distinct.facts.items vs new v f p → AreForms (take (length t.forms) vs) t.forms
  forms_kept vs new v f p (inl i) = subst (λ (xs : List Tree). AreForms (take (length t.forms) xs) t.forms) (sym i.1) can.table.forms
  forms_kept vs new v f p (inr i) =
      let short : length t.forms < length us + 1 = (let w = within us t.forms can.table.forms in omega arith) in
      subst (λ (xs : List Tree). AreForms xs t.forms) (sym (ap (take (length t.forms)) i.2 ∙ take-append-le (length t.forms) us (v ∷ []) (omega arith))) can.table.forms

  module _ (f : Fact) (sort_kept : f.sort ≡ sort) (constant : f.constant ≡ (is_constant_head head && all_constant t.arguments.facts.items)) (first : f.first ≡ length t.nodes)
      (held : IsHeldPlace t.held.trees head (held_of t.arguments.facts.items) f.held) where
    filed_as : (p : ℕ) (vs : List Tree) (new : List Fact) → IsInterned us t.distinct.facts.items vs new (tree_of trees new_node) f p → AreFiled ds hs (t.nodes ++ new_node ∷ []) (t.places.items ++ p ∷ []) vs new
    filed_as p vs new i =
        filed_more ds hs t.nodes t.places.items us t.distinct.facts.items can.table.filed new_node term_is can.room f
        (sort_is ds hs trees head (pick trees is) t.arguments.facts.items facts_are ∙ can.may.sort_is ∙ ap Some (sym sort_kept))
        (constant_is ds hs trees head (pick trees is) t.arguments.facts.items facts_are ∙ sym constant)
        first
        (held_is ds hs trees head (pick trees is) t.arguments.facts.items facts_are f.held can.table.complete (subst (λ (xs : List Tree). IsHeldPlace xs head (held_of t.arguments.facts.items) f.held) can.table.held held))
        p vs new i

    pub filed_then : (ms : List Node) (more' : List ℕ) (vs : List Tree) (new : List Fact) → IsEntered t.nodes t.places.items us t.distinct.facts.items head is t.arguments.places.items f ms more' vs new
        → AreFiled ds hs ms more' vs new × AreForms (take (length t.forms) vs) t.forms
    filed_then ms more' vs new e = (
      subst (λ ns. AreFiled ds hs ns more' vs new) (sym e.nodes)
          (subst (λ ps. AreFiled ds hs (t.nodes ++ new_node ∷ []) ps vs new) (sym e.places_are)
          (filed_as e.place vs new (subst (λ v. IsInterned us t.distinct.facts.items vs new v f e.place) same_tree e.interned))),
      forms_kept vs new (tree_with us head t.arguments.places.items) f e.place e.interned,
    )

pub filed_same : (ds : List Declaration) (hs : List Tree) (t : TermTable) (ms : List Node) (more' : List ℕ) (vs : List Tree) (new : List Fact) → IsTable ds hs t → ms ≡ t.nodes → more' ≡ t.places.items
    → vs ≡ t.distinct.store.trees → new ≡ t.distinct.facts.items → AreFiled ds hs ms more' vs new × AreForms (take (length t.forms) vs) t.forms
filed_same ds hs t ms more' vs new k a b c d = (
  subst (λ ns. AreFiled ds hs ns more' vs new) (sym a)
      (subst (λ ps. AreFiled ds hs t.nodes ps vs new) (sym b)
      (subst (λ xs. AreFiled ds hs t.nodes t.places.items xs new) (sym c) (subst (AreFiled ds hs t.nodes t.places.items t.distinct.store.trees) (sym d) k.filed))),
  subst (λ (xs : List Tree). AreForms (take (length t.forms) xs) t.forms) (sym c) k.forms,
)
