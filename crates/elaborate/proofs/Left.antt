-- What is left of the judgement of a body.
use Rattle.std.proofs.Common.{◌≡◌, List, [], ◌++◌, length, take, map, ap, sym, subst, ◌∙◌, refl, arith, append-nil, Bool, true, false, Some, None, ◌≤◌, ℕ}
use Rattle.std.specs.Prelude.{if◌then◌else◌}
use Rattle.std.proofs.lemmas.List.{take_at, length-append}
use Rattle.smt_meaning.specs.declared.nodes.Node.{Node}
use Rattle.smt_meaning.specs.Declaration.{Declaration, Body}
use Rattle.smt_meaning.specs.Nodes.{trees_from, trees_of, AreNodes, AreNodesAfter}
use Rattle.smt_meaning.specs.Term.{Tree, tree_at}
use Rattle.smt_meaning.specs.TreeShape.{put}
use Rattle.term_store.specs.Terms.{AreDifferent}
use Rattle.smt_sorts.specs.declared.workshop.Workshop.{Workshop}
use Rattle.smt_sorts.specs.Workshop.{places_from, AreOwn, IsWorkshop, IsOfAny}
use Rattle.elaborate.specs.declared.own.Apart.{Apart}
use Rattle.elaborate.specs.declared.value.Value.{Value}
use Rattle.elaborate.specs.Values.{IsValue}
use Rattle.elaborate.specs.Own.{IsTaken, IsTakenOf, IsApart, IsLeft, are_own_nodes}
use Rattle.elaborate.proofs.Again.{joins_again, own_stays}

-- nothing is taken before a body is judged
pub apart_begins : (ds : List Declaration) (ts : List Tree) (n : ℕ) (a : Apart) → ts ≡ places_from 0 n → a.parameters ≡ n → a.terms ≡ [] → a.count ≡ 0 → IsOfAny ds a.kept → a.taken ≡ None → IsApart ds ts a
apart_begins ds ts n a e p t z k u = record {
  all = record {
    first = ([], e ∙ ap (places_from 0) (sym p) ∙ sym (append-nil (places_from 0 a.parameters)));
    taken = (ts, ap (λ us. us ++ ts) (sym t));
    count = z ∙ ap length (sym t);
    own = λ xs o. subst (λ us. map (put xs) us ≡ us) (sym t) refl;
  };
  kept = k;
  from = subst (IsTakenOf ds a.terms) (sym u) tt;
}

pub taken_within : (ts : List Tree) (a : Apart) → IsTaken ts a → a.count ≤ length ts
taken_within ts a h = omega (arith, h.count, ap length h.taken.1, length-append a.terms h.taken.0)

first_terms : (ts : List Tree) (a : Apart) → IsTaken ts a → take a.count ts ≡ a.terms
first_terms ts a h = ap (λ n. take n ts) h.count ∙ ap (take (length a.terms)) h.taken.1 ∙ take_at a.terms h.taken.0 (length a.terms) refl

pub rebuilt : (ts : List Tree) (a : Apart) (ns : List Node) → IsTaken ts a → trees_from (take a.count ts) ns ≡ ts → trees_from a.terms ns ≡ ts
rebuilt ts a ns h e = ap (λ us. trees_from us ns) (sym (first_terms ts a h)) ∙ e

pub nodes_after : (ts : List Tree) (a : Apart) (ns : List Node) → IsTaken ts a → AreNodesAfter a.count ns → AreNodesAfter (length a.terms) ns
nodes_after ts a ns h k = subst (λ m. AreNodesAfter m ns) h.count k

pub left_is : (own : Bool) (w : Workshop) (b : Body) (a : Apart) (ts : List Tree) (ns all : List Node) (v : Value) → own ≡ are_own_nodes a.parameters ns → IsTaken ts a → IsValue ts v → w.store.trees ≡ ts → w.terms ≡ ts → w.parameters ≡ a.parameters
    → w.constant ≡ v.constant → w.linear ≡ v.linear → b ≡ record { terms = ts; term = tree_at ts v.id } → trees_from a.terms ns ≡ ts → AreNodesAfter (length a.terms) ns → ts ≡ trees_of all → AreNodes all → AreDifferent ts
    → IsLeft b (if own then Some w else None)
left_is false w b a ts ns all v o h is s t p c l e build after whole nodes different = tt
left_is true w b a ts ns all v o h is s t p c l e build after whole nodes different =
    let first : ts ≡ places_from 0 w.parameters ++ h.first.0 = h.first.1 ∙ ap (λ n. places_from 0 n ++ h.first.0) (sym p) in
    subst (λ (d : Body). IsWorkshop d w) (sym e) (record {
      store = s;
      terms = t;
      constant = c ∙ is.constant;
      linear = l ∙ is.linear;
      rest = h.first.0;
      first = first;
      own = λ xs k.
          let given : AreOwn a.parameters xs = subst (λ n. AreOwn n xs) p k in
          subst (λ us. map (put xs) us ≡ us) build (own_stays a.parameters xs a.terms ns given (h.own xs given) (sym o) after);
      again = joins_again all ts (places_from 0 w.parameters) h.first.0 whole first nodes different;
    })
