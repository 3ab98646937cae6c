-- A store: where its nodes stand, one more, a cut, and the search for one.
use Rattle.std.proofs.Common.{◌≡◌, ◌≢◌, ℕ, zero, suc, ◌<◌, ◌≤◌, List, [], ◌∷◌, ◌++◌, length, get_or, take, map, All, inl, inr, subst, sym, ap, ◌∙◌, arith, refl}
use Rattle.std.specs.Prelude.{Option, Some, None, Result, Ok, Err, IfSome, IfNone, OnOk, is_err, false}
use Rattle.std.proofs.lemmas.List.{length_push, length-take-le, map-append, length-map, take-map, take_all}
use Rattle.std.proofs.lemmas.Bool.{cases_lt}
use Rattle.smt_meaning.specs.Term.{Tree}
use Rattle.term_store.specs.Terms.{tree_with, IsNew, AreDifferent}
use Rattle.term_store.specs.Nodes.{plain, nodes_of, plain_hash, IsStore, HasNoNode}
use Rattle.smt_meaning.specs.Nodes.{trees_of, AreNodes}
use Rattle.smt_meaning.specs.declared.terms.Head.{Head}
use Rattle.smt_meaning.specs.declared.nodes.Node.{Node}
use Rattle.term_store.specs.Latest.{latest, last_place}
use Rattle.term_store.specs.Hash.{node_hash}
use Rattle.term_store.proofs.LatestLemmas.{latest_le, latest_finds, latest_sent, latest_again}
use Rattle.term_store.proofs.RowLemmas.{map_at}
use Rattle.term_store.proofs.NodeLemmas.{length-trees_of, trees_of-push, trees_of-take, AreNodes-push, AreNodes-take, AreDifferent-push, AreDifferent-take}

-- ---- where the nodes stand

pub length-nodes : (rows : List (Head × List ℕ)) → length (nodes_of rows) ≡ length rows
length-nodes rows = length-map rows (λ r. plain r.0 r.1)

pub node_row : (rows : List (Head × List ℕ)) (k : ℕ) (d : Node) (r : Head × List ℕ) → k < length rows → get_or (nodes_of rows) k d ≡ plain (get_or rows k r).0 (get_or rows k r).1
node_row rows k d r short = map_at (λ r. plain r.0 r.1) rows k d r short

-- ---- one more, and a cut

pub record Added (limit : ℕ) (trees : List Tree) (t : Tree) (rows : List (Head × List ℕ)) (hashes : List ℕ) : Type 0 where
  pub store : IsStore limit rows hashes
  pub view : trees_of (nodes_of rows) ≡ trees ++ t ∷ []

pub IsStore-push : (limit : ℕ) (rows : List (Head × List ℕ)) (hashes : List ℕ) (head : Head) (more' : List ℕ) (hash : ℕ) → IsStore limit rows hashes → length rows < limit
    → All (λ i. i < length (trees_of (nodes_of rows))) more' → IsNew (trees_of (nodes_of rows)) (tree_with (trees_of (nodes_of rows)) head more')
    → hash ≡ node_hash head more'
    → Added limit (trees_of (nodes_of rows)) (tree_with (trees_of (nodes_of rows)) head more') (rows ++ (head, more') ∷ []) (hashes ++ hash ∷ [])
IsStore-push limit rows hashes head more' hash s room below new hashed =
    let ns : List Node = nodes_of rows in
    let n : Node = record { head = head; arguments = more' } in
    let nodes : nodes_of (rows ++ (head, more') ∷ []) ≡ ns ++ n ∷ [] = map-append (λ r. plain r.0 r.1) rows ((head, more') ∷ []) in
    let view : trees_of (ns ++ n ∷ []) ≡ trees_of ns ++ tree_with (trees_of ns) head more' ∷ [] = trees_of-push ns n in
    let count : length (trees_of ns) ≡ length ns = length-trees_of ns in
    record {
      store = record {
        within = omega (arith, length_push rows (head, more'));
        bounded = s.bounded;
        earlier = subst AreNodes (sym nodes) (AreNodes-push ns n s.earlier (subst (λ m. All (λ i. i < m) more') count below));
        different = subst (λ ms. AreDifferent (trees_of ms)) (sym nodes) (subst AreDifferent (sym view) (AreDifferent-push (trees_of ns) (tree_with (trees_of ns) head more') s.different new));
        hashed = ap (λ hs. hs ++ hash ∷ []) s.hashed ∙ ap (λ h. map plain_hash ns ++ h ∷ []) hashed ∙ sym (map-append plain_hash ns (n ∷ [])) ∙ ap (map plain_hash) (sym nodes);
      };
      view = ap trees_of nodes ∙ view;
    }

pub record Cut (limit : ℕ) (trees : List Tree) (rows : List (Head × List ℕ)) (hashes : List ℕ) : Type 0 where
  pub store : IsStore limit rows hashes
  pub view : trees_of (nodes_of rows) ≡ trees

-- cut at a place within
within_cut : (limit k : ℕ) (rows : List (Head × List ℕ)) (hashes : List ℕ) → IsStore limit rows hashes → k ≤ length rows
    → Cut limit (take k (trees_of (nodes_of rows))) (take k rows) (take k hashes)
within_cut limit k rows hashes s short =
    let ns : List Node = nodes_of rows in
    let long : k ≤ length ns = omega (arith, length-nodes rows) in
    let nodes : nodes_of (take k rows) ≡ take k ns = sym (take-map (λ r. plain r.0 r.1) k rows) in
    let view : trees_of (take k ns) ≡ take k (trees_of ns) = trees_of-take k ns long in
    record {
      store = record {
        within = (let within : length rows ≤ limit = s.within in omega (arith, length-take-le k rows short));
        bounded = s.bounded;
        earlier = subst AreNodes (sym nodes) (AreNodes-take ns k long s.earlier);
        different = subst (λ ms. AreDifferent (trees_of ms)) (sym nodes) (subst AreDifferent (sym view) (AreDifferent-take (trees_of ns) k (omega (arith, length-trees_of ns)) s.different));
        hashed = ap (take k) s.hashed ∙ take-map plain_hash k ns ∙ ap (map plain_hash) (sym nodes);
      };
      view = ap trees_of nodes ∙ view;
    }

pub IsStore-cut : (limit k : ℕ) (rows : List (Head × List ℕ)) (hashes : List ℕ) → IsStore limit rows hashes
    → Cut limit (take k (trees_of (nodes_of rows))) (take k rows) (take k hashes)
IsStore-cut limit k rows hashes s =
    elim (cases_lt k (length rows)) [
      | inl short ↦ within_cut limit k rows hashes s (omega arith)
      | inr long ↦
          let ns : List Node = nodes_of rows in
          let size : length hashes ≡ length ns = ap length s.hashed ∙ length-map ns plain_hash in
          rw (take_all k rows long, take_all k hashes (omega (arith, length-nodes rows)), take_all k (trees_of ns) (omega (arith, length-trees_of ns, length-nodes rows)))
          (record { store = s; view = refl })
    ]

-- ---- the search for a node

-- no place from the link on has the node
pub record Seeks (ns : List Node) (hashes : List ℕ) (hash : ℕ) (n : Node) (link : ℕ) : Type 0 where
  pub within : link ≤ length ns
  pub from : link ≡ last_place hashes hash link
  pub passed : (k : ℕ) (d : Node) → link ≤ k → k < length ns → get_or ns k d ≢ n

hash_of_node : (ns : List Node) (hashes : List ℕ) (k : ℕ) (d : Node) → hashes ≡ map plain_hash ns → k < length ns → get_or hashes k 0 ≡ plain_hash (get_or ns k d)
hash_of_node ns hashes k d e h = ap (λ hs. get_or hs k 0) e ∙ at ns k d h
  where
    at : (ns : List Node) (k : ℕ) (d : Node) → k < length ns → get_or (map plain_hash ns) k 0 ≡ plain_hash (get_or ns k d)
    at [] k d h = absurd (omega arith)
    at (n ∷ ns) zero d h = refl
    at (n ∷ ns) (suc k) d h = at ns k d (omega arith)

pub seeks_start : (ns : List Node) (hashes : List ℕ) (hash link : ℕ) (n : Node) → hashes ≡ map plain_hash ns → hash ≡ plain_hash n → link ≡ last_place hashes hash (length hashes)
    → Seeks ns hashes hash n link
seeks_start ns hashes hash link n hashed e last =
    let g : ℕ → ℕ = λ k. get_or hashes k 0 in
    let size : length hashes ≡ length ns = ap length hashed ∙ length-map ns plain_hash in
    let below : latest g hash (length hashes) ≤ length hashes = latest_le g hash (length hashes) in
    record {
      within = omega arith;
      from = last ∙ sym (latest_again g hash (length hashes)) ∙ ap (latest g hash) (sym last);
      passed = λ k d more' short same.
          (let at : g k ≡ hash = hash_of_node ns hashes k d hashed short ∙ ap plain_hash same ∙ sym e in
          let less : k < latest g hash (length hashes) = latest_finds g hash (length hashes) k (omega arith) at in
          omega arith);
    }

pub seeks_hash : (ns : List Node) (hashes : List ℕ) (hash link j : ℕ) (n : Node) → Seeks ns hashes hash n link → link ≡ suc j → get_or hashes j 0 ≡ hash
seeks_hash ns hashes hash link j n s e = latest_sent (λ k. get_or hashes k 0) hash link j (sym s.from ∙ e)

pub record Next (ns : List Node) (hashes : List ℕ) (hash : ℕ) (n : Node) (link next : ℕ) : Type 0 where
  pub less : next < link
  pub seeks : Seeks ns hashes hash n next

pub seeks_next : (ns : List Node) (hashes : List ℕ) (hash link next j : ℕ) (n : Node) → hashes ≡ map plain_hash ns → hash ≡ plain_hash n → Seeks ns hashes hash n link → link ≡ suc j
    → ((d : Node) → get_or ns j d ≢ n) → next ≡ last_place hashes (get_or hashes j 0) j → Next ns hashes hash n link next
seeks_next ns hashes hash link next j n hashed e s at other last =
    let g : ℕ → ℕ = λ k. get_or hashes k 0 in
    let within : link ≤ length ns = s.within in
    let here : next ≡ latest g hash j = last ∙ ap (λ h. latest g h j) (seeks_hash ns hashes hash link j n s at) in
    let below : latest g hash j ≤ j = latest_le g hash j in
    record {
      less = omega arith;
      seeks = record {
        within = omega arith;
        from = here ∙ sym (latest_again g hash j) ∙ ap (latest g hash) (sym here);
        passed = λ k d more' short same.
            elim (cases_lt k link) [
              | inr above ↦ s.passed k d above short same
              | inl under ↦
                  elim (cases_lt k j) [
                    | inl less ↦
                        (let sent : g k ≡ hash = hash_of_node ns hashes k d hashed short ∙ ap plain_hash same ∙ sym e in
                        let found : k < latest g hash j = latest_finds g hash j k less sent in
                        omega arith)
                    | inr more'' ↦ let last' : k ≡ j = omega arith in other d (ap (λ m. get_or ns m d) (sym last') ∙ same)
                  ]
            ];
      };
    }

pub seeks_end : (ns : List Node) (hashes : List ℕ) (hash link : ℕ) (n : Node) → Seeks ns hashes hash n link → link ≡ 0 → HasNoNode ns n
seeks_end ns hashes hash link n s e = record { nowhere = λ i d h. s.passed i d (omega arith) h }

-- ---- what a call's outcome says

pub some_with : {X : Type 0} (o : Option X) (P Q : X → Type 0) → ((x : X) → P x → Q x) → IfSome o P → IfSome o Q
some_with (Some x) P Q f h = f x h
some_with None P Q f h = tt

pub none_with : {X : Type 0} (o : Option X) (P Q : Type 0) → (P → Q) → IfNone o P → IfNone o Q
none_with (Some x) P Q f h = tt
none_with None P Q f h = f h

pub at_ok : {X E : Type 0} (r : Result X E) (P : Type 0) → is_err r ≡ false → OnOk r P → P
at_ok (Ok x) P e h = h
at_ok (Err y) P e h = cc

pub on_ok : {X E : Type 0} (r : Result X E) (P : Type 0) → P → OnOk r P
on_ok (Ok x) P h = h
on_ok (Err y) P h = tt
