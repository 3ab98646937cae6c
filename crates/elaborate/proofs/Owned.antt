-- A definition whose terms are taken as they stand.
use Rattle.std.proofs.Common.{refl, All, ◌≡◌, ℕ, zero, suc, ◌+◌, ◌<◌, ◌≤◌, List, [], ◌∷◌, ◌++◌, length, map, ap, sym, subst, ◌∙◌, arith, append_assoc, append-nil, Bool, true, false, ◌&&◌, ◌||◌, not, Option, Some, None, nat_eq}
use Rattle.std.specs.Prelude.{if◌then◌else◌, bytes_eq, Ok}
use Rattle.std.proofs.lemmas.List.{get_or_append_left, length-append}
use Rattle.std.proofs.lemmas.Bool.{and_parts}
use Rattle.smt_meaning.specs.declared.nodes.Node.{Node}
use Rattle.smt_meaning.specs.declared.terms.Head.{Head}
use Rattle.smt_meaning.specs.declared.terms.Head.TheVariants.{Place}
use Rattle.smt_meaning.specs.Declaration.{Declaration, Body}
use Rattle.smt_meaning.specs.Nodes.{pick, AreNodes, trees_of as trees_of_nodes}
use Rattle.smt_meaning.specs.Signature.{find_function}
use Rattle.smt_meaning.specs.Sorts.{Scope, Rules, done, with_all, trees_of, all_are_linear, judge_symbol}
use Rattle.smt_meaning.specs.Term.{Tree, Trees, node, none, tree_at}
use Rattle.smt_meaning.specs.TreeShape.{argument, put, is_constant, is_linear, with_parts}
use Rattle.term_store.specs.Terms.{Terms, tree_with, AreDifferent, AreComplete}
use Rattle.term_store.proofs.NodeLemmas.{pick-agree}
use Rattle.smt_sorts.specs.declared.workshop.Kept.{Kept}
use Rattle.smt_sorts.specs.declared.workshop.Workshop.{Workshop}
use Rattle.smt_sorts.specs.Workshop.{places_from, AreOwn, IsWorkshop, IsWorkshopOf, IsOfAny}
use Rattle.elaborate.specs.declared.own.Apart.{Apart}
use Rattle.elaborate.specs.declared.own.Taken.{Taken}
use Rattle.elaborate.specs.declared.value.Value.{Value}
use Rattle.elaborate.specs.Values.{typed, IsLonger, HasGrown, Comes}
use Rattle.elaborate.specs.Own.{AreAlike, IsTaken, IsApart, are_own, IsFit, IsFitAgain, CanTake, WasTaken, IsTakenBody, IsTakenBodyOf, IsTakenOf, IsDeclared}
use Rattle.elaborate.proofs.Again.{same_at, stays, joins_again}
use Rattle.elaborate.proofs.Copies.{length-places, place_at}
use Rattle.elaborate.proofs.Puts.{defined_is, done_here}

abbrev at : Scope → List Tree → Scope
at s us = record s { trees = us }

-- ---- declarations

some_is : {A : Type 0} (a b : A) → Some a ≡ Some b → a ≡ b
some_is a b e = cc

pub declared_is : (n : List ℕ) (ds : List Declaration) (d : Declaration) → find_function n ds ≡ Some d → IsDeclared ds d
declared_is n [] d e k h i = absurd (cc)
declared_is n (x ∷ ds) d e k h i = go (bytes_eq n x.name && not x.is_sort) e (λ f. declared_is n ds d f k h.1 i)
  where
    go : (b : Bool) → (if b then Some x else find_function n ds) ≡ Some d → (find_function n ds ≡ Some d → IsWorkshopOf d.body k.workshop) → IsWorkshopOf d.body k.workshop
    go true f rest =
        let same : x ≡ d = some_is x d f in
        subst (λ (y : Declaration). IsWorkshopOf y.body k.workshop) same (h.0 (ap (λ (y : Declaration). y.id) same ∙ i))
    go false f rest = rest f

-- ---- arguments that are the parameters

own_arguments : (vs : List Value) (k n j : ℕ) (ts : List Tree) → IsLonger (places_from 0 n) ts → are_own k vs ≡ true → k + length vs ≤ n → j < length vs → argument (trees_of (map (typed ts) vs)) j ≡ node (Place (k + j)) none
own_arguments [] k n j ts l e h i = absurd (omega arith)
own_arguments (v ∷ vs) k n zero ts l e h i =
    let parts = and_parts (nat_eq v.id k) (are_own (k + 1) vs) e in
    let test : nat_eq v.id k ≡ true = parts.0 in
    let id : v.id ≡ k = grind arith in
    let same : 0 + k ≡ k + 0 = omega arith in
    ap (tree_at ts) id
    ∙ ap (λ us. tree_at us k) l.1
    ∙ get_or_append_left (places_from 0 n) l.0 _ k (omega (arith, length-places 0 n))
    ∙ place_at 0 n k _ (omega arith)
    ∙ ap (λ i'. node (Place i') none) same
own_arguments (v ∷ vs) k n (suc j) ts l e h i =
    let parts = and_parts (nat_eq v.id k) (are_own (k + 1) vs) e in
    let same : k + 1 + j ≡ k + suc j = omega arith in
    own_arguments vs (k + 1) n j ts l parts.1 (omega arith) (omega arith) ∙ ap (λ i'. node (Place i') none) same

pub arguments_own : (vs : List Value) (n : ℕ) (ts : List Tree) → IsLonger (places_from 0 n) ts → are_own 0 vs ≡ true → length vs ≡ n → AreOwn n (trees_of (map (typed ts) vs))
arguments_own vs n ts e o l k h =
    own_arguments vs 0 n k ts e o (omega (arith, l)) (omega (arith, l))
    ∙ (let same : 0 + k ≡ k = omega arith in ap (λ i. node (Place i) none) same)

-- ---- lists that are alike

pub alike_node : (k : ℕ) (ts us : List Tree) (h j : Head) (is js : List ℕ) → h ≡ j → is ≡ js → tree_at ts k ≡ tree_with ts h is → tree_at us k ≡ tree_with us j js → All (λ i. i < k) is → AreAlike k ts us → tree_at ts k ≡ tree_at us k
alike_node k ts us h j is js e f first second below alike =
    first
    ∙ ap (node h) (pick-agree us ts is k alike below)
    ∙ ap (λ g. node g (pick us is)) e
    ∙ ap (λ ns. node j (pick us ns)) f
    ∙ sym second

pub alike_begins : (ts us : List Tree) → length ts ≤ length us → AreAlike (length ts) ts us → IsLonger ts us
alike_begins [] us l h = (us, refl)
alike_begins (t ∷ ts) [] l h = absurd (omega arith)
alike_begins (t ∷ ts) (u ∷ us) l h =
    let rest : IsLonger ts us = alike_begins ts us (omega arith) (λ i k. h (suc i) (omega arith)) in
    (rest.0, ap (λ v. v ∷ us) (sym (h 0 (omega arith))) ∙ ap (λ vs. t ∷ vs) rest.1)

-- ---- the definition

own_symbol : (r : Rules) (d : Declaration) (b : Body) (xs : Trees) (s : Scope) (us : List Tree) (v : Value) → d.body ≡ Some b → r.closed ≡ false → map (put xs) b.terms ≡ b.terms → with_all s.trees b.terms ≡ us → IsLonger b.terms us
    → v.id < length b.terms → tree_at b.terms v.id ≡ b.term → v.sort ≡ d.rank.result → v.constant ≡ is_constant b.term → v.linear ≡ is_linear b.term → Comes (judge_symbol r d xs) s us (Ok v)
own_symbol r d b xs s us v e open' own joins longer within term sort constant linear =
    let stays_at : tree_at us v.id ≡ tree_at b.terms v.id = ap (λ ts. tree_at ts v.id) longer.1 ∙ get_or_append_left b.terms longer.0 _ v.id within in
    let tree : tree_at us v.id ≡ b.term = stays_at ∙ term in
    let put_tree : put xs b.term ≡ tree_at us v.id = ap (put xs) (sym term) ∙ same_at (put xs) b.terms v.id own within ∙ sym stays_at in
    let joined : with_all s.trees (map (put xs) b.terms) ≡ us = ap (with_all s.trees) own ∙ joins in (
      defined_is r d b xs s true e (ap (λ c. not c || all_are_linear (map (put xs) b.terms)) open')
          ∙ done_here (map (put xs) b.terms) (put xs b.term) d.rank.result s
          ∙ ap (λ (x : Tree). done (record { tree = x; sort = d.rank.result }) (at s (with_all s.trees (map (put xs) b.terms)))) put_tree
          ∙ ap (λ x. done (record { tree = tree_at us v.id; sort = x }) (at s (with_all s.trees (map (put xs) b.terms)))) (sym sort)
          ∙ ap (λ (ts : List Tree). done (typed us v) (at s ts)) joined,
      record {
        within = omega (arith, within, ap length longer.1, length-append b.terms longer.0);
        constant = constant ∙ ap is_constant (sym tree);
        linear = linear ∙ ap is_linear (sym tree);
      },
    )

fit_is : (r : Rules) (d : Declaration) (vs : List Value) (s : Terms) (a : Apart) (k : Kept) → CanTake r d vs s a → a.kept ≡ Some k → IsFit k d vs s a.parameters
fit_is r d vs s a k can e = subst (λ (q : Kept). IsFit q d vs s a.parameters) (some_is can.kept k (sym can.is_kept ∙ e)) can.fit

shop_is : (ds : List Declaration) (r : Rules) (d : Declaration) (vs : List Value) (s : Terms) (a : Apart) (k : Kept) (b : Body) → IsApart ds s.trees a → IsDeclared ds d → CanTake r d vs s a → a.kept ≡ Some k → d.body ≡ Some b → IsWorkshop b k.workshop
shop_is ds r d vs s a k b h dec can e body =
    let fit : IsFit k d vs s a.parameters = fit_is r d vs s a k can e in
    subst (λ (o : Option Body). IsWorkshopOf o k.workshop) body (dec k (subst (IsOfAny ds) e h.kept) (sym fit.id))

joined_terms : (b : Body) (w : Workshop) (ns : List Node) (first : List Tree) → IsWorkshop b w → IsLonger first w.store.trees → w.terms ≡ trees_of_nodes ns → AreNodes ns → AreDifferent w.store.trees → with_all first b.terms ≡ b.terms
joined_terms b w ns first shop l e nodes different =
    joins_again ns b.terms first l.0 (sym shop.terms ∙ e) (sym shop.store ∙ l.1) nodes (subst AreDifferent shop.store different)

pub taken_comes : (ds : List Declaration) (r : Rules) (d : Declaration) (vs : List Value) (s : Terms) (a : Apart) (k : Kept) (b : Body) (c : Scope) (v : Value) (ns : List Node) → IsApart ds s.trees a → IsDeclared ds d → CanTake r d vs s a → a.kept ≡ Some k → d.body ≡ Some b
    → c.trees ≡ s.trees → v.id < length b.terms → tree_at b.terms v.id ≡ b.term → v.sort ≡ d.rank.result → v.constant ≡ k.workshop.constant → v.linear ≡ k.workshop.linear
    → k.workshop.terms ≡ trees_of_nodes ns → AreNodes ns → AreDifferent k.workshop.store.trees → Comes (judge_symbol r d (trees_of (map (typed s.trees) vs))) c k.workshop.store.trees (Ok v)
taken_comes ds r d vs s a k b c v ns h dec can e body trees within term sort constant linear terms nodes different =
    let fit : IsFit k d vs s a.parameters = fit_is r d vs s a k can e in
    let shop : IsWorkshop b k.workshop = shop_is ds r d vs s a k b h dec can e body in
    let own : AreOwn k.workshop.parameters (trees_of (map (typed s.trees) vs)) = subst (λ n. AreOwn n (trees_of (map (typed s.trees) vs))) (sym fit.parameters) (arguments_own vs a.parameters s.trees h.all.first fit.own fit.given) in
    let again : with_all s.trees b.terms ≡ b.terms = joined_terms b k.workshop ns s.trees shop fit.stored terms nodes different in
    own_symbol r d b (trees_of (map (typed s.trees) vs)) c k.workshop.store.trees v body can.unclosed (shop.own (trees_of (map (typed s.trees) vs)) own) (subst (λ us. with_all us b.terms ≡ k.workshop.store.trees) (sym trees) (again ∙ sym shop.store)) ([], shop.store ∙ sym (append-nil b.terms)) within term sort
    (constant ∙ shop.constant) (linear ∙ shop.linear)

pub taken_grown : (r : Rules) (d : Declaration) (vs : List Value) (s : Terms) (a : Apart) (k : Kept) → CanTake r d vs s a → a.kept ≡ Some k → HasGrown s k.workshop.store
taken_grown r d vs s a k can e =
    let fit : IsFit k d vs s a.parameters = fit_is r d vs s a k can e in
    (fit.stored, fit.limit)

taken_body : (o : Option Body) (k : Kept) → IsWorkshopOf o k.workshop → IsTakenBodyOf (record { id = k.id; constant = k.workshop.constant; linear = k.workshop.linear }) k.workshop.terms o
taken_body None k h = h
taken_body (Some b) k h = record { terms = h.terms; constant = h.constant; linear = h.linear }

pub taken_apart : (ds : List Declaration) (r : Rules) (d : Declaration) (vs : List Value) (s : Terms) (a : Apart) (k : Kept) (b : Body) (n : ℕ) → IsApart ds s.trees a → IsDeclared ds d → CanTake r d vs s a → a.kept ≡ Some k → d.body ≡ Some b → n ≡ length k.workshop.store.trees
    → IsApart ds k.workshop.store.trees (record { parameters = a.parameters; kept = None; taken = Some (record { id = k.id; constant = k.workshop.constant; linear = k.workshop.linear }); terms = k.workshop.terms; count = n })
taken_apart ds r d vs s a k b n h dec can e body size =
    let fit : IsFit k d vs s a.parameters = fit_is r d vs s a k can e in
    let shop : IsWorkshop b k.workshop = shop_is ds r d vs s a k b h dec can e body in
    record {
      all = record {
        first = (shop.rest, shop.store ∙ shop.first ∙ ap (λ m. places_from 0 m ++ shop.rest) fit.parameters);
        taken = ([], shop.store ∙ sym shop.terms ∙ sym (append-nil k.workshop.terms));
        count = size ∙ ap length (shop.store ∙ sym shop.terms);
        own = λ xs o. ap (map (put xs)) shop.terms ∙ shop.own xs (subst (λ m. AreOwn m xs) (sym fit.parameters) o) ∙ sym shop.terms;
      };
      kept = tt;
      from = λ x is same. taken_body x.body k (is k (subst (IsOfAny ds) e h.kept) same);
    }

-- ---- a definition whose terms were taken before

-- terms that are there join without a change
there_join : (ts us : List Tree) → IsLonger ts us → AreComplete us → with_all us ts ≡ us
there_join ts us l complete =
    stays us ts (λ i h.
    let same : tree_at us i ≡ tree_at ts i = ap (λ vs. tree_at vs i) l.1 ∙ get_or_append_left ts l.0 _ i h in
    ap (with_parts us) (sym same) ∙ complete i (omega (arith, h, ap length l.1, length-append ts l.0)))

pub before_comes : (ds : List Declaration) (r : Rules) (d : Declaration) (vs : List Value) (ts : List Tree) (a : Apart) (t : Taken) (b : Body) (c : Scope) (v : Value) → IsApart ds ts a → IsDeclared ds d → WasTaken r d vs a → a.taken ≡ Some t → d.body ≡ Some b
    → c.trees ≡ ts → v.id < length b.terms → tree_at b.terms v.id ≡ b.term → v.sort ≡ d.rank.result → v.constant ≡ t.constant → v.linear ≡ t.linear → AreComplete ts → Comes (judge_symbol r d (trees_of (map (typed ts) vs))) c ts (Ok v)
before_comes ds r d vs ts a t b c v h dec was e body trees within term sort constant linear complete =
    let fit : IsFitAgain t d vs a.parameters = subst (λ (q : Taken). IsFitAgain q d vs a.parameters) (taken_is was.taken t (sym was.is_taken ∙ e)) was.fit in
    let of : IsTakenBody t a.terms b = subst (IsTakenBodyOf t a.terms) body (subst (IsTakenOf ds a.terms) e h.from d dec (sym fit.id)) in
    let xs : Trees = trees_of (map (typed ts) vs) in
    let own : map (put xs) a.terms ≡ a.terms = h.all.own xs (arguments_own vs a.parameters ts h.all.first fit.own fit.given) in
    let longer : IsLonger b.terms ts = subst (λ us. IsLonger us ts) of.terms h.all.taken in
    own_symbol r d b xs c ts v body was.unclosed (subst (λ us. map (put xs) us ≡ us) of.terms own) (subst (λ us. with_all us b.terms ≡ ts) (sym trees) (there_join b.terms ts longer complete)) longer within term sort (constant ∙ of.constant) (linear ∙ of.linear)
  where
    taken_is : (x y : Taken) → Some x ≡ Some y → x ≡ y
    taken_is x y f = cc

-- ---- what stays when terms join

longer_on : (ts us vs : List Tree) → IsLonger ts us → IsLonger us vs → IsLonger ts vs
longer_on ts us vs l m = (l.0 ++ m.0, m.1 ∙ ap (λ xs. xs ++ m.0) l.1 ∙ append_assoc ts l.0 m.0)

pub taken_on : (ts us : List Tree) (a : Apart) → IsTaken ts a → IsLonger ts us → IsTaken us a
taken_on ts us a h l = record { first = longer_on (places_from 0 a.parameters) ts us h.first l; taken = longer_on a.terms ts us h.taken l; count = h.count; own = h.own }

pub apart_on : (ds : List Declaration) (ts us : List Tree) (a : Apart) → IsApart ds ts a → IsLonger ts us → IsApart ds us a
apart_on ds ts us a h l = record { all = taken_on ts us a h.all l; kept = h.kept; from = h.from }
