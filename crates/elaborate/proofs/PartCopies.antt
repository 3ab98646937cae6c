-- A stored term copied with its parts: one job after another.
use Rattle.std.proofs.Common.{◌≡◌, ℕ, zero, suc, ◌+◌, ◌<◌, ◌≤◌, List, [], ◌∷◌, ◌++◌, length, map, All, Option, Some, None, Bool, true, false, inl, inr, ap, sym, subst, ◌∙◌, refl, arith}
use Rattle.std.specs.Prelude.{Result, Ok, Err, OnOk, IsSome, is_some, ◌||◌, if◌then◌else◌, nat_eq}
use Rattle.std.specs.Map.{update}
use Rattle.std.proofs.lemmas.List.{get_or_append_left, length_push}
use Rattle.std.proofs.lemmas.Map.{update_here, update_apart}
use Rattle.std.proofs.lemmas.List.Elements.{All-head, All-tail}
use Rattle.std.proofs.lemmas.Bool.{cases_eq}
use Rattle.smt_meaning.specs.declared.terms.Head.{Head}
use Rattle.smt_meaning.specs.Term.{Tree, Trees, node, none, more, tree_at}
use Rattle.smt_meaning.specs.TreeShape.{is_among, tree_eq, with_tree, with_parts, with_all_parts}
use Rattle.smt_meaning.specs.Nodes.{pick}
use Rattle.smt_laws.specs.Todo.{Todo, visit, keep, after, visits, VisitsParts}
use Rattle.smt_laws.proofs.Among.{among_parts, kept_with_all_parts}
use Rattle.smt_laws.proofs.SameTree.{tree_eq-true}
use Rattle.term_store.specs.Terms.{IsPlace, AreComplete, AreDifferent}
use Rattle.term_store.proofs.NodeLemmas.{places_same}
use Rattle.elaborate.specs.declared.parts.Job.{Job}
use Rattle.elaborate.specs.declared.parts.Job.TheVariants.{Visit, Keep}
use Rattle.elaborate.specs.Parts.{job_place, todo_at, outcome, jobs_left, steps_left, steps_of, steps_of_all, visits_of, AreCopies, AreInOrder, AreAllAmong, HasArguments, HaveCopies, KeepsInOrder}

pub on_ok : {A E P Q : Type 0} (r : Result A E) → OnOk r P → (P → Q) → OnOk r Q
on_ok (Ok a) h f = f h
on_ok (Err e) h f = h

some_is : (a b : ℕ) → Some a ≡ Some b → a ≡ b
some_is a b e = cc

-- ---- copies

first_copy : (c : ℕ) (cs : List (Option ℕ)) (o : Option ℕ) (os : List (Option ℕ)) → Some c ∷ cs ≡ o ∷ os → o ≡ Some c
first_copy c cs o os e = cc

other_copies : (c : Option ℕ) (cs : List (Option ℕ)) (o : Option ℕ) (os : List (Option ℕ)) → c ∷ cs ≡ o ∷ os → cs ≡ os
other_copies c cs o os e = cc

pub picked : (ts out : List Tree) (copies : ℕ → Option ℕ) (is cs : List ℕ) → AreCopies ts out copies → map Some cs ≡ map copies is → pick out cs ≡ pick ts is
picked ts out copies [] [] a e = refl
picked ts out copies [] (c ∷ cs) a e = absurd cc
picked ts out copies (i ∷ is) [] a e = absurd cc
picked ts out copies (i ∷ is) (c ∷ cs) a e =
    ap (λ t. more t (pick out cs)) (a i c (first_copy c (map Some cs) (copies i) (map copies is) e)).1
    ∙ ap (more (tree_at ts i)) (picked ts out copies is cs a (other_copies (Some c) (map Some cs) (copies i) (map copies is) e))

pub copies_within : (ts out : List Tree) (copies : ℕ → Option ℕ) (is cs : List ℕ) → AreCopies ts out copies → map Some cs ≡ map copies is → All (λ c. c < length out) cs
copies_within ts out copies is [] a e k d h = absurd (omega arith)
copies_within ts out copies [] (c ∷ cs) a e k d h = absurd cc
copies_within ts out copies (i ∷ is) (c ∷ cs) a e zero d h = (a i c (first_copy c (map Some cs) (copies i) (map copies is) e)).0
copies_within ts out copies (i ∷ is) (c ∷ cs) a e (suc k) d h =
    copies_within ts out copies is cs a (other_copies (Some c) (map Some cs) (copies i) (map copies is) e) k d (omega arith)

place_stays : (out : List Tree) (t u : Tree) (c : ℕ) → IsPlace out c u → IsPlace (with_tree out t) c u
place_stays out t u c h = go (is_among t out)
  where
    go : (b : Bool) → IsPlace (if b then out else out ++ t ∷ []) c u
    go true = h
    go false = (omega (arith, length_push out t, h.0), get_or_append_left out (t ∷ []) _ c h.0 ∙ h.1)

pub one_copied : (ts out us : List Tree) (copies noted : ℕ → Option ℕ) (t : Tree) (i c : ℕ) → AreCopies ts out copies → ((q : ℕ) → noted q ≡ update nat_eq copies i (Some c) q) → us ≡ with_tree out t → IsPlace us c (tree_at ts i) → AreCopies ts us noted
one_copied ts out us copies noted t i c a h e p j d f =
    elim (cases_eq j i) [
      | inl same ↦
          let here : noted j ≡ Some c = ap noted same ∙ h i ∙ update_here copies i (Some c) in
          let copy : c ≡ d = some_is c d (sym here ∙ f) in
          subst (λ k. IsPlace us k (tree_at ts j)) copy (subst (λ k. IsPlace us c (tree_at ts k)) (sym same) p)
      | inr other ↦
          let there : copies j ≡ Some d = sym (update_apart copies i (Some c) j other) ∙ sym (h j) ∙ f in
          subst (λ vs. IsPlace vs d (tree_at ts j)) (sym e) (place_stays out t (tree_at ts j) d (a j d there))
    ]

pub kept : (ts out : List Tree) (copies : ℕ → Option ℕ) (i : ℕ) (h : Head) (is cs : List ℕ) → AreCopies ts out copies → map Some cs ≡ map copies is → tree_at ts i ≡ node h (pick ts is) → node h (pick out cs) ≡ tree_at ts i
kept ts out copies i h is cs a e n = ap (node h) (picked ts out copies is cs a e) ∙ sym n

pub nothing_copied : (ts out : List Tree) (copies : ℕ → Option ℕ) → ((i : ℕ) → copies i ≡ None) → AreCopies ts out copies
nothing_copied ts out copies h i c e = absurd (go (sym (h i) ∙ e))
  where
    go : None ≡ Some c → ⊥
    go f = cc

-- arguments that are among the trees have copies
pub arguments_have : (ts out : List Tree) (copies : ℕ → Option ℕ) (n : ℕ) (is : List ℕ) → n ≤ length ts → HaveCopies ts out copies → All (λ i. i < n) is → AreAllAmong (pick ts is) out
    → All (λ i. IsSome (copies i)) is
arguments_have ts out copies n [] h c a m k d l = absurd (omega arith)
arguments_have ts out copies n (i ∷ is) h c a m zero d l = c i (omega (arith, All-head (λ k. k < n) i is a, h)) m.0
arguments_have ts out copies n (i ∷ is) h c a m (suc k) d l = arguments_have ts out copies n is h c (All-tail (λ k. k < n) i is a) m.1 k d (omega arith)

pub node_arguments_have : (ts out : List Tree) (copies : ℕ → Option ℕ) (n : ℕ) (h : Head) (is : List ℕ) → n < length ts → HaveCopies ts out copies → All (λ i. i < n) is → tree_at ts n ≡ node h (pick ts is)
    → HasArguments (tree_at ts n) out → All (λ i. IsSome (copies i)) is
node_arguments_have ts out copies n h is l c a e m =
    arguments_have ts out copies n is (omega arith) c a (subst (λ t. HasArguments t out) e m)

before_last : (u t : Tree) (ts : List Tree) → (u ≡ t → ⊥) → is_among u (ts ++ t ∷ []) ≡ true → is_among u ts ≡ true
before_last u t [] apart h = go (tree_eq u t) refl h
  where
    go : (b : Bool) → tree_eq u t ≡ b → (b || false) ≡ true → false ≡ true
    go true e f = absurd (apart (tree_eq-true u t e))
    go false e f = f
before_last u t (x ∷ ts) apart h = go (λ f. before_last u t ts apart f) (tree_eq u x) h
  where
    go : (is_among u (ts ++ t ∷ []) ≡ true → is_among u ts ≡ true) → (b : Bool) → (b || is_among u (ts ++ t ∷ [])) ≡ true → (b || is_among u ts) ≡ true
    go k true f = refl
    go k false f = k f

joined_before : (u t : Tree) (out : List Tree) → (u ≡ t → ⊥) → is_among u (with_tree out t) ≡ true → is_among u out ≡ true
joined_before u t out apart h = go (is_among t out) h
  where
    go : (b : Bool) → is_among u (if b then out else out ++ t ∷ []) ≡ true → is_among u out ≡ true
    go true f = f
    go false f = before_last u t out apart f

-- with the copy of one more term
pub one_has_more : (ts out us : List Tree) (copies noted : ℕ → Option ℕ) (i c : ℕ) → AreDifferent ts → i < length ts → HaveCopies ts out copies → ((q : ℕ) → noted q ≡ update nat_eq copies i (Some c) q) → us ≡ with_tree out (tree_at ts i)
    → HaveCopies ts us noted
one_has_more ts out us copies noted i c different w h e p j l m =
    elim (cases_eq j i) [
      | inl same ↦
          let here : noted j ≡ Some c = ap noted same ∙ e i ∙ update_here copies i (Some c) in ap is_some here
      | inr other ↦
          let there : noted j ≡ copies j = e j ∙ update_apart copies i (Some c) j other in
          let joined : is_among (tree_at ts j) (with_tree out (tree_at ts i)) ≡ true = subst (λ vs. is_among (tree_at ts j) vs ≡ true) p m in
          let old : is_among (tree_at ts j) out ≡ true = joined_before (tree_at ts j) (tree_at ts i) out (λ f. other (places_same ts j i different l w f)) joined in
          ap is_some there ∙ h j l old
    ]

pub not_both : (o : Option ℕ) → o ≡ None → IsSome o → ⊥
not_both o e h = let q : false ≡ true = sym (ap is_some e) ∙ h in cc

-- ---- jobs

todos : (ts : List Tree) (is : List ℕ) (jobs : List Job) → map (todo_at ts) (visits_of is jobs) ≡ visits (pick ts is) (map (todo_at ts) jobs)
todos ts [] jobs = refl
todos ts (i ∷ is) jobs = ap (λ todo. visit (tree_at ts i) ∷ todo) (todos ts is jobs)

pub arguments_first : (ts : List Tree) (i : ℕ) (h : Head) (is : List ℕ) (jobs new : List Job) → VisitsParts → tree_at ts i ≡ node h (pick ts is) → new ≡ visits_of is (Keep i ∷ jobs)
    → (out : List Tree) → outcome ts new out ≡ outcome ts (Visit i ∷ jobs) out
arguments_first ts i h is jobs new law n e out =
    let todo : List Todo = map (todo_at ts) jobs in
    ap (λ js. outcome ts js out) e
    ∙ ap (λ xs. after xs out) (todos ts is (Keep i ∷ jobs))
    ∙ ap (λ t. after (visits (pick ts is) (keep t ∷ todo)) out) n
    ∙ sym (law h (pick ts is) todo out)
    ∙ ap (λ t. after (visit t ∷ todo) out) (sym n)

visits_keep_order : (us : Trees) (todo : List Todo) (out : List Tree) → KeepsInOrder todo (with_all_parts out us) → KeepsInOrder (visits us todo) out
visits_keep_order none todo out h = h
visits_keep_order (more u us) todo out h = visits_keep_order us todo (with_parts out u) h

all_joined : (us : Trees) (out : List Tree) → AreAllAmong us (with_all_parts out us)
all_joined none out = tt
all_joined (more u us) out = (kept_with_all_parts u (with_parts out u) us (among_parts u out), all_joined us (with_parts out u))

arguments_keep_order : (h : Head) (us : Trees) (todo : List Todo) (out : List Tree) → KeepsInOrder (visit (node h us) ∷ todo) out → KeepsInOrder (visits us (keep (node h us) ∷ todo)) out
arguments_keep_order h us todo out k = visits_keep_order us (keep (node h us) ∷ todo) out (all_joined us out, k)

visits_left : (us : Trees) (todo : List Todo) → steps_left (visits us todo) ≡ steps_of_all us + steps_left todo
visits_left none todo = omega arith
visits_left (more u us) todo = let e : steps_left (visits us todo) ≡ steps_of_all us + steps_left todo = visits_left us todo in omega arith

-- the jobs after a visit, as they join the list
visited_todo : (ts : List Tree) (i : ℕ) (h : Head) (is : List ℕ) (jobs new : List Job) → tree_at ts i ≡ node h (pick ts is) → new ≡ visits_of is (Keep i ∷ jobs)
    → map (todo_at ts) new ≡ visits (pick ts is) (keep (node h (pick ts is)) ∷ map (todo_at ts) jobs)
visited_todo ts i h is jobs new n e =
    ap (map (todo_at ts)) e ∙ todos ts is (Keep i ∷ jobs) ∙ ap (λ t. visits (pick ts is) (keep t ∷ map (todo_at ts) jobs)) n

pub visited_in_order : (ts : List Tree) (i : ℕ) (h : Head) (is : List ℕ) (jobs new : List Job) → tree_at ts i ≡ node h (pick ts is) → new ≡ visits_of is (Keep i ∷ jobs)
    → (out : List Tree) → AreInOrder ts (Visit i ∷ jobs) out → AreInOrder ts new out
visited_in_order ts i h is jobs new n e out k =
    let todo : List Todo = map (todo_at ts) jobs in
    let begins : KeepsInOrder (visit (node h (pick ts is)) ∷ todo) out = subst (λ t. KeepsInOrder (visit t ∷ todo) out) n k in
    subst (λ js. KeepsInOrder js out) (sym (visited_todo ts i h is jobs new n e)) (arguments_keep_order h (pick ts is) todo out begins)

pub visited_has_fewer : (ts : List Tree) (i : ℕ) (h : Head) (is : List ℕ) (jobs new : List Job) → tree_at ts i ≡ node h (pick ts is) → new ≡ visits_of is (Keep i ∷ jobs)
    → jobs_left ts new < jobs_left ts (Visit i ∷ jobs)
visited_has_fewer ts i h is jobs new n e =
    let todo : List Todo = map (todo_at ts) jobs in
    let us : Trees = pick ts is in
    let after' : jobs_left ts new ≡ steps_of_all us + (1 + steps_left todo) = ap steps_left (visited_todo ts i h is jobs new n e) ∙ visits_left us (keep (node h us) ∷ todo) in
    let before : steps_of (tree_at ts i) ≡ steps_of_all us + 2 = ap steps_of n in
    omega arith

has_steps : (t : Tree) → 0 < steps_of t
has_steps (node h us) = omega arith

pub fewer_by_visit : (ts : List Tree) (i : ℕ) (jobs : List Job) → jobs_left ts jobs < jobs_left ts (Visit i ∷ jobs)
fewer_by_visit ts i jobs = let h : 0 < steps_of (tree_at ts i) = has_steps (tree_at ts i) in omega arith

one_inside : (n : ℕ) (j : Job) (jobs : List Job) → job_place j < n → All (λ k. job_place k < n) jobs → All (λ k. job_place k < n) (j ∷ jobs)
one_inside n j jobs h a zero d k = h
one_inside n j jobs h a (suc m) d k = a m d (omega arith)

pub visits_inside : (n m : ℕ) (is : List ℕ) (jobs : List Job) → m < n → All (λ i. i < m) is → All (λ j. job_place j < n) jobs → All (λ j. job_place j < n) (visits_of is jobs)
visits_inside n m [] jobs h a b = b
visits_inside n m (i ∷ is) jobs h a b =
    one_inside n (Visit i) (visits_of is jobs) (omega (arith, All-head (λ k. k < m) i is a, h)) (visits_inside n m is jobs h (All-tail (λ k. k < m) i is a) b)

pub jobs_inside : (n i : ℕ) (is : List ℕ) (jobs new : List Job) → i < n → All (λ k. k < i) is → All (λ j. job_place j < n) jobs → new ≡ visits_of is (Keep i ∷ jobs) → All (λ j. job_place j < n) new
jobs_inside n i is jobs new h a b e = subst (All (λ j. job_place j < n)) (sym e) (visits_inside n i is (Keep i ∷ jobs) h a (one_inside n (Keep i) jobs h b))

-- a term that is copied needs no visit
pub in_order_before : (ts out : List Tree) (i c : ℕ) (jobs : List Job) → AreComplete out → IsPlace out c (tree_at ts i) → AreInOrder ts (Visit i ∷ jobs) out → AreInOrder ts jobs out
in_order_before ts out i c jobs complete h k = subst (KeepsInOrder (map (todo_at ts) jobs)) (subst (λ u. with_parts out u ≡ out) h.1 (complete c h.0)) k

pub visited_before : (ts out : List Tree) (i c : ℕ) (jobs : List Job) → AreComplete out → IsPlace out c (tree_at ts i) → outcome ts jobs out ≡ outcome ts (Visit i ∷ jobs) out
visited_before ts out i c jobs complete h = ap (after (map (todo_at ts) jobs)) (sym (subst (λ u. with_parts out u ≡ out) h.1 (complete c h.0)))

-- ---- all jobs

-- these jobs make the copies a list of trees
pub record IsUnderWay (ts goal' : List Tree) (jobs : List Job) (copies : ℕ → Option ℕ) (out : List Tree) : Type 0 where
  pub inside : All (λ j. job_place j < length ts) jobs
  pub order : AreInOrder ts jobs out
  pub copied : AreCopies ts out copies
  pub all : HaveCopies ts out copies
  pub same : outcome ts jobs out ≡ goal'

nothing_among : (t : Tree) (out : List Tree) → out ≡ [] → is_among t out ≡ true → ⊥
nothing_among t out e m = not_there (subst (λ us. is_among t us ≡ true) e m)
  where
    not_there : false ≡ true → ⊥
    not_there f = cc

-- once nothing is left to do, the term has a copy
pub has_copy : (ts out : List Tree) (i : ℕ) (jobs : List Job) (copies : ℕ → Option ℕ) → i < length ts → jobs ≡ [] → IsUnderWay ts (with_parts [] (tree_at ts i)) jobs copies out → IsSome (copies i)
has_copy ts out i jobs copies l e u =
    let whole : out ≡ with_parts [] (tree_at ts i) = ap (λ js. outcome ts js out) (sym e) ∙ u.same in
    u.all i l (subst (λ us. is_among (tree_at ts i) us ≡ true) (sym whole) (among_parts (tree_at ts i) []))

pub begun : (ts out : List Tree) (i : ℕ) (copies : ℕ → Option ℕ) (jobs : List Job) → i < length ts → out ≡ [] → ((k : ℕ) → copies k ≡ None) → jobs ≡ Visit i ∷ []
    → IsUnderWay ts (with_parts [] (tree_at ts i)) jobs copies out
begun ts out i copies jobs h e c j = record {
  inside = subst (All (λ k. job_place k < length ts)) (sym j) (one_inside (length ts) (Visit i) [] h (λ k d m. absurd (omega arith)));
  order = subst (λ js. AreInOrder ts js out) (sym j) tt;
  copied = nothing_copied ts out copies c;
  all = λ k l m. absurd (nothing_among (tree_at ts k) out e m);
  same = ap (λ js. outcome ts js out) j ∙ ap (λ xs. with_parts xs (tree_at ts i)) e;
}
