-- A resolvent follows where its premises do, and the empty clause where there is no model.
use Rattle.std.proofs.Common.{◌≡◌, ℕ, ◌+◌, ◌<◌, length, max, List, [], ◌∷◌, ◌++◌, Contains, All, subst, sym, ◌∙◌, ap, arith, refl, append_assoc, Bool, true, false, ◌||◌, not}
use Rattle.std.proofs.lemmas.List.Elements.{All-append, All-nil, All-cons, All-head, All-tail}
use Rattle.smt_meaning.specs.declared.clauses.Literal.{Literal}
use Rattle.smt_meaning.specs.declared.clauses.Atom.{Atom}
use Rattle.smt_meaning.specs.declared.clauses.Clause.{Clause}
use Rattle.smt_meaning.specs.Term.{Tree, Interpretation, tree_at}
use Rattle.smt_meaning.specs.Interpretation.{IsFunctionFor, Interprets}
use Rattle.smt_meaning.specs.Stack.{Frame, Satisfies, HasNoModel, up_to}
use Rattle.smt_meaning.specs.Clause.{signed, literal_true, some_true, atom_true, places, atom_places, symbols, symbols_at}
use Rattle.smt_meaning.specs.Follows.{FollowsFrom, Follows, declared_ids}
use Rattle.smt_laws.specs.ClauseLaws.{IsResolvent}
use Rattle.smt_laws.proofs.Included.{Included, All-included, included_left, included_right, included_same, included_append}
use Rattle.smt_laws.proofs.FollowsLaw.{Extends, take_extends_all, above}

some_true-append : (ts : List Tree) (I : Interpretation) (xs ys : List Literal) → some_true ts I (xs ++ ys) ≡ (some_true ts I xs || some_true ts I ys)
some_true-append ts I [] ys = refl
some_true-append ts I (x ∷ xs) ys = rw (some_true-append ts I xs ys) (assoc (literal_true ts I x) (some_true ts I xs) (some_true ts I ys))
  where
    assoc : (a b c : Bool) → (a || (b || c)) ≡ ((a || b) || c)
    assoc true b c = refl
    assoc false b c = refl

pub places-append : (xs ys : List Literal) → places (xs ++ ys) ≡ places xs ++ places ys
places-append [] ys = refl
places-append (x ∷ xs) ys = ap (λ is. atom_places x.atom ++ is) (places-append xs ys) ∙ sym (append_assoc (atom_places x.atom) (places xs) (places ys))

-- ---- symbols at places

spread : (P : ℕ → Type 0) (ts : List Tree) (is : List ℕ) → All P (symbols_at ts is) → All (λ i. All P (symbols (tree_at ts i))) is
spread P ts [] all = All-nil (λ i. All P (symbols (tree_at ts i)))
spread P ts (i ∷ is) all =
    All-cons (λ j. All P (symbols (tree_at ts j))) i is
    (All-included P _ _ (included_left (symbols (tree_at ts i)) (symbols_at ts is)) all)
    (spread P ts is (All-included P _ _ (included_right (symbols (tree_at ts i)) (symbols_at ts is)) all))

gather : (P : ℕ → Type 0) (ts : List Tree) (is : List ℕ) → All (λ i. All P (symbols (tree_at ts i))) is → All P (symbols_at ts is)
gather P ts [] all = All-nil P
gather P ts (i ∷ is) all =
    All-append P (symbols (tree_at ts i)) (symbols_at ts is)
    (All-head (λ j. All P (symbols (tree_at ts j))) i is all) (gather P ts is (All-tail (λ j. All P (symbols (tree_at ts j))) i is all))

symbols_at-all : (P : ℕ → Type 0) (ts : List Tree) (is js : List ℕ) → Included is js → All P (symbols_at ts js) → All P (symbols_at ts is)
symbols_at-all P ts is js inc all = gather P ts is (All-included (λ i. All P (symbols (tree_at ts i))) is js inc (spread P ts js all))

-- ---- resolution

places_without : (xs : List Literal) (l : Literal) (ys : List Literal) → Included (places (xs ++ ys)) (places (xs ++ l ∷ ys))
places_without xs l ys =
    subst (λ is. Included is (places (xs ++ l ∷ ys))) (sym (places-append xs ys))
    (subst (λ is. Included (places xs ++ places ys) is) (sym (places-append xs (l ∷ ys)))
    (included_append (places xs) (places xs) (places ys) (places (l ∷ ys)) (included_same (places xs)) (included_right (atom_places l.atom) (places ys))))

one_of : (t b a b' a' : Bool) → (b || (t || a)) ≡ true → (b' || (not t || a')) ≡ true → ((b || a) || (b' || a')) ≡ true
one_of t true a b' a' h k = refl
one_of false false a b' a' h k = rw h refl
one_of true false true b' a' h k = refl
one_of true false false b' a' h k = k

-- a clause without the literal on one atom
without_true : (ts : List Tree) (I : Interpretation) (b : Bool) (a : Atom) (xs ys zs : List Literal) → zs ≡ xs ++ record { atom = a; positive = b } ∷ ys
    → some_true ts I zs ≡ (some_true ts I xs || (signed b (atom_true ts I a) || some_true ts I ys))
without_true ts I b a xs ys zs e = ap (some_true ts I) e ∙ some_true-append ts I xs (record { atom = a; positive = b } ∷ ys)

resolvent_true : (ts : List Tree) (I : Interpretation) (c d r : Clause) → (h : IsResolvent c d r)
    → some_true ts I c.literals ≡ true → some_true ts I d.literals ≡ true → some_true ts I r.literals ≡ true
resolvent_true ts I c d r h tc td =
    ap (some_true ts I) h.rest ∙ some_true-append ts I (h.before ++ h.after) (h.before' ++ h.after')
    ∙ ap (λ x. x || some_true ts I (h.before' ++ h.after')) (some_true-append ts I h.before h.after)
    ∙ ap (λ x. (some_true ts I h.before || some_true ts I h.after) || x) (some_true-append ts I h.before' h.after')
    ∙ one_of (atom_true ts I h.atom) (some_true ts I h.before) (some_true ts I h.after) (some_true ts I h.before') (some_true ts I h.after')
    (sym (without_true ts I true h.atom h.before h.after c.literals h.first) ∙ tc)
    (sym (without_true ts I false h.atom h.before' h.after' d.literals h.second) ∙ td)

-- the places of a resolvent are those of its premises
resolvent_places : (c d r : Clause) → IsResolvent c d r → (P : List ℕ → Type 0)
    → ((is js : List ℕ) → Included is js → P js → P is) → ((is js : List ℕ) → P is → P js → P (is ++ js)) → P (places c.literals) → P (places d.literals) → P (places r.literals)
resolvent_places c d r h P part join pc pd =
    subst (λ ls. P (places ls)) (sym h.rest)
    (subst P (sym (places-append (h.before ++ h.after) (h.before' ++ h.after')))
    (join _ _
    (part _ _ (places_without h.before (record { atom = h.atom; positive = true }) h.after) (subst (λ ls. P (places ls)) h.first pc))
    (part _ _ (places_without h.before' (record { atom = h.atom; positive = false }) h.after') (subst (λ ls. P (places ls)) h.second pd))))

symbols_at-append : (ts : List Tree) (is js : List ℕ) → symbols_at ts (is ++ js) ≡ symbols_at ts is ++ symbols_at ts js
symbols_at-append ts [] js = refl
symbols_at-append ts (i ∷ is) js = ap (λ xs. symbols (tree_at ts i) ++ xs) (symbols_at-append ts is js) ∙ sym (append_assoc (symbols (tree_at ts i)) (symbols_at ts is) (symbols_at ts js))

resolvent_from : (ts : List Tree) (frames : List Frame) (c d r : Clause) → IsResolvent c d r → FollowsFrom ts frames c → FollowsFrom ts frames d → FollowsFrom ts frames r
resolvent_from ts frames c d r h fc fd = record {
  true_wherever = λ I interprets holds. resolvent_true ts I c d r h (fc.true_wherever I interprets holds) (fd.true_wherever I interprets holds);
  declared =
      resolvent_places c d r h (λ is. All (Contains (declared_ids frames)) (symbols_at ts is))
      (λ is js inc all. symbols_at-all (Contains (declared_ids frames)) ts is js inc all)
      (λ is js p q. subst (All (Contains (declared_ids frames))) (sym (symbols_at-append ts is js)) (All-append (Contains (declared_ids frames)) _ _ p q))
      fc.declared fd.declared;
  within =
      resolvent_places c d r h (All (λ i. i < length ts)) (λ is js inc all. All-included (λ i. i < length ts) is js inc all)
      (λ is js p q. All-append (λ i. i < length ts) is js p q) fc.within fd.within;
}

pub resolvent : (ts : List Tree) (frames : List Frame) (l m : ℕ) (c d r : Clause) → IsResolvent c d r → Follows ts frames l c → Follows ts frames m d → Follows ts frames (max l m) r
unfolding Follows
resolvent ts frames l m c d r h fc fd =
    resolvent_from ts (up_to (max l m) frames) c d r h (above ts frames l (max l m) c (omega arith) fc) (above ts frames m (max l m) d (omega arith) fd)

-- ---- the empty clause

pub empty_shows : (ts : List Tree) (frames : List Frame) (l : ℕ) (c : Clause) → c.literals ≡ [] → Follows ts frames l c → HasNoModel frames
unfolding Follows Interprets HasNoModel
empty_shows ts frames l c e f I interprets holds =
    let all : Extends (up_to l frames) frames = take_extends_all (l + 1) frames in
    let here : some_true ts I c.literals ≡ true =
    f.true_wherever I
    (All-included (IsFunctionFor I) _ _ all.signature interprets)
    (All-included (Satisfies I) _ _ all.assertions holds) in
    let empty : some_true ts I [] ≡ true = subst (λ ls. some_true ts I ls ≡ true) e here in
    cc
