-- Why clauses can't be put, for more of them.
use Rattle.std.proofs.Common.{◌≡◌, ℕ, zero, suc, ◌<◌, Bool, true, false, List, [], ◌∷◌, map, length, get_or, All, Contains, refl, sym, ap, subst, arith}
use Rattle.std.specs.Prelude.{flat_map}
use Rattle.std.proofs.lemmas.List.Elements.{All-contains, All-cons, All-nil, All-tail, Contains-append_left, Contains-append_right}
use Rattle.smt_meaning.specs.declared.clauses.Atom.{Atom}
use Rattle.smt_meaning.specs.Term.{Tree}
use Rattle.bound_clauses.specs.declared.orders.Order.{Order}
use Rattle.bound_clauses.specs.Orders.{bound_atom}
use Rattle.order_clauses.specs.declared.error.PartError.{PartError}
use Rattle.order_clauses.specs.declared.error.PartError.TheVariants.{Missing, Term, Pair as PairError, Limit, Memory}
use Rattle.order_clauses.specs.declared.pairs.Pair.{Pair}
use Rattle.order_clauses.specs.Pairs.{same_atom, orders_of_pair}
use Rattle.order_clauses.specs.Needed.{orders_tied, atoms_of_pair}
use Rattle.order_clauses.specs.Errors.{IsCauseBy, IsRefused, IsCause}

-- for more atoms and more that is refused
pub wider_by : (table atoms atoms' : List Atom) (Refused Refused' : PartError → Type 0) (e : PartError) → ((d : PartError) → Refused d → Refused' d) → (All (Contains table) atoms' → All (Contains table) atoms)
    → IsCauseBy table Refused atoms e → IsCauseBy table Refused' atoms' e
wider_by table atoms atoms' Refused Refused' Missing more fewer h = λ all. h (fewer all)
wider_by table atoms atoms' Refused Refused' (Term part) more fewer h = more (Term part) h
wider_by table atoms atoms' Refused Refused' (PairError o) more fewer h = more (PairError o) h
wider_by table atoms atoms' Refused Refused' Limit more fewer h = more Limit h
wider_by table atoms atoms' Refused Refused' Memory more fewer h = tt

-- for more orders and more atoms
pub wider : (ts : List Tree) (table : List Atom) (os os' : List Order) (atoms atoms' : List Atom) (e : PartError) → ((o : Order) → Contains os o → Contains os' o)
    → (All (Contains table) atoms' → All (Contains table) atoms) → IsCause ts table os atoms e → IsCause ts table os' atoms' e
wider ts table os os' atoms atoms' e more fewer = wider_by table atoms atoms' (IsRefused ts os) (IsRefused ts os') e (λ d h. record { order = h.order; among = more h.order h.among; refuses = h.refuses }) fewer

pub by_memory : (ts : List Tree) (table : List Atom) (os : List Order) (atoms : List Atom) (e : PartError) → e ≡ Memory → IsCause ts table os atoms e
by_memory ts table os atoms e h = subst (IsCause ts table os atoms) (sym h) tt

pub by_missing : (ts : List Tree) (table : List Atom) (os : List Order) (atoms : List Atom) (e : PartError) → e ≡ Missing → (All (Contains table) atoms → ⊥) → IsCause ts table os atoms e
by_missing ts table os atoms e h none = subst (IsCause ts table os atoms) (sym h) none

-- one of a list is among it
pub only_one : {A : Type 0} (xs : List A) (x y : A) → Contains xs x → Contains (x ∷ []) y → Contains xs y
only_one xs x y c (zero, l, e) = subst (Contains xs) e c
only_one xs x y c (suc k, l, e) = absurd (omega (arith, l))

pub here : {A : Type 0} (xs : List A) (k : ℕ) (d : A) → k < length xs → Contains xs (get_or xs k d)
here [] k d h = absurd (omega (arith, h))
here (x ∷ xs) zero d h = (zero, omega arith, refl)
here (x ∷ xs) (suc k) d h = let rest : Contains xs (get_or xs k d) = here xs k d (omega arith) in Contains-append_right (x ∷ []) xs (get_or xs k d) rest

pub Contains-map : {A B : Type 0} (f : A → B) (xs : List A) (x : A) → Contains xs x → Contains (map f xs) (f x)
Contains-map f [] x c = absurd (omega (arith, c.1))
Contains-map f (y ∷ ys) x (zero, l, e) = (zero, omega arith, ap f e)
Contains-map f (y ∷ ys) x (suc k, l, e) =
    let rest : Contains (map f ys) (f x) = Contains-map f ys x (k, omega arith, e) in
    Contains-append_right (f y ∷ []) (map f ys) (f x) rest

-- what one gives is among what all give
pub Contains-flat_map : {A B : Type 0} (f : A → List B) (xs : List A) (x : A) (y : B) → Contains xs x → Contains (f x) y → Contains (flat_map f xs) y
Contains-flat_map f [] x y c d = absurd (omega (arith, c.1))
Contains-flat_map f (z ∷ zs) x y (zero, l, e) d = Contains-append_left (f z) (flat_map f zs) y (subst (λ w. Contains (f w) y) (sym e) d)
Contains-flat_map f (z ∷ zs) x y (suc k, l, e) d = Contains-append_right (f z) (flat_map f zs) y (Contains-flat_map f zs x y (k, omega arith, e) d)

pub All-from_contains : {A : Type 0} (P : A → Type 0) (xs : List A) → ((x : A) → Contains xs x → P x) → All P xs
All-from_contains P [] h = All-nil P
All-from_contains P (x ∷ xs) h = All-cons P x xs (h x (zero, omega arith, refl)) (All-from_contains P xs (λ y c. h y (Contains-append_right (x ∷ []) xs y c)))

-- the same for fewer
pub narrower : {A : Type 0} (P : A → Type 0) (xs ys : List A) → ((x : A) → Contains xs x → Contains ys x) → All P ys → All P xs
narrower P xs ys more h = All-from_contains P xs (λ x c. All-contains P ys x h (more x c))

-- ---- from one of a list to all

pub one_order : (ts : List Tree) (table : List Atom) (os : List Order) (k : ℕ) (d : Order) (e : PartError) → k < length os
    → IsCause ts table (get_or os k d ∷ []) (bound_atom ts (get_or os k d) ∷ []) e → IsCause ts table os (map (bound_atom ts) os) e
one_order ts table os k d e l h =
    let o : Order = get_or os k d in
    let there : Contains os o = here os k d l in
    wider ts table (o ∷ []) os (bound_atom ts o ∷ []) (map (bound_atom ts) os) e (λ x c. only_one os o x there c)
    (λ all. All-cons (Contains table) (bound_atom ts o) [] (All-contains (Contains table) (map (bound_atom ts) os) (bound_atom ts o) all (Contains-map (bound_atom ts) os o there)) (All-nil (Contains table))) h

pub one_pair : (ts : List Tree) (table : List Atom) (int : Bool) (qs : List Pair) (k : ℕ) (d : Pair) (e : PartError) → k < length qs
    → IsCause ts table (orders_tied int (get_or qs k d)) (atoms_of_pair ts int (get_or qs k d)) e → IsCause ts table (flat_map (orders_tied int) qs) (flat_map (atoms_of_pair ts int) qs) e
one_pair ts table int qs k d e l h =
    let q : Pair = get_or qs k d in
    let there : Contains qs q = here qs k d l in
    wider ts table (orders_tied int q) (flat_map (orders_tied int) qs) (atoms_of_pair ts int q) (flat_map (atoms_of_pair ts int) qs) e
    (λ x c. Contains-flat_map (orders_tied int) qs q x there c)
    (λ all. narrower (Contains table) (atoms_of_pair ts int q) (flat_map (atoms_of_pair ts int) qs) (λ x c. Contains-flat_map (atoms_of_pair ts int) qs q x there c) all) h

-- ---- where both terms are Ints

pub tied_cause : (ts : List Tree) (table : List Atom) (int : Bool) (q : Pair) (e : PartError) → int ≡ true
    → IsCause ts table (orders_of_pair q) (map (bound_atom ts) (orders_of_pair q)) e → IsCause ts table (orders_tied int q) (atoms_of_pair ts int q) e
tied_cause ts table true q e i h =
    wider ts table (orders_of_pair q) (orders_of_pair q) (map (bound_atom ts) (orders_of_pair q)) (atoms_of_pair ts true q) e (λ o c. c)
    (λ all. All-tail (Contains table) (same_atom q) (map (bound_atom ts) (orders_of_pair q)) all) h
tied_cause ts table false q e i h = absurd (let x : false ≡ true = i in cc)

pub tied_has : (ts : List Tree) (table : List Atom) (int : Bool) (q : Pair) → int ≡ true → Contains table (same_atom q) → All (Contains table) (map (bound_atom ts) (orders_of_pair q))
    → All (Contains table) (atoms_of_pair ts int q)
tied_has ts table true q i c h = All-cons (Contains table) (same_atom q) (map (bound_atom ts) (orders_of_pair q)) c h
tied_has ts table false q i c h = absurd (let x : false ≡ true = i in cc)

-- ---- behind the truth of a term

pub behind : (ts : List Tree) (table : List Atom) (os os' : List Order) (a : Atom) (atoms atoms' : List Atom) (e : PartError) → os ≡ os' → atoms ≡ atoms' → IsCause ts table os atoms e → IsCause ts table os' (a ∷ atoms') e
behind ts table os os' a atoms atoms' e i j h =
    wider ts table os os' atoms (a ∷ atoms') e (λ o c. subst (λ xs. Contains xs o) i c) (λ all. subst (All (Contains table)) (sym j) (All-tail (Contains table) a atoms' all)) h
