-- The clauses of a node are over its own place and its arguments' places.
use Rattle.std.proofs.Common.{ℕ, List, [], ◌∷◌, map, arith, Bool, true, false, All, Contains, nat_eq}
use Rattle.std.specs.Prelude.{if◌then◌else◌}
use Rattle.std.proofs.lemmas.List.Elements.{All-nil, All-cons, All-head, All-tail, All-contains_itself}
use Rattle.smt_meaning.specs.declared.terms.Operator.{Operator}
use Rattle.smt_meaning.specs.declared.terms.Operator.TheVariants.{True, False, Not, And, Or, Xor, Implies, Equal, Distinct, Ite}
use Rattle.smt_meaning.specs.Forced.{Sign}
use Rattle.clause_form.specs.Signs.{sign, yes, no, negated, is_sign_in, once, clashes}
use Rattle.clause_form.specs.NodeClauses.{conjunction, never, all_of, parity, one_of_two, choices, chosen, premises, premises_from, node_clauses}

-- the places of literals
abbrev pub On : (ℕ → Type 0) → List Sign → Type 0
On P ss = All (λ (s : Sign). P s.place) ss

abbrev pub OnAll : (ℕ → Type 0) → List (List Sign) → Type 0
OnAll P cs = All (On P) cs

pub on_nil : (P : ℕ → Type 0) → On P []
on_nil P = All-nil (λ (s : Sign). P s.place)

pub on_cons : (P : ℕ → Type 0) (s : Sign) (ss : List Sign) → P s.place → On P ss → On P (s ∷ ss)
on_cons P s ss h all = All-cons (λ (s : Sign). P s.place) s ss h all

pub on_head : (P : ℕ → Type 0) (s : Sign) (ss : List Sign) → On P (s ∷ ss) → P s.place
on_head P s ss all = All-head (λ (s : Sign). P s.place) s ss all

pub on_tail : (P : ℕ → Type 0) (s : Sign) (ss : List Sign) → On P (s ∷ ss) → On P ss
on_tail P s ss all = All-tail (λ (s : Sign). P s.place) s ss all

pub on_negated : (P : ℕ → Type 0) (ss : List Sign) → On P ss → On P (map negated ss)
on_negated P [] all = on_nil P
on_negated P (s ∷ ss) all = on_cons P (negated s) (map negated ss) (on_head P s ss all) (on_negated P ss (on_tail P s ss all))

pub on_once : (P : ℕ → Type 0) (ss : List Sign) → On P ss → On P (once ss)
on_once P [] all = on_nil P
on_once P (s ∷ ss) all = at (is_sign_in s ss) (on_once P ss (on_tail P s ss all))
  where
    at : (b : Bool) → On P (once ss) → On P (if b then once ss else s ∷ once ss)
    at true rest = rest
    at false rest = on_cons P s (once ss) (on_head P s ss all) rest

on_pairs : (P : ℕ → Type 0) (out : Sign) (ss : List Sign) → P out.place → On P ss → OnAll P (map (λ (s : Sign). negated out ∷ s ∷ []) ss)
on_pairs P out [] h all = All-nil (On P)
on_pairs P out (s ∷ ss) h all =
    All-cons (On P) (negated out ∷ s ∷ []) (map (λ (s : Sign). negated out ∷ s ∷ []) ss)
    (on_cons P (negated out) (s ∷ []) h (on_cons P s [] (on_head P s ss all) (on_nil P)))
    (on_pairs P out ss h (on_tail P s ss all))

pub on_conjunction : (P : ℕ → Type 0) (out : Sign) (ss : List Sign) → P out.place → On P ss → OnAll P (conjunction out ss)
on_conjunction P out ss h all =
    All-cons (On P) (out ∷ map negated ss) (map (λ (s : Sign). negated out ∷ s ∷ []) ss)
    (on_cons P out (map negated ss) h (on_negated P ss all)) (on_pairs P out ss h all)

pub on_never : (P : ℕ → Type 0) (out : Sign) → P out.place → OnAll P (never out)
on_never P out h = All-cons (On P) (negated out ∷ []) [] (on_cons P (negated out) [] h (on_nil P)) (All-nil (On P))

on_all_of : (P : ℕ → Type 0) (out : Sign) (ss : List Sign) → P out.place → On P ss → OnAll P (all_of out ss)
on_all_of P out ss h all = at (clashes ss)
  where
    at : (b : Bool) → OnAll P (if b then never out else conjunction out (once ss))
    at true = on_never P out h
    at false = on_conjunction P out (once ss) h (on_once P ss all)

three : (P : ℕ → Type 0) (s u v : Sign) → P s.place → P u.place → P v.place → On P (s ∷ u ∷ v ∷ [])
three P s u v a b c = on_cons P s (u ∷ v ∷ []) a (on_cons P u (v ∷ []) b (on_cons P v [] c (on_nil P)))

on_one_of_two : (P : ℕ → Type 0) (out : Sign) (x y : ℕ) → P out.place → P x → P y → OnAll P (one_of_two out x y)
on_one_of_two P out x y h hx hy = at (nat_eq x y)
  where
    at : (b : Bool) → OnAll P (if b then never out else parity out x y)
    at true = on_never P out h
    at false =
        All-cons (On P) (negated out ∷ yes x ∷ yes y ∷ []) ((negated out ∷ no x ∷ no y ∷ []) ∷ (out ∷ no x ∷ yes y ∷ []) ∷ (out ∷ yes x ∷ no y ∷ []) ∷ []) (three P (negated out) (yes x) (yes y) h hx hy)
        (All-cons (On P) (negated out ∷ no x ∷ no y ∷ []) ((out ∷ no x ∷ yes y ∷ []) ∷ (out ∷ yes x ∷ no y ∷ []) ∷ []) (three P (negated out) (no x) (no y) h hx hy)
        (All-cons (On P) (out ∷ no x ∷ yes y ∷ []) ((out ∷ yes x ∷ no y ∷ []) ∷ []) (three P out (no x) (yes y) h hx hy)
        (All-cons (On P) (out ∷ yes x ∷ no y ∷ []) [] (three P out (yes x) (no y) h hx hy) (All-nil (On P)))))

on_choices : (P : ℕ → Type 0) (t c x y : ℕ) → P t → P c → P x → P y → OnAll P (choices t c x y)
on_choices P t c x y ht hc hx hy =
    All-cons (On P) (no c ∷ no x ∷ yes t ∷ []) ((no c ∷ yes x ∷ no t ∷ []) ∷ (yes c ∷ no y ∷ yes t ∷ []) ∷ (yes c ∷ yes y ∷ no t ∷ []) ∷ (no x ∷ no y ∷ yes t ∷ []) ∷ (yes x ∷ yes y ∷ no t ∷ []) ∷ []) (three P (no c) (no x) (yes t) hc hx ht)
    (All-cons (On P) (no c ∷ yes x ∷ no t ∷ []) ((yes c ∷ no y ∷ yes t ∷ []) ∷ (yes c ∷ yes y ∷ no t ∷ []) ∷ (no x ∷ no y ∷ yes t ∷ []) ∷ (yes x ∷ yes y ∷ no t ∷ []) ∷ []) (three P (no c) (yes x) (no t) hc hx ht)
    (All-cons (On P) (yes c ∷ no y ∷ yes t ∷ []) ((yes c ∷ yes y ∷ no t ∷ []) ∷ (no x ∷ no y ∷ yes t ∷ []) ∷ (yes x ∷ yes y ∷ no t ∷ []) ∷ []) (three P (yes c) (no y) (yes t) hc hy ht)
    (All-cons (On P) (yes c ∷ yes y ∷ no t ∷ []) ((no x ∷ no y ∷ yes t ∷ []) ∷ (yes x ∷ yes y ∷ no t ∷ []) ∷ []) (three P (yes c) (yes y) (no t) hc hy ht)
    (All-cons (On P) (no x ∷ no y ∷ yes t ∷ []) ((yes x ∷ yes y ∷ no t ∷ []) ∷ []) (three P (no x) (no y) (yes t) hx hy ht)
    (All-cons (On P) (yes x ∷ yes y ∷ no t ∷ []) [] (three P (yes x) (yes y) (no t) hx hy ht) (All-nil (On P)))))))

on_chosen : (P : ℕ → Type 0) (t c x y : ℕ) → P t → P c → P x → P y → OnAll P (chosen t c x y)
on_chosen P t c x y ht hc hx hy = at (nat_eq x y) (nat_eq c x) (nat_eq c y)
  where
    two : (s u : Sign) → P s.place → P u.place → On P (s ∷ u ∷ [])
    two s u a b = on_cons P s (u ∷ []) a (on_cons P u [] b (on_nil P))

    at : (p q r : Bool) → OnAll P
        (if p then conjunction (yes t) (yes x ∷ []) else (if q then conjunction (no t) (no c ∷ no y ∷ []) else (if r then conjunction (yes t) (yes c ∷ yes x ∷ []) else choices t c x y)))
    at true q r = on_conjunction P (yes t) (yes x ∷ []) ht (on_cons P (yes x) [] hx (on_nil P))
    at false true r = on_conjunction P (no t) (no c ∷ no y ∷ []) ht (two (no c) (no y) hc hy)
    at false false true = on_conjunction P (yes t) (yes c ∷ yes x ∷ []) ht (two (yes c) (yes x) hc hx)
    at false false false = on_choices P t c x y ht hc hx hy

pub on_signs : (P : ℕ → Type 0) (b : Bool) (xs : List ℕ) → All P xs → On P (map (λ i. sign i b) xs)
on_signs P b [] all = on_nil P
on_signs P b (x ∷ xs) all = on_cons P (sign x b) (map (λ i. sign i b) xs) (All-head P x xs all) (on_signs P b xs (All-tail P x xs all))

pub on_premises : (P : ℕ → Type 0) (x : ℕ) (xs : List ℕ) → P x → All P xs → On P (premises_from x xs)
on_premises P x [] h all = on_cons P (no x) [] h (on_nil P)
on_premises P x (y ∷ ys) h all = on_cons P (yes x) (premises_from y ys) h (on_premises P y ys (All-head P y ys all) (All-tail P y ys all))

pub over : (P : ℕ → Type 0) (o : Operator) (t : ℕ) (xs : List ℕ) → P t → All P xs → OnAll P (node_clauses o t xs)
over P True t xs h all = on_all_of P (yes t) [] h (on_nil P)
over P False t xs h all = on_all_of P (no t) [] h (on_nil P)
over P Not t (x ∷ []) h all = on_all_of P (yes t) (no x ∷ []) h (on_signs P false (x ∷ []) all)
over P And t (x ∷ xs) h all = on_all_of P (yes t) (map yes (x ∷ xs)) h (on_signs P true (x ∷ xs) all)
over P Or t (x ∷ xs) h all = on_all_of P (no t) (map no (x ∷ xs)) h (on_signs P false (x ∷ xs) all)
over P Implies t (x ∷ y ∷ ys) h all =
    on_all_of P (no t) (premises (x ∷ y ∷ ys)) h (on_premises P x (y ∷ ys) (All-head P x (y ∷ ys) all) (All-tail P x (y ∷ ys) all))
over P Ite t (c ∷ x ∷ y ∷ []) h all = on_chosen P t c x y h (all 0 c (omega arith)) (all 1 x (omega arith)) (all 2 y (omega arith))
over P Xor t (x ∷ y ∷ []) h all = on_one_of_two P (yes t) x y h (all 0 x (omega arith)) (all 1 y (omega arith))
over P Distinct t (x ∷ y ∷ []) h all = on_one_of_two P (yes t) x y h (all 0 x (omega arith)) (all 1 y (omega arith))
over P Equal t (x ∷ y ∷ []) h all = on_one_of_two P (no t) x y h (all 0 x (omega arith)) (all 1 y (omega arith))
over P o t xs h all = All-nil (On P)

pub over_contained : (o : Operator) (t : ℕ) (xs : List ℕ) → OnAll (Contains (t ∷ xs)) (node_clauses o t xs)
over_contained o t xs =
    over (Contains (t ∷ xs)) o t xs (All-head (Contains (t ∷ xs)) t xs (All-contains_itself (t ∷ xs))) (All-tail (Contains (t ∷ xs)) t xs (All-contains_itself (t ∷ xs)))
