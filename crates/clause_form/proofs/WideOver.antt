-- The clauses of `=` and `distinct` of more than two Bools, and of `xor` of three, are over the node's place and its arguments' places.
use Rattle.std.proofs.Common.{ℕ, List, [], ◌∷◌, map, arith, Bool, true, false, not, nat_eq, All, Contains}
use Rattle.std.specs.Prelude.{if◌then◌else◌}
use Rattle.std.proofs.lemmas.List.Elements.{All-nil, All-cons, All-head, All-tail, All-contains_itself}
use Rattle.smt_meaning.specs.declared.terms.Operator.{Operator}
use Rattle.smt_meaning.specs.declared.terms.Operator.TheVariants.{Equal, Distinct, Xor}
use Rattle.smt_meaning.specs.Term.{xor}
use Rattle.smt_meaning.specs.Forced.{Sign}
use Rattle.clause_form.specs.Signs.{sign, yes, negated, once}
use Rattle.clause_form.specs.NodeClauses.{conjunction}
use Rattle.clause_form.specs.WideClauses.{round, alike, excluding, parity_of_three, odd_of_three, wide_clauses}
use Rattle.clause_form.proofs.Over.{On, OnAll, on_nil, on_cons, on_head, on_tail, on_negated, on_once, on_conjunction, on_never, on_signs}

on_round : (P : ℕ → Type 0) (out first s : Sign) (us : List Sign) → P out.place → P first.place → P s.place → On P us → OnAll P (round out first s us)
on_round P out first s [] h f g all =
    All-cons (On P) (negated out ∷ negated s ∷ first ∷ []) [] (on_cons P (negated out) (negated s ∷ first ∷ []) h (on_cons P (negated s) (first ∷ []) g (on_cons P first [] f (on_nil P)))) (All-nil (On P))
on_round P out first s (u ∷ us) h f g all =
    All-cons (On P) (negated out ∷ negated s ∷ u ∷ []) (round out first u us)
    (on_cons P (negated out) (negated s ∷ u ∷ []) h (on_cons P (negated s) (u ∷ []) g (on_cons P u [] (on_head P u us all) (on_nil P))))
    (on_round P out first u us h f (on_head P u us all) (on_tail P u us all))

on_alike : (P : ℕ → Type 0) (out : Sign) (ss : List Sign) → P out.place → On P ss → OnAll P (alike out ss)
on_alike P out [] h all = All-nil (On P)
on_alike P out (s ∷ []) h all = All-cons (On P) (out ∷ []) [] (on_cons P out [] h (on_nil P)) (All-nil (On P))
on_alike P out (s ∷ u ∷ us) h all =
    let ss : List Sign = s ∷ u ∷ us in
    All-cons (On P) (out ∷ map negated ss) ((out ∷ ss) ∷ round out s s (u ∷ us)) (on_cons P out (map negated ss) h (on_negated P ss all))
    (All-cons (On P) (out ∷ ss) (round out s s (u ∷ us)) (on_cons P out ss h all)
    (on_round P out s s (u ∷ us) h (on_head P s (u ∷ us) all) (on_head P s (u ∷ us) all) (on_tail P s (u ∷ us) all)))

on_excluding : (P : ℕ → Type 0) (t x y z : ℕ) (p q r : Bool) → P t → P x → P y → P z → On P (excluding t x y z p q r)
on_excluding P t x y z p q r ht hx hy hz =
    let last : Sign = sign t (xor (xor p q) r) in
    on_cons P (sign x (not p)) (sign y (not q) ∷ sign z (not r) ∷ last ∷ []) hx
    (on_cons P (sign y (not q)) (sign z (not r) ∷ last ∷ []) hy (on_cons P (sign z (not r)) (last ∷ []) hz (on_cons P last [] ht (on_nil P))))

-- what holds of each clause of three
pub each_excluding : (Q : List Sign → Type 0) (t x y z : ℕ) → ((p q r : Bool) → Q (excluding t x y z p q r)) → All Q (parity_of_three t x y z)
each_excluding Q t x y z h =
    let from_h : List (List Sign) = excluding t x y z true true true ∷ [] in
    let from_g : List (List Sign) = excluding t x y z true true false ∷ from_h in
    let from_f : List (List Sign) = excluding t x y z true false true ∷ from_g in
    let from_e : List (List Sign) = excluding t x y z true false false ∷ from_f in
    let from_d : List (List Sign) = excluding t x y z false true true ∷ from_e in
    let from_c : List (List Sign) = excluding t x y z false true false ∷ from_d in
    let from_b : List (List Sign) = excluding t x y z false false true ∷ from_c in
    put from_b false false false (put from_c false false true (put from_d false true false (put from_e false true true (put from_f true false false (put from_g true false true (put from_h true true false (put [] true true true (All-nil Q))))))))
  where
    put : (cs : List (List Sign)) (p q r : Bool) → All Q cs → All Q (excluding t x y z p q r ∷ cs)
    put cs p q r all = All-cons Q (excluding t x y z p q r) cs (h p q r) all

on_odd : (P : ℕ → Type 0) (t x y z : ℕ) → P t → P x → P y → P z → OnAll P (odd_of_three t x y z)
on_odd P t x y z ht hx hy hz = at (nat_eq x y) (nat_eq x z) (nat_eq y z)
  where
    one : (i : ℕ) → P i → OnAll P (conjunction (yes t) (yes i ∷ []))
    one i h = on_conjunction P (yes t) (yes i ∷ []) ht (on_cons P (yes i) [] h (on_nil P))

    at : (p q r : Bool) → OnAll P
        (if p then conjunction (yes t) (yes z ∷ []) else (if q then conjunction (yes t) (yes y ∷ []) else (if r then conjunction (yes t) (yes x ∷ []) else parity_of_three t x y z)))
    at true q r = one z hz
    at false true r = one y hy
    at false false true = one x hx
    at false false false = each_excluding (On P) t x y z (λ p q r. on_excluding P t x y z p q r ht hx hy hz)

pub wide_over : (P : ℕ → Type 0) (o : Operator) (t : ℕ) (xs : List ℕ) → P t → All P xs → OnAll P (wide_clauses o t xs)
wide_over P Equal t (x ∷ y ∷ z ∷ zs) h all = on_alike P (yes t) (once (map yes (x ∷ y ∷ z ∷ zs))) h (on_once P (map yes (x ∷ y ∷ z ∷ zs)) (on_signs P true (x ∷ y ∷ z ∷ zs) all))
wide_over P Distinct t (x ∷ y ∷ z ∷ zs) h all = on_never P (yes t) h
wide_over P Xor t (x ∷ y ∷ z ∷ []) h all = on_odd P t x y z h (all 0 x (omega arith)) (all 1 y (omega arith)) (all 2 z (omega arith))
wide_over P o t xs h all = All-nil (On P)

pub wide_over_contained : (o : Operator) (t : ℕ) (xs : List ℕ) → OnAll (Contains (t ∷ xs)) (wide_clauses o t xs)
wide_over_contained o t xs =
    wide_over (Contains (t ∷ xs)) o t xs (All-head (Contains (t ∷ xs)) t xs (All-contains_itself (t ∷ xs))) (All-tail (Contains (t ∷ xs)) t xs (All-contains_itself (t ∷ xs)))
