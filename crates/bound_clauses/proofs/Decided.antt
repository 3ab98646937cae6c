-- What a consistent log that makes the clauses true gives.
use Rattle.std.proofs.Common.{◌≡◌, ℕ, zero, Bool, true, false, List, [], ◌∷◌, map, All, Contains, refl, sym, ap, arith}
use Rattle.std.proofs.lemmas.List.Elements.{All-cons, All-nil, All-head, All-tail, All-contains, Contains-append_right}
use Rattle.literals.specs.Signed.{Signed}
use Rattle.smt_meaning.specs.Term.{operate, truth_of, same_value}
use Rattle.search_port.specs.State.{IsConsistent, IsMadeTrue}
use Rattle.equality_clauses.specs.Once.{once}
use Rattle.equality_clauses.specs.Ties.{literal, yes, no, joined}
use Rattle.equality_clauses.proofs.Tying.{every}
use Rattle.equality_clauses.proofs.OnceLemmas.{All-once}
use Rattle.bound_clauses.specs.declared.orders.Sense.TheVariants.{NotAbove}
use Rattle.bound_clauses.specs.Orders.{order, order_atoms, order_holds}
use Rattle.bound_clauses.specs.Laws.{AreGiven, OrderIsDecided, EqualityIsDecided}
use Rattle.bound_clauses.proofs.Comparing.{All-of_once, order_every, same_orders}
use Rattle.bound_clauses.proofs.Pairs.{All-unmap}

module _ (log : List Signed) (consistent : IsConsistent log) where
  all_yes : (ns : List ℕ) (bs : List Bool) → AreGiven log ns bs → every true bs ≡ true → All (λ n. Contains log (yes n)) ns
  all_yes [] [] h e = All-nil (λ n. Contains log (yes n))
  all_yes [] (b ∷ bs) h e = absurd h
  all_yes (n ∷ ns) [] h e = absurd h
  all_yes (n ∷ ns) (true ∷ bs) h e = All-cons (λ m. Contains log (yes m)) n ns h.0 (all_yes ns bs h.1 e)
  all_yes (n ∷ ns) (false ∷ bs) h e = absurd (cc)

  one_no : (ns : List ℕ) (bs : List Bool) → AreGiven log ns bs → every true bs ≡ false → (n : ℕ) × Contains ns n × Contains log (no n)
  one_no [] [] h e = absurd (cc)
  one_no [] (b ∷ bs) h e = absurd h
  one_no (n ∷ ns) [] h e = absurd h
  one_no (n ∷ ns) (true ∷ bs) h e =
      let later : (m : ℕ) × Contains ns m × Contains log (no m) = one_no ns bs h.1 e in (later.0, Contains-append_right (n ∷ []) ns later.0 later.1, later.2)
  one_no (n ∷ ns) (false ∷ bs) h e = (n, (zero, omega arith, refl), h.0)

  clash : (n : ℕ) → Contains log (yes n) → Contains log (no n) → ⊥
  clash n y o = consistent (yes n) y o

  module _ (t : ℕ) (ns : List ℕ) (made : All (IsMadeTrue log) (joined t true (once ns))) where
    by_long : All (λ n. Contains log (yes n)) ns → Contains log (yes t)
    by_long h =
        let first : IsMadeTrue log (yes t ∷ map (literal false) (once ns)) = All-head (IsMadeTrue log) (yes t ∷ map (literal false) (once ns)) (map (λ n. no t ∷ literal true n ∷ []) (once ns)) made in
        All-contains (λ l. Contains log l → Contains log (yes t)) (yes t ∷ map (literal false) (once ns)) first.0
        (All-cons (λ l. Contains log l → Contains log (yes t)) (yes t) (map (literal false) (once ns)) (λ k. k) (all_refused (once ns) (All-once (λ n. Contains log (yes n)) ns h)))
        first.1 first.2
      where
        all_refused : (ms : List ℕ) → All (λ n. Contains log (yes n)) ms → All (λ l. Contains log l → Contains log (yes t)) (map (literal false) ms)
        all_refused [] h = All-nil (λ l. Contains log l → Contains log (yes t))
        all_refused (m ∷ ms) h =
            All-cons (λ l. Contains log l → Contains log (yes t)) (no m) (map (literal false) ms) (λ k. absurd (clash m (All-head (λ n. Contains log (yes n)) m ms h) k))
            (all_refused ms (All-tail (λ n. Contains log (yes n)) m ms h))

    by_short : (n : ℕ) → Contains ns n → Contains log (no n) → Contains log (no t)
    by_short n c refuted =
        let pairs : All (λ m. IsMadeTrue log (no t ∷ literal true m ∷ [])) (once ns) =
        All-unmap (IsMadeTrue log) (λ m. no t ∷ literal true m ∷ []) (once ns)
        (All-tail (IsMadeTrue log) (yes t ∷ map (literal false) (once ns)) (map (λ m. no t ∷ literal true m ∷ []) (once ns)) made) in
        let pair : IsMadeTrue log (no t ∷ literal true n ∷ []) =
        All-contains (λ m. IsMadeTrue log (no t ∷ literal true m ∷ [])) ns n (All-of_once (λ m. IsMadeTrue log (no t ∷ literal true m ∷ [])) [] ns pairs).1 c in
        All-contains (λ l. Contains log l → Contains log (no t)) (no t ∷ literal true n ∷ []) pair.0
        (All-cons (λ l. Contains log l → Contains log (no t)) (no t) (literal true n ∷ []) (λ k. k)
        (All-cons (λ l. Contains log l → Contains log (no t)) (literal true n) [] (λ k. absurd (clash n k refuted)) (All-nil (λ l. Contains log l → Contains log (no t)))))
        pair.1 pair.2

    decided : (bs : List Bool) → AreGiven log ns bs → (b : Bool) → every true bs ≡ b → Contains log (literal b t)
    decided bs given true e = by_long (all_yes ns bs given e)
    decided bs given false e = let one : (n : ℕ) × Contains ns n × Contains log (no n) = one_no ns bs given e in by_short one.0 one.1 one.2

pub order_decided : OrderIsDecided
order_decided o v log t bounds is h consistent given made =
    decided log consistent t bounds made (map (order_holds v) (order_atoms o is)) given (truth_of (operate o (map v is))) (sym (ap truth_of (order_every v o is h)))

pub equality_decided : EqualityIsDecided
equality_decided v log same below above i j consistent number_i number_j is_below is_above made =
    decided log consistent same (below ∷ above ∷ []) made (order_holds v (order NotAbove i j) ∷ order_holds v (order NotAbove j i) ∷ [])
    (is_below, (is_above, tt)) (same_value (v i) (v j)) (sym (same_orders v i j number_i number_j))
