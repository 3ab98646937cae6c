-- What a consistent log that makes the clauses true gives.
use Rattle.std.proofs.Common.{◌≡◌, ℕ, zero, Bool, true, false, not, List, [], ◌∷◌, map, All, Contains, refl, sym, ap, ◌∙◌, arith}
use Rattle.std.specs.Prelude.{flat_map, IsTrue, pos, negsuc, if◌then◌else◌}
use Rattle.std.specs.List.{AllZip}
use Rattle.std.proofs.lemmas.Bool.{eqb-true}
use Rattle.std.proofs.lemmas.List.Elements.{All-cons, All-nil, All-head, All-tail, All-contains, Contains-append_right}
use Rattle.literals.specs.Signed.{Signed}
use Rattle.smt_meaning.specs.declared.values.Value.{Value}
use Rattle.smt_meaning.specs.declared.values.Value.TheVariants.{Truth, Whole, Element}
use Rattle.smt_meaning.specs.declared.terms.Operator.{Operator}
use Rattle.smt_meaning.specs.declared.terms.Operator.TheVariants.{Equal, Distinct}
use Rattle.smt_meaning.specs.declared.clauses.Atom.{Atom}
use Rattle.smt_meaning.specs.Term.{Tree, operate, truth_of, same_value}
use Rattle.search_port.specs.State.{IsConsistent, IsMadeTrue}
use Rattle.equality_clauses.specs.Once.{once}
use Rattle.equality_clauses.specs.Ties.{literal, yes, no, joined, comparison_clauses, choice_clauses}
use Rattle.equality_clauses.specs.Laws.{compares, compared, pair_same}
use Rattle.equality_clauses.proofs.OnceLemmas.{All-once}
use Rattle.equality_clauses.proofs.Tying.{every, equal_every, distinct_every}
use Rattle.bound_clauses.specs.declared.orders.Sense.TheVariants.{NotAbove}
use Rattle.bound_clauses.specs.declared.orders.Order.{Order}
use Rattle.bound_clauses.specs.Orders.{order, order_atoms, order_holds}
use Rattle.bound_clauses.specs.Ties.{order_clauses, equal_clauses}
use Rattle.bound_clauses.specs.Laws.{IsNumber, OrderIsDecided, EqualityIsDecided}
use Rattle.bound_clauses.proofs.Comparing.{All-of_once}
use Rattle.order_clauses.specs.declared.pairs.Pair.{Pair}
use Rattle.order_clauses.specs.Pairs.{pair, pairs_of, same_atom, orders_of_pair}
use Rattle.order_clauses.proofs.Pairing.{pairs_atoms}
use Rattle.order_clauses.specs.Clauses.{truth_number, same_number, bound_number, of_bound, int_tie, tie}
use Rattle.order_clauses.specs.Decided.{IsGiven, FitsOrders, same_in, FitsPairs, AreNumbers, FitsTerms, OrderPartIsDecided, EqualityPartIsDecided, ChoicePartIsDecided}
use Rattle.order_clauses.proofs.Soundness.{All-unmap, All-left, All-right}

-- ---- each has the sign

same_pairs : (v : ℕ → Value) (qs : List Pair) → map (pair_same v) (map same_atom qs) ≡ map (same_in v) qs
same_pairs v [] = refl
same_pairs v (q ∷ qs) = ap (λ bs. same_in v q ∷ bs) (same_pairs v qs)

by_pairs : (v : ℕ → Value) (s : Bool) (o : Operator) (is : List ℕ) → every s (map (pair_same v) (compared o is)) ≡ every s (map (same_in v) (pairs_of o is))
by_pairs v s o is = ap (λ (cs : List Atom). every s (map (pair_same v) cs)) (sym (pairs_atoms o is)) ∙ ap (every s) (same_pairs v (pairs_of o is))

equal_pairs : (v : ℕ → Value) (is : List ℕ) → truth_of (operate Equal (map v is)) ≡ every true (map (same_in v) (pairs_of Equal is))
equal_pairs v is = ap truth_of (equal_every v is) ∙ by_pairs v true Equal is

distinct_pairs : (v : ℕ → Value) (is : List ℕ) → truth_of (operate Distinct (map v is)) ≡ every false (map (same_in v) (pairs_of Distinct is))
distinct_pairs v is = ap truth_of (distinct_every v is) ∙ by_pairs v false Distinct is

-- ---- clauses that join

module _ (log : List Signed) (consistent : IsConsistent log) where
  clash : (s : Bool) (n : ℕ) → Contains log (literal s n) → Contains log (literal (not s) n) → ⊥
  clash s n a b = consistent (literal s n) a b

  all_signed : (s : Bool) (ns : List ℕ) (bs : List Bool) → AllZip (λ n b. IsGiven log n b) ns bs → every s bs ≡ true → All (λ n. IsGiven log n s) ns
  all_signed s [] [] h e = All-nil (λ n. IsGiven log n s)
  all_signed s [] (b ∷ bs) h e = absurd h
  all_signed s (n ∷ ns) [] h e = absurd h
  all_signed true (n ∷ ns) (true ∷ bs) h e = All-cons (λ m. IsGiven log m true) n ns h.0 (all_signed true ns bs h.1 e)
  all_signed true (n ∷ ns) (false ∷ bs) h e = absurd (let x : false ≡ true = e in cc)
  all_signed false (n ∷ ns) (true ∷ bs) h e = absurd (let x : false ≡ true = e in cc)
  all_signed false (n ∷ ns) (false ∷ bs) h e = All-cons (λ m. IsGiven log m false) n ns h.0 (all_signed false ns bs h.1 e)

  one_other : (s : Bool) (ns : List ℕ) (bs : List Bool) → AllZip (λ n b. IsGiven log n b) ns bs → every s bs ≡ false → (n : ℕ) × Contains ns n × IsGiven log n (not s)
  one_other s [] [] h e = absurd (let x : true ≡ false = e in cc)
  one_other s [] (b ∷ bs) h e = absurd h
  one_other s (n ∷ ns) [] h e = absurd h
  one_other true (n ∷ ns) (true ∷ bs) h e =
      let later : (m : ℕ) × Contains ns m × IsGiven log m false = one_other true ns bs h.1 e in (later.0, Contains-append_right (n ∷ []) ns later.0 later.1, later.2)
  one_other true (n ∷ ns) (false ∷ bs) h e = (n, (zero, omega arith, refl), h.0)
  one_other false (n ∷ ns) (true ∷ bs) h e = (n, (zero, omega arith, refl), h.0)
  one_other false (n ∷ ns) (false ∷ bs) h e =
      let later : (m : ℕ) × Contains ns m × IsGiven log m true = one_other false ns bs h.1 e in (later.0, Contains-append_right (n ∷ []) ns later.0 later.1, later.2)

  -- one of two literals is in the log
  of_two : (l m : Signed) (C : Type 0) → IsMadeTrue log (l ∷ m ∷ []) → (Contains log l → C) → (Contains log m → C) → C
  of_two l m C made f g =
      All-contains (λ x. Contains log x → C) (l ∷ m ∷ []) made.0 (All-cons (λ x. Contains log x → C) l (m ∷ []) f (All-cons (λ x. Contains log x → C) m [] g (All-nil (λ x. Contains log x → C)))) made.1 made.2

  module _ (s : Bool) (t : ℕ) (ns : List ℕ) (made : All (IsMadeTrue log) (joined t s (once ns))) where
    by_long : All (λ n. IsGiven log n s) ns → Contains log (yes t)
    by_long h =
        let first : IsMadeTrue log (yes t ∷ map (literal (not s)) (once ns)) = All-head (IsMadeTrue log) (yes t ∷ map (literal (not s)) (once ns)) (map (λ n. no t ∷ literal s n ∷ []) (once ns)) made in
        All-contains (λ l. Contains log l → Contains log (yes t)) (yes t ∷ map (literal (not s)) (once ns)) first.0
        (All-cons (λ l. Contains log l → Contains log (yes t)) (yes t) (map (literal (not s)) (once ns)) (λ k. k) (all_refused (once ns) (All-once (λ n. IsGiven log n s) ns h)))
        first.1 first.2
      where
        all_refused : (ms : List ℕ) → All (λ n. IsGiven log n s) ms → All (λ l. Contains log l → Contains log (yes t)) (map (literal (not s)) ms)
        all_refused [] h = All-nil (λ l. Contains log l → Contains log (yes t))
        all_refused (m ∷ ms) h =
            All-cons (λ l. Contains log l → Contains log (yes t)) (literal (not s) m) (map (literal (not s)) ms) (λ k. absurd (clash s m (All-head (λ n. IsGiven log n s) m ms h) k))
            (all_refused ms (All-tail (λ n. IsGiven log n s) m ms h))

    by_short : (n : ℕ) → Contains ns n → IsGiven log n (not s) → Contains log (no t)
    by_short n c refuted =
        let pairs : All (λ m. IsMadeTrue log (no t ∷ literal s m ∷ [])) (once ns) =
        All-unmap (IsMadeTrue log) (λ m. no t ∷ literal s m ∷ []) (once ns)
        (All-tail (IsMadeTrue log) (yes t ∷ map (literal (not s)) (once ns)) (map (λ m. no t ∷ literal s m ∷ []) (once ns)) made) in
        let two : IsMadeTrue log (no t ∷ literal s n ∷ []) =
        All-contains (λ m. IsMadeTrue log (no t ∷ literal s m ∷ [])) ns n (All-of_once (λ m. IsMadeTrue log (no t ∷ literal s m ∷ [])) [] ns pairs).1 c in
        of_two (no t) (literal s n) (Contains log (no t)) two (λ k. k) (λ k. absurd (clash s n k refuted))

    joined_decided : (bs : List Bool) → AllZip (λ n b. IsGiven log n b) ns bs → (b : Bool) → every s bs ≡ b → IsGiven log t b
    joined_decided bs given true e = by_long (all_signed s ns bs given e)
    joined_decided bs given false e = let one : (n : ℕ) × Contains ns n × IsGiven log n (not s) = one_other s ns bs given e in by_short one.0 one.1 one.2

-- ---- what is given, number by number

zipped : {X : Type 0} (log : List Signed) (f : X → ℕ) (g : X → Bool) (xs : List X) → All (λ x. IsGiven log (f x) (g x)) xs → AllZip (λ n b. IsGiven log n b) (map f xs) (map g xs)
zipped log f g [] h = tt
zipped log f g (x ∷ xs) h = (All-head (λ y. IsGiven log (f y) (g y)) x xs h, zipped log f g xs (All-tail (λ y. IsGiven log (f y) (g y)) x xs h))

-- ---- comparisons

pub order_part_decided : OrderIsDecided → OrderPartIsDecided
order_part_decided decided v log ts table o p is h consistent fits made =
    let os : List Order = order_atoms o is in
    decided o v log (truth_number table p) (map (bound_number ts table) os) is h consistent (zipped log (bound_number ts table) (order_holds v) os fits)
    (All-right (IsMadeTrue log) (flat_map (of_bound ts table) os) (order_clauses (truth_number table p) (map (bound_number ts table) os)) made)

-- ---- equalities

module _ (decided : EqualityIsDecided) (v : ℕ → Value) (log : List Signed) (consistent : IsConsistent log) (ts : List Tree) (table : List Atom) where
  int_pair : (q : Pair) → IsNumber (v q.left) × IsNumber (v q.right) → FitsOrders v log ts table (orders_of_pair q) → All (IsMadeTrue log) (int_tie ts table q) → IsGiven log (same_number table q) (same_in v q)
  int_pair q numbers fits made =
      let i : ℕ = q.left in
      let j : ℕ = q.right in
      let s : ℕ = same_number table q in
      let below : ℕ = bound_number ts table (order NotAbove i j) in
      let above : ℕ = bound_number ts table (order NotAbove j i) in
      decided v log s below above i j consistent numbers.0 numbers.1
      (All-head (λ (o : Order). IsGiven log (bound_number ts table o) (order_holds v o)) (order NotAbove i j) (order NotAbove j i ∷ []) fits)
      (All-head (λ (o : Order). IsGiven log (bound_number ts table o) (order_holds v o)) (order NotAbove j i) []
      (All-tail (λ (o : Order). IsGiven log (bound_number ts table o) (order_holds v o)) (order NotAbove i j) (order NotAbove j i ∷ []) fits))
      (All-right (IsMadeTrue log) (flat_map (of_bound ts table) (orders_of_pair q)) (equal_clauses s below above) made)

  int_pairs : (qs : List Pair) → AreNumbers v qs → FitsOrders v log ts table (flat_map orders_of_pair qs) → All (IsMadeTrue log) (flat_map (tie ts table true) qs) → FitsPairs v log table qs
  int_pairs [] numbers fits made = All-nil (λ (q : Pair). IsGiven log (same_number table q) (same_in v q))
  int_pairs (q ∷ qs) numbers fits made =
      All-cons (λ (r : Pair). IsGiven log (same_number table r) (same_in v r)) q qs
      (int_pair q (All-head (λ (r : Pair). IsNumber (v r.left) × IsNumber (v r.right)) q qs numbers)
      (All-left (λ (o : Order). IsGiven log (bound_number ts table o) (order_holds v o)) (orders_of_pair q) (flat_map orders_of_pair qs) fits)
      (All-left (IsMadeTrue log) (int_tie ts table q) (flat_map (tie ts table true) qs) made))
      (int_pairs qs (All-tail (λ (r : Pair). IsNumber (v r.left) × IsNumber (v r.right)) q qs numbers)
      (All-right (λ (o : Order). IsGiven log (bound_number ts table o) (order_holds v o)) (orders_of_pair q) (flat_map orders_of_pair qs) fits)
      (All-right (IsMadeTrue log) (int_tie ts table q) (flat_map (tie ts table true) qs) made))

  pairs_given : (int : Bool) (qs : List Pair) → FitsTerms v log ts table int qs → All (IsMadeTrue log) (flat_map (tie ts table int) qs) → FitsPairs v log table qs
  pairs_given true qs fits made = int_pairs qs fits.0 fits.1 made
  pairs_given false qs fits made = fits

  by_operator : (o : Operator) (p : ℕ) (is : List ℕ) → IsTrue (compares o) → FitsPairs v log table (pairs_of o is)
      → All (IsMadeTrue log) (comparison_clauses o (truth_number table p) (map (same_number table) (pairs_of o is))) → IsGiven log (truth_number table p) (truth_of (operate o (map v is)))
  by_operator Equal p is h given made =
      joined_decided log consistent true (truth_number table p) (map (same_number table) (pairs_of Equal is)) made (map (same_in v) (pairs_of Equal is))
      (zipped log (same_number table) (same_in v) (pairs_of Equal is) given) (truth_of (operate Equal (map v is))) (sym (equal_pairs v is))
  by_operator Distinct p is h given made =
      joined_decided log consistent false (truth_number table p) (map (same_number table) (pairs_of Distinct is)) made (map (same_in v) (pairs_of Distinct is))
      (zipped log (same_number table) (same_in v) (pairs_of Distinct is) given) (truth_of (operate Distinct (map v is))) (sym (distinct_pairs v is))
  by_operator o p is h given made = absurd (let x : false ≡ true = h in cc)

  -- ---- choices

  same_is : (a b : Value) → same_value a b ≡ true → a ≡ b
  same_is (Truth true) (Truth true) h = refl
  same_is (Truth false) (Truth false) h = refl
  same_is (Truth true) (Truth false) h = absurd (let x : false ≡ true = h in cc)
  same_is (Truth false) (Truth true) h = absurd (let x : false ≡ true = h in cc)
  same_is (Whole (pos m)) (Whole (pos n)) h = ap (λ k. Whole (pos k)) (eqb-true m n h)
  same_is (Whole (negsuc m)) (Whole (negsuc n)) h = ap (λ k. Whole (negsuc k)) (eqb-true m n h)
  same_is (Whole (pos m)) (Whole (negsuc n)) h = absurd (let x : false ≡ true = h in cc)
  same_is (Whole (negsuc m)) (Whole (pos n)) h = absurd (let x : false ≡ true = h in cc)
  same_is (Element m) (Element n) h = ap Element (eqb-true m n h)
  same_is (Truth a) (Whole n) h = absurd (let x : false ≡ true = h in cc)
  same_is (Truth a) (Element n) h = absurd (let x : false ≡ true = h in cc)
  same_is (Whole m) (Truth b) h = absurd (let x : false ≡ true = h in cc)
  same_is (Whole m) (Element n) h = absurd (let x : false ≡ true = h in cc)
  same_is (Element m) (Truth b) h = absurd (let x : false ≡ true = h in cc)
  same_is (Element m) (Whole n) h = absurd (let x : false ≡ true = h in cc)

  -- an equality that the log has is one of values
  taken : (q : Pair) (b : Bool) → IsGiven log (same_number table q) b → Contains log (yes (same_number table q)) → b ≡ true
  taken q true given has = refl
  taken q false given has = absurd (clash log consistent true (same_number table q) has given)

  chosen : (p c i j : ℕ) (b : Bool) → IsGiven log (truth_number table c) b → FitsPairs v log table (pair p i ∷ pair p j ∷ [])
      → All (IsMadeTrue log) (choice_clauses (truth_number table c) (same_number table (pair p i)) (same_number table (pair p j))) → v p ≡ (if b then v i else v j)
  chosen p c i j true given fits made =
      let f : ℕ = same_number table (pair p i) in
      let s : ℕ = same_number table (pair p j) in
      let t : ℕ = truth_number table c in
      let first : IsMadeTrue log (no t ∷ yes f ∷ []) = All-head (IsMadeTrue log) (no t ∷ yes f ∷ []) ((yes t ∷ yes s ∷ []) ∷ []) made in
      let has : Contains log (yes f) = of_two log consistent (no t) (yes f) (Contains log (yes f)) first (λ k. absurd (clash log consistent true t given k)) (λ k. k) in
      same_is (v p) (v i) (taken (pair p i) (same_in v (pair p i)) (All-head (λ (q : Pair). IsGiven log (same_number table q) (same_in v q)) (pair p i) (pair p j ∷ []) fits) has)
  chosen p c i j false given fits made =
      let f : ℕ = same_number table (pair p i) in
      let s : ℕ = same_number table (pair p j) in
      let t : ℕ = truth_number table c in
      let second : IsMadeTrue log (yes t ∷ yes s ∷ []) =
      All-head (IsMadeTrue log) (yes t ∷ yes s ∷ []) [] (All-tail (IsMadeTrue log) (no t ∷ yes f ∷ []) ((yes t ∷ yes s ∷ []) ∷ []) made) in
      let has : Contains log (yes s) = of_two log consistent (yes t) (yes s) (Contains log (yes s)) second (λ k. absurd (clash log consistent true t k given)) (λ k. k) in
      same_is (v p) (v j)
      (taken (pair p j) (same_in v (pair p j))
      (All-head (λ (q : Pair). IsGiven log (same_number table q) (same_in v q)) (pair p j) [] (All-tail (λ (q : Pair). IsGiven log (same_number table q) (same_in v q)) (pair p i) (pair p j ∷ []) fits)) has)

pub equality_part_decided : EqualityIsDecided → EqualityPartIsDecided
equality_part_decided decided v log ts table int o p is h consistent fits made =
    let qs : List Pair = pairs_of o is in
    let last : List (List Signed) = comparison_clauses o (truth_number table p) (map (same_number table) qs) in
    by_operator decided v log consistent ts table o p is h (pairs_given decided v log consistent ts table int qs fits (All-left (IsMadeTrue log) (flat_map (tie ts table int) qs) last made))
    (All-right (IsMadeTrue log) (flat_map (tie ts table int) qs) last made)

pub choice_part_decided : EqualityIsDecided → ChoicePartIsDecided
choice_part_decided decided v log ts table p c i j consistent condition fits made =
    let qs : List Pair = pair p i ∷ pair p j ∷ [] in
    let last : List (List Signed) = choice_clauses (truth_number table c) (same_number table (pair p i)) (same_number table (pair p j)) in
    chosen decided v log consistent ts table p c i j (truth_of (v c)) condition
    (pairs_given decided v log consistent ts table true qs fits (All-left (IsMadeTrue log) (flat_map (tie ts table true) qs) last made)) (All-right (IsMadeTrue log) (flat_map (tie ts table true) qs) last made)
