-- Why the clauses of divisions can't be put, and their numbers.
use Rattle.std.proofs.Common.{◌≡◌, inl, inr, ℕ, ◌<◌, ◌≤◌, ◌^◌, Bool, true, false, nat_eq, List, [], ◌∷◌, map, length, get_or, All, Contains, Result, Ok, Err, Option, Some, None, sym, subst, arith}
use Rattle.std.specs.Prelude.{flat_map, IfErr, IsTrue, if◌then◌else◌}
use Rattle.std.proofs.lemmas.List.Elements.{All-cons, All-nil, All-head, All-tail, Contains-append_left, Contains-append_right}
use Rattle.smt_meaning.specs.declared.values.Sort.{Sort}
use Rattle.smt_meaning.specs.declared.terms.Operator.{Operator}
use Rattle.smt_meaning.specs.declared.clauses.Atom.{Atom}
use Rattle.smt_meaning.specs.Term.{Tree}
use Rattle.pair_bounds.specs.declared.rows.RowLimit.{RowLimit}
use Rattle.pair_bounds.specs.declared.rows.Row.{Row}
use Rattle.pair_bounds.specs.Rows.{listed, limits}
use Rattle.order_clauses.specs.declared.error.PartError.{PartError}
use Rattle.order_clauses.specs.declared.error.PartError.TheVariants.{Missing}
use Rattle.order_clauses.specs.Clauses.{has_rows, limit_bound, limit_number, other_numbers}
use Rattle.order_clauses.specs.Needed.{orders_of_part, limits_of_division, row_truth_atoms, atoms_of_row, atoms_of_division, atoms_of_part}
use Rattle.order_clauses.specs.Errors.{IsRefused, IsLimitRefused, RefusesDivision, RefusesOfPart, IsCause, IsLimitCause, IsDivisionCause, IsPartCause}
use Rattle.order_clauses.proofs.Causes.{wider_by, here, Contains-flat_map, narrower}
use Rattle.order_clauses.proofs.Soundness.{All-left, All-right, number_within}

pub wider_limits : (ts : List Tree) (table : List Atom) (ls ls' : List RowLimit) (atoms atoms' : List Atom) (e : PartError) → ((l : RowLimit) → Contains ls l → Contains ls' l)
    → (All (Contains table) atoms' → All (Contains table) atoms) → IsLimitCause ts table ls atoms e → IsLimitCause ts table ls' atoms' e
wider_limits ts table ls ls' atoms atoms' e more fewer = wider_by table atoms atoms' (IsLimitRefused ts ls) (IsLimitRefused ts ls') e (λ d h. record { limit = h.limit; among = more h.limit h.among; refuses = h.refuses }) fewer

pub missing_limits : (ts : List Tree) (table : List Atom) (ls : List RowLimit) (atoms : List Atom) (e : PartError) → e ≡ Missing → (All (Contains table) atoms → ⊥) → IsLimitCause ts table ls atoms e
missing_limits ts table ls atoms e h none = subst (IsLimitCause ts table ls atoms) (sym h) none

-- ---- of a row

module _ (ts : List Tree) (table : List Atom) (p : ℕ) (r : Row) where
  pub truths_of_row : All (Contains table) (atoms_of_row ts p r) → All (Contains table) (row_truth_atoms p r.truth)
  truths_of_row all = All-left (Contains table) (row_truth_atoms p r.truth) (map (limit_bound ts) (limits r)) all

  pub bounds_of_row : All (Contains table) (atoms_of_row ts p r) → All (Contains table) (map (limit_bound ts) (limits r))
  bounds_of_row all = All-right (Contains table) (row_truth_atoms p r.truth) (map (limit_bound ts) (limits r)) all

  pub first_cause : (e : PartError) → IsLimitCause ts table (r.limit ∷ []) (limit_bound ts r.limit ∷ []) e → IsLimitCause ts table (limits r) (atoms_of_row ts p r) e
  first_cause e h =
      wider_limits ts table (r.limit ∷ []) (limits r) (limit_bound ts r.limit ∷ []) (atoms_of_row ts p r) e (λ l c. Contains-append_left (r.limit ∷ []) (listed r.other) l c)
      (λ all. All-cons (Contains table) (limit_bound ts r.limit) [] (All-head (Contains table) (limit_bound ts r.limit) (map (limit_bound ts) (listed r.other)) (bounds_of_row all)) (All-nil (Contains table))) h

  pub other_cause : (e : PartError) → IsLimitCause ts table (listed r.other) (map (limit_bound ts) (listed r.other)) e → IsLimitCause ts table (limits r) (atoms_of_row ts p r) e
  other_cause e h =
      wider_limits ts table (listed r.other) (limits r) (map (limit_bound ts) (listed r.other)) (atoms_of_row ts p r) e (λ l c. Contains-append_right (r.limit ∷ []) (listed r.other) l c)
      (λ all. All-tail (Contains table) (limit_bound ts r.limit) (map (limit_bound ts) (listed r.other)) (bounds_of_row all)) h

pub one_row : (ts : List Tree) (table : List Atom) (p : ℕ) (rs : List Row) (k : ℕ) (d : Row) (e : PartError) → k < length rs
    → IsLimitCause ts table (limits (get_or rs k d)) (atoms_of_row ts p (get_or rs k d)) e → IsLimitCause ts table (flat_map limits rs) (flat_map (atoms_of_row ts p) rs) e
one_row ts table p rs k d e l h =
    let r : Row = get_or rs k d in
    let there : Contains rs r = here rs k d l in
    wider_limits ts table (limits r) (flat_map limits rs) (atoms_of_row ts p r) (flat_map (atoms_of_row ts p) rs) e (λ x c. Contains-flat_map limits rs r x there c)
    (λ all. narrower (Contains table) (atoms_of_row ts p r) (flat_map (atoms_of_row ts p) rs) (λ x c. Contains-flat_map (atoms_of_row ts p) rs r x there c) all) h

-- the numbers of atoms of a small table are small
pub other_few : (ts : List Tree) (table : List Atom) (m : ℕ) (o : Option RowLimit) → length table ≤ 2 ^ 31 → All (Contains table) (map (limit_bound ts) (listed o)) → All (λ n. n < 2 ^ 31) (other_numbers ts table m o)
other_few ts table m None few h = All-nil (λ n. n < 2 ^ 31)
other_few ts table m (Some l) few h = by (nat_eq m (limit_number ts table l))
  where
    small : limit_number ts table l < 2 ^ 31
    small = let w : limit_number ts table l < length table = number_within table (limit_bound ts l) (All-head (Contains table) (limit_bound ts l) [] h) in omega arith

    by : (b : Bool) → All (λ n. n < 2 ^ 31) (if b then [] else limit_number ts table l ∷ [])
    by true = All-nil (λ n. n < 2 ^ 31)
    by false = All-cons (λ n. n < 2 ^ 31) (limit_number ts table l) [] small (All-nil (λ n. n < 2 ^ 31))

-- ---- of a part

pub all_err : {A E : Type 0} (r : Result A E) (P Q : E → Type 0) → ((e : E) → P e → Q e) → IfErr r P → IfErr r Q
all_err (Ok x) P Q f h = tt
all_err (Err e) P Q f h = f e h

pub of_rows_cause : (ts : List Tree) (table : List Atom) (o : Operator) (p : ℕ) (is : List ℕ) (e : PartError) → IsLimitCause ts table (limits_of_division ts o p is) (atoms_of_division ts o p is) e → IsDivisionCause ts table o p is e
of_rows_cause ts table o p is e =
    let ls : List RowLimit = limits_of_division ts o p is in
    let atoms : List Atom = atoms_of_division ts o p is in
    wider_by table atoms atoms (IsLimitRefused ts ls) (RefusesDivision ts is ls) e (λ d h. inr h) (λ all. all)

module _ (sorts : List Sort) (ts : List Tree) (table : List Atom) (o : Operator) (p : ℕ) (is : List ℕ) where
  pub of_orders : (e : PartError) → IsCause ts table (orders_of_part sorts o p is) (atoms_of_part sorts ts o p is) e → IsPartCause sorts ts table o p is e
  of_orders e =
      let atoms : List Atom = atoms_of_part sorts ts o p is in
      wider_by table atoms atoms (IsRefused ts (orders_of_part sorts o p is)) (RefusesOfPart sorts ts o p is) e (λ d h. inl h) (λ all. all)

  pub of_division : IsTrue (has_rows o) → atoms_of_part sorts ts o p is ≡ atoms_of_division ts o p is → (e : PartError) → IsDivisionCause ts table o p is e → IsPartCause sorts ts table o p is e
  of_division t same e =
      wider_by table (atoms_of_division ts o p is) (atoms_of_part sorts ts o p is) (RefusesDivision ts is (limits_of_division ts o p is)) (RefusesOfPart sorts ts o p is) e (λ d h. inr (t, h))
      (λ all. subst (All (Contains table)) same all)
