-- Grids: rows, values and bounds, the next step, when it fits, and the grid after it.
use Rattle.std.specs.Prelude.{◌≡◌, ℕ, zero, suc, ◌+◌, Bool, true, false, not, ◌&&◌, ◌||◌, ◌==◌, List, [], ◌∷◌, ◌++◌, map, length, slice_index_or, ℤ, pos, negsuc, ◌+ℤ◌, ◌-ℤ◌, neg_ℤ, unsigned_abs, int_lt, Option, Some, None, All, if◌then◌else◌}
use Rattle.fraction128.specs.declared.ratio.Ratio.{Ratio}
use Rattle.fraction128.specs.declared.range.Range.{Range}
use Rattle.fraction128.specs.declared.range.Op.TheVariants.{Add}
use Rattle.fraction128.specs.Whole.{first_outside}
use Rattle.fraction128.specs.Listed.{negation_of, reciprocal_of, sum_of, sum_steps, product_of, product_steps, fused}
use Rattle.fraction128.specs.Number.{whole, SameNumber, unreduced_sum, unreduced_product, is_less, is_zero, is_positive, is_negative}
use Rattle.fraction128.specs.declared.Summand.{Summand}
use Rattle.fraction128.specs.declared.Pending.{Pending}
use Rattle.fraction128.specs.declared.Entry.{Entry}
use Rattle.fraction128.specs.declared.TableRow.{TableRow}
use Rattle.fraction128.specs.declared.Column.{Column}
use Rattle.fraction128.specs.declared.Grid.{Grid}

-- ---- rows

-- the coefficient of a variable in a sum; 0 where it doesn't stand
abbrev pub coefficient : List Entry → ℕ → Ratio
coefficient [] i = whole (pos 0)
coefficient (e ∷ es) i = if e.variable == i then e.coefficient else coefficient es i

-- the value of a sum, where v gives each variable its value
abbrev pub row_value : (ℕ → Ratio) → List Entry → Ratio
row_value v [] = whole (pos 0)
row_value v (e ∷ es) = unreduced_sum (unreduced_product e.coefficient (v e.variable)) (row_value v es)

abbrev pub MeetsRow : (ℕ → Ratio) → TableRow → Type 0
MeetsRow v r = SameNumber (v r.basic) (row_value v r.entries)

-- v is a solution of the rows
abbrev pub MeetsRows : List TableRow → (ℕ → Ratio) → Type 0
MeetsRows rows v = All (MeetsRow v) rows

-- ---- columns

abbrev pub column_at : Grid → ℕ → Column
column_at g i = slice_index_or g.columns i (record { sum = []; lower = None; upper = None; value = whole (pos 0) })

abbrev pub value_at : Grid → ℕ → Ratio
value_at g i = (column_at g i).value

-- the row of a basic variable
abbrev pub row_of : List TableRow → ℕ → Option TableRow
row_of [] i = None
row_of (r ∷ rs) i = if r.basic == i then Some r else row_of rs i

abbrev pub is_some : {A : Type 0} → Option A → Bool
is_some (Some x) = true
is_some None = false

abbrev pub is_basic : List TableRow → ℕ → Bool
is_basic rows i = is_some (row_of rows i)

abbrev pub entries_of : Option TableRow → List Entry
entries_of (Some r) = r.entries
entries_of None = []

-- the coefficient of the variable j in the row of the variable i
abbrev pub cell : List TableRow → ℕ → ℕ → Ratio
cell rows i j = coefficient (entries_of (row_of rows i)) j

-- ---- bounds

abbrev pub is_below : Ratio → Option ℤ → Bool
is_below x (Some k) = is_less x (whole k)
is_below x None = false

abbrev pub is_above : Ratio → Option ℤ → Bool
is_above x (Some k) = is_less (whole k) x
is_above x None = false

-- whether the value may still rise, or fall
abbrev pub can_rise : Column → Bool
can_rise c = has_room c.upper
  where
    has_room : Option ℤ → Bool
    has_room (Some k) = is_less c.value (whole k)
    has_room None = true

abbrev pub can_fall : Column → Bool
can_fall c = has_room c.lower
  where
    has_room : Option ℤ → Bool
    has_room (Some k) = is_less (whole k) c.value
    has_room None = true

abbrev pub is_crossed : Column → Bool
is_crossed c = crosses c.lower c.upper
  where
    crosses : Option ℤ → Option ℤ → Bool
    crosses (Some a) (Some b) = int_lt b a
    crosses (Some a) None = false
    crosses None b = false

-- the bound that the value is outside of
abbrev pub missed : Column → Option ℤ
missed c = if is_below c.value c.lower then c.lower else if is_above c.value c.upper then c.upper else None

-- the values lie within the bounds
abbrev pub WithinBounds : Column → Type 0
WithinBounds c = missed c ≡ None

-- ---- the next step

pub data Step : Type 0 where
  -- take in the pending bound
  take : Pending → Step
  -- give a variable that isn't basic its bound as value
  move : ℕ → ℤ → Step
  -- give the basic variable b its bound k as value by moving the variable c, which takes its place
  pivot : (b : ℕ) (k : ℤ) (c : ℕ) → Step

-- the first place for which there is an answer
abbrev pub first_place : {A : Type 0} → (ℕ → Column → Option A) → ℕ → List Column → Option A
first_place f i [] = None
first_place f i (c ∷ cs) = or_else (f i c) (first_place f (i + 1) cs)
  where
    or_else : {A : Type 0} → Option A → Option A → Option A
    or_else (Some x) y = Some x
    or_else None y = y

abbrev pub only_if : {A : Type 0} → Bool → Option A → Option A
only_if true x = x
only_if false x = None

abbrev pub with_place : {A B : Type 0} → (A → B) → Option A → Option B
with_place f (Some x) = Some (f x)
with_place f None = None

-- the least variable that isn't basic and is outside its bounds
abbrev pub least_outside : Grid → Option Step
least_outside g = first_place (λ i c. only_if (not (is_basic g.rows i)) (with_place (move i) (missed c))) 0 g.columns

-- the least basic variable outside its bounds, with the bound
abbrev pub least_broken : Grid → Option (ℕ × ℤ)
least_broken g = first_place (λ i c. only_if (is_basic g.rows i) (with_place (λ k. (i, k)) (missed c))) 0 g.columns

-- a variable with this coefficient can move so that the row's basic variable rises (or falls)
abbrev pub helps : Bool → Ratio → Column → Bool
helps rises a c =
    (is_positive a && (if rises then can_rise c else can_fall c))
    || (is_negative a && (if rises then can_fall c else can_rise c))

-- the least variable of the row of b that can move so
abbrev pub entering : Grid → ℕ → Bool → Option ℕ
entering g b rises = first_place (λ j c. only_if (helps rises (cell g.rows b j) c) (Some j)) 0 g.columns

abbrev pub blands_pivot : Grid → Option (ℕ × ℤ) → Option Step
blands_pivot g (Some p) = with_place (pivot p.0 p.1) (entering g p.0 (is_less (value_at g p.0) (whole p.1)))
blands_pivot g None = None

abbrev pub any_crossed : List Column → Bool
any_crossed [] = false
any_crossed (c ∷ cs) = is_crossed c || any_crossed cs

-- with no bound pending: none where the bounds of a variable cross; else a move; else Bland's pivot
abbrev pub search_step : Grid → Option Step
search_step g = if any_crossed g.columns then None else prefer (least_outside g)
  where
    prefer : Option Step → Option Step
    prefer (Some s) = Some s
    prefer None = blands_pivot g (least_broken g)

abbrev pub next_step : Grid → Option Step
next_step g = by_pending g.pending
  where
    by_pending : Option Pending → Option Step
    by_pending (Some p) = Some (take p)
    by_pending None = search_step g

-- ---- the numbers of a step

-- all of these stay in the range
abbrev pub fit : List Range → Bool
fit steps = is_absent (first_outside steps)
  where
    is_absent : Option Range → Bool
    is_absent (Some x) = false
    is_absent None = true

abbrev pub every : ℕ → (ℕ → Bool) → Bool
every zero p = true
every (suc n) p = every n p && p n

abbrev pub every_row : List TableRow → (TableRow → Bool) → Bool
every_row [] p = true
every_row (r ∷ rs) p = p r && every_row rs p

abbrev pub fused_fits : Ratio → Ratio → Ratio → Bool
fused_fits x a y = fit (product_steps a y) && fit (sum_steps x (product_of a y))

-- how far a value is from a whole number
abbrev pub distance : ℤ → Ratio → Ratio
distance k x = sum_of (whole k) (negation_of x)

abbrev pub distance_fits : ℤ → Ratio → Bool
distance_fits k x = fit (sum_steps (whole k) (negation_of x))

-- ---- a move: the value of i becomes k, and each row that has i follows

abbrev pub moved_value : Grid → ℕ → ℤ → ℕ → Ratio
moved_value g i k j =
    if j == i then whole k
    else if is_basic g.rows j then fused (value_at g j) (cell g.rows j i) (distance k (value_at g i))
    else value_at g j

abbrev pub move_fits : Grid → ℕ → ℤ → Bool
move_fits g i k =
    distance_fits k (value_at g i)
    && every_row g.rows (λ r. fused_fits (value_at g r.basic) (coefficient r.entries i) (distance k (value_at g i)))

-- ---- a pivot

-- minus the reciprocal of the entry of c in the row of b
abbrev pub factor : List TableRow → ℕ → ℕ → Ratio
factor rows b c = negation_of (reciprocal_of (cell rows b c))

-- the row of b as a form that is 0 on the solutions: its entries less the basic variable
abbrev pub form_entry : List TableRow → ℕ → ℕ → Ratio
form_entry rows b j = if j == b then whole (negsuc 0) else cell rows b j

-- that form times the factor: c has the coefficient -1 in it
abbrev pub scaled_entry : List TableRow → ℕ → ℕ → ℕ → Ratio
scaled_entry rows b c j = product_of (form_entry rows b j) (factor rows b c)

-- the entry of j in the row of i after the pivot
abbrev pub pivoted_entry : List TableRow → ℕ → ℕ → TableRow → ℕ → Ratio
pivoted_entry rows b c r j =
    if r.basic == b then (if j == c then whole (pos 0) else scaled_entry rows b c j)
    else fused (coefficient r.entries j) (coefficient r.entries c) (scaled_entry rows b c j)

-- the entries that aren't 0, among the variables from i on
abbrev pub entries_from : ℕ → ℕ → (ℕ → Ratio) → List Entry
entries_from i zero f = []
entries_from i (suc n) f = if is_zero (f i) then entries_from (i + 1) n f else record { variable = i; coefficient = f i } ∷ entries_from (i + 1) n f

-- the rows of n variables after the pivot of b and c
abbrev pub pivoted_rows : ℕ → List TableRow → ℕ → ℕ → List TableRow
pivoted_rows n rows b c =
    map (λ r. record { basic = if r.basic == b then c else r.basic; entries = entries_from 0 n (pivoted_entry rows b c r) }) rows

abbrev pub pivot_fits : ℕ → List TableRow → ℕ → ℕ → Bool
pivot_fits n rows b c =
    every n (λ j. fit (product_steps (form_entry rows b j) (factor rows b c)))
    && every_row rows (λ r. r.basic == b || every n (λ j. fused_fits (coefficient r.entries j) (coefficient r.entries c) (scaled_entry rows b c j)))

-- how far c moves when b gets the value k
abbrev pub pivot_distance : Grid → ℕ → ℤ → ℕ → Ratio
pivot_distance g b k c = product_of (distance k (value_at g b)) (reciprocal_of (cell g.rows b c))

abbrev pub pivoted_value : Grid → ℕ → ℤ → ℕ → ℕ → Ratio
pivoted_value g b k c j =
    if j == b then whole k
    else if j == c then sum_of (value_at g c) (pivot_distance g b k c)
    else if is_basic g.rows j then fused (value_at g j) (cell g.rows j c) (pivot_distance g b k c)
    else value_at g j

abbrev pub pivot_values_fit : Grid → ℕ → ℤ → ℕ → Bool
pivot_values_fit g b k c =
    distance_fits k (value_at g b)
    && fit (product_steps (distance k (value_at g b)) (reciprocal_of (cell g.rows b c)))
    && fit (sum_steps (value_at g c) (pivot_distance g b k c))
    && every_row g.rows (λ r. fused_fits (value_at g r.basic) (coefficient r.entries c) (pivot_distance g b k c))

-- ---- the grid after a step

abbrev pub with_values : (ℕ → Ratio) → ℕ → List Column → List Column
with_values f i [] = []
with_values f i (c ∷ cs) = record { sum = c.sum; lower = c.lower; upper = c.upper; value = f i } ∷ with_values f (i + 1) cs

abbrev pub after_move : Grid → ℕ → ℤ → Grid
after_move g i k = record { columns = with_values (moved_value g i k) 0 g.columns; rows = g.rows; pending = g.pending }

abbrev pub after_pivot : Grid → ℕ → ℤ → ℕ → Grid
after_pivot g b k c =
    record {
      columns = with_values (pivoted_value g b k c) 0 g.columns;
      rows = pivoted_rows (length g.columns) g.rows b c;
      pending = g.pending;
    }

-- ---- taking in a bound

-- whether the first coefficient is negative: the sum is then turned, so that a sum and its negation share a variable
abbrev pub is_turned : List Summand → Bool
is_turned [] = false
is_turned (p ∷ ps) = int_lt p.coefficient (pos 0)

abbrev pub turned : List Summand → List Summand
turned ps = if is_turned ps then map (λ (p : Summand). record { coefficient = neg_ℤ p.coefficient; term = p.term }) ps else ps

abbrev pub turned_number : List Summand → ℤ → ℤ
turned_number ps k = if is_turned ps then neg_ℤ k else k

-- the least number that the sum has where it isn't at most k
abbrev pub next_number : Pending → Option Range
next_number p = if p.holds then None else Some (record { op = Add; a = p.number; b = pos 1 })

-- the bound's number on the turned sum
abbrev pub bound_number : Pending → ℤ
bound_number p = turned_number p.sum (if p.holds then p.number else p.number +ℤ pos 1)

-- it bounds the turned sum from above: where it holds and the sum isn't turned, or neither
abbrev pub bounds_above : Pending → Bool
bounds_above p = if p.holds then not (is_turned p.sum) else is_turned p.sum

abbrev pub same_sum : List Summand → List Summand → Bool
same_sum [] [] = true
same_sum [] (q ∷ qs) = false
same_sum (p ∷ ps) [] = false
same_sum (p ∷ ps) (q ∷ qs) = unsigned_abs (p.coefficient -ℤ q.coefficient) == 0 && p.term == q.term && same_sum ps qs

-- the first variable with this sum
abbrev pub column_of : List Column → List Summand → Option ℕ
column_of cs ps = first_place (λ i c. only_if (same_sum c.sum ps) (Some i)) 0 cs

abbrev pub leaf : ℕ → List Summand
leaf t = record { coefficient = pos 1; term = t } ∷ []

-- the variable of a term; past all variables where there is none
abbrev pub variable_of : List Column → ℕ → ℕ
variable_of cs t = or_past (column_of cs (leaf t))
  where
    or_past : Option ℕ → ℕ
    or_past (Some i) = i
    or_past None = length cs

-- the coefficient of j in the variable i, written by variables that aren't basic
abbrev pub written_variable : List TableRow → ℕ → ℕ → Ratio
written_variable rows i j = if is_basic rows i then cell rows i j else if j == i then whole (pos 1) else whole (pos 0)

-- the coefficient of j in a sum so written: its terms in order, each added to f
abbrev pub written : List Column → List TableRow → (ℕ → Ratio) → List Summand → ℕ → Ratio
written cs rows f [] j = f j
written cs rows f (p ∷ ps) j =
    written cs rows (λ i. fused (f i) (whole p.coefficient) (written_variable rows (variable_of cs p.term) i)) ps j

abbrev pub written_fits : List Column → List TableRow → (ℕ → Ratio) → List Summand → Bool
written_fits cs rows f [] = true
written_fits cs rows f (p ∷ ps) =
    every (length cs) (λ i. fused_fits (f i) (whole p.coefficient) (written_variable rows (variable_of cs p.term) i))
    && written_fits cs rows (λ i. fused (f i) (whole p.coefficient) (written_variable rows (variable_of cs p.term) i)) ps

abbrev pub no_coefficients : ℕ → Ratio
no_coefficients i = whole (pos 0)

-- the row of a new variable for a sum
abbrev pub sum_row : List Column → List TableRow → List Summand → TableRow
sum_row cs rows ps = record { basic = length cs; entries = entries_from 0 (length cs) (written cs rows no_coefficients ps) }

-- the value of entries, added up in order
abbrev pub entries_value : (ℕ → Ratio) → Ratio → List Entry → Ratio
entries_value v x [] = x
entries_value v x (e ∷ es) = entries_value v (fused x e.coefficient (v e.variable)) es

abbrev pub entries_value_fits : (ℕ → Ratio) → Ratio → List Entry → Bool
entries_value_fits v x [] = true
entries_value_fits v x (e ∷ es) = fused_fits x e.coefficient (v e.variable) && entries_value_fits v (fused x e.coefficient (v e.variable)) es

-- the tighter bound of two
abbrev pub greater_of : Option ℤ → ℤ → Option ℤ
greater_of (Some a) k = if int_lt a k then Some k else Some a
greater_of None k = Some k

abbrev pub lesser_of : Option ℤ → ℤ → Option ℤ
lesser_of (Some a) k = if int_lt k a then Some k else Some a
lesser_of None k = Some k

abbrev pub bounded : Pending → Column → Column
bounded p c =
    if bounds_above p then record { sum = c.sum; lower = c.lower; upper = lesser_of c.upper (bound_number p); value = c.value }
    else record { sum = c.sum; lower = greater_of c.lower (bound_number p); upper = c.upper; value = c.value }

abbrev pub change_at : ℕ → (Column → Column) → List Column → List Column
change_at i f [] = []
change_at zero f (c ∷ cs) = f c ∷ cs
change_at (suc i) f (c ∷ cs) = c ∷ change_at i f cs

abbrev pub new_column : Grid → Pending → Column
new_column g p =
    record {
      sum = turned p.sum;
      lower = None;
      upper = None;
      value = entries_value (value_at g) (whole (pos 0)) (sum_row g.columns g.rows (turned p.sum)).entries;
    }

abbrev pub number_fits : Pending → Bool
number_fits p = in_range (next_number p)
  where
    in_range : Option Range → Bool
    in_range (Some step) = fit (step ∷ [])
    in_range None = true

-- where the sum has no variable yet, it gets one, with a row and that row's value
abbrev pub take_fits : Grid → Pending → Bool
take_fits g p = number_fits p && by_column (column_of g.columns (turned p.sum))
  where
    by_column : Option ℕ → Bool
    by_column (Some i) = true
    by_column None =
        written_fits g.columns g.rows no_coefficients (turned p.sum)
        && entries_value_fits (value_at g) (whole (pos 0)) (sum_row g.columns g.rows (turned p.sum)).entries

abbrev pub after_take : Grid → Pending → Grid
after_take g p = by_column (column_of g.columns (turned p.sum))
  where
    by_column : Option ℕ → Grid
    by_column (Some i) = record { columns = change_at i (bounded p) g.columns; rows = g.rows; pending = None }
    by_column None =
        record {
          columns = g.columns ++ bounded p (new_column g p) ∷ [];
          rows = g.rows ++ sum_row g.columns g.rows (turned p.sum) ∷ [];
          pending = None;
        }

-- ---- any step

-- none of the step's numbers leaves the range
abbrev pub step_fits : Grid → Step → Bool
step_fits g (take p) = take_fits g p
step_fits g (move i k) = move_fits g i k
step_fits g (pivot b k c) = pivot_fits (length g.columns) g.rows b c && pivot_values_fit g b k c

-- the grid after the step
abbrev pub after : Grid → Step → Grid
after g (take p) = after_take g p
after g (move i k) = after_move g i k
after g (pivot b k c) = after_pivot g b k c
