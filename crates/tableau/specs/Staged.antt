-- What a pivot that is being tried makes of a row.
use Rattle.std.specs.Prelude.{slice_index_or, Contains, ◌≤◌, ◌+◌, pos, nat_lt, if◌then◌else◌, ◌≡◌, ◌≢◌, ℕ, ◌<◌, ◌⊎◌, true, false, List, length}
use Rattle.fraction128.specs.declared.ratio.Ratio.{Ratio}
use Rattle.fraction128.specs.Ratio.{IsReciprocal, IsFraction}
use Rattle.fraction128.specs.Listed.{negation_of, reciprocal_of}
use Rattle.fraction128.specs.declared.Entry.{Entry}
use Rattle.tableau.specs.declared.rows.Row.{Row}
use Rattle.tableau.specs.Fitting.{scaled_fits, merged_fits}
use Rattle.tableau.specs.Rows.{variable_at, coefficient_at, merged, without, scaled, zero_form}

-- the row has the variable, and gets a multiple of the form; or it doesn't
abbrev pub IsReplaced : ℕ → List Entry → List Entry → List Entry → Type 0
IsReplaced c form es es' = (i : ℕ) × (i < length es) × (variable_at es i ≡ c) × (es' ≡ merged (coefficient_at es i) es form) × (merged_fits (coefficient_at es i) es form ≡ true)

abbrev pub HasVariable : ℕ → List Entry → Type 0
HasVariable c es = (i : ℕ) × (i < length es) × (variable_at es i ≡ c)

abbrev pub Lacks : ℕ → List Entry → Type 0
Lacks c es = (k : ℕ) → k < length es → variable_at es k ≢ c

abbrev pub IsStaged : ℕ → List Entry → Row → Type 0
IsStaged c form r =
    ((r.changes ≡ true) × (r.next_basic ≡ r.basic) × IsReplaced c form r.entries.items r.next.items)
    ⊎ ((r.changes ≡ false) × Lacks c r.entries.items)

pub record IsSameRow (before now : Row) : Type 0 where
  pub basic : now.basic ≡ before.basic
  pub entries : now.entries.items ≡ before.entries.items

abbrev pub IsCommitted : Row → Row → Type 0
IsCommitted before now =
    ((before.changes ≡ true) × (now.basic ≡ before.next_basic) × (now.entries.items ≡ before.next.items))
    ⊎ ((before.changes ≡ false) × (now.basic ≡ before.basic) × (now.entries.items ≡ before.entries.items))

-- the row that b leaves becomes the row of c, by the form without its entry; another row stays or gets a multiple of the form
abbrev pub IsTried : ℕ → ℕ → List Entry → ℕ → Row → Type 0
IsTried b c form q r =
    ((r.basic ≡ b) × (r.next.items ≡ without q form) × (r.next_basic ≡ c) × (r.changes ≡ true))
    ⊎ ((r.basic ≢ b) × IsStaged c form r)

-- the variable has an entry, which isn't 0
pub record HasEntry (c : ℕ) (es : List Entry) : Type 0 where
  pub place : ℕ
  pub in_row : place < length es
  pub is : variable_at es place ≡ c
  pub nonzero : (coefficient_at es place).numerator ≢ pos 0

-- the form is that of the row of b with the entries es, times minus the reciprocal of c's entry; c stands in it at the place q
pub record IsForm (b c : ℕ) (es form : List Entry) (q : ℕ) : Type 0 where
  pub place : ℕ
  pub in_row : place < length es
  pub is_entering : variable_at es place ≡ c
  pub nonzero : (coefficient_at es place).numerator ≢ pos 0
  pub before : ℕ
  pub within : before ≤ length es
  pub lower : (k : ℕ) → k < before → variable_at es k < b
  pub upper : (k : ℕ) → before ≤ k → k < length es → b ≤ variable_at es k
  pub reciprocal : Ratio
  pub inverse : IsReciprocal (coefficient_at es place) reciprocal
  pub exact : reciprocal ≡ reciprocal_of (coefficient_at es place)
  pub lowest : IsFraction reciprocal
  pub form_is : form ≡ scaled (negation_of reciprocal) (zero_form before b es)
  pub fits : scaled_fits (negation_of reciprocal) (zero_form before b es) ≡ true
  pub q_is : q ≡ (if nat_lt place before then place else place + 1)

-- what the pivot of another row's form with c makes of a row
abbrev pub IsChanged : ℕ → List Entry → Row → Row → Type 0
IsChanged c form before now =
    (now.basic ≡ before.basic)
    × (IsReplaced c form before.entries.items now.entries.items ⊎ (Lacks c before.entries.items × (now.entries.items ≡ before.entries.items)))

-- the row at the place became that of c, and the others changed by its form
pub record IsPivoted (c place : ℕ) (before now : List Row) (d : Row) : Type 0 where
  pub form : List Entry
  pub q : ℕ
  pub is_form : IsForm (slice_index_or before place d).basic c (slice_index_or before place d).entries.items form q
  pub basic : (slice_index_or now place d).basic ≡ c
  pub solved : (slice_index_or now place d).entries.items ≡ without q form
  pub others : (k : ℕ) → k < length before → k ≢ place → IsChanged c form (slice_index_or before k d) (slice_index_or now k d)

-- the form of the row of b leaves the range
pub record IsFormRefused (b c : ℕ) (es : List Entry) : Type 0 where
  pub place : ℕ
  pub in_row : place < length es
  pub is_entering : variable_at es place ≡ c
  pub before : ℕ
  pub within : before ≤ length es
  pub lower : (k : ℕ) → k < before → variable_at es k < b
  pub upper : (k : ℕ) → before ≤ k → k < length es → b ≤ variable_at es k
  pub reciprocal : Ratio
  pub exact : reciprocal ≡ reciprocal_of (coefficient_at es place)
  pub lowest : IsFraction reciprocal
  pub refused : scaled_fits (negation_of reciprocal) (zero_form before b es) ≡ false

-- the row has the variable, and with a multiple of the form it leaves the range
pub record IsRowRefused (c : ℕ) (form es : List Entry) : Type 0 where
  pub place : ℕ
  pub in_row : place < length es
  pub is_entering : variable_at es place ≡ c
  pub refused : merged_fits (coefficient_at es place) es form ≡ false

-- a row of another variable than b, which leaves the range
pub record IsOtherRefused (b c : ℕ) (form : List Entry) (rows : List Row) (d : Row) : Type 0 where
  pub row : ℕ
  pub in_rows : row < length rows
  pub other : (slice_index_or rows row d).basic ≢ b
  pub refused : IsRowRefused c form (slice_index_or rows row d).entries.items

-- a number of the pivot leaves the range: one of the form, or one of another row
abbrev pub IsRefused : ℕ → ℕ → List Row → Row → Type 0
IsRefused c place rows d =
    IsFormRefused (slice_index_or rows place d).basic c (slice_index_or rows place d).entries.items
    ⊎ ((form : List Entry) × (q : ℕ) × IsForm (slice_index_or rows place d).basic c (slice_index_or rows place d).entries.items form q
    × IsOtherRefused (slice_index_or rows place d).basic c form rows d)

-- a row of another variable: with the form's multiple it stays in the range, or it lacks the variable
abbrev pub RowFits : ℕ → List Entry → List Entry → Type 0
RowFits c form es = ((i : ℕ) × (i < length es) × (variable_at es i ≡ c) × (merged_fits (coefficient_at es i) es form ≡ true)) ⊎ Lacks c es

-- every number of the pivot stays in the range
pub record IsFitting (c place : ℕ) (rows : List Row) (d : Row) : Type 0 where
  pub form : List Entry
  pub q : ℕ
  pub is_form : IsForm (slice_index_or rows place d).basic c (slice_index_or rows place d).entries.items form q
  pub others : (k : ℕ) → k < length rows → (slice_index_or rows k d).basic ≢ (slice_index_or rows place d).basic → RowFits c form (slice_index_or rows k d).entries.items

-- the form of the row at the place, tried on each row listed; the others lack the variable
pub record IsTriedPivot (c place : ℕ) (ks : List ℕ) (before mid : List Row) (d : Row) : Type 0 where
  pub form : List Entry
  pub q : ℕ
  pub is_form : IsForm (slice_index_or before place d).basic c (slice_index_or before place d).entries.items form q
  pub tried : (k : ℕ) → k < length before → Contains ks k → IsTried (slice_index_or before place d).basic c form q (slice_index_or mid k d)
  pub others : (k : ℕ) → k < length before → (Contains ks k → ⊥) → Lacks c (slice_index_or before k d).entries.items
