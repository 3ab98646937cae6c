-- Rows as lists of entries: multiples and sums of them.
use Rattle.std.specs.Prelude.{◌+◌, negsuc, slice_index_or, length, ◌≡◌, ℕ, ◌<◌, nat_lt, List, [], ◌∷◌, ◌++◌, pos, if◌then◌else◌, take, drop}
use Rattle.std.specs.declared.cmp.Ordering.{Ordering}
use Rattle.std.specs.declared.cmp.Ordering.TheVariants.{Less, Equal, Greater}
use Rattle.fraction128.specs.declared.ratio.Ratio.{Ratio}
use Rattle.fraction128.specs.Listed.{product_of}
use Rattle.fraction128.specs.declared.Entry.{Entry}
use Rattle.fraction128.specs.Number.{whole, is_zero}
use Rattle.fraction128.specs.Listed.{fused}

abbrev pub entry : ℕ → Ratio → Entry
entry i x = record { variable = i; coefficient = x }

-- each coefficient times t
abbrev pub scaled : Ratio → List Entry → List Entry
scaled t [] = []
scaled t (e ∷ es) = entry e.variable (product_of e.coefficient t) ∷ scaled t es

-- a times each coefficient
abbrev pub multiplied : Ratio → List Entry → List Entry
multiplied a [] = []
multiplied a (e ∷ es) = entry e.variable (product_of a e.coefficient) ∷ multiplied a es

abbrev pub unless_none : Entry → List Entry → List Entry
unless_none e es = if is_zero e.coefficient then es else e ∷ es

-- x before the merging of what is left with a times zs
abbrev pub merged_onto : Ratio → Entry → (List Entry → List Entry) → List Entry → List Entry
merged_onto a x rest [] = x ∷ rest []
merged_onto a x rest (z ∷ zs) =
    if nat_lt x.variable z.variable then x ∷ rest (z ∷ zs)
    else if nat_lt z.variable x.variable then entry z.variable (product_of a z.coefficient) ∷ merged_onto a x rest zs
    else unless_none (entry x.variable (fused x.coefficient a z.coefficient)) (rest zs)

-- two ascending lists, the second times a, added up
abbrev pub merged : Ratio → List Entry → List Entry → List Entry
merged a [] zs = multiplied a zs
merged a (x ∷ xs) zs = merged_onto a x (merged a xs) zs

-- what one step of a merge appends, by how the variables compare
abbrev pub MergeStep : List Entry → List Entry → Ratio → Entry → Entry → Ordering → Type 0
MergeStep before now a x z Less = (x.variable < z.variable) × (now ≡ before ++ x ∷ [])
MergeStep before now a x z Greater = (z.variable < x.variable) × (now ≡ before ++ entry z.variable (product_of a z.coefficient) ∷ [])
MergeStep before now a x z Equal = (x.variable ≡ z.variable) × (now ≡ before ++ unless_none (entry x.variable (fused x.coefficient a z.coefficient)) [])

-- ---- places

abbrev pub entry_at : List Entry → ℕ → Entry
entry_at es i = slice_index_or es i (entry 0 (whole (pos 0)))

abbrev pub variable_at : List Entry → ℕ → ℕ
variable_at es i = (entry_at es i).variable

abbrev pub coefficient_at : List Entry → ℕ → Ratio
coefficient_at es i = (entry_at es i).coefficient

-- the variables stand in ascending order
pub record IsAscending (es : List Entry) : Type 0 where
  pub ascends : (i j : ℕ) → i < j → j < length es → variable_at es i < variable_at es j

-- the entries of a row less its basic variable, which comes at a place
abbrev pub zero_form : ℕ → ℕ → List Entry → List Entry
zero_form p b es = take p es ++ entry b (whole (negsuc 0)) ∷ drop p es

abbrev pub without : ℕ → List Entry → List Entry
without q es = take q es ++ drop (q + 1) es
