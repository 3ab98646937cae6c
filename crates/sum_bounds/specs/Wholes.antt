-- Bounds that no whole numbers meet.
use Rattle.std.specs.Prelude.{◌≡◌, ℕ, List, ℤ, negsuc, All, Contains}
use Rattle.fraction128.specs.declared.ratio.Ratio.{Ratio}
use Rattle.fraction128.specs.Number.{whole, unreduced_sum, unreduced_product}
use Rattle.fraction128.specs.declared.Summand.{Summand}
use Rattle.fraction128.specs.declared.Entry.{Entry}
use Rattle.fraction128.specs.declared.TableRow.{TableRow}
use Rattle.fraction128.specs.declared.Column.{Column}
use Rattle.fraction128.specs.declared.Bound.{Bound}
use Rattle.fraction128.specs.declared.Side.TheVariants.{Lower, Upper}
use Rattle.fraction128.specs.Grid.{MeetsRow, row_value}
use Rattle.sum_bounds.specs.Progressions.{State as Progression, Has}
use Rattle.literals.specs.Signed.{Signed}
use Rattle.search_port.specs.State.{Reading}
use Rattle.search_port.specs.Valid.{IsValid}
use Rattle.simplex_steps.specs.State.{column_in}
use Rattle.simplex_steps.specs.Conflict.{Stands}
use Rattle.simplex.specs.State.{FixedAt}
use Rattle.sum_bounds.specs.Bounds.{Told, Meets, AreComplements}
use Rattle.sum_bounds.specs.Clauses.{IsSaid}

-- whatever whole numbers the terms have, not all of these bounds hold
abbrev pub NoneWhole : (ℕ → List Summand) → List Told → Type 0
NoneWhole sum bounds = (f : ℕ → ℤ) → All (Meets sum (λ term. whole (f term))) bounds → ⊥

-- the literals say that some bounds that were told, which no whole numbers meet, don't all hold
abbrev pub IsWholeConflict : (ℕ → List Summand) → List Told → List Signed → Type 0
IsWholeConflict sum = AreComplements (NoneWhole sum)

-- where the bounds told are what their literals say, each such clause is true under every interpretation
abbrev pub WholeConflictsAreValid : Type 0
WholeConflictsAreValid =
    (r : Reading) (level : ℕ) (sum : ℕ → List Summand) (told : List Told) (ls : List Signed) → All (IsSaid r sum) told → IsWholeConflict sum told ls → IsValid r level ls

-- ---- rows

abbrev pub wholes : (ℕ → ℤ) → ℕ → Ratio
wholes z i = whole (z i)

-- the variable has the number that its bounds leave alone, where they do
abbrev pub Keeps : List Column → (ℕ → ℤ) → ℕ → Type 0
Keeps cs z i = (k : ℤ) → FixedAt (column_in cs i) k → z i ≡ k

abbrev pub KeepsEach : List Column → (ℕ → ℤ) → List Entry → Type 0
KeepsEach cs z es = All (λ (e : Entry). Keeps cs z e.variable) es

-- the progression has each value of the entries at whole numbers that keep to the bounds
abbrev pub HasSums : List Column → List Entry → Progression → Type 0
HasSums cs es p = (z : ℕ → ℤ) → KeepsEach cs z es → Has p (row_value (wholes z) es)

-- and each value of the entries less the basic variable
abbrev pub HasDifferences : List Column → TableRow → Progression → Type 0
HasDifferences cs r p =
    (z : ℕ → ℤ) → Keeps cs z r.basic → KeepsEach cs z r.entries → Has p (unreduced_sum (unreduced_product (whole (negsuc 0)) (wholes z r.basic)) (row_value (wholes z) r.entries))

-- no whole numbers that keep to the bounds meet the row
abbrev pub LacksWholes : List Column → TableRow → Type 0
LacksWholes cs r = (z : ℕ → ℤ) → Keeps cs z r.basic → KeepsEach cs z r.entries → MeetsRow (wholes z) r → ⊥

-- ---- the bounds of a row's fixed variables

abbrev pub lower_at : ℕ → ℤ → Bound
lower_at i k = record { variable = i; side = Lower; number = k }

abbrev pub upper_at : ℕ → ℤ → Bound
upper_at i k = record { variable = i; side = Upper; number = k }

-- where the variable is fixed, both of its bounds are there
abbrev pub HasBoth : List Column → List Bound → ℕ → Type 0
HasBoth cs bs i = (k : ℤ) → FixedAt (column_in cs i) k → Contains bs (lower_at i k) × Contains bs (upper_at i k)

-- bounds that stand, with those of a variable more
pub record AddsBoth (cs : List Column) (i : ℕ) (before now : List Bound) : Type 0 where
  pub keeps : (b : Bound) → Contains before b → Contains now b
  pub stand : All (Stands cs) before → All (Stands cs) now
  pub has : HasBoth cs now i

-- bounds that stand, with both of each fixed variable of the row
pub record AreBounds (cs : List Column) (r : TableRow) (bs : List Bound) : Type 0 where
  pub stand : All (Stands cs) bs
  pub basic : HasBoth cs bs r.basic
  pub entries : All (λ (e : Entry). HasBoth cs bs e.variable) r.entries
