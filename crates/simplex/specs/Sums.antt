-- Columns that stand for sums of terms: the solutions of the rows are the valuations that give each its sum's value.
use Rattle.std.specs.Prelude.{◌≡◌, ◌≢◌, ℕ, ◌<◌, List, [], ◌∷◌, ◌++◌, length, AllPairs}
use Rattle.fraction128.specs.declared.ratio.Ratio.{Ratio}
use Rattle.fraction128.specs.Number.{SameNumber}
use Rattle.fraction128.specs.declared.Summand.{Summand}
use Rattle.fraction128.specs.declared.TableRow.{TableRow}
use Rattle.fraction128.specs.declared.Column.{Column}
use Rattle.fraction128.specs.Grid.{MeetsRows, leaf}
use Rattle.fraction128.specs.Lines.{sum_value, IsPositive, AreIndependent}
use Rattle.tableau.specs.declared.sum.Part.{Part}
use Rattle.tableau.specs.Table.{Table, IsTable}
use Rattle.tableau.specs.Written.{AreParts, parts_row}
use Rattle.simplex_steps.specs.State.{column_in, grid_of, IsSolution}
use Rattle.simplex_steps.specs.Run.{IsRun}

-- the value of each column's sum
abbrev pub column_values : (ℕ → Ratio) → List Column → ℕ → Ratio
column_values w cs i = sum_value w (column_in cs i).sum

-- v and w agree where a column stands for a term alone
abbrev pub AgreeOnLeaves : List Column → (ℕ → Ratio) → (ℕ → Ratio) → Type 0
AgreeOnLeaves cs v w = (j term : ℕ) → j < length cs → (column_in cs j).sum ≡ leaf term → SameNumber (v j) (w term)

-- the solutions of the rows are exactly the valuations that give each column its sum's value
pub record IsMeant (rows : List TableRow) (cs : List Column) : Type 0 where
  pub solved : (w : ℕ → Ratio) → IsPositive w → MeetsRows rows (column_values w cs)
  pub determined : (v w : ℕ → Ratio) → IsPositive v → IsPositive w → MeetsRows rows v → AgreeOnLeaves cs v w → (i : ℕ) → i < length cs → SameNumber (v i) (column_values w cs i)

-- the parts are the sum's summands in order, with the columns of their terms
abbrev pub AreMatched : List Column → List Summand → List Part → Type 0
AreMatched cs [] [] = Unit {0}
AreMatched cs [] (q ∷ qs) = ⊥
AreMatched cs (p ∷ ps) [] = ⊥
AreMatched cs (p ∷ ps) (q ∷ qs) = (q.coefficient ≡ p.coefficient) × ((column_in cs q.variable).sum ≡ leaf p.term) × AreMatched cs ps qs

abbrev pub NoneMean : Type 0
NoneMean = IsMeant [] []

abbrev pub LeavesKeep : Type 0
LeavesKeep = (t : Table) (cs : List Column) (c : Column) (term : ℕ) → IsTable t → length cs ≡ t.count → IsMeant t.rows cs → c.sum ≡ leaf term → IsMeant t.rows (cs ++ c ∷ [])

abbrev pub RowsKeep : Type 0
RowsKeep =
    (t : Table) (cs : List Column) (c : Column) (parts : List Part) → IsTable t → length cs ≡ t.count → IsMeant t.rows cs → AreParts t.count parts → AreMatched cs c.sum parts
    → IsMeant (t.rows ++ parts_row t.count t.rows parts ∷ []) (cs ++ c ∷ [])

abbrev pub RunsKeep : Type 0
RunsKeep = (t : Table) (cs : List Column) (u : Table) (ds : List Column) (n : ℕ) → IsMeant t.rows cs → IsRun t cs u ds n → IsMeant u.rows ds

-- no sum has two variables
abbrev pub HaveOwnSums : List Column → Type 0
HaveOwnSums cs = AllPairs (λ (c d : Column). c.sum ≢ d.sum) cs

-- where columns stand for sums of terms, those that aren't basic are independent
abbrev pub MeantAreFree : Type 0
MeantAreFree = (t : Table) (cs : List Column) → IsTable t → IsSolution t cs → IsMeant t.rows cs → HaveOwnSums cs → AreIndependent (grid_of t cs)
