-- Interpretations of a signature, and the tables that a kept model is (SMT-LIB 2.6, sections 5.3 and 4.2.6).
use Rattle.std.specs.Prelude.{◌≡◌, Bool, true, false, ◌&&◌, List, [], ◌∷◌, nat_eq, IsTrue, All, ◌≢◌, AllPairs, MatchBool, if◌then◌else◌}
use Rattle.smt_meaning.specs.declared.values.Value.{Value}
use Rattle.smt_meaning.specs.declared.values.Value.TheVariants.{Truth, Whole, Element}
use Rattle.smt_meaning.specs.declared.values.Sort.{Sort}
use Rattle.smt_meaning.specs.declared.values.Sort.TheVariants.{Bool as Truths, Int as Ints, Free}
use Rattle.smt_meaning.specs.declared.values.Row.{Row}
use Rattle.smt_meaning.specs.declared.values.Table.{Table}
use Rattle.smt_meaning.specs.Declaration.{Declaration}
use Rattle.smt_meaning.specs.Term.{Interpretation, same_value}
use Rattle.smt_meaning.specs.Signature.{is_symbol}

abbrev pub has_sort : Value → Sort → Bool
has_sort (Truth b) Truths = true
has_sort (Whole n) Ints = true
has_sort (Element e) (Free s) = true
has_sort _ _ = false

abbrev pub have_sorts : List Value → List Sort → Bool
have_sorts [] [] = true
have_sorts (v ∷ vs) (s ∷ ss) = has_sort v s && have_sorts vs ss
have_sorts _ _ = false

-- a declared function takes values of its arguments' sorts to a value of its result's sort
abbrev pub IsFunctionFor : Interpretation → Declaration → Type 0
IsFunctionFor I d =
    IsTrue (is_symbol d) → (vs : List Value) → IsTrue (have_sorts vs d.rank.arguments) → IsTrue (has_sort (I d.id vs) d.rank.result)

unfoldable pub Interprets : List Declaration → Interpretation → Type 0
Interprets ds I = All (IsFunctionFor I) ds

pub interprets : (ds : List Declaration) (I : Interpretation) → All (IsFunctionFor I) ds → Interprets ds I
unfolding Interprets
interprets ds I h = h

pub interprets_each : (ds : List Declaration) (I : Interpretation) → Interprets ds I → All (IsFunctionFor I) ds
unfolding Interprets
interprets_each ds I h = h

-- ---- tables

abbrev pub same_values : List Value → List Value → Bool
same_values [] [] = true
same_values (v ∷ vs) (w ∷ ws) = same_value v w && same_values vs ws
same_values _ _ = false

-- the value of the row with these arguments, and the default where there is none
abbrev pub look : List Row → Value → List Value → Value
look [] default vs = default
look (r ∷ rs) default vs = if same_values vs r.arguments then r.value else look rs default vs

-- the interpretation that a list of tables is
abbrev pub meaning : List Table → Interpretation
meaning [] f vs = Truth false
meaning (t ∷ ts) f vs = if nat_eq f t.symbol then look t.rows t.default vs else meaning ts f vs

-- a table of a declared function: no two rows with equal arguments, and no row where the function has no arguments
pub record IsTableFor (t : Table) (d : Declaration) : Type 0 where
  pub symbol : t.symbol ≡ d.id
  pub rows : All (λ (r : Row). IsTrue (have_sorts r.arguments d.rank.arguments) × IsTrue (has_sort r.value d.rank.result)) t.rows
  pub default : IsTrue (has_sort t.default d.rank.result)
  pub no_two : AllPairs (λ (r s : Row). r.arguments ≢ s.arguments) t.rows
  pub constants : d.rank.arguments ≡ [] → t.rows ≡ []

-- one table for each declared function, in the order of declaration
abbrev pub AreTablesFor : List Declaration → List Table → Type 0
AreTablesFor [] [] = Unit {0}
AreTablesFor [] (t ∷ ts) = ⊥
AreTablesFor (d ∷ ds) [] = (IsTrue (is_symbol d) → ⊥) × AreTablesFor ds []
AreTablesFor (d ∷ ds) (t ∷ ts) =
    MatchBool (is_symbol d) (IsTableFor t d × AreTablesFor ds ts) (AreTablesFor ds (t ∷ ts))
