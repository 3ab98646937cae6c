-- The table of names by levels: what is declared, what changes it, and what is true of every table.
use Rattle.std.specs.Prelude.{◌≡◌, ◌≢◌, refl, ℕ, ◌+◌, ◌-◌, ◌^◌, ◌<◌, ◌≤◌, min, Bool, true, false, nat_lt, List, [], ◌∷◌, ◌++◌, map, take, length, replicate, filter, flat_map, Option, Some, None, All, AllPairs, Contains, codes}
use Rattle.std.specs.Coded.{Coded, code_by, coded×, coded_ℕ, coded_list}
use Rattle.smt_meaning.specs.declared.values.Sort.{Sort}
use Rattle.smt_meaning.specs.declared.values.Sort.TheVariants.{Free}
use Rattle.smt_meaning.specs.Declaration.{Declaration, Body}
use Rattle.smt_meaning.specs.declared.declarations.Rank.{Rank}
use Rattle.smt_meaning.specs.DeclarationCode.{coded_declaration}
use Rattle.smt_meaning.specs.Signature.{is_one_of, find_function, find_sort, reserved_functions, reserved_sorts, HasNoIdTwice}
use Rattle.smt_meaning.specs.Sorts.{most_symbols}
use Rattle.smt_meaning.specs.Stack.{stays}
use Rattle.smt_sorts.specs.declared.errors.NameError.{NameError}
use Rattle.smt_sorts.specs.declared.errors.NameError.TheVariants.{Reserved, AlreadyDeclared}

-- what a table is seen as
pub record Names : Type 0 where
  -- the declarations of each level in order, level 0 first
  pub levels : List (List Declaration)
  -- how many ids were given
  pub given : ℕ

abbrev pub names_code : Coded Names
names_code =
    code_by (List (List Declaration) × ℕ) (coded× (coded_list (coded_list coded_declaration)) coded_ℕ) (λ t. (t.levels, t.given)) (λ p. record { levels = p.0; given = p.1 }) (λ _. refl)

abbrev pub all_of_levels : List (List Declaration) → List Declaration
all_of_levels dss = flat_map (λ (ds : List Declaration). ds) dss

-- the declarations of all levels, in order
abbrev pub signature : Names → List Declaration
signature t = all_of_levels t.levels

-- the ids of what the levels from 0 to l declare
abbrev pub ids_up_to : ℕ → List (List Declaration) → List ℕ
ids_up_to l dss = map (λ (d : Declaration). d.id) (all_of_levels (take (l + 1) dss))

-- what has this id is declared at level l, and at none below
pub record IsLevelOf (dss : List (List Declaration)) (id l : ℕ) : Type 0 where
  pub declared : Contains (ids_up_to l dss) id
  pub least : (k : ℕ) → Contains (ids_up_to k dss) id → l ≤ k

-- ---- what changes a table

abbrev pub no_names : Names
no_names = record { levels = [] ∷ []; given = 0 }

-- the newest level gains declarations
abbrev pub on_newest : List Declaration → List (List Declaration) → List (List Declaration)
on_newest es [] = []
on_newest es (ds ∷ []) = (ds ++ es) ∷ []
on_newest es (ds ∷ fs ∷ rest) = ds ∷ on_newest es (fs ∷ rest)

-- level 0 gains declarations
abbrev pub on_base : List Declaration → List (List Declaration) → List (List Declaration)
on_base es [] = []
on_base es (ds ∷ rest) = (ds ++ es) ∷ rest

-- where declarations are global, level 0 gains them, at whatever depth; else the newest level does
abbrev pub gaining : Bool → List Declaration → List (List Declaration) → List (List Declaration)
gaining true es dss = on_base es dss
gaining false es dss = on_newest es dss

abbrev pub with_declaration : Bool → Declaration → Names → Names
with_declaration global d t = record { levels = gaining global (d ∷ []) t.levels; given = t.given + 1 }

abbrev pub with_levels : ℕ → Names → Names
with_levels n t = record t { levels = t.levels ++ replicate n [] }

abbrev pub without_levels : ℕ → Names → Names
without_levels n t = record t { levels = take (length t.levels - n) t.levels }

abbrev pub has_id_below : ℕ → Declaration → Bool
has_id_below ids d = nat_lt d.id ids

-- without the declarations whose ids are these and later ones
abbrev pub cut_to : ℕ → Names → Names
cut_to ids t = record { levels = map (λ (ds : List Declaration). filter (has_id_below ids) ds) t.levels; given = min t.given ids }

-- without any declaration; the ids that were given stay given
abbrev pub cleared : Names → Names
cleared t = record t { levels = [] ∷ [] }

-- level 0 alone, without the names that went with assertions
abbrev pub base_of : List (List Declaration) → List (List Declaration)
base_of [] = [] ∷ []
base_of (ds ∷ rest) = filter stays ds ∷ []

abbrev pub based : Names → Names
based t = record t { levels = base_of t.levels }

-- a new sort where none is given
abbrev pub sort_or_new : Option Sort → ℕ → Sort
sort_or_new None id = Free id
sort_or_new (Some s) id = s

-- the definition that a name of a term is
abbrev pub named_term : ℕ → List ℕ → Rank → Body → Declaration
named_term id n r b = record { id = id; name = n; rank = r; body = Some b; is_sort = false; is_name = true }

-- ---- names that may be declared

abbrev pub core_names : List (List ℕ)
core_names =
    codes "true" ∷ codes "false" ∷ codes "not" ∷ codes "and" ∷ codes "or" ∷ codes "xor" ∷ codes "=>" ∷ codes "=" ∷ codes "distinct" ∷ codes "ite" ∷ []

abbrev pub ints_names : List (List ℕ)
ints_names =
    codes "+" ∷ codes "-" ∷ codes "*" ∷ codes "<=" ∷ codes "<" ∷ codes ">=" ∷ codes ">" ∷ codes "div" ∷ codes "mod" ∷ codes "abs" ∷ []

pub record IsNewFunction (n : List ℕ) (ds : List Declaration) : Type 0 where
  pub unreserved : is_one_of n reserved_functions ≡ false
  pub undeclared : find_function n ds ≡ None

pub record IsNewSort (n : List ℕ) (ds : List Declaration) : Type 0 where
  pub unreserved : is_one_of n reserved_sorts ≡ false
  pub undeclared : find_sort n ds ≡ None

-- why a name may not be declared, where it is reserved or not, and declared or not
abbrev pub IsCauseOf : NameError → Bool → Bool → Type 0
IsCauseOf Reserved reserved declared = reserved ≡ true
IsCauseOf AlreadyDeclared reserved declared = (reserved ≡ false) × (declared ≡ true)

-- why a name may not be declared, where it is reserved or not, and something is found under it
abbrev pub IsCause : NameError → Bool → Option Declaration → Type 0
IsCause Reserved reserved found = reserved ≡ true
IsCause AlreadyDeclared reserved None = ⊥
IsCause AlreadyDeclared reserved (Some d) = reserved ≡ false

-- ---- what is true of every table

-- they are not two functions or two sorts of one name
abbrev pub AreApart : Declaration → Declaration → Type 0
AreApart d e = d.name ≡ e.name → d.is_sort ≢ e.is_sort

pub record IsTable (t : Names) : Type 0 where
  pub nonempty : 0 < length t.levels
  pub few_levels : length t.levels < 2 ^ 32
  pub few_ids : t.given ≤ most_symbols
  pub ids_given : All (λ (d : Declaration). d.id < t.given) (signature t)
  pub ids_apart : HasNoIdTwice (signature t)
  pub names_apart : AllPairs AreApart (signature t)

-- since it was a table t, it has gained declarations on its newest level
pub record HasGained (t now : Names) : Type 0 where
  pub table : IsTable t
  pub gained : List Declaration
  pub levels : now.levels ≡ on_newest gained t.levels
  pub all : signature now ≡ signature t ++ gained
  pub later : All (λ (d : Declaration). t.given ≤ d.id) gained
  pub given : t.given ≤ now.given
