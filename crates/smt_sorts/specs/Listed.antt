-- How declarations are kept: in order, each with its level, and found by the hashes of their names.
use Rattle.std.specs.Prelude.{◌≡◌, refl, ℕ, ◌/◌, ◌^◌, ◌<◌, ◌≤◌, ◌&&◌, Bool, not, List, [], ◌∷◌, ◌++◌, map, take, drop, insert, length, Option, Some, None, bytes_eq, nat_eq, if◌then◌else◌, AllPairs, get_or}
use Rattle.std.specs.Coded.{Coded, code_by, coded×, coded_ℕ, coded_list}
use Rattle.term_store.specs.Hash.{words_state}
use Rattle.smt_meaning.specs.Declaration.{Declaration}
use Rattle.smt_meaning.specs.DeclarationCode.{coded_declaration}
use Rattle.smt_sorts.specs.declared.entries.Kind.{Kind}
use Rattle.smt_sorts.specs.declared.entries.Kind.TheVariants.{Function, Sort}
use Rattle.smt_sorts.specs.Names.{AreApart}

-- the declarations in order, and their levels
pub record Listed : Type 0 where
  pub declarations : List Declaration
  pub levels : List ℕ

abbrev pub listed_code : Coded Listed
listed_code =
    code_by (List Declaration × List ℕ) (coded× (coded_list coded_declaration) (coded_list coded_ℕ)) (λ a. (a.declarations, a.levels)) (λ p. record { declarations = p.0; levels = p.1 }) (λ _. refl)

-- the first of them
abbrev pub first_listed : ℕ → Listed → Listed
first_listed n a = record { declarations = take n a.declarations; levels = take n a.levels }

-- one more at a place
abbrev pub inserted : ℕ → Declaration → ℕ → Listed → Listed
inserted n d l a = record { declarations = insert a.declarations n d; levels = insert a.levels n l }

-- without those from one place to before another
abbrev pub without_range : ℕ → ℕ → Listed → Listed
without_range m n a = record {
  declarations = take m a.declarations ++ drop n a.declarations;
  levels = take m a.levels ++ drop n a.levels;
}

-- ---- names

abbrev pub is_of_kind : Kind → Declaration → Bool
is_of_kind Function d = not d.is_sort
is_of_kind Sort d = d.is_sort

abbrev pub is_named : Kind → List ℕ → Declaration → Bool
is_named k n d = bytes_eq n d.name && is_of_kind k d

abbrev pub kind_of : Bool → Kind
kind_of is_sort = if is_sort then Sort else Function

-- the first declaration that passes a test
abbrev pub first_that : (Declaration → Bool) → List Declaration → Option Declaration
first_that p [] = None
first_that p (d ∷ ds) = if p d then Some d else first_that p ds

abbrev pub has_id : ℕ → Declaration → Bool
has_id id d = nat_eq id d.id

abbrev pub name_if_sort : Declaration → List ℕ
name_if_sort d = if d.is_sort then d.name else []

-- the upper half of the last state
unfoldable pub name_hash : List ℕ → ℕ
name_hash n = words_state 5 n / 2 ^ 32

abbrev pub hash_of : Declaration → ℕ
hash_of d = name_hash d.name

-- the first of them stand in the index
pub record IsListed (ds : List Declaration) (levels hashes : List ℕ) (indexed : ℕ) : Type 0 where
  pub size : length levels ≡ length ds
  pub apart : AllPairs AreApart ds
  pub within : indexed ≤ length ds
  pub hashed : hashes ≡ map hash_of (take indexed ds)

-- the declaration at a place has this id
pub record IsPlaceOf (ds : List Declaration) (id place : ℕ) : Type 0 where
  pub within : place < length ds
  pub id_is : (d : Declaration) → (get_or ds place d).id ≡ id
