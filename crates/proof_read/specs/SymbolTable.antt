-- The first function of each name.
use Rattle.std.specs.Prelude.{◌≡◌, ℕ, List, not, ◌&&◌, Option, Some, None, bytes_eq, if◌then◌else◌}
use Rattle.std.specs.Option.{option_map}
use Rattle.smt_meaning.specs.Declaration.{Declaration}
use Rattle.smt_meaning.specs.Signature.{find_function}
use Rattle.term_store.specs.Newest.{newest_named, hashes_of}
use Rattle.proof_read.specs.declared.symbols.Function.{Function}

abbrev pub name_of : Function → List ℕ
name_of f = f.declaration.now.name

-- the function of a name among those that are filed
abbrev pub filed : List ℕ → List Function → Option Declaration
filed n fs = option_map (λ (f : Function). f.declaration.now) (newest_named name_of n fs)

-- the first function of each name is filed, by its hash
pub record Files (ds : List Declaration) (fs : List Function) (hashes : List ℕ) : Type 0 where
  pub hashed : hashes ≡ hashes_of name_of fs
  pub found : (n : List ℕ) → filed n fs ≡ find_function n ds

-- where none of its name is filed
abbrev pub or_this : List ℕ → Declaration → Option Declaration → Option Declaration
or_this n d (Some e) = Some e
or_this n d None = if bytes_eq n d.name && not d.is_sort then Some d else None

pub record FilesMore (old : List Function) (d : Declaration) (new : List Function) (hashes : List ℕ) : Type 0 where
  pub hashed : hashes ≡ hashes_of name_of new
  pub found : (n : List ℕ) → filed n new ≡ or_this n d (filed n old)
