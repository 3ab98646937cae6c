-- What is read of the tokens of a proof, one s-expression after another.
use Rattle.std.specs.Prelude.{◌≡◌, ℕ, ◌+◌, ◌<◌, ◌≤◌, Bool, true, false, ◌&&◌, List, [], ◌∷◌, length, Option, Some, None}
use Rattle.std.specs.Borrow.{Bor}
use Rattle.smt_meaning.specs.declared.tokens.Token.{Token}
use Rattle.smt_meaning.specs.declared.tokens.Token.TheVariants.{Numeral, Symbol}
use Rattle.smt_meaning.specs.declared.tokens.TokenView.{TokenView}
use Rattle.smt_meaning.specs.Sexp.{Sexp, Sexps, word, group, end, ◌▸◌}
use Rattle.smt_meaning.specs.Seen.{seen}
use Rattle.look_ahead.specs.Ahead.{ahead, IsList}
use Rattle.proof_read.specs.declared.read_parts.Part.{Part}
use Rattle.proof_read.specs.declared.read_parts.Part.TheVariants.{End, Word, List as ListUpTo}
use Rattle.proof_read.specs.declared.read_parts.Progress.{Progress}

-- ---- one token

-- what stands at a place
abbrev pub IsPart : List Token → ℕ → Part → Type 0
IsPart ts i End = ahead ts i ≡ end
IsPart ts i (Word t) = (i < length ts) × (ahead ts i ≡ word (seen t) ▸ ahead ts (i + 1))
IsPart ts i (ListUpTo close) = IsList ts i close

abbrev pub is_end : Sexps → Bool
is_end end = true
is_end (x ▸ ss) = false

-- the first of a list, read in one way
abbrev pub first_by : {A : Type 0} → (Sexp → Option A) → Sexps → Option A
first_by f end = None
first_by f (x ▸ ss) = f x

abbrev pub parts : Sexp → Option Sexps
parts (group ss) = Some ss
parts (word t) = None

abbrev pub numeral : Sexp → Option (List ℕ)
numeral (word (Numeral cs)) = Some cs
numeral _ = None

abbrev pub name : Sexp → Option (List ℕ)
name (word (Symbol n)) = Some n
name _ = None

-- one token further
abbrev pub stepped : Progress → Progress
stepped p = record p { place = p.place + 1 }

-- inside a list that ends at a place
abbrev pub Enters : List Token → Progress → Progress → Option ℕ → Type 0
Enters ts old new None = (first_by parts (ahead ts old.place) ≡ None) × (new ≡ old)
Enters ts old new (Some close) = IsList ts old.place close × (new ≡ stepped old)

-- past a token
pub record Passes (ts : List Token) (old new : Progress) (token : Token) : Type 0 where
  pub within : old.place < length ts
  pub is : ahead ts old.place ≡ word token ▸ ahead ts (old.place + 1)
  pub stepped_is : new ≡ stepped old

abbrev pub one_word : Sexp → Option Token
one_word (word t) = Some t
one_word (group ss) = None

abbrev pub HasWord : List Token → Progress → Progress → Option TokenView → Type 0
HasWord ts old new None = first_by one_word (ahead ts old.place) ≡ None
HasWord ts old new (Some t) = Passes ts old new (seen t)

abbrev pub HasDigits : List Token → Progress → Progress → Option (Bor (List ℕ)) → Type 0
HasDigits ts old new None = first_by numeral (ahead ts old.place) ≡ None
HasDigits ts old new (Some cs) = Passes ts old new (Numeral cs.now)

abbrev pub HasName : List Token → Progress → Progress → Option (Bor (List ℕ)) → Type 0
HasName ts old new None = first_by name (ahead ts old.place) ≡ None
HasName ts old new (Some n) = Passes ts old new (Symbol n.now)

-- inside a list that ends at a place, past its first word
abbrev pub head_name : Sexp → Option (List ℕ)
head_name (group (word (Symbol n) ▸ ss)) = Some n
head_name _ = None

pub record IsNamedList (ts : List Token) (old new : Progress) (close : ℕ) (n : List ℕ) : Type 0 where
  pub middle : Progress
  pub list : IsList ts old.place close
  pub inside : middle ≡ stepped old
  pub named : Passes ts middle new (Symbol n)

abbrev pub EntersNamed : List Token → Progress → Progress → Option (ℕ × Bor (List ℕ)) → Type 0
EntersNamed ts old new None = first_by head_name (ahead ts old.place) ≡ None
EntersNamed ts old new (Some p) = IsNamedList ts old new p.0 p.1.now

-- what is read where nothing is left
abbrev pub alone : {A : Type 0} → Sexps → A → Option A
alone end a = Some a
alone (x ▸ ss) a = None

-- ---- values

-- whatever it is
abbrev pub any : {A : Type 0} → A → Bool
any a = true

abbrev pub every : {A : Type 0} → (A → Bool) → List A → Bool
every p [] = true
every p (a ∷ rest) = p a && every p rest

-- what was written is noted: whether its numbers are in the range, and whether what it names may be there; where all is so up to here, it is the value
pub record Notes {A : Type 0} (fits near : A → Bool) (old : Progress) (v : A) (new : Progress) (written : A) : Type 0 where
  pub fits_is : new.fits ≡ (old.fits && fits written)
  pub near_is : new.near ≡ (old.near && near written)
  pub same : new.fits ≡ true → new.near ≡ true → v ≡ written

-- the next s-expression of a list is read
pub record Takes {A : Type 0} (ts : List Token) (f : Sexp → Option A) (fits near : A → Bool) (old : Progress) (v : A) (new : Progress) : Type 0 where
  pub order : old.place < new.place
  pub within : new.place ≤ length ts
  pub part : Sexp
  pub is : ahead ts old.place ≡ part ▸ ahead ts new.place
  pub written : A
  pub read : f part ≡ Some written
  pub notes : Notes fits near old v new written

abbrev pub Reads : {A : Type 0} → List Token → (Sexp → Option A) → (A → Bool) → (A → Bool) → Progress → Progress → Option A → Type 0
Reads ts f fits near old new None = first_by f (ahead ts old.place) ≡ None
Reads ts f fits near old new (Some v) = Takes ts f fits near old v new

-- all that is left of a list is read
pub record Fills {A : Type 0} (ts : List Token) (f : Sexps → Option A) (fits near : A → Bool) (old : Progress) (v : A) (new : Progress) : Type 0 where
  pub written : A
  pub read : f (ahead ts old.place) ≡ Some written
  pub notes : Notes fits near old v new written

abbrev pub ReadsRest : {A : Type 0} → List Token → (Sexps → Option A) → (A → Bool) → (A → Bool) → Progress → Progress → Option A → Type 0
ReadsRest ts f fits near old new None = f (ahead ts old.place) ≡ None
ReadsRest ts f fits near old new (Some v) = Fills ts f fits near old v new
