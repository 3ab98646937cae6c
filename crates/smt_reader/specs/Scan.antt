-- How far bytes were scanned, and what was found in them.
use Rattle.std.specs.Prelude.{◌≡◌, ◌<◌, ◌≤◌, ◌+◌, ◌^◌, ℕ, List, [], ◌∷◌, ◌++◌, Bool, true, false, length, drop, slice_range, Option, Some, None, ⊤}
use Rattle.smt_meaning.specs.Reading.{lexeme, token, nothing, shapes, IsSExpr, Lexes, Opens, HasFault, Answer, IsSettled, MayFollow}
use Rattle.smt_meaning.specs.declared.tokens.Token.{Token}
use Rattle.smt_reader.specs.declared.part.Part.{Part}
use Rattle.smt_reader.specs.declared.scan.Scan.{Scan}
use Rattle.smt_reader.specs.declared.scan.Found.{Found}
use Rattle.smt_reader.specs.declared.scan.Found.TheVariants.{Ready, Fault, NeedMore, End}
use Rattle.smt_reader.specs.Parts.{goes_on, part_token, IsPart}

-- The first of these tokens begins at this place in the bytes, whatever bytes may follow.
abbrev pub BeginsAt : List ℕ → List Token → ℕ → Type 0
BeginsAt bytes [] from = ⊤
BeginsAt bytes (t ∷ ts) from = (top : List ℕ) × (after : List ℕ) × (from + length top ≡ length bytes)
    × ((more : List ℕ) → lexeme (bytes ++ more) ≡ token (top ++ more) t (after ++ more))

-- The bytes are these tokens, then the start of a token that was read up to this part, and then what is left, whatever bytes may follow.
pub record Stands (bytes : List ℕ) (tokens : List Token) (depth from : ℕ) (part : Part) (start content left : List ℕ) : Type 0 where
  pub opens : Opens 0 (shapes tokens) depth
  pub begins : BeginsAt bytes tokens from
  pub tail : List ℕ
  pub lexes : (more : List ℕ) → Lexes (bytes ++ more) tokens (tail ++ more)
  pub goes : (more : List ℕ) → lexeme (tail ++ more) ≡ goes_on part start content (left ++ more)
  pub is_part : IsPart part start

-- The bytes of the token that was read in part.
abbrev pub start_of : List ℕ → Scan → List ℕ
start_of bytes s = slice_range bytes s.start s.looked

-- The bytes were scanned so far.
pub record IsScan (bytes : List ℕ) (s : Scan) : Type 0 where
  pub within : s.looked ≤ length bytes
  pub begun : s.start ≤ s.looked
  pub stands : Stands bytes s.tokens s.depth s.from s.part (start_of bytes s) s.content.items (drop s.looked bytes)

-- The token that was read in part ends, and the bytes go on from a place, whatever bytes may follow.
pub record EndsAt (bytes : List ℕ) (s : Scan) (next : ℕ) : Type 0 where
  pub t : Token
  pub first : List ℕ
  pub is : part_token s.part (start_of bytes s) s.content.items ≡ Some t
  pub ends : (more : List ℕ) → goes_on s.part (start_of bytes s) s.content.items (drop s.looked bytes ++ more) ≡ token (first ++ more) t (drop next bytes ++ more)
  pub onward : s.looked ≤ next
  pub within : next ≤ length bytes

-- No answer is settled, wherever the bytes stand.
abbrev pub IsUnsettled : List ℕ → Type 0
IsUnsettled bytes = (place : ℕ) → (a : Answer) → IsSettled (record { place = place; bytes = bytes; finished = false }) a → ⊥

-- What was found is so, whatever bytes may follow. A place is counted from the first of the bytes.
abbrev pub Finds : List ℕ → Bool → Found → Type 0
Finds bytes finished (Ready s used) = IsSExpr s × (0 < used) × (used ≤ length bytes)
    × ((more : List ℕ) → MayFollow finished more → Lexes (bytes ++ more) s (drop used bytes ++ more))
Finds bytes finished (Fault kind at) = (from : List ℕ) × (at + length from ≡ length bytes)
    × ((more : List ℕ) → MayFollow finished more → HasFault kind (bytes ++ more) (from ++ more))
Finds bytes finished NeedMore = (finished ≡ false) × IsUnsettled bytes
Finds bytes finished End = (finished ≡ true) × (lexeme bytes ≡ nothing)

-- Behind an s-expression the scan begins anew. Else it stands where it stood, or further on.
abbrev pub Keeps : List ℕ → Found → Scan → Type 0
Keeps bytes (Ready s used) new = (unread : List ℕ) → IsScan unread new
Keeps bytes (Fault kind at) new = IsScan bytes new
Keeps bytes NeedMore new = IsScan bytes new
Keeps bytes End new = IsScan bytes new

-- A scan went on by a byte or a token.
pub record Goes (bytes : List ℕ) (old new : Scan) : Type 0 where
  pub scan : IsScan bytes new
  pub onward : old.looked + length old.tokens < new.looked + length new.tokens

-- What was found is so, whether more bytes may follow or not; or the scan went on.
abbrev pub Comes : List ℕ → Scan → Option Found → Scan → Type 0
Comes bytes old None new = Goes bytes old new
Comes bytes old (Some found) new = ((finished : Bool) → Finds bytes finished found) × Keeps bytes found new

-- What a reader keeps: of these bytes, of which the first stands at the place base, so many are read, and the others were scanned so far.
pub record IsReading (bytes : List ℕ) (base at : ℕ) (s : Scan) : Type 0 where
  pub within : at ≤ length bytes
  pub room : base + length bytes < 2 ^ 64
  pub scan : IsScan (drop at bytes) s
