-- What a pool stands on, and how that grows.
use Rattle.std.specs.Prelude.{◌≡◌, ℕ, ◌+◌, ◌<◌, Bool, false, ◌||◌, ◌==◌, List, [], ◌∷◌, ◌++◌, length, take, ℤ, pos, negsuc, All, IsTrue}
use Rattle.smt_meaning.specs.Declaration.{Declaration}
use Rattle.smt_meaning.specs.declared.clauses.Clause.{Clause}
use Rattle.smt_meaning.specs.Term.{Tree, Interpretation}
use Rattle.smt_meaning.specs.Interpretation.{Interprets}
use Rattle.smt_meaning.specs.Stack.{Frame, Assertion, Holds, signature_of, up_to, on_top, with_declared, pushed}
use Rattle.smt_meaning.specs.Clause.{ClauseTrue, clause_symbols, places}
use Rattle.smt_meaning.specs.Follows.{declared_ids}
use Rattle.race_model.specs.declared.event.Addition.{Addition}
use Rattle.race_model.specs.declared.event.Event.{Event}
use Rattle.race_model.specs.declared.event.Event.TheVariants.{Assert}
use Rattle.race_model.specs.Base.{Base}
use Rattle.race_model.specs.Race.{Allowed, after, entries_below}
use Rattle.race_model.specs.Shelves.{ShelfState, racing}

-- the first n levels
abbrev pub cut_base : ℕ → Base → Base
cut_base n b = record b { frames = take n b.frames }

-- what a stack gains
pub data Growth : Type 0 where
  levels : (count : ℕ) → Growth
  -- declarations, on level 0 where they are global, else on the newest level
  declarations : (global : Bool) (declared : List Declaration) → Growth
  -- declarations and assertions, on the newest level
  members : (declared : List Declaration) (asserted : List Assertion) → Growth

abbrev pub grown : List Growth → List Frame → List Frame
grown [] fs = fs
grown (levels n ∷ gs) fs = grown gs (pushed n fs)
grown (declarations b ds ∷ gs) fs = grown gs (with_declared b ds fs)
grown (members ds xs ∷ gs) fs = grown gs (on_top ds xs fs)

-- by pushes, declarations and assertions the one becomes the other; the list of trees may have gone on
pub record Grows (b c : Base) : Type 0 where
  pub steps : List Growth
  pub frames : c.frames ≡ grown steps b.frames
  pub more : List Tree
  pub trees : c.trees ≡ b.trees ++ more

-- from no level on, by pushes, declarations and assertions, it becomes all that it is
abbrev pub GrowsFromNothing : Type 0
GrowsFromNothing = (b : Base) → Grows (cut_base 0 b) b

-- all but what it stands on is the same
pub record IsSameButBase (s t : ShelfState) : Type 0 where
  pub entries : t.entries ≡ s.entries
  pub ended : t.ended ≡ s.ended
  pub room : t.room ≡ s.room
  pub spare : t.spare ≡ s.spare
  pub global : t.global ≡ s.global

-- the levels below n stay, with their entries
pub record IsCut (n : ℕ) (s t : ShelfState) : Type 0 where
  pub base : t.base ≡ cut_base n s.base
  pub entries : t.entries ≡ entries_below n s.entries
  pub ended : t.ended ≡ s.ended
  pub room : t.room ≡ s.room
  pub global : t.global ≡ s.global

-- the same pool on another base
abbrev pub on_base : Base → ShelfState → ShelfState
on_base b s = record s { base = b }

-- more trees at the end of the list
abbrev pub with_more : List Tree → ShelfState → ShelfState
with_more ts s = on_base (record s.base { trees = s.base.trees ++ ts }) s

-- the event of a race may happen, perhaps after the list of trees has gone on, and this is what it does
pub record IsStep (e : Event) (s t : ShelfState) : Type 0 where
  pub more : List Tree
  pub allowed : Allowed (racing 0 (with_more more s)) e
  pub base : t.base ≡ (after (racing 0 (with_more more s)) e).base
  pub entries : t.entries ≡ (after (racing 0 (with_more more s)) e).entries
  pub ended : t.ended ≡ s.ended
  pub room : t.room ≡ s.room
  pub global : t.global ≡ s.global

-- declarations and definitions join the newest level, or level 0 where they are global, and perhaps an assertion with its names joins the newest level
abbrev pub IsAsserted : ShelfState → ShelfState → Type 0
IsAsserted s t = (a : Addition) × IsStep (Assert a) s t

-- how many levels are those up to a level, of which -1 says that there are none
abbrev pub levels_up_to : ℤ → ℕ
levels_up_to (pos l) = l + 1
levels_up_to (negsuc n) = 0

-- ---- what follows, as a proposition

abbrev pub is_one_of : ℕ → List ℕ → Bool
is_one_of i [] = false
is_one_of i (j ∷ js) = (i == j) || is_one_of i js

-- a clause that follows from the levels up to its own, which is one of the levels
pub record IsKnown (b : Base) (c : Clause) : Type 0 where
  pub true_wherever : (I : Interpretation) → Interprets (signature_of (up_to c.level b.frames)) I → Holds I (up_to c.level b.frames) → ClauseTrue b.trees I c
  pub declared : All (λ i. IsTrue (is_one_of i (declared_ids (up_to c.level b.frames)))) (clause_symbols b.trees c)
  pub places : All (λ i. i < length b.trees) (places c.literals)
  pub within : c.level < length b.frames
