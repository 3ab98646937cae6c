-- What a check sees of a stack, and the stack that a part of its terms is of.
use Rattle.std.specs.Prelude.{◌≡◌, ◌+◌, ◌≤◌, ◌<◌, ℕ, Bool, List, map, length, All, slice_index}
use Rattle.smt_meaning.specs.declared.values.Sort.{Sort}
use Rattle.smt_meaning.specs.Declaration.{Declaration}
use Rattle.smt_meaning.specs.Term.{Tree, tree_at}
use Rattle.smt_meaning.specs.Parts.{AreInOrder}
use Rattle.smt_meaning.specs.Stack.{Frame}
use Rattle.smt_meaning.specs.StackCommand.{Stack, most_terms, most_levels}
use Rattle.smt_sorts.specs.Names.{Names}
use Rattle.term_store.specs.Terms.{Terms}
use Rattle.scope_stack.specs.declared.answers.Assertion.{Assertion}
use Rattle.scope_stack.specs.Pieces.{all_of}
use Rattle.scope_stack.specs.Inside.{frames_by, stack_by, IsWithin}
use Rattle.scope_stack.specs.Facts.{AreFacts, HaveLevels, IsKept}
use Rattle.scope_stack.specs.Shown.{IsLawful}

-- assertions by levels, whose terms stand among these
pub record AreAssertions (t : Names) (store : Terms) (xss : List (List Assertion)) : Type 0 where
  pub limit : store.limit ≡ most_terms
  pub as_many : length xss ≡ length t.levels
  pub some : 0 < length t.levels
  pub few : length t.levels ≤ most_levels + 1
  pub within : All (IsWithin store.trees) (all_of xss)

-- a lawful stack, with the sorts and the levels of all terms
pub record IsSeen (g : Bool) (t : Names) (store : Terms) (xss : List (List Assertion)) (rs : List Sort) (ls : List ℕ) : Type 0 where
  pub stack : AreAssertions t store xss
  pub lawful : IsLawful (stack_by g t store.trees xss)
  pub facts : AreFacts t store.trees (length store.trees) rs
  pub levels : HaveLevels t store.trees (length store.trees) ls

-- the names of a stack
abbrev pub names_of : Stack → Names
names_of s = record { levels = map (λ (f : Frame). f.declared) s.frames; given = s.given }

-- with these terms and assertions its names make a stack of the same levels
pub record IsPartOf (s : Stack) (store : Terms) (xss : List (List Assertion)) (rs : List Sort) (ls : List ℕ) : Type 0 where
  pub kept : IsKept s.global (names_of s) store xss rs ls
  pub frames : s.frames ≡ frames_by store.trees (names_of s).levels xss

-- ---- copies

-- each of these terms is one of those
abbrev pub AreAllAmong : List Tree → List Tree → Type 0
AreAllAmong us ts = (i : ℕ) → i < length us → (p : ℕ) × ((p < length ts) × (tree_at us i ≡ tree_at ts p))

-- copies of the terms at the first of these places, in order
pub record AreCopies (ts us : List Tree) (places : List ℕ) : Type 0 where
  pub few : length us ≤ length places
  pub copies : (i : ℕ) → i < length us → tree_at us i ≡ tree_at ts (slice_index places i)
  pub in_order : AreInOrder us

-- the same assertions, whose terms stand among fewer
pub record AreMoved (ts us : List Tree) (xss yss : List (List Assertion)) : Type 0 where
  pub as_many : length yss ≡ length xss
  pub within : All (IsWithin us) (all_of yss)
  pub frames : (dss : List (List Declaration)) → frames_by us dss yss ≡ frames_by ts dss xss

-- fewer terms, with the same assertions, and the sorts and the levels of these terms
pub record IsFew (t : Names) (ts : List Tree) (xss : List (List Assertion)) (store : Terms) (yss : List (List Assertion)) (rs : List Sort) (ls : List ℕ) : Type 0 where
  pub limit : store.limit ≡ most_terms
  pub in_order : AreInOrder store.trees
  pub among : AreAllAmong store.trees ts
  pub moved : AreMoved ts store.trees xss yss
  pub facts : AreFacts t store.trees (length store.trees) rs
  pub levels : HaveLevels t store.trees (length store.trees) ls
