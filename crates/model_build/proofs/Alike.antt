-- Arguments that are alike.
use Rattle.std.proofs.Common.{◌≡◌, ℕ, List, Bool, true, false, refl, sym, ap, subst, ◌∙◌}
use Rattle.std.specs.Prelude.{MatchBool, IsTrue}
use Rattle.model_build.specs.declared.given.Given.{Given}
use Rattle.model_build.specs.Given.{has_past, AreAlike}
use Rattle.model_build.specs.Keys.{key_hash}

-- the two ways of being alike
pub past_alike : (gs hs : List Given) → has_past gs ≡ true → has_past hs ≡ true → AreAlike gs hs
past_alike gs hs g h = subst (λ b. MatchBool b (IsTrue (has_past hs)) (gs ≡ hs)) (sym g) h

pub same_alike : (gs hs : List Given) → has_past gs ≡ false → gs ≡ hs → AreAlike gs hs
same_alike gs hs g h = subst (λ b. MatchBool b (IsTrue (has_past hs)) (gs ≡ hs)) (sym g) h

pub from_past : (gs hs : List Given) → has_past gs ≡ true → AreAlike gs hs → has_past hs ≡ true
from_past gs hs g a = subst (λ b. MatchBool b (IsTrue (has_past hs)) (gs ≡ hs)) g a

pub from_same : (gs hs : List Given) → has_past gs ≡ false → AreAlike gs hs → gs ≡ hs
from_same gs hs g a = subst (λ b. MatchBool b (IsTrue (has_past hs)) (gs ≡ hs)) g a

pub alike_back : (gs hs : List Given) → AreAlike gs hs → AreAlike hs gs
alike_back gs hs a = by (has_past gs) refl
  where
    by : (b : Bool) → has_past gs ≡ b → AreAlike hs gs
    by true g = past_alike hs gs (from_past gs hs g a) g
    by false g = let e = from_same gs hs g a in same_alike hs gs (ap has_past (sym e) ∙ g) (sym e)

pub alike_along : (gs hs is : List Given) → AreAlike gs hs → AreAlike hs is → AreAlike gs is
alike_along gs hs is a b = by (has_past gs) refl
  where
    by : (c : Bool) → has_past gs ≡ c → AreAlike gs is
    by true g = past_alike gs is g (from_past hs is (from_past gs hs g a) b)
    by false g = let e = from_same gs hs g a in same_alike gs is g (e ∙ from_same hs is (ap has_past (sym e) ∙ g) b)

pub alike_self : (gs : List Given) → AreAlike gs gs
alike_self gs = by (has_past gs) refl
  where
    by : (b : Bool) → has_past gs ≡ b → AreAlike gs gs
    by true g = past_alike gs gs g g
    by false g = same_alike gs gs g refl

pub alike_hash : (f : ℕ) (gs hs : List Given) → AreAlike gs hs → key_hash f gs ≡ key_hash f hs
unfolding key_hash
alike_hash f gs hs a = by (has_past gs) refl
  where
    by : (b : Bool) → has_past gs ≡ b → key_hash f gs ≡ key_hash f hs
    by true g = rw (g, from_past gs hs g a) refl
    by false g = ap (key_hash f) (from_same gs hs g a)
