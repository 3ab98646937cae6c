-- The clause that is always true follows from any levels.
use Rattle.std.proofs.Common.{◌≡◌, ℕ, ◌<◌, length, refl, subst, sym}
use Rattle.std.proofs.lemmas.List.Elements.{All-nil}
use Rattle.smt_meaning.specs.Follows.{follows}
use Rattle.smt_meaning.specs.declared.clauses.Clause.{Clause}
use Rattle.race_model.specs.Base.{Base}
use Rattle.race_model.specs.Laws.{IsSound}
use Rattle.race_model.specs.declared.shelf.Told.{Told}
use Rattle.race_model.specs.declared.shelf.Told.TheVariants.{Shared, Full, Memory}
use Rattle.race_model.specs.Shelves.{ShelfState, Shares}
use Rattle.unit_tests.specs.Stack.{true_at}

pub sound_at : (b : Base) (l : ℕ) → l < length b.frames → IsSound b (true_at l)
sound_at b l lt = record {
  follows = follows b.trees b.frames l (true_at l) (record {
    true_wherever = λ I i h. refl;
    declared = All-nil _;
    within = All-nil _;
  });
  within = lt;
}

pub sound_clause : (b : Base) (l : ℕ) (c : Clause) → c ≡ true_at l → l < length b.frames → IsSound b c
sound_clause b l c e lt = subst (IsSound b) (sym e) (sound_at b l lt)

-- a share keeps the levels
pub same_base : (w : ℕ) (c : Clause) (s t : ShelfState) (told : Told) → Shares w c s t told → t.base ≡ s.base
same_base w c s t (Shared place) h = h.0.base
same_base w c s t (Full back) h = h.0.base
same_base w c s t (Memory back) h = h.0.base
