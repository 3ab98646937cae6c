-- What one run of propagation keeps, and another after it.
use Rattle.std.proofs.Common.{◌≡◌, List, subst, ◌∙◌, refl, arith}
use Rattle.clause_store.specs.Assigned.{Assigned}
use Rattle.clause_store.specs.Entries.{Held, Listing}
use Rattle.clause_store.specs.Runs.{KeepsStore}
use Rattle.clause_store.specs.Watching.{Grows, kept_from}
use Rattle.clause_store.proofs.Kept.{Grows-trans}
use Rattle.clause_store.proofs.Sweeping.{SameShape-none, SameShape-trans}

-- the depth is that of the first trail too
pub grows-on : (a b c : Held) (l m n : List Listing) (s t u : Assigned) → KeepsStore a b l m s t → KeepsStore b c m n t u → Grows (kept_from 0 b.entries) s.depth t.steps u.steps
grows-on a b c l m n s t u h k = subst (λ d. Grows (kept_from 0 b.entries) d t.steps u.steps) h.depth k.grows

pub keeps-both : (a b c : Held) (l m n : List Listing) (s t u : Assigned) → KeepsStore a b l m s t → KeepsStore b c m n t u → KeepsStore a c l n s u
keeps-both a b c l m n s t u h k = record {
  rises = omega (arith, h.rises, k.rises);
  grows = Grows-trans _ _ _ _ _ _ h.clauses h.grows (grows-on a b c l m n s t u h k);
  clauses = k.clauses ∙ h.clauses;
  count = k.count ∙ h.count;
  shape = SameShape-trans a.entries b.entries c.entries h.shape k.shape;
  rooms = k.rooms ∙ h.rooms;
  atoms = k.atoms ∙ h.atoms;
  depth = k.depth ∙ h.depth;
}

-- forcing changes the trail alone
pub forced-keeps : (rows : Held) (lists : List Listing) (s t : Assigned) → Grows (kept_from 0 rows.entries) s.depth s.steps t.steps → (t.atoms ≡ s.atoms) × (t.depth ≡ s.depth) → KeepsStore rows rows lists lists s t
forced-keeps rows lists s t grows same = record { rises = omega arith; grows = grows; clauses = refl; count = refl; shape = SameShape-none rows.entries; rooms = refl; atoms = same.0; depth = same.1 }
