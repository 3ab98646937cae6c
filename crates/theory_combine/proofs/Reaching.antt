-- The value of a branch: values that meet what stands give it to the leaf, and no side of the branch has a number.
use Rattle.std.proofs.Common.{◌≡◌, ℕ, zero, suc, ◌*◌, ◌^◌, ◌<◌, ◌≤◌, ◌⊎◌, inl, inr, true, List, [], ◌∷◌, ℤ, pos, negsuc, ◌+ℤ◌, ◌*ℤ◌, ◌<ℤ◌, ◌≤ℤ◌, neg_ℤ, refl, sym, ◌∙◌, subst, arith}
use Rattle.std.specs.Prelude.{Contains, All, Option, None}
use Rattle.std.proofs.lemmas.Int.{ints}
use Rattle.std.proofs.Math.Nat.{mul-le-mul_left}
use Rattle.std.proofs.lemmas.List.{get_or_default}
use Rattle.std.proofs.lemmas.List.Elements.{All-contains}
use Rattle.fraction128.specs.declared.ratio.Ratio.{Ratio}
use Rattle.fraction128.specs.Number.{SameNumber}
use Rattle.fraction128.specs.Whole.{InRange}
use Rattle.literals.specs.Signed.{Signed, opposite}
use Rattle.smt_meaning.specs.declared.clauses.Atom.{Atom}
use Rattle.smt_meaning.specs.declared.clauses.Atom.TheVariants.{Truth, Same, AtMost}
use Rattle.smt_meaning.specs.StackCommand.{Stack}
use Rattle.smt_meaning.specs.Boxes.{term_at_most}
use Rattle.smt_meaning.specs.CheckAtoms.{IsReached, Meets}
use Rattle.smt_laws.specs.Flat.{flat}
use Rattle.search_port.specs.State.{atom_at}
use Rattle.sum_bounds.specs.declared.fractions.FractionalLeaf.{FractionalLeaf}
use Rattle.sum_bounds.specs.Bounds.{leaf_values, IsFirstIn}
use Rattle.bound_log.specs.Told.{IsState}
use Rattle.bound_log.specs.Sides.{SidesAreOpen}
use Rattle.bound_log.specs.Fractions.{FractionsHold, LeavesHaveValues}
use Rattle.check_atoms.specs.Standing.{IsToldTrue}
use Rattle.closure_log.specs.Seen.{state_of}
use Rattle.theory_combine.specs.declared.held.Held.{Held}
use Rattle.theory_combine.specs.Held.{IsHeld, AllFit}
use Rattle.theory_combine.specs.Last.{IsLast, HoldsWhereEmpty}
use Rattle.theory_combine.specs.Numbering.{table_of}

-- ---- the floor of a value of the range

grown : (m d : ℕ) → 0 < d → m ≤ m * d
grown m d p = let less : m * 1 ≤ m * d = mul-le-mul_left m (omega (arith, p)) in omega (arith, less)

below_none : (m : ℕ) (n : ℤ) (d : ℕ) → 0 < d → n <ℤ (neg_ℤ (pos m) *ℤ pos d) → InRange n → InRange (negsuc m)
below_none zero n d p high nin = omega arith
below_none (suc j) (negsuc i) d p high nin =
    let less : suc j * d < suc i = omega (arith, ints, high) in
    let own = grown (suc j) d p in
    let g : suc (suc j) < 2 ^ 127 = omega (arith, less, own, nin) in g
below_none (suc j) (pos i) d p high nin = absurd (omega (arith, ints, high))

pub floor_in_range : (k n : ℤ) (d : ℕ) → 0 < d → (k *ℤ pos d) ≤ℤ n → n <ℤ ((k +ℤ pos 1) *ℤ pos d) → InRange n → InRange k
floor_in_range (pos m) (pos n) d p low high nin =
    let le : m * d ≤ n = omega (arith, ints, low) in
    let own = grown m d p in
    let g : m < 2 ^ 127 = omega (arith, le, own, nin) in g
floor_in_range (pos m) (negsuc n) d p low high nin = absurd (omega (arith, ints, low))
floor_in_range (negsuc m) n d p low high nin =
    let e : negsuc m +ℤ pos 1 ≡ neg_ℤ (pos m) = omega (arith, ints) in
    below_none m n d p (subst (λ (z : ℤ). n <ℤ (z *ℤ pos d)) e high) nin

-- ---- a last check

-- the search hasn't stopped
pub last_whole : (s : Stack) (stopped_at : Option ℕ) (table : List Atom) (log : List Signed) → stopped_at ≡ None → IsLast (state_of s (table_of stopped_at table) log) → IsLast (state_of s table log)
last_whole s stopped_at table log e last = subst (λ (o : Option ℕ). IsLast (state_of s (table_of o table) log)) e last

module _ (s : Stack) (table : List Atom) (h : Held) (held : IsHeld s table h) (bounds : IsState h.bounds) (fits : AllFit h.bounds) (last : IsLast (state_of s table h.closure.log.items)) where
  met : FractionsHold → All (HoldsWhereEmpty table) h.closure.log.items → (a : Atom) → IsToldTrue (state_of s table h.closure.log.items).reading h.closure.log.items a
      → Meets (leaf_values h.bounds.bounds) a
  met law empty (Truth i) t = tt
  met law empty (Same i j) t = tt
  met law empty (AtMost [] k) t =
      let l : Signed = record { atom = t.number; positive = true } in
      let least : pos 0 ≤ℤ k = All-contains (HoldsWhereEmpty table) h.closure.log.items l empty t.told k refl t.atom in
      grind (arith, ints, least)
  met law empty (AtMost (p ∷ ps) k) t =
      let l : Signed = record { atom = t.number; positive = true } in
      law table h.bounds bounds held.knows fits.1 l (p ∷ ps) k (subst (λ (ls : List Signed). Contains ls l) (sym held.same) t.told) refl t.atom (λ e. cc)

  pub reached : FractionsHold → LeavesHaveValues → All (HoldsWhereEmpty table) h.closure.log.items → (f : FractionalLeaf) → IsFirstIn h.bounds.bounds.columns f
      → IsReached s.trees (flat s.frames) f.term f.value
  reached law values empty f first = record {
    values = leaf_values h.bounds.bounds;
    positive = (values h.bounds bounds).0;
    meets = λ standing is. let one = last.agreed.standing standing is in (one.0, one.1, met law empty one.0 one.2);
    value = subst (λ (x : Ratio). SameNumber (leaf_values h.bounds.bounds f.term) x) ((values h.bounds bounds).1 f first) refl;
  }

  -- a bound that is told, with the one sign or the other, leaves no value between its sides
  pub has_no_number : (f : FractionalLeaf) → SidesAreOpen f → IsFirstIn h.bounds.bounds.columns f → Contains table (term_at_most f.term f.floor) → ⊥
  has_no_number f are_open first (n, less, is) = by (last.full l less)
    where
      l : Signed
      l = record { atom = n; positive = true }

      at : atom_at table n ≡ term_at_most f.term f.floor
      at = sym (get_or_default table n (term_at_most f.term f.floor) (Truth 0) less) ∙ is

      never : (m : Signed) → atom_at table m.atom ≡ term_at_most f.term f.floor → Contains h.closure.log.items m → ⊥
      never m e c = are_open table h.bounds m bounds held.knows fits.1 first (inl e) (subst (λ (ls : List Signed). Contains ls m) (sym held.same) c)

      by : Contains h.closure.log.items l ⊎ Contains h.closure.log.items (opposite l) → ⊥
      by (inl c) = never l at c
      by (inr c) = never (opposite l) at c
