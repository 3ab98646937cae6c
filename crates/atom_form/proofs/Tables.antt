-- An atom more, and a sum more.
use Rattle.std.proofs.Common.{◌≡◌, ℕ, ◌<◌, ◌≤◌, ◌^◌, List, [], ◌∷◌, ◌++◌, length, get_or, map, sym, ap, subst, ◌∙◌, inl, inr, refl, arith}
use Rattle.std.specs.Prelude.{Contains, All, ◌⊎◌, ℤ}
use Rattle.std.proofs.lemmas.Bool.{cases_lt}
use Rattle.std.proofs.lemmas.List.{get_or_default, get_or_append_left, length-map, length_push, map_push}
use Rattle.std.proofs.lemmas.List.Elements.{All-push, All-weaker, All-contains, All-head, All-tail, Contains-append_left, Contains-push}
use Rattle.smt_meaning.specs.declared.clauses.Summand.{Summand}
use Rattle.smt_meaning.specs.declared.clauses.Atom.{Atom}
use Rattle.smt_meaning.specs.declared.clauses.Atom.TheVariants.{Truth as TruthAtom, Same as SameAtom, AtMost}
use Rattle.atom_form.specs.AtomTableNumbers.{IsAt, AreApart}
use Rattle.atom_form.specs.Compact.{atom_of as core_atom}
use Rattle.atom_form.specs.declared.compact.CompactAtom.{CompactAtom}
use Rattle.atom_form.specs.declared.compact.CompactAtom.TheVariants.{Truth as CompactTruth, Same as CompactSame}
use Rattle.atom_form.specs.Sums.{AreApart as AreApartSums, IsAt as IsSumAt}
use Rattle.atom_form.specs.declared.bound.SumBound.{SumBound}
use Rattle.atom_form.specs.BoundTableAtoms.{atom_of, HaveSums}
use Rattle.atom_form.specs.declared.atom.NumberedAtom.{NumberedAtom}
use Rattle.atom_form.specs.declared.atom.NumberedAtom.TheVariants.{Truth, Same, Bound}
use Rattle.atom_form.specs.AtomNumbersAtoms.{atom_in, GoesOn, Numbers}
use Rattle.atom_form.specs.AtomNumbers.{numbered_of, IsKept, IsKeyAt, AreNumbers, as_it_is, IsTable, IsUnchanged, IsNumberedBy}
use Rattle.atom_form.proofs.Keys.{at_push, key_contains, apart_push, numbers_stay, numbers_push, image_of}

pub entry_atom : (sums : List (List Summand)) (a : CompactAtom) → atom_in sums (numbered_of a) ≡ core_atom a
entry_atom sums (CompactTruth p) = refl
entry_atom sums (CompactSame p q) = refl

-- ---- where an atom stands

core_stands : (core : List Atom) (bounds : List SumBound) (sums : List (List Summand)) (e : NumberedAtom) (a : CompactAtom) → IsKept core bounds e → atom_in sums e ≡ core_atom a → Contains core (core_atom a)
core_stands core bounds sums (Truth p) a h s = subst (Contains core) s h
core_stands core bounds sums (Same p q) a h s = subst (Contains core) s h
core_stands core bounds sums (Bound b) (CompactTruth p) h s = absurd (cc)
core_stands core bounds sums (Bound b) (CompactSame p q) h s = absurd (cc)

bound_stands : (core : List Atom) (bounds : List SumBound) (sums : List (List Summand)) (e : NumberedAtom) (s : List Summand) (k : ℤ) → IsKept core bounds e → atom_in sums e ≡ AtMost s k
    → (b : SumBound) × Contains bounds b × (get_or sums b.sum [] ≡ s) × (b.threshold ≡ k)
bound_stands core bounds sums (Truth p) s k h e = absurd (cc)
bound_stands core bounds sums (Same p q) s k h e = absurd (cc)
bound_stands core bounds sums (Bound b) s k h e = (b, h, cc, cc)

kept_core : (core more : List Atom) (bounds : List SumBound) (e : NumberedAtom) → IsKept core bounds e → IsKept (core ++ more) bounds e
kept_core core more bounds (Truth p) h = Contains-append_left core more (TruthAtom p) h
kept_core core more bounds (Same p q) h = Contains-append_left core more (SameAtom p q) h
kept_core core more bounds (Bound b) h = h

kept_bounds : (core : List Atom) (bounds more : List SumBound) (e : NumberedAtom) → IsKept core bounds e → IsKept core (bounds ++ more) e
kept_bounds core bounds more (Truth p) h = h
kept_bounds core bounds more (Same p q) h = h
kept_bounds core bounds more (Bound b) h = Contains-append_left bounds more b h

new_core : (core : List Atom) (bounds : List SumBound) (a : CompactAtom) → IsKept (core ++ core_atom a ∷ []) bounds (numbered_of a)
new_core core bounds (CompactTruth p) = Contains-push core (TruthAtom p)
new_core core bounds (CompactSame p q) = Contains-push core (SameAtom p q)

module _ (core : List Atom) (bounds : List SumBound) (sums : List (List Summand)) (entries : List NumberedAtom) (cs bs : List ℕ) (t : IsTable core bounds sums entries cs bs) where
  abbrev pub atoms : List Atom
  atoms = map (atom_in sums) entries

  pub no_core : (a : CompactAtom) → (Contains core (core_atom a) → ⊥) → Contains atoms (core_atom a) → ⊥
  no_core a none c =
      let i = image_of (atom_in sums) entries (Truth 0) (core_atom a) c in
      none (core_stands core bounds sums i.0 a (All-contains (IsKept core bounds) entries i.0 t.kept i.1) i.2)

  pub no_bound : (n : ℕ) (s : List Summand) (k : ℤ) → AreApartSums sums → IsSumAt sums n s → (Contains bounds (record { sum = n; threshold = k }) → ⊥) → Contains atoms (AtMost s k) → ⊥
  no_bound n s k apart at none c =
      let i = image_of (atom_in sums) entries (Truth 0) (AtMost s k) c in
      let f = bound_stands core bounds sums i.0 s k (All-contains (IsKept core bounds) entries i.0 t.kept i.1) i.2 in
      let b = f.0 in
      let within = All-contains (λ (x : SumBound). x.sum < length sums) bounds b t.have_sums f.1 in
      none (subst (Contains bounds) (same b (one b.sum within f.2 (cases_lt b.sum n) (cases_lt n b.sum)) f.3) f.1)
    where
      one : (m : ℕ) → m < length sums → get_or sums m [] ≡ s → (m < n) ⊎ (n ≤ m) → (n < m) ⊎ (m ≤ n) → m ≡ n
      one m within e (inl less) u = absurd (apart m n [] less at.0 (e ∙ sym (at.1 [])))
      one m within e (inr from) (inl more) = absurd (apart n m [] more within (at.1 [] ∙ sym e))
      one m within e (inr from) (inr to) = omega arith

      same : (b : SumBound) → b.sum ≡ n → b.threshold ≡ k → b ≡ record { sum = n; threshold = k }
      same b e f = ap (λ m. let x : SumBound = record { sum = m; threshold = b.threshold } in x) e ∙ ap (λ z. let x : SumBound = record { sum = n; threshold = z } in x) f

  pub no_sum : (s : List Summand) (k : ℤ) → (Contains sums s → ⊥) → Contains atoms (AtMost s k) → ⊥
  no_sum s k none c =
      let i = image_of (atom_in sums) entries (Truth 0) (AtMost s k) c in
      let f = bound_stands core bounds sums i.0 s k (All-contains (IsKept core bounds) entries i.0 t.kept i.1) i.2 in
      let b = f.0 in
      let within = All-contains (λ (x : SumBound). x.sum < length sums) bounds b t.have_sums f.1 in
      none (b.sum, within, get_or_default sums b.sum s [] within ∙ f.2)

  -- ---- an atom more

  more_entry : (e : NumberedAtom) (a : Atom) → atom_in sums e ≡ a → map (atom_in sums) (entries ++ e ∷ []) ≡ atoms ++ a ∷ []
  more_entry e a s = map_push (atom_in sums) entries e ∙ ap (λ x. atoms ++ x ∷ []) s

  size-atoms : length atoms ≡ length entries
  size-atoms = length-map entries (atom_in sums)

  table_core : (a : CompactAtom) (n : ℕ) → (Contains core (core_atom a) → ⊥) → n ≡ length entries → length entries < 2 ^ 31
      → IsTable (core ++ core_atom a ∷ []) bounds sums (entries ++ numbered_of a ∷ []) (cs ++ n ∷ []) bs
  table_core a n none e few =
      let x = core_atom a in
      let place : n ≡ length atoms = e ∙ sym size-atoms in
      let goes = sym (more_entry (numbered_of a) x (entry_atom sums a)) in
      record {
        few = omega (arith, few, length_push entries (numbered_of a));
        size = omega (arith, t.size, length_push entries (numbered_of a), length_push core x);
        apart = subst AreApart goes (apart_push atoms x t.apart (no_core a none));
        kept = All-push (IsKept (core ++ x ∷ []) bounds) entries (numbered_of a) (All-weaker (IsKept core bounds) (IsKept (core ++ x ∷ []) bounds) (kept_core core (x ∷ []) bounds) entries t.kept) (new_core core bounds a);
        of_core = subst (AreNumbers as_it_is (core ++ x ∷ []) (cs ++ n ∷ [])) goes (numbers_push as_it_is core cs atoms t.of_core x n place);
        of_bounds = subst (AreNumbers (atom_of sums) bounds bs) goes (numbers_stay (atom_of sums) bounds bs atoms t.of_bounds x);
        have_sums = t.have_sums;
      }

  table_bound : (b : SumBound) (n : ℕ) → b.sum < length sums → (Contains atoms (atom_of sums b) → ⊥) → n ≡ length entries → length entries < 2 ^ 31
      → IsTable core (bounds ++ b ∷ []) sums (entries ++ Bound b ∷ []) cs (bs ++ n ∷ [])
  table_bound b n within none e few =
      let x = atom_of sums b in
      let place : n ≡ length atoms = e ∙ sym size-atoms in
      let goes = sym (more_entry (Bound b) x refl) in
      record {
        few = omega (arith, few, length_push entries (Bound b));
        size = omega (arith, t.size, length_push entries (Bound b), length_push bounds b);
        apart = subst AreApart goes (apart_push atoms x t.apart none);
        kept = All-push (IsKept core (bounds ++ b ∷ [])) entries (Bound b) (All-weaker (IsKept core bounds) (IsKept core (bounds ++ b ∷ [])) (kept_bounds core bounds (b ∷ [])) entries t.kept) (Contains-push bounds b);
        of_core = subst (AreNumbers as_it_is core cs) goes (numbers_stay as_it_is core cs atoms t.of_core x);
        of_bounds = subst (AreNumbers (atom_of sums) (bounds ++ b ∷ []) (bs ++ n ∷ [])) goes (numbers_push (atom_of sums) bounds bs atoms t.of_bounds b n place);
        have_sums = All-push (λ (y : SumBound). y.sum < length sums) bounds b t.have_sums within;
      }

  pub core_unchanged : (core2 : List Atom) (cs2 : List ℕ) (entries2 : List NumberedAtom) → IsUnchanged core core2 cs cs2 entries entries2 → IsTable core2 bounds sums entries2 cs2 bs
  core_unchanged core2 cs2 entries2 u = rw (u.keys, u.numbers, u.entries) t

  pub bounds_unchanged : (bounds2 : List SumBound) (bs2 : List ℕ) (entries2 : List NumberedAtom) → IsUnchanged bounds bounds2 bs bs2 entries entries2 → IsTable core bounds2 sums entries2 cs bs2
  bounds_unchanged bounds2 bs2 entries2 u = rw (u.keys, u.numbers, u.entries) t

  pub core_numbered : (core2 : List Atom) (cs2 : List ℕ) (entries2 : List NumberedAtom) (a : CompactAtom) (n : ℕ) → IsNumberedBy core core2 cs cs2 entries entries2 (core_atom a) (numbered_of a) n
      → IsTable core2 bounds sums entries2 cs2 bs
  core_numbered core2 cs2 entries2 a n (inl (u, k)) = core_unchanged core2 cs2 entries2 u
  core_numbered core2 cs2 entries2 a n (inr added) = rw (added.keys, added.numbers, added.entries) (table_core a n added.fresh added.number added.few)

  pub core_number : (core2 : List Atom) (cs2 : List ℕ) (entries2 : List NumberedAtom) (a : CompactAtom) (n : ℕ) → IsNumberedBy core core2 cs cs2 entries entries2 (core_atom a) (numbered_of a) n
      → Numbers atoms (map (atom_in sums) entries2) (core_atom a) n
  core_number core2 cs2 entries2 a n (inl (u, k)) =
      let e : map (atom_in sums) entries2 ≡ atoms = ap (map (atom_in sums)) u.entries in
      record {
        at = subst (λ xs. IsAt xs n (core_atom a)) (sym e) (subst (λ m. IsAt atoms m (core_atom a)) k.number (t.of_core.each k.place (core_atom a) k.at));
        others = inl e;
      }
  core_number core2 cs2 entries2 a n (inr added) =
      let e : map (atom_in sums) entries2 ≡ atoms ++ core_atom a ∷ [] = ap (map (atom_in sums)) added.entries ∙ more_entry (numbered_of a) (core_atom a) (entry_atom sums a) in
      record {
        at = subst (λ xs. IsAt xs n (core_atom a)) (sym e) (at_push atoms (core_atom a) n (added.number ∙ sym size-atoms));
        others = inr (e, no_core a added.fresh);
      }

  pub core_found : (a : CompactAtom) (place n : ℕ) → IsKeyAt core place (core_atom a) → n ≡ get_or cs place n → IsAt atoms n (core_atom a)
  core_found a place n h e =
      let short = h.0 in
      subst (λ m. IsAt atoms m (core_atom a)) (sym (e ∙ get_or_default cs place n 0 (omega (arith, short, t.of_core.size)))) (t.of_core.each place (core_atom a) h)

  module _ (b : SumBound) (s : List Summand) (apart : AreApartSums sums) (at : IsSumAt sums b.sum s) where
    bound_is : atom_of sums b ≡ AtMost s b.threshold
    bound_is = ap (λ x. AtMost x b.threshold) (at.1 [])

    no_such : (Contains bounds b → ⊥) → Contains atoms (AtMost s b.threshold) → ⊥
    no_such none = no_bound b.sum s b.threshold apart at none

    pub bound_numbered : (bounds2 : List SumBound) (bs2 : List ℕ) (entries2 : List NumberedAtom) (n : ℕ) → IsNumberedBy bounds bounds2 bs bs2 entries entries2 b (Bound b) n
        → IsTable core bounds2 sums entries2 cs bs2
    bound_numbered bounds2 bs2 entries2 n (inl (u, k)) = bounds_unchanged bounds2 bs2 entries2 u
    bound_numbered bounds2 bs2 entries2 n (inr added) =
        rw (added.keys, added.numbers, added.entries) (table_bound b n at.0 (subst (λ x. Contains atoms x → ⊥) (sym bound_is) (no_such added.fresh)) added.number added.few)

    pub bound_number : (bounds2 : List SumBound) (bs2 : List ℕ) (entries2 : List NumberedAtom) (n : ℕ) → IsNumberedBy bounds bounds2 bs bs2 entries entries2 b (Bound b) n
        → Numbers atoms (map (atom_in sums) entries2) (AtMost s b.threshold) n
    bound_number bounds2 bs2 entries2 n (inl (u, k)) =
        let e : map (atom_in sums) entries2 ≡ atoms = ap (map (atom_in sums)) u.entries in
        record {
          at = subst (λ xs. IsAt xs n (AtMost s b.threshold)) (sym e) (subst (IsAt atoms n) bound_is (subst (λ m. IsAt atoms m (atom_of sums b)) k.number (t.of_bounds.each k.place b k.at)));
          others = inl e;
        }
    bound_number bounds2 bs2 entries2 n (inr added) =
        let e : map (atom_in sums) entries2 ≡ atoms ++ AtMost s b.threshold ∷ [] = ap (map (atom_in sums)) added.entries ∙ more_entry (Bound b) (AtMost s b.threshold) bound_is in
        record {
          at = subst (λ xs. IsAt xs n (AtMost s b.threshold)) (sym e) (at_push atoms (AtMost s b.threshold) n (added.number ∙ sym size-atoms));
          others = inr (e, no_such added.fresh);
        }

    pub bound_found : (place n : ℕ) → IsKeyAt bounds place b → n ≡ get_or bs place n → IsAt atoms n (AtMost s b.threshold)
    bound_found place n h e =
        let short = h.0 in
        subst (IsAt atoms n) bound_is (subst (λ m. IsAt atoms m (atom_of sums b)) (sym (e ∙ get_or_default bs place n 0 (omega (arith, short, t.of_bounds.size)))) (t.of_bounds.each place b h))

-- ---- a sum more

entry_stays : (core : List Atom) (bounds : List SumBound) (sums more : List (List Summand)) (e : NumberedAtom) → HaveSums sums bounds → IsKept core bounds e → atom_in (sums ++ more) e ≡ atom_in sums e
entry_stays core bounds sums more (Truth p) known h = refl
entry_stays core bounds sums more (Same p q) known h = refl
entry_stays core bounds sums more (Bound b) known h = ap (λ s. AtMost s b.threshold) (get_or_append_left sums more [] b.sum (All-contains (λ (x : SumBound). x.sum < length sums) bounds b known h))

entries_stay : (core : List Atom) (bounds : List SumBound) (sums more : List (List Summand)) (es : List NumberedAtom) → HaveSums sums bounds → All (IsKept core bounds) es
    → map (atom_in (sums ++ more)) es ≡ map (atom_in sums) es
entries_stay core bounds sums more [] known h = refl
entries_stay core bounds sums more (e ∷ es) known h =
    ap (λ x. x ∷ map (atom_in (sums ++ more)) es) (entry_stays core bounds sums more e known (All-head (IsKept core bounds) e es h))
    ∙ ap (λ xs. atom_in sums e ∷ xs) (entries_stay core bounds sums more es known (All-tail (IsKept core bounds) e es h))

module _ (core : List Atom) (bounds : List SumBound) (sums : List (List Summand)) (entries : List NumberedAtom) (cs bs : List ℕ) (t : IsTable core bounds sums entries cs bs) where
  pub same_atoms : (sums2 : List (List Summand)) (s : List Summand) → GoesOn sums sums2 s → map (atom_in sums2) entries ≡ map (atom_in sums) entries
  same_atoms sums2 s (inl e) = ap (λ x. map (atom_in x) entries) e
  same_atoms sums2 s (inr e) = ap (λ x. map (atom_in x) entries) e ∙ entries_stay core bounds sums (s ∷ []) entries t.have_sums t.kept

  longer : (s : List Summand) → IsTable core bounds (sums ++ s ∷ []) entries cs bs
  longer s =
      let e = sym (entries_stay core bounds sums (s ∷ []) entries t.have_sums t.kept) in
      record {
        few = t.few;
        size = t.size;
        apart = subst AreApart e t.apart;
        kept = t.kept;
        of_core = subst (AreNumbers as_it_is core cs) e t.of_core;
        of_bounds = subst (AreNumbers (atom_of (sums ++ s ∷ [])) bounds bs) e (record { size = t.of_bounds.size; each = λ k b h. at k b h });
        have_sums = All-weaker (λ (x : SumBound). x.sum < length sums) (λ (x : SumBound). x.sum < length (sums ++ s ∷ [])) (λ x h. omega (arith, h, length_push sums s)) bounds t.have_sums;
      }
    where
      at : (k : ℕ) (b : SumBound) → IsKeyAt bounds k b → IsAt (map (atom_in sums) entries) (get_or bs k 0) (atom_of (sums ++ s ∷ []) b)
      at k b h =
          let within = All-contains (λ (x : SumBound). x.sum < length sums) bounds b t.have_sums (key_contains bounds k b h) in
          subst (IsAt (map (atom_in sums) entries) (get_or bs k 0)) (ap (λ x. AtMost x b.threshold) (sym (get_or_append_left sums (s ∷ []) [] b.sum within))) (t.of_bounds.each k b h)

  pub with_sum : (sums2 : List (List Summand)) (s : List Summand) → GoesOn sums sums2 s → IsTable core bounds sums2 entries cs bs
  with_sum sums2 s (inl e) = subst (λ x. IsTable core bounds x entries cs bs) (sym e) t
  with_sum sums2 s (inr e) = subst (λ x. IsTable core bounds x entries cs bs) (sym e) (longer s)
