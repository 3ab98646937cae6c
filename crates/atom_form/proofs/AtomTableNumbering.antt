-- What a table of kept atoms says of the atoms.
use Rattle.std.proofs.Common.{◌≡◌, ◌≢◌, ℕ, true, false, ◌<◌, List, [], ◌∷◌, ◌++◌, length, get_or, map, sym, ap, subst, ◌∙◌, arith}
use Rattle.std.specs.Prelude.{AllPairs, Contains}
use Rattle.std.proofs.lemmas.List.{get_or_default, get_or-map, length-map, map-append, length_push, get_or_push}
use Rattle.atom_form.specs.declared.compact.CompactAtom.{CompactAtom}
use Rattle.atom_form.specs.declared.compact.CompactAtom.TheVariants.{Truth, Same}
use Rattle.atom_form.specs.Compact.{atom_of, atom_hash}
use Rattle.atom_form.specs.AtomTableNumbers.{IsAt, AreApart}
use Rattle.atom_form.specs.Numbering.{Numbered, IsTable}

-- one atom, kept in one way
pub atom_of-apart : (a b : CompactAtom) → atom_of a ≡ atom_of b → a ≡ b
atom_of-apart (Truth p) (Truth q) e = cc
atom_of-apart (Truth p) (Same q r) e = cc
atom_of-apart (Same p q) (Truth r) e = cc
atom_of-apart (Same p q) (Same r s) e = cc

-- ---- in the words of atoms

pub contains_kept : (atoms : List CompactAtom) (a : CompactAtom) → Contains (map atom_of atoms) (atom_of a) → Contains atoms a
contains_kept atoms a (k, h, e) =
    let short : k < length atoms = omega (arith, length-map atoms atom_of) in
    (k, short, atom_of-apart (get_or atoms k a) a (sym (get_or-map atom_of atoms k a (atom_of a) short) ∙ e))

pub is_at : (atoms : List CompactAtom) (k : ℕ) (a : CompactAtom) → k < length atoms → ((d : CompactAtom) → get_or atoms k d ≡ a) → IsAt (map atom_of atoms) k (atom_of a)
is_at atoms k a h e = (omega (arith, length-map atoms atom_of), λ d. get_or-map atom_of atoms k a d h ∙ ap atom_of (e a))

pub read_at : (atoms : List CompactAtom) (k : ℕ) (a : CompactAtom) → k < length atoms → a ≡ get_or atoms k a → IsAt (map atom_of atoms) k (atom_of a)
read_at atoms k a h e = is_at atoms k a h (λ d. get_or_default atoms k d a h ∙ sym e)

pub table_apart : (atoms : List CompactAtom) (keys : List ℕ) → IsTable atom_hash atoms keys → AreApart (map atom_of atoms)
table_apart atoms keys t i j d h g same =
    let short : j < length atoms = omega (arith, length-map atoms atom_of) in
    apart_at atoms t.apart i j h short (λ x. get_or-map atom_of atoms i x d (omega arith)) (λ x. get_or-map atom_of atoms j x d short) same
  where
    apart_at : (xs : List CompactAtom) → AllPairs (λ (x y : CompactAtom). x ≢ y) xs → (i j : ℕ) → i < j → j < length xs
        → ((x : CompactAtom) → get_or (map atom_of atoms) i d ≡ atom_of (get_or xs i x)) → ((x : CompactAtom) → get_or (map atom_of atoms) j d ≡ atom_of (get_or xs j x))
        → get_or (map atom_of atoms) i d ≡ get_or (map atom_of atoms) j d → ⊥
    apart_at xs apart i j h g ei ej same =
        apart i j (Truth 0) h g (atom_of-apart (get_or xs i (Truth 0)) (get_or xs j (Truth 0)) (sym (ei (Truth 0)) ∙ same ∙ ej (Truth 0)))

pub numbered_new : (old new : List CompactAtom) (a : CompactAtom) (n : ℕ) → n ≡ length old → new ≡ old ++ a ∷ [] → (Contains old a → ⊥) → Numbered (map atom_of old) (map atom_of new) (atom_of a) n true
numbered_new old new a n size e none = record {
  at = subst (λ xs. IsAt (map atom_of xs) n (atom_of a)) (sym e) (is_at (old ++ a ∷ []) n a (omega (arith, size, length_push old a)) (λ d. get_or_push old a d n (sym size)));
  added = λ t. (ap (map atom_of) e ∙ map-append atom_of old (a ∷ []), λ c. none (contains_kept old a c));
  same = λ f. absurd (let x : true ≡ false = f in cc);
}
