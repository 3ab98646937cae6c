-- Numbers of atoms, and atoms of neighbours one after the other.
use Rattle.std.proofs.Common.{◌≡◌, ◌≢◌, ℕ, zero, suc, ◌<◌, ◌+◌, ◌-◌, Bool, true, false, ◌&&◌, List, [], ◌∷◌, ◌++◌, length, take, get_or, map, All, Contains, refl, sym, ap, ◌∙◌, subst, arith}
use Rattle.std.specs.Prelude.{ℤ}
use Rattle.std.proofs.lemmas.List.{get_or_append_left, length-append, append_assoc, take_more, map-append}
use Rattle.std.proofs.lemmas.List.Elements.{All-nil, All-cons, All-head, All-tail, All-contains}
use Rattle.smt_meaning.specs.declared.clauses.Atom.{Atom}
use Rattle.smt_meaning.specs.declared.clauses.Atom.TheVariants.{Truth}
use Rattle.smt_meaning.specs.declared.clauses.Summand.{Summand}
use Rattle.smt_meaning.specs.Term.{Tree}
use Rattle.smt_meaning.specs.Atoms.{normal_bound}
use Rattle.proof_meaning.specs.Rules.{along, along_from}
use Rattle.proof_terms.specs.declared.form_parts.Relation.{Relation}
use Rattle.proof_terms.specs.declared.form_parts.Relation.TheVariants.{Equal, AtMost as IsAtMost, Less, AtLeast, Greater}
use Rattle.proof_terms.specs.Range.{neighbours_fit, neighbours_fit_from}
use Rattle.proof_terms.specs.Kept.{Kept, GoOn}
use Rattle.proof_terms.proofs.ClausesCodes.{code_goes_on, kept_on}
use Rattle.proof_terms.specs.FormParts.{IsNumberOf, AreNumbersOf, Extends, relation_atom}

-- ---- more atoms

pub extends_itself : (k : Kept) → Extends k k
extends_itself k = record { atoms = ([], nothing_more k.atoms); clauses = refl; codes = λ c l h. h; kept = λ before h. h }
  where
    nothing_more : (xs : List Atom) → xs ≡ xs ++ []
    nothing_more [] = refl
    nothing_more (x ∷ xs) = ap (λ ys. x ∷ ys) (nothing_more xs)

-- by one atom, or by none
pub extends_by : (old new : Kept) → GoOn old.atoms new.atoms → new.clauses ≡ old.clauses → Extends old new
extends_by old new g e = record { atoms = g; clauses = e; codes = λ c l. code_goes_on old.atoms new.atoms c l g; kept = kept_on old new g e }

pub extends_further : (a b c : Kept) → Extends a b → Extends b c → Extends a c
extends_further a b c f g = record {
  atoms = (f.atoms.0 ++ g.atoms.0, g.atoms.1 ∙ ap (λ xs. xs ++ g.atoms.0) f.atoms.1 ∙ append_assoc a.atoms f.atoms.0 g.atoms.0);
  clauses = g.clauses ∙ f.clauses;
  codes = λ n l h. g.codes n l (f.codes n l h);
  kept = λ before h. g.kept before (f.kept before h);
}

number_later : (old new : List Atom) (n : ℕ) (a : Atom) → GoOn old new → IsNumberOf old n a → IsNumberOf new n a
number_later old new n a more h = subst (λ xs. IsNumberOf xs n a) (sym more.1) (record {
  within = omega (arith, h.within, length-append old more.0);
  small = h.small;
  atom = λ d. get_or_append_left old more.0 d n h.within ∙ h.atom d;
})

pub number_kept : (old new : Kept) (n : ℕ) (a : Atom) → Extends old new → IsNumberOf old.atoms n a → IsNumberOf new.atoms n a
number_kept old new n a e h = number_later old.atoms new.atoms n a e.atoms h

pub numbers_kept : (old new : Kept) (ns : List ℕ) (ps : List Atom) → Extends old new → AreNumbersOf old.atoms ns ps → AreNumbersOf new.atoms ns ps
numbers_kept old new [] [] e h = tt
numbers_kept old new [] (p ∷ ps) e h = h
numbers_kept old new (n ∷ ns) [] e h = h
numbers_kept old new (n ∷ ns) (p ∷ ps) e h = (number_kept old new n p e h.0, numbers_kept old new ns ps e h.1)

pub numbers_push : (atoms : List Atom) (ns : List ℕ) (ps : List Atom) (n : ℕ) (p : Atom) → AreNumbersOf atoms ns ps → IsNumberOf atoms n p → AreNumbersOf atoms (ns ++ n ∷ []) (ps ++ p ∷ [])
numbers_push atoms [] [] n p h g = (g, tt)
numbers_push atoms [] (q ∷ ps) n p h g = absurd h
numbers_push atoms (m ∷ ns) [] n p h g = absurd h
numbers_push atoms (m ∷ ns) (q ∷ ps) n p h g = (h.0, numbers_push atoms ns ps n p h.1 g)

-- ---- neighbours

along_from_more : (at : ℕ → ℕ → Atom) (x : ℕ) (xs : List ℕ) (i : ℕ) → i < length xs → along_from at x (take (suc i) xs) ≡ along_from at x (take i xs) ++ at (get_or (x ∷ xs) i 0) (get_or xs i 0) ∷ []
along_from_more at x [] i h = absurd (omega (arith, h))
along_from_more at x (y ∷ ys) zero h = refl
along_from_more at x (y ∷ ys) (suc i) h = ap (λ ps. at x y ∷ ps) (along_from_more at y ys i (omega (arith, h)))

along_suc : (at : ℕ → ℕ → Atom) (xs : List ℕ) (i : ℕ) → suc i < length xs → along at (take (suc (suc i)) xs) ≡ along at (take (suc i) xs) ++ at (get_or xs i 0) (get_or xs (suc i) 0) ∷ []
along_suc at [] i h = absurd (omega (arith, h))
along_suc at (x ∷ xs) i h = along_from_more at x xs i (omega (arith, h))

less_one : (i : ℕ) → i ≡ suc i - 1
less_one i = omega arith

one_more : (i : ℕ) → i + 1 ≡ suc i
one_more i = omega arith

pub along_more : (at : ℕ → ℕ → Atom) (xs : List ℕ) (p : ℕ) → 0 < p → p < length xs → along at (take (p + 1) xs) ≡ along at (take p xs) ++ at (get_or xs (p - 1) 0) (get_or xs p 0) ∷ []
along_more at xs zero l h = absurd (omega (arith, l))
along_more at xs (suc i) l h =
    ap (λ n. along at (take n xs)) (one_more (suc i)) ∙ along_suc at xs i h ∙ ap (λ n. along at (take (suc i) xs) ++ at (get_or xs n 0) (get_or xs (suc i) 0) ∷ []) (less_one i)

and_swapped : (a : Bool) → (a && true) ≡ a
and_swapped true = refl
and_swapped false = refl

and_assoc : (a b c : Bool) → (a && (b && c)) ≡ ((a && b) && c)
and_assoc true b c = refl
and_assoc false b c = refl

fits_from_more : (fits : ℕ → ℕ → Bool) (x : ℕ) (xs : List ℕ) (i : ℕ) → i < length xs → neighbours_fit_from fits x (take (suc i) xs) ≡ (neighbours_fit_from fits x (take i xs) && fits (get_or (x ∷ xs) i 0) (get_or xs i 0))
fits_from_more fits x [] i h = absurd (omega (arith, h))
fits_from_more fits x (y ∷ ys) zero h = and_swapped (fits x y)
fits_from_more fits x (y ∷ ys) (suc i) h =
    ap (λ b. fits x y && b) (fits_from_more fits y ys i (omega (arith, h))) ∙ and_assoc (fits x y) (neighbours_fit_from fits y (take i ys)) (fits (get_or (y ∷ ys) i 0) (get_or ys i 0))

fits_suc : (fits : ℕ → ℕ → Bool) (xs : List ℕ) (i : ℕ) → suc i < length xs → neighbours_fit fits (take (suc (suc i)) xs) ≡ (neighbours_fit fits (take (suc i) xs) && fits (get_or xs i 0) (get_or xs (suc i) 0))
fits_suc fits [] i h = absurd (omega (arith, h))
fits_suc fits (x ∷ xs) i h = fits_from_more fits x xs i (omega (arith, h))

pub fits_more : (fits : ℕ → ℕ → Bool) (xs : List ℕ) (p : ℕ) → 0 < p → p < length xs → neighbours_fit fits (take p xs) ≡ true → fits (get_or xs (p - 1) 0) (get_or xs p 0) ≡ true → neighbours_fit fits (take (p + 1) xs) ≡ true
fits_more fits xs zero l h f g = absurd (omega (arith, l))
fits_more fits xs (suc i) l h f g =
    ap (λ n. neighbours_fit fits (take n xs)) (one_more (suc i)) ∙ fits_suc fits xs i h ∙ ap (λ b. b && fits (get_or xs i 0) (get_or xs (suc i) 0)) f
    ∙ ap (λ n. fits (get_or xs n 0) (get_or xs (suc i) 0)) (less_one i) ∙ g

and_nothing : (a b : Bool) → b ≡ false → (a && b) ≡ false
and_nothing true b e = e
and_nothing false b e = refl

misfit_from : (fits : ℕ → ℕ → Bool) (x : ℕ) (xs : List ℕ) (i : ℕ) → i < length xs → fits (get_or (x ∷ xs) i 0) (get_or xs i 0) ≡ false → neighbours_fit_from fits x xs ≡ false
misfit_from fits x [] i h e = absurd (omega (arith, h))
misfit_from fits x (y ∷ ys) zero h e = ap (λ b. b && neighbours_fit_from fits y ys) e
misfit_from fits x (y ∷ ys) (suc i) h e = and_nothing (fits x y) (neighbours_fit_from fits y ys) (misfit_from fits y ys i (omega (arith, h)) e)

pub misfit : (fits : ℕ → ℕ → Bool) (xs : List ℕ) (p : ℕ) → 0 < p → p < length xs → fits (get_or xs (p - 1) 0) (get_or xs p 0) ≡ false → neighbours_fit fits xs ≡ false
misfit fits xs zero l h e = absurd (omega (arith, l))
misfit fits [] (suc i) l h e = absurd (omega (arith, h))
misfit fits (x ∷ xs) (suc i) l h e = misfit_from fits x xs i (omega (arith, h)) (ap (λ n. fits (get_or (x ∷ xs) n 0) (get_or xs i 0)) (less_one i) ∙ e)

pub truths_more : (old new : Kept) (ns ms xs : List ℕ) (i n : ℕ) → Extends old new → i < length xs → AreNumbersOf old.atoms ns (map Truth (take i xs)) → IsNumberOf new.atoms n (Truth (get_or xs i 0))
    → ms ≡ ns ++ n ∷ [] → AreNumbersOf new.atoms ms (map Truth (take (i + 1) xs))
truths_more old new ns ms xs i n e h are one same =
    subst (λ ks. AreNumbersOf new.atoms ks (map Truth (take (i + 1) xs))) (sym same)
    (subst (AreNumbersOf new.atoms (ns ++ n ∷ [])) (sym (ap (map Truth) (take_more xs i 0 h) ∙ map-append Truth (take i xs) (get_or xs i 0 ∷ [])))
    (numbers_push new.atoms ns (map Truth (take i xs)) n (Truth (get_or xs i 0)) (numbers_kept old new ns (map Truth (take i xs)) e are) one))

pub neighbours_more : (at : ℕ → ℕ → Atom) (old new : Kept) (ns ms xs : List ℕ) (p n : ℕ) → Extends old new → 0 < p → p < length xs → AreNumbersOf old.atoms ns (along at (take p xs))
    → IsNumberOf new.atoms n (at (get_or xs (p - 1) 0) (get_or xs p 0)) → ms ≡ ns ++ n ∷ [] → AreNumbersOf new.atoms ms (along at (take (p + 1) xs))
neighbours_more at old new ns ms xs p n e l h are one same =
    subst (λ ks. AreNumbersOf new.atoms ks (along at (take (p + 1) xs))) (sym same)
    (subst (AreNumbersOf new.atoms (ns ++ n ∷ [])) (sym (along_more at xs p l h))
    (numbers_push new.atoms ns (along at (take p xs)) n (at (get_or xs (p - 1) 0) (get_or xs p 0)) (numbers_kept old new ns (along at (take p xs)) e are) one))

-- ---- no part is a term's own truth

pub bound_differs : (ps : List Summand) (k : ℤ) (i : ℕ) → normal_bound ps k ≢ Truth i
bound_differs [] k i e = cc
bound_differs (p ∷ ps) k i e = cc

relation_differs : (ts : List Tree) (r : Relation) (x y i : ℕ) → relation_atom ts r x y ≢ Truth i
relation_differs ts Equal x y i e = cc
relation_differs ts IsAtMost x y i e = bound_differs _ _ i e
relation_differs ts Less x y i e = bound_differs _ _ i e
relation_differs ts AtLeast x y i e = bound_differs _ _ i e
relation_differs ts Greater x y i e = bound_differs _ _ i e

along_from_all : (P : Atom → Type 0) (at : ℕ → ℕ → Atom) → ((x y : ℕ) → P (at x y)) → (x : ℕ) (xs : List ℕ) → All P (along_from at x xs)
along_from_all P at each x [] = All-nil P
along_from_all P at each x (y ∷ ys) = All-cons P (at x y) (along_from at y ys) (each x y) (along_from_all P at each y ys)

along_all : (P : Atom → Type 0) (at : ℕ → ℕ → Atom) → ((x y : ℕ) → P (at x y)) → (xs : List ℕ) → All P (along at xs)
along_all P at each [] = All-nil P
along_all P at each (x ∷ xs) = along_from_all P at each x xs

pub no_neighbours_own : (ts : List Tree) (r : Relation) (is : List ℕ) (i : ℕ) → Contains (along (relation_atom ts r) is) (Truth i) → ⊥
no_neighbours_own ts r is i h = All-contains (λ a. a ≢ Truth i) _ (Truth i) (along_all (λ a. a ≢ Truth i) (relation_atom ts r) (λ x y. relation_differs ts r x y i) is) h refl

truths_all : (i : ℕ) (is : List ℕ) → All (λ j. j < i) is → All (λ a. a ≢ Truth i) (map Truth is)
truths_all i [] h = All-nil (λ a. a ≢ Truth i)
truths_all i (j ∷ is) h =
    All-cons (λ a. a ≢ Truth i) (Truth j) (map Truth is) (λ e. let same : j ≡ i = cc in absurd (let l : j < i = All-head (λ k. k < i) j is h in omega (arith, l, same))) (truths_all i is (All-tail (λ k. k < i) j is h))

pub no_truth_own : (is : List ℕ) (i : ℕ) → All (λ j. j < i) is → Contains (map Truth is) (Truth i) → ⊥
no_truth_own is i h k = All-contains (λ a. a ≢ Truth i) _ (Truth i) (truths_all i is h) k refl
