-- Bounds as atoms.
use Rattle.std.proofs.Common.{◌≡◌, ℕ, ◌<◌, ◌≤◌, List, [], ◌∷◌, ◌++◌, length, get_or, map, sym, ap, ◌∙◌, inl, inr, refl, arith}
use Rattle.std.specs.Prelude.{◌⊎◌, pos}
use Rattle.std.proofs.lemmas.Bool.{cases_lt}
use Rattle.std.proofs.lemmas.List.{get_or-map, length-map, get_or_append_left}
use Rattle.std.proofs.lemmas.List.Elements.{All-head, All-tail}
use Rattle.smt_meaning.specs.declared.clauses.Summand.{Summand}
use Rattle.smt_meaning.specs.declared.clauses.Atom.TheVariants.{AtMost}
use Rattle.atom_form.specs.Sums.{AreApart as AreApartSums}
use Rattle.atom_form.specs.declared.bound.SumBound.{SumBound}
use Rattle.atom_form.specs.BoundTableAtoms.{atom_of, AtomsAreDifferent, AtomsStay}

-- of two places one is before the other, or they are one
order : (i j : ℕ) → (i < j) ⊎ ((j < i) ⊎ (i ≡ j))
order i j = by (cases_lt i j) (cases_lt j i)
  where
    by : (i < j) ⊎ (j ≤ i) → (j < i) ⊎ (i ≤ j) → (i < j) ⊎ ((j < i) ⊎ (i ≡ j))
    by (inl h) g = inl h
    by (inr h) (inl g) = inr (inl g)
    by (inr h) (inr g) = inr (inr (omega arith))

one_sum : (sums : List (List Summand)) → AreApartSums sums → (i j : ℕ) → i < length sums → j < length sums → get_or sums i [] ≡ get_or sums j [] → i ≡ j
one_sum sums apart i j h g e = by (order i j)
  where
    by : (i < j) ⊎ ((j < i) ⊎ (i ≡ j)) → i ≡ j
    by (inl l) = absurd (apart i j [] l g e)
    by (inr (inl l)) = absurd (apart j i [] l h (sym e))
    by (inr (inr s)) = s

one_bound : (sums : List (List Summand)) → AreApartSums sums → (a b : SumBound) → a.sum < length sums → b.sum < length sums → atom_of sums a ≡ atom_of sums b → a ≡ b
one_bound sums apart a b h g e =
    let s : get_or sums a.sum [] ≡ get_or sums b.sum [] = cc in
    let t : a.threshold ≡ b.threshold = cc in
    let n : a.sum ≡ b.sum = one_sum sums apart a.sum b.sum h g s in
    ap (λ k. let x : SumBound = record { sum = k; threshold = a.threshold } in x) n ∙ ap (λ k. let x : SumBound = record { sum = b.sum; threshold = k } in x) t

abbrev no_bound : SumBound
no_bound = record { sum = 0; threshold = pos 0 }

pub atoms_differ : AtomsAreDifferent
atoms_differ sums bounds apart known different i j d h g same =
    let size = length-map bounds (atom_of sums) in
    let short : j < length bounds = omega (arith, size) in
    different i j no_bound h short
    (one_bound sums apart (get_or bounds i no_bound) (get_or bounds j no_bound) (known i no_bound (omega arith)) (known j no_bound short)
    (sym (get_or-map (atom_of sums) bounds i no_bound d (omega arith)) ∙ same ∙ get_or-map (atom_of sums) bounds j no_bound d short))

pub atoms_keep : AtomsStay
atoms_keep sums more [] known = refl
atoms_keep sums more (b ∷ bs) known =
    let h = All-head (λ (x : SumBound). x.sum < length sums) b bs known in
    ap (λ s. AtMost s b.threshold ∷ map (atom_of (sums ++ more)) bs) (get_or_append_left sums more [] b.sum h)
    ∙ ap (λ xs. atom_of sums b ∷ xs) (atoms_keep sums more bs (All-tail (λ (x : SumBound). x.sum < length sums) b bs known))
