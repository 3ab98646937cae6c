-- The numbers of keys while lists go on.
use Rattle.std.proofs.Common.{◌≡◌, ◌≢◌, ℕ, ◌<◌, ◌≤◌, List, [], ◌∷◌, ◌++◌, length, get_or, map, sym, ap, subst, ◌∙◌, inl, inr, arith}
use Rattle.std.specs.Prelude.{Contains, ◌⊎◌, ℤ}
use Rattle.std.proofs.Common.{to_z, of_z}
use Rattle.std.proofs.lemmas.Int.{to_z-of_z}
use mir.Val.{SFits}
use mir.Syntax.{w128}
use Rattle.atom_form.specs.declared.bound.SumBound.{SumBound}
use Rattle.std.proofs.lemmas.Bool.{cases_lt}
use Rattle.std.proofs.lemmas.List.{get_or_default, get_or-map, get_or_append_left, length-map, length_push, get_or_push}
use Rattle.std.proofs.lemmas.List.Elements.{Contains-get_or}
use Rattle.std.proofs.lemmas.List.Quantifiers.{all_pairs_push}
use Rattle.smt_meaning.specs.declared.clauses.Atom.{Atom}
use Rattle.atom_form.specs.AtomTableNumbers.{IsAt, AreApart}
use Rattle.atom_form.specs.AtomNumbers.{IsKeyAt, AreNumbers}

pub at_stay : (atoms : List Atom) (a : Atom) (k : ℕ) (x : Atom) → IsAt atoms k x → IsAt (atoms ++ a ∷ []) k x
at_stay atoms a k x h = (let l = h.0 in omega (arith, length_push atoms a), λ d. get_or_append_left atoms (a ∷ []) d k h.0 ∙ h.1 d)

pub at_push : (atoms : List Atom) (a : Atom) (n : ℕ) → n ≡ length atoms → IsAt (atoms ++ a ∷ []) n a
at_push atoms a n e = (omega (arith, e, length_push atoms a), λ d. get_or_push atoms a d n (sym e))

pub at_contains : (atoms : List Atom) (k : ℕ) (x : Atom) → IsAt atoms k x → Contains atoms x
at_contains atoms k x h = (k, h.0, h.1 x)

pub key_contains : {K : Type 0} (keys : List K) (k : ℕ) (x : K) → IsKeyAt keys k x → Contains keys x
key_contains keys k x h = (k, h.0, h.1 x)

pub apart_push : (atoms : List Atom) (a : Atom) → AreApart atoms → (Contains atoms a → ⊥) → AreApart (atoms ++ a ∷ [])
apart_push atoms a apart fresh = all_pairs_push (λ (x y : Atom). x ≢ y) atoms a apart (λ k d h same. fresh (k, h, get_or_default atoms k a d h ∙ same))

module _ {K : Type 0} (atom : K → Atom) (keys : List K) (numbers : List ℕ) (atoms : List Atom) (known : AreNumbers atom keys numbers atoms) where
  pub numbers_stay : (a : Atom) → AreNumbers atom keys numbers (atoms ++ a ∷ [])
  numbers_stay a = record { size = known.size; each = λ k x h. at_stay atoms a (get_or numbers k 0) (atom x) (known.each k x h) }

  pub numbers_push : (x : K) (n : ℕ) → n ≡ length atoms → AreNumbers atom (keys ++ x ∷ []) (numbers ++ n ∷ []) (atoms ++ atom x ∷ [])
  numbers_push x n e = record {
    size = omega (arith, known.size, length_push numbers n, length_push keys x);
    each = λ k y h. at k y h (cases_lt k (length keys));
  }
    where
      at : (k : ℕ) (y : K) → IsKeyAt (keys ++ x ∷ []) k y → (k < length keys) ⊎ (length keys ≤ k) → IsAt (atoms ++ atom x ∷ []) (get_or (numbers ++ n ∷ []) k 0) (atom y)
      at k y h (inl less) =
          let there : IsKeyAt keys k y = (less, λ d. sym (get_or_append_left keys (x ∷ []) d k less) ∙ h.1 d) in
          let short : k < length numbers = omega (arith, known.size, less) in
          subst (λ m. IsAt (atoms ++ atom x ∷ []) m (atom y)) (sym (get_or_append_left numbers (n ∷ []) 0 k short)) (at_stay atoms (atom x) (get_or numbers k 0) (atom y) (known.each k y there))
      at k y h (inr from) =
          let bound = h.0 in
          let here : length keys ≡ k = omega (arith, length_push keys x) in
          let same : x ≡ y = sym (get_or_push keys x x k here) ∙ h.1 x in
          let there : length numbers ≡ k = omega (arith, known.size) in
          subst (λ m. IsAt (atoms ++ atom x ∷ []) m (atom y)) (sym (get_or_push numbers n 0 k there)) (subst (λ z. IsAt (atoms ++ atom x ∷ []) n (atom z)) same (at_push atoms (atom x) n e))

-- what a list of images contains is the image of what the list contains
pub image_of : {X Y : Type 0} (f : X → Y) (xs : List X) (d : X) (y : Y) → Contains (map f xs) y → (x : X) × Contains xs x × (f x ≡ y)
image_of f xs d y (k, h, e) =
    let short : k < length xs = omega (arith, length-map xs f) in
    (get_or xs k d, Contains-get_or xs k d short, sym (get_or-map f xs k d y short) ∙ e)

-- the bound as it was passed
pub passed_bound : (b : SumBound) (n : ℕ) (k : ℤ) → SFits w128 k → b ≡ record { sum = n; threshold = to_z w128 (of_z w128 k) } → b ≡ record { sum = n; threshold = k }
passed_bound b n k fits e = e ∙ ap (λ z. let x : SumBound = record { sum = n; threshold = z } in x) (to_z-of_z w128 k fits)
