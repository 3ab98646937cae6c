-- A key more in a table, and fewer keys.
use Rattle.std.proofs.Common.{◌≡◌, ◌≢◌, ℕ, true, false, List, [], ◌∷◌, ◌++◌, length, map, take, sym, ap, subst, ◌∙◌, arith}
use Rattle.std.specs.Prelude.{Contains}
use Rattle.std.proofs.lemmas.List.{get_or_default, get_or-take, length-map, length-take, map-append, take-map, length_push, get_or_push}
use Rattle.std.proofs.lemmas.List.Quantifiers.{all_pairs_push}
use Rattle.atom_form.specs.Numbering.{IsAt, Numbered, IsTable}

module _ {K : Type 0} (hash_of : K → ℕ) (items : List K) (hashes : List ℕ) (t : IsTable hash_of items hashes) where
  pub table_size : length hashes ≡ length items
  table_size = ap length t.hashed ∙ length-map items hash_of

  pub table_same : (items' : List K) (hashes' : List ℕ) → items' ≡ items → hashes' ≡ hashes → IsTable hash_of items' hashes'
  table_same items' hashes' e f = subst (λ xs. IsTable hash_of xs hashes') (sym e) (subst (IsTable hash_of items) (sym f) t)

  pub table_push : (x : K) (hash : ℕ) → hash ≡ hash_of x → (Contains items x → ⊥) → (items' : List K) (hashes' : List ℕ) → items' ≡ items ++ x ∷ [] → hashes' ≡ hashes ++ hash ∷ []
      → IsTable hash_of items' hashes'
  table_push x hash e new items' hashes' i h =
      subst (λ xs. IsTable hash_of xs hashes') (sym i)
      (record {
        hashed = h ∙ ap (λ ns. ns ++ hash ∷ []) t.hashed ∙ ap (λ n. map hash_of items ++ n ∷ []) e ∙ sym (map-append hash_of items (x ∷ []));
        apart = all_pairs_push (λ (y z : K). y ≢ z) items x t.apart (λ k d l same. new (k, l, get_or_default items k x d l ∙ same));
      })

  pub table_take : (len : ℕ) → IsTable hash_of (take len items) (take len hashes)
  table_take len = record {
    hashed = ap (take len) t.hashed ∙ take-map hash_of len items;
    apart = λ i j d h g same.
        (let size = length-take len items in
        t.apart i j d h (omega (arith, size)) (sym (get_or-take len items i d (omega (arith, size))) ∙ same ∙ get_or-take len items j d (omega (arith, size))));
  }

pub numbered_new : {K : Type 0} (old new : List K) (x : K) (n : ℕ) → n ≡ length old → new ≡ old ++ x ∷ [] → (Contains old x → ⊥) → Numbered old new x n true
numbered_new old new x n size e none = record {
  at = subst (λ xs. IsAt xs n x) (sym e) (omega (arith, size, length_push old x), λ d. get_or_push old x d n (sym size));
  added = λ t. (e, none);
  same = λ f. absurd (let y : true ≡ false = f in cc);
}
