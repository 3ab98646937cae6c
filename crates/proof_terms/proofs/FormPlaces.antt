-- Where terms come first, and the pairs of a list.
use Rattle.std.proofs.Common.{◌≡◌, ◌≢◌, ℕ, zero, suc, ◌<◌, ◌≤◌, ◌+◌, ◌-◌, Bool, true, false, nat_eq, Option, Some, None, List, [], ◌∷◌, ◌++◌, length, get_or, Contains, refl, sym, ap, ◌∙◌, subst, inl, inr, ◌⊎◌, arith}
use Rattle.std.specs.Map.{update}
use Rattle.std.proofs.lemmas.Bool.{eqb-true, cases_lt}
use Rattle.std.proofs.lemmas.Bool.Decides.{nat_tests}
use Rattle.std.proofs.lemmas.List.{get_or_default}
use Rattle.std.proofs.lemmas.List.Elements.{All-push, All-weaker, Contains-push, Contains-append_left, Contains-append_right, Contains-append_cases}
use Rattle.std.proofs.lemmas.List.Quantifiers.{all_pairs_push}
use Rattle.smt_meaning.specs.declared.clauses.Atom.{Atom}
use Rattle.smt_meaning.specs.declared.clauses.Atom.TheVariants.{Same}
use Rattle.proof_meaning.specs.Rules.{pairs, with_others}
use Rattle.proof_meaning.specs.Proof.{literal}
use Rattle.proof_terms.specs.Kept.{Kept}
use Rattle.proof_terms.specs.FormParts.{Extends}
use Rattle.proof_terms.specs.FormPairs.{IsFirstPlace, AreFirstPlaces, IsPairBy, IsBackward, IsPositive, HasPairs}

-- ---- one term more

later_place : (xs : List ℕ) (n : ℕ) (places more : List ℕ) (x p : ℕ) → IsFirstPlace xs n places x p → IsFirstPlace xs (n + 1) (places ++ more) x p
later_place xs n places more x p h = record {
  below = omega (arith, h.below);
  here = h.here;
  first = h.first;
  listed = Contains-append_left places more p h.listed;
}

same_places : (xs : List ℕ) (n : ℕ) (places : List ℕ) (x p : ℕ) → IsFirstPlace xs n places x p → IsFirstPlace xs (n + 1) places x p
same_places xs n places x p h = record { below = omega (arith, h.below); here = h.here; first = h.first; listed = h.listed }

eqb_itself : (n : ℕ) → nat_eq n n ≡ true
eqb_itself n = grind (arith, nat_tests)

update_here : (look : ℕ → Option ℕ) (x n q : ℕ) → nat_eq x q ≡ true → update nat_eq look x (Some n) q ≡ Some n
update_here look x n q h = rw h

update_there : (look : ℕ → Option ℕ) (x n q : ℕ) → nat_eq x q ≡ false → update nat_eq look x (Some n) q ≡ look q
update_there look x n q h = rw h

pub first_again : (xs : List ℕ) (n : ℕ) (look : ℕ → Option ℕ) (places : List ℕ) (p : ℕ) → AreFirstPlaces xs n look places → look (get_or xs n 0) ≡ Some p → AreFirstPlaces xs (n + 1) look places
first_again xs n look places p h e = record {
  found = λ x q k. same_places xs n places x q (h.found x q k);
  missing = missing;
  ascending = h.ascending;
  within = All-weaker (λ q. q < n) (λ q. q < n + 1) (λ q l. omega (arith, l)) places h.within;
}
  where
    missing : (x : ℕ) → look x ≡ None → (k : ℕ) → k < n + 1 → get_or xs k 0 ≢ x
    missing x m k l s = by (cases_lt k n)
      where
        by : (k < n) ⊎ (n ≤ k) → ⊥
        by (inl b) = h.missing x m k b s
        by (inr b) =
            let at_n : k ≡ n = omega (arith, b, l) in
            let same : get_or xs n 0 ≡ x = sym (ap (λ j. get_or xs j 0) at_n) ∙ s in
            let two : Some p ≡ None = sym e ∙ ap look same ∙ m in
            absurd cc

pub first_here : (xs : List ℕ) (n : ℕ) (look new : ℕ → Option ℕ) (places more : List ℕ) → AreFirstPlaces xs n look places → look (get_or xs n 0) ≡ None
    → ((q : ℕ) → new q ≡ update nat_eq look (get_or xs n 0) (Some n) q) → more ≡ places ++ n ∷ [] → AreFirstPlaces xs (n + 1) new more
first_here xs n look new places more h e u m = subst (AreFirstPlaces xs (n + 1) new) (sym m) (record {
  found = found;
  missing = missing;
  ascending = all_pairs_push (λ (a b : ℕ). a < b) places n h.ascending (λ k d l. h.within k d l);
  within = All-push (λ q. q < n + 1) places n (All-weaker (λ q. q < n) (λ q. q < n + 1) (λ q l. omega (arith, l)) places h.within) (omega arith);
})
  where
    found : (x p : ℕ) → new x ≡ Some p → IsFirstPlace xs (n + 1) (places ++ n ∷ []) x p
    found x p k = by (nat_eq (get_or xs n 0) x) refl
      where
        by : (b : Bool) → nat_eq (get_or xs n 0) x ≡ b → IsFirstPlace xs (n + 1) (places ++ n ∷ []) x p
        by true q =
            let same : get_or xs n 0 ≡ x = eqb-true (get_or xs n 0) x q in
            let two : Some n ≡ Some p = sym (u x ∙ update_here look (get_or xs n 0) n x q) ∙ k in
            let at_n : n ≡ p = cc in
            subst (IsFirstPlace xs (n + 1) (places ++ n ∷ []) x) at_n (record {
              below = omega arith;
              here = same;
              first = λ j l s. h.missing (get_or xs n 0) e j l (s ∙ sym same);
              listed = Contains-push places n;
            })
        by false q = later_place xs n places (n ∷ []) x p (h.found x p (sym (u x ∙ update_there look (get_or xs n 0) n x q) ∙ k))

    missing : (x : ℕ) → new x ≡ None → (k : ℕ) → k < n + 1 → get_or xs k 0 ≢ x
    missing x k j l s = by (nat_eq (get_or xs n 0) x) refl
      where
        by : (b : Bool) → nat_eq (get_or xs n 0) x ≡ b → ⊥
        by true q = let two : Some n ≡ None = sym (u x ∙ update_here look (get_or xs n 0) n x q) ∙ k in absurd cc
        by false q = at (cases_lt j n)
          where
            at : (j < n) ⊎ (n ≤ j) → ⊥
            at (inl b) = h.missing x (sym (u x ∙ update_there look (get_or xs n 0) n x q) ∙ k) j b s
            at (inr b) =
                let at_n : j ≡ n = omega (arith, b, l) in
                let same : get_or xs n 0 ≡ x = sym (ap (λ i. get_or xs i 0) at_n) ∙ s in
                let two : false ≡ true = sym q ∙ ap (nat_eq (get_or xs n 0)) (sym same) ∙ eqb_itself (get_or xs n 0) in
                absurd cc

-- ---- pairs

pub record IsPairAt (xs : List ℕ) (x y : ℕ) : Type 0 where
  pub front : ℕ
  pub rear : ℕ
  pub order : front < rear
  pub within : rear < length xs
  pub left : get_or xs front 0 ≡ x
  pub right : get_or xs rear 0 ≡ y

pub record IsPair (xs : List ℕ) (a : Atom) : Type 0 where
  pub left : ℕ
  pub right : ℕ
  pub atom : a ≡ Same left right
  pub at : IsPairAt xs left right

record IsWith (x : ℕ) (ys : List ℕ) (a : Atom) : Type 0 where
  place : ℕ
  within : place < length ys
  atom : a ≡ Same x (get_or ys place 0)

one_with : (x : ℕ) (ys : List ℕ) (a : Atom) → Contains (with_others x ys) a → IsWith x ys a
one_with x [] a k = absurd (omega (arith, k.1))
one_with x (y ∷ ys) a k = by k.0 k.1 k.2 (one_with x ys a)
  where
    by : (i : ℕ) → i < length (with_others x (y ∷ ys)) → get_or (with_others x (y ∷ ys)) i a ≡ a → (Contains (with_others x ys) a → IsWith x ys a) → IsWith x (y ∷ ys) a
    by zero l e rest = record { place = 0; within = omega arith; atom = sym e }
    by (suc i) l e rest = let w : IsWith x ys a = rest (i, omega (arith, l), e) in record { place = suc w.place; within = omega (arith, w.within); atom = w.atom }

pub pair_of : (xs : List ℕ) (a : Atom) → Contains (pairs xs) a → IsPair xs a
pair_of [] a k = absurd (omega (arith, k.1))
pair_of (x ∷ xs) a k = by (Contains-append_cases (with_others x xs) (pairs xs) a k) (pair_of xs a)
  where
    by : Contains (with_others x xs) a ⊎ Contains (pairs xs) a → (Contains (pairs xs) a → IsPair xs a) → IsPair (x ∷ xs) a
    by (inl h) rest =
        let w : IsWith x xs a = one_with x xs a h in
        record {
          left = x;
          right = get_or xs w.place 0;
          atom = w.atom;
          at = record { front = 0; rear = suc w.place; order = omega arith; within = omega (arith, w.within); left = refl; right = refl };
        }
    by (inr h) rest =
        let p : IsPair xs a = rest h in
        record {
          left = p.left;
          right = p.right;
          atom = p.atom;
          at = record { front = suc p.at.front; rear = suc p.at.rear; order = omega (arith, p.at.order); within = omega (arith, p.at.within); left = p.at.left; right = p.at.right };
        }

with_one : (x : ℕ) (ys : List ℕ) (i : ℕ) → i < length ys → Contains (with_others x ys) (Same x (get_or ys i 0))
with_one x [] i l = absurd (omega (arith, l))
with_one x (y ∷ ys) zero l = (0, omega arith, refl)
with_one x (y ∷ ys) (suc i) l = let t : Contains (with_others x ys) (Same x (get_or ys i 0)) = with_one x ys i (omega (arith, l)) in (suc t.0, omega (arith, t.1), t.2)

pair_at : (xs : List ℕ) (i j : ℕ) → i < j → j < length xs → Contains (pairs xs) (Same (get_or xs i 0) (get_or xs j 0))
pair_at [] i j o l = absurd (omega (arith, l))
pair_at (x ∷ xs) i zero o l = absurd (omega (arith, o))
pair_at (x ∷ xs) zero (suc j) o l = Contains-append_left (with_others x xs) (pairs xs) (Same x (get_or xs j 0)) (with_one x xs j (omega (arith, l)))
pair_at (x ∷ xs) (suc i) (suc j) o l = Contains-append_right (with_others x xs) (pairs xs) (Same (get_or xs i 0) (get_or xs j 0)) (pair_at xs i j (omega (arith, o)) (omega (arith, l)))

pub has_pair_at : (xs : List ℕ) (x y : ℕ) → IsPairAt xs x y → Contains (pairs xs) (Same x y)
has_pair_at xs x y p =
    subst (λ a. Contains (pairs xs) (Same a y)) p.left (subst (λ b. Contains (pairs xs) (Same (get_or xs p.front 0) b)) p.right (pair_at xs p.front p.rear p.order p.within))

-- ---- by first places

module _ (xs ys : List ℕ) (backward : IsBackward xs ys) (look back : ℕ → Option ℕ) (fronts rears : List ℕ) (front_places : AreFirstPlaces xs (length xs) look fronts) (rear_places : AreFirstPlaces ys (length ys) back rears) where
  turned_here : (r : ℕ) → r < length xs → get_or ys r 0 ≡ get_or xs (length xs - 1 - r) 0
  turned_here r l = backward.turned r l

  pub from_places : (x y : ℕ) → IsPairBy look back (length xs) x y → IsPairAt xs x y
  from_places x y p =
      let f : IsFirstPlace xs (length xs) fronts x p.front = front_places.found x p.front p.front_is in
      let r : IsFirstPlace ys (length ys) rears y p.rear = rear_places.found y p.rear p.rear_is in
      let l : p.rear < length xs = omega (arith, p.order) in
      record {
        front = p.front;
        rear = length xs - 1 - p.rear;
        order = omega (arith, p.order);
        within = omega (arith, p.order);
        left = f.here;
        right = sym (turned_here p.rear l) ∙ r.here;
      }

  pub record IsListedPair (x y : ℕ) : Type 0 where
    pub by : IsPairBy look back (length xs) x y
    pub front_listed : Contains fronts by.front
    pub rear_listed : Contains rears by.rear
    pub left : get_or xs by.front 0 ≡ x
    pub right : get_or ys by.rear 0 ≡ y

  pub to_places : (x y : ℕ) → IsPairAt xs x y → IsListedPair x y
  to_places x y p = at (look x) (back y) refl refl
    where
      from_end : ℕ
      from_end = length xs - 1 - p.rear

      end_within : from_end < length xs
      end_within = omega (arith, p.within)

      there : get_or ys from_end 0 ≡ y
      there = turned_here from_end end_within ∙ ap (λ j. get_or xs j 0) (let e : length xs - 1 - from_end ≡ p.rear = omega (arith, p.within) in e) ∙ p.right

      at : (f r : Option ℕ) → look x ≡ f → back y ≡ r → IsListedPair x y
      at None r e g = absurd (front_places.missing x e p.front (omega (arith, p.order, p.within)) p.left)
      at (Some f) None e g = absurd (rear_places.missing y g from_end (omega (arith, end_within, backward.count)) there)
      at (Some f) (Some r) e g =
          let a : IsFirstPlace xs (length xs) fronts x f = front_places.found x f e in
          let b : IsFirstPlace ys (length ys) rears y r = rear_places.found y r g in
          let low : f ≤ p.front = not_after f p.front (λ l. a.first p.front l p.left) in
          let high : r ≤ from_end = not_after r from_end (λ l. b.first from_end l there) in
          record {
            by = record { front = f; rear = r; front_is = e; rear_is = g; order = omega (arith, low, high, p.order, p.within) };
            front_listed = a.listed;
            rear_listed = b.listed;
            left = a.here;
            right = b.here;
          }
        where
          not_after : (i j : ℕ) → (j < i → ⊥) → i ≤ j
          not_after i j h = by (cases_lt j i)
            where
              by : (j < i) ⊎ (i ≤ j) → i ≤ j
              by (inl l) = absurd (h l)
              by (inr l) = l

  pub listed_pair : (f r : ℕ) → f + (r + 1) < length xs → IsPairAt xs (get_or xs f 0) (get_or ys r 0)
  listed_pair f r l = record {
    front = f;
    rear = length xs - 1 - r;
    order = omega (arith, l);
    within = omega (arith, l);
    left = refl;
    right = sym (turned_here r (omega (arith, l)));
  }

-- ---- positive literals of pairs

positive_later : (old new : Kept) (codes : List ℕ) (a : Atom) → Extends old new → IsPositive old.atoms codes a → IsPositive new.atoms codes a
positive_later old new codes a e h = record { code = h.code; is_code = e.codes h.code (literal true a) h.is_code; inside = h.inside }

pub one_more_positive : (old new : Kept) (codes ys rears : List ℕ) (x n : ℕ) → Extends old new → ((k : ℕ) → k < n → IsPositive old.atoms codes (Same x (get_or ys (get_or rears k 0) 0)))
    → IsPositive new.atoms codes (Same x (get_or ys (get_or rears n 0) 0)) → (k : ℕ) → k < n + 1 → IsPositive new.atoms codes (Same x (get_or ys (get_or rears k 0) 0))
one_more_positive old new codes ys rears x n e h last k l = by (cases_lt k n)
  where
    by : (k < n) ⊎ (n ≤ k) → IsPositive new.atoms codes (Same x (get_or ys (get_or rears k 0) 0))
    by (inl b) = positive_later old new codes _ e (h k b)
    by (inr b) = subst (λ j. IsPositive new.atoms codes (Same x (get_or ys (get_or rears j 0) 0))) (let s : n ≡ k = omega (arith, b, l) in s) last

pub all_positive : (atoms : List Atom) (codes xs ys rears : List ℕ) (front n : ℕ) → length rears ≤ n → ((k : ℕ) → k < n → IsPositive atoms codes (Same (get_or xs front 0) (get_or ys (get_or rears k 0) 0)))
    → HasPairs atoms codes xs ys front rears
all_positive atoms codes xs ys rears front n l h rear k o =
    subst (λ r. IsPositive atoms codes (Same (get_or xs front 0) (get_or ys r 0))) (get_or_default rears k.0 0 rear k.1 ∙ k.2) (h k.0 (omega (arith, l, k.1)))

pub one_more_front : (old new : Kept) (codes xs ys fronts rears : List ℕ) (n : ℕ) → Extends old new → ((k : ℕ) → k < n → HasPairs old.atoms codes xs ys (get_or fronts k 0) rears)
    → HasPairs new.atoms codes xs ys (get_or fronts n 0) rears → (k : ℕ) → k < n + 1 → HasPairs new.atoms codes xs ys (get_or fronts k 0) rears
one_more_front old new codes xs ys fronts rears n e h last k l = by (cases_lt k n)
  where
    by : (k < n) ⊎ (n ≤ k) → HasPairs new.atoms codes xs ys (get_or fronts k 0) rears
    by (inl b) = λ rear m o. positive_later old new codes _ e (h k b rear m o)
    by (inr b) = subst (λ j. HasPairs new.atoms codes xs ys (get_or fronts j 0) rears) (let s : n ≡ k = omega (arith, b, l) in s) last

pub all_fronts : (atoms : List Atom) (codes xs ys fronts rears : List ℕ) (n : ℕ) → length fronts ≤ n → ((k : ℕ) → k < n → HasPairs atoms codes xs ys (get_or fronts k 0) rears)
    → (front : ℕ) → Contains fronts front → HasPairs atoms codes xs ys front rears
all_fronts atoms codes xs ys fronts rears n l h front k =
    subst (λ f. HasPairs atoms codes xs ys f rears) (get_or_default fronts k.0 0 front k.1 ∙ k.2) (h k.0 (omega (arith, l, k.1)))
