-- Splits, and the copies in which they are made.
use Rattle.std.proofs.Common.{◌≡◌, ◌≢◌, ℕ, zero, suc, ◌+◌, ◌/◌, ◌<◌, ◌≤◌, ◌⊎◌, inl, inr, Bool, true, false, not, List, [], ◌∷◌, ◌++◌, map, take, length, get_or, ℤ, sym, ap, subst, ◌∙◌, refl, arith}
use Rattle.std.specs.Prelude.{◌==◌, All, AllPairs, Contains, int_le}
use Rattle.std.specs.List.{filter}
use Rattle.std.proofs.lemmas.Bool.{cases_lt}
use Rattle.std.proofs.lemmas.Bool.Decides.{nat_tests}
use Rattle.std.proofs.lemmas.List.{take_at}
use Rattle.std.proofs.lemmas.List.Elements.{All-append, All-contains, All-contains_itself, All-filter, All-push, Contains-append_cases, Contains-append_left, Contains-append_right, Contains-get_or, Contains-push, Contains-push_cases, filter_passes}
use Rattle.fraction128.specs.declared.ratio.Ratio.{Ratio}
use Rattle.fraction128.specs.Number.{whole}
use Rattle.fraction128.specs.Whole.{InRange}
use Rattle.fraction128.specs.Lines.{sum_value}
use Rattle.fraction128.specs.declared.Bound.{Bound}
use Rattle.fraction128.specs.declared.Column.{Column}
use Rattle.fraction128.specs.declared.Summand.{Summand}
use Rattle.literals.specs.Signed.{Signed, opposite, sign}
use Rattle.simplex.specs.declared.trail.Set.{Set}
use Rattle.simplex.specs.State as Simplex
use Rattle.simplex.specs.State.{KeepsValues, tag_in}
use Rattle.simplex_steps.specs.State.{column_in, KeepsBounds}
use Rattle.simplex_steps.specs.Conflict.{Stands}
use Rattle.sum_bounds.specs.Bounds.{State, Told, told_of, told_bound, sums, MeetsSide, Meets, IsConflict}
use Rattle.sum_bounds.specs.Complements.{IsPut}
use Rattle.sum_bounds.specs.Wholes.{IsWholeConflict}
use Rattle.sum_bounds.specs.Splits.{spare, KeepsSums, Extends, HasFirst, IsCopied, IsCopy, AddsOthers, IsResolvent, told_with, IsSplit}
use Rattle.sum_bounds.proofs.ClauseLaws.{whole_sum, sum_is_whole, bound_holds}
use Rattle.sum_bounds.proofs.Conflicts.{told_in, stood}
use Rattle.sum_bounds.proofs.Values.{known_told}

-- ---- copies

pub extends_same : (s u : State) → u ≡ s → Extends s u
extends_same s u e = subst (Extends s) (sym e) (record { kept = λ i lt. (lt, refl); told = refl })

pub extends_both : (s t u : State) → Extends s t → Extends t u → Extends s u
extends_both s t u a b =
    record { kept = λ i lt. let x = a.kept i lt in let y = b.kept i x.0 in (y.0, y.1 ∙ x.1); told = b.told ∙ a.told }

pub extends_kept : (s u : State) → KeepsSums s u → u.told ≡ s.told → Extends s u
extends_kept s u k e = record { kept = λ i lt. (let c = k.count in omega (arith, lt, c), k.each i); told = e }

pub first_more : (cs : List Column) (n m : ℕ) (s u : State) → HasFirst cs n s → Extends s u → m ≡ n → m < length u.columns → sums u m ≡ (column_in cs n).sum → HasFirst cs (n + 1) u
first_more cs n m s u has grown e lt is =
    record { first = λ i less. by i less (cases_lt i n); untold = grown.told ∙ has.untold }
  where
    by : (i : ℕ) → i < n + 1 → (i < n) ⊎ (n ≤ i) → (i < length u.columns) × (sums u i ≡ (column_in cs i).sum)
    by i less (inl h) = let x = has.first i h in let y = grown.kept i x.0 in (y.0, y.1 ∙ x.1)
    by i less (inr h) =
        let same : m ≡ i = omega (arith, e, less, h) in
        let at : n ≡ i = omega (arith, less, h) in
        (subst (λ j. j < length u.columns) same lt, subst (λ j. sums u j ≡ (column_in cs j).sum) at (subst (λ j. sums u j ≡ (column_in cs n).sum) e is))

pub first_copy : (cs : List Column) (told : List Told) (n : ℕ) (s : State) → n ≡ length cs → HasFirst cs n s → IsCopy cs told s
first_copy cs told n s e has =
    record { first = λ i lt. has.first i (omega (arith, lt, e)); copied = subst (All (IsCopied cs told)) (sym has.untold) (λ k d lt. absurd (omega (arith, lt))) }

pub copy_extended : (cs : List Column) (told : List Told) (s u : State) → IsCopy cs told s → Extends s u → IsCopy cs told u
copy_extended cs told s u copy grown =
    record { first = λ i lt. let x = copy.first i lt in let y = grown.kept i x.0 in (y.0, y.1 ∙ x.1); copied = subst (All (IsCopied cs told)) (sym grown.told) copy.copied }

pub copy_more : (x : Simplex.State) (s u : State) (b : Bound) (set : Set) → Simplex.IsState x → Stands x.columns b → set.tag ≡ tag_in x.bounds b → (set.tag / 2 ≡ spare → ⊥) → set.variable ≡ b.variable → set.side ≡ b.side → set.number ≡ b.number
    → KeepsValues s.columns u.columns → u.told ≡ s.told ++ told_of set ∷ [] → IsCopy x.columns (map told_of x.bounds) s → IsCopy x.columns (map told_of x.bounds) u
unfolding told_in
copy_more x s u b set state st tag apart variable side number keeps told copy =
    record {
      first = λ i lt. let h = copy.first i lt in (let c = keeps.count in let l = h.0 in omega (arith, l, c), (keeps.each i).sum ∙ h.1);
      copied = subst (All (IsCopied x.columns (map told_of x.bounds))) (sym told)
          (All-push (IsCopied x.columns (map told_of x.bounds)) s.told (told_of set) copy.copied (record {
            among = subst (Contains (map told_of x.bounds)) (sym is) (stood x.columns x.bounds b state.bounded st);
            known = subst (λ i. i < length x.columns) (sym variable) st.0;
            apart = apart;
          }));
    }
  where
    is : told_of set ≡ told_in x.bounds b
    is = cc (tag, variable, side, number)

pub keeps_bounds : (s u : State) → KeepsBounds s.columns u.columns → KeepsSums s u
keeps_bounds s u k = record { count = k.count; each = λ i. (k.each i).sum }

pub keeps_values : (s u : State) → KeepsValues s.columns u.columns → KeepsSums s u
keeps_values s u k = record { count = k.count; each = λ i. (k.each i).sum }

pub keeps_both : (s t u : State) → KeepsSums s t → KeepsSums t u → KeepsSums s u
keeps_both s t u a b = record { count = b.count ∙ a.count; each = λ i. b.each i ∙ a.each i }

pub keeps_same : (s u : State) → u ≡ s → KeepsSums s u
keeps_same s u e = subst (KeepsSums s) (sym e) (record { count = refl; each = λ i. refl })

pub taken_back : (s t u : State) (n : ℕ) (x : Told) → n ≡ length s.told → t.told ≡ s.told ++ x ∷ [] → u.told ≡ take n t.told → u.told ≡ s.told
taken_back s t u n x e more back = back ∙ ap (take n) more ∙ take_at s.told (x ∷ []) n (sym e)

-- the number of a bound that stands lies in the range
pub stands_in_range : (x : Simplex.State) (b : Bound) → Simplex.IsState x → Stands x.columns b → InRange b.number
unfolding told_in
stands_in_range x b state st =
    (All-contains (λ (t : Told). (t.variable < length x.columns) × InRange t.number) (map told_of x.bounds) (told_in x.bounds b) (known_told (length x.columns) x.bounds state.known)
    (stood x.columns x.bounds b state.bounded st)).1

-- ---- conflicts

pub conflict_same : (f g : ℕ → List Summand) (told : List Told) (ls : List Signed) → ((i : ℕ) → f i ≡ g i) → IsConflict f told ls → IsConflict g told ls
conflict_same f g told ls same c = record {
  bounds = c.bounds;
  stand = c.stand;
  each = c.each;
  only = c.only;
  once = c.once;
  apart = λ w above met.
      c.apart w above (λ k d lt. let t = get_or c.bounds k d in subst (λ ps. MeetsSide t.side t.number (sum_value w ps)) (sym (same t.variable)) (met k d lt));
}

pub conflict_back : (s u : State) (ls : List Signed) → KeepsSums s u → u.told ≡ s.told → IsConflict (sums u) u.told ls → IsConflict (sums s) s.told ls
conflict_back s u ls keeps told c = subst (λ ts. IsConflict (sums s) ts ls) told (conflict_same (sums u) (sums s) u.told ls keeps.each c)

pub conflict_more : (s u : State) (x : Told) (ls : List Signed) → KeepsSums s u → u.told ≡ s.told ++ x ∷ [] → IsConflict (sums u) u.told ls → IsConflict (sums s) (s.told ++ x ∷ []) ls
conflict_more s u x ls keeps told c = subst (λ ts. IsConflict (sums s) ts ls) told (conflict_same (sums u) (sums s) u.told ls keeps.each c)

pub split_of : (s t : State) (i : ℕ) (m : ℤ) (low high : Signed) (below above ls : List Signed) → low ≡ record { atom = spare; positive = true } → high ≡ record { atom = spare; positive = false }
    → IsConflict (sums s) (told_with s low i m) below → KeepsSums s t → t.told ≡ s.told → IsConflict (sums t) (told_with t high i m) above → IsResolvent below above ls → IsSplit s ls
split_of s t i m low high below above ls is_low is_high at_most keeps told at_least resolved =
    record {
      variable = i;
      number = m;
      below = below;
      above = above;
      at_most = subst (λ (l : Signed). IsConflict (sums s) (told_with s l i m) below) is_low at_most;
      at_least = subst (λ (l : Signed). IsConflict (sums s) (told_with s l i m) above) is_high
          (subst (λ ts. IsConflict (sums s) (ts ++ told_bound high i false m ∷ []) above) told (conflict_same (sums t) (sums s) (told_with t high i m) above keeps.each at_least));
      resolved = resolved;
    }

pub split_back : (s u : State) (ls : List Signed) → KeepsSums s u → u.told ≡ s.told → IsSplit s ls → IsSplit u ls
split_back s u ls keeps told split =
    record {
      variable = split.variable;
      number = split.number;
      below = split.below;
      above = split.above;
      at_most = moved (record { atom = spare; positive = true }) split.below split.at_most;
      at_least = moved (record { atom = spare; positive = false }) split.above split.at_least;
      resolved = split.resolved;
    }
  where
    moved : (l : Signed) (xs : List Signed) → IsConflict (sums s) (told_with s l split.variable split.number) xs → IsConflict (sums u) (told_with u l split.variable split.number) xs
    moved l xs c =
        subst (λ ts. IsConflict (sums u) (ts ++ told_bound l split.variable false split.number ∷ []) xs) (sym told)
        (conflict_same (sums s) (sums u) (told_with s l split.variable split.number) xs (λ i. sym (keeps.each i)) c)

-- ---- resolvents

pub others_none : (before ls : List Signed) → ls ≡ [] → AddsOthers before ls before
others_none before ls e =
    subst (λ xs. AddsOthers before xs before) (sym e)
    (record { keeps = λ m h. h; has = λ m h ne. absurd (let lt = h.1 in omega (arith, lt)); only = λ m h. inl h; once = λ h. h })

pub others_both : (before xs middle ys now : List Signed) → AddsOthers before xs middle → AddsOthers middle ys now → AddsOthers before (xs ++ ys) now
others_both before xs middle ys now a b =
    record {
      keeps = λ m h. b.keeps m (a.keeps m h);
      has = λ m h ne. has m (Contains-append_cases xs ys m h) ne;
      only = λ m h. only m (b.only m h);
      once = λ h. b.once (a.once h);
    }
  where
    has : (m : Signed) → Contains xs m ⊎ Contains ys m → m.atom ≢ spare → Contains now m
    has m (inl h) ne = b.keeps m (a.has m h ne)
    has m (inr h) ne = b.has m h ne

    first : (m : Signed) → Contains before m ⊎ (Contains xs m × (m.atom ≢ spare)) → Contains before m ⊎ (Contains (xs ++ ys) m × (m.atom ≢ spare))
    first m (inl h) = inl h
    first m (inr h) = inr (Contains-append_left xs ys m h.0, h.1)

    only : (m : Signed) → Contains middle m ⊎ (Contains ys m × (m.atom ≢ spare)) → Contains before m ⊎ (Contains (xs ++ ys) m × (m.atom ≢ spare))
    only m (inl h) = first m (a.only m h)
    only m (inr h) = inr (Contains-append_right xs ys m h.0, h.1)

one : (l m : Signed) → Contains (l ∷ []) m → l ≡ m
one l m h = by (Contains-push_cases [] l m h)
  where
    by : Contains [] m ⊎ (l ≡ m) → l ≡ m
    by (inl h) = absurd (let lt = h.1 in omega (arith, lt))
    by (inr e) = e

pub other_passed : (before now : List Signed) (l : Signed) → now ≡ before → l.atom ≡ spare → AddsOthers before (l ∷ []) now
other_passed before now l same e =
    subst (AddsOthers before (l ∷ [])) (sym same)
    (record { keeps = λ m h. h; has = λ m h ne. absurd (ne (ap (λ (x : Signed). x.atom) (sym (one l m h)) ∙ e)); only = λ m h. inl h; once = λ h. h })

pub other_put : (before now : List Signed) (l : Signed) → (l.atom ≡ spare → ⊥) → IsPut before l now → AddsOthers before (l ∷ []) now
other_put before now l ne p =
    record { keeps = p.keeps; has = λ m h _. subst (Contains now) (one l m h) p.has; only = λ m h. by m (p.only m h); once = p.once }
  where
    by : (m : Signed) → Contains before m ⊎ (m ≡ l) → Contains before m ⊎ (Contains (l ∷ []) m × (m.atom ≢ spare))
    by m (inl h) = inl h
    by m (inr e) = inr (subst (Contains (l ∷ [])) (sym e) (Contains-push [] l), λ same. ne (ap (λ (x : Signed). x.atom) (sym e) ∙ same))

pub resolvent_of : (below above middle ls before : List Signed) → before ≡ [] → AddsOthers before below middle → AddsOthers middle above ls → IsResolvent below above ls
resolvent_of below above middle ls before e a b =
    record {
      has = λ m h ne. has m h ne;
      only = λ m h. only m (b.only m h);
      once = b.once (a.once (subst (AllPairs (λ (x y : Signed). x ≢ y)) (sym e) (λ i j d lt less. absurd (omega (arith, less)))));
    }
  where
    has : (m : Signed) → Contains below m ⊎ Contains above m → m.atom ≢ spare → Contains ls m
    has m (inl h) ne = b.keeps m (a.has m h ne)
    has m (inr h) ne = b.has m h ne

    first : (m : Signed) → Contains before m ⊎ (Contains below m × (m.atom ≢ spare)) → (Contains below m ⊎ Contains above m) × (m.atom ≢ spare)
    first m (inl h) = absurd (let c = subst (λ xs. Contains xs m) e h in let lt = c.1 in omega (arith, lt))
    first m (inr h) = (inl h.0, h.1)

    only : (m : Signed) → Contains middle m ⊎ (Contains above m × (m.atom ≢ spare)) → (Contains below m ⊎ Contains above m) × (m.atom ≢ spare)
    only m (inl h) = first m (a.only m h)
    only m (inr h) = (inr h.0, h.1)

-- ---- splits

abbrev stays : Told → Bool
stays t = not (t.literal.atom == spare)

differs : (n m : ℕ) → (n ≡ m → ⊥) → not (n == m) ≡ true
differs n m ne = grind (arith, nat_tests, ne)

apart_by : (n m : ℕ) → not (n == m) ≡ true → n ≡ m → ⊥
apart_by n m h e = absurd (grind (arith, nat_tests, h, e))

contains_step : (p : Told → Bool) (y : Told) (ys : List Told) (x : Told) (b : Bool) → p y ≡ b → Contains (y ∷ ys) x → p x ≡ true → (Contains ys x → Contains (filter p ys) x) → Contains (filter p (y ∷ ys)) x
contains_step p y ys x true e (zero, lt, same) is rest = rw e (zero, omega arith, same)
contains_step p y ys x true e (suc k, lt, same) is rest = rw e (let r = rest (k, omega (arith, lt), same) in let l = r.1 in (suc r.0, omega (arith, l), r.2))
contains_step p y ys x false e (zero, lt, same) is rest = absurd (let z : true ≡ false = sym is ∙ ap p (sym same) ∙ e in cc)
contains_step p y ys x false e (suc k, lt, same) is rest = rw e (rest (k, omega (arith, lt), same))

contains_filter : (p : Told → Bool) (xs : List Told) (x : Told) → Contains xs x → p x ≡ true → Contains (filter p xs) x
contains_filter p [] x h is = absurd (let lt = h.1 in omega (arith, lt))
contains_filter p (y ∷ ys) x h is = contains_step p y ys x (p y) refl h is (λ g. contains_filter p ys x g is)

from_filter : (p : Told → Bool) (xs : List Told) (x : Told) → Contains (filter p xs) x → Contains xs x × (p x ≡ true)
from_filter p xs x h =
    (All-contains (Contains xs) (filter p xs) x (All-filter p (Contains xs) xs (All-contains_itself xs)) h, All-contains (λ t. p t ≡ true) (filter p xs) x (filter_passes p xs) h)

abbrev side : Bool → ℕ → ℤ → Told
side p i m = told_bound (record { atom = spare; positive = p }) i false m

-- a bound of a conflict with a side was told, or is that side
half_among : (cs : List Column) (told : List Told) (s : State) (p : Bool) (i : ℕ) (m : ℤ) (t : Told) → IsCopy cs told s → Contains (s.told ++ side p i m ∷ []) t → IsCopied cs told t ⊎ (side p i m ≡ t)
half_among cs told s p i m t copy h = by (Contains-push_cases s.told (side p i m) t h)
  where
    by : Contains s.told t ⊎ (side p i m ≡ t) → IsCopied cs told t ⊎ (side p i m ≡ t)
    by (inl h) = inl (All-contains (IsCopied cs told) s.told t copy.copied h)
    by (inr e) = inr e

half_stands : (cs : List Column) (told : List Told) (s : State) (p : Bool) (i : ℕ) (m : ℤ) (xs : List Signed) → IsCopy cs told s → (c : IsConflict (sums s) (s.told ++ side p i m ∷ []) xs)
    → All (Contains told) (filter stays c.bounds)
half_stands cs told s p i m xs copy c k d lt =
    let t = get_or (filter stays c.bounds) k d in
    let h = from_filter stays c.bounds t (Contains-get_or (filter stays c.bounds) k d lt) in
    by t h.1 (half_among cs told s p i m t copy (All-contains (Contains (s.told ++ side p i m ∷ [])) c.bounds t c.stand h.0))
  where
    by : (t : Told) → stays t ≡ true → IsCopied cs told t ⊎ (side p i m ≡ t) → Contains told t
    by t h (inl copied) = copied.among
    by t h (inr e) = absurd (apart_by t.literal.atom spare h (ap (λ (x : Told). x.literal.atom) (sym e)))

half_each : (told : List Told) (sum : ℕ → List Summand) (xs ls : List Signed) (c : IsConflict sum told xs) → ((m : Signed) → Contains xs m → m.atom ≢ spare → Contains ls m)
    → All (λ (t : Told). Contains ls (opposite t.literal)) (filter stays c.bounds)
half_each told sum xs ls c has k d lt =
    let t = get_or (filter stays c.bounds) k d in
    let h = from_filter stays c.bounds t (Contains-get_or (filter stays c.bounds) k d lt) in
    has (opposite t.literal) (All-contains (λ (t : Told). Contains xs (opposite t.literal)) c.bounds t c.each h.0) (apart_by t.literal.atom spare h.1)

half_only : (told : List Told) (sum : ℕ → List Summand) (xs : List Signed) (c : IsConflict sum told xs) (l : Signed) → Contains xs l → l.atom ≢ spare → (t : Told) × Contains (filter stays c.bounds) t × (l ≡ opposite t.literal)
half_only told sum xs c l h ne =
    let r = All-contains (λ l. (t : Told) × Contains c.bounds t × (l ≡ opposite t.literal)) xs l c.only h in
    (r.0, contains_filter stays c.bounds r.0 r.1 (differs r.0.literal.atom spare (λ e. ne (ap (λ (x : Signed). x.atom) r.2 ∙ e))), r.2)

-- whole numbers with the sum on a side don't meet the bounds of the conflict with it
half_apart : (cs : List Column) (told : List Told) (s : State) (p : Bool) (i : ℕ) (m : ℤ) (xs : List Signed) → IsCopy cs told s → (c : IsConflict (sums s) (s.told ++ side p i m ∷ []) xs) → (f : ℕ → ℤ)
    → sign p (int_le (whole_sum f (sums s i)) m) ≡ true → All (Meets (λ j. (column_in cs j).sum) (λ t. whole (f t))) (filter stays c.bounds) → ⊥
half_apart cs told s p i m xs copy c f on met =
    c.apart w (λ j. omega arith)
    (λ k d lt.
    let t = get_or c.bounds k d in
    let there = Contains-get_or c.bounds k d lt in
    by t there (half_among cs told s p i m t copy (c.stand k d lt)))
  where
    w : ℕ → Ratio
    w t = whole (f t)

    by : (t : Told) → Contains c.bounds t → IsCopied cs told t ⊎ (side p i m ≡ t) → Meets (sums s) w t
    by t there (inl copied) =
        subst (λ ps. MeetsSide t.side t.number (sum_value w ps)) (sym (copy.first t.variable copied.known).1)
        (All-contains (Meets (λ j. (column_in cs j).sum) w) (filter stays c.bounds) t met (contains_filter stays c.bounds t there (differs t.literal.atom spare copied.apart)))
    by t there (inr e) =
        subst (Meets (sums s) w) e
        (subst (λ (x : Ratio). MeetsSide (side p i m).side (side p i m).number x) (sym (sum_is_whole f (sums s i))) (bound_holds p false (whole_sum f (sums s i)) m on))

all_left : (P : Told → Type 0) (xs ys : List Told) → All P (xs ++ ys) → All P xs
all_left P xs ys h k d lt = All-contains P (xs ++ ys) (get_or xs k d) h (Contains-append_left xs ys (get_or xs k d) (Contains-get_or xs k d lt))

all_right : (P : Told → Type 0) (xs ys : List Told) → All P (xs ++ ys) → All P ys
all_right P xs ys h k d lt = All-contains P (xs ++ ys) (get_or ys k d) h (Contains-append_right xs ys (get_or ys k d) (Contains-get_or ys k d lt))

pub whole_split : (cs : List Column) (told : List Told) (s : State) (ls : List Signed) → IsCopy cs told s → IsSplit s ls → IsWholeConflict (λ i. (column_in cs i).sum) told ls
whole_split cs told s ls copy split =
    record {
      bounds = filter stays split.at_most.bounds ++ filter stays split.at_least.bounds;
      stand = All-append (Contains told) (filter stays split.at_most.bounds) (filter stays split.at_least.bounds) (half_stands cs told s true split.variable split.number split.below copy split.at_most)
          (half_stands cs told s false split.variable split.number split.above copy split.at_least);
      each = All-append (λ (t : Told). Contains ls (opposite t.literal)) (filter stays split.at_most.bounds) (filter stays split.at_least.bounds)
          (half_each (s.told ++ side true split.variable split.number ∷ []) (sums s) split.below ls split.at_most (λ l h ne. split.resolved.has l (inl h) ne))
          (half_each (s.told ++ side false split.variable split.number ∷ []) (sums s) split.above ls split.at_least (λ l h ne. split.resolved.has l (inr h) ne));
      only = λ k d lt. let o = split.resolved.only (get_or ls k d) (Contains-get_or ls k d lt) in only (get_or ls k d) o.0 o.1;
      once = split.resolved.once;
      apart = λ f met. apart f (int_le (whole_sum f (sums s split.variable)) split.number) refl met;
    }
  where
    only : (l : Signed) → Contains split.below l ⊎ Contains split.above l → l.atom ≢ spare
        → (t : Told) × Contains (filter stays split.at_most.bounds ++ filter stays split.at_least.bounds) t × (l ≡ opposite t.literal)
    only l (inl h) ne =
        let o = half_only (s.told ++ side true split.variable split.number ∷ []) (sums s) split.below split.at_most l h ne in
        (o.0, Contains-append_left (filter stays split.at_most.bounds) (filter stays split.at_least.bounds) o.0 o.1, o.2)
    only l (inr h) ne =
        let o = half_only (s.told ++ side false split.variable split.number ∷ []) (sums s) split.above split.at_least l h ne in
        (o.0, Contains-append_right (filter stays split.at_most.bounds) (filter stays split.at_least.bounds) o.0 o.1, o.2)

    apart : (f : ℕ → ℤ) (b : Bool) → int_le (whole_sum f (sums s split.variable)) split.number ≡ b
        → All (Meets (λ j. (column_in cs j).sum) (λ t. whole (f t))) (filter stays split.at_most.bounds ++ filter stays split.at_least.bounds) → ⊥
    apart f true e met =
        half_apart cs told s true split.variable split.number split.below copy split.at_most f e
        (all_left (Meets (λ j. (column_in cs j).sum) (λ t. whole (f t))) (filter stays split.at_most.bounds) (filter stays split.at_least.bounds) met)
    apart f false e met =
        half_apart cs told s false split.variable split.number split.above copy split.at_least f (ap not e)
        (all_right (Meets (λ j. (column_in cs j).sum) (λ t. whole (f t))) (filter stays split.at_most.bounds) (filter stays split.at_least.bounds) met)
