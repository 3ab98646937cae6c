-- Which of two numbers is larger, by their digits.
use Rattle.std.proofs.Common.{◌≡◌, ℕ, zero, suc, ◌+◌, ◌-◌, ◌*◌, ◌<◌, ◌≤◌, List, [], ◌∷◌, ◌++◌, length, get_or, drop, map, ap, ap₂, sym, ◌∙◌, refl, arith, nat_lt, nat_eq, cond, length-drop}
use Rattle.std.specs.Prelude.{replicate}
use Rattle.std.specs.declared.cmp.Ordering.TheVariants.{Less, Equal, Greater}
use Rattle.std.specs.Ordering.{nat_cmp}
use Rattle.std.specs.Cmp.{nat_cmp_is}
use Rattle.std.proofs.Math.Seq.{drop-cons}
use Rattle.std.proofs.Math.ListN.{drop_of_length-le}
use Rattle.std.proofs.lemmas.Bool.Decides.{nat_tests}
use Rattle.std.proofs.lemmas.List.{length-map}
use Rattle.smt_meaning.specs.Sorts.{decimal, decimal_from}
use Rattle.proof_read.specs.declared.read_apart.Lead.{Lead}
use Rattle.proof_read.specs.ReadApart.{padded, Leads}

-- the number that values of digits write, after those that wrote n
abbrev value_from : ℕ → List ℕ → ℕ
value_from n [] = n
value_from n (d ∷ ds) = value_from (10 * n + d) ds

digits_write : (cs : List ℕ) (n : ℕ) → value_from n (map (λ c. c - 48) cs) ≡ decimal_from n cs
digits_write [] n = refl
digits_write (c ∷ cs) n = digits_write cs (10 * n + (c - 48))

zeros_write : (k : ℕ) (ds : List ℕ) → value_from 0 (replicate k 0 ++ ds) ≡ value_from 0 ds
zeros_write zero ds = refl
zeros_write (suc k) ds = zeros_write k ds

padded_writes : (count : ℕ) (cs : List ℕ) → value_from 0 (padded count cs) ≡ decimal cs
padded_writes count cs = zeros_write (count - length cs) (map (λ c. c - 48) cs) ∙ digits_write cs 0

length_zeros : (k : ℕ) (ds : List ℕ) → length (replicate k 0 ++ ds) ≡ k + length ds
length_zeros zero ds = omega arith
length_zeros (suc k) ds = let rest = length_zeros k ds in omega (arith, rest)

pub length_padded : (count : ℕ) (cs : List ℕ) → length cs ≤ count → length (padded count cs) ≡ count
length_padded count cs h =
    let e = length_zeros (count - length cs) (map (λ c. c - 48) cs) in
    let f = length-map cs (λ (c : ℕ). c - 48) in
    omega (arith, e, f, h)

-- ten, xs often xs there are digits
abbrev tens : List ℕ → ℕ
tens [] = 1
tens (d ∷ ds) = 10 * tens ds

tens_alike : (xs ys : List ℕ) → length xs ≡ length ys → tens xs ≡ tens ys
tens_alike [] [] e = refl
tens_alike [] (b ∷ ys) e = absurd (omega (arith, e))
tens_alike (a ∷ xs) [] e = absurd (omega (arith, e))
tens_alike (a ∷ xs) (b ∷ ys) e = ap (λ n. 10 * n) (tens_alike xs ys (omega (arith, e)))

shift : (ds : List ℕ) (x t : ℕ) → value_from (x + t) ds ≡ value_from x ds + t * tens ds
shift [] x t = omega arith
shift (d ∷ ds) x t =
    let next : 10 * (x + t) + d ≡ (10 * x + d) + 10 * t = omega arith in
    let rest = shift ds (10 * x + d) (10 * t) in
    ap (λ n. value_from n ds) next ∙ rest ∙ (let e : (10 * t) * tens ds ≡ t * (10 * tens ds) = omega arith in ap (λ n. value_from (10 * x + d) ds + n) e)

lt_shift : (a b t : ℕ) → nat_lt (a + t) (b + t) ≡ nat_lt a b
lt_shift a b t = grind (arith, nat_tests)

eq_shift : (a b t : ℕ) → nat_eq (a + t) (b + t) ≡ nat_eq a b
eq_shift a b t = grind (arith, nat_tests)

cmp_shift : (a b t : ℕ) → nat_cmp (a + t) (b + t) ≡ nat_cmp a b
cmp_shift a b t = ap₂ (λ x y. cond x Less (cond y Equal Greater)) (lt_shift a b t) (eq_shift a b t)

-- only what one is ahead of the other counts
same_lead : (xs ys : List ℕ) (m n : ℕ) (lead : Lead) → length xs ≡ length ys → Leads m n lead → nat_cmp (value_from m xs) (value_from n ys) ≡ nat_cmp (value_from lead.left xs) (value_from lead.right ys)
same_lead xs ys m n lead e l =
    let t : ℕ = m - (m - n) in
    let left : m ≡ lead.left + (m - (m - n)) = omega (arith, l.left_is) in
    let right : n ≡ lead.right + (m - (m - n)) = omega (arith, l.right_is) in
    let first : value_from m xs ≡ value_from lead.left xs + (m - (m - n)) * tens xs = ap (λ k. value_from k xs) left ∙ shift xs lead.left (m - (m - n)) in
    let second : value_from n ys ≡ value_from lead.right ys + (m - (m - n)) * tens xs =
    ap (λ k. value_from k ys) right ∙ shift ys lead.right (m - (m - n)) ∙ ap (λ k. value_from lead.right ys + (m - (m - n)) * k) (sym (tens_alike xs ys e)) in
    ap₂ nat_cmp first second ∙ cmp_shift (value_from lead.left xs) (value_from lead.right ys) ((m - (m - n)) * tens xs)

abbrev AreDigits : List ℕ → Type 0
AreDigits ds = (k : ℕ) → get_or ds k 0 ≤ 207

-- a lead of 24 is kept
far : (xs ys : List ℕ) (x y : ℕ) → length xs ≡ length ys → AreDigits ys → y + 24 ≤ x → value_from y ys < value_from x xs
far [] [] x y e h l = omega (arith, l)
far [] (b ∷ ys) x y e h l = absurd (omega (arith, e))
far (a ∷ xs) [] x y e h l = absurd (omega (arith, e))
far (a ∷ xs) (b ∷ ys) x y e h l =
    let small : b ≤ 207 = h 0 in
    far xs ys (10 * x + a) (10 * y + b) (omega (arith, e)) (λ k. h (suc k)) (omega (arith, l, small))

zeros_digits : (k : ℕ) (ds : List ℕ) → AreDigits ds → AreDigits (replicate k 0 ++ ds)
zeros_digits zero ds h = h
zeros_digits (suc k) ds h = go (zeros_digits k ds h)
  where
    go : AreDigits (replicate k 0 ++ ds) → (i : ℕ) → get_or (0 ∷ (replicate k 0 ++ ds)) i 0 ≤ 207
    go more zero = omega arith
    go more (suc i) = more i

own_digits : (cs : List ℕ) → ((k : ℕ) → get_or cs k 0 < 256) → AreDigits (map (λ c. c - 48) cs)
own_digits [] h = λ k. omega arith
own_digits (c ∷ cs) h = go (own_digits cs (λ k. h (suc k)))
  where
    go : AreDigits (map (λ c. c - 48) cs) → (i : ℕ) → get_or ((c - 48) ∷ map (λ c. c - 48) cs) i 0 ≤ 207
    go more zero = let small : c < 256 = h 0 in omega (arith, small)
    go more (suc i) = more i

pub padded_digits : (count : ℕ) (cs : List ℕ) → ((k : ℕ) → get_or cs k 0 < 256) → AreDigits (padded count cs)
padded_digits count cs h = zeros_digits (count - length cs) (map (λ c. c - 48) cs) (own_digits cs h)

-- ---- the loop

-- two numbers compare xs what is left of them, behind a lead
pub record Compares (count : ℕ) (ls rs : List ℕ) (i : ℕ) (lead : Lead) : Type 0 where
  pub left_few : lead.left < 24
  pub right_few : lead.right < 24
  pub same : nat_cmp (decimal ls) (decimal rs) ≡ nat_cmp (value_from lead.left (drop i (padded count ls))) (value_from lead.right (drop i (padded count rs)))

pub compares_first : (count : ℕ) (ls rs : List ℕ) (lead : Lead) → lead.left ≡ 0 → lead.right ≡ 0 → Compares count ls rs 0 lead
compares_first count ls rs lead e f = record {
  left_few = omega (arith, e);
  right_few = omega (arith, f);
  same =
      ap₂ nat_cmp (sym (padded_writes count ls)) (sym (padded_writes count rs))
      ∙ ap₂ (λ m n. nat_cmp (value_from m (padded count ls)) (value_from n (padded count rs))) (sym e) (sym f);
}

length_drop : (ds : List ℕ) (i count : ℕ) → length ds ≡ count → length (drop i ds) ≡ count - i
length_drop ds i count e = omega (arith, length-drop i ds, e)

one_digit : (ds : List ℕ) (n i d : ℕ) → i < length ds → d ≡ get_or ds i 0 → value_from n (drop i ds) ≡ value_from (10 * n + d) (drop (i + 1) ds)
one_digit ds n i d h e =
    let next : suc i ≡ i + 1 = omega arith in
    ap (value_from n) (drop-cons ds i 0 h) ∙ ap₂ (λ c k. value_from (10 * n + c) (drop k ds)) (sym e) next

after_digits : (count : ℕ) (ls rs : List ℕ) (i l r : ℕ) (lead next : Lead) → length ls ≤ count → length rs ≤ count → i < count → Compares count ls rs i lead → l ≡ get_or (padded count ls) i 0 → r ≡ get_or (padded count rs) i 0
    → Leads (10 * lead.left + l) (10 * lead.right + r) next
    → nat_cmp (decimal ls) (decimal rs) ≡ nat_cmp (value_from next.left (drop (i + 1) (padded count ls))) (value_from next.right (drop (i + 1) (padded count rs)))
after_digits count ls rs i l r lead next h k lt c e f g =
    let a = length_padded count ls h in
    let b = length_padded count rs k in
    c.same
    ∙ ap₂ nat_cmp (one_digit (padded count ls) lead.left i l (omega (arith, a, lt)) e) (one_digit (padded count rs) lead.right i r (omega (arith, b, lt)) f)
    ∙ same_lead (drop (i + 1) (padded count ls)) (drop (i + 1) (padded count rs)) (10 * lead.left + l) (10 * lead.right + r) next
    (length_drop (padded count ls) (i + 1) count a ∙ sym (length_drop (padded count rs) (i + 1) count b)) g

pub compares_next : (count : ℕ) (ls rs : List ℕ) (i l r : ℕ) (lead next : Lead) → length ls ≤ count → length rs ≤ count → i < count → Compares count ls rs i lead → l ≡ get_or (padded count ls) i 0
    → r ≡ get_or (padded count rs) i 0 → Leads (10 * lead.left + l) (10 * lead.right + r) next → next.left < 24 → next.right < 24 → Compares count ls rs (i + 1) next
compares_next count ls rs i l r lead next h k lt c e f g a b = record {
  left_few = a;
  right_few = b;
  same = after_digits count ls rs i l r lead next h k lt c e f g;
}

drop_digits : (ds : List ℕ) (i : ℕ) → AreDigits ds → AreDigits (drop i ds)
drop_digits ds zero h = h
drop_digits [] (suc i) h = h
drop_digits (d ∷ ds) (suc i) h = drop_digits ds i (λ k. h (suc k))

-- what is 24 ahead stays ahead
stays_ahead : (count : ℕ) (ds es : List ℕ) (i x y : ℕ) → length ds ≤ count → length es ≤ count → ((k : ℕ) → get_or es k 0 < 256) → y + 24 ≤ x
    → value_from y (drop (i + 1) (padded count es)) < value_from x (drop (i + 1) (padded count ds))
stays_ahead count ds es i x y h k d w =
    let a = length_padded count ds h in
    let b = length_padded count es k in
    far (drop (i + 1) (padded count ds)) (drop (i + 1) (padded count es)) x y (length_drop (padded count ds) (i + 1) count a ∙ sym (length_drop (padded count es) (i + 1) count b))
    (drop_digits (padded count es) (i + 1) (padded_digits count es d)) w

pub left_wins : (count : ℕ) (ls rs : List ℕ) (i l r : ℕ) (lead next : Lead) → length ls ≤ count → length rs ≤ count → i < count → Compares count ls rs i lead → l ≡ get_or (padded count ls) i 0 → r ≡ get_or (padded count rs) i 0
    → Leads (10 * lead.left + l) (10 * lead.right + r) next → ((k : ℕ) → get_or rs k 0 < 256) → 24 ≤ next.left → Greater ≡ nat_cmp (decimal ls) (decimal rs)
left_wins count ls rs i l r lead next h k lt c e f g d w =
    nat_cmp_is _ _ Greater (stays_ahead count ls rs i next.left next.right h k d (omega (arith, g.left_is, g.right_is, w))) ∙ sym (after_digits count ls rs i l r lead next h k lt c e f g)

pub right_wins : (count : ℕ) (ls rs : List ℕ) (i l r : ℕ) (lead next : Lead) → length ls ≤ count → length rs ≤ count → i < count → Compares count ls rs i lead → l ≡ get_or (padded count ls) i 0
    → r ≡ get_or (padded count rs) i 0 → Leads (10 * lead.left + l) (10 * lead.right + r) next → ((k : ℕ) → get_or ls k 0 < 256) → 24 ≤ next.right → Less ≡ nat_cmp (decimal ls) (decimal rs)
right_wins count ls rs i l r lead next h k lt c e f g d w =
    nat_cmp_is _ _ Less (stays_ahead count rs ls i next.right next.left k h d (omega (arith, g.left_is, g.right_is, w))) ∙ sym (after_digits count ls rs i l r lead next h k lt c e f g)

pub compares_last : (count : ℕ) (ls rs : List ℕ) (i : ℕ) (lead : Lead) → length ls ≤ count → length rs ≤ count → count ≤ i → Compares count ls rs i lead → nat_cmp lead.left lead.right ≡ nat_cmp (decimal ls) (decimal rs)
compares_last count ls rs i lead h k l c =
    let a = length_padded count ls h in
    let b = length_padded count rs k in
    let left : drop i (padded count ls) ≡ [] = drop_of_length-le (padded count ls) (omega (arith, a, l)) in
    let right : drop i (padded count rs) ≡ [] = drop_of_length-le (padded count rs) (omega (arith, b, l)) in
    sym (c.same ∙ ap₂ (λ x y. nat_cmp (value_from lead.left x) (value_from lead.right y)) left right)
