-- Levels read as frames.
use Rattle.std.proofs.Common.{◌≡◌, ℕ, zero, suc, ◌+◌, ◌<◌, ◌≤◌, List, [], ◌∷◌, ◌++◌, map, take, length, replicate, set, get_or, arith, refl, ap, ◌∙◌, sym, Bool, true, false, ◌||◌, ◌&&◌, append_assoc, append-nil}
use Rattle.std.specs.Prelude.{nat_eq, Result, Ok, Err, OnOk}
use Rattle.std.proofs.lemmas.List.{map-append}
use Rattle.smt_meaning.specs.Declaration.{Declaration}
use Rattle.smt_meaning.specs.Term.{Tree}
use Rattle.smt_meaning.specs.Stack.{Frame, Assertion, signature_of, on_top, at_base, with_declared, empty_frame, pushed}
use Rattle.race_model.specs.declared.event.Formula.{Formula}
use Rattle.race_model.specs.declared.levels.Level.{Level}
use Rattle.race_model.specs.Base.{frame_of, assertion_of, declared_in}
use Rattle.race_model.specs.Race.{has_id, are_new, terms_at}

or_assoc : (a b c : Bool) → (a || b) || c ≡ a || (b || c)
or_assoc true b c = refl
or_assoc false b c = refl

pub has-append : (i : ℕ) (xs ys : List Declaration) → has_id i (xs ++ ys) ≡ has_id i xs || has_id i ys
has-append i [] ys = refl
has-append i (d ∷ ds) ys = ap (λ b. nat_eq i d.id || b) (has-append i ds ys) ∙ sym (or_assoc (nat_eq i d.id) (has_id i ds) (has_id i ys))

pub declared_is : (ts : List Tree) (ls : List Level) → signature_of (map (frame_of ts) ls) ≡ declared_in ls
declared_is ts [] = refl
declared_is ts (l ∷ ls) = ap (λ ds. l.declared ++ ds) (declared_is ts ls)

pub length-map : {X Y : Type 0} (f : X → Y) (xs : List X) → length (map f xs) ≡ length xs
length-map f [] = refl
length-map f (x ∷ xs) = ap suc (length-map f xs)

pub at_level : (ts : List Tree) (ls : List Level) (k : ℕ) (l : Level) → k < length ls → l ≡ get_or ls k l → length l.asserted ≡ length (terms_at k (map (frame_of ts) ls))
at_level ts [] k l lt e = absurd (omega arith)
at_level ts (x ∷ xs) zero l lt e =
    ap (λ (z : Level). length z.asserted) e
    ∙ (sym (length-map (assertion_of ts) x.asserted) ∙ sym (length-map (λ (a : Assertion). a.term) (map (assertion_of ts) x.asserted)))
at_level ts (x ∷ xs) (suc k) l lt e = at_level ts xs k l (omega arith) e

pub at_no_level : (ts : List Tree) (ls : List Level) (k : ℕ) → length ls ≤ k → 0 ≡ length (terms_at k (map (frame_of ts) ls))
at_no_level ts [] k le = refl
at_no_level ts (x ∷ xs) zero le = absurd (omega arith)
at_no_level ts (x ∷ xs) (suc k) le = at_no_level ts xs k (omega arith)

pub both_new : (ts : List Tree) (ls ls1 ls2 : List Level) (named named1 declared declared1 : List Declaration) (r1 r2 : Bool)
    → ls1 ≡ ls → ls2 ≡ ls → named1 ≡ named → declared1 ≡ declared → r1 ≡ are_new (declared_in ls1) named1 declared1 → r1 ≡ true → r2 ≡ are_new (declared_in ls2) [] named1
    → r2 ≡ are_new (signature_of (map (frame_of ts) ls)) named declared && are_new (signature_of (map (frame_of ts) ls)) [] named
both_new ts ls ls1 ls2 named named1 declared declared1 r1 r2 l1 l2 n d p1 is_so p2 =
    let one : are_new (declared_in ls) named declared ≡ true = sym (λ i. are_new (declared_in (l1 i)) (n i) (d i)) ∙ (sym p1 ∙ is_so) in
    rw (declared_is ts ls) (p2 ∙ ((λ i. are_new (declared_in (l2 i)) [] (n i)) ∙ ap (λ b. b && are_new (declared_in ls) [] named) (sym one)))

pub not_new : (ts : List Tree) (ls ls1 : List Level) (named named1 declared declared1 : List Declaration) (r1 : Bool)
    → ls1 ≡ ls → named1 ≡ named → declared1 ≡ declared → r1 ≡ are_new (declared_in ls1) named1 declared1 → r1 ≡ false
    → r1 ≡ are_new (signature_of (map (frame_of ts) ls)) named declared && are_new (signature_of (map (frame_of ts) ls)) [] named
not_new ts ls ls1 named named1 declared declared1 r1 l1 n d p1 not_so =
    let one : are_new (declared_in ls) named declared ≡ false = sym (λ i. are_new (declared_in (l1 i)) (n i) (d i)) ∙ (sym p1 ∙ not_so) in
    rw (declared_is ts ls) (not_so ∙ ap (λ b. b && are_new (declared_in ls) [] named) (sym one))

replicate-push : {X : Type 0} (n : ℕ) (x : X) → replicate n x ++ x ∷ [] ≡ replicate (suc n) x
replicate-push zero x = refl
replicate-push (suc n) x = ap (λ xs. x ∷ xs) (replicate-push n x)

pub one_more : {X : Type 0} (xs : List X) (n m : ℕ) (x : X) → m ≡ suc n → (xs ++ replicate n x) ++ x ∷ [] ≡ xs ++ replicate m x
one_more xs n m x e = append_assoc xs (replicate n x) (x ∷ []) ∙ ap (λ l. xs ++ l) (replicate-push n x ∙ ap (λ k. replicate k x) (sym e))

map_replicate : (ts : List Tree) (n : ℕ) → map (frame_of ts) (replicate n (record { declared = []; asserted = [] })) ≡ replicate n empty_frame
map_replicate ts zero = refl
map_replicate ts (suc n) = ap (λ fs. empty_frame ∷ fs) (map_replicate ts n)

pub pushed_is : (ts : List Tree) (ls ms : List Level) (n : ℕ) → ms ≡ ls ++ replicate n (record { declared = []; asserted = [] }) → map (frame_of ts) ms ≡ pushed n (map (frame_of ts) ls)
pushed_is ts ls ms n e = ap (map (frame_of ts)) e ∙ (map-append (frame_of ts) ls (replicate n (record { declared = []; asserted = [] })) ∙ ap (λ fs. map (frame_of ts) ls ++ fs) (map_replicate ts n))

pub map_take : {X Y : Type 0} (f : X → Y) (n : ℕ) (xs : List X) → map f (take n xs) ≡ take n (map f xs)
map_take f zero xs = refl
map_take f (suc n) [] = refl
map_take f (suc n) (x ∷ xs) = ap (λ ys. f x ∷ ys) (map_take f n xs)

-- the last level has gained declarations and formulas
pub gained : (ts : List Tree) (ls : List Level) (k : ℕ) (m : Level) (ds : List Declaration) (fs : List Formula) → k + 1 ≡ length ls
    → m.declared ≡ (get_or ls k m).declared ++ ds → m.asserted ≡ (get_or ls k m).asserted ++ fs
    → map (frame_of ts) (set ls k m) ≡ on_top ds (map (assertion_of ts) fs) (map (frame_of ts) ls)
gained ts [] k m ds fs e d a = absurd (omega arith)
gained ts (l ∷ []) zero m ds fs e d a =
    λ i. record { declared = d i; asserted = (ap (map (assertion_of ts)) a ∙ map-append (assertion_of ts) l.asserted fs) i } ∷ []
gained ts (l ∷ []) (suc k) m ds fs e d a = absurd (omega arith)
gained ts (l ∷ n ∷ ls) zero m ds fs e d a = absurd (omega arith)
gained ts (l ∷ n ∷ ls) (suc k) m ds fs e d a = rest_of (set (n ∷ ls) k m) (gained ts (n ∷ ls) k m ds fs (omega arith) d a)
  where
    rest_of : (xs : List Level) → map (frame_of ts) xs ≡ on_top ds (map (assertion_of ts) fs) (frame_of ts n ∷ map (frame_of ts) ls)
        → map (frame_of ts) (l ∷ xs) ≡ on_top ds (map (assertion_of ts) fs) (frame_of ts l ∷ frame_of ts n ∷ map (frame_of ts) ls)
    rest_of xs h = ap (λ gs. frame_of ts l ∷ gs) h

-- level 0 has gained declarations, and the last level, which is another, names and formulas
pub gained_apart : (ts : List Tree) (ls : List Level) (k : ℕ) (none base newest : Level) (ds ns : List Declaration) (fs : List Formula) → 1 < length ls → k + 1 ≡ length ls
    → base.declared ≡ (get_or ls 0 base).declared ++ ds → base.asserted ≡ (get_or ls 0 base).asserted
    → newest.declared ≡ (get_or ls k newest).declared ++ ns → newest.asserted ≡ (get_or ls k newest).asserted ++ fs
    → map (frame_of ts) (set (set (set ls 0 none) k newest) 0 base) ≡ on_top ns (map (assertion_of ts) fs) (at_base ds (map (frame_of ts) ls))
gained_apart ts [] k none base newest ds ns fs more e bd ba nd na = absurd (omega arith)
gained_apart ts (l ∷ []) k none base newest ds ns fs more e bd ba nd na = absurd (omega arith)
gained_apart ts (l ∷ n ∷ ls) zero none base newest ds ns fs more e bd ba nd na = absurd (omega arith)
gained_apart ts (l ∷ n ∷ ls) (suc k) none base newest ds ns fs more e bd ba nd na =
    λ i. record { declared = bd i; asserted = ap (map (assertion_of ts)) ba i } ∷ gained ts (n ∷ ls) k newest ns fs (omega arith) nd na i

pub on_ok_both : {A E : Type 0} (r : Result A E) (P Q R : Type 0) → (P → Q → R) → OnOk r P → OnOk r Q → OnOk r R
on_ok_both (Ok a) P Q R f p q = f p q
on_ok_both (Err e) P Q R f p q = tt

-- another level is the same
pub other_level : (ls : List Level) (k : ℕ) (none d : Level) → 0 < k → get_or (set ls 0 none) k d ≡ get_or ls k d
other_level [] k none d more = refl
other_level (l ∷ ls) zero none d more = absurd (omega arith)
other_level (l ∷ ls) (suc k) none d more = refl

-- the newest level gains declarations, and then the rest: all at once
pub both_on_top : (ds ns : List Declaration) (xs : List Assertion) (frames : List Frame) → on_top (ds ++ ns) xs frames ≡ on_top ns xs (on_top ds [] frames)
both_on_top ds ns xs [] = refl
both_on_top ds ns xs (f ∷ []) =
    λ i. record { declared = sym (append_assoc f.declared ds ns) i; asserted = ap (λ ys. ys ++ xs) (sym (append-nil f.asserted)) i } ∷ []
both_on_top ds ns xs (f ∷ g ∷ []) = ap (λ fs. f ∷ fs) (both_on_top ds ns xs (g ∷ []))
both_on_top ds ns xs (f ∷ g ∷ h ∷ frames) = ap (λ fs. f ∷ fs) (both_on_top ds ns xs (g ∷ h ∷ frames))

-- so too where they are global, but no level stands above 0
pub at_newest : (global : Bool) (ds ns : List Declaration) (xs : List Assertion) (frames : List Frame) → (global ≡ true → length frames ≤ 1) → on_top (ds ++ ns) xs frames ≡ on_top ns xs (with_declared global ds frames)
at_newest false ds ns xs frames few = both_on_top ds ns xs frames
at_newest true ds ns xs [] few = refl
at_newest true ds ns xs (f ∷ []) few = ap (λ es. record { declared = es; asserted = f.asserted ++ xs } ∷ []) (sym (append_assoc f.declared ds ns))
at_newest true ds ns xs (f ∷ g ∷ frames) few = let q : length (f ∷ g ∷ frames) ≤ 1 = few refl in absurd (omega arith)

pub found_in : (i : ℕ) (all rest tail : List Level) (l : Level) → rest ≡ l ∷ tail → has_id i (declared_in all) ≡ has_id i (declared_in rest) → has_id i l.declared ≡ true → true ≡ has_id i (declared_in all)
found_in i all rest tail l e h is_so =
    sym (h ∙ (ap (λ (ls : List Level). has_id i (declared_in ls)) e ∙ (has-append i l.declared (declared_in tail) ∙ ap (λ b. b || has_id i (declared_in tail)) is_so)))

pub not_in_first : (i : ℕ) (all rest tail : List Level) (l : Level) → rest ≡ l ∷ tail → has_id i (declared_in all) ≡ has_id i (declared_in rest) → has_id i l.declared ≡ false → has_id i (declared_in all) ≡ has_id i (declared_in tail)
not_in_first i all rest tail l e h not_so =
    h ∙ (ap (λ (ls : List Level). has_id i (declared_in ls)) e ∙ (has-append i l.declared (declared_in tail) ∙ ap (λ b. b || has_id i (declared_in tail)) not_so))

-- within a list the default does not matter
pub same_level : (ls : List Level) (k : ℕ) (l m : Level) → k < length ls → l ≡ get_or ls k l → l ≡ get_or ls k m
same_level [] k l m lt e = absurd (omega arith)
same_level (x ∷ xs) zero l m lt e = e
same_level (x ∷ xs) (suc k) l m lt e = same_level xs k l m (omega arith) e
