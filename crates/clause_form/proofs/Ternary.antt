-- The same of one of two and of a choice.
use Rattle.std.proofs.Common.{◌≡◌, ℕ, List, [], ◌∷◌, refl, sym, ◌∙◌, ap, subst, arith, Bool, true, false, not, ◌&&◌, ◌||◌, nat_eq, Contains, ◌⊎◌, inl, inr}
use Rattle.std.specs.Prelude.{if◌then◌else◌}
use Rattle.std.proofs.lemmas.Bool.{eqb-true}
use Rattle.smt_meaning.specs.Term.{bool_eq, xor}
use Rattle.smt_meaning.specs.Forced.{Sign}
use Rattle.clause_form.specs.Signs.{yes, no, negated, sign_true, sign_eq, is_sign_in}
use Rattle.clause_form.specs.NodeClauses.{conjunction, never, parity, one_of_two, choices, chosen}
use Rattle.clause_form.proofs.Signs.{true_or_false, in_cases}
use Rattle.clause_form.proofs.TrueClauses.{IsMet}
use Rattle.clause_form.proofs.Hits.{is_once, Hits}
use Rattle.clause_form.proofs.Falsified.{NoClash, no_both, assigned, value_no, value_yes, value_free, inside_false, opposite_true, free_value, counter, no_clash}
use Rattle.clause_form.proofs.Complete.{blank, set_at, set_here, set_other, same_given, bool_eq-back, never_complete, conjunction_complete, place_self, sign_eq-place, Apart}

-- a place stands in a clause as one that is to be true, as one that is to be false, or not at all
pub data Stands (ss : List Sign) (i : ℕ) : Type 0 where
  as_yes : is_sign_in (yes i) ss ≡ true → Stands ss i
  as_no : is_sign_in (no i) ss ≡ true → Stands ss i
  open' : is_sign_in (yes i) ss ≡ false → is_sign_in (no i) ss ≡ false → Stands ss i

stands : (ss : List Sign) (i : ℕ) → Stands ss i
stands ss i =
    elim (true_or_false (is_sign_in (yes i) ss)) [
      | inl h ↦ as_yes h
      | inr h ↦ elim (true_or_false (is_sign_in (no i) ss)) [ inl k ↦ as_no k | inr k ↦ open' h k ]
    ]

flipped : (i j : ℕ) → nat_eq i j ≡ false → nat_eq j i ≡ false
flipped i j h = at (nat_eq j i) refl
  where
    at : (b : Bool) → nat_eq j i ≡ b → b ≡ false
    at true e = no_both (nat_eq i i) (place_self i) (subst (λ k. nat_eq i k ≡ false) (eqb-true j i e) h)
    at false e = refl

three_hit : (ds : List (List Sign)) (ss : List Sign) (s u v : Sign) → Contains ds (s ∷ u ∷ v ∷ []) → is_sign_in s ss ≡ true → is_sign_in u ss ≡ true → is_sign_in v ss ≡ true
    → nat_eq s.place u.place ≡ false → nat_eq s.place v.place ≡ false → nat_eq u.place v.place ≡ false → Hits ds ss
three_hit ds ss s u v kept hs hu hv su sv uv = record {
  clause = s ∷ u ∷ v ∷ [];
  kept = kept;
  inside = λ m h.
      in_cases (λ x. is_sign_in x ss ≡ true) m s (u ∷ v ∷ []) hs
      (λ g. in_cases (λ x. is_sign_in x ss ≡ true) m u (v ∷ []) hu (λ k. in_cases (λ x. is_sign_in x ss ≡ true) m v [] hv (λ q. no_both false q refl) k) g) h;
  once = once3 (sign_eq s u) (sign_eq s v) (sign_eq u v) (sign_eq-place s u su) (sign_eq-place s v sv) (sign_eq-place u v uv);
}
  where
    once3 : (a b c : Bool) → a ≡ false → b ≡ false → c ≡ false → (not (a || (b || false)) && (not (c || false) && true)) ≡ true
    once3 true b c p q r = no_both true refl p
    once3 false true c p q r = no_both true refl q
    once3 false false true p q r = no_both true refl r
    once3 false false false p q r = refl

-- a place that stands in a clause, and its value where the clause is false
abbrev Fixed : List Sign → ℕ → Type 0
Fixed ss i = (is_sign_in (yes i) ss ≡ true) ⊎ (is_sign_in (no i) ss ≡ true)

fixed_value : (ss : List Sign) (i : ℕ) → Fixed ss i → Bool
fixed_value ss i (inl h) = false
fixed_value ss i (inr h) = true

fixed_is : (ss : List Sign) (i : ℕ) (d : ℕ → Bool) → NoClash ss → (f : Fixed ss i) → assigned ss d i ≡ fixed_value ss i f
unfolding fixed_value
fixed_is ss i d nc (inl h) = value_yes ss d i nc h
fixed_is ss i d nc (inr h) = value_no ss d i h

-- ---- one of two

parity_complete : (out : Sign) (x y : ℕ) (ss : List Sign) → NoClash ss → nat_eq x y ≡ false → nat_eq x out.place ≡ false → nat_eq y out.place ≡ false
    → ((a : ℕ → Bool) → sign_true a out ≡ xor (a x) (a y) → IsMet a ss) → Hits (parity out x y) ss
parity_complete out x y ss nc xy xo yo holds =
    elim (true_or_false (is_sign_in out ss)) [
      | inl o ↦ on_x true (stands ss x) (inl o)
      | inr o ↦
          elim (true_or_false (is_sign_in (negated out) ss)) [
            | inl n ↦ on_x false (stands ss x) (inr n)
            | inr n ↦
                (let v : Bool = xor (assigned ss blank x) (assigned ss blank y) in
                let d : ℕ → Bool = set_at out.place (bool_eq v out.positive) in
                let here : sign_true (assigned ss d) out ≡ v =
                ap (λ b. bool_eq b out.positive) (free_value ss d out o n ∙ set_here out.place (bool_eq v out.positive)) ∙ bool_eq-back v out.positive in
                counter ss d nc
                (holds (assigned ss d)
                (here
                ∙ ap (λ b. xor b (assigned ss blank y)) (sym (same_given ss d blank x (set_other out.place x (bool_eq v out.positive) xo)))
                ∙ ap (xor (assigned ss d x)) (sym (same_given ss d blank y (set_other out.place y (bool_eq v out.positive) yo))))))
          ]
    ]
  where
    apart_x : nat_eq out.place x ≡ false
    apart_x = flipped x out.place xo

    apart_y : nat_eq out.place y ≡ false
    apart_y = flipped y out.place yo

    out_value : (d : ℕ → Bool) → (is_sign_in out ss ≡ true) ⊎ (is_sign_in (negated out) ss ≡ true) → (b : Bool) × ((d : ℕ → Bool) → sign_true (assigned ss d) out ≡ b)
    out_value d (inl h) = (false, λ d. inside_false ss d out nc h)
    out_value d (inr h) = (true, λ d. opposite_true ss d out nc h)

    xor_back : (b c : Bool) → b ≡ xor (xor b c) c
    xor_back true true = refl
    xor_back true false = refl
    xor_back false true = refl
    xor_back false false = refl

    xor_back' : (b c : Bool) → b ≡ xor c (xor b c)
    xor_back' true true = refl
    xor_back' true false = refl
    xor_back' false true = refl
    xor_back' false false = refl

    agrees : (d : ℕ → Bool) (b c : Bool) → assigned ss d x ≡ b → assigned ss d y ≡ c → sign_true (assigned ss d) out ≡ xor b c → Hits (parity out x y) ss
    agrees d b c p q r = counter ss d nc (holds (assigned ss d) (r ∙ ap (λ e. xor e c) (sym p) ∙ ap (xor (assigned ss d x)) (sym q)))

    -- the value that the clause's other places give x, or y
    x_open : is_sign_in (yes x) ss ≡ false → is_sign_in (no x) ss ≡ false → (is_sign_in out ss ≡ true) ⊎ (is_sign_in (negated out) ss ≡ true) → Hits (parity out x y) ss
    x_open h k o =
        let value = out_value blank o in
        let w : Bool = xor value.0 (assigned ss blank y) in
        let d : ℕ → Bool = set_at x w in
        agrees d w (assigned ss blank y) (value_free ss d x h k ∙ set_here x w) (same_given ss d blank y (set_other x y w (flipped x y xy))) (value.1 d ∙ xor_back value.0 (assigned ss blank y))

    y_open : is_sign_in (yes y) ss ≡ false → is_sign_in (no y) ss ≡ false → (is_sign_in out ss ≡ true) ⊎ (is_sign_in (negated out) ss ≡ true) → Hits (parity out x y) ss
    y_open h k o =
        let value = out_value blank o in
        let w : Bool = xor value.0 (assigned ss blank x) in
        let d : ℕ → Bool = set_at y w in
        agrees d (assigned ss blank x) w (same_given ss d blank x (set_other y x w xy)) (value_free ss d y h k ∙ set_here y w) (value.1 d ∙ xor_back' value.0 (assigned ss blank x))

    on_y : (b : Bool) → Stands ss y → (is_sign_in (yes x) ss ≡ true) ⊎ (is_sign_in (no x) ss ≡ true) → (is_sign_in out ss ≡ true) ⊎ (is_sign_in (negated out) ss ≡ true) → Hits (parity out x y) ss
    on_y b (open' h k) f o = y_open h k o
    on_y b (as_yes h) (inl f) (inl o) = agrees blank false false (value_yes ss blank x nc f) (value_yes ss blank y nc h) (inside_false ss blank out nc o)
    on_y b (as_yes h) (inl f) (inr o) = three_hit (parity out x y) ss (negated out) (yes x) (yes y) (0, omega arith, refl) o f h apart_x apart_y xy
    on_y b (as_yes h) (inr f) (inl o) = three_hit (parity out x y) ss out (no x) (yes y) (2, omega arith, refl) o f h apart_x apart_y xy
    on_y b (as_yes h) (inr f) (inr o) = agrees blank true false (value_no ss blank x f) (value_yes ss blank y nc h) (opposite_true ss blank out nc o)
    on_y b (as_no h) (inl f) (inl o) = three_hit (parity out x y) ss out (yes x) (no y) (3, omega arith, refl) o f h apart_x apart_y xy
    on_y b (as_no h) (inl f) (inr o) = agrees blank false true (value_yes ss blank x nc f) (value_no ss blank y h) (opposite_true ss blank out nc o)
    on_y b (as_no h) (inr f) (inl o) = agrees blank true true (value_no ss blank x f) (value_no ss blank y h) (inside_false ss blank out nc o)
    on_y b (as_no h) (inr f) (inr o) = three_hit (parity out x y) ss (negated out) (no x) (no y) (1, omega arith, refl) o f h apart_x apart_y xy

    on_x : (b : Bool) → Stands ss x → (is_sign_in out ss ≡ true) ⊎ (is_sign_in (negated out) ss ≡ true) → Hits (parity out x y) ss
    on_x b (open' h k) o = x_open h k o
    on_x b (as_yes h) o = on_y b (stands ss y) (inl h) o
    on_x b (as_no h) o = on_y b (stands ss y) (inr h) o

xor_itself : (b : Bool) → xor b b ≡ false
xor_itself true = refl
xor_itself false = refl

pub one_of_two_complete : (out : Sign) (x y : ℕ) (ss : List Sign) → NoClash ss → nat_eq x out.place ≡ false → nat_eq y out.place ≡ false
    → ((a : ℕ → Bool) → sign_true a out ≡ xor (a x) (a y) → IsMet a ss) → Hits (one_of_two out x y) ss
one_of_two_complete out x y ss nc xo yo holds = at (nat_eq x y) refl
  where
    at : (b : Bool) → nat_eq x y ≡ b → Hits (if b then never out else parity out x y) ss
    at true e = never_complete out ss nc (λ a h. holds a (h ∙ sym (xor_itself (a x)) ∙ ap (λ i. xor (a x) (a i)) (eqb-true x y e)))
    at false e = parity_complete out x y ss nc e xo yo holds

-- ---- choices

-- where the clause has the sign s, which leaves the choice t to be what z is
module _ (ds : List (List Sign)) (ss : List Sign) (nc : NoClash ss) (t z : ℕ) (s : Sign) (st : nat_eq s.place t ≡ false) (sz : nat_eq s.place z ≡ false) (zt : nat_eq z t ≡ false)
    (to_true : Contains ds (s ∷ no z ∷ yes t ∷ [])) (to_false : Contains ds (s ∷ yes z ∷ no t ∷ [])) (inside : is_sign_in s ss ≡ true)
    (met : (d : ℕ → Bool) → assigned ss d t ≡ assigned ss d z → Hits ds ss) where
  branch_fixed : Fixed ss t → Fixed ss z → Hits ds ss
  branch_fixed (inl p) (inl q) = met blank (value_yes ss blank t nc p ∙ sym (value_yes ss blank z nc q))
  branch_fixed (inr p) (inr q) = met blank (value_no ss blank t p ∙ sym (value_no ss blank z q))
  branch_fixed (inl p) (inr q) = three_hit ds ss s (no z) (yes t) to_true inside q p sz st zt
  branch_fixed (inr p) (inl q) = three_hit ds ss s (yes z) (no t) to_false inside q p sz st zt

  branch : Fixed ss t → Stands ss z → Hits ds ss
  branch f (as_yes q) = branch_fixed f (inl q)
  branch f (as_no q) = branch_fixed f (inr q)
  branch f (open' q r) =
      let d : ℕ → Bool = set_at z (fixed_value ss t f) in
      met d (fixed_is ss t d nc f ∙ sym (value_free ss d z q r ∙ set_here z (fixed_value ss t f)))

-- the clause gives each of two values of the condition, where it leaves the condition open
choices_complete : (t c x y : ℕ) (ss : List Sign) → NoClash ss → nat_eq x y ≡ false → nat_eq c x ≡ false → nat_eq c y ≡ false
    → nat_eq c t ≡ false → nat_eq x t ≡ false → nat_eq y t ≡ false → ((a : ℕ → Bool) → a t ≡ (if a c then a x else a y) → IsMet a ss) → Hits (choices t c x y) ss
choices_complete t c x y ss nc xy cx cy ct xt yt holds = on_t (stands ss t)
  where
    met_then : (d : ℕ → Bool) → assigned ss d c ≡ true → assigned ss d t ≡ assigned ss d x → Hits (choices t c x y) ss
    met_then d h e = counter ss d nc (holds (assigned ss d) (e ∙ ap (λ b. if b then assigned ss d x else assigned ss d y) (sym h)))

    met_else : (d : ℕ → Bool) → assigned ss d c ≡ false → assigned ss d t ≡ assigned ss d y → Hits (choices t c x y) ss
    met_else d h e = counter ss d nc (holds (assigned ss d) (e ∙ ap (λ b. if b then assigned ss d x else assigned ss d y) (sym h)))

    t_open : is_sign_in (yes t) ss ≡ false → is_sign_in (no t) ss ≡ false → Hits (choices t c x y) ss
    t_open h k =
        let w : Bool = (if assigned ss blank c then assigned ss blank x else assigned ss blank y) in
        let d : ℕ → Bool = set_at t w in
        counter ss d nc
        (holds (assigned ss d)
        (value_free ss d t h k ∙ set_here t w
        ∙ ap (λ b. if b then assigned ss blank x else assigned ss blank y) (sym (same_given ss d blank c (set_other t c w ct)))
        ∙ ap (λ b. if assigned ss d c then b else assigned ss blank y) (sym (same_given ss d blank x (set_other t x w xt)))
        ∙ ap (λ b. if assigned ss d c then assigned ss d x else b) (sym (same_given ss d blank y (set_other t y w yt)))))

    -- c is true, or false
    then_open : is_sign_in (no c) ss ≡ true → Fixed ss t → Stands ss x → Hits (choices t c x y) ss
    then_open h = branch (choices t c x y) ss nc t x (no c) ct cx xt (0, omega arith, refl) (1, omega arith, refl) h (λ d. met_then d (value_no ss d c h))

    else_open : is_sign_in (yes c) ss ≡ true → Fixed ss t → Stands ss y → Hits (choices t c x y) ss
    else_open h = branch (choices t c x y) ss nc t y (yes c) ct cy yt (2, omega arith, refl) (3, omega arith, refl) h (λ d. met_else d (value_yes ss d c nc h))

    -- c is open
    open_fixed : is_sign_in (yes c) ss ≡ false → is_sign_in (no c) ss ≡ false → Fixed ss t → Fixed ss x → Fixed ss y → Hits (choices t c x y) ss
    open_fixed h k (inl p) (inl q) r = met_then (λ i. true) (value_free ss (λ i. true) c h k) (value_yes ss (λ i. true) t nc p ∙ sym (value_yes ss (λ i. true) x nc q))
    open_fixed h k (inr p) (inr q) r = met_then (λ i. true) (value_free ss (λ i. true) c h k) (value_no ss (λ i. true) t p ∙ sym (value_no ss (λ i. true) x q))
    open_fixed h k (inl p) (inr q) (inl r) = met_else blank (value_free ss blank c h k) (value_yes ss blank t nc p ∙ sym (value_yes ss blank y nc r))
    open_fixed h k (inr p) (inl q) (inr r) = met_else blank (value_free ss blank c h k) (value_no ss blank t p ∙ sym (value_no ss blank y r))
    open_fixed h k (inl p) (inr q) (inr r) = three_hit (choices t c x y) ss (no x) (no y) (yes t) (4, omega arith, refl) q r p xy xt yt
    open_fixed h k (inr p) (inl q) (inl r) = three_hit (choices t c x y) ss (yes x) (yes y) (no t) (5, omega arith, refl) q r p xy xt yt

    open_y : is_sign_in (yes c) ss ≡ false → is_sign_in (no c) ss ≡ false → Fixed ss t → Fixed ss x → Stands ss y → Hits (choices t c x y) ss
    open_y h k f g (as_yes q) = open_fixed h k f g (inl q)
    open_y h k f g (as_no q) = open_fixed h k f g (inr q)
    open_y h k f g (open' q r) =
        let d : ℕ → Bool = set_at y (fixed_value ss t f) in
        met_else d (value_free ss d c h k ∙ set_other y c (fixed_value ss t f) cy) (fixed_is ss t d nc f ∙ sym (value_free ss d y q r ∙ set_here y (fixed_value ss t f)))

    open_x : is_sign_in (yes c) ss ≡ false → is_sign_in (no c) ss ≡ false → Fixed ss t → Stands ss x → Hits (choices t c x y) ss
    open_x h k f (as_yes q) = open_y h k f (inl q) (stands ss y)
    open_x h k f (as_no q) = open_y h k f (inr q) (stands ss y)
    open_x h k f (open' q r) =
        let d : ℕ → Bool = λ j. if nat_eq j x then fixed_value ss t f else true in
        met_then d (value_free ss d c h k ∙ ap (λ b. if b then fixed_value ss t f else true) cx)
        (fixed_is ss t d nc f ∙ sym (value_free ss d x q r ∙ ap (λ b. if b then fixed_value ss t f else true) (place_self x)))

    on_c : Fixed ss t → Stands ss c → Hits (choices t c x y) ss
    on_c f (as_yes h) = else_open h f (stands ss y)
    on_c f (as_no h) = then_open h f (stands ss x)
    on_c f (open' h k) = open_x h k f (stands ss x)

    on_t : Stands ss t → Hits (choices t c x y) ss
    on_t (open' h k) = t_open h k
    on_t (as_yes h) = on_c (inl h) (stands ss c)
    on_t (as_no h) = on_c (inr h) (stands ss c)

only_one : (b : Bool) → bool_eq b true ≡ (bool_eq b true && true)
only_one true = refl
only_one false = refl

apart_one : (out u : Sign) → nat_eq u.place out.place ≡ false → Apart out (u ∷ [])
apart_one out u h s g = in_cases (λ x. nat_eq x.place out.place ≡ false) s u [] h (λ k. no_both false k refl) g

apart_two : (out u v : Sign) → nat_eq u.place out.place ≡ false → nat_eq v.place out.place ≡ false → Apart out (u ∷ v ∷ [])
apart_two out u v h k s g = in_cases (λ x. nat_eq x.place out.place ≡ false) s u (v ∷ []) h (λ q. apart_one out v k s q) g

clear_one : (u : Sign) → NoClash (u ∷ [])
clear_one u = no_clash (u ∷ []) refl

clear_two : (u v : Sign) → nat_eq u.place v.place ≡ false → NoClash (u ∷ v ∷ [])
clear_two u v h = no_clash (u ∷ v ∷ []) (ap (λ b. (b || false) || (false || false)) (sign_eq-place (negated u) v h))

once_two : (u v : Sign) → nat_eq u.place v.place ≡ false → is_once (u ∷ v ∷ []) ≡ true
once_two u v h = ap (λ b. not (b || false) && true) (sign_eq-place u v h)

pub chosen_complete : (t c x y : ℕ) (ss : List Sign) → NoClash ss → nat_eq c t ≡ false → nat_eq x t ≡ false → nat_eq y t ≡ false
    → ((a : ℕ → Bool) → a t ≡ (if a c then a x else a y) → IsMet a ss) → Hits (chosen t c x y) ss
chosen_complete t c x y ss nc ct xt yt holds = first (nat_eq x y) refl
  where
    as_true : (b : Bool) → bool_eq b true ≡ b
    as_true true = refl
    as_true false = refl

    as_false : (b : Bool) → bool_eq b false ≡ not b
    as_false true = refl
    as_false false = refl

    same_both : (c x y : Bool) → x ≡ y → (bool_eq x true && true) ≡ (if c then x else y)
    same_both true true y e = refl
    same_both true false y e = refl
    same_both false true y e = e
    same_both false false y e = e

    or_both : (b c y : Bool) → bool_eq b false ≡ (bool_eq c false && (bool_eq y false && true)) → b ≡ (if c then c else y)
    or_both true true y e = refl
    or_both true false true e = refl
    or_both true false false e = no_both true refl (sym e)
    or_both false true y e = no_both true refl e
    or_both false false true e = no_both true refl e
    or_both false false false e = refl

    and_both : (b c x : Bool) → bool_eq b true ≡ (bool_eq c true && (bool_eq x true && true)) → b ≡ (if c then x else c)
    and_both true true true e = refl
    and_both true true false e = no_both true refl e
    and_both true false x e = no_both true refl e
    and_both false true true e = no_both true refl (sym e)
    and_both false true false e = refl
    and_both false false x e = refl

    third : nat_eq x y ≡ false → nat_eq c x ≡ false → (b : Bool) → nat_eq c y ≡ b → Hits (if b then conjunction (yes t) (yes c ∷ yes x ∷ []) else choices t c x y) ss
    third xy cx true e =
        conjunction_complete (yes t) (yes c ∷ yes x ∷ []) ss nc (once_two (yes c) (yes x) cx) (clear_two (yes c) (yes x) cx) (apart_two (yes t) (yes c) (yes x) ct xt)
        (λ a h. holds a (and_both (a t) (a c) (a x) h ∙ ap (λ i. if a c then a x else a i) (eqb-true c y e)))
    third xy cx false e = choices_complete t c x y ss nc xy cx e ct xt yt holds

    second : nat_eq x y ≡ false → (b : Bool) → nat_eq c x ≡ b
        → Hits (if b then conjunction (no t) (no c ∷ no y ∷ []) else (if nat_eq c y then conjunction (yes t) (yes c ∷ yes x ∷ []) else choices t c x y)) ss
    second xy true e =
        let cy : nat_eq c y ≡ false = subst (λ i. nat_eq i y ≡ false) (sym (eqb-true c x e)) xy in
        conjunction_complete (no t) (no c ∷ no y ∷ []) ss nc (once_two (no c) (no y) cy) (clear_two (no c) (no y) cy) (apart_two (no t) (no c) (no y) ct yt)
        (λ a h. holds a (or_both (a t) (a c) (a y) h ∙ ap (λ i. if a c then a i else a y) (eqb-true c x e)))
    second xy false e = third xy e (nat_eq c y) refl

    first : (b : Bool) → nat_eq x y ≡ b
        → Hits (if b then conjunction (yes t) (yes x ∷ []) else (if nat_eq c x then conjunction (no t) (no c ∷ no y ∷ []) else (if nat_eq c y then conjunction (yes t) (yes c ∷ yes x ∷ []) else choices t c x y))) ss
    first true e =
        conjunction_complete (yes t) (yes x ∷ []) ss nc refl (clear_one (yes x)) (apart_one (yes t) (yes x) xt)
        (λ a h. holds a (sym (as_true (a t)) ∙ h ∙ same_both (a c) (a x) (a y) (ap a (eqb-true x y e))))
    first false e = second e (nat_eq c x) refl
