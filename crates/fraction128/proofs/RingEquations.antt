-- Commutative rings, and equations that hold in each of them: both sides are brought to a normal form, which `refl` compares.
use Rattle.std.proofs.Common.{◌≡◌, ℕ, zero, suc, List, [], ◌∷◌, Bool, true, false, cond, nat_lt, refl, sym, ap, ap₂, ◌∙◌, not, eqb, eqb-true}

pub record Ring (A : Type 0) : Type 0 where
  pub add : A → A → A
  pub mul : A → A → A
  pub neg : A → A
  pub none : A
  pub one : A
  pub add_comm : (a b : A) → add a b ≡ add b a
  pub add_assoc : (a b c : A) → add (add a b) c ≡ add a (add b c)
  pub add_none : (a : A) → add a none ≡ a
  pub add_neg : (a : A) → add a (neg a) ≡ none
  pub mul_comm : (a b : A) → mul a b ≡ mul b a
  pub mul_assoc : (a b c : A) → mul (mul a b) c ≡ mul a (mul b c)
  pub mul_one : (a : A) → mul a one ≡ a
  pub mul_add : (a b c : A) → mul a (add b c) ≡ add (mul a b) (mul a c)

-- ---- terms

pub data Term : Type 0 where
  var : ℕ → Term
  nothing : Term
  unit : Term
  sum : Term → Term → Term
  product : Term → Term → Term
  minus : Term → Term

abbrev pub at : {A : Type 0} → Ring A → List A → ℕ → A
at R [] i = R.none
at R (x ∷ xs) zero = x
at R (x ∷ xs) (suc i) = at R xs i

abbrev pub value : {A : Type 0} → Ring A → List A → Term → A
value R v (var i) = at R v i
value R v nothing = R.none
value R v unit = R.one
value R v (sum e f) = R.add (value R v e) (value R v f)
value R v (product e f) = R.mul (value R v e) (value R v f)
value R v (minus e) = R.neg (value R v e)

-- ---- polynomials: signed products of variables in ascending order

abbrev pub Poly : Type 0
Poly = List (Bool × List ℕ)

abbrev pub insert : ℕ → List ℕ → List ℕ
insert i [] = i ∷ []
insert i (j ∷ js) = cond (nat_lt j i) (j ∷ insert i js) (i ∷ j ∷ js)

abbrev pub joined : List ℕ → List ℕ → List ℕ
joined [] n = n
joined (i ∷ is) n = insert i (joined is n)

abbrev pub same : List ℕ → List ℕ → Bool
same [] [] = true
same [] (j ∷ js) = false
same (i ∷ is) [] = false
same (i ∷ is) (j ∷ js) = cond (eqb i j) (same is js) false

abbrev pub before : List ℕ → List ℕ → Bool
before [] m = true
before (i ∷ is) [] = false
before (i ∷ is) (j ∷ js) = cond (nat_lt i j) true (cond (eqb i j) (before is js) false)

abbrev pub opposite : Bool → Bool → Bool
opposite true b = not b
opposite false b = b

abbrev pub put : Bool → List ℕ → Poly → Poly
put s m [] = (s, m) ∷ []
put s m (p ∷ ps) = cond (same m p.1) (cond (opposite s p.0) ps ((s, m) ∷ p ∷ ps)) (cond (before m p.1) ((s, m) ∷ p ∷ ps) (p ∷ put s m ps))

abbrev pub plus : Poly → Poly → Poly
plus [] q = q
plus (p ∷ ps) q = put p.0 p.1 (plus ps q)

abbrev pub signs : Bool → Bool → Bool
signs true b = b
signs false b = not b

abbrev pub scale : Bool → List ℕ → Poly → Poly
scale s m [] = []
scale s m (p ∷ ps) = put (signs s p.0) (joined m p.1) (scale s m ps)

abbrev pub times : Poly → Poly → Poly
times [] q = []
times (p ∷ ps) q = plus (scale p.0 p.1 q) (times ps q)

abbrev pub normal : Term → Poly
normal (var i) = (true, i ∷ []) ∷ []
normal nothing = []
normal unit = (true, []) ∷ []
normal (sum e f) = plus (normal e) (normal f)
normal (product e f) = times (normal e) (normal f)
normal (minus e) = scale false [] (normal e)

-- ---- their values

abbrev mono : {A : Type 0} → Ring A → List A → List ℕ → A
mono R v [] = R.one
mono R v (i ∷ is) = R.mul (at R v i) (mono R v is)

abbrev signed : {A : Type 0} → Ring A → Bool → A → A
signed R true x = x
signed R false x = R.neg x

abbrev poly : {A : Type 0} → Ring A → List A → Poly → A
poly R v [] = R.none
poly R v (p ∷ ps) = R.add (signed R p.0 (mono R v p.1)) (poly R v ps)

-- ---- consequences of the laws

swap_add : {A : Type 0} (R : Ring A) (a b c : A) → R.add a (R.add b c) ≡ R.add b (R.add a c)
swap_add R a b c = sym (R.add_assoc a b c) ∙ ap (λ x. R.add x c) (R.add_comm a b) ∙ R.add_assoc b a c

swap_mul : {A : Type 0} (R : Ring A) (a b c : A) → R.mul a (R.mul b c) ≡ R.mul b (R.mul a c)
swap_mul R a b c = sym (R.mul_assoc a b c) ∙ ap (λ x. R.mul x c) (R.mul_comm a b) ∙ R.mul_assoc b a c

none_add : {A : Type 0} (R : Ring A) (a : A) → R.add R.none a ≡ a
none_add R a = R.add_comm R.none a ∙ R.add_none a

-- from a + b = a follows b = 0
cancel : {A : Type 0} (R : Ring A) (a b : A) → R.add a b ≡ a → b ≡ R.none
cancel R a b e =
    sym (none_add R b) ∙ ap (λ x. R.add x b) (sym (R.add_neg a) ∙ R.add_comm a (R.neg a)) ∙ R.add_assoc (R.neg a) a b ∙ ap (R.add (R.neg a)) e
    ∙ R.add_comm (R.neg a) a
    ∙ R.add_neg a

pub mul_none : {A : Type 0} (R : Ring A) (a : A) → R.mul a R.none ≡ R.none
mul_none R a = cancel R (R.mul a R.none) (R.mul a R.none) (sym (R.mul_add a R.none R.none) ∙ ap (R.mul a) (R.add_none R.none))

-- from a + b = 0 follows b = -a
neg_unique : {A : Type 0} (R : Ring A) (a b : A) → R.add a b ≡ R.none → b ≡ R.neg a
neg_unique R a b e =
    sym (none_add R b) ∙ ap (λ x. R.add x b) (sym (R.add_neg a) ∙ R.add_comm a (R.neg a)) ∙ R.add_assoc (R.neg a) a b ∙ ap (R.add (R.neg a)) e
    ∙ R.add_none (R.neg a)

mul_neg : {A : Type 0} (R : Ring A) (a b : A) → R.mul a (R.neg b) ≡ R.neg (R.mul a b)
mul_neg R a b = neg_unique R (R.mul a b) (R.mul a (R.neg b)) (sym (R.mul_add a b (R.neg b)) ∙ ap (R.mul a) (R.add_neg b) ∙ mul_none R a)

neg_mul : {A : Type 0} (R : Ring A) (a b : A) → R.mul (R.neg a) b ≡ R.neg (R.mul a b)
neg_mul R a b = R.mul_comm (R.neg a) b ∙ mul_neg R b a ∙ ap R.neg (R.mul_comm b a)

neg_neg : {A : Type 0} (R : Ring A) (a : A) → R.neg (R.neg a) ≡ a
neg_neg R a = sym (neg_unique R (R.neg a) a (R.add_comm (R.neg a) a ∙ R.add_neg a))

neg_add : {A : Type 0} (R : Ring A) (a b : A) → R.neg (R.add a b) ≡ R.add (R.neg a) (R.neg b)
neg_add R a b =
    sym
    (neg_unique R (R.add a b) (R.add (R.neg a) (R.neg b))
    (R.add_assoc a b (R.add (R.neg a) (R.neg b))
    ∙ ap (R.add a) (swap_add R b (R.neg a) (R.neg b) ∙ ap (R.add (R.neg a)) (R.add_neg b) ∙ R.add_none (R.neg a))
    ∙ R.add_neg a
    ))

neg_none : {A : Type 0} (R : Ring A) → R.neg R.none ≡ R.none
neg_none R = sym (neg_unique R R.none R.none (R.add_none R.none))

-- ---- the operations on polynomials

mono_insert : {A : Type 0} (R : Ring A) (v : List A) (i : ℕ) (m : List ℕ) → mono R v (insert i m) ≡ R.mul (at R v i) (mono R v m)
mono_insert R v i [] = refl
mono_insert R v i (j ∷ js) = by_test (mono_insert R v i js) (nat_lt j i)
  where
    by_test : mono R v (insert i js) ≡ R.mul (at R v i) (mono R v js) → (t : Bool) → mono R v (cond t (j ∷ insert i js) (i ∷ j ∷ js)) ≡ R.mul (at R v i) (R.mul (at R v j) (mono R v js))
    by_test ih true = ap (R.mul (at R v j)) ih ∙ swap_mul R (at R v j) (at R v i) (mono R v js)
    by_test ih false = refl

mono_joined : {A : Type 0} (R : Ring A) (v : List A) (m n : List ℕ) → mono R v (joined m n) ≡ R.mul (mono R v m) (mono R v n)
mono_joined R v [] n = sym (R.mul_comm R.one (mono R v n) ∙ R.mul_one (mono R v n))
mono_joined R v (i ∷ is) n =
    mono_insert R v i (joined is n) ∙ ap (R.mul (at R v i)) (mono_joined R v is n) ∙ sym (R.mul_assoc (at R v i) (mono R v is) (mono R v n))

same_is : (m n : List ℕ) → same m n ≡ true → m ≡ n
same_is [] [] e = refl
same_is [] (j ∷ js) e = absurd (cc)
same_is (i ∷ is) [] e = absurd (cc)
same_is (i ∷ is) (j ∷ js) e = by_test (same_is is js) (eqb i j) refl e
  where
    by_test : (same is js ≡ true → is ≡ js) → (t : Bool) → eqb i j ≡ t → cond t (same is js) false ≡ true → (i ∷ is) ≡ (j ∷ js)
    by_test ih true q h = ap₂ ◌∷◌ (eqb-true i j q) (ih h)
    by_test ih false q h = absurd (cc)

cancels : {A : Type 0} (R : Ring A) (s t : Bool) (x : A) → opposite s t ≡ true → R.add (signed R s x) (signed R t x) ≡ R.none
cancels R true true x e = absurd (cc)
cancels R true false x e = R.add_neg x
cancels R false true x e = R.add_comm (R.neg x) x ∙ R.add_neg x
cancels R false false x e = absurd (cc)

poly_put : {A : Type 0} (R : Ring A) (v : List A) (s : Bool) (m : List ℕ) (q : Poly) → poly R v (put s m q) ≡ R.add (signed R s (mono R v m)) (poly R v q)
poly_put R v s m [] = refl
poly_put R v s m (p ∷ ps) = by_same (poly_put R v s m ps) (same m p.1) refl (before m p.1)
  where
    by_opposite : same m p.1 ≡ true → (t : Bool) → opposite s p.0 ≡ t
        → poly R v (cond t ps ((s, m) ∷ p ∷ ps)) ≡ R.add (signed R s (mono R v m)) (R.add (signed R p.0 (mono R v p.1)) (poly R v ps))
    by_opposite e true o =
        sym
        (sym (R.add_assoc (signed R s (mono R v m)) (signed R p.0 (mono R v p.1)) (poly R v ps))
        ∙ ap (λ x. R.add x (poly R v ps))
        (ap (λ n. R.add (signed R s (mono R v m)) (signed R p.0 (mono R v n))) (sym (same_is m p.1 e)) ∙ cancels R s p.0 (mono R v m) o)
        ∙ none_add R (poly R v ps)
        )
    by_opposite e false o = refl

    by_same : poly R v (put s m ps) ≡ R.add (signed R s (mono R v m)) (poly R v ps) → (t : Bool) → same m p.1 ≡ t → (u : Bool)
        → poly R v (cond t (cond (opposite s p.0) ps ((s, m) ∷ p ∷ ps)) (cond u ((s, m) ∷ p ∷ ps) (p ∷ put s m ps)))
        ≡ R.add (signed R s (mono R v m)) (R.add (signed R p.0 (mono R v p.1)) (poly R v ps))
    by_same ih true e u = by_opposite e (opposite s p.0) refl
    by_same ih false e true = refl
    by_same ih false e false =
        ap (R.add (signed R p.0 (mono R v p.1))) ih ∙ swap_add R (signed R p.0 (mono R v p.1)) (signed R s (mono R v m)) (poly R v ps)

poly_plus : {A : Type 0} (R : Ring A) (v : List A) (p q : Poly) → poly R v (plus p q) ≡ R.add (poly R v p) (poly R v q)
poly_plus R v [] q = sym (none_add R (poly R v q))
poly_plus R v (p ∷ ps) q =
    poly_put R v p.0 p.1 (plus ps q) ∙ ap (R.add (signed R p.0 (mono R v p.1))) (poly_plus R v ps q)
    ∙ sym (R.add_assoc (signed R p.0 (mono R v p.1)) (poly R v ps) (poly R v q))

signs_mul : {A : Type 0} (R : Ring A) (s t : Bool) (x y : A) → signed R (signs s t) (R.mul x y) ≡ R.mul (signed R s x) (signed R t y)
signs_mul R true true x y = refl
signs_mul R true false x y = sym (mul_neg R x y)
signs_mul R false true x y = sym (neg_mul R x y)
signs_mul R false false x y = sym (neg_mul R x (R.neg y) ∙ ap R.neg (mul_neg R x y) ∙ neg_neg R (R.mul x y))

poly_scale : {A : Type 0} (R : Ring A) (v : List A) (s : Bool) (m : List ℕ) (q : Poly) → poly R v (scale s m q) ≡ R.mul (signed R s (mono R v m)) (poly R v q)
poly_scale R v s m [] = sym (mul_none R (signed R s (mono R v m)))
poly_scale R v s m (p ∷ ps) =
    poly_put R v (signs s p.0) (joined m p.1) (scale s m ps)
    ∙ ap₂ R.add (ap (signed R (signs s p.0)) (mono_joined R v m p.1) ∙ signs_mul R s p.0 (mono R v m) (mono R v p.1)) (poly_scale R v s m ps)
    ∙ sym (R.mul_add (signed R s (mono R v m)) (signed R p.0 (mono R v p.1)) (poly R v ps))

poly_times : {A : Type 0} (R : Ring A) (v : List A) (p q : Poly) → poly R v (times p q) ≡ R.mul (poly R v p) (poly R v q)
poly_times R v [] q = sym (R.mul_comm R.none (poly R v q) ∙ mul_none R (poly R v q))
poly_times R v (p ∷ ps) q =
    poly_plus R v (scale p.0 p.1 q) (times ps q) ∙ ap₂ R.add (poly_scale R v p.0 p.1 q) (poly_times R v ps q)
    ∙ ap₂ R.add (R.mul_comm (signed R p.0 (mono R v p.1)) (poly R v q)) (R.mul_comm (poly R v ps) (poly R v q))
    ∙ sym (R.mul_add (poly R v q) (signed R p.0 (mono R v p.1)) (poly R v ps))
    ∙ R.mul_comm (poly R v q) (R.add (signed R p.0 (mono R v p.1)) (poly R v ps))

normal_value : {A : Type 0} (R : Ring A) (v : List A) (e : Term) → poly R v (normal e) ≡ value R v e
normal_value R v (var i) = R.add_none (R.mul (at R v i) R.one) ∙ R.mul_one (at R v i)
normal_value R v nothing = refl
normal_value R v unit = R.add_none R.one
normal_value R v (sum e f) = poly_plus R v (normal e) (normal f) ∙ ap₂ R.add (normal_value R v e) (normal_value R v f)
normal_value R v (product e f) = poly_times R v (normal e) (normal f) ∙ ap₂ R.mul (normal_value R v e) (normal_value R v f)
normal_value R v (minus e) =
    poly_scale R v false [] (normal e) ∙ neg_mul R R.one (poly R v (normal e))
    ∙ ap R.neg (R.mul_comm R.one (poly R v (normal e)) ∙ R.mul_one (poly R v (normal e)) ∙ normal_value R v e)

-- two terms with one normal form have one value in every ring
pub solve : {A : Type 0} (R : Ring A) (v : List A) (e f : Term) → normal e ≡ normal f → value R v e ≡ value R v f
solve R v e f h = sym (normal_value R v e) ∙ ap (poly R v) h ∙ normal_value R v f
