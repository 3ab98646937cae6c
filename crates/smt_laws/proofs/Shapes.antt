-- Linear trees, and trees whose numerals are in the range and whose symbols were given.
use Rattle.std.proofs.Common.{◌≡◌, ℕ, zero, suc, ◌<◌, ◌≤◌, List, [], ◌∷◌, All, map, length, refl, Bool, true, false, ◌||◌, not, nat_eq, arith}
use Rattle.std.proofs.lemmas.Bool.{eqb-true}
use Rattle.std.proofs.lemmas.List.Elements.{All-nil, All-cons, All-append}
use Rattle.fraction128.specs.Whole.{is_in_range}
use Rattle.smt_meaning.specs.declared.terms.Operator.{Operator}
use Rattle.smt_meaning.specs.declared.terms.Operator.TheVariants.{Multiply, Divide, Modulo, Divisible}
use Rattle.smt_meaning.specs.declared.terms.Head.{Head}
use Rattle.smt_meaning.specs.declared.terms.Head.TheVariants.{Numeral, Theory, Symbol, Place}
use Rattle.smt_meaning.specs.Term.{Tree, Trees, node, none, more}
use Rattle.smt_meaning.specs.TreeShape.{tree_eq, is_linear, are_linear, is_linear_at, is_linear_operation, is_divisor, are_divisors, has_quotient, quotient_tree, divided_from, operation, argument, put, put_all, put_at}
use Rattle.smt_meaning.specs.Signature.{takes}
use Rattle.smt_meaning.specs.Clause.{head_symbols, symbols, symbols_of}
use Rattle.smt_meaning.specs.Sorts.{Typed, trees_of, all_are_linear}
use Rattle.smt_laws.proofs.Both.{and_left, and_right, and_both}
use Rattle.smt_laws.specs.Numerals.{head_in_range, numerals_fit, all_numerals_fit}
use Rattle.smt_laws.proofs.SameTree.{tree_eq-self}
use Rattle.smt_laws.proofs.Each.{Each, EachOf, Descends}

abbrev pub Linear : Tree → Type 0
Linear t = is_linear t ≡ true

-- the numeral is in the range, or the symbol is one of the first n
abbrev pub SoundHead : ℕ → Head → Type 0
SoundHead n (Numeral k) = is_in_range k ≡ true
SoundHead n (Symbol f) = f < n
SoundHead n _ = Unit {0}

abbrev mutual
  -- so is each in the tree
  pub Sound : ℕ → Tree → Type 0
  Sound n (node h us) = SoundHead n h × AreSound n us

  pub AreSound : ℕ → Trees → Type 0
  AreSound n none = Unit {0}
  AreSound n (more u us) = Sound n u × AreSound n us

-- ---- arguments

linear_ones : (us : Trees) → are_linear us ≡ true → EachOf Linear us
linear_ones none h = tt
linear_ones (more u us) h = (and_left (is_linear u) (are_linear us) h, linear_ones us (and_right (is_linear u) (are_linear us) h))

pub linear_down : Descends Linear
linear_down h us k = linear_ones us (and_right (is_linear_at h us) (are_linear us) k)

linear_again : (us : Trees) → EachOf Linear us → are_linear us ≡ true
linear_again none h = refl
linear_again (more u us) h = and_both (is_linear u) (are_linear us) h.0 (linear_again us h.1)

pub linear_up : (h : Head) (us : Trees) → is_linear_at h us ≡ true → EachOf Linear us → Linear (node h us)
linear_up h us k a = and_both (is_linear_at h us) (are_linear us) k (linear_again us a)

sound_ones : (n : ℕ) (us : Trees) → AreSound n us → EachOf (Sound n) us
sound_ones n none h = tt
sound_ones n (more u us) h = (h.0, sound_ones n us h.1)

pub sound_down : (n : ℕ) → Descends (Sound n)
sound_down n h us k = sound_ones n us k.1

sound_again : (n : ℕ) (us : Trees) → EachOf (Sound n) us → AreSound n us
sound_again n none h = tt
sound_again n (more u us) h = (h.0, sound_again n us h.1)

pub sound_up : (n : ℕ) (h : Head) (us : Trees) → SoundHead n h → EachOf (Sound n) us → Sound n (node h us)
sound_up n h us k a = (k, sound_again n us a)

sound_head_more : (n m : ℕ) (h : Head) → n ≤ m → SoundHead n h → SoundHead m h
sound_head_more n m (Numeral k) le s = s
sound_head_more n m (Symbol f) le s = omega arith
sound_head_more n m (Theory o) le s = s
sound_head_more n m (Place k) le s = s

mutual
  pub sound_more : (n m : ℕ) (t : Tree) → n ≤ m → Sound n t → Sound m t
  sound_more n m (node h us) le s = (sound_head_more n m h le s.0, are_sound_more n m us le s.1)

  are_sound_more : (n m : ℕ) (us : Trees) → n ≤ m → AreSound n us → AreSound m us
  are_sound_more n m none le s = tt
  are_sound_more n m (more u us) le s = (sound_more n m u le s.0, are_sound_more n m us le s.1)

pub each_sound_more : (n m : ℕ) (ts : List Tree) → n ≤ m → Each (Sound n) ts → Each (Sound m) ts
each_sound_more n m [] le s = tt
each_sound_more n m (t ∷ ts) le s = (sound_more n m t le s.0, each_sound_more n m ts le s.1)

numeral_fits : (n : ℕ) (h : Head) → SoundHead n h → head_in_range h ≡ true
numeral_fits n (Numeral k) s = s
numeral_fits n (Theory o) s = refl
numeral_fits n (Symbol f) s = refl
numeral_fits n (Place k) s = refl

mutual
  sound_fits : (n : ℕ) (t : Tree) → Sound n t → numerals_fit t ≡ true
  sound_fits n (node h us) s = and_both (head_in_range h) (all_numerals_fit us) (numeral_fits n h s.0) (are_sound_fit n us s.1)

  are_sound_fit : (n : ℕ) (us : Trees) → AreSound n us → all_numerals_fit us ≡ true
  are_sound_fit n none s = refl
  are_sound_fit n (more u us) s = and_both (numerals_fit u) (all_numerals_fit us) (sound_fits n u s.0) (are_sound_fit n us s.1)

pub each_fits : (n : ℕ) (ts : List Tree) → Each (Sound n) ts → Each (λ t. numerals_fit t ≡ true) ts
each_fits n [] s = tt
each_fits n (t ∷ ts) s = (sound_fits n t s.0, each_fits n ts s.1)

symbol_given : (n : ℕ) (h : Head) → SoundHead n h → All (λ f. f < n) (head_symbols h)
symbol_given n (Symbol f) s = All-cons (λ g. g < n) f [] s (All-nil (λ g. g < n))
symbol_given n (Numeral k) s = All-nil (λ g. g < n)
symbol_given n (Theory o) s = All-nil (λ g. g < n)
symbol_given n (Place k) s = All-nil (λ g. g < n)

mutual
  sound_given : (n : ℕ) (t : Tree) → Sound n t → All (λ f. f < n) (symbols t)
  sound_given n (node h us) s = All-append (λ f. f < n) (head_symbols h) (symbols_of us) (symbol_given n h s.0) (are_sound_given n us s.1)

  are_sound_given : (n : ℕ) (us : Trees) → AreSound n us → All (λ f. f < n) (symbols_of us)
  are_sound_given n none s = All-nil (λ f. f < n)
  are_sound_given n (more u us) s = All-append (λ f. f < n) (symbols u) (symbols_of us) (sound_given n u s.0) (are_sound_given n us s.1)

pub each_given : (n : ℕ) (ts : List Tree) → Each (Sound n) ts → Each (λ t. All (λ f. f < n) (symbols t)) ts
each_given n [] s = tt
each_given n (t ∷ ts) s = (sound_given n t s.0, each_given n ts s.1)

-- ---- operators applied

two_of_three : (n : ℕ) → nat_eq (suc (suc (suc n))) 2 ≡ true → ⊥
two_of_three n h = let q : suc (suc (suc n)) ≡ 2 = eqb-true (suc (suc (suc n))) 2 h in omega (arith, q)

quotient_sound : (n : ℕ) (t u : Tree) → Sound n t → Sound n u → Sound n (quotient_tree t u)
quotient_sound n t u h k = sound_up n (Theory Divide) (more t (more u none)) tt (h, (k, tt))

divided_sound : (n : ℕ) (t : Tree) (us : Trees) → Sound n t → EachOf (Sound n) us → Sound n (divided_from t us)
divided_sound n t none h k = h
divided_sound n t (more u us) h k = divided_sound n (quotient_tree t u) us (quotient_sound n t u h k.0) k.1

-- the numerals and symbols of an operator applied are those of its arguments
pub operation_sound : (n : ℕ) (o : Operator) (us : Trees) → EachOf (Sound n) us → Sound n (operation o us)
operation_sound n Divide none h = sound_up n (Theory Divide) none tt h
operation_sound n Divide (more t us) h = divided_sound n t us h.0 h.1
operation_sound n Modulo (more t (more u none)) h =
    sound_up n (Theory Modulo) (more t (more u (more (quotient_tree t u) none))) tt (h.0, (h.1.0, (quotient_sound n t u h.0 h.1.0, tt)))
operation_sound n Modulo us h = sound_up n (Theory Modulo) us tt h
operation_sound n Divisible (more t (more u none)) h =
    sound_up n (Theory Divisible) (more t (more u (more (quotient_tree t u) none))) tt (h.0, (h.1.0, (quotient_sound n t u h.0 h.1.0, tt)))
operation_sound n Divisible us h = sound_up n (Theory Divisible) us tt h
operation_sound n o us h = sound_up n (Theory o) us tt h

quotient_linear : (t u : Tree) → is_divisor u ≡ true → Linear t → Linear u → Linear (quotient_tree t u)
quotient_linear t u d h k = linear_up (Theory Divide) (more t (more u none)) d (h, (k, tt))

divided_linear : (t : Tree) (us : Trees) → are_divisors us ≡ true → Linear t → EachOf Linear us → Linear (divided_from t us)
divided_linear t none d h k = h
divided_linear t (more u us) d h k =
    divided_linear (quotient_tree t u) us (and_right (is_divisor u) (are_divisors us) d) (quotient_linear t u (and_left (is_divisor u) (are_divisors us) d) h k.0) k.1

pub left_over_linear : (o : Operator) (t u : Tree) → (has_quotient (more t (more u (more (quotient_tree t u) none))) ≡ true → is_linear_at (Theory o) (more t (more u (more (quotient_tree t u) none))) ≡ true)
    → are_divisors (more u none) ≡ true → Linear t → Linear u → Linear (node (Theory o) (more t (more u (more (quotient_tree t u) none))))
left_over_linear o t u shape d h k =
    let divisor : is_divisor u ≡ true = and_left (is_divisor u) true d in
    linear_up (Theory o) (more t (more u (more (quotient_tree t u) none)))
    (shape (and_both (is_divisor u) (tree_eq (quotient_tree t u) (quotient_tree t u)) divisor (tree_eq-self (quotient_tree t u)))) (h, (k, (quotient_linear t u divisor h k, tt)))

-- an operator may be applied to what it takes, where they are linear
pub operation_linear : (o : Operator) (ts : List Typed) → takes o (length ts) ≡ true → is_linear_operation o (trees_of ts) ≡ true → EachOf Linear (trees_of ts)
    → Linear (operation o (trees_of ts))
operation_linear Divide [] n k h = absurd (cc)
operation_linear Divide (a ∷ ts) n k h = divided_linear a.tree (trees_of ts) k h.0 h.1
operation_linear Modulo [] n k h = absurd (cc)
operation_linear Modulo (a ∷ []) n k h = absurd (cc)
operation_linear Modulo (a ∷ b ∷ []) n k h = left_over_linear Modulo a.tree b.tree (λ e. e) k h.0 h.1.0
operation_linear Modulo (a ∷ b ∷ c ∷ ts) n k h = absurd (two_of_three (length ts) n)
operation_linear Divisible [] n k h = absurd (cc)
operation_linear Divisible (a ∷ []) n k h = absurd (cc)
operation_linear Divisible (a ∷ b ∷ []) n k h = left_over_linear Divisible a.tree b.tree (λ e. e) k h.0 h.1.0
operation_linear Divisible (a ∷ b ∷ c ∷ ts) n k h = absurd (two_of_three (length ts) n)
operation_linear Multiply ts n k h = linear_up (Theory Multiply) (trees_of ts) k h
operation_linear o ts n k h = linear_up (Theory o) (trees_of ts) refl h

-- ---- lists

pub linear_each : (ts : List Tree) → all_are_linear ts ≡ true → Each Linear ts
linear_each [] h = tt
linear_each (t ∷ ts) h = (and_left (is_linear t) (all_are_linear ts) h, linear_each ts (and_right (is_linear t) (all_are_linear ts) h))

-- what is tested where the flag is set, and the flag is
pub tested : (c b : Bool) → (not c || b) ≡ true → c ≡ true → b ≡ true
tested true b h e = h
tested false b h e = absurd (cc)

-- ---- arguments put in

argument_sound : (n : ℕ) (ts : Trees) (k : ℕ) → EachOf (Sound n) ts → Sound n (argument ts k)
argument_sound n none k h = (tt, tt)
argument_sound n (more t ts) zero h = h.0
argument_sound n (more t ts) (suc k) h = argument_sound n ts k h.1

put_at_sound : (n : ℕ) (ts : Trees) (h : Head) (us : Trees) → EachOf (Sound n) ts → SoundHead n h → EachOf (Sound n) us → Sound n (put_at ts h us)
put_at_sound n ts (Numeral m) us a k e = sound_up n (Numeral m) us k e
put_at_sound n ts (Theory o) us a k e = sound_up n (Theory o) us k e
put_at_sound n ts (Symbol f) us a k e = sound_up n (Symbol f) us k e
put_at_sound n ts (Place j) us a k e = argument_sound n ts j a

mutual
  put_sound : (n : ℕ) (ts : Trees) (t : Tree) → EachOf (Sound n) ts → Sound n t → Sound n (put ts t)
  put_sound n ts (node h us) a k = put_at_sound n ts h (put_all ts us) a k.0 (puts_sound n ts us a k.1)

  puts_sound : (n : ℕ) (ts us : Trees) → EachOf (Sound n) ts → AreSound n us → EachOf (Sound n) (put_all ts us)
  puts_sound n ts none a k = tt
  puts_sound n ts (more u us) a k = (put_sound n ts u a k.0, puts_sound n ts us a k.1)

pub put_each_sound : (n : ℕ) (ts : Trees) (us : List Tree) → EachOf (Sound n) ts → Each (Sound n) us → Each (Sound n) (map (put ts) us)
put_each_sound n ts [] a k = tt
put_each_sound n ts (u ∷ us) a k = (put_sound n ts u a k.0, put_each_sound n ts us a k.1)
