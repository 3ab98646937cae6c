-- When the literals of a clause, all false, force the value of a term by its parts.
use Rattle.std.proofs.Common.{◌≡◌, ◌≢◌, ℕ, suc, ◌+◌, ◌*◌, Bool, true, false, not, ◌&&◌, ◌||◌, nat_eq, List, [], ◌∷◌, ◌++◌, map, Option, Some, None, All, Contains, IfSome, refl, sym, ap, ◌∙◌, subst, inl, inr, ◌⊎◌, arith}
use Rattle.std.specs.Prelude.{if◌then◌else◌}
use Rattle.std.specs.List.{list_all, list_any}
use Rattle.std.proofs.lemmas.Bool.{false≢true, eqb-true}
use Rattle.std.proofs.lemmas.List.Elements.{All-nil, All-cons, All-contains}
use Rattle.smt_meaning.specs.Term.{xor}
use Rattle.smt_laws.proofs.Both.{and_left, and_right}
use Rattle.proof_terms.specs.declared.form_values.Connective.{Connective}
use Rattle.proof_terms.specs.declared.form_values.Connective.TheVariants.{And, Or, Nor, Xor, Implies, Equal, Ite, False}
use Rattle.proof_terms.specs.Kept.{sign_code}
use Rattle.proof_terms.specs.FormValues.{itself, is_odd, implied, choice_of, connective_value, chosen, value_by, AreFalse, HasNoClash, IsFree, IsGiven, IsOnFree, IsOddPart, IsFreePart, IsLastPart, IsPickOf, GivesAt, IsForced}
use Rattle.proof_terms.proofs.FormLists.{implied_last, odd_xor}
use Rattle.proof_terms.proofs.FormChosen.{free_or_given, chosen_given, chosen_free, turned_same, turned_other}

-- ---- tests of all and of some

pub or_left : (a b : Bool) → (a || b) ≡ false → a ≡ false
or_left false b h = refl
or_left true b h = h

pub or_right : (a b : Bool) → (a || b) ≡ false → b ≡ false
or_right false b h = h
or_right true b h = absurd (false≢true (sym h))

abbrev IsTrueAt : (ℕ → Bool) → ℕ → Type 0
IsTrueAt f x = f x ≡ true

abbrev IsFalseAt : (ℕ → Bool) → ℕ → Type 0
IsFalseAt f x = f x ≡ false

all_true : (f : ℕ → Bool) (ps : List ℕ) → list_all itself (map f ps) ≡ true → All (IsTrueAt f) ps
all_true f [] h = All-nil (IsTrueAt f)
all_true f (p ∷ ps) h = All-cons (IsTrueAt f) p ps (and_left (f p) _ h) (all_true f ps (and_right (f p) _ h))

all_from : (f : ℕ → Bool) (ps : List ℕ) → ((x : ℕ) → Contains ps x → f x ≡ true) → list_all itself (map f ps) ≡ true
all_from f [] h = refl
all_from f (p ∷ ps) h = ap (λ b. b && list_all itself (map f ps)) (h p (0, omega arith, refl)) ∙ all_from f ps (λ x k. h x (suc k.0, omega arith, k.2))

any_false : (f : ℕ → Bool) (ps : List ℕ) → list_any itself (map f ps) ≡ false → All (IsFalseAt f) ps
any_false f [] h = All-nil (IsFalseAt f)
any_false f (p ∷ ps) h = All-cons (IsFalseAt f) p ps (or_left (f p) _ h) (any_false f ps (or_right (f p) _ h))

any_false_from : (f : ℕ → Bool) (ps : List ℕ) → ((x : ℕ) → Contains ps x → f x ≡ false) → list_any itself (map f ps) ≡ false
any_false_from f [] h = refl
any_false_from f (p ∷ ps) h = ap (λ b. b || list_any itself (map f ps)) (h p (0, omega arith, refl)) ∙ any_false_from f ps (λ x k. h x (suc k.0, omega arith, k.2))

record SomeAt (f : ℕ → Bool) (ps : List ℕ) (b : Bool) : Type 0 where
  part : ℕ
  inside : Contains ps part
  value : f part ≡ b

later : (f : ℕ → Bool) (p : ℕ) (ps : List ℕ) (b : Bool) → SomeAt f ps b → SomeAt f (p ∷ ps) b
later f p ps b s = let k = s.inside in record { part = s.part; inside = (suc k.0, omega arith, k.2); value = s.value }

some_false : (f : ℕ → Bool) (ps : List ℕ) → list_all itself (map f ps) ≡ false → SomeAt f ps false
some_false f [] h = absurd (false≢true (sym h))
some_false f (p ∷ ps) h = by (f p) refl (some_false f ps)
  where
    by : (b : Bool) → f p ≡ b → (list_all itself (map f ps) ≡ false → SomeAt f ps false) → SomeAt f (p ∷ ps) false
    by true e rest = later f p ps false (rest (sym (ap (λ b. b && list_all itself (map f ps)) e) ∙ h))
    by false e rest = record { part = p; inside = (0, omega arith, refl); value = e }

some_true : (f : ℕ → Bool) (ps : List ℕ) → list_any itself (map f ps) ≡ true → SomeAt f ps true
some_true f [] h = absurd (false≢true h)
some_true f (p ∷ ps) h = by (f p) refl (some_true f ps)
  where
    by : (b : Bool) → f p ≡ b → (list_any itself (map f ps) ≡ true → SomeAt f ps true) → SomeAt f (p ∷ ps) true
    by false e rest = later f p ps true (rest (sym (ap (λ b. b || list_any itself (map f ps)) e) ∙ h))
    by true e rest = record { part = p; inside = (0, omega arith, refl); value = e }

pub is_so : (b c : Bool) → (b ≡ not c → ⊥) → b ≡ c
is_so true true h = refl
is_so false false h = refl
is_so true false h = absurd (h refl)
is_so false true h = absurd (h refl)

pub clash : {b : Bool} → b ≡ true → b ≡ false → ⊥
clash e f = false≢true (sym f ∙ e)

all_at : (f : ℕ → Bool) (ps : List ℕ) (x : ℕ) → Contains ps x → f x ≡ false → list_all itself (map f ps) ≡ false
all_at f ps x k h = is_so _ false (λ e. clash (All-contains (IsTrueAt f) ps x (all_true f ps e) k) h)

any_at : (f : ℕ → Bool) (ps : List ℕ) (x : ℕ) → Contains ps x → f x ≡ true → list_any itself (map f ps) ≡ true
any_at f ps x k h = is_so _ true (λ e. clash h (All-contains (IsFalseAt f) ps x (any_false f ps e) k))

all_mono : (f g : ℕ → Bool) → ((x : ℕ) → f x ≡ true → g x ≡ true) → (ps : List ℕ) → list_all itself (map f ps) ≡ true → list_all itself (map g ps) ≡ true
all_mono f g m ps h = all_from g ps (λ x k. m x (All-contains (IsTrueAt f) ps x (all_true f ps h) k))

any_mono : (f g : ℕ → Bool) → ((x : ℕ) → f x ≡ true → g x ≡ true) → (ps : List ℕ) → list_any itself (map f ps) ≡ true → list_any itself (map g ps) ≡ true
any_mono f g m ps h = let s : SomeAt f ps true = some_true f ps h in any_at g ps s.part s.inside (m s.part s.value)

squeeze : (x y z b : Bool) → (x ≡ true → y ≡ true) → (y ≡ true → z ≡ true) → x ≡ b → z ≡ b → y ≡ b
squeeze x y z true low high e f = low e
squeeze x y z false low high e f = is_so y false (λ h. clash (high h) f)

not_not : (b : Bool) → not (not b) ≡ b
not_not true = refl
not_not false = refl

pub turn : (a b : Bool) → not a ≡ b → a ≡ not b
turn a b h = sym (not_not a) ∙ ap not h

or_is : (a b : Bool) → (a || b) ≡ true → (a ≡ true) ⊎ (b ≡ true)
or_is true b h = inl refl
or_is false b h = inr h

-- ---- the connectives

module _ (codes : List ℕ) (clear : HasNoClash codes) (u : ℕ → Bool) (makes_false : AreFalse u codes) where
  agrees : (n : ℕ) → IsGiven codes n → (rest : Bool) (turned : Option ℕ) → chosen codes rest turned n ≡ u n
  agrees n g rest turned = chosen_given codes rest turned n g.0 clear g.1 ∙ sym (makes_false n g.0 g.1)

  low : (n : ℕ) → chosen codes false None n ≡ true → u n ≡ true
  low n h = cases (free_or_given codes n)
    where
      cases : IsFree codes n ⊎ IsGiven codes n → u n ≡ true
      cases (inl f) = absurd (clash h (chosen_free codes false None n f))
      cases (inr g) = sym (agrees n g false None) ∙ h

  high : (n : ℕ) → u n ≡ true → chosen codes true None n ≡ true
  high n h = cases (free_or_given codes n)
    where
      cases : IsFree codes n ⊎ IsGiven codes n → chosen codes true None n ≡ true
      cases (inl f) = chosen_free codes true None n f
      cases (inr g) = agrees n g true None ∙ h

  -- an atom that isn't as the others are is given
  low_out : (n : ℕ) → chosen codes true None n ≡ false → u n ≡ false
  low_out n h = is_so (u n) false (λ e. clash (high n e) h)

  and_forced : (ps : List ℕ) (b : Bool) → ((rest : Bool) → value_by And codes ps rest None ≡ b) → list_all itself (map u ps) ≡ b
  and_forced ps b h =
      squeeze (list_all itself (map (chosen codes false None) ps)) _ (list_all itself (map (chosen codes true None) ps)) b
      (all_mono (chosen codes false None) u low ps) (all_mono u (chosen codes true None) high ps) (h false) (h true)

  or_forced : (ps : List ℕ) (b : Bool) → ((rest : Bool) → value_by Or codes ps rest None ≡ b) → list_any itself (map u ps) ≡ b
  or_forced ps b h =
      squeeze (list_any itself (map (chosen codes false None) ps)) _ (list_any itself (map (chosen codes true None) ps)) b
      (any_mono (chosen codes false None) u low ps) (any_mono u (chosen codes true None) high ps) (h false) (h true)

  nor_forced : (ps : List ℕ) (b : Bool) → ((rest : Bool) → value_by Nor codes ps rest None ≡ b) → not (list_any itself (map u ps)) ≡ b
  nor_forced ps b h = ap not (or_forced ps (not b) (λ rest. turn _ b (h rest))) ∙ not_not b

  -- ---- implication

  implied_by : (before : List ℕ) (p : ℕ) (f : ℕ → Bool) → implied (map f (before ++ p ∷ [])) ≡ (f p || not (list_all itself (map f before)))
  implied_by before p f = ap implied (map_push f before p) ∙ implied_last (map f before) (f p)
    where
      map_push : (f : ℕ → Bool) (xs : List ℕ) (x : ℕ) → map f (xs ++ x ∷ []) ≡ map f xs ++ f x ∷ []
      map_push f [] x = refl
      map_push f (y ∷ ys) x = ap (λ bs. f y ∷ bs) (map_push f ys x)

  with_premise : (before : List ℕ) (p x : ℕ) → Contains before x → u x ≡ false → (u p || not (list_all itself (map u before))) ≡ true
  with_premise before p x k h = at (u p) _ (all_at u before x k h)
    where
      at : (a b : Bool) → b ≡ false → (a || not b) ≡ true
      at true b e = refl
      at false b e = ap not e

  last_true : (before : List ℕ) (p : ℕ) → u p ≡ true → (u p || not (list_all itself (map u before))) ≡ true
  last_true before p h = ap (λ b. b || not (list_all itself (map u before))) h

  implies_true : (before : List ℕ) (p : ℕ) → (chosen codes true (Some p) p || not (list_all itself (map (chosen codes true (Some p)) before))) ≡ true
      → (u p || not (list_all itself (map u before))) ≡ true
  implies_true before p h = cases (or_is _ _ h)
    where
      at_last : chosen codes true (Some p) p ≡ true → IsFree codes p ⊎ IsGiven codes p → u p ≡ true
      at_last e (inl f) = absurd (clash e (chosen_free codes true (Some p) p f ∙ turned_same true p p refl))
      at_last e (inr g) = sym (agrees p g true (Some p)) ∙ e

      at_equal : (x : ℕ) → Contains before x → (b : Bool) → u x ≡ b → x ≡ p → (u p || not (list_all itself (map u before))) ≡ true
      at_equal x k true e same = last_true before p (sym (ap u same) ∙ e)
      at_equal x k false e same = with_premise before p x k e

      at_free : (x : ℕ) → Contains before x → (b : Bool) → nat_eq p x ≡ b → chosen codes true (Some p) x ≡ false → IsFree codes x → (u p || not (list_all itself (map u before))) ≡ true
      at_free x k true e h f = at_equal x k (u x) refl (sym (eqb-true p x e))
      at_free x k false e h f = absurd (clash (chosen_free codes true (Some p) x f ∙ ap (λ b. if b then false else true) e) h)

      at_premise : (x : ℕ) → Contains before x → chosen codes true (Some p) x ≡ false → IsFree codes x ⊎ IsGiven codes x → (u p || not (list_all itself (map u before))) ≡ true
      at_premise x k h (inl f) = at_free x k (nat_eq p x) refl h f
      at_premise x k h (inr g) = with_premise before p x k (sym (agrees x g true (Some p)) ∙ h)

      cases : (chosen codes true (Some p) p ≡ true) ⊎ (not (list_all itself (map (chosen codes true (Some p)) before)) ≡ true) → (u p || not (list_all itself (map u before))) ≡ true
      cases (inl e) = last_true before p (at_last e (free_or_given codes p))
      cases (inr e) =
          let s : SomeAt (chosen codes true (Some p)) before false = some_false (chosen codes true (Some p)) before (turn _ true e) in
          at_premise s.part s.inside s.value (free_or_given codes s.part)

  implies_false : (before : List ℕ) (p : ℕ) → (chosen codes true None p || not (list_all itself (map (chosen codes true None) before))) ≡ false
      → (chosen codes false None p || not (list_all itself (map (chosen codes false None) before))) ≡ false → (u p || not (list_all itself (map u before))) ≡ false
  implies_false before p t f =
      ap (λ b. b || not (list_all itself (map u before))) (low_out p (or_left _ _ t))
      ∙ ap not (all_mono (chosen codes false None) u low before (turn _ false (or_right _ _ f)))

  implies_forced : (before : List ℕ) (p : ℕ) (b : Bool) → ((rest : Bool) → value_by Implies codes (before ++ p ∷ []) rest None ≡ b)
      → ((rest : Bool) → value_by Implies codes (before ++ p ∷ []) rest (Some p) ≡ b) → implied (map u (before ++ p ∷ [])) ≡ b
  implies_forced before p true h t = implied_by before p u ∙ implies_true before p (sym (implied_by before p (chosen codes true (Some p))) ∙ t true)
  implies_forced before p false h t =
      implied_by before p u
      ∙ implies_false before p (sym (implied_by before p (chosen codes true None)) ∙ h true) (sym (implied_by before p (chosen codes false None)) ∙ h false)

  -- ---- equality

  abbrev alike : (ℕ → Bool) → List ℕ → Bool
  alike f ps = list_all itself (map f ps) || not (list_any itself (map f ps))

  same_values : (f : ℕ → Bool) (ps : List ℕ) → ((x : ℕ) → Contains ps x → f x ≡ u x) → map f ps ≡ map u ps
  same_values f [] h = refl
  same_values f (p ∷ ps) h =
      ap (λ b. b ∷ map f ps) (h p (0, omega arith, refl)) ∙ ap (λ bs. u p ∷ bs) (same_values f ps (λ x k. h x (suc k.0, omega arith, k.2)))

  equal_false : (ps : List ℕ) → alike (chosen codes true None) ps ≡ false → alike (chosen codes false None) ps ≡ false → alike u ps ≡ false
  equal_false ps t f =
      let s : SomeAt (chosen codes true None) ps false = some_false (chosen codes true None) ps (or_left _ _ t) in
      let r : SomeAt (chosen codes false None) ps true = some_true (chosen codes false None) ps (turn _ false (or_right _ _ f)) in
      ap (λ b. b || not (list_any itself (map u ps))) (all_at u ps s.part s.inside (low_out s.part s.value))
      ∙ ap not (any_at u ps r.part r.inside (low r.part r.value))

  equal_true : (ps : List ℕ) (p : ℕ) → IsFree codes p → Contains ps p → alike (chosen codes true None) ps ≡ true → alike (chosen codes true (Some p)) ps ≡ true → alike u ps ≡ true
  equal_true ps p free inside t h = at (u p) refl
    where
      -- all are true without the turn, and none with it
      no_turned : list_any itself (map (chosen codes true (Some p)) ps) ≡ false
      no_turned = cases (or_is _ _ h)
        where
          cases : (list_all itself (map (chosen codes true (Some p)) ps) ≡ true) ⊎ (not (list_any itself (map (chosen codes true (Some p)) ps)) ≡ true)
              → list_any itself (map (chosen codes true (Some p)) ps) ≡ false
          cases (inl e) =
              absurd (clash (All-contains (IsTrueAt (chosen codes true (Some p))) ps p (all_true (chosen codes true (Some p)) ps e) inside)
              (chosen_free codes true (Some p) p free ∙ turned_same true p p refl))
          cases (inr e) = turn _ true e

      all_plain : list_all itself (map (chosen codes true None) ps) ≡ true
      all_plain = cases (or_is _ _ t)
        where
          cases : (list_all itself (map (chosen codes true None) ps) ≡ true) ⊎ (not (list_any itself (map (chosen codes true None) ps)) ≡ true) → list_all itself (map (chosen codes true None) ps) ≡ true
          cases (inl e) = e
          cases (inr e) = absurd (clash (chosen_free codes true None p free) (All-contains (IsFalseAt (chosen codes true None)) ps p (any_false (chosen codes true None) ps (turn _ true e)) inside))

      only : (x : ℕ) → Contains ps x → x ≡ p
      only x k = cases (nat_eq p x) refl (free_or_given codes x)
        where
          cases : (b : Bool) → nat_eq p x ≡ b → IsFree codes x ⊎ IsGiven codes x → x ≡ p
          cases true e g = sym (eqb-true p x e)
          cases false e (inl f) =
              absurd (clash (chosen_free codes true (Some p) x f ∙ ap (λ b. if b then false else true) e)
              (All-contains (IsFalseAt (chosen codes true (Some p))) ps x (any_false (chosen codes true (Some p)) ps no_turned) k))
          cases false e (inr g) =
              absurd (clash (All-contains (IsTrueAt (chosen codes true None)) ps x (all_true (chosen codes true None) ps all_plain) k)
              (agrees x g true None ∙ sym (agrees x g true (Some p)) ∙ All-contains (IsFalseAt (chosen codes true (Some p))) ps x (any_false (chosen codes true (Some p)) ps no_turned) k))

      at : (b : Bool) → u p ≡ b → alike u ps ≡ true
      at true e = ap (λ b. b || not (list_any itself (map u ps))) (all_from u ps (λ x k. ap u (only x k) ∙ e))
      at false e = or_true (list_all itself (map u ps)) _ (ap not (any_false_from u ps (λ x k. ap u (only x k) ∙ e)))
        where
          or_true : (a b : Bool) → b ≡ true → (a || b) ≡ true
          or_true true b e = refl
          or_true false b e = e

  equal_forced : (ps : List ℕ) (p : Option ℕ) (b : Bool) → IsFreePart codes ps p → ((rest : Bool) → value_by Equal codes ps rest None ≡ b)
      → IfSome p (λ q. (rest : Bool) → value_by Equal codes ps rest (Some q) ≡ b) → alike u ps ≡ b
  equal_forced ps None b none h t = ap (connective_value Equal) (sym (same_values (chosen codes true None) ps given)) ∙ h true
    where
      at : (x : ℕ) → (IsFree codes x → ⊥) → IsFree codes x ⊎ IsGiven codes x → chosen codes true None x ≡ u x
      at x bound (inl f) = absurd (bound f)
      at x bound (inr g) = agrees x g true None

      given : (x : ℕ) → Contains ps x → chosen codes true None x ≡ u x
      given x k = at x (All-contains (λ n. IsFree codes n → ⊥) ps x none k) (free_or_given codes x)
  equal_forced ps (Some p) true f h t = equal_true ps p f.0 f.1 (h true) (t true)
  equal_forced ps (Some p) false f h t = equal_false ps (h true) (h false)

  -- ---- parity

  xor_forced : (ps : List ℕ) (p : Option ℕ) (b : Bool) → IsOddPart codes ps p → ((rest : Bool) → value_by Xor codes ps rest None ≡ b)
      → IfSome p (λ q. (rest : Bool) → value_by Xor codes ps rest (Some q) ≡ b) → is_odd (map u ps) ≡ b
  xor_forced ps None b none h t =
      odd_xor (chosen codes true None) (λ n. xor (chosen codes true None n) (u n)) u (λ n. cancel (chosen codes true None n) (u n)) ps
      ∙ ap (xor (is_odd (map (chosen codes true None) ps))) (none (λ n. xor (chosen codes true None n) (u n)) vanishes)
      ∙ plain (is_odd (map (chosen codes true None) ps))
      ∙ h true
    where
      cancel : (a c : Bool) → c ≡ xor a (xor a c)
      cancel true true = refl
      cancel true false = refl
      cancel false true = refl
      cancel false false = refl

      nothing : (a c : Bool) → a ≡ c → xor a c ≡ false
      nothing true true e = refl
      nothing false false e = refl
      nothing true false e = absurd (false≢true (sym e))
      nothing false true e = absurd (false≢true e)

      vanishes : IsOnFree codes (λ n. xor (chosen codes true None n) (u n))
      vanishes n c k = nothing (chosen codes true None n) (u n) (agrees n (c, k) true None)

      plain : (a : Bool) → xor a false ≡ a
      plain true = refl
      plain false = refl
  xor_forced ps (Some p) b f h t = absurd (differ b b refl (sym (h true) ∙ flipped) (t true))
    where
      at_free : (n : ℕ) (c : Bool) → nat_eq p n ≡ c → chosen codes true (Some p) n ≡ (if c then false else true) → chosen codes true None n ≡ true
          → chosen codes true None n ≡ xor (chosen codes true (Some p) n) c
      at_free n true e g k = k ∙ sym (ap (λ a. xor a true) g)
      at_free n false e g k = k ∙ sym (ap (λ a. xor a false) g)

      at_given : (n : ℕ) (c : Bool) → nat_eq p n ≡ c → IsGiven codes n → chosen codes true None n ≡ xor (chosen codes true (Some p) n) c
      at_given n true e g = absurd (f.0 g.0 (subst (λ m. Contains codes (m * 2 + sign_code g.0)) (sym (eqb-true p n e)) g.1))
      at_given n false e g = agrees n g true None ∙ sym (agrees n g true (Some p)) ∙ sym (plain (chosen codes true (Some p) n))
        where
          plain : (a : Bool) → xor a false ≡ a
          plain true = refl
          plain false = refl

      each : (n : ℕ) → chosen codes true None n ≡ xor (chosen codes true (Some p) n) (nat_eq p n)
      each n = cases (free_or_given codes n)
        where
          cases : IsFree codes n ⊎ IsGiven codes n → chosen codes true None n ≡ xor (chosen codes true (Some p) n) (nat_eq p n)
          cases (inl g) = at_free n (nat_eq p n) refl (chosen_free codes true (Some p) n g) (chosen_free codes true None n g)
          cases (inr g) = at_given n (nat_eq p n) refl g

      flipped : is_odd (map (chosen codes true None) ps) ≡ xor (is_odd (map (chosen codes true (Some p)) ps)) true
      flipped = odd_xor (chosen codes true (Some p)) (nat_eq p) (chosen codes true None) each ps ∙ ap (xor (is_odd (map (chosen codes true (Some p)) ps))) f.1

      differ : (b c : Bool) → b ≡ c → b ≡ xor (is_odd (map (chosen codes true (Some p)) ps)) true → is_odd (map (chosen codes true (Some p)) ps) ≡ c → ⊥
      differ true true e g k = clash refl (g ∙ ap (λ a. xor a true) k)
      differ false false e g k = clash (ap (λ a. xor a true) k) (sym g)
      differ true false e g k = false≢true (sym e)
      differ false true e g k = false≢true e

  -- ---- a choice

  plainly : (x : ℕ) (rest : Bool) → u x ≡ rest → chosen codes rest None x ≡ u x
  plainly x rest e = cases (free_or_given codes x)
    where
      cases : IsFree codes x ⊎ IsGiven codes x → chosen codes rest None x ≡ u x
      cases (inl f) = chosen_free codes rest None x f ∙ sym e
      cases (inr g) = agrees x g rest None

  turned_here : (x : ℕ) (rest : Bool) → u x ≡ not rest → chosen codes rest (Some x) x ≡ u x
  turned_here x rest e = cases (free_or_given codes x)
    where
      cases : IsFree codes x ⊎ IsGiven codes x → chosen codes rest (Some x) x ≡ u x
      cases (inl f) = chosen_free codes rest (Some x) x f ∙ turned_same rest x x refl ∙ sym e
      cases (inr g) = agrees x g rest (Some x)

  turned_there : (x q : ℕ) (rest : Bool) → u q ≡ not rest → u x ≡ rest → chosen codes rest (Some q) x ≡ u x
  turned_there x q rest d e = cases (free_or_given codes x)
    where
      apart : (b : Bool) → b ≡ not b → ⊥
      apart true h = false≢true (sym h)
      apart false h = false≢true h

      cases : IsFree codes x ⊎ IsGiven codes x → chosen codes rest (Some q) x ≡ u x
      cases (inl f) = chosen_free codes rest (Some q) x f ∙ turned_other rest q x (λ h. apart rest (sym e ∙ sym (ap u h) ∙ d)) ∙ sym e
      cases (inr g) = agrees x g rest (Some q)

  three : (f : ℕ → Bool) (x y z : ℕ) → f x ≡ u x → f y ≡ u y → f z ≡ u z → map f (x ∷ y ∷ z ∷ []) ≡ map u (x ∷ y ∷ z ∷ [])
  three f x y z a b c = ap (λ t. t ∷ f y ∷ f z ∷ []) a ∙ ap (λ t. u x ∷ t ∷ f z ∷ []) b ∙ ap (λ t. u x ∷ u y ∷ t ∷ []) c

  choice_of_three : (x y z : ℕ) (b : Bool) → ((rest : Bool) → choice_of (map (chosen codes rest None) (x ∷ y ∷ z ∷ [])) ≡ b)
      → ((rest : Bool) → choice_of (map (chosen codes rest (Some x)) (x ∷ y ∷ z ∷ [])) ≡ b) → ((rest : Bool) → choice_of (map (chosen codes rest (Some y)) (x ∷ y ∷ z ∷ [])) ≡ b)
      → ((rest : Bool) → choice_of (map (chosen codes rest (Some z)) (x ∷ y ∷ z ∷ [])) ≡ b) → (i j k : Bool) → u x ≡ i → u y ≡ j → u z ≡ k → choice_of (map u (x ∷ y ∷ z ∷ [])) ≡ b
  choice_of_three x y z b h tx ty tz true true true e f g = sym (ap choice_of (three (chosen codes true None) x y z (plainly x true e) (plainly y true f) (plainly z true g))) ∙ h true
  choice_of_three x y z b h tx ty tz false false false e f g = sym (ap choice_of (three (chosen codes false None) x y z (plainly x false e) (plainly y false f) (plainly z false g))) ∙ h false
  choice_of_three x y z b h tx ty tz false true true e f g =
      sym (ap choice_of (three (chosen codes true (Some x)) x y z (turned_here x true e) (turned_there y x true e f) (turned_there z x true e g))) ∙ tx true
  choice_of_three x y z b h tx ty tz true false false e f g =
      sym (ap choice_of (three (chosen codes false (Some x)) x y z (turned_here x false e) (turned_there y x false e f) (turned_there z x false e g))) ∙ tx false
  choice_of_three x y z b h tx ty tz true false true e f g =
      sym (ap choice_of (three (chosen codes true (Some y)) x y z (turned_there x y true f e) (turned_here y true f) (turned_there z y true f g))) ∙ ty true
  choice_of_three x y z b h tx ty tz false true false e f g =
      sym (ap choice_of (three (chosen codes false (Some y)) x y z (turned_there x y false f e) (turned_here y false f) (turned_there z y false f g))) ∙ ty false
  choice_of_three x y z b h tx ty tz true true false e f g =
      sym (ap choice_of (three (chosen codes true (Some z)) x y z (turned_there x z true g e) (turned_there y z true g f) (turned_here z true g))) ∙ tz true
  choice_of_three x y z b h tx ty tz false false true e f g =
      sym (ap choice_of (three (chosen codes false (Some z)) x y z (turned_there x z false g e) (turned_there y z false g f) (turned_here z false g))) ∙ tz false

  ite_forced : (ps : List ℕ) (b : Bool) → ((rest : Bool) → value_by Ite codes ps rest None ≡ b) → All (GivesAt Ite codes ps b) ps → choice_of (map u ps) ≡ b
  ite_forced [] b h t = h true
  ite_forced (x ∷ []) b h t = h true
  ite_forced (x ∷ y ∷ []) b h t = h true
  ite_forced (x ∷ y ∷ z ∷ []) b h t = choice_of_three x y z b h (t 0 0 (omega arith)) (t 1 0 (omega arith)) (t 2 0 (omega arith)) (u x) (u y) (u z) refl refl refl
  ite_forced (x ∷ y ∷ z ∷ w ∷ ps) b h t = h true

-- ---- all of them

last_forced : (codes ps : List ℕ) (p : Option ℕ) (b : Bool) (clear : HasNoClash codes) (u : ℕ → Bool) → AreFalse u codes → IsLastPart ps p
    → ((rest : Bool) → value_by Implies codes ps rest None ≡ b) → IfSome p (λ q. (rest : Bool) → value_by Implies codes ps rest (Some q) ≡ b) → implied (map u ps) ≡ b
last_forced codes ps None b clear u makes_false e h t =
    subst (λ xs. implied (map u xs) ≡ b) (sym e) (subst (λ xs. value_by Implies codes xs true None ≡ b) e (h true))
last_forced codes ps (Some p) b clear u makes_false l h t =
    subst (λ xs. implied (map u xs) ≡ b) (sym l.1)
    (implies_forced codes clear u makes_false l.0 p b (λ rest. subst (λ xs. value_by Implies codes xs rest None ≡ b) l.1 (h rest))
    (λ rest. subst (λ xs. value_by Implies codes xs rest (Some p) ≡ b) l.1 (t rest)))

pub forced : (o : Connective) (codes ps : List ℕ) (p : Option ℕ) (b : Bool) → HasNoClash codes → IsPickOf o codes ps p → ((rest : Bool) → value_by o codes ps rest None ≡ b)
    → IfSome p (λ q. (rest : Bool) → value_by o codes ps rest (Some q) ≡ b) → o ≢ Ite → IsForced o codes ps b
forced And codes ps p b clear pick h t other u makes_false = and_forced codes clear u makes_false ps b h
forced Or codes ps p b clear pick h t other u makes_false = or_forced codes clear u makes_false ps b h
forced Nor codes ps p b clear pick h t other u makes_false = nor_forced codes clear u makes_false ps b h
forced Xor codes ps p b clear pick h t other u makes_false = xor_forced codes clear u makes_false ps p b pick h t
forced Implies codes ps p b clear pick h t other u makes_false = last_forced codes ps p b clear u makes_false pick h t
forced Equal codes ps p b clear pick h t other u makes_false = equal_forced codes clear u makes_false ps p b pick h t
forced Ite codes ps p b clear pick h t other u makes_false = absurd (other refl)
forced False codes ps p b clear pick h t other u makes_false = h true

forced_ite : (codes ps : List ℕ) (b : Bool) → HasNoClash codes → ((rest : Bool) → value_by Ite codes ps rest None ≡ b) → All (GivesAt Ite codes ps b) ps → IsForced Ite codes ps b
forced_ite codes ps b clear h t u makes_false = ite_forced codes clear u makes_false ps b h t

pub forced_choice : (o : Connective) (codes ps : List ℕ) (b : Bool) → HasNoClash codes → o ≡ Ite → ((rest : Bool) → value_by o codes ps rest None ≡ b) → All (GivesAt o codes ps b) ps → IsForced o codes ps b
forced_choice o codes ps b clear e =
    subst (λ p. ((rest : Bool) → value_by p codes ps rest None ≡ b) → All (GivesAt p codes ps b) ps → IsForced p codes ps b) (sym e) (forced_ite codes ps b clear)
