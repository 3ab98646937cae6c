-- What is noted of what is read.
use Rattle.std.proofs.Common.{◌≡◌, ap, sym, ◌∙◌, refl, Bool, true, false, ◌&&◌}
use Rattle.smt_laws.proofs.Both.{and_left}
use Rattle.proof_read.specs.declared.read_parts.Progress.{Progress}
use Rattle.proof_read.specs.ReadParts.{Notes}

-- ---- flags

pub and_true : (b : Bool) → b ≡ (b && true)
and_true true = refl
and_true false = refl

pub and_false : (b : Bool) → false ≡ (b && false)
and_false true = refl
and_false false = refl

pub and_and : (a b c : Bool) → ((a && b) && c) ≡ (a && (b && c))
and_and true b c = refl
and_and false b c = refl

-- the value is noted as it is
pub notes_exact : {A : Type 0} (fits near : A → Bool) (old new : Progress) (v w : A) → new.fits ≡ old.fits → new.near ≡ old.near → fits w ≡ true → near w ≡ true → v ≡ w
    → Notes fits near old v new w
notes_exact {A = A} fits near old new v w e f g h s = record {
  fits_is = e ∙ and_true old.fits ∙ ap (λ b. old.fits && b) (sym g);
  near_is = f ∙ and_true old.near ∙ ap (λ b. old.near && b) (sym h);
  same = λ p q. s;
}

-- it names what can't be there
pub notes_far : {A : Type 0} (fits near : A → Bool) (old new : Progress) (v w : A) → new.fits ≡ old.fits → new.near ≡ false → fits w ≡ true → near w ≡ false → Notes fits near old v new w
notes_far {A = A} fits near old new v w e f g h = record {
  fits_is = e ∙ and_true old.fits ∙ ap (λ b. old.fits && b) (sym g);
  near_is = f ∙ and_false old.near ∙ ap (λ b. old.near && b) (sym h);
  same = λ p q. absurd (cc);
}

-- it isn't in the range
pub notes_large : {A : Type 0} (fits near : A → Bool) (old new : Progress) (v w : A) → new.fits ≡ false → new.near ≡ old.near → fits w ≡ false → near w ≡ true → Notes fits near old v new w
notes_large {A = A} fits near old new v w e f g h = record {
  fits_is = e ∙ and_false old.fits ∙ ap (λ b. old.fits && b) (sym g);
  near_is = f ∙ and_true old.near ∙ ap (λ b. old.near && b) (sym h);
  same = λ p q. absurd (cc);
}

-- two values, one after the other, and what is made of them
pub notes_two : {A B C : Type 0} (f1 n1 : A → Bool) (f2 n2 : B → Bool) (f3 n3 : C → Bool) (g : A → B → C) (old mid new : Progress) (a a' : A) (b b' : B)
    → Notes f1 n1 old a mid a' → Notes f2 n2 mid b new b' → f3 (g a' b') ≡ (f1 a' && f2 b') → n3 (g a' b') ≡ (n1 a' && n2 b') → Notes f3 n3 old (g a b) new (g a' b')
notes_two {A = A} {B = B} {C = C} f1 n1 f2 n2 f3 n3 g old mid new a a' b b' h k e f = record {
  fits_is = k.fits_is ∙ ap (λ x. x && f2 b') h.fits_is ∙ and_and old.fits (f1 a') (f2 b') ∙ ap (λ x. old.fits && x) (sym e);
  near_is = k.near_is ∙ ap (λ x. x && n2 b') h.near_is ∙ and_and old.near (n1 a') (n2 b') ∙ ap (λ x. old.near && x) (sym f);
  same =
      λ p q. ap (λ x. g x b) (h.same (and_left mid.fits (f2 b') (sym k.fits_is ∙ p)) (and_left mid.near (n2 b') (sym k.near_is ∙ q))) ∙ ap (λ y. g a' y) (k.same p q);
}

-- a value, and what is made of it
pub notes_one : {A C : Type 0} (f1 n1 : A → Bool) (f3 n3 : C → Bool) (g : A → C) (old new : Progress) (a a' : A) → Notes f1 n1 old a new a' → f3 (g a') ≡ f1 a' → n3 (g a') ≡ n1 a'
    → Notes f3 n3 old (g a) new (g a')
notes_one {A = A} {C = C} f1 n1 f3 n3 g old new a a' h e f = record {
  fits_is = h.fits_is ∙ ap (λ x. old.fits && x) (sym e);
  near_is = h.near_is ∙ ap (λ x. old.near && x) (sym f);
  same = λ p q. ap g (h.same p q);
}

-- only the flags count
pub notes_moved : {A : Type 0} (fits near : A → Bool) (old old' new new' : Progress) (v w : A) → old'.fits ≡ old.fits → old'.near ≡ old.near → new'.fits ≡ new.fits → new'.near ≡ new.near
    → Notes fits near old v new w → Notes fits near old' v new' w
notes_moved {A = A} fits near old old' new new' v w e f g h k = record {
  fits_is = g ∙ k.fits_is ∙ ap (λ b. b && fits w) (sym e);
  near_is = h ∙ k.near_is ∙ ap (λ b. b && near w) (sym f);
  same = λ p q. k.same (sym g ∙ p) (sym h ∙ q);
}
