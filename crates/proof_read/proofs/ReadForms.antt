-- How what is read of parts makes what is read of the whole.
use Rattle.std.proofs.Common.{◌≡◌, ℕ, ◌+◌, ◌<◌, ◌≤◌, List, [], ◌∷◌, ◌++◌, ap, sym, ◌∙◌, refl, length, arith, Bool, true, false, ◌&&◌, Option, Some, None, append_assoc, append-nil, subst}
use Rattle.smt_meaning.specs.declared.tokens.Token.{Token}
use Rattle.smt_meaning.specs.Sexp.{Sexp, Sexps, group, end, ◌▸◌}
use Rattle.smt_meaning.specs.Command.{each, cons_some}
use Rattle.proof_meaning.specs.Reading.{with}
use Rattle.look_ahead.specs.Ahead.{ahead, IsList}
use Rattle.proof_read.specs.declared.read_parts.Progress.{Progress}
use Rattle.proof_read.specs.ReadParts.{Notes, Takes, Fills, ReadsRest, every, stepped, first_by, is_end, alone}
use Rattle.proof_read.proofs.ReadLemmas.{notes_moved, notes_two, and_true, and_and}

pub with_none : {A B : Type 0} (o : Option A) (n : Option B) → n ≡ None → with o (λ (a : A). n) ≡ None
with_none {A = A} {B = B} None n e = refl
with_none {A = A} {B = B} (Some a) n e = e

pub at_end : (ss : Sexps) → is_end ss ≡ true → ss ≡ end
at_end end h = refl
at_end (x ▸ ss) h = absurd (cc)

-- what is read where nothing is left is all; where something is, it is none
pub reads_alone : {A : Type 0} (ts : List Token) (d : Sexps → Option A) (fits near : A → Bool) (old new : Progress) (v : A) (o : Option A) → o ≡ alone (ahead ts new.place) v
    → (is_end (ahead ts new.place) ≡ true → Fills ts d fits near old v new) → (is_end (ahead ts new.place) ≡ false → d (ahead ts old.place) ≡ None) → ReadsRest ts d fits near old new o
reads_alone {A = A} ts d fits near old new v o = go (ahead ts new.place)
  where
    go : (ss : Sexps) → o ≡ alone ss v → (is_end ss ≡ true → Fills ts d fits near old v new) → (is_end ss ≡ false → d (ahead ts old.place) ≡ None) → ReadsRest ts d fits near old new o
    go end e k m = subst (λ x. ReadsRest ts d fits near old new x) (sym e) (k refl)
    go (y ▸ ss) e k m = subst (λ x. ReadsRest ts d fits near old new x) (sym e) (m refl)

-- ---- lists

-- what is read inside of a list
pub into_list : {A : Type 0} (ts : List Token) (f : Sexp → Option A) (fits near : A → Bool) (old mid last : Progress) (close : ℕ) (v w : A) → IsList ts old.place close → mid ≡ stepped old
    → f (group (ahead ts mid.place)) ≡ Some w → Notes fits near mid v last w → Takes ts f fits near old v (record last { place = close + 1 })
into_list {A = A} ts f fits near old mid last close v w h e r n =
    let before : old.place < close = h.order in
    let inside : close < length ts = h.within in record {
      order = omega arith;
      within = omega arith;
      part = group (ahead ts (old.place + 1));
      is = h.is;
      written = w;
      read = ap (λ (p : Progress). f (group (ahead ts p.place))) (sym e) ∙ r;
      notes =
          notes_moved fits near mid old last (record last { place = close + 1 }) v w (sym (ap (λ (p : Progress). p.fits) e)) (sym (ap (λ (p : Progress). p.near) e)) refl refl n;
    }

-- what is read first in a list that is read
pub first_read : {A : Type 0} (ts : List Token) (f : Sexp → Option A) (fits near : A → Bool) (old new : Progress) (v : A) (h : Takes ts f fits near old v new) → first_by f (ahead ts old.place) ≡ Some h.written
first_read {A = A} ts f fits near old new v h = ap (first_by f) h.is ∙ h.read

-- ---- one s-expression after another

-- these, and then the rest
abbrev pub joined : {A : Type 0} → List A → Option (List A) → Option (List A)
joined xs None = None
joined xs (Some ys) = Some (xs ++ ys)

joined_more : {A : Type 0} (xs : List A) (x : A) (o : Option (List A)) → joined xs (cons_some (Some x) o) ≡ joined (xs ++ x ∷ []) o
joined_more {A = A} xs x None = refl
joined_more {A = A} xs x (Some ys) = ap Some (sym (append_assoc xs (x ∷ []) ys))

every_more : {A : Type 0} (p : A → Bool) (xs : List A) (x : A) → every p (xs ++ x ∷ []) ≡ (every p xs && p x)
every_more {A = A} p [] x = sym (and_true (p x))
every_more {A = A} p (y ∷ xs) x = ap (λ b. p y && b) (every_more p xs x) ∙ sym (and_and (p y) (every p xs) (p x))

-- a list is read up to a place
pub record SoFar {A : Type 0} (ts : List Token) (f : Sexp → Option A) (fits near : A → Bool) (start at : Progress) (items : List A) : Type 0 where
  pub written : List A
  pub read : each f (ahead ts start.place) ≡ joined written (each f (ahead ts at.place))
  pub notes : Notes (every fits) (every near) start items at written
  pub within : start.place ≤ at.place

pub so_far_more : {A : Type 0} (ts : List Token) (f : Sexp → Option A) (fits near : A → Bool) (start at new : Progress) (items more : List A) (v : A) → SoFar ts f fits near start at items → Takes ts f fits near at v new
    → more ≡ items ++ v ∷ [] → SoFar ts f fits near start new more
so_far_more {A = A} ts f fits near start at new items more v h k e =
    let order : at.place < new.place = k.order in
    let before : start.place ≤ at.place = h.within in record {
      written = h.written ++ k.written ∷ [];
      read =
          h.read ∙ ap (λ ss. joined h.written (each f ss)) k.is ∙ ap (λ o. joined h.written (cons_some o (each f (ahead ts new.place)))) k.read
          ∙ joined_more h.written k.written (each f (ahead ts new.place));
      notes =
          subst (λ xs. Notes (every fits) (every near) start xs new (h.written ++ k.written ∷ [])) (sym e)
          (notes_two (every fits) (every near) fits near (every fits) (every near) (λ xs x. xs ++ x ∷ []) start at new items h.written v k.written h.notes k.notes (every_more fits h.written k.written) (every_more near h.written k.written));
      within = omega arith;
    }

pub so_far_end : {A : Type 0} (ts : List Token) (f : Sexp → Option A) (fits near : A → Bool) (start at : Progress) (items : List A) → SoFar ts f fits near start at items → is_end (ahead ts at.place) ≡ true
    → Fills ts (each f) (every fits) (every near) start items at
so_far_end {A = A} ts f fits near start at items h e = record {
  written = h.written;
  read = h.read ∙ ap (λ ss. joined h.written (each f ss)) (at_end (ahead ts at.place) e) ∙ ap Some (append-nil h.written);
  notes = h.notes;
}

-- the flags by tests that agree
pub fills_as : {A : Type 0} (ts : List Token) (d : Sexps → Option A) (f n f' n' : A → Bool) (old new : Progress) (v : A) → ((a : A) → f a ≡ f' a) → ((a : A) → n a ≡ n' a)
    → Fills ts d f n old v new → Fills ts d f' n' old v new
fills_as {A = A} ts d f n f' n' old new v e g h = record {
  written = h.written;
  read = h.read;
  notes = record {
    fits_is = h.notes.fits_is ∙ ap (λ b. old.fits && b) (e h.written);
    near_is = h.notes.near_is ∙ ap (λ b. old.near && b) (g h.written);
    same = h.notes.same;
  };
}
