-- Numbers that are read, and no more, and what is made of them.
use Rattle.std.proofs.Common.{◌≡◌, ℕ, List, ap, ◌∙◌, refl, Bool, true, false, Option, Some, None}
use Rattle.smt_meaning.specs.declared.tokens.Token.{Token}
use Rattle.smt_meaning.specs.Sexp.{Sexp, Sexps, end, ◌▸◌}
use Rattle.proof_meaning.specs.Reading.{with, number}
use Rattle.look_ahead.specs.Ahead.{ahead}
use Rattle.proof_read.specs.declared.read_parts.Progress.{Progress}
use Rattle.proof_read.specs.ReadParts.{Takes, Fills, ReadsRest, any, is_end, alone}
use Rattle.proof_read.specs.ReadSteps.{one_in, two_in, three_in, both, all_three}
use Rattle.proof_read.proofs.ReadLemmas.{notes_one, notes_two}
use Rattle.proof_read.proofs.ReadForms.{at_end, reads_alone}

abbrev pub pair : ℕ → ℕ → ℕ × ℕ
pair a b = (a, b)

abbrev pub triple : ℕ → ℕ → ℕ → ℕ × ℕ × ℕ
triple a b c = (a, b, c)

fills_one : (ts : List Token) (near : ℕ → Bool) (old new : Progress) (v : ℕ) → (h : Takes ts number any near old v new) → is_end (ahead ts new.place) ≡ true → Fills ts one_in any near old v new
fills_one ts near old new v h e = record {
  written = h.written;
  read = ap one_in (h.is ∙ ap (λ ss. h.part ▸ ss) (at_end (ahead ts new.place) e)) ∙ h.read;
  notes = h.notes;
}

fills_two : (ts : List Token) (n1 n2 : ℕ → Bool) (old mid new : Progress) (v w : ℕ) → (h : Takes ts number any n1 old v mid) → (k : Takes ts number any n2 mid w new) → is_end (ahead ts new.place) ≡ true
    → Fills ts two_in any (both n1 n2) old (v, w) new
fills_two ts n1 n2 old mid new v w h k e = record {
  written = (h.written, k.written);
  read =
      ap two_in (h.is ∙ ap (λ ss. h.part ▸ ss) (k.is ∙ ap (λ ss. k.part ▸ ss) (at_end (ahead ts new.place) e))) ∙ ap (λ o. with o (λ a. with (number k.part) (λ b. Some (pair a b)))) h.read
      ∙ ap (λ o. with o (λ b. Some (pair h.written b))) k.read;
  notes = notes_two any n1 any n2 any (both n1 n2) pair old mid new v h.written w k.written h.notes k.notes refl refl;
}

fills_three : (ts : List Token) (n1 n2 n3 : ℕ → Bool) (old mid next new : Progress) (a b c : ℕ) → (h : Takes ts number any n1 old a mid) → (k : Takes ts number any n2 mid b next) → (m : Takes ts number any n3 next c new)
    → is_end (ahead ts new.place) ≡ true → Fills ts three_in any (all_three n1 n2 n3) old (a, b, c) new
fills_three ts n1 n2 n3 old mid next new a b c h k m e = record {
  written = (h.written, k.written, m.written);
  read =
      ap three_in (h.is ∙ ap (λ ss. h.part ▸ ss) (k.is ∙ ap (λ ss. k.part ▸ ss) (m.is ∙ ap (λ ss. m.part ▸ ss) (at_end (ahead ts new.place) e))))
      ∙ ap (λ o. with o (λ x. with (number k.part) (λ y. with (number m.part) (λ z. Some (triple x y z))))) h.read
      ∙ ap (λ o. with o (λ y. with (number m.part) (λ z. Some (triple h.written y z)))) k.read ∙ ap (λ o. with o (λ z. Some (triple h.written k.written z))) m.read;
  notes =
      notes_two any n1 any (both n2 n3) any (all_three n1 n2 n3) (λ x (p : ℕ × ℕ). triple x p.0 p.1) old mid new a h.written (b, c) (k.written, m.written) h.notes
      (notes_two any n2 any n3 any (both n2 n3) pair mid next new b k.written c m.written k.notes m.notes refl refl) refl refl;
}

more_one : (x : Sexp) (ss : Sexps) → is_end ss ≡ false → one_in (x ▸ ss) ≡ None
more_one x end e = absurd (cc)
more_one x (t ▸ ss) e = refl

more_two : (x y : Sexp) (ss : Sexps) → is_end ss ≡ false → two_in (x ▸ y ▸ ss) ≡ None
more_two x y end e = absurd (cc)
more_two x y (t ▸ ss) e = refl

more_three : (x y z : Sexp) (ss : Sexps) → is_end ss ≡ false → three_in (x ▸ y ▸ z ▸ ss) ≡ None
more_three x y z end e = absurd (cc)
more_three x y z (t ▸ ss) e = refl

-- what is made of numbers, where nothing is left; where something is, it is none
module _ {B : Type 0} (ts : List Token) (fits' near' : B → Bool) (e : Sexps → Option B) where
  reads_made : {A : Type 0} (d : Sexps → Option A) (near : A → Bool) (g : A → B) (old new : Progress) (v : A) (o : Option B) → ((ss : Sexps) → e ss ≡ with (d ss) (λ x. Some (g x))) → ((x : A) → fits' (g x) ≡ true)
      → ((x : A) → near' (g x) ≡ near x) → o ≡ alone (ahead ts new.place) (g v) → (is_end (ahead ts new.place) ≡ true → Fills ts d any near old v new) → (is_end (ahead ts new.place) ≡ false → d (ahead ts old.place) ≡ None)
      → ReadsRest ts e fits' near' old new o
  reads_made {A = A} d near g old new v o same fit nigh is filled more =
      reads_alone ts e fits' near' old new (g v) o is (λ q. made (filled q)) (λ q. same (ahead ts old.place) ∙ ap (λ p. with p (λ x. Some (g x))) (more q))
    where
      made : Fills ts d any near old v new → Fills ts e fits' near' old (g v) new
      made h = record {
        written = g h.written;
        read = same (ahead ts old.place) ∙ ap (λ o. with o (λ x. Some (g x))) h.read;
        notes = notes_one any near fits' near' g old new v h.written h.notes (fit h.written) (nigh h.written);
      }

  pub reads_one : (near : ℕ → Bool) (g : ℕ → B) (old new : Progress) (v : ℕ) (o : Option B) → ((ss : Sexps) → e ss ≡ with (one_in ss) (λ x. Some (g x))) → ((x : ℕ) → fits' (g x) ≡ true)
      → ((x : ℕ) → near' (g x) ≡ near x) → Takes ts number any near old v new → o ≡ alone (ahead ts new.place) (g v) → ReadsRest ts e fits' near' old new o
  reads_one near g old new v o same fit nigh h is =
      reads_made one_in near g old new v o same fit nigh is (λ q. fills_one ts near old new v h q) (λ q. ap one_in h.is ∙ more_one h.part (ahead ts new.place) q)

  pub reads_two : (n1 n2 : ℕ → Bool) (g : ℕ → ℕ → B) (old mid new : Progress) (v w : ℕ) (o : Option B) → ((ss : Sexps) → e ss ≡ with (two_in ss) (λ x. Some (g x.0 x.1)))
      → ((x : ℕ × ℕ) → fits' (g x.0 x.1) ≡ true) → ((x : ℕ × ℕ) → near' (g x.0 x.1) ≡ both n1 n2 x) → Takes ts number any n1 old v mid → Takes ts number any n2 mid w new
      → o ≡ alone (ahead ts new.place) (g v w) → ReadsRest ts e fits' near' old new o
  reads_two n1 n2 g old mid new v w o same fit nigh h k is =
      reads_made two_in (both n1 n2) (λ (p : ℕ × ℕ). g p.0 p.1) old new (v, w) o same fit nigh is (λ q. fills_two ts n1 n2 old mid new v w h k q)
      (λ q. ap two_in (h.is ∙ ap (λ ss. h.part ▸ ss) k.is) ∙ more_two h.part k.part (ahead ts new.place) q)

  pub reads_three : (n1 n2 n3 : ℕ → Bool) (g : ℕ → ℕ → ℕ → B) (old mid next new : Progress) (a b c : ℕ) (o : Option B) → ((ss : Sexps) → e ss ≡ with (three_in ss) (λ x. Some (g x.0 x.1 x.2)))
      → ((x : ℕ × ℕ × ℕ) → fits' (g x.0 x.1 x.2) ≡ true) → ((x : ℕ × ℕ × ℕ) → near' (g x.0 x.1 x.2) ≡ all_three n1 n2 n3 x) → Takes ts number any n1 old a mid → Takes ts number any n2 mid b next
      → Takes ts number any n3 next c new → o ≡ alone (ahead ts new.place) (g a b c) → ReadsRest ts e fits' near' old new o
  reads_three n1 n2 n3 g old mid next new a b c o same fit nigh h k m is =
      reads_made three_in (all_three n1 n2 n3) (λ (p : ℕ × ℕ × ℕ). g p.0 p.1 p.2) old new (a, b, c) o same fit nigh is (λ q. fills_three ts n1 n2 n3 old mid next new a b c h k m q)
      (λ q. ap three_in (h.is ∙ ap (λ ss. h.part ▸ ss) (k.is ∙ ap (λ ss. k.part ▸ ss) m.is)) ∙ more_three h.part k.part m.part (ahead ts new.place) q)
