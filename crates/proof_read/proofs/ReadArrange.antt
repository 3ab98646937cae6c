-- Summands in the order of their leaves.
use Rattle.std.proofs.Common.{◌≡◌, ℕ, List, [], ◌∷◌, ap, sym, subst, ◌∙◌, refl, Bool, true, false, not, ◌&&◌, Option, Some, None}
use Rattle.std.specs.Prelude.{if◌then◌else◌, Result, Ok, Err, IfOk}
use Rattle.std.specs.declared.alloc.AllocError.{AllocError}
use Rattle.std.specs.List.Sorted.{IsPermutation, IsNonDecreasingBy}
use Rattle.std.proofs.lemmas.List.Sorted.{IsPermutation-refl}
use Rattle.smt_meaning.specs.declared.tokens.Token.{Token}
use Rattle.smt_meaning.specs.declared.clauses.Summand.{Summand}
use Rattle.smt_meaning.specs.Sexp.{Sexps, end, ◌▸◌}
use Rattle.smt_meaning.specs.Command.{each, cons_some}
use Rattle.smt_meaning.specs.Linear.{is_zero, sums_added, sum_fits}
use Rattle.proof_meaning.specs.Reading.{with, summand_read}
use Rattle.look_ahead.specs.Ahead.{ahead}
use Rattle.proof_read.specs.declared.read_parts.Progress.{Progress}
use Rattle.proof_read.specs.Reads.{leaves_near}
use Rattle.proof_read.specs.ReadParts.{Notes, Fills, ReadsRest, every}
use Rattle.proof_read.specs.ReadSums.{summand_in, summand_fits, summand_near, sum_in, Arranges, IsApart, are_apart, are_rising, no_zero, terms_of}
use Rattle.proof_read.proofs.ReadApartLemmas.{apart_by_key, apart_by_rising}
use Rattle.proof_read.proofs.ReadOrderLemmas.{AreGood, every_added, sum_is}

abbrev leaf : Summand → ℕ
leaf p = p.term

pub not_apart : (ps items sorted : List Summand) → items ≡ ps → IsPermutation items sorted → IsNonDecreasingBy leaf sorted → false ≡ are_rising (terms_of sorted) → are_apart (terms_of ps) ≡ false
not_apart ps items sorted e h k f = ap (λ xs. are_apart (terms_of xs)) (sym e) ∙ apart_by_key leaf items sorted h k ∙ sym f

pub arranges : (ps items sorted result : List Summand) → items ≡ ps → IsPermutation items sorted → no_zero ps ≡ true → true ≡ are_rising (terms_of sorted) → result ≡ sorted
    → (are_apart (terms_of ps) ≡ true) × (result ≡ sums_added ps [])
arranges ps items sorted result e h z f g =
    let same : IsPermutation ps sorted = subst (λ xs. IsPermutation xs sorted) e h in
    let apart : are_apart (terms_of ps) ≡ true = apart_by_rising leaf ps sorted same (sym f) in
    (apart, g ∙ sum_is ps sorted same (record { apart = apart; nonzero = z }) (sym f))

pub arranges_at_once : (ps items result : List Summand) → items ≡ ps → no_zero ps ≡ true → true ≡ are_rising (terms_of items) → result ≡ items → (are_apart (terms_of ps) ≡ true) × (result ≡ sums_added ps [])
arranges_at_once ps items result e z f g = arranges ps items items result e (IsPermutation-refl items) z f g

-- ---- summands that are read

no_zero_here : (o : Option Summand) (p : Summand) → with o (λ (q : Summand). if is_zero q.coefficient then None else Some q) ≡ Some p → is_zero p.coefficient ≡ false
no_zero_here None p h = absurd (cc)
no_zero_here (Some q) p h = go (is_zero q.coefficient) refl h
  where
    go : (b : Bool) → is_zero q.coefficient ≡ b → (if b then None else Some q) ≡ Some p → is_zero p.coefficient ≡ false
    go true e f = absurd (cc)
    go false e f = let same : q ≡ p = cc in ap (λ (x : Summand). is_zero x.coefficient) (sym same) ∙ e

pub read_nonzero : (ss : Sexps) (ps : List Summand) → each summand_in ss ≡ Some ps → no_zero ps ≡ true
read_nonzero end [] h = refl
read_nonzero end (p ∷ ps) h = absurd (cc)
read_nonzero (x ▸ ss) ps h = go (read_nonzero ss) (summand_in x) (each summand_in ss) refl refl ps h
  where
    go : ((qs : List Summand) → each summand_in ss ≡ Some qs → no_zero qs ≡ true) → (o : Option Summand) (r : Option (List Summand)) → summand_in x ≡ o → each summand_in ss ≡ r → (qs : List Summand) → cons_some o r ≡ Some qs → no_zero qs ≡ true
    go more None r e f qs g = absurd (cc)
    go more (Some p) None e f qs g = absurd (cc)
    go more (Some p) (Some rest) e f qs g =
        let same : p ∷ rest ≡ qs = cc in
        ap no_zero (sym same) ∙ ap (λ b. not b && no_zero rest) (no_zero_here (summand_read x) p e) ∙ more rest f

fits_is : (ps : List Summand) → every summand_fits ps ≡ sum_fits ps
fits_is [] = refl
fits_is (p ∷ ps) = ap (λ b. summand_fits p && b) (fits_is ps)

near_is : (ps : List Summand) → every summand_near ps ≡ leaves_near ps
near_is [] = refl
near_is (p ∷ ps) = ap (λ b. summand_near p && b) (near_is ps)

sum_fits_added : (ps : List Summand) → AreGood ps → sum_fits (sums_added ps []) ≡ every summand_fits ps
sum_fits_added ps g = sym (fits_is (sums_added ps [])) ∙ every_added summand_fits ps g

leaves_near_added : (ps : List Summand) → AreGood ps → leaves_near (sums_added ps []) ≡ every summand_near ps
leaves_near_added ps g = sym (near_is (sums_added ps [])) ∙ every_added summand_near ps g

no_sum : (ss : Sexps) (ps : List Summand) → each summand_in ss ≡ Some ps → are_apart (terms_of ps) ≡ false → sum_in ss ≡ None
no_sum ss ps e f = ap (λ o. with o (λ qs. if are_apart (terms_of qs) then Some (sums_added qs []) else None)) e ∙ ap (λ b. if b then Some (sums_added ps []) else None) f

a_sum : (ss : Sexps) (ps : List Summand) → each summand_in ss ≡ Some ps → are_apart (terms_of ps) ≡ true → sum_in ss ≡ Some (sums_added ps [])
a_sum ss ps e f = ap (λ o. with o (λ qs. if are_apart (terms_of qs) then Some (sums_added qs []) else None)) e ∙ ap (λ b. if b then Some (sums_added ps []) else None) f

both_left : (a b : Bool) → (a && b) ≡ true → a ≡ true
both_left true b h = refl
both_left false b h = h

both_right : (a b : Bool) → (a && b) ≡ true → b ≡ true
both_right true b h = h
both_right false b h = absurd (cc)

-- what was noted of the summands is noted of their sum
abbrev noted : Progress → Progress → Progress
noted old own = record { place = old.place; fits = old.fits && own.fits; near = old.near && own.near }

abbrev begun : Progress → Progress
begun old = record { place = old.place; fits = true; near = true }

notes_sum : (old own : Progress) (items ps v : List Summand) → Notes (every summand_fits) (every summand_near) (begun old) items own ps → AreGood ps
    → (own.fits ≡ true → own.near ≡ true → v ≡ sums_added ps []) → Notes sum_fits leaves_near old v (noted old own) (sums_added ps [])
notes_sum old own items ps v n g h = record {
  fits_is = ap (λ b. old.fits && b) (n.fits_is ∙ sym (sum_fits_added ps g));
  near_is = ap (λ b. old.near && b) (n.near_is ∙ sym (leaves_near_added ps g));
  same = λ p q. h (both_right old.fits own.fits p) (both_right old.near own.near q);
}

-- all numbers are in the range, and all leaves are near
reads_arranged : (ts : List Token) (old own : Progress) (items : List Summand) (r : Option (List Summand)) → Fills ts (each summand_in) (every summand_fits) (every summand_near) (begun old) items own
    → own.fits ≡ true → own.near ≡ true → Arranges items r → ReadsRest ts sum_in sum_fits leaves_near old (noted old own) r
reads_arranged ts old own items None h e f a =
    let same : items ≡ h.written = h.notes.same e f in
    no_sum (ahead ts old.place) h.written h.read (ap (λ ps. are_apart (terms_of ps)) (sym same) ∙ a)
reads_arranged ts old own items (Some qs) h e f a =
    let same : items ≡ h.written = h.notes.same e f in
    let apart : are_apart (terms_of h.written) ≡ true = ap (λ ps. are_apart (terms_of ps)) (sym same) ∙ a.0 in record {
      written = sums_added h.written [];
      read = a_sum (ahead ts old.place) h.written h.read apart;
      notes =
          notes_sum old own items h.written qs h.notes (record { apart = apart; nonzero = read_nonzero (ahead ts old.place) h.written h.read })
          (λ p q. a.1 ∙ ap (λ ps. sums_added ps []) same);
    }

pub items_nonzero : (ts : List Token) (start own : Progress) (items : List Summand) → Fills ts (each summand_in) (every summand_fits) (every summand_near) start items own → (own.fits && own.near) ≡ true
    → no_zero items ≡ true
items_nonzero ts start own items h e = ap no_zero (h.notes.same (both_left own.fits own.near e) (both_right own.fits own.near e)) ∙ read_nonzero (ahead ts start.place) h.written h.read

-- some number isn't
reads_unordered : (ts : List Token) (old own : Progress) (items : List Summand) (r : Option (List Summand)) → (h : Fills ts (each summand_in) (every summand_fits) (every summand_near) (begun old) items own)
    → (own.fits && own.near) ≡ false → IsApart h.written r → ReadsRest ts sum_in sum_fits leaves_near old (noted old own) r
reads_unordered ts old own items None h e a = no_sum (ahead ts old.place) h.written h.read a
reads_unordered ts old own items (Some qs) h e a = record {
  written = sums_added h.written [];
  read = a_sum (ahead ts old.place) h.written h.read a;
  notes =
      notes_sum old own items h.written qs h.notes (record { apart = a; nonzero = read_nonzero (ahead ts old.place) h.written h.read })
      (λ p q. let all : (own.fits && own.near) ≡ true = ap (λ b. b && own.near) p ∙ q in absurd (cc));
}

-- ---- as the code goes

pub reads_arranged_sum : (ts : List Token) (old start own new : Progress) (items : List Summand) (r : Option (List Summand)) → start ≡ begun old
    → Fills ts (each summand_in) (every summand_fits) (every summand_near) start items own → new ≡ noted old own → (own.fits && own.near) ≡ true → Arranges items r → ReadsRest ts sum_in sum_fits leaves_near old new r
reads_arranged_sum ts old start own new items r s h e g a =
    subst (λ p. ReadsRest ts sum_in sum_fits leaves_near old p r) (sym e)
    (reads_arranged ts old own items r (subst (λ p. Fills ts (each summand_in) (every summand_fits) (every summand_near) p items own) s h) (both_left own.fits own.near g) (both_right own.fits own.near g) a)

pub reads_unordered_sum : (ts : List Token) (old start own new : Progress) (items : List Summand) (r : Result (Option (List Summand)) AllocError) → start ≡ begun old
    → Fills ts (each summand_in) (every summand_fits) (every summand_near) start items own → new ≡ noted old own → (own.fits && own.near) ≡ false
    → ((ps : List Summand) → each summand_in (ahead ts old.place) ≡ Some ps → IfOk r (IsApart ps)) → IfOk r (ReadsRest ts sum_in sum_fits leaves_near old new)
reads_unordered_sum ts old start own new items (Err x) s h e g a = tt
reads_unordered_sum ts old start own new items (Ok r) s h e g a =
    let filled = subst (λ p. Fills ts (each summand_in) (every summand_fits) (every summand_near) p items own) s h in
    subst (λ p. ReadsRest ts sum_in sum_fits leaves_near old p r) (sym e) (reads_unordered ts old own items r filled g (a filled.written filled.read))
