-- Atoms and literals that are read.
use Rattle.std.proofs.Common.{◌≡◌, ℕ, ℤ, ◌+◌, List, [], ◌∷◌, ap, sym, ◌∙◌, refl, Bool, true, false, not, ◌&&◌, ◌||◌, nat_eq, Option, Some, None}
use Rattle.std.specs.Prelude.{if◌then◌else◌, bytes_eq, codes}
use Rattle.fraction128.specs.Whole.{is_in_range}
use Rattle.smt_meaning.specs.declared.tokens.Token.{Token}
use Rattle.smt_meaning.specs.declared.clauses.Summand.{Summand}
use Rattle.smt_meaning.specs.declared.clauses.Atom.{Atom}
use Rattle.smt_meaning.specs.declared.clauses.Atom.TheVariants.{Truth, AtMost, Same}
use Rattle.smt_meaning.specs.declared.clauses.Literal.{Literal}
use Rattle.smt_meaning.specs.Sexp.{Sexp, Sexps, group, end, ◌▸◌}
use Rattle.smt_meaning.specs.Command.{each, cons_some}
use Rattle.smt_meaning.specs.Linear.{is_zero, sums_added, sum_fits}
use Rattle.proof_meaning.specs.Proof.{literal}
use Rattle.proof_meaning.specs.Reading.{with, number, integer, summand_read, names_place, are_summands, bound_read, truth_read, same_read, at_most_read, atom_read}
use Rattle.look_ahead.specs.Ahead.{ahead, IsList}
use Rattle.proof_read.specs.declared.read_parts.Progress.{Progress}
use Rattle.proof_read.specs.Written.{atom_fits, literals_fit}
use Rattle.proof_read.specs.Reads.{is_term_number, atom_near, leaves_near, literals_near}
use Rattle.proof_read.specs.ReadParts.{Takes, Fills, ReadsRest, any, every, stepped, is_end, alone}
use Rattle.proof_read.specs.ReadSums.{summand_in, sum_in, stands_in, are_apart, no_zero, terms_of}
use Rattle.proof_read.specs.ReadSteps.{one_in, two_in}
use Rattle.proof_read.specs.ReadAtoms.{atom_after, literal_after, negation_in, literal_fits, literal_near}
use Rattle.proof_read.proofs.ReadLemmas.{notes_one, notes_two, notes_moved, and_true}
use Rattle.proof_read.proofs.ReadForms.{at_end}
use Rattle.proof_read.proofs.ReadPlaceForms.{pair, reads_one, reads_two}

-- ---- truths and equalities

truth_is : (ss : Sexps) → truth_read ss ≡ with (one_in ss) (λ x. Some (Truth x))
truth_is end = refl
truth_is (x ▸ end) = refl
truth_is (x ▸ y ▸ ss) = refl

same_is : (ss : Sexps) → same_read ss ≡ with (two_in ss) (λ x. Some (Same x.0 x.1))
same_is end = refl
same_is (x ▸ end) = refl
same_is (x ▸ y ▸ end) = go (number x) (number y)
  where
    go : (o p : Option ℕ) → with o (λ a. with p (λ b. Some (Same a b))) ≡ with (with o (λ a. with p (λ b. Some (pair a b)))) (λ q. Some (Same q.0 q.1))
    go None p = refl
    go (Some a) None = refl
    go (Some a) (Some b) = refl
same_is (x ▸ y ▸ z ▸ ss) = refl

pub reads_truth : (ts : List Token) (old new : Progress) (v : ℕ) (o : Option Atom) → Takes ts number any is_term_number old v new → o ≡ alone (ahead ts new.place) (Truth v) → ReadsRest ts truth_read atom_fits atom_near old new o
reads_truth ts old new v o = reads_one ts atom_fits atom_near truth_read is_term_number Truth old new v o truth_is (λ x. refl) (λ x. refl)

pub reads_same : (ts : List Token) (old mid new : Progress) (v w : ℕ) (o : Option Atom) → Takes ts number any is_term_number old v mid → Takes ts number any is_term_number mid w new
    → o ≡ alone (ahead ts new.place) (Same v w) → ReadsRest ts same_read atom_fits atom_near old new o
reads_same ts old mid new v w o = reads_two ts atom_fits atom_near same_read is_term_number is_term_number Same old mid new v w o same_is (λ x. refl) (λ x. refl)

-- ---- bounds

each_in : (ss : Sexps) → each summand_in ss ≡ with (each summand_read ss) (λ qs. if no_zero qs then Some qs else None)
each_in end = refl
each_in (x ▸ ss) = ap (cons_some (summand_in x)) (each_in ss) ∙ go (summand_read x) (each summand_read ss)
  where
    here : (a b : Bool) (p : Summand) (qs : List Summand) → cons_some (if a then None else Some p) (if b then Some qs else None) ≡ (if (not a && b) then Some (p ∷ qs) else None)
    here true true p qs = refl
    here true false p qs = refl
    here false true p qs = refl
    here false false p qs = refl

    alone : (a : Bool) (p : Summand) → let none : Option (List Summand) = None in cons_some (if a then None else Some p) none ≡ none
    alone true p = refl
    alone false p = refl

    go : (o : Option Summand) (r : Option (List Summand)) → cons_some (with o (λ p. if is_zero p.coefficient then None else Some p)) (with r (λ qs. if no_zero qs then Some qs else None))
        ≡ with (cons_some o r) (λ qs. if no_zero qs then Some qs else None)
    go None r = refl
    go (Some p) None = alone (is_zero p.coefficient) p
    go (Some p) (Some qs) = here (is_zero p.coefficient) (no_zero qs) p qs

names_is : (i : ℕ) (ps : List Summand) → names_place i ps ≡ stands_in i (terms_of ps)
names_is i [] = refl
names_is i (p ∷ ps) = ap (λ b. nat_eq i p.term || b) (names_is i ps)

summands_are : (ps : List Summand) → are_summands ps ≡ (no_zero ps && are_apart (terms_of ps))
summands_are [] = refl
summands_are (p ∷ ps) =
    ap (λ b. not (is_zero p.coefficient) && (not (names_place p.term ps) && b)) (summands_are ps)
    ∙ ap (λ b. not (is_zero p.coefficient) && (not b && (no_zero ps && are_apart (terms_of ps)))) (names_is p.term ps)
    ∙ go (not (is_zero p.coefficient)) (not (stands_in p.term (terms_of ps))) (no_zero ps) (are_apart (terms_of ps))
  where
    go : (a b c d : Bool) → (a && (b && (c && d))) ≡ ((a && c) && (b && d))
    go false b c d = refl
    go true true c d = refl
    go true false true d = refl
    go true false false d = refl

sum_is_read : (ss : Sexps) → sum_in ss ≡ with (each summand_read ss) (λ qs. if are_summands qs then Some (sums_added qs []) else None)
sum_is_read ss = ap (λ o. with o (λ ps. if are_apart (terms_of ps) then Some (sums_added ps []) else None)) (each_in ss) ∙ go (each summand_read ss)
  where
    inside : (a b : Bool) (qs : List Summand) → are_apart (terms_of qs) ≡ b → with (if a then Some qs else None) (λ ps. if are_apart (terms_of ps) then Some (sums_added ps []) else None) ≡ (if (a && b) then Some (sums_added qs []) else None)
    inside true b qs e = ap (λ c. if c then Some (sums_added qs []) else None) e
    inside false b qs e = refl

    go : (r : Option (List Summand)) → with (with r (λ qs. if no_zero qs then Some qs else None)) (λ ps. if are_apart (terms_of ps) then Some (sums_added ps []) else None)
        ≡ with r (λ qs. if are_summands qs then Some (sums_added qs []) else None)
    go None = refl
    go (Some qs) = inside (no_zero qs) (are_apart (terms_of qs)) qs refl ∙ ap (λ c. if c then Some (sums_added qs []) else None) (sym (summands_are qs))

at_most_is : (ss : Sexps) (y : Sexp) → at_most_read (group ss ▸ y ▸ end) ≡ with (sum_in ss) (λ q. with (integer y) (λ m. Some (AtMost q m)))
at_most_is ss y = go (each summand_read ss) ∙ ap (λ o. with o (λ q. with (integer y) (λ m. Some (AtMost q m)))) (sym (sum_is_read ss))
  where
    inside : (b : Bool) (q : List Summand) (o : Option ℤ) → with o (λ m. if b then Some (AtMost q m) else None) ≡ with (if b then Some q else None) (λ s. with o (λ m. Some (AtMost s m)))
    inside true q o = refl
    inside false q None = refl
    inside false q (Some m) = refl

    go : (r : Option (List Summand)) → with r (λ qs. with (integer y) (λ m. bound_read qs m)) ≡ with (with r (λ qs. if are_summands qs then Some (sums_added qs []) else None)) (λ q. with (integer y) (λ m. Some (AtMost q m)))
    go None = refl
    go (Some qs) = inside (are_summands qs) (sums_added qs []) (integer y)

no_sum_read : (ss rest : Sexps) → sum_in ss ≡ None → at_most_read (group ss ▸ rest) ≡ None
no_sum_read ss end e = refl
no_sum_read ss (y ▸ end) e = at_most_is ss y ∙ ap (λ o. with o (λ q. with (integer y) (λ m. Some (AtMost q m)))) e
no_sum_read ss (y ▸ x ▸ rest) e = refl

-- up to the sum's end
pub at_sum : (ts : List Token) (old mid : Progress) (close : ℕ) → IsList ts old.place close → mid ≡ stepped old → ahead ts old.place ≡ group (ahead ts mid.place) ▸ ahead ts (close + 1)
at_sum ts old mid close l s = l.is ∙ ap (λ (p : Progress). group (ahead ts p.place) ▸ ahead ts (close + 1)) (sym s)

pub no_bound_sum : (ts : List Token) (old mid : Progress) (close : ℕ) → IsList ts old.place close → mid ≡ stepped old → sum_in (ahead ts mid.place) ≡ None → at_most_read (ahead ts old.place) ≡ None
no_bound_sum ts old mid close l s e = ap at_most_read (at_sum ts old mid close l s) ∙ no_sum_read (ahead ts mid.place) (ahead ts (close + 1)) e

pub fills_bound : (ts : List Token) (old mid last new : Progress) (close : ℕ) (q : List Summand) (v : ℤ) → IsList ts old.place close → mid ≡ stepped old → (h : Fills ts sum_in sum_fits leaves_near mid q last)
    → (k : Takes ts integer is_in_range any (record last { place = close + 1 }) v new) → is_end (ahead ts new.place) ≡ true → Fills ts at_most_read atom_fits atom_near old (AtMost q v) new
fills_bound ts old mid last new close q v l s h k e = record {
  written = AtMost h.written k.written;
  read =
      ap at_most_read (at_sum ts old mid close l s ∙ ap (λ ss. group (ahead ts mid.place) ▸ ss) (k.is ∙ ap (λ ss. k.part ▸ ss) (at_end (ahead ts new.place) e))) ∙ at_most_is (ahead ts mid.place) k.part
      ∙ ap (λ o. with o (λ p. with (integer k.part) (λ m. Some (AtMost p m)))) h.read ∙ ap (λ o. with o (λ m. Some (AtMost h.written m))) k.read;
  notes =
      notes_two sum_fits leaves_near is_in_range any atom_fits atom_near AtMost old (record last { place = close + 1 }) new q h.written v k.written
      (notes_moved sum_fits leaves_near mid old last (record last { place = close + 1 }) q h.written (sym (ap (λ (p : Progress). p.fits) s)) (sym (ap (λ (p : Progress). p.near) s)) refl refl h.notes) k.notes refl
      (and_true (leaves_near h.written));
}

-- ---- literals

pub fills_negation : (ts : List Token) (old new : Progress) (v : Atom) → (h : Takes ts atom_read atom_fits atom_near old v new) → is_end (ahead ts new.place) ≡ true
    → Fills ts negation_in literal_fits literal_near old (literal false v) new
fills_negation ts old new v h e = record {
  written = literal false h.written;
  read = ap negation_in (h.is ∙ ap (λ ss. h.part ▸ ss) (at_end (ahead ts new.place) e)) ∙ ap (λ o. with o (λ a. Some (literal false a))) h.read;
  notes = notes_one atom_fits atom_near literal_fits literal_near (literal false) old new v h.written h.notes refl refl;
}

pub fills_positive : (ts : List Token) (n : List ℕ) (old new : Progress) (v : Atom) → bytes_eq n (codes "not") ≡ false → (h : Fills ts (atom_after n) atom_fits atom_near old v new)
    → Fills ts (literal_after n) literal_fits literal_near old (literal true v) new
fills_positive ts n old new v e h = record {
  written = literal true h.written;
  read =
      ap (λ b. if b then negation_in (ahead ts old.place) else with (atom_after n (ahead ts old.place)) (λ a. Some (literal true a))) e
      ∙ ap (λ o. with o (λ a. Some (literal true a))) h.read;
  notes = notes_one atom_fits atom_near literal_fits literal_near (literal true) old new v h.written h.notes refl refl;
}

pub all_literals_fit : (ls : List Literal) → every literal_fits ls ≡ literals_fit ls
all_literals_fit [] = refl
all_literals_fit (l ∷ ls) = ap (λ b. literal_fits l && b) (all_literals_fit ls)

pub all_literals_near : (ls : List Literal) → every literal_near ls ≡ literals_near ls
all_literals_near [] = refl
all_literals_near (l ∷ ls) = ap (λ b. literal_near l && b) (all_literals_near ls)
