-- Steps that are read.
use Rattle.std.proofs.Common.{◌≡◌, ℕ, ◌+◌, List, [], ◌∷◌, ap, sym, subst, ◌∙◌, refl, Bool, true, false, ◌&&◌, Option, Some, None}
use Rattle.std.specs.Prelude.{if◌then◌else◌, bytes_eq, codes, Result, Ok, Err, IfOk}
use Rattle.smt_meaning.specs.declared.tokens.Token.{Token}
use Rattle.smt_meaning.specs.declared.tokens.Token.TheVariants.{Numeral, Symbol}
use Rattle.smt_meaning.specs.declared.clauses.Literal.{Literal}
use Rattle.proof_meaning.specs.declared.proof.Weighted.{Weighted}
use Rattle.proof_meaning.specs.declared.proof.Step.{Step}
use Rattle.proof_meaning.specs.declared.proof.Step.TheVariants as Rule
use Rattle.smt_meaning.specs.Sexp.{Sexp, Sexps, word, group, end, ◌▸◌}
use Rattle.smt_meaning.specs.Signature.{look_up}
use Rattle.smt_meaning.specs.Sorts.{decimal}
use Rattle.smt_meaning.specs.Command.{each}
use Rattle.proof_meaning.specs.Reading.{with, number, one_place, two_places, three_places, form_read, round_read, farkas_read, res_read, literal_read, multiplier_read, weighted_read, step_read}
use Rattle.look_ahead.specs.Ahead.{ahead, IsList}
use Rattle.proof_read.specs.declared.read_parts.Progress.{Progress}
use Rattle.proof_read.specs.declared.read_names.StepName.{StepName}
use Rattle.proof_read.specs.declared.read_names.StepName.TheVariants.{Assert, Form, Pick, Euclid, Refl, Sym, Trans, Cong, Truth, Both, Neither, Link, Round, Farkas, Res}
use Rattle.proof_read.specs.declared.read_steps.Multiplier.{Multiplier}
use Rattle.proof_read.specs.Written.{is_small, numbers_fit, literals_fit, weights_fit, atom_fits}
use Rattle.proof_read.specs.Reads.{is_term_number, is_step_number, places_near, literals_near, weights_near, atom_near}
use Rattle.proof_read.specs.ReadParts.{Takes, Fills, ReadsRest, IsNamedList, Passes, any, every, stepped, first_by, is_end, alone}
use Rattle.proof_read.specs.ReadNames.{step_names, step_form}
use Rattle.proof_read.specs.ReadAtoms.{literal_fits, literal_near}
use Rattle.proof_read.specs.ReadSteps.{one_in, two_in, three_in, two_first, TakesBoth, both, pair_named, pair_form, plain_form, quotient_in, multiplier_in, multiplier_fits, weighted_fits, weighted_near}
use Rattle.proof_read.proofs.ReadLemmas.{notes_one, notes_two, notes_moved, and_true, and_and}
use Rattle.proof_read.proofs.ReadForms.{at_end, reads_alone, with_none, into_list}
use Rattle.proof_read.proofs.ReadPlaceForms.{pair, triple, reads_two}
use Rattle.proof_read.proofs.ReadNamedForms.{step_named}

-- a step of two terms by its name
pub reads_pair : (ts : List Token) (name : StepName) (old mid new : Progress) (i j : ℕ) (s : Step) (o : Option Step) → Some s ≡ pair_named name i j → Takes ts number any is_term_number old i mid → Takes ts number any is_term_number mid j new
    → o ≡ alone (ahead ts new.place) s → ReadsRest ts (pair_form name) numbers_fit places_near old new o
reads_pair ts name old mid new i j s o e h k is = go name e
  where
    two : (n : StepName) (g : ℕ → ℕ → Step) → s ≡ g i j → ((ss : Sexps) → pair_form n ss ≡ with (two_in ss) (λ x. Some (g x.0 x.1))) → ((x : ℕ × ℕ) → numbers_fit (g x.0 x.1) ≡ true)
        → ((x : ℕ × ℕ) → places_near (g x.0 x.1) ≡ both is_term_number is_term_number x) → ReadsRest ts (pair_form n) numbers_fit places_near old new o
    two n g f same fit nigh = reads_two ts numbers_fit places_near (pair_form n) is_term_number is_term_number g old mid new i j o same fit nigh h k (is ∙ ap (alone (ahead ts new.place)) f)

    go : (n : StepName) → Some s ≡ pair_named n i j → ReadsRest ts (pair_form n) numbers_fit places_near old new o
    go Sym f = two Sym Rule.Sym (let q : s ≡ Rule.Sym i j = cc in q) (λ ss. refl) (λ x. refl) (λ x. refl)
    go Cong f = two Cong Rule.Cong (let q : s ≡ Rule.Cong i j = cc in q) (λ ss. refl) (λ x. refl) (λ x. refl)
    go Truth f = two Truth Rule.Truth (let q : s ≡ Rule.Truth i j = cc in q) (λ ss. refl) (λ x. refl) (λ x. refl)
    go Both f = two Both Rule.Both (let q : s ≡ Rule.Both i j = cc in q) (λ ss. refl) (λ x. refl) (λ x. refl)
    go Neither f = two Neither Rule.Neither (let q : s ≡ Rule.Neither i j = cc in q) (λ ss. refl) (λ x. refl) (λ x. refl)
    go _ f = absurd (cc)

-- no other name has a step of two terms
pub no_pair : (name : StepName) (i j : ℕ) (ss : Sexps) → None ≡ pair_named name i j → pair_form name ss ≡ None
no_pair Sym i j ss e = absurd (cc)
no_pair Cong i j ss e = absurd (cc)
no_pair Truth i j ss e = absurd (cc)
no_pair Both i j ss e = absurd (cc)
no_pair Neither i j ss e = absurd (cc)
no_pair Assert i j ss e = with_none (two_in ss) None refl
no_pair Form i j ss e = with_none (two_in ss) None refl
no_pair Pick i j ss e = with_none (two_in ss) None refl
no_pair Euclid i j ss e = with_none (two_in ss) None refl
no_pair Refl i j ss e = with_none (two_in ss) None refl
no_pair Trans i j ss e = with_none (two_in ss) None refl
no_pair Link i j ss e = with_none (two_in ss) None refl
no_pair Round i j ss e = with_none (two_in ss) None refl
no_pair Farkas i j ss e = with_none (two_in ss) None refl
no_pair Res i j ss e = with_none (two_in ss) None refl

-- other names are those of pairs
other_plain : (n : StepName) → (n ≡ Assert → ⊥) → (n ≡ Pick → ⊥) → (n ≡ Euclid → ⊥) → (n ≡ Refl → ⊥) → (n ≡ Trans → ⊥) → (n ≡ Link → ⊥) → plain_form n ≡ pair_form n
other_plain Assert a b c d e f = absurd (a refl)
other_plain Pick a b c d e f = absurd (b refl)
other_plain Euclid a b c d e f = absurd (c refl)
other_plain Refl a b c d e f = absurd (d refl)
other_plain Trans a b c d e f = absurd (e refl)
other_plain Link a b c d e f = absurd (f refl)
other_plain _ a b c d e f = refl

pub reads_other : (ts : List Token) (n : StepName) (old new : Progress) (o : Option Step) → (n ≡ Assert → ⊥) → (n ≡ Pick → ⊥) → (n ≡ Euclid → ⊥) → (n ≡ Refl → ⊥) → (n ≡ Trans → ⊥) → (n ≡ Link → ⊥)
    → ReadsRest ts (pair_form n) numbers_fit places_near old new o → ReadsRest ts (plain_form n) numbers_fit places_near old new o
reads_other ts n old new o a b c d e f h = subst (λ x. ReadsRest ts x numbers_fit places_near old new o) (sym (other_plain n a b c d e f)) h

two_is : (g : ℕ → ℕ → Step) (ss : Sexps) → two_places g ss ≡ with (two_in ss) (λ p. Some (g p.0 p.1))
two_is g end = refl
two_is g (x ▸ end) = refl
two_is g (x ▸ y ▸ end) = go (number x) (number y)
  where
    go : (o p : Option ℕ) → with o (λ a. with p (λ b. Some (g a b))) ≡ with (with o (λ a. with p (λ b. Some (pair a b)))) (λ q. Some (g q.0 q.1))
    go None p = refl
    go (Some a) None = refl
    go (Some a) (Some b) = refl
two_is g (x ▸ y ▸ z ▸ ss) = refl

one_is : (g : ℕ → Step) (ss : Sexps) → one_place g ss ≡ with (one_in ss) (λ p. Some (g p))
one_is g end = refl
one_is g (x ▸ end) = refl
one_is g (x ▸ y ▸ ss) = refl

three_places_is : (g : ℕ → ℕ → ℕ → Step) (ss : Sexps) → three_places g ss ≡ with (three_in ss) (λ p. Some (g p.0 p.1 p.2))
three_places_is g end = refl
three_places_is g (x ▸ end) = refl
three_places_is g (x ▸ y ▸ end) = refl
three_places_is g (x ▸ y ▸ z ▸ end) = go (number x) (number y) (number z)
  where
    go : (o p q : Option ℕ) → with o (λ a. with p (λ b. with q (λ c. Some (g a b c)))) ≡ with (with o (λ a. with p (λ b. with q (λ c. Some (triple a b c))))) (λ r. Some (g r.0 r.1 r.2))
    go None p q = refl
    go (Some a) None q = refl
    go (Some a) (Some b) None = refl
    go (Some a) (Some b) (Some c) = refl
three_places_is g (x ▸ y ▸ z ▸ w ▸ ss) = refl

-- a step that writes numbers of terms and clauses alone, by the table
plain_is : (n : StepName) (ss : Sexps) → (n ≡ Form → ⊥) → (n ≡ Round → ⊥) → (n ≡ Farkas → ⊥) → (n ≡ Res → ⊥) → plain_form n ss ≡ step_form n ss
plain_is Assert ss a b c d = sym (two_is Rule.Assert ss)
plain_is Pick ss a b c d = sym (two_is Rule.Pick ss)
plain_is Euclid ss a b c d = sym (two_is Rule.Euclid ss)
plain_is Refl ss a b c d = sym (one_is Rule.Refl ss)
plain_is Sym ss a b c d = sym (two_is Rule.Sym ss)
plain_is Trans ss a b c d = sym (three_places_is Rule.Trans ss)
plain_is Cong ss a b c d = sym (two_is Rule.Cong ss)
plain_is Truth ss a b c d = sym (two_is Rule.Truth ss)
plain_is Both ss a b c d = sym (two_is Rule.Both ss)
plain_is Neither ss a b c d = sym (two_is Rule.Neither ss)
plain_is Link ss a b c d = sym (three_places_is Rule.Link ss)
plain_is Form ss a b c d = absurd (a refl)
plain_is Round ss a b c d = absurd (b refl)
plain_is Farkas ss a b c d = absurd (c refl)
plain_is Res ss a b c d = absurd (d refl)

pub reads_plain : (ts : List Token) (n : StepName) (old new : Progress) (o : Option Step) → (n ≡ Form → ⊥) → (n ≡ Round → ⊥) → (n ≡ Farkas → ⊥) → (n ≡ Res → ⊥)
    → ReadsRest ts (plain_form n) numbers_fit places_near old new o → ReadsRest ts (step_form n) numbers_fit places_near old new o
reads_plain ts n old new None a b c d h = sym (plain_is n (ahead ts old.place) a b c d) ∙ h
reads_plain ts n old new (Some s) a b c d h = record { written = h.written; read = sym (plain_is n (ahead ts old.place) a b c d) ∙ h.read; notes = h.notes }

-- ---- literals with a term

pub fills_form : (ts : List Token) (old mid new : Progress) (v : ℕ) (ls : List Literal) → (h : Takes ts number any is_term_number old v mid) → (k : Fills ts (each literal_read) literals_fit literals_near mid ls new)
    → Fills ts form_read numbers_fit places_near old (Rule.Form v ls) new
fills_form ts old mid new v ls h k = record {
  written = Rule.Form h.written k.written;
  read =
      ap form_read h.is ∙ ap (λ o. with o (λ a. with (each literal_read (ahead ts mid.place)) (λ ms. Some (Rule.Form a ms)))) h.read ∙ ap (λ o. with o (λ ms. Some (Rule.Form h.written ms))) k.read;
  notes = notes_two any is_term_number literals_fit literals_near numbers_fit places_near Rule.Form old mid new v h.written ls k.written h.notes k.notes refl refl;
}

fills_round : (ts : List Token) (old mid new : Progress) (l : Literal) (g : ℕ) → (h : Takes ts literal_read literal_fits literal_near old l mid) → (k : Takes ts number is_small any mid g new)
    → is_end (ahead ts new.place) ≡ true → Fills ts round_read numbers_fit places_near old (Rule.Round l g) new
fills_round ts old mid new l g h k e = record {
  written = Rule.Round h.written k.written;
  read =
      ap round_read (h.is ∙ ap (λ ss. h.part ▸ ss) (k.is ∙ ap (λ ss. k.part ▸ ss) (at_end (ahead ts new.place) e)))
      ∙ ap (λ o. with o (λ m. with (number k.part) (λ d. Some (Rule.Round m d)))) h.read ∙ ap (λ o. with o (λ d. Some (Rule.Round h.written d))) k.read;
  notes = notes_two literal_fits literal_near is_small any numbers_fit places_near Rule.Round old mid new l h.written g k.written h.notes k.notes refl (and_true (literal_near h.written));
}

fills_res : (ts : List Token) (old mid next new : Progress) (p q : ℕ) (l : Literal) → (h : Takes ts number any is_step_number old p mid) → (k : Takes ts number any is_step_number mid q next)
    → (m : Takes ts literal_read literal_fits literal_near next l new) → is_end (ahead ts new.place) ≡ true → Fills ts res_read numbers_fit places_near old (Rule.Res p q l) new
fills_res ts old mid next new p q l h k m e = record {
  written = Rule.Res h.written k.written m.written;
  read =
      ap res_read (h.is ∙ ap (λ ss. h.part ▸ ss) (k.is ∙ ap (λ ss. k.part ▸ ss) (m.is ∙ ap (λ ss. m.part ▸ ss) (at_end (ahead ts new.place) e))))
      ∙ ap (λ o. with o (λ a. with (number k.part) (λ b. with (literal_read m.part) (λ c. Some (Rule.Res a b c))))) h.read
      ∙ ap (λ o. with o (λ b. with (literal_read m.part) (λ c. Some (Rule.Res h.written b c)))) k.read ∙ ap (λ o. with o (λ c. Some (Rule.Res h.written k.written c))) m.read;
  notes =
      notes_two any (both is_step_number is_step_number) literal_fits literal_near numbers_fit places_near (λ (x : ℕ × ℕ) c. Rule.Res x.0 x.1 c) old next new (p, q) (h.written, k.written) l m.written
      (notes_two any is_step_number any is_step_number any (both is_step_number is_step_number) pair old mid next p h.written q k.written h.notes k.notes refl refl) m.notes refl
      (sym (and_and (is_step_number h.written) (is_step_number k.written) (atom_near m.written.atom)));
}

more_res : (x y z : Sexp) (ss : Sexps) → is_end ss ≡ false → res_read (x ▸ y ▸ z ▸ ss) ≡ None
more_res x y z end e = absurd (cc)
more_res x y z (t ▸ ss) e = refl

unread_res : (ts : List Token) (old mid next new : Progress) (p q : ℕ) (l : Literal) → (h : Takes ts number any is_step_number old p mid) → (k : Takes ts number any is_step_number mid q next)
    → (m : Takes ts literal_read literal_fits literal_near next l new) → is_end (ahead ts new.place) ≡ false → res_read (ahead ts old.place) ≡ None
unread_res ts old mid next new p q l h k m e =
    ap res_read (h.is ∙ ap (λ ss. h.part ▸ ss) (k.is ∙ ap (λ ss. k.part ▸ ss) m.is)) ∙ more_res h.part k.part m.part (ahead ts new.place) e

pub reads_res : (ts : List Token) (old next new : Progress) (p q : ℕ) (l : Literal) (o : Option Step) → (h : TakesBoth ts old p q next) → (m : Takes ts literal_read literal_fits literal_near next l new)
    → o ≡ alone (ahead ts new.place) (Rule.Res p q l) → ReadsRest ts res_read numbers_fit places_near old new o
reads_res ts old next new p q l o h m is =
    reads_alone ts res_read numbers_fit places_near old new (Rule.Res p q l) o is (λ e. fills_res ts old h.middle next new p q l h.first h.second m e) (λ e. unread_res ts old h.middle next new p q l h.first h.second m e)

pub none_of_two : (ss : Sexps) → two_first ss ≡ None → res_read ss ≡ None
none_of_two end e = refl
none_of_two (x ▸ end) e = refl
none_of_two (x ▸ y ▸ end) e = refl
none_of_two (x ▸ y ▸ l ▸ end) e = go (number x) (number y) e
  where
    go : (a b : Option ℕ) → with a (λ i. with b (λ j. Some (pair i j))) ≡ None → with a (λ i. with b (λ j. with (literal_read l) (λ m. Some (Rule.Res i j m)))) ≡ None
    go None b f = refl
    go (Some i) None f = refl
    go (Some i) (Some j) f = absurd (cc)
none_of_two (x ▸ y ▸ l ▸ z ▸ ss) e = refl

more_round : (x y : Sexp) (ss : Sexps) → is_end ss ≡ false → round_read (x ▸ y ▸ ss) ≡ None
more_round x y end e = absurd (cc)
more_round x y (t ▸ ss) e = refl

unread_round : (ts : List Token) (old mid new : Progress) (l : Literal) (g : ℕ) → (h : Takes ts literal_read literal_fits literal_near old l mid) → (k : Takes ts number is_small any mid g new)
    → is_end (ahead ts new.place) ≡ false → round_read (ahead ts old.place) ≡ None
unread_round ts old mid new l g h k e = ap round_read (h.is ∙ ap (λ ss. h.part ▸ ss) k.is) ∙ more_round h.part k.part (ahead ts new.place) e

pub reads_round : (ts : List Token) (old mid new : Progress) (l : Literal) (g : ℕ) (o : Option Step) → Takes ts literal_read literal_fits literal_near old l mid → Takes ts number is_small any mid g new
    → o ≡ alone (ahead ts new.place) (Rule.Round l g) → ReadsRest ts round_read numbers_fit places_near old new o
reads_round ts old mid new l g o h k is =
    reads_alone ts round_read numbers_fit places_near old new (Rule.Round l g) o is (λ e. fills_round ts old mid new l g h k e) (λ e. unread_round ts old mid new l g h k e)

pub fills_farkas : (ts : List Token) (old new : Progress) (ws : List Weighted) → (h : Fills ts (each weighted_read) weights_fit weights_near old ws new) → Fills ts farkas_read numbers_fit places_near old (Rule.Farkas ws) new
fills_farkas ts old new ws h = record {
  written = Rule.Farkas h.written;
  read = ap (λ o. with o (λ vs. Some (Rule.Farkas vs))) h.read;
  notes = notes_one weights_fit weights_near numbers_fit places_near Rule.Farkas old new ws h.written h.notes refl refl;
}

-- ---- multiples of bounds

pub all_weights_fit : (ws : List Weighted) → every weighted_fits ws ≡ weights_fit ws
all_weights_fit [] = refl
all_weights_fit (w ∷ ws) = ap (λ b. weighted_fits w && b) (all_weights_fit ws)

pub all_weights_near : (ws : List Weighted) → every weighted_near ws ≡ weights_near ws
all_weights_near [] = refl
all_weights_near (w ∷ ws) = ap (λ b. weighted_near w && b) (all_weights_near ws)

abbrev weighted : Multiplier → Literal → Weighted
weighted m l = record { numerator = m.numerator; denominator = m.denominator; literal = l }

multiplier_is : (x : Sexp) (l : Literal) → multiplier_read x l ≡ with (multiplier_in x) (λ m. Some (weighted m l))
multiplier_is (word (Numeral cs)) l = refl
multiplier_is (word _) l = refl
multiplier_is (group (word (Symbol n) ▸ a ▸ b ▸ end)) l = go (bytes_eq n (codes "/")) (number a) (number b)
  where
    go : (c : Bool) (o p : Option ℕ) → (if c then with o (λ x. with p (λ y. let w : Weighted = record { numerator = x; denominator = y; literal = l } in Some w)) else None)
        ≡ with (if c then with o (λ x. with p (λ y. let m : Multiplier = record { numerator = x; denominator = y } in Some m)) else None) (λ m. Some (weighted m l))
    go false o p = refl
    go true None p = refl
    go true (Some x) None = refl
    go true (Some x) (Some y) = refl
multiplier_is (group _) l = refl

weighted_is : (x y : Sexp) (m : Multiplier) (l : Literal) → multiplier_in x ≡ Some m → literal_read y ≡ Some l → weighted_read (group (x ▸ y ▸ end)) ≡ Some (weighted m l)
weighted_is x y m l e f = ap (λ o. with o (λ k. multiplier_read x k)) f ∙ multiplier_is x l ∙ ap (λ o. with o (λ n. Some (weighted n l))) e

pub takes_weighted : (ts : List Token) (old mid next last : Progress) (close : ℕ) (m : Multiplier) (l : Literal) → IsList ts old.place close → mid ≡ stepped old
    → (h : Takes ts multiplier_in multiplier_fits any mid m next) → (k : Takes ts literal_read literal_fits literal_near next l last) → is_end (ahead ts last.place) ≡ true
    → Takes ts weighted_read weighted_fits weighted_near old (weighted m l) (record last { place = close + 1 })
takes_weighted ts old mid next last close m l i s h k e =
    into_list ts weighted_read weighted_fits weighted_near old mid last close (weighted m l) (weighted h.written k.written) i s
    (ap (λ ss. weighted_read (group ss)) (h.is ∙ ap (λ ss. h.part ▸ ss) (k.is ∙ ap (λ ss. k.part ▸ ss) (at_end (ahead ts last.place) e))) ∙ weighted_is h.part k.part h.written k.written h.read k.read)
    (notes_two multiplier_fits any literal_fits literal_near weighted_fits weighted_near weighted mid next last m h.written l k.written h.notes k.notes
    (sym (and_and (is_small h.written.numerator) (is_small h.written.denominator) (atom_fits k.written.atom))) refl)

more_weighted : (x y : Sexp) (ss : Sexps) → is_end ss ≡ false → weighted_read (group (x ▸ y ▸ ss)) ≡ None
more_weighted x y end e = absurd (cc)
more_weighted x y (t ▸ ss) e = refl

pub unread_weighted : (ts : List Token) (old mid next last : Progress) (close : ℕ) (m : Multiplier) (l : Literal) → IsList ts old.place close → mid ≡ stepped old
    → (h : Takes ts multiplier_in multiplier_fits any mid m next) → (k : Takes ts literal_read literal_fits literal_near next l last) → is_end (ahead ts last.place) ≡ false
    → first_by weighted_read (ahead ts old.place) ≡ None
unread_weighted ts old mid next last close m l i s h k e =
    ap (first_by weighted_read) i.is ∙ ap (λ (p : Progress). weighted_read (group (ahead ts p.place))) (sym s) ∙ ap (λ ss. weighted_read (group ss)) (h.is ∙ ap (λ ss. h.part ▸ ss) k.is)
    ∙ more_weighted h.part k.part (ahead ts last.place) e

takes_whole : (ts : List Token) (old new : Progress) (n : ℕ) → (h : Takes ts number is_small any old n new) → Takes ts multiplier_in multiplier_fits any old (record { numerator = n; denominator = 1 }) new
takes_whole ts old new n h = record {
  order = h.order;
  within = h.within;
  part = h.part;
  is = h.is;
  written = record { numerator = h.written; denominator = 1 };
  read = whole h.part h.written h.read;
  notes = notes_one is_small any multiplier_fits any (λ k. let m : Multiplier = record { numerator = k; denominator = 1 } in m) old new n h.written h.notes (sym (and_true (is_small h.written))) refl;
}
  where
    whole : (x : Sexp) (k : ℕ) → number x ≡ Some k → multiplier_in x ≡ Some (record { numerator = k; denominator = 1 })
    whole (word (Numeral cs)) k e = let f : decimal cs ≡ k = cc in ap (λ i. let m : Multiplier = record { numerator = i; denominator = 1 } in Some m) f
    whole (word _) k e = absurd (cc)
    whole (group _) k e = absurd (cc)

pub takes_quotient : (ts : List Token) (old mid last : Progress) (close : ℕ) (m : Multiplier) → IsList ts old.place close → mid ≡ stepped old → (h : Fills ts quotient_in multiplier_fits any mid m last)
    → Takes ts multiplier_in multiplier_fits any old m (record last { place = close + 1 })
takes_quotient ts old mid last close m l s h = into_list ts multiplier_in multiplier_fits any old mid last close m h.written l s h.read h.notes

fills_quotient : (ts : List Token) (old mid next new : Progress) (n : List ℕ) (p q : ℕ) → Passes ts old mid (Symbol n) → bytes_eq n (codes "/") ≡ true → (h : Takes ts number is_small any mid p next)
    → (k : Takes ts number is_small any next q new) → is_end (ahead ts new.place) ≡ true → Fills ts quotient_in multiplier_fits any old (record { numerator = p; denominator = q }) new
fills_quotient ts old mid next new n p q s b h k e = record {
  written = record { numerator = h.written; denominator = k.written };
  read =
      ap quotient_in
      (s.is
      ∙ ap (λ ss. word (Symbol n) ▸ ss)
      (ap (λ (x : Progress). ahead ts x.place) (sym s.stepped_is) ∙ h.is ∙ ap (λ ss. h.part ▸ ss) (k.is ∙ ap (λ ss. k.part ▸ ss) (at_end (ahead ts new.place) e))))
      ∙ ap (λ c. if c then with (number h.part) (λ x. with (number k.part) (λ y. let m : Multiplier = record { numerator = x; denominator = y } in Some m)) else None) b
      ∙ ap (λ o. with o (λ x. with (number k.part) (λ y. let m : Multiplier = record { numerator = x; denominator = y } in Some m))) h.read
      ∙ ap (λ o. with o (λ y. let m : Multiplier = record { numerator = h.written; denominator = y } in Some m)) k.read;
  notes =
      notes_moved multiplier_fits any mid old new new (record { numerator = p; denominator = q }) (record { numerator = h.written; denominator = k.written }) (sym (ap (λ (x : Progress). x.fits) s.stepped_is))
      (sym (ap (λ (x : Progress). x.near) s.stepped_is)) refl refl
      (notes_two is_small any is_small any multiplier_fits any (λ x y. let m : Multiplier = record { numerator = x; denominator = y } in m) mid next new p h.written q k.written h.notes k.notes refl refl);
}

more_quotient : (n : List ℕ) (x y : Sexp) (ss : Sexps) → is_end ss ≡ false → quotient_in (word (Symbol n) ▸ x ▸ y ▸ ss) ≡ None
more_quotient n x y end e = absurd (cc)
more_quotient n x y (t ▸ ss) e = refl

pub reads_quotient : (ts : List Token) (old mid next new : Progress) (n : List ℕ) (p q : ℕ) (o : Option Multiplier) → Passes ts old mid (Symbol n) → bytes_eq n (codes "/") ≡ true → Takes ts number is_small any mid p next
    → Takes ts number is_small any next q new → o ≡ alone (ahead ts new.place) (record { numerator = p; denominator = q }) → ReadsRest ts quotient_in multiplier_fits any old new o
reads_quotient ts old mid next new n p q o s b h k is =
    reads_alone ts quotient_in multiplier_fits any old new (record { numerator = p; denominator = q }) o is (λ e. fills_quotient ts old mid next new n p q s b h k e)
    (λ e. ap quotient_in (s.is ∙ ap (λ ss. word (Symbol n) ▸ ss) (ap (λ (x : Progress). ahead ts x.place) (sym s.stepped_is) ∙ h.is ∙ ap (λ ss. h.part ▸ ss) k.is)) ∙ more_quotient n h.part k.part (ahead ts new.place) e)

-- a number is read where no list is entered
pub takes_whole_after : (ts : List Token) (old mid new : Progress) (n : ℕ) → mid ≡ old → Takes ts number is_small any mid n new → Takes ts multiplier_in multiplier_fits any old (record { numerator = n; denominator = 1 }) new
takes_whole_after ts old mid new n e h = subst (λ p. Takes ts multiplier_in multiplier_fits any p (record { numerator = n; denominator = 1 }) new) e (takes_whole ts mid new n h)

-- ---- a step by its name

step_at : (ts : List Token) (old next : Progress) (close : ℕ) (n : List ℕ) (k : StepName) (h : IsNamedList ts old next close n) → Some k ≡ look_up n step_names → first_by step_read (ahead ts old.place) ≡ step_form k (ahead ts next.place)
step_at ts old next close n k h e =
    ap (first_by step_read) h.list.is ∙ ap (λ (q : Progress). step_read (group (ahead ts q.place))) (sym h.inside) ∙ ap (λ ss. step_read (group ss)) h.named.is
    ∙ sym (step_named n k (ahead ts (h.middle.place + 1)) e) ∙ ap (λ (q : Progress). step_form k (ahead ts q.place)) (sym h.named.stepped_is)

pub reads_step : {E : Type 0} (ts : List Token) (old next new : Progress) (close : ℕ) (n : List ℕ) (k : StepName) (r : Result (Option Step) E) → IsNamedList ts old next close n → Some k ≡ look_up n step_names
    → IfOk r (ReadsRest ts (step_form k) numbers_fit places_near next new) → IfOk r (ReadsRest ts (first_by step_read) numbers_fit places_near old new)
reads_step {E = E} ts old next new close n k (Err x) l e h = tt
reads_step {E = E} ts old next new close n k (Ok None) l e h = step_at ts old next close n k l e ∙ h
reads_step {E = E} ts old next new close n k (Ok (Some v)) l e h = record {
  written = h.written;
  read = step_at ts old next close n k l e ∙ h.read;
  notes =
      notes_moved numbers_fit places_near next old new new v h.written (sym (ap (λ (q : Progress). q.fits) l.named.stepped_is ∙ ap (λ (q : Progress). q.fits) l.inside))
      (sym (ap (λ (q : Progress). q.near) l.named.stepped_is ∙ ap (λ (q : Progress). q.near) l.inside)) refl refl h.notes;
}
