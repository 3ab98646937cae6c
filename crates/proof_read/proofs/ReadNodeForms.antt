-- Terms that are read.
use Rattle.std.proofs.Common.{◌≡◌, ℕ, List, [], ◌∷◌, ap, sym, subst, ◌∙◌, refl, Bool, true, false, pos, ◌&&◌, Option, Some, None}
use Rattle.std.specs.Prelude.{codes, if◌then◌else◌}
use Rattle.std.specs.Borrow.{Bor}
use Rattle.smt_meaning.specs.declared.tokens.Word.{Word}
use Rattle.smt_meaning.specs.declared.tokens.Word.TheVariants.{Underscore}
use Rattle.smt_meaning.specs.declared.tokens.Token.{Token}
use Rattle.smt_meaning.specs.declared.tokens.Token.TheVariants.{Numeral, Symbol, Reserved}
use Rattle.smt_meaning.specs.declared.terms.Head.{Head}
use Rattle.smt_meaning.specs.declared.terms.Head.TheVariants.{Numeral as Number}
use Rattle.smt_meaning.specs.declared.nodes.Node.{Node}
use Rattle.smt_meaning.specs.Declaration.{Declaration}
use Rattle.smt_meaning.specs.Sexp.{Sexp, Sexps, word, end, ◌▸◌}
use Rattle.smt_meaning.specs.Command.{each}
use Rattle.smt_meaning.specs.Sorts.{decimal, is_small, head_number}
use Rattle.proof_meaning.specs.Reading.{with, number, head_read, numeral_read}
use Rattle.look_ahead.specs.Ahead.{ahead}
use Rattle.proof_read.specs.declared.read_parts.Progress.{Progress}
use Rattle.proof_read.specs.Reads.{is_term_number, numbers_near}
use Rattle.proof_read.specs.ReadParts.{Passes, Takes, Fills, ReadsRest, any, every, stepped, is_end, alone}
use Rattle.proof_read.specs.ReadNodes.{node_near, numeral_only, application, divisor_head, divisibility, HasDivisor, IsDivided, HasDivided}
use Rattle.proof_read.proofs.ReadLemmas.{notes_exact, notes_two, notes_moved, and_true}
use Rattle.proof_read.proofs.ReadForms.{at_end}

pub any_fit : (is : List ℕ) → every any is ≡ any is
any_fit [] = refl
any_fit (i ∷ is) = any_fit is

pub numbers_near_is : (is : List ℕ) → every is_term_number is ≡ numbers_near is
numbers_near_is [] = refl
numbers_near_is (i ∷ is) = ap (λ b. is_term_number i && b) (numbers_near_is is)

-- one token further the same is read of what is left
pub reads_after : {A : Type 0} (ts : List Token) (f g : Sexps → Option A) (fits near : A → Bool) (old mid new : Progress) (o : Option A) → mid ≡ stepped old → g (ahead ts old.place) ≡ f (ahead ts mid.place)
    → ReadsRest ts f fits near mid new o → ReadsRest ts g fits near old new o
reads_after {A = A} ts f g fits near old mid new None s e h = e ∙ h
reads_after {A = A} ts f g fits near old mid new (Some v) s e h = record {
  written = h.written;
  read = e ∙ h.read;
  notes = notes_moved fits near mid old new new v h.written (sym (ap (λ (p : Progress). p.fits) s)) (sym (ap (λ (p : Progress). p.near) s)) refl refl h.notes;
}

numeral_has_none : (cs : List ℕ) (n : Node) → numeral_read cs ≡ Some n → n.arguments ≡ []
numeral_has_none cs n h = go (is_small (decimal cs)) h
  where
    go : (b : Bool) → (if b then Some (record { head = Number (pos (decimal cs)); arguments = [] }) else None) ≡ Some n → n.arguments ≡ []
    go true e = let same : record { head = Number (pos (decimal cs)); arguments = [] } ≡ n = cc in ap (λ (m : Node). m.arguments) (sym same)
    go false e = absurd (cc)

-- a numeral alone
pub reads_numeral : (ts : List Token) (cs : List ℕ) (at : Progress) (o : Option Node) → is_end (ahead ts at.place) ≡ true → o ≡ numeral_read cs → ReadsRest ts (numeral_only cs) any node_near at at o
reads_numeral ts cs at None h e = ap (numeral_only cs) (at_end (ahead ts at.place) h) ∙ sym e
reads_numeral ts cs at (Some v) h e = record {
  written = v;
  read = ap (numeral_only cs) (at_end (ahead ts at.place) h) ∙ sym e;
  notes = notes_exact any node_near at at v v refl refl refl (ap numbers_near (numeral_has_none cs v (sym e))) refl;
}

application_is : (ds : List Declaration) (n : List ℕ) (ss : Sexps) (k : Head) (is : List ℕ) → head_read ds n ≡ Some k → each number ss ≡ Some is → application ds n ss ≡ Some (record { head = k; arguments = is })
application_is ds n ss k is e f =
    ap (λ o. with o (λ (h : Head). with (each number ss) (λ js. let m : Node = record { head = h; arguments = js } in Some m))) e
    ∙ ap (λ o. with o (λ js. let m : Node = record { head = k; arguments = js } in Some m)) f

pub fills_application : (ts : List Token) (ds : List Declaration) (n : List ℕ) (old new : Progress) (k : Head) (is : List ℕ) → Some k ≡ head_read ds n → Fills ts (each number) any numbers_near old is new
    → Fills ts (application ds n) any node_near old (record { head = k; arguments = is }) new
fills_application ts ds n old new k is e h = record {
  written = record { head = k; arguments = h.written };
  read = application_is ds n (ahead ts old.place) k h.written (sym e) h.read;
  notes = record {
    fits_is = h.notes.fits_is;
    near_is = h.notes.near_is;
    same = λ p q. ap (λ js. record { head = k; arguments = js }) (h.notes.same p q);
  };
}

divisibility_is : (x y : Sexp) (k : Head) (i : ℕ) → divisor_head x ≡ Some k → number y ≡ Some i → divisibility (x ▸ y ▸ end) ≡ Some (record { head = k; arguments = i ∷ [] })
divisibility_is x y k i e f =
    ap (λ o. with o (λ (h : Head). with (number y) (λ j. let m : Node = record { head = h; arguments = j ∷ [] } in Some m))) e
    ∙ ap (λ o. with o (λ j. let m : Node = record { head = k; arguments = j ∷ [] } in Some m)) f

pub fills_divisibility : (ts : List Token) (old new : Progress) (k : Head) (i : ℕ) (n : Node) → IsDivided ts old new k i → n ≡ record { head = k; arguments = i ∷ [] } → Fills ts divisibility any node_near old n new
fills_divisibility ts old new k i n d s =
    let h = d.head in
    let g = d.argument in
    let shape : ahead ts old.place ≡ h.part ▸ g.part ▸ end = h.is ∙ ap (λ ss. h.part ▸ ss) (g.is ∙ ap (λ ss. g.part ▸ ss) d.last) in
    rw s
    (record {
      written = record { head = h.written; arguments = g.written ∷ [] };
      read = ap divisibility shape ∙ divisibility_is h.part g.part h.written g.written h.read g.read;
      notes =
          notes_two any any any is_term_number any node_near (λ (x : Head) j. record { head = x; arguments = j ∷ [] }) old d.middle new k h.written i g.written h.notes g.notes refl (sym (and_true (is_term_number g.written)));
    })

divisor_shape : (ts : List Token) (old a b c : Progress) (w : Word) (n cs : List ℕ) → Passes ts old a (Reserved w) → Passes ts a b (Symbol n) → Passes ts b c (Numeral cs)
    → ahead ts old.place ≡ word (Reserved w) ▸ word (Symbol n) ▸ word (Numeral cs) ▸ ahead ts c.place
divisor_shape ts old a b c w n cs h k g =
    h.is ∙ ap (λ (p : Progress). word (Reserved w) ▸ ahead ts p.place) (sym h.stepped_is)
    ∙ ap (λ ss. word (Reserved w) ▸ ss) (k.is ∙ ap (λ (p : Progress). word (Symbol n) ▸ ahead ts p.place) (sym k.stepped_is))
    ∙ ap (λ ss. word (Reserved w) ▸ word (Symbol n) ▸ ss) (g.is ∙ ap (λ (p : Progress). word (Numeral cs) ▸ ahead ts p.place) (sym g.stepped_is))

more_is_none : (w : Word) (n cs : List ℕ) (ss : Sexps) → is_end ss ≡ false → head_number (word (Reserved w) ▸ word (Symbol n) ▸ word (Numeral cs) ▸ ss) ≡ None
more_is_none w n cs end h = absurd (cc)
more_is_none Underscore n cs (x ▸ ss) h = refl
more_is_none w n cs (x ▸ ss) h = refl

-- something follows the number
no_divisor : (ts : List Token) (old a b c : Progress) (w : Word) (n cs : List ℕ) → Passes ts old a (Reserved w) → Passes ts a b (Symbol n) → Passes ts b c (Numeral cs) → is_end (ahead ts c.place) ≡ false
    → head_number (ahead ts old.place) ≡ None
no_divisor ts old a b c w n cs h k g e = ap head_number (divisor_shape ts old a b c w n cs h k g) ∙ more_is_none w n cs (ahead ts c.place) e

has_divisor : (ts : List Token) (old a b c : Progress) (w : Word) (n cs : List ℕ) → Passes ts old a (Reserved w) → Passes ts a b (Symbol n) → Passes ts b c (Numeral cs) → is_end (ahead ts c.place) ≡ true
    → w ≡ Underscore → n ≡ codes "divisible" → (head_number (ahead ts old.place) ≡ Some (decimal cs)) × (c.fits ≡ old.fits) × (c.near ≡ old.near)
has_divisor ts old a b c w n cs h k g e u d = (
  ap head_number (divisor_shape ts old a b c w n cs h k g) ∙ ap (λ ss. head_number (word (Reserved w) ▸ word (Symbol n) ▸ word (Numeral cs) ▸ ss)) (at_end (ahead ts c.place) e)
      ∙ ap (λ v. head_number (word (Reserved v) ▸ word (Symbol n) ▸ word (Numeral cs) ▸ end)) u ∙ ap (λ m. head_number (word (Reserved Underscore) ▸ word (Symbol m) ▸ word (Numeral cs) ▸ end)) d,
  ap (λ (p : Progress). p.fits) (g.stepped_is ∙ ap stepped (k.stepped_is ∙ ap stepped h.stepped_is)),
  ap (λ (p : Progress). p.near) (g.stepped_is ∙ ap stepped (k.stepped_is ∙ ap stepped h.stepped_is)),
)

pub divisor_alone : (ts : List Token) (old a b c : Progress) (w : Word) (n : List ℕ) (cs : Bor (List ℕ)) (o : Option (Bor (List ℕ))) → Passes ts old a (Reserved w) → Passes ts a b (Symbol n) → Passes ts b c (Numeral cs.now) → w ≡ Underscore
    → n ≡ codes "divisible" → o ≡ alone (ahead ts c.place) cs → HasDivisor ts old c o
divisor_alone ts old a b c w n cs o h k g u d = go (ahead ts c.place) refl
  where
    go : (ss : Sexps) → ahead ts c.place ≡ ss → o ≡ alone ss cs → HasDivisor ts old c o
    go end e f = subst (HasDivisor ts old c) (sym f) (has_divisor ts old a b c w n cs.now h k g (ap is_end e) u d)
    go (x ▸ ss) e f = subst (HasDivisor ts old c) (sym f) (no_divisor ts old a b c w n cs.now h k g (ap is_end e))

more_divided : (x y : Sexp) (ss : Sexps) → is_end ss ≡ false → divisibility (x ▸ y ▸ ss) ≡ None
more_divided x y end e = absurd (cc)
more_divided x y (t ▸ ss) e = refl

pub divided_alone : (ts : List Token) (old mid new : Progress) (k : Head) (i : ℕ) (o : Option (Head × ℕ)) → Takes ts divisor_head any any old k mid → Takes ts number any is_term_number mid i new → o ≡ alone (ahead ts new.place) (k, i) → HasDivided ts old new o
divided_alone ts old mid new k i o h g = go (ahead ts new.place) refl
  where
    go : (ss : Sexps) → ahead ts new.place ≡ ss → o ≡ alone ss (k, i) → HasDivided ts old new o
    go end e f = subst (HasDivided ts old new) (sym f) (record { middle = mid; head = h; argument = g; last = e })
    go (x ▸ ss) e f = subst (HasDivided ts old new) (sym f) (ap divisibility (h.is ∙ ap (λ rest. h.part ▸ rest) g.is) ∙ more_divided h.part g.part (ahead ts new.place) (ap is_end e))
