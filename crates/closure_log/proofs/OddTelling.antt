-- Parts whose truths all are told.
use Rattle.std.proofs.Common.{◌≡◌, ℕ, zero, suc, ◌⊎◌, inl, inr, Bool, true, false, not, List, [], ◌∷◌, ◌++◌, Contains, Option, Some, None, is_some, append-nil, subst, sym, ap, ◌∙◌, refl, arith}
use Rattle.std.specs.List.{AllZip}
use Rattle.std.proofs.lemmas.List.Elements.{All-contains, Contains-append_cases}
use Rattle.literals.specs.Signed.{Signed, opposite}
use Rattle.smt_meaning.specs.declared.clauses.Atom.{Atom}
use Rattle.smt_meaning.specs.declared.clauses.Atom.TheVariants.{Truth}
use Rattle.smt_meaning.specs.Term.{Tree}
use Rattle.atom_form.specs.AtomTableNumbers.{AreApart}
use Rattle.search_port.specs.State.{AllFalseIn, IsFalseIn, IsConsistent}
use Rattle.closure_log.specs.Odd.{is_odd, HasAgainst}
use Rattle.closure_log.specs.Parts.{IsWideXor, TellsTruth, KeepsXorAt}
use Rattle.closure_log.specs.Read.{IsUntold, LacksOne, HasOpen, IsRead}
use Rattle.closure_log.proofs.Reading.{one_place, open_untold}
use Rattle.closure_log.proofs.Scanning.{same_or_not, same_signed}

-- ---- one that isn't told

pub lacks : (table : List Atom) (log : List Signed) (ps : List ℕ) (bs : List Bool) (q : ℕ) → Contains ps q → IsUntold table log q → AllZip (TellsTruth table log) ps bs → ⊥
lacks table log [] bs q c untold h = none c
  where
    none : Contains [] q → ⊥
    none k = omega arith
lacks table log (p ∷ ps) [] q c untold h = absurd h
lacks table log (p ∷ ps) (b ∷ bs) q c untold h = elim (Contains-append_cases (p ∷ []) ps q c) [
  | inl here ↦ untold b (subst (λ r. TellsTruth table log r b) (only p q here) h.0)
  | inr there ↦ lacks table log ps bs q there untold h.1
]
  where
    only : (p q : ℕ) → Contains (p ∷ []) q → p ≡ q
    only p q (zero, less, e) = e
    only p q (suc k, less, e) = absurd (omega arith)

pub keeps_lacking : (ts : List Tree) (table : List Atom) (log : List Signed) (p : ℕ) (args : List ℕ) → ((js : List ℕ) → IsWideXor ts p js → js ≡ args) → LacksOne table log (p ∷ args) → KeepsXorAt ts table log p
keeps_lacking ts table log p args one lacking is bs x told =
    absurd (lacks table log (p ∷ args) bs lacking.0 lacking.1 lacking.2 (subst (λ (js : List ℕ). AllZip (TellsTruth table log) (p ∷ js) bs) (one is x) told))

pub keeps_open : (ts : List Tree) (table : List Atom) (log : List Signed) (p : ℕ) (args : List ℕ) (l : Signed) → AreApart table → ((js : List ℕ) → IsWideXor ts p js → js ≡ args) → HasOpen table log (p ∷ args) l → KeepsXorAt ts table log p
keeps_open ts table log p args l apart one h = keeps_lacking ts table log p args one (h.place, h.among, open_untold table log h.place l apart h.is)

-- ---- all told

twice_not : (b : Bool) → not (not b) ≡ b
twice_not true = refl
twice_not false = refl

module _ (table : List Atom) (log ls : List Signed) (apart : AreApart table) (consistent : IsConsistent log) (is_false : AllFalseIn log ls) where
  -- the truth told is that which the clause is against
  one_truth : (q : ℕ) (b d : Bool) → HasAgainst table ls q d → TellsTruth table log q b → b ≡ d
  one_truth q b d has told =
      let l : Signed = told.literal in
      let m : Signed = has.literal in
      let against : Contains log (opposite m) = All-contains (IsFalseIn log) ls m is_false has.among in
      let one : l.atom ≡ m.atom = one_place table l.atom m.atom (Truth q) apart told.at has.against.at in
      elim (same_or_not l.positive m.positive) [
        | inl same ↦ absurd (consistent m (subst (Contains log) (same_signed l m one same) told.told) against)
        | inr other ↦ sym told.sign ∙ (other ∙ (ap not has.against.sign ∙ twice_not d))
      ]

  one_list : (qs : List ℕ) (bs ds : List Bool) → AllZip (HasAgainst table ls) qs ds → AllZip (TellsTruth table log) qs bs → bs ≡ ds
  one_list [] [] [] h k = refl
  one_list [] [] (d ∷ ds) h k = absurd h
  one_list [] (b ∷ bs) ds h k = absurd k
  one_list (q ∷ qs) [] ds h k = absurd k
  one_list (q ∷ qs) (b ∷ bs) [] h k = absurd h
  one_list (q ∷ qs) (b ∷ bs) (d ∷ ds) h k = ap (λ x. x ∷ bs) (one_truth q b d h.0 k.0) ∙ ap (λ xs. d ∷ xs) (one_list qs bs ds h.1 k.1)

pub keeps_even : (ts : List Tree) (table : List Atom) (log : List Signed) (p : ℕ) (args : List ℕ) (ls : List Signed) → AreApart table → IsConsistent log → ((js : List ℕ) → IsWideXor ts p js → js ≡ args)
    → IsRead table log (p ∷ args) ls None false → KeepsXorAt ts table log p
keeps_even ts table log p args ls apart consistent one read is bs x told =
    let here : AllZip (TellsTruth table log) (p ∷ args) bs = subst (λ (js : List ℕ). AllZip (TellsTruth table log) (p ∷ js) bs) (one is x) told in
    let h = read.against true in
    let none : AllFalseIn log (ls ++ []) = subst (AllFalseIn log) (sym (append-nil ls)) read.is_false in
    ap is_odd (one_list table log (ls ++ []) apart consistent none (p ∷ args) bs h.truths h.against here) ∙ h.count

-- where one is open, or an even count of the truths told is true
pub keeps_read : (ts : List Tree) (table : List Atom) (log : List Signed) (p : ℕ) (args : List ℕ) (ls : List Signed) (o : Option Signed) (odd : Bool) → AreApart table → IsConsistent log
    → ((js : List ℕ) → IsWideXor ts p js → js ≡ args) → IsRead table log (p ∷ args) ls o odd → (is_some o ≡ true) ⊎ (odd ≡ false) → KeepsXorAt ts table log p
keeps_read ts table log p args ls (Some l) odd apart consistent one read why = keeps_open ts table log p args l apart one read.has_open
keeps_read ts table log p args ls None odd apart consistent one read (inl some) = absurd cc
keeps_read ts table log p args ls None odd apart consistent one read (inr even) =
    keeps_even ts table log p args ls apart consistent one (subst (λ (b : Bool). IsRead table log (p ∷ args) ls None b) even read)
