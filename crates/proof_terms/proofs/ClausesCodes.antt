-- Codes of literals, and clauses that are kept.
use Rattle.std.proofs.Common.{◌≡◌, ℕ, zero, suc, Bool, ◌+◌, ◌*◌, ◌<◌, List, [], ◌∷◌, ◌++◌, length, get_or, take, sym, ap, subst, ◌∙◌, inl, inr, arith, refl}
use Rattle.std.specs.Prelude.{Contains, ◌⊎◌}
use Rattle.std.proofs.lemmas.List.{append-nil, append_assoc, get_or_append_left, length-append, take_more}
use Rattle.std.proofs.lemmas.List.Elements.{Contains-append_left, Contains-append_right, Contains-append_cases}
use Rattle.smt_meaning.specs.declared.clauses.Atom.{Atom}
use Rattle.smt_meaning.specs.declared.clauses.Literal.{Literal}
use Rattle.proof_meaning.specs.Proof.{literal}
use Rattle.proof_meaning.specs.Rules.{clause_at}
use Rattle.atom_form.specs.AtomNumbersAtoms.{Numbers}
use Rattle.proof_terms.specs.Kept.{Kept, IsCodeOf, AreCodesOf, IsKept, AreKept, KeepsAll, GoOn, sign_code}
use Rattle.proof_terms.specs.ClausesLaid.{IsSetOf}

-- ---- numbers stay

pub go_on_none : (old new : List Atom) → new ≡ old → GoOn old new
go_on_none old new e = ([], e ∙ sym (append-nil old))

pub go_on_both : (a b c : List Atom) → GoOn a b → GoOn b c → GoOn a c
go_on_both a b c (x, e) (y, f) = (x ++ y, f ∙ ap (λ xs. xs ++ y) e ∙ append_assoc a x y)

pub go_on_numbers : (old new : List Atom) (a : Atom) (k : ℕ) → Numbers old new a k → GoOn old new
go_on_numbers old new a k n = by n.others
  where
    by : (new ≡ old) ⊎ ((new ≡ old ++ a ∷ []) × (Contains old a → ⊥)) → GoOn old new
    by (inl e) = go_on_none old new e
    by (inr (e, f)) = (a ∷ [], e)

pub code_numbers : (old new : List Atom) (b : Bool) (a : Atom) (k c : ℕ) → Numbers old new a k → c ≡ k * 2 + sign_code b → IsCodeOf new c (literal b a)
code_numbers old new b a k c n e = record { number = k; within = n.at.0; code_is = e; atom = n.at.1 }

pub code_goes_on : (old new : List Atom) (c : ℕ) (l : Literal) → GoOn old new → IsCodeOf old c l → IsCodeOf new c l
code_goes_on old new c l (more, e) h = record {
  number = h.number;
  within = subst (λ (xs : List Atom). h.number < length xs) (sym e) (omega (arith, h.within, length-append old more));
  code_is = h.code_is;
  atom = λ d. ap (λ (xs : List Atom). get_or xs h.number d) e ∙ get_or_append_left old more d h.number h.within ∙ h.atom d;
}

pub codes_go_on : (old new : List Atom) (cs : List ℕ) (ls : List Literal) → ((c : ℕ) (l : Literal) → IsCodeOf old c l → IsCodeOf new c l) → AreCodesOf old cs ls → AreCodesOf new cs ls
codes_go_on old new cs ls on a = record {
  coded = λ l h. let w = a.coded l h in (w.0, (on w.0 l w.1.0, w.1.1));
  of_literals = λ c h. let w = a.of_literals c h in (w.0, (on c w.0 w.1.0, w.1.1));
}

is_kept_on : (old new : List Atom) (cs : List ℕ) (ls : List Literal) → GoOn old new → IsKept old cs ls → IsKept new cs ls
is_kept_on old new cs ls g k = record { ascending = k.ascending; are_codes = codes_go_on old new cs ls (λ c l h. code_goes_on old new c l g h) k.are_codes }

are_kept_on : (old new : List Atom) (css : List (List ℕ)) (lss : List (List Literal)) → GoOn old new → AreKept old css lss → AreKept new css lss
are_kept_on old new [] [] g k = tt
are_kept_on old new (cs ∷ css) (ls ∷ lss) g k = (is_kept_on old new cs ls g k.0, are_kept_on old new css lss g k.1)
are_kept_on old new [] (ls ∷ lss) g k = absurd k
are_kept_on old new (cs ∷ css) [] g k = absurd k

pub kept_on : (old new : Kept) → GoOn old.atoms new.atoms → new.clauses ≡ old.clauses → (before : List (List Literal)) → KeepsAll old before → KeepsAll new before
kept_on old new g e before k = subst (λ (css : List (List ℕ)). AreKept new.atoms css before) (sym e) (are_kept_on old.atoms new.atoms old.clauses before g k)

-- ---- a clause more

are_kept_push : (atoms : List Atom) (css : List (List ℕ)) (lss : List (List Literal)) (cs : List ℕ) (ls : List Literal) → AreKept atoms css lss → IsKept atoms cs ls → AreKept atoms (css ++ cs ∷ []) (lss ++ ls ∷ [])
are_kept_push atoms [] [] cs ls k one = (one, tt)
are_kept_push atoms (x ∷ css) (y ∷ lss) cs ls k one = (k.0, are_kept_push atoms css lss cs ls k.1 one)
are_kept_push atoms [] (y ∷ lss) cs ls k one = absurd k
are_kept_push atoms (x ∷ css) [] cs ls k one = absurd k

pub kept_push : (old new : Kept) (cs : List ℕ) (ls : List Literal) → new.atoms ≡ old.atoms → new.clauses ≡ old.clauses ++ cs ∷ [] → (before : List (List Literal)) → KeepsAll old before → IsKept old.atoms cs ls → KeepsAll new (before ++ ls ∷ [])
kept_push old new cs ls a e before k one =
    subst (λ (css : List (List ℕ)). AreKept new.atoms css (before ++ ls ∷ [])) (sym e)
    (subst (λ (atoms : List Atom). AreKept atoms (old.clauses ++ cs ∷ []) (before ++ ls ∷ [])) (sym a) (are_kept_push old.atoms old.clauses before cs ls k one))

pub set_is_kept : (atoms : List Atom) (codes set : List ℕ) (ls : List Literal) → IsSetOf codes set → AreCodesOf atoms codes ls → IsKept atoms set ls
set_is_kept atoms codes set ls s a = record {
  ascending = s.ascending;
  are_codes = record {
    coded = λ l h. let w = a.coded l h in (w.0, (w.1.0, s.keeps w.0 w.1.1));
    of_literals = λ c h. a.of_literals c (s.adds_none c h);
  };
}

pub kept_length : (atoms : List Atom) (css : List (List ℕ)) (lss : List (List Literal)) → AreKept atoms css lss → length lss ≡ length css
kept_length atoms [] [] k = refl
kept_length atoms (cs ∷ css) (ls ∷ lss) k = ap suc (kept_length atoms css lss k.1)
kept_length atoms [] (ls ∷ lss) k = absurd k
kept_length atoms (cs ∷ css) [] k = absurd k

pub kept_at : (atoms : List Atom) (css : List (List ℕ)) (lss : List (List Literal)) (p : ℕ) → AreKept atoms css lss → p < length css → IsKept atoms (get_or css p []) (clause_at lss p)
kept_at atoms [] lss p k h = absurd (omega arith)
kept_at atoms (cs ∷ css) (ls ∷ lss) zero k h = k.0
kept_at atoms (cs ∷ css) (ls ∷ lss) (suc p) k h = kept_at atoms css lss p k.1 (omega arith)
kept_at atoms (cs ∷ css) [] p k h = absurd k

-- ---- codes of a list

pub no_codes : (atoms : List Atom) → AreCodesOf atoms [] []
no_codes atoms = record {
  coded = λ l h. let few : h.0 < 0 = h.1 in absurd (omega arith);
  of_literals = λ c h. let few : h.0 < 0 = h.1 in absurd (omega arith);
}

pub codes_append : (atoms : List Atom) (cs ds : List ℕ) (ls ms : List Literal) → AreCodesOf atoms cs ls → AreCodesOf atoms ds ms → AreCodesOf atoms (cs ++ ds) (ls ++ ms)
codes_append atoms cs ds ls ms a b = record {
  coded = λ l h. first l (Contains-append_cases ls ms l h);
  of_literals = λ c h. second c (Contains-append_cases cs ds c h);
}
  where
    first : (l : Literal) → Contains ls l ⊎ Contains ms l → (c : ℕ) × (IsCodeOf atoms c l × Contains (cs ++ ds) c)
    first l (inl h) = let w = a.coded l h in (w.0, (w.1.0, Contains-append_left cs ds w.0 w.1.1))
    first l (inr h) = let w = b.coded l h in (w.0, (w.1.0, Contains-append_right cs ds w.0 w.1.1))

    second : (c : ℕ) → Contains cs c ⊎ Contains ds c → (l : Literal) × (IsCodeOf atoms c l × Contains (ls ++ ms) l)
    second c (inl h) = let w = a.of_literals c h in (w.0, (w.1.0, Contains-append_left ls ms w.0 w.1.1))
    second c (inr h) = let w = b.of_literals c h in (w.0, (w.1.0, Contains-append_right ls ms w.0 w.1.1))

pub one_code : (atoms : List Atom) (c : ℕ) (l : Literal) → IsCodeOf atoms c l → AreCodesOf atoms (c ∷ []) (l ∷ [])
one_code atoms c l h = record {
  coded = λ m w. (c, (subst (λ (x : Literal). IsCodeOf atoms c x) (same_literal m w) h, (0, (omega arith), refl)));
  of_literals = λ d w. (l, (subst (λ (x : ℕ). IsCodeOf atoms x l) (same_code d w) h, (0, (omega arith), refl)));
}
  where
    same_literal : (m : Literal) → Contains (l ∷ []) m → l ≡ m
    same_literal m (zero, b, e) = e
    same_literal m (suc k, b, e) = absurd (omega arith)

    same_code : (d : ℕ) → Contains (c ∷ []) d → c ≡ d
    same_code d (zero, b, e) = e
    same_code d (suc k, b, e) = absurd (omega arith)

pub codes_push : (atoms : List Atom) (cs : List ℕ) (ls : List Literal) (c : ℕ) (l : Literal) → AreCodesOf atoms cs ls → IsCodeOf atoms c l → AreCodesOf atoms (cs ++ c ∷ []) (ls ++ l ∷ [])
codes_push atoms cs ls c l a h = codes_append atoms cs (c ∷ []) ls (l ∷ []) a (one_code atoms c l h)

pub codes_cons : (atoms : List Atom) (cs : List ℕ) (ls : List Literal) (c : ℕ) (l : Literal) → IsCodeOf atoms c l → AreCodesOf atoms cs ls → AreCodesOf atoms (c ∷ cs) (l ∷ ls)
codes_cons atoms cs ls c l h a = codes_append atoms (c ∷ []) cs (l ∷ []) ls (one_code atoms c l h) a

-- ---- of the clauses as they are seen

pub kept_on_seen : (seen now new : Kept) → seen ≡ now → GoOn seen.atoms new.atoms → new.clauses ≡ seen.clauses → (before : List (List Literal)) → KeepsAll now before → KeepsAll new before
kept_on_seen seen now new v g e before k = kept_on seen new g e before (subst (λ (x : Kept). KeepsAll x before) (sym v) k)

pub set_kept : (seen now new : Kept) (codes set clause : List ℕ) → seen ≡ now → new.atoms ≡ seen.atoms → IsSetOf codes set → clause ≡ set → new.clauses ≡ seen.clauses ++ clause ∷ []
    → (before : List (List Literal)) (ls : List Literal) → KeepsAll now before → AreCodesOf now.atoms codes ls → KeepsAll new (before ++ ls ∷ [])
set_kept seen now new codes set clause v a s f e before ls k of =
    kept_push seen new clause ls a e before (subst (λ (x : Kept). KeepsAll x before) (sym v) k)
    (subst (λ (xs : List ℕ). IsKept seen.atoms xs ls) (sym f) (set_is_kept seen.atoms codes set ls s (subst (λ (x : Kept). AreCodesOf x.atoms codes ls) (sym v) of)))

-- a code joins a list
pub codes_joined : (old new : List Atom) (cs ds : List ℕ) (c : ℕ) (l : Literal) → ((c : ℕ) (l : Literal) → IsCodeOf old c l → IsCodeOf new c l) → IsCodeOf new c l → ds ≡ cs ++ c ∷ []
    → (ls : List Literal) → AreCodesOf old cs ls → AreCodesOf new ds (ls ++ l ∷ [])
codes_joined old new cs ds c l on code e ls a = subst (λ (xs : List ℕ). AreCodesOf new xs (ls ++ l ∷ [])) (sym e) (codes_push new cs ls c l (codes_go_on old new cs ls on a) code)

-- the codes of the literals before a place, and one more
pub codes_more : (new : List Atom) (ds : List ℕ) (ls : List Literal) (i : ℕ) (l : Literal) → i < length ls → l ≡ get_or ls i l → AreCodesOf new ds (take i ls ++ l ∷ []) → AreCodesOf new ds (take (i + 1) ls)
codes_more new ds ls i l h read a = subst (λ (ms : List Literal). AreCodesOf new ds ms) (ap (λ (m : Literal). take i ls ++ m ∷ []) read ∙ sym (take_more ls i l h)) a
