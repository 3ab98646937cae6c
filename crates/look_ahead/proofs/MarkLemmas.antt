-- Marking the ends of lists, one token after another.
use Rattle.std.proofs.Common.{inl, inr, ◌≡◌, ℕ, zero, suc, ◌+◌, ◌≤◌, ◌<◌, ◌≢◌, List, [], ◌∷◌, ◌++◌, ap, sym, subst, ◌∙◌, refl, drop, length, reverse, arith, get_or, slice_set, get_or-set_same, get_or-set_other, length-set}
use Rattle.std.proofs.lemmas.Bool.{cases_lt}
use Rattle.std.proofs.lemmas.List.{drop_all, reverse-append}
use Rattle.smt_meaning.specs.declared.tokens.Token.{Token}
use Rattle.smt_meaning.specs.declared.tokens.Token.TheVariants.{Enter, Leave}
use Rattle.smt_meaning.specs.declared.tokens.TokenView.{TokenView}
use Rattle.smt_meaning.specs.declared.tokens.TokenView.TheVariants.{Enter as EnterSeen, Leave as LeaveSeen}
use Rattle.smt_meaning.specs.Seen.{seen}
use Rattle.smt_meaning.specs.Sexp.{Sexps, word, group, end, ◌▸◌, before, open_lists_of, IsSexp, sexp}
use Rattle.smt_laws.specs.Walk.{first_list}
use Rattle.look_ahead.specs.Ahead.{ahead, IsInside, IsList, AreEnds}
use Rattle.look_ahead.specs.Marks.{behind, AreFrom, AreMarked}

-- ---- some list is open everywhere

inside_after : (t : Token) (lists : List Sexps) (inner : Sexps) (outer : List Sexps) → before t lists ≡ inner ∷ outer → (l : Sexps) × (m : List Sexps) × (lists ≡ l ∷ m)
inside_after Enter [] inner outer e = absurd (cc)
inside_after Leave [] inner outer e = absurd (cc)
inside_after _ [] inner outer e = absurd (cc)
inside_after t (l ∷ m) inner outer e = (l, m, refl)

pub inside_all : (ts : List Token) (i : ℕ) → IsInside ts 0 → IsInside ts i
inside_all ts zero h = h
inside_all [] (suc i) h = h
inside_all (t ∷ ts) (suc i) h =
    let w : (l : Sexps) × (m : List Sexps) × (open_lists_of ts ≡ l ∷ m) = inside_after t (open_lists_of ts) h.0 h.1 h.2 in
    inside_all ts i w

pub inside_sexp : (ts : List Token) (i : ℕ) → IsSexp ts → IsInside ts i
inside_sexp ts i e = inside_all ts i (sexp ts ▸ end, [], e)

-- ---- steps

from_less : (ts : List Token) (i : ℕ) (cs : List ℕ) → AreFrom ts (i + 1) cs → AreFrom ts i cs
from_less ts i [] h = tt
from_less ts i (c ∷ cs) h = (let le : i + 1 ≤ c = h.0 in omega arith, h.1, from_less ts i cs h.2)

reversed_more : (cs ds : List ℕ) (c : ℕ) → ds ≡ cs ++ c ∷ [] → reverse ds ≡ c ∷ reverse cs
reversed_more cs ds c e = ap reverse e ∙ reverse-append cs (c ∷ [])

abbrev HaveEnds : List Token → ℕ → List ℕ → Type 0
HaveEnds ts i ends = (j : ℕ) (rest : List Token) → i ≤ j → drop j ts ≡ Enter ∷ rest → IsList ts j (get_or ends j 0)

-- one more place
have_more : (ts : List Token) (i : ℕ) (ends : List ℕ) → ((rest : List Token) → drop i ts ≡ Enter ∷ rest → IsList ts i (get_or ends i 0)) → HaveEnds ts (i + 1) ends → HaveEnds ts i ends
have_more ts i ends here h j rest le e =
    elim (cases_lt i j) [
      | inl less ↦ h j rest (omega arith) e
      | inr not_less ↦ let same : i ≡ j = omega arith in subst (λ k. IsList ts k (get_or ends k 0)) same (here rest (ap (λ k. drop k ts) same ∙ e))
    ]

opens_here : (ts : List Token) (i : ℕ) (t : Token) (cs : List ℕ) → drop i ts ≡ t ∷ drop (i + 1) ts → open_lists_of (drop (i + 1) ts) ≡ ahead ts (i + 1) ∷ behind ts cs
    → open_lists_of (drop i ts) ≡ before t (ahead ts (i + 1) ∷ behind ts cs)
opens_here ts i t cs e h = ap open_lists_of e ∙ ap (before t) h

first_is : (ts : List Token) (i : ℕ) (l : Sexps) (lists : List Sexps) → open_lists_of (drop i ts) ≡ l ∷ lists → ahead ts i ≡ l
first_is ts i l lists e = ap first_list e

opened : (ts : List Token) (i : ℕ) (l : Sexps) (lists : List Sexps) → open_lists_of (drop i ts) ≡ l ∷ lists → open_lists_of (drop i ts) ≡ ahead ts i ∷ lists
opened ts i l lists e = e ∙ ap (λ x. x ∷ lists) (sym (first_is ts i l lists e))

pub leave_marked : (ts : List Token) (i : ℕ) (ends closing new : List ℕ) → i < length ts → drop i ts ≡ Leave ∷ drop (i + 1) ts → new ≡ closing ++ i ∷ [] → AreMarked ts (i + 1) ends closing → AreMarked ts i ends new
leave_marked ts i ends closing new lt here e h =
    let back : reverse new ≡ i ∷ reverse closing = reversed_more closing new i e in
    record {
      count = h.count;
      open_lists = opened ts i _ _ (opens_here ts i Leave (reverse closing) here h.open_lists) ∙ ap (λ cs. ahead ts i ∷ behind ts cs) (sym back);
      from = subst (AreFrom ts i) (sym back) (omega arith, lt, from_less ts i (reverse closing) h.from);
      lists = have_more ts i ends (λ rest f. absurd (cc)) h.lists;
    }

set_stays : (ts : List Token) (i close : ℕ) (ends : List ℕ) → HaveEnds ts (i + 1) ends → HaveEnds ts (i + 1) (slice_set ends i close)
set_stays ts i close ends h j rest le e = let other : j ≢ i = omega arith in subst (IsList ts j) (sym (get_or-set_other ends i j close 0 other)) (h j rest le e)

pub enter_marked : (ts : List Token) (i : ℕ) (ends closing popped : List ℕ) (close : ℕ) → i < length ts → drop i ts ≡ Enter ∷ drop (i + 1) ts → closing ≡ popped ++ close ∷ []
    → AreMarked ts (i + 1) ends closing → AreMarked ts i (slice_set ends i close) popped
enter_marked ts i ends closing popped close lt here e h =
    let back : reverse closing ≡ close ∷ reverse popped = reversed_more popped closing close e in
    let opens : open_lists_of (drop (i + 1) ts) ≡ ahead ts (i + 1) ∷ behind ts (close ∷ reverse popped) = h.open_lists ∙ ap (λ cs. ahead ts (i + 1) ∷ behind ts cs) back in
    let from : AreFrom ts (i + 1) (close ∷ reverse popped) = subst (AreFrom ts (i + 1)) back h.from in
    let now : open_lists_of (drop i ts) ≡ (group (ahead ts (i + 1)) ▸ ahead ts (close + 1)) ∷ behind ts (reverse popped) = opens_here ts i Enter (close ∷ reverse popped) here opens in
    let after : i + 1 ≤ close = from.0 in
    let is_list : IsList ts i close = record { order = omega arith; within = from.1; is = first_is ts i _ _ now } in
    let short : i < length ends = omega (arith, h.count) in
    record {
      count = length-set ends i close ∙ h.count;
      open_lists = opened ts i _ _ now;
      from = from_less ts i (reverse popped) from.2;
      lists = have_more ts i (slice_set ends i close) (λ rest f. subst (IsList ts i) (sym (get_or-set_same ends i close 0 short)) is_list) (set_stays ts i close ends h.lists);
    }

nothing_in : (xs : List ℕ) → length xs ≡ 0 → xs ≡ []
nothing_in [] e = refl
nothing_in (x ∷ xs) e = absurd (omega arith)

pub enter_nothing : (ts : List Token) (i : ℕ) (ends closing : List ℕ) → drop i ts ≡ Enter ∷ drop (i + 1) ts → length closing ≡ 0 → IsInside ts i → AreMarked ts (i + 1) ends closing → ⊥
enter_nothing ts i ends closing here e w h =
    let opens : open_lists_of (drop (i + 1) ts) ≡ ahead ts (i + 1) ∷ [] = h.open_lists ∙ ap (λ cs. ahead ts (i + 1) ∷ behind ts (reverse cs)) (nothing_in closing e) in
    let now : open_lists_of (drop i ts) ≡ [] = opens_here ts i Enter [] here opens in
    let some : open_lists_of (drop i ts) ≡ w.0 ∷ w.1 = w.2 in
    cc

no_list : (v : TokenView) → (v ≡ EnterSeen → ⊥) → (v ≡ LeaveSeen → ⊥) → (l : Sexps) (lists : List Sexps) → before (seen v) (l ∷ lists) ≡ (word (seen v) ▸ l) ∷ lists
no_list EnterSeen h k l lists = absurd (h refl)
no_list LeaveSeen h k l lists = absurd (k refl)
no_list _ h k l lists = refl

not_enter : (v : TokenView) → (v ≡ EnterSeen → ⊥) → seen v ≡ Enter → ⊥
not_enter EnterSeen h e = h refl
not_enter _ h e = absurd (cc)

pub word_marked : (ts : List Token) (i : ℕ) (ends closing : List ℕ) (v : TokenView) → drop i ts ≡ seen v ∷ drop (i + 1) ts → (v ≡ EnterSeen → ⊥) → (v ≡ LeaveSeen → ⊥)
    → AreMarked ts (i + 1) ends closing → AreMarked ts i ends closing
word_marked ts i ends closing v here h k m = record {
  count = m.count;
  open_lists = opened ts i _ _ (opens_here ts i (seen v) (reverse closing) here m.open_lists ∙ no_list v h k (ahead ts (i + 1)) (behind ts (reverse closing)));
  from = from_less ts i (reverse closing) m.from;
  lists = have_more ts i ends (λ rest f. absurd (not_enter v h (cc))) m.lists;
}

-- ---- all tokens

pub none_marked : (ts : List Token) (i : ℕ) (ends : List ℕ) → length ends ≡ length ts → length ts ≤ i → AreMarked ts i ends []
none_marked ts i ends e h =
    let nothing : drop i ts ≡ [] = drop_all i ts h in
    record {
      count = e;
      open_lists = opened ts i _ _ (ap open_lists_of nothing);
      from = tt;
      lists = λ j rest le f. let none : drop j ts ≡ [] = drop_all j ts (omega arith) in absurd (cc);
    }

pub all_marked : (ts : List Token) (ends closing : List ℕ) → IsSexp ts → AreMarked ts 0 ends closing → AreEnds ts ends
all_marked ts ends closing e h = record { count = h.count; inside = λ i. inside_sexp ts i e; lists = λ i rest f. h.lists i rest (omega arith) f }
