-- The bounds that literals say, with a literal more and with some less.
use Rattle.std.proofs.Common.{◌≡◌, ℕ, ◌+◌, ◌<◌, ◌≤◌, ◌^◌, List, [], ◌∷◌, ◌++◌, length, take, drop, min, refl, sym, ap, ap₂, ◌∙◌, subst, inl, inr, arith}
use Rattle.std.specs.Prelude.{slice_index_or, All}
use Rattle.std.proofs.lemmas.Bool.{cases_lt}
use Rattle.std.proofs.lemmas.List.{append_assoc, length-take, length_push, get_or_append_left, get_or_push, get_or-take, take-take, take-append-le, take_at, take-append-drop}
use Rattle.std.proofs.lemmas.List.Elements.{All-head, All-tail, All-weaker, All-push, All-take}
use Rattle.literals.specs.Signed.{Signed}
use Rattle.sum_bounds.specs.Bounds as Bounds
use Rattle.sum_bounds.specs.Bounds.{Told}
use Rattle.bound_log.specs.declared.said.Said.{Said}
use Rattle.bound_log.specs.declared.said.Said.TheVariants.{Nothing, Bound}
use Rattle.bound_log.specs.Told.{said_at, told_by, all_told, IsKnown, AreNumbered, IsCore, IsState}

-- ---- lists

pub no_more : {A : Type 0} (xs : List A) → xs ++ [] ≡ xs
no_more [] = refl
no_more (x ∷ xs) = ap (λ ys. x ∷ ys) (no_more xs)

-- ---- what literals say

pub told_of_two : (said : List Said) (ls ms : List Signed) → all_told said (ls ++ ms) ≡ all_told said ls ++ all_told said ms
told_of_two said [] ms = refl
told_of_two said (l ∷ ls) ms =
    ap (λ ts. told_by (said_at said l.atom) l ++ ts) (told_of_two said ls ms)
    ∙ sym (append_assoc (told_by (said_at said l.atom) l) (all_told said ls) (all_told said ms))

pub told_of_more : (said : List Said) (ls : List Signed) (l : Signed) → all_told said (ls ++ l ∷ []) ≡ all_told said ls ++ told_by (said_at said l.atom) l
told_of_more said ls l = told_of_two said ls (l ∷ []) ∙ ap (λ ts. all_told said ls ++ ts) (no_more (told_by (said_at said l.atom) l))

-- the first literals say the first bounds
pub told_of_first : (said : List Said) (log : List Signed) (count : ℕ) → take (length (all_told said (take count log))) (all_told said log) ≡ all_told said (take count log)
told_of_first said log count =
    ap (take (length (all_told said (take count log)))) (ap (all_told said) (sym (take-append-drop count log)) ∙ told_of_two said (take count log) (drop count log))
    ∙ take_at (all_told said (take count log)) (all_told said (drop count log)) (length (all_told said (take count log))) refl

-- what is said of atoms more says nothing of these literals
pub told_where_more : (said more : List Said) (log : List Signed) → AreNumbered (length said) log → all_told (said ++ more) log ≡ all_told said log
told_where_more said more [] h = refl
told_where_more said more (l ∷ ls) h =
    ap₂ (λ (s : Said) (ts : List Told). told_by s l ++ ts) (get_or_append_left said more Nothing l.atom (All-head (λ (m : Signed). m.atom < length said) l ls h))
    (told_where_more said more ls (All-tail (λ (m : Signed). m.atom < length said) l ls h))

-- ---- the invariant

still_known : (m n : ℕ) (s : Said) → m ≤ n → IsKnown m s → IsKnown n s
still_known m n Nothing le h = tt
still_known m n (Bound v k) le h = (let less = h.0 in omega arith, h.1)

pub core_kept : (b c : Bounds.State) (said : List Said) (log : List Signed) (starts : List ℕ) → IsCore b said log starts → length b.columns ≤ length c.columns → c.told ≡ b.told → IsCore c said log starts
core_kept b c said log starts h le told = record {
  few = h.few;
  known = All-weaker (IsKnown (length b.columns)) (IsKnown (length c.columns)) (λ s k. still_known (length b.columns) (length c.columns) s le k) said h.known;
  numbered = h.numbered;
  told = told ∙ h.told;
  counted = h.counted;
}

-- an atom more
pub core_more : (b : Bounds.State) (said now : List Said) (log : List Signed) (starts : List ℕ) (one : Said) → IsCore b said log starts → now ≡ said ++ one ∷ [] → length now ≤ 2 ^ 31
    → IsKnown (length b.columns) one → IsCore b now log starts
core_more b said now log starts one h is few known = record {
  few = few;
  known = subst (All (IsKnown (length b.columns))) (sym is) (All-push (IsKnown (length b.columns)) said one h.known known);
  numbered = All-weaker (λ (l : Signed). l.atom < length said) (λ (l : Signed). l.atom < length now) (λ l less. omega (arith, less, ap length is, length_push said one)) log h.numbered;
  told = h.told ∙ same log h.numbered;
  counted = record {
    as_many = h.counted.as_many;
    each = λ k less. h.counted.each k less ∙ ap length (same (take k log) (All-take (λ (l : Signed). l.atom < length said) k log h.numbered));
  };
}
  where
    same : (ls : List Signed) → AreNumbered (length said) ls → all_told said ls ≡ all_told now ls
    same ls n = sym (told_where_more said (one ∷ []) ls n) ∙ ap (λ (xs : List Said). all_told xs ls) (sym is)

-- a literal more
pub core_told : (b c : Bounds.State) (said : List Said) (log now : List Signed) (starts now_starts : List ℕ) (l : Signed) → IsCore b said log starts → l.atom < length said
    → length c.columns ≡ length b.columns → c.told ≡ b.told ++ told_by (said_at said l.atom) l → now ≡ log ++ l ∷ [] → now_starts ≡ starts ++ length b.told ∷ [] → IsCore c said now now_starts
core_told b c said log now starts now_starts l h number count told is is_starts =
    subst (λ (ls : List Signed). IsCore c said ls now_starts) (sym is)
    (subst (λ (ns : List ℕ). IsCore c said (log ++ l ∷ []) ns) (sym is_starts) (record {
      few = h.few;
      known = subst (λ n. All (IsKnown n) said) (sym count) h.known;
      numbered = All-push (λ (m : Signed). m.atom < length said) log l h.numbered number;
      told = told ∙ ap (λ ts. ts ++ told_by (said_at said l.atom) l) h.told ∙ sym (told_of_more said log l);
      counted = record {
        as_many = length_push starts (length b.told) ∙ ap (λ n. n + 1) h.counted.as_many ∙ sym (length_push log l);
        each = λ k less. elim (cases_lt k (length log)) [
          | inl before ↦
              let short : k < length starts = omega (arith, h.counted.as_many) in
              get_or_append_left starts (length b.told ∷ []) 0 k short ∙ h.counted.each k before
              ∙ ap (λ ls. length (all_told said ls)) (sym (take-append-le k log (l ∷ []) (omega arith)))
          | inr past ↦
              let last : length log ≡ k = omega (arith, length_push log l) in
              get_or_push starts (length b.told) 0 k (h.counted.as_many ∙ last) ∙ ap length h.told
              ∙ ap (λ ls. length (all_told said ls)) (sym (take_at log (l ∷ []) k last))
        ];
      };
    }))

-- the first literals alone
pub core_undone : (b c : Bounds.State) (said : List Said) (log now : List Signed) (starts now_starts : List ℕ) (count start : ℕ) → IsCore b said log starts → count < length starts
    → start ≡ slice_index_or starts count 0 → length c.columns ≡ length b.columns → c.told ≡ take start b.told → now ≡ take count log → now_starts ≡ take count starts → IsCore c said now now_starts
core_undone b c said log now starts now_starts count start h less at columns told is is_starts =
    subst (λ (ls : List Signed). IsCore c said ls now_starts) (sym is)
    (subst (λ (ns : List ℕ). IsCore c said (take count log) ns) (sym is_starts) (record {
      few = h.few;
      known = subst (λ n. All (IsKnown n) said) (sym columns) h.known;
      numbered = All-take (λ (m : Signed). m.atom < length said) count log h.numbered;
      told =
          let here : start ≡ length (all_told said (take count log)) = at ∙ h.counted.each count (omega (arith, h.counted.as_many)) in
          told ∙ ap₂ (λ (n : ℕ) (ts : List Told). take n ts) here h.told ∙ told_of_first said log count;
      counted = record {
        as_many = length-take count starts ∙ ap (min count) h.counted.as_many ∙ sym (length-take count log);
        each = λ k lt.
            let short : length (take count log) ≡ min count (length log) = length-take count log in
            let below : k < count = omega arith in
            let inside : k < length log = omega arith in
            get_or-take count starts k 0 below ∙ h.counted.each k inside ∙ ap (λ ls. length (all_told said ls)) (sym (take-take k count log (omega arith)));
      };
    }))

pub state_is : (b : Bounds.State) (said : List Said) (log : List Signed) (starts : List ℕ) → Bounds.IsState b → IsCore b said log starts → IsState (record { bounds = b; said = said; log = log })
state_is b said log starts state h = record { bounds = state; few = h.few; known = h.known; numbered = h.numbered; told = h.told }
