-- Lists of classes after one more change, and as they are kept.
use Rattle.std.proofs.Common.{◌≡◌, ◌≢◌, ℕ, zero, suc, ◌-◌, ◌<◌, ◌≤◌, Bool, true, false, nat_eq, List, [], ◌∷◌, ◌++◌, length, take, get_or, set, All, refl, sym, ap, ◌∙◌, subst, inl, inr, arith}
use Rattle.std.specs.Prelude.{if◌then◌else◌, Vec, Result, Ok, Err, is_ok, OnOk, OnErr}
use Rattle.std.proofs.lemmas.Bool.{cases_eq, eq-eqb}
use Rattle.std.proofs.lemmas.Bool.Decides.{eqb_tells}
use Rattle.std.proofs.lemmas.List.{get_or_append_left, length_push, length-append, length-set, take_at}
use Rattle.std.proofs.lemmas.List.Elements.{All-push}
use Rattle.point_closure.specs.declared.lists.Change.{Change}
use Rattle.point_closure.specs.declared.lists.Change.TheVariants.{Put, Join}
use Rattle.point_closure.specs.Lists.{changed, list_from, list_of, items_at, IsChangeOf, AreLists}

list_from_push : (f : ℕ → List ℕ) (cs : List Change) (c : Change) (r : ℕ) → list_from f (cs ++ c ∷ []) r ≡ changed (list_from f cs) c r
unfolding list_from
list_from_push f [] (Put k x) r = refl
list_from_push f [] (Join k g) r = refl
list_from_push f (d ∷ ds) c r = list_from_push (changed f d) ds c r

pub list_push : (cs : List Change) (c : Change) (r : ℕ) → list_of (cs ++ c ∷ []) r ≡ changed (list_of cs) c r
list_push cs c r = list_from_push (λ n. []) cs c r

pub no_list : (r : ℕ) → list_of [] r ≡ []
unfolding list_from
no_list r = refl

pub put_here : (f : ℕ → List ℕ) (c x r : ℕ) → r ≡ c → changed f (Put c x) r ≡ f r ++ x ∷ []
put_here f c x r e = ap (λ (b : Bool). if b then f r ++ x ∷ [] else f r) (eq-eqb r c e)

pub put_other : (f : ℕ → List ℕ) (c x r : ℕ) → r ≢ c → changed f (Put c x) r ≡ f r
put_other f c x r other = elim (eqb_tells r c) [
  | inl equal ↦ absurd (other equal.1)
  | inr unequal ↦ ap (λ (b : Bool). if b then f r ++ x ∷ [] else f r) unequal.0
]

pub join_here : (f : ℕ → List ℕ) (k g r : ℕ) → r ≡ k → changed f (Join k g) r ≡ f r ++ f g
join_here f k g r e = ap (λ (b : Bool). if b then f r ++ f g else f r) (eq-eqb r k e)

pub join_other : (f : ℕ → List ℕ) (k g r : ℕ) → r ≢ k → changed f (Join k g) r ≡ f r
join_other f k g r other = elim (eqb_tells r k) [
  | inl equal ↦ absurd (other equal.1)
  | inr unequal ↦ ap (λ (b : Bool). if b then f r ++ f g else f r) unequal.0
]

-- ---- lists in a list

pub items_set : {Z : Type 0} (vs : List (Vec ℕ Z)) (i : ℕ) (v : Vec ℕ Z) → i < length vs → items_at (set vs i v) i ≡ v.items
items_set [] i v less = absurd (omega arith)
items_set (w ∷ ws) zero v less = refl
items_set (w ∷ ws) (suc i) v less = items_set ws i v (omega arith)

pub items_set_other : {Z : Type 0} (vs : List (Vec ℕ Z)) (i r : ℕ) (v : Vec ℕ Z) → r ≢ i → items_at (set vs i v) r ≡ items_at vs r
items_set_other [] i r v other = refl
items_set_other (w ∷ ws) zero zero v other = absurd (other refl)
items_set_other (w ∷ ws) zero (suc r) v other = refl
items_set_other (w ∷ ws) (suc i) zero v other = refl
items_set_other (w ∷ ws) (suc i) (suc r) v other = items_set_other ws i r v (λ e. other (ap suc e))

pub items_get : {Z : Type 0} (vs : List (Vec ℕ Z)) (i : ℕ) (d : Vec ℕ Z) → i < length vs → items_at vs i ≡ (get_or vs i d).items
items_get [] i d less = absurd (omega arith)
items_get (w ∷ ws) zero d less = refl
items_get (w ∷ ws) (suc i) d less = items_get ws i d (omega arith)

pub items_push : {Z : Type 0} (vs : List (Vec ℕ Z)) (v : Vec ℕ Z) (r : ℕ) → v.items ≡ [] → items_at (vs ++ v ∷ []) r ≡ items_at vs r
items_push [] v zero e = e
items_push [] v (suc r) e = refl
items_push (w ∷ ws) v zero e = refl
items_push (w ∷ ws) v (suc r) e = items_push ws v r e

-- ---- as they are kept

changed_same : (f g : ℕ → List ℕ) (c : Change) (r : ℕ) → ((s : ℕ) → f s ≡ g s) → changed f c r ≡ changed g c r
changed_same f g (Put k x) r e = ap (λ (l : List ℕ). if nat_eq r k then l ++ x ∷ [] else l) (e r)
changed_same f g (Join k j) r e = ap (λ (l : List ℕ). if nat_eq r k then l ++ f j else l) (e r) ∙ ap (λ (l : List ℕ). if nat_eq r k then g r ++ l else g r) (e j)

pub no_lists : {Z : Type 0} → AreLists {Z = Z} [] []
no_lists = record { changes = λ k d less. absurd (omega arith); items = λ r. sym (no_list r) }

change_wider : (m n : ℕ) (c : Change) → m ≤ n → IsChangeOf m c → IsChangeOf n c
change_wider m n (Put k x) le is = omega arith
change_wider m n (Join k g) le is = (let h : k < m = is.0 in omega arith, let h : g < m = is.1 in omega arith, is.2)

pub changes_wider : (m n : ℕ) (cs : List Change) → m ≤ n → All (IsChangeOf m) cs → All (IsChangeOf n) cs
changes_wider m n cs le all k d less = change_wider m n (get_or cs k d) le (all k d less)

pub lists_class : {Z : Type 0} (vs : List (Vec ℕ Z)) (cs : List Change) (v : Vec ℕ Z) → AreLists vs cs → v.items ≡ [] → AreLists (vs ++ v ∷ []) cs
lists_class vs cs v is e = record {
  changes = changes_wider (length vs) (length (vs ++ v ∷ [])) cs (omega (arith, length_push vs v)) is.changes;
  items = λ r. items_push vs v r e ∙ is.items r;
}

pub lists_change : {Z : Type 0} (vs ws : List (Vec ℕ Z)) (cs : List Change) (c : Change) → AreLists vs cs → IsChangeOf (length vs) c → length ws ≡ length vs
    → ((r : ℕ) → items_at ws r ≡ changed (items_at vs) c r) → AreLists ws (cs ++ c ∷ [])
lists_change vs ws cs c is of count e = record {
  changes = subst (λ n. All (IsChangeOf n) (cs ++ c ∷ [])) (sym count) (All-push (IsChangeOf (length vs)) cs c is.changes of);
  items = λ r. e r ∙ changed_same (items_at vs) (list_of cs) c r is.items ∙ sym (list_push cs c r);
}

pub lists_revert : {Z : Type 0} (vs ws : List (Vec ℕ Z)) (cs : List Change) (c : Change) → AreLists vs (cs ++ c ∷ []) → length ws ≡ length vs
    → ((before : ℕ → List ℕ) → ((r : ℕ) → items_at vs r ≡ changed before c r) → (r : ℕ) → items_at ws r ≡ before r) → AreLists ws cs
lists_revert vs ws cs c is count reverted = record {
  changes = λ k d less. subst (λ n. IsChangeOf n (get_or cs k d)) (sym count)
      (subst (IsChangeOf (length vs)) (get_or_append_left cs (c ∷ []) d k less) (is.changes k d (omega (arith, length_push cs c))));
  items = reverted (list_of cs) (λ r. is.items r ∙ list_push cs c r);
}

-- the list at one place replaced, while that at another is away
pub append_other : {Z : Type 0} (vs : List (Vec ℕ Z)) (k g r : ℕ) (none full more : Vec ℕ Z) → g < length vs → k ≢ g → items_at vs g ≡ more.items → r ≢ k
    → items_at (set (set (set vs g none) k full) g more) r ≡ items_at vs r
append_other vs k g r none full more within different e other = elim (cases_eq r g) [
  | inl here ↦ subst (λ n. items_at (set (set (set vs g none) k full) g more) n ≡ items_at vs n) (sym here)
      (items_set (set (set vs g none) k full) g more (simp length-set within) ∙ sym e)
  | inr apart ↦ items_set_other (set (set vs g none) k full) g r more apart ∙ items_set_other (set vs g none) k r full other ∙ items_set_other vs g r none apart
]

pub append_here : {Z : Type 0} (vs : List (Vec ℕ Z)) (k g : ℕ) (none full more : Vec ℕ Z) → k < length vs → k ≢ g → items_at (set (set (set vs g none) k full) g more) k ≡ full.items
append_here vs k g none full more within different =
    items_set_other (set (set vs g none) k full) g k more different ∙ items_set (set vs g none) k full (simp length-set within)

pub away : {Z : Type 0} (vs : List (Vec ℕ Z)) (k g : ℕ) (none d : Vec ℕ Z) → k < length vs → k ≢ g → items_at vs k ≡ (get_or (set vs g none) k d).items
away vs k g none d within different = sym (items_set_other vs g k none different) ∙ items_get (set vs g none) k d (simp length-set within)

pub same_items : {Z : Type 0} (vs : List (Vec ℕ Z)) (c : ℕ) (v : Vec ℕ Z) → c < length vs → v.items ≡ items_at vs c → (r : ℕ) → items_at (set vs c v) r ≡ items_at vs r
same_items vs c v within e r = elim (cases_eq r c) [
  | inl here ↦ subst (λ n. items_at (set vs c v) n ≡ items_at vs n) (sym here) (items_set vs c v within ∙ e)
  | inr other ↦ items_set_other vs c r v other
]

pub put_on : {Z : Type 0} (vs : List (Vec ℕ Z)) (c x : ℕ) (v : Vec ℕ Z) → c < length vs → v.items ≡ items_at vs c ++ x ∷ [] → (r : ℕ) → items_at (set vs c v) r ≡ changed (items_at vs) (Put c x) r
put_on vs c x v within e r = elim (cases_eq r c) [
  | inl here ↦ subst (λ n. items_at (set vs c v) n ≡ changed (items_at vs) (Put c x) n) (sym here) (items_set vs c v within ∙ e ∙ sym (put_here (items_at vs) c x c refl))
  | inr other ↦ items_set_other vs c r v other ∙ sym (put_other (items_at vs) c x r other)
]

-- ---- one change taken back

pub put_back : {Z : Type 0} (vs : List (Vec ℕ Z)) (before : ℕ → List ℕ) (c x : ℕ) (v : Vec ℕ Z) → c < length vs → ((r : ℕ) → items_at vs r ≡ changed before (Put c x) r)
    → v.items ≡ take (length (items_at vs c) - 1) (items_at vs c) → (r : ℕ) → items_at (set vs c v) r ≡ before r
put_back vs before c x v within e is r = elim (cases_eq r c) [
  | inl here ↦ subst (λ n. items_at (set vs c v) n ≡ before n) (sym here)
      (let now : items_at vs c ≡ before c ++ x ∷ [] = e c ∙ put_here before c x c refl in
      items_set vs c v within ∙ is ∙ ap (λ (l : List ℕ). take (length l - 1) l) now ∙ take_at (before c) (x ∷ []) (length (before c ++ x ∷ []) - 1) (omega (arith, length_push (before c) x)))
  | inr other ↦ items_set_other vs c r v other ∙ e r ∙ put_other before c x r other
]

pub join_back : {Z : Type 0} (vs : List (Vec ℕ Z)) (before : ℕ → List ℕ) (k g : ℕ) (v : Vec ℕ Z) → k < length vs → k ≢ g → ((r : ℕ) → items_at vs r ≡ changed before (Join k g) r)
    → v.items ≡ take (length (items_at vs k) - length (items_at vs g)) (items_at vs k) → (r : ℕ) → items_at (set vs k v) r ≡ before r
join_back vs before k g v within different e is r = elim (cases_eq r k) [
  | inl here ↦ subst (λ n. items_at (set vs k v) n ≡ before n) (sym here)
      (let now : items_at vs k ≡ before k ++ before g = e k ∙ join_here before k g k refl in
      let gone : items_at vs g ≡ before g = e g ∙ join_other before k g g (λ h. different (sym h)) in
      items_set vs k v within ∙ is ∙ ap (λ (l : List ℕ). take (length l - length (items_at vs g)) l) now ∙ ap (λ (l : List ℕ). take (length (before k ++ before g) - length l) (before k ++ before g)) gone
      ∙ take_at (before k) (before g) (length (before k ++ before g) - length (before g)) (omega (arith, length-append (before k) (before g))))
  | inr other ↦ items_set_other vs k r v other ∙ e r ∙ join_other before k g r other
]

pub join_fits : {Z : Type 0} (vs : List (Vec ℕ Z)) (before : ℕ → List ℕ) (k g : ℕ) → k ≢ g → ((r : ℕ) → items_at vs r ≡ changed before (Join k g) r) → length (items_at vs g) ≤ length (items_at vs k)
join_fits vs before k g different e =
    let now : items_at vs k ≡ before k ++ before g = e k ∙ join_here before k g k refl in
    let gone : items_at vs g ≡ before g = e g ∙ join_other before k g g (λ h. different (sym h)) in
    omega (arith, ap length now, ap length gone, length-append (before k) (before g))

pub ok_when : {X E : Type 0} (r : Result X E) (P : Type 0) → (is_ok r ≡ true → P) → OnOk r P
ok_when (Ok x) P f = f refl
ok_when (Err e) P f = tt

pub err_when : {X E : Type 0} (r : Result X E) (P : Type 0) → (is_ok r ≡ false → P) → OnErr r P
err_when (Ok x) P f = tt
err_when (Err e) P f = f refl

pub ok_then : {X E : Type 0} (r : Result X E) (P Q : Type 0) → OnOk r P → (P → Q) → OnOk r Q
ok_then (Ok x) P Q h f = f h
ok_then (Err e) P Q h f = tt
