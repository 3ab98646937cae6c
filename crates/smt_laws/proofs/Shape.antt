-- Each frame keeps its lists.
use Rattle.std.proofs.Common.{◌≡◌, ℕ, zero, suc, List, [], ◌∷◌, Bool, true, false, ap, subst, refl}
use Rattle.std.specs.Prelude.{codes, bytes_eq}
use Rattle.smt_meaning.specs.declared.tokens.Token.{Token}
use Rattle.smt_meaning.specs.declared.tokens.Token.TheVariants.{Symbol, Reserved, Keyword}
use Rattle.smt_meaning.specs.declared.tokens.Word.TheVariants.{Exclamation, Let}
use Rattle.smt_meaning.specs.declared.refusals.Refusal.{Refusal}
use Rattle.smt_meaning.specs.Sexp.{Sexp, Sexps, word, group, end, ◌▸◌}
use Rattle.smt_meaning.specs.Sorts.{Scope, Outcome, done, refused, Judging, go_on, ◌>>=◌, ◌>>◌, return, refuse, Typed, Variable, Rules}
use Rattle.smt_laws.specs.Walk.{Frame, whole, answer, opened, application, dividing, division, let_open, bindings, binding_open, binding, bound_to, body, result, annotation, attributes, naming, variables, given, give, drop_lists, on_enter, on_leave, on_head, on_word, on_words, on_attribute, after_keyword, on_name, on_bound_name, Waits, Fits}

-- ---- what holds of each value that comes out

abbrev pub Holds : {A : Type 0} → (A → Type 0) → Outcome A → Type 0
Holds P (done a s) = P a
Holds P (refused r) = Unit {0}

pub record Gives {A : Type 0} (P : A → Type 0) (m : Judging A) : Type 0 where
  pub from : (s : Scope) → Holds P (m s)

gives_return : {A : Type 0} (P : A → Type 0) (a : A) → P a → Gives P (return a)
unfolding return
gives_return P a h = record { from = λ s. h }

gives_refuse : {A : Type 0} (P : A → Type 0) (r : Refusal) → Gives P (refuse r)
unfolding refuse
gives_refuse P r = record { from = λ s. tt }

after : {A B : Type 0} (P : B → Type 0) (x : Outcome A) (k : A → Judging B) → ((a : A) → Gives P (k a)) → Holds P (go_on x k)
after P (done a s) k h = (h a).from s
after P (refused r) k h = tt

gives_bind : {A B : Type 0} (P : B → Type 0) (m : Judging A) (k : A → Judging B) → ((a : A) → Gives P (k a)) → Gives P (m >>= k)
unfolding ◌>>=◌
gives_bind P m k h = record { from = λ s. after P (m s) k h }

gives_next : {A B : Type 0} (P : B → Type 0) (m : Judging A) (n : Judging B) → Gives P n → Gives P (m >> n)
unfolding ◌>>◌
gives_next P m n h = record { from = λ s. after P (m s) (λ a. n) (λ a. h) }

then_holds : {A B : Type 0} (P : A → Type 0) (Q : B → Type 0) (x : Outcome A) (k : A → Judging B) → Holds P x → ((a : A) → P a → Gives Q (k a)) → Holds Q (go_on x k)
then_holds P Q (done a s) k h g = (g a h).from s
then_holds P Q (refused r) k h g = tt

pub gives_then : {A B : Type 0} (P : A → Type 0) (Q : B → Type 0) (m : Judging A) (k : A → Judging B) → Gives P m → ((a : A) → P a → Gives Q (k a)) → Gives Q (m >>= k)
unfolding ◌>>=◌
gives_then P Q m k h g = record { from = λ s. then_holds P Q (m s) k (h.from s) g }

-- ---- steps

fits_given : (f : Frame) (fs : List Frame) (a : Typed) (lists : List Sexps) → Waits (f ∷ fs) lists → Fits (given f a ∷ fs) lists
fits_given (whole vs) fs a lists h = h
fits_given (answer b) fs a lists h = absurd h
fits_given opened fs a lists h = h
fits_given (application n k ts) fs a lists h = h
fits_given (dividing n d) fs a lists h = h
fits_given (division n ts) fs a lists h = h
fits_given let_open fs a lists h = h
fits_given (bindings xs) fs a lists h = h
fits_given (binding_open xs) fs a lists h = h
fits_given (binding xs n) fs a lists h = h
fits_given (bound_to xs n b) fs a lists h = h
fits_given (body xs) fs a lists h = h
fits_given (result b) fs a lists h = h
fits_given (annotation o) fs a lists h = h
fits_given (attributes b o d) fs a lists h = h
fits_given (naming b o) fs a lists h = h

fits_give : (fs : List Frame) (a : Typed) (lists : List Sexps) → Waits fs lists → Fits (give a fs) lists
fits_give [] a lists h = absurd h
fits_give (f ∷ fs) a lists h = fits_given f fs a lists h

last_is : (x y : Sexp) (q : Sexps) (lists : List Sexps) → (x ▸ q) ∷ lists ≡ (y ▸ end) ∷ [] → q ∷ lists ≡ end ∷ []
last_is x y end [] e = refl
last_is x y (z ▸ q) [] e = absurd (cc)
last_is x y q (l ∷ lists) e = absurd (cc)

not_last : (x : Sexp) (q : Sexps) (lists : List Sexps) → (x ▸ q) ∷ lists ≡ end ∷ [] → ⊥
not_last x q lists e = absurd (cc)

more_lists : (l m : Sexps) (lists : List Sexps) → l ∷ m ∷ lists ≡ end ∷ [] → ⊥
more_lists l m lists e = absurd (cc)

pub enter_fits : (fs : List Frame) (inner outer : Sexps) (lists : List Sexps) → Fits fs ((group inner ▸ outer) ∷ lists) → Gives (λ gs. Fits gs (inner ∷ outer ∷ lists)) (on_enter fs inner)
enter_fits [] inner outer lists h = absurd h
enter_fits (whole vs ∷ fs) inner outer lists h = gives_return _ _ (h.0, last_is _ _ outer lists h.1.1)
enter_fits (answer a ∷ fs) inner outer lists h = absurd (not_last _ _ _ h.1)
enter_fits (opened ∷ fs) inner outer lists h = gives_bind _ _ _ (λ n. gives_return _ _ h)
enter_fits (application n k ts ∷ fs) inner outer lists h = gives_return _ _ h
enter_fits (dividing n d ∷ fs) inner outer lists h = gives_return _ _ h
enter_fits (division n ts ∷ fs) inner outer lists h = gives_return _ _ h
enter_fits (let_open ∷ fs) inner outer lists h = gives_return _ _ h
enter_fits (bindings xs ∷ fs) inner outer lists h = gives_return _ _ h
enter_fits (binding_open xs ∷ fs) inner outer lists h = gives_refuse _ _
enter_fits (binding xs n ∷ fs) inner outer lists h = gives_return _ _ h
enter_fits (bound_to xs n a ∷ fs) inner outer lists h = gives_refuse _ _
enter_fits (body xs ∷ fs) inner outer lists h = gives_return _ _ h
enter_fits (result a ∷ fs) inner outer lists h = gives_refuse _ _
enter_fits (annotation o ∷ fs) inner outer lists h = gives_return _ _ h
enter_fits (attributes a o d ∷ fs) inner outer lists h = gives_return _ _ h
enter_fits (naming a o ∷ fs) inner outer lists h = gives_refuse _ _

pub leave_fits : (r : Rules) (fs : List Frame) (inner : Sexps) (lists : List Sexps) → Fits fs (end ∷ inner ∷ lists) → Gives (λ gs. Fits gs (inner ∷ lists)) (on_leave r fs)
leave_fits r [] inner lists h = absurd h
leave_fits r (whole vs ∷ fs) inner lists h = gives_refuse _ _
leave_fits r (answer a ∷ fs) inner lists h = absurd (more_lists _ _ _ h.1)
leave_fits r (opened ∷ fs) inner lists h = gives_refuse _ _
leave_fits r (application n k ts ∷ fs) inner lists h = gives_bind _ _ _ (λ a. gives_return _ _ (fits_give fs a (inner ∷ lists) h))
leave_fits r (dividing n zero ∷ fs) inner lists h = gives_return _ _ h
leave_fits r (dividing n (suc d) ∷ fs) inner lists h = gives_return _ _ h
leave_fits r (division n ts ∷ fs) inner lists h = gives_bind _ _ _ (λ a. gives_return _ _ (fits_give fs a (inner ∷ lists) h))
leave_fits r (let_open ∷ fs) inner lists h = gives_refuse _ _
leave_fits r (bindings xs ∷ fs) inner lists h = gives_return _ _ h
leave_fits r (binding_open xs ∷ fs) inner lists h = gives_refuse _ _
leave_fits r (binding xs n ∷ fs) inner lists h = gives_refuse _ _
leave_fits r (bound_to xs n a ∷ fs) inner lists h = gives_return _ _ h
leave_fits r (body xs ∷ fs) inner lists h = gives_refuse _ _
leave_fits r (result a ∷ fs) inner lists h = gives_return _ _ (fits_give fs a (inner ∷ lists) h)
leave_fits r (annotation o ∷ fs) inner lists h = gives_refuse _ _
leave_fits r (attributes a o zero ∷ fs) inner lists h = gives_return _ _ (fits_give fs a (inner ∷ lists) h)
leave_fits r (attributes a o (suc d) ∷ fs) inner lists h = gives_return _ _ h
leave_fits r (naming a o ∷ fs) inner lists h = gives_refuse _ _

head_fits : (r : Rules) (fs : List Frame) (vs : List Variable) (t : Token) (inner : Sexps) (lists : List Sexps) → Waits fs lists → Gives (λ g. Fits (g ∷ fs) (inner ∷ lists)) (on_head r vs t inner)
head_fits r fs vs (Symbol n) inner lists h = gives_bind _ _ _ (λ s. gives_next _ _ _ (gives_return _ _ h))
head_fits r fs vs (Reserved Let) inner lists h = gives_next _ _ _ (gives_return _ _ h)
head_fits r fs vs (Reserved Exclamation) inner lists h = gives_next _ _ _ (gives_return _ _ h)
head_fits r fs vs (Reserved w) inner lists h = gives_refuse _ _
head_fits r fs vs _ inner lists h = gives_refuse _ _

bound_name_fits : (xs : List Variable) (fs : List Frame) (t : Token) (l : Sexps) (lists : List Sexps) → Waits fs (drop_lists 2 lists) → Gives (λ g. Fits (g ∷ fs) (l ∷ lists)) (on_bound_name xs t)
bound_name_fits xs fs (Symbol n) l lists h = gives_return _ _ h
bound_name_fits xs fs _ l lists h = gives_refuse _ _

attribute_fits : (a : Typed) (o : Bool) (fs : List Frame) (t : Token) (l : Sexps) (lists : List Sexps) → Waits fs lists → Fits (on_attribute a o t ∷ fs) (l ∷ lists)
attribute_fits a o fs (Keyword k) l lists h = go (bytes_eq k (codes "named"))
  where
    go : (c : Bool) → Fits (after_keyword c a o ∷ fs) (l ∷ lists)
    go true = h
    go false = h
attribute_fits a o fs _ l lists h = h

name_fits : (r : Rules) (a : Typed) (o : Bool) (fs : List Frame) (t : Token) (l : Sexps) (lists : List Sexps) → Waits fs lists → Gives (λ g. Fits (g ∷ fs) (l ∷ lists)) (on_name r a o t)
name_fits r a o fs (Symbol n) l lists h = gives_next _ _ _ (gives_return _ _ h)
name_fits r a o fs _ l lists h = gives_refuse _ _

word_gives : (r : Rules) (f : Frame) (fs : List Frame) (t : Token) (inner : Sexps) (lists : List Sexps) → Fits (f ∷ fs) ((word t ▸ inner) ∷ lists)
    → Gives (λ g. Fits (g ∷ fs) (inner ∷ lists)) (on_word r f (variables fs) t inner)
word_gives r (whole us) fs t inner lists h = gives_bind _ _ _ (λ a. gives_return _ _ (h.0, last_is _ _ inner lists h.1.1))
word_gives r (answer a) fs t inner lists h = absurd (not_last _ _ _ h.1)
word_gives r opened fs t inner lists h = head_fits r fs (variables fs) t inner lists h
word_gives r (application n k ts) fs t inner lists h = gives_bind _ _ _ (λ a. gives_return _ _ h)
word_gives r (dividing n d) fs t inner lists h = gives_return _ _ h
word_gives r (division n ts) fs t inner lists h = gives_bind _ _ _ (λ a. gives_return _ _ h)
word_gives r let_open fs t inner lists h = gives_refuse _ _
word_gives r (bindings xs) fs t inner lists h = gives_refuse _ _
word_gives r (binding_open xs) fs t inner lists h = bound_name_fits xs fs t inner lists h
word_gives r (binding xs n) fs t inner lists h = gives_bind _ _ _ (λ a. gives_return _ _ h)
word_gives r (bound_to xs n a) fs t inner lists h = gives_refuse _ _
word_gives r (body xs) fs t inner lists h = gives_bind _ _ _ (λ a. gives_return _ _ h)
word_gives r (result a) fs t inner lists h = gives_refuse _ _
word_gives r (annotation o) fs t inner lists h = gives_bind _ _ _ (λ a. gives_return _ _ h)
word_gives r (attributes a o zero) fs t inner lists h = gives_return _ _ (attribute_fits a o fs t inner lists h)
word_gives r (attributes a o (suc d)) fs t inner lists h = gives_return _ _ h
word_gives r (naming a o) fs t inner lists h = name_fits r a o fs t inner lists h

pub word_fits : (r : Rules) (fs : List Frame) (t : Token) (inner : Sexps) (lists : List Sexps) → Fits fs ((word t ▸ inner) ∷ lists) → Gives (λ gs. Fits gs (inner ∷ lists)) (on_words r fs t inner)
word_fits r [] t inner lists h = absurd h
word_fits r (f ∷ fs) t inner lists h = gives_then _ _ _ _ (word_gives r f fs t inner lists h) (λ g k. gives_return _ _ k)

-- ---- there is always a list, and at the end one alone

never_waits : (fs : List Frame) → Waits fs [] → ⊥
never_waits [] h = h
never_waits (whole vs ∷ fs) h = absurd (cc)
never_waits (answer a ∷ fs) h = h
never_waits (opened ∷ fs) h = never_waits fs h
never_waits (application n k ts ∷ fs) h = never_waits fs h
never_waits (dividing n d ∷ fs) h = never_waits fs h
never_waits (division n ts ∷ fs) h = never_waits fs h
never_waits (let_open ∷ fs) h = never_waits fs h
never_waits (bindings xs ∷ fs) h = never_waits fs h
never_waits (binding_open xs ∷ fs) h = never_waits fs h
never_waits (binding xs n ∷ fs) h = never_waits fs h
never_waits (bound_to xs n b ∷ fs) h = never_waits fs h
never_waits (body xs ∷ fs) h = never_waits fs h
never_waits (result b ∷ fs) h = never_waits fs h
never_waits (annotation o ∷ fs) h = never_waits fs h
never_waits (attributes b o d ∷ fs) h = never_waits fs h
never_waits (naming b o ∷ fs) h = never_waits fs h

pub never_fits : (fs : List Frame) → Fits fs [] → ⊥
never_fits [] h = h
never_fits (whole vs ∷ fs) h = absurd (cc)
never_fits (answer a ∷ fs) h = absurd (cc)
never_fits (opened ∷ fs) h = never_waits fs h
never_fits (application n k ts ∷ fs) h = never_waits fs h
never_fits (dividing n d ∷ fs) h = never_waits fs h
never_fits (division n ts ∷ fs) h = never_waits fs h
never_fits (let_open ∷ fs) h = never_waits fs h
never_fits (bindings xs ∷ fs) h = never_waits fs h
never_fits (binding_open xs ∷ fs) h = never_waits fs h
never_fits (binding xs n ∷ fs) h = never_waits fs h
never_fits (bound_to xs n b ∷ fs) h = never_waits fs h
never_fits (body xs ∷ fs) h = never_waits fs h
never_fits (result b ∷ fs) h = never_waits fs h
never_fits (annotation o ∷ fs) h = never_waits fs h
never_fits (attributes b o d ∷ fs) h = never_waits fs h
never_fits (naming b o ∷ fs) h = never_waits fs h

drop_nothing : (d : ℕ) → drop_lists d [] ≡ []
drop_nothing zero = refl
drop_nothing (suc d) = refl

-- at the end the whole term is read
pub at_end : (fs : List Frame) → Fits fs (end ∷ []) → (a : Typed) × (fs ≡ answer a ∷ [])
at_end [] h = absurd h
at_end (whole vs ∷ fs) h = absurd (cc)
at_end (answer a ∷ fs) h = (a, ap (λ gs. answer a ∷ gs) h.0)
at_end (opened ∷ fs) h = absurd (never_waits fs h)
at_end (application n k ts ∷ fs) h = absurd (never_waits fs h)
at_end (dividing n d ∷ fs) h = absurd (never_waits fs h)
at_end (division n ts ∷ fs) h = absurd (never_waits fs h)
at_end (let_open ∷ fs) h = absurd (never_waits fs h)
at_end (bindings xs ∷ fs) h = absurd (never_waits fs h)
at_end (binding_open xs ∷ fs) h = absurd (never_waits fs h)
at_end (binding xs n ∷ fs) h = absurd (never_waits fs h)
at_end (bound_to xs n b ∷ fs) h = absurd (never_waits fs h)
at_end (body xs ∷ fs) h = absurd (never_waits fs h)
at_end (result b ∷ fs) h = absurd (never_waits fs h)
at_end (annotation o ∷ fs) h = absurd (never_waits fs h)
at_end (attributes b o d ∷ fs) h = absurd (never_waits fs (subst (Waits fs) (drop_nothing d) h))
at_end (naming b o ∷ fs) h = absurd (never_waits fs h)
