-- The names of a `let`.
use Rattle.std.proofs.Common.{◌≡◌, ℕ, zero, suc, ◌+◌, ◌<◌, List, [], ◌∷◌, ◌++◌, ap, sym, subst, ◌∙◌, refl, take, drop, length, arith, get_or, Bool, true, false, not, Option, Some, None, append_assoc}
use Rattle.std.specs.Option.{MatchOption}
use Rattle.std.specs.Prelude.{OnOk, IfOk, IfErr, Result, Ok, Err}
use Rattle.std.specs.Prelude.{if◌then◌else◌, bytes_eq, reverse, is_some}
use Rattle.term_store.specs.Newest.{first_named, newest_named, IsNewest, name_hash, hashes_of}
use Rattle.std.specs.Borrow.{Bor}
use Rattle.std.proofs.Math.Seq.{drop-cons}
use Rattle.std.proofs.lemmas.List.{take_more, map_more, reverse-append}
use Rattle.smt_meaning.specs.declared.refusals.Refusal.TheVariants.{WrongArguments, AlreadyDeclared}
use Rattle.smt_meaning.specs.Sexp.{Sexp, Sexps, group, end, ◌▸◌}
use Rattle.smt_meaning.specs.Signature.{is_one_of}
use Rattle.smt_meaning.specs.Sorts.{Scope, Outcome, done, refused, ◌>>◌, return, refuse, require, none_twice, check_bindings, bound_names, cons_name}
use Rattle.smt_laws.specs.Walk.{check_let}
use Rattle.look_ahead.specs.declared.LookError.{LookError}
use Rattle.look_ahead.specs.declared.LookError.TheVariants.{Refused, Memory}
use Rattle.look_ahead.specs.Ahead.{IsWhyNoLet}
use Rattle.look_ahead.specs.Lets.{is_let, and_names, doubled, names_of, name_at, IsWhyNoNames}

-- ---- lists of names

pub names_append : (bs cs : List (Bor (List ℕ))) → names_of (bs ++ cs) ≡ names_of bs ++ names_of cs
names_append [] cs = refl
names_append (b ∷ bs) cs = ap (λ ns. b.now ∷ ns) (names_append bs cs)

name_is : (bs : List (Bor (List ℕ))) (i : ℕ) (d : Bor (List ℕ)) → i < length bs → name_at bs i ≡ (get_or bs i d).now
name_is [] i d h = absurd (omega arith)
name_is (b ∷ bs) zero d h = refl
name_is (b ∷ bs) (suc i) d h = name_is bs i d (omega arith)

cons_and : (ms : List (List ℕ)) (n : List ℕ) (o : Option (List (List ℕ))) → and_names ms (cons_name n o) ≡ and_names (ms ++ n ∷ []) o
cons_and ms n None = refl
cons_and ms n (Some ns) = ap Some (sym (append_assoc ms (n ∷ []) ns))

pub more_names : (bs cs : List (Bor (List ℕ))) (b : Bor (List ℕ)) (all here rest : Option (List (List ℕ))) → all ≡ and_names (names_of bs) here → here ≡ cons_name b.now rest → cs ≡ bs ++ b ∷ []
    → all ≡ and_names (names_of cs) rest
more_names bs cs b all here rest e f g =
    e ∙ ap (and_names (names_of bs)) f ∙ cons_and (names_of bs) b.now rest ∙ ap (λ ms. and_names ms rest) (sym (ap names_of g ∙ names_append bs (b ∷ [])))

-- ---- names that stand twice

step_doubled : (bs : List (Bor (List ℕ))) (i : ℕ) (d : Bor (List ℕ)) (b : Bool) → i < length bs → doubled [] (names_of bs) ≡ doubled (names_of (take i bs)) (names_of (drop i bs))
    → is_one_of (get_or bs i d).now (names_of (take i bs)) ≡ b
    → doubled [] (names_of bs) ≡ (if b then Some (get_or bs i d).now else doubled (names_of (take (i + 1) bs)) (names_of (drop (i + 1) bs)))
step_doubled bs i d b h e f =
    let next : suc i ≡ i + 1 = omega arith in
    let dropped : drop i bs ≡ get_or bs i d ∷ drop (i + 1) bs = drop-cons bs i d h ∙ ap (λ k. get_or bs i d ∷ drop k bs) next in
    e ∙ ap (λ x. doubled (names_of (take i bs)) (names_of x)) dropped
    ∙ ap (λ c. if c then Some (get_or bs i d).now else doubled (names_of (take i bs) ++ (get_or bs i d).now ∷ []) (names_of (drop (i + 1) bs))) f
    ∙ ap (λ x. if b then Some (get_or bs i d).now else doubled x (names_of (drop (i + 1) bs))) (sym (ap names_of (take_more bs i d h) ∙ names_append (take i bs) (get_or bs i d ∷ [])))

pub double_found : (bs : List (Bor (List ℕ))) (i : ℕ) (d : Bor (List ℕ)) → i < length bs → doubled [] (names_of bs) ≡ doubled (names_of (take i bs)) (names_of (drop i bs))
    → is_one_of (get_or bs i d).now (names_of (take i bs)) ≡ true → (i < length bs) × (doubled [] (names_of bs) ≡ Some (name_at bs i))
double_found bs i d h e f = (h, step_doubled bs i d true h e f ∙ ap Some (sym (name_is bs i d h)))

pub double_next : (bs : List (Bor (List ℕ))) (i : ℕ) (d : Bor (List ℕ)) → i < length bs → doubled [] (names_of bs) ≡ doubled (names_of (take i bs)) (names_of (drop i bs))
    → is_one_of (get_or bs i d).now (names_of (take i bs)) ≡ false → doubled [] (names_of bs) ≡ doubled (names_of (take (i + 1) bs)) (names_of (drop (i + 1) bs))
double_next bs i d h e f = step_doubled bs i d false h e f

-- ---- what `let` refuses

abbrev told : Option (List ℕ) → Scope → Outcome (Unit {0})
told None s = done tt s
told (Some n) s = refused (AlreadyDeclared n)

one_more : (m n : List ℕ) (ns : List (List ℕ)) → is_one_of m (ns ++ n ∷ []) ≡ is_one_of m (n ∷ ns)
one_more m n [] = refl
one_more m n (k ∷ ns) = ap (λ b. if bytes_eq m k then true else b) (one_more m n ns) ∙ swapped (bytes_eq m k) (bytes_eq m n) (is_one_of m ns)
  where
    swapped : (a b c : Bool) → (if a then true else (if b then true else c)) ≡ (if b then true else (if a then true else c))
    swapped true true c = refl
    swapped true false c = refl
    swapped false true c = refl
    swapped false false c = refl

first_told : (old seen ns : List (List ℕ)) (s : Scope) → ((m : List ℕ) → is_one_of m old ≡ is_one_of m seen) → none_twice old ns s ≡ told (doubled seen ns) s
unfolding ◌>>◌ require refuse return
first_told old seen [] s h = refl
first_told old seen (n ∷ ns) s h =
    go (is_one_of n old) (is_one_of n seen) (h n)
    (first_told (n ∷ old) (seen ++ n ∷ []) ns s (λ m. ap (λ b. if bytes_eq m n then true else b) (h m) ∙ sym (one_more m n seen)))
  where
    go : (b c : Bool) → b ≡ c → none_twice (n ∷ old) ns s ≡ told (doubled (seen ++ n ∷ []) ns) s
        → (require (not b) (AlreadyDeclared n) >> none_twice (n ∷ old) ns) s ≡ told (if c then Some n else doubled (seen ++ n ∷ []) ns) s
    go true true e f = refl
    go false false e f = f
    go true false e f = absurd (cc)
    go false true e f = absurd (cc)

pub no_names : (bs : List (Bor (List ℕ))) → length bs ≡ 0 → (s : Scope) → check_bindings (Some (names_of bs)) s ≡ refused WrongArguments
unfolding refuse
no_names [] e s = refl
no_names (b ∷ bs) e s = absurd (omega arith)

names_told : (bs : List (Bor (List ℕ))) (o : Option (List ℕ)) → 0 < length bs → doubled [] (names_of bs) ≡ o → (s : Scope) → check_bindings (Some (names_of bs)) s ≡ told o s
names_told [] o h e s = absurd (omega arith)
names_told (b ∷ bs) o h e s = first_told [] [] (names_of (b ∷ bs)) s (λ m. refl) ∙ ap (λ x. told x s) e

pub names_fine : (bs : List (Bor (List ℕ))) → 0 < length bs → doubled [] (names_of bs) ≡ None → (s : Scope) → check_bindings (Some (names_of bs)) s ≡ done tt s
names_fine bs h e s = names_told bs None h e s

pub names_doubled : (bs : List (Bor (List ℕ))) (i : ℕ) (n : List ℕ) (d : Bor (List ℕ)) → (i < length bs) × (doubled [] (names_of bs) ≡ Some (name_at bs i)) → n ≡ (get_or bs i d).now
    → (s : Scope) → check_bindings (Some (names_of bs)) s ≡ refused (AlreadyDeclared n)
names_doubled bs i n d h e s =
    names_told bs (Some (name_at bs i)) (let lt : i < length bs = h.0 in omega arith) h.1 s ∙ ap (λ m. refused (AlreadyDeclared m)) (name_is bs i d h.0 ∙ sym e)

-- ---- the whole form

pub no_let : (l : Sexps) → is_let l ≡ false → (s : Scope) → check_let l s ≡ refused WrongArguments
unfolding refuse
no_let (group bs ▸ b ▸ end) e s = absurd (cc)
no_let _ e s = refl

let_is : (l bs : Sexps) (b : Sexp) (o : Option (List (List ℕ))) (s : Scope) → l ≡ group bs ▸ b ▸ end → bound_names bs ≡ o → check_let l s ≡ check_bindings o s
let_is l bs b o s e f = ap (λ x. check_let x s) e ∙ ap (λ x. check_bindings x s) f

pub let_fine : (l bs : Sexps) (ns : List (List ℕ)) → (b : Sexp) × (l ≡ group bs ▸ b ▸ end) → bound_names bs ≡ Some ns → ((s : Scope) → check_bindings (Some ns) s ≡ done tt s) → (s : Scope) → check_let l s ≡ done tt s
let_fine l bs ns w f g s = let_is l bs w.0 (Some ns) s w.1 f ∙ g s

pub let_refused : (l bs : Sexps) (ns : List (List ℕ)) (e : LookError) → (b : Sexp) × (l ≡ group bs ▸ b ▸ end) → bound_names bs ≡ Some ns → IsWhyNoNames (Some ns) e → IsWhyNoLet l e
let_refused l bs ns (Refused why) w f g = λ s. let_is l bs w.0 (Some ns) s w.1 f ∙ g s
let_refused l bs ns Memory w f g = tt

pub let_malformed : (l bs : Sexps) → (b : Sexp) × (l ≡ group bs ▸ b ▸ end) → bound_names bs ≡ None → (s : Scope) → check_let l s ≡ refused WrongArguments
unfolding refuse
let_malformed l bs w f s = let_is l bs w.0 None s w.1 f

pub at_none : {T : Type 0} (o : Option T) (P : Type 0) (Q : T → Type 0) → o ≡ None → MatchOption o P Q → P
at_none None P Q e h = h
at_none (Some x) P Q e h = absurd (cc)

pub at_some : {T : Type 0} (o : Option T) (x : T) (P : Type 0) (Q : T → Type 0) → o ≡ Some x → MatchOption o P Q → Q x
at_some None x P Q e h = absurd (cc)
at_some (Some y) x P Q e h = let same : y ≡ x = cc in subst Q same h

pub ok_then : {T E : Type 0} (r : Result T E) (P Q : Type 0) → (P → Q) → OnOk r P → OnOk r Q
ok_then (Ok x) P Q f h = f h
ok_then (Err e) P Q f h = h

pub err_then : {T E : Type 0} (r : Result T E) (P Q : E → Type 0) → ((e : E) → P e → Q e) → IfErr r P → IfErr r Q
err_then (Ok x) P Q f h = h
err_then (Err e) P Q f h = f e h

pub value_then : {T E : Type 0} (r : Result T E) (P Q : T → Type 0) → ((x : T) → P x → Q x) → IfOk r P → IfOk r Q
value_then (Ok x) P Q f h = f x h
value_then (Err e) P Q f h = h

-- ---- names that are found by their hashes

is_one_where : (n : List ℕ) (bs : List (Bor (List ℕ))) → is_one_of n (names_of bs) ≡ is_some (first_named (λ (b : Bor (List ℕ)). b.now) n bs)
is_one_where n [] = refl
is_one_where n (b ∷ bs) = go (is_one_where n bs) (bytes_eq n b.now)
  where
    go : is_one_of n (names_of bs) ≡ is_some (first_named (λ (b : Bor (List ℕ)). b.now) n bs) → (c : Bool)
        → (if c then true else is_one_of n (names_of bs)) ≡ is_some (if c then Some b else first_named (λ (b : Bor (List ℕ)). b.now) n bs)
    go same true = refl
    go same false = same

one_of_reversed : (n : List ℕ) (bs : List (Bor (List ℕ))) → is_one_of n (names_of (reverse bs)) ≡ is_one_of n (names_of bs)
one_of_reversed n [] = refl
one_of_reversed n (b ∷ bs) =
    ap (λ xs. is_one_of n (names_of xs)) (reverse-append (b ∷ []) bs) ∙ ap (is_one_of n) (names_append (reverse bs) (b ∷ [])) ∙ one_more n b.now (names_of (reverse bs))
    ∙ ap (λ c. if bytes_eq n b.now then true else c) (one_of_reversed n bs)

one_of_newest : (n : List ℕ) (bs : List (Bor (List ℕ))) → is_one_of n (names_of bs) ≡ is_some (newest_named (λ (b : Bor (List ℕ)). b.now) n bs)
one_of_newest n bs = sym (one_of_reversed n bs) ∙ is_one_where n (reverse bs)

pub one_found : (n : List ℕ) (bs : List (Bor (List ℕ))) (i : ℕ) → IsNewest (λ (b : Bor (List ℕ)). b.now) n bs i → is_one_of n (names_of bs) ≡ true
one_found n [] i h = let short : i < 0 = h.within in absurd (omega arith)
one_found n (b ∷ bs) i h = one_of_newest n (b ∷ bs) ∙ ap is_some (h.newest b)

pub none_found : (n : List ℕ) (bs : List (Bor (List ℕ))) → newest_named (λ (b : Bor (List ℕ)). b.now) n bs ≡ None → is_one_of n (names_of bs) ≡ false
none_found n bs h = one_of_newest n bs ∙ ap is_some h

-- one more name is filed
pub hashes_more : (bs : List (Bor (List ℕ))) (i : ℕ) (d : Bor (List ℕ)) (hs : List ℕ) (h : ℕ) → i < length bs → hs ≡ hashes_of (λ (b : Bor (List ℕ)). b.now) (take i bs) → h ≡ name_hash (get_or bs i d).now
    → hs ++ h ∷ [] ≡ hashes_of (λ (b : Bor (List ℕ)). b.now) (take (i + 1) bs)
hashes_more bs i d hs h short e f =
    ap (λ x. x ++ h ∷ []) e ∙ ap (λ k. hashes_of (λ (b : Bor (List ℕ)). b.now) (take i bs) ++ k ∷ []) f ∙ sym (map_more (λ (b : Bor (List ℕ)). name_hash b.now) bs i d short)
