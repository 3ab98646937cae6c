-- One token of a walk.
use Rattle.std.proofs.Common.{◌≡◌, ℕ, zero, suc, List, [], ◌∷◌, ◌++◌, Bool, true, false, Option, Some, None, ap, sym, refl, append_assoc, append-nil}
use Rattle.std.specs.Prelude.{codes, bytes_eq}
use Rattle.smt_meaning.specs.declared.tokens.Token.{Token}
use Rattle.smt_meaning.specs.declared.tokens.Token.TheVariants.{Symbol, Reserved, Keyword}
use Rattle.smt_meaning.specs.declared.tokens.Word.TheVariants.{Exclamation, Let}
use Rattle.smt_meaning.specs.declared.refusals.Refusal.{Refusal}
use Rattle.smt_meaning.specs.declared.refusals.Refusal.TheVariants.{WrongArguments}
use Rattle.smt_meaning.specs.Sexp.{Sexp, Sexps, word, group, end, ◌▸◌}
use Rattle.smt_meaning.specs.Sorts.{Scope, Judging, ◌>>=◌, ◌>>◌, return, refuse, require, the_scope, Typed, Variable, Rules, Known, known, can_be_applied, judge_application, judge_attributes, judge, judge_all, judge_token, head_number, judge_head, judge_divisible, judge_bindings, bound_names, cons_name, check_bindings, are_attributes, either, name_by, name_term}
use Rattle.smt_laws.specs.Walk.{Frame, whole, answer, opened, application, dividing, division, let_open, bindings, binding_open, binding, bound_to, body, result, annotation, attributes, naming, variables, given, give, taken, one_binding, in_body, with_taken, with_binding, attributes_of, after_head, yields, below, resume, continue, on_enter, on_leave, on_head, on_words, on_attribute, after_keyword, on_name, on_bound_name, check_let, check_annotation, has_free_first}
use Rattle.smt_laws.proofs.Monad.{Same, self, equal, other, both, bind_same, assoc, next_is, return_then, then_return, refuse_then}

-- what comes of a token: the frames after it, with what is left then
abbrev pub After : Rules → Judging Typed → Judging (List Frame) → List Sexps → Type 0
After r m gs lists = Same m (gs >>= (λ fs. continue r fs lists))

-- ---- a term is judged, and the frame then goes on with it

abbrev reads : Rules → Frame → List Variable → List Variable → Sexp → Sexps → List Sexps → Type 0
reads r f us vs x rest lists = Same (yields r f vs ((x ▸ rest) ∷ lists)) (judge r us x >>= (λ a. yields r (given f a) vs (rest ∷ lists)))

reads_whole : (r : Rules) (us vs : List Variable) (x : Sexp) (rest : Sexps) (lists : List Sexps) → reads r (whole us) us vs x rest lists
reads_whole r us vs x rest lists = other (then_return (judge r us x))

reads_application : (r : Rules) (n : List ℕ) (k : Known) (ts : List Typed) (vs : List Variable) (x : Sexp) (rest : Sexps) (lists : List Sexps) → reads r (application n k ts) vs vs x rest lists
reads_application r n k ts vs x rest lists =
    both (assoc (judge r vs x) _ _)
    (bind_same (self (judge r vs x))
    (λ a. both (assoc (judge_all r vs rest) _ _)
    (bind_same (self (judge_all r vs rest)) (λ us. both (return_then (a ∷ us) _) (equal _ _ (ap (judge_application r n k) (sym (append_assoc ts (a ∷ []) us))))))))

reads_division : (r : Rules) (n : ℕ) (ts : List Typed) (vs : List Variable) (x : Sexp) (rest : Sexps) (lists : List Sexps) → reads r (division n ts) vs vs x rest lists
reads_division r n ts vs x rest lists =
    both (assoc (judge r vs x) _ _)
    (bind_same (self (judge r vs x))
    (λ a. both (assoc (judge_all r vs rest) _ _)
    (bind_same (self (judge_all r vs rest)) (λ us. both (return_then (a ∷ us) _) (equal _ _ (ap (judge_divisible r n) (sym (append_assoc ts (a ∷ []) us))))))))

reads_binding : (r : Rules) (xs : List Variable) (n : List ℕ) (vs : List Variable) (x : Sexp) (rest : Sexps) (lists : List Sexps) → reads r (binding xs n) vs vs x rest lists
reads_binding r xs n vs x rest [] = assoc (judge r vs x) _ _
reads_binding r xs n vs x rest (bs ∷ lists) = assoc (judge r vs x) _ _

reads_body : (r : Rules) (xs vs : List Variable) (x : Sexp) (rest : Sexps) (lists : List Sexps) → reads r (body xs) (xs ++ vs) vs x rest lists
reads_body r xs vs x rest lists = self _

reads_annotation : (r : Rules) (o : Bool) (vs : List Variable) (x : Sexp) (rest : Sexps) (lists : List Sexps) → reads r (annotation o) vs vs x rest lists
reads_annotation r o vs x rest lists = self _

-- ---- forms of a step

-- a frame in place of a frame
told : {A : Type 0} (r : Rules) (m : Judging A) (g : A → Frame) (fs : List Frame) (lists : List Sexps) (y : Judging Typed) (b : List Sexps)
    → Same y (m >>= (λ a. yields r (g a) (variables fs) lists)) → ((a : A) → below (g a) lists ≡ b) → After r (y >>= resume r fs b) ((m >>= (λ a. return (g a))) >>= (λ h. return (h ∷ fs))) lists
told r m g fs lists y b h e =
    both (bind_same h (λ a. self (resume r fs b a)))
    (both (assoc m _ _)
    (both (bind_same (self m)
    (λ a. both (equal _ _ (ap (λ c. yields r (g a) (variables fs) lists >>= resume r fs c) (sym (e a))))
    (other (both (assoc (return (g a)) _ _) (both (return_then (g a) _) (return_then (g a ∷ fs) _))))))
    (other (both (assoc (m >>= (λ a. return (g a))) _ _) (both (assoc m _ _) (bind_same (self m) (λ a. other (assoc (return (g a)) _ _))))))))

-- the same, where nothing is judged
moved : (r : Rules) (g : Frame) (fs : List Frame) (lists : List Sexps) (y : Judging Typed) (b : List Sexps) → Same y (yields r g (variables fs) lists) → below g lists ≡ b
    → After r (y >>= resume r fs b) (return (g ∷ fs)) lists
moved r g fs lists y b h e =
    both (bind_same h (λ a. self (resume r fs b a)))
    (both (equal _ _ (ap (λ c. yields r g (variables fs) lists >>= resume r fs c) (sym e))) (other (return_then (g ∷ fs) _)))

-- a list of frames in place of it
moved_by : {A : Type 0} (r : Rules) (m : Judging A) (g : A → Frame) (fs : List Frame) (lists : List Sexps) (y : Judging Typed) (b : List Sexps)
    → Same y (m >>= (λ a. yields r (g a) (variables fs) lists)) → ((a : A) → below (g a) lists ≡ b) → After r (y >>= resume r fs b) (m >>= (λ a. return (g a ∷ fs))) lists
moved_by r m g fs lists y b h e =
    both (bind_same h (λ a. self (resume r fs b a)))
    (both (assoc m _ _)
    (both (bind_same (self m) (λ a. both (equal _ _ (ap (λ c. yields r (g a) (variables fs) lists >>= resume r fs c) (sym (e a)))) (other (return_then (g a ∷ fs) _)))) (other (assoc m _ _))))

-- nothing more
stopped : (r : Rules) (lists : List Sexps) (y : Judging Typed) (k : Typed → Judging Typed) (e : Refusal) → Same y (refuse e) → After r (y >>= k) (refuse e) lists
stopped r lists y k e h = both (bind_same h (λ a. self (k a))) (both (refuse_then e _) (other (refuse_then e _)))

-- a list inside a frame
entered : (r : Rules) (f : Frame) (fs : List Frame) (inner outer : Sexps) (lists : List Sexps) → reads r f (variables (f ∷ fs)) (variables fs) (group inner) outer lists
    → below f ((group inner ▸ outer) ∷ lists) ≡ below f (outer ∷ lists) → After r (continue r (f ∷ fs) ((group inner ▸ outer) ∷ lists)) (return (opened ∷ f ∷ fs)) (inner ∷ outer ∷ lists)
entered r f fs inner outer lists h e =
    both (bind_same h (λ a. self (resume r fs (below f ((group inner ▸ outer) ∷ lists)) a)))
    (both (assoc (judge r (variables (f ∷ fs)) (group inner)) _ _)
    (both (bind_same (self (judge r (variables (f ∷ fs)) (group inner))) (λ a. equal _ _ (ap (λ c. yields r (given f a) (variables fs) (outer ∷ lists) >>= resume r fs c) e)))
    (other (return_then (opened ∷ f ∷ fs) _))))

same_below : (f : Frame) (a : Typed) (lists : List Sexps) → below (given f a) lists ≡ below f lists
same_below (whole vs) a lists = refl
same_below (answer b) a lists = refl
same_below opened a lists = refl
same_below (application n k ts) a lists = refl
same_below (dividing n d) a lists = refl
same_below (division n ts) a lists = refl
same_below let_open a lists = refl
same_below (bindings xs) a lists = refl
same_below (binding_open xs) a lists = refl
same_below (binding xs n) a lists = refl
same_below (bound_to xs n b) a lists = refl
same_below (body xs) a lists = refl
same_below (result b) a lists = refl
same_below (annotation o) a lists = refl
same_below (attributes b o d) a lists = refl
same_below (naming b o) a lists = refl

-- a term is given to the frame that waits for it
gives : (r : Rules) (a : Typed) (fs : List Frame) (lists : List Sexps) → Same (resume r fs lists a) (continue r (give a fs) lists)
gives r a [] lists = other (return_then a _)
gives r a (f ∷ fs) lists = equal _ _ (ap (λ c. yields r (given f a) (variables fs) lists >>= resume r fs c) (sym (same_below f a lists)))

left : (r : Rules) (m : Judging Typed) (fs : List Frame) (lists : List Sexps) (y : Judging Typed) → Same y m → After r (y >>= resume r fs lists) (m >>= (λ a. return (give a fs))) lists
left r m fs lists y h =
    both (bind_same h (λ a. both (gives r a fs lists) (other (return_then (give a fs) _)))) (other (assoc m _ _))

-- ---- after the bindings of `let`

some_injective : {A : Type 0} (x y : A) → Some x ≡ Some y → x ≡ y
some_injective x y e = cc

names_left : (n : List ℕ) (o : Option (List (List ℕ))) (ns : List (List ℕ)) → cons_name n o ≡ Some ns → (ms : List (List ℕ)) × (o ≡ Some ms)
names_left n None ns e = absurd (cc)
names_left n (Some ms) ns e = (ms, refl)

-- bindings of the form that is checked before
taken_is : (r : Rules) (vs : List Variable) (bs : Sexps) (ns : List (List ℕ)) → bound_names bs ≡ Some ns → Same (taken r vs bs) (judge_bindings r vs bs)
taken_is r vs end ns e = self _
taken_is r vs (group (word (Symbol n) ▸ t ▸ end) ▸ rest) ns e =
    let h : (ms : List (List ℕ)) × (bound_names rest ≡ Some ms) = names_left n (bound_names rest) ns e in
    both (assoc (judge r vs t) _ _)
    (bind_same (self (judge r vs t)) (λ a. both (return_then _ _) (bind_same (taken_is r vs rest h.0 h.1) (λ xs. self _))))
taken_is r vs (_ ▸ rest) ns e = absurd (cc)

closed_body : (r : Rules) (vs : List Variable) (b : Sexp) (lists : List Sexps) → Same (judge r vs b) (in_body r vs ((b ▸ end) ∷ lists))
closed_body r vs b lists = other (then_return (judge r vs b))

let_checked : (r : Rules) (vs : List Variable) (bs : Sexps) (b : Sexp) (lists : List Sexps) (o : Option (List (List ℕ))) → bound_names bs ≡ o
    → Same (check_bindings o >> (judge_bindings r vs bs >>= (λ xs. judge r (xs ++ vs) b))) (check_bindings o >>= (λ u. with_taken r vs [] bs ((b ▸ end) ∷ lists)))
let_checked r vs bs b lists None e = both (next_is (refuse WrongArguments) _) (both (refuse_then WrongArguments _) (other (refuse_then WrongArguments _)))
let_checked r vs bs b lists (Some ns) e =
    both (next_is (check_bindings (Some ns)) _)
    (bind_same (self (check_bindings (Some ns))) (λ u. bind_same (other (taken_is r vs bs ns e)) (λ xs. closed_body r (xs ++ vs) b lists)))

let_head : (r : Rules) (vs : List Variable) (ss : Sexps) (lists : List Sexps) → Same (judge r vs (group (word (Reserved Let) ▸ ss))) (check_let ss >>= (λ u. yields r let_open vs (ss ∷ lists)))
let_head r vs (group bs ▸ b ▸ end) lists = let_checked r vs bs b lists (bound_names bs) refl
let_head r vs _ lists = other (refuse_then WrongArguments _)

annotation_head : (r : Rules) (vs : List Variable) (ss : Sexps) (lists : List Sexps)
    → Same (judge r vs (group (word (Reserved Exclamation) ▸ ss))) (check_annotation ss >>= (λ u. yields r (annotation (has_free_first vs ss)) vs (ss ∷ lists)))
annotation_head r vs end lists = other (refuse_then WrongArguments _)
annotation_head r vs (t ▸ rest) lists = next_is (require (are_attributes rest) WrongArguments) _

symbol_head : (r : Rules) (vs : List Variable) (n : List ℕ) (ss : Sexps) (lists : List Sexps) (s : Scope)
    → Same (can_be_applied n (known vs n s) >> (judge_all r vs ss >>= (λ ts. judge_application r n (known vs n s) ts))) (can_be_applied n (known vs n s) >>= (λ u. yields r (application n (known vs n s) []) vs (ss ∷ lists)))
symbol_head r vs n ss lists s = next_is (can_be_applied n (known vs n s)) _

-- ---- attributes

attribute_skipped : (r : Rules) (a : Typed) (o : Bool) (t : Token) (rest : Sexps) (lists : List Sexps) (vs : List Variable)
    → Same (attributes_of r a o 0 ((word t ▸ rest) ∷ lists)) (yields r (on_attribute a o t) vs (rest ∷ lists))
attribute_skipped r a o (Keyword k) rest lists vs = go (bytes_eq k (codes "named"))
  where
    go : (c : Bool) → Same (either c (name_by r o a rest >> judge_attributes r o a rest) (judge_attributes r o a rest) >> return a) (yields r (after_keyword c a o) vs (rest ∷ lists))
    go true = self _
    go false = self _
attribute_skipped r a o _ rest lists vs = self _

attribute_below : (a : Typed) (o : Bool) (t : Token) (l : Sexps) (lists : List Sexps) → below (on_attribute a o t) (l ∷ lists) ≡ lists
attribute_below a o (Keyword k) l lists = go (bytes_eq k (codes "named"))
  where
    go : (c : Bool) → below (after_keyword c a o) (l ∷ lists) ≡ lists
    go true = refl
    go false = refl
attribute_below a o _ l lists = refl

refused_names : (a : Typed) (e m : Judging (Unit {0})) → Same e (refuse WrongArguments) → Same ((e >> m) >> return a) (refuse WrongArguments)
refused_names a e m h =
    both (next_is (e >> m) (return a))
    (both (bind_same (both (next_is e m) (both (bind_same h (λ u. self m)) (refuse_then WrongArguments _))) (λ u. self (return a))) (refuse_then WrongArguments _))

binding_refused : (r : Rules) (vs xs : List Variable) (ls : List Sexps) → Same (with_binding r vs xs (refuse WrongArguments) ls) (refuse WrongArguments)
binding_refused r vs xs [] = refuse_then WrongArguments _
binding_refused r vs xs (l ∷ ls) = refuse_then WrongArguments _

-- ---- in a head that divides nothing is judged

skipped_in_head : (r : Rules) (vs : List Variable) (n d : ℕ) (l m : Sexps) (lists : List Sexps) → Same (after_head r vs n d (l ∷ lists)) (after_head r vs n d (m ∷ lists))
skipped_in_head r vs n zero l m [] = self _
skipped_in_head r vs n zero l m (ss ∷ lists) = self _
skipped_in_head r vs n (suc d) l m lists = self _

-- ---- `(`

pub enter_step : (r : Rules) (fs : List Frame) (inner outer : Sexps) (lists : List Sexps) → After r (continue r fs ((group inner ▸ outer) ∷ lists)) (on_enter fs inner) (inner ∷ outer ∷ lists)
enter_step r [] inner outer lists = other (refuse_then WrongArguments _)
enter_step r (whole vs ∷ fs) inner outer lists = entered r (whole vs) fs inner outer lists (reads_whole r vs (variables fs) (group inner) outer lists) refl
enter_step r (answer a ∷ fs) inner outer lists = other (return_then (answer a ∷ fs) _)
enter_step r (opened ∷ fs) inner outer lists = moved_by r (judge_head (head_number inner)) (λ n. dividing n 0) fs _ _ lists (self _) (λ n. refl)
enter_step r (application n k ts ∷ fs) inner outer lists = entered r (application n k ts) fs inner outer lists (reads_application r n k ts (variables fs) (group inner) outer lists) refl
enter_step r (dividing n d ∷ fs) inner outer lists = moved r (dividing n (suc d)) fs _ _ _ (skipped_in_head r (variables fs) n d (group inner ▸ outer) outer lists) refl
enter_step r (division n ts ∷ fs) inner outer lists = entered r (division n ts) fs inner outer lists (reads_division r n ts (variables fs) (group inner) outer lists) refl
enter_step r (let_open ∷ fs) inner outer lists = moved r (bindings []) fs _ _ lists (self _) refl
enter_step r (bindings xs ∷ fs) inner outer lists = moved r (binding_open xs) fs _ _ _ one_more refl
  where
    one_more : Same (with_taken r (variables fs) xs (group inner ▸ outer) lists) (with_binding r (variables fs) xs (one_binding r (variables fs) inner) (outer ∷ lists))
    one_more =
        both (assoc (one_binding r (variables fs) inner) _ _)
        (bind_same (self (one_binding r (variables fs) inner))
        (λ x. both (assoc (taken r (variables fs) outer) _ _)
        (bind_same (self (taken r (variables fs) outer))
        (λ ys. both (return_then (x ∷ ys) _) (equal _ _ (ap (λ zs. in_body r (zs ++ variables fs) lists) (sym (append_assoc xs (x ∷ []) ys))))))))
enter_step r (binding_open xs ∷ fs) inner outer lists = stopped r _ _ _ WrongArguments (binding_refused r (variables fs) xs lists)
enter_step r (binding xs n ∷ fs) inner outer lists = entered r (binding xs n) fs inner outer lists (reads_binding r xs n (variables fs) (group inner) outer lists) refl
enter_step r (bound_to xs n a ∷ fs) inner outer lists = stopped r _ _ _ WrongArguments (binding_refused r (variables fs) xs lists)
enter_step r (body xs ∷ fs) inner outer lists = entered r (body xs) fs inner outer lists (reads_body r xs (variables fs) (group inner) outer lists) refl
enter_step r (result a ∷ fs) inner outer lists = stopped r _ _ _ WrongArguments (self _)
enter_step r (annotation o ∷ fs) inner outer lists = entered r (annotation o) fs inner outer lists (reads_annotation r o (variables fs) (group inner) outer lists) refl
enter_step r (attributes a o d ∷ fs) inner outer lists = deeper d
  where
    deeper : (d : ℕ) → After r (continue r (attributes a o d ∷ fs) ((group inner ▸ outer) ∷ lists)) (return (attributes a o (suc d) ∷ fs)) (inner ∷ outer ∷ lists)
    deeper zero = moved r (attributes a o 1) fs _ _ lists (self _) refl
    deeper (suc d) = moved r (attributes a o (suc (suc d))) fs _ _ _ (self _) refl
enter_step r (naming a o ∷ fs) inner outer lists = stopped r _ _ _ WrongArguments (refused_names a _ _ (self _))

-- ---- `)`

pub leave_step : (r : Rules) (fs : List Frame) (inner : Sexps) (lists : List Sexps) → After r (continue r fs (end ∷ inner ∷ lists)) (on_leave r fs) (inner ∷ lists)
leave_step r [] inner lists = other (refuse_then WrongArguments _)
leave_step r (whole vs ∷ fs) inner lists = stopped r _ _ _ WrongArguments (self _)
leave_step r (answer a ∷ fs) inner lists = other (return_then (answer a ∷ fs) _)
leave_step r (opened ∷ fs) inner lists = stopped r _ _ _ WrongArguments (self _)
leave_step r (application n k ts ∷ fs) inner lists =
    left r (judge_application r n k ts) fs (inner ∷ lists) _ (both (return_then [] _) (equal _ _ (ap (judge_application r n k) (append-nil ts))))
leave_step r (dividing n zero ∷ fs) inner lists = moved r (division n []) fs _ _ _ (self _) refl
leave_step r (dividing n (suc d) ∷ fs) inner lists = moved r (dividing n d) fs _ _ _ (self _) refl
leave_step r (division n ts ∷ fs) inner lists =
    left r (judge_divisible r n ts) fs (inner ∷ lists) _ (both (return_then [] _) (equal _ _ (ap (judge_divisible r n) (append-nil ts))))
leave_step r (let_open ∷ fs) inner lists = stopped r _ _ _ WrongArguments (self _)
leave_step r (bindings xs ∷ fs) inner lists =
    moved r (body xs) fs _ _ _ (both (return_then [] _) (equal _ _ (ap (λ zs. in_body r (zs ++ variables fs) (inner ∷ lists)) (append-nil xs)))) refl
leave_step r (binding_open xs ∷ fs) inner lists = stopped r _ _ _ WrongArguments (binding_refused r (variables fs) xs (inner ∷ lists))
leave_step r (binding xs n ∷ fs) inner lists = stopped r _ _ _ WrongArguments (binding_refused r (variables fs) xs (inner ∷ lists))
leave_step r (bound_to xs n a ∷ fs) inner lists = moved r (bindings (xs ++ record { name = n; term = a } ∷ [])) fs _ _ _ (return_then _ _) refl
leave_step r (body xs ∷ fs) inner lists = stopped r _ _ _ WrongArguments (self _)
leave_step r (result a ∷ fs) inner lists = both (return_then a _) (both (gives r a fs (inner ∷ lists)) (other (return_then (give a fs) _)))
leave_step r (annotation o ∷ fs) inner lists = stopped r _ _ _ WrongArguments (self _)
leave_step r (attributes a o zero ∷ fs) inner lists =
    both (bind_same (both (next_is (return tt) (return a)) (return_then tt _)) (λ b. self (resume r fs (inner ∷ lists) b)))
    (both (return_then a _) (both (gives r a fs (inner ∷ lists)) (other (return_then (give a fs) _))))
leave_step r (attributes a o (suc d) ∷ fs) inner lists = moved r (attributes a o d) fs _ _ _ (self _) refl
leave_step r (naming a o ∷ fs) inner lists = stopped r _ _ _ WrongArguments (refused_names a _ _ (self _))

-- ---- a word

told_next : {A : Type 0} (r : Rules) (m : Judging A) (g : Frame) (fs : List Frame) (lists : List Sexps) (y : Judging Typed) (b : List Sexps)
    → Same y (m >>= (λ a. yields r g (variables fs) lists)) → below g lists ≡ b → After r (y >>= resume r fs b) ((m >> return g) >>= (λ h. return (h ∷ fs))) lists
told_next r m g fs lists y b h e =
    both (told r m (λ a. g) fs lists y b h (λ a. e)) (bind_same (bind_same (other (next_is m (return g))) (λ h. self _)) (λ gs. self _))

-- what is looked up first
scoped : (r : Rules) (k : Scope → Judging Typed) (l : Scope → Judging Frame) (fs : List Frame) (lists : List Sexps) (rest : Typed → Judging Typed)
    → ((s : Scope) → After r (k s >>= rest) (l s >>= (λ h. return (h ∷ fs))) lists) → After r ((the_scope >>= k) >>= rest) ((the_scope >>= l) >>= (λ h. return (h ∷ fs))) lists
scoped r k l fs lists rest h =
    both (assoc the_scope k rest)
    (both (bind_same (self the_scope) h)
    (other (both (assoc (the_scope >>= l) _ _) (both (assoc the_scope l _) (bind_same (self the_scope) (λ s. other (assoc (l s) _ _)))))))

stopped_word : (r : Rules) (fs : List Frame) (lists : List Sexps) (y : Judging Typed) (k : Typed → Judging Typed) (e : Refusal) → Same y (refuse e)
    → After r (y >>= k) (refuse e >>= (λ (h : Frame). return (h ∷ fs))) lists
stopped_word r fs lists y k e h = both (stopped r lists y k e h) (bind_same (other (refuse_then e _)) (λ gs. self _))

head_step : (r : Rules) (fs : List Frame) (t : Token) (inner : Sexps) (lists : List Sexps)
    → After r (continue r (opened ∷ fs) ((word t ▸ inner) ∷ lists)) (on_head r (variables fs) t inner >>= (λ g. return (g ∷ fs))) (inner ∷ lists)
head_step r fs (Symbol n) inner lists =
    scoped r _ _ fs (inner ∷ lists) _
    (λ s. told_next r (can_be_applied n (known (variables fs) n s)) (application n (known (variables fs) n s) []) fs (inner ∷ lists) _ lists (symbol_head r (variables fs) n inner lists s) refl)
head_step r fs (Reserved Let) inner lists = told_next r (check_let inner) let_open fs (inner ∷ lists) _ lists (let_head r (variables fs) inner lists) refl
head_step r fs (Reserved Exclamation) inner lists =
    told_next r (check_annotation inner) (annotation (has_free_first (variables fs) inner)) fs (inner ∷ lists) _ lists (annotation_head r (variables fs) inner lists) refl
head_step r fs (Reserved w) inner lists = stopped_word r fs _ _ _ _ (self _)
head_step r fs _ inner lists = stopped_word r fs _ _ _ _ (self _)

bound_name_step : (r : Rules) (xs : List Variable) (fs : List Frame) (t : Token) (inner : Sexps) (lists : List Sexps)
    → After r (continue r (binding_open xs ∷ fs) ((word t ▸ inner) ∷ lists)) (on_bound_name xs t >>= (λ g. return (g ∷ fs))) (inner ∷ lists)
bound_name_step r xs fs (Symbol n) inner lists = both (moved r (binding xs n) fs (inner ∷ lists) _ _ (self _) refl) (bind_same (other (return_then (binding xs n) _)) (λ gs. self _))
bound_name_step r xs fs _ inner lists = stopped_word r fs _ _ _ WrongArguments (binding_refused r (variables fs) xs lists)

name_step : (r : Rules) (a : Typed) (o : Bool) (fs : List Frame) (t : Token) (inner : Sexps) (lists : List Sexps)
    → After r (continue r (naming a o ∷ fs) ((word t ▸ inner) ∷ lists)) (on_name r a o t >>= (λ g. return (g ∷ fs))) (inner ∷ lists)
name_step r a o fs (Symbol n) inner lists =
    told_next r (name_term r o a n) (attributes a o 0) fs (inner ∷ lists) _ lists
    (both (next_is (name_term r o a n >> judge_attributes r o a inner) (return a))
    (both (bind_same (next_is (name_term r o a n) (judge_attributes r o a inner)) (λ u. self (return a)))
    (both (assoc (name_term r o a n) _ _) (bind_same (self (name_term r o a n)) (λ u. other (next_is (judge_attributes r o a inner) (return a))))))) refl
name_step r a o fs _ inner lists = stopped_word r fs _ _ _ WrongArguments (refused_names a _ _ (self _))

pub word_step : (r : Rules) (fs : List Frame) (t : Token) (inner : Sexps) (lists : List Sexps) → After r (continue r fs ((word t ▸ inner) ∷ lists)) (on_words r fs t inner) (inner ∷ lists)
word_step r [] t inner lists = other (refuse_then WrongArguments _)
word_step r (whole us ∷ fs) t inner lists = told r (judge_token r us t) (λ a. answer a) fs _ _ [] (reads_whole r us (variables fs) (word t) inner lists) (λ a. refl)
word_step r (answer a ∷ fs) t inner lists = other (both (bind_same (return_then (answer a) _) (λ gs. self _)) (return_then (answer a ∷ fs) _))
word_step r (opened ∷ fs) t inner lists = head_step r fs t inner lists
word_step r (application n k ts ∷ fs) t inner lists =
    told r (judge_token r (variables fs) t) (λ a. application n k (ts ++ a ∷ [])) fs _ _ lists (reads_application r n k ts (variables fs) (word t) inner lists) (λ a. refl)
word_step r (dividing n d ∷ fs) t inner lists =
    both (moved r (dividing n d) fs (inner ∷ lists) _ _ (skipped_in_head r (variables fs) n d (word t ▸ inner) inner lists) refl)
    (bind_same (other (return_then (dividing n d) _)) (λ gs. self _))
word_step r (division n ts ∷ fs) t inner lists =
    told r (judge_token r (variables fs) t) (λ a. division n (ts ++ a ∷ [])) fs _ _ lists (reads_division r n ts (variables fs) (word t) inner lists) (λ a. refl)
word_step r (let_open ∷ fs) t inner lists = stopped_word r fs _ _ _ WrongArguments (self _)
word_step r (bindings xs ∷ fs) t inner lists = stopped_word r fs _ _ _ WrongArguments (refuse_then WrongArguments _)
word_step r (binding_open xs ∷ fs) t inner lists = bound_name_step r xs fs t inner lists
word_step r (binding xs n ∷ fs) t inner lists =
    told r (judge_token r (variables fs) t) (λ a. bound_to xs n a) fs _ _ _ (reads_binding r xs n (variables fs) (word t) inner lists) (λ a. refl)
word_step r (bound_to xs n a ∷ fs) t inner lists = stopped_word r fs _ _ _ WrongArguments (binding_refused r (variables fs) xs lists)
word_step r (body xs ∷ fs) t inner lists =
    told r (judge_token r (xs ++ variables fs) t) (λ a. result a) fs _ _ lists (reads_body r xs (variables fs) (word t) inner lists) (λ a. refl)
word_step r (result a ∷ fs) t inner lists = stopped_word r fs _ _ _ WrongArguments (self _)
word_step r (annotation o ∷ fs) t inner lists =
    told r (judge_token r (variables fs) t) (λ a. attributes a o 0) fs _ _ lists (reads_annotation r o (variables fs) (word t) inner lists) (λ a. refl)
word_step r (attributes a o zero ∷ fs) t inner lists =
    both (moved r (on_attribute a o t) fs (inner ∷ lists) _ lists (attribute_skipped r a o t inner lists (variables fs)) (attribute_below a o t inner lists))
    (bind_same (other (return_then (on_attribute a o t) _)) (λ gs. self _))
word_step r (attributes a o (suc d) ∷ fs) t inner lists =
    both (moved r (attributes a o (suc d)) fs (inner ∷ lists) _ _ (self _) refl) (bind_same (other (return_then (attributes a o (suc d)) _)) (λ gs. self _))
word_step r (naming a o ∷ fs) t inner lists = name_step r a o fs t inner lists
