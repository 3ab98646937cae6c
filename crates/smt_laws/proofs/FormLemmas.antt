-- Reading the forms of `let` and `!` token by token.
use Rattle.std.proofs.Common.{◌≡◌, ℕ, zero, suc, List, [], ◌∷◌, Bool, true, false, Option, Some, None, ap, sym, ◌∙◌, refl, subst}
use Rattle.smt_meaning.specs.declared.tokens.Token.{Token}
use Rattle.smt_meaning.specs.declared.tokens.Token.TheVariants.{Enter, Leave, Symbol, Keyword}
use Rattle.smt_meaning.specs.declared.refusals.Refusal.{Refusal}
use Rattle.smt_meaning.specs.declared.refusals.Refusal.TheVariants.{WrongArguments, AlreadyDeclared}
use Rattle.smt_meaning.specs.Sexp.{Sexp, Sexps, word, group, end, ◌▸◌, before, open_lists_of}
use Rattle.smt_meaning.specs.Signature.{is_one_of}
use Rattle.smt_meaning.specs.Sorts.{◌>>◌, return, refuse, require, none_twice, check_bindings, bound_names, cons_name, are_attributes, are_attributes_from}
use Rattle.smt_laws.specs.Walk.{drop_lists, check_let, check_annotation}
use Rattle.std.specs.Prelude.{if◌then◌else◌, not}
use Rattle.smt_laws.proofs.Monad.{Same, self, equal, other, both, bind_same, next_is, return_then, refuse_then}
use Rattle.smt_laws.specs.Form.{unless, run, IsReadAs, Stays, SexprPlace, unread, reading, read, sexpr_place, LetPlace, before_bindings, between_bindings, before_name, in_term, in_body, let_read, no_let, LetForm, let_start, let_place, bound_here, with_bound, first_double, let_step, names_fault, let_fault_at, let_is_over, let_reading, AnnotationForm, in_annotated, between_attributes, in_value, annotation_read, no_annotation, annotation_step, annotation_fault, annotation_reading}

-- ---- one s-expression

abbrev NotEmpty : List Sexps → Type 0
NotEmpty [] = ⊥
NotEmpty (l ∷ lists) = Unit {0}

not_empty_after : (t : Token) (lists : List Sexps) → NotEmpty (before t lists) → NotEmpty lists
not_empty_after Enter [] h = absurd h
not_empty_after Leave [] h = absurd h
not_empty_after _ [] h = absurd h
not_empty_after t (l ∷ lists) h = tt

-- what is told of the open lists that are left, before an s-expression, in it and after it
abbrev around : {A : Type 0} → (List Sexps → A) → (List Sexps → A) → SexprPlace → List Sexps → A
around at_first at_last unread lists = at_first lists
around at_first at_last (reading d) lists = at_last (drop_lists (suc d) lists)
around at_first at_last read lists = at_last lists

-- the token is one of the s-expression's
abbrev Within : SexprPlace → Token → Type 0
Within unread Leave = ⊥
Within read t = ⊥
Within _ t = Unit {0}

around_step : {A : Type 0} (at_first at_last : List Sexps → A) → ((x : Sexp) (l : Sexps) (lists : List Sexps) → at_first ((x ▸ l) ∷ lists) ≡ at_last (l ∷ lists))
    → (p : SexprPlace) (t : Token) (lists : List Sexps) → NotEmpty (before t lists) → Within p t → around at_first at_last p (before t lists) ≡ around at_first at_last (sexpr_place p t) lists
around_step at_first at_last one p t [] h w = absurd (not_empty_after t [] h)
around_step at_first at_last one p Enter (l ∷ []) h w = absurd h
around_step at_first at_last one unread Enter (l ∷ m ∷ lists) h w = one (group l) m lists
around_step at_first at_last one unread Leave (l ∷ lists) h w = absurd w
around_step at_first at_last one unread t (l ∷ lists) h w = one (word t) l lists
around_step at_first at_last one (reading d) Enter (l ∷ m ∷ lists) h w = refl
around_step at_first at_last one (reading zero) Leave (l ∷ lists) h w = refl
around_step at_first at_last one (reading (suc d)) Leave (l ∷ lists) h w = refl
around_step at_first at_last one (reading d) _ (l ∷ lists) h w = refl
around_step at_first at_last one read t (l ∷ lists) h w = absurd w

-- ---- what a `let` still comes to, from what is left of the open lists

abbrev is_last : Sexps → Bool
is_last end = true
is_last (s ▸ ss) = false

-- one s-expression, and the list ends
abbrev is_one : Sexps → Bool
is_one end = false
is_one (s ▸ ss) = is_last ss

-- the names that are still to come, where the form is right
abbrev where_right : Option (List (List ℕ)) → Bool → Option (List (List ℕ))
where_right None b = None
where_right (Some ns) false = None
where_right (Some ns) true = Some ns

abbrev body_left : List Sexps → Bool
body_left [] = false
body_left (l ∷ lists) = is_one l

abbrev body_past : List Sexps → Bool
body_past [] = false
body_past (l ∷ lists) = is_last l

-- no name is still to come, where the body is right
abbrev body_to_come : List Sexps → Option (List (List ℕ))
body_to_come lists = where_right (Some []) (body_left lists)

abbrev body_come : List Sexps → Option (List (List ℕ))
body_come lists = where_right (Some []) (body_past lists)

abbrev bindings_left : List Sexps → Option (List (List ℕ))
bindings_left [] = None
bindings_left (bs ∷ lists) = where_right (bound_names bs) (body_left lists)

abbrev ended_left : List Sexps → Option (List (List ℕ))
ended_left (end ∷ lists) = bindings_left lists
ended_left _ = None

abbrev term_left : List Sexps → Option (List (List ℕ))
term_left ((t ▸ p) ∷ lists) = ended_left (p ∷ lists)
term_left _ = None

abbrev name_left : List Sexps → Option (List (List ℕ))
name_left ((word (Symbol n) ▸ p) ∷ lists) = cons_name n (term_left (p ∷ lists))
name_left _ = None

abbrev all_left : List Sexps → Option (List (List ℕ))
all_left ((group bs ▸ rest) ∷ lists) = bindings_left (bs ∷ rest ∷ lists)
all_left _ = None

abbrev still : LetPlace → List Sexps → Option (List (List ℕ))
still before_bindings lists = all_left lists
still between_bindings lists = bindings_left lists
still before_name lists = name_left lists
still (in_term p) lists = around term_left ended_left p lists
still (in_body p) lists = around body_to_come body_come p lists
still let_read lists = Some []
still no_let lists = None

abbrev all_names : List (List ℕ) → List (List ℕ) → List (List ℕ)
all_names old [] = old
all_names old (n ∷ ns) = all_names (n ∷ old) ns

abbrev all_doubles : Option (List ℕ) → List (List ℕ) → List (List ℕ) → Option (List ℕ)
all_doubles d old [] = d
all_doubles d old (n ∷ ns) = all_doubles (first_double d old (Some n)) (n ∷ old) ns

abbrev fault_with : List (List ℕ) → Option (List ℕ) → Option (List (List ℕ)) → Option Refusal
fault_with old d None = Some WrongArguments
fault_with old d (Some ns) = names_fault (all_names old ns) (all_doubles d old ns)

fault_next : (old : List (List ℕ)) (d : Option (List ℕ)) (n : List ℕ) (o : Option (List (List ℕ)))
    → fault_with old d (cons_name n o) ≡ fault_with (n ∷ old) (first_double d old (Some n)) o
fault_next old d n None = refl
fault_next old d n (Some ns) = refl

cons_right : (n : List ℕ) (o : Option (List (List ℕ))) (b : Bool) → where_right (cons_name n o) b ≡ cons_name n (where_right o b)
cons_right n None b = refl
cons_right n (Some ns) true = refl
cons_right n (Some ns) false = refl

-- a binding begins
binding_begins : (p bs : Sexps) (lists : List Sexps) → bindings_left ((group p ▸ bs) ∷ lists) ≡ name_left (p ∷ bs ∷ lists)
binding_begins (word (Symbol n) ▸ t ▸ end) bs lists = cons_right n (bound_names bs) (body_left lists)
binding_begins _ bs lists = refl

-- ---- one token

place_step : (p : LetPlace) (t : Token) (lists : List Sexps) → NotEmpty (before t lists) → bound_here p t ≡ None → still p (before t lists) ≡ still (let_place p t) lists
place_step p t [] h e = absurd (not_empty_after t [] h)
place_step p Enter (l ∷ []) h e = absurd h
place_step before_bindings Enter (l ∷ m ∷ lists) h e = refl
place_step before_bindings Leave (l ∷ lists) h e = refl
place_step before_bindings _ (l ∷ lists) h e = refl
place_step between_bindings Enter (l ∷ m ∷ lists) h e = binding_begins l m lists
place_step between_bindings Leave (l ∷ lists) h e = refl
place_step between_bindings _ (l ∷ lists) h e = refl
place_step before_name Enter (l ∷ m ∷ lists) h e = refl
place_step before_name Leave (l ∷ lists) h e = refl
place_step before_name (Symbol n) (l ∷ lists) h e = absurd (cc)
place_step before_name _ (l ∷ lists) h e = refl
place_step (in_term unread) Leave (l ∷ lists) h e = refl
place_step (in_term read) Enter (l ∷ m ∷ lists) h e = refl
place_step (in_term read) Leave (l ∷ lists) h e = refl
place_step (in_term read) _ (l ∷ lists) h e = refl
place_step (in_term p) t lists h e = around_step term_left ended_left (λ x l ls. refl) p t lists h tt
place_step (in_body unread) Leave (l ∷ lists) h e = refl
place_step (in_body read) Enter (l ∷ m ∷ lists) h e = refl
place_step (in_body read) Leave (l ∷ lists) h e = refl
place_step (in_body read) _ (l ∷ lists) h e = refl
place_step (in_body p) t lists h e = around_step body_to_come body_come (λ x l ls. refl) p t lists h tt
place_step let_read t (l ∷ lists) h e = refl
place_step no_let t (l ∷ lists) h e = refl

double_stays : (d : Option (List ℕ)) (ns : List (List ℕ)) → first_double d ns None ≡ d
double_stays None ns = refl
double_stays (Some m) ns = refl

still_step : (names : List (List ℕ)) (d : Option (List ℕ)) (p : LetPlace) (t : Token) (lists : List Sexps) (o : Option (List ℕ)) → bound_here p t ≡ o → NotEmpty (before t lists)
    → fault_with names d (still p (before t lists)) ≡ fault_with (with_bound names o) (first_double d names o) (still (let_place p t) lists)
still_step names d p t lists None e h = ap (fault_with names d) (place_step p t lists h e) ∙ ap (λ x. fault_with names x (still (let_place p t) lists)) (sym (double_stays d names))
still_step names d p t [] (Some n) e h = absurd (not_empty_after t [] h)
still_step names d before_name (Symbol m) (l ∷ lists) (Some n) e h =
    let same : m ≡ n = cc in
    fault_next names d m (term_left (l ∷ lists)) ∙ ap (λ x. fault_with (x ∷ names) (first_double d names (Some x)) (term_left (l ∷ lists))) same
still_step names d p t (l ∷ lists) (Some n) e h = absurd (cc)

at_end : (p : LetPlace) (names : List (List ℕ)) (d : Option (List ℕ)) → let_fault_at p names d ≡ fault_with names d (still p (end ∷ []))
at_end before_bindings names d = refl
at_end between_bindings names d = refl
at_end before_name names d = refl
at_end (in_term unread) names d = refl
at_end (in_term (reading zero)) names d = refl
at_end (in_term (reading (suc k))) names d = refl
at_end (in_term read) names d = refl
at_end (in_body unread) names d = refl
at_end (in_body (reading zero)) names d = refl
at_end (in_body (reading (suc k))) names d = refl
at_end (in_body read) names d = refl
at_end let_read names d = refl
at_end no_let names d = refl

run_fault : (f : LetForm) (ts : List Token) → NotEmpty (open_lists_of ts) → let_reading.fault (run let_reading f ts) ≡ fault_with f.names f.double (still f.place (open_lists_of ts))
run_fault f [] h = at_end f.place f.names f.double
run_fault f (t ∷ ts) h =
    run_fault (let_step f t) ts (not_empty_after t (open_lists_of ts) h) ∙ sym (still_step f.names f.double f.place t (open_lists_of ts) (bound_here f.place t) refl h)

-- ---- names that stand twice

abbrev double_fault : Option (List ℕ) → Option Refusal
double_fault None = None
double_fault (Some m) = Some (AlreadyDeclared m)

found_double : (m : List ℕ) (old ns : List (List ℕ)) → all_doubles (Some m) old ns ≡ Some m
found_double m old [] = refl
found_double m old (n ∷ ns) = found_double m (n ∷ old) ns

not_allowed : (why : Refusal) → Same (require false why) (refuse why)
unfolding require
not_allowed why = self _

allowed : (why : Refusal) → Same (require true why) (return tt)
unfolding require
allowed why = self _

none_twice_is : (old ns : List (List ℕ)) → Same (none_twice old ns) (unless (double_fault (all_doubles None old ns)))
none_twice_is old [] = self _
none_twice_is old (n ∷ ns) = go (is_one_of n old) (none_twice_is (n ∷ old) ns)
  where
    go : (b : Bool) → Same (none_twice (n ∷ old) ns) (unless (double_fault (all_doubles None (n ∷ old) ns)))
        → Same (require (not b) (AlreadyDeclared n) >> none_twice (n ∷ old) ns) (unless (double_fault (all_doubles (if b then Some n else None) (n ∷ old) ns)))
    go true h = both (next_is _ _) (both (bind_same (not_allowed _) (λ u. self _)) (both (refuse_then (AlreadyDeclared n) _) (equal _ _ (ap (λ x. unless (double_fault x)) (sym (found_double n (n ∷ old) ns))))))
    go false h = both (next_is _ _) (both (bind_same (allowed _) (λ u. self _)) (both (return_then tt _) h))

some_names : (n : List ℕ) (old ns : List (List ℕ)) (d : Option (List ℕ)) → names_fault (all_names (n ∷ old) ns) d ≡ double_fault d
some_names n old [] None = refl
some_names n old [] (Some m) = refl
some_names n old (k ∷ ns) d = some_names k (n ∷ old) ns d

bindings_checked : (o : Option (List (List ℕ))) → Same (unless (fault_with [] None (where_right o true))) (check_bindings o)
bindings_checked None = self _
bindings_checked (Some []) = self _
bindings_checked (Some (n ∷ ns)) = both (equal _ _ (ap unless (some_names n [] ns (all_doubles None (n ∷ []) ns)))) (other (none_twice_is [] (n ∷ ns)))

not_right : (o : Option (List (List ℕ))) → where_right o false ≡ None
not_right None = refl
not_right (Some ns) = refl

let_checked : (l : Sexps) (lists : List Sexps) → Same (unless (fault_with [] None (all_left (l ∷ lists)))) (check_let l)
let_checked (group bs ▸ b ▸ end) lists = bindings_checked (bound_names bs)
let_checked (group bs ▸ end) lists = equal _ _ (ap (λ x. unless (fault_with [] None x)) (not_right (bound_names bs)))
let_checked (group bs ▸ b ▸ c ▸ rest) lists = equal _ _ (ap (λ x. unless (fault_with [] None x)) (not_right (bound_names bs)))
let_checked _ lists = self _

pub let_form_is_read : IsReadAs let_reading check_let
let_form_is_read ts l lists s e =
    (both (equal _ _ (ap unless (run_fault let_start ts (subst NotEmpty (sym e) tt) ∙ ap (λ x. fault_with [] None (all_left x)) e))) (let_checked l lists)).at s

over_stays : (p : LetPlace) (names : List (List ℕ)) (d : Option (List ℕ)) (ts : List Token) → let_is_over p ≡ true
    → run let_reading (record { place = p; names = names; double = d }) ts ≡ record { place = p; names = names; double = d }
over_stays p names d [] e = refl
over_stays let_read names d (t ∷ ts) e = over_stays let_read names (first_double d names None) ts e ∙ ap (λ x. record { place = let_read; names = names; double = x }) (double_stays d names)
over_stays no_let names d (t ∷ ts) e = over_stays no_let names (first_double d names None) ts e ∙ ap (λ x. record { place = no_let; names = names; double = x }) (double_stays d names)
over_stays _ names d (t ∷ ts) e = absurd (cc)

pub let_form_stays : Stays let_reading
let_form_stays f ts e = over_stays f.place f.names f.double ts e

-- ---- `!`

-- whether what is left has the form
abbrev attributes_left : List Sexps → Bool
attributes_left [] = false
attributes_left (l ∷ lists) = are_attributes l

abbrev more_attributes_left : Bool → List Sexps → Bool
more_attributes_left may [] = false
more_attributes_left may (l ∷ lists) = are_attributes_from may l

abbrev annotated_left : List Sexps → Bool
annotated_left ((t ▸ rest) ∷ lists) = are_attributes rest
annotated_left _ = false

abbrev well_formed : AnnotationForm → List Sexps → Bool
well_formed (in_annotated p) lists = around annotated_left attributes_left p lists
well_formed (between_attributes may) lists = more_attributes_left may lists
well_formed (in_value d) lists = more_attributes_left false (drop_lists (suc d) lists)
well_formed annotation_read lists = true
well_formed no_annotation lists = false

form_step : (f : AnnotationForm) (t : Token) (lists : List Sexps) → NotEmpty (before t lists) → well_formed f (before t lists) ≡ well_formed (annotation_step f t) lists
form_step f t [] h = absurd (not_empty_after t [] h)
form_step f Enter (l ∷ []) h = absurd h
form_step (in_annotated unread) Leave (l ∷ lists) h = refl
form_step (in_annotated read) Enter (l ∷ m ∷ lists) h = refl
form_step (in_annotated read) Leave (l ∷ lists) h = refl
form_step (in_annotated read) (Keyword k) (l ∷ lists) h = refl
form_step (in_annotated read) _ (l ∷ lists) h = refl
form_step (in_annotated p) t lists h = around_step annotated_left attributes_left (λ x l ls. refl) p t lists h tt
form_step (between_attributes true) Enter (l ∷ m ∷ lists) h = refl
form_step (between_attributes false) Enter (l ∷ m ∷ lists) h = refl
form_step (between_attributes may) Leave (l ∷ lists) h = refl
form_step (between_attributes may) (Keyword k) (l ∷ lists) h = refl
form_step (between_attributes true) _ (l ∷ lists) h = refl
form_step (between_attributes false) _ (l ∷ lists) h = refl
form_step (in_value d) Enter (l ∷ m ∷ lists) h = refl
form_step (in_value zero) Leave (l ∷ lists) h = refl
form_step (in_value (suc d)) Leave (l ∷ lists) h = refl
form_step (in_value d) _ (l ∷ lists) h = refl
form_step annotation_read t (l ∷ lists) h = refl
form_step no_annotation t (l ∷ lists) h = refl

abbrev form_fault : Bool → Option Refusal
form_fault true = None
form_fault false = Some WrongArguments

form_at_end : (f : AnnotationForm) → annotation_fault f ≡ form_fault (well_formed f (end ∷ []))
form_at_end (in_annotated unread) = refl
form_at_end (in_annotated (reading zero)) = refl
form_at_end (in_annotated (reading (suc d))) = refl
form_at_end (in_annotated read) = refl
form_at_end (between_attributes may) = refl
form_at_end (in_value zero) = refl
form_at_end (in_value (suc d)) = refl
form_at_end annotation_read = refl
form_at_end no_annotation = refl

form_fault_is : (f : AnnotationForm) (ts : List Token) → NotEmpty (open_lists_of ts) → annotation_fault (run annotation_reading f ts) ≡ form_fault (well_formed f (open_lists_of ts))
form_fault_is f [] h = form_at_end f
form_fault_is f (t ∷ ts) h = form_fault_is (annotation_step f t) ts (not_empty_after t (open_lists_of ts) h) ∙ ap form_fault (sym (form_step f t (open_lists_of ts) h))

required_form : (b : Bool) → Same (unless (form_fault b)) (require b WrongArguments)
required_form true = other (allowed WrongArguments)
required_form false = other (not_allowed WrongArguments)

annotation_checked : (l : Sexps) (lists : List Sexps) → Same (unless (form_fault (annotated_left (l ∷ lists)))) (check_annotation l)
annotation_checked end lists = self _
annotation_checked (t ▸ rest) lists = required_form (are_attributes rest)

pub annotation_form_is_read : IsReadAs annotation_reading check_annotation
annotation_form_is_read ts l lists s e =
    (both (equal _ _ (ap unless (form_fault_is (in_annotated unread) ts (subst NotEmpty (sym e) tt) ∙ ap (λ x. form_fault (annotated_left x)) e))) (annotation_checked l lists)).at s

pub annotation_form_stays : Stays annotation_reading
annotation_form_stays f [] e = refl
annotation_form_stays annotation_read (t ∷ ts) e = annotation_form_stays annotation_read ts e
annotation_form_stays no_annotation (t ∷ ts) e = annotation_form_stays no_annotation ts e
annotation_form_stays _ (t ∷ ts) e = absurd (cc)
