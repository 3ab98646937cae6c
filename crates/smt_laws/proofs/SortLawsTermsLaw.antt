-- The tree of a judged term has the sort that the term was judged to have.
use Rattle.std.proofs.Common.{◌≡◌, ℕ, List, [], ◌∷◌, ◌++◌, length, ap, sym, subst, ◌∙◌, refl, Bool, true, false, not, Option, Some, None, nat_eq, suc, arith}
use Rattle.std.specs.Prelude.{codes, bytes_eq, pos, if◌then◌else◌}
use Rattle.std.proofs.lemmas.Bool.{eqb-true}
use Rattle.std.proofs.lemmas.List.{length-map}
use Rattle.smt_meaning.specs.declared.values.Sort.{Sort}
use Rattle.smt_meaning.specs.declared.values.Sort.TheVariants.{Bool as Truths, Int as Ints, Free}
use Rattle.smt_meaning.specs.declared.terms.Operator.{Operator}
use Rattle.smt_meaning.specs.declared.terms.Operator.TheVariants.{True, False, Not, And, Or, Xor, Implies, Equal, Distinct, Ite, Add, Subtract, Multiply, AtMost, Less, AtLeast, Greater, Divide, Modulo, Absolute, Divisible}
use Rattle.smt_meaning.specs.declared.terms.Head.TheVariants.{Numeral as Number, Theory}
use Rattle.smt_meaning.specs.declared.tokens.Token.{Token}
use Rattle.smt_meaning.specs.declared.tokens.Token.TheVariants.{Numeral, Symbol, Reserved, Keyword}
use Rattle.smt_meaning.specs.declared.tokens.Word.TheVariants.{Exclamation, Let}
use Rattle.smt_meaning.specs.Declaration.{Declaration}
use Rattle.smt_meaning.specs.Term.{Tree, Trees, node, none, more}
use Rattle.smt_meaning.specs.TreeShape.{quotient_tree, divided_from, operation}
use Rattle.smt_meaning.specs.Sexp.{Sexp, Sexps, word, group, end, ◌▸◌}
use Rattle.smt_meaning.specs.Signature.{look_up, find_function, operators, takes, stands_with, operator_sort, if_so, all_of, sort_eq}
use Rattle.smt_meaning.specs.Sorts.{Scope, Judging, Typed, Variable, Rules, trees_of, sorts_of, Known, variable, operator, function, unknown, known, find_variable, known_name, known_symbol, applied, applied_trees, judge_symbol, judge_operator, can_be_applied, judge_application, judge_bare, judge_numeral, decimal, judge_token, head_number, judge_head, judge_divisible, check_bindings, none_twice, bound_names, name_declaration, body_of, name_by, judge_attributes, either, judge, judge_all, judge_bindings, has_free, variable_names}
use Rattle.smt_laws.proofs.Both.{and_left, and_right}
use Rattle.smt_laws.proofs.Among.{Among, among_one, among_parts}
use Rattle.smt_laws.proofs.PlacesLaw.{HasSort, HaveSorts, head_at, sort_later, sorts_later}
use Rattle.smt_laws.proofs.Signatures.{sort_eq-sound, sorts_eq-sound, Usable, usable_later, Good, found_usable, defined_usable}
use Rattle.smt_laws.proofs.StepLogic.{Logic, Gives, Nothing, bind_gives, next_gives, return_gives, refuse_gives, require_gives, required_gives, scope_then}
use Rattle.smt_laws.proofs.SortLawsJudgements.{Naming, After, Fine, fine_after, note_found, declare_gives, sorting}

-- what these rules let judgements declare
abbrev pub naming_by : Rules → Logic
naming_by r = sorting (Naming r.naming)

-- ---- lists of terms and of variables

abbrev pub AllFine : List Sort → List Typed → Scope → Type 0
AllFine ps [] t = Unit {0}
AllFine ps (a ∷ ts) t = Fine ps a t × AllFine ps ts t

abbrev pub VariablesFine : List Sort → List Variable → Scope → Type 0
VariablesFine ps [] t = Unit {0}
VariablesFine ps (v ∷ vs) t = Fine ps v.term t × VariablesFine ps vs t

variables_after : (may : Declaration → Type 0) (ps : List Sort) (vs : List Variable) (s t : Scope) → After may s t → VariablesFine ps vs s → VariablesFine ps vs t
variables_after may ps [] s t e h = tt
variables_after may ps (v ∷ vs) s t e h = (fine_after may ps v.term s t e h.0, variables_after may ps vs s t e h.1)

variables_append : (ps : List Sort) (xs vs : List Variable) (t : Scope) → VariablesFine ps xs t → VariablesFine ps vs t → VariablesFine ps (xs ++ vs) t
variables_append ps [] vs t h k = k
variables_append ps (x ∷ xs) vs t h k = (h.0, variables_append ps xs vs t h.1 k)

have_sorts : (ps : List Sort) (ts : List Typed) (t : Scope) → AllFine ps ts t → HaveSorts t.signature ps (trees_of ts) (sorts_of ts)
have_sorts ps [] t h = tt
have_sorts ps (a ∷ ts) t h = (h.0.0, have_sorts ps ts t h.1)

-- ---- what a name stands for

abbrev KnownFine : List Sort → Known → Scope → Type 0
KnownFine ps (variable a) t = Fine ps a t
KnownFine ps (function d) t = Usable t.signature d
KnownFine ps (operator o) t = Unit {0}
KnownFine ps unknown t = Unit {0}

known_after : (may : Declaration → Type 0) (ps : List Sort) (k : Known) (s t : Scope) → After may s t → KnownFine ps k s → KnownFine ps k t
known_after may ps (variable a) s t e h = fine_after may ps a s t e h
known_after may ps (function d) s t e h = usable_later s.signature t.signature d e.later h
known_after may ps (operator o) s t e h = tt
known_after may ps unknown s t e h = tt

variable_step : (ps : List Sort) (a : Typed) (o : Option Typed) (k : Known) (t : Scope) (b : Bool) → Fine ps a t → KnownFine ps (known_name o k) t
    → KnownFine ps (known_name (if b then Some a else o) k) t
variable_step ps a o k t true h g = h
variable_step ps a o k t false h g = g

variable_known : (ps : List Sort) (n : List ℕ) (vs : List Variable) (k : Known) (t : Scope) → VariablesFine ps vs t → KnownFine ps k t → KnownFine ps (known_name (find_variable n vs) k) t
variable_known ps n [] k t h g = g
variable_known ps n (v ∷ vs) k t h g = variable_step ps v.term (find_variable n vs) k t (bytes_eq n v.name) h.0 (variable_known ps n vs k t h.1 g)

symbol_known : (ps : List Sort) (o : Option Operator) (d : Option Declaration) (t : Scope) → ((e : Declaration) → d ≡ Some e → Usable t.signature e) → KnownFine ps (known_symbol o d) t
symbol_known ps (Some o) d t h = tt
symbol_known ps None None t h = tt
symbol_known ps None (Some d) t h = h d refl

known_fine : (ps : List Sort) (n : List ℕ) (vs : List Variable) (t : Scope) → Good t.given t.signature → VariablesFine ps vs t → KnownFine ps (known vs n t) t
known_fine ps n vs t g h =
    variable_known ps n vs (known_symbol (look_up n operators) (find_function n t.signature)) t h
    (symbol_known ps (look_up n operators) (find_function n t.signature) t (λ e k. found_usable n t.given t.signature e g k))

-- ---- applications and bare symbols

symbol_gives : (may : Declaration → Type 0) (ps : List Sort) (s : Scope) (r : Rules) (d : Declaration) (ts : Trees) → Usable s.signature d → HaveSorts s.signature ps ts d.rank.arguments
    → Gives (sorting may) s (judge_symbol r d ts) (Fine ps)
symbol_gives may ps s r d ts u w =
    next_gives (sorting may) s _ _ _ (Fine ps) (require_gives (sorting may) s _ _)
    (λ c t g e k.
    let h : HasSort t.signature ps (applied d ts) d.rank.result × Among (applied d ts) (applied_trees d ts) =
    u t.signature ps ts e.later (sorts_later s.signature t.signature ps ts d.rank.arguments e.later w)
    in note_found may ps t (applied_trees d ts) (applied d ts) d.rank.result h.0 h.1)

operator_gives : (may : Declaration → Type 0) (ps : List Sort) (s : Scope) (r : Rules) (o : Operator) (ts : Trees) (x : Sort) → HasSort s.signature ps (operation o ts) x
    → Gives (sorting may) s (judge_operator r o ts x) (Fine ps)
operator_gives may ps s r o ts x h =
    next_gives (sorting may) s _ _ _ (Fine ps) (require_gives (sorting may) s _ _)
    (λ c t g e k. note_found may ps t (operation o ts ∷ []) (operation o ts) x (sort_later s.signature t.signature ps (operation o ts) x e.later h) (among_one (operation o ts)))

no_sorts : (ss : List Sort) → nat_eq (length ss) 0 ≡ true → ss ≡ []
no_sorts [] e = refl
no_sorts (s ∷ ss) e = let q : suc (length ss) ≡ 0 = eqb-true (suc (length ss)) 0 e in absurd (omega arith)

bare_gives : (may : Declaration → Type 0) (ps : List Sort) (s : Scope) (r : Rules) (n : List ℕ) (k : Known) → KnownFine ps k s → Gives (sorting may) s (judge_bare r n k) (Fine ps)
bare_gives may ps s r n (variable a) h = return_gives (sorting may) s a (Fine ps) h
bare_gives may ps s r n unknown h = refuse_gives (sorting may) s _ _
bare_gives may ps s r n (operator True) h = operator_gives may ps s r True none Truths ([], (tt, refl))
bare_gives may ps s r n (operator False) h = operator_gives may ps s r False none Truths ([], (tt, refl))
bare_gives may ps s r n (operator _) h = refuse_gives (sorting may) s _ _
bare_gives may ps s r n (function d) h =
    next_gives (sorting may) s _ _ _ (Fine ps) (require_gives (sorting may) s _ _)
    (λ c t g e k.
    symbol_gives may ps t r d none (usable_later s.signature t.signature d e.later h) (subst (HaveSorts t.signature ps none) (sym (no_sorts d.rank.arguments k)) tt))

-- as it stands
abbrev Plain : List Declaration → List Sort → Operator → Trees → List Sort → Sort → Type 0
Plain ds ps o us ss x = stands_with o (length ss) ≡ true → HasSort ds ps (node (Theory o) us) x

plain : (ds : List Declaration) (ps : List Sort) (o : Operator) (us : Trees) (ss : List Sort) (x : Sort) → HaveSorts ds ps us ss → operator_sort o ss ≡ Some x → Plain ds ps o us ss x
plain ds ps o us ss x w e k = (ss, (w, ap (λ c. if c then operator_sort o ss else None) k ∙ e))

all_ints : (b : Bool) (x s : Sort) → if_so b x ≡ Some s → (b ≡ true) × (x ≡ s)
all_ints true x s e = (refl, cc)
all_ints false x s e = absurd (cc)

int_first : (s : Sort) (ss : List Sort) → all_of Ints (s ∷ ss) ≡ true → s ≡ Ints
int_first Truths ss h = cc
int_first Ints ss h = refl
int_first (Free n) ss h = cc

int_rest : (s : Sort) (ss : List Sort) → all_of Ints (s ∷ ss) ≡ true → all_of Ints ss ≡ true
int_rest s ss h = and_right (sort_eq Ints s) (all_of Ints ss) h

quotient_sort : (ds : List Declaration) (ps : List Sort) (t u : Tree) → HasSort ds ps t Ints → HasSort ds ps u Ints → HasSort ds ps (quotient_tree t u) Ints
quotient_sort ds ps t u h k = (Ints ∷ Ints ∷ [], ((h, (k, tt)), refl))

divided_sort : (ds : List Declaration) (ps : List Sort) (t : Tree) (us : Trees) (ss : List Sort) → HasSort ds ps t Ints → HaveSorts ds ps us ss → all_of Ints ss ≡ true
    → HasSort ds ps (divided_from t us) Ints
divided_sort ds ps t none ss h w a = h
divided_sort ds ps t (more u us) [] h w a = absurd w
divided_sort ds ps t (more u us) (s ∷ ss) h w a =
    divided_sort ds ps (quotient_tree t u) us ss (quotient_sort ds ps t u h (subst (HasSort ds ps u) (int_first s ss a) w.0)) w.1 (int_rest s ss a)

-- with its quotient beside it
left_over_sort : (ds : List Declaration) (ps : List Sort) (o : Operator) (t u : Tree) (r s x : Sort) → HasSort ds ps t r → HasSort ds ps u s → all_of Ints (r ∷ s ∷ []) ≡ true
    → head_at ds ps (Theory o) (Ints ∷ Ints ∷ Ints ∷ []) ≡ Some x → HasSort ds ps (node (Theory o) (more t (more u (more (quotient_tree t u) none)))) x
left_over_sort ds ps o t u r s x h k a e =
    let first : HasSort ds ps t Ints = subst (HasSort ds ps t) (int_first r (s ∷ []) a) h in
    let second : HasSort ds ps u Ints = subst (HasSort ds ps u) (int_first s [] (int_rest r (s ∷ []) a)) k in
    (Ints ∷ Ints ∷ Ints ∷ [], ((first, (second, (quotient_sort ds ps t u first second, tt))), e))

two_of_three : (n : ℕ) → nat_eq (suc (suc (suc n))) 2 ≡ true → ⊥
two_of_three n h = let q : suc (suc (suc n)) ≡ 2 = eqb-true (suc (suc (suc n))) 2 h in omega (arith, q)

-- an operator of two numbers, of which the tree has their quotient beside them
two_divided_sort : (ds : List Declaration) (ps : List Sort) (o : Operator) (us : Trees) (ss : List Sort) (r x : Sort)
    → ((t u : Tree) → operation o (more t (more u none)) ≡ node (Theory o) (more t (more u (more (quotient_tree t u) none)))) → head_at ds ps (Theory o) (Ints ∷ Ints ∷ Ints ∷ []) ≡ Some r
    → HaveSorts ds ps us ss → nat_eq (length ss) 2 ≡ true → if_so (all_of Ints ss) r ≡ Some x → HasSort ds ps (operation o us) x
two_divided_sort ds ps o none [] r x is at w k e = absurd (cc)
two_divided_sort ds ps o none (s ∷ ss) r x is at w k e = absurd w
two_divided_sort ds ps o (more t us) [] r x is at w k e = absurd w
two_divided_sort ds ps o (more t none) (s ∷ []) r x is at w k e = absurd (cc)
two_divided_sort ds ps o (more t none) (s ∷ q ∷ ss) r x is at w k e = absurd w.1
two_divided_sort ds ps o (more t (more u us)) (s ∷ []) r x is at w k e = absurd w.1
two_divided_sort ds ps o (more t (more u none)) (s ∷ q ∷ []) r x is at w k e =
    let p : (all_of Ints (s ∷ q ∷ []) ≡ true) × (r ≡ x) = all_ints (all_of Ints (s ∷ q ∷ [])) r x e in
    subst (λ v. HasSort ds ps v x) (sym (is t u)) (left_over_sort ds ps o t u s q x w.0 w.1.0 p.0 (at ∙ ap Some p.1))
two_divided_sort ds ps o (more t (more u none)) (s ∷ q ∷ p ∷ ss) r x is at w k e = absurd w.1.1
two_divided_sort ds ps o (more t (more u (more v us))) (s ∷ q ∷ []) r x is at w k e = absurd w.1.1
two_divided_sort ds ps o (more t (more u (more v us))) (s ∷ q ∷ p ∷ ss) r x is at w k e = absurd (two_of_three (length ss) k)

-- the tree of an operator that is applied has the operator's sort
pub operation_sort : (ds : List Declaration) (ps : List Sort) (o : Operator) (us : Trees) (ss : List Sort) (x : Sort) → HaveSorts ds ps us ss → takes o (length ss) ≡ true
    → operator_sort o ss ≡ Some x → HasSort ds ps (operation o us) x
operation_sort ds ps True us ss x w k e = absurd (cc)
operation_sort ds ps False us ss x w k e = absurd (cc)
operation_sort ds ps Not us ss x w k e = plain ds ps Not us ss x w e k
operation_sort ds ps And us ss x w k e = plain ds ps And us ss x w e k
operation_sort ds ps Or us ss x w k e = plain ds ps Or us ss x w e k
operation_sort ds ps Xor us ss x w k e = plain ds ps Xor us ss x w e k
operation_sort ds ps Implies us ss x w k e = plain ds ps Implies us ss x w e k
operation_sort ds ps Equal us ss x w k e = plain ds ps Equal us ss x w e k
operation_sort ds ps Distinct us ss x w k e = plain ds ps Distinct us ss x w e k
operation_sort ds ps Ite us ss x w k e = plain ds ps Ite us ss x w e k
operation_sort ds ps Add us ss x w k e = plain ds ps Add us ss x w e k
operation_sort ds ps Subtract us ss x w k e = plain ds ps Subtract us ss x w e k
operation_sort ds ps Multiply us ss x w k e = plain ds ps Multiply us ss x w e k
operation_sort ds ps AtMost us ss x w k e = plain ds ps AtMost us ss x w e k
operation_sort ds ps Less us ss x w k e = plain ds ps Less us ss x w e k
operation_sort ds ps AtLeast us ss x w k e = plain ds ps AtLeast us ss x w e k
operation_sort ds ps Greater us ss x w k e = plain ds ps Greater us ss x w e k
operation_sort ds ps Absolute us ss x w k e = plain ds ps Absolute us ss x w e k
operation_sort ds ps Divide none [] x w k e = absurd (cc)
operation_sort ds ps Divide none (s ∷ ss) x w k e = absurd w
operation_sort ds ps Divide (more t us) [] x w k e = absurd w
operation_sort ds ps Divide (more t us) (s ∷ ss) x w k e =
    let p : (all_of Ints (s ∷ ss) ≡ true) × (Ints ≡ x) = all_ints (all_of Ints (s ∷ ss)) Ints x e in
    subst (HasSort ds ps (divided_from t us)) p.1 (divided_sort ds ps t us ss (subst (HasSort ds ps t) (int_first s ss p.0) w.0) w.1 (int_rest s ss p.0))
operation_sort ds ps Modulo us ss x w k e = two_divided_sort ds ps Modulo us ss Ints x (λ t u. refl) refl w k e
operation_sort ds ps Divisible us ss x w k e = two_divided_sort ds ps Divisible us ss Truths x (λ t u. refl) refl w k e

operator_has : (ps : List Sort) (t : Scope) (o : Operator) (ts : List Typed) (x : Sort) → AllFine ps ts t → takes o (length ts) ≡ true → operator_sort o (sorts_of ts) ≡ Some x
    → HasSort t.signature ps (operation o (trees_of ts)) x
operator_has ps t o ts x h k e =
    operation_sort t.signature ps o (trees_of ts) (sorts_of ts) x (have_sorts ps ts t h) (ap (takes o) (length-map ts (λ (a : Typed). a.sort)) ∙ k) e

all_after : (may : Declaration → Type 0) (ps : List Sort) (ts : List Typed) (s t : Scope) → After may s t → AllFine ps ts s → AllFine ps ts t
all_after may ps [] s t e h = tt
all_after may ps (a ∷ ts) s t e h = (fine_after may ps a s t e h.0, all_after may ps ts s t e h.1)

application_gives : (may : Declaration → Type 0) (ps : List Sort) (s : Scope) (r : Rules) (n : List ℕ) (k : Known) (ts : List Typed) → KnownFine ps k s → AllFine ps ts s
    → Gives (sorting may) s (judge_application r n k ts) (Fine ps)
application_gives may ps s r n (variable a) ts h w = refuse_gives (sorting may) s _ _
application_gives may ps s r n unknown ts h w = refuse_gives (sorting may) s _ _
application_gives may ps s r n (operator o) ts h w =
    next_gives (sorting may) s _ _ _ (Fine ps) (require_gives (sorting may) s _ _)
    (λ c t g e k. bind_gives (sorting may) t _ _ _ (Fine ps) (required_gives (sorting may) t _ _)
    (λ x u f d l. operator_gives may ps u r o (trees_of ts) x (operator_has ps u o ts x (all_after may ps ts t u d (all_after may ps ts s t e w)) k l)))
application_gives may ps s r n (function d) ts h w =
    next_gives (sorting may) s _ _ _ (Fine ps) (require_gives (sorting may) s _ _)
    (λ c t g e k. next_gives (sorting may) t _ _ _ (Fine ps) (require_gives (sorting may) t _ _)
    (λ x u f m l. symbol_gives may ps u r d (trees_of ts) (usable_later t.signature u.signature d m.later (usable_later s.signature t.signature d e.later h))
    (subst (HaveSorts u.signature ps (trees_of ts)) (sorts_eq-sound (sorts_of ts) d.rank.arguments l) (have_sorts ps ts u (all_after may ps ts t u m (all_after may ps ts s t e w))))))

can_be_applied_gives : (may : Declaration → Type 0) (s : Scope) (n : List ℕ) (k : Known) → Gives (sorting may) s (can_be_applied n k) Nothing
can_be_applied_gives may s n (variable a) = refuse_gives (sorting may) s _ _
can_be_applied_gives may s n unknown = refuse_gives (sorting may) s _ _
can_be_applied_gives may s n _ = return_gives (sorting may) s tt Nothing tt

none_twice_gives : (may : Declaration → Type 0) (s : Scope) (before ns : List (List ℕ)) → Gives (sorting may) s (none_twice before ns) Nothing
none_twice_gives may s before [] = return_gives (sorting may) s tt Nothing tt
none_twice_gives may s before (n ∷ ns) = next_gives (sorting may) s _ _ _ Nothing (require_gives (sorting may) s _ _) (λ c t g e k. none_twice_gives may t (n ∷ before) ns)

bindings_gives : (may : Declaration → Type 0) (s : Scope) (o : Option (List (List ℕ))) → Gives (sorting may) s (check_bindings o) Nothing
bindings_gives may s None = refuse_gives (sorting may) s _ _
bindings_gives may s (Some []) = refuse_gives (sorting may) s _ _
bindings_gives may s (Some (n ∷ ns)) = none_twice_gives may s [] (n ∷ ns)

-- ---- names

name_usable : (id : ℕ) (n : List ℕ) (a : Typed) (ds : List Declaration) → HasSort ds [] a.tree a.sort → Usable (ds ++ name_declaration id n a ∷ []) (name_declaration id n a)
name_usable id n a ds h = defined_usable (name_declaration id n a) (body_of a.tree) ds refl h (among_parts a.tree [])

-- a name stands for a term without parameters
name_gives : (r : Rules) (s : Scope) (ps : List Sort) (open_term : Bool) (a : Typed) (ss : Sexps) → (r.naming ≡ true → ps ≡ []) → Fine ps a s → Gives (naming_by r) s (name_by r open_term a ss) Nothing
name_gives r s ps open_term a (word (Symbol n) ▸ rest) c h =
    scope_then (naming_by r) s _ Nothing
    (next_gives (naming_by r) s _ _ _ Nothing (require_gives (naming_by r) s _ _)
    (λ x t g e k. next_gives (naming_by r) t _ _ _ Nothing (require_gives (naming_by r) t _ _)
    (λ y u f m l. next_gives (naming_by r) u _ _ _ Nothing (require_gives (naming_by r) u _ _)
    (λ z v i p q. declare_gives (Naming r.naming) v (λ id. name_declaration id n a)
    (λ id. subst (λ b. Naming b (name_declaration id n a)) (sym (and_left r.naming (not open_term) k)) refl) (λ id. refl)
    (λ id b o. name_usable id n a v.signature
    (subst (λ qs. HasSort v.signature qs a.tree a.sort) (c (and_left r.naming (not open_term) k))
    (fine_after (Naming r.naming) ps a u v p (fine_after (Naming r.naming) ps a t u m (fine_after (Naming r.naming) ps a s t e h))).0))))))
name_gives r s ps open_term a _ c h = refuse_gives (naming_by r) s _ _

either_gives : {A : Type 0} (may : Declaration → Type 0) (s : Scope) (c : Bool) (m n : Judging A) (P : A → Scope → Type 0) → Gives (sorting may) s m P → Gives (sorting may) s n P → Gives (sorting may) s (either c m n) P
either_gives may s true m n P h g = h
either_gives may s false m n P h g = g

attributes_give : (r : Rules) (s : Scope) (ps : List Sort) (open_term : Bool) (a : Typed) (ss : Sexps) → (r.naming ≡ true → ps ≡ []) → Fine ps a s
    → Gives (naming_by r) s (judge_attributes r open_term a ss) Nothing
attributes_give r s ps open_term a end c h = return_gives (naming_by r) s tt Nothing tt
attributes_give r s ps open_term a (word (Keyword k) ▸ rest) c h =
    either_gives (Naming r.naming) s (bytes_eq k (codes "named")) _ _ Nothing
    (next_gives (naming_by r) s _ _ _ Nothing (name_gives r s ps open_term a rest c h) (λ x t g e w. attributes_give r t ps open_term a rest c (fine_after (Naming r.naming) ps a s t e h)))
    (attributes_give r s ps open_term a rest c h)
attributes_give r s ps open_term a (_ ▸ rest) c h = attributes_give r s ps open_term a rest c h

-- ---- terms

numeral_gives : (may : Declaration → Type 0) (ps : List Sort) (s : Scope) (n : ℕ) → Gives (sorting may) s (judge_numeral n) (Fine ps)
numeral_gives may ps s n =
    next_gives (sorting may) s _ _ _ (Fine ps) (require_gives (sorting may) s _ _)
    (λ c t g e k. note_found may ps t (node (Number (pos n)) none ∷ []) (node (Number (pos n)) none) Ints ([], (tt, refl)) (among_one (node (Number (pos n)) none)))

token_gives : (may : Declaration → Type 0) (ps : List Sort) (s : Scope) (r : Rules) (vs : List Variable) (t : Token) → Good s.given s.signature → VariablesFine ps vs s → Gives (sorting may) s (judge_token r vs t) (Fine ps)
token_gives may ps s r vs (Symbol n) g h = scope_then (sorting may) s (λ u. judge_bare r n (known vs n u)) (Fine ps) (bare_gives may ps s r n (known vs n s) (known_fine ps n vs s g h))
token_gives may ps s r vs (Numeral cs) g h = numeral_gives may ps s (decimal cs)
token_gives may ps s r vs _ g h = refuse_gives (sorting may) s _ _

-- ---- (_ divisible n)

head_gives : (may : Declaration → Type 0) (s : Scope) (o : Option ℕ) → Gives (sorting may) s (judge_head o) Nothing
head_gives may s None = refuse_gives (sorting may) s _ _
head_gives may s (Some n) =
    next_gives (sorting may) s _ _ _ Nothing (require_gives (sorting may) s _ _) (λ c t g e k. next_gives (sorting may) t _ _ _ Nothing (require_gives (sorting may) t _ _) (λ d u f m l. return_gives (sorting may) u n Nothing tt))

divisible_gives : (may : Declaration → Type 0) (ps : List Sort) (s : Scope) (r : Rules) (n : ℕ) (ts : List Typed) → AllFine ps ts s → Gives (sorting may) s (judge_divisible r n ts) (Fine ps)
divisible_gives may ps s r n [] w = refuse_gives (sorting may) s _ _
divisible_gives may ps s r n (a ∷ []) w =
    let number : Tree = node (Number (pos n)) none in
    next_gives (sorting may) s _ _ _ (Fine ps) (require_gives (sorting may) s _ _)
    (λ c t g e k. operator_gives may ps t r Divisible (more a.tree (more number none)) Truths
    (left_over_sort t.signature ps Divisible a.tree number Ints Ints Truths
    (subst (HasSort t.signature ps a.tree) (sort_eq-sound a.sort Ints k) (fine_after may ps a s t e w.0).0) ([], (tt, refl)) refl refl))
divisible_gives may ps s r n (a ∷ b ∷ ts) w = refuse_gives (sorting may) s _ _

mutual
  pub judge_gives : (r : Rules) (ps : List Sort) (c : r.naming ≡ true → ps ≡ []) (vs : List Variable) (x : Sexp) (s : Scope) → Good s.given s.signature → VariablesFine ps vs s
      → Gives (naming_by r) s (judge r vs x) (Fine ps)
  judge_gives r ps c vs (word t) s g h = token_gives (Naming r.naming) ps s r vs t g h
  judge_gives r ps c vs (group (word (Reserved Let) ▸ group bs ▸ b ▸ end)) s g h =
      next_gives (naming_by r) s _ _ _ (Fine ps) (bindings_gives (Naming r.naming) s (bound_names bs))
      (λ y t f e k. bind_gives (naming_by r) t _ _ (VariablesFine ps) (Fine ps) (bindings_give r ps c vs bs t f (variables_after (Naming r.naming) ps vs s t e h))
      (λ xs u d m l. judge_gives r ps c (xs ++ vs) b u d (variables_append ps xs vs u l (variables_after (Naming r.naming) ps vs t u m (variables_after (Naming r.naming) ps vs s t e h)))))
  judge_gives r ps c vs (group (word (Reserved Let) ▸ _)) s g h = refuse_gives (naming_by r) s _ _
  judge_gives r ps c vs (group (word (Reserved Exclamation) ▸ x ▸ rest)) s g h =
      next_gives (naming_by r) s _ _ _ (Fine ps) (require_gives (naming_by r) s _ _)
      (λ y t f e k. bind_gives (naming_by r) t _ _ (Fine ps) (Fine ps) (judge_gives r ps c vs x t f (variables_after (Naming r.naming) ps vs s t e h))
      (λ a u d m l. next_gives (naming_by r) u _ _ _ (Fine ps) (attributes_give r u ps (has_free (variable_names vs) x) a rest c l)
      (λ z v i p q. return_gives (naming_by r) v a (Fine ps) (fine_after (Naming r.naming) ps a u v p l))))
  judge_gives r ps c vs (group (word (Reserved Exclamation) ▸ end)) s g h = refuse_gives (naming_by r) s _ _
  judge_gives r ps c vs (group (word (Reserved w) ▸ _)) s g h = refuse_gives (naming_by r) s _ _
  judge_gives r ps c vs (group (word (Symbol n) ▸ xs)) s g h =
      scope_then (naming_by r) s _ (Fine ps)
      (next_gives (naming_by r) s _ _ _ (Fine ps) (can_be_applied_gives (Naming r.naming) s n (known vs n s))
      (λ y t f e k. bind_gives (naming_by r) t _ _ (AllFine ps) (Fine ps) (all_give r ps c vs xs t f (variables_after (Naming r.naming) ps vs s t e h))
      (λ ts u d m l.
      application_gives (Naming r.naming) ps u r n (known vs n s) ts (known_after (Naming r.naming) ps (known vs n s) t u m (known_after (Naming r.naming) ps (known vs n s) s t e (known_fine ps n vs s g h))) l)))
  judge_gives r ps c vs (group (group hs ▸ xs)) s g h =
      bind_gives (naming_by r) s _ _ Nothing (Fine ps) (head_gives (Naming r.naming) s (head_number hs))
      (λ n t f e k. bind_gives (naming_by r) t _ _ (AllFine ps) (Fine ps) (all_give r ps c vs xs t f (variables_after (Naming r.naming) ps vs s t e h))
      (λ ts u d m l. divisible_gives (Naming r.naming) ps u r n ts l))
  judge_gives r ps c vs (group _) s g h = refuse_gives (naming_by r) s _ _

  pub all_give : (r : Rules) (ps : List Sort) (c : r.naming ≡ true → ps ≡ []) (vs : List Variable) (xs : Sexps) (s : Scope) → Good s.given s.signature → VariablesFine ps vs s
      → Gives (naming_by r) s (judge_all r vs xs) (AllFine ps)
  all_give r ps c vs end s g h = return_gives (naming_by r) s [] (AllFine ps) tt
  all_give r ps c vs (x ▸ xs) s g h =
      bind_gives (naming_by r) s _ _ (Fine ps) (AllFine ps) (judge_gives r ps c vs x s g h)
      (λ a t f e k. bind_gives (naming_by r) t _ _ (AllFine ps) (AllFine ps) (all_give r ps c vs xs t f (variables_after (Naming r.naming) ps vs s t e h))
      (λ ts u d m l. return_gives (naming_by r) u (a ∷ ts) (AllFine ps) (fine_after (Naming r.naming) ps a t u m k, l)))

  bindings_give : (r : Rules) (ps : List Sort) (c : r.naming ≡ true → ps ≡ []) (vs : List Variable) (bs : Sexps) (s : Scope) → Good s.given s.signature → VariablesFine ps vs s
      → Gives (naming_by r) s (judge_bindings r vs bs) (VariablesFine ps)
  bindings_give r ps c vs end s g h = return_gives (naming_by r) s [] (VariablesFine ps) tt
  bindings_give r ps c vs (group (word (Symbol n) ▸ x ▸ end) ▸ rest) s g h =
      bind_gives (naming_by r) s _ _ (Fine ps) (VariablesFine ps) (judge_gives r ps c vs x s g h)
      (λ a t f e k. bind_gives (naming_by r) t _ _ (VariablesFine ps) (VariablesFine ps) (bindings_give r ps c vs rest t f (variables_after (Naming r.naming) ps vs s t e h))
      (λ xs u d m l. return_gives (naming_by r) u _ (VariablesFine ps) (fine_after (Naming r.naming) ps a t u m k, l)))
  bindings_give r ps c vs (_ ▸ rest) s g h = refuse_gives (naming_by r) s _ _
