-- Commands keep the signature's functions usable, and assert terms of the sort Bool.
use Rattle.std.proofs.Common.{◌≡◌, ℕ, ◌+◌, ◌<◌, List, [], ◌∷◌, ◌++◌, All, length, sym, subst, ◌∙◌, refl, true, false, Option, Some, None, append_assoc}
use Rattle.std.specs.Prelude.{ℤ, codes}
use Rattle.std.proofs.lemmas.List.{length-append}
use Rattle.smt_meaning.specs.declared.values.Sort.{Sort}
use Rattle.smt_meaning.specs.declared.values.Sort.TheVariants.{Bool as Truths, Free}
use Rattle.smt_meaning.specs.declared.terms.Head.TheVariants.{Place}
use Rattle.smt_meaning.specs.declared.tokens.Token.{Token}
use Rattle.smt_meaning.specs.Declaration.{Declaration}
use Rattle.smt_meaning.specs.Term.{node, none}
use Rattle.smt_meaning.specs.Sexp.{sexp}
use Rattle.smt_meaning.specs.Signature.{is_symbol}
use Rattle.smt_meaning.specs.Sorts.{Scope, Outcome, done, refused, Judging, ◌>>◌, return, declare, Typed, Variable, judge}
use Rattle.smt_meaning.specs.Goal.{pair_text}
use Rattle.smt_meaning.specs.StackCommand.{Change, declares, asserts, sets, clears, begins_again, is_unsupported, sort_declaration, function_declaration, declare_new_sort, declare_sort, define_sort, declare_function, judge_parameters, Bodied, apart, in_body, judge_body, sorts_of_variables, define_function, in_assert, assert_term, in_question, judge_terms, judge_questions, ask_terms, assume_terms, minimize_term, stack_command}
use Rattle.smt_meaning.specs.declared.commands.WrittenSort.{WrittenSort}
use Rattle.smt_meaning.specs.declared.commands.Parameter.{Parameter}
use Rattle.smt_meaning.specs.declared.commands.Command.{Command}
use Rattle.smt_meaning.specs.declared.commands.Command.TheVariants.{SetOption, DeclareSort, DefineSort, DeclareConst, DeclareFun, DefineFun, Assert, CheckSatAssuming, Push, Pop, GetValue, ResetAssertions, Reset, Minimize}
use Rattle.smt_laws.proofs.Among.{Among}
use Rattle.smt_laws.proofs.VariableTrees.{among_them, with_trees}
use Rattle.smt_laws.proofs.PlacesLaw.{place_sort, HasSort, sort_later}
use Rattle.smt_laws.proofs.Signatures.{sort_eq-sound, Usable, Good, symbol_usable, defined_usable}
use Rattle.smt_laws.proofs.StepLogic.{Logic, Ends, Gives, Nothing, bind_gives, next_gives, return_gives, require_gives, scope_then, if_gives, sort_gives, sorts_give, sort_name_gives, function_name_gives, room_gives, define_gives}
use Rattle.smt_laws.proofs.SortLawsJudgements.{Naming, After, after_self, nothing_more, Fine, declare_gives, sorting, widen}
use Rattle.smt_laws.proofs.SortLawsTermsLaw.{VariablesFine, judge_gives}

-- what a command may declare: of names that `:named` gives, those of terms alone
abbrev pub Declaring : Declaration → Type 0
Declaring d = d.is_name ≡ true → is_symbol d ≡ false

abbrev declaring : Logic
declaring = sorting Declaring

-- a new assertion has the sort Bool, and is among the trees
abbrev Asserted : Change → Scope → Type 0
Asserted (asserts a) t = HasSort t.signature [] a.term Truths × Among a.term t.trees
Asserted _ t = Unit {0}

-- with it nothing but names of terms is declared
abbrev pub Does : Scope → Change → Scope → Type 0
Does s (asserts a) t = (HasSort t.signature [] a.term Truths × Among a.term t.trees) × After (Naming true) s t
Does s _ t = Unit {0}

-- it asserts nothing
abbrev Plain : Change → Scope → Type 0
Plain (asserts a) t = ⊥
Plain _ t = Unit {0}

-- ---- declarations

declares_gives : (s : Scope) (d : ℕ → Declaration) → ((n : ℕ) → (d n).is_name ≡ false) → ((n : ℕ) → (d n).id ≡ n)
    → ((n : ℕ) → All (λ (e : Declaration). e.id < n) s.signature → (d n).is_sort ≡ false → Usable (s.signature ++ d n ∷ []) (d n)) → Gives declaring s (declare d >> return declares) Plain
declares_gives s d unnamed own u =
    next_gives declaring s _ _ _ Plain (declare_gives Declaring s d (λ n e. absurd (no (sym (unnamed n) ∙ e))) own u) (λ a t f e k. return_gives declaring t declares Plain tt)
  where
    no : false ≡ true → ⊥
    no e = cc

sort_declared : (s : Scope) (n : List ℕ) (x : ℕ → Sort) → Gives declaring s (declare (λ id. sort_declaration id n (x id)) >> return declares) Plain
sort_declared s n x = declares_gives s _ (λ id. refl) (λ id. refl) (λ id b e. absurd (no e))
  where
    no : true ≡ false → ⊥
    no e = cc

new_sort_gives : (n : List ℕ) (s : Scope) → Gives declaring s (declare_new_sort n) Plain
new_sort_gives n s = next_gives declaring s _ _ Nothing Plain (sort_name_gives declaring n s) (λ a t f e k. sort_declared t n (λ id. Free id))

declare_sort_gives : (n : List ℕ) (arity : ℤ) (s : Scope) → Gives declaring s (declare_sort n arity) Plain
declare_sort_gives n arity s = if_gives declaring s _ _ _ Plain (new_sort_gives n s) (return_gives declaring s is_unsupported Plain tt)

define_sort_gives : (n : List ℕ) (ps : List (List ℕ)) (x : WrittenSort) (s : Scope) → Gives declaring s (define_sort n ps x) Plain
define_sort_gives n [] x s =
    next_gives declaring s _ _ Nothing Plain (sort_name_gives declaring n s) (λ a t f e k. bind_gives declaring t _ _ Nothing Plain (sort_gives declaring x t) (λ r u d m l. sort_declared u n (λ id. r)))
define_sort_gives n (p ∷ ps) x s = return_gives declaring s is_unsupported Plain tt

function_gives : (n : List ℕ) (ss : List WrittenSort) (x : WrittenSort) (s : Scope) → Gives declaring s (declare_function n ss x) Plain
function_gives n ss x s =
    next_gives declaring s _ _ Nothing Plain (function_name_gives declaring n s)
    (λ b u d m l. bind_gives declaring u _ _ Nothing Plain (sorts_give declaring ss u)
    (λ rs v g i p. bind_gives declaring v _ _ Nothing Plain (sort_gives declaring x v)
    (λ r w h j q. declares_gives w _ (λ id. refl) (λ id. refl) (λ id below o. symbol_usable id n rs r w.signature below))))

-- ---- definitions

-- the k-th parameter is the k-th place
abbrev ArePlaces : ℕ → List Variable → Type 0
ArePlaces k [] = Unit {0}
ArePlaces k (v ∷ vs) = (v.term.tree ≡ node (Place k) none) × ArePlaces (k + 1) vs

parameters_give : (k : ℕ) (before : List (List ℕ)) (ps : List Parameter) (s : Scope) → Gives declaring s (judge_parameters k before ps) (λ vs t. ArePlaces k vs)
parameters_give k before [] s = return_gives declaring s [] _ tt
parameters_give k before (p ∷ ps) s =
    next_gives declaring s _ _ _ _ (require_gives declaring s _ _)
    (λ a t f e h. bind_gives declaring t _ _ Nothing _ (sort_gives declaring p.sort t)
    (λ x u d m l. bind_gives declaring u _ _ _ _ (parameters_give (k + 1) (p.name ∷ before) ps u) (λ vs w g i q. return_gives declaring w _ _ (refl, q))))

place_at : (us vs : List Variable) (v : Variable) → place_sort (sorts_of_variables (us ++ v ∷ vs)) (length us) ≡ Some v.term.sort
place_at [] vs v = refl
place_at (u ∷ us) vs v = place_at us vs v

places_fine : (s : Scope) (us vs : List Variable) → ArePlaces (length us) vs → VariablesFine (sorts_of_variables (us ++ vs)) vs (with_trees s (us ++ vs))
places_fine s us [] h = tt
places_fine s us (v ∷ vs) h = (
  (subst (λ u. HasSort s.signature (sorts_of_variables (us ++ v ∷ vs)) u v.term.sort) (sym h.0) ([], (tt, place_at us vs v)), among_them us vs v),
  subst (λ ws. VariablesFine (sorts_of_variables ws) vs (with_trees s ws)) (append_assoc us (v ∷ []) vs)
      (places_fine s (us ++ v ∷ []) vs (subst (λ k. ArePlaces k vs) (sym (length-append us (v ∷ []))) h.1)),
)

abbrev BodyFine : List Sort → Bodied → Scope → Type 0
BodyFine ps b t = HasSort t.signature ps b.body.term b.sort × Among b.body.term b.body.terms

body_gives : (s : Scope) (vs : List Variable) (x : List Token) → ArePlaces 0 vs → Gives declaring s (judge_body vs x) (BodyFine (sorts_of_variables vs))
unfolding judge_body
body_gives s vs x h = record {
  gives = λ f. go f (judge in_body vs (sexp x) (with_trees s vs)) ((judge_gives in_body (sorts_of_variables vs) no vs (sexp x) (with_trees s vs) f (places_fine s [] vs h)).gives f);
}
  where
    no : false ≡ true → sorts_of_variables vs ≡ []
    no e = absurd (cc)

    go : Good s.given s.signature → (o : Outcome Typed) → Ends (sorting (Naming false)) (with_trees s vs) (Fine (sorts_of_variables vs)) o → Ends declaring s (BodyFine (sorts_of_variables vs)) (apart s o)
    go f (done a c) k = ((f, after_self Declaring s), (subst (λ ds. HasSort ds (sorts_of_variables vs) a.tree a.sort) (nothing_more (with_trees s vs) c k.0.1) k.1.0, k.1.1))
    go f (refused r) k = tt

defined_gives : (n : List ℕ) (ps : List Parameter) (x : WrittenSort) (y : List Token) (s : Scope) → Gives declaring s (define_function n ps x y) Plain
defined_gives n ps x y =
    define_gives declaring n ps x y (ArePlaces 0) (λ vs. BodyFine (sorts_of_variables vs)) Plain (parameters_give 0 [] ps) (λ vs w p. body_gives w vs y p)
    (λ vs r b z t after fine same. declares_gives t _ (λ id. refl) (λ id. refl)
    (λ id below no. defined_usable (function_declaration id n (sorts_of_variables vs) r (Some b.body)) b.body t.signature refl
    (subst (HasSort t.signature (sorts_of_variables vs) b.body.term) (sort_eq-sound b.sort r same)
    (sort_later z.signature t.signature (sorts_of_variables vs) b.body.term b.sort after.later fine.0)) fine.1))

-- ---- assertions, questions and levels

asserted_gives : (x : List Token) (s : Scope) → Good s.given s.signature → Gives (sorting (Naming true)) s (assert_term x) Asserted
asserted_gives x s g =
    bind_gives (sorting (Naming true)) s _ _ (Fine []) Asserted (judge_gives in_assert [] (λ e. refl) [] (sexp x) s g tt)
    (λ a t f e k. next_gives (sorting (Naming true)) t _ _ _ Asserted (require_gives (sorting (Naming true)) t _ _)
    (λ b u d m l. next_gives (sorting (Naming true)) u _ _ _ Asserted (room_gives (sorting (Naming true)) u)
    (λ c v h i p. return_gives (sorting (Naming true)) v _ Asserted (
      sort_later u.signature v.signature [] a.tree Truths i.later
          (sort_later t.signature u.signature [] a.tree Truths m.later (subst (HasSort t.signature [] a.tree) (sort_eq-sound a.sort Truths l) k.0)),
      i.kept a.tree (m.kept a.tree k.1),
    ))))

assert_gives : (x : List Token) (s : Scope) → Good s.given s.signature → Gives declaring s (assert_term x) (Does s)
assert_gives x s g = widen (Naming true) Declaring s (assert_term x) Asserted (Does s) (λ d k e. k) with_names (asserted_gives x s g)
  where
    with_names : (c : Change) (t : Scope) → After (Naming true) s t → Asserted c t → Does s c t
    with_names (asserts a) t e k = (k, e)
    with_names _ t e k = tt

unnamed : {A : Type 0} (s : Scope) (m : Judging A) (P : A → Scope → Type 0) → Gives (sorting (Naming false)) s m P → Gives declaring s m Nothing
unnamed s m P h = widen (Naming false) Declaring s m P Nothing (λ d k. absurd k) (λ a t e k. tt) h

terms_give : (ts : List (List Token)) (s : Scope) → Good s.given s.signature → Gives declaring s (judge_terms ts) Nothing
terms_give [] s g = return_gives declaring s [] Nothing tt
terms_give (t ∷ ts) s g =
    bind_gives declaring s _ _ Nothing Nothing (unnamed s _ (Fine []) (judge_gives in_question [] (λ e. refl) [] (sexp t) s g tt))
    (λ a u f e k. bind_gives declaring u _ _ Nothing Nothing (terms_give ts u f) (λ bs v d m l. return_gives declaring v (a ∷ bs) Nothing tt))

questions_give : (ts : List (List Token)) (s : Scope) → Good s.given s.signature → Gives declaring s (judge_questions ts) Nothing
questions_give ts s g = bind_gives declaring s _ _ Nothing Nothing (terms_give ts s g) (λ terms t f e k. next_gives declaring t _ _ _ Nothing (room_gives declaring t) (λ c v h i p. return_gives declaring v terms Nothing tt))

ask_gives : (ts : List (List Token)) (s : Scope) → Good s.given s.signature → Gives declaring s (ask_terms ts) Plain
ask_gives ts s g = bind_gives declaring s _ _ Nothing Plain (questions_give ts s g) (λ terms t f e k. return_gives declaring t _ Plain tt)

assume_gives : (level : ℕ) (ts : List (List Token)) (s : Scope) → Good s.given s.signature → Gives declaring s (assume_terms level ts) Plain
assume_gives level ts s g =
    bind_gives declaring s _ _ Nothing Plain (terms_give ts s g)
    (λ terms t f e k. next_gives declaring t _ _ _ Plain (require_gives declaring t _ _)
    (λ a u d m l. next_gives declaring u _ _ _ Plain (room_gives declaring u)
    (λ b v h i p. next_gives declaring v _ _ _ Plain (require_gives declaring v _ _) (λ c w j o q. return_gives declaring w _ Plain tt))))

minimize_gives : (level : ℕ) (t : List Token) (s : Scope) → Good s.given s.signature → Gives declaring s (minimize_term level t) Plain
minimize_gives level t s g =
    bind_gives declaring s _ _ Nothing Plain (unnamed s _ (Fine []) (judge_gives in_question [] (λ e. refl) [] (sexp t) s g tt))
    (λ a u f e k. next_gives declaring u _ _ _ Plain (require_gives declaring u _ _)
    (λ b v d m l. scope_then declaring v _ Plain (next_gives declaring v _ _ _ Plain (require_gives declaring v _ _) (λ c w h i p. assume_gives level (pair_text (codes "=") t t ∷ []) w h))))

-- ---- each command

abbrev pub KeepsIfSome : Option (ℕ → Judging Change) → Type 0
KeepsIfSome None = Unit {0}
KeepsIfSome (Some m) = (level : ℕ) (s : Scope) → Good s.given s.signature → Gives declaring s (m level) (Does s)

plain : (s : Scope) (m : Judging Change) → Gives declaring s m Plain → Gives declaring s m (Does s)
plain s m h = widen Declaring Declaring s m Plain (Does s) (λ d k. k) does h
  where
    does : (c : Change) (t : Scope) → After Declaring s t → Plain c t → Does s c t
    does (asserts a) t e k = absurd k
    does _ t e k = tt

pub command_keeps : (c : Command) → KeepsIfSome (stack_command c)
command_keeps (SetOption o) = λ level s g. plain s _ (return_gives declaring s (sets o) Plain tt)
command_keeps (DeclareSort n arity) = λ level s g. plain s _ (declare_sort_gives n arity s)
command_keeps (DefineSort n ps x) = λ level s g. plain s _ (define_sort_gives n ps x s)
command_keeps (DeclareConst n x) = λ level s g. plain s _ (function_gives n [] x s)
command_keeps (DeclareFun n ss x) = λ level s g. plain s _ (function_gives n ss x s)
command_keeps (DefineFun n ps x t) = λ level s g. plain s _ (defined_gives n ps x t s)
command_keeps (Assert t) = λ level s g. assert_gives t s g
command_keeps (GetValue ts) = λ level s g. plain s _ (ask_gives ts s g)
command_keeps (CheckSatAssuming ts) = λ level s g. plain s _ (assume_gives level ts s g)
command_keeps (Push n) = λ level s g. plain s _ (next_gives declaring s _ _ _ Plain (require_gives declaring s _ _) (λ a t f e k. return_gives declaring t _ Plain tt))
command_keeps (Pop n) = λ level s g. plain s _ (next_gives declaring s _ _ _ Plain (require_gives declaring s _ _) (λ a t f e k. return_gives declaring t _ Plain tt))
command_keeps ResetAssertions = λ level s g. plain s _ (return_gives declaring s clears Plain tt)
command_keeps Reset = λ level s g. plain s _ (return_gives declaring s begins_again Plain tt)
command_keeps (Minimize t) = λ level s g. plain s _ (minimize_gives level t s g)
command_keeps _ = tt
