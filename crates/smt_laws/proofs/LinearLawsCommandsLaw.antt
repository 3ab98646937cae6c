-- Commands keep the trees linear, their numerals in the range and their symbols among those that were given.
use Rattle.std.proofs.Common.{◌≡◌, ℕ, ◌+◌, ◌≤◌, arith, List, [], ◌∷◌, ◌++◌, map, subst, sym, refl, true, false, Option, Some, None, append_assoc}
use Rattle.std.specs.Prelude.{ℤ, codes}
use Rattle.smt_meaning.specs.declared.terms.Head.TheVariants.{Place}
use Rattle.smt_meaning.specs.declared.tokens.Token.{Token}
use Rattle.smt_meaning.specs.Declaration.{Declaration}
use Rattle.smt_meaning.specs.Term.{node, none}
use Rattle.smt_meaning.specs.Sexp.{sexp}
use Rattle.smt_meaning.specs.Sorts.{Scope, Outcome, done, refused, Judging, ◌>>◌, return, declare, Typed, Variable, judge}
use Rattle.smt_meaning.specs.Goal.{pair_text}
use Rattle.smt_meaning.specs.StackCommand.{Change, declares, asks, assumes, sets, clears, begins_again, is_unsupported, declare_new_sort, declare_sort, define_sort, declare_function, judge_parameters, Bodied, apart, in_body, judge_body, define_function, in_assert, assert_term, in_question, judge_terms, judge_questions, ask_terms, assume_terms, minimize_term, stack_command}
use Rattle.smt_meaning.specs.declared.commands.WrittenSort.{WrittenSort}
use Rattle.smt_meaning.specs.declared.commands.Parameter.{Parameter}
use Rattle.smt_meaning.specs.declared.commands.Command.{Command}
use Rattle.smt_meaning.specs.declared.commands.Command.TheVariants.{SetOption, DeclareSort, DefineSort, DeclareConst, DeclareFun, DefineFun, Assert, CheckSatAssuming, Push, Pop, GetValue, ResetAssertions, Reset, Minimize}
use Rattle.smt_laws.proofs.VariableTrees.{tree_of, among_them, with_trees}
use Rattle.smt_laws.proofs.Each.{Each}
use Rattle.smt_laws.proofs.Shapes.{Sound}
use Rattle.smt_laws.proofs.StepLogic.{Logic, Ends, Gives, Nothing, bind_gives, next_gives, return_gives, require_gives, scope_then, if_gives, weaken, sort_gives, sorts_give, sort_name_gives, function_name_gives, room_gives, define_gives}
use Rattle.smt_laws.proofs.LinearLawsJudgements.{BodyStands, Stands, body_more, Good, After, after_self, Fine, declare_gives, linearity}
use Rattle.smt_laws.proofs.LinearLawsTermsLaw.{VariablesFine, judge_gives}

abbrev asserting : Logic
asserting = linearity in_assert

abbrev asking : Logic
asking = linearity in_question

-- ---- what may change

-- neither terms that are asked for nor assumptions
abbrev Plain : Change → Scope → Type 0
Plain (asks ts) t = ⊥
Plain (assumes xs) t = ⊥
Plain _ t = Unit {0}

-- those are judged with no id given
abbrev pub Unnamed : ℕ → Change → Scope → Type 0
Unnamed n (asks ts) t = t.given ≡ n
Unnamed n (assumes xs) t = t.given ≡ n
Unnamed n _ t = Unit {0}

plain_unnamed : (n : ℕ) (change : Change) (t : Scope) → Plain change t → Unnamed n change t
plain_unnamed n (asks ts) t h = absurd h
plain_unnamed n (assumes xs) t h = absurd h
plain_unnamed n _ t h = tt

unnamed : (n : ℕ) (change : Change) (t : Scope) → t.given ≡ n → Unnamed n change t
unnamed n (asks ts) t e = e
unnamed n (assumes xs) t e = e
unnamed n _ t e = tt

-- ---- declarations

declares_gives : (s : Scope) (d : ℕ → Declaration) → Stands (s.given + 1) (d s.given) → Gives asserting s (declare d >> return declares) Plain
declares_gives s d stands = next_gives asserting s _ _ _ Plain (declare_gives in_assert s d refl stands) (λ a t f e k. return_gives asserting t declares Plain tt)

new_sort_gives : (n : List ℕ) (s : Scope) → Gives asserting s (declare_new_sort n) Plain
new_sort_gives n s = next_gives asserting s _ _ Nothing Plain (sort_name_gives asserting n s) (λ a t f e k. declares_gives t _ (omega arith, tt))

declare_sort_gives : (n : List ℕ) (arity : ℤ) (s : Scope) → Gives asserting s (declare_sort n arity) Plain
declare_sort_gives n arity s = if_gives asserting s _ _ _ Plain (new_sort_gives n s) (return_gives asserting s is_unsupported Plain tt)

define_sort_gives : (n : List ℕ) (ps : List (List ℕ)) (x : WrittenSort) (s : Scope) → Gives asserting s (define_sort n ps x) Plain
define_sort_gives n [] x s =
    next_gives asserting s _ _ Nothing Plain (sort_name_gives asserting n s)
    (λ a t f e k. bind_gives asserting t _ _ Nothing Plain (sort_gives asserting x t) (λ r u d m l. declares_gives u _ (omega arith, tt)))
define_sort_gives n (p ∷ ps) x s = return_gives asserting s is_unsupported Plain tt

function_gives : (n : List ℕ) (ss : List WrittenSort) (x : WrittenSort) (s : Scope) → Gives asserting s (declare_function n ss x) Plain
function_gives n ss x s =
    next_gives asserting s _ _ Nothing Plain (function_name_gives asserting n s)
    (λ b u d m l. bind_gives asserting u _ _ Nothing Plain (sorts_give asserting ss u)
    (λ rs v g i p. bind_gives asserting v _ _ Nothing Plain (sort_gives asserting x v) (λ r w h j q. declares_gives w _ (omega arith, tt))))

-- ---- definitions

-- each parameter is a place
abbrev ArePlaces : List Variable → Type 0
ArePlaces [] = Unit {0}
ArePlaces (v ∷ vs) = ((k : ℕ) × (v.term.tree ≡ node (Place k) none)) × ArePlaces vs

parameters_give : (k : ℕ) (before : List (List ℕ)) (ps : List Parameter) (s : Scope) → Gives asserting s (judge_parameters k before ps) (λ vs t. ArePlaces vs)
parameters_give k before [] s = return_gives asserting s [] _ tt
parameters_give k before (p ∷ ps) s =
    next_gives asserting s _ _ _ _ (require_gives asserting s _ _)
    (λ a t f e h. bind_gives asserting t _ _ Nothing _ (sort_gives asserting p.sort t)
    (λ x u d m l. bind_gives asserting u _ _ _ _ (parameters_give (k + 1) (p.name ∷ before) ps u) (λ vs w g i q. return_gives asserting w _ _ ((k, refl), q))))

places_fine : (s : Scope) (us vs : List Variable) → VariablesFine vs (with_trees s (us ++ vs))
places_fine s us [] = tt
places_fine s us (v ∷ vs) = (among_them us vs v, subst (λ ws. VariablesFine vs (with_trees s ws)) (append_assoc us (v ∷ []) vs) (places_fine s (us ++ v ∷ []) vs))

places_sound : (n : ℕ) (vs : List Variable) → ArePlaces vs → Each (Sound n) (map tree_of vs)
places_sound n [] h = tt
places_sound n (v ∷ vs) h = (subst (Sound n) (sym h.0.1) (tt, tt), places_sound n vs h.1)

body_gives : (s : Scope) (vs : List Variable) (x : List Token) → ArePlaces vs → Gives asserting s (judge_body vs x) (λ (b : Bodied) t. BodyStands t.given (Some b.body))
unfolding judge_body
body_gives s vs x h = record {
  gives = λ f.
      let inner : Good false (with_trees s vs) = record { bodies = f.bodies; sound = places_sound s.given vs h; linear = λ e. absurd (no e) } in
      go f (judge in_body vs (sexp x) (with_trees s vs)) ((judge_gives in_body vs (sexp x) (with_trees s vs) inner (places_fine s [] vs)).gives inner);
}
  where
    no : false ≡ true → ⊥
    no e = cc

    go : Good true s → (o : Outcome Typed) → Ends (linearity in_body) (with_trees s vs) Fine o → Ends asserting s (λ (b : Bodied) t. BodyStands t.given (Some b.body)) (apart s o)
    go f (done a c) k = ((f, after_self true s), (k.1, subst (λ n. Each (Sound n) c.trees) (k.0.1.none_given refl) k.0.0.sound))
    go f (refused r) k = tt

later : (s t : Scope) → After in_assert.naming s t → s.given ≤ t.given + 1
later s t a = let le : s.given ≤ t.given = a.given in omega (arith, le)

defined_gives : (n : List ℕ) (ps : List Parameter) (x : WrittenSort) (y : List Token) (s : Scope) → Gives asserting s (define_function n ps x y) Plain
defined_gives n ps x y =
    define_gives asserting n ps x y ArePlaces (λ vs b t. BodyStands t.given (Some b.body)) Plain (parameters_give 0 [] ps) (λ vs w p. body_gives w vs y p)
    (λ vs r b z t after stands same. declares_gives t _ (omega arith, body_more z.given (t.given + 1) (Some b.body) (later z t after) stands))

-- ---- assertions, questions and levels

assert_gives : (x : List Token) (s : Scope) → Good true s → Gives asserting s (assert_term x) Plain
assert_gives x s g =
    bind_gives asserting s _ _ Fine Plain (judge_gives in_assert [] (sexp x) s g tt)
    (λ a t f e k. next_gives asserting t _ _ _ Plain (require_gives asserting t _ _)
    (λ b u d m l. next_gives asserting u _ _ _ Plain (room_gives asserting u) (λ c v h i p. return_gives asserting v _ Plain tt)))

terms_give : (ts : List (List Token)) (s : Scope) → Good true s → Gives asking s (judge_terms ts) Nothing
terms_give [] s g = return_gives asking s [] Nothing tt
terms_give (t ∷ ts) s g =
    bind_gives asking s _ _ Fine Nothing (judge_gives in_question [] (sexp t) s g tt)
    (λ a u f e k. bind_gives asking u _ _ Nothing Nothing (terms_give ts u f) (λ bs v d m l. return_gives asking v (a ∷ bs) Nothing tt))

questions_give : (ts : List (List Token)) (s : Scope) → Good true s → Gives asking s (judge_questions ts) Nothing
questions_give ts s g =
    bind_gives asking s _ _ Nothing Nothing (terms_give ts s g)
    (λ terms t f e k. next_gives asking t _ _ _ Nothing (room_gives asking t) (λ c v h i p. return_gives asking v terms Nothing tt))

ask_gives : (ts : List (List Token)) (s : Scope) → Good true s → Gives asking s (ask_terms ts) Nothing
ask_gives ts s g = bind_gives asking s _ _ Nothing Nothing (questions_give ts s g) (λ terms t f e k. return_gives asking t _ Nothing tt)

assume_gives : (level : ℕ) (ts : List (List Token)) (s : Scope) → Good true s → Gives asking s (assume_terms level ts) Nothing
assume_gives level ts s g =
    bind_gives asking s _ _ Nothing Nothing (terms_give ts s g)
    (λ terms t f e k. next_gives asking t _ _ _ Nothing (require_gives asking t _ _)
    (λ a u d m l. next_gives asking u _ _ _ Nothing (room_gives asking u)
    (λ b v h i p. next_gives asking v _ _ _ Nothing (require_gives asking v _ _) (λ c w j o q. return_gives asking w _ Nothing tt))))

minimize_gives : (level : ℕ) (t : List Token) (s : Scope) → Good true s → Gives asking s (minimize_term level t) Nothing
minimize_gives level t s g =
    bind_gives asking s _ _ Fine Nothing (judge_gives in_question [] (sexp t) s g tt)
    (λ a u f e k. next_gives asking u _ _ _ Nothing (require_gives asking u _ _)
    (λ b v d m l. scope_then asking v _ Nothing (next_gives asking v _ _ _ Nothing (require_gives asking v _ _) (λ c w h i p. assume_gives level (pair_text (codes "=") t t ∷ []) w h))))

plainly : (s : Scope) (m : Judging Change) → Gives asserting s m Plain → Gives asserting s m (Unnamed s.given)
plainly s m h = weaken asserting s m Plain (Unnamed s.given) (plain_unnamed s.given) h

question_gives : (s : Scope) (m : Judging Change) → Gives asking s m Nothing → Gives asserting s m (Unnamed s.given)
question_gives s m h = record { gives = λ g. go (m s) (h.gives g) }
  where
    go : (o : Outcome Change) → Ends asking s Nothing o → Ends asserting s (Unnamed s.given) o
    go (done change t) k =
        ((k.0.0, record { kept = k.0.1.kept; given = k.0.1.given; none_given = λ e. absurd cc }), unnamed s.given change t (k.0.1.none_given refl))
    go (refused r) k = tt

-- ---- each command

abbrev pub KeepsIfSome : Option (ℕ → Judging Change) → Type 0
KeepsIfSome None = Unit {0}
KeepsIfSome (Some m) = (level : ℕ) (s : Scope) → Good true s → Gives asserting s (m level) (Unnamed s.given)

pub command_keeps : (c : Command) → KeepsIfSome (stack_command c)
command_keeps (SetOption o) = λ level s g. return_gives asserting s (sets o) (Unnamed s.given) tt
command_keeps (DeclareSort n arity) = λ level s g. plainly s _ (declare_sort_gives n arity s)
command_keeps (DefineSort n ps x) = λ level s g. plainly s _ (define_sort_gives n ps x s)
command_keeps (DeclareConst n x) = λ level s g. plainly s _ (function_gives n [] x s)
command_keeps (DeclareFun n ss x) = λ level s g. plainly s _ (function_gives n ss x s)
command_keeps (DefineFun n ps x t) = λ level s g. plainly s _ (defined_gives n ps x t s)
command_keeps (Assert t) = λ level s g. plainly s _ (assert_gives t s g)
command_keeps (GetValue ts) = λ level s g. question_gives s _ (ask_gives ts s g)
command_keeps (CheckSatAssuming ts) = λ level s g. question_gives s _ (assume_gives level ts s g)
command_keeps (Push n) = λ level s g. next_gives asserting s _ _ _ (Unnamed s.given) (require_gives asserting s _ _) (λ a t f e k. return_gives asserting t _ (Unnamed s.given) tt)
command_keeps (Pop n) = λ level s g. next_gives asserting s _ _ _ (Unnamed s.given) (require_gives asserting s _ _) (λ a t f e k. return_gives asserting t _ (Unnamed s.given) tt)
command_keeps ResetAssertions = λ level s g. return_gives asserting s clears (Unnamed s.given) tt
command_keeps Reset = λ level s g. return_gives asserting s begins_again (Unnamed s.given) tt
command_keeps (Minimize t) = λ level s g. question_gives s _ (minimize_gives level t s g)
command_keeps _ = tt
