-- The forms of `let` and `!`, read one token after another (SMT-LIB 2.6, section 3.6).
use Rattle.std.specs.Prelude.{◌≡◌, ℕ, zero, suc, Bool, true, false, List, [], ◌∷◌, Option, Some, None, if◌then◌else◌}
use Rattle.smt_meaning.specs.declared.tokens.Token.{Token}
use Rattle.smt_meaning.specs.declared.tokens.Token.TheVariants.{Enter, Leave, Symbol, Keyword}
use Rattle.smt_meaning.specs.declared.refusals.Refusal.{Refusal}
use Rattle.smt_meaning.specs.declared.refusals.Refusal.TheVariants.{WrongArguments, AlreadyDeclared}
use Rattle.smt_meaning.specs.Sexp.{Sexps, open_lists_of}
use Rattle.smt_meaning.specs.Signature.{is_one_of}
use Rattle.smt_meaning.specs.Sorts.{Scope, Judging, return, refuse}

-- refused, where there is a reason
abbrev pub unless : Option Refusal → Judging (Unit {0})
unless None = return tt
unless (Some why) = refuse why

-- a form that is read: where it begins, what a token changes, why it is refused where the tokens end, and whether it is over
pub record Reading (F : Type 0) : Type 0 where
  pub start : F
  pub step : F → Token → F
  pub fault : F → Option Refusal
  pub is_over : F → Bool

module _ {F : Type 0} (r : Reading F) where
  abbrev pub run : F → List Token → F
  run f [] = f
  run f (t ∷ ts) = run (r.step f t) ts

  -- it is refused as the check of the open list does; where the tokens end, the lists do
  abbrev pub IsReadAs : (Sexps → Judging (Unit {0})) → Type 0
  IsReadAs check = (ts : List Token) (ahead : Sexps) (lists : List Sexps) (s : Scope) → open_lists_of ts ≡ ahead ∷ lists → unless (r.fault (run r.start ts)) s ≡ check ahead s

  -- what comes after it changes nothing
  abbrev pub Stays : Type 0
  Stays = (f : F) (ts : List Token) → r.is_over f ≡ true → run f ts ≡ f

-- where the reading of one s-expression stands
pub data SexprPlace : Type 0 where
  unread : SexprPlace
  -- in so many lists of it, but for the outermost
  reading : (depth : ℕ) → SexprPlace
  read : SexprPlace

abbrev pub after_leave : ℕ → SexprPlace
after_leave zero = read
after_leave (suc depth) = reading depth

-- by a token of the s-expression
abbrev pub sexpr_place : SexprPlace → Token → SexprPlace
sexpr_place unread Enter = reading 0
sexpr_place (reading depth) Enter = reading (suc depth)
sexpr_place (reading depth) Leave = after_leave depth
sexpr_place (reading depth) t = reading depth
sexpr_place _ t = read

-- ---- `let`

-- where the reading stands
pub data LetPlace : Type 0 where
  -- after `let`
  before_bindings : LetPlace
  -- among the bindings
  between_bindings : LetPlace
  -- after the `(` of a binding
  before_name : LetPlace
  -- after its name, at its term
  in_term : (place : SexprPlace) → LetPlace
  -- after the bindings, at the body
  in_body : (place : SexprPlace) → LetPlace
  -- after the last `)`
  let_read : LetPlace
  no_let : LetPlace

pub record LetForm : Type 0 where
  pub place : LetPlace
  -- the names that are bound, the newest first
  pub names : List (List ℕ)
  -- the first that stood before
  pub double : Option (List ℕ)

abbrev pub let_start : LetForm
let_start = record { place = before_bindings; names = []; double = None }

abbrev pub let_place : LetPlace → Token → LetPlace
let_place before_bindings Enter = between_bindings
let_place between_bindings Enter = before_name
let_place between_bindings Leave = in_body unread
let_place before_name (Symbol n) = in_term unread
let_place (in_term unread) Leave = no_let
let_place (in_term read) Leave = between_bindings
let_place (in_term read) t = no_let
let_place (in_term place) t = in_term (sexpr_place place t)
let_place (in_body unread) Leave = no_let
let_place (in_body read) Leave = let_read
let_place (in_body read) t = no_let
let_place (in_body place) t = in_body (sexpr_place place t)
let_place let_read t = let_read
let_place _ t = no_let

-- the name that is bound here
abbrev pub bound_here : LetPlace → Token → Option (List ℕ)
bound_here before_name (Symbol n) = Some n
bound_here _ t = None

abbrev pub with_bound : List (List ℕ) → Option (List ℕ) → List (List ℕ)
with_bound ns None = ns
with_bound ns (Some n) = n ∷ ns

abbrev pub if_before : List ℕ → List (List ℕ) → Option (List ℕ)
if_before n ns = if is_one_of n ns then Some n else None

abbrev pub first_double : Option (List ℕ) → List (List ℕ) → Option (List ℕ) → Option (List ℕ)
first_double (Some m) ns n = Some m
first_double None ns None = None
first_double None ns (Some n) = if_before n ns

abbrev pub let_step : LetForm → Token → LetForm
let_step f t = record {
  place = let_place f.place t;
  names = with_bound f.names (bound_here f.place t);
  double = first_double f.double f.names (bound_here f.place t);
}

-- why its names are refused
abbrev pub names_fault : List (List ℕ) → Option (List ℕ) → Option Refusal
names_fault [] double = Some WrongArguments
names_fault (n ∷ ns) None = None
names_fault (n ∷ ns) (Some m) = Some (AlreadyDeclared m)

abbrev pub let_fault_at : LetPlace → List (List ℕ) → Option (List ℕ) → Option Refusal
let_fault_at (in_body read) ns double = names_fault ns double
let_fault_at let_read ns double = names_fault ns double
let_fault_at _ ns double = Some WrongArguments

abbrev pub let_is_over : LetPlace → Bool
let_is_over let_read = true
let_is_over no_let = true
let_is_over _ = false

abbrev pub let_reading : Reading LetForm
let_reading = record {
  start = let_start;
  step = let_step;
  fault = λ f. let_fault_at f.place f.names f.double;
  is_over = λ f. let_is_over f.place;
}

-- ---- `!`

pub data AnnotationForm : Type 0 where
  -- after `!`, at the term
  in_annotated : (place : SexprPlace) → AnnotationForm
  -- among the attributes, and whether a value may stand here
  between_attributes : (may : Bool) → AnnotationForm
  -- in a value, and in so many lists of it
  in_value : (depth : ℕ) → AnnotationForm
  -- after the last `)`
  annotation_read : AnnotationForm
  no_annotation : AnnotationForm

abbrev pub in_value_after_leave : ℕ → AnnotationForm
in_value_after_leave zero = between_attributes false
in_value_after_leave (suc depth) = in_value depth

abbrev pub annotation_step : AnnotationForm → Token → AnnotationForm
annotation_step (in_annotated unread) Leave = no_annotation
annotation_step (in_annotated read) (Keyword k) = between_attributes true
annotation_step (in_annotated read) t = no_annotation
annotation_step (in_annotated place) t = in_annotated (sexpr_place place t)
annotation_step (between_attributes may) (Keyword k) = between_attributes true
annotation_step (between_attributes may) Leave = annotation_read
annotation_step (between_attributes true) Enter = in_value 0
annotation_step (between_attributes true) t = between_attributes false
annotation_step (in_value depth) Enter = in_value (suc depth)
annotation_step (in_value depth) Leave = in_value_after_leave depth
annotation_step (in_value depth) t = in_value depth
annotation_step annotation_read t = annotation_read
annotation_step _ t = no_annotation

abbrev pub annotation_fault : AnnotationForm → Option Refusal
annotation_fault (between_attributes may) = None
annotation_fault annotation_read = None
annotation_fault _ = Some WrongArguments

abbrev pub annotation_is_over : AnnotationForm → Bool
annotation_is_over annotation_read = true
annotation_is_over no_annotation = true
annotation_is_over _ = false

abbrev pub annotation_reading : Reading AnnotationForm
annotation_reading = record { start = in_annotated unread; step = annotation_step; fault = annotation_fault; is_over = annotation_is_over }
