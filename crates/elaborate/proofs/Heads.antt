-- The head of a list.
use Rattle.std.proofs.Common.{◌≡◌, ℕ, List, [], drop, map, ap, sym, subst, ◌∙◌, refl, Some, None}
use Rattle.std.specs.Prelude.{Result, Ok, Err, IfOk, OnErr}
use Rattle.smt_meaning.specs.declared.tokens.Token.{Token}
use Rattle.smt_meaning.specs.declared.tokens.Token.TheVariants.{Symbol, Reserved}
use Rattle.smt_meaning.specs.declared.tokens.TokenView.{TokenView}
use Rattle.smt_meaning.specs.declared.tokens.TokenView.TheVariants.{Symbol as SymbolSeen, Reserved as ReservedSeen}
use Rattle.smt_meaning.specs.declared.tokens.Word.{Word}
use Rattle.smt_meaning.specs.declared.tokens.Word.TheVariants.{Exclamation, Let}
use Rattle.smt_meaning.specs.Seen.{seen}
use Rattle.smt_meaning.specs.declared.terms.Operator.{Operator}
use Rattle.smt_meaning.specs.declared.refusals.Refusal.{Refusal}
use Rattle.smt_meaning.specs.declared.refusals.Refusal.TheVariants.{ArgumentCount, UnknownSymbol, WrongArguments}
use Rattle.smt_meaning.specs.Declaration.{Declaration}
use Rattle.smt_meaning.specs.Sexp.{Sexps, open_lists_of}
use Rattle.smt_meaning.specs.Signature.{look_up, operators, find_function}
use Rattle.smt_meaning.specs.Sorts.{Scope, Outcome, done, refused, Judging, go_on, ◌>>=◌, ◌>>◌, return, refuse, the_scope, Variable, Rules, Known, variable, operator, function, unknown, known, known_symbol, can_be_applied}
use Rattle.smt_laws.specs.Walk.{Frame as Meant, application, let_open, annotation, on_head, check_let, check_annotation, has_free_first, first_list}
use Rattle.elaborate.specs.declared.value.Value.{Value}
use Rattle.elaborate.specs.declared.frame.Binding.{Binding}
use Rattle.elaborate.specs.declared.frame.Frame.{Frame}
use Rattle.elaborate.specs.declared.frame.Frame.TheVariants.{Application, LetOpen, Annotation}
use Rattle.elaborate.specs.declared.error.JudgeError.{JudgeError}
use Rattle.elaborate.specs.declared.error.JudgeError.TheVariants.{Refused, Memory}
use Rattle.elaborate.specs.Values.{typed, IsErrorOf}
use Rattle.elaborate.specs.Frames.{find_value, variable_at, IsHead}
use Rattle.elaborate.specs.Steps.{IsFrame, FrameComes, IsLetHead, IsAnnotationHead}
use Rattle.elaborate.proofs.Names.{known_variable, known_operator, known_function, known_unknown}

pub frame_err : (m : Judging Meant) (s : Scope) (tokens : List Token) (bs : List Binding) (r : Refusal) (e : JudgeError) → m s ≡ refused r → IsErrorOf r e → FrameComes m s tokens bs (Err e)
frame_err m s tokens bs r (Refused x) h k = h ∙ ap refused (sym k)
frame_err m s tokens bs r Memory h k = tt

error_is : (e : JudgeError) → (let x : Result Frame JudgeError = Err e in x ≡ Err Memory) → e ≡ Memory
error_is e h = cc

frame_memory : (m : Judging Meant) (s : Scope) (tokens : List Token) (bs : List Binding) (e : JudgeError) → e ≡ Memory → FrameComes m s tokens bs (Err e)
frame_memory m s tokens bs (Refused r) h = absurd (cc)
frame_memory m s tokens bs Memory h = tt

frame_settled : (m : Judging Meant) (s : Scope) (tokens : List Token) (bs : List Binding) (f : Frame) (y : Result Frame JudgeError) → IfOk y (λ g. g ≡ f) → OnErr y (y ≡ Err Memory) → IsFrame m s tokens bs f → FrameComes m s tokens bs y
frame_settled m s tokens bs f (Ok g) h k i = subst (IsFrame m s tokens bs) (sym h) i
frame_settled m s tokens bs f (Err e) h k i = frame_memory m s tokens bs e (error_is e k)

known_head : (r : Rules) (vs : List Variable) (n : List ℕ) (ahead : Sexps) (k : Known) (s : Scope) → known vs n s ≡ k → on_head r vs (Symbol n) ahead s ≡ go_on (can_be_applied n k s) (λ u. return (application n k []))
unfolding ◌>>=◌ ◌>>◌ the_scope
known_head r vs n ahead k s e = ap (λ j. go_on (can_be_applied n j s) (λ u. return (application n j []))) e

variable_refused : (n : List ℕ) (t : Rattle.smt_meaning.specs.Sorts.Typed) (s : Scope) → go_on (can_be_applied n (variable t) s) (λ u. return (application n (variable t) [])) ≡ refused (ArgumentCount n)
unfolding refuse
variable_refused n t s = refl

unknown_refused : (n : List ℕ) (s : Scope) → go_on (can_be_applied n unknown s) (λ u. return (application n unknown [])) ≡ refused (UnknownSymbol (Symbol n))
unfolding refuse
unknown_refused n s = refl

operator_applied : (n : List ℕ) (o : Operator) (s : Scope) → go_on (can_be_applied n (operator o) s) (λ u. return (application n (operator o) [])) ≡ done (application n (operator o) []) s
unfolding return
operator_applied n o s = refl

function_applied : (n : List ℕ) (d : Declaration) (s : Scope) → go_on (can_be_applied n (function d) s) (λ u. return (application n (function d) [])) ≡ done (application n (function d) []) s
unfolding return
function_applied n d s = refl

pub head_variable : (r : Rules) (n : List ℕ) (ahead : Sexps) (s : Scope) (tokens : List Token) (bs : List Binding) (v : Value) (e : JudgeError) → find_value n bs ≡ Some v → IsErrorOf (ArgumentCount n) e
    → FrameComes (on_head r (map (variable_at s.trees) bs) (Symbol n) ahead) s tokens bs (Err e)
head_variable r n ahead s tokens bs v e f k =
    frame_err (on_head r (map (variable_at s.trees) bs) (Symbol n) ahead) s tokens bs (ArgumentCount n) e
    (known_head r (map (variable_at s.trees) bs) n ahead (variable (typed s.trees v)) s (known_variable n s.trees bs v s f) ∙ variable_refused n (typed s.trees v) s) k

pub head_unknown : (r : Rules) (n : List ℕ) (ahead : Sexps) (s : Scope) (tokens : List Token) (bs : List Binding) (e : JudgeError) → find_value n bs ≡ None → look_up n operators ≡ None → find_function n s.signature ≡ None → IsErrorOf (UnknownSymbol (Symbol n)) e
    → FrameComes (on_head r (map (variable_at s.trees) bs) (Symbol n) ahead) s tokens bs (Err e)
head_unknown r n ahead s tokens bs e f g h k =
    frame_err (on_head r (map (variable_at s.trees) bs) (Symbol n) ahead) s tokens bs (UnknownSymbol (Symbol n)) e
    (known_head r (map (variable_at s.trees) bs) n ahead unknown s (known_unknown n s.trees bs s f g h) ∙ unknown_refused n s) k

pub head_operator : (r : Rules) (n : List ℕ) (ahead : Sexps) (s : Scope) (tokens : List Token) (bs : List Binding) (o : Operator) (y : Result Frame JudgeError) → find_value n bs ≡ None → look_up n operators ≡ Some o
    → IfOk y (λ g. g ≡ Application n (Some o) []) → OnErr y (y ≡ Err Memory) → FrameComes (on_head r (map (variable_at s.trees) bs) (Symbol n) ahead) s tokens bs y
head_operator r n ahead s tokens bs o y f g h k =
    frame_settled (on_head r (map (variable_at s.trees) bs) (Symbol n) ahead) s tokens bs (Application n (Some o) []) y h k
    (record {
      judged = known_head r (map (variable_at s.trees) bs) n ahead (operator o) s (known_operator n s.trees bs o s f g) ∙ operator_applied n o s;
      outer = refl;
      holds = (tt, tt);
    })

pub head_function : (r : Rules) (n : List ℕ) (ahead : Sexps) (s : Scope) (tokens : List Token) (bs : List Binding) (d : Declaration) (y : Result Frame JudgeError) → find_value n bs ≡ None → look_up n operators ≡ None → find_function n s.signature ≡ Some d
    → IfOk y (λ g. g ≡ Application n None []) → OnErr y (y ≡ Err Memory) → FrameComes (on_head r (map (variable_at s.trees) bs) (Symbol n) ahead) s tokens bs y
head_function r n ahead s tokens bs d y f g h i k =
    frame_settled (on_head r (map (variable_at s.trees) bs) (Symbol n) ahead) s tokens bs (Application n None []) y i k
    (record {
      judged =
          known_head r (map (variable_at s.trees) bs) n ahead (function d) s (known_function n s.trees bs d s f g h) ∙ function_applied n d s
          ∙ ap (λ q. done (application n (known_symbol None q) []) s) (sym h);
      outer = refl;
      holds = (subst (IsHead None) (sym h) tt, tt);
    })

-- ---- `let` and `!`

let_head : (r : Rules) (vs : List Variable) (ahead : Sexps) (s : Scope) (x : Outcome (Unit {0})) → check_let ahead s ≡ x → on_head r vs (Reserved Let) ahead s ≡ go_on x (λ u. return let_open)
unfolding ◌>>◌
let_head r vs ahead s x e = ap (λ y. go_on y (λ u. return let_open)) e

let_done : (v : Unit {0}) (s : Scope) → go_on (done v s) (λ u. return let_open) ≡ done let_open s
unfolding return
let_done v s = refl

pub head_let : (r : Rules) (vs : List Variable) (t : Token) (ahead : Sexps) (s : Scope) (tokens : List Token) (bs : List Binding) → t ≡ Reserved Let → check_let ahead s ≡ done tt s → IsFrame (on_head r vs t ahead) s tokens bs LetOpen
head_let r vs t ahead s tokens bs e h = record {
  judged = subst (λ x. on_head r vs x ahead s ≡ done let_open s) (sym e) (let_head r vs ahead s (done tt s) h ∙ let_done tt s);
  outer = refl;
  holds = tt;
}

pub head_let_refused : (r : Rules) (vs : List Variable) (t : Token) (ahead : Sexps) (s : Scope) (why : Refusal) → t ≡ Reserved Let → check_let ahead s ≡ refused why → on_head r vs t ahead s ≡ refused why
head_let_refused r vs t ahead s why e h = subst (λ x. on_head r vs x ahead s ≡ refused why) (sym e) (let_head r vs ahead s (refused why) h)

annotation_head : (r : Rules) (vs : List Variable) (ahead : Sexps) (s : Scope) (x : Outcome (Unit {0})) → check_annotation ahead s ≡ x → on_head r vs (Reserved Exclamation) ahead s ≡ go_on x (λ u. return (annotation (has_free_first vs ahead)))
unfolding ◌>>◌
annotation_head r vs ahead s x e = ap (λ y. go_on y (λ u. return (annotation (has_free_first vs ahead)))) e

annotation_done : (v : Unit {0}) (o : Rattle.std.specs.Prelude.Bool) (s : Scope) → go_on (done v s) (λ u. return (annotation o)) ≡ done (annotation o) s
unfolding return
annotation_done v o s = refl

pub head_annotation : (r : Rules) (t : Token) (tokens : List Token) (p : ℕ) (s : Scope) (bs : List Binding) → t ≡ Reserved Exclamation → check_annotation (first_list (open_lists_of (drop p tokens))) s ≡ done tt s
    → IsFrame (on_head r (map (variable_at s.trees) bs) t (first_list (open_lists_of (drop p tokens)))) s tokens bs (Annotation p)
head_annotation r t tokens p s bs e h =
    let ahead : Sexps = first_list (open_lists_of (drop p tokens)) in
    let vs : List Variable = map (variable_at s.trees) bs in
    record {
      judged = subst (λ x. on_head r vs x ahead s ≡ done (annotation (has_free_first vs ahead)) s) (sym e) (annotation_head r vs ahead s (done tt s) h ∙ annotation_done tt (has_free_first vs ahead) s);
      outer = refl;
      holds = tt;
    }

pub head_annotation_refused : (r : Rules) (vs : List Variable) (t : Token) (ahead : Sexps) (s : Scope) (why : Refusal) → t ≡ Reserved Exclamation → check_annotation ahead s ≡ refused why → on_head r vs t ahead s ≡ refused why
head_annotation_refused r vs t ahead s why e h = subst (λ x. on_head r vs x ahead s ≡ refused why) (sym e) (annotation_head r vs ahead s (refused why) h)

-- a reserved word that begins no term
pub head_reserved : (r : Rules) (vs : List Variable) (w : Word) (ahead : Sexps) (s : Scope) → (w ≡ Let → ⊥) → (w ≡ Exclamation → ⊥) → on_head r vs (Reserved w) ahead s ≡ refused (UnknownSymbol (Reserved w))
unfolding refuse
head_reserved r vs Let ahead s h k = absurd (h refl)
head_reserved r vs Exclamation ahead s h k = absurd (k refl)
head_reserved r vs _ ahead s h k = refl

-- a token that is no word
pub head_wrong : (r : Rules) (vs : List Variable) (t : TokenView) (ahead : Sexps) (s : Scope) → ((n : _) → t ≡ SymbolSeen n → ⊥) → ((w : Word) → t ≡ ReservedSeen w → ⊥) → on_head r vs (seen t) ahead s ≡ refused WrongArguments
unfolding refuse
head_wrong r vs (SymbolSeen n) ahead s h k = absurd (h n refl)
head_wrong r vs (ReservedSeen w) ahead s h k = absurd (k w refl)
head_wrong r vs _ ahead s h k = refl

pub let_comes : (r : Rules) (t : Token) (ahead : Sexps) (s : Scope) (tokens : List Token) (bs : List Binding) (y : Result Frame JudgeError) → t ≡ Reserved Let → IsLetHead ahead y → FrameComes (on_head r (map (variable_at s.trees) bs) t ahead) s tokens bs y
let_comes r t ahead s tokens bs (Ok g) e h = subst (IsFrame (on_head r (map (variable_at s.trees) bs) t ahead) s tokens bs) (sym h.0) (head_let r (map (variable_at s.trees) bs) t ahead s tokens bs e (h.1 s))
let_comes r t ahead s tokens bs (Err (Refused why)) e h = head_let_refused r (map (variable_at s.trees) bs) t ahead s why e (h s)
let_comes r t ahead s tokens bs (Err Memory) e h = tt

pub annotation_comes : (r : Rules) (t : Token) (tokens : List Token) (p : ℕ) (s : Scope) (bs : List Binding) (y : Result Frame JudgeError) → t ≡ Reserved Exclamation → IsAnnotationHead (first_list (open_lists_of (drop p tokens))) p y
    → FrameComes (on_head r (map (variable_at s.trees) bs) t (first_list (open_lists_of (drop p tokens)))) s tokens bs y
annotation_comes r t tokens p s bs (Ok g) e h =
    subst (IsFrame (on_head r (map (variable_at s.trees) bs) t (first_list (open_lists_of (drop p tokens)))) s tokens bs) (sym h.0) (head_annotation r t tokens p s bs e (h.1 s))
annotation_comes r t tokens p s bs (Err (Refused why)) e h = head_annotation_refused r (map (variable_at s.trees) bs) t (first_list (open_lists_of (drop p tokens))) s why e (h s)
annotation_comes r t tokens p s bs (Err Memory) e h = tt
