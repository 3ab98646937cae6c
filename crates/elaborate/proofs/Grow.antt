-- What stays when trees and names join a scope.
use Rattle.std.proofs.Common.{◌≡◌, ℕ, zero, suc, ◌+◌, ◌<◌, List, [], ◌∷◌, ◌++◌, length, take, drop, map, ap, sym, subst, ◌∙◌, refl, arith, Bool, true, false, ◌&&◌, not, Option, Some, None}
use Rattle.std.specs.Prelude.{if◌then◌else◌, bytes_eq}
use Rattle.std.proofs.lemmas.List.{get_or_append_left, length-append}
use Rattle.smt_meaning.specs.declared.tokens.Token.{Token}
use Rattle.smt_meaning.specs.declared.terms.Operator.{Operator}
use Rattle.smt_meaning.specs.Declaration.{Declaration}
use Rattle.smt_meaning.specs.Term.{Tree, tree_at}
use Rattle.smt_meaning.specs.TreeShape.{is_constant, is_linear}
use Rattle.smt_meaning.specs.Sexp.{open_lists_of}
use Rattle.smt_meaning.specs.Signature.{find_function}
use Rattle.smt_meaning.specs.Sorts.{Scope, Typed, known_symbol}
use Rattle.smt_laws.specs.Walk.{whole, answer, application, division, bindings, binding_open, binding, bound_to, body, result, annotation, attributes, naming, has_free_first, first_list}
use Rattle.elaborate.specs.declared.value.Value.{Value}
use Rattle.elaborate.specs.declared.frame.Binding.{Binding}
use Rattle.elaborate.specs.declared.frame.Frame.{Frame}
use Rattle.elaborate.specs.declared.frame.Frame.TheVariants.{Opened, Application, Dividing, Division, LetOpen, Bindings, BindingOpen, Bound, BoundTo, Body, Done, Annotation, Attributes, Naming}
use Rattle.elaborate.specs.declared.frame.Walk.{Walk}
use Rattle.elaborate.specs.Values.{typed, IsValue, AreValues, IsLonger}
use Rattle.elaborate.specs.Frames.{variable_at, is_open_at, frame_of, outside, frames_of, stack_of, walk_of, AreBound, IsHead, Holds, AllHold, AllWait, OthersWait, AnswerHolds, Stands}

pub tree_same : (ts us : List Tree) (i : ℕ) → IsLonger ts us → i < length ts → tree_at us i ≡ tree_at ts i
tree_same ts us i l h = ap (λ xs. tree_at xs i) l.1 ∙ get_or_append_left ts l.0 _ i h

pub value_grows : (ts us : List Tree) (v : Value) → IsLonger ts us → IsValue ts v → IsValue us v
value_grows ts us v l h =
    let size : length us ≡ length ts + length l.0 = ap length l.1 ∙ length-append ts l.0 in
    let same : tree_at us v.id ≡ tree_at ts v.id = tree_same ts us v.id l h.within in
    record {
      within = (let w : v.id < length ts = h.within in omega arith);
      constant = h.constant ∙ ap is_constant (sym same);
      linear = h.linear ∙ ap is_linear (sym same);
    }

pub typed_same : (ts us : List Tree) (v : Value) → IsLonger ts us → IsValue ts v → typed us v ≡ typed ts v
typed_same ts us v l h = ap (λ t. record { tree = t; sort = v.sort }) (tree_same ts us v.id l h.within)

pub values_grow : (ts us : List Tree) (vs : List Value) → IsLonger ts us → AreValues ts vs → AreValues us vs
values_grow ts us [] l h = tt
values_grow ts us (v ∷ vs) l h = (value_grows ts us v l h.0, values_grow ts us vs l h.1)

pub typeds_same : (ts us : List Tree) (vs : List Value) → IsLonger ts us → AreValues ts vs → map (typed us) vs ≡ map (typed ts) vs
typeds_same ts us [] l h = refl
typeds_same ts us (v ∷ vs) l h = ap (λ t. t ∷ map (typed us) vs) (typed_same ts us v l h.0) ∙ ap (λ xs. typed ts v ∷ xs) (typeds_same ts us vs l h.1)

pub bound_grows : (ts us : List Tree) (bs : List Binding) → IsLonger ts us → AreBound ts bs → AreBound us bs
bound_grows ts us [] l h = tt
bound_grows ts us (b ∷ bs) l h = (value_grows ts us b.value l h.0, bound_grows ts us bs l h.1)

pub variables_same : (ts us : List Tree) (bs : List Binding) → IsLonger ts us → AreBound ts bs → map (variable_at us) bs ≡ map (variable_at ts) bs
variables_same ts us [] l h = refl
variables_same ts us (b ∷ bs) l h =
    ap (λ (t : Typed). record { name = b.name; term = t } ∷ map (variable_at us) bs) (typed_same ts us b.value l h.0) ∙ ap (λ xs. variable_at ts b ∷ xs) (variables_same ts us bs l h.1)

pub bound_take : (ts : List Tree) (k : ℕ) (bs : List Binding) → AreBound ts bs → AreBound ts (take k bs)
bound_take ts zero bs h = tt
bound_take ts (suc k) [] h = tt
bound_take ts (suc k) (b ∷ bs) h = (h.0, bound_take ts k bs h.1)

pub bound_drop : (ts : List Tree) (k : ℕ) (bs : List Binding) → AreBound ts bs → AreBound ts (drop k bs)
bound_drop ts zero bs h = h
bound_drop ts (suc k) [] h = tt
bound_drop ts (suc k) (b ∷ bs) h = bound_drop ts k bs h.1

pub bound_outside : (ts : List Tree) (bs : List Binding) (f : Frame) → AreBound ts bs → AreBound ts (outside bs f)
bound_outside ts bs (Body k) h = bound_drop ts k bs h
bound_outside ts bs Opened h = h
bound_outside ts bs (Application n o vs) h = h
bound_outside ts bs (Dividing n d) h = h
bound_outside ts bs (Division n vs) h = h
bound_outside ts bs LetOpen h = h
bound_outside ts bs (Bindings xs) h = h
bound_outside ts bs (BindingOpen xs) h = h
bound_outside ts bs (Bound xs n) h = h
bound_outside ts bs (BoundTo xs n v) h = h
bound_outside ts bs (Done v) h = h
bound_outside ts bs (Annotation p) h = h
bound_outside ts bs (Attributes v p d) h = h
bound_outside ts bs (Naming v p) h = h

-- trees and names joined it
pub record Grown (s u : Scope) : Type 0 where
  pub trees : IsLonger s.trees u.trees
  pub added : List Declaration
  pub signature : u.signature ≡ s.signature ++ added

find_kept : (n : List ℕ) (d : Declaration) (ds es : List Declaration) → find_function n ds ≡ Some d → find_function n (ds ++ es) ≡ Some d
find_kept n d [] es h = absurd (cc)
find_kept n d (x ∷ ds) es h = go (λ k. find_kept n d ds es k) (bytes_eq n x.name && not x.is_sort) h
  where
    go : (find_function n ds ≡ Some d → find_function n (ds ++ es) ≡ Some d) → (b : Bool) → (if b then Some x else find_function n ds) ≡ Some d → (if b then Some x else find_function n (ds ++ es)) ≡ Some d
    go rest true k = k
    go rest false k = rest k

head_case : (n : List ℕ) (o : Option Operator) (s u : Scope) (q : Option Declaration) → Grown s u → find_function n s.signature ≡ q → IsHead o q → known_symbol o (find_function n u.signature) ≡ known_symbol o (find_function n s.signature)
head_case n (Some o) s u q g e h = refl
head_case n None s u None g e h = absurd h
head_case n None s u (Some d) g e h =
    ap (known_symbol None) (ap (find_function n) g.signature ∙ find_kept n d s.signature g.added e) ∙ ap (known_symbol None) (sym e)

pub head_same : (n : List ℕ) (o : Option Operator) (s u : Scope) → Grown s u → IsHead o (find_function n s.signature) → known_symbol o (find_function n u.signature) ≡ known_symbol o (find_function n s.signature)
head_same n o s u g h = head_case n o s u (find_function n s.signature) g refl h

still_head : (n : List ℕ) (o : Option Operator) (s u : Scope) (q : Option Declaration) → Grown s u → find_function n s.signature ≡ q → IsHead o q → IsHead o (find_function n u.signature)
still_head n (Some o) s u q g e h = tt
still_head n None s u None g e h = absurd h
still_head n None s u (Some d) g e h = subst (IsHead None) (sym (ap (find_function n) g.signature ∙ find_kept n d s.signature g.added e)) tt

pub holds_grows : (s u : Scope) (f : Frame) → Grown s u → Holds s f → Holds u f
holds_grows s u Opened g h = tt
holds_grows s u (Application n o vs) g h = (still_head n o s u (find_function n s.signature) g refl h.0, values_grow s.trees u.trees vs g.trees h.1)
holds_grows s u (Dividing n d) g h = h
holds_grows s u (Division n vs) g h = (h.0, values_grow s.trees u.trees vs g.trees h.1)
holds_grows s u LetOpen g h = tt
holds_grows s u (Bindings xs) g h = bound_grows s.trees u.trees xs g.trees h
holds_grows s u (BindingOpen xs) g h = bound_grows s.trees u.trees xs g.trees h
holds_grows s u (Bound xs n) g h = bound_grows s.trees u.trees xs g.trees h
holds_grows s u (BoundTo xs n v) g h = (bound_grows s.trees u.trees xs g.trees h.0, value_grows s.trees u.trees v g.trees h.1)
holds_grows s u (Body k) g h = tt
holds_grows s u (Done v) g h = value_grows s.trees u.trees v g.trees h
holds_grows s u (Annotation p) g h = tt
holds_grows s u (Attributes v p d) g h = value_grows s.trees u.trees v g.trees h
holds_grows s u (Naming v p) g h = value_grows s.trees u.trees v g.trees h

open_same : (tokens : List Token) (s u : Scope) (bs : List Binding) (p : ℕ) → Grown s u → AreBound s.trees bs → is_open_at tokens u.trees bs p ≡ is_open_at tokens s.trees bs p
open_same tokens s u bs p g b = ap (λ vs. has_free_first vs (first_list (open_lists_of (drop p tokens)))) (variables_same s.trees u.trees bs g.trees b)

frame_same : (tokens : List Token) (s u : Scope) (bs : List Binding) (f : Frame) → Grown s u → AreBound s.trees bs → Holds s f → frame_of tokens u bs f ≡ frame_of tokens s bs f
frame_same tokens s u bs Opened g b h = refl
frame_same tokens s u bs (Application n o vs) g b h =
    ap (λ k. application n k (map (typed u.trees) vs)) (head_same n o s u g h.0) ∙ ap (application n (known_symbol o (find_function n s.signature))) (typeds_same s.trees u.trees vs g.trees h.1)
frame_same tokens s u bs (Dividing n d) g b h = refl
frame_same tokens s u bs (Division n vs) g b h = ap (division n) (typeds_same s.trees u.trees vs g.trees h.1)
frame_same tokens s u bs LetOpen g b h = refl
frame_same tokens s u bs (Bindings xs) g b h = ap bindings (variables_same s.trees u.trees xs g.trees h)
frame_same tokens s u bs (BindingOpen xs) g b h = ap binding_open (variables_same s.trees u.trees xs g.trees h)
frame_same tokens s u bs (Bound xs n) g b h = ap (λ ys. binding ys n) (variables_same s.trees u.trees xs g.trees h)
frame_same tokens s u bs (BoundTo xs n v) g b h =
    ap (λ ys. bound_to ys n (typed u.trees v)) (variables_same s.trees u.trees xs g.trees h.0) ∙ ap (bound_to (map (variable_at s.trees) xs) n) (typed_same s.trees u.trees v g.trees h.1)
frame_same tokens s u bs (Body k) g b h = ap body (variables_same s.trees u.trees (take k bs) g.trees (bound_take s.trees k bs b))
frame_same tokens s u bs (Done v) g b h = ap result (typed_same s.trees u.trees v g.trees h)
frame_same tokens s u bs (Annotation p) g b h = ap annotation (open_same tokens s u bs p g b)
frame_same tokens s u bs (Attributes v p d) g b h =
    ap (λ o. attributes (typed u.trees v) o d) (open_same tokens s u bs p g b) ∙ ap (λ a. attributes a (is_open_at tokens s.trees bs p) d) (typed_same s.trees u.trees v g.trees h)
frame_same tokens s u bs (Naming v p) g b h =
    ap (λ o. naming (typed u.trees v) o) (open_same tokens s u bs p g b) ∙ ap (λ a. naming a (is_open_at tokens s.trees bs p)) (typed_same s.trees u.trees v g.trees h)

pub frames_same : (tokens : List Token) (s u : Scope) (bs : List Binding) (fs : List Frame) → Grown s u → AreBound s.trees bs → AllHold s fs → frames_of tokens u bs fs ≡ frames_of tokens s bs fs
frames_same tokens s u bs [] g b h = ap (λ vs. whole vs ∷ []) (variables_same s.trees u.trees bs g.trees b)
frames_same tokens s u bs (f ∷ fs) g b h =
    ap (λ x. x ∷ frames_of tokens u (outside bs f) fs) (frame_same tokens s u bs f g b h.0)
    ∙ ap (λ xs. frame_of tokens s bs f ∷ xs) (frames_same tokens s u (outside bs f) fs g (bound_outside s.trees bs f b) h.1)

pub all_hold_grow : (s u : Scope) (fs : List Frame) → Grown s u → AllHold s fs → AllHold u fs
all_hold_grow s u [] g h = tt
all_hold_grow s u (f ∷ fs) g h = (holds_grows s u f g h.0, all_hold_grow s u fs g h.1)

answer_grows : (s u : Scope) (o : Option Value) → Grown s u → AnswerHolds s o → AnswerHolds u o
answer_grows s u None g h = tt
answer_grows s u (Some v) g h = value_grows s.trees u.trees v g.trees h

pub others_wait : (fs : List Frame) → AllWait fs → OthersWait fs
others_wait [] h = tt
others_wait (f ∷ fs) h = h.1

pub stands_grows : (s u : Scope) (w : Walk) → Grown s u → Stands s w → Stands u w
stands_grows s u w g h = record {
  answer = answer_grows s u w.answer g h.answer;
  frames = all_hold_grow s u w.frames g h.frames;
  others = h.others;
  bindings = bound_grows s.trees u.trees w.bindings g.trees h.bindings;
}

stack_same : (tokens : List Token) (s u : Scope) (o : Option Value) (bs : List Binding) (fs : List Frame) → Grown s u → AnswerHolds s o → AreBound s.trees bs → AllHold s fs → stack_of tokens u o bs fs ≡ stack_of tokens s o bs fs
stack_same tokens s u None bs fs g a b h = frames_same tokens s u bs fs g b h
stack_same tokens s u (Some v) bs fs g a b h = ap (λ t. answer t ∷ []) (typed_same s.trees u.trees v g.trees a)

pub walk_same : (tokens : List Token) (s u : Scope) (w : Walk) → Grown s u → Stands s w → walk_of tokens u w ≡ walk_of tokens s w
walk_same tokens s u w g h = stack_same tokens s u w.answer w.bindings w.frames g h.answer h.bindings h.frames
