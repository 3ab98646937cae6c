-- The frames of `let` and of annotations.
use Rattle.std.proofs.Common.{◌≡◌, ℕ, zero, suc, ◌-◌, ◌≤◌, List, [], ◌∷◌, ◌++◌, length, take, map, ap, sym, subst, ◌∙◌, refl, arith, Bool, true, false, None}
use Rattle.std.specs.Prelude.{Result, Ok, Err, OnOk, OnErr, if◌then◌else◌}
use Rattle.std.proofs.lemmas.List.{map-append, take_at, drop_at}
use Rattle.smt_meaning.specs.declared.tokens.Token.{Token}
use Rattle.smt_meaning.specs.declared.tokens.Token.TheVariants.{Enter, Leave, Numeral, Decimal, Hex, Binary, Text, Symbol, Reserved, Keyword}
use Rattle.smt_meaning.specs.declared.refusals.Refusal.TheVariants.{WrongArguments}
use Rattle.smt_meaning.specs.Term.{Tree}
use Rattle.smt_meaning.specs.Sexp.{Sexps}
use Rattle.smt_meaning.specs.Sorts.{Scope, done, refused, ◌>>=◌, return, refuse, Rules}
use Rattle.smt_laws.specs.Walk.{body, bindings, binding, give as given_all, on_leave, on_words, on_attribute, after_keyword}
use Rattle.elaborate.specs.declared.value.Value.{Value}
use Rattle.elaborate.specs.declared.frame.Binding.{Binding as Pair}
use Rattle.elaborate.specs.declared.frame.Frame.{Frame}
use Rattle.elaborate.specs.declared.frame.Frame.TheVariants.{Dividing, Division, Bindings, BindingOpen, Bound, BoundTo, Body, Done, Attributes, Naming}
use Rattle.elaborate.specs.declared.frame.Walk.{Walk}
use Rattle.elaborate.specs.declared.error.JudgeError.{JudgeError}
use Rattle.elaborate.specs.declared.error.JudgeError.TheVariants.{Refused, Memory}
use Rattle.elaborate.specs.Values.{typed, IsValue}
use Rattle.elaborate.specs.Frames.{variable_at, is_open_at, frames_of, walk_of, AreBound, IsDivisor, Holds, AllHold, OthersWait, Stands}
use Rattle.elaborate.specs.Steps.{kind_of, attribute_kind, takes_word, Given, StepComes, is_named, is_symbol, out_of_head, IsNoName}
use Rattle.elaborate.proofs.Grow.{others_wait}
use Rattle.elaborate.proofs.Moves.{popped, shown_is, error_is, step_memory, replaced_push, no, not_zero}

-- ---- `)`

pub bound_more : (ts : List Tree) (xs : List Pair) (x : Pair) → AreBound ts xs → IsValue ts x.value → AreBound ts (xs ++ x ∷ [])
bound_more ts [] x h k = (k, tt)
bound_more ts (y ∷ xs) x h k = (h.0, bound_more ts xs x h.1 k)

pub bound_both : (ts : List Tree) (xs ys : List Pair) → AreBound ts xs → AreBound ts ys → AreBound ts (xs ++ ys)
bound_both ts [] ys h k = k
bound_both ts (x ∷ xs) ys h k = (h.0, bound_both ts xs ys h.1 k)

pub leave_binding : (r : Rules) (tokens : List Token) (s : Scope) (bs xs ys : List Pair) (n : List ℕ) (v : Value) (rest : List Frame) → ys ≡ xs ++ record { name = n; value = v } ∷ []
    → on_leave r (frames_of tokens s bs (BoundTo xs n v ∷ rest)) s ≡ done (frames_of tokens s bs (Bindings ys ∷ rest)) s
unfolding return
leave_binding r tokens s bs xs ys n v rest e =
    ap (λ zs. done (bindings zs ∷ frames_of tokens s bs rest) s) (sym (ap (map (variable_at s.trees)) e ∙ map-append (variable_at s.trees) xs (record { name = n; value = v } ∷ [])))

body_is : (r : Rules) (tokens : List Token) (s : Scope) (bs xs : List Pair) (rest : List Frame) → on_leave r (frames_of tokens s bs (Bindings xs ∷ rest)) s ≡ done (frames_of tokens s (xs ++ bs) (Body (length xs) ∷ rest)) s
unfolding return
body_is r tokens s bs xs rest =
    ap (λ zs. done (body (map (variable_at s.trees) zs) ∷ frames_of tokens s bs rest) s) (sym (take_at xs bs (length xs) refl))
    ∙ ap (λ cs. done (body (map (variable_at s.trees) (take (length xs) (xs ++ bs))) ∷ frames_of tokens s cs rest) s) (sym (drop_at xs bs (length xs) refl))

pub leave_bindings : (r : Rules) (tokens : List Token) (s : Scope) (w w' : Walk) (xs : List Pair) (rest : List Frame) (k : ℕ) (bs : List Pair) (y : Result (Unit {0}) JudgeError) → w.answer ≡ None → w.frames ≡ Bindings xs ∷ rest → k ≡ length xs
    → bs ≡ xs ++ w.bindings → OnOk y (w' ≡ record { answer = w.answer; frames = Body k ∷ rest; bindings = bs }) → OnErr y (y ≡ Err Memory) → Stands s w → StepComes (on_leave r (walk_of tokens s w)) s tokens s w' y
leave_bindings r tokens s w w' xs rest k bs (Ok x) e h c b i j st =
    let holds : AllHold s (Bindings xs ∷ rest) = subst (AllHold s) h st.frames in
    let made : Walk = record { answer = w.answer; frames = Body k ∷ rest; bindings = bs } in (
      ap (λ fs. on_leave r fs s) (shown_is tokens s w (Bindings xs ∷ rest) e h)
          ∙ body_is r tokens s w.bindings xs rest
          ∙ ap (λ n. done (frames_of tokens s (xs ++ w.bindings) (Body n ∷ rest)) s) (sym c)
          ∙ ap (λ cs. done (frames_of tokens s cs (Body k ∷ rest)) s) (sym b)
          ∙ ap (λ fs. done fs s) (sym (shown_is tokens s made (Body k ∷ rest) e refl))
          ∙ ap (λ z. done (walk_of tokens s z) s) (sym i),
      subst (Stands s) (sym i)
          (record { answer = st.answer; frames = (tt, holds.1); others = subst OthersWait h st.others; bindings = subst (AreBound s.trees) (sym b) (bound_both s.trees xs w.bindings holds.0 st.bindings) }),
    )
leave_bindings r tokens s w w' xs rest k bs (Err x) e h c b i j st = step_memory (on_leave r (walk_of tokens s w)) s tokens s w' x (error_is x j)

-- a term that is done is given on
pub given_on : (r : Rules) (tokens : List Token) (s : Scope) (w w' : Walk) (f : Frame) (rest : List Frame) (v : Value) → w.answer ≡ None → w.frames ≡ f ∷ rest
    → on_leave r (frames_of tokens s w.bindings (f ∷ rest)) s ≡ done (given_all (typed s.trees v) (frames_of tokens s w.bindings rest)) s → (Holds s f → IsValue s.trees v) → Given (popped w rest) v w' → Stands s w
    → StepComes (on_leave r (walk_of tokens s w)) s tokens s w' (Ok tt)
given_on r tokens s w w' f rest v e h m k g st =
    let holds : AllHold s (f ∷ rest) = subst (AllHold s) h st.frames in (
      ap (λ fs. on_leave r fs s) (shown_is tokens s w (f ∷ rest) e h) ∙ m ∙ ap (λ fs. done (given_all (typed s.trees v) fs) s) (sym (shown_is tokens s (popped w rest) rest e refl)) ∙ ap (λ fs. done fs s) (sym (g.walk tokens s)),
      g.stands s (record { answer = st.answer; frames = holds.1; others = others_wait rest (subst OthersWait h st.others); bindings = st.bindings }) (k holds.0),
    )

pub leave_done : (r : Rules) (tokens : List Token) (s : Scope) (bs : List Pair) (v : Value) (rest : List Frame) → on_leave r (frames_of tokens s bs (Done v ∷ rest)) s ≡ done (given_all (typed s.trees v) (frames_of tokens s bs rest)) s
unfolding return
leave_done r tokens s bs v rest = refl

pub leave_attributes : (r : Rules) (tokens : List Token) (s : Scope) (bs : List Pair) (v : Value) (p d : ℕ) (rest : List Frame) → d ≡ 0
    → on_leave r (frames_of tokens s bs (Attributes v p d ∷ rest)) s ≡ done (given_all (typed s.trees v) (frames_of tokens s bs rest)) s
unfolding return
leave_attributes r tokens s bs v p d rest e = subst (λ x. on_leave r (frames_of tokens s bs (Attributes v p x ∷ rest)) s ≡ done (given_all (typed s.trees v) (frames_of tokens s bs rest)) s) (sym e) refl

pub leave_value : (r : Rules) (tokens : List Token) (s : Scope) (bs : List Pair) (v : Value) (p d e : ℕ) (rest : List Frame) → d ≡ suc e
    → on_leave r (frames_of tokens s bs (Attributes v p d ∷ rest)) s ≡ done (frames_of tokens s bs (Attributes v p e ∷ rest)) s
unfolding return
leave_value r tokens s bs v p d e rest h = subst (λ x. on_leave r (frames_of tokens s bs (Attributes v p x ∷ rest)) s ≡ done (frames_of tokens s bs (Attributes v p e ∷ rest)) s) (sym h) refl

leave_dividing : (r : Rules) (tokens : List Token) (s : Scope) (bs : List Pair) (n d : ℕ) (rest : List Frame) → on_leave r (frames_of tokens s bs (Dividing n d ∷ rest)) s ≡ done (frames_of tokens s bs (out_of_head n d ∷ rest)) s
unfolding return
leave_dividing r tokens s bs n zero rest = refl
leave_dividing r tokens s bs n (suc d) rest = refl

out_holds : (s : Scope) (n d : ℕ) → IsDivisor n → Holds s (out_of_head n d)
out_holds s n zero h = (h, tt)
out_holds s n (suc d) h = h

pub leave_head : (r : Rules) (tokens : List Token) (s : Scope) (w w' : Walk) (n d : ℕ) (g : Frame) (rest : List Frame) (y : Result (Unit {0}) JudgeError) → w.answer ≡ None → w.frames ≡ Dividing n d ∷ rest → g ≡ out_of_head n d
    → OnOk y (w' ≡ record { answer = w.answer; frames = g ∷ rest; bindings = w.bindings }) → OnErr y (y ≡ Err Memory) → Stands s w → StepComes (on_leave r (walk_of tokens s w)) s tokens s w' y
leave_head r tokens s w w' n d g rest y e h o i j st =
    replaced_push (on_leave r) tokens s w w' (Dividing n d) g rest y e h i j
    (leave_dividing r tokens s w.bindings n d rest ∙ ap (λ f. done (frames_of tokens s w.bindings (f ∷ rest)) s) (sym o)) (λ k. subst (Holds s) (sym o) (out_holds s n d k)) st

pub out_less : (n d e : ℕ) → 1 ≤ d → e ≡ d - 1 → Dividing n e ≡ out_of_head n d
out_less n zero e h k = absurd (omega arith)
out_less n (suc d) e h k = let same : e ≡ d = omega arith in ap (Dividing n) same

pub out_done : (n d : ℕ) (vs : List Value) → (1 ≤ d → ⊥) → vs ≡ [] → Division n vs ≡ out_of_head n d
out_done n zero vs h k = ap (Division n) k
out_done n (suc d) vs h k = absurd (h (omega arith))

-- ---- other tokens

pub name_bound : (r : Rules) (tokens : List Token) (s : Scope) (bs xs : List Pair) (rest : List Frame) (n m : List ℕ) (t : Token) (ahead : Sexps) → t ≡ Symbol m → n ≡ m
    → on_words r (frames_of tokens s bs (BindingOpen xs ∷ rest)) t ahead s ≡ done (frames_of tokens s bs (Bound xs n ∷ rest)) s
unfolding ◌>>=◌ return
name_bound r tokens s bs xs rest n m t ahead e f =
    subst (λ x. on_words r (frames_of tokens s bs (BindingOpen xs ∷ rest)) x ahead s ≡ done (frames_of tokens s bs (Bound xs n ∷ rest)) s) (sym e)
    (ap (λ k. done (binding (map (variable_at s.trees) xs) k ∷ frames_of tokens s bs rest) s) (sym f))

no_name : (r : Rules) (tokens : List Token) (s : Scope) (bs xs : List Pair) (rest : List Frame) (t : Token) (ahead : Sexps) → is_symbol t ≡ false → on_words r (frames_of tokens s bs (BindingOpen xs ∷ rest)) t ahead s ≡ refused WrongArguments
unfolding ◌>>=◌ refuse
no_name r tokens s bs xs rest Enter ahead e = refl
no_name r tokens s bs xs rest Leave ahead e = refl
no_name r tokens s bs xs rest (Numeral cs) ahead e = refl
no_name r tokens s bs xs rest (Decimal cs) ahead e = refl
no_name r tokens s bs xs rest (Hex cs) ahead e = refl
no_name r tokens s bs xs rest (Binary cs) ahead e = refl
no_name r tokens s bs xs rest (Text cs) ahead e = refl
no_name r tokens s bs xs rest (Symbol cs) ahead e = absurd (cc)
no_name r tokens s bs xs rest (Reserved w) ahead e = refl
no_name r tokens s bs xs rest (Keyword cs) ahead e = refl

pub not_bound : (r : Rules) (tokens : List Token) (s : Scope) (w : Walk) (xs : List Pair) (rest : List Frame) (t : Token) (ahead : Sexps) → w.answer ≡ None → w.frames ≡ BindingOpen xs ∷ rest → is_symbol t ≡ false
    → on_words r (walk_of tokens s w) t ahead s ≡ refused WrongArguments
not_bound r tokens s w xs rest t ahead e h k = ap (λ fs. on_words r fs t ahead s) (shown_is tokens s w (BindingOpen xs ∷ rest) e h) ∙ no_name r tokens s w.bindings xs rest t ahead k

attribute_is : (v : Value) (ts : List Tree) (o : Bool) (t : Token) → on_attribute (typed ts v) o t ≡ after_keyword (is_named t) (typed ts v) o
attribute_is v ts o Enter = refl
attribute_is v ts o Leave = refl
attribute_is v ts o (Numeral cs) = refl
attribute_is v ts o (Decimal cs) = refl
attribute_is v ts o (Hex cs) = refl
attribute_is v ts o (Binary cs) = refl
attribute_is v ts o (Text cs) = refl
attribute_is v ts o (Symbol cs) = refl
attribute_is v ts o (Reserved w) = refl
attribute_is v ts o (Keyword cs) = refl

attribute_word : (r : Rules) (tokens : List Token) (s : Scope) (bs : List Pair) (v : Value) (p : ℕ) (rest : List Frame) (t : Token) (ahead : Sexps)
    → on_words r (frames_of tokens s bs (Attributes v p 0 ∷ rest)) t ahead s ≡ done (after_keyword (is_named t) (typed s.trees v) (is_open_at tokens s.trees bs p) ∷ frames_of tokens s bs rest) s
unfolding ◌>>=◌ return
attribute_word r tokens s bs v p rest t ahead = ap (λ g. done (g ∷ frames_of tokens s bs rest) s) (attribute_is v s.trees (is_open_at tokens s.trees bs p) t)

pub depth_is : (d : ℕ) → takes_word (attribute_kind d) ≡ true → d ≡ 0
depth_is zero e = refl
depth_is (suc d) e =
    absurd (no (ap (λ b. takes_word (if b then Rattle.elaborate.specs.declared.walk.Kind.TheVariants.Attribute else Rattle.elaborate.specs.declared.walk.Kind.TheVariants.Passed)) (sym (not_zero d)) ∙ e))

pub attribute_depth : (w : Walk) (v : Value) (p d : ℕ) (rest : List Frame) → w.answer ≡ None → w.frames ≡ Attributes v p d ∷ rest → takes_word (kind_of w.answer w.frames) ≡ true → d ≡ 0
attribute_depth w v p d rest e h k = depth_is d (ap (λ o. takes_word (kind_of o (Attributes v p d ∷ rest))) (sym e) ∙ ap (λ fs. takes_word (kind_of w.answer fs)) (sym h) ∙ k)

pub attribute_stays : (r : Rules) (tokens : List Token) (s : Scope) (bs : List Pair) (v : Value) (p d : ℕ) (rest : List Frame) (t : Token) (ahead : Sexps) → d ≡ 0 → is_named t ≡ false
    → on_words r (frames_of tokens s bs (Attributes v p d ∷ rest)) t ahead s ≡ done (frames_of tokens s bs (Attributes v p 0 ∷ rest)) s
attribute_stays r tokens s bs v p d rest t ahead e h =
    ap (λ x. on_words r (frames_of tokens s bs (Attributes v p x ∷ rest)) t ahead s) e ∙ attribute_word r tokens s bs v p rest t ahead
    ∙ ap (λ b. done (after_keyword b (typed s.trees v) (is_open_at tokens s.trees bs p) ∷ frames_of tokens s bs rest) s) h

pub attribute_names : (r : Rules) (tokens : List Token) (s : Scope) (bs : List Pair) (v : Value) (p d : ℕ) (rest : List Frame) (t : Token) (ahead : Sexps) → d ≡ 0 → is_named t ≡ true
    → on_words r (frames_of tokens s bs (Attributes v p d ∷ rest)) t ahead s ≡ done (frames_of tokens s bs (Naming v p ∷ rest)) s
attribute_names r tokens s bs v p d rest t ahead e h =
    ap (λ x. on_words r (frames_of tokens s bs (Attributes v p x ∷ rest)) t ahead s) e ∙ attribute_word r tokens s bs v p rest t ahead
    ∙ ap (λ b. done (after_keyword b (typed s.trees v) (is_open_at tokens s.trees bs p) ∷ frames_of tokens s bs rest) s) h

pub no_name_comes : (r : Rules) (tokens : List Token) (s u : Scope) (w w' : Walk) (xs : List Pair) (rest : List Frame) (t : Token) (ahead : Sexps) (e : JudgeError) → w.answer ≡ None → w.frames ≡ BindingOpen xs ∷ rest → IsNoName t e
    → StepComes (on_words r (walk_of tokens s w) t ahead) s tokens u w' (Err e)
no_name_comes r tokens s u w w' xs rest t ahead (Refused x) a h k = not_bound r tokens s w xs rest t ahead a h k.0 ∙ ap refused (sym k.1)
no_name_comes r tokens s u w w' xs rest t ahead Memory a h k = tt

pub none_left : (d : ℕ) → (1 ≤ d → ⊥) → d ≡ 0
none_left zero h = refl
none_left (suc d) h = absurd (h (omega arith))

pub one_less : (d e : ℕ) → 1 ≤ d → e ≡ d - 1 → d ≡ suc e
one_less d e h k = omega arith
