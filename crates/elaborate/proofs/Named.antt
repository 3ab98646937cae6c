-- Names that are given to terms.
use Rattle.std.proofs.Common.{◌≡◌, ℕ, ◌+◌, ◌<◌, ◌≤◌, List, [], ◌∷◌, ◌++◌, length, map, drop, append-nil, arith, ap, ap₂, sym, subst, ◌∙◌, refl, Bool, true, false, not, ◌&&◌, nat_lt, Option, Some, None}
use Rattle.std.specs.Prelude.{Result, Ok, Err, OnOk, OnErr, IfOk, if◌then◌else◌, bytes_eq, ◌↔◌}
use Rattle.std.proofs.lemmas.List.{drop_all}
use Rattle.std.proofs.lemmas.Bool.Decides.{nat_tests}
use Rattle.smt_meaning.specs.declared.values.Sort.{Sort}
use Rattle.smt_meaning.specs.declared.tokens.Token.{Token}
use Rattle.smt_meaning.specs.declared.tokens.Token.TheVariants.{Enter, Leave, Numeral, Decimal, Hex, Binary, Text, Symbol, Reserved, Keyword}
use Rattle.smt_meaning.specs.declared.refusals.Refusal.TheVariants.{WrongArguments, AlreadyDeclared, ReservedName, TooManySymbols}
use Rattle.smt_meaning.specs.Declaration.{Declaration, Body}
use Rattle.smt_meaning.specs.Term.{Tree, tree_at}
use Rattle.smt_meaning.specs.Sexp.{Sexps, open_lists_of, sexp, IsSexp}
use Rattle.smt_meaning.specs.Signature.{is_one_of, is_some, find_function, reserved_functions}
use Rattle.smt_meaning.specs.Sorts.{Scope, Outcome, done, refused, Judging, go_on, ◌>>=◌, ◌>>◌, return, refuse, require, the_scope, Typed, Variable, Rules, variable_names, body_of, name_declaration, most_symbols, declare_in, declare, name_term, judge}
use Rattle.smt_sorts.specs.declared.errors.AddError.{AddError}
use Rattle.smt_sorts.specs.declared.errors.AddError.TheVariants.{TooManySymbols as TooMany}
use Rattle.smt_sorts.specs.Names.{Names, signature, named_term, with_declaration}
use Rattle.smt_laws.specs.Walk.{Frame as Meant, attributes, has_free_first, first_list, on_words, step, run, finish}
use Rattle.smt_laws.specs.TermWalkLaws.{WalkGivesTheJudgement}
use Rattle.look_ahead.specs.Ahead.{ahead}
use Rattle.elaborate.specs.declared.value.Value.{Value}
use Rattle.elaborate.specs.declared.frame.Binding.{Binding}
use Rattle.elaborate.specs.declared.frame.Frame.{Frame}
use Rattle.elaborate.specs.declared.frame.Frame.TheVariants.{Attributes, Naming}
use Rattle.elaborate.specs.declared.frame.Walk.{Walk}
use Rattle.elaborate.specs.declared.error.JudgeError.{JudgeError}
use Rattle.elaborate.specs.declared.error.JudgeError.TheVariants.{Refused, Memory}
use Rattle.elaborate.specs.Judged.{scope_of, IsCauseOf}
use Rattle.elaborate.specs.Values.{typed}
use Rattle.elaborate.specs.Frames.{find_value, variable_at, is_open_at, frames_of, walk_of, AllHold, OthersWait, AnswerHolds, Stands}
use Rattle.elaborate.specs.Steps.{StepComes, is_symbol, IsNoName}
use Rattle.elaborate.specs.Naming.{names_bound, why_not_new, IsWhyNotNew, NameComes, TermComes}
use Rattle.elaborate.proofs.Grow.{Grown, walk_same, stands_grows}
use Rattle.elaborate.proofs.Moves.{shown_is, error_is, step_memory}
use Rattle.elaborate.proofs.Runs.{judged_is, finished_answer, unfinished, run_step, run_nothing}

-- ---- the names of bindings

pub name_found : (n : List ℕ) (bs : List Binding) (v : Value) → find_value n bs ≡ Some v → is_one_of n (names_bound bs) ≡ true
name_found n [] v e = absurd (cc)
name_found n (b ∷ bs) v e = go (bytes_eq n b.name) (λ h. name_found n bs v h) e
  where
    go : (c : Bool) → (find_value n bs ≡ Some v → is_one_of n (names_bound bs) ≡ true) → (if c then Some b.value else find_value n bs) ≡ Some v → (if c then true else is_one_of n (names_bound bs)) ≡ true
    go true k h = refl
    go false k h = k h

pub name_not_found : (n : List ℕ) (bs : List Binding) → find_value n bs ≡ None → is_one_of n (names_bound bs) ≡ false
name_not_found n [] e = refl
name_not_found n (b ∷ bs) e = go (bytes_eq n b.name) (λ h. name_not_found n bs h) e
  where
    go : (c : Bool) → (find_value n bs ≡ None → is_one_of n (names_bound bs) ≡ false) → (if c then Some b.value else find_value n bs) ≡ None → (if c then true else is_one_of n (names_bound bs)) ≡ false
    go true k h = absurd (cc)
    go false k h = k h

names_same : (ts : List Tree) (bs : List Binding) → variable_names (map (variable_at ts) bs) ≡ names_bound bs
names_same ts [] = refl
names_same ts (b ∷ bs) = ap (λ (ns : List (List ℕ)). b.name ∷ ns) (names_same ts bs)

pub open_is : {E : Type 0} (tokens : List Token) (bs : List Binding) (p : ℕ) (y : Result Bool E)
    → IfOk y (λ b. (vs : List Variable) → variable_names vs ≡ names_bound bs → has_free_first vs (ahead tokens p) ≡ b) → IfOk y (λ b. (ts : List Tree) → is_open_at tokens ts bs p ≡ b)
open_is tokens bs p (Ok b) h = λ ts. h (map (variable_at ts) bs) (names_same ts bs)
open_is tokens bs p (Err x) h = tt

-- past all tokens nothing is ahead
pub nothing_ahead : (tokens : List Token) (ts : List Tree) (bs : List Binding) (p : ℕ) → length tokens ≤ p → is_open_at tokens ts bs p ≡ false
nothing_ahead tokens ts bs p h = ap (λ xs. has_free_first (map (variable_at ts) bs) (first_list (open_lists_of xs))) (drop_all p tokens h)

-- ---- one definition more

below : (a b : ℕ) → a < b → nat_lt a b ≡ true
below a b lt = grind (arith, nat_tests)

not_below : (a : ℕ) → nat_lt a a ≡ false
not_below a = grind (arith, nat_tests)

strictly : (a b : ℕ) → a ≤ b → (a ≡ b → ⊥) → a < b
strictly a b h k = go (nat_lt a b) refl
  where
    go : (c : Bool) → nat_lt a b ≡ c → a < b
    go true e = grind (arith, nat_tests)
    go false e = (let same : a ≡ b = grind (arith, nat_tests) in absurd (k same))

declared_in : (d : Declaration) (b : Bool) (s : Scope) → b ≡ true → declare_in d b s ≡ done tt (record s { signature = s.signature ++ d ∷ []; given = s.given + 1 })
declared_in d b s e = rw e refl

not_declared_in : (d : Declaration) (b : Bool) (s : Scope) → b ≡ false → declare_in d b s ≡ refused TooManySymbols
not_declared_in d b s e = rw e refl

abbrev pub failed : AddError → Result ℕ AddError
failed e = Err e

no_error : (i : ℕ) (e : AddError) → (let x : Result ℕ AddError = Ok i in x ≡ Err e) → ⊥
no_error i e h = cc

pub declared : (n : List ℕ) (ts : List Tree) (v : Value) (t u : Names) (ss : List Sort) (b : Body) (i : ℕ) → t.given ≤ most_symbols → ((let x : Result ℕ AddError = Ok i in x ≡ Err TooMany) ↔ (t.given ≡ most_symbols)) → ss ≡ []
    → b ≡ body_of (tree_at ts v.id) → u ≡ with_declaration false (named_term t.given n (record { arguments = ss; result = v.sort }) b) t
    → signature u ≡ signature t ++ named_term t.given n (record { arguments = ss; result = v.sort }) b ∷ []
    → NameComes (declare (λ id. name_declaration id n (typed ts v))) (scope_of t ts) (scope_of u ts) (Ok tt)
unfolding declare
declared n ts v t u ss b i few full none body made all =
    let lt : t.given < most_symbols = strictly t.given most_symbols few (λ e. no_error i TooMany (full.1 e)) in
    let same : named_term t.given n (record { arguments = ss; result = v.sort }) b ≡ name_declaration t.given n (typed ts v) = ap₂ (λ xs o. named_term t.given n (record { arguments = xs; result = v.sort }) o) none body in
    let more' : signature u ≡ signature t ++ name_declaration t.given n (typed ts v) ∷ [] = all ∙ ap (λ d. signature t ++ d ∷ []) same in
    let given : u.given ≡ t.given + 1 = ap (λ (z : Names). z.given) made in (
      declared_in (name_declaration t.given n (typed ts v)) (nat_lt t.given most_symbols) (scope_of t ts) (below t.given most_symbols lt)
          ∙ ap₂ (λ ds k. done tt (record { signature = ds; given = k; trees = ts })) (sym more') (sym given),
      (name_declaration t.given n (typed ts v) ∷ [], more'),
    )

pub too_many : (n : List ℕ) (ts : List Tree) (v : Value) (t : Names) → t.given ≡ most_symbols → declare (λ id. name_declaration id n (typed ts v)) (scope_of t ts) ≡ refused TooManySymbols
unfolding declare
too_many n ts v t e = not_declared_in (name_declaration t.given n (typed ts v)) (nat_lt t.given most_symbols) (scope_of t ts) (ap (λ k. nat_lt k most_symbols) e ∙ not_below most_symbols)

-- ---- a name

abbrev named_as : Bool → Bool → Option Declaration → List ℕ → Typed → Judging (Unit {0})
named_as p q f n a =
    require p WrongArguments >> (require (not q) (ReservedName n) >> (require (not (is_some f)) (AlreadyDeclared n) >> declare (λ id. name_declaration id n a)))

named_shape : (r : Rules) (o : Bool) (a : Typed) (n : List ℕ) (s : Scope) → name_term r o a n s ≡ named_as (r.naming && not o) (is_one_of n reserved_functions) (find_function n s.signature) n a s
unfolding ◌>>=◌ the_scope
named_shape r o a n s = refl

named_so : (r : Rules) (o : Bool) (a : Typed) (n : List ℕ) (s : Scope) (p q : Bool) (f : Option Declaration) → r.naming && not o ≡ p → is_one_of n reserved_functions ≡ q → find_function n s.signature ≡ f → name_term r o a n s ≡ named_as p q f n a s
named_so r o a n s p q f h i j =
    named_shape r o a n s
    ∙ ap (λ b. named_as b (is_one_of n reserved_functions) (find_function n s.signature) n a s) h
    ∙ ap (λ b. named_as p b (find_function n s.signature) n a s) i
    ∙ ap (λ d. named_as p q d n a s) j

as_refused : (q : Bool) (f : Option Declaration) (n : List ℕ) (a : Typed) (s : Scope) → named_as false q f n a s ≡ refused WrongArguments
unfolding ◌>>◌ require refuse
as_refused q f n a s = refl

as_declared : (n : List ℕ) (a : Typed) (s : Scope) → named_as true false None n a s ≡ declare (λ id. name_declaration id n a) s
unfolding ◌>>◌ require return
as_declared n a s = refl

as_reserved : (f : Option Declaration) (n : List ℕ) (a : Typed) (s : Scope) → named_as true true f n a s ≡ refused (ReservedName n)
unfolding ◌>>◌ require return refuse
as_reserved f n a s = refl

as_known : (d : Declaration) (n : List ℕ) (a : Typed) (s : Scope) → named_as true false (Some d) n a s ≡ refused (AlreadyDeclared n)
unfolding ◌>>◌ require return refuse
as_known d n a s = refl

closed_and : (b o : Bool) → b ≡ false → b && not o ≡ false
closed_and b o e = rw e refl

open_and : (b o : Bool) → o ≡ true → b && not o ≡ false
open_and true o e = rw e refl
open_and false o e = refl

may_name : (b o : Bool) → b ≡ true → o ≡ false → b && not o ≡ true
may_name b o e h = rw e (rw h refl)

pub naming_not : (r : Rules) (o : Bool) (a : Typed) (n : List ℕ) (s : Scope) → r.naming ≡ false → name_term r o a n s ≡ refused WrongArguments
naming_not r o a n s e = named_so r o a n s false _ _ (closed_and r.naming o e) refl refl ∙ as_refused _ _ n a s

pub naming_open : (r : Rules) (o : Bool) (a : Typed) (n : List ℕ) (s : Scope) → o ≡ true → name_term r o a n s ≡ refused WrongArguments
naming_open r o a n s e = named_so r o a n s false _ _ (open_and r.naming o e) refl refl ∙ as_refused _ _ n a s

pub naming_new : (r : Rules) (o : Bool) (a : Typed) (n : List ℕ) (s u : Scope) (y : Result (Unit {0}) JudgeError) → r.naming ≡ true → o ≡ false → is_one_of n reserved_functions ≡ false → find_function n s.signature ≡ None
    → NameComes (declare (λ id. name_declaration id n a)) s u y → NameComes (name_term r o a n) s u y
naming_new r o a n s u y e h i j k = go y k
  where
    same : name_term r o a n s ≡ declare (λ id. name_declaration id n a) s
    same = named_so r o a n s true false None (may_name r.naming o e h) i j ∙ as_declared n a s

    go : (y : Result (Unit {0}) JudgeError) → NameComes (declare (λ id. name_declaration id n a)) s u y → NameComes (name_term r o a n) s u y
    go (Ok x) k = (same ∙ k.0, k.1)
    go (Err (Refused x)) k = same ∙ k
    go (Err Memory) k = tt

why_is : (r : Rules) (o : Bool) (a : Typed) (n : List ℕ) (s : Scope) (q : Bool) (f : Option Declaration) (x : Rattle.smt_meaning.specs.declared.refusals.Refusal.Refusal) → r.naming ≡ true → o ≡ false → is_one_of n reserved_functions ≡ q → find_function n s.signature ≡ f
    → why_not_new n q f ≡ Some x → name_term r o a n s ≡ refused x
why_is r o a n s true f x e h i j k =
    let same : ReservedName n ≡ x = cc in named_so r o a n s true true f (may_name r.naming o e h) i j ∙ as_reserved f n a s ∙ ap refused same
why_is r o a n s false (Some d) x e h i j k =
    let same : AlreadyDeclared n ≡ x = cc in named_so r o a n s true false (Some d) (may_name r.naming o e h) i j ∙ as_known d n a s ∙ ap refused same
why_is r o a n s false None x e h i j k = absurd (cc)

pub naming_old : (r : Rules) (o : Bool) (a : Typed) (n : List ℕ) (s u : Scope) (x : JudgeError) → r.naming ≡ true → o ≡ false → IsWhyNotNew (why_not_new n (is_one_of n reserved_functions) (find_function n s.signature)) x
    → NameComes (name_term r o a n) s u (Err x)
naming_old r o a n s u (Refused x) e h k = why_is r o a n s _ _ x e h refl refl k
naming_old r o a n s u Memory e h k = tt

-- ---- the token after `:named`

name_shown : (f : Meant) (fs : List Meant) (x : Outcome (Unit {0})) → go_on (go_on x (λ a. return f)) (λ g. return (g ∷ fs)) ≡ go_on x (λ a. return (f ∷ fs))
unfolding return
name_shown f fs (done a s) = refl
name_shown f fs (refused r) = refl

named_at : (r : Rules) (tokens : List Token) (s : Scope) (bs : List Binding) (v : Value) (p : ℕ) (rest : List Frame) (n : List ℕ) (ahead : Sexps) (x : Outcome (Unit {0})) → name_term r (is_open_at tokens s.trees bs p) (typed s.trees v) n s ≡ x
    → on_words r (frames_of tokens s bs (Naming v p ∷ rest)) (Symbol n) ahead s ≡ go_on x (λ a. return (frames_of tokens s bs (Attributes v p 0 ∷ rest)))
unfolding ◌>>=◌ ◌>>◌
named_at r tokens s bs v p rest n ahead x e =
    ap (λ y. go_on (go_on y (λ a. return (attributes (typed s.trees v) (is_open_at tokens s.trees bs p) 0))) (λ g. return (g ∷ frames_of tokens s bs rest))) e
    ∙ name_shown (attributes (typed s.trees v) (is_open_at tokens s.trees bs p) 0) (frames_of tokens s bs rest) x

pub name_move : (r : Rules) (tokens : List Token) (s : Scope) (w : Walk) (v : Value) (p : ℕ) (rest : List Frame) (n : List ℕ) (t : Token) (ahead : Sexps) (x : Outcome (Unit {0})) → w.answer ≡ None → w.frames ≡ Naming v p ∷ rest → t ≡ Symbol n
    → name_term r (is_open_at tokens s.trees w.bindings p) (typed s.trees v) n s ≡ x → on_words r (walk_of tokens s w) t ahead s ≡ go_on x (λ a. return (frames_of tokens s w.bindings (Attributes v p 0 ∷ rest)))
name_move r tokens s w v p rest n t ahead x e h k m =
    ap (λ fs. on_words r fs t ahead s) (shown_is tokens s w (Naming v p ∷ rest) e h)
    ∙ ap (λ z. on_words r (frames_of tokens s w.bindings (Naming v p ∷ rest)) z ahead s) k
    ∙ named_at r tokens s w.bindings v p rest n ahead x m

returned : (o : Unit {0}) (fs : List Meant) (u : Scope) → go_on (done o u) (λ a. return fs) ≡ done fs u
unfolding return
returned o fs u = refl

no_longer : (s u : Scope) → u.trees ≡ s.trees → ((added : List Declaration) × (u.signature ≡ s.signature ++ added)) → Grown s u
no_longer s u e k = record { trees = ([], e ∙ sym (append-nil s.trees)); added = k.0; signature = k.1 }

pub name_put : (r : Rules) (tokens : List Token) (s u : Scope) (w w' : Walk) (v : Value) (p : ℕ) (rest : List Frame) (n : List ℕ) (t : Token) (ahead : Sexps) (y : Result (Unit {0}) JudgeError) (o : Unit {0}) → w.answer ≡ None → w.frames ≡ Naming v p ∷ rest
    → t ≡ Symbol n → u.trees ≡ s.trees → NameComes (name_term r (is_open_at tokens s.trees w.bindings p) (typed s.trees v) n) s u (Ok o) → Stands s w
    → OnOk y (w' ≡ record { answer = w.answer; frames = Attributes v p 0 ∷ rest; bindings = w.bindings }) → OnErr y (y ≡ Err Memory) → StepComes (on_words r (walk_of tokens s w) t ahead) s tokens u w' y
name_put r tokens s u w w' v p rest n t ahead (Ok x) o e h k same m st i j =
    let holds : AllHold s (Naming v p ∷ rest) = subst (AllHold s) h st.frames in
    let made : Walk = record { answer = w.answer; frames = Attributes v p 0 ∷ rest; bindings = w.bindings } in
    let stands : Stands s made = record { answer = st.answer; frames = (holds.0, holds.1); others = subst OthersWait h st.others; bindings = st.bindings } in
    let g : Grown s u = no_longer s u same m.1 in (
      name_move r tokens s w v p rest n t ahead (done tt u) e h k m.0
          ∙ returned tt (frames_of tokens s w.bindings (Attributes v p 0 ∷ rest)) u
          ∙ ap (λ fs. done fs u) (sym (walk_same tokens s u made g stands ∙ shown_is tokens s made (Attributes v p 0 ∷ rest) e refl))
          ∙ ap (λ z. done (walk_of tokens u z) u) (sym i),
      subst (Stands u) (sym i) (stands_grows s u made g stands),
    )
name_put r tokens s u w w' v p rest n t ahead (Err x) o e h k same m st i j = step_memory (on_words r (walk_of tokens s w) t ahead) s tokens u w' x (error_is x j)

pub name_not : (r : Rules) (tokens : List Token) (s u u' : Scope) (w w' : Walk) (v : Value) (p : ℕ) (rest : List Frame) (n : List ℕ) (t : Token) (ahead : Sexps) (x : JudgeError) → w.answer ≡ None → w.frames ≡ Naming v p ∷ rest → t ≡ Symbol n
    → NameComes (name_term r (is_open_at tokens s.trees w.bindings p) (typed s.trees v) n) s u (Err x) → StepComes (on_words r (walk_of tokens s w) t ahead) s tokens u' w' (Err x)
name_not r tokens s u u' w w' v p rest n t ahead (Refused why) e h k m = name_move r tokens s w v p rest n t ahead (refused why) e h k m
name_not r tokens s u u' w w' v p rest n t ahead Memory e h k m = tt

no_symbol : (r : Rules) (tokens : List Token) (s : Scope) (bs : List Binding) (v : Value) (p : ℕ) (rest : List Frame) (t : Token) (ahead : Sexps) → is_symbol t ≡ false → on_words r (frames_of tokens s bs (Naming v p ∷ rest)) t ahead s ≡ refused WrongArguments
unfolding ◌>>=◌ refuse
no_symbol r tokens s bs v p rest Enter ahead e = refl
no_symbol r tokens s bs v p rest Leave ahead e = refl
no_symbol r tokens s bs v p rest (Numeral cs) ahead e = refl
no_symbol r tokens s bs v p rest (Decimal cs) ahead e = refl
no_symbol r tokens s bs v p rest (Hex cs) ahead e = refl
no_symbol r tokens s bs v p rest (Binary cs) ahead e = refl
no_symbol r tokens s bs v p rest (Text cs) ahead e = refl
no_symbol r tokens s bs v p rest (Symbol cs) ahead e = absurd (cc)
no_symbol r tokens s bs v p rest (Reserved w) ahead e = refl
no_symbol r tokens s bs v p rest (Keyword cs) ahead e = refl

pub no_name : (r : Rules) (tokens : List Token) (s u : Scope) (w w' : Walk) (v : Value) (p : ℕ) (rest : List Frame) (t : Token) (ahead : Sexps) (e : JudgeError) → w.answer ≡ None → w.frames ≡ Naming v p ∷ rest → IsNoName t e
    → StepComes (on_words r (walk_of tokens s w) t ahead) s tokens u w' (Err e)
no_name r tokens s u w w' v p rest t ahead (Refused x) a h k =
    ap (λ fs. on_words r fs t ahead s) (shown_is tokens s w (Naming v p ∷ rest) a h) ∙ no_symbol r tokens s w.bindings v p rest t ahead k.0 ∙ ap refused (sym k.1)
no_name r tokens s u w w' v p rest t ahead Memory a h k = tt

-- where no names are given
pub no_naming : (r : Rules) (tokens : List Token) (s : Scope) (w : Walk) (v : Value) (p : ℕ) (rest : List Frame) (t : Token) (ahead : Sexps) → r.naming ≡ false → w.answer ≡ None → w.frames ≡ Naming v p ∷ rest
    → on_words r (walk_of tokens s w) t ahead s ≡ refused WrongArguments
no_naming r tokens s w v p rest (Symbol n) ahead f e h =
    name_move r tokens s w v p rest n (Symbol n) ahead (refused WrongArguments) e h refl (naming_not r (is_open_at tokens s.trees w.bindings p) (typed s.trees v) n s f)
no_naming r tokens s w v p rest Enter ahead f e h =
    ap (λ fs. on_words r fs Enter ahead s) (shown_is tokens s w (Naming v p ∷ rest) e h) ∙ no_symbol r tokens s w.bindings v p rest Enter ahead refl
no_naming r tokens s w v p rest Leave ahead f e h =
    ap (λ fs. on_words r fs Leave ahead s) (shown_is tokens s w (Naming v p ∷ rest) e h) ∙ no_symbol r tokens s w.bindings v p rest Leave ahead refl
no_naming r tokens s w v p rest (Numeral cs) ahead f e h =
    ap (λ fs. on_words r fs (Numeral cs) ahead s) (shown_is tokens s w (Naming v p ∷ rest) e h) ∙ no_symbol r tokens s w.bindings v p rest (Numeral cs) ahead refl
no_naming r tokens s w v p rest (Decimal cs) ahead f e h =
    ap (λ fs. on_words r fs (Decimal cs) ahead s) (shown_is tokens s w (Naming v p ∷ rest) e h) ∙ no_symbol r tokens s w.bindings v p rest (Decimal cs) ahead refl
no_naming r tokens s w v p rest (Hex cs) ahead f e h =
    ap (λ fs. on_words r fs (Hex cs) ahead s) (shown_is tokens s w (Naming v p ∷ rest) e h) ∙ no_symbol r tokens s w.bindings v p rest (Hex cs) ahead refl
no_naming r tokens s w v p rest (Binary cs) ahead f e h =
    ap (λ fs. on_words r fs (Binary cs) ahead s) (shown_is tokens s w (Naming v p ∷ rest) e h) ∙ no_symbol r tokens s w.bindings v p rest (Binary cs) ahead refl
no_naming r tokens s w v p rest (Text cs) ahead f e h =
    ap (λ fs. on_words r fs (Text cs) ahead s) (shown_is tokens s w (Naming v p ∷ rest) e h) ∙ no_symbol r tokens s w.bindings v p rest (Text cs) ahead refl
no_naming r tokens s w v p rest (Reserved cs) ahead f e h =
    ap (λ fs. on_words r fs (Reserved cs) ahead s) (shown_is tokens s w (Naming v p ∷ rest) e h) ∙ no_symbol r tokens s w.bindings v p rest (Reserved cs) ahead refl
no_naming r tokens s w v p rest (Keyword cs) ahead f e h =
    ap (λ fs. on_words r fs (Keyword cs) ahead s) (shown_is tokens s w (Naming v p ∷ rest) e h) ∙ no_symbol r tokens s w.bindings v p rest (Keyword cs) ahead refl

-- ---- all tokens

-- where a walk stands before the i-th token, and in which scope
pub record IsIn (r : Rules) (tokens : List Token) (s : Scope) (fs : List Meant) (i : ℕ) (w : Walk) (u : Scope) : Type 0 where
  pub stands : Stands u w
  pub rest : run r tokens fs s ≡ run r (drop i tokens) (walk_of tokens u w) u

pub begins : (r : Rules) (tokens : List Token) (s : Scope) (w : Walk) → Stands s w → IsIn r tokens s (walk_of tokens s w) 0 w s
begins r tokens s w st = record { stands = st; rest = refl }

pub goes_in : (r : Rules) (tokens : List Token) (s : Scope) (fs : List Meant) (i : ℕ) (w w' : Walk) (u u' : Scope) (t : Token) (x : Unit {0}) → IsIn r tokens s fs i w u → drop i tokens ≡ t ∷ drop (i + 1) tokens
    → StepComes (step r (walk_of tokens u w) t (open_lists_of (drop (i + 1) tokens))) u tokens u' w' (Ok x) → IsIn r tokens s fs (i + 1) w' u'
goes_in r tokens s fs i w w' u u' t x here e h = record {
  stands = h.1;
  rest =
      here.rest ∙ ap (λ xs. run r xs (walk_of tokens u w) u) e
      ∙ run_step r t (drop (i + 1) tokens) (walk_of tokens u w) u (done (walk_of tokens u' w') u') h.0;
}

pub stops_in : (r : Rules) (tokens : List Token) (s : Scope) (fs : List Meant) (i : ℕ) (w w' : Walk) (u u' v : Scope) (t : Token) (e : JudgeError) → IsIn r tokens s fs i w u → drop i tokens ≡ t ∷ drop (i + 1) tokens
    → StepComes (step r (walk_of tokens u w) t (open_lists_of (drop (i + 1) tokens))) u tokens u' w' (Err e) → StepComes (run r tokens fs) s tokens v w' (Err e)
stops_in r tokens s fs i w w' u u' v t (Refused why) here e h =
    here.rest ∙ ap (λ xs. run r xs (walk_of tokens u w) u) e ∙ run_step r t (drop (i + 1) tokens) (walk_of tokens u w) u (refused why) h
stops_in r tokens s fs i w w' u u' v t Memory here e h = tt

pub ends_in : (r : Rules) (tokens : List Token) (s : Scope) (fs : List Meant) (i : ℕ) (w : Walk) (u : Scope) (x : Unit {0}) → IsIn r tokens s fs i w u → drop i tokens ≡ [] → StepComes (run r tokens fs) s tokens u w (Ok x)
ends_in r tokens s fs i w u x here e = (
  here.rest ∙ ap (λ xs. run r xs (walk_of tokens u w) u) e ∙ run_nothing r (walk_of tokens u w) u,
  here.stands,
)

-- ---- the whole term

judged_free : (law : WalkGivesTheJudgement) (r : Rules) (tokens : List Token) (s : Scope) (w : Walk) (x : Outcome (List Meant)) → IsSexp tokens → w.answer ≡ None → w.frames ≡ [] → w.bindings ≡ [] → run r tokens (walk_of tokens s w) s ≡ x
    → judge r [] (sexp tokens) s ≡ go_on x finish
judged_free law r tokens s w x form a f b e = ap (λ bs. judge r (map (variable_at s.trees) bs) (sexp tokens) s) (sym b) ∙ judged_is law r tokens s w x form a f e

pub term_answer : (law : WalkGivesTheJudgement) (r : Rules) (tokens : List Token) (s u : Scope) (w w' : Walk) (v : Value) (x : Unit {0}) → IsSexp tokens → w.answer ≡ None → w.frames ≡ [] → w.bindings ≡ []
    → StepComes (run r tokens (walk_of tokens s w)) s tokens u w' (Ok x) → w'.answer ≡ Some v → TermComes (judge r [] (sexp tokens)) s u (Ok v)
term_answer law r tokens s u w w' v x form a f b h e = (
  judged_free law r tokens s w (done (walk_of tokens u w') u) form a f b h.0 ∙ finished_answer tokens u w'.answer w'.bindings w'.frames v e,
  subst (AnswerHolds u) e h.1.answer,
)

pub term_unfinished : (law : WalkGivesTheJudgement) (r : Rules) (tokens : List Token) (s u : Scope) (w w' : Walk) (x : Unit {0}) → IsSexp tokens → w.answer ≡ None → w.frames ≡ [] → w.bindings ≡ []
    → StepComes (run r tokens (walk_of tokens s w)) s tokens u w' (Ok x) → w'.answer ≡ None → judge r [] (sexp tokens) s ≡ refused WrongArguments
term_unfinished law r tokens s u w w' x form a f b h e =
    judged_free law r tokens s w (done (walk_of tokens u w') u) form a f b h.0 ∙ unfinished tokens u w'.answer w'.bindings w'.frames e

pub term_refused : (law : WalkGivesTheJudgement) (r : Rules) (tokens : List Token) (s u u' : Scope) (w w' : Walk) (x : JudgeError) → IsSexp tokens → w.answer ≡ None → w.frames ≡ [] → w.bindings ≡ []
    → StepComes (run r tokens (walk_of tokens s w)) s tokens u w' (Err x) → TermComes (judge r [] (sexp tokens)) s u' (Err x)
term_refused law r tokens s u u' w w' (Refused why) form a f b h = judged_free law r tokens s w (refused why) form a f b h
term_refused law r tokens s u u' w w' Memory form a f b h = tt

pub term_cause : (m : Judging Typed) (s u : Scope) (e : JudgeError) → TermComes m s u (Err e) → IsCauseOf e (m s)
term_cause m s u (Refused r) h = h
term_cause m s u Memory h = tt
