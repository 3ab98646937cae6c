-- No id stands twice in the signature of a stack.
use Rattle.std.proofs.Common.{◌≡◌, ℕ, zero, suc, ◌+◌, ◌-◌, ◌<◌, List, [], ◌∷◌, ◌++◌, All, take, drop, length, sym, ap, ◌∙◌, refl, subst, arith, Bool, true, false, Option, Some, None, append_assoc, append-nil}
use Rattle.std.specs.Prelude.{◌≢◌, replicate, filter, if◌then◌else◌}
use Rattle.std.proofs.lemmas.Grind.{flat_map-append}
use Rattle.std.proofs.lemmas.List.{take-append-drop}
use Rattle.std.proofs.Math.Seq.{drop-append_seam}
use Rattle.std.proofs.lemmas.List.Elements.{All-nil, All-cons, All-head, All-tail, All-append, All-weaker, All-filter}
use Rattle.smt_meaning.specs.Declaration.{Declaration}
use Rattle.smt_meaning.specs.Signature.{HasNoIdTwice}
use Rattle.smt_meaning.specs.Sorts.{Scope, Outcome, done, refused, Judging}
use Rattle.smt_meaning.specs.Stack.{Frame, Assertion, signature_of, depth, on_top, at_base, with_declared, stays, base_of, cleared, pushed, empty_frame}
use Rattle.smt_meaning.specs.StackCommand.{Stack, start, Change, declares, asserts, pushes, pops, asks, assumes, sets, clears, begins_again, is_unsupported, stack_command, scope_of, judged, new_declarations, changed, after_outcome, after_command, after, after_all}
use Rattle.smt_meaning.specs.declared.commands.Command.{Command}
use Rattle.smt_laws.specs.TermLaws.{NoIdTwice}
use Rattle.smt_laws.proofs.Keeping.{Invariant, Kept, KeepsIfSome, command_keeps}

-- ---- ids below the next one, none twice

record Fresh (next : ℕ) (ds : List Declaration) : Type 0 where
  pub distinct : HasNoIdTwice ds
  pub below : All (λ (d : Declaration). d.id < next) ds

nothing_fresh : (n : ℕ) → Fresh n []
nothing_fresh n = record { distinct = tt; below = All-nil (λ (d : Declaration). d.id < n) }

distinct_more : (ds : List Declaration) (e : Declaration) → HasNoIdTwice ds → All (λ (d : Declaration). d.id < e.id) ds → HasNoIdTwice (ds ++ e ∷ [])
distinct_more [] e h b = (All-nil (λ (d : Declaration). e.id ≢ d.id), tt)
distinct_more (d ∷ ds) e h b = (
  All-append (λ (f : Declaration). d.id ≢ f.id) ds (e ∷ []) h.0
      (All-cons (λ (f : Declaration). d.id ≢ f.id) e [] (λ same. let l : d.id < e.id = All-head (λ (f : Declaration). f.id < e.id) d ds b in absurd (omega arith)) (All-nil (λ (f : Declaration). d.id ≢ f.id))),
  distinct_more ds e h.1 (All-tail (λ (f : Declaration). f.id < e.id) d ds b),
)

fresh_more : (n : ℕ) (ds : List Declaration) (e : Declaration) → e.id ≡ n → Fresh n ds → Fresh (n + 1) (ds ++ e ∷ [])
fresh_more n ds e same h = record {
  distinct = distinct_more ds e h.distinct (subst (λ k. All (λ (d : Declaration). d.id < k) ds) (sym same) h.below);
  below =
      All-append (λ (d : Declaration). d.id < n + 1) ds (e ∷ []) (All-weaker (λ (d : Declaration). d.id < n) (λ (d : Declaration). d.id < n + 1) (λ d l. omega arith) ds h.below)
      (All-cons (λ (d : Declaration). d.id < n + 1) e [] (omega arith) (All-nil (λ (d : Declaration). d.id < n + 1)));
}

All-prefix : (P : Declaration → Type 0) (ds es : List Declaration) → All P (ds ++ es) → All P ds
All-prefix P [] es h = All-nil P
All-prefix P (d ∷ ds) es h = All-cons P d ds (All-head P d (ds ++ es) h) (All-prefix P ds es (All-tail P d (ds ++ es) h))

distinct_prefix : (ds es : List Declaration) → HasNoIdTwice (ds ++ es) → HasNoIdTwice ds
distinct_prefix [] es h = tt
distinct_prefix (d ∷ ds) es h = (All-prefix (λ (e : Declaration). d.id ≢ e.id) ds es h.0, distinct_prefix ds es h.1)

fresh_prefix : (n : ℕ) (ds es : List Declaration) → Fresh n (ds ++ es) → Fresh n ds
fresh_prefix n ds es h = record { distinct = distinct_prefix ds es h.distinct; below = All-prefix (λ (d : Declaration). d.id < n) ds es h.below }

All-suffix : (P : Declaration → Type 0) (ds es : List Declaration) → All P (ds ++ es) → All P es
All-suffix P [] es h = h
All-suffix P (d ∷ ds) es h = All-suffix P ds es (All-tail P d (ds ++ es) h)

distinct_suffix : (ds es : List Declaration) → HasNoIdTwice (ds ++ es) → HasNoIdTwice es
distinct_suffix [] es h = h
distinct_suffix (d ∷ ds) es h = distinct_suffix ds es h.1

-- one more in front of another part
distinct_between : (d : Declaration) (ds es : List Declaration) → All (λ (e : Declaration). d.id ≢ e.id) (ds ++ es) → HasNoIdTwice (ds ++ es) → HasNoIdTwice (ds ++ d ∷ es)
distinct_between d [] es h k = (h, k)
distinct_between d (e ∷ ds) es h k =
    let other : d.id ≢ e.id = All-head (λ (f : Declaration). d.id ≢ f.id) e (ds ++ es) h in (
      All-append (λ (f : Declaration). e.id ≢ f.id) ds (d ∷ es) (All-prefix (λ (f : Declaration). e.id ≢ f.id) ds es k.0)
          (All-cons (λ (f : Declaration). e.id ≢ f.id) d es (λ same. other (sym same)) (All-suffix (λ (f : Declaration). e.id ≢ f.id) ds es k.0)),
      distinct_between d ds es (All-tail (λ (f : Declaration). d.id ≢ f.id) e (ds ++ es) h) k.1,
    )

All-swap : (P : Declaration → Type 0) (ds es : List Declaration) → All P (ds ++ es) → All P (es ++ ds)
All-swap P ds es h = All-append P es ds (All-suffix P ds es h) (All-prefix P ds es h)

distinct_swap : (ds es : List Declaration) → HasNoIdTwice (ds ++ es) → HasNoIdTwice (es ++ ds)
distinct_swap [] es h = subst HasNoIdTwice (sym (append-nil es)) h
distinct_swap (d ∷ ds) es h = distinct_between d es ds (All-swap (λ (e : Declaration). d.id ≢ e.id) ds es h.0) (distinct_swap ds es h.1)

All-move : (P : Declaration → Type 0) (front ds es : List Declaration) → All P (front ++ (ds ++ es)) → All P (front ++ (es ++ ds))
All-move P front ds es h = All-append P front (es ++ ds) (All-prefix P front (ds ++ es) h) (All-swap P ds es (All-suffix P front (ds ++ es) h))

distinct_move : (front ds es : List Declaration) → HasNoIdTwice (front ++ (ds ++ es)) → HasNoIdTwice (front ++ (es ++ ds))
distinct_move [] ds es h = distinct_swap ds es h
distinct_move (d ∷ front) ds es h = (All-move (λ (e : Declaration). d.id ≢ e.id) front ds es h.0, distinct_move front ds es h.1)

-- parts that change places, behind others
fresh_move : (n : ℕ) (front ds es : List Declaration) → Fresh n (front ++ (ds ++ es)) → Fresh n (front ++ (es ++ ds))
fresh_move n front ds es h = record { distinct = distinct_move front ds es h.distinct; below = All-move (λ (d : Declaration). d.id < n) front ds es h.below }

distinct_step : (d : Declaration) (ds : List Declaration) (b : Bool) → All (λ (e : Declaration). d.id ≢ e.id) (filter stays ds) → HasNoIdTwice (filter stays ds)
    → HasNoIdTwice (if b then d ∷ filter stays ds else filter stays ds)
distinct_step d ds true h k = (h, k)
distinct_step d ds false h k = k

distinct_filter : (ds : List Declaration) → HasNoIdTwice ds → HasNoIdTwice (filter stays ds)
distinct_filter [] h = tt
distinct_filter (d ∷ ds) h = distinct_step d ds (stays d) (All-filter stays (λ (e : Declaration). d.id ≢ e.id) ds h.0) (distinct_filter ds h.1)

-- those that stay
fresh_filter : (n : ℕ) (ds : List Declaration) → Fresh n ds → Fresh n (filter stays ds)
fresh_filter n ds h = record { distinct = distinct_filter ds h.distinct; below = All-filter stays (λ (d : Declaration). d.id < n) ds h.below }

-- ---- the signature before, and what was declared behind it

-- ids are fresh, and the signature begins with these declarations
record Grown (ds : List Declaration) (s : Scope) : Type 0 where
  pub fresh : Fresh s.given s.signature
  pub names : List Declaration
  pub behind : s.signature ≡ ds ++ names

grown : (ds : List Declaration) → Invariant (Grown ds)
grown ds = record {
  noted = λ s us h. record { fresh = h.fresh; names = h.names; behind = h.behind };
  declared = λ s e same h. record {
    fresh = fresh_more s.given s.signature e same h.fresh;
    names = h.names ++ e ∷ [];
    behind = ap (λ xs. xs ++ e ∷ []) h.behind ∙ append_assoc ds h.names (e ∷ []);
  };
}

-- ---- the fold

abbrev FreshStack : Stack → Type 0
FreshStack s = Fresh s.given (signature_of s.frames)

on_top_signature : (ds : List Declaration) (xs : List Assertion) (f : Frame) (frames : List Frame) → signature_of (on_top ds xs (f ∷ frames)) ≡ signature_of (f ∷ frames) ++ ds
on_top_signature ds xs f [] = append-nil (f.declared ++ ds) ∙ ap (λ es. es ++ ds) (sym (append-nil f.declared))
on_top_signature ds xs f (g ∷ frames) = ap (λ es. f.declared ++ es) (on_top_signature ds xs g frames) ∙ sym (append_assoc f.declared (signature_of (g ∷ frames)) ds)

fresh_on_top : (n : ℕ) (ds : List Declaration) (xs : List Assertion) (frames : List Frame) → Fresh n (signature_of frames ++ ds) → Fresh n (signature_of (on_top ds xs frames))
fresh_on_top n ds xs [] h = nothing_fresh n
fresh_on_top n ds xs (f ∷ frames) h = subst (Fresh n) (sym (on_top_signature ds xs f frames)) h

-- declarations of level 0 stand before those of the levels above
fresh_at_base : (n : ℕ) (ds : List Declaration) (frames : List Frame) → Fresh n (signature_of frames ++ ds) → Fresh n (signature_of (at_base ds frames))
fresh_at_base n ds [] h = nothing_fresh n
fresh_at_base n ds (f ∷ frames) h =
    subst (Fresh n) (sym (append_assoc f.declared ds (signature_of frames)))
    (fresh_move n f.declared (signature_of frames) ds (subst (Fresh n) (append_assoc f.declared (signature_of frames) ds) h))

fresh_declared : (n : ℕ) (b : Bool) (ds : List Declaration) (frames : List Frame) → Fresh n (signature_of frames ++ ds) → Fresh n (signature_of (with_declared b ds frames))
fresh_declared n true ds frames h = fresh_at_base n ds frames h
fresh_declared n false ds frames h = fresh_on_top n ds [] frames h

fresh_base : (n : ℕ) (frames : List Frame) → Fresh n (signature_of frames) → Fresh n (signature_of (base_of frames))
fresh_base n [] h = nothing_fresh n
fresh_base n (f ∷ frames) h =
    subst (Fresh n) (sym (append-nil (filter stays f.declared))) (fresh_filter n f.declared (fresh_prefix n f.declared (signature_of frames) h))

fresh_cleared : (n : ℕ) (b : Bool) (frames : List Frame) → Fresh n (signature_of frames) → Fresh n (signature_of (cleared b frames))
fresh_cleared n true frames h = fresh_base n frames h
fresh_cleared n false frames h = nothing_fresh n

-- what was declared on the way, behind what was there
joined_again : (s : Stack) (c : Scope) (names : List Declaration) → c.signature ≡ signature_of s.frames ++ names → c.signature ≡ signature_of s.frames ++ new_declarations s c
joined_again s c names e =
    e ∙ ap (λ ds. signature_of s.frames ++ ds) (sym (drop-append_seam (signature_of s.frames) names) ∙ ap (drop (length (signature_of s.frames))) (sym e))

nothing_declared : (n : ℕ) → signature_of (replicate n empty_frame) ≡ []
nothing_declared zero = refl
nothing_declared (suc n) = nothing_declared n

pushed_signature : (n : ℕ) (frames : List Frame) → signature_of (pushed n frames) ≡ signature_of frames
pushed_signature n frames =
    flat_map-append (λ (f : Frame). f.declared) frames (replicate n empty_frame) ∙ ap (λ ds. signature_of frames ++ ds) (nothing_declared n) ∙ append-nil (signature_of frames)

popped_signature : (k : ℕ) (frames : List Frame) → signature_of frames ≡ signature_of (take k frames) ++ signature_of (drop k frames)
popped_signature k frames = ap signature_of (sym (take-append-drop k frames)) ∙ flat_map-append (λ (f : Frame). f.declared) (take k frames) (drop k frames)

changed_fresh : (s : Stack) (change : Change) (c : Scope) → FreshStack s → Fresh c.given c.signature → (names : List Declaration) → c.signature ≡ signature_of s.frames ++ names → FreshStack (changed s change c)
changed_fresh s declares c f g names e = fresh_declared c.given s.global (new_declarations s c) s.frames (subst (Fresh c.given) (joined_again s c names e) g)
changed_fresh s (asserts a) c f g names e = fresh_on_top c.given (new_declarations s c) (a ∷ []) s.frames (subst (Fresh c.given) (joined_again s c names e) g)
changed_fresh s (pushes n) c f g names e = subst (Fresh s.given) (sym (pushed_signature n s.frames)) f
changed_fresh s (pops n) c f g names e =
    fresh_prefix s.given _ (signature_of (drop (length s.frames - n) s.frames)) (subst (Fresh s.given) (popped_signature (length s.frames - n) s.frames) f)
changed_fresh s (asks ts) c f g names e = f
changed_fresh s (assumes xs) c f g names e = f
changed_fresh s (sets o) c f g names e = f
changed_fresh s clears c f g names e = fresh_cleared s.given s.global s.frames f
changed_fresh s begins_again c f g names e = nothing_fresh 0
changed_fresh s is_unsupported c f g names e = f

outcome_fresh : (s : Stack) (o : Outcome Change) → FreshStack s → Kept (Grown (signature_of s.frames)) o → FreshStack (after_outcome s o)
outcome_fresh s (done change c) f k = changed_fresh s change c f k.fresh k.names k.behind
outcome_fresh s (refused r) f k = f

command_fresh : (s : Stack) (o : Option (ℕ → Judging Change)) → KeepsIfSome (grown (signature_of s.frames)) o → FreshStack s → FreshStack (after_command s o)
unfolding judged
command_fresh s None k f = f
command_fresh s (Some m) k f = outcome_fresh s (judged m s) f ((k (depth s.frames)).keeps (scope_of s) (record { fresh = f; names = []; behind = sym (append-nil (signature_of s.frames)) }))

all_fresh : (s : Stack) (cs : List Command) → FreshStack s → FreshStack (after_all s cs)
all_fresh s [] f = f
all_fresh s (c ∷ cs) f = all_fresh (after s c) cs (command_fresh s (stack_command c) (command_keeps (grown (signature_of s.frames)) c) f)

pub no_id_twice : NoIdTwice
no_id_twice cs = (all_fresh start cs (nothing_fresh 0)).distinct
