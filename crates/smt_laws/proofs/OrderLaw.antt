-- The trees of a stack are different, and each stands after its arguments.
use Rattle.std.proofs.Common.{◌≡◌, ℕ, zero, suc, ◌+◌, ◌<◌, ◌≤◌, List, [], ◌∷◌, ◌++◌, take, drop, length, ap, sym, subst, ◌∙◌, refl, Bool, true, false, ◌||◌, Option, Some, None, inl, inr, arith, append_assoc, append-nil}
use Rattle.std.specs.Prelude.{if◌then◌else◌}
use Rattle.std.proofs.Math.ListN.{get_or-append}
use Rattle.std.proofs.lemmas.List.{take-append-drop, length-append}
use Rattle.smt_meaning.specs.declared.commands.Command.{Command}
use Rattle.smt_meaning.specs.Term.{Tree, Trees, node, none, more, tree_at}
use Rattle.smt_meaning.specs.TreeShape.{tree_eq, is_among, place_of, with_tree, with_parts, with_all_parts}
use Rattle.smt_meaning.specs.Parts.{IsPart, IsPartOfOne, IsOneOf, IsArgument, StandsBelow, AreInOrder}
use Rattle.smt_meaning.specs.Sorts.{Scope, Outcome, done, refused, Judging, with_all}
use Rattle.smt_meaning.specs.StackCommand.{Stack, start, Change, declares, asserts, asks, assumes, sets, pushes, pops, clears, begins_again, is_unsupported, stack_command, scope_of, judged, changed, after_outcome, after_command, after, after_all}
use Rattle.smt_meaning.specs.Stack.{depth}
use Rattle.smt_laws.proofs.Keeping.{Invariant, Kept, KeepsIfSome, command_keeps}
use Rattle.smt_laws.proofs.SameTree.{found_again, tree_eq-true}
use Rattle.smt_laws.specs.SortLaws.{TreesAreInOrder}
use Rattle.smt_laws.proofs.Among.{Among, among_first, among_rest, among_append, among_parts, kept_with_all_parts}

-- ---- by the trees before

abbrev pub AllAmong : Trees → List Tree → Type 0
AllAmong none ts = Unit {0}
AllAmong (more u us) ts = Among u ts × AllAmong us ts

abbrev pub HasArguments : Tree → List Tree → Type 0
HasArguments (node h us) ts = AllAmong us ts

-- each of these is new behind those before it, which have its arguments
abbrev pub Ordered : List Tree → List Tree → Type 0
Ordered before [] = Unit {0}
Ordered before (t ∷ ts) = (is_among t before ≡ false) × (HasArguments t before × Ordered (before ++ t ∷ []) ts)

ordered_more : (before ts : List Tree) (t : Tree) → Ordered before ts → is_among t (before ++ ts) ≡ false → HasArguments t (before ++ ts) → Ordered before (ts ++ t ∷ [])
ordered_more before [] t h n a = (subst (λ us. is_among t us ≡ false) (append-nil before) n, (subst (HasArguments t) (append-nil before) a, tt))
ordered_more before (u ∷ ts) t h n a = (
  h.0,
  (
    h.1.0,
    ordered_more (before ++ u ∷ []) ts t h.1.1 (subst (λ us. is_among t us ≡ false) (sym (append_assoc before (u ∷ []) ts)) n)
        (subst (HasArguments t) (sym (append_assoc before (u ∷ []) ts)) a),
  ),
)

ordered_with : (ts : List Tree) (t : Tree) → Ordered [] ts → HasArguments t ts → Ordered [] (with_tree ts t)
ordered_with ts t h a = by_cases (is_among t ts) refl
  where
    by_cases : (b : Bool) → is_among t ts ≡ b → Ordered [] (if b then ts else ts ++ t ∷ [])
    by_cases true e = h
    by_cases false e = ordered_more [] ts t h e a

mutual
  ordered_parts : (ts : List Tree) (t : Tree) → Ordered [] ts → Ordered [] (with_parts ts t)
  ordered_parts ts (node h us) o = ordered_with (with_all_parts ts us) (node h us) (ordered_all_parts ts us o) (arguments_among ts us)

  ordered_all_parts : (ts : List Tree) (us : Trees) → Ordered [] ts → Ordered [] (with_all_parts ts us)
  ordered_all_parts ts none o = o
  ordered_all_parts ts (more u us) o = ordered_all_parts (with_parts ts u) us (ordered_parts ts u o)

  arguments_among : (ts : List Tree) (us : Trees) → AllAmong us (with_all_parts ts us)
  arguments_among ts none = tt
  arguments_among ts (more u us) = (kept_with_all_parts u (with_parts ts u) us (among_parts u ts), arguments_among (with_parts ts u) us)

ordered_all : (ts us : List Tree) → Ordered [] ts → Ordered [] (with_all ts us)
ordered_all ts [] o = o
ordered_all ts (u ∷ us) o = ordered_all (with_parts ts u) us (ordered_parts ts u o)

-- ---- by places

not_before : (t : Tree) (before us : List Tree) → is_among t (before ++ us) ≡ false → is_among t before ≡ false
not_before t before us e = go (is_among t before) refl
  where
    go : (b : Bool) → is_among t before ≡ b → b ≡ false
    go true p = let q : is_among t (before ++ us) ≡ true = among_append t before us p in absurd (cc)
    go false p = refl

not_in_both : (t : Tree) (us : List Tree) → is_among t (us ++ t ∷ []) ≡ false → ⊥
not_in_both t us e = let q : is_among t (us ++ t ∷ []) ≡ true = last t us in absurd (cc)
  where
    last : (x : Tree) (xs : List Tree) → is_among x (xs ++ x ∷ []) ≡ true
    last x [] = among_first x []
    last x (y ∷ xs) = among_rest x y (xs ++ x ∷ []) (last x xs)

later_new : (before ts : List Tree) (j : ℕ) → Ordered before ts → j < length ts → is_among (tree_at ts j) before ≡ false
later_new before [] j o h = absurd (omega arith)
later_new before (t ∷ ts) zero o h = o.0
later_new before (t ∷ ts) (suc j) o h = not_before (tree_at ts j) before (t ∷ []) (later_new (before ++ t ∷ []) ts j o.1.1 (omega arith))

differ : (before ts : List Tree) (i j : ℕ) → Ordered before ts → i < length ts → j < length ts → tree_at ts i ≡ tree_at ts j → i ≡ j
differ before [] i j o h k e = absurd (omega arith)
differ before (t ∷ ts) zero zero o h k e = refl
differ before (t ∷ ts) zero (suc j) o h k e =
    absurd (not_in_both t before (subst (λ u. is_among u (before ++ t ∷ []) ≡ false) (sym e) (later_new (before ++ t ∷ []) ts j o.1.1 (omega arith))))
differ before (t ∷ ts) (suc i) zero o h k e =
    absurd (not_in_both t before (subst (λ u. is_among u (before ++ t ∷ []) ≡ false) e (later_new (before ++ t ∷ []) ts i o.1.1 (omega arith))))
differ before (t ∷ ts) (suc i) (suc j) o h k e = ap suc (differ (before ++ t ∷ []) ts i j o.1.1 (omega arith) (omega arith) e)

one_of : (u : Tree) (us : Trees) (ts : List Tree) → AllAmong us ts → IsOneOf u us → Among u ts
one_of u none ts a h = absurd h
one_of u (more t us) ts a (inl e) = subst (λ x. Among x ts) (sym e) a.0
one_of u (more t us) ts a (inr h) = one_of u us ts a.1 h

argument_of : (u t : Tree) (ts : List Tree) → HasArguments t ts → IsArgument u t → Among u ts
argument_of u (node h us) ts a k = one_of u us ts a k

argument_before : (before ts : List Tree) (i : ℕ) (u : Tree) → Ordered before ts → i < length ts → IsArgument u (tree_at ts i) → Among u (before ++ take i ts)
argument_before before [] i u o h k = absurd (omega arith)
argument_before before (t ∷ ts) zero u o h k = subst (Among u) (sym (append-nil before)) (argument_of u t before o.1.0 k)
argument_before before (t ∷ ts) (suc i) u o h k = subst (Among u) (append_assoc before (t ∷ []) (take i ts)) (argument_before (before ++ t ∷ []) ts i u o.1.1 (omega arith) k)

place_below : (t : Tree) (ts : List Tree) → Among t ts → place_of t ts < length ts
place_below t [] h = absurd (cc)
place_below t (u ∷ us) h = go (λ e. place_below t us e) (tree_eq t u) h
  where
    go : (Among t us → place_of t us < length us) → (b : Bool) → (b || is_among t us) ≡ true → (if b then 0 else suc (place_of t us)) < suc (length us)
    go k true e = omega arith
    go k false e = let l : place_of t us < length us = k e in omega arith

short : (i : ℕ) (ts : List Tree) → length (take i ts) ≤ i
short zero ts = omega arith
short (suc i) [] = omega arith
short (suc i) (t ∷ ts) = let l : length (take i ts) ≤ i = short i ts in omega arith

stands : (ts : List Tree) (i : ℕ) (u : Tree) → Among u (take i ts) → StandsBelow ts i u
stands ts i u a =
    let front : place_of u (take i ts) < length (take i ts) = place_below u (take i ts) a in
    let most : length (take i ts) ≤ i = short i ts in
    let all : length (take i ts) + length (drop i ts) ≡ length ts = sym (length-append (take i ts) (drop i ts)) ∙ ap length (take-append-drop i ts) in (
      place_of u (take i ts),
      omega arith,
      omega arith,
      ap (λ us. tree_at us (place_of u (take i ts))) (sym (take-append-drop i ts)) ∙ get_or-append (take i ts) (drop i ts) _ (place_of u (take i ts)) front ∙ found_again u (take i ts) a,
    )

pub in_order : (ts : List Tree) → Ordered [] ts → AreInOrder ts
in_order ts o = record {
  different = λ i j h k e. differ [] ts i j o h k e;
  after_arguments = λ i u h k. stands ts i u (argument_before [] ts i u o h k);
}

-- ---- all parts are among them

all_more : (us : Trees) (xs ys : List Tree) → AllAmong us xs → AllAmong us (xs ++ ys)
all_more none xs ys a = tt
all_more (more x us) xs ys a = (among_append x xs ys a.0, all_more us xs ys a.1)

more_arguments : (x : Tree) (xs ys : List Tree) → HasArguments x xs → HasArguments x (xs ++ ys)
more_arguments (node h us) xs ys a = all_more us xs ys a

closed : (before ts : List Tree) (t : Tree) → Ordered before ts → Among t ts → HasArguments t (before ++ ts)
closed before [] t o h = absurd (cc)
closed before (u ∷ ts) t o h = go (λ k. closed (before ++ u ∷ []) ts t o.1.1 k) (tree_eq t u) refl h
  where
    go : (Among t ts → HasArguments t ((before ++ u ∷ []) ++ ts)) → (b : Bool) → tree_eq t u ≡ b → (b || is_among t ts) ≡ true → HasArguments t (before ++ u ∷ ts)
    go rest true e k = subst (λ x. HasArguments x (before ++ u ∷ ts)) (sym (tree_eq-true t u e)) (more_arguments u before (u ∷ ts) o.1.0)
    go rest false e k = subst (HasArguments t) (append_assoc before (u ∷ []) ts) (rest k)

mutual
  pub part_among : (ts : List Tree) (t u : Tree) → Ordered [] ts → Among t ts → IsPart u t → Among u ts
  part_among ts (node h us) u o a (inl e) = subst (λ x. Among x ts) (sym e) a
  part_among ts (node h us) u o a (inr k) = part_of_one_among ts us u o (closed [] ts (node h us) o a) k

  part_of_one_among : (ts : List Tree) (us : Trees) (u : Tree) → Ordered [] ts → AllAmong us ts → IsPartOfOne u us → Among u ts
  part_of_one_among ts none u o a k = absurd k
  part_of_one_among ts (more t us) u o a (inl k) = part_among ts t u o a.0 k
  part_of_one_among ts (more t us) u o a (inr k) = part_of_one_among ts us u o a.1 k

-- ---- the stack's

abbrev OrderedScope : Scope → Type 0
OrderedScope s = Ordered [] s.trees

ordered : Invariant OrderedScope
ordered = record { noted = λ s us h. ordered_all s.trees us h; declared = λ s e same h. h }

changed_ordered : (s : Stack) (change : Change) (c : Scope) → Ordered [] s.trees → Ordered [] c.trees → Ordered [] (changed s change c).trees
changed_ordered s declares c h k = k
changed_ordered s (asserts a) c h k = k
changed_ordered s (asks ts) c h k = k
changed_ordered s (assumes xs) c h k = k
changed_ordered s (sets o) c h k = h
changed_ordered s (pushes n) c h k = h
changed_ordered s (pops n) c h k = h
changed_ordered s clears c h k = h
changed_ordered s begins_again c h k = tt
changed_ordered s is_unsupported c h k = h

outcome_ordered : (s : Stack) (o : Outcome Change) → Ordered [] s.trees → Kept OrderedScope o → Ordered [] (after_outcome s o).trees
outcome_ordered s (done change c) h k = changed_ordered s change c h k
outcome_ordered s (refused r) h k = h

command_ordered : (s : Stack) (o : Option (ℕ → Judging Change)) → KeepsIfSome ordered o → Ordered [] s.trees → Ordered [] (after_command s o).trees
unfolding judged
command_ordered s None k h = h
command_ordered s (Some m) k h = outcome_ordered s (judged m s) h ((k (depth s.frames)).keeps (scope_of s) h)

pub all_ordered : (s : Stack) (cs : List Command) → Ordered [] s.trees → Ordered [] (after_all s cs).trees
all_ordered s [] h = h
all_ordered s (c ∷ cs) h = all_ordered (after s c) cs (command_ordered s (stack_command c) (command_keeps ordered c) h)

pub trees_in_order : TreesAreInOrder
trees_in_order cs = in_order (after_all start cs).trees (all_ordered start cs tt)
