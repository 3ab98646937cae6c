-- A free variable is one that was bound before the term.
use Rattle.std.proofs.Common.{◌≡◌, ℕ, ◌≤◌, ◌<◌, List, [], ◌∷◌, ◌++◌, Bool, true, false, ◌||◌, length, ap, sym, ◌∙◌, refl, arith, nat_lt}
use Rattle.std.specs.Prelude.{if◌then◌else◌, bytes_eq}
use Rattle.std.proofs.lemmas.List.{length-append}
use Rattle.std.proofs.lemmas.Bool.{lt-ltb, le-ltb}
use Rattle.std.proofs.lemmas.Slice.Eq.{bytes_eq-Decides}
use Rattle.smt_meaning.specs.declared.tokens.Token.TheVariants.{Symbol, Reserved}
use Rattle.smt_meaning.specs.declared.tokens.Word.TheVariants.{Exclamation, Let}
use Rattle.smt_meaning.specs.Sexp.{Sexp, Sexps, word, group, end, ◌▸◌}
use Rattle.smt_meaning.specs.Signature.{is_one_of}
use Rattle.smt_meaning.specs.Sorts.{bound_names, names_or_none, without, has_free, some_has_free, binding_has_free}
use Rattle.smt_laws.specs.Uses.{LeavesOut, NothingIsFree, is_outer, uses_outer, some_use_outer, bindings_use_outer, FreeIsUsed}

-- these names are those that stand for the first m variables
record Marks (m : ℕ) (ns vs : List (List ℕ)) : Type 0 where
  pub same : (n : List ℕ) → is_one_of n ns ≡ is_outer m vs n
  pub within : m ≤ length vs

outer_here : (b : Bool) (m : ℕ) (vs : List (List ℕ)) (n : List ℕ) → length vs < m → is_one_of n vs ≡ is_outer m vs n → (if b then true else is_one_of n vs) ≡ (if b then nat_lt (length vs) m else is_outer m vs n)
outer_here true m vs n h e = sym (lt-ltb (length vs) m h)
outer_here false m vs n h e = e

all_outer : (m : ℕ) (vs : List (List ℕ)) (n : List ℕ) → length vs ≤ m → is_one_of n vs ≡ is_outer m vs n
all_outer m [] n h = refl
all_outer m (v ∷ vs) n h = outer_here (bytes_eq n v) m vs n (omega arith) (all_outer m vs n (omega arith))

inner_here : (b : Bool) (m : ℕ) (xs vs : List (List ℕ)) (n : List ℕ) → m ≤ length (xs ++ vs) → is_outer m (xs ++ vs) n ≡ (if is_one_of n xs then false else is_outer m vs n)
    → (if b then nat_lt (length (xs ++ vs)) m else is_outer m (xs ++ vs) n) ≡ (if (if b then true else is_one_of n xs) then false else is_outer m vs n)
inner_here true m xs vs n h e = le-ltb (length (xs ++ vs)) m h
inner_here false m xs vs n h e = e

-- the names of the new variables are no more among them
inner_outer : (m : ℕ) (xs vs : List (List ℕ)) (n : List ℕ) → m ≤ length vs → is_outer m (xs ++ vs) n ≡ (if is_one_of n xs then false else is_outer m vs n)
inner_outer m [] vs n h = refl
inner_outer m (x ∷ xs) vs n h = inner_here (bytes_eq n x) m xs vs n (omega (arith, length-append xs vs)) (inner_outer m xs vs n h)

left_nothing : (b : Bool) → false ≡ (if b then false else false)
left_nothing true = refl
left_nothing false = refl

left_here : (a b c d : Bool) (ms ns : List (List ℕ)) (k n : List ℕ) → bytes_eq n k ≡ a → is_one_of k ms ≡ b → (a ≡ true → is_one_of n ms ≡ is_one_of k ms) → is_one_of n (without ms ns) ≡ (if is_one_of n ms then false else is_one_of n ns)
    → is_one_of n (if b then without ms ns else (k ∷ without ms ns)) ≡ (if is_one_of n ms then false else (if a then true else is_one_of n ns))
left_here true true c d ms ns k n e f g h = h ∙ ap (λ x. if x then false else is_one_of n ns) (g refl ∙ f) ∙ sym (ap (λ x. if x then false else true) (g refl ∙ f))
left_here true false c d ms ns k n e f g h = ap (λ x. if x then true else is_one_of n (without ms ns)) e ∙ sym (ap (λ x. if x then false else true) (g refl ∙ f))
left_here false true c d ms ns k n e f g h = h
left_here false false c d ms ns k n e f g h = ap (λ x. if x then true else is_one_of n (without ms ns)) e ∙ h

left_out : (n : List ℕ) (ms ns : List (List ℕ)) → is_one_of n (without ms ns) ≡ (if is_one_of n ms then false else is_one_of n ns)
left_out n ms [] = left_nothing (is_one_of n ms)
left_out n ms (k ∷ ns) =
    left_here (bytes_eq n k) (is_one_of k ms) true true ms ns k n refl refl (λ e. ap (λ x. is_one_of x ms) ((bytes_eq-Decides n k).0 e)) (left_out n ms ns)

marks_inside : (m : ℕ) (ms ns vs : List (List ℕ)) → Marks m ns vs → Marks m (without ms ns) (ms ++ vs)
marks_inside m ms ns vs h = record {
  same = λ n. left_out n ms ns ∙ ap (λ b. if is_one_of n ms then false else b) (h.same n) ∙ sym (inner_outer m ms vs n h.within);
  within = omega (arith, h.within, length-append ms vs);
}

mutual
  free_same : (m : ℕ) (ns vs : List (List ℕ)) (t : Sexp) → Marks m ns vs → has_free ns t ≡ uses_outer m vs t
  free_same m ns vs (word (Symbol n)) h = h.same n
  free_same m ns vs (word _) h = refl
  free_same m ns vs (group (word (Reserved Let) ▸ group bs ▸ b ▸ end)) h =
      ap (λ x. x || has_free (without (names_or_none (bound_names bs)) ns) b) (bindings_same m ns vs bs h)
      ∙ ap (λ x. bindings_use_outer m vs bs || x) (free_same m (without (names_or_none (bound_names bs)) ns) (names_or_none (bound_names bs) ++ vs) b (marks_inside m (names_or_none (bound_names bs)) ns vs h))
  free_same m ns vs (group (word (Reserved Exclamation) ▸ t ▸ rest)) h = free_same m ns vs t h
  free_same m ns vs (group (group hs ▸ ss)) h = some_same m ns vs ss h
  free_same m ns vs (group ss) h = some_same m ns vs ss h

  some_same : (m : ℕ) (ns vs : List (List ℕ)) (ss : Sexps) → Marks m ns vs → some_has_free ns ss ≡ some_use_outer m vs ss
  some_same m ns vs end h = refl
  some_same m ns vs (s ▸ ss) h = ap (λ x. x || some_has_free ns ss) (free_same m ns vs s h) ∙ ap (λ x. uses_outer m vs s || x) (some_same m ns vs ss h)

  bindings_same : (m : ℕ) (ns vs : List (List ℕ)) (bs : Sexps) → Marks m ns vs → binding_has_free ns bs ≡ bindings_use_outer m vs bs
  bindings_same m ns vs end h = refl
  bindings_same m ns vs (group (x ▸ t ▸ end) ▸ rest) h = ap (λ y. y || binding_has_free ns rest) (free_same m ns vs t h) ∙ ap (λ y. uses_outer m vs t || y) (bindings_same m ns vs rest h)
  bindings_same m ns vs (_ ▸ rest) h = bindings_same m ns vs rest h

pub free_is_used : FreeIsUsed
free_is_used vs t = free_same (length vs) vs vs t (record { same = λ n. all_outer (length vs) vs n (omega arith); within = omega arith })

mutual
  pub nothing_free : NothingIsFree
  nothing_free (word (Symbol n)) = refl
  nothing_free (word _) = refl
  nothing_free (group (word (Reserved Let) ▸ group bs ▸ b ▸ end)) = ap (λ x. x || has_free [] b) (no_binding_free bs) ∙ nothing_free b
  nothing_free (group (word (Reserved Exclamation) ▸ t ▸ rest)) = nothing_free t
  nothing_free (group (group hs ▸ ss)) = none_free ss
  nothing_free (group ss) = none_free ss

  none_free : (ss : Sexps) → some_has_free [] ss ≡ false
  none_free end = refl
  none_free (s ▸ ss) = ap (λ x. x || some_has_free [] ss) (nothing_free s) ∙ none_free ss

  no_binding_free : (bs : Sexps) → binding_has_free [] bs ≡ false
  no_binding_free end = refl
  no_binding_free (group (x ▸ t ▸ end) ▸ rest) = ap (λ y. y || binding_has_free [] rest) (nothing_free t) ∙ no_binding_free rest
  no_binding_free (_ ▸ rest) = no_binding_free rest

pub leaves_out : LeavesOut
leaves_out n ms ns = left_out n ms ns
