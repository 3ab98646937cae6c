-- What becomes of the frames as their parts change.
use Rattle.std.proofs.Common.{◌≡◌, ◌∙◌, sym, refl, ap, ap₂, append_assoc, ℕ, zero, suc, ◌+◌, ◌<◌, Bool, true, false, List, [], ◌∷◌, ◌++◌, map, take, length, replicate, flat_map, arith, All}
use Rattle.std.proofs.lemmas.List.{append-nil, map-append, length-append}
use Rattle.std.proofs.lemmas.List.Elements.{All-nil, All-head, All-tail, All-append, All-weaker}
use Rattle.smt_meaning.specs.declared.tokens.Token.{Token}
use Rattle.smt_meaning.specs.Declaration.{Declaration}
use Rattle.smt_meaning.specs.Term.{Tree, tree_at}
use Rattle.smt_meaning.specs.Stack.{Assertion as Asserted, signature_of, assertions_of, on_top, with_declared, base_of, empty_frame}
use Rattle.smt_meaning.specs.State.{frame_of, texts_of}
use Rattle.smt_sorts.specs.Names.{all_of_levels, on_newest, gaining, base_of as names_base_of}
use Rattle.scope_stack.specs.declared.answers.Assertion.{Assertion}
use Rattle.scope_stack.specs.Pieces.{all_of, on_last}
use Rattle.scope_stack.specs.Inside.{asserted_by, frame_by, frames_by, IsWithin}
use Rattle.scope_stack.proofs.PieceLemmas.{All-left, All-right}

pub signature-frames : (ts : List Tree) (dss : List (List Declaration)) (xss : List (List Assertion)) → signature_of (frames_by ts dss xss) ≡ all_of_levels dss
signature-frames ts [] xss = refl
signature-frames ts (ds ∷ dss) [] = ap (λ es. ds ++ es) (signature-frames ts dss [])
signature-frames ts (ds ∷ dss) (xs ∷ xss) = ap (λ es. ds ++ es) (signature-frames ts dss xss)

pub length-frames : (ts : List Tree) (dss : List (List Declaration)) (xss : List (List Assertion)) → length (frames_by ts dss xss) ≡ length dss
length-frames ts [] xss = refl
length-frames ts (ds ∷ dss) [] = let e : length (frames_by ts dss []) ≡ length dss = length-frames ts dss [] in omega (arith, e)
length-frames ts (ds ∷ dss) (xs ∷ xss) = let e : length (frames_by ts dss xss) ≡ length dss = length-frames ts dss xss in omega (arith, e)

pub on_last_none : (xss : List (List Assertion)) → on_last [] xss ≡ xss
on_last_none [] = refl
on_last_none (xs ∷ []) = ap (λ ys. ys ∷ []) (append-nil xs)
on_last_none (xs ∷ ys ∷ rest) = ap (λ zs. xs ∷ zs) (on_last_none (ys ∷ rest))

pub frames-newest : (ts : List Tree) (es : List Declaration) (ys : List Assertion) (dss : List (List Declaration)) (xss : List (List Assertion)) → length xss ≡ length dss
    → frames_by ts (on_newest es dss) (on_last ys xss) ≡ on_top es (map (asserted_by ts) ys) (frames_by ts dss xss)
frames-newest ts es ys [] xss e = refl
frames-newest ts es ys (ds ∷ dss) [] e = absurd (omega (arith, e))
frames-newest ts es ys (ds ∷ []) (xs ∷ []) e = ap (λ zs. record { declared = ds ++ es; asserted = zs } ∷ []) (map-append (asserted_by ts) xs ys)
frames-newest ts es ys (ds ∷ []) (xs ∷ zs ∷ xss) e = absurd (omega (arith, e))
frames-newest ts es ys (ds ∷ fs ∷ dss) (xs ∷ []) e = absurd (omega (arith, e))
frames-newest ts es ys (ds ∷ fs ∷ dss) (xs ∷ zs ∷ xss) e = ap (λ r. frame_by ts ds xs ∷ r) (frames-newest ts es ys (fs ∷ dss) (zs ∷ xss) (omega (arith, e)))

pub newest_signature : (es : List Declaration) (dss : List (List Declaration)) → 0 < length dss → all_of_levels (on_newest es dss) ≡ all_of_levels dss ++ es
newest_signature es [] h = absurd (omega (arith, h))
newest_signature es (ds ∷ []) h = append-nil (ds ++ es) ∙ ap (λ xs. xs ++ es) (sym (append-nil ds))
newest_signature es (ds ∷ fs ∷ rest) h = ap (λ xs. ds ++ xs) (newest_signature es (fs ∷ rest) (omega arith)) ∙ sym (append_assoc ds (all_of_levels (fs ∷ rest)) es)

-- level 0 gains declarations, or the newest level
pub frames-gaining : (global : Bool) (ts : List Tree) (es : List Declaration) (dss : List (List Declaration)) (xss : List (List Assertion)) → length xss ≡ length dss
    → frames_by ts (gaining global es dss) xss ≡ with_declared global es (frames_by ts dss xss)
frames-gaining true ts es [] xss e = refl
frames-gaining true ts es (ds ∷ dss) [] e = absurd (omega (arith, e))
frames-gaining true ts es (ds ∷ dss) (xs ∷ xss) e = refl
frames-gaining false ts es dss xss e = ap (λ yss. frames_by ts (on_newest es dss) yss) (sym (on_last_none xss)) ∙ frames-newest ts es [] dss xss e

-- one more level
pub frames-above : (ts : List Tree) (ys : List Assertion) (dss : List (List Declaration)) (xss : List (List Assertion)) → length xss ≡ length dss
    → frames_by ts (dss ++ replicate 1 []) (xss ++ ys ∷ []) ≡ frames_by ts dss xss ++ frame_of (map (asserted_by ts) ys) ∷ []
frames-above ts ys [] [] e = refl
frames-above ts ys [] (xs ∷ xss) e = absurd (omega (arith, e))
frames-above ts ys (ds ∷ dss) [] e = absurd (omega (arith, e))
frames-above ts ys (ds ∷ dss) (xs ∷ xss) e = ap (λ r. frame_by ts ds xs ∷ r) (frames-above ts ys dss xss (omega (arith, e)))

-- level 0 alone
pub frames-base : (ts : List Tree) (dss : List (List Declaration)) (xss : List (List Assertion)) → frames_by ts (names_base_of dss) ([] ∷ []) ≡ base_of (frames_by ts dss xss)
frames-base ts [] xss = refl
frames-base ts (ds ∷ dss) [] = refl
frames-base ts (ds ∷ dss) (xs ∷ xss) = refl

pub frames-pushed : (ts : List Tree) (n : ℕ) (dss : List (List Declaration)) (xss : List (List Assertion)) → length xss ≡ length dss
    → frames_by ts (dss ++ replicate n []) (xss ++ replicate n []) ≡ frames_by ts dss xss ++ replicate n empty_frame
frames-pushed ts zero [] [] e = refl
frames-pushed ts (suc n) [] [] e = ap (λ r. empty_frame ∷ r) (frames-pushed ts n [] [] refl)
frames-pushed ts n [] (xs ∷ xss) e = absurd (omega (arith, e))
frames-pushed ts n (ds ∷ dss) [] e = absurd (omega (arith, e))
frames-pushed ts n (ds ∷ dss) (xs ∷ xss) e = ap (λ r. frame_by ts ds xs ∷ r) (frames-pushed ts n dss xss (omega (arith, e)))

pub frames-taken : (ts : List Tree) (n : ℕ) (dss : List (List Declaration)) (xss : List (List Assertion)) → length xss ≡ length dss
    → frames_by ts (take n dss) (take n xss) ≡ take n (frames_by ts dss xss)
frames-taken ts zero dss xss e = refl
frames-taken ts (suc n) [] [] e = refl
frames-taken ts (suc n) [] (xs ∷ xss) e = absurd (omega (arith, e))
frames-taken ts (suc n) (ds ∷ dss) [] e = absurd (omega (arith, e))
frames-taken ts (suc n) (ds ∷ dss) (xs ∷ xss) e = ap (λ r. frame_by ts ds xs ∷ r) (frames-taken ts n dss xss (omega (arith, e)))

-- ---- a longer list of terms

pub tree_at-longer : (ts us : List Tree) (i : ℕ) → i < length ts → tree_at (ts ++ us) i ≡ tree_at ts i
tree_at-longer [] us i lt = absurd (omega (arith, lt))
tree_at-longer (t ∷ ts) us zero lt = refl
tree_at-longer (t ∷ ts) us (suc i) lt = tree_at-longer ts us i (omega (arith, lt))

asserted-longer : (ts us : List Tree) (xs : List Assertion) → All (IsWithin ts) xs → map (asserted_by (ts ++ us)) xs ≡ map (asserted_by ts) xs
asserted-longer ts us [] h = refl
asserted-longer ts us (x ∷ xs) h =
    ap₂ (λ (t : Tree) r. record { text = x.text; term = t } ∷ r) (tree_at-longer ts us x.term (All-head (IsWithin ts) x xs h)) (asserted-longer ts us xs (All-tail (IsWithin ts) x xs h))

pub frames-longer : (ts us : List Tree) (dss : List (List Declaration)) (xss : List (List Assertion)) → All (IsWithin ts) (all_of xss)
    → frames_by (ts ++ us) dss xss ≡ frames_by ts dss xss
frames-longer ts us [] xss h = refl
frames-longer ts us (ds ∷ dss) [] h = ap (λ r. frame_by ts ds [] ∷ r) (frames-longer ts us dss [] h)
frames-longer ts us (ds ∷ dss) (xs ∷ xss) h =
    ap₂ (λ zs r. record { declared = ds; asserted = zs } ∷ r) (asserted-longer ts us xs (All-left (IsWithin ts) xs (all_of xss) h)) (frames-longer ts us dss xss (All-right (IsWithin ts) xs (all_of xss) h))

pub within-longer : (ts us : List Tree) (xs : List Assertion) → All (IsWithin ts) xs → All (IsWithin (ts ++ us)) xs
within-longer ts us xs h = All-weaker (IsWithin ts) (IsWithin (ts ++ us)) (λ x lt. longer x lt) xs h
  where
    longer : (x : Assertion) → x.term < length ts → x.term < length (ts ++ us)
    longer x lt = let e : length (ts ++ us) ≡ length ts + length us = length-append ts us in omega (arith, e, lt)

pub within-last : (ts : List Tree) (ys : List Assertion) (xss : List (List Assertion)) → All (IsWithin ts) (all_of xss) → All (IsWithin ts) ys → All (IsWithin ts) (all_of (on_last ys xss))
within-last ts ys [] h g = h
within-last ts ys (xs ∷ []) h g = All-append (IsWithin ts) (xs ++ ys) [] (All-append (IsWithin ts) xs ys (All-left (IsWithin ts) xs [] h) g) (All-nil (IsWithin ts))
within-last ts ys (xs ∷ zs ∷ rest) h g =
    All-append (IsWithin ts) xs (all_of (on_last ys (zs ∷ rest))) (All-left (IsWithin ts) xs (all_of (zs ∷ rest)) h) (within-last ts ys (zs ∷ rest) (All-right (IsWithin ts) xs (all_of (zs ∷ rest)) h) g)

pub within-above : (ts : List Tree) (ys : List Assertion) (xss : List (List Assertion)) → All (IsWithin ts) (all_of xss) → All (IsWithin ts) ys → All (IsWithin ts) (all_of (xss ++ ys ∷ []))
within-above ts ys [] h g = All-append (IsWithin ts) ys [] g (All-nil (IsWithin ts))
within-above ts ys (xs ∷ xss) h g =
    All-append (IsWithin ts) xs (all_of (xss ++ ys ∷ [])) (All-left (IsWithin ts) xs (all_of xss) h) (within-above ts ys xss (All-right (IsWithin ts) xs (all_of xss) h) g)

pub within-pushed : (ts : List Tree) (n : ℕ) (xss : List (List Assertion)) → All (IsWithin ts) (all_of xss) → All (IsWithin ts) (all_of (xss ++ replicate n []))
within-pushed ts zero [] h = h
within-pushed ts (suc n) [] h = within-pushed ts n [] h
within-pushed ts n (xs ∷ xss) h =
    All-append (IsWithin ts) xs (all_of (xss ++ replicate n [])) (All-left (IsWithin ts) xs (all_of xss) h) (within-pushed ts n xss (All-right (IsWithin ts) xs (all_of xss) h))

pub within-taken : (ts : List Tree) (n : ℕ) (xss : List (List Assertion)) → All (IsWithin ts) (all_of xss) → All (IsWithin ts) (all_of (take n xss))
within-taken ts zero xss h = All-nil (IsWithin ts)
within-taken ts (suc n) [] h = h
within-taken ts (suc n) (xs ∷ xss) h =
    All-append (IsWithin ts) xs (all_of (take n xss)) (All-left (IsWithin ts) xs (all_of xss) h) (within-taken ts n xss (All-right (IsWithin ts) xs (all_of xss) h))

-- ---- what is shown

abbrev text_of : Assertion → List Token
text_of a = a.text

pub shown_texts : (ts : List Tree) (dss : List (List Declaration)) (xss : List (List Assertion)) → length xss ≡ length dss
    → map text_of (all_of xss) ≡ flat_map texts_of (frames_by ts dss xss)
shown_texts ts [] [] e = refl
shown_texts ts [] (xs ∷ xss) e = absurd (omega (arith, e))
shown_texts ts (ds ∷ dss) [] e = absurd (omega (arith, e))
shown_texts ts (ds ∷ dss) (xs ∷ xss) e =
    map-append text_of xs (all_of xss) ∙ ap₂ (λ us vs. us ++ vs) (here xs) (shown_texts ts dss xss (omega (arith, e)))
  where
    here : (ys : List Assertion) → map text_of ys ≡ map (λ (a : Asserted). a.text) (map (asserted_by ts) ys)
    here [] = refl
    here (y ∷ ys) = ap (λ r. y.text ∷ r) (here ys)

pub shown_terms : (ts : List Tree) (dss : List (List Declaration)) (xss : List (List Assertion)) → length xss ≡ length dss
    → map (λ (a : Assertion). tree_at ts a.term) (all_of xss) ≡ assertions_of (frames_by ts dss xss)
shown_terms ts [] [] e = refl
shown_terms ts [] (xs ∷ xss) e = absurd (omega (arith, e))
shown_terms ts (ds ∷ dss) [] e = absurd (omega (arith, e))
shown_terms ts (ds ∷ dss) (xs ∷ xss) e =
    map-append (λ (a : Assertion). tree_at ts a.term) xs (all_of xss) ∙ ap₂ (λ us vs. us ++ vs) (here xs) (shown_terms ts dss xss (omega (arith, e)))
  where
    here : (ys : List Assertion) → map (λ (a : Assertion). tree_at ts a.term) ys ≡ map (λ (a : Asserted). a.term) (map (asserted_by ts) ys)
    here [] = refl
    here (y ∷ ys) = ap (λ r. tree_at ts y.term ∷ r) (here ys)
