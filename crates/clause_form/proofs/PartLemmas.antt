-- One more clause behind a flat list.
use Rattle.std.proofs.Common.{◌≡◌, ℕ, zero, suc, ◌<◌, ◌-◌, ◌≤◌, slice_index_or, List, [], ◌∷◌, ◌++◌, length, take, drop, ap, ◌∙◌, arith, refl}
use Rattle.std.specs.List.{slice_range}
use Rattle.std.specs.Prelude.{Result, Ok, Err, OnOk}
use Rattle.std.proofs.lemmas.List.{length-append, take-append-le, drop-append-le, length-drop, map-append, drop_at, take_all}
use Rattle.literals.specs.Signed.{Signed}
use Rattle.clause_form.specs.declared.list.Part.{Part}
use Rattle.clause_form.specs.Parts.{piece, pieces, IsWithin, AreWithin}

piece_left : (xs ys : List Signed) (p : Part) → IsWithin (length xs) p → piece (xs ++ ys) p ≡ piece xs p
piece_left xs ys p w =
    let order : p.start ≤ p.end = w.order in
    let short : p.end ≤ length xs = w.short in
    ap (take (p.end - p.start)) (drop-append-le p.start xs ys (omega arith))
    ∙ take-append-le (p.end - p.start) (drop p.start xs) ys (omega (arith, length-drop p.start xs))

pieces_left : (xs ys : List Signed) (ps : List Part) → AreWithin (length xs) ps → pieces (xs ++ ys) ps ≡ pieces xs ps
pieces_left xs ys [] w = refl
pieces_left xs ys (p ∷ ps) w =
    let first : piece (xs ++ ys) p ≡ piece xs p = piece_left xs ys p (w 0 p (omega arith)) in
    let rest : pieces (xs ++ ys) ps ≡ pieces xs ps = pieces_left xs ys ps (λ k d h. w (suc k) d (omega (arith, h))) in
    cc

pub pieces_push : (xs ys : List Signed) (ps : List Part) → AreWithin (length xs) ps
    → pieces (xs ++ ys) (ps ++ record { start = length xs; end = length (xs ++ ys) } ∷ []) ≡ pieces xs ps ++ ys ∷ []
pieces_push xs ys ps w =
    let last : slice_range (xs ++ ys) (length xs) (length (xs ++ ys)) ≡ ys =
    ap (take (length (xs ++ ys) - length xs)) (drop_at xs ys (length xs) refl)
    ∙ take_all (length (xs ++ ys) - length xs) ys (omega (arith, length-append xs ys)) in
    map-append (piece (xs ++ ys)) ps (record { start = length xs; end = length (xs ++ ys) } ∷ [])
    ∙ ap (λ ns. ns ++ slice_range (xs ++ ys) (length xs) (length (xs ++ ys)) ∷ []) (pieces_left xs ys ps w)
    ∙ ap (λ n. pieces xs ps ++ n ∷ []) last

pub push_ok : {X E : Type 0} (r : Result X E) (xs ys zs : List Signed) (ps qs : List Part) → AreWithin (length xs) ps
    → OnOk r (qs ≡ ps ++ record { start = length xs; end = length zs } ∷ []) → OnOk r (zs ≡ xs ++ ys) → OnOk r (pieces zs qs ≡ pieces xs ps ++ ys ∷ [])
push_ok (Ok x) xs ys zs ps qs w parts literals =
    ap (pieces zs) parts ∙ ap (λ ls. pieces ls (ps ++ record { start = length xs; end = length ls } ∷ [])) literals ∙ pieces_push xs ys ps w
push_ok (Err x) xs ys zs ps qs w parts literals = tt

pub piece_at : (literals : List Signed) (ps : List Part) (i : ℕ) (d : Part) → i < length ps → slice_index_or (pieces literals ps) i [] ≡ piece literals (slice_index_or ps i d)
piece_at literals [] i d h = absurd (omega arith)
piece_at literals (p ∷ ps) zero d h = refl
piece_at literals (p ∷ ps) (suc i) d h = piece_at literals ps i d (omega arith)
