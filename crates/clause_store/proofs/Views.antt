-- Entries as views of rows.
use Rattle.std.proofs.Common.{◌≡◌, ℕ, ◌+◌, ◌<◌, ◌≤◌, List, [], ◌∷◌, ◌++◌, All, map, length, get_or, set, take, drop, ap, sym, ◌∙◌, refl, arith, false}
use Rattle.std.proofs.lemmas.List.Elements.{All-head, All-tail, All-weaker}
use Rattle.std.proofs.lemmas.List.{map-set, set-get_or, get_or-map, drop-append-le, take-append-le, length-drop, length-append, drop_at, take_all, map_push}
use Rattle.literals.specs.Signed.{Signed}
use Rattle.clause_store.specs.Entries.{Entry, entry_of, entry_at, no_entry}
use Rattle.clause_store.specs.declared.rows.Row.{Row}

pub entry_at-view : (ls : List Signed) (rows : List Row) (i : ℕ) (row : Row) → i < length rows → row ≡ get_or rows i row → entry_at (map (entry_of ls) rows) i ≡ entry_of ls row
entry_at-view ls rows i row lt is = get_or-map (entry_of ls) rows i row no_entry lt ∙ ap (entry_of ls) (sym is)

pub watch-view : (ls : List Signed) (rows : List Row) (i : ℕ) (row : Row) (a b : Signed) → i < length rows → row ≡ get_or rows i row
    → map (entry_of ls) (set rows i (record row { first = a; second = b })) ≡ set (map (entry_of ls) rows) i (record (entry_at (map (entry_of ls) rows) i) { first = a; second = b })
watch-view ls rows i row a b lt is =
    map-set (entry_of ls) rows i (record row { first = a; second = b })
    ∙ ap (λ (e : Entry). set (map (entry_of ls) rows) i (record e { first = a; second = b })) (sym (entry_at-view ls rows i row lt is))

pub forget-view : (ls : List Signed) (rows : List Row) (i : ℕ) (row : Row) → i < length rows → row ≡ get_or rows i row
    → map (entry_of ls) (set rows i (record row { live = false })) ≡ set (map (entry_of ls) rows) i (record (entry_at (map (entry_of ls) rows) i) { live = false })
forget-view ls rows i row lt is =
    map-set (entry_of ls) rows i (record row { live = false })
    ∙ ap (λ (e : Entry). set (map (entry_of ls) rows) i (record e { live = false })) (sym (entry_at-view ls rows i row lt is))

entry_more : (ls more : List Signed) (r : Row) → r.start + r.len ≤ length ls → entry_of (ls ++ more) r ≡ entry_of ls r
entry_more ls more r le =
    let d : drop r.start (ls ++ more) ≡ drop r.start ls ++ more = drop-append-le r.start ls more (omega arith) in
    let t : take r.len (drop r.start ls ++ more) ≡ take r.len (drop r.start ls) = take-append-le r.len (drop r.start ls) more (omega (arith, length-drop r.start ls)) in
    ap (λ (xs : List Signed). let e : Entry = record { literals = xs; first = r.first; second = r.second; level = r.level; live = r.live } in e) (ap (λ xs. take r.len xs) d ∙ t)

-- literals at the end change no row's view
pub view-more : (ls more : List Signed) (rows : List Row) → All (λ (r : Row). r.start + r.len ≤ length ls) rows → map (entry_of (ls ++ more)) rows ≡ map (entry_of ls) rows
view-more ls more [] h = refl
view-more ls more (r ∷ rows) h =
    ap (λ (e : Entry). e ∷ map (entry_of (ls ++ more)) rows) (entry_more ls more r (All-head (λ (r : Row). r.start + r.len ≤ length ls) r rows h))
    ∙ ap (λ (es : List Entry). entry_of ls r ∷ es) (view-more ls more rows (All-tail (λ (r : Row). r.start + r.len ≤ length ls) r rows h))

pub within-more : (ls more : List Signed) (rows : List Row) → All (λ (r : Row). r.start + r.len ≤ length ls) rows → All (λ (r : Row). r.start + r.len ≤ length (ls ++ more)) rows
within-more ls more rows h = All-weaker (λ (r : Row). r.start + r.len ≤ length ls) (λ (r : Row). r.start + r.len ≤ length (ls ++ more)) (λ r le. omega (arith, length-append ls more)) rows h

-- a row of the literals added
pub view-push : (ls more : List Signed) (rows : List Row) (r : Row) → r.start ≡ length ls → r.len ≡ length more → All (λ (r : Row). r.start + r.len ≤ length ls) rows
    → let e : Entry = record { literals = more; first = r.first; second = r.second; level = r.level; live = r.live } in map (entry_of (ls ++ more)) (rows ++ r ∷ []) ≡ map (entry_of ls) rows ++ e ∷ []
view-push ls more rows r start len h =
    let new : take r.len (drop r.start (ls ++ more)) ≡ more = ap (λ xs. take r.len xs) (drop_at ls more r.start (sym start)) ∙ take_all r.len more (omega arith) in
    map_push (entry_of (ls ++ more)) rows r
    ∙ (ap (λ (es : List Entry). es ++ entry_of (ls ++ more) r ∷ []) (view-more ls more rows h)
    ∙ ap (λ (xs : List Signed). let e : Entry = record { literals = xs; first = r.first; second = r.second; level = r.level; live = r.live } in map (entry_of ls) rows ++ e ∷ []) new)

-- where a search ended isn't seen
pub place-view : (ls : List Signed) (rows : List Row) (i place : ℕ) (row : Row) → i < length rows → row ≡ get_or rows i row → map (entry_of ls) (set rows i (record row { place = place })) ≡ map (entry_of ls) rows
place-view ls rows i place row lt is =
    map-set (entry_of ls) rows i (record row { place = place })
    ∙ (ap (λ (e : Entry). set (map (entry_of ls) rows) i e) (sym (entry_at-view ls rows i row lt is)) ∙ set-get_or (map (entry_of ls) rows) i no_entry)
