-- Room in the lists of watches.
use Rattle.std.proofs.Common.{◌≡◌, ℕ, ◌+◌, ◌<◌, ◌≤◌, zero, suc, List, [], ◌∷◌, ◌++◌, All, Contains, length, get_or, set, map, subst, sym, ap, ◌∙◌, refl, inl, inr, ◌⊎◌, arith, Option}
use Rattle.std.proofs.lemmas.List.{length-map, length_push, map-set, map-append, set-set, set-get_or, get_or-map, get_or-set_same, get_or-set_other, get_or_default, get_or_past}
use Rattle.std.proofs.lemmas.List.Elements.{All-get_or, All-push, All-weaker, All-contains, All-nil, Contains-append_cases, Contains-append_left, Contains-append_right, Contains-push_cases, Contains-push}
use Rattle.literals.specs.Signed.{Signed, packed}
use Rattle.clause_store.specs.Entries.{Entry, Listing, bare, rooms, entry_at, no_entry, watches_of, room_of, IsOther}
use Rattle.clause_store.specs.Watching.{IsOwn, IsOnce, IsTidy, IsWatching, SameShape, no_watch}
use Rattle.clause_store.specs.Sweeps.{State, watching}
use Rattle.clause_store.specs.Cutting.{IsFewer}
use Rattle.clause_store.specs.Choosing.{Enlists}
use Rattle.clause_store.specs.Looks.{AreApart}
use Rattle.clause_store.specs.Room.{HasRoomToWait, HasRoomToMove, HasPlace, LeavesRoom}
use Rattle.clause_store.specs.Gaining.{GainsEntry}
use Rattle.clause_store.specs.Assigned.{Assigned}
use Rattle.clause_store.specs.Keeping.{IsKept, IsRoomy}
use Rattle.clause_store.specs.declared.waits.Wait.{Wait}
use Rattle.clause_store.specs.declared.lists.Watch.{Watch}
use Rattle.clause_store.proofs.Watches.{packed-injective, below_or_at}
use Rattle.clause_store.proofs.Sweeping.{equal_or_apart, watches_of-other}
use Rattle.clause_store.proofs.Tidy.{own_in}
use Rattle.clause_store.proofs.Relisting.{at_place}
use Rattle.clause_store.proofs.Turning.{code_within, turn-watching}
use Rattle.clause_store.proofs.Counting.{AreApart-push}
use Rattle.clause_store.proofs.Numbers.{at_most_more}
use Rattle.clause_store.proofs.Adding.{entry_at-old, entry_at-new}
use Rattle.clause_store.proofs.Filters.{none_in}

-- ---- lists with their rooms

pub bare_count : (lists : List Listing) → length (bare lists) ≡ length lists
bare_count lists = length-map lists (λ (l : Listing). l.watches)

pub rooms_count : (lists : List Listing) → length (rooms lists) ≡ length lists
rooms_count lists = length-map lists (λ (l : Listing). l.room)

pub bare_set : (lists : List Listing) (code : ℕ) (x : Listing) → bare (set lists code x) ≡ set (bare lists) code x.watches
bare_set lists code x = map-set (λ (l : Listing). l.watches) lists code x

pub rooms_set : (lists : List Listing) (code : ℕ) (x : Listing) → rooms (set lists code x) ≡ set (rooms lists) code x.room
rooms_set lists code x = map-set (λ (l : Listing). l.room) lists code x

pub bare_at : (lists : List Listing) (code : ℕ) (x d : Listing) (e : List Watch) → code < length lists → x ≡ get_or lists code d → x.watches ≡ get_or (bare lists) code e
bare_at lists code x d e lt is = ap (λ (l : Listing). l.watches) is ∙ sym (get_or-map (λ (l : Listing). l.watches) lists code d e lt)

pub room_at : (lists : List Listing) (code : ℕ) (x d : Listing) → code < length lists → x ≡ get_or lists code d → x.room ≡ get_or (rooms lists) code 0
room_at lists code x d lt is = ap (λ (l : Listing). l.room) is ∙ sym (get_or-map (λ (l : Listing). l.room) lists code d 0 lt)

same_watches : (lists : List Listing) (code : ℕ) (x x' d : Listing) → code < length lists → x ≡ get_or lists code d → x'.watches ≡ x.watches → bare (set lists code x') ≡ bare lists
same_watches lists code x x' d lt is e = bare_set lists code x' ∙ (ap (λ ws. set (bare lists) code ws) (e ∙ bare_at lists code x d [] lt is) ∙ set-get_or (bare lists) code [])

same_rooms : (lists : List Listing) (code : ℕ) (x x' d : Listing) → code < length lists → x ≡ get_or lists code d → x'.room ≡ x.room → rooms (set lists code x') ≡ rooms lists
same_rooms lists code x x' d lt is e = rooms_set lists code x' ∙ (ap (λ n. set (rooms lists) code n) (e ∙ room_at lists code x d lt is) ∙ set-get_or (rooms lists) code 0)

-- ---- one watch more in a list

-- a list of the lists, at a literal
pub record IsListOf (lists : List Listing) (l : Signed) (code : ℕ) (x d : Listing) : Type 0 where
  pub code_is : code ≡ packed l
  pub within : packed l < length lists
  pub is : x ≡ get_or lists code d

list_within : (lists : List Listing) (l : Signed) (code : ℕ) (x d : Listing) → IsListOf lists l code x d → code < length lists
list_within lists l code x d h = subst (λ n. n < length lists) (sym h.code_is) h.within

pub list_place : (lists : List Listing) (l : Signed) (code : ℕ) (x d : Listing) → IsListOf lists l code x d → HasPlace (bare lists) (rooms lists) l → length x.watches < x.room
list_place lists l code x d h place =
    let lt : code < length lists = list_within lists l code x d h in
    let ws : x.watches ≡ watches_of (bare lists) l = bare_at lists code x d [] lt h.is ∙ ap (λ n. get_or (bare lists) n []) h.code_is in
    let r : x.room ≡ room_of (rooms lists) l = room_at lists code x d lt h.is ∙ ap (λ n. get_or (rooms lists) n 0) h.code_is in
    subst (λ n. length x.watches < n) (sym r) (subst (λ xs. length xs < room_of (rooms lists) l) (sym ws) place)

pub list_enlists : (lists : List Listing) (l : Signed) (code : ℕ) (x d x' : Listing) (w : Watch) → IsListOf lists l code x d → (let y : Listing = record { watches = x.watches ++ w ∷ []; room = x.room } in x' ≡ y) → Enlists (bare lists) (bare (set lists code x')) l w
list_enlists lists l code x d x' w h is =
    let lt : code < length lists = list_within lists l code x d h in
    let ws : x.watches ≡ watches_of (bare lists) l = bare_at lists code x d [] lt h.is ∙ ap (λ n. get_or (bare lists) n []) h.code_is in
    bare_set lists code x' ∙ (ap (λ n. set (bare lists) n x'.watches) h.code_is ∙ ap (λ xs. set (bare lists) (packed l) xs) (ap (λ (y : Listing). y.watches) is ∙ ap (λ xs. xs ++ w ∷ []) ws))

pub list_rooms : (lists : List Listing) (l : Signed) (code : ℕ) (x d x' : Listing) → IsListOf lists l code x d → x'.room ≡ x.room → rooms (set lists code x') ≡ rooms lists
list_rooms lists l code x d x' h e = same_rooms lists code x x' d (list_within lists l code x d h) h.is e

pub list_watches : (lists : List Listing) (l : Signed) (code : ℕ) (x d x' : Listing) → IsListOf lists l code x d → x'.watches ≡ x.watches → bare (set lists code x') ≡ bare lists
list_watches lists l code x d x' h e = same_watches lists code x x' d (list_within lists l code x d h) h.is e

-- ---- more room in a list

room_here : (lists : List Listing) (l : Signed) (code : ℕ) (x d x' : Listing) → IsListOf lists l code x d → room_of (rooms (set lists code x')) l ≡ x'.room
room_here lists l code x d x' h =
    ap (λ rs. room_of rs l) (rooms_set lists code x' ∙ ap (λ n. set (rooms lists) n x'.room) h.code_is) ∙ get_or-set_same (rooms lists) (packed l) x'.room 0 (subst (λ n. packed l < n) (sym (rooms_count lists)) h.within)

room_was : (lists : List Listing) (l : Signed) (code : ℕ) (x d : Listing) → IsListOf lists l code x d → x.room ≡ room_of (rooms lists) l
room_was lists l code x d h = room_at lists code x d (list_within lists l code x d h) h.is ∙ ap (λ n. get_or (rooms lists) n 0) h.code_is

pub list_more : (lists : List Listing) (l : Signed) (code : ℕ) (x d x' : Listing) → IsListOf lists l code x d → x.room + 1 ≤ x'.room → room_of (rooms lists) l + 1 ≤ room_of (rooms (set lists code x')) l
list_more lists l code x d x' h le = omega (arith, room_here lists l code x d x' h, room_was lists l code x d h)

pub list_grows : (lists : List Listing) (l : Signed) (code : ℕ) (x d x' : Listing) → IsListOf lists l code x d → x.room ≤ x'.room → (m : Signed) → room_of (rooms lists) m ≤ room_of (rooms (set lists code x')) m
list_grows lists l code x d x' h le m = elim (equal_or_apart m l) [
  | inl same ↦ subst (λ y. room_of (rooms lists) y ≤ room_of (rooms (set lists code x')) y) (sym same) (omega (arith, room_here lists l code x d x' h, room_was lists l code x d h))
  | inr apart ↦
      let e : room_of (rooms (set lists code x')) m ≡ room_of (rooms lists) m =
      ap (λ rs. room_of rs m) (rooms_set lists code x' ∙ ap (λ n. set (rooms lists) n x'.room) h.code_is) ∙ get_or-set_other (rooms lists) (packed l) (packed m) x'.room 0 (λ y. apart (packed-injective m l y)) in
      omega arith
]

-- ---- a list that is taken out, and put back

turn_within : (atoms : ℕ) (f : Signed) (es : List Entry) (lists : List Listing) (code : ℕ) → code ≡ packed f → f.atom < atoms → IsWatching atoms es (bare lists) → code < length lists
turn_within atoms f es lists code e lt w =
    let place : packed f < length (bare lists) = code_within f atoms (length (bare lists)) lt w.room in
    omega (arith, bare_count lists, e)

pub turn_list : (atoms : ℕ) (f : Signed) (es : List Entry) (lists : List Listing) (list d : Listing) (code : ℕ) → code ≡ packed f → list ≡ get_or lists code d → f.atom < atoms → IsWatching atoms es (bare lists) → list.watches ≡ get_or (bare lists) code d.watches
turn_list atoms f es lists list d code e is lt w = bare_at lists code list d d.watches (turn_within atoms f es lists code e lt w) is

pub turn_watches : (atoms : ℕ) (f : Signed) (es : List Entry) (lists : List Listing) (spare list d : Listing) (code : ℕ) → code ≡ packed f → list ≡ get_or lists code d → f.atom < atoms → IsWatching atoms es (bare lists)
    → IsWatching atoms es (set (bare (set lists code spare)) (packed f) list.watches)
turn_watches atoms f es lists spare list d code e is lt w =
    subst (λ xs. IsWatching atoms es (set xs (packed f) list.watches)) (sym (bare_set lists code spare))
    (turn-watching atoms f es (bare lists) spare.watches list.watches d.watches code e (turn_list atoms f es lists list d code e is lt w) lt w)

pub turn_room : (atoms : ℕ) (f : Signed) (es : List Entry) (lists : List Listing) (spare list d : Listing) (code : ℕ) → code ≡ packed f → list ≡ get_or lists code d → f.atom < atoms → IsWatching atoms es (bare lists)
    → HasRoomToMove es (rooms lists) → HasRoomToMove es (set (rooms (set lists code spare)) (packed f) list.room)
turn_room atoms f es lists spare list d code e is lt w h =
    let r : list.room ≡ get_or (rooms lists) code 0 = room_at lists code list d (turn_within atoms f es lists code e lt w) is in
    let back : set (rooms (set lists code spare)) (packed f) list.room ≡ rooms lists =
    ap (λ rs. set rs (packed f) list.room) (rooms_set lists code spare) ∙ (ap (λ n. set (set (rooms lists) code spare.room) n list.room) (sym e) ∙ (set-set (rooms lists) code spare.room list.room ∙ (ap (λ n. set (rooms lists) code n) r ∙ set-get_or (rooms lists) code 0))) in
    subst (HasRoomToMove es) (sym back) h

pub turn_back : (atoms : ℕ) (f : Signed) (es : List Entry) (lists lists' : List Listing) (spare list d list' x : Listing) (code : ℕ) → code ≡ packed f → list ≡ get_or lists code d → f.atom < atoms → IsWatching atoms es (bare lists)
    → rooms lists' ≡ rooms (set lists code spare) → list'.room ≡ list.room → x ≡ list' → rooms (set lists' code x) ≡ rooms lists
turn_back atoms f es lists lists' spare list d list' x code e is lt w same r back =
    let at : x.room ≡ get_or (rooms lists) code 0 = ap (λ (y : Listing). y.room) back ∙ (r ∙ room_at lists code list d (turn_within atoms f es lists code e lt w) is) in
    rooms_set lists' code x ∙ (ap (λ rs. set rs code x.room) (same ∙ rooms_set lists code spare) ∙ (set-set (rooms lists) code spare.room x.room ∙ (ap (λ n. set (rooms lists) code n) at ∙ set-get_or (rooms lists) code 0)))

-- ---- the clauses of a list

abbrev pub watch_rows : List Watch → List ℕ
watch_rows ws = map (λ (w : Watch). w.row) ws

watch_count : (ws : List Watch) → length (watch_rows ws) ≡ length ws
watch_count ws = length-map ws (λ (w : Watch). w.row)

watch_row : (ws : List Watch) (j : ℕ) → j < length ws → get_or (watch_rows ws) j 0 ≡ (get_or ws j no_watch).row
watch_row ws j lt = get_or-map (λ (w : Watch). w.row) ws j no_watch 0 lt

watch_apart : (ws : List Watch) → IsOnce ws → AreApart (watch_rows ws)
watch_apart ws once = λ i j in-i in-j e.
    let li : i < length ws = omega (arith, watch_count ws, in-i) in
    let lj : j < length ws = omega (arith, watch_count ws, in-j) in
    once i j li lj (sym (watch_row ws i li) ∙ (e ∙ watch_row ws j lj))

watch_having : (es : List Entry) (l : Signed) (ws : List Watch) → All (IsOwn es l) ws → All (λ i. Contains (entry_at es i).literals l) (watch_rows ws)
watch_having es l ws own k d lt =
    let lt' : k < length ws = omega (arith, watch_count ws, lt) in
    let o : IsOwn es l (get_or ws k no_watch) = All-get_or (IsOwn es l) ws k no_watch lt' own in
    subst (λ i. Contains (entry_at es i).literals l) (sym (get_or_default (watch_rows ws) k d 0 lt ∙ watch_row ws k lt')) o.contained

pub moves_literals : (es es' : List Entry) (rs : List ℕ) → ((i : ℕ) → (entry_at es' i).literals ≡ (entry_at es i).literals) → HasRoomToMove es rs → HasRoomToMove es' rs
moves_literals es es' rs same h = record { few = λ l rows apart all. h.few l rows apart (λ k d lt. subst (λ ls. Contains ls l) (same (get_or rows k d)) (all k d lt)) }

pub moves_shaped : (es es' : List Entry) (rs : List ℕ) → SameShape es es' → HasRoomToMove es rs → HasRoomToMove es' rs
moves_shaped es es' rs shape h = moves_literals es es' rs shape.literals h

pub moves_fewer : (es es' : List Entry) (rs : List ℕ) → IsFewer es es' → HasRoomToMove es rs → HasRoomToMove es' rs
moves_fewer es es' rs f h = moves_literals es es' rs f.literals h

pub moves_rooms : (es : List Entry) (rs rs' : List ℕ) → ((l : Signed) → room_of rs l ≤ room_of rs' l) → HasRoomToMove es rs → HasRoomToMove es rs'
moves_rooms es rs rs' le h = record { few = λ l rows apart all. let few : length rows ≤ room_of rs l = h.few l rows apart all in omega (arith, le l) }

-- a list has room for its watches, and for one more once there is more room
pub listed_few : (es : List Entry) (lists : List (List Watch)) (rs : List ℕ) → IsTidy es lists → HasRoomToMove es rs → (l : Signed) → length (watches_of lists l) ≤ room_of rs l
listed_few es lists rs tidy h l =
    let ws : List Watch = watches_of lists l in
    let le : length (watch_rows ws) ≤ room_of rs l = h.few l (watch_rows ws) (watch_apart ws (tidy.once l)) (watch_having es l ws (tidy.own l)) in
    omega (arith, watch_count ws)

pub places : (es : List Entry) (lists : List (List Watch)) (rs rs' : List ℕ) (ls : List Signed) → IsTidy es lists → HasRoomToMove es rs → All (λ (l : Signed). room_of rs l + 1 ≤ room_of rs' l) ls → All (HasPlace lists rs') ls
places es lists rs rs' ls tidy h more = All-weaker (λ (l : Signed). room_of rs l + 1 ≤ room_of rs' l) (HasPlace lists rs') (λ l m. let few : length (watches_of lists l) ≤ room_of rs l = listed_few es lists rs tidy h l in omega arith) ls more

-- ---- one clause more

not_there : (x : Signed) (xs : List Signed) (l : Signed) → (x ≡ l → ⊥) → (Contains xs l → ⊥) → Contains (x ∷ xs) l → ⊥
not_there x xs l first rest c = elim (Contains-append_cases (x ∷ []) xs l c) [
  | inl here ↦ elim (Contains-push_cases [] x l here) [ inl nil ↦ none_in l nil | inr same ↦ first same ]
  | inr after ↦ rest after
]

pub contains_or_not : (ls : List Signed) (l : Signed) → Contains ls l ⊎ (Contains ls l → ⊥)
contains_or_not [] l = inr (λ c. none_in l c)
contains_or_not (x ∷ xs) l = elim (equal_or_apart x l) [
  | inl same ↦ inl (subst (Contains (x ∷ xs)) same (Contains-append_left (x ∷ []) xs x (Contains-push [] x)))
  | inr first ↦ elim (contains_or_not xs l) [
    | inl c ↦ inl (Contains-append_right (x ∷ []) xs l c)
    | inr rest ↦ inr (not_there x xs l first rest)
  ]
]

below_or_past : (a b : ℕ) → (a < b) ⊎ (b ≤ a)
below_or_past a b = grind arith

has_within : (es : List Entry) (i : ℕ) (l : Signed) → Contains (entry_at es i).literals l → i < length es
has_within es i l c = elim (below_or_past i (length es)) [
  | inl lt ↦ lt
  | inr past ↦ absurd (none_in l (subst (λ (e : Entry). Contains e.literals l) (get_or_past es i no_entry past) c))
]

had_before : (es : List Entry) (e : Entry) (i : ℕ) (l : Signed) → Contains (entry_at (es ++ e ∷ []) i).literals l → (i ≡ length es → ⊥) → Contains (entry_at es i).literals l
had_before es e i l c ne =
    let within : i < length (es ++ e ∷ []) = has_within (es ++ e ∷ []) i l c in
    elim (below_or_at i (length es) (omega (arith, length_push es e))) [
      | inl below ↦ subst (λ (x : Entry). Contains x.literals l) (entry_at-old es e i below) c
      | inr at ↦ absurd (ne at)
    ]

pub moves_add : (es : List Entry) (e : Entry) (rs rs' : List ℕ) → ((l : Signed) → room_of rs l ≤ room_of rs' l) → All (λ (l : Signed). room_of rs l + 1 ≤ room_of rs' l) e.literals → HasRoomToMove es rs → HasRoomToMove (es ++ e ∷ []) rs'
moves_add es e rs rs' le more h = record {
  few = λ l rows apart all. elim (contains_or_not e.literals l) [
    | inl c ↦
        let few : length rows ≤ room_of rs l + 1 = at_most_more (λ i. Contains (entry_at es i).literals l) (λ i. Contains (entry_at (es ++ e ∷ []) i).literals l) (length es) (room_of rs l) (λ i has ne. had_before es e i l has ne) (h.few l) rows apart all in
        let more_l : room_of rs l + 1 ≤ room_of rs' l = All-contains (λ (x : Signed). room_of rs x + 1 ≤ room_of rs' x) e.literals l more c in
        omega arith
    | inr not_here ↦
        let old : All (λ i. Contains (entry_at es i).literals l) rows = λ k d lt.
        had_before es e (get_or rows k d) l (all k d lt)
        (λ at. not_here (subst (λ (x : Entry). Contains x.literals l) (entry_at-new es e (get_or rows k d) (sym at)) (all k d lt))) in
        let few : length rows ≤ room_of rs l = h.few l rows apart old in
        omega (arith, le l)
  ];
}

-- ---- a watched clause leaves room at its other literals

pub leaves_room : (atoms : ℕ) (f : Signed) (s : State) (es : List Entry) (rs : List ℕ) (r k : ℕ) (w : Watch) → packed f < length s.lists → watching atoms f s → HasRoomToMove es (set rs (packed f) r) → SameShape es s.entries
    → k < length s.list → w ≡ get_or s.list k w → LeavesRoom s.lists rs (entry_at s.entries w.row)
leaves_room atoms f s es rs r k w place h m shape lt is = λ l c not_first not_second.
    let own_w : IsOwn s.entries f w = subst (IsOwn s.entries f) (sym (at_place s.list k w lt is)) (All-get_or (IsOwn s.entries f) s.list k no_watch lt (own_in s.entries s.lists f s.list place h.tidy)) in
    let not_f : l ≡ f → ⊥ = λ e. elim own_w.pair [ inl a ↦ not_first (a ∙ sym e) | inr b ↦ not_second (b ∙ sym e) ] in
    let ws : List Watch = watches_of s.lists l in
    let same : watches_of (set s.lists (packed f) s.list) l ≡ ws = watches_of-other s.lists f l s.list not_f in
    let own : All (IsOwn s.entries l) ws = subst (All (IsOwn s.entries l)) same (h.tidy.own l) in
    let once : IsOnce ws = subst IsOnce same (h.tidy.once l) in
    let rows : List ℕ = watch_rows ws in
    let fresh : (j : ℕ) → j < length rows → get_or rows j 0 ≡ w.row → ⊥ = λ j in-j e.
    let lt' : j < length ws = omega (arith, watch_count ws, in-j) in
    let o : IsOwn s.entries l (get_or ws j no_watch) = All-get_or (IsOwn s.entries l) ws j no_watch lt' own in
    let at : (get_or ws j no_watch).row ≡ w.row = sym (watch_row ws j lt') ∙ e in
    elim o.pair [ inl a ↦ not_first (subst (λ n. (entry_at s.entries n).first ≡ l) at a) | inr b ↦ not_second (subst (λ n. (entry_at s.entries n).second ≡ l) at b) ] in
    let having : All (λ i. Contains (entry_at s.entries i).literals l) (rows ++ w.row ∷ []) = All-push (λ i. Contains (entry_at s.entries i).literals l) rows w.row (watch_having s.entries l ws own) c in
    let le : length (rows ++ w.row ∷ []) ≤ room_of (set rs (packed f) r) l = (moves_shaped es s.entries (set rs (packed f) r) shape m).few l (rows ++ w.row ∷ []) (AreApart-push rows w.row fresh (watch_apart ws once)) having in
    let other : room_of (set rs (packed f) r) l ≡ room_of rs l = get_or-set_other rs (packed f) (packed l) r 0 (λ e. not_f (packed-injective l f e)) in
    omega (arith, length_push rows w.row, watch_count ws)

pub other_room : (lists : List (List Watch)) (rs : List ℕ) (e : Entry) (f o l : Signed) → LeavesRoom lists rs e → IsOther e f o → Contains e.literals l → (l ≡ o → ⊥) → (l ≡ f → ⊥) → HasPlace lists rs l
other_room lists rs e f o l room other c not_o not_f = room l c
    (λ x. elim other.pair [ inl p ↦ not_f (sym x ∙ p.0) | inr p ↦ not_o (sym x ∙ p.1) ])
    (λ x. elim other.pair [ inl p ↦ not_o (sym x ∙ p.1) | inr p ↦ not_f (sym x ∙ p.0) ])

-- ---- more lists

more_default : {X : Type 0} (xs : List X) (d : X) (k : ℕ) → get_or (xs ++ d ∷ []) k d ≡ get_or xs k d
more_default [] d zero = refl
more_default [] d (suc k) = refl
more_default (x ∷ xs) d zero = refl
more_default (x ∷ xs) d (suc k) = more_default xs d k

pub bare_more : (lists : List Listing) (x : Listing) (l : Signed) → x.watches ≡ [] → watches_of (bare (lists ++ x ∷ [])) l ≡ watches_of (bare lists) l
bare_more lists x l e =
    ap (λ xs. watches_of xs l) (map-append (λ (y : Listing). y.watches) lists (x ∷ []) ∙ ap (λ ws. bare lists ++ ws ∷ []) e) ∙ more_default (bare lists) [] (packed l)

pub rooms_more : (lists : List Listing) (x : Listing) (l : Signed) → x.room ≡ 0 → room_of (rooms (lists ++ x ∷ [])) l ≡ room_of (rooms lists) l
rooms_more lists x l e =
    ap (λ xs. room_of xs l) (map-append (λ (y : Listing). y.room) lists (x ∷ []) ∙ ap (λ n. rooms lists ++ n ∷ []) e) ∙ more_default (rooms lists) 0 (packed l)

pub moves_gains : (es es' : List Entry) (ls : List Signed) (level : ℕ) (rs rs' : List ℕ) → GainsEntry es es' ls level → ((l : Signed) → room_of rs l ≤ room_of rs' l) → All (λ (l : Signed). room_of rs l + 1 ≤ room_of rs' l) ls → HasRoomToMove es rs → HasRoomToMove es' rs'
moves_gains es es' ls level rs rs' g le more h =
    subst (λ xs. HasRoomToMove xs rs') (sym g.gains) (moves_add es g.entry rs rs' le (subst (All (λ (l : Signed). room_of rs l + 1 ≤ room_of rs' l)) (sym g.literals) more) h)

pub moves_empty : (es : List Entry) (e : Entry) (rs : List ℕ) → e.literals ≡ [] → HasRoomToMove es rs → HasRoomToMove (es ++ e ∷ []) rs
moves_empty es e rs none h = moves_add es e rs rs (λ l. omega arith) (subst (All (λ (l : Signed). room_of rs l + 1 ≤ room_of rs l)) (sym none) (All-nil (λ (l : Signed). room_of rs l + 1 ≤ room_of rs l))) h

none_has : (rows : List ℕ) (l : Signed) → All (λ i. Contains (entry_at [] i).literals l) rows → length rows ≤ 0
none_has [] l all = omega arith
none_has (i ∷ rows) l all = absurd (none_in l (all 0 i (omega arith)))

pub moves_none : (rs : List ℕ) → HasRoomToMove [] rs
moves_none rs = record { few = λ l rows apart all. let none : length rows ≤ 0 = none_has rows l all in omega arith }

pub roomy_same : (es es' : List Entry) (lists lists' : List Listing) (t : Assigned) (head : ℕ) (ws ws' : List Wait) (capacity capacity' : ℕ) (empty : Option ℕ) → es' ≡ es → bare lists' ≡ bare lists → ((l : Signed) → room_of (rooms lists) l ≤ room_of (rooms lists') l) → ws' ≡ ws
    → HasRoomToWait es' ws' capacity' → IsRoomy es lists t head ws capacity empty → IsRoomy es' lists' t head ws' capacity' empty
roomy_same es es' lists lists' t head ws ws' capacity capacity' empty entries same grows waits room h = record {
  kept = subst (λ xs. IsKept xs (bare lists') t head ws' empty) (sym entries) (subst (λ xs. IsKept es xs t head ws' empty) (sym same) (subst (λ xs. IsKept es (bare lists) t head xs empty) (sym waits) h.kept));
  waits = room;
  moves = subst (λ xs. HasRoomToMove xs (rooms lists')) (sym entries) (moves_rooms es (rooms lists) (rooms lists') grows h.moves);
}
