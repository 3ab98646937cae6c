-- Lists of suspects: what covers columns, as the list changes and as values do; and the least that is chosen of it.
use Rattle.std.proofs.Common.{◌≡◌, ◌≢◌, ℕ, zero, ◌+◌, ◌-◌, ◌<◌, ◌≤◌, ◌⊎◌, inl, inr, sym, ap, ◌∙◌, subst, refl, arith, List, [], ◌∷◌, ◌++◌, length, get_or, get_or-set_other, get_or-set_same, set, Contains, Bool, true, false, cond, not, IfSome, IfNone, leb, leb-true, leb-false, ◌&&◌, Option, Some, None, ℤ}
use Rattle.std.proofs.lemmas.List.{length-set, get_or_default}
use Rattle.std.proofs.lemmas.List.Elements.{Contains-append_left, Contains-append_right, Contains-push, Contains-push_cases, Contains-get_or}
use Rattle.std.proofs.lemmas.Bool.{cases_eq, cases_lt}
use Rattle.fraction128.specs.declared.ratio.Ratio.{Ratio}
use Rattle.fraction128.specs.declared.TableRow.{TableRow}
use Rattle.fraction128.specs.declared.Column.{Column}
use Rattle.fraction128.specs.Grid.{is_some, is_basic, missed, is_crossed, any_crossed}
use Rattle.tableau.specs.Table.{Table, IsTable, row_at}
use Rattle.simplex_steps.specs.declared.moves.Moved.{Moved}
use Rattle.simplex_steps.specs.Moved.{applied, with_value, landed}
use Rattle.simplex_steps.specs.State.{column_in, no_column, SettledBelow, IsSettled, IsLeastBroken}
use Rattle.simplex_steps.specs.Suspects.{Listing, IsCalm, Covers, AreFlagged, Adds, Removes, AreListed, lesser}
use Rattle.simplex_steps.proofs.Columns.{column_other, basic_is, basic_place, free_is}
use Rattle.simplex_steps.proofs.Next.{one_crossed}

-- ---- the list and its flags

pub flagged_more : (flags : List Bool) (is : List ℕ) (v : ℕ) → AreFlagged flags is → AreFlagged (set flags v true) (is ++ v ∷ [])
flagged_more flags is v h i w = by_case (cases_eq i v)
  where
    by_case : (i ≡ v) ⊎ (i ≡ v → ⊥) → Contains (is ++ v ∷ []) i
    by_case (inl e) = subst (Contains (is ++ v ∷ [])) (sym e) (Contains-push is v)
    by_case (inr ne) = Contains-append_left is (v ∷ []) i (h i (sym (get_or-set_other flags v i true false ne) ∙ w))

pub flagged_less : (flags : List Bool) (is js : List ℕ) (v : ℕ) → AreFlagged flags is → v < length flags → ((j : ℕ) → Contains is j → (v ≡ j) ⊎ Contains js j) → AreFlagged (set flags v false) js
flagged_less flags is js v h lt keeps i w = by_case (cases_eq i v)
  where
    by_side : (i ≡ v → ⊥) → (v ≡ i) ⊎ Contains js i → Contains js i
    by_side ne (inl e) = absurd (ne (sym e))
    by_side ne (inr c) = c

    by_case : (i ≡ v) ⊎ (i ≡ v → ⊥) → Contains js i
    by_case (inl e) = let z : false ≡ true = sym (get_or-set_same flags v false false lt) ∙ ap (λ n. get_or (set flags v false) n false) (sym e) ∙ w in absurd (cc)
    by_case (inr ne) = by_side ne (keeps i (h i (sym (get_or-set_other flags v i false false ne) ∙ w)))

pub added : (s r : Listing) (i : ℕ) → r.count ≡ s.count → r.variables ≡ s.variables ++ i ∷ [] → Adds i s r
added s r i count is =
    record {
      count = count;
      has = subst (λ js. Contains js i) (sym is) (Contains-push s.variables i);
      keeps = λ j c. subst (λ js. Contains js j) (sym is) (Contains-append_left s.variables (i ∷ []) j c);
      only = λ j c. Contains-push_cases s.variables i j (subst (λ js. Contains js j) is c);
    }

pub added_already : (s r : Listing) (i : ℕ) → r ≡ s → Contains s.variables i → Adds i s r
added_already s r i e h =
    subst (λ (x : Listing). Adds i s x) (sym e) (record { count = refl; has = h; keeps = λ j c. c; only = λ j c. inl c })

-- the last one takes the place of one that goes
abbrev pub IsSwapped : List ℕ → List ℕ → ℕ → Type 0
IsSwapped is js place =
    ((d : ℕ) → place + 1 < length is → get_or js place d ≡ get_or is (length is - 1) d) × ((k d : ℕ) → k ≢ place → k + 1 < length is → get_or js k d ≡ get_or is k d)

pub swap_keeps : (is js : List ℕ) (place : ℕ) → place < length is → length js + 1 ≡ length is → IsSwapped is js place → (j : ℕ) → Contains is j → (get_or is place 0 ≡ j) ⊎ Contains js j
swap_keeps is js place lt len h j (k, lk, e) = by_case (cases_eq k place)
  where
    by_order : (k ≡ place → ⊥) → (k + 1 < length is) ⊎ (length is ≤ k + 1) → Contains js j
    by_order ne (inl l) = (k, omega (arith, l, len), h.1 k j ne l ∙ e)
    by_order ne (inr le) =
        let last : length is - 1 ≡ k = omega (arith, le, lk) in
        let before : place < k = by_place (cases_eq place k) in
        (place, omega (arith, before, lk, len), h.0 j (omega (arith, before, lk)) ∙ ap (λ n. get_or is n j) last ∙ e)
      where
        by_place : (place ≡ k) ⊎ (place ≡ k → ⊥) → place < k
        by_place (inl q) = absurd (ne (sym q))
        by_place (inr q) = omega (arith, q, lt, le)

    by_case : (k ≡ place) ⊎ (k ≡ place → ⊥) → (get_or is place 0 ≡ j) ⊎ Contains js j
    by_case (inl q) = inl (get_or_default is place 0 j lt ∙ ap (λ n. get_or is n j) (sym q) ∙ e)
    by_case (inr ne) = inr (by_order ne (cases_lt (k + 1) (length is)))

pub swap_only : (is js : List ℕ) (place : ℕ) → length js + 1 ≡ length is → IsSwapped is js place → (j : ℕ) → Contains js j → Contains is j
swap_only is js place len h j (k, lk, e) = by_case (cases_eq k place)
  where
    by_case : (k ≡ place) ⊎ (k ≡ place → ⊥) → Contains is j
    by_case (inl q) =
        (length is - 1, omega (arith, len, lk), sym (h.0 j (omega (arith, q, lk, len))) ∙ ap (λ n. get_or js n j) (sym q) ∙ e)
    by_case (inr ne) = (k, omega (arith, lk, len), sym (h.1 k j ne (omega (arith, lk, len))) ∙ e)

pub removed : (s r : Listing) (place : ℕ) → r.count ≡ s.count → place < length s.variables → length r.variables + 1 ≡ length s.variables → IsSwapped s.variables r.variables place → Removes (get_or s.variables place 0) s r
removed s r place count lt len h =
    record {
      count = count;
      fewer = omega (arith, len);
      keeps = swap_keeps s.variables r.variables place lt len h;
      only = swap_only s.variables r.variables place len h;
    }

-- ---- what covers columns

pub covers_added : (s r : Listing) (cs : List Column) (i : ℕ) → Covers s cs → i < length cs → Adds i s r → Covers r cs
covers_added s r cs i h lt a =
    record {
      room = subst (λ n. length cs ≤ n) (sym a.count) h.room;
      known = λ j c. by_origin j (a.only j c);
      others = λ j l. by_case j (h.others j l);
    }
  where
    by_origin : (j : ℕ) → Contains s.variables j ⊎ (i ≡ j) → j < length cs
    by_origin j (inl c) = h.known j c
    by_origin j (inr e) = subst (λ n. n < length cs) e lt

    by_case : (j : ℕ) → Contains s.variables j ⊎ IsCalm (column_in cs j) → Contains r.variables j ⊎ IsCalm (column_in cs j)
    by_case j (inl c) = inl (a.keeps j c)
    by_case j (inr calm) = inr calm

pub covers_removed : (s r : Listing) (cs : List Column) (i : ℕ) → Covers s cs → IsCalm (column_in cs i) → Removes i s r → Covers r cs
covers_removed s r cs i h calm a =
    record {
      room = subst (λ n. length cs ≤ n) (sym a.count) h.room;
      known = λ j c. h.known j (a.only j c);
      others = λ j l. by_case j (h.others j l);
    }
  where
    by_kept : (j : ℕ) → (i ≡ j) ⊎ Contains r.variables j → Contains r.variables j ⊎ IsCalm (column_in cs j)
    by_kept j (inl e) = inr (subst (λ n. IsCalm (column_in cs n)) e calm)
    by_kept j (inr c) = inl c

    by_case : (j : ℕ) → Contains s.variables j ⊎ IsCalm (column_in cs j) → Contains r.variables j ⊎ IsCalm (column_in cs j)
    by_case j (inl c) = by_kept j (a.keeps j c)
    by_case j (inr q) = inr q

-- what is listed may get any column
pub covers_set : (s : Listing) (cs : List Column) (i : ℕ) (c : Column) → Covers s cs → Contains s.variables i → Covers s (set cs i c)
covers_set s cs i c h listed =
    record {
      room = subst (λ n. n ≤ s.count) (sym (length-set cs i c)) h.room;
      known = λ j q. subst (λ n. j < n) (sym (length-set cs i c)) (h.known j q);
      others = λ j l. by_case j (subst (λ n. j < n) (length-set cs i c) l) (cases_eq j i);
    }
  where
    same : (j : ℕ) → j ≢ i → Contains s.variables j ⊎ IsCalm (column_in cs j) → Contains s.variables j ⊎ IsCalm (column_in (set cs i c) j)
    same j ne (inl q) = inl q
    same j ne (inr calm) = inr (subst IsCalm (sym (column_other cs i j c ne)) calm)

    by_case : (j : ℕ) → j < length cs → (j ≡ i) ⊎ (j ≡ i → ⊥) → Contains s.variables j ⊎ IsCalm (column_in (set cs i c) j)
    by_case j l (inl e) = inl (subst (Contains s.variables) (sym e) listed)
    by_case j l (inr ne) = same j ne (h.others j l)

covers_applied : (s : Listing) (ms : List Moved) (cs : List Column) → Covers s cs → ((m : Moved) → Contains ms m → Contains s.variables m.variable) → Covers s (applied ms cs)
covers_applied s [] cs h each = h
covers_applied s (x ∷ ms) cs h each =
    covers_applied s ms (set cs x.variable (with_value (column_in cs x.variable) x.value))
    (covers_set s cs x.variable (with_value (column_in cs x.variable) x.value) h (each x (Contains-append_left (x ∷ []) ms x (zero, omega arith, refl))))
    (λ m c. each m (Contains-append_right (x ∷ []) ms m c))

pub covers_landed : (s : Listing) (ms : List Moved) (cs : List Column) (i one other : ℕ) (x : Ratio) → Covers s cs → AreListed s.variables ms one other → i ≡ one → Covers s (landed ms cs i x)
covers_landed s ms cs i one other x h listed e =
    covers_set s (applied ms cs) i (with_value (column_in (applied ms cs) i) x) (covers_applied s ms cs h listed.each) (subst (Contains s.variables) (sym e) listed.first)

-- ---- the variables whose values change, one after another

abbrev pub AreListedTo : List ℕ → List Moved → ℕ → Type 0
AreListedTo is ms n = (k : ℕ) (d : Moved) → k < n → Contains is (get_or ms k d).variable

pub all_listed : (is : List ℕ) (ms : List Moved) (n one other : ℕ) → length ms ≤ n → Contains is one → Contains is other → AreListedTo is ms n → AreListed is ms one other
all_listed is ms n one other end first second h =
    record {
      first = first;
      second = second;
      each = λ m (c : Contains ms m). subst (λ (x : Moved). Contains is x.variable) c.2 (h c.0 m (let l = c.1 in omega (arith, l, end)));
    }

pub listed_more : (s r : Listing) (ms : List Moved) (n v : ℕ) → n < length ms → AreListedTo s.variables ms n → ((d : Moved) → v ≡ (get_or ms n d).variable) → Adds v s r → AreListedTo r.variables ms (n + 1)
listed_more s r ms n v lt h is a k d lk = by_order (cases_lt k n)
  where
    by_order : (k < n) ⊎ (n ≤ k) → Contains r.variables (get_or ms k d).variable
    by_order (inl l) = a.keeps (get_or ms k d).variable (h k d l)
    by_order (inr le) = subst (λ m. Contains r.variables (get_or ms m d).variable) (let e : n ≡ k = omega (arith, lk, le) in e) (subst (Contains r.variables) (is d) a.has)

-- ---- the least that is chosen

-- of the first n listed the least that is chosen
abbrev pub IsLeastOf : (ℕ → Bool) → List ℕ → ℕ → Option ℕ → Type 0
IsLeastOf p is n None = (k d : ℕ) → k < n → p (get_or is k d) ≡ false
IsLeastOf p is n (Some i) = Contains is i × (p i ≡ true) × ((k d : ℕ) → k < n → p (get_or is k d) ≡ true → i ≤ get_or is k d)

pub least_more : (p : ℕ → Bool) (is : List ℕ) (n v : ℕ) (found : Option ℕ) → n < length is → ((d : ℕ) → v ≡ get_or is n d) → IsLeastOf p is n found → IsLeastOf p is (n + 1) (lesser found v (p v))
least_more p is n v found lt at h = by_test found h (p v) refl
  where
    listed : Contains is v
    listed = (n, lt, sym (at v))

    -- what holds of the first n, and of v
    through : (Q : ℕ → Type 0) → ((k d : ℕ) → k < n → Q (get_or is k d)) → Q v → (k d : ℕ) → k < n + 1 → Q (get_or is k d)
    through Q before here k d lk = by_order (cases_lt k n)
      where
        by_order : (k < n) ⊎ (n ≤ k) → Q (get_or is k d)
        by_order (inl l) = before k d l
        by_order (inr le) = subst (λ m. Q (get_or is m d)) (let e : n ≡ k = omega (arith, lk, le) in e) (subst Q (at d) here)

    by_best : (i : ℕ) → IsLeastOf p is n (Some i) → p v ≡ true → (z : Bool) → leb i v ≡ z → IsLeastOf p is (n + 1) (cond z (Some i) (Some v))
    by_best i g e true w = (g.0, g.1, through (λ j. p j ≡ true → i ≤ j) g.2 (λ q. leb-true i v w))
    by_best i g e false w =
        let l : v < i = leb-false i v w in
        (listed, e, through (λ j. p j ≡ true → v ≤ j) (λ k d lk q. let le = g.2 k d lk q in omega (arith, l, le)) (λ q. omega arith))

    by_test : (o : Option ℕ) → IsLeastOf p is n o → (z : Bool) → p v ≡ z → IsLeastOf p is (n + 1) (lesser o v z)
    by_test None g false e = through (λ j. p j ≡ false) g e
    by_test (Some i) g false e = (g.0, g.1, through (λ j. p j ≡ true → i ≤ j) g.2 (λ q. let w : false ≡ true = sym e ∙ q in absurd (cc)))
    by_test None g true e = (listed, e, through (λ j. p j ≡ true → v ≤ j) (λ k d lk q. let w : false ≡ true = sym (g k d lk) ∙ q in absurd (cc)) (λ q. omega arith))
    by_test (Some i) g true e = by_best i g e (leb i v) refl

-- where what is calm isn't chosen, the least of the suspects is the least of all
pub least_of_all : (p : ℕ → Bool) (s : Listing) (cs : List Column) (n i : ℕ) → Covers s cs → ((j : ℕ) → IsCalm (column_in cs j) → p j ≡ false) → length s.variables ≤ n → IsLeastOf p s.variables n (Some i)
    → (j : ℕ) → j < length cs → p j ≡ true → i ≤ j
least_of_all p s cs n i h calm end g j lt e = by_case (h.others j lt)
  where
    by_case : Contains s.variables j ⊎ IsCalm (column_in cs j) → i ≤ j
    by_case (inl (k, lk, is)) = subst (λ m. i ≤ m) is (g.2 k j (omega (arith, lk, end)) (ap p is ∙ e))
    by_case (inr q) = let w : false ≡ true = sym (calm j q) ∙ e in absurd (cc)

pub none_of_all : (p : ℕ → Bool) (s : Listing) (cs : List Column) (n : ℕ) → Covers s cs → ((j : ℕ) → IsCalm (column_in cs j) → p j ≡ false) → length s.variables ≤ n → IsLeastOf p s.variables n None
    → (j : ℕ) → j < length cs → p j ≡ false
none_of_all p s cs n h calm end g j lt = by_case (h.others j lt)
  where
    by_case : Contains s.variables j ⊎ IsCalm (column_in cs j) → p j ≡ false
    by_case (inl (k, lk, is)) = ap p (sym is) ∙ g k j (omega (arith, lk, end))
    by_case (inr q) = calm j q

-- ---- what is chosen

by_bool : {P : Type 0} (z : Bool) → (z ≡ true → P) → (z ≡ false → P) → P
by_bool true f g = f refl
by_bool false f g = g refl

abbrev pub crosses : List Column → ℕ → Bool
crosses cs i = is_crossed (column_in cs i)

abbrev pub is_free_out : List TableRow → List Column → ℕ → Bool
is_free_out rows cs i = is_some (missed (column_in cs i)) && not (is_basic rows i)

abbrev pub is_basic_out : List TableRow → List Column → ℕ → Bool
is_basic_out rows cs i = is_some (missed (column_in cs i)) && is_basic rows i

pub calm_uncrossed : (cs : List Column) (j : ℕ) → IsCalm (column_in cs j) → crosses cs j ≡ false
calm_uncrossed cs j h = h.uncrossed

not_out : (o : Option ℤ) (z : Bool) → o ≡ None → (is_some o && z) ≡ false
not_out (Some k) z e = absurd (cc)
not_out None z e = refl

pub calm_free : (rows : List TableRow) (cs : List Column) (j : ℕ) → IsCalm (column_in cs j) → is_free_out rows cs j ≡ false
calm_free rows cs j h = not_out (missed (column_in cs j)) (not (is_basic rows j)) h.within

pub calm_basic : (rows : List TableRow) (cs : List Column) (j : ℕ) → IsCalm (column_in cs j) → is_basic_out rows cs j ≡ false
calm_basic rows cs j h = not_out (missed (column_in cs j)) (is_basic rows j) h.within

pub first_uncrossed : (cs : List Column) (i : ℕ) → i < length cs → ((j : ℕ) → j < length cs → crosses cs j ≡ true → i ≤ j) → (j : ℕ) → j < i → crosses cs j ≡ false
first_uncrossed cs i li least j lt = by_bool (crosses cs j) (λ e. let le = least j (omega (arith, lt, li)) e in absurd (omega (arith, le, lt))) (λ e. e)

-- ---- variables that aren't basic

out_of : (o : Option ℤ) (z : Bool) → (is_some o && z) ≡ true → (o ≢ None) × (z ≡ true)
out_of (Some k) z e = (λ w. absurd (cc), e)
out_of None z e = absurd (cc)

within_of : (o : Option ℤ) (z : Bool) → (is_some o && z) ≡ false → z ≡ true → o ≡ None
within_of (Some k) z e w = let q : true ≡ false = sym w ∙ e in absurd (cc)
within_of None z e w = refl

not_of : (z : Bool) → not z ≡ true → z ≡ false
not_of true e = absurd (cc)
not_of false e = refl

of_not : (z : Bool) → z ≡ false → not z ≡ true
of_not true e = absurd (cc)
of_not false e = refl

pub free_out : (rows : List TableRow) (cs : List Column) (i : ℕ) → is_free_out rows cs i ≡ true → (missed (column_in cs i) ≢ None) × (is_basic rows i ≡ false)
free_out rows cs i e = let q = out_of (missed (column_in cs i)) (not (is_basic rows i)) e in (q.0, not_of (is_basic rows i) q.1)

pub settled_to : (t : Table) (cs : List Column) (i : ℕ) → i < length cs → ((j : ℕ) → j < length cs → is_free_out t.rows cs j ≡ true → i ≤ j) → SettledBelow t cs i
settled_to t cs i li least j lt free =
    within_of (missed (column_in cs j)) (not (is_basic t.rows j))
    (by_bool (is_free_out t.rows cs j) (λ e. let le = least j (omega (arith, lt, li)) e in absurd (omega (arith, le, lt))) (λ e. e))
    (of_not (is_basic t.rows j) free)

pub all_settled : (t : Table) (cs : List Column) → ((j : ℕ) → j < length cs → is_free_out t.rows cs j ≡ false) → IsSettled t cs
all_settled t cs none j lt free = within_of (missed (column_in cs j)) (not (is_basic t.rows j)) (none j lt) (of_not (is_basic t.rows j) free)

-- ---- basic variables

pub broken_at : (t : Table) (cs : List Column) (i place : ℕ) → length cs ≡ t.count → IsTable t → place < length t.rows → (row_at t.rows place).basic ≡ i → is_basic_out t.rows cs i ≡ true
    → ((j : ℕ) → j < length cs → is_basic_out t.rows cs j ≡ true → i ≤ j) → IsLeastBroken t.rows cs (length t.rows) (Some place)
broken_at t cs i place count facts lt is e least = (
  lt,
  subst (λ b. missed (column_in cs b) ≢ None) (sym is) (out_of (missed (column_in cs i)) (is_basic t.rows i) e).0,
  λ k lk out.
      let b = (row_at t.rows k).basic in
      subst (λ n. n ≤ b) (sym is)
      (least b (let l = facts.basics k lk in omega (arith, l, count))
      (by_bool (is_basic_out t.rows cs b) (λ w. w) (λ w. absurd (out (within_of (missed (column_in cs b)) (is_basic t.rows b) w (basic_is t k facts lk)))))),
)

pub none_broken : (t : Table) (cs : List Column) → length cs ≡ t.count → IsTable t → ((j : ℕ) → j < length cs → is_basic_out t.rows cs j ≡ false) → IsLeastBroken t.rows cs (length t.rows) None
none_broken t cs count facts none k lk =
    within_of (missed (column_in cs (row_at t.rows k).basic)) (is_basic t.rows (row_at t.rows k).basic) (none (row_at t.rows k).basic (let l = facts.basics k lk in omega (arith, l, count))) (basic_is t k facts lk)

-- a variable that is basic has a row
pub has_row : (t : Table) (cs : List Column) (i : ℕ) → is_basic_out t.rows cs i ≡ true → ((k : ℕ) → k < length t.rows → (row_at t.rows k).basic ≢ i) → ⊥
has_row t cs i e none = let q = basic_place t i (out_of (missed (column_in cs i)) (is_basic t.rows i) e).1 in none q.0 q.1 q.2

-- ---- suspects that go

pub calm_at : (cs : List Column) (i : ℕ) → any_crossed cs ≡ false → i < length cs → is_some (missed (column_in cs i)) ≡ false → IsCalm (column_in cs i)
calm_at cs i uncrossed lt e =
    record {
      within = is_none (missed (column_in cs i)) e;
      uncrossed = by_bool (is_crossed (column_in cs i)) (λ w. let q : true ≡ false = sym (one_crossed cs i lt w) ∙ uncrossed in absurd (cc)) (λ w. w);
    }
  where
    is_none : (o : Option ℤ) → is_some o ≡ false → o ≡ None
    is_none (Some k) w = absurd (cc)
    is_none None w = refl

-- ---- what the code looks at

pub listed_at : (s : Listing) (cs : List Column) (is : List ℕ) (n : ℕ) → Covers s cs → is ≡ s.variables → n < length is → get_or is n 0 < length cs
listed_at s cs is n h e lt = h.known (get_or is n 0) (subst (λ js. Contains js (get_or is n 0)) e (Contains-get_or is n 0 lt))

pub column_found : (cs : List Column) (v : ℕ) (x : Column) → v < length cs → x ≡ get_or cs v x → x ≡ column_in cs v
column_found cs v x lt e = e ∙ get_or_default cs v x no_column lt

pub basic_test : (t : Table) (v : ℕ) (z : Bool) → IsTable t → (z ≡ true → (k : ℕ) × (k < length t.rows) × ((row_at t.rows k).basic ≡ v)) → (z ≡ false → (k : ℕ) → k < length t.rows → (row_at t.rows k).basic ≢ v)
    → z ≡ is_basic t.rows v
basic_test t v true facts is isnt = let q = is refl in sym (subst (λ b. is_basic t.rows b ≡ true) q.2 (basic_is t q.0 facts q.1))
basic_test t v false facts is isnt = sym (free_is t v (isnt refl))

pub and_tail : (o z : Bool) → o ≡ true → z ≡ (o && z)
and_tail o z e = sym (ap (λ w. w && z) e)

pub chosen_more : (p : ℕ → Bool) (is : List ℕ) (n : ℕ) (found now : Option ℕ) (z : Bool) → n < length is → IsLeastOf p is n found → z ≡ p (get_or is n 0) → now ≡ lesser found (get_or is n 0) z → IsLeastOf p is (n + 1) now
chosen_more p is n found now z lt h e f =
    subst (IsLeastOf p is (n + 1)) (sym (f ∙ ap (lesser found (get_or is n 0)) e)) (least_more p is n (get_or is n 0) found lt (λ d. get_or_default is n 0 d lt) h)

pub found_some : {P : ℕ → Type 0} (p : ℕ → Bool) (s : Listing) (cs : List Column) (is : List ℕ) (n : ℕ) (o : Option ℕ) → Covers s cs → is ≡ s.variables → length is ≤ n → IsLeastOf p is n o
    → ((j : ℕ) → IsCalm (column_in cs j) → p j ≡ false) → ((i : ℕ) → i < length cs → p i ≡ true → ((j : ℕ) → j < length cs → p j ≡ true → i ≤ j) → P i) → IfSome o P
found_some p s cs is n None h e end g calm f = tt
found_some p s cs is n (Some i) h e end g calm f =
    f i (h.known i (subst (λ js. Contains js i) e g.0)) g.1 (least_of_all p s cs n i h calm (subst (λ js. length js ≤ n) e end) (subst (λ js. IsLeastOf p js n (Some i)) e g))

pub found_none : {Q : Type 0} (p : ℕ → Bool) (s : Listing) (cs : List Column) (is : List ℕ) (n : ℕ) (o : Option ℕ) → Covers s cs → is ≡ s.variables → length is ≤ n → IsLeastOf p is n o
    → ((j : ℕ) → IsCalm (column_in cs j) → p j ≡ false) → (((j : ℕ) → j < length cs → p j ≡ false) → Q) → IfNone o Q
found_none p s cs is n None h e end g calm f = f (none_of_all p s cs n h calm (subst (λ js. length js ≤ n) e end) (subst (λ js. IsLeastOf p js n None) e g))
found_none p s cs is n (Some i) h e end g calm f = tt

pub broken_of : (t : Table) (cs : List Column) (i : ℕ) (o : Option ℕ) → length cs ≡ t.count → IsTable t → IfSome o (λ k. k < length t.rows) → IfSome o (λ k. (row_at t.rows k).basic ≡ i)
    → IfNone o ((k : ℕ) → k < length t.rows → (row_at t.rows k).basic ≢ i) → is_basic_out t.rows cs i ≡ true → ((j : ℕ) → j < length cs → is_basic_out t.rows cs j ≡ true → i ≤ j) → IsLeastBroken t.rows cs (length t.rows) o
broken_of t cs i (Some k) count facts lt is isnt e least = broken_at t cs i k count facts lt is e least
broken_of t cs i None count facts lt is isnt e least = absurd (has_row t cs i e isnt)

-- a variable that is outside its bounds and not basic isn't among those that are settled
pub past_settled : (t : Table) (cs : List Column) (n i : ℕ) → SettledBelow t cs n → is_basic t.rows i ≡ false → missed (column_in cs i) ≢ None → n ≤ i
past_settled t cs n i h free out = by_order (cases_lt i n)
  where
    by_order : (i < n) ⊎ (n ≤ i) → n ≤ i
    by_order (inl l) = absurd (out (h i l free))
    by_order (inr le) = le
