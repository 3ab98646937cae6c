-- Variables more, and columns that keep their sums and values.
use Rattle.std.proofs.Common.{◌≡◌, ◌≢◌, ℕ, ◌+◌, ◌<◌, Bool, true, List, [], ◌∷◌, ◌++◌, map, take, length, get_or, ℤ, sym, ap, subst, ◌∙◌, arith, length-append}
use Rattle.std.proofs.lemmas.List.{get_or-map, get_or_default, length-map, map-append, take-map, get_or_append_left, get_or_push}
use Rattle.std.proofs.lemmas.List.Elements.{All-take, All-push}
use Rattle.std.proofs.lemmas.List.Quantifiers.{all_pairs_push}
use Rattle.fraction128.specs.declared.ratio.Ratio.{Ratio}
use Rattle.fraction128.specs.declared.Column.{Column}
use Rattle.fraction128.specs.declared.Side.{Side}
use Rattle.literals.specs.Signed.{Signed, unpacked}
use Rattle.simplex.specs.declared.trail.Set.{Set}
use Rattle.simplex.specs.Trail.{set_at, no_set}
use Rattle.simplex_steps.specs.State.{column_in, no_column, values}
use Rattle.simplex.specs.State as Simplex
use Rattle.simplex.specs.State.{KeepsValues, AreKnown}
use Rattle.sum_bounds.specs.Hash.{sum_hash}
use Rattle.simplex.specs.Sums.{HaveOwnSums}
use Rattle.sum_bounds.specs.Bounds.{Told, told_of, told_bound, told_side, told_number, MeetsSide, AllMet, sum_hashes, IsCore}
use Rattle.sum_bounds.proofs.Sums.{same_lists}

-- ---- columns with the same sums

pub apart_kept : (cs ds : List Column) → length ds ≡ length cs → ((i : ℕ) → (column_in ds i).sum ≡ (column_in cs i).sum) → HaveOwnSums cs → HaveOwnSums ds
apart_kept cs ds count h apart i j d lt lj same =
    apart i j no_column lt (omega (arith, lj, count))
    (sym (h i) ∙ ap (λ (c : Column). c.sum) (get_or_default ds i no_column d (omega (arith, lt, lj))) ∙ same ∙ sym (ap (λ (c : Column). c.sum) (get_or_default ds j no_column d lj)) ∙ h j)

hash_at : (cs : List Column) (k d : ℕ) → k < length cs → get_or (sum_hashes cs) k d ≡ sum_hash (column_in cs k).sum
hash_at cs k d lt = get_or-map (λ (c : Column). sum_hash c.sum) cs k no_column d lt

hash_count : (cs : List Column) → length (sum_hashes cs) ≡ length cs
hash_count cs = length-map cs (λ (c : Column). sum_hash c.sum)

pub hashes_kept : (cs ds : List Column) → length ds ≡ length cs → ((i : ℕ) → (column_in ds i).sum ≡ (column_in cs i).sum) → sum_hashes ds ≡ sum_hashes cs
hashes_kept cs ds count h =
    same_lists (sum_hashes ds) (sum_hashes cs) (hash_count ds ∙ count ∙ sym (hash_count cs))
    (λ k d lt.
    let short : k < length ds = omega (arith, lt, hash_count ds) in
    hash_at ds k d short ∙ ap sum_hash (h k) ∙ sym (hash_at cs k d (omega (arith, short, count))))

pub met_kept : (cs ds : List Column) (told : List Told) → KeepsValues cs ds → AllMet cs told → AllMet ds told
met_kept cs ds told keeps met k d lt =
    let t = get_or told k d in
    subst (λ (x : Ratio). MeetsSide t.side t.number x) (sym (keeps.each t.variable).value) (met k d lt)

pub core_kept : (s u : Simplex.State) (keys : List ℕ) (count : ℕ) (was now : Bool) → IsCore s keys count was → length u.columns ≡ length s.columns
    → ((i : ℕ) → (column_in u.columns i).sum ≡ (column_in s.columns i).sum) → (now ≡ true → AllMet u.columns (map told_of u.bounds)) → IsCore u keys count now
core_kept s u keys count was now core same h clean =
    record {
      hashed = core.hashed ∙ sym (hashes_kept s.columns u.columns same h);
      counted = core.counted ∙ sym same;
      apart = apart_kept s.columns u.columns same h core.apart;
      clean = clean;
    }

-- ---- one bound less

pub told_taken : (n : ℕ) (bs cs : List Set) → cs ≡ take n bs → map told_of cs ≡ take n (map told_of bs)
told_taken n bs cs e = ap (map told_of) e ∙ sym (take-map told_of n bs)

pub met_taken : (cs ds : List Column) (n : ℕ) (bs us : List Set) → KeepsValues cs ds → us ≡ take n bs → AllMet cs (map told_of bs) → AllMet ds (map told_of us)
met_taken cs ds n bs us keeps e met =
    subst (AllMet ds) (sym (told_taken n bs us e))
    (All-take (λ (t : Told). MeetsSide t.side t.number (values ds t.variable)) n (map told_of bs) (met_kept cs ds (map told_of bs) keeps met))

-- ---- one bound more

pub met_told : (cs ds : List Column) (bs us : List Set) (b : Set) → KeepsValues cs ds → us ≡ bs ++ b ∷ [] → AllMet cs (map told_of bs) → MeetsSide b.side b.number (values cs b.variable) → AllMet ds (map told_of us)
met_told cs ds bs us b keeps e met here =
    subst (AllMet ds) (sym (ap (map told_of) e ∙ map-append told_of bs (b ∷ [])))
    (All-push (λ (t : Told). MeetsSide t.side t.number (values ds t.variable)) (map told_of bs) (told_of b) (met_kept cs ds (map told_of bs) keeps met)
    (subst (λ (x : Ratio). MeetsSide b.side b.number x) (sym (keeps.each b.variable).value) here))

told_same : (x : Set) (l : Signed) (i : ℕ) (turned : Bool) (k : ℤ) → unpacked x.tag ≡ l → x.variable ≡ i → x.side ≡ told_side l.positive turned → x.number ≡ told_number l.positive turned k → told_of x ≡ told_bound l i turned k
told_same x l i turned k e v s n =
    ap (λ (m : Signed). let t : Told = record { literal = m; variable = x.variable; side = x.side; number = x.number } in t) e
    ∙ ap (λ (j : ℕ). let t : Told = record { literal = l; variable = j; side = x.side; number = x.number } in t) v
    ∙ ap (λ (r : Side). let t : Told = record { literal = l; variable = i; side = r; number = x.number } in t) s
    ∙ ap (λ (z : ℤ). let t : Told = record { literal = l; variable = i; side = told_side l.positive turned; number = z } in t) n

pub told_pushed : (bs us : List Set) (b : Set) (told : List Told) (l : Signed) (i : ℕ) (turned : Bool) (k : ℤ) → us ≡ bs ++ b ∷ [] → map told_of bs ≡ told → unpacked b.tag ≡ l → b.variable ≡ i
    → b.side ≡ told_side l.positive turned → b.number ≡ told_number l.positive turned k → map told_of us ≡ told ++ told_bound l i turned k ∷ []
told_pushed bs us b told l i turned k e old tag v s n =
    ap (map told_of) e ∙ map-append told_of bs (b ∷ []) ∙ ap (λ ts. ts ++ told_of b ∷ []) old ∙ ap (λ t. told ++ t ∷ []) (told_same b l i turned k tag v s n)

-- ---- one column more

pub apart_push : (cs : List Column) (c : Column) → HaveOwnSums cs → ((i : ℕ) → i < length cs → (column_in cs i).sum ≢ c.sum) → HaveOwnSums (cs ++ c ∷ [])
apart_push cs c apart none =
    all_pairs_push (λ (a b : Column). a.sum ≢ b.sum) cs c apart (λ k d lt same. none k lt (ap (λ (x : Column). x.sum) (get_or_default cs k no_column d lt) ∙ same))

pub hashes_push : (cs : List Column) (c : Column) (keys : List ℕ) (hash : ℕ) → keys ≡ sum_hashes cs → hash ≡ sum_hash c.sum → keys ++ hash ∷ [] ≡ sum_hashes (cs ++ c ∷ [])
hashes_push cs c keys hash e f =
    ap (λ ks. ks ++ hash ∷ []) e ∙ ap (λ h. sum_hashes cs ++ h ∷ []) f ∙ sym (map-append (λ (x : Column). sum_hash x.sum) cs (c ∷ []))

met_push : (cs : List Column) (c : Column) (bs : List Set) → AreKnown (length cs) bs → AllMet cs (map told_of bs) → AllMet (cs ++ c ∷ []) (map told_of bs)
met_push cs c bs known met k d lt =
    let short : k < length bs = omega (arith, lt, length-map bs told_of) in
    let t = get_or (map told_of bs) k d in
    let is : t ≡ told_of (set_at bs k) = get_or-map told_of bs k no_set d short in
    let within : t.variable < length cs = subst (λ (u : Told). u.variable < length cs) (sym is) (known k short).0 in
    subst (λ (x : Column). MeetsSide t.side t.number x.value) (sym (get_or_append_left cs (c ∷ []) no_column t.variable within)) (met k d lt)

pub core_grown : (s u : Simplex.State) (keys now_keys : List ℕ) (count : ℕ) (clean : Bool) (c : Column) → IsCore s keys count clean → AreKnown (length s.columns) s.bounds
    → u.columns ≡ s.columns ++ c ∷ [] → u.bounds ≡ s.bounds → now_keys ≡ sum_hashes u.columns → ((i : ℕ) → i < length s.columns → (column_in s.columns i).sum ≢ c.sum)
    → IsCore u now_keys (count + 1) clean
core_grown s u keys now_keys count clean c core known columns bounds hashed none =
    record {
      hashed = hashed;
      counted = let e = core.counted in let f = ap length columns in omega (arith, e, f, length-append s.columns (c ∷ []));
      apart = subst HaveOwnSums (sym columns) (apart_push s.columns c core.apart none);
      clean = λ e.
          subst (λ cs. AllMet cs (map told_of u.bounds)) (sym columns)
          (subst (λ bs. AllMet (s.columns ++ c ∷ []) (map told_of bs)) (sym bounds) (met_push s.columns c s.bounds known (core.clean e)));
    }

-- the column more is the last one
pub last_column : (cs ds : List Column) (c : Column) (n : ℕ) → ds ≡ cs ++ c ∷ [] → n ≡ length cs → (n < length ds) × (column_in ds n ≡ c)
last_column cs ds c n e count =
    (let f = ap length e in omega (arith, f, count, length-append cs (c ∷ [])), ap (λ xs. column_in xs n) e ∙ get_or_push cs c no_column n (sym count))
