-- Whatever commands come: an accepted term has its sort, and each assertion has the sort Bool.
use Rattle.std.proofs.Common.{◌≡◌, ℕ, zero, suc, ◌+◌, ◌-◌, ◌<◌, List, [], ◌∷◌, ◌++◌, All, map, take, drop, length, ap, sym, subst, ◌∙◌, refl, Bool, true, false, ◌&&◌, not, Option, Some, None, nat_eq, arith, append_assoc, append-nil}
use Rattle.std.specs.Prelude.{IsTrue, replicate, filter, if◌then◌else◌}
use Rattle.std.proofs.Math.Seq.{drop-append_seam}
use Rattle.std.proofs.lemmas.Bool.{eqb-true}
use Rattle.std.proofs.lemmas.List.Elements.{All-nil, All-cons, All-head, All-tail, All-append, All-filter, All-weaker}
use Rattle.smt_meaning.specs.declared.values.Sort.TheVariants.{Bool as Truths}
use Rattle.smt_meaning.specs.declared.options.OptionSetting.{OptionSetting}
use Rattle.smt_meaning.specs.declared.options.OptionSetting.TheVariants.{GlobalDeclarations}
use Rattle.smt_meaning.specs.Declaration.{Declaration}
use Rattle.smt_meaning.specs.Term.{Tree}
use Rattle.smt_meaning.specs.Signature.{function_with_id, is_symbol, tree_sort}
use Rattle.smt_meaning.specs.Sorts.{Scope, Outcome, done, refused, Judging, judge}
use Rattle.smt_meaning.specs.Stack.{Frame, Assertion, signature_of, assertions_of, start_frames, depth, on_top, at_base, with_declared, stays, base_of, cleared, pushed, up_to, empty_frame}
use Rattle.smt_meaning.specs.StackCommand.{Stack, start, Change, declares, asserts, asks, assumes, sets, pushes, pops, clears, begins_again, is_unsupported, set_global, stack_command, scope_of, judged, new_declarations, changed, after_outcome, after_command, after, after_all}
use Rattle.smt_meaning.specs.declared.commands.Command.{Command}
use Rattle.smt_laws.specs.SortLaws.{AcceptedTermHasItsSort, AssertionsAreTruths, AssertionsAreTruthsAtTheirLevels, PartsAreAmongTheTrees}
use Rattle.smt_laws.proofs.FrontAndBack.{all_front, all_back}
use Rattle.smt_laws.proofs.PlacesLaw.{HasSort, closed_sort, LaterThan, later_self, later_still, later_front, later_more, sort_later}
use Rattle.smt_laws.proofs.Signatures.{AllUsable, all_usable_later, usable_append, usable_back, Good}
use Rattle.smt_meaning.specs.TreeShape.{is_among}
use Rattle.smt_meaning.specs.Parts.{IsPart}
use Rattle.smt_laws.proofs.Among.{Among}
use Rattle.smt_laws.proofs.OrderLaw.{Ordered, part_among, all_ordered}
use Rattle.smt_laws.proofs.StepLogic.{Ends}
use Rattle.smt_laws.proofs.SortLawsJudgements.{Naming, After, Fine, sorting}
use Rattle.smt_laws.proofs.SortLawsTermsLaw.{judge_gives, naming_by}
use Rattle.smt_laws.proofs.SortLawsCommandsLaw.{Declaring, Does, KeepsIfSome, command_keeps}

-- ---- declarations behind which others stand, and between which others stand

abbrev NoSymbols : List Declaration → Type 0
NoSymbols ds = All (Naming true) ds

both : (b : Bool) → b ≡ true → b ≡ false → ⊥
both b p q = absurd (no (sym p ∙ q))
  where
    no : true ≡ false → ⊥
    no e = cc

-- without names nothing is lost
later_without : (ps ds : List Declaration) → NoSymbols ps → LaterThan (ps ++ ds) ds
later_without [] ds h f d e s = e
later_without (p ∷ ps) ds h f d e s = go (λ q. later_without ps ds (All-tail (Naming true) p ps h) f d q s) (nat_eq f p.id && not p.is_sort) e
  where
    some_is : (y : Declaration) → Some y ≡ Some d → y ≡ d
    some_is y q = cc

    go : (function_with_id f (ps ++ ds) ≡ Some d → function_with_id f ds ≡ Some d) → (b : Bool) → (if b then Some p else function_with_id f (ps ++ ds)) ≡ Some d → function_with_id f ds ≡ Some d
    go k true q = absurd (both (is_symbol d) s (subst (λ (y : Declaration). is_symbol y ≡ false) (some_is p q) (All-head (Naming true) p ps h)))
    go k false q = k q

-- names stay behind where more stands before them
later_under : (ys ps zs : List Declaration) → NoSymbols ps → LaterThan ys zs → LaterThan (ys ++ ps) (zs ++ ps)
later_under ys ps zs h l = later_still (ys ++ ps) zs (zs ++ ps) (later_still (ys ++ ps) ys zs alone l) (later_more zs ps)
  where
    alone : LaterThan (ys ++ ps) ys
    alone = subst (LaterThan (ys ++ ps)) (append-nil ys) (later_front ys ps [] (subst (λ qs. LaterThan qs []) (append-nil ps) (later_without ps [] h)))

stays_step : (d x : Declaration) (o p : Option Declaration) (b c : Bool) → (c ≡ false → is_symbol d ≡ false) → is_symbol x ≡ true → (o ≡ Some x → p ≡ Some x)
    → (if b then Some d else o) ≡ Some x → (if c then (if b then Some d else p) else p) ≡ Some x
stays_step d x o p true true n s k e = e
stays_step d x o p true false n s k e = absurd (both (is_symbol x) s (subst (λ (y : Declaration). is_symbol y ≡ false) (some_is e) (n refl)))
  where
    some_is : Some d ≡ Some x → d ≡ x
    some_is q = cc
stays_step d x o p false true n s k e = k e
stays_step d x o p false false n s k e = k e

-- names of terms go
later_filter : (ds : List Declaration) → All Declaring ds → LaterThan ds (filter stays ds)
later_filter [] h f x e s = e
later_filter (d ∷ ds) h f x e s =
    subst (λ o. o ≡ Some x) (found_if (stays d))
    (stays_step d x (function_with_id f ds) (function_with_id f (filter stays ds)) (nat_eq f d.id && not d.is_sort) (stays d) (λ n. All-head Declaring d ds h (named d.is_name n)) s
    (λ k. later_filter ds (All-tail Declaring d ds h) f x k s) e)
  where
    named : (b : Bool) → not b ≡ false → b ≡ true
    named true q = refl
    named false q = cc

    found_if : (c : Bool)
        → (if c then (if nat_eq f d.id && not d.is_sort then Some d else function_with_id f (filter stays ds)) else function_with_id f (filter stays ds))
        ≡ function_with_id f (if c then d ∷ filter stays ds else filter stays ds)
    found_if true = refl
    found_if false = refl

usable_filter : (es ds : List Declaration) → AllUsable es ds → AllUsable es (filter stays ds)
usable_filter es [] h = tt
usable_filter es (d ∷ ds) h = go (usable_filter es ds h.1) (stays d)
  where
    go : AllUsable es (filter stays ds) → (b : Bool) → AllUsable es (if b then d ∷ filter stays ds else filter stays ds)
    go k true = (h.0, k)
    go k false = k

-- ---- the functions and assertions of frames, each under the signature up to its own level

abbrev AssertionsFine : List Declaration → List Assertion → Type 0
AssertionsFine ds [] = Unit {0}
AssertionsFine ds (a ∷ xs) = HasSort ds [] a.term Truths × AssertionsFine ds xs

abbrev FramesFine : List Declaration → List Frame → Type 0
FramesFine ys [] = Unit {0}
FramesFine ys (f ∷ frames) = (AssertionsFine (ys ++ f.declared) f.asserted × AllUsable (ys ++ f.declared) f.declared) × FramesFine (ys ++ f.declared) frames

assertions_later : (ds es : List Declaration) (xs : List Assertion) → LaterThan ds es → AssertionsFine ds xs → AssertionsFine es xs
assertions_later ds es [] l h = tt
assertions_later ds es (a ∷ xs) l h = (sort_later ds es [] a.term Truths l h.0, assertions_later ds es xs l h.1)

assertions_append : (ds : List Declaration) (xs zs : List Assertion) → AssertionsFine ds xs → AssertionsFine ds zs → AssertionsFine ds (xs ++ zs)
assertions_append ds [] zs h k = k
assertions_append ds (a ∷ xs) zs h k = (h.0, assertions_append ds xs zs h.1 k)

-- a level that gains declarations and assertions at its end
fine_level : (ys ds : List Declaration) (xs : List Assertion) (f : Frame)
    → AssertionsFine (ys ++ f.declared) f.asserted × AllUsable (ys ++ f.declared) f.declared → AssertionsFine (ys ++ (f.declared ++ ds)) xs → AllUsable (ys ++ (f.declared ++ ds)) ds
    → AssertionsFine (ys ++ (f.declared ++ ds)) (f.asserted ++ xs) × AllUsable (ys ++ (f.declared ++ ds)) (f.declared ++ ds)
fine_level ys ds xs f h k u =
    let l : LaterThan (ys ++ f.declared) (ys ++ (f.declared ++ ds)) = later_front ys f.declared (f.declared ++ ds) (later_more f.declared ds) in (
      assertions_append (ys ++ (f.declared ++ ds)) f.asserted xs (assertions_later (ys ++ f.declared) (ys ++ (f.declared ++ ds)) f.asserted l h.0) k,
      usable_append (ys ++ (f.declared ++ ds)) f.declared ds (all_usable_later f.declared (ys ++ f.declared) (ys ++ (f.declared ++ ds)) l h.1) u,
    )

fine_on_top : (ys ds : List Declaration) (xs : List Assertion) (frames : List Frame) → FramesFine ys frames
    → AssertionsFine (ys ++ (signature_of frames ++ ds)) xs → AllUsable (ys ++ (signature_of frames ++ ds)) ds → FramesFine ys (on_top ds xs frames)
fine_on_top ys ds xs [] h k u = tt
fine_on_top ys ds xs (f ∷ []) h k u = (
  fine_level ys ds xs f h.0 (subst (λ es. AssertionsFine (ys ++ (es ++ ds)) xs) (append-nil f.declared) k) (subst (λ es. AllUsable (ys ++ (es ++ ds)) ds) (append-nil f.declared) u),
  tt,
)
fine_on_top ys ds xs (f ∷ g ∷ frames) h k u = (
  h.0,
  fine_on_top (ys ++ f.declared) ds xs (g ∷ frames) h.1 (subst (λ es. AssertionsFine es xs) same k) (subst (λ es. AllUsable es ds) same u),
)
  where
    same : ys ++ (signature_of (f ∷ g ∷ frames) ++ ds) ≡ (ys ++ f.declared) ++ (signature_of (g ∷ frames) ++ ds)
    same = ap (λ es. ys ++ es) (append_assoc f.declared (signature_of (g ∷ frames)) ds) ∙ sym (append_assoc ys f.declared (signature_of (g ∷ frames) ++ ds))

-- levels that declare names alone, where more stands below them
fine_above : (ys zs : List Declaration) (frames : List Frame) → LaterThan ys zs → NoSymbols (signature_of frames) → FramesFine ys frames → FramesFine zs frames
fine_above ys zs [] l n h = tt
fine_above ys zs (f ∷ frames) l n h =
    let m : LaterThan (ys ++ f.declared) (zs ++ f.declared) = later_under ys f.declared zs (all_front (Naming true) f.declared (signature_of frames) n) l in (
      (assertions_later (ys ++ f.declared) (zs ++ f.declared) f.asserted m h.0.0, all_usable_later f.declared (ys ++ f.declared) (zs ++ f.declared) m h.0.1),
      fine_above (ys ++ f.declared) (zs ++ f.declared) frames m (all_back (Naming true) f.declared (signature_of frames) n) h.1,
    )

fine_at_base : (ds : List Declaration) (frames : List Frame) → FramesFine [] frames → NoSymbols (signature_of (drop 1 frames)) → AllUsable (signature_of frames ++ ds) ds → FramesFine [] (at_base ds frames)
fine_at_base ds [] h n u = tt
fine_at_base ds (f ∷ frames) h n u = (
  subst (λ xs. AssertionsFine (f.declared ++ ds) xs × AllUsable (f.declared ++ ds) (f.declared ++ ds)) (append-nil f.asserted)
      (fine_level [] ds [] f h.0 tt
      (all_usable_later ds ((f.declared ++ signature_of frames) ++ ds) (f.declared ++ ds)
      (subst (λ es. LaterThan es (f.declared ++ ds)) (sym (append_assoc f.declared (signature_of frames) ds))
      (later_front f.declared (signature_of frames ++ ds) ds (later_without (signature_of frames) ds n))) u)),
  fine_above f.declared (f.declared ++ ds) frames (later_more f.declared ds) n h.1,
)

fine_take : (ys : List Declaration) (k : ℕ) (frames : List Frame) → FramesFine ys frames → FramesFine ys (take k frames)
fine_take ys zero frames h = tt
fine_take ys (suc k) [] h = tt
fine_take ys (suc k) (f ∷ frames) h = (h.0, fine_take (ys ++ f.declared) k frames h.1)

fine_empty : (ys : List Declaration) (n : ℕ) → FramesFine ys (replicate n empty_frame)
fine_empty ys zero = tt
fine_empty ys (suc n) = ((tt, tt), fine_empty (ys ++ []) n)

fine_pushed : (ys : List Declaration) (n : ℕ) (frames : List Frame) → FramesFine ys frames → FramesFine ys (pushed n frames)
fine_pushed ys n [] h = fine_empty ys n
fine_pushed ys n (f ∷ frames) h = (h.0, fine_pushed (ys ++ f.declared) n frames h.1)

fine_base : (frames : List Frame) → FramesFine [] frames → All Declaring (signature_of frames) → FramesFine [] (base_of frames)
fine_base [] h n = ((tt, tt), tt)
fine_base (f ∷ frames) h n = (
  (
    tt,
    all_usable_later (filter stays f.declared) f.declared (filter stays f.declared) (later_filter f.declared (all_front Declaring f.declared (signature_of frames) n))
        (usable_filter f.declared f.declared h.0.1),
  ),
  tt,
)

-- under the whole signature

later_below : (ys ds zs es : List Declaration) → LaterThan (ys ++ (ds ++ zs)) es → LaterThan (ys ++ ds) es
later_below ys ds zs es l = later_still (ys ++ ds) (ys ++ (ds ++ zs)) es (later_front ys ds (ds ++ zs) (later_more ds zs)) l

abbrev IsTruth : List Declaration → Tree → Type 0
IsTruth ds u = tree_sort ds u ≡ Some Truths

truths_of : (ds es : List Declaration) (xs : List Assertion) → LaterThan ds es → AssertionsFine ds xs → All (IsTruth es) (map (λ (a : Assertion). a.term) xs)
truths_of ds es [] l h = All-nil (IsTruth es)
truths_of ds es (a ∷ xs) l h =
    All-cons (IsTruth es) a.term (map (λ (x : Assertion). x.term) xs) (closed_sort es a.term Truths (sort_later ds es [] a.term Truths l h.0)) (truths_of ds es xs l h.1)

all_truths : (ys : List Declaration) (frames : List Frame) (es : List Declaration) → LaterThan (ys ++ signature_of frames) es → FramesFine ys frames → All (IsTruth es) (assertions_of frames)
all_truths ys [] es l h = All-nil (IsTruth es)
all_truths ys (f ∷ frames) es l h =
    All-append (IsTruth es) (map (λ (x : Assertion). x.term) f.asserted) (assertions_of frames)
    (truths_of (ys ++ f.declared) es f.asserted (later_below ys f.declared (signature_of frames) es l) h.0.0)
    (all_truths (ys ++ f.declared) frames es (subst (λ zs. LaterThan zs es) (sym (append_assoc ys f.declared (signature_of frames))) l) h.1)

all_usable : (ys : List Declaration) (frames : List Frame) (es : List Declaration) → LaterThan (ys ++ signature_of frames) es → FramesFine ys frames → AllUsable es (signature_of frames)
all_usable ys [] es l h = tt
all_usable ys (f ∷ frames) es l h =
    usable_append es f.declared (signature_of frames) (all_usable_later f.declared (ys ++ f.declared) es (later_below ys f.declared (signature_of frames) es l) h.0.1)
    (all_usable (ys ++ f.declared) frames es (subst (λ zs. LaterThan zs es) (sym (append_assoc ys f.declared (signature_of frames))) l) h.1)

-- ---- the assertions of frames, among trees

abbrev EachAmong : List Tree → List Assertion → Type 0
EachAmong ts [] = Unit {0}
EachAmong ts (a ∷ xs) = Among a.term ts × EachAmong ts xs

abbrev AllAmongThem : List Tree → List Frame → Type 0
AllAmongThem ts [] = Unit {0}
AllAmongThem ts (f ∷ frames) = EachAmong ts f.asserted × AllAmongThem ts frames

each_still : (ts us : List Tree) (xs : List Assertion) → ((t : Tree) → Among t ts → Among t us) → EachAmong ts xs → EachAmong us xs
each_still ts us [] k h = tt
each_still ts us (a ∷ xs) k h = (k a.term h.0, each_still ts us xs k h.1)

all_still : (ts us : List Tree) (frames : List Frame) → ((t : Tree) → Among t ts → Among t us) → AllAmongThem ts frames → AllAmongThem us frames
all_still ts us [] k h = tt
all_still ts us (f ∷ frames) k h = (each_still ts us f.asserted k h.0, all_still ts us frames k h.1)

each_append : (ts : List Tree) (xs zs : List Assertion) → EachAmong ts xs → EachAmong ts zs → EachAmong ts (xs ++ zs)
each_append ts [] zs h k = k
each_append ts (a ∷ xs) zs h k = (h.0, each_append ts xs zs h.1 k)

among_on_top : (ts : List Tree) (ds : List Declaration) (xs : List Assertion) (frames : List Frame) → AllAmongThem ts frames → EachAmong ts xs → AllAmongThem ts (on_top ds xs frames)
among_on_top ts ds xs [] h k = tt
among_on_top ts ds xs (f ∷ []) h k = (each_append ts f.asserted xs h.0 k, tt)
among_on_top ts ds xs (f ∷ g ∷ frames) h k = (h.0, among_on_top ts ds xs (g ∷ frames) h.1 k)

among_declared : (ts : List Tree) (b : Bool) (ds : List Declaration) (frames : List Frame) → AllAmongThem ts frames → AllAmongThem ts (with_declared b ds frames)
among_declared ts true ds [] h = tt
among_declared ts true ds (f ∷ frames) h = h
among_declared ts false ds frames h = among_on_top ts ds [] frames h tt

among_cleared : (ts : List Tree) (b : Bool) (frames : List Frame) → AllAmongThem ts (cleared b frames)
among_cleared ts true [] = (tt, tt)
among_cleared ts true (f ∷ frames) = (tt, tt)
among_cleared ts false frames = (tt, tt)

among_take : (ts : List Tree) (k : ℕ) (frames : List Frame) → AllAmongThem ts frames → AllAmongThem ts (take k frames)
among_take ts zero frames h = tt
among_take ts (suc k) [] h = tt
among_take ts (suc k) (f ∷ frames) h = (h.0, among_take ts k frames h.1)

among_empty : (ts : List Tree) (n : ℕ) → AllAmongThem ts (replicate n empty_frame)
among_empty ts zero = tt
among_empty ts (suc n) = (tt, among_empty ts n)

among_pushed : (ts : List Tree) (n : ℕ) (frames : List Frame) → AllAmongThem ts frames → AllAmongThem ts (pushed n frames)
among_pushed ts n [] h = among_empty ts n
among_pushed ts n (f ∷ frames) h = (h.0, among_pushed ts n frames h.1)

-- ---- what holds of each declaration

module _ (P : Declaration → Type 0) where
  all_on_top : (ds : List Declaration) (xs : List Assertion) (frames : List Frame) → All P (signature_of frames) → All P ds → All P (signature_of (on_top ds xs frames))
  all_on_top ds xs [] h k = All-nil P
  all_on_top ds xs (f ∷ []) h k = All-append P (f.declared ++ ds) [] (All-append P f.declared ds (all_front P f.declared [] h) k) (All-nil P)
  all_on_top ds xs (f ∷ g ∷ frames) h k =
      All-append P f.declared (signature_of (on_top ds xs (g ∷ frames))) (all_front P f.declared (signature_of (g ∷ frames)) h)
      (all_on_top ds xs (g ∷ frames) (all_back P f.declared (signature_of (g ∷ frames)) h) k)

  all_at_base : (ds : List Declaration) (frames : List Frame) → All P (signature_of frames) → All P ds → All P (signature_of (at_base ds frames))
  all_at_base ds [] h k = All-nil P
  all_at_base ds (f ∷ frames) h k =
      All-append P (f.declared ++ ds) (signature_of frames) (All-append P f.declared ds (all_front P f.declared (signature_of frames) h) k) (all_back P f.declared (signature_of frames) h)

  all_base : (frames : List Frame) → All P (signature_of frames) → All P (signature_of (base_of frames))
  all_base [] h = All-nil P
  all_base (f ∷ frames) h = All-append P (filter stays f.declared) [] (All-filter stays P f.declared (all_front P f.declared (signature_of frames) h)) (All-nil P)

  all_take : (k : ℕ) (frames : List Frame) → All P (signature_of frames) → All P (signature_of (take k frames))
  all_take zero frames h = All-nil P
  all_take (suc k) [] h = All-nil P
  all_take (suc k) (f ∷ frames) h =
      All-append P f.declared (signature_of (take k frames)) (all_front P f.declared (signature_of frames) h) (all_take k frames (all_back P f.declared (signature_of frames) h))

  all_empty : (n : ℕ) → All P (signature_of (replicate n empty_frame))
  all_empty zero = All-nil P
  all_empty (suc n) = all_empty n

  all_pushed : (n : ℕ) (frames : List Frame) → All P (signature_of frames) → All P (signature_of (pushed n frames))
  all_pushed n [] h = all_empty n
  all_pushed n (f ∷ frames) h =
      All-append P f.declared (signature_of (pushed n frames)) (all_front P f.declared (signature_of frames) h) (all_pushed n frames (all_back P f.declared (signature_of frames) h))

-- ---- good frames

-- where declarations are global, the levels above 0 declare names of terms alone
record GoodFrames (global : Bool) (next : ℕ) (frames : List Frame) : Type 0 where
  pub below : All (λ (d : Declaration). d.id < next) (signature_of frames)
  pub fine : FramesFine [] frames
  pub named : All Declaring (signature_of frames)
  pub above : global ≡ true → NoSymbols (signature_of (drop 1 frames))

good_signature : (b : Bool) (n : ℕ) (frames : List Frame) → GoodFrames b n frames → Good n (signature_of frames)
good_signature b n frames g = record { below = g.below; sound = all_usable [] frames (signature_of frames) (later_self (signature_of frames)) g.fine }

any_name : (ds : List Declaration) → NoSymbols ds → All Declaring ds
any_name ds h = All-weaker (Naming true) Declaring (λ d k e. k) ds h

above_on_top : (ds : List Declaration) (xs : List Assertion) (frames : List Frame) → NoSymbols (signature_of (drop 1 frames)) → NoSymbols ds → NoSymbols (signature_of (drop 1 (on_top ds xs frames)))
above_on_top ds xs [] h k = All-nil (Naming true)
above_on_top ds xs (f ∷ []) h k = All-nil (Naming true)
above_on_top ds xs (f ∷ g ∷ frames) h k = all_on_top (Naming true) ds xs (g ∷ frames) h k

above_at_base : (ds : List Declaration) (frames : List Frame) → NoSymbols (signature_of (drop 1 frames)) → NoSymbols (signature_of (drop 1 (at_base ds frames)))
above_at_base ds [] h = h
above_at_base ds (f ∷ frames) h = h

above_pushed : (n : ℕ) (frames : List Frame) → NoSymbols (signature_of (drop 1 frames)) → NoSymbols (signature_of (drop 1 (pushed n frames)))
above_pushed zero [] h = All-nil (Naming true)
above_pushed (suc n) [] h = all_empty (Naming true) n
above_pushed n (f ∷ frames) h = all_pushed (Naming true) n frames h

above_take : (k : ℕ) (frames : List Frame) → NoSymbols (signature_of (drop 1 frames)) → NoSymbols (signature_of (drop 1 (take k frames)))
above_take zero frames h = All-nil (Naming true)
above_take (suc k) [] h = All-nil (Naming true)
above_take (suc k) (f ∷ frames) h = all_take (Naming true) k frames h

above_base : (frames : List Frame) → NoSymbols (signature_of (drop 1 (base_of frames)))
above_base [] = All-nil (Naming true)
above_base (f ∷ frames) = All-nil (Naming true)

-- no level above 0
above_none : (frames : List Frame) → nat_eq (depth frames) 0 ≡ true → NoSymbols (signature_of (drop 1 frames))
above_none [] e = All-nil (Naming true)
above_none (f ∷ []) e = All-nil (Naming true)
above_none (f ∷ g ∷ frames) e = let q : suc (length (g ∷ frames)) - 1 ≡ 0 = eqb-true (suc (length (g ∷ frames)) - 1) 0 e in absurd (omega arith)

on_top_good : (b : Bool) (n m : ℕ) (ds : List Declaration) (xs : List Assertion) (frames : List Frame) → GoodFrames b n frames → Good m (signature_of frames ++ ds)
    → All Declaring ds → (b ≡ true → NoSymbols ds) → AssertionsFine (signature_of frames ++ ds) xs → GoodFrames b m (on_top ds xs frames)
on_top_good b n m ds xs frames g h all names a = record {
  below = all_on_top (λ (d : Declaration). d.id < m) ds xs frames (all_front (λ (d : Declaration). d.id < m) (signature_of frames) ds h.below) (all_back (λ (d : Declaration). d.id < m) (signature_of frames) ds h.below);
  fine = fine_on_top [] ds xs frames g.fine a (usable_back (signature_of frames ++ ds) (signature_of frames) ds h.sound);
  named = all_on_top Declaring ds xs frames g.named all;
  above = λ e. above_on_top ds xs frames (g.above e) (names e);
}

declared_good : (b : Bool) (n m : ℕ) (ds : List Declaration) (frames : List Frame) → GoodFrames b n frames → Good m (signature_of frames ++ ds) → All Declaring ds → GoodFrames b m (with_declared b ds frames)
declared_good true n m ds frames g h all = record {
  below = all_at_base (λ (d : Declaration). d.id < m) ds frames (all_front (λ (d : Declaration). d.id < m) (signature_of frames) ds h.below) (all_back (λ (d : Declaration). d.id < m) (signature_of frames) ds h.below);
  fine = fine_at_base ds frames g.fine (g.above refl) (usable_back (signature_of frames ++ ds) (signature_of frames) ds h.sound);
  named = all_at_base Declaring ds frames g.named all;
  above = λ e. above_at_base ds frames (g.above e);
}
declared_good false n m ds frames g h all = on_top_good false n m ds [] frames g h all (λ e. absurd (both false e refl)) tt

start_frames_good : (b : Bool) (n : ℕ) → GoodFrames b n start_frames
start_frames_good b n = record { below = All-nil (λ (d : Declaration). d.id < n); fine = ((tt, tt), tt); named = All-nil Declaring; above = λ e. All-nil (Naming true) }

cleared_good : (b : Bool) (n : ℕ) (frames : List Frame) → GoodFrames b n frames → GoodFrames b n (cleared b frames)
cleared_good true n frames g = record {
  below = all_base (λ (d : Declaration). d.id < n) frames g.below;
  fine = fine_base frames g.fine g.named;
  named = all_base Declaring frames g.named;
  above = λ e. above_base frames;
}
cleared_good false n frames g = start_frames_good false n

set_good : (o : OptionSetting) (b : Bool) (n : ℕ) (frames : List Frame) → GoodFrames b n frames → GoodFrames (set_global o (depth frames) b) n frames
set_good (GlobalDeclarations new) b n frames g = go (nat_eq (depth frames) 0) refl
  where
    go : (c : Bool) → nat_eq (depth frames) 0 ≡ c → GoodFrames (if c then new else b) n frames
    go true e = record { below = g.below; fine = g.fine; named = g.named; above = λ h. above_none frames e }
    go false e = g
set_good _ b n frames g = g

-- ---- the stack after a command

record GoodStack (s : Stack) : Type 0 where
  pub good : GoodFrames s.global s.given s.frames
  pub among : AllAmongThem s.trees s.frames

-- what was declared on the way, behind what was there
new_are : (s : Stack) (c : Scope) (names : List Declaration) → c.signature ≡ signature_of s.frames ++ names → new_declarations s c ≡ names
new_are s c names e = ap (drop (length (signature_of s.frames))) e ∙ drop-append_seam (signature_of s.frames) names

changed_good : (s : Stack) (change : Change) (c : Scope) → GoodStack s → Good c.given c.signature → After Declaring (scope_of s) c → Does (scope_of s) change c → GoodStack (changed s change c)
changed_good s declares c f g l h = record {
  good =
      subst (λ ds. GoodFrames s.global c.given (with_declared s.global ds s.frames)) (sym (new_are s c l.names l.behind))
      (declared_good s.global s.given c.given l.names s.frames f.good (subst (Good c.given) l.behind g) l.allowed);
  among = among_declared c.trees s.global (new_declarations s c) s.frames (all_still s.trees c.trees s.frames l.kept f.among);
}
changed_good s (asserts a) c f g l h = record {
  good =
      subst (λ ds. GoodFrames s.global c.given (on_top ds (a ∷ []) s.frames)) (sym (new_are s c h.1.names h.1.behind))
      (on_top_good s.global s.given c.given h.1.names (a ∷ []) s.frames f.good (subst (Good c.given) h.1.behind g) (any_name h.1.names h.1.allowed) (λ e. h.1.allowed)
      (subst (λ ds. HasSort ds [] a.term Truths) h.1.behind h.0.0, tt));
  among = among_on_top c.trees (new_declarations s c) (a ∷ []) s.frames (all_still s.trees c.trees s.frames l.kept f.among) (h.0.1, tt);
}
changed_good s (pushes n) c f g l h = record {
  good = record {
    below = all_pushed (λ (d : Declaration). d.id < s.given) n s.frames f.good.below;
    fine = fine_pushed [] n s.frames f.good.fine;
    named = all_pushed Declaring n s.frames f.good.named;
    above = λ e. above_pushed n s.frames (f.good.above e);
  };
  among = among_pushed s.trees n s.frames f.among;
}
changed_good s (pops n) c f g l h = record {
  good = record {
    below = all_take (λ (d : Declaration). d.id < s.given) (length s.frames - n) s.frames f.good.below;
    fine = fine_take [] (length s.frames - n) s.frames f.good.fine;
    named = all_take Declaring (length s.frames - n) s.frames f.good.named;
    above = λ e. above_take (length s.frames - n) s.frames (f.good.above e);
  };
  among = among_take s.trees (length s.frames - n) s.frames f.among;
}
changed_good s (asks ts) c f g l h = record { good = f.good; among = all_still s.trees c.trees s.frames l.kept f.among }
changed_good s (assumes xs) c f g l h = record { good = f.good; among = all_still s.trees c.trees s.frames l.kept f.among }
changed_good s (sets o) c f g l h = record { good = set_good o s.global s.given s.frames f.good; among = f.among }
changed_good s clears c f g l h = record { good = cleared_good s.global s.given s.frames f.good; among = among_cleared s.trees s.global s.frames }
changed_good s begins_again c f g l h = record { good = start_frames_good false 0; among = (tt, tt) }
changed_good s is_unsupported c f g l h = f

outcome_good : (s : Stack) (o : Outcome Change) → GoodStack s → Ends (sorting Declaring) (scope_of s) (Does (scope_of s)) o → GoodStack (after_outcome s o)
outcome_good s (done change c) f k = changed_good s change c f k.0.0 k.0.1 k.1
outcome_good s (refused r) f k = f

command_good : (s : Stack) (o : Option (ℕ → Judging Change)) → KeepsIfSome o → GoodStack s → GoodStack (after_command s o)
unfolding judged
command_good s None k f = f
command_good s (Some m) k f =
    let g : Good s.given (signature_of s.frames) = good_signature s.global s.given s.frames f.good in
    outcome_good s (judged m s) f ((k (depth s.frames) (scope_of s) g).gives g)

all_good : (s : Stack) (cs : List Command) → GoodStack s → GoodStack (after_all s cs)
all_good s [] f = f
all_good s (c ∷ cs) f = all_good (after s c) cs (command_good s (stack_command c) (command_keeps c) f)

start_good : GoodStack start
start_good = record { good = start_frames_good false 0; among = (tt, tt) }

-- ---- the laws

pub accepted_has : AcceptedTermHasItsSort
accepted_has xs r x t a e =
    let s : Stack = after_all start xs in
    let g : Good s.given (signature_of s.frames) = good_signature s.global s.given s.frames (all_good start xs start_good).good in
    let h : Ends (naming_by r) (scope_of s) (Fine []) (judge r [] x (scope_of s)) = (judge_gives r [] (λ n. refl) [] x (scope_of s) g tt).gives g in
    closed_sort t.signature a.tree a.sort (subst (Ends (naming_by r) (scope_of s) (Fine [])) e h).1.0

pub assertions_have : AssertionsAreTruths
assertions_have xs = all_truths [] (after_all start xs).frames (signature_of (after_all start xs).frames) (later_self (signature_of (after_all start xs).frames)) (all_good start xs start_good).good.fine

-- ---- parts

abbrev HasPartsAmong : List Tree → Tree → Type 0
HasPartsAmong ts t = (u : Tree) → IsPart u t → IsTrue (is_among u ts)

each_part : (ts : List Tree) (xs : List Assertion) → Ordered [] ts → EachAmong ts xs → All (HasPartsAmong ts) (map (λ (a : Assertion). a.term) xs)
each_part ts [] o h = All-nil (HasPartsAmong ts)
each_part ts (a ∷ xs) o h =
    All-cons (HasPartsAmong ts) a.term (map (λ (x : Assertion). x.term) xs) (λ u k. part_among ts a.term u o h.0 k) (each_part ts xs o h.1)

all_parts : (ts : List Tree) (frames : List Frame) → Ordered [] ts → AllAmongThem ts frames → All (HasPartsAmong ts) (assertions_of frames)
all_parts ts [] o h = All-nil (HasPartsAmong ts)
all_parts ts (f ∷ frames) o h =
    All-append (HasPartsAmong ts) (map (λ (x : Assertion). x.term) f.asserted) (assertions_of frames) (each_part ts f.asserted o h.0) (all_parts ts frames o h.1)

pub parts_among : PartsAreAmongTheTrees
parts_among cs = all_parts (after_all start cs).trees (after_all start cs).frames (all_ordered start cs tt) (all_good start cs start_good).among

-- ---- levels

pub assertions_have_below : AssertionsAreTruthsAtTheirLevels
assertions_have_below cs l =
    all_truths [] (up_to l (after_all start cs).frames) (signature_of (up_to l (after_all start cs).frames)) (later_self (signature_of (up_to l (after_all start cs).frames)))
    (fine_take [] (l + 1) (after_all start cs).frames (all_good start cs start_good).good.fine)
