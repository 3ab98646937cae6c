-- The questions for cores, from what is held to what is answered.
use Rattle.std.proofs.Common.{◌≡◌, ◌∙◌, ◌+◌, ◌-◌, ◌≤◌, ◌<◌, ℕ, ℤ, true, List, [], ◌∷◌, ◌++◌, map, length, ap, sym, subst, refl, arith, All}
use Rattle.std.specs.Prelude.{flat_map}
use Rattle.std.specs.List.{range_with_len}
use Rattle.std.proofs.lemmas.Grind.{flat_map-append}
use Rattle.std.proofs.lemmas.List.{get_or_append_left, get_or-append_right, length-append, length-map}
use Rattle.std.proofs.lemmas.List.Elements.{All-cons, All-head, All-nil, All-tail}
use Rattle.smt_meaning.specs.declared.answers.Mode.{Mode}
use Rattle.smt_meaning.specs.declared.answers.Mode.TheVariants.{Start, Assert, Sat, Unknown, Unsat}
use Rattle.smt_meaning.specs.declared.answers.Reply.TheVariants.{UnsatCore, UnsatAssumptions}
use Rattle.smt_meaning.specs.declared.options.OptionName.TheVariants as Named
use Rattle.smt_meaning.specs.declared.replies.Kept.TheVariants.{Core}
use Rattle.smt_meaning.specs.declared.replies.Held.{Held}
use Rattle.smt_meaning.specs.declared.tokens.Token.{Token}
use Rattle.smt_meaning.specs.Core.{IsReduced, checked_texts, checked_trees, name_of, name_or_none, named_places, stack_texts, text_at}
use Rattle.smt_meaning.specs.Sexp.{sexp}
use Rattle.smt_meaning.specs.Stack.{Assertion as Asserted, Frame, assertions_of, terms_of}
use Rattle.smt_meaning.specs.StackCommand.{Stack}
use Rattle.smt_meaning.specs.State.{State, assumed, checked_frames, get_unsat_assumptions, get_unsat_core, is_unsat, named, texts_of}
use Rattle.smt_meaning.specs.MayReply.{MayCome}
use Rattle.smt_meaning.specs.Term.{Tree}
use Rattle.scope_stack.specs.declared.answers.Assertion.{Assertion}
use Rattle.scope_stack.specs.Shown.{AreAsserted}
use Rattle.goal_search.specs.Checked.{WhereUnsat}
use Rattle.goal_search.specs.Tries.{AreCandidates}
use Rattle.session.specs.Reduced.{IsHeldAmong}
use Rattle.session.specs.Taken.{every_stack}
use Rattle.session.proofs.CoreCandidates.{from_first, held_within, names_are_candidates, ranges_are_candidates}
use Rattle.session.proofs.Replies.{core_given}

pub when_unsat : (m : Mode) (P : Type 0) → m ≡ Unsat → WhereUnsat m P → P
when_unsat m P e h = subst (λ (n : Mode). WhereUnsat n P) e h

-- ---- as many texts as terms

one_level : (f : Frame) → length (texts_of f) ≡ length (terms_of f)
one_level f = length-map f.asserted (λ (a : Asserted). a.text) ∙ sym (length-map f.asserted (λ (a : Asserted). a.term))

pub as_many : (frames : List Frame) → length (flat_map texts_of frames) ≡ length (assertions_of frames)
as_many [] = refl
as_many (f ∷ frames) =
    let texts : length (texts_of f ++ flat_map texts_of frames) ≡ length (texts_of f) + length (flat_map texts_of frames) = length-append (texts_of f) (flat_map texts_of frames) in
    let terms : length (terms_of f ++ assertions_of frames) ≡ length (terms_of f) + length (assertions_of frames) = length-append (terms_of f) (assertions_of frames) in
    omega (arith, texts, terms, one_level f, as_many frames)

abbrev text : Assertion → List Token
text a = a.text

count_asserted : (s : Stack) (xs : List Assertion) → AreAsserted s xs → length xs ≡ length (assertions_of s.frames)
count_asserted s xs h = sym (length-map xs text) ∙ ap length h.texts ∙ as_many s.frames

both_counted : (frames above : List Frame) → length (assertions_of (frames ++ above)) ≡ length (assertions_of frames) + length (assertions_of above)
both_counted frames above = ap length (flat_map-append terms_of frames above) ∙ length-append (assertions_of frames) (assertions_of above)

-- ---- candidates

pub named_candidates : (s : Stack) (above : List Frame) (xs : List Assertion) (ps : List ℕ) → AreAsserted s xs → ps ≡ named_places 0 (map text xs) → AreCandidates 0 (length (assertions_of (s.frames ++ above))) ps
named_candidates s above xs ps h e =
    subst (AreCandidates 0 (length (assertions_of (s.frames ++ above)))) (sym e)
    (names_are_candidates 0 (map text xs) (length (assertions_of (s.frames ++ above)))
    (let n : length (map text xs) ≡ length xs = length-map xs text in omega (arith, n, count_asserted s xs h, both_counted s.frames above)))

pub named_inside : (xs : List Assertion) (ps : List ℕ) → ps ≡ named_places 0 (map text xs) → AreCandidates 0 (length xs) ps
named_inside xs ps e =
    subst (AreCandidates 0 (length xs)) (sym e) (names_are_candidates 0 (map text xs) (length xs) (let n : length (map text xs) ≡ length xs = length-map xs text in omega (arith, n)))

pub assumed_candidates : (s : Stack) (above : List Frame) (xs : List Assertion) (below : ℕ) (texts : List (List Token)) (ps : List ℕ) → AreAsserted s xs → below ≡ length xs → texts ≡ flat_map texts_of above
    → ps ≡ range_with_len below (length texts) → AreCandidates 0 (length (assertions_of (s.frames ++ above))) ps
assumed_candidates s above xs below texts ps h b t e =
    let many : length texts ≡ length (assertions_of above) = ap length t ∙ as_many above in
    subst (AreCandidates 0 (length (assertions_of (s.frames ++ above)))) (sym e)
    (from_first below (length (assertions_of (s.frames ++ above))) (range_with_len below (length texts))
    (ranges_are_candidates below (length texts) (length (assertions_of (s.frames ++ above))) (omega (arith, b, many, count_asserted s xs h, both_counted s.frames above))))

pub assumed_inside : (below : ℕ) (texts : List (List Token)) (ps : List ℕ) → ps ≡ range_with_len below (length texts) → AreCandidates below (below + length texts) ps
assumed_inside below texts ps e = subst (AreCandidates below (below + length texts)) (sym e) (ranges_are_candidates below (length texts) (below + length texts) (omega arith))

-- ---- texts

all_texts : (s : State) → checked_texts s ≡ stack_texts s ++ flat_map texts_of s.above
all_texts s = flat_map-append texts_of s.stack.frames s.above

pub text_below : (s : State) (p : ℕ) → p < length (stack_texts s) → text_at (checked_texts s) p ≡ text_at (stack_texts s) p
text_below s p lt = ap (λ ts. text_at ts p) (all_texts s) ∙ get_or_append_left (stack_texts s) (flat_map texts_of s.above) [] p lt

pub text_above : (s : State) (p : ℕ) → length (stack_texts s) ≤ p → text_at (checked_texts s) p ≡ text_at (flat_map texts_of s.above) (p - length (stack_texts s))
text_above s p le = ap (λ ts. text_at ts p) (all_texts s) ∙ get_or-append_right (stack_texts s) (flat_map texts_of s.above) (length (stack_texts s)) p [] refl le

pub same_names : (s : State) (texts : List (List Token)) (hs : List Held) → texts ≡ stack_texts s → All (λ (h : Held). h.place < length texts) hs
    → map (λ (h : Held). name_or_none (name_of (sexp (text_at texts h.place)))) hs ≡ map (λ (h : Held). name_or_none (name_of (sexp (text_at (checked_texts s) h.place)))) hs
same_names s texts [] e a = refl
same_names s texts (h ∷ hs) e a =
    let lt : h.place < length (stack_texts s) = subst (λ ts. h.place < length ts) e (All-head (λ (x : Held). x.place < length texts) h hs a) in
    ap (λ t. name_or_none (name_of (sexp t)) ∷ map (λ (x : Held). name_or_none (name_of (sexp (text_at texts x.place)))) hs) (ap (λ ts. text_at ts h.place) e ∙ sym (text_below s h.place lt))
    ∙ ap (λ ns. name_or_none (name_of (sexp (text_at (checked_texts s) h.place))) ∷ ns) (same_names s texts hs e (All-tail (λ (x : Held). x.place < length texts) h hs a))

pub same_texts : (s : State) (below : ℕ) (texts : List (List Token)) (hs : List Held) → texts ≡ flat_map texts_of s.above → below ≡ length (stack_texts s) → All (IsHeldAmong below (length texts)) hs
    → map (λ (h : Held). text_at texts (h.place - below)) hs ≡ map (λ (h : Held). text_at (checked_texts s) h.place) hs
same_texts s below texts [] e b a = refl
same_texts s below texts (h ∷ hs) e b a =
    let le : length (stack_texts s) ≤ h.place = subst (λ n. n ≤ h.place) b (All-head (IsHeldAmong below (length texts)) h hs a).0 in
    ap (λ t. t ∷ map (λ (x : Held). text_at texts (x.place - below)) hs)
    (ap (λ ts. text_at ts (h.place - below)) e ∙ ap (λ n. text_at (flat_map texts_of s.above) (h.place - n)) b ∙ sym (text_above s h.place le))
    ∙ ap (λ ts. text_at (checked_texts s) h.place ∷ ts) (same_texts s below texts hs e b (All-tail (IsHeldAmong below (length texts)) h hs a))

-- ---- what the questions come to

-- an unsat mode is the mode unsat
pub mode_unsat : (m : Mode) → is_unsat m ≡ true → m ≡ Unsat
mode_unsat Unsat h = refl
mode_unsat Start h = cc
mode_unsat Assert h = cc
mode_unsat (Sat i) h = cc
mode_unsat (Unknown r) h = cc

-- those that are held are among the assertions of the stack
pub held_named : (s : Stack) (xs ys : List Assertion) (ps : List ℕ) (ts : List Tree) (frames : List Frame) (workers : ℕ) (limit : ℤ) (hs : List Held) → AreAsserted s xs → AreAsserted s ys → ps ≡ named_places 0 (map text xs)
    → IsReduced workers ts frames limit ps hs → All (λ (h : Held). h.place < length ys) hs
held_named s xs ys ps ts frames workers limit hs h k e r =
    subst (λ n. All (λ (x : Held). x.place < n) hs) (count_asserted s xs h ∙ sym (count_asserted s ys k)) (below (length xs) hs (held_within 0 (length xs) ts frames workers limit ps hs (named_inside xs ps e) r))
  where
    below : (n : ℕ) (us : List Held) → All (λ (x : Held). (0 ≤ x.place) × (x.place < n)) us → All (λ (x : Held). x.place < n) us
    below n [] a = All-nil (λ (x : Held). x.place < n)
    below n (u ∷ us) a = All-cons (λ (x : Held). x.place < n) u us (All-head (λ (x : Held). (0 ≤ x.place) × (x.place < n)) u us a).1 (below n us (All-tail (λ (x : Held). (0 ≤ x.place) × (x.place < n)) u us a))

pub core_answered : (old mid : State) (xs ys : List Assertion) (ps : List ℕ) (hs : List Held) (names : List (List ℕ)) → is_unsat old.mode ≡ true → old.options.produce_unsat_cores ≡ true → mid ≡ old
    → AreAsserted old.stack xs → AreAsserted mid.stack ys → ps ≡ named_places 0 (map text xs) → IsReduced old.settings.workers (checked_trees old) (checked_frames old) old.options.reproducible_resource_limit ps hs
    → names ≡ map (λ (h : Held). name_or_none (name_of (sexp (text_at (map text ys) h.place)))) hs → MayCome every_stack old (get_unsat_core old) (UnsatCore names) (Core hs) mid
core_answered old mid xs ys ps hs names unsat on e h k p r n =
    let ys_of : AreAsserted old.stack ys = subst (λ (t : State). AreAsserted t.stack ys) e k in
    let places_are : ps ≡ named_places 0 (stack_texts old) = p ∙ ap (named_places 0) h.texts in
    core_given named Named.ProduceUnsatCores old.options.produce_unsat_cores old hs (UnsatCore names) (Core hs) mid unsat on e
    (subst (λ qs. IsReduced old.settings.workers (checked_trees old) (checked_frames old) old.options.reproducible_resource_limit qs hs) places_are r)
    (ap UnsatCore (n ∙ same_names old (map text ys) hs ys_of.texts
    (subst (λ m. All (λ (x : Held). x.place < m) hs) (sym (length-map ys text)) (held_named old.stack xs ys ps (checked_trees old) (checked_frames old) old.settings.workers old.options.reproducible_resource_limit hs h ys_of p r))))
    refl

pub assumptions_answered : (old mid : State) (xs : List Assertion) (below : ℕ) (texts found : List (List Token)) (ps : List ℕ) (hs : List Held) → is_unsat old.mode ≡ true
    → old.options.produce_unsat_assumptions ≡ true → mid ≡ old → AreAsserted old.stack xs → below ≡ length xs → texts ≡ flat_map texts_of old.above → ps ≡ range_with_len below (length texts)
    → IsReduced old.settings.workers (checked_trees old) (checked_frames old) old.options.reproducible_resource_limit ps hs → found ≡ map (λ (h : Held). text_at texts (h.place - below)) hs
    → MayCome every_stack old (get_unsat_assumptions old) (UnsatAssumptions found) (Core hs) mid
assumptions_answered old mid xs below texts found ps hs unsat on e h b t p r n =
    let count : below ≡ length (stack_texts old) = b ∙ sym (length-map xs text) ∙ ap length h.texts in
    core_given assumed Named.ProduceUnsatAssumptions old.options.produce_unsat_assumptions old hs (UnsatAssumptions found) (Core hs) mid unsat on e
    (subst (λ qs. IsReduced old.settings.workers (checked_trees old) (checked_frames old) old.options.reproducible_resource_limit qs hs)
    (p ∙ ap (λ m. range_with_len m (length texts)) count ∙ ap (λ ws. range_with_len (length (stack_texts old)) (length ws)) t) r)
    (ap UnsatAssumptions (n ∙ same_texts old below texts hs t count (held_within below (below + length texts) (checked_trees old) (checked_frames old) old.settings.workers old.options.reproducible_resource_limit ps hs (assumed_inside below texts ps p) r)))
    refl
