-- Texts and draws, taken one more at a time.
use Rattle.std.proofs.Common.{◌≡◌, ◌∙◌, ℕ, zero, suc, ◌+◌, ◌-◌, ◌<◌, ◌≤◌, List, [], ◌∷◌, ◌++◌, ap, sym, refl, arith, append_assoc, append-nil, drop, length, slice_index, codes, Result, Ok, Err, OnOk}
use Rattle.std.proofs.lemmas.List.{drop_all}
use Rattle.rand_pcg.specs.Lcg.{Lcg}
use Rattle.script_gen.specs.Draws.{draw, draws}
use Rattle.script_gen.specs.Script.{declaration, declarations, bounds, image, choice, facts, all_facts, checks, round, round_text, rounds}

one_less : (n k : ℕ) → k < n → n - k ≡ suc (n - (k + 1))
one_less n k lt = omega arith

none_left : (n k : ℕ) → n ≤ k → n - k ≡ 0
none_left n k le = omega arith

-- a text goes on
pub goes_on : (old new text rest more whole : List ℕ) → new ≡ old ++ text → more ≡ text ++ rest → old ++ more ≡ whole → new ++ rest ≡ whole
goes_on old new text rest more whole here is so =
    ap (λ s. s ++ rest) here ∙ append_assoc old text rest ∙ ap (λ s. old ++ s) (sym is) ∙ so

-- and is over
pub is_over : (out rest whole : List ℕ) → rest ≡ [] → out ++ rest ≡ whole → out ≡ whole
is_over out rest whole none so = sym (append-nil out) ∙ ap (λ s. out ++ s) (sym none) ∙ so

pub declaration_more : (n k : ℕ) → k < n → declarations k (n - k) ≡ declaration k ++ declarations (k + 1) (n - (k + 1))
unfolding declarations
declaration_more n k lt = ap (declarations k) (one_less n k lt)

pub no_declaration : (n k : ℕ) → n ≤ k → declarations k (n - k) ≡ []
unfolding declarations
no_declaration n k le = ap (declarations k) (none_left n k le)

at_place : (xs : List ℕ) (j : ℕ) → j < length xs → drop j xs ≡ slice_index xs j ∷ drop (suc j) xs
at_place [] j lt = absurd (omega arith)
at_place (x ∷ xs) zero lt = refl
at_place (x ∷ xs) (suc j) lt = at_place xs j (omega arith)

pub facts_more : (c : ℕ) (values : List ℕ) (j : ℕ) (partners : List ℕ) → j < length partners
    → all_facts c values j (drop j partners)
    ≡ facts c j (slice_index values j) (slice_index partners j) (slice_index values j + slice_index values (slice_index partners j)) ++ all_facts c values (j + 1) (drop (j + 1) partners)
unfolding all_facts
facts_more c values j partners lt =
    let next : suc j ≡ j + 1 = omega arith in
    ap (all_facts c values j) (at_place partners j lt ∙ ap (λ m. slice_index partners j ∷ drop m partners) next)

pub no_facts : (c : ℕ) (values : List ℕ) (j : ℕ) (partners : List ℕ) → length partners ≤ j → all_facts c values j (drop j partners) ≡ []
unfolding all_facts
no_facts c values j partners le = ap (all_facts c values j) (drop_all j partners le)

pub round_more : (size c n k : ℕ) (g : Lcg) → k < n → rounds size c (n - k) g ≡ (round size c g).0 ++ rounds size c (n - (k + 1)) (round size c g).1
unfolding rounds
round_more size c n k g lt = ap (λ m. rounds size c m g) (one_less n k lt)

pub no_round : (size c n k : ℕ) (g : Lcg) → n ≤ k → rounds size c (n - k) g ≡ []
unfolding rounds
no_round size c n k g le = ap (λ m. rounds size c m g) (none_left n k le)

-- one number more is drawn
pub draw_more : (bound n k : ℕ) (g now : Lcg) (d : ℕ) (xs : List ℕ) (whole : List ℕ × Lcg) → k < n → (d, now) ≡ draw bound g
    → (xs ++ (draws bound (n - k) g).0, (draws bound (n - k) g).1) ≡ whole
    → ((xs ++ d ∷ []) ++ (draws bound (n - (k + 1)) now).0, (draws bound (n - (k + 1)) now).1) ≡ whole
unfolding draws
draw_more bound n k g now d xs whole lt is so =
    let m = n - (k + 1) in
    ap (λ (p : ℕ × Lcg). ((xs ++ p.0 ∷ []) ++ (draws bound m p.1).0, (draws bound m p.1).1)) is
    ∙ ap (λ (ys : List ℕ). (ys, (draws bound m (draw bound g).1).1)) (append_assoc xs ((draw bound g).0 ∷ []) (draws bound m (draw bound g).1).0)
    ∙ ap (λ l. (xs ++ (draws bound l g).0, (draws bound l g).1)) (sym (one_less n k lt))
    ∙ so

pub no_draw : (bound n k : ℕ) (g : Lcg) (xs : List ℕ) (whole : List ℕ × Lcg) → n ≤ k
    → (xs ++ (draws bound (n - k) g).0, (draws bound (n - k) g).1) ≡ whole → (xs, g) ≡ whole
unfolding draws
no_draw bound n k g xs whole le so =
    ap (λ (ys : List ℕ). (ys, g)) (sym (append-nil xs)) ∙ ap (λ l. (xs ++ (draws bound l g).0, (draws bound l g).1)) (sym (none_left n k le)) ∙ so

-- one text behind another
appended : {A E : Type 0} (r : Result A E) (start mid new a b : List ℕ) → mid ≡ start ++ a → OnOk r (new ≡ mid ++ b) → OnOk r (new ≡ start ++ (a ++ b))
appended (Ok x) start mid new a b e h = h ∙ ap (λ s. s ++ b) e ∙ append_assoc start a b
appended (Err x) start mid new a b e h = h

pub round_written : {A E : Type 0} (r : Result A E) (c : ℕ) (values partners t0 t1 t2 t3 t4 : List ℕ) → t1 ≡ t0 ++ codes "(push 1)\n" → t2 ≡ t1 ++ declarations 0 (length values)
    → t3 ≡ t2 ++ all_facts c values 0 partners → OnOk r (t4 ≡ t3 ++ checks c (slice_index values 0)) → OnOk r (t4 ≡ t0 ++ round_text c values partners)
unfolding round_text
round_written r c values partners t0 t1 t2 t3 t4 a b d e =
    let declared = declarations 0 (length values) in
    let asserted = all_facts c values 0 partners in
    let checked = checks c (slice_index values 0) in
    appended r t0 t1 t4 (codes "(push 1)\n") (declared ++ (asserted ++ checked)) a
    (appended r t1 t2 t4 declared (asserted ++ checked) b (appended r t2 t3 t4 asserted checked d e))

-- what is asserted of one constant
pub facts_written : (c j v k s : ℕ) (t0 t1 t2 t3 : List ℕ) → t1 ≡ t0 ++ bounds j v → t2 ≡ t1 ++ image c j → t3 ≡ t2 ++ choice j k s → t3 ≡ t0 ++ facts c j v k s
facts_written c j v k s t0 t1 t2 t3 a b d =
    d ∙ ap (λ t. t ++ choice j k s) (b ∙ ap (λ t. t ++ image c j) a)
    ∙ append_assoc (t0 ++ bounds j v) (image c j) (choice j k s) ∙ append_assoc t0 (bounds j v) (image c j ++ choice j k s)
