-- The script that a seed and a size give: four rounds, in each of which a check is satisfied, then one contradicted, then one satisfied.
use Rattle.std.specs.Prelude.{ℕ, zero, suc, ◌+◌, List, [], ◌∷◌, ◌++◌, codes, length, slice_index}
use Rattle.std.specs.Fmt.{decimal}
use Rattle.rand_pcg.specs.Lcg.{Lcg}
use Rattle.script_gen.specs.Draws.{seeded, draw, draws}

-- Texts one after another.
abbrev pub joined : List (List ℕ) → List ℕ
joined [] = []
joined (text ∷ rest) = text ++ joined rest

abbrev pub opening : List ℕ
opening = codes "(set-option :print-success false)\n(set-logic QF_UFLIA)\n(declare-fun f (Int) Int)\n"

abbrev pub closing : ℕ → List ℕ
closing size = joined (codes "(echo \"size " ∷ decimal size ∷ codes " sat 8 unsat 4\")\n" ∷ [])

-- The constant of place j.
abbrev pub declaration : ℕ → List ℕ
declaration j = joined (codes "(declare-const x" ∷ decimal j ∷ codes " Int)\n" ∷ [])

-- So many constants, from place j on.
unfoldable pub declarations : ℕ → ℕ → List ℕ
declarations j zero = []
declarations j (suc n) = declaration j ++ declarations (j + 1) n

-- The constant of place j is v or v + 1.
unfoldable pub bounds : ℕ → ℕ → List ℕ
bounds j v = joined (
    codes "(assert (<= " ∷ decimal v ∷ codes " x" ∷ decimal j ∷ codes "))\n"
    ∷ codes "(assert (<= x" ∷ decimal j ∷ codes " (+ " ∷ decimal v ∷ codes " 1)))\n" ∷ [])

-- Its value under f is c more.
unfoldable pub image : ℕ → ℕ → List ℕ
image c j = joined (codes "(assert (= (f x" ∷ decimal j ∷ codes ") (+ x" ∷ decimal j ∷ codes " " ∷ decimal c ∷ codes ")))\n" ∷ [])

-- Its sum with the constant of place k is at most s, or that one is less.
unfoldable pub choice : ℕ → ℕ → ℕ → List ℕ
choice j k s = joined (
    codes "(assert (or (<= (+ x" ∷ decimal j ∷ codes " x" ∷ decimal k ∷ codes ") " ∷ decimal s
    ∷ codes ") (< x" ∷ decimal k ∷ codes " x" ∷ decimal j ∷ codes ")))\n" ∷ [])

-- What is asserted of the constant of place j.
abbrev pub facts : ℕ → ℕ → ℕ → ℕ → ℕ → List ℕ
facts c j v k s = bounds j v ++ (image c j ++ choice j k s)

-- The same of the constants from place j on, which have these partners; s is the sum of the values of both.
unfoldable pub all_facts : ℕ → List ℕ → ℕ → List ℕ → List ℕ
all_facts c values j [] = []
all_facts c values j (k ∷ partners) =
    facts c j (slice_index values j) k (slice_index values j + slice_index values k) ++ all_facts c values (j + 1) partners

-- Three checks: the second is made where x0 is v, and f of v isn't c more.
unfoldable pub checks : ℕ → ℕ → List ℕ
checks c v = joined (
    codes "(check-sat)\n(push 1)\n(assert (= x0 " ∷ decimal v ∷ codes "))\n"
    ∷ codes "(assert (not (= (f " ∷ decimal v ∷ codes ") (+ " ∷ decimal v ∷ codes " " ∷ decimal c ∷ codes "))))\n"
    ∷ codes "(check-sat)\n(pop 1)\n(check-sat)\n(pop 1)\n" ∷ [])

unfoldable pub round_text : ℕ → List ℕ → List ℕ → List ℕ
round_text c values partners =
    codes "(push 1)\n" ++ (declarations 0 (length values) ++ (all_facts c values 0 partners ++ checks c (slice_index values 0)))

-- A round draws a value for each constant, and then a partner for each.
abbrev pub round : ℕ → ℕ → Lcg → List ℕ × Lcg
round size c g =
    let values = draws 1000 size g in
    let partners = draws size size values.1 in
    (round_text c values.0 partners.0, partners.1)

-- So many rounds, one after another.
unfoldable pub rounds : ℕ → ℕ → ℕ → Lcg → List ℕ
rounds size c zero g = []
rounds size c (suc n) g = (round size c g).0 ++ rounds size c n (round size c g).1

-- The first draw is the c of all rounds.
abbrev pub script : ℕ → ℕ → List ℕ
script seed size =
    let first = draw 1000 (seeded seed) in
    opening ++ (rounds size first.0 4 first.1 ++ closing size)
