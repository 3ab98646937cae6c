-- The text of a reply ends in one line feed.
use Rattle.std.proofs.Common.{◌≡◌, ◌≢◌, ◌<◌, ◌⊎◌, inl, inr, ℕ, zero, suc, ◌+◌, ◌/◌, ◌%◌, Bool, true, false, List, [], ◌∷◌, ◌++◌, map, refl, ap, nat_lt, arith}
use Rattle.std.specs.Prelude.{codes, pos, negsuc, ◌==◌, if◌then◌else◌}
use Rattle.std.specs.Fmt.{decimal, digits, digits_onto, digit_glyph}
use Rattle.smt_meaning.specs.declared.options.OptionValue.{OptionValue}
use Rattle.smt_meaning.specs.declared.options.OptionValue.TheVariants as Shown
use Rattle.smt_meaning.specs.declared.options.Info.{Info}
use Rattle.smt_meaning.specs.declared.options.Info.TheVariants.{Name, Version, Authors, ErrorBehavior, AssertionStackLevels, ReasonUnknown}
use Rattle.smt_meaning.specs.declared.answers.Reply.{Reply}
use Rattle.smt_meaning.specs.declared.answers.Reply.TheVariants as Given
use Rattle.smt_meaning.specs.Text.{named_truth_text, text, line, listed, spaced, literal, quotes_doubled, option_text, info_text, reason_text, tokens_text, term_value_text, function_text, error_text, symbol_text, integer_text}
use Rattle.smt_laws.specs.LanguageLaws.{IsLine}

-- ---- bytes that end in another byte than a line feed

pub EndsWell : List ℕ → Type 0
EndsWell t = (front : List ℕ) × (last : ℕ) × (t ≡ front ++ last ∷ []) × (last ≢ 10)

past_ten : (b : ℕ) → 10 < b → b ≢ 10
past_ten b h e = omega (arith, h, e)

closed_list : (ts : List (List ℕ)) → EndsWell (listed ts)
unfolding EndsWell
closed_list ts = (40 ∷ spaced ts, 41, refl, past_ten 41 (omega arith))

closed_literal : (cs : List ℕ) → EndsWell (literal cs)
unfolding EndsWell
closed_literal cs = (34 ∷ quotes_doubled cs, 34, refl, past_ten 34 (omega arith))

as_line : (t : List ℕ) → EndsWell t → IsLine (line t)
unfolding EndsWell
as_line t e = (e.0, e.1, ap line e.2, e.3)

-- ---- numbers

glyph_past_ten : (d : ℕ) → 10 < digit_glyph false d
glyph_past_ten d = elim (nat_lt d 10) as (λ b. 10 < (if b then 48 + d else 87 + d)) [ true ↦ omega arith | false ↦ omega arith ]

-- what goes on to the left of bytes that end well ends well
one_more : (small : Bool) (c : ℕ) (acc rest : List ℕ) → EndsWell (c ∷ acc) → EndsWell rest → EndsWell (if small then c ∷ acc else rest)
one_more true c acc rest e f = e
one_more false c acc rest e f = f

longer : (c : ℕ) (t : List ℕ) → EndsWell t → EndsWell (c ∷ t)
unfolding EndsWell
longer c t e = (c ∷ e.0, e.1, ap (λ u. c ∷ u) e.2, e.3)

digits_end : (k n : ℕ) (acc : List ℕ) → EndsWell acc → EndsWell (digits_onto k 10 false n acc)
digits_end zero n acc e = e
digits_end (suc k) n acc e =
    one_more (n / 10 == 0) (digit_glyph false (n % 10)) acc (digits_onto k 10 false (n / 10) (digit_glyph false (n % 10) ∷ acc))
    (longer (digit_glyph false (n % 10)) acc e) (digits_end k (n / 10) (digit_glyph false (n % 10) ∷ acc) (longer (digit_glyph false (n % 10)) acc e))

alone : (c : ℕ) → 10 < c → EndsWell (c ∷ [])
unfolding EndsWell
alone c h = ([], c, refl, past_ten c h)

closed_decimal : (n : ℕ) → EndsWell (decimal n)
unfolding digits
closed_decimal n =
    one_more (n / 10 == 0) (digit_glyph false (n % 10)) [] (digits_onto 63 10 false (n / 10) (digit_glyph false (n % 10) ∷ []))
    (alone (digit_glyph false (n % 10)) (glyph_past_ten (n % 10)))
    (digits_end 63 (n / 10) (digit_glyph false (n % 10) ∷ []) (alone (digit_glyph false (n % 10)) (glyph_past_ten (n % 10))))

-- ---- replies

words : (front : List ℕ) (last : ℕ) → 10 < last → EndsWell (front ++ last ∷ [])
unfolding EndsWell
words front last h = (front, last, refl, past_ten last h)

option_ends : (v : OptionValue) → EndsWell (option_text v)
option_ends (Shown.Truth true) = words (codes "tru") 101 (omega arith)
option_ends (Shown.Truth false) = words (codes "fals") 101 (omega arith)
option_ends (Shown.Number (pos n)) = closed_decimal n
option_ends (Shown.Number (negsuc n)) = closed_list (codes "-" ∷ decimal (n + 1) ∷ [])
option_ends (Shown.Text t) = closed_literal t

info_ends : (i : Info) → EndsWell (info_text i)
info_ends Name = words (codes "(:name \"smt_cli\"") 41 (omega arith)
info_ends Version = words (codes "(:version \"1.0\"") 41 (omega arith)
info_ends Authors = words (codes "(:authors \"the smt_cli team\"") 41 (omega arith)
info_ends ErrorBehavior = words (codes "(:error-behavior continued-execution") 41 (omega arith)
info_ends (AssertionStackLevels n) = closed_list (codes ":assertion-stack-levels" ∷ decimal n ∷ [])
info_ends (ReasonUnknown r) = closed_list (codes ":reason-unknown" ∷ reason_text r ∷ [])

pub ends_in_one_line : (r : Reply) → ((r ≡ Given.Silent) × (text r ≡ [])) ⊎ IsLine (text r)
unfolding text
ends_in_one_line Given.Success = inr (as_line (codes "success") (words (codes "succes") 115 (omega arith)))
ends_in_one_line Given.Silent = inl (refl, refl)
ends_in_one_line Given.Unsupported = inr (as_line (codes "unsupported") (words (codes "unsupporte") 100 (omega arith)))
ends_in_one_line Given.Sat = inr (as_line (codes "sat") (words (codes "sa") 116 (omega arith)))
ends_in_one_line Given.Unsat = inr (as_line (codes "unsat") (words (codes "unsa") 116 (omega arith)))
ends_in_one_line Given.Unknown = inr (as_line (codes "unknown") (words (codes "unknow") 110 (omega arith)))
ends_in_one_line (Given.Echo t) = inr (as_line (literal t) (closed_literal t))
ends_in_one_line (Given.Option v) = inr (as_line (option_text v) (option_ends v))
ends_in_one_line (Given.Info i) = inr (as_line (info_text i) (info_ends i))
ends_in_one_line (Given.Values vs) = inr (as_line (listed (map term_value_text vs)) (closed_list (map term_value_text vs)))
ends_in_one_line (Given.Model fs) = inr (as_line (listed (map function_text fs)) (closed_list (map function_text fs)))
ends_in_one_line (Given.Assertions ts) = inr (as_line (listed (map tokens_text ts)) (closed_list (map tokens_text ts)))
ends_in_one_line (Given.Assignment vs) = inr (as_line (listed (map named_truth_text vs)) (closed_list (map named_truth_text vs)))
ends_in_one_line (Given.UnsatCore ns) = inr (as_line (listed (map symbol_text ns)) (closed_list (map symbol_text ns)))
ends_in_one_line (Given.UnsatAssumptions ts) = inr (as_line (listed (map tokens_text ts)) (closed_list (map tokens_text ts)))
ends_in_one_line (Given.Minimum n) = inr (as_line (listed (codes "minimum" ∷ integer_text n ∷ [])) (closed_list (codes "minimum" ∷ integer_text n ∷ [])))
ends_in_one_line (Given.Error e) =
    inr (as_line (listed (codes "error" ∷ literal (error_text e) ∷ [])) (closed_list (codes "error" ∷ literal (error_text e) ∷ [])))
