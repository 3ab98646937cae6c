-- The sums that a proof writes.
use Rattle.std.specs.Prelude.{◌≡◌, ℕ, Bool, true, false, not, ◌&&◌, ◌||◌, nat_eq, nat_lt, List, [], ◌∷◌, map, Option, Some, None, if◌then◌else◌}
use Rattle.fraction128.specs.Whole.{is_in_range}
use Rattle.smt_meaning.specs.declared.clauses.Summand.{Summand}
use Rattle.smt_meaning.specs.Sexp.{Sexp, Sexps}
use Rattle.smt_meaning.specs.Command.{each}
use Rattle.smt_meaning.specs.Linear.{is_zero, sums_added}
use Rattle.proof_meaning.specs.Reading.{with, summand_read}
use Rattle.proof_read.specs.Reads.{is_term_number}

-- a summand whose coefficient isn't 0
abbrev pub summand_in : Sexp → Option Summand
summand_in x = with (summand_read x) (λ p. if is_zero p.coefficient then None else Some p)

abbrev pub summand_fits : Summand → Bool
summand_fits p = is_in_range p.coefficient

abbrev pub summand_near : Summand → Bool
summand_near p = is_term_number p.term

-- no coefficient is 0
abbrev pub no_zero : List Summand → Bool
no_zero [] = true
no_zero (p ∷ ps) = not (is_zero p.coefficient) && no_zero ps

abbrev pub terms_of : List Summand → List ℕ
terms_of ps = map (λ (p : Summand). p.term) ps

-- ---- numbers of which none stands twice

abbrev pub stands_in : ℕ → List ℕ → Bool
stands_in n [] = false
stands_in n (m ∷ ms) = nat_eq n m || stands_in n ms

abbrev pub are_apart : List ℕ → Bool
are_apart [] = true
are_apart (n ∷ ns) = not (stands_in n ns) && are_apart ns

abbrev pub are_above : ℕ → List ℕ → Bool
are_above n [] = true
are_above n (m ∷ ms) = nat_lt n m && are_above m ms

-- each is above the one before it
abbrev pub are_rising : List ℕ → Bool
are_rising [] = true
are_rising (n ∷ ns) = are_above n ns

-- ---- sums

-- the sum of summands, where no leaf stands twice among them
abbrev pub sum_in : Sexps → Option (List Summand)
sum_in ss = with (each summand_in ss) (λ ps. if are_apart (terms_of ps) then Some (sums_added ps []) else None)

abbrev pub Arranges : List Summand → Option (List Summand) → Type 0
Arranges ps None = are_apart (terms_of ps) ≡ false
Arranges ps (Some qs) = (are_apart (terms_of ps) ≡ true) × (qs ≡ sums_added ps [])

-- whether no leaf stands twice among them
abbrev pub IsApart : List Summand → Option (List Summand) → Type 0
IsApart ps None = are_apart (terms_of ps) ≡ false
IsApart ps (Some qs) = are_apart (terms_of ps) ≡ true
