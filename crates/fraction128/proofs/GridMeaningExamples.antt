-- The definitions on examples: x, y, s numbered in that order and the row s = x + y.
use Rattle.std.proofs.Common.{Bool, ◌≡◌, ℕ, ℤ, pos, negsuc, List, [], ◌∷◌, Option, Some, None, true, false, refl}
use Rattle.fraction128.specs.Gcd.{gcd_of}
use Rattle.fraction128.specs.Listed.{sum_of, sum_over, reduced_by, sum_steps, product_of, product_steps}
use Rattle.fraction128.specs.declared.Entry.{Entry}
use Rattle.fraction128.specs.declared.TableRow.{TableRow}
use Rattle.fraction128.specs.declared.Column.{Column}
use Rattle.fraction128.specs.declared.Grid.{Grid}
use Rattle.fraction128.specs.declared.Summand.{Summand}
use Rattle.fraction128.specs.declared.Pending.{Pending}
use Rattle.fraction128.specs.Number.{whole}
use Rattle.fraction128.specs.Grid.{take, step_fits, after, move, pivot, next_step, move_fits, pivot_fits, pivot_values_fit, after_move, after_pivot, pivoted_rows}

entry : ℕ → ℤ → Entry
entry i k = record { variable = i; coefficient = whole k }

abbrev row : ℕ → List Entry → TableRow
row b es = record { basic = b; entries = es }

abbrev e1 : ℕ → ℤ → Entry
e1 i k = record { variable = i; coefficient = whole k }

abbrev col : Option ℤ → Option ℤ → ℤ → Column
col a b v = record { sum = []; lower = a; upper = b; value = whole v }

abbrev s_row : TableRow
s_row = row 2 (e1 0 (pos 1) ∷ e1 1 (pos 1) ∷ [])

-- the pivot of s and x gives x = s - y
pivot_s_x : pivoted_rows 3 (s_row ∷ []) 2 0 ≡ row 0 (e1 1 (negsuc 0) ∷ e1 2 (pos 1) ∷ []) ∷ []
unfolding gcd_of sum_of sum_over reduced_by product_of
pivot_s_x = refl

-- s <= -1, all values 0: the next step is the pivot of s and x, and it fits; after it x = -1, y = 0, s = -1, and there is no next step
abbrev g1 : Grid
g1 = record { columns = col None None (pos 0) ∷ col None None (pos 0) ∷ col None (Some (negsuc 0)) (pos 0) ∷ []; rows = s_row ∷ []; pending = None }

next_of_g1 : next_step g1 ≡ Some (pivot 2 (negsuc 0) 0)
next_of_g1 = refl

g1_rows_fit : pivot_fits 3 g1.rows 2 0 ≡ true
unfolding gcd_of sum_of sum_over reduced_by sum_steps product_of product_steps
g1_rows_fit = refl

g1_values_fit : pivot_values_fit g1 2 (negsuc 0) 0 ≡ true
unfolding gcd_of sum_of sum_over reduced_by sum_steps product_of product_steps
g1_values_fit = refl

abbrev g1_after : Grid
g1_after =
    record {
      columns = col None None (negsuc 0) ∷ col None None (pos 0) ∷ col None (Some (negsuc 0)) (negsuc 0) ∷ [];
      rows = row 0 (e1 1 (negsuc 0) ∷ e1 2 (pos 1) ∷ []) ∷ [];
      pending = None;
    }

after_g1 : after_pivot g1 2 (negsuc 0) 0 ≡ g1_after
unfolding gcd_of sum_of sum_over reduced_by product_of
after_g1 = refl

none_after_g1 : next_step g1_after ≡ None
none_after_g1 = refl

-- x >= MAX, y >= 1: x moves to MAX, s with it; then y's move doesn't fit
abbrev max : ℤ
max = pos 170141183460469231731687303715884105727

abbrev g2 : ℤ → ℤ → Grid
g2 x s = record { columns = col (Some max) None x ∷ col (Some (pos 1)) None (pos 0) ∷ col None None s ∷ []; rows = s_row ∷ []; pending = None }

next_of_g2 : next_step (g2 (pos 0) (pos 0)) ≡ Some (move 0 max)
next_of_g2 = refl

g2_fits : move_fits (g2 (pos 0) (pos 0)) 0 max ≡ true
unfolding gcd_of sum_of sum_over reduced_by sum_steps product_of product_steps
g2_fits = refl

after_g2 : after_move (g2 (pos 0) (pos 0)) 0 max ≡ g2 max max
unfolding gcd_of sum_of sum_over reduced_by product_of
after_g2 = refl

next_then : next_step (g2 max max) ≡ Some (move 1 (pos 1))
next_then = refl

not_then : move_fits (g2 max max) 1 (pos 1) ≡ false
unfolding gcd_of sum_of sum_over reduced_by sum_steps product_of product_steps
not_then = refl

-- s <= 1, x >= 1, y >= 1: two moves, and then none can help s
abbrev g3 : ℤ → ℤ → ℤ → Grid
g3 x y s = record { columns = col (Some (pos 1)) None x ∷ col (Some (pos 1)) None y ∷ col None (Some (pos 1)) s ∷ []; rows = s_row ∷ []; pending = None }

moves_g3 : next_step (g3 (pos 0) (pos 0) (pos 0)) ≡ Some (move 0 (pos 1))
moves_g3 = refl

moves_g3_again : next_step (g3 (pos 1) (pos 0) (pos 1)) ≡ Some (move 1 (pos 1))
moves_g3_again = refl

conflict_g3 : next_step (g3 (pos 1) (pos 1) (pos 2)) ≡ None
conflict_g3 = refl

-- ---- bounds that are taken in: x and y are the terms 5 and 7

abbrev part : ℤ → ℕ → Summand
part k t = record { coefficient = k; term = t }

abbrev leaf_column : ℕ → ℤ → Column
leaf_column t v = record { sum = part (pos 1) t ∷ []; lower = None; upper = None; value = whole v }

abbrev bound_of : List Summand → ℤ → Bool → Pending
bound_of ps k b = record { sum = ps; number = k; holds = b }

-- x = 2, y = 3
abbrev g4 : Pending → Grid
g4 p = record { columns = leaf_column 5 (pos 2) ∷ leaf_column 7 (pos 3) ∷ []; rows = []; pending = Some p }

-- -x - y <= -1: the sum is turned, so that x + y is at least 1; it gets the variable 2, with its row and the value 5
abbrev p4 : Pending
p4 = bound_of (part (negsuc 0) 5 ∷ part (negsuc 0) 7 ∷ []) (negsuc 0) true

takes_g4 : next_step (g4 p4) ≡ Some (take p4)
takes_g4 = refl

g4_fits : step_fits (g4 p4) (take p4) ≡ true
unfolding gcd_of sum_of sum_over reduced_by sum_steps product_of product_steps
g4_fits = refl

after_g4 : after (g4 p4) (take p4) ≡
    (record {
      columns = leaf_column 5 (pos 2) ∷ leaf_column 7 (pos 3) ∷ record { sum = part (pos 1) 5 ∷ part (pos 1) 7 ∷ []; lower = Some (pos 1); upper = None; value = whole (pos 5) } ∷ [];
      rows = row 2 (e1 0 (pos 1) ∷ e1 1 (pos 1) ∷ []) ∷ [];
      pending = None;
    })
unfolding gcd_of sum_of sum_over reduced_by product_of
after_g4 = refl

-- x isn't at most 4: x is at least 5
after_x : after (g4 (bound_of (part (pos 1) 5 ∷ []) (pos 4) false)) (take (bound_of (part (pos 1) 5 ∷ []) (pos 4) false)) ≡
    (record {
      columns = record { sum = part (pos 1) 5 ∷ []; lower = Some (pos 5); upper = None; value = whole (pos 2) } ∷ leaf_column 7 (pos 3) ∷ [];
      rows = [];
      pending = None;
    })
after_x = refl

-- x isn't at most MAX: the number past it leaves the range
past_max : step_fits (g4 (bound_of (part (pos 1) 5 ∷ []) max false)) (take (bound_of (part (pos 1) 5 ∷ []) max false)) ≡ false
past_max = refl

-- MAX * x at x = 2: the row fits, and its value doesn't
past_value : step_fits (g4 (bound_of (part max 5 ∷ []) (pos 0) true)) (take (bound_of (part max 5 ∷ []) (pos 0) true)) ≡ false
unfolding gcd_of sum_of sum_over reduced_by sum_steps product_of product_steps
past_value = refl
