-- A value that fits, or none.
use Rattle.std.specs.Prelude.{Bool, true, false, ◌&&◌, List, Option, Some, None}
use Rattle.smt_meaning.specs.declared.values.Value.{Value}
use Rattle.smt_meaning.specs.declared.terms.Operator.{Operator}
use Rattle.smt_meaning.specs.declared.terms.Head.{Head}
use Rattle.smt_meaning.specs.declared.terms.Head.TheVariants.{Theory}
use Rattle.smt_meaning.specs.declared.terms.Operator.TheVariants.{And, Or, Xor, Equal, Add, Subtract, Multiply, AtMost, Less, AtLeast, Greater, Divide}
use Rattle.std.specs.Prelude.{◌||◌, ◌+ℤ◌, ◌-ℤ◌, ◌*ℤ◌, int_le, int_lt}
use Rattle.smt_meaning.specs.Term.{Interpretation, apply, head_fits, operate, in_range, all_in_range, partials, partials_of, left_assoc, on_truths, on_numbers, xor, same_value, compare, int_ge, int_gt, quotient}

abbrev pub some_if : Bool → Value → Option Value
some_if true v = Some v
some_if false v = None

abbrev pub fitted_head : Interpretation → Head → List Value → Option Value
fitted_head I h vs = some_if (head_fits I h vs) (apply I h vs)

abbrev pub fitted_op : Operator → List Value → Option Value
fitted_op o vs = some_if (in_range (operate o vs) && all_in_range (partials (Theory o) vs)) (operate o vs)

-- the operators that fold from the left
abbrev pub binary : Operator → Value → Value → Value
binary And = on_truths ◌&&◌
binary Or = on_truths ◌||◌
binary Xor = on_truths xor
binary Add = on_numbers ◌+ℤ◌
binary Subtract = on_numbers ◌-ℤ◌
binary Multiply = on_numbers ◌*ℤ◌
binary Divide = on_numbers quotient
binary _ = on_truths ◌&&◌

abbrev pub folds : Operator → Bool
folds And = true
folds Or = true
folds Xor = true
folds Add = true
folds Subtract = true
folds Multiply = true
folds Divide = true
folds _ = false

abbrev pub fitted_fold : Operator → List Value → Option Value
fitted_fold o vs = some_if (in_range (left_assoc (binary o) vs) && all_in_range (partials_of (binary o) vs)) (left_assoc (binary o) vs)

-- the operators that compare neighbours
abbrev pub relation : Operator → Value → Value → Bool
relation Equal = same_value
relation AtMost = compare int_le
relation Less = compare int_lt
relation AtLeast = compare int_ge
relation Greater = compare int_gt
relation _ = same_value

abbrev pub chains : Operator → Bool
chains Equal = true
chains AtMost = true
chains Less = true
chains AtLeast = true
chains Greater = true
chains _ = false
