-- Whether the numbers of a multiple and of a sum of rows stay in the range.
use Rattle.std.specs.Prelude.{◌≡◌, Bool, true, ◌&&◌, nat_lt, List, [], ◌∷◌, if◌then◌else◌}
use Rattle.std.specs.declared.cmp.Ordering.{Ordering}
use Rattle.std.specs.declared.cmp.Ordering.TheVariants.{Less, Equal, Greater}
use Rattle.fraction128.specs.declared.ratio.Ratio.{Ratio}
use Rattle.fraction128.specs.Listed.{product_steps}
use Rattle.fraction128.specs.declared.Entry.{Entry}
use Rattle.fraction128.specs.Grid.{fit, fused_fits}

-- each coefficient times t
abbrev pub scaled_fits : Ratio → List Entry → Bool
scaled_fits t [] = true
scaled_fits t (e ∷ es) = fit (product_steps e.coefficient t) && scaled_fits t es

-- a times each coefficient
abbrev pub multiplied_fits : Ratio → List Entry → Bool
multiplied_fits a [] = true
multiplied_fits a (e ∷ es) = fit (product_steps a e.coefficient) && multiplied_fits a es

-- x and then what is left, with a times zs
abbrev pub onto_fits : Ratio → Entry → (List Entry → Bool) → List Entry → Bool
onto_fits a x rest [] = rest []
onto_fits a x rest (z ∷ zs) =
    if nat_lt x.variable z.variable then rest (z ∷ zs)
    else if nat_lt z.variable x.variable then fit (product_steps a z.coefficient) && onto_fits a x rest zs
    else fused_fits x.coefficient a z.coefficient && rest zs

-- two ascending lists, the second times a, added up
abbrev pub merged_fits : Ratio → List Entry → List Entry → Bool
merged_fits a [] zs = multiplied_fits a zs
merged_fits a (x ∷ xs) zs = onto_fits a x (merged_fits a xs) zs

-- one step of a merge, by how the variables compare
abbrev pub StepFits : Ratio → Entry → Entry → Ordering → Type 0
StepFits a x z Less = Unit {0}
StepFits a x z Greater = fit (product_steps a z.coefficient) ≡ true
StepFits a x z Equal = fused_fits x.coefficient a z.coefficient ≡ true
