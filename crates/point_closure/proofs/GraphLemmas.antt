-- Points as they are kept: one more, and fewer.
use Rattle.std.proofs.Common.{◌≡◌, ℕ, ◌<◌, List, [], ◌∷◌, ◌++◌, length, get_or, take, All, inl, inr, subst, sym, ap, ◌∙◌, arith}
use Rattle.std.proofs.lemmas.List.{map-append, length-map, take-map, take_all}
use Rattle.std.proofs.lemmas.Bool.{cases_lt}
use Rattle.term_store.proofs.RowLemmas.{map_at, earlier_push, earlier_take}
use Rattle.point_closure.specs.declared.shape.Shape.{Shape}
use Rattle.point_closure.specs.Closure.{Point, ArePoints}
use Rattle.point_closure.specs.Kept.{point_of, points_of}

pub length-points : (rows : List (Shape × List ℕ)) → length (points_of rows) ≡ length rows
length-points rows = length-map rows (λ r. point_of r.0 r.1)

point_row : (rows : List (Shape × List ℕ)) (k : ℕ) (d : Point) (r : Shape × List ℕ) → k < length rows → get_or (points_of rows) k d ≡ point_of (get_or rows k r).0 (get_or rows k r).1
point_row rows k d r short = map_at (λ r. point_of r.0 r.1) rows k d r short

pub shape_row : (rows : List (Shape × List ℕ)) (k : ℕ) (d : Point) (shape : Shape) → k < length rows → ((r : Shape × List ℕ) → (get_or rows k r).0 ≡ shape) → (get_or (points_of rows) k d).shape ≡ shape
shape_row rows k d shape short same = ap (λ (p : Point). p.shape) (point_row rows k d (shape, []) short) ∙ same (shape, [])

pub arguments_row : (rows : List (Shape × List ℕ)) (k : ℕ) (d : Point) (is : List ℕ) → k < length rows → ((r : Shape × List ℕ) → (get_or rows k r).1 ≡ is) → (get_or (points_of rows) k d).arguments ≡ is
arguments_row rows k d is short same = ap (λ (p : Point). p.arguments) (point_row rows k d (d.shape, is) short) ∙ same (d.shape, is)

pub points_push : (rows : List (Shape × List ℕ)) (shape : Shape) (is : List ℕ) → points_of (rows ++ (shape, is) ∷ []) ≡ points_of rows ++ point_of shape is ∷ []
points_push rows shape is = map-append (λ r. point_of r.0 r.1) rows ((shape, is) ∷ [])

pub points_take : (k : ℕ) (rows : List (Shape × List ℕ)) → points_of (take k rows) ≡ take k (points_of rows)
points_take k rows = sym (take-map (λ r. point_of r.0 r.1) k rows)

pub ArePoints-push : (rows : List (Shape × List ℕ)) (shape : Shape) (is : List ℕ) → ArePoints (points_of rows) → All (λ i. i < length (points_of rows)) is
    → ArePoints (points_of (rows ++ (shape, is) ∷ []))
ArePoints-push rows shape is earlier below = subst ArePoints (sym (points_push rows shape is)) (earlier_push (λ p. p.arguments) (points_of rows) (point_of shape is) earlier below)

pub ArePoints-take : (k : ℕ) (rows : List (Shape × List ℕ)) → ArePoints (points_of rows) → ArePoints (points_of (take k rows))
ArePoints-take k rows earlier =
    elim (cases_lt k (length (points_of rows))) [
      | inl short ↦ subst ArePoints (sym (points_take k rows)) (earlier_take (λ p. p.arguments) (points_of rows) k (omega arith) earlier)
      | inr long ↦ rw (take_all k rows (omega (arith, length-points rows))) earlier
    ]
