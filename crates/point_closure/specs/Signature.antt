-- What congruent points share: one shape, and arguments of the same classes.
use Rattle.std.specs.Prelude.{ℕ, ◌/◌, ◌^◌, true, false, List, map, refl}
use Rattle.std.specs.Coded.{Coded, code_by, coded×, coded_ℕ, coded_list}
use Rattle.term_store.specs.Hash.{mixed, words_state}
use Rattle.point_closure.specs.declared.shape.Shape.{Shape}
use Rattle.point_closure.specs.declared.shape.Shape.TheVariants.{Leaf, Truth, Application}
use Rattle.point_closure.specs.declared.classes.Union.{Union}
use Rattle.point_closure.specs.Closure.{Point, point_at}
use Rattle.point_closure.specs.Unions.{root_of}

pub record Signature : Type 0 where
  pub shape : Shape
  pub classes : List ℕ

abbrev pub signature : List Point → List Union → ℕ → Signature
signature ps us i = record { shape = (point_at ps i).shape; classes = map (root_of us) (point_at ps i).arguments }

-- ---- a hash of a signature; no public contract speaks of it

abbrev pub shape_state : Shape → ℕ
shape_state Leaf = 1
shape_state (Truth true) = 2
shape_state (Truth false) = 3
shape_state (Application f) = mixed 4 f

unfoldable pub signature_hash : Signature → ℕ
signature_hash s = words_state (shape_state s.shape) s.classes / 2 ^ 32

-- ---- points, each under a hash

pub record Filed : Type 0 where
  pub hashes : List ℕ
  pub points : List ℕ

abbrev pub filed_code : Coded Filed
filed_code = code_by (List ℕ × List ℕ) (coded× (coded_list coded_ℕ) (coded_list coded_ℕ)) (λ f. (f.hashes, f.points)) (λ p. record { hashes = p.0; points = p.1 }) (λ _. refl)
