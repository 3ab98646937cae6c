-- A declaration as numbers and lists: how a proof stores one. No definition speaks of it.
use Rattle.std.specs.Prelude.{◌≡◌, ℕ, zero, suc, Bool, List, Option, refl}
use Rattle.std.specs.Coded.{Coded, code_by, coded×, coded_ℕ, coded_bool, coded_list, coded_option}
use Rattle.smt_meaning.specs.declared.values.Sort.{Sort}
use Rattle.smt_meaning.specs.declared.values.Sort.TheVariants.{Bool as Truths, Int as Ints, Free}
use Rattle.smt_meaning.specs.declared.declarations.Rank.{Rank}
use Rattle.smt_meaning.specs.Term.{Tree}
use Rattle.smt_meaning.specs.TreeCode.{coded_tree, coded_trees}
use Rattle.smt_meaning.specs.Declaration.{Body, Declaration}

abbrev sort_code : Sort → ℕ
sort_code Truths = 0
sort_code Ints = 1
sort_code (Free s) = suc (suc s)

abbrev sort_at : ℕ → Sort
sort_at zero = Truths
sort_at (suc zero) = Ints
sort_at (suc (suc s)) = Free s

pub sort_back : (s : Sort) → sort_at (sort_code s) ≡ s
sort_back Truths = refl
sort_back Ints = refl
sort_back (Free s) = refl

abbrev pub coded_sort : Coded Sort
coded_sort = code_by ℕ coded_ℕ sort_code sort_at sort_back

abbrev pub coded_rank : Coded Rank
coded_rank =
    code_by (List Sort × Sort) (coded× (coded_list coded_sort) coded_sort) (λ (r : Rank). (r.arguments, r.result)) (λ p. record { arguments = p.0; result = p.1 }) (λ r. refl)

abbrev pub coded_body : Coded Body
coded_body = code_by (List Tree × Tree) (coded× coded_trees coded_tree) (λ (b : Body). (b.terms, b.term)) (λ p. record { terms = p.0; term = p.1 }) (λ b. refl)

abbrev pub coded_declaration : Coded Declaration
coded_declaration =
    code_by (ℕ × (List ℕ × (Rank × (Option Body × (Bool × Bool))))) (coded× coded_ℕ (coded× (coded_list coded_ℕ) (coded× coded_rank (coded× (coded_option coded_body) (coded× coded_bool coded_bool)))))
    (λ (d : Declaration). (d.id, (d.name, (d.rank, (d.body, (d.is_sort, d.is_name))))))
    (λ p. record { id = p.0; name = p.1.0; rank = p.1.1.0; body = p.1.1.1.0; is_sort = p.1.1.1.1.0; is_name = p.1.1.1.1.1 })
    (λ d. refl)
