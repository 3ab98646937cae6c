-- Entries of one leaf, in the order that a stable sort leaves them in.
use Rattle.std.proofs.Common.{◌≡◌, ℕ, not, ◌&&◌, List, nat_eq, sym, ◌∙◌, arith}
use Rattle.std.specs.List.{filter}
use Rattle.std.specs.List.Sorted.{ties, IsStableBy}
use Rattle.std.specs.Ordering.{is_lt, nat_cmp}
use Rattle.std.proofs.lemmas.Bool.Decides.{nat_tests}
use Rattle.std.proofs.lemmas.List.Elements.{filter_agree}
use Rattle.fraction128.specs.Number.{whole}
use Rattle.std.specs.Prelude.{pos}
use Rattle.proof_form.specs.declared.farkas_entries.Entry.{Entry}
use Rattle.proof_form.specs.FarkasSums.{entry}

tie : (x y : ℕ) → (not (is_lt (nat_cmp x y)) && not (is_lt (nat_cmp y x))) ≡ nat_eq x y
tie x y = grind (arith, nat_tests)

pub stable_leaf : (old new : List Entry) → IsStableBy (λ (x y : Entry). is_lt (nat_cmp x.leaf y.leaf)) old new
    → (x : ℕ) → filter (λ (e : Entry). nat_eq x e.leaf) new ≡ filter (λ (e : Entry). nat_eq x e.leaf) old
stable_leaf old new h x =
    let one : Entry = entry x (whole (pos 0)) in
    let agree : (e : Entry) → ties (λ (a b : Entry). is_lt (nat_cmp a.leaf b.leaf)) one e ≡ nat_eq x e.leaf = λ e. tie x e.leaf in
    sym (filter_agree (ties (λ (a b : Entry). is_lt (nat_cmp a.leaf b.leaf)) one) (λ (e : Entry). nat_eq x e.leaf) agree new)
    ∙ h one
    ∙ filter_agree (ties (λ (a b : Entry). is_lt (nat_cmp a.leaf b.leaf)) one) (λ (e : Entry). nat_eq x e.leaf) agree old
