use Rattle.std.proofs.Common.{rules, ◌≡◌, true, false, [], ◌∷◌, subst, sym, ap, ◌∙◌}
use Rattle.literals.specs.Signed.{Signed}
use Rattle.search_port.specs.State.{Reading}
use Rattle.first_clauses.specs.PartClausesFirst.{IsBegun, IsClause}
use Rattle.first_clauses.specs.Triangles.{Joins}
use Rattle.first_clauses.proofs.PartClausesKeeping.{on_ok}
use Rattle.first_clauses.proofs.Triangular.{implies_clause}
use Rattle.first_clauses.specs.CheckClausesFirst.{reading_of}
use Rattle.first_clauses.proofs.Following.{triangle_follows}
use Rattle.first_clauses.proofs.triangles.keep_implied.Goals as goal

pub returns : goal.returns
returns c =
    let s = c.args.stack.now in
    let table = c.args.atoms.now.atoms in
    let yes : c.joins.result ≡ true = search rules in
    let joins : Joins c.in-Some.one.left c.in-Some.one.right c.in-Some-compared.other.left c.in-Some-compared.other.right c.in-Some-compared-2.last.left c.in-Some-compared-2.last.right = c.joins.ensures yes in
    let apart : c.args.first ≡ c.args.third → ⊥ = search rules in
    let other : c.args.second ≡ c.args.third → ⊥ = search rules in
    let follows : IsClause (reading_of s table) 0 (implies_clause c.args.first c.args.second c.args.third) =
    triangle_follows c.flat_says_the_same.ensures s table c.requires.declared c.args.first c.args.second c.args.third c.in-Some.one.left
    c.in-Some.one.right c.in-Some-compared.other.left c.in-Some-compared.other.right c.in-Some-compared-2.last.left c.in-Some-compared-2.last.right c.in-Some.ensures c.in-Some-compared.ensures
    c.in-Some-compared-2.ensures joins apart other in
    let literals : implies_clause c.args.first c.args.second c.args.third ≡ c.new.result ∷ c.new-2.result ∷ c.new-3.result ∷ [] =
    ap (λ (l : Signed). l ∷ record { atom = c.args.second; positive = false } ∷ record { atom = c.args.third; positive = true } ∷ []) (sym c.new.ensures)
    ∙ (ap (λ (l : Signed). c.new.result ∷ l ∷ record { atom = c.args.third; positive = true } ∷ []) (sym c.new-2.ensures)
    ∙ ap (λ (l : Signed). c.new.result ∷ c.new-2.result ∷ l ∷ []) (sym c.new-3.ensures)) in
    let clause : IsClause (reading_of s table) 0 (c.new.result ∷ c.new-2.result ∷ c.new-3.result ∷ []) = subst (IsClause (reading_of s table) 0) literals follows in
    record {
      begun = on_ok c.keep.result ((q : Reading) → IsBegun q c.args.store.now → IsClause q 0 (c.new.result ∷ c.new-2.result ∷ c.new-3.result ∷ []) → IsBegun q c.keep.new.store)
          (IsBegun (reading_of s table) c.keep.new.store) c.keep.ensures.begun (λ h. h (reading_of s table) c.requires.begun clause);
    }
