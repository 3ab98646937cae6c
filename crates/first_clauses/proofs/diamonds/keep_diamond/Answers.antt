use Rattle.std.proofs.Common.{rules, ◌≡◌, true, [], ◌∷◌, subst, sym, ap, ◌∙◌}
use Rattle.literals.specs.Signed.{Signed}
use Rattle.search_port.specs.State.{Reading}
use Rattle.first_clauses.specs.PartClausesFirst.{IsBegun, IsClause}
use Rattle.first_clauses.proofs.PartClausesKeeping.{on_ok}
use Rattle.first_clauses.proofs.Triangular.{gives_clause}
use Rattle.first_clauses.specs.CheckClausesFirst.{reading_of}
use Rattle.first_clauses.proofs.Following.{diamond_follows}
use Rattle.first_clauses.proofs.diamonds.keep_diamond.Goals as goal

pub returns : goal.returns
returns c =
    let s = c.args.stack.now in
    let table = c.args.atoms.now.atoms in
    let yes : c.makes_same.result ≡ true = search rules in
    let apart : c.args.number ≡ c.args.equality → ⊥ = search rules in
    let follows : IsClause (reading_of s table) 0 (gives_clause c.args.number c.args.equality) =
    diamond_follows c.flat_says_the_same.ensures s table c.requires.declared c.args.number c.args.equality c.in-Some.ends.left c.in-Some.ends.right (c.makes_same.ensures yes) c.in-Some.ensures apart in
    let literals : gives_clause c.args.number c.args.equality ≡ c.new.result ∷ c.new-2.result ∷ [] =
    ap (λ (l : Signed). l ∷ record { atom = c.args.equality; positive = true } ∷ []) (sym c.new.ensures) ∙ ap (λ (l : Signed). c.new.result ∷ l ∷ []) (sym c.new-2.ensures) in
    let clause : IsClause (reading_of s table) 0 (c.new.result ∷ c.new-2.result ∷ []) = subst (IsClause (reading_of s table) 0) literals follows in
    record {
      begun = on_ok c.keep.result ((q : Reading) → IsBegun q c.args.store.now → IsClause q 0 (c.new.result ∷ c.new-2.result ∷ []) → IsBegun q c.keep.new.store)
          (IsBegun (reading_of s table) c.keep.new.store) c.keep.ensures.begun (λ h. h (reading_of s table) c.requires.begun clause);
    }
