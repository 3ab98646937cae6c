use Rattle.std.proofs.Common.{◌≡◌, ◌∙◌, Contains, Some, ℤ, sym, ap, subst, to_z, of_z}
use Rattle.std.specs.Int.{w128}
use Rattle.std.proofs.lemmas.Int.{to_z-of_z}
use Rattle.fraction128.specs.declared.Grid.{Grid}
use Rattle.smt_meaning.specs.CheckAtoms.{told}
use Rattle.bound_log.specs.Told.{column_sums}
use Rattle.bound_log.specs.Pending.{FailsToTake}
use Rattle.theory_combine.proofs.Branching.{grid_over}
use Rattle.theory_combine.proofs.Past.{on_atom}
use Rattle.theory_combine.proofs.errors.error_of.Goals as goal

pub returns-in-Ok : goal.returns-in-Ok
returns-in-Ok c =
    let sum = c.args.sum.now in
    let n : to_z w128 (of_z w128 c.args.number) ≡ c.args.number = to_z-of_z w128 c.args.number c.ranges.number in
    let f = rw c.in-Range.is at c.requires in
    λ known table knows more among. record {
      sound = grid_over (Contains known) (Contains table) more (column_sums c.args.bounds.now) c.in-Ok.grid (c.in-Ok.ensures.sound known knows);
      pending = λ p e.
          on_atom table sum c.args.number c.args.holds p among
          (sym (ap (λ (g : Grid). g.pending) c.in-Ok.ensures.exact ∙ ap (λ (z : ℤ). Some (told sum z c.args.holds)) n) ∙ e);
      next = c.in-Ok.ensures.fails (subst (λ (z : ℤ). FailsToTake c.args.bounds.now sum z c.args.holds) (sym n) (f tt));
    }
