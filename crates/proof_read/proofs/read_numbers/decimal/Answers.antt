use Rattle.std.proofs.Common.{◌≡◌, ◌<◌, ◌^◌, pos, to_z, of_z, Some, ap, ◌∙◌, refl, arith}
use Rattle.std.specs.Prelude.{unsigned_abs}
use mir.Syntax.{w128}
use Rattle.smt_meaning.specs.Sorts.{decimal}
use Rattle.proof_read.proofs.ReadNumberLemmas.{written_small, written_large, same_number}
use Rattle.proof_read.proofs.read_numbers.decimal.Goals as goal
use Rattle.proof_read.proofs.read_numbers.decimal.Goals.{in-Ok, in-Err}

pub overflow_cast-result : goal.overflow_cast-result
overflow_cast-result c =
    let n = decimal c.args.digits.now in
    let w = written_small c.args.digits.now c.in-Ok.number c.in-Ok.ensures in
    let less : n < 2 ^ 127 = w.1 in
    let e : to_z w128 (of_z w128 c.in-Ok.number) ≡ pos n = same_number c.in-Ok.number n w.0 less in
    rw e (tt, omega arith)

pub returns-after-number : goal.returns-after-number
returns-after-number c =
    let cs = c.args.digits.now in
    elim c.match-number.branch [
      | in-Ok w ↦
          let s = written_small cs w.in-Ok.number w.in-Ok.ensures in
          let e : c.match-number.result ≡ Some (decimal cs) = w.result-is ∙ ap (λ z. Some (unsigned_abs z)) (same_number w.in-Ok.number (decimal cs) s.0 s.1) in
          rw e (refl, s.1)
      | in-Err w ↦ rw w.result-is (written_large cs w.in-Err.field-0 w.in-Err.ensures)
    ]
