use Rattle.std.proofs.Common.{◌<◌, List, [], length, get_or, inl, inr, arith}
use Rattle.smt_meaning.specs.Term.{Tree}
use Rattle.proof_meaning.specs.declared.proof.Step.TheVariants.{Res}
use Rattle.proof_form.proofs.EqualitiesComes.{stays}
use Rattle.proof_form.proofs.ResolutionComes.{resolves, resolves_none, lacks_left, lacks_right, opposites_differ, has_none, has_one}
use Rattle.proof_form.proofs.resolution.judge_resolution.Goals as goal
use Rattle.proof_form.proofs.resolution.judge_resolution.Goals.{then-left-count-via-then-left-count, then-left-count-via-else-left-count+then-right-count, then-not-has-via-then-not-has, then-not-has-via-else-not-has+then-not-has-2}

pub resolve-requires-clause-different : goal.resolve-requires-clause-different
resolve-requires-clause-different c = opposites_differ c.in_ok-code.code c.opposite-negation.result c.opposite-negation.ensures

pub returns-then-left-count : goal.returns-then-left-count
returns-then-left-count c =
    let a = c.args in
    let step = Res a.left a.right a.literal.now in
    let in_range = stays a.terms.now step c.requires (λ h. h) in
    let none = λ (asserted : List Tree). resolves_none a.terms.now asserted a.left a.right a.literal.now in_range a.clauses.now c.literal.new.self c.literal.ensures.kept c.literal.new.self in
    elim c.then-left-count.branch [
      | then-left-count-via-then-left-count w ↦ (λ asserted. none asserted (inl (let h = c.len-count.ensures.count in omega arith)))
      | then-left-count-via-else-left-count+then-right-count w ↦ (λ asserted. none asserted (inr (let h = c.len-count.ensures.count in omega arith)))
    ]

pub returns-then-not-has : goal.returns-then-not-has
returns-then-not-has c =
    let a = c.args in
    let mid = c.literal.new.self in
    let step = Res a.left a.right a.literal.now in
    let in_range = stays a.terms.now step c.requires (λ h. h) in
    let left : a.left < length mid.clauses = (let h = c.len-count.ensures.count in omega arith) in
    let right : a.right < length mid.clauses = (let h = c.len-count.ensures.count in omega arith) in
    elim c.then-not-has.branch [
      | then-not-has-via-then-not-has w ↦ (λ asserted.
          lacks_left a.terms.now asserted a.left a.right a.literal.now in_range a.clauses.now mid c.literal.ensures.kept c.len-count.ensures.apart c.in_ok-code.code c.opposite-negation.result c.opposite-negation.ensures
          c.in_ok-code.ensures.code left right mid
          (has_none (get_or mid.clauses a.left []) c.clause.result.now c.in_ok-code.code c.has.result c.clause.ensures c.has.ensures.1 w.if-not-has.true))
      | then-not-has-via-else-not-has+then-not-has-2 w ↦ (λ asserted.
          lacks_right a.terms.now asserted a.left a.right a.literal.now in_range a.clauses.now mid c.literal.ensures.kept c.len-count.ensures.apart c.in_ok-code.code c.opposite-negation.result c.opposite-negation.ensures
          c.in_ok-code.ensures.code left right mid
          (has_none (get_or mid.clauses a.right []) w.clause-else-not-has.result.now c.opposite-negation.result w.has-else-not-has.result w.clause-else-not-has.ensures w.has-else-not-has.ensures.1 w.if-not-has-2.true))
    ]

pub returns : goal.returns
returns c =
    let a = c.args in
    let mid = c.literal.new.self in
    let step = Res a.left a.right a.literal.now in
    let in_range = stays a.terms.now step c.requires (λ h. h) in
    let left : a.left < length mid.clauses = (let h = c.len-count.ensures.count in omega arith) in
    let right : a.right < length mid.clauses = (let h = c.len-count.ensures.count in omega arith) in
    λ asserted.
    resolves a.terms.now asserted a.left a.right a.literal.now in_range a.clauses.now mid c.literal.ensures.kept c.len-count.ensures.apart c.in_ok-code.code c.opposite-negation.result c.opposite-negation.ensures
    c.in_ok-code.ensures.code left right c.resolve.new.self
    (has_one (get_or mid.clauses a.left []) c.clause.result.now c.in_ok-code.code c.has.result c.clause.ensures c.has.ensures.0 c.if-not-has.false)
    (has_one (get_or mid.clauses a.right []) c.clause-else-not-has.result.now c.opposite-negation.result c.has-else-not-has.result c.clause-else-not-has.ensures c.has-else-not-has.ensures.0 c.if-not-has-2.false)
    c.in_ok-resolve.ensures.kept c.resolve.ensures.atoms
