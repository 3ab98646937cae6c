use Rattle.std.proofs.Common.{sym, arith}
use Rattle.equality_clauses.proofs.OnceLemmas.{not_there, is_there}
use Rattle.equality_clauses.proofs.once.is_kept.Goals as goal

pub returns-then-number-places : goal.returns-then-number-places
returns-then-number-places c = sym (not_there c.args.places.now c.args.kept.now c.args.number c.requires (λ short within same. absurd (omega arith)))

pub returns-then-place-kept : goal.returns-then-place-kept
returns-then-place-kept c = sym (not_there c.args.places.now c.args.kept.now c.args.number c.requires (λ short within same. absurd (omega arith)))

pub returns : goal.returns
returns c = is_there c.args.places.now c.args.kept.now c.args.number c.requires c.if-place-kept.false
