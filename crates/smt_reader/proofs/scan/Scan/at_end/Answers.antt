use Rattle.std.proofs.Common.{true, arith, subst, sym, ap, ◌∙◌}
use Rattle.smt_meaning.specs.Reading.{IsSExpr}
use Rattle.smt_reader.specs.declared.scan.Found.TheVariants.{Ready, Fault, End}
use Rattle.smt_meaning.specs.declared.tokens.FaultKind.TheVariants.{Unfinished}
use Rattle.smt_reader.specs.Scan.{Finds, start_of}
use Rattle.smt_reader.proofs.Scanned.{scan_unsettled, found_end, found_halted, found_last}
use Rattle.smt_reader.proofs.scan.Scan.at_end.Goals as goal

pub returns-then-not-finished-clause-finds : goal.returns-then-not-finished-clause-finds
returns-then-not-finished-clause-finds c = (c.if-not-finished.true, scan_unsettled c.args.bytes.now c.args.self.now c.requires.scan c.requires.all)

pub returns-then-self-gt0-clause-finds : goal.returns-then-self-gt0-clause-finds
returns-then-self-gt0-clause-finds c =
    let found = c.list_at_end.ensures c.args.bytes.now c.requires.scan c.requires.all in
    subst (λ f. Finds c.args.bytes.now f c.list_at_end.result) (sym c.if-not-finished.false) found.0

pub returns-in-Bare-clause-finds : goal.returns-in-Bare-clause-finds
returns-in-Bare-clause-finds c =
    let found = found_end c.args.bytes.now c.args.self.now c.requires.scan c.requires.all (omega arith) c.in-Bare.ensures in
    subst (λ f. Finds c.args.bytes.now f End) (sym c.if-not-finished.false) found

pub ready-requires : goal.ready-requires
ready-requires c =
    let s = c.args.self.now in
    let bytes = c.args.bytes.now in
    let w = c.in-Whole.ensures (start_of bytes s) s.content.items c.requires.scan.stands.is_part in
    let pushed = c.in_ok-push_token-in-Whole.ensures.ok w.0 w.1 in
    let found = found_last bytes s c.requires.scan c.requires.all (omega arith) c.in-Whole.ensures w.0 w.1 in
    subst IsSExpr (sym (ap (λ x. x.tokens) pushed)) found.0

pub returns-in_ok-push_token-in-Whole-clause-finds : goal.returns-in_ok-push_token-in-Whole-clause-finds
returns-in_ok-push_token-in-Whole-clause-finds c =
    let s = c.args.self.now in
    let bytes = c.args.bytes.now in
    let w = c.in-Whole.ensures (start_of bytes s) s.content.items c.requires.scan.stands.is_part in
    let pushed = c.in_ok-push_token-in-Whole.ensures.ok w.0 w.1 in
    let found = found_last bytes s c.requires.scan c.requires.all (omega arith) c.in-Whole.ensures w.0 w.1 in
    let is = c.ready.ensures.ready ∙ ap (λ x. Ready x.tokens x.looked) pushed in
    subst (λ f. Finds bytes f c.ready.result) (sym c.if-not-finished.false) (subst (Finds bytes true) (sym is) found)

pub returns-in-Halted-clause-finds : goal.returns-in-Halted-clause-finds
returns-in-Halted-clause-finds c =
    let s = c.args.self.now in
    let found = found_halted c.args.bytes.now s c.requires.scan c.requires.all (omega arith) c.in-Halted.ensures in
    subst (λ f. Finds c.args.bytes.now f (Fault Unfinished s.start)) (sym c.if-not-finished.false) found
