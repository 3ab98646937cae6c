use Rattle.std.proofs.Common.{subst, sym, length}
use Rattle.smt_reader.specs.Scan.{IsReading}
use Rattle.smt_reader.proofs.Unreads.{reading_fed, fed_room}
use Rattle.smt_reader.proofs.reader.Reader.feed.Goals as goal

pub invariant_of-self-2 : goal.invariant_of-self-2
invariant_of-self-2 c =
    let r = c.self.inside in
    let room = fed_room r.bytes.items r.base r.at (length c.args.piece.now) r.finished c.forget.new.self c.args.self.now c.self.invariant.within c.self.view_is c.forget.ensures c.requires.room in
    subst (λ items. IsReading items r.base r.at r.scan) (sym c.in_ok-extend_from_slice.ensures.items) (reading_fed r.bytes.items c.args.piece.now r.base r.at r.scan c.self.invariant room)
