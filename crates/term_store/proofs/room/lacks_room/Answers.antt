use Rattle.std.proofs.Common.{◌≡◌, ◌∙◌, ap, length, arith}
use Rattle.smt_meaning.specs.Sorts.{with_all}
use Rattle.term_store.proofs.RoomLemmas.{cut_same}
use Rattle.term_store.proofs.room.lacks_room.Goals as goal

pub returns-clause-room : goal.returns-clause-room
returns-clause-room c e =
    let size : length c.put_all-lacks.new.store.trees ≡ length (with_all c.args.store.now.trees c.args.others.now.trees) = ap length (c.put_all-lacks.ensures.room e) in
    omega (arith, size, c.len-within.ensures.within, c.put_all-lacks.ensures.limit)

pub returns-clause-same : goal.returns-clause-same
returns-clause-same c =
    c.cut.ensures ∙ cut_same c.args.store.now c.put_all-lacks.new.store c.len-count.result c.len-count.ensures.value c.put_all-lacks.ensures.limit c.put_all-lacks.ensures.kept
