use Rattle.theory_combine.proofs.Answering.{kept_looked}
use Rattle.theory_combine.proofs.cycles.follow_paths.Goals as goal

pub add_shown-requires : goal.add_shown-requires
add_shown-requires c =
    let held = c.loop-turn.held in
    let keeps = kept_looked c.args.stack.now c.args.atoms.now.atoms held (record held.looked { differences = c.next_implied.new.self }) c.loop-turn.invariant.keeps.held in
    record { setting = c.requires.setting; held = keeps.held }
