use Rattle.closure_log.specs.Seen.{state_of}
use Rattle.theory_combine.proofs.Answering.{kept_then}
use Rattle.theory_combine.proofs.cycles.follow_known.Goals as goal

pub returns-then-len-gt0-clause-found : goal.returns-then-len-gt0-clause-found
returns-then-len-gt0-clause-found c =
    λ b d. c.inferred.ensures (state_of c.args.stack.now c.args.atoms.now.atoms c.follow_paths.new.held.closure.log.items) b d c.in_ok-clauses.ensures.found

pub follow_paths-requires : goal.follow_paths-requires
follow_paths-requires c = record { setting = c.requires.setting; held = c.meet_differences.ensures.keeps.held }

pub returns-then-len-gt0-clause-keeps : goal.returns-then-len-gt0-clause-keeps
returns-then-len-gt0-clause-keeps c =
    kept_then c.args.stack.now c.args.atoms.now.atoms c.args.held.now c.meet_differences.new.held c.follow_paths.new.held c.meet_differences.ensures.keeps c.follow_paths.ensures.keeps

pub returns-clause-keeps : goal.returns-clause-keeps
returns-clause-keeps c =
    kept_then c.args.stack.now c.args.atoms.now.atoms c.args.held.now c.meet_differences.new.held c.follow_paths.new.held c.meet_differences.ensures.keeps c.follow_paths.ensures.keeps
