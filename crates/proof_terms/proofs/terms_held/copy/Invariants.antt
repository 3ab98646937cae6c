use Rattle.std.proofs.Common.{◌≡◌, take}
use Rattle.proof_terms.proofs.terms_held.copy.Given as goal

abbrev pub invariant-loop-place : goal.invariant-loop-place
invariant-loop-place l = record {
  limit : l.copy.limit ≡ l.terms.limit;
  trees : l.copy.trees ≡ take l.place l.terms.trees;
}
