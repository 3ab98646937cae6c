use Rattle.std.proofs.Common.{◌≡◌, List, length, take, sym, ap, ◌∙◌, subst, arith}
use Rattle.std.proofs.lemmas.List.{length-take-le}
use Rattle.point_closure.specs.declared.classes.Union.{Union}
use Rattle.point_closure.specs.Closure.{Point}
use Rattle.point_closure.specs.Unions.{Joined, AreUnions}
use Rattle.point_closure.specs.Lists.{Listed}
use Rattle.point_closure.specs.Signature.{Filed}
use Rattle.point_closure.specs.Sound.{IsPending}
use Rattle.point_closure.specs.State.{State, IsAtRest}
use Rattle.point_closure.specs.Whole.{AreParts}
use Rattle.point_closure.proofs.SoundLemmas.{All_none}
use Rattle.point_closure.proofs.PartsLemmas.{state_is}
use Rattle.point_closure.proofs.StateLemmas.{state_with}
use Rattle.point_closure.proofs.closure.Closure.reset.Goals as goal

pub shorten-requires-2-clause-alone : goal.shorten-requires-2-clause-alone
shorten-requires-2-clause-alone c =
    subst (λ (us : List Union). AreUnions c.args.count us) (sym (ap (λ (j : Joined). j.unions) c.take_back.ensures.classes)) c.requires.alone

pub returns-clause-whole : goal.returns-clause-whole
returns-clause-whole c =
    let s = c.args.self.now in
    let m = c.args.mark in
    let t = c.take_back.ensures in
    let unions = ap (λ (j : Joined). j.unions) c.shorten-2.ensures ∙ ap (λ (j : Joined). j.unions) t.classes in
    let count = ap (λ (j : Joined). j.count) c.shorten-2.ensures in
    let graph : c.shorten.new.self ≡ take c.args.count s.graph = c.shorten.ensures in
    let size : length c.shorten.new.self ≡ c.args.count = ap length graph ∙ length-take-le c.args.count s.graph c.requires.within in
    let use_count = ap (λ (l : Listed). l.count) t.uses in
    let watch_count = ap (λ (l : Listed). l.count) t.watches in
    let state = state_is unions (ap (λ (f : Filed). f.hashes) t.table) (ap (λ (f : Filed). f.points) t.table) (ap (λ (l : Listed). l.changes) t.uses) (ap (λ (l : Listed). l.changes) t.watches) t.pairs t.met in
    let z = c.requires.sized in
    record {
      closure = record {
        sized = record {
          points = size ∙ sym count;
          weights = (let a = z.weights in let b = t.weights in let w = c.requires.within in omega arith);
          use_lists = (let a = z.use_lists in let w = c.requires.within in omega arith);
          watch_lists = (let a = z.watch_lists in let w = c.requires.within in omega arith);
        };
        pending = All_none (IsPending c.shorten.new.self c.shorten-2.new.self.unions s.steps.items) c.clear.new.self.items c.clear.ensures.items;
        parts = subst (λ (ps : List Point). AreParts ps s.steps.items (state_with c.shorten-2.new.self.unions c.take_back.new.table.hashes c.take_back.new.table.points c.take_back.new.uses.changes c.take_back.new.watches.changes c.take_back.new.pairs.items c.take_back.new.met.items) s.marks.items) (sym graph)
            (subst (λ (x : State). AreParts (take c.args.count s.graph) s.steps.items x s.marks.items) (sym state) c.requires.parts);
      };
      rest = subst (λ (ps : List Point). IsAtRest ps s.steps.items (state_with c.shorten-2.new.self.unions c.take_back.new.table.hashes c.take_back.new.table.points c.take_back.new.uses.changes c.take_back.new.watches.changes c.take_back.new.pairs.items c.take_back.new.met.items)) (sym graph)
          (subst (λ (x : State). IsAtRest (take c.args.count s.graph) s.steps.items x) (sym state) c.requires.rest);
    }
