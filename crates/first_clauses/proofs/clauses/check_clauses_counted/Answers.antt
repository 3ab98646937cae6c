use Rattle.std.proofs.Common.{rules, Bool, List, length, map, sym, subst}
use Rattle.clause_store.specs.Stored.{Kept}
use Rattle.search_port.proofs.Forcing.{in_map}
use Rattle.first_clauses.specs.CheckClausesFirst.{AreReady, HasPartAt, HasParts}
use Rattle.first_clauses.proofs.CheckClausesKeeping.{part_stays}
use Rattle.first_clauses.proofs.Asserting.{all_numbered}
use Rattle.check_atoms.proofs.Marking.{are_assertions}
use Rattle.first_clauses.proofs.PartClausesKeeping.{all_asserted}
use Rattle.first_clauses.proofs.Counting.{copied_within}
use Rattle.first_clauses.proofs.clauses.check_clauses_counted.Goals as goal

pub keep_parts-requires-clause-ready : goal.keep_parts-requires-clause-ready
keep_parts-requires-clause-ready g c =
    subst (λ (ms : List Bool). AreReady c.args.stack.now ms c.args.sorts.now c.args.parts.now.atoms.atoms c.args.parts.now.forms) (sym c.deref-2.ensures.value) c.requires

pub keep_assertions-requires-clause-numbered : goal.keep_assertions-requires-clause-numbered
keep_assertions-requires-clause-numbered g c =
    all_numbered c.args.stack.now c.args.parts.now.marks.items c.laws.ensures c.requires.parts c.args.parts.now.atoms.atoms c.args.parts.now.forms c.requires.atoms c.requires.forms c.assertions.result.now c.assertions.ensures

pub keep_assertions-requires-clause-asserted : goal.keep_assertions-requires-clause-asserted
keep_assertions-requires-clause-asserted g c = are_assertions c.args.stack.now c.assertions.result.now c.assertions.ensures

pub returns-clause-gives : goal.returns-clause-gives
returns-clause-gives g c =
    let clauses : List Kept = c.keep_assertions.new.store.clauses in
    let parts : HasParts c.args.stack.now c.args.parts.now.marks.items c.args.sorts.now c.args.parts.now.atoms.atoms clauses =
    λ p.
    part_stays c.keep_parts.new.store.clauses clauses c.keep_assertions.ensures.stay c.args.stack.now c.args.parts.now.marks.items c.args.sorts.now c.args.parts.now.atoms.atoms p
    (subst (λ (ms : List Bool). HasPartAt c.args.stack.now ms c.args.sorts.now c.args.parts.now.atoms.atoms c.keep_parts.new.store.clauses p) c.deref-2.ensures.value (c.in_ok-keep_parts.ensures.has p)) in
    record {
      first =
          record {
            begun = c.in_ok-keep_assertions.ensures.begun;
            assertions = all_asserted c.args.stack.now c.assertions.result.now c.args.parts.now.atoms.atoms clauses c.assertions.ensures c.in_ok-keep_assertions.ensures.has;
            forced =
                c.kept_parts_are_forced.ensures c.args.stack.now c.args.parts.now.marks.items c.args.sorts.now c.args.parts.now.atoms.atoms clauses (map (λ (k : Kept). k.literals) clauses) c.laws.ensures
                c.requires.parts c.requires.atoms c.requires.sorted parts (λ k h. in_map (λ (l : Kept). l.literals) clauses k h);
          };
      parts = parts;
      refused = tt;
      same = search rules;
    }

pub returns-in_err-keep_parts-clause-below : goal.returns-in_err-keep_parts-clause-below
returns-in_err-keep_parts-clause-below g c =
    copied_within c.args.stack.now.trees c.args.parts.now.marks.items c.deref-2.result.now (length c.args.stack.now.trees) c.args.steps.now c.keep_parts.new.steps c.deref-2.ensures.value
    c.keep_parts.ensures.few

pub returns-in_err-keep_assertions-clause-below : goal.returns-in_err-keep_assertions-clause-below
returns-in_err-keep_assertions-clause-below g c =
    copied_within c.args.stack.now.trees c.args.parts.now.marks.items c.deref-2.result.now (length c.args.stack.now.trees) c.args.steps.now c.keep_parts.new.steps c.deref-2.ensures.value
    c.keep_parts.ensures.few

pub returns-clause-below : goal.returns-clause-below
returns-clause-below g c =
    copied_within c.args.stack.now.trees c.args.parts.now.marks.items c.deref-2.result.now (length c.args.stack.now.trees) c.args.steps.now c.keep_parts.new.steps c.deref-2.ensures.value
    c.keep_parts.ensures.few
