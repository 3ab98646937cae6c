use Rattle.std.proofs.Common.{◌∙◌, arith, false, length}
use Rattle.tableau.proofs.Lists.{taken_all, filed_more}
use Rattle.tableau.proofs.holders.file.Goals as goal

pub returns-in_err-file_one-clause-keeps : goal.returns-in_err-file_one-clause-keeps
returns-in_err-file_one-clause-keeps c = λ j k h. c.in_err-file_one.ensures.keeps j k (c.loop-change.invariant.keeps j k h)

pub loop-change-preserved : goal.loop-change-preserved
loop-change-preserved c = record {
  count = c.in_ok-file_one.ensures.count ∙ c.loop-change.invariant.count;
  same = c.in_ok-file_one.ensures.same ∙ c.loop-change.invariant.same;
  keeps = λ j k h. c.in_ok-file_one.ensures.keeps j k (c.loop-change.invariant.keeps j k h);
  so_far = filed_more c.args.changes.now c.loop-change.change-index (record { variable = 0; place = 0; gained = false }) c.args.entering (length c.args.holders.now.items) c.file_one.new.holders.items (omega arith)
      (λ g ne lt. c.in_ok-file_one.ensures.ok g ne (let e = c.loop-change.invariant.count in omega (arith, lt, e)))
      (λ j k h ne lt. c.in_ok-file_one.ensures.keeps j k (c.loop-change.invariant.so_far j k h ne lt));
}

pub returns-clause-ok : goal.returns-clause-ok
returns-clause-ok c = λ j k h. c.loop-change.invariant.so_far j k (taken_all c.args.changes.now c.loop-change.change-index _ (omega arith) h)
