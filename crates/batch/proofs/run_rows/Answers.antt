-- Each turn of the loop tells one row more.
use Rattle.std.proofs.Common.{◌≡◌, refl, ap, ◌∙◌, subst}
use Rattle.reports.specs.Reports.{report_line}
use Rattle.batch.specs.Rows.{row_answer, row_lanes}
use Rattle.batch.proofs.Numbers.{numbers_small}
use Rattle.batch.proofs.Running.{running_begun, running_full, running_more}
use Rattle.batch.proofs.run_rows.Goals as goal

pub loop-line-init : goal.loop-line-init
loop-line-init g c =
    let lines = c.into_iter-line-iterator.ensures.into_iter_gives ∙ c.new-line-items.ensures.lines in
    rw lines record {
      running = running_begun _ _ _ _ _ _ _ (numbers_small c.args.text.now c.requires);
      method = refl;
    }

pub returns-then-report-used-lt64-clause-report : goal.returns-then-report-used-lt64-clause-report
returns-then-report-used-lt64-clause-report g c =
    let running = rw c.in-Some.ensures.steps at c.loop-line.invariant.running in
    running_full _ _ _ _ _ _ _ _ _ _ _ _ _ running c.if-report-used-lt64.true

pub loop-line-preserved : goal.loop-line-preserved
loop-line-preserved g c =
    let running = rw c.in-Some.ensures.steps at c.loop-line.invariant.running in
    let β = g.M.Arith.Kind.RADIX in
    let p = g.M.Arith.Kind.PRECISION in
    let mark = g.M.Arith.Kind.MARK in
    let ls = c.loop-line.console.lanes in
    let line = c.in-Some.line in
    let method = c.loop-line.invariant.method in
    let row = c.run_row-used.ensures in
    let told = ap (λ k. report_line mark line.number (row_answer β p mark (g.M.Method.answer k) ls line.bytes.now))
    method in
    let left = subst (λ k. c.run_row-used.new.console.lanes
    ≡ row_lanes β p mark (g.M.Method.answer k) ls line.bytes.now) method row.lanes in
    record {
      running = running_more _ _ _ _ _ _ _ _ _ _ _ _ _ _ _ _ _ running c.if-report-used-lt64.false told row.used
          row.short left row.report;
      method = row.method ∙ method;
    }
