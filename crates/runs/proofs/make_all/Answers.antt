-- Each turn makes one call more, and after the last all are made.
use Rattle.std.proofs.Common.{◌≡◌, ◌<◌, ◌≤◌, length, get_or, ◌∙◌, subst, arith}
use Rattle.rounding.specs.Refusals.{coded}
use Rattle.runs.specs.Answers.{answer_to, lanes_after}
use Rattle.runs.proofs.Entries.{blank, made_more, made_all, run_tracked}
use Rattle.runs.proofs.make_all.Goals as goal

pub loop-entry-preserved : goal.loop-entry-preserved
loop-entry-preserved g c =
    let same = c.loop-entry.auto.entries in
    let inside : c.loop-entry.entry-index < length c.loop-entry.entries =
    omega (arith, c.loop-entry-test.true) in
    let made = c.loop-entry.invariant in
    let call = (get_or c.loop-entry.entries c.loop-entry.entry-index blank).call in
    let ls = c.loop-entry.console.lanes in (
      made_more _ _ _ _ _ blank c.perform-entry.result c.loop-entry.entry-index c.loop-entry.entries ls
          c.perform-entry.new.console.lanes made.0 inside
          (subst (λ k. coded c.perform-entry.result
          ≡ answer_to g.M.Arith.Kind.RADIX g.M.Arith.Kind.PRECISION (g.M.Method.answer k) ls call) made.1
          c.perform-entry.ensures.answer)
          (subst (λ k. c.perform-entry.new.console.lanes
          ≡ lanes_after g.M.Arith.Kind.RADIX g.M.Arith.Kind.PRECISION (g.M.Method.answer k) ls call) made.1
          c.perform-entry.ensures.lanes),
      c.perform-entry.ensures.method ∙ made.1,
    )

pub returns : goal.returns
returns g c =
    let same = c.loop-entry.auto.entries in
    let done : length c.loop-entry.entries ≤ c.loop-entry.entry-index = omega (arith, c.loop-entry-test.false) in
    let made = c.loop-entry.invariant in
    let all = made_all _ _ _ _ _ c.loop-entry.entry-index c.loop-entry.entries _ made.0 done in
    let method = c.args.console.now.method in
    record {
      calls = made.0.calls;
      answers = all.0;
      lanes = all.1;
      method = made.1;
      tracked = run_tracked _ _ g.M.Arith.Kind.kind _ _ _
          (g.met.M.Method.reliable method) _ _ _ _
          made.0.calls all.0 all.1;
    }
