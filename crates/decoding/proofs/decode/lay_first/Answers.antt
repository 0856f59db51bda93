-- `lay_first`: the states passed so far have their runs, and the next one's does not begin before e.
use Prim.Native.Nat.{zero-le}
use mathlib.Core.Path.{refl, ◌∙◌}
use native.Mathlib.Omega.{arith}
use borrow.Author.Count.{below_none, below_more}
use lib.ListN.{length-set}
use lib.Seq.{get_or-set_same, get_or-set_other}
use Rattle.image.specs.Lines.{lines_job}
use Rattle.image.proofs.LinesLaws.{states_read}
use Rattle.image.proofs.Runs.{run_on}
use Rattle.decoding.proofs.decode.lay_first.Goals as goal

pub overflow_add-s-end : goal.overflow_add-s-end
overflow_add-s-end c = omega (arith, states_read c.args.lines.now c.requires _ refl)

pub loop-s-init : goal.loop-s-init
loop-s-init c =
    let w = states_read c.args.lines.now c.requires _ refl in
    (w.2, c.told-first, zero-le, omega arith, below_none _)

pub loop-s-preserved : goal.loop-s-preserved
loop-s-preserved c =
    let l = c.loop-s in
    let e = c.run_start-e in (
      l.invariant.0,
      length-set l.first l.s e.result ∙ l.invariant.1,
      run_on (lines_job c.args.lines.now) c.requires l.s e.result e.ensures.0,
      e.ensures.1,
      below_more _ l.s
          (λ s g. get_or-set_other l.first l.s s e.result 0 (λ q. omega arith) ∙ l.invariant.4 s g)
          (get_or-set_same l.first l.s e.result 0 (omega arith) ∙ e.ensures.0),
    )

pub returns : goal.returns
returns c =
    let w = states_read c.args.lines.now c.requires _ refl in
    λ s g. c.loop-s.invariant.4 s (omega arith)
