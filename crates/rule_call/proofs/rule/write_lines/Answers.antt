-- `write_lines`: a line more, behind those written.
use Prim.Native.Nat.{◌+◌, ◌*◌}
use mathlib.Core.Path.{◌≡◌, refl, ap, ◌∙◌}
use borrow.Author.Rules.{rules}
use lib.Seq.{sets}
use native.Mathlib.Omega.{arith}
use Rattle.text.specs.Decimal.{line}
use Rattle.job.specs.Job.{subformula}
use Rattle.law.proofs.Pieces.{written_next, written_end}
use Rattle.rule_call.proofs.WritingLaws.{line_at, line_long, lines_all, line_fits}
use Rattle.rule_call.proofs.rule.write_lines.Goals as goal

pub write_line-requires : goal.write_line-requires
unfolding subformula
write_line-requires c =
    rw (c.fields.ensures, c.loop-k.auto.out) (line_fits c.args.lines.now _ c.loop-k.k c.loop-k-test.true c.requires.0 c.requires.1)

pub loop-k-preserved : goal.loop-k-preserved
unfolding subformula
loop-k-preserved c =
    let here : 16 * c.loop-k.k ≡ 0 + 16 * c.loop-k.k = omega arith in
    written_next 16 (line_at c.args.lines.now) 0 _ _ _ _ c.loop-k.invariant _ _ c.loop-k-test.true (line_long c.args.lines.now c.loop-k.k) here
    (c.write_line.ensures ∙ ap (λ ns. sets c.loop-k.out (16 * c.loop-k.k) (line ns)) c.fields.ensures)

pub returns : goal.returns
returns c =
    written_end _ _ _ _ _ _ _ c.loop-k.invariant (search rules) ∙ ap (sets _ 0) (lines_all c.args.lines.now _ refl)
