-- `lay_chains`: the chains of the edges passed so far.
use mathlib.Core.Path.{◌≡◌, refl, ◌∙◌, subst}
use native.Mathlib.Omega.{arith}
use lib.ListN.{length-set}
use Rattle.image.specs.Lines.{lines_job}
use Rattle.image.specs.Image.{Chains}
use Rattle.image.proofs.LinesLaws.{edges_read}
use Rattle.decoding.proofs.ChainLaws.{rows_empty, chains_none, rows_more, chains_more}
use Rattle.decoding.proofs.decode.lay_chains.Goals as goal

pub loop-e-init : goal.loop-e-init
loop-e-init c =
    (edges_read c.args.lines.now c.requires _ refl, rows_empty, c.told-next, chains_none (lines_job c.args.lines.now) c.args.next.now)

pub loop-e-preserved : goal.loop-e-preserved
loop-e-preserved c =
    let l = c.loop-e in
    let (edges, rows, long, chains) = l.invariant in
    let at = c.chain_of-node in (
      edges,
      rows_more (lines_job c.args.lines.now) l.last l.next l.e at.result.0 at.result.1 rows long (omega arith) at.ensures.node at.ensures.state chains,
      length-set l.next l.e _ ∙ long,
      chains_more (lines_job c.args.lines.now) l.last l.next l.e at.result.0 at.result.1 rows long (omega arith) at.ensures.node at.ensures.state chains,
    )

pub returns : goal.returns
returns c =
    let l = c.loop-e in
    let done : l.e ≡ _ = omega (arith, l.invariant.0) in
    subst (λ e. Chains (lines_job c.args.lines.now) e l.last l.next) done l.invariant.3
