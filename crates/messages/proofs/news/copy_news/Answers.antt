-- `copy_news`: the subformulas passed so far are copied and have no news.
use Prim.Native.Nat.{◌<◌}
use mathlib.Core.Path.{◌≡◌}
use Rattle.job.specs.Job.{subformula_count}
use Rattle.image.specs.Denoted.{job_of}
use Rattle.image.proofs.ImageLaws.{image_job}
use Rattle.messages.proofs.NewsLaws.{copied_few, all_none, next_copied, all_more, all_over}
use borrow.Author.Rules.{rules}
use native.Mathlib.Omega.{arith}
use Rattle.messages.proofs.news.copy_news.Goals as goal

pub loop-k-init : goal.loop-k-init
loop-k-init c =
    (omega arith, c.subformulas-k-end.ensures.0, all_none _ (image_job c.args.m.now) _ c.requires.lent.long _)

pub copy_subformula-filled-requires-clause-copied : goal.copy_subformula-filled-requires-clause-copied
copy_subformula-filled-requires-clause-copied c =
    let l = c.loop-k in
    let J = job_of c.args.m.now in
    let below : l.k < subformula_count J = omega (arith, l.invariant.1) in
    next_copied J (image_job c.args.m.now) c.args.table.now c.requires.lent.long c.args.pending.now l.k
    l.table l.pending l.filled l.invariant.2 below c.requires.exchanged

pub overflow_add-filled : goal.overflow_add-filled
overflow_add-filled c =
    let few = copied_few c.args.m.now c.args.table.now c.requires.lent _ c.args.pending.now.stale _ _ _ c.loop-k.invariant.2.part_copied in
    omega arith

pub loop-k-preserved : goal.loop-k-preserved
loop-k-preserved c =
    let l = c.loop-k in (
      search rules,
      l.invariant.1,
      all_more (job_of c.args.m.now) (image_job c.args.m.now) c.args.table.now c.requires.lent.long c.args.pending.now
          l.k l.table l.pending l.filled l.invariant.2 _ _ _ c.copy_subformula-filled.ensures.news_taken,
    )

pub returns : goal.returns
returns c =
    let l = c.loop-k in
    let done : l.k ≡ subformula_count (job_of c.args.m.now) = omega (arith, l.invariant.1) in
    all_over _ (image_job c.args.m.now) _ c.requires.lent.long _ l.k _ _ _ l.invariant.2 done
