-- `copy_column`: each state takes its owner's cell, and where one was filled the column is marked.
use Rattle.std.proofs.Common.{arith, rules}
use Rattle.image.specs.Denoted.{job_of}
use Rattle.image.proofs.ImageLaws.{image_job}
use Rattle.table.specs.Filling.{Leaves, part, of_column}
use Rattle.messages.specs.News.{copied}
use Rattle.messages.proofs.NewsLaws.{copied_kept, copied_idle, copied_marked}
use Rattle.messages.proofs.news.copy_column.Goals as goal
use Rattle.messages.proofs.news.copy_column.Goals.{After-fill_column-filled}

module _ (c : After-fill_column-filled) where
  filled_all :
      Leaves c.args.table.now
      (part (job_of c.args.m.now) (of_column c.args.n c.args.k) (copied (job_of c.args.m.now) c.args.table.now) c.args.table.now)
      c.fill_column-filled.new.table c.fill_column-filled.result
  filled_all =
      let J = job_of c.args.m.now in
      c.fill_column-filled.ensures.leaves (copied J c.args.table.now)
      (λ u s r d i l h own p.
      let kept = copied_kept J (image_job c.args.m.now) c.args.table.now _ u.now d l c.args.n s c.args.k h.state_in h.subformula_in in
      search (rules, kept))

pub returns-then-filled-eq0-clause-part_copied : goal.returns-then-filled-eq0-clause-part_copied
returns-then-filled-eq0-clause-part_copied c =
    copied_idle _ _ _ _ _ _ c.fill_column-filled.result (filled_all (goal.at.returns-then-filled-eq0-clause-part_copied c).After-fill_column-filled) c.if-filled-eq0.true

-- the column's mark
pub mark_stale-requires : goal.mark_stale-requires
mark_stale-requires c =
    let job = image_job c.args.m.now in
    (omega (arith, job.nodes, c.requires.column.node_in), omega (arith, job.subformulas, c.requires.column.subformula_in))

pub returns-clause-part_copied : goal.returns-clause-part_copied
returns-clause-part_copied c =
    copied_marked _ _ _ _ _ _ c.fill_column-filled.result (filled_all (goal.at.returns-clause-part_copied c).After-fill_column-filled) c.mark_stale.ensures.stale
