-- `write_page`: a line more, behind those written.
use Rattle.image.proofs.ImageLaws.{image_job}
use Rattle.page_writer.proofs.PartLaws.{rows_turn, page_written}
use borrow.Author.Rules.{rules}
use Rattle.page_writer.proofs.write_page.Goals as goal

pub loop-s-preserved : goal.loop-s-preserved
loop-s-preserved c =
    rows_turn _ _ _ (image_job c.args.m.now) _ _ _ c.loop-s.s c.loop-s.invariant (search rules) c.write_row.ensures

pub returns : goal.returns
returns c =
    page_written _ _ _ (image_job c.args.m.now) _ _ _ _ _ c.subformulas.ensures.0 c.write_heading.ensures
    c.loop-s.invariant (search rules)
