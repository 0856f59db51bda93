-- `write_numbers`: a number more, behind those written.
use Rattle.law.proofs.Pieces.{written_end}
use Rattle.page_text.specs.Page.{two_columns}
use Rattle.page_writer.proofs.PartLaws.{numbers_turn}
use borrow.Author.Rules.{rules}
use Rattle.page_writer.proofs.write_numbers.Goals as goal

pub loop-k-preserved : goal.loop-k-preserved
loop-k-preserved c =
    let l = c.loop-k in
    numbers_turn _ l.out _ _ _ l.k _ _ l.invariant (search rules) c.digit_column.ensures
    c.digit_column-in-loop-k.ensures c.write_two.ensures

pub returns : goal.returns
returns c = written_end 2 two_columns _ _ _ _ _ c.loop-k.invariant (search rules)
