-- `page_output`: the page of the table that finish leaves, or the numbers of the refusal.
use mathlib.Core.Path.{◌≡◌, refl, sym, ap, ◌∙◌}
use mathlib.Core.List.{[], ◌∷◌}
use lib.ListN.{take, replicate}
use Rattle.std.proofs.Common.{Err}
use Rattle.text.specs.Decimal.{Short}
use Rattle.job.specs.Answer.{refused}
use Rattle.job.specs.Refused.{number_of, line_of_refusal}
use Rattle.job.specs.declared.refusal.Refusal.{Refusal}
use Rattle.cells.specs.Table.{Table}
use Rattle.cells.specs.Calls.{finish, after}
use Rattle.calls.specs.Told.{page_told}
use Rattle.page_output.proofs.OutputLaws.{numbers_short, said_is, page_said, refusal_said}
use borrow.Author.Rules.{rules}
use Rattle.page_output.proofs.page_output.Goals as goal
use Rattle.page_output.proofs.page_output.Goals.{After-page}

-- the table that the call is lent
module _ (c : After-page) where
  abbrev t : Table
  t = take c.table_size-size.result c.finish_fresh.new.cells

  table_is : t ≡ after finish c.args.text.now (replicate c.table_size-size.result 2)
  table_is = c.finish_fresh.ensures.left

pub new-requires : goal.new-requires
new-requires c = let few = c.page_size.ensures.small in search rules

pub returns-in-Ok : goal.returns-in-Ok
unfolding page_told
returns-in-Ok c =
    let here = (goal.at.returns-in-Ok c).After-page in
    let told_is = sym (ap page_told c.in-Ok.is) ∙ c.page.ensures.told in
    c.new.ensures
    ∙ page_said c.args.text.now _ _ c.table_size-size.ensures (t here) (table_is here) _ _ _ (search rules) told_is c.page.ensures.written
    c.page_size.ensures
    ∙ said_is _ _ _ c.node_named.ensures

-- the numbers of the refusal
refused_is : (why : Refusal) → refused (number_of why) (line_of_refusal why) 0 ≡ page_told (Err why)
unfolding page_told
refused_is why = refl

pub write_line-requires : goal.write_line-requires
write_line-requires c =
    let told_is = refused_is c.in-Err.why ∙ sym (ap page_told c.in-Err.is) ∙ c.page.ensures.told in
    let short : Short (number_of c.in-Err.why ∷ line_of_refusal c.in-Err.why ∷ []) = numbers_short _ _ _ _ _ _ _ told_is in
    (rw c.numbers.ensures short, search rules)

pub returns-in-Err : goal.returns-in-Err
returns-in-Err c =
    let here = (goal.at.returns-in-Err c).After-page in
    let told_is = refused_is c.in-Err.why ∙ sym (ap page_told c.in-Err.is) ∙ c.page.ensures.told in
    c.new-in-Err.ensures
    ∙ refusal_said c.args.text.now _ _ c.table_size-size.ensures (t here) (table_is here) _ _ _ _ _ (search rules) (search rules) told_is
    (rw c.numbers.ensures at c.write_line.ensures)
    ∙ said_is _ _ _ c.node_named.ensures
