-- `message`: by its test.
use mathlib.Core.Path.{◌∙◌}
use Rattle.messages.proofs.NewsLaws.{message_none, message_owner}
use Rattle.messages.proofs.news.message.Goals as goal

pub returns-then-ne : goal.returns-then-ne
returns-then-ne c = message_none _ _ _ _ _ _ c.place.ensures _ c.ne.ensures c.if-ne.true

pub returns : goal.returns
returns c =
    c.owner_cell.ensures
    ∙ message_owner _ _ _ _ _ _ c.place.ensures _ c.ne.ensures c.if-ne.false c.requires.cell.1
