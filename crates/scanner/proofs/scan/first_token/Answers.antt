-- `first_token`: the end of the text, or the token that stands behind the spaces, and the spaces behind it.
use Rattle.scanner.proofs.ScanLaws.{scans_end, scans_token}
use Rattle.scanner.proofs.scan.first_token.Goals as goal

pub returns-then-is_empty : goal.returns-then-is_empty
returns-then-is_empty c = scans_end _ _ c.skip_spaces-start.ensures _ c.is_empty.ensures c.if-is_empty.true

pub returns : goal.returns
returns c =
    scans_token _ _ c.skip_spaces-start.ensures _ c.is_empty.ensures _ _ c.if-is_empty.false c.lexeme-l.ensures.0 c.skip_spaces.ensures
