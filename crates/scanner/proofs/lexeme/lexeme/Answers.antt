-- `lexeme`: the four bytes at the start.
use mathlib.Core.Path.{refl, ◌∙◌}
use Rattle.scanner.proofs.ScanLaws.{bytes_decide, lexeme_inside}
use Rattle.scanner.proofs.lexeme.lexeme.Goals as goal

pub returns : goal.returns
returns c =
    let is = c.lexed.ensures ∙ bytes_decide _ _ _ _ _ refl c.byte.ensures c.byte-2.ensures c.byte-3.ensures in
    (is, rw is (lexeme_inside _ c.requires))
