-- `keep`: the line is there, or there is no more room, or it is written behind the others.
use mathlib.Core.Path.{◌≡◌, sym, ◌∙◌}
use lib.ListN.{length}
use native.Mathlib.Nat.{le_refl}
use native.Mathlib.Omega.{arith}
use Rattle.rule_lines.proofs.HeldLaws.{keeps_found, keeps_full, keeps_new, lines_counted, one_more}
use Rattle.rule_lines.proofs.lines.Lines.keep.Goals as goal

pub returns-in-Some : goal.returns-in-Some
returns-in-Some c = let found = c.in-Some.ensures in keeps_found _ _ _ found.0 found.1

pub returns-then-number-lt33 : goal.returns-then-number-lt33
returns-then-number-lt33 c =
    let counted : c.len-number.result ≡ length c.args.self.now = omega (arith, c.len-number.ensures.value, lines_counted _ _ c.self.view_is) in
    keeps_new _ _ _ counted _ (counted ∙ sym c.in_default.ensures) (le_refl _) _ c.if-number-lt33.true (one_more _ _ c.self.view_is _ _ c.push.ensures.items)

pub returns-else-number-lt33 : goal.returns-else-number-lt33
returns-else-number-lt33 c =
    let counted : c.len-number.result ≡ length c.args.self.now = omega (arith, c.len-number.ensures.value, lines_counted _ _ c.self.view_is) in
    keeps_full _ _ _ counted _ (counted ∙ sym c.in_default.ensures) c.if-number-lt33.false
