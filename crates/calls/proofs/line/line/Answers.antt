-- `line`: the part that `line_of` names.
use Rattle.std.proofs.Common.{◌∙◌, ap, sym, take, drop}
use native.Mathlib.Nat.{add-sub_cancel_left}
use Rattle.layout.proofs.LinesLaws.{line_some, line_empty}
use Rattle.calls.proofs.line.line.Goals as goal

pub returns-in-Some : goal.returns-in-Some
returns-in-Some c =
    let part = c.in-Some.part in
    ap (λ n. take n (drop part.start c.args.text.now)) (add-sub_cancel_left part.start part.size)
    ∙ line_some _ _ part (sym c.line_part.ensures.stands ∙ c.in-Some.is)

pub returns-in-None : goal.returns-in-None
returns-in-None c = line_empty _ _ (sym c.line_part.ensures.stands ∙ c.in-None.is)
