-- `line_of`: the line of the answer's numbers fills all 26 bytes.
use Rattle.std.proofs.Common.{ℕ, List, ◌≡◌, [], ◌∷◌, get_or, ap, sym, subst, ◌∙◌, rules, arith}
use Rattle.text.specs.Decimal.{line, Short}
use Rattle.text.proofs.WriteLaws.{line_alone}
use Rattle.job.specs.Answer.{numbers}
use Rattle.calls.specs.Told.{finish_told}
use Rattle.verdict_line.proofs.FiveLaws.{five}
use Rattle.verdict_line.proofs.line_of.Goals as goal
use Rattle.verdict_line.proofs.line_of.Goals.{After-numbers_of}

module _ (c : After-numbers_of) where
  abbrev front : List ℕ
  front = c.numbers_of.result.0

  abbrev own : List ℕ
  own = c.numbers_of.result.1

  all_five :
      get_or front 0 0 ∷ get_or front 1 0 ∷ get_or own 0 0 ∷ get_or own 1 0 ∷ get_or own 2 0 ∷ []
      ≡ numbers (finish_told c.args.done)
  unfolding finish_told
  all_five = five front own (search rules) (search rules) ∙ c.numbers_of.ensures

pub write_line-requires : goal.write_line-requires
write_line-requires c =
    let all = all_five (goal.at.write_line-requires c).After-numbers_of in
    (subst Short (sym all) c.requires, omega arith)

pub returns : goal.returns
returns c =
    c.write_line.ensures ∙ line_alone _ _ (omega arith) ∙ ap line (all_five (goal.at.returns c).After-numbers_of)
