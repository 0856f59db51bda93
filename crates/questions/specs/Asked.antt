-- What every answer of these questions has in common. Assumes nothing.
use Rattle.std.specs.Prelude.{◌≡◌, Result, IfErr}
use Rattle.job.specs.Refused.{line_of_refusal}
use Rattle.job.specs.declared.refusal.Refusal.{Refusal}

-- A refusal names no line of the text.
abbrev pub NoLine : Result Unit Refusal → Type 0
NoLine result = IfErr result (λ why. line_of_refusal why ≡ 0)
