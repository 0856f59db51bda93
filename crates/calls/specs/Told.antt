-- What a call's result says in numbers: its own, or the refusal's, with zeros in their place. Assumes nothing.
use Rattle.std.specs.Prelude.{ℕ, List, [], ◌∷◌, Result, Ok, Err}
use Rattle.job.specs.Answer.{Answer}
use Rattle.job.specs.Refused.{told}
use Rattle.job.specs.declared.refusal.Refusal.{Refusal}
use Rattle.closing.specs.declared.Closing.{Closing}
use Rattle.rounds.specs.declared.finish.Outcome.{Outcome}
use Rattle.calls.specs.declared.offer.Message.{Message}

abbrev pub none : Unit {0} → List ℕ
none _ = []

abbrev pub one : ℕ → List ℕ
one n = n ∷ []

abbrev pub message_numbers : Message → List ℕ
message_numbers m = m.state ∷ m.subformula ∷ m.value ∷ []

abbrev pub closing_numbers : Closing → List ℕ
closing_numbers c = c.subformula ∷ c.filled ∷ []

abbrev pub outcome_numbers : Outcome → List ℕ
outcome_numbers o = o.verdict ∷ o.rounds ∷ o.cells ∷ []

unfoldable pub fresh_told : Result Unit Refusal → Answer
fresh_told r = told none 0 r

unfoldable pub step_told : Result ℕ Refusal → Answer
step_told r = told one 1 r

unfoldable pub offer_told : Result Message Refusal → Answer
offer_told r = told message_numbers 3 r

unfoldable pub accept_told : Result ℕ Refusal → Answer
accept_told r = told one 1 r

unfoldable pub look_told : Result ℕ Refusal → Answer
look_told r = told one 1 r

unfoldable pub close_told : Result Closing Refusal → Answer
close_told r = told closing_numbers 2 r

unfoldable pub finish_told : Result Outcome Refusal → Answer
finish_told r = told outcome_numbers 3 r

unfoldable pub page_told : Result Unit Refusal → Answer
page_told r = told none 0 r

-- The rounds done, 0 where finish is refused.
unfoldable pub finish_rounds : Result Outcome Refusal → ℕ
finish_rounds (Ok o) = o.rounds
finish_rounds (Err why) = 0
