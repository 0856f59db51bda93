-- `verdict_at`: the search over the states. Where every owner's cell is filled, yes is where no state says no.
use Rattle.std.specs.Bool.{⊤}
use Rattle.std.specs.Option.{MatchOption}
use Rattle.std.proofs.lemmas.Iterator.{first_from_Range}
use Rattle.std.proofs.Common.{ℕ, ◌≡◌, ◌<◌, ◌≤◌, Option, Some, None, IfSome, ◌∙◌, sym, ap, refl, rules, tests, unwrap_or}
use Rattle.law.specs.Bounded.{first}
use Rattle.law.proofs.Ranges.{range_find}
use Rattle.job.specs.Job.{size}
use Rattle.cells.specs.Opening.{says_no, lowest_no}
use Rattle.cells.proofs.OpeningLaws.{whole_filled}
use Rattle.image.specs.Denoted.{job_of}
use Rattle.image.proofs.ImageLaws.{image_job}
use Rattle.opening.proofs.MarksLaws.{verdict_is}
use Rattle.opening.proofs.verdict_at.Goals as goal
use Rattle.opening.proofs.verdict_at.Goals.{After-find}

-- what the search finds
lowest_here :
    (c : After-find)
    → let J = job_of c.args.m.now in
    unwrap_or c.find.result (size J) ≡ lowest_no J c.args.marks.now c.args.table.now
unfolding lowest_no
lowest_here c =
    let asked = says_no (job_of c.args.m.now) c.args.marks.now c.args.table.now in
    let n = c.states.ensures.0 in
    ap (unwrap_or c.find.result) (sym n)
    ∙ range_find asked c.states.result _ _ _ _ refl (λ x b q k. search (rules, tests)) c.find.ensures.ran
    ∙ ap (first asked) n

pub returns-clause-lowest_value : goal.returns-clause-lowest_value
returns-clause-lowest_value c = lowest_here (goal.at.returns-clause-lowest_value c).After-find

-- and where
below : (n : ℕ) (r : Option ℕ) → MatchOption r ((k : ℕ) → 0 ≤ k → k < n → ⊤) (λ i. (0 ≤ i) × (i < n) × ⊤ × ((k : ℕ) → 0 ≤ k → k < i → ⊤)) → IfSome r (λ i. i < n)
below n None found = tt
below n (Some i) found = found.1

within_here : (c : After-find) → IfSome c.find.result (λ s. s < size (job_of c.args.m.now))
within_here c =
    rw (sym c.states.ensures.0)
    (below c.states.result c.find.result (first_from_Range _ _ _ _ (λ i. ⊤) (λ i. ⊤) c.find.ensures.ran (λ x q k. tt) (λ x q k. (search (rules, tests), tt))))

pub returns-clause-yes_value : goal.returns-clause-yes_value
returns-clause-yes_value c =
    λ complete.
    verdict_is _ _ _ (λ s state. whole_filled _ _ (image_job c.args.m.now) s state complete) _ (within_here (goal.at.returns-clause-yes_value c).After-find)
    (lowest_here (goal.at.returns-clause-yes_value c).After-find)
