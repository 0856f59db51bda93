-- `behind_mark`: the token is this mark, or another token or none.
use mathlib.Core.Path.{◌≡◌, refl}
use borrow.Author.Rules.{rules}
use Rattle.law.proofs.Bool.{then_some_cases}
use Rattle.rule_text.specs.declared.token.Token.TheVariants.{Mark}
use Rattle.rule_places.specs.Places.{Marked}
use Rattle.rule_places.proofs.PlaceLaws.{known, scans_passes, other_token_mark}
use Rattle.rule_places.proofs.places.behind_mark.Goals as goal

pub returns : goal.returns
unfolding known
returns c =
    let token = c.first_token-first.result.token in
    let scans = c.first_token-first.ensures in
    then_some_cases _ _ _ (Marked c.args.text.now c.args.mark) c.then_some.ensures
    (λ t. let same : token ≡ Mark c.args.mark = search rules in scans_passes _ _ _ scans _ same refl)
    (λ f. let other : token ≡ Mark c.args.mark → ⊥ = λ e. search rules in other_token_mark _ _ _ _ other scans.starts)
