-- `store`: the call's own numbers stand behind number and line.
use Rattle.std.proofs.Common.{ℕ, List, ◌++◌, ◌≡◌, ap, subst, ◌∙◌, length, rules}
use Rattle.numbers.specs.Stored.{stored, stored_from}
use Rattle.numbers.proofs.StoredLaws.{behind_front}
use Rattle.numbers.proofs.store.store.Goals as goal

pub returns : goal.returns
returns g c =
    let out = c.args.out.now in
    let front = c.numbers_of-own.result.0 in
    let own = c.numbers_of-own.result.1 in
    let two : length front ≡ 2 = search rules in
    c.put_all-2.ensures
    ∙ ap (λ (l : List ℕ). stored_from 2 l own) c.put_all.ensures
    ∙ subst (λ n. stored_from n (stored_from 0 out front) own ≡ stored out (front ++ own)) two (behind_front front out own)
    ∙ ap (stored out) c.numbers_of-own.ensures
