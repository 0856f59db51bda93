-- `has_empty`: over the states of the fragment.
use Rattle.std.proofs.Common.{ℕ, ◌∙◌, ap, Bool, List, rules, tests}
use Rattle.std.specs.List.{list_any}
use Rattle.std.proofs.lemmas.Grind.{get_or_default_zero}
use Rattle.std.proofs.lemmas.Iterator.{YieldsList-from_slice}
use Rattle.std.proofs.lemmas.Iterator.Adapters.{serves_from_places}
use Rattle.std.proofs.lemmas.Iterator.Search.{any_from_yields_List}
use Rattle.cells.specs.Table.{cell, is_empty}
use Rattle.image.specs.Denoted.{job_of}
use Rattle.image.proofs.ImageLaws.{image_job}
use Rattle.image.proofs.FragmentSlice.{member_read}
use Rattle.sets.proofs.sets.has_empty.Goals as goal

pub any-requires-clause-callable : goal.any-requires-clause-callable
any-requires-clause-callable c =
    let list = c.fragment.result.now in
    serves_from_places (YieldsList-from_slice list c.iter.ensures.rest) (λ x q k. search rules)
    (λ x i l at.
    let here =
    member_read (job_of c.args.m.now) (image_job c.args.m.now) c.args.n list c.fragment.ensures i x.now l (at ∙ get_or_default_zero list i x.now l) in
    let in_state = here.state_in in
    search rules)

pub returns : goal.returns
unfolding is_empty
returns c =
    let empty : ℕ → Bool = λ s. is_empty (cell (job_of c.args.m.now) c.args.table.now c.args.n s c.args.k) in
    any_from_yields_List empty _ _ _ c.any.ensures.ran (YieldsList-from_slice c.fragment.result.now c.iter.ensures.rest)
    (λ x b q k. search (rules, tests))
    ∙ ap (λ (l : List ℕ). list_any empty l) c.fragment.ensures
