-- `place_in`: the owner, and then the end of the chain, say which place it is.
use mathlib.Core.Path.{◌≡◌, sym, ◌∙◌}
use native.Mathlib.Omega.{arith}
use Rattle.job.specs.Job.{owner}
use Rattle.image.specs.Lines.{lines_job}
use Rattle.image.proofs.LinesLaws.{state_there, owner_read}
use Rattle.decoding.proofs.PlaceLaws.{place_own, place_none, place_reached}
use Rattle.decoding.proofs.decode.place_in.Goals as goal
use Rattle.decoding.proofs.decode.place_in.Goals.{After-from, Else-from-n}

pub bounds-as_slice-s : goal.bounds-as_slice-s
bounds-as_slice-s c = state_there c.args.lines.now _ c.as_slice.ensures.value c.args.s c.requires.s_bound

owner_here : (c : After-from) → c.from.result ≡ owner (lines_job c.args.lines.now) c.args.s
owner_here c = (owner_read c.args.lines.now c.requires.is_job _ c.as_slice.ensures.value c.args.s c.requires.s_bound _ c.from.ensures).0

pub returns-then-from-n : goal.returns-then-from-n
returns-then-from-n c =
    sym (place_own _ c.requires.is_job c.args.n c.args.s c.requires.s_bound (sym (owner_here (goal.at.returns-then-from-n c).After-from) ∙ c.if-from-n.true))

not_owned : (c : Else-from-n) → owner (lines_job c.args.lines.now) c.args.s ≡ c.args.n → ⊥
not_owned c e = c.if-from-n.false (owner_here (goal.at.Else-from-n c).After-from ∙ e)

pub returns-then-last-s-eq0 : goal.returns-then-last-s-eq0
returns-then-last-s-eq0 c =
    let last = c.requires.ends c.args.s (omega (arith, c.requires.is_job.states, c.requires.s_bound)) in
    sym (place_none _ c.requires.is_job c.args.n c.args.s (not_owned (goal.at.returns-then-last-s-eq0 c).Else-from-n) (sym last ∙ c.if-last-s-eq0.true))

pub returns : goal.returns
returns c =
    let last = c.requires.ends c.args.s (omega (arith, c.requires.is_job.states, c.requires.s_bound)) in
    sym (place_reached _ c.requires.is_job c.args.n c.args.s (not_owned (goal.at.returns c).Else-from-n) (λ e. c.if-last-s-eq0.false (last ∙ e)))
