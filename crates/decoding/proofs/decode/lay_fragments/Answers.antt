-- `lay_fragments`: the nodes passed so far have their fragments.
use mathlib.Core.Path.{sym, ◌∙◌, subst}
use native.Mathlib.Omega.{arith}
use borrow.Author.Count.{below_none, below_more}
use lib.ListN.{length-set}
use lib.Seq.{get_or-set_same, get_or-set_other}
use Rattle.image.specs.Lines.{lines_job}
use Rattle.image.specs.Image.{IsFragment}
use Rattle.image.specs.declared.space.Fragment.{Fragment}
use Rattle.decoding.proofs.decode.lay_fragments.Goals as goal

pub loop-n-init : goal.loop-n-init
loop-n-init c = (c.told-fragments, below_none _)

pub loop-n-preserved : goal.loop-n-preserved
loop-n-preserved c =
    let l = c.loop-n in
    let J = lines_job c.args.lines.now in
    let f : Fragment = record { places = c.lay_fragment.new.places; states = c.lay_fragment.new.states } in (
      length-set l.fragments l.n f ∙ l.invariant.0,
      below_more _ l.n
          (λ n g past. subst (IsFragment J n) (sym (get_or-set_other l.fragments l.n n f past (λ q. omega arith))) (l.invariant.1 n g past))
          (λ past. subst (IsFragment J l.n) (sym (get_or-set_same l.fragments l.n f past (omega (arith, l.invariant.0)))) c.lay_fragment.ensures),
    )

pub returns : goal.returns
returns c = λ n g past. c.loop-n.invariant.1 n (omega arith) past
