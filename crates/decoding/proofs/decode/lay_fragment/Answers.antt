-- `lay_fragment`: the states passed so far have their places, and those of the fragment are listed.
use Prim.Native.Nat.{ℕ, ◌+◌}
use mathlib.Core.Path.{refl, sym, ◌∙◌, ap, subst}
use native.Mathlib.Omega.{arith}
use Rattle.arrayvec.specs.ArrayVec.{ArrayVec}
use Rattle.image.specs.Lines.{lines_job}
use Rattle.image.proofs.LinesLaws.{states_read}
use Rattle.decoding.proofs.FragmentLaws.{ListedSoFar, listed_none, listed_few, listed_in, listed_out, listed_all}
use Rattle.decoding.proofs.decode.lay_fragment.Goals as goal
use Rattle.decoding.proofs.decode.lay_fragment.Goals.{then-ne, else-ne}

pub loop-s-init : goal.loop-s-init
loop-s-init c =
    let J = lines_job c.args.lines.now in
    let w = states_read c.args.lines.now c.requires.is_job _ refl in
    ((w.0, w.2), subst (ListedSoFar J c.args.n 0 _) (sym c.clear.ensures) (listed_none J c.args.n _ c.told-places))

pub place_in-place-requires-clause-s_bound : goal.place_in-place-requires-clause-s_bound
place_in-place-requires-clause-s_bound c = omega (arith, c.loop-s.invariant.0)

pub push-requires : goal.push-requires
push-requires c = omega (arith, c.loop-s.invariant.0, listed_few c.loop-s.invariant.1)

pub loop-s-preserved : goal.loop-s-preserved
loop-s-preserved c =
    let l = c.loop-s in
    let J = lines_job c.args.lines.now in
    let job = c.requires.is_job in
    let p = c.place_in-place in (
      l.invariant.0,
      elim c.if-ne.branch [
        | then-ne w ↦
            subst (ListedSoFar J c.args.n (l.s + 1) _) (sym (ap (λ (x : ArrayVec ℕ). x.items) w.states-is ∙ w.push.ensures.items))
            (listed_in J job c.args.n l.s p.result (omega (arith, l.invariant.0)) p.ensures c.ne.result c.ne.ensures l.places l.states.items l.invariant.1 w.if-ne.true)
        | else-ne w ↦
            subst (ListedSoFar J c.args.n (l.s + 1) _) (sym (ap (λ (x : ArrayVec ℕ). x.items) w.states-is))
            (listed_out J job c.args.n l.s p.result (omega (arith, l.invariant.0)) p.ensures c.ne.result c.ne.ensures l.places l.states.items l.invariant.1 w.if-ne.false)
      ],
    )

pub returns : goal.returns
returns c = listed_all (lines_job c.args.lines.now) c.args.n c.loop-s.s _ (omega (arith, c.loop-s.invariant.0)) c.loop-s.invariant.1
