-- Close keeps a settled table sound: the cells that it fills are of a subformula that goes by sets, at states outside the set. Assumes
-- nothing.
use Prim.Native.Nat.{ℕ, ◌-◌, ◌<◌}
use mathlib.Core.Path.{◌≡◌, ◌∙◌, ap}
use mathlib.Core.Bool.{Bool, true, cond}
use native.Mathlib.Omega.{arith}
use lib.Dec.{eqb}
use borrow.Author.Tests.{eqb-true}
use Rattle.job.specs.Job.{Job, subformula_count}
use Rattle.job.specs.Rule.{rule_at, temporal, closed_value, quantifier, IsSets, AsksSmaller}
use Rattle.job.specs.Written.{IsJob}
use Rattle.job.specs.declared.rule.Condition.{Condition}
use Rattle.job.proofs.RuleLaws.{sets_range}
use Rattle.ctl.specs.Labelling.{labelled, reached, valued, meets}
use Rattle.ctl.proofs.Labelling.{sat_label}
use Rattle.cells.specs.Fragment.{in_fragment}
use Rattle.cells.specs.Table.{Table, cell, owner_cell}
use Rattle.cells.specs.Step.{known}
use Rattle.cells.specs.Close.{is_temporal, smallest_open, close_table}
use Rattle.cells.proofs.Columns.{sets_column}
use Rattle.cells.proofs.FragmentLaws.{fragment_bound, border_inside}
use Rattle.cells.proofs.Tells.{Tells, cond_tells, empty_tells, tells_valued}
use Rattle.cells.proofs.Formed.{cell_low, close_table_formed}
use Rattle.cells.proofs.RightColumn.{reads_sets}
use Rattle.cells.proofs.Sound.{truth, Sound, fill_tells, sound_reads}
use Rattle.cells.proofs.Settled.{Settled}
use Rattle.cells.proofs.Lower.{below_filled, open_sets}
use Rattle.cells.proofs.Determined.{Filled, known_filled}
use Rattle.cells.proofs.Exhausted.{empty_outside}

module _
    (J : Job) (job : IsJob J) (t : Table) (sound : Sound J t) (still : Settled J t) (some : smallest_open J t < subformula_count J)
  where
    -- The value that the smallest set of the smallest open subformula does not give is right at its empty cells.
    sets_closed :
        IsSets (rule_at J (smallest_open J t))
        → (n s : ℕ)
        → n < J.nodes
        → in_fragment J n s ≡ true
        → cell J t n s (smallest_open J t) ≡ 2
        → Tells 1 (closed_value (rule_at J (smallest_open J t))) (truth J (smallest_open J t) s)
    unfolding owner_cell is_temporal subformula_count labelled
    sets_closed sets n s node i e =
        let k = smallest_open J t in
        let r = rule_at J k in
        let q = quantifier sets.growth.all in
        let b = sets.growth.start in
        let a = sets.growth.grow in
        let v = sets.growth.value in
        let (lb, la, small) = sets_range k r sets (job.operands k some) in
        let U : ℕ → Bool = reached J.structure q (meets (truth J) b) (meets (truth J) a) in
        let truths : (s : ℕ) → truth J k s ≡ valued v (U s) =
        λ s.
        sat_label J.structure J.formula job.operands k some s
        ∙ ap (λ f. labelled J.structure (truth J) f s) sets.is in
        let at : ℕ → ℕ → ℕ → ℕ = λ n j s. cell J t n s j in
        let filled : (n s : ℕ) → n < J.nodes → in_fragment J n s ≡ true → (c : Condition) → AsksSmaller k c → Filled (known (at n) c s) =
        λ n s node i. known_filled (at n) k s (λ j h. below_filled J job t sound.formed still some j n s h node i) in
        let outside =
        empty_outside J job q v small (λ n. at n k) (λ n. known (at n) b) (λ n. known (at n) a) (meets (truth J) b) (meets (truth J) a)
        (record {
          tells =
              λ n node.
              reads_sets J (truth J) k (at n) sets.growth (rw sets.is at (job.operands k some))
              (rw sets.is at (sound_reads J job t sound n k node some));
          low = λ n s. cell_low J t sound.formed n s k;
          started = λ n s node i. filled n s node i b lb;
          grown = λ n s node i. filled n s node i a la;
          done =
              λ n s node i e.
              rw (sets_column J n (at n) k r sets) at (still.done n s k node (fragment_bound J job n s i) some i e);
          copied =
              λ n s node o.
              still.copied n s k node (fragment_bound J job n s (border_inside J n s o)) some o (ap temporal sets.is);
        })
        n s node i e in
        rw (truths s, ap closed_value sets.is)
        (tells_valued v (1 - v) (U s) small (record { inside = λ h. absurd (omega arith); outside = λ h. outside }))

    pub open_closed :
        (n s : ℕ)
        → n < J.nodes
        → in_fragment J n s ≡ true
        → cell J t n s (smallest_open J t) ≡ 2
        → Tells 1 (closed_value (rule_at J (smallest_open J t))) (truth J (smallest_open J t) s)
    open_closed = sets_closed (open_sets J job t sound.formed still some)

    pub close_table_sound : Sound J (close_table J t)
    unfolding close_table
    close_table_sound =
        let k = smallest_open J t in
        let v = closed_value (rule_at J k) in
        record {
          formed = close_table_formed J t sound.formed;
          tells =
              fill_tells J t sound (λ m s j. cond (eqb j k) v 2)
              (λ n s j a b c e i.
              cond_tells (eqb j k) v 2 (truth J j s)
              (λ here.
              let same = eqb-true j k here in
              rw same (open_closed n s a i (rw same at e)))
              (λ away. empty_tells (truth J j s)));
        }
