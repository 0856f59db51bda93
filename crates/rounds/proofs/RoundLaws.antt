-- A round, from what its parts leave: the exchange, and what close does to a settled table. Assumes nothing.
use Prim.Native.Nat.{ℕ, ◌<◌, ◌≤◌}
use mathlib.Core.Path.{◌≡◌, sym, ◌∙◌, ap, subst}
use mathlib.Core.Bool.{true, ◌&&◌}
use native.Mathlib.Omega.{arith}
use borrow.Author.Tests.{eq-eqb, ne_eqb, lt-ltb, le-ltb}
use lib.Dec.{eqb}
use Rattle.law.proofs.Bool.{and_intro, and_no_right, cond_true, cond_false}
use Rattle.job.specs.Job.{Job, subformula_count}
use Rattle.cells.specs.Table.{Table, filled}
use Rattle.cells.specs.Close.{settled, smallest_open, some_open, close_table}
use Rattle.cells.specs.Finish.{exchange, closing, round}
use Rattle.cells.proofs.Grown.{exchange_grown}
use Rattle.cells.proofs.Counts.{filled_same, filled_none}
use Rattle.cells.proofs.Rounds.{exchange_idle}
use Rattle.table.specs.Filling.{Leaves}

module _ (J : Job) (t : Table) where
  -- What close does to a settled table.
  pub closing_none : (k : ℕ) → k ≡ smallest_open J t → subformula_count J ≤ k → Leaves t (closing J t) t 0
  unfolding closing some_open
  closing_none k is past =
      let same : closing J t ≡ t =
      cond_false (settled J t && some_open J t) (close_table J t) t
      (and_no_right (settled J t) (some_open J t) (le-ltb (smallest_open J t) (subformula_count J) (rw is at past))) in
      record { table_is = sym same; told_is = sym (ap (filled t) same ∙ filled_same t) }

  pub closing_some :
      settled J t ≡ true
      → (k : ℕ)
      → k ≡ smallest_open J t
      → k < subformula_count J
      → (w : Table) (c : ℕ)
      → Leaves t (close_table J t) w c
      → Leaves t (closing J t) w c
  unfolding closing some_open
  closing_some still k is under w c =
      subst (λ x. Leaves t x w c)
      (sym
      (cond_true (settled J t && some_open J t) (close_table J t) t
      (and_intro (settled J t) (some_open J t) still (lt-ltb (smallest_open J t) (subformula_count J) (rw is at under)))))

  -- A round is the exchange where that fills something. Where it fills nothing the table is settled and the same, and the
  -- round is what close does.
  module _ (u : Table) (c : ℕ) (left : Leaves t (exchange J t) u c) where
    pub round_exchanged : (c ≡ 0 → ⊥) → Leaves t (round J t) u c
    unfolding round
    round_exchanged some =
        subst (λ x. Leaves t x u c)
        (sym
        (cond_false (eqb (filled t (exchange J t)) 0) (closing J (exchange J t)) (exchange J t)
        (ne_eqb (filled t (exchange J t)) 0 (λ none. some (left.told_is ∙ none)))))
        left

    module _ (none : c ≡ 0) where
      idle : exchange J t ≡ t
      idle = filled_none J t (exchange J t) (exchange_grown J t) (sym left.told_is ∙ none)

      pub exchanged_settled : settled J u ≡ true
      exchanged_settled = rw (left.table_is ∙ idle) (exchange_idle J t idle)

      pub round_closed : (w : Table) (d : ℕ) → Leaves u (closing J u) w d → Leaves t (round J t) w d
      unfolding round
      round_closed w d l =
          subst (λ x. Leaves t x w d)
          (sym
          (cond_true (eqb (filled t (exchange J t)) 0) (closing J (exchange J t)) (exchange J t)
          (eq-eqb (filled t (exchange J t)) 0 (sym left.told_is ∙ none))
          ∙ ap (closing J) idle))
          (subst (λ (x : Table). Leaves x (closing J x) w d) (left.table_is ∙ idle) l)
