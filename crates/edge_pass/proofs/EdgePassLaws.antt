-- What the pass keeps after so many edge lines of a text, and that questions 6 and 7 are answered from it as document 01 has them. Assumes nothing.
use Prim.Native.Nat.{ℕ, zero, suc, ◌+◌, ◌<◌, ◌≤◌}
use mathlib.Core.Path.{◌≡◌, refl, sym, ◌∙◌, ap}
use mathlib.Core.Bool.{Bool, true, false, not, ◌&&◌, ◌||◌}
use native.Mathlib.Numerals.{add-one, sub-one}
use native.Mathlib.Omega.{arith}
use borrow.Author.Tests.{eq-eqb, ne_eqb}
use lib.ListN.{length, get_or, set, length-set, length-replicate, get_or-replicate}
use lib.Dec.{ltb, eqb}
use lib.Seq.{get_or-set_same, get_or-set_other}
use Rattle.law.specs.Bounded.{first, any, all}
use Rattle.law.proofs.Bool.{or_true, or_false}
use Rattle.law.proofs.Bounded.{by_equal, any_suc, first_same}
use Rattle.text.specs.Field.{Text}
use Rattle.job.specs.Layout.{states, edges, source_field, target_field}
use Rattle.job.specs.Questions.{of_lines, less, ascends, edge_ok, has_edge_out, edge_lines, edges_out}
use Rattle.layout.specs.Lines.{right_after}
use Rattle.layout.proofs.LinesLaws.{right_first}
use Rattle.edge_pass.specs.EdgePass.{start, is_right, order_after, after, kept_after, kept_of, terminal_state, question6, question7}

module _ (t : Text) where
  -- What is kept for question 6.
  pub kept_states : (e : ℕ) → (kept_after t e).order.states ≡ states t
  unfolding kept_after start after order_after
  kept_states zero = refl
  kept_states (suc e) = kept_states e

  pub kept_lines : (e : ℕ) → (kept_after t e).order.lines ≡ e
  unfolding kept_after start after order_after
  kept_lines zero = refl
  kept_lines (suc e) = ap (λ n. n + 1) (kept_lines e) ∙ add-one e

  kept_follows :
      (e : ℕ)
      → (eqb e 0 || less (kept_after t e).order.source (kept_after t e).order.target (source_field t e) (target_field t e))
      ≡ (eqb e 0 || ascends t e)
  unfolding kept_after after order_after ascends
  kept_follows zero = refl
  kept_follows (suc e) = simp sub-one

  right_is : (e : ℕ) → is_right (kept_after t e).order (source_field t e) (target_field t e) ≡ edge_ok t e
  unfolding is_right edge_ok
  right_is e =
      rw (kept_states e, kept_lines e)
      (ap (λ b. ltb (source_field t e) (states t) && ltb (target_field t e) (states t) && b) (kept_follows e))

  pub kept_right : (e : ℕ) → (kept_after t e).order.right ≡ first (λ d. not (edge_ok t d)) e
  unfolding kept_after start after order_after first
  kept_right zero = refl
  kept_right (suc e) = (λ i. right_after (kept_right e i) (kept_lines e i) (right_is e i)) ∙ right_first (edge_ok t) e

  -- What is kept for question 7.
  pub kept_marks : (e : ℕ) → length (kept_after t e).starts ≡ 256
  unfolding kept_after start after
  kept_marks zero = length-replicate {A = Bool} 256 false
  kept_marks (suc e) = length-set (kept_after t e).starts (source_field t e) true ∙ kept_marks e

  abbrev starts_from : ℕ → ℕ → Bool
  starts_from s d = eqb (source_field t d) s

  kept_unmarked : (e s : ℕ) → s < 256 → not (get_or (kept_after t e).starts s false) ≡ not (any (starts_from s) e)
  unfolding kept_after start after any first
  kept_unmarked zero s l = simp (get_or-replicate {A = Bool} 256 s false false l)
  kept_unmarked (suc e) s l =
      rw (any_suc (starts_from s) e)
      (by_equal s (source_field t e)
      (λ q.
      let marked : get_or (set (kept_after t e).starts (source_field t e) true) s false ≡ true =
      rw q (get_or-set_same (kept_after t e).starts (source_field t e) true false (omega (arith, kept_marks e))) in
      simp (marked, eq-eqb (source_field t e) s (sym q), or_true))
      (λ q.
      rw (get_or-set_other (kept_after t e).starts (source_field t e) s true false q, ne_eqb (source_field t e) s (λ z. q (sym z)), or_false (any (starts_from s) e))
      (kept_unmarked e s l)))

  -- Both answers.
  pub answer_6 : question6 (kept_of t) ≡ edge_lines t
  unfolding question6 kept_of edge_lines of_lines all
  answer_6 = rw (kept_states (edges t), kept_lines (edges t), kept_right (edges t))

  pub answer_7 : states t ≤ 256 → question7 (kept_of t) ≡ edges_out t
  unfolding question7 kept_of edges_out of_lines all terminal_state has_edge_out
  answer_7 few =
      let same = first_same _ _ (states t) (λ s l. kept_unmarked (edges t) s (omega arith)) in
      rw (kept_states (edges t), same)
