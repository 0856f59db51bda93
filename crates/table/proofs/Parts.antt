-- Parts of what a call fills, one after the other. Assumes nothing.
use Prim.Native.Nat.{ℕ, ◌+◌, ◌*◌, ◌<◌, ◌≤◌}
use mathlib.Core.Path.{◌≡◌, refl, sym, ◌∙◌, ap, ap₂}
use mathlib.Core.Bool.{Bool, true, false, cond, not, ◌&&◌, ◌||◌}
use native.Mathlib.Nat.{mul-le-mul}
use native.Mathlib.Omega.{arith}
use borrow.Author.Tests.{ne_eqb}
use lib.ListN.{length, get_or}
use lib.Seq.{ext_get_or}
use lib.Dec.{eqb}
use Rattle.law.proofs.Bool.{split, cond_true, cond_false}
use Rattle.law.proofs.Bounded.{by_equal}
use Rattle.law.proofs.Count.{count_le}
use Rattle.job.specs.Job.{Job, size, subformula_count}
use Rattle.job.specs.Written.{IsJob}
use Rattle.cells.specs.Fragment.{in_fragment}
use Rattle.cells.specs.Table.{Table, table_length, node_of, state_of, subformula_of, cell, is_empty, inside, fill, filled}
use Rattle.cells.proofs.Index.{node_of_lt, state_of_lt, subformula_of_lt}
use Rattle.cells.proofs.Fill.{is_empty_lem, not_empty, fill_length, fill_filled, fill_outside, fill_new, fill_cell_left, fill_same_cells, fill_idle_cells}
use Rattle.cells.proofs.Grown.{fill_grown}
use Rattle.cells.proofs.Counts.{filled_sum, filled_same, filled_none}
use Rattle.image.specs.Denoted.{job_of}
use Rattle.image.specs.declared.image.Image.{Image}
use Rattle.image.proofs.ImageLaws.{image_job}
use Rattle.table.specs.Lent.{Lent, IsCell}
use Rattle.table.specs.Filling.{Leaves, Cells, Values, part}

pub both_two : (b : Bool) → cond {A = ℕ} b 2 2 ≡ 2
both_two true = refl
both_two false = refl

cell_of : (J : Job) (i : ℕ) → i < table_length J → IsCell J (node_of J i) (state_of J i) (subformula_of J i)
cell_of J i l = record { node_in = node_of_lt J i l; state_in = state_of_lt J i l; subformula_in = subformula_of_lt J i l }

-- What holds of the cells of fragments.
abbrev pub Each : Job → (ℕ → ℕ → ℕ → Type 0) → Type 0
Each J P = (m s k : ℕ) → IsCell J m s k → in_fragment J m s ≡ true → P m s k

module _ (J : Job) (t : Table) (long : length t ≡ table_length J) where
  -- What is filled after a first filling: the first value where there is one, the second else.
  fill_twice :
      (a b c : Values)
      → Each J (λ m s k. c m s k ≡ cond (is_empty (a m s k)) (b m s k) (a m s k))
      → fill J b (fill J a t) ≡ fill J c t
  unfolding inside
  fill_twice a b c is =
      let u = fill J a t in
      ext_get_or 0 (fill J b u) (fill J c t) (fill_length J b u ∙ fill_length J a t ∙ sym (fill_length J c t))
      (λ i h.
      by_equal (get_or t i 0) 2
      (λ e.
      split (inside J i)
      (λ o.
      let l : i < table_length J = omega (arith, fill_length J b u, fill_length J a t) in
      let first = fill_new J a t i e o in
      let m = node_of J i in
      let s = state_of J i in
      let k = subformula_of J i in
      let want : get_or (fill J c t) i 0 ≡ cond (is_empty (a m s k)) (b m s k) (a m s k) =
      fill_new J c t i e o ∙ is m s k (cell_of J i l) o in
      by_equal (a m s k) 2
      (λ q. fill_new J b u i (first ∙ q) o ∙ sym (want ∙ cond_true (is_empty (a m s k)) (b m s k) (a m s k) (is_empty_lem (a m s k) q)))
      (λ q.
      fill_filled J b u i (λ z. q (sym first ∙ z)) ∙ first
      ∙ sym (want ∙ cond_false (is_empty (a m s k)) (b m s k) (a m s k) (not_empty (a m s k) q))))
      (λ o. fill_outside J b u i o ∙ fill_outside J a t i o ∙ sym (fill_outside J c t i o)))
      (λ f.
      let first = fill_filled J a t i f in
      fill_filled J b u i (λ z. f (sym first ∙ z)) ∙ first ∙ sym (fill_filled J c t i f)))

  -- Only the values at cells of fragments matter.
  pub part_same :
      (keep other : Cells) (new values : Values)
      → Each J (λ m s k. cond (keep m s k) (new m s k) 2 ≡ cond (other m s k) (values m s k) 2)
      → part J keep new t ≡ part J other values t
  unfolding part
  part_same keep other new values same =
      fill_same_cells J _ _ t long (λ n s k a b c e o. same n s k (record { node_in = a; state_in = b; subformula_in = c }) o)

  pub part_all : (keep : Cells) (new : Values) → Each J (λ m s k. cond (keep m s k) (new m s k) 2 ≡ new m s k) → part J keep new t ≡ fill J new t
  unfolding part
  part_all keep new same =
      fill_same_cells J _ new t long (λ n s k a b c e o. same n s k (record { node_in = a; state_in = b; subformula_in = c }) o)

  -- Nothing is filled where no empty cell has a value.
  pub leaves_idle :
      (keep : Cells) (new : Values)
      → Each J (λ m s k. cell J t m s k ≡ 2 → cond (keep m s k) (new m s k) 2 ≡ 2)
      → Leaves t (part J keep new t) t 0
  unfolding part
  leaves_idle keep new none =
      let same : part J keep new t ≡ t =
      fill_idle_cells J (λ m s k. cond (keep m s k) (new m s k) 2) t long
      (λ n s k a b c e o. none n s k (record { node_in = a; state_in = b; subformula_in = c }) o e) in
      record { table_is = sym same; told_is = sym (filled_same t) ∙ ap (filled t) (sym same) }

  pub leaves_none : (keep : Cells) (new : Values) → ((m s k : ℕ) → keep m s k ≡ false) → Leaves t (part J keep new t) t 0
  leaves_none keep new none = leaves_idle keep new (λ m s k h o e. cond_false (keep m s k) (new m s k) 2 (none m s k))

pub leaves_is : (t wanted other after : Table) (told : ℕ) → wanted ≡ other → Leaves t wanted after told → Leaves t other after told
leaves_is t wanted other after told e l = record { table_is = l.table_is ∙ e; told_is = l.told_is ∙ ap (filled t) e }

either : (a b : Bool) (v : ℕ) → cond (a || b) v 2 ≡ cond (is_empty (cond a v 2)) (cond b v 2) (cond a v 2)
unfolding is_empty
either true b v =
    by_equal v 2
    (λ e. rw e (sym (both_two b)))
    (λ f. sym (cond_false (eqb v 2) (cond b v 2) v (ne_eqb v 2 f)))
either false b v = refl

-- A part, and then another.
module _ (J : Job) (t : Table) (long : length t ≡ table_length J) (new : Values) (first second both : Cells)
    (joined : Each J (λ m s k. both m s k ≡ (first m s k || second m s k))) where
  part_twice : part J second new (part J first new t) ≡ part J both new t
  unfolding part
  part_twice =
      fill_twice J t long _ _ _ (λ m s k h o. rw (joined m s k h o) (either (first m s k) (second m s k) (new m s k)))

  pub leaves_more :
      (u w : Table) (c d : ℕ)
      → Leaves t (part J first new t) u c
      → Leaves u (part J second new u) w d
      → Leaves t (part J both new t) w (c + d)
  unfolding part
  leaves_more u w c d a b =
      let is : w ≡ part J both new t = b.table_is ∙ ap (part J second new) a.table_is ∙ part_twice in
      let f : Values = λ m s k. cond (first m s k) (new m s k) 2 in
      let g : Values = λ m s k. cond (second m s k) (new m s k) 2 in
      let tu = part J first new t in
      let told : filled t (part J second new tu) ≡ filled t tu + filled tu (part J second new tu) =
      filled_sum J t tu (fill_grown J f t) (part J second new tu) (fill_grown J g tu) in
      record {
        table_is = is;
        told_is =
            ap₂ ◌+◌ a.told_is (b.told_is ∙ ap (λ x. filled x (part J second new x)) a.table_is) ∙ sym told ∙ ap (filled t) part_twice;
      }

-- The table that a part leaves.
module _ (J : Job) (t : Table) (keep : Cells) (new : Values) (u : Table) (told : ℕ) (l : Leaves t (part J keep new t) u told) where
  pub leaves_long : length u ≡ length t
  unfolding part
  leaves_long = ap length l.table_is ∙ fill_length J _ t

  -- It has the cells that are not kept as they were.
  pub leaves_others : (m s j : ℕ) → s < size J → j < subformula_count J → keep m s j ≡ false → cell J u m s j ≡ cell J t m s j
  unfolding part
  leaves_others m s j b c out =
      ap (λ x. cell J x m s j) l.table_is ∙ fill_cell_left J _ t m s j b c (cond_false (keep m s j) (new m s j) 2 out)

  -- Nothing is filled only where all are left.
  pub leaves_nothing : told ≡ 0 → u ≡ t
  unfolding part
  leaves_nothing none =
      l.table_is ∙ filled_none J t (part J keep new t) (fill_grown J _ t) (sym l.told_is ∙ none)

pub table_small : (J : Job) → IsJob J → table_length J ≤ 65536
unfolding table_length
table_small J job =
    let two : J.nodes * size J ≤ 8 * 256 = mul-le-mul job.nodes.below job.states.below in
    mul-le-mul two job.subformulas.below

-- What is lent stays so while a table is filled, and no more is filled than there is.
module _ (m : Image) (t : Table) (lent : Lent m t) where
  pub told_small : (wanted after : Table) (told : ℕ) → Leaves t wanted after told → told ≤ 65536
  unfolding filled
  told_small wanted after told l =
      omega (
        arith,
        l.told_is,
        lent.long,
        table_small (job_of m) (image_job m),
        count_le (λ i. is_empty (get_or t i 0) && not (is_empty (get_or wanted i 0))) (length t),
      )

  module _ (keep : Cells) (new : Values) (u : Table) (told : ℕ) (l : Leaves t (part (job_of m) keep new t) u told) where
    pub leaves_lent : Lent m u
    leaves_lent = record { long = leaves_long (job_of m) t keep new u told l ∙ lent.long }
