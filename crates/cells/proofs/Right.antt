-- A table that passes question 10 still passes it after each call: what a call fills in is at most 2, and cells outside fragments
-- stay. Assumes nothing.
use Prim.Native.Nat.{ℕ, ◌-◌, ◌<◌, ◌≤◌}
use mathlib.Core.Path.{◌≡◌, ◌∙◌}
use mathlib.Core.Bool.{Bool, true, false, cond, ◌&&◌, ◌||◌}
use mathlib.Core.Logic.{⊎_elim}
use native.Mathlib.Nat.{le_refl}
use native.Mathlib.Omega.{arith}
use borrow.Author.Tests.{leb-true, le-leb}
use lib.Dec.{eqb, leb}
use lib.ListN.{length, get_or, replicate, get_or-eq_default, get_or-replicate, length-replicate}
use Rattle.law.specs.Lists.{tab}
use Rattle.law.specs.Fixpoint.{member}
use Rattle.law.proofs.Bool.{split, and_intro, and_left, and_right, or_left, or_right, or_cases, clash}
use Rattle.law.proofs.Bounded.{by_order, by_equal, all_intro, all_elim}
use Rattle.law.proofs.Lists.{tab_length, tab_at}
use Rattle.job.specs.Job.{Job, Quantifier, dual, over, size, owner, atom, subformula}
use Rattle.job.specs.Rule.{rule_at, quantifier, closed_value, Valued}
use Rattle.job.specs.declared.rule.Condition.{Condition}
use Rattle.job.specs.declared.rule.Condition.TheVariants.{Always, Holds, Fails}
use Rattle.job.specs.declared.rule.Rule.{Rule}
use Rattle.job.specs.declared.rule.Rule.TheVariants.{Atom, Not, And, Next, Sets}
use Rattle.job.proofs.Formula.{rule_valued}
use Rattle.job.proofs.RuleLaws.{closed_bound}
use Rattle.cells.specs.Fragment.{inner, border}
use Rattle.cells.specs.Table.{Table, index, node_of, state_of, subformula_of, cell, owner_cell, is_empty, inside, cells_right, fresh_table, fill}
use Rattle.cells.specs.SetRule.{SetRule, set_rule, smallest, largest, by_sets}
use Rattle.cells.specs.Step.{opposite, both, next, known, column, step_column, step_table}
use Rattle.cells.specs.Close.{is_temporal, accept_table, copy_table, smallest_open, close_table}
use Rattle.cells.specs.Finish.{round, finish}
use Rattle.cells.proofs.Fill.{empty_is, is_empty_lem, fill_length, fill_filled, fill_outside, fill_new}
use Rattle.cells.proofs.Kept.{Parts, step_table_keeps, round_keeps, finish_keeps}

-- Question 10 as facts about bytes, and about cells.
pub record Right (J : Job) (t : Table) : Type 0 where
  pub small : (i : ℕ) → get_or t i 0 ≤ 2
  pub outside : (i : ℕ) → i < length t → inside J i ≡ false → get_or t i 0 ≡ 2

module _ (J : Job) (t : Table) where
  pub right_is : cells_right J t ≡ true → Right J t
  unfolding cells_right
  right_is e =
      record {
        small =
            λ i.
            by_order i (length t) (λ l. leb-true (get_or t i 0) 2 (and_left (leb (get_or t i 0) 2) (here i) (passes i l)))
            (λ past. omega (arith, get_or-eq_default t 0 past));
        outside =
            λ i l o.
            ⊎_elim (λ inner. clash (inside J i) inner o) (empty_is (get_or t i 0))
            (or_cases (inside J i) (is_empty (get_or t i 0)) (and_right (leb (get_or t i 0) 2) (here i) (passes i l)));
      }
    where
      here : ℕ → Bool
      here i = inside J i || is_empty (get_or t i 0)

      passes : (i : ℕ) → i < length t → (leb (get_or t i 0) 2 && here i) ≡ true
      passes = all_elim (λ i. leb (get_or t i 0) 2 && here i) (length t) e

  pub is_right : Right J t → cells_right J t ≡ true
  unfolding cells_right
  is_right r =
      all_intro (λ i. leb (get_or t i 0) 2 && (inside J i || is_empty (get_or t i 0))) (length t)
      (λ i l.
      and_intro (leb (get_or t i 0) 2) (inside J i || is_empty (get_or t i 0)) (le-leb (get_or t i 0) 2 (r.small i))
      (split (inside J i) (or_left (inside J i) (is_empty (get_or t i 0)))
      (λ o. or_right (inside J i) (is_empty (get_or t i 0)) (is_empty_lem (get_or t i 0) (r.outside i l o)))))

  pub right_cell_small : Right J t → (n s k : ℕ) → cell J t n s k ≤ 2
  unfolding cell
  right_cell_small r n s k = r.small (index J n s k)

pub fresh_right : (J : Job) (t : Table) → Right J (fresh_table t)
unfolding fresh_table
fresh_right J t =
    let n = length t in
    record {
      small =
          λ i.
          by_order i n (λ l. omega (arith, get_or-replicate {A = ℕ} n i 2 0 l))
          (λ past. omega (arith, get_or-eq_default (replicate {A = ℕ} n 2) 0 {n = i} (omega (arith, length-replicate {A = ℕ} n 2))));
      outside = λ i l o. get_or-replicate {A = ℕ} n i 2 0 (omega (arith, length-replicate {A = ℕ} n 2));
    }

-- What is filled in is at most 2.
cond_small : (b : Bool) (x y : ℕ) → x ≤ 2 → y ≤ 2 → cond b x y ≤ 2
cond_small true x y p q = p
cond_small false x y p q = q

pub fill_right :
    (J : Job) (new : ℕ → ℕ → ℕ → ℕ) → ((n s k : ℕ) → new n s k ≤ 2) → (t : Table) → Right J t → Right J (fill J new t)
fill_right J new few t r =
    record {
      small =
          λ i.
          by_equal (get_or t i 0) 2
          (λ e.
          split (inside J i)
          (λ o. rw (fill_new J new t i e o) (few (node_of J i) (state_of J i) (subformula_of J i)))
          (λ o. rw (fill_outside J new t i o) (r.small i)))
          (λ f. rw (fill_filled J new t i f) (r.small i));
      outside = λ i l o. fill_outside J new t i o ∙ r.outside i (omega (arith, fill_length J new t)) o;
    }

tab_small : (f : ℕ → ℕ) → ((s : ℕ) → f s ≤ 2) → (n s : ℕ) → get_or (tab f n) s 2 ≤ 2
tab_small f few n s =
    by_order s n (λ l. rw (tab_at f n s 2 l) (few s))
    (λ past. omega (arith, get_or-eq_default (tab f n) 2 {n = s} (omega (arith, tab_length f n))))

one_small : 1 ≤ 2
one_small = omega arith

other_small : (a : ℕ) → 1 - a ≤ 2
other_small a = omega arith

none_small : (b : Bool) → cond b 0 2 ≤ 2
none_small b = cond_small b 0 2 (other_small 1) (le_refl 2)

opposite_small : (a : ℕ) → opposite a ≤ 2
unfolding opposite
opposite_small a = cond_small (is_empty a) 2 (1 - a) (le_refl 2) (other_small a)

pub known_small : (at : ℕ → ℕ → ℕ) (s : ℕ) → ((j : ℕ) → at j s ≤ 2) → (c : Condition) → known at c s ≤ 2
unfolding known
known_small at s low Always = one_small
known_small at s low (Holds a) = low a
known_small at s low (Fails a) = opposite_small (at a s)

both_small : (a b : ℕ) → both a b ≤ 2
unfolding both
both_small a b =
    cond_small (eqb a 1 && eqb b 1) 1 (cond (eqb a 0 || eqb b 0) 0 2) one_small (none_small (eqb a 0 || eqb b 0))

next_small : (J : Job) (n : ℕ) (q : Quantifier) (a : ℕ → ℕ) (s : ℕ) → next J n q a s ≤ 2
unfolding next
next_small J n q a s =
    let yes = over J.structure q s (λ u. eqb (a u) 1) in
    let no = over J.structure (dual q) s (λ u. eqb (a u) 0) in
    cond_small (inner J n s) (cond yes 1 (cond no 0 2)) 2 (cond_small yes 1 (cond no 0 2) one_small (none_small no))
    (le_refl 2)

by_sets_small : (J : Job) (n : ℕ) (own : ℕ → ℕ) (R : SetRule) → R.value ≤ 2 → (s : ℕ) → get_or (by_sets J n own R) s 2 ≤ 2
unfolding by_sets
by_sets_small J n own R v =
    let L = smallest J n own R in
    let G = largest J n own R L in
    let later : ℕ → ℕ = λ s. cond (member G s) (1 - R.value) 2 in
    tab_small (λ s. cond (member L s) R.value (later s))
    (λ s.
    cond_small (member L s) R.value (later s) v
    (cond_small (member G s) (1 - R.value) 2 (other_small R.value) (le_refl 2)))
    (size J)

pub column_small :
    (J : Job) (n : ℕ) (at : ℕ → ℕ → ℕ) (k : ℕ) (r : Rule) → Valued r → (s : ℕ) → get_or (column J n at k r) s 2 ≤ 2
unfolding column Valued
column_small J n at k (Atom j) o =
    tab_small _ (λ s. cond_small (atom J.structure j s) 1 0 one_small (other_small 1)) (size J)
column_small J n at k (Not a) o = tab_small _ (λ s. opposite_small (at a s)) (size J)
column_small J n at k (And a b) o = tab_small _ (λ s. both_small (at a s) (at b s)) (size J)
column_small J n at k (Next all a) o = tab_small _ (next_small J n (quantifier all) (at a)) (size J)
column_small J n at k (Sets g) o = by_sets_small J n (at k) (set_rule (quantifier g.all) (known at g.start) (known at g.grow) g.value) (omega arith)

-- So each call keeps the table right, an accept of a value that passes question 15.
module _ (J : Job) where
  abbrev pub KeepsRight : Table → Table → Type 0
  KeepsRight t u = Right J t → Right J u

  pub step_column_right : (n k : ℕ) (t : Table) → Right J t → Right J (step_column J n k t)
  unfolding step_column
  step_column_right n k t =
      let at : ℕ → ℕ → ℕ = λ i u. cell J t n u i in
      let r = rule_at J k in
      fill_right J _
      (λ m s j.
      cond_small (eqb m n && eqb j k) (get_or (column J n at k r) s 2) 2
      (column_small J n at k r (rule_valued (subformula J.formula k)) s) (le_refl 2)) t

  pub accept_table_right : (n s k v : ℕ) → v ≤ 2 → (t : Table) → Right J t → Right J (accept_table J n s k v t)
  unfolding accept_table
  accept_table_right n s k v l = fill_right J _ (λ m u j. cond_small (eqb m n && eqb u s && eqb j k) v 2 l (le_refl 2))

  pub copy_table_right : (t : Table) → Right J t → Right J (copy_table J t)
  unfolding copy_table owner_cell
  copy_table_right t r =
      fill_right J _
      (λ m s k.
      cond_small (border J m s && is_temporal J k) (owner_cell J t s k) 2 (right_cell_small J t r (owner J s) s k) (le_refl 2))
      t r

  pub close_table_right : (t : Table) → Right J t → Right J (close_table J t)
  unfolding close_table
  close_table_right t =
      let value = closed_value (rule_at J (smallest_open J t)) in
      fill_right J _
      (λ m s j. cond_small (eqb j (smallest_open J t)) value 2 (omega (arith, closed_bound (rule_at J (smallest_open J t)))) (le_refl 2)) t

  pub step_table_right : (n : ℕ) (t : Table) → Right J t → Right J (step_table J n t)
  step_table_right n =
      step_table_keeps J KeepsRight (λ t r. r) (λ t u v a b r. b (a r)) n (λ k t l. step_column_right n k t)

  pub right_parts : Parts J KeepsRight
  right_parts =
      record {
        still = λ t r. r;
        after = λ t u v a b r. b (a r);
        step = λ n t l. step_table_right n t;
        copy = copy_table_right;
        close = λ t a b. close_table_right t;
      }

  pub round_right : (t : Table) → Right J t → Right J (round J t)
  round_right = round_keeps J KeepsRight right_parts

  pub finish_right : (t : Table) → Right J t → Right J (finish J t).table
  finish_right = finish_keeps J KeepsRight right_parts
