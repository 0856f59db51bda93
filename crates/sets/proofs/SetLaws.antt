-- The two sets that grow by marks are those of the rule: the smallest, and all that the largest leaves out; and a column without an empty
-- cell. Assumes nothing.
use Prim.Native.Nat.{ℕ, ◌-◌, ◌<◌, ◌≤◌}
use mathlib.Core.Path.{◌≡◌, refl, sym, ◌∙◌, ap}
use mathlib.Core.Bool.{Bool, true, false, cond, not, ◌&&◌, ◌||◌}
use mathlib.Core.List.{List}
use mathlib.Core.Logic.{⊎_elim}
use native.Mathlib.Omega.{arith}
use borrow.Author.Tests.{eqb-true, eq-eqb, ne_eqb, lt-ltb}
use lib.ListN.{length, get_or}
use lib.Dec.{eqb}
use Rattle.law.specs.Bounded.{Inside}
use Rattle.law.specs.Fixpoint.{Rule, Monotone, member, least}
use Rattle.law.proofs.Bool.{split, clash, not_not, and_left, and_right, or_right, and_mono, or_mono, or_cases}
use Rattle.law.proofs.Bounded.{by_equal, any_no}
use Rattle.law.proofs.Ranges.{any_places}
use Rattle.law.proofs.Least.{least_ind, least_closed, least_inside, least_unique, least_same}
use Rattle.law.proofs.Greatest.{others, greatest_dual}
use Rattle.law.proofs.Greatest.{dual_rule}
use Rattle.law.proofs.Lists.{tab_at}
use Rattle.job.specs.Job.{Job, Structure, dual, over, size}
use Rattle.job.specs.Rule.{quantifier, InRange}
use Rattle.job.specs.Written.{IsJob}
use Rattle.job.specs.declared.rule.Condition.{Condition}
use Rattle.job.proofs.Successors.{over_mono, over_dual}
use Rattle.cells.specs.Fragment.{inner}
use Rattle.cells.specs.Table.{Table, table_length, index, cell, is_empty}
use Rattle.cells.specs.SetRule.{SetRule, set_rule, joins, stays, smallest, largest, by_sets}
use Rattle.cells.specs.Step.{known, column}
use Rattle.cells.proofs.Columns.{over_same}
use Rattle.cells.proofs.Fill.{is_empty_lem}
use Rattle.cells.proofs.Right.{right_is, known_small}
use Rattle.image.specs.Image.{fragment_size, fragment_state, fragment}
use Rattle.image.specs.Denoted.{job_of}
use Rattle.image.proofs.Ranks.{by_rank}
use Rattle.image.proofs.FragmentSlice.{length-fragment, get_or-fragment}
use Rattle.image.specs.declared.image.Image.{Image}
use Rattle.image.proofs.ImageLaws.{image_job}
use Rattle.table.specs.Lent.{Ready, IsColumn}
use Rattle.table.specs.Filling.{Leaves, part, of_column}
use Rattle.table.specs.Column.{cells_of, column_values, step_by}
use Rattle.table.proofs.Parts.{part_same, leaves_is, leaves_idle}
use Rattle.job.specs.declared.rule.Growth.{Growth}
use Rattle.sets.specs.Marks.{rule_by, mark, mark_at, grows, IsSet, set_value, set_values, has_empty}

-- A rule that has more members from the start, all of the least set anyway, has the same least set.
least_more :
    (r : Rule) (n : ℕ) (mono : Monotone r) (Z : ℕ → Bool)
    → Inside n Z (member (least r n))
    → (s : ℕ) → s < n → member (least r n) s ≡ member (least (λ X u. Z u || r X u) n) s
least_more r n mono Z part =
    let wide : Rule = λ X u. Z u || r X u in
    let wide_mono : Monotone wide = λ X Y inside s. or_mono (Z s) (r X s) (r Y s) (mono X Y inside s) in
    least_unique wide n wide_mono (member (least r n))
    (λ s l.
    least_inside r n mono (member (least wide n))
    (λ u h e. least_closed wide n wide_mono u h (or_right (Z u) (r (member (least wide n)) u) e)) s)
    (λ s l e.
    ⊎_elim (part s l) (least_closed r n mono s l) (or_cases (Z s) (r (member (least r n)) s) e))

-- The rules of the sets and how a set grows by marks. Own value, empty, inner, start, grow, successors:
joins_by :
    (A E I B G O : Bool)
    → (A || (E && I && (B || (G && O))))
    ≡ (eqb (cond {A = ℕ} A 2 (cond E (cond I (cond (B || false) 2 (cond (G || false) 1 0)) 0) 0)) 2
    || (eqb (cond {A = ℕ} A 2 (cond E (cond I (cond (B || false) 2 (cond (G || false) 1 0)) 0) 0)) 1 && O))
joins_by true E I B G O = refl
joins_by false false I B G O = refl
joins_by false true false B G O = refl
joins_by false true true true G O = refl
joins_by false true true false true O = refl
joins_by false true true false false O = refl

-- what joins the smallest set joins where more counts as true; B' and G' are what counts besides
joins_more :
    (A E I B B' G G' O : Bool)
    → (A || (E && I && (B || (G && O)))) ≡ true
    → (eqb (cond {A = ℕ} A 2 (cond E (cond I (cond (B || B') 2 (cond (G || G') 1 0)) 2) 0)) 2
    || (eqb (cond {A = ℕ} A 2 (cond E (cond I (cond (B || B') 2 (cond (G || G') 1 0)) 2) 0)) 1 && O))
    ≡ true
joins_more true E I B B' G G' O e = refl
joins_more false false I B B' G G' O e = e
joins_more false true false B B' G G' O e = refl
joins_more false true true true B' G G' O e = refl
joins_more false true true false true G G' O e = refl
joins_more false true true false false true G' O e = e
joins_more false true true false false false G' O e = clash false e refl

-- what an empty cell's state leaves the largest set by: in the smallest set, inner, start may be true, grow may be true, successors
leaves_by :
    (K I B G O : Bool)
    → not (not K && I && not B && (not G || not O))
    ≡ (K || (eqb (cond {A = ℕ} I (cond B 2 (cond G 1 0)) 2) 2 || (eqb (cond {A = ℕ} I (cond B 2 (cond G 1 0)) 2) 1 && O)))
leaves_by true I B G O = refl
leaves_by false false B G O = refl
leaves_by false true true G O = refl
leaves_by false true false true O = not_not O
leaves_by false true false false O = refl

-- what is not false may be true
may_be : (x : ℕ) → x ≤ 2 → eqb x 0 ≡ not (eqb x 1 || eqb x 2)
may_be x l =
    by_equal x 0 (λ e. rw e refl)
    (λ no.
    by_equal x 1 (λ e. rw e refl)
    (λ un. let e : x ≡ 2 = omega arith in rw e refl))

-- a cell has the value, the other value, or none
cell_cases :
    (A : Type 0) (x v : ℕ) → x ≤ 2 → v ≤ 1
    → (eqb x v ≡ true → is_empty x ≡ false → eqb x (1 - v) ≡ false → A)
    → (eqb x v ≡ false → is_empty x ≡ false → eqb x (1 - v) ≡ true → A)
    → (eqb x v ≡ false → is_empty x ≡ true → eqb x (1 - v) ≡ false → A)
    → A
unfolding is_empty
cell_cases A x v l low same other none =
    by_equal x v
    (λ e. same (eq-eqb x v e) (ne_eqb x 2 (λ z. omega arith)) (ne_eqb x (1 - v) (λ z. omega arith)))
    (λ f.
    by_equal x 2
    (λ e. none (ne_eqb x v f) (eq-eqb x 2 e) (ne_eqb x (1 - v) (λ z. omega arith)))
    (λ g. other (ne_eqb x v f) (ne_eqb x 2 g) (eq-eqb x (1 - v) (omega arith))))

value_same : (a b : Bool) (x y z : ℕ) → cond a x (cond (not b) y z) ≡ cond a x (cond b z y)
value_same true b x y z = refl
value_same false true x y z = refl
value_same false false x y z = refl

-- The column of a set rule.
module _ (m : Image) (t : Table) (ready : Ready m t) (n k : ℕ) (g : Growth)
    (column_in : IsColumn (job_of m) n k) (range : InRange k (rule_by g)) where
  abbrev J : Job
  J = job_of m

  abbrev M : Structure
  M = J.structure

  abbrev own : ℕ → ℕ
  own = cells_of J t n k

  abbrev starts : ℕ → ℕ
  starts = known (cells_of J t n) g.start

  abbrev may_grow : ℕ → ℕ
  may_grow = known (cells_of J t n) g.grow

  abbrev R : SetRule
  R = set_rule (quantifier g.all) starts may_grow g.value

  abbrev L : List Bool
  L = smallest J n own R

  abbrev over_by : (ℕ → Bool) → ℕ → Bool
  over_by X s = over M (quantifier g.all) s X

  pub value_low : g.value ≤ 1
  unfolding InRange
  value_low = range.2

  cell_low : (s j : ℕ) → cell J t n s j ≤ 2
  unfolding cell
  cell_low s j = (right_is J t ready.right).small (index J n s j)

  known_low : (s : ℕ) (c : Condition) → known (cells_of J t n) c s ≤ 2
  known_low s = known_small (cells_of J t n) s (cell_low s)

  grows_mono : (wide : Bool) → Monotone (grows J t n k g wide)
  unfolding grows
  grows_mono wide X Y inside s =
      let may = eqb (mark_at J t n k g wide s) 1 in
      or_mono (eqb (mark_at J t n k g wide s) 2) (may && over_by X s) (may && over_by Y s)
      (and_mono may (over_by X s) (over_by Y s) (over_mono M (quantifier g.all) s X Y inside))

  -- the smallest set
  joins_same : (X : ℕ → Bool) (s : ℕ) → s < size J → joins J n own R X s ≡ grows J t n k g false X s
  unfolding joins grows mark
  joins_same X s l =
      joins_by (eqb (cell J t n s k) g.value) (is_empty (cell J t n s k)) (inner J n s) (eqb (starts s) 1)
      (eqb (may_grow s) 1) (over_by X s)

  smallest_grows : L ≡ least (grows J t n k g false) (size J)
  unfolding smallest
  smallest_grows = least_same (joins J n own R) (grows J t n k g false) (size J) joins_same

  -- and what the largest leaves out: the smallest set is left out anyway
  joins_out : (X : ℕ → Bool) (s : ℕ) → joins J n own R X s ≡ true → grows J t n k g true X s ≡ true
  unfolding joins grows mark
  joins_out X s =
      (joins_more (eqb (cell J t n s k) g.value) (is_empty (cell J t n s k)) (inner J n s) (eqb (starts s) 1)
      (eqb (starts s) 2) (eqb (may_grow s) 1) (eqb (may_grow s) 2) (over_by X s))

  smallest_out : (s : ℕ) → member L s ≡ true → member (least (grows J t n k g true) (size J)) s ≡ true
  unfolding smallest
  smallest_out =
      let out = grows J t n k g true in
      least_ind (joins J n own R) (size J) (λ u. member (least out (size J)) u ≡ true)
      (λ Y inside s l e.
      least_closed out (size J) (grows_mono true) s l
      (grows_mono true Y (member (least out (size J))) inside s (joins_out Y s e)))

  others_over : (X : ℕ → Bool) (s : ℕ) → over M (dual (quantifier g.all)) s (others (size J) X) ≡ not (over_by X s)
  unfolding others
  others_over X s =
      let q = quantifier g.all in
      over_same J (dual q) s (others (size J) X) (λ u. not (X u))
      (λ u r.
      let below : u < size J =
      ⊎_elim (λ l. l) (λ (e, l, is). let h = (image_job m).ends e l in omega arith) r in
      simp (lt-ltb u (size J) below))
      ∙ sym (not_not (over M (dual q) s (λ u. not (X u))))
      ∙ ap not (sym (over_dual M s q X))

  stays_same :
      (X : ℕ → Bool) (s : ℕ) → s < size J
      → dual_rule (stays J n own R L) (size J) X s ≡ ((is_empty (cell J t n s k) && member L s) || grows J t n k g true X s)
  unfolding dual_rule stays grows mark
  stays_same X s l =
      rw (
        others_over X s,
        may_be (starts s) (known_low s g.start),
        may_be (may_grow s) (known_low s g.grow),
      )
      (cell_cases _ (cell J t n s k) g.value (cell_low s k) value_low
      (λ a e o. rw (a, e, o) refl)
      (λ a e o. rw (a, e, o) refl)
      (λ a e o.
      rw (a, e, o)
      (leaves_by (member L s) (inner J n s) (eqb (starts s) 1 || eqb (starts s) 2)
      (eqb (may_grow s) 1 || eqb (may_grow s) 2) (over_by X s))))

  largest_is : (s : ℕ) → s < size J → member (largest J n own R L) s ≡ not (member (least (grows J t n k g true) (size J)) s)
  unfolding largest others
  largest_is s l =
      let wide : Rule = λ X u. (is_empty (cell J t n u k) && member L u) || grows J t n k g true X u in
      ap (λ (X : ℕ → Bool). X s) (greatest_dual (stays J n own R L) (size J))
      ∙ simp (lt-ltb s (size J) l)
      (ap not
      (ap (λ G. member G s) (least_same (dual_rule (stays J n own R L) (size J)) wide (size J) stays_same)
      ∙ sym
      (least_more (grows J t n k g true) (size J) (grows_mono true) (λ u. is_empty (cell J t n u k) && member L u)
      (λ u h e. smallest_out u (and_right (is_empty (cell J t n u k)) (member L u) e)) s l)))

  module _ (small out : List ℕ) (first : IsSet J t n k g false small) (second : IsSet J t n k g true out) where
    set_value_is : (s : ℕ) → s < size J → set_value g.value (get_or small s 0) (get_or out s 0) ≡ get_or (column J n (cells_of J t n) k (rule_by g)) s 2
    unfolding column by_sets set_value
    set_value_is s l =
        sym
        (tab_at _ (size J) s 2 l
        ∙ rw (ap (λ X. member X s) smallest_grows ∙ sym (first.has s l), largest_is s l ∙ ap not (sym (second.has s l)))
        (value_same (eqb (get_or small s 0) 2) (eqb (get_or out s 0) 2) g.value (1 - g.value) 2))

    -- what is filled by marks is filled by the definition
    pub sets_filled :
        (after : Table) (told : ℕ)
        → Leaves t (part J (of_column n k) (set_values g.value small out) t) after told
        → Leaves t (step_by J n k (rule_by g) t) after told
    sets_filled after told =
        leaves_is t _ _ after told
        (part_same J t ready.lent.long (of_column n k) (of_column n k) (set_values g.value small out) (column_values J t n k (rule_by g))
        (λ m s j h o. ap (λ x. cond (of_column n k m s j) x 2) (set_value_is s h.state_in)))

-- Where no state of the fragment has an empty cell, the column stays as it is.
module _ (J : Job) (t : Table) (n k : ℕ) where
  abbrev empty : ℕ → Bool
  empty s = is_empty (cell J t n s k)

  filled_at : has_empty J t n k ≡ false → (i : ℕ) → i < fragment_size J n → empty (fragment_state J n i) ≡ false
  filled_at none i l =
      let list = fragment J n in
      ap empty (sym (get_or-fragment J n i l))
      ∙ any_no (λ d. empty (get_or list d 0)) (length list) (sym (any_places empty list 0) ∙ none) i (omega (arith, l, length-fragment J n))

  pub no_empty_filled :
      (job : IsJob J) (long : length t ≡ table_length J) (new : ℕ → ℕ → ℕ → ℕ)
      → has_empty J t n k ≡ false
      → Leaves t (part J (of_column n k) new t) t 0
  unfolding of_column
  no_empty_filled job long new none =
      leaves_idle J t long (of_column n k) new
      (λ m s j h o e.
      split (eqb m n && eqb j k)
      (λ y.
      let p = eqb-true m n (and_left (eqb m n) (eqb j k) y) in
      let q = eqb-true j k (and_right (eqb m n) (eqb j k) y) in
      let full : is_empty (cell J t n s k) ≡ false =
      by_rank J job n (λ u. empty u ≡ false) (filled_at none) s (rw p at o) in
      clash (is_empty (cell J t n s k)) (is_empty_lem (cell J t n s k) (rw (p, q) at e)) full)
      (λ y. simp y))
