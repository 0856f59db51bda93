-- Arrays of marks, filled state by state over a node's fragment: the law of the loop that fills one, what it leaves, that only states
-- that are not border may join, and that the marks spread to the set that grows so. Assumes nothing.
use Prim.Native.Nat.{ℕ, ◌+◌, ◌<◌, ◌≤◌}
use mathlib.Core.Path.{◌≡◌, refl, sym, ◌∙◌, ap, ap₂}
use mathlib.Core.Bool.{Bool, true, false, cond, ◌&&◌, ◌||◌}
use mathlib.Core.List.{List}
use native.Mathlib.Omega.{arith}
use borrow.Author.Tests.{lt-ltb, le-ltb, eq-eqb, ne_eqb}
use lib.ListN.{length, get_or, set, replicate, length-set, length-replicate, get_or-replicate, get_or-eq_default}
use lib.Seq.{get_or-set_same, get_or-set_other}
use lib.Dec.{eqb, ltb}
use Rattle.law.specs.Fixpoint.{member, least}
use Rattle.law.proofs.Bool.{split, and_intro, and_no_right, or_left, cond_true, cond_false}
use Rattle.law.proofs.Bounded.{by_order, by_equal}
use Rattle.law.proofs.Least.{least_closed, least_same}
use Rattle.job.specs.Job.{Job, Structure, Quantifier, over, size, subformula_count}
use Rattle.job.specs.Rule.{quantifier, AsksSmaller, InRange}
use Rattle.job.specs.Written.{IsJob}
use Rattle.job.specs.declared.rule.Condition.{Condition}
use Rattle.job.specs.declared.rule.Condition.TheVariants.{Always, Holds, Fails}
use Rattle.cells.specs.Fragment.{in_fragment, inner}
use Rattle.cells.specs.Table.{Table, index, cell, is_empty, inside}
use Rattle.cells.specs.Step.{opposite, known}
use Rattle.cells.proofs.Index.{index_lt, node_of_index, state_of_index}
use Rattle.cells.proofs.Right.{right_is}
use Rattle.cells.proofs.Tells.{by_cell}
use Rattle.image.specs.Image.{rank, fragment_size, fragment_state}
use Rattle.image.specs.Denoted.{job_of}
use Rattle.image.proofs.Ranks.{state_below, state_inside, rank_state, rank_below, state_rank}
use Rattle.image.specs.declared.image.Image.{Image}
use Rattle.image.proofs.ImageLaws.{image_job}
use Rattle.table.specs.Lent.{Ready, IsCell, IsColumn}
use Rattle.table.specs.Column.{cells_of}
use Rattle.spread.specs.Spread.{spread_rule, Joinable, Spread}
use Rattle.spread.proofs.Turn.{rule_mono}
use Rattle.job.specs.declared.rule.Growth.{Growth}
use Rattle.sets.specs.declared.sets.Marking.{Marking}
use Rattle.sets.specs.Marks.{rule_by, unknown, mark, counts, wanted, marking_of, CellsIn, mark_by, mark_at, grows, IsSet, Marks}

module _ (J : Job) (job : IsJob J) (n : ℕ) (f : ℕ → ℕ) (d : ℕ) where
  pub marks_start : Marks J n f d 0 (replicate 256 d)
  marks_start =
      record {
        long = length-replicate 256 d;
        at_state =
            λ s l.
            get_or-replicate 256 s d 0 l
            ∙ sym
            (cond_false (in_fragment J n s && ltb (rank J n s) 0) (f s) d
            (and_no_right (in_fragment J n s) (ltb (rank J n s) 0) (le-ltb (rank J n s) 0 (omega arith))));
      }

  module _ (i : ℕ) (l : i < fragment_size J n) (s : ℕ) (is : s ≡ fragment_state J n i) where
    here : (in_fragment J n s && ltb (rank J n s) (i + 1)) ≡ true
    here =
        rw is
        (and_intro (in_fragment J n (fragment_state J n i)) (ltb (rank J n (fragment_state J n i)) (i + 1)) (state_inside J job n i l)
        (lt-ltb (rank J n (fragment_state J n i)) (i + 1) (omega (arith, rank_state J job n i l))))

    -- no other state of the fragment has rank i
    other : (u : ℕ) → (u ≡ s → ⊥) → (in_fragment J n u && ltb (rank J n u) i) ≡ (in_fragment J n u && ltb (rank J n u) (i + 1))
    other u apart =
        split (in_fragment J n u)
        (λ t.
        let no : rank J n u ≡ i → ⊥ = λ e. apart (sym (state_rank J job n u t) ∙ ap (fragment_state J n) e ∙ sym is) in
        by_order (rank J n u) i
        (λ g. simp (lt-ltb (rank J n u) i g, lt-ltb (rank J n u) (i + 1) (omega arith)))
        (λ g. simp (le-ltb (rank J n u) i g, le-ltb (rank J n u) (i + 1) (omega arith))))
        (λ t. simp t)

    pub marks_more : (x : ℕ) → x ≡ f s → (marks : List ℕ) → Marks J n f d i marks → Marks J n f d (i + 1) (set marks s x)
    marks_more x e marks so =
        let long = so.long in
        let inside : s < 256 = omega (arith, state_below J job n i l, job.states.below) in
        record {
          long = length-set marks s x ∙ so.long;
          at_state =
              λ u g.
              by_equal u s
              (λ q.
              rw q
              (get_or-set_same marks s x 0 (omega arith) ∙ e
              ∙ sym (cond_true (in_fragment J n s && ltb (rank J n s) (i + 1)) (f s) d here)))
              (λ q. get_or-set_other marks s u x 0 q ∙ so.at_state u g ∙ ap (λ b. cond b (f u) d) (other u q));
        }

  -- what the loop leaves
  module _ (marks : List ℕ) (done : Marks J n f d (fragment_size J n) marks) where
    marks_over : (s : ℕ) → s < 256 → get_or marks s 0 ≡ cond (in_fragment J n s) (f s) d
    marks_over s l =
        done.at_state s l
        ∙ split (in_fragment J n s)
        (λ t. simp (t, lt-ltb (rank J n s) (fragment_size J n) (rank_below J job n s t)))
        (λ t. simp t)

    pub mark_is : ((s : ℕ) → s < size J → in_fragment J n s ≡ false → f s ≡ d) → (s : ℕ) → s < size J → get_or marks s 0 ≡ f s
    mark_is outside s l =
        let small = job.states.below in
        marks_over s (omega arith)
        ∙ split (in_fragment J n s)
        (cond_true (in_fragment J n s) (f s) d)
        (λ t. cond_false (in_fragment J n s) (f s) d t ∙ sym (outside s l t))

    -- a state of the fragment alone has mark 1
    pub joinable :
        (d ≡ 1 → ⊥) → ((s : ℕ) → f s ≡ 1 → inner J n s ≡ true) → Joinable J n marks
    joinable apart only =
        record {
          long = done.long;
          inside =
              λ s e.
              by_order s 256
              (λ l.
              split (in_fragment J n s)
              (λ t. only s (sym (marks_over s l ∙ cond_true (in_fragment J n s) (f s) d t) ∙ e))
              (λ t. absurd (apart (sym (marks_over s l ∙ cond_false (in_fragment J n s) (f s) d t) ∙ e))))
              (λ l.
              let long = done.long in
              let none : get_or marks s 0 ≡ 0 = get_or-eq_default marks 0 (omega arith) in
              let stop : ⊥ = omega arith in absurd stop);
        }

-- A state's mark by the tests of the code.
module _ (wide : Bool) (v : ℕ) (inside : Bool) (own : ℕ) (starts grows : Bool) where
  abbrev its : ℕ
  its = mark wide v inside own starts grows

  pub mark_own : own ≡ v → 2 ≡ its
  unfolding mark
  mark_own e = simp (eq-eqb own v e)

  module _ (apart : own ≡ v → ⊥) where
    pub mark_other : (own ≡ 2 → ⊥) → 0 ≡ its
    unfolding mark is_empty
    mark_other f = simp (ne_eqb own v apart, ne_eqb own 2 f)

    module _ (empty : own ≡ 2) where
      pub mark_border : inside ≡ false → unknown wide ≡ its
      unfolding mark is_empty
      mark_border f = simp (ne_eqb own v apart, eq-eqb own 2 empty, f)

      module _ (here : inside ≡ true) where
        pub mark_start : starts ≡ true → 2 ≡ its
        unfolding mark is_empty
        mark_start e = simp (ne_eqb own v apart, eq-eqb own 2 empty, here, e)

        pub mark_grow : starts ≡ false → grows ≡ true → 1 ≡ its
        unfolding mark is_empty
        mark_grow e f = simp (ne_eqb own v apart, eq-eqb own 2 empty, here, e, f)

        pub mark_no_join : starts ≡ false → grows ≡ false → 0 ≡ its
        unfolding mark is_empty
        mark_no_join e f = simp (ne_eqb own v apart, eq-eqb own 2 empty, here, e, f)

-- the same by the cells as they were read, one after the other
module _ (J : Job) (t : Table) (n s : ℕ) (by : Marking) where
  pub mark_by_cells :
      {x o b a : ℕ} {p : Bool}
      → o ≡ cell J t n s by.own.subformula
      → p ≡ inner J n s
      → b ≡ cell J t n s by.start.subformula
      → a ≡ cell J t n s by.grow.subformula
      → x ≡ mark by.wide by.own.value p o (counts by.wide by.start.value b) (counts by.wide by.grow.value a)
      → x ≡ mark_by J t n s by
  mark_by_cells own inside b a e = rw (own, inside, b, a) at e

-- A condition wants a cell of the rule's own column or of an operand's.
wanted_in : (k n : ℕ) → k < n → (c : Condition) → AsksSmaller k c → (wanted k c).subformula < n
wanted_in k n l Always o = l
wanted_in k n l (Holds a) o = omega arith
wanted_in k n l (Fails a) o = omega arith

-- Where the own cell is empty, what is wanted is there where the condition counts as met; elsewhere the mark does not ask.
module _ (at : ℕ → ℕ → ℕ) (s k : ℕ) (wide : Bool) (low : (j : ℕ) → at j s ≤ 2) where
  -- whether a cell is the one that is wanted, or counts besides
  abbrev read : Condition → Bool
  read c = counts wide (wanted k c).value (at (wanted k c).subformula s)

  wanted_counts : at k s ≡ 2 → (c : Condition) → read c ≡ counts wide 1 (known at c s)
  unfolding known opposite is_empty
  wanted_counts empty Always = rw empty refl
  wanted_counts empty (Holds a) = refl
  wanted_counts empty (Fails a) =
      by_cell (at a s) (low a)
      (λ e. rw e refl)
      (λ e. rw e refl)
      (λ e. rw e refl)

  mark_wanted :
      (v : ℕ) (inside : Bool) (b a : Condition)
      → mark wide v inside (at k s) (read b) (read a) ≡ mark wide v inside (at k s) (counts wide 1 (known at b s)) (counts wide 1 (known at a s))
  unfolding mark is_empty
  mark_wanted v inside b a =
      by_equal (at k s) 2 (λ e. rw (wanted_counts e b, wanted_counts e a)) (λ n. rw (ne_eqb (at k s) 2 n))

-- mark 1 stands at an inner state only
unknown_apart : (wide : Bool) → unknown wide ≡ 1 → ⊥
unknown_apart true e = omega arith
unknown_apart false e = omega arith

inner_joins :
    (wide A E I B G : Bool)
    → cond {A = ℕ} A 2 (cond E (cond I (cond B 2 (cond G 1 0)) (unknown wide)) 0) ≡ 1
    → I ≡ true
inner_joins wide true E I B G e = let stop : ⊥ = omega arith in absurd stop
inner_joins wide false false I B G e = let stop : ⊥ = omega arith in absurd stop
inner_joins wide false true false B G e = absurd (unknown_apart wide e)
inner_joins wide false true true B G e = refl

after_digit : (a : Bool) (m : ℕ) → (eqb m 2 ≡ true → a ≡ true) → eqb (cond {A = ℕ} a 2 m) 2 ≡ a
after_digit true m h = refl
after_digit false m h = split (eqb m 2) (λ t. t ∙ sym (h t)) (λ f. f)

spread_member :
    (M : Structure) (q : Quantifier) (marks after : List ℕ) → Spread M q marks after → (s : ℕ) → s < length M.labels
    → eqb (get_or after s 0) 2 ≡ member (least (spread_rule M q marks) (length M.labels)) s
unfolding spread_rule
spread_member M q marks after spread s l =
    let L = least (spread_rule M q marks) (length M.labels) in
    ap (λ x. eqb x 2) (spread.at_state s)
    ∙ after_digit (member L s) (get_or marks s 0)
    (λ t.
    least_closed (spread_rule M q marks) (length M.labels) (rule_mono M q marks) s l
    (or_left (eqb (get_or marks s 0) 2) (eqb (get_or marks s 0) 1 && over M q s (member L)) t))

-- The marks of a column, over a table whose cells are right.
module _ (m : Image) (t : Table) (ready : Ready m t) (n k : ℕ) (g : Growth) (wide : Bool)
    (column_in : IsColumn (job_of m) n k) (range : InRange k (rule_by g)) where
  abbrev J : Job
  J = job_of m

  -- the cells that are read, at a state
  module _ (s : ℕ) (l : s < size J) where
    wanted_cell : (c : Condition) → AsksSmaller k c → IsCell J n s (wanted k c).subformula
    wanted_cell c o = record { node_in = column_in.node_in; state_in = l; subformula_in = wanted_in k (subformula_count J) column_in.subformula_in c o }

    pub cells_in : (by : Marking) → by ≡ marking_of k g wide → CellsIn J n s by
    unfolding InRange
    cells_in by e =
        rw e
        (record {
          own_in = record { node_in = column_in.node_in; state_in = l; subformula_in = column_in.subformula_in };
          start_in = wanted_cell g.start range.0;
          grow_in = wanted_cell g.grow range.1;
        })

  -- a state's mark by the cells that the conditions want
  pub mark_read : (s : ℕ) {x : ℕ} {by : Marking} → x ≡ mark_by J t n s by → by ≡ marking_of k g wide → x ≡ mark_at J t n k g wide s
  unfolding cell
  mark_read s e is =
      rw is at e
      ∙ mark_wanted (cells_of J t n) s k wide (λ j. (right_is J t ready.right).small (index J n s j)) g.value (inner J n s)
      g.start g.grow

  -- outside the fragment a cell is empty, and a state not inner
  outside_mark : (s : ℕ) → s < size J → in_fragment J n s ≡ false → mark_at J t n k g wide s ≡ unknown wide
  unfolding mark is_empty cell inside inner InRange
  outside_mark s l o =
      let k_in = column_in.subformula_in in
      let low = range.2 in
      let empty : cell J t n s k ≡ 2 =
      (right_is J t ready.right).outside (index J n s k) (omega (arith, ready.lent.long, index_lt J n s k column_in.node_in l k_in))
      (ap₂ (in_fragment J) (node_of_index J n s k l k_in) (state_of_index J n s k l k_in) ∙ o) in
      let border : inner J n s ≡ false = simp o in
      rw (empty, border, ne_eqb 2 g.value (λ e. omega arith)) refl

  module _ (marks : List ℕ) (done : Marks J n (mark_at J t n k g wide) (unknown wide) (fragment_size J n) marks) where
    pub marks_join : Joinable J n marks
    unfolding mark
    marks_join =
        joinable J (image_job m) n (mark_at J t n k g wide) (unknown wide) marks done (unknown_apart wide)
        (λ s.
        inner_joins wide (eqb (cell J t n s k) g.value) (is_empty (cell J t n s k)) (inner J n s)
        (counts wide 1 (known (cells_of J t n) g.start s)) (counts wide 1 (known (cells_of J t n) g.grow s)))

    pub marks_set : (after : List ℕ) → Spread J.structure (quantifier g.all) marks after → IsSet J t n k g wide after
    unfolding size grows spread_rule
    marks_set after spread =
        record {
          has =
              λ s l.
              spread_member J.structure (quantifier g.all) marks after spread s l
              ∙ ap (λ X. member X s)
              (least_same (spread_rule J.structure (quantifier g.all) marks) (grows J t n k g wide) (size J)
              (λ X u h.
              ap (λ x. eqb x 2 || (eqb x 1 && over J.structure (quantifier g.all) u X))
              (mark_is J (image_job m) n (mark_at J t n k g wide) (unknown wide) marks done outside_mark u h)));
        }
