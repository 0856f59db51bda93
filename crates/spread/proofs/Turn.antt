-- One edge more is seen: its source counts it, and joins where that is enough. Assumes nothing.
use Prim.Native.Nat.{ℕ, ◌+◌, ◌<◌, ◌≤◌}
use mathlib.Core.Path.{◌≡◌, sym, ◌∙◌, ap}
use mathlib.Core.Bool.{Bool, true, false, ◌&&◌}
use mathlib.Core.List.{List, [], ◌∷◌, ◌++◌}
use mathlib.Core.Logic.{inl, inr, ⊎_elim}
use native.Mathlib.Omega.{arith}
use borrow.Author.Tests.{eqb-true, eq-eqb, ne_eqb}
use lib.ListN.{length, get_or, set, length-set}
use lib.Seq.{get_or-set_same, get_or-set_other}
use lib.Dec.{eqb}
use Rattle.law.specs.Fixpoint.{Monotone, member, least}
use Rattle.law.proofs.Bool.{split, clash, and_left, and_right, and_intro, and_mono, and_no_right, or_left, or_right, or_mono}
use Rattle.law.proofs.Bounded.{by_equal}
use Rattle.law.proofs.Least.{least_closed}
use Rattle.job.specs.Job.{Job, Structure, Quantifier, size, owner, over}
use Rattle.job.specs.Rule.{quantifier}
use Rattle.job.specs.Written.{IsJob, edge_count}
use Rattle.job.proofs.Successors.{over_mono}
use Rattle.cells.specs.Fragment.{in_fragment}
use Rattle.cells.proofs.FragmentLaws.{owns_intro, owned_inside}
use Rattle.image.specs.Image.{edge_from, edge_to}
use Rattle.spread.specs.Spread.{spread_rule}
use Rattle.spread.specs.Underway.{enough, outs, seen_outs, in_set, Underway}
use Rattle.spread.proofs.Waits.{waits_room, waits_push}
use Rattle.spread.proofs.Tally.{source_in, target_in, enough_over, seen_few, seen_same, seen_here, seen_other}

pub rule_mono : (M : Structure) (q : Quantifier) (before : List ℕ) → Monotone (spread_rule M q before)
unfolding spread_rule
rule_mono M q before X Y inside s =
    let may = eqb (get_or before s 0) 1 in
    or_mono (eqb (get_or before s 0) 2) (may && over M q s X) (may && over M q s Y)
    (and_mono may (over M q s X) (over M q s Y) (over_mono M q s X Y inside))

-- what is in the least set: the marked states, and those that may join and have that many successors in it
module _ (J : Job) (all : Bool) (before : List ℕ) where
  abbrev pub in_least : ℕ → Bool
  in_least = member (least (spread_rule J.structure (quantifier all) before) (size J))

  module _ (s : ℕ) (l : s < size J) where
    abbrev joined : Bool
    joined = eqb (get_or before s 0) 1 && over J.structure (quantifier all) s in_least

    closed : spread_rule J.structure (quantifier all) before in_least s ≡ true → in_least s ≡ true
    closed =
        least_closed (spread_rule J.structure (quantifier all) before) (size J) (rule_mono J.structure (quantifier all) before) s l

    pub least_marked : get_or before s 0 ≡ 2 → in_least s ≡ true
    unfolding spread_rule
    least_marked e = closed (or_left (eqb (get_or before s 0) 2) joined (eq-eqb (get_or before s 0) 2 e))

    pub least_joins : get_or before s 0 ≡ 1 → over J.structure (quantifier all) s in_least ≡ true → in_least s ≡ true
    unfolding spread_rule
    least_joins e o =
        closed
        (or_right (eqb (get_or before s 0) 2) joined
        (and_intro (eqb (get_or before s 0) 1) (over J.structure (quantifier all) s in_least) (eq-eqb (get_or before s 0) 1 e) o))

module _ {J : Job} {n : ℕ} {all : Bool} {before : List ℕ} {seen told : ℕ → Bool} {marks counts waiting : List ℕ}
    (w : Underway J n all before seen told marks counts waiting) where
  -- a marked state is in the least set, and one that may still join might at the start
  pub marked_sound : (s : ℕ) → s < size J → get_or marks s 0 ≡ 2 → in_least J all before s ≡ true
  marked_sound s l e = ⊎_elim (λ same. least_marked J all before s l (sym same ∙ e)) (λ (two, h). h) (w.each s)

  pub marked_may : (s : ℕ) → get_or marks s 0 ≡ 1 → get_or before s 0 ≡ 1
  marked_may s e = ⊎_elim (λ same. sym same ∙ e) (λ (two, h). let stop : ⊥ = omega arith in absurd stop) (w.each s)

  -- the same edges by another test
  pub underway_same :
      (seen' : ℕ → Bool) → ((e : ℕ) → e < edge_count J → seen' e ≡ seen e) → Underway J n all before seen' told marks counts waiting
  underway_same seen' same =
      record {
        marks_long = w.marks_long;
        counts_long = w.counts_long;
        lists = w.lists;
        each = w.each;
        waits = w.waits;
        seen_in = λ e l t. w.seen_in e l (sym (same e l) ∙ t);
        counted = λ s l. w.counted s l ∙ seen_same J seen seen' s (λ e g q. sym (same e g));
      }

-- An edge of the node that was not seen, into a state of the set.
pub record OneMore (J : Job) (n : ℕ) (all : Bool) (before : List ℕ) (seen seen' told : ℕ → Bool) (marks counts waiting : List ℕ) (e : ℕ)
    : Type 0 where
  pub job : IsJob J
  pub underway : Underway J n all before seen told marks counts waiting
  pub inside : e < edge_count J
  pub ours : owner J (edge_from J.structure e) ≡ n
  pub new : seen e ≡ false
  pub seen_now : seen' e ≡ true
  pub others : (j : ℕ) → j < edge_count J → (j ≡ e → ⊥) → seen' j ≡ seen j
  pub target_marked : get_or marks (edge_to J.structure e) 0 ≡ 2

module _ {J : Job} {n : ℕ} {all : Bool} {before : List ℕ} {seen seen' told : ℕ → Bool} {marks counts waiting : List ℕ} {e : ℕ}
    (o : OneMore J n all before seen seen' told marks counts waiting e) where
  abbrev w : Underway J n all before seen told marks counts waiting
  w = o.underway

  abbrev s : ℕ
  s = edge_from J.structure e

  abbrev number : ℕ
  number = get_or counts s 0 + 1

  s_in : s < size J
  s_in = source_in J o.job e o.inside

  small : s < 256
  small = let few = o.job.states.below in omega (arith, s_in)

  pub count_small : get_or counts s 0 ≤ edge_count J
  count_small = omega (arith, w.counted s s_in, seen_few J seen s)

  count_here : get_or (set counts s number) s 0 ≡ number
  count_here = get_or-set_same counts s number 0 (let g = w.counts_long in let h = small in omega arith)

  count_other : (u : ℕ) → (u ≡ s → ⊥) → get_or (set counts s number) u 0 ≡ get_or counts u 0
  count_other u q = get_or-set_other counts s u number 0 q

  counted' : (u : ℕ) → u < size J → get_or (set counts s number) u 0 ≡ seen_outs J.structure seen' u
  counted' u g =
      by_equal u s
      (λ q.
      rw q
      (count_here ∙ ap (λ k. k + 1) (w.counted s s_in) ∙ sym (seen_here J seen seen' e o.inside o.new o.seen_now o.others)))
      (λ q. count_other u q ∙ w.counted u g ∙ sym (seen_other J seen seen' e o.inside o.new o.seen_now o.others u q))

  seen_in' : (j : ℕ) → j < edge_count J → seen' j ≡ true → get_or marks (edge_to J.structure j) 0 ≡ 2
  seen_in' j g t =
      by_equal j e (λ q. rw q o.target_marked) (λ q. w.seen_in j g (sym (o.others j g q) ∙ t))

  -- the counts of the states that wait, but for the source's
  waits_other :
      (u : ℕ) → u < size J → (u ≡ s → ⊥) → get_or marks u 0 ≡ 1
      → enough all (outs J.structure u) (get_or (set counts s number) u 0) ≡ false
  waits_other u g q may = rw (count_other u q) (w.waits u g may)

  abbrev test : Bool
  test = enough all (outs J.structure s) number

  pub turn_rest : (eqb (get_or marks s 0) 1 && test) ≡ false → Underway J n all before seen' told marks (set counts s number) waiting
  turn_rest stays =
      record {
        marks_long = w.marks_long;
        counts_long = length-set counts s number ∙ w.counts_long;
        lists = w.lists;
        each = w.each;
        waits =
            λ u g one.
            by_equal u s
            (λ q.
            let may : get_or marks s 0 ≡ 1 = rw q at one in
            rw (q, count_here)
            (split test
            (λ t. clash (eqb (get_or marks s 0) 1 && test) (and_intro (eqb (get_or marks s 0) 1) test (eq-eqb (get_or marks s 0) 1 may) t) stays)
            (λ f. f)))
            (λ q. waits_other u g q one);
        seen_in = seen_in';
        counted = counted';
      }

  module _ (joins : (eqb (get_or marks s 0) 1 && test) ≡ true) where
    may : get_or marks s 0 ≡ 1
    may = eqb-true (get_or marks s 0) 1 (and_left (eqb (get_or marks s 0) 1) test joins)

    holds : in_least J all before s ≡ true
    holds =
        least_joins J all before s s_in (marked_may w s may)
        (enough_over J all seen' (in_least J all before) s
        (λ j g t. marked_sound w (edge_to J.structure j) (target_in J o.job j g) (seen_in' j g t))
        (rw (← counted' s s_in, count_here) (and_right (eqb (get_or marks s 0) 1) test joins)))

    mark_here : get_or (set marks s 2) s 0 ≡ 2
    mark_here = get_or-set_same marks s 2 0 (let g = w.marks_long in let h = small in omega arith)

    mark_other : (u : ℕ) → (u ≡ s → ⊥) → get_or (set marks s 2) u 0 ≡ get_or marks u 0
    mark_other u q = get_or-set_other marks s u 2 0 q

    pub mark_stays : (u : ℕ) → get_or marks u 0 ≡ 2 → get_or (set marks s 2) u 0 ≡ 2
    mark_stays u two = by_equal u s (λ q. rw q mark_here) (λ q. mark_other u q ∙ two)

    -- the source was not in the set, and is
    new_in_set : in_set J n marks s ≡ false
    unfolding in_set
    new_in_set =
        and_no_right (in_fragment J n s) (eqb (get_or marks s 0) 2) (ne_eqb (get_or marks s 0) 2 (λ two. let h = may in omega arith))

    now_in_set : in_set J n (set marks s 2) s ≡ true
    unfolding in_set
    now_in_set =
        and_intro (in_fragment J n s) (eqb (get_or (set marks s 2) s 0) 2) (owned_inside J n s (owns_intro J n s s_in o.ours))
        (eq-eqb (get_or (set marks s 2) s 0) 2 mark_here)

    others_in_set : (u : ℕ) → u < size J → (u ≡ s → ⊥) → in_set J n (set marks s 2) u ≡ in_set J n marks u
    unfolding in_set
    others_in_set u l q = ap (λ x. in_fragment J n u && eqb x 2) (mark_other u q)

    pub turn_room : length waiting < 256
    turn_room = waits_room w.lists (in_set J n (set marks s 2)) s o.job.states.below s_in new_in_set now_in_set others_in_set

    pub turn_push : Underway J n all before seen' told (set marks s 2) (set counts s number) (waiting ++ s ∷ [])
    turn_push =
        record {
          marks_long = length-set marks s 2 ∙ w.marks_long;
          counts_long = length-set counts s number ∙ w.counts_long;
          lists = waits_push w.lists (in_set J n (set marks s 2)) s o.job.states.below s_in new_in_set now_in_set others_in_set;
          each =
              λ u.
              by_equal u s
              (λ q. inr (rw q mark_here, rw q holds))
              (λ q. ⊎_elim (λ same. inl (mark_other u q ∙ same)) (λ (two, h). inr (mark_other u q ∙ two, h)) (w.each u));
          waits =
              λ u g one.
              by_equal u s
              (λ q. let two : get_or (set marks s 2) u 0 ≡ 2 = rw q mark_here in let stop : ⊥ = omega arith in absurd stop)
              (λ q. waits_other u g q (sym (mark_other u q) ∙ one));
          seen_in = λ j g t. mark_stays (edge_to J.structure j) (seen_in' j g t);
          counted = counted';
        }
