-- The worklist: some states of the set are told, the others wait, and where none waits, the set is the least one. Assumes nothing.
use Prim.Native.Nat.{ℕ, ◌+◌, ◌-◌, ◌<◌}
use mathlib.Core.Path.{◌≡◌, refl, sym, ◌∙◌, ap, ap₂}
use mathlib.Core.Bool.{Bool, true, false, ◌&&◌}
use mathlib.Core.List.{List, [], ◌∷◌, ◌++◌}
use mathlib.Core.Logic.{inl, ⊎_elim}
use native.Mathlib.Omega.{arith}
use borrow.Author.Tests.{eqb-true, eq-eqb}
use lib.ListN.{length, get_or, replicate, length-replicate, get_or-replicate}
use lib.Dec.{eqb}
use Rattle.law.specs.Bounded.{Inside, count}
use Rattle.law.proofs.Bool.{split, clash, and_left, and_right, and_no_right, or_cases, cond_true, cond_false}
use Rattle.law.proofs.Count.{count_le}
use Rattle.law.proofs.Least.{least_bound, least_unique}
use Rattle.job.specs.Job.{Job, size, owner, over}
use Rattle.job.specs.Rule.{quantifier}
use Rattle.job.specs.Written.{IsJob, edge_count}
use Rattle.job.proofs.Successors.{edge_listed}
use Rattle.cells.specs.Fragment.{owns, in_fragment}
use Rattle.cells.proofs.FragmentLaws.{owns_owner, inner_owned, next_inside}
use Rattle.image.specs.Image.{edge_from, edge_to}
use Rattle.spread.specs.Spread.{spread_rule, Joinable, Spread}
use Rattle.spread.specs.declared.spread.Worklist.{Worklist}
use Rattle.spread.specs.Underway.{enough, outs, seen_outs, in_set, none_told, told_too, told_edge, Waits, Underway, Spreading, Taken}
use Rattle.spread.proofs.Waits.{last_waits, one_told, waits_pop, waits_over, set_marked}
use Rattle.spread.proofs.Tally.{target_in, outs_some, enough_none, seen_none, seen_same, over_enough}
use Rattle.spread.proofs.Turn.{in_least, rule_mono, marked_sound}

pub list_start :
    {J : Job} {n : ℕ} {all : Bool} {marks waiting : List ℕ}
    → IsJob J
    → length marks ≡ 256
    → Waits (in_set J n marks) none_told (size J) waiting
    → Underway J n all marks (told_edge J n none_told) none_told marks (replicate 256 0) waiting
unfolding told_edge
list_start {J} {n} {all} {marks} {waiting} job long l =
    let none : (e : ℕ) → told_edge J n none_told e ≡ false =
    λ e. and_no_right (eqb (owner J (edge_from J.structure e)) n) false refl
    in
    let zero_at : (s : ℕ) → s < size J → get_or (replicate {A = ℕ} 256 0) s 0 ≡ 0 =
    λ s g. get_or-replicate 256 s 0 0 (let few = job.states.below in omega arith)
    in
    record {
      marks_long = long;
      counts_long = length-replicate {A = ℕ} 256 0;
      lists = l;
      each = λ s. inl refl;
      waits = λ s g e. rw (zero_at s g) (enough_none all (outs J.structure s) (outs_some J job s g));
      seen_in = λ e g t. clash (told_edge J n none_told e) t (none e);
      counted = λ s g. zero_at s g ∙ sym (seen_none J (told_edge J n none_told) s none);
    }

-- the last state that waits is taken
pub list_taken :
    {J : Job} {n : ℕ} {all : Bool} {before : List ℕ} {told : ℕ → Bool} {marks : List ℕ} (w : Worklist) → Spreading J n all before told marks w
    → (rest : List ℕ) (t : ℕ) → w.waiting ≡ rest ++ t ∷ []
    → (w' : Worklist) → w'.counts.now ≡ w.counts.now → w'.waiting ≡ rest
    → Taken J n all before told t marks w'
list_taken {J} {n} {all} {before} {told} {marks} w u rest t is w' same_counts its =
    let l = last_waits u.lists rest t is in
    record {
      underway =
          rw (same_counts, its)
          (record {
            marks_long = u.marks_long;
            counts_long = u.counts_long;
            lists = waits_pop u.lists rest t is;
            each = u.each;
            waits = u.waits;
            seen_in = u.seen_in;
            counted = u.counted;
          });
      state_in = l.0;
      marked = set_marked J n marks t l.1;
      new = l.2;
    }

-- how many states are not told: those not in the set, and those that wait
abbrev pub left : Job → ℕ → List ℕ → Worklist → ℕ
left J n marks w = size J - count (in_set J n marks) (size J) + length w.waiting

pub list_less :
    {J : Job} {n : ℕ} {all : Bool} {before : List ℕ} {told : ℕ → Bool} {marks marks' : List ℕ} (w w' : Worklist)
    → Spreading J n all before told marks w
    → (rest : List ℕ) (t : ℕ) → w.waiting ≡ rest ++ t ∷ []
    → Spreading J n all before (told_too told t) marks' w'
    → left J n marks' w' < left J n marks w
list_less {J} {n} {all} {before} {told} {marks} {marks'} w w' u rest t is v =
    omega (arith, u.lists.all_here, v.lists.all_here, one_told u.lists rest t is, count_le (in_set J n marks) (size J), count_le (in_set J n marks') (size J))

module _ {J : Job} {n : ℕ} {all : Bool} {before marks counts waiting : List ℕ} {told : ℕ → Bool} (job : IsJob J)
    (w : Underway J n all before (told_edge J n told) told marks counts waiting) where
  -- where none waits, the marked states are closed under the rule
  module _ (joinable : Joinable J n before) (done : waiting ≡ []) where
    abbrev marked : ℕ → Bool
    marked s = eqb (get_or marks s 0) 2

    told_marked : (s : ℕ) → s < size J → in_fragment J n s ≡ true → told s ≡ marked s
    unfolding in_set
    told_marked s l inside = waits_over w.lists done s l ∙ ap (λ b. b && marked s) inside

    -- of a state that the node owns every edge is the node's, and leads into its fragment
    into_fragment :
        (s : ℕ) → owns J n s ≡ true → (e : ℕ) → e < edge_count J → edge_from J.structure e ≡ s
        → in_fragment J n (edge_to J.structure e) ≡ true
    unfolding edge_from edge_to edge_count
    into_fragment s o e l is = next_inside J n s (edge_to J.structure e) o (edge_listed J.structure s e l is)

    seen_marked :
        (s : ℕ) → owns J n s ≡ true → (e : ℕ) → e < edge_count J → edge_from J.structure e ≡ s
        → told_edge J n told e ≡ marked (edge_to J.structure e)
    unfolding told_edge
    seen_marked s o e l is =
        ap₂ ◌&&◌ (eq-eqb (owner J (edge_from J.structure e)) n (ap (owner J) is ∙ owns_owner J n s o))
        (told_marked (edge_to J.structure e) (target_in J job e l) (into_fragment s o e l is))

    closed : Inside (size J) (spread_rule J.structure (quantifier all) before marked) marked
    unfolding spread_rule
    closed s l h =
        eq-eqb (get_or marks s 0) 2
        (⊎_elim
        (λ same.
        ⊎_elim
        (λ two. same ∙ eqb-true (get_or before s 0) 2 two)
        (λ joins.
        let one = eqb-true (get_or before s 0) 1 (and_left (eqb (get_or before s 0) 1) (over J.structure (quantifier all) s marked) joins) in
        let o = and_right (eqb (get_or before s 0) 1) (over J.structure (quantifier all) s marked) joins in
        let ours : owns J n s ≡ true = sym (inner_owned J job n s) ∙ joinable.inside s one in
        let number : get_or counts s 0 ≡ seen_outs J.structure (λ e. marked (edge_to J.structure e)) s =
        w.counted s l ∙ seen_same J (told_edge J n told) (λ e. marked (edge_to J.structure e)) s (seen_marked s ours)
        in
        clash (enough all (outs J.structure s) (get_or counts s 0)) (rw number (over_enough J all marked s o)) (w.waits s l (same ∙ one)))
        (or_cases (eqb (get_or before s 0) 2) (eqb (get_or before s 0) 1 && over J.structure (quantifier all) s marked) h))
        (λ (two, t). two)
        (w.each s))

    is_least : (s : ℕ) → s < size J → marked s ≡ in_least J all before s
    is_least =
        least_unique (spread_rule J.structure (quantifier all) before) (size J) (rule_mono J.structure (quantifier all) before) marked
        (λ s l h. marked_sound w s l (eqb-true (get_or marks s 0) 2 h))
        closed

    pub list_over : Spread J.structure (quantifier all) before marks
    unfolding size
    list_over =
        record {
          long = w.marks_long;
          at_state =
              λ s.
              split (in_least J all before s)
              (λ t.
              let l = least_bound (spread_rule J.structure (quantifier all) before) (size J) s t in
              eqb-true (get_or marks s 0) 2 (is_least s l ∙ t) ∙ sym (cond_true (in_least J all before s) 2 (get_or before s 0) t))
              (λ f.
              ⊎_elim (λ e. e) (λ (two, t). clash (in_least J all before s) t f) (w.each s)
              ∙ sym (cond_false (in_least J all before s) 2 (get_or before s 0) f));
        }
