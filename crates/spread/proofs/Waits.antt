-- The list of what waits: of the numbers that pass a test, those not told; one that begins to pass is pushed, and one to be told is popped.
-- Assumes nothing.
use Prim.Native.Nat.{ℕ, ◌+◌, ◌<◌, ◌≤◌}
use mathlib.Core.Path.{◌≡◌, refl, sym, ◌∙◌, ap}
use mathlib.Core.Bool.{Bool, true, false, ◌&&◌, ◌||◌}
use mathlib.Core.List.{List, [], ◌∷◌, ◌++◌}
use mathlib.Core.Logic.{⊎_elim}
use native.Mathlib.Nat.{not-suc-le-zero}
use native.Mathlib.Numerals.{add-one}
use native.Mathlib.Omega.{arith}
use borrow.Author.Tests.{eqb-true, eq-eqb, ne_eqb}
use lib.ListN.{length, get_or}
use lib.Seq.{get_or-append_seam}
use Rattle.std.proofs.lemmas.List.{length-append, get_or_append_left}
use lib.Dec.{eqb}
use Rattle.law.specs.Bounded.{any, count}
use Rattle.law.proofs.Bool.{split, clash, same_test, and_intro, and_right, and_no_left, and_no_right, or_false, or_right, or_none, or_cases}
use Rattle.law.proofs.Bounded.{by_equal, any_intro, any_found, any_none, any_suc}
use Rattle.law.proofs.Count.{count_le, count_same, count_zero, count_one}
use Rattle.job.specs.Job.{Job, size}
use Rattle.job.specs.Written.{IsJob}
use Rattle.cells.specs.Fragment.{in_fragment}
use Rattle.cells.proofs.FragmentLaws.{fragment_bound}
use Rattle.image.specs.Image.{rank, fragment_size, fragment_state}
use Rattle.spread.specs.Underway.{none_told, told_too, Waits, in_set}
use Rattle.image.proofs.Ranks.{state_inside, rank_state, rank_below, state_rank}

-- s is among f 0, f 1, .., i of them.
unfoldable pub among : (ℕ → ℕ) → ℕ → ℕ → Bool
among f i s = any (λ j. eqb (f j) s) i

among_none : (f : ℕ → ℕ) (s : ℕ) → among f 0 s ≡ false
unfolding among
among_none f s = any_none (λ j. eqb (f j) s) 0 (λ i l. absurd (not-suc-le-zero l))

among_next : (f : ℕ → ℕ) (i s : ℕ) → among f (i + 1) s ≡ (among f i s || eqb (f i) s)
unfolding among
among_next f i s = rw (add-one i, any_suc (λ j. eqb (f j) s) i)

among_intro : (f : ℕ → ℕ) (i j s : ℕ) → j < i → f j ≡ s → among f i s ≡ true
unfolding among
among_intro f i j s l e = any_intro (λ j. eqb (f j) s) i j l (eq-eqb (f j) s e)

among_found : (f : ℕ → ℕ) (i s : ℕ) → among f i s ≡ true → (j : ℕ) × (j < i) × (f j ≡ s)
unfolding among
among_found f i s h =
    let (l, e) = any_found (λ j. eqb (f j) s) i h in (_, l, eqb-true (f _) s e)

among_not : (f : ℕ → ℕ) (i s : ℕ) → ((j : ℕ) → j < i → f j ≡ s → ⊥) → among f i s ≡ false
unfolding among
among_not f i s h = any_none (λ j. eqb (f j) s) i (λ j l. ne_eqb (f j) s (h j l))

or_left_false : (a b : Bool) → (a || b) ≡ false → a ≡ false
or_left_false true b e = e
or_left_false false b e = refl

pub waits_none : (p : ℕ → Bool) (n : ℕ) → ((s : ℕ) → s < n → p s ≡ false) → Waits p none_told n []
waits_none p n none =
    record {
      all_here = omega (arith, count_zero none_told n (λ i l. refl), count_zero p n none);
      told_pass = λ s l t. clash false t refl;
      waits = λ i l. absurd (not-suc-le-zero l);
      listed = λ s l t f. clash (p s) t (none s l);
      apart = λ i j l g. absurd (not-suc-le-zero g);
    }

module _ {p told : ℕ → Bool} {n : ℕ} {waiting : List ℕ} (l : Waits p told n waiting) where
  -- the same numbers by another test
  pub waits_same : (q : ℕ → Bool) → ((s : ℕ) → s < n → q s ≡ p s) → Waits q told n waiting
  waits_same q same =
      record {
        all_here = l.all_here ∙ sym (count_same q p n same);
        told_pass = λ s g t. same s g ∙ l.told_pass s g t;
        waits = λ i g. let (h, t, f) = l.waits i g in (h, same (get_or waiting i 0) h ∙ t, f);
        listed = λ s g t f. l.listed s g (sym (same s g) ∙ t) f;
        apart = l.apart;
      }

  -- one number more
  module _ (q : ℕ → Bool) (s : ℕ) (few : n ≤ 256) (inside : s < n) (new : p s ≡ false) (now : q s ≡ true)
      (others : (u : ℕ) → u < n → (u ≡ s → ⊥) → q u ≡ p u) where
    abbrev more : List ℕ
    more = waiting ++ s ∷ []

    one : count q n ≡ count p n + 1
    one = count_one p q n s inside new now others

    pub waits_room : length waiting < 256
    waits_room = omega (arith, one, l.all_here, count_le q n)

    longer : length more ≡ length waiting + 1
    longer = length-append waiting (s ∷ [])

    place_here : get_or more (length waiting) 0 ≡ s
    place_here = get_or-append_seam waiting s [] 0

    place_other : (i : ℕ) → i < length waiting → get_or more i 0 ≡ get_or waiting i 0
    place_other i g = get_or_append_left waiting (s ∷ []) 0 i g

    -- a number that waits or is told is another one
    not_s : (i : ℕ) → i < length waiting → get_or waiting i 0 ≡ s → ⊥
    not_s i g e = let (h, t, f) = l.waits i g in clash (p s) (rw e at t) new

    not_told : told s ≡ false
    not_told = split (told s) (λ t. clash (p s) (l.told_pass s inside t) new) (λ f. f)

    told_pass' : (u : ℕ) → u < n → told u ≡ true → q u ≡ true
    told_pass' u g t =
        by_equal u s (λ e. rw e now) (λ e. others u g e ∙ l.told_pass u g t)

    waits' : (i : ℕ) → i < length more → (get_or more i 0 < n) × (q (get_or more i 0) ≡ true) × (told (get_or more i 0) ≡ false)
    waits' i g =
        by_equal i (length waiting)
        (λ e. rw (e, place_here) (inside, now, not_told))
        (λ e.
        let less : i < length waiting = omega (arith, longer) in
        let (h, t, f) = l.waits i less in
        rw (place_other i less) (h, others (get_or waiting i 0) h (not_s i less) ∙ t, f))

    listed' : (u : ℕ) → u < n → q u ≡ true → told u ≡ false → (i : ℕ) × (i < length more) × (get_or more i 0 ≡ u)
    listed' u g t f =
        by_equal u s
        (λ e. (length waiting, omega (arith, longer), place_here ∙ sym e))
        (λ e. let (i, h, at) = l.listed u g (sym (others u g e) ∙ t) f in (i, omega (arith, longer), place_other i h ∙ at))

    apart' : (i j : ℕ) → i < j → j < length more → get_or more i 0 ≡ get_or more j 0 → ⊥
    apart' i j g h e =
        let first : i < length waiting = omega (arith, longer) in
        by_equal j (length waiting)
        (λ z. not_s i first (sym (place_other i first) ∙ e ∙ ap (λ k. get_or more k 0) z ∙ place_here))
        (λ z.
        let less : j < length waiting = omega (arith, longer) in
        l.apart i j g less (sym (place_other i first) ∙ e ∙ place_other j less))

    pub waits_push : Waits q told n more
    waits_push =
        record {
          all_here = omega (arith, longer, one, l.all_here);
          told_pass = told_pass';
          waits = waits';
          listed = listed';
          apart = apart';
        }

  -- the last one is taken to be told
  module _ (rest : List ℕ) (t : ℕ) (is : waiting ≡ rest ++ t ∷ []) where
    shorter : length waiting ≡ length rest + 1
    shorter = ap {A = List ℕ} length is ∙ length-append rest (t ∷ [])

    last_at : get_or waiting (length rest) 0 ≡ t
    last_at = ap (λ (x : List ℕ). get_or x (length rest) 0) is ∙ get_or-append_seam rest t [] 0

    rest_at : (i : ℕ) → i < length rest → get_or rest i 0 ≡ get_or waiting i 0
    rest_at i g = sym (ap (λ (x : List ℕ). get_or x i 0) is ∙ get_or_append_left rest (t ∷ []) 0 i g)

    pub last_waits : (t < n) × (p t ≡ true) × (told t ≡ false)
    last_waits = rw last_at at (l.waits (length rest) (omega (arith, shorter)))

    pub one_told : count (told_too told t) n ≡ count told n + 1
    one_told =
        count_one told (told_too told t) n t last_waits.0 last_waits.2
        (or_right (told t) (eqb t t) (eq-eqb t t refl))
        (λ u g e. ap (λ b. told u || b) (ne_eqb t u (λ q. e (sym q))) ∙ or_false (told u))

    still_new : (u : ℕ) → told u ≡ false → (u ≡ t → ⊥) → told_too told t u ≡ false
    still_new u f e = or_none (told u) (eqb t u) f (ne_eqb t u (λ q. e (sym q)))

    other : (i : ℕ) → i < length rest → get_or waiting i 0 ≡ t → ⊥
    other i g e = l.apart i (length rest) g (omega (arith, shorter)) (e ∙ sym last_at)

    pub waits_pop : Waits p (told_too told t) n rest
    waits_pop =
        record {
          all_here = omega (arith, shorter, one_told, l.all_here);
          told_pass =
              λ u g h.
              ⊎_elim (l.told_pass u g) (λ e. rw (← (eqb-true t u e)) last_waits.1) (or_cases (told u) (eqb t u) h);
          waits =
              λ i g.
              let (h, x, f) = l.waits i (omega (arith, shorter)) in
              rw (rest_at i g) (h, x, still_new (get_or waiting i 0) f (other i g));
          listed =
              λ u g x f.
              let (i, h, at) = l.listed u g x (or_left_false (told u) (eqb t u) f) in
              by_equal i (length rest)
              (λ e. clash (told_too told t u) (or_right (told u) (eqb t u) (eq-eqb t u (sym last_at ∙ ap (λ k. get_or waiting k 0) (sym e) ∙ at))) f)
              (λ e. let less : i < length rest = omega (arith, shorter) in (i, less, rest_at i less ∙ at));
          apart =
              λ i j g h e.
              l.apart i j g (omega (arith, shorter)) (sym (rest_at i (omega arith)) ∙ e ∙ rest_at j h);
        }

  -- where none waits, all that pass are told
  pub waits_over : waiting ≡ [] → (s : ℕ) → s < n → told s ≡ p s
  waits_over none s g =
      same_test (told s) (p s) (l.told_pass s g)
      (λ t.
      split (told s) (λ h. h)
      (λ f.
      let (i, h, at) = l.listed s g t f in
      let stop : ⊥ = omega (arith, ap {A = List ℕ} length none) in absurd stop))

-- a state of the set has mark 2
pub set_marked : (J : Job) (n : ℕ) (marks : List ℕ) (s : ℕ) → in_set J n marks s ≡ true → get_or marks s 0 ≡ 2
unfolding in_set
set_marked J n marks s h = eqb-true (get_or marks s 0) 2 (and_right (in_fragment J n s) (eqb (get_or marks s 0) 2) h)

-- the list at the start: the states of the fragment's list that were passed, and have mark 2
module _ (J : Job) (n : ℕ) (marks : List ℕ) where
  abbrev mark : ℕ → Bool
  mark s = eqb (get_or marks s 0) 2

  abbrev passed : ℕ → ℕ → Bool
  passed = among (fragment_state J n)

  abbrev pub WaitingBelow : List ℕ → ℕ → Type 0
  WaitingBelow waiting i = Waits (λ s. passed i s && mark s) none_told (size J) waiting

  pub start_none : WaitingBelow [] 0
  start_none =
      waits_none (λ s. passed 0 s && mark s) (size J)
      (λ s l. and_no_left (passed 0 s) (mark s) (among_none (fragment_state J n) s))

  -- a state more of the list, which has mark 2 or not
  module _ (job : IsJob J) {waiting : List ℕ} {i : ℕ} (l : WaitingBelow waiting i) (g : i < fragment_size J n) (s : ℕ)
      (s_is : s ≡ fragment_state J n i) where
    inside : s < size J
    inside = rw s_is (fragment_bound J job n (fragment_state J n i) (state_inside J job n i g))

    new : passed i s ≡ false
    new =
        among_not (fragment_state J n) i s
        (λ j h e.
        let same : rank J n (fragment_state J n j) ≡ rank J n (fragment_state J n i) = ap (rank J n) (e ∙ s_is) in
        omega (arith, rank_state J job n j (omega arith), rank_state J job n i g))

    passed_here : passed (i + 1) s ≡ true
    passed_here = among_intro (fragment_state J n) (i + 1) i s (omega arith) (sym s_is)

    passed_other : (u : ℕ) → (u ≡ s → ⊥) → passed (i + 1) u ≡ passed i u
    passed_other u q =
        among_next (fragment_state J n) i u
        ∙ ap (λ b. passed i u || b) (ne_eqb (fragment_state J n i) u (λ e. q (sym (s_is ∙ e))))
        ∙ or_false (passed i u)

    pub start_rest : (get_or marks s 0 ≡ 2 → ⊥) → WaitingBelow waiting (i + 1)
    start_rest other =
        waits_same l (λ u. passed (i + 1) u && mark u)
        (λ u h.
        by_equal u s
        (λ e.
        let f : mark u ≡ false = rw e (ne_eqb (get_or marks s 0) 2 other) in
        and_no_right (passed (i + 1) u) (mark u) f ∙ sym (and_no_right (passed i u) (mark u) f))
        (λ e. ap (λ b. b && mark u) (passed_other u e)))

    module _ (two : get_or marks s 0 ≡ 2) where
      now_passed : (passed (i + 1) s && mark s) ≡ true
      now_passed = and_intro (passed (i + 1) s) (mark s) passed_here (eq-eqb (get_or marks s 0) 2 two)

      others : (u : ℕ) → u < size J → (u ≡ s → ⊥) → (passed (i + 1) u && mark u) ≡ (passed i u && mark u)
      others u h e = ap (λ b. b && mark u) (passed_other u e)

      pub start_room : length waiting < 256
      start_room =
          waits_room l (λ u. passed (i + 1) u && mark u) s job.states.below inside (and_no_left (passed i s) (mark s) new) now_passed others

      pub start_push : WaitingBelow (waiting ++ s ∷ []) (i + 1)
      start_push =
          waits_push l (λ u. passed (i + 1) u && mark u) s job.states.below inside (and_no_left (passed i s) (mark s) new) now_passed others

  -- at the list's end every state of the fragment was passed
  pub start_over : IsJob J → {waiting : List ℕ} → WaitingBelow waiting (fragment_size J n) → Waits (in_set J n marks) none_told (size J) waiting
  unfolding in_set
  start_over job l =
      waits_same l (λ s. in_fragment J n s && mark s)
      (λ s h.
      ap (λ b. b && mark s)
      (same_test (in_fragment J n s) (passed (fragment_size J n) s)
      (λ t.
      among_intro (fragment_state J n) (fragment_size J n) (rank J n s) s (rank_below J job n s t) (state_rank J job n s t))
      (λ t.
      let (j, g, e) = among_found (fragment_state J n) (fragment_size J n) s t in
      rw e at (state_inside J job n j g))))
