-- The states that are reached are those from which truth by walks sees an until: on every walk, or on some walk. Both quantifiers
-- go the same way, and that each state has an edge out is used only to continue a walk. What holds throughout is the opposite of an
-- until. Assumes nothing.
use Prim.Native.Nat.{ℕ, zero, suc, ◌<◌}
use mathlib.Core.Path.{◌≡◌, refl}
use mathlib.Core.Bool.{Bool, true, not}
use mathlib.Core.Logic.{◌↔◌}
use native.Mathlib.Omega.{arith}
use borrow.Author.Tests.{not-true}
use Rattle.law.proofs.Bool.{split, clash, not_is_true}
use Rattle.job.specs.Job.{Structure, Quantifier, for_all, exists, dual, over}
use Rattle.job.proofs.Successors.{over_all, over_some, over_misses}
use Rattle.ctl.specs.Truth.{Predicate, HasEdge, Walk, Until, Throughout, OnWalks}
use Rattle.ctl.specs.Labelling.{reached}
use Rattle.ctl.proofs.Total.{State, Total}
use Rattle.ctl.proofs.Walks.{walk_tail, walk_before, walk_state, walk_by, walk_on, until_here, until_later, on_walks_map, walks_share}
use Rattle.ctl.proofs.Reached.{reached_start, reached_grow, reached_ind}

-- A Bool says of each state whether A holds there.
abbrev pub Decides : Structure → Predicate → (ℕ → Bool) → Type 0
Decides M A p = (s : ℕ) → State M s → A s ↔ (p s ≡ true)

-- a Bool that decides A decides its opposite
pub not_decides : (A : Type 0) (x : Bool) → A ↔ (x ≡ true) → (A → ⊥) ↔ (not x ≡ true)
not_decides A x d = (
  (λ h. split x (λ t. absurd (h (d.1 t))) (not_is_true x)),
  (λ e h. clash x (d.0 h) (not-true x e)),
)

module _
    (M : Structure) (total : Total M)
    (start grow : ℕ → Bool) (A B : Predicate) (a : Decides M A grow) (b : Decides M B start)
  where
    abbrev Never : (s : ℕ) → Walk M s → Type 0
    Never s w = Until M A B s w → ⊥

    -- From the set to the walks, by induction over it.
    all_walks : (s : ℕ) → reached M for_all start grow s ≡ true → (w : Walk M s) → Until M A B s w
    unfolding HasEdge
    all_walks =
        reached_ind M for_all start grow (λ s. (w : Walk M s) → Until M A B s w)
        (λ s l e w. until_here M A B s w ((b s l).1 e))
        (λ Y known s l g e w.
        let t = w.at 1 in
        let y = (over_all M s Y).0 e t (rw w.starts at (w.steps zero)) in
        until_later M A B s t w (walk_tail M s w) (λ i. refl) ((a s l).1 g) (known t y (walk_tail M s w)))

    some_walk : (s : ℕ) → reached M exists start grow s ≡ true → (w : Walk M s) × Until M A B s w
    unfolding HasEdge
    some_walk =
        reached_ind M exists start grow (λ s. (w : Walk M s) × Until M A B s w)
        (λ s l e. let w = walk_on M total s l in (w, until_here M A B s w ((b s l).1 e)))
        (λ Y known s l g e.
        let (t, step, y) = (over_some M s Y).0 e in
        let (v, u) = known t y in
        let w = walk_before M s t step v in
        (w, until_later M A B s t w v (λ i. refl) ((a s l).1 g) u))

    reached_walks : (q : Quantifier) (s : ℕ) → reached M q start grow s ≡ true → OnWalks M q s (Until M A B s)
    unfolding OnWalks
    reached_walks for_all = all_walks
    reached_walks exists = some_walk

    -- From the walks to the set. An edge leads back if a state that may grow is in the set as soon as the next one is, and a walk of such
    -- edges is followed backwards from the place. For some walk every edge leads back; for all walks, one edge out of each state does.
    abbrev Back : Quantifier → ℕ → ℕ → Type 0
    Back q s t = grow s ≡ true → reached M q start grow t ≡ true → reached M q start grow s ≡ true

    abbrev LeadsBack : (q : Quantifier) (s : ℕ) → Walk M s → Type 0
    LeadsBack q s w = (i : ℕ) → Back q (w.at i) (w.at (suc i))

    walk_back :
        (q : Quantifier) (p s : ℕ) (w : Walk M s)
        → LeadsBack q s w
        → B (w.at p)
        → ((i : ℕ) → i < p → A (w.at i))
        → reached M q start grow (w.at zero) ≡ true
    walk_back q zero s w leads here earlier =
        let l = walk_state M total s w zero in reached_start M q start grow (w.at zero) l ((b (w.at zero) l).0 here)
    walk_back q (suc p) s w leads here earlier =
        leads zero
        ((a (w.at zero) (walk_state M total s w zero)).0 (earlier zero (omega arith)))
        (walk_back q p (w.at 1) (walk_tail M s w) (λ i. leads (suc i)) here (λ i h. earlier (suc i) (omega arith)))

    until_reached : (q : Quantifier) (s : ℕ) (w : Walk M s) → LeadsBack q s w → Until M A B s w → reached M q start grow s ≡ true
    until_reached q s w leads u = rw w.starts at (walk_back q u.place s w leads u.reached u.before)

    some_back : (s t : ℕ) → HasEdge M s t → Back exists s t
    unfolding HasEdge
    some_back s t e g h =
        reached_grow M exists start grow s (total.inside s t e).0 g ((over_some M s (reached M exists start grow)).1 (t, e, h))

    all_back : (s : ℕ) → State M s → (t : ℕ) × HasEdge M s t × Back for_all s t
    unfolding HasEdge
    all_back s l =
        let set = reached M for_all start grow in
        split (over M for_all s set)
        (λ all. let (t, e) = total.onward s l in (t, e, λ g h. reached_grow M for_all start grow s l g all))
        (λ miss. let (t, e, f) = over_misses M s set miss in (t, e, λ g h. clash (set t) h f))

    -- the walks that lead back: enough of them to share one with those on which an until holds
    back_walks : (q : Quantifier) (s : ℕ) → State M s → OnWalks M (dual q) s (LeadsBack q s)
    unfolding OnWalks dual
    back_walks for_all s l = walk_by M total (Back for_all) all_back s l
    back_walks exists s l = λ w i. some_back (w.at i) (w.at (suc i)) (w.steps i)

    -- the two directions together
    pub walks_reached : (q : Quantifier) (s : ℕ) → State M s → OnWalks M q s (Until M A B s) ↔ (reached M q start grow s ≡ true)
    walks_reached q s l = (
      (λ until.
          let (w, u, leads) = walks_share M s (Until M A B s) (LeadsBack q s) q until (back_walks q s l) in until_reached q s w leads u),
      reached_walks q s,
    )

    -- outside the set there are that many walks on which no until holds
    walks_outside :
        (q : Quantifier) (s : ℕ) → State M s → OnWalks M (dual q) s (Never s) ↔ (not (reached M q start grow s) ≡ true)
    walks_outside q s l =
        let inside = reached M q start grow s in (
          (λ never.
              split inside
              (λ t. let (w, u, apart) = walks_share M s (Until M A B s) (Never s) q (reached_walks q s t) never in absurd (apart u))
              (not_is_true inside)),
          (λ e.
              on_walks_map M s (LeadsBack q s) (Never s) (dual q)
              (λ w leads u. clash inside (until_reached q s w leads u) (not-true inside e)) (back_walks q s l)),
        )

-- A holds throughout a walk on which no state comes at which it fails: so what holds throughout is the opposite of an until.
module _ (M : Structure) (total : Total M) (p : ℕ → Bool) (A : Predicate) (a : Decides M A p) where
  abbrev Anywhere : Predicate
  Anywhere s = Unit {0}

  abbrev Fails : Predicate
  Fails s = A s → ⊥

  abbrev fails : ℕ → Bool
  fails s = not (p s)

  fails_decides : Decides M Fails fails
  fails_decides s l = not_decides (A s) (p s) (a s l)

  throughout_never : (s : ℕ) (w : Walk M s) → Throughout M A s w → Until M Anywhere Fails s w → ⊥
  unfolding Throughout
  throughout_never s w h u = u.reached (h u.place)

  never_throughout : (s : ℕ) (w : Walk M s) → (Until M Anywhere Fails s w → ⊥) → Throughout M A s w
  unfolding Throughout
  never_throughout s w never i =
      let t = w.at i in
      let l = walk_state M total s w i in
      split (p t) (a t l).1
      (λ f. absurd (never (record { place = i; reached = (fails_decides t l).1 (not_is_true (p t) f); before = λ j h. tt })))

  pub throughout_outside :
      (q : Quantifier) (s : ℕ)
      → State M s
      → OnWalks M (dual q) s (Throughout M A s) ↔ (not (reached M q fails (λ t. true) s) ≡ true)
  throughout_outside q s l =
      let outside = walks_outside M total fails (λ t. true) Anywhere Fails (λ t h. (λ u. refl, λ e. tt)) fails_decides q s l in (
        (λ h. outside.0 (on_walks_map M s _ _ (dual q) (throughout_never s) h)),
        (λ e. on_walks_map M s _ _ (dual q) (never_throughout s) (outside.1 e)),
      )
