-- Why close is right, of one rule: where start and growing are known everywhere and nothing is left to step or to copy, an
-- empty cell is of a state outside the least set. By induction over that set, each of its states has the value at its owner
-- already. Assumes nothing.
use Prim.Native.Nat.{ℕ, ◌<◌, ◌≤◌}
use mathlib.Core.Path.{◌≡◌, ◌∙◌}
use mathlib.Core.Bool.{Bool, true, false}
use native.Mathlib.Nat.{le_refl}
use native.Mathlib.Omega.{arith}
use lib.ListN.{get_or}
use Rattle.law.specs.Fixpoint.{member}
use Rattle.law.proofs.Bool.{split, clash}
use Rattle.law.proofs.Bounded.{by_equal}
use Rattle.job.specs.Job.{Job, Quantifier, size, owner}
use Rattle.job.specs.Written.{IsJob}
use Rattle.ctl.specs.Labelling.{reached}
use Rattle.ctl.proofs.Reached.{reached_state}
use Rattle.cells.specs.Fragment.{owns, in_fragment, border}
use Rattle.cells.specs.SetRule.{SetRule, set_rule, smallest, by_sets}
use Rattle.cells.specs.Sets.{Joins, already, starts, grows}
use Rattle.cells.proofs.Sets.{smallest_is}
use Rattle.cells.proofs.Repeat.{by_sets_at}
use Rattle.job.proofs.Successors.{over_within}
use Rattle.cells.proofs.FragmentLaws.{owns_bound, owns_owner, owned_inside, next_inside, fragment_bound, edge_bound, inner_owned, outer_border, owner_owns}
use Rattle.ctl.proofs.Reached.{reached_turns}
use Rattle.cells.proofs.Tells.{Tells}
use Rattle.cells.proofs.RightSets.{Telling}
use Rattle.cells.proofs.Determined.{Filled}

-- The nodes' cells of a rule, by node and state: right, with start and growing known, and no more to step or to copy.
pub record Exhausted (J : Job) (q : Quantifier) (v : ℕ) (own start grow : ℕ → ℕ → ℕ) (b a : ℕ → Bool) : Type 0 where
  pub tells : (n : ℕ) → n < J.nodes → Telling J (own n) (set_rule q (start n) (grow n) v) b a
  pub low : (n s : ℕ) → own n s ≤ 2
  pub started : (n s : ℕ) → n < J.nodes → in_fragment J n s ≡ true → Filled (start n s)
  pub grown : (n s : ℕ) → n < J.nodes → in_fragment J n s ≡ true → Filled (grow n s)
  pub done :
      (n s : ℕ)
      → n < J.nodes
      → in_fragment J n s ≡ true
      → own n s ≡ 2
      → get_or (by_sets J n (own n) (set_rule q (start n) (grow n) v)) s 2 ≡ 2
  pub copied : (n s : ℕ) → n < J.nodes → border J n s ≡ true → own n s ≡ 2 → own (owner J s) s ≡ 2

-- a filled cell that is right about a state of the set has the value
cell_value : (v c : ℕ) (b : Bool) → v ≤ 1 → c ≤ 2 → Tells v c b → b ≡ true → (c ≡ 2 → ⊥) → c ≡ v
cell_value v c b small low right t filled =
    by_equal c v (λ e. e) (λ n. clash b t (right.outside (omega arith)))

-- a filled cell that is right about a truth is 1
pub cell_one : (c : ℕ) (b : Bool) → Filled c → Tells 1 c b → b ≡ true → c ≡ 1
cell_one c b filled right t = cell_value 1 c b (le_refl 1) (omega arith) right t (λ e. omega arith)

module _
    (J : Job) (job : IsJob J) (q : Quantifier) (v : ℕ) (small : v ≤ 1) (own start grow : ℕ → ℕ → ℕ) (b a : ℕ → Bool)
    (ex : Exhausted J q v own start grow b a)
  where
    abbrev rule : ℕ → SetRule
    rule n = set_rule q (start n) (grow n) v

    abbrev U : ℕ → Bool
    U = reached J.structure q b a

    abbrev L : ℕ → ℕ → Bool
    L n = member (smallest J n (own n) (rule n))

    -- a cell of the set, at its owner or not, that is filled
    own_value : (n s : ℕ) → n < J.nodes → s < size J → U s ≡ true → (own n s ≡ 2 → ⊥) → own n s ≡ v
    own_value n s node l t = cell_value v (own n s) (U s) small (ex.low n s) ((ex.tells n node).owns s l) t

    -- a state that its owner's step would take into the smallest set has the value there: the step has nothing left to fill
    taken :
        (s : ℕ)
        → U s ≡ true
        → ((n : ℕ) → n < J.nodes → owns J n s ≡ true → own n s ≡ 2 → Joins J n (own n) (rule n) (L n) s)
        → own (owner J s) s ≡ v
    unfolding size
    taken s t joins =
        let n = owner J s in
        let l = reached_state J.structure q b a s t in
        let node = job.owners s l in
        let o = owner_owns J job s l in
        own_value n s node l t
        (λ e.
        let two = ex.done n s node (owned_inside J n s o) e in
        let joined = (smallest_is J n (own n) (rule n)).joined s l (joins n node o e) in
        absurd (omega (arith, simp joined at (by_sets_at J n (own n) (rule n) s l))))

    -- an owner's value is known at each node whose fragment has the state
    shared : (n u : ℕ) → n < J.nodes → in_fragment J n u ≡ true → own (owner J u) u ≡ v → own n u ≡ v
    shared n u node i e =
        let l = fragment_bound J job n u i in
        split (owns J n u)
        (λ o. rw (owns_owner J n u o) at e)
        (λ o.
        own_value n u node l (((ex.tells (owner J u) (job.owners u l)).owns u l).inside e)
        (λ two. let z = ex.copied n u node (outer_border J job n u i o) two in absurd (omega arith)))

    pub target_known : (s : ℕ) → U s ≡ true → own (owner J s) s ≡ v
    target_known =
        let M = J.structure in
        reached_turns M q b a (λ s. own (owner J s) s ≡ v)
        (λ s t e.
        taken s t
        (λ n node o empty.
        starts empty (inner_owned J job n s ∙ o)
        (cell_one (start n s) (b s) (ex.started n s node (owned_inside J n s o))
        ((ex.tells n node).starts s (owns_bound J n s o)) e)))
        (λ s t e Y known h.
        taken s t
        (λ n node o empty.
        grows empty (inner_owned J job n s ∙ o)
        (cell_one (grow n s) (a s) (ex.grown n s node (owned_inside J n s o))
        ((ex.tells n node).grows s (owns_bound J n s o)) e)
        (over_within M q s Y (L n)
        (λ u edge y.
        (smallest_is J n (own n) (rule n)).joined u (edge_bound J job s u edge)
        (already (shared n u node (next_inside J n s u o edge) (known u y))))
        h)))

    -- so an empty cell of a fragment is outside the set
    pub empty_outside : (n s : ℕ) → n < J.nodes → in_fragment J n s ≡ true → own n s ≡ 2 → U s ≡ false
    empty_outside n s node i e =
        split (U s)
        (λ t. let z = shared n s node i (target_known s t) in absurd (omega arith))
        (λ f. f)
