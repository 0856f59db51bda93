-- Fragments of a job: a node's inner states are those that it owns, its border states the others of its fragment, and edges
-- out of owned states stay in the fragment. Laws about tables use border and inner states in these forms only. Assumes
-- nothing.
use Prim.Native.Nat.{ℕ, ◌<◌}
use mathlib.Core.Path.{◌≡◌, refl, ◌∙◌}
use mathlib.Core.Bool.{Bool, true, false, not, ◌&&◌}
use mathlib.Core.Logic.{⊎_elim}
use lib.ListN.{get_or}
use lib.Dec.{eqb, ltb}
use borrow.Author.Tests.{ltb-true, lt-ltb, eqb-true, eq-eqb}
use Rattle.law.proofs.Bool.{and_intro, and_left, and_right, or_left, or_right, or_cases, and_no_right, same_test, not_is_true, not_is_false}
use Rattle.law.specs.Lists.{some}
use Rattle.law.proofs.Lists.{some_intro, some_elim}
use Rattle.job.specs.Job.{Job, Edge, size, owner, edge}
use Rattle.job.specs.Written.{IsJob, no_edge, edge_of, edge_count}
use Rattle.cells.specs.Fragment.{owns, in_fragment, edge_out, border, inner}
use Rattle.job.proofs.Successors.{edge_number}

module _ (J : Job) (n s : ℕ) where
  pub owns_intro : s < size J → owner J s ≡ n → owns J n s ≡ true
  unfolding owns
  owns_intro l e = and_intro (ltb s (size J)) (eqb (owner J s) n) (lt-ltb s (size J) l) (eq-eqb (owner J s) n e)

  pub owns_bound : owns J n s ≡ true → s < size J
  unfolding owns
  owns_bound o = ltb-true s (size J) (and_left (ltb s (size J)) (eqb (owner J s) n) o)

  pub owns_owner : owns J n s ≡ true → owner J s ≡ n
  unfolding owns
  owns_owner o = eqb-true (owner J s) n (and_right (ltb s (size J)) (eqb (owner J s) n) o)

  pub owned_inside : owns J n s ≡ true → in_fragment J n s ≡ true
  unfolding in_fragment
  owned_inside = or_left (owns J n s) _

  pub next_inside : (u : ℕ) → owns J n s ≡ true → edge J.structure s u ≡ true → in_fragment J n u ≡ true
  unfolding in_fragment
  next_inside u o e =
      let (i, l, from, to) = edge_number J.structure s u e in
      or_right (owns J n u) _
      (some_intro (λ (d : Edge). owns J n d.from && eqb d.to u) J.structure.edges no_edge i l
      (rw (from, to) (simp (o, eq-eqb u u refl))))

  pub border_inside : border J n s ≡ true → in_fragment J n s ≡ true
  unfolding border
  border_inside = and_left (in_fragment J n s) (not (edge_out J n s))

module _ (J : Job) (job : IsJob J) where
  pub edge_bound : (s u : ℕ) → edge J.structure s u ≡ true → u < size J
  unfolding edge_of edge_count
  edge_bound s u e =
      let (i, l, from, to) = edge_number J.structure s u e in rw to at (job.ends i l).1

  pub fragment_bound : (n s : ℕ) → in_fragment J n s ≡ true → s < size J
  unfolding in_fragment edge_of edge_count
  fragment_bound n s h =
      let p : Edge → Bool = λ d. owns J n d.from && eqb d.to s in
      ⊎_elim (owns_bound J n s)
      (λ h.
      let (i, l, e) = some_elim p J.structure.edges no_edge h in
      let d = get_or J.structure.edges i no_edge in
      rw (eqb-true d.to s (and_right (owns J n d.from) (eqb d.to s) e)) at (job.ends i l).1)
      (or_cases (owns J n s) (some p J.structure.edges) h)

  -- Every state has an edge out, so the edges of the fragment leave exactly the owned states.
  pub edge_out_owned : (n s : ℕ) → edge_out J n s ≡ owns J n s
  unfolding edge_out edge_of edge_count
  edge_out_owned n s =
      let p : Edge → Bool = λ d. owns J n d.from && eqb d.from s in
      same_test (edge_out J n s) (owns J n s)
      (λ h.
      let (i, l, e) = some_elim p J.structure.edges no_edge h in
      let d = get_or J.structure.edges i no_edge in
      let same = eqb-true d.from s (and_right (owns J n d.from) (eqb d.from s) e) in
      rw same at (and_left (owns J n d.from) (eqb d.from s) e))
      (λ o.
      let (i, l, from) = job.edge_out s (owns_bound J n s o) in
      some_intro p J.structure.edges no_edge i l (rw from (simp (o, eq-eqb s s refl))))

  pub inner_owned : (n s : ℕ) → inner J n s ≡ owns J n s
  unfolding inner
  inner_owned n s =
      rw (edge_out_owned n s)
      (same_test (in_fragment J n s && owns J n s) (owns J n s)
      (and_right (in_fragment J n s) (owns J n s))
      (λ o. and_intro (in_fragment J n s) (owns J n s) (owned_inside J n s o) o))

  pub border_owned : (n s : ℕ) → border J n s ≡ (in_fragment J n s && not (owns J n s))
  unfolding border
  border_owned n s = rw (edge_out_owned n s)

  pub outer_border : (n s : ℕ) → in_fragment J n s ≡ true → owns J n s ≡ false → border J n s ≡ true
  outer_border n s i o = border_owned n s ∙ and_intro (in_fragment J n s) (not (owns J n s)) i (not_is_true (owns J n s) o)

  -- The owner of a state is a node, and owns it.
  pub owner_owns : (s : ℕ) → s < size J → owns J (owner J s) s ≡ true
  owner_owns s l = owns_intro J (owner J s) s l refl

  -- and has it at no border.
  pub owner_no_border : (s : ℕ) → s < size J → border J (owner J s) s ≡ false
  owner_no_border s l =
      border_owned (owner J s) s
      ∙ and_no_right (in_fragment J (owner J s) s) (not (owns J (owner J s) s)) (not_is_false (owns J (owner J s) s) (owner_owns s l))
