-- `tell`: the edges passed so far are seen.
use Prim.Native.Nat.{ℕ, suc, ◌<◌}
use mathlib.Core.Path.{◌≡◌, refl, ap, subst}
use mathlib.Core.Bool.{Bool}
use mathlib.Core.List.{List}
use Rattle.std.proofs.Common.{Option, Some, None, rules}
use Rattle.job.specs.Written.{edge_count}
use Rattle.image.specs.Denoted.{job_of}
use Rattle.image.proofs.ImageLaws.{image_job}
use Rattle.spread.specs.Underway.{Taken}
use Rattle.spread.proofs.Walk.{Walking, number, number_told, walk_start, walk_over, j_in, walk_count, walk_room, walk_rest, walk_push}
use Rattle.spread.proofs.spread.Worklist.tell.Given.{Over}
use Rattle.spread.proofs.spread.Worklist.tell.Goals as goal
use Rattle.spread.proofs.spread.Worklist.tell.Goals.{In-Some, else-joins, then-joins}

pub loop-next-init : goal.loop-next-init
loop-next-init g c =
    λ before told w.
    walk_start _ _ _ _ _ _ (image_job c.args.m.now) w.new w.underway w.marked _ (number_told c.last_into-next.ensures.is)

-- an edge of the walk
module _ (g : Over) (c : In-Some g) where
  abbrev At : List ℕ → (ℕ → Bool) → ℕ → Type 0
  At before told e =
      Walking (job_of c.args.m.now) c.args.n c.args.all before told c.args.t (g.M.Marks.numbers c.loop-next.marks)
      c.loop-next.self.counts.now c.loop-next.self.waiting e

  on_walk :
      (before : List ℕ) (told : ℕ → Bool)
      → Taken (job_of c.args.m.now) c.args.n c.args.all before told c.args.t (g.M.Marks.numbers c.args.marks.now) c.args.self.now
      → At before told (suc c.in-Some.e)
  on_walk before told w = subst (At before told) (ap number c.in-Some.is) (c.loop-next.invariant before told w)

  begun : Taken (job_of c.args.m.now) c.args.n c.args.all c.requires.taken.0 c.requires.taken.1 c.args.t (g.M.Marks.numbers c.args.marks.now) c.args.self.now
  begun = c.requires.taken.2

  here : At c.requires.taken.0 c.requires.taken.1 (suc c.in-Some.e)
  here = on_walk _ _ begun

  edge_in : c.in-Some.e < edge_count (job_of c.args.m.now)
  edge_in = j_in _ _ _ _ _ _ (image_job c.args.m.now) begun.new here

pub source-s-requires : goal.source-s-requires
source-s-requires g c = edge_in g (goal.at.source-s-requires g c).In-Some

pub overflow_add-told : goal.overflow_add-told
overflow_add-told g c =
    let w = (goal.at.overflow_add-told g c).In-Some in
    let few = walk_count _ _ _ _ _ _ (image_job c.args.m.now) (begun g w).new (here g w) _ c.source-s.ensures.0 in
    search (rules, few)

pub push-requires : goal.push-requires
push-requires g c =
    let w = (goal.at.push-requires g c).In-Some in
    walk_room _ _ _ _ _ _ (image_job c.args.m.now) (begun g w).new (here g w) _ c.source-s.ensures.0 _ c.joins.ensures c.if-joins.true

pub next_into-next-requires : goal.next_into-next-requires
next_into-next-requires g c = edge_in g (goal.at.next_into-next-requires g c).In-Some

pub loop-next-preserved : goal.loop-next-preserved
loop-next-preserved g c =
    λ before told w.
    let job = image_job c.args.m.now in
    let at = on_walk g (goal.at.loop-next-preserved g c).In-Some before told w in
    elim c.if-joins.branch [
      | then-joins v ↦
          rw (v.marks-is, v.self-is, v.push.ensures, v.put_in.ensures)
          (walk_push _ _ _ _ _ _ job w.new at _ c.source-s.ensures.0 _ c.joins.ensures _ (number_told c.next_into-next.ensures.is) v.if-joins.true)
      | else-joins v ↦
          rw (v.marks-is, v.self-is)
          (walk_rest _ _ _ _ _ _ job w.new at _ c.source-s.ensures.0 _ c.joins.ensures _ (number_told c.next_into-next.ensures.is) v.if-joins.false)
    ]

ended : (o : Option ℕ) → ((e : ℕ) → o ≡ Some e → ⊥) → number o ≡ 0
ended None none = refl
ended (Some e) none = absurd (none e refl)

pub returns : goal.returns
returns g c =
    λ before told taken.
    walk_over _ _ _ _ _ _ (image_job c.args.m.now) taken.new (c.loop-next.invariant before told taken) (ended c.loop-next.next c.in_default.not-Some)
