-- What is read of an image, part by part. Each law's last argument is a number that was read, so that it is what an accessor promises of it.
-- Assumes nothing.
use Prim.Native.Nat.{ℕ, zero, suc, ◌-◌, ◌<◌, ◌≤◌}
use mathlib.Core.Path.{◌≡◌}
use mathlib.Core.Bool.{Bool, true, false, cond}
use mathlib.Core.List.{[]}
use native.Mathlib.Nat.{le_refl}
use native.Mathlib.Omega.{arith}
use lib.ListN.{get_or}
use Rattle.std.proofs.Common.{Option, Some, None, IfSome, SomeIff}
use Rattle.job.specs.Job.{Job, size, owner}
use Rattle.job.specs.Written.{IsJob, edge_count}
use Rattle.image.specs.Image.{IsImage, edge_from, edge_to, first_edge, leads, last_into, place_of, fragment}
use Rattle.image.specs.Denoted.{job_of}
use Rattle.image.specs.declared.image.Image.{Image}
use Rattle.image.specs.declared.place.Place.TheVariants.{Outside}
use Rattle.image.specs.declared.space.Fragment.{Fragment}
use Rattle.image.proofs.Made.{image_made}
use Rattle.image.proofs.Runs.{first_few}

-- The last edge into a state is one of those looked at.
pub last_few : (J : Job) (n u e : ℕ) → last_into J n u e ≤ e
unfolding last_into
last_few J n u zero = le_refl 0
last_few J n u (suc e) = by_test (leads J n u e) (last_few J n u e)
  where
    by_test : (b : Bool) → last_into J n u e ≤ e → cond b (suc e) (last_into J n u e) ≤ suc e
    by_test true l = le_refl (suc e)
    by_test false l = omega arith

-- an edge that is told by a number, which is one more than it or 0
pub told_below : (x n : ℕ) (r : Option ℕ) → SomeIff r (1 ≤ x) (x - 1) → x ≤ n → IfSome r (λ e. e < n)
told_below x n None h l = tt
told_below x n (Some e) h l = omega (arith, h)

module _ (m : Image) where
  abbrev is : IsImage m.space.now
  is = image_made m

  pub image_job : IsJob (job_of m)
  image_job = is.is_job

  pub first_read :
      (s : ℕ) → s ≤ size (job_of m) → (r : ℕ) → r ≡ get_or m.space.now.first s 0
      → (r ≡ first_edge (job_of m).structure s) × (r ≤ edge_count (job_of m)) × (r ≤ 2048)
  first_read s l r e =
      let w = is.runs s (omega arith) in
      let f = first_few (job_of m) image_job s in
      let b = image_job.edges in
      (omega arith, omega arith, omega arith)

  pub last_read :
      (n s : ℕ) → n < (job_of m).nodes → s < size (job_of m) → (r : ℕ) → r ≡ get_or (get_or m.space.now.last n []) s 0
      → (r ≡ last_into (job_of m) n s (edge_count (job_of m))) × (r ≤ edge_count (job_of m))
  last_read n s l g r e =
      let b = image_job.nodes in
      let c = image_job.states in
      let w = is.chains.last_at n s (omega arith) (omega arith) in
      let f = last_few (job_of m) n s (edge_count (job_of m)) in
      (omega arith, omega arith)

  pub next_read :
      (e : ℕ) → e < edge_count (job_of m) → (r : ℕ) → r ≡ get_or m.space.now.next e 0
      → (r ≡ last_into (job_of m) (owner (job_of m) (edge_from (job_of m).structure e)) (edge_to (job_of m).structure e) e) × (r ≤ e)
  next_read e l r q =
      let w = is.chains.next_at e l in
      let f = last_few (job_of m) (owner (job_of m) (edge_from (job_of m).structure e)) (edge_to (job_of m).structure e) e in
      (omega arith, omega arith)

  -- the fragment that was read
  pub place_read :
      (n s : ℕ) → n < (job_of m).nodes → s < size (job_of m) → (f : Fragment)
      → get_or (get_or m.space.now.fragments n f).places s Outside ≡ place_of (job_of m) n s
  place_read n s l g f = (is.fragments n (omega (arith, image_job.nodes)) f).place_at s g

  pub fragment_read :
      (n : ℕ) → n < (job_of m).nodes → (f : Fragment) → (get_or m.space.now.fragments n f).states.items ≡ fragment (job_of m) n
  fragment_read n l f = (is.fragments n (omega (arith, image_job.nodes)) f).listed
