-- Steps and copying that leave out what cannot fill: each leaves the table that is wanted, and marks that are right about it. Assumes nothing.
use Prim.Native.Nat.{ℕ, ◌+◌, ◌<◌}
use Rattle.cells.specs.Table.{Table}
use Rattle.cells.specs.Finish.{steps_up_to, exchange}
use Rattle.image.specs.Denoted.{job_of}
use Rattle.image.specs.declared.image.Image.{Image}
use Rattle.image.proofs.ImageLaws.{image_job}
use Rattle.pending.specs.declared.Pending.{Pending}
use Rattle.table.specs.Lent.{Ready}
use Rattle.stepping.specs.Stale.{Worked}
use Rattle.stepping.proofs.WorkedLaws.{worked_tracked}
use Rattle.messages.specs.News.{NewsCopied}
use Rattle.messages.proofs.NewsLaws.{copied_tracked}
use Rattle.exchange.specs.Running.{Running, Ran}
use Rattle.exchange.proofs.ReadyLaws.{ready_formed, formed_ready, told_few}
use Rattle.exchange.proofs.ExchangeLaws.{steps_none, steps_more, steps_formed, exchanged, exchange_formed}

module _ {m : Image} {t : Table} {p : Pending} (z : Running m t p) where
  -- The steps.
  pub ran_none : Ran (job_of m) t (steps_up_to (job_of m) 0 t) t p 0
  ran_none =
      let none = steps_none (job_of m) t in
      record { leaves = none; tracked = z.tracked; few = told_few z.ready _ _ _ none }

  module _ (n : ℕ) {u : Table} {p' : Pending} {c : ℕ} (so_far : Ran (job_of m) t (steps_up_to (job_of m) n t) u p' c) where
    pub stepped_ready : Ready m u
    stepped_ready =
        formed_ready z.ready u (rw so_far.leaves.table_is (steps_formed (job_of m) t n (ready_formed z.ready)))

    pub ran_more :
        n < (job_of m).nodes
        → {w : Table} {p'' : Pending} {d : ℕ}
        → Worked (job_of m) n u p' w p'' d
        → Ran (job_of m) t (steps_up_to (job_of m) (n + 1) t) w p'' (c + d)
    ran_more under {w} {p''} {d} worked =
        let left = steps_more (job_of m) t n under u w c d so_far.leaves worked.leaves in
        record {
          leaves = left;
          tracked = worked_tracked (job_of m) (image_job m) n u p' w p'' d worked so_far.tracked;
          few = told_few z.ready _ _ _ left;
        }

  -- Then copying.
  pub ran_exchanged :
      {u w : Table} {p' p'' : Pending} {c d : ℕ}
      → Ran (job_of m) t (steps_up_to (job_of m) (job_of m).nodes t) u p' c
      → NewsCopied (job_of m) u p' w p'' d
      → Ran (job_of m) t (exchange (job_of m) t) w p'' (c + d)
  ran_exchanged {u} {w} {p'} {p''} {c} {d} stepped copied =
      let left = exchanged (job_of m) t u w c d stepped.leaves copied.leaves in
      record {
        leaves = left;
        tracked = copied_tracked (job_of m) (image_job m) u p' stepped.tracked w p'' d copied;
        few = told_few z.ready _ _ _ left;
      }

  pub exchanged_running :
      {u : Table} {p' : Pending} {c : ℕ} → Ran (job_of m) t (exchange (job_of m) t) u p' c → Running m u p'
  exchanged_running {u} left =
      record {
        ready = formed_ready z.ready u (rw left.leaves.table_is (exchange_formed (job_of m) t (ready_formed z.ready)));
        tracked = left.tracked;
      }
