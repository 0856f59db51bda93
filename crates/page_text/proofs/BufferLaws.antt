-- The buffer that the call page leaves, by its answer: as it was, or with the page at its start. Assumes nothing.
use Prim.Native.Nat.{ℕ, ◌+◌, ◌*◌, ◌≤◌}
use mathlib.Core.Path.{◌≡◌, sym, ap, ◌∙◌}
use mathlib.Core.List.{List, ◌++◌}
use native.Mathlib.Nat.{zero-add}
use native.Mathlib.Omega.{arith}
use lib.ListN.{length, drop}
use lib.Seq.{sets, sets-eq}
use Rattle.text.specs.Field.{Text}
use Rattle.job.specs.Job.{Job, size, decode}
use Rattle.job.specs.Written.{IsJob}
use Rattle.job.specs.Answer.{accepted, refused}
use Rattle.job.proofs.QuestionLaws.{accepted_none, refused_stays, afterwards_none}
use Rattle.cells.specs.Table.{Table}
use Rattle.cells.specs.Calls.{Call, questions, width, told, answer}
use Rattle.page_text.specs.Page.{page}
use Rattle.page_text.specs.PageCall.{overwritten, page_buffer}
use Rattle.page_text.proofs.PageLaws.{page_length}

module _ (x : Text) (t : Table) (n : ℕ) (b : List ℕ) where
  abbrev call : Call
  call = Call.page n (length b)

  pub buffer_stays : (number line others : ℕ) → refused number line others ≡ answer call x t → page_buffer x t n b ≡ b
  unfolding answer page_buffer
  buffer_stays number line others e =
      refused_stays (questions call x t) b _ (width call) (told call (decode x) t) number line others e

  pub buffer_accepted : (own : List ℕ) → accepted own ≡ answer call x t → page_buffer x t n b ≡ overwritten b (page (decode x) t n)
  unfolding answer page_buffer
  buffer_accepted own e =
      afterwards_none (questions call x t) b _
      (accepted_none (questions call x t) (width call) (told call (decode x) t) own e)

  -- The page of the text's job, written over the buffer.
  pub buffer_written :
      (J : Job) (own : List ℕ) (out : List ℕ)
      → J ≡ decode x
      → IsJob J
      → 80 * (size J + 1) ≤ length b
      → accepted own ≡ answer call x t
      → out ≡ sets b 0 (page J t n)
      → out ≡ page_buffer x t n b
  unfolding overwritten
  buffer_written J own out same is fits e w =
      let long = page_length J t n is in
      w
      ∙ sets-eq (page J t n) b 0 (omega arith)
      ∙ ap (λ k. page J t n ++ drop k b) (zero-add (length (page J t n)))
      ∙ ap (λ j. page j t n ++ drop (length (page j t n)) b) same
      ∙ sym (buffer_accepted own e)
