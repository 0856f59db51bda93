-- What is printed, from what the call answers and leaves in the bytes that it is lent. Assumes nothing.
use Prim.Native.Nat.{ℕ, ◌+◌, ◌≤◌}
use mathlib.Core.Path.{◌≡◌, refl, sym, ap, ◌∙◌}
use mathlib.Core.Bool.{Bool, true, ◌&&◌}
use mathlib.Core.List.{List, [], ◌∷◌}
use mathlib.Core.Option as opt
use native.Mathlib.Omega.{arith}
use borrow.Author.Tests.{leb-true}
use lib.Dec.{leb}
use lib.ListN.{length, replicate, take, drop}
use lib.Seq.{sets, sets-eq, take_at}
use Rattle.law.specs.Lists.{every}
use Rattle.law.proofs.Bool.{and_left, and_right}
use Rattle.text.specs.Field.{Text}
use Rattle.text.specs.Decimal.{line, Short}
use Rattle.text.proofs.Line.{line_length_lem}
use Rattle.job.specs.Job.{decode}
use Rattle.job.specs.Answer.{Answer, accepted, refused}
use Rattle.job.specs.Question.{Question, of_call, refusal}
use Rattle.job.specs.Questions.{text_questions, Accepted}
use Rattle.job.specs.Read.{header, read_answer}
use Rattle.job.proofs.Exact.{decode_is_job}
use Rattle.job.proofs.SmallLaws.{refused_small}
use Rattle.job.proofs.QuestionLaws.{by_refusal, refused_not_accepted, answered_none, answered_some, accepted_none, refusal_before, refusal_later, refusal_has}
use Rattle.cells.specs.Table.{Table}
use Rattle.cells.specs.Questions.{table_size, table_cells, node_below, page_fits}
use Rattle.cells.specs.Calls.{Call, own_questions, questions, width, told, answer, after}
use Rattle.cells.proofs.CallLaws.{text_refused, any_table}
use Rattle.page_text.specs.Page.{page}
use Rattle.page_text.specs.PageCall.{overwritten, page_buffer}
use Rattle.page_text.proofs.PageLaws.{page_length}
use Rattle.page_text.proofs.BufferLaws.{buffer_accepted}
use Rattle.from_fresh.specs.TableSize.{TableSize}
use Rattle.page_output.specs.PageOutput.{node_named, finished_table, room, printed, page_output}
use Rattle.page_output.specs.PageSize.{PageSize}

-- The call's numbers are small.
module _ (x : Text) (t : Table) (n bytes : ℕ) where
  abbrev call : Call
  call = Call.page n bytes

  is_small : Question → Bool
  is_small q = leb q.number 24 && leb q.line 2338

  own_small : every is_small (own_questions call (decode x) t) ≡ true
  unfolding every is_small own_questions table_size table_cells node_below page_fits of_call
  own_small = refl

  abbrev Small : ℕ → ℕ → Type 0
  Small number at = (number ≤ 24) × (at ≤ 2338)

  -- a no to one of the call's own questions
  small_own :
      (number at others : ℕ)
      → refused number at others ≡ answer call x t
      → refusal (text_questions x) ≡ opt.none
      → (q : Question)
      → refusal (questions call x t) ≡ opt.some q
      → Small number at
  unfolding answer questions is_small
  small_own number at others e accepts q first =
      let own = own_questions call (decode x) t in
      let same = e ∙ answered_some (questions call x t) (width call) (told call (decode x) t) q first in
      let number_is : number ≡ q.number = cc in
      let at_is : at ≡ q.line = cc in
      let small = refusal_has is_small own q own_small (sym (refusal_later (text_questions x) own accepts) ∙ first) in (
        rw number_is (leb-true q.number 24 (and_left (leb q.number 24) (leb q.line 2338) small)),
        rw at_is (leb-true q.line 2338 (and_right (leb q.number 24) (leb q.line 2338) small)),
      )

  refusal_small : (number at others : ℕ) → refused number at others ≡ answer call x t → Small number at
  unfolding answer read_answer
  refusal_small number at others e = by_text (read_answer x) refl
    where
      by_text : (a : Answer) → read_answer x ≡ a → Small number at
      by_text (accepted own) f =
          by_refusal (questions call x t)
          (λ none. absurd (refused_not_accepted _ number at others (sym (e ∙ answered_none (questions call x t) (width call) (told call (decode x) t) none))))
          (small_own number at others e (accepted_none (text_questions x) 4 (header x) own (sym f)))
      by_text (refused m l o) f =
          let same = e ∙ sym (text_refused call x t m l o (sym f)).0 in
          let number_is : number ≡ m = cc in
          let at_is : at ≡ l = cc in
          let small = refused_small x m l o (sym f) in
          (omega (arith, number_is, small), omega (arith, at_is, small))

  pub numbers_short : (number at others : ℕ) → refused number at others ≡ answer call x t → Short (number ∷ at ∷ [])
  unfolding Short
  numbers_short number at others e = let small = refusal_small number at others e in (omega arith, (omega arith, tt))

  -- an accepted call was passed the text of a job
  text_taken : (own : List ℕ) → accepted own ≡ answer call x t → Accepted x
  unfolding answer questions Accepted
  text_taken own e =
      refusal_before (text_questions x) (own_questions call (decode x) t)
      (accepted_none (questions call x t) (width call) (told call (decode x) t) own e)

-- What is printed for node n.
pub said : Text → ℕ → Text
said x n = printed (answer (Call.page n room) x (finished_table x)) (page (decode x) (finished_table x) n)

pub said_is : (argument x : Text) (n : ℕ) → n ≡ node_named argument → said x n ≡ page_output argument x
unfolding said page_output
said_is argument x n e = ap (said x) e

-- The table that finish leaves of so many fresh cells.
module _ (x : Text) (n size : ℕ) (is : TableSize x size) (here : Table) (finished : here ≡ after Call.finish x (replicate size 2)) where
  same_table : (own : List ℕ) → accepted own ≡ read_answer x → here ≡ finished_table x
  unfolding finished_table
  same_table own read = finished ∙ ap (λ (k : ℕ). after Call.finish x (replicate k 2)) (is.right own read)

  same_answer : answer (Call.page n room) x here ≡ answer (Call.page n room) x (finished_table x)
  same_answer = any_table (Call.page n room) x here (finished_table x) same_table

  -- the page stands at the start of the bytes
  pub page_said :
      (b bytes : Text) (r : ℕ)
      → length b ≡ room
      → accepted [] ≡ answer (Call.page n (length b)) x here
      → bytes ≡ page_buffer x here n b
      → PageSize x r
      → take r bytes ≡ said x n
  unfolding said printed Accepted overwritten read_answer
  page_said b bytes r long e w fits =
      let accepts = text_taken x here n (length b) [] e in
      let read : accepted (header x) ≡ read_answer x = sym (answered_none (text_questions x) 4 (header x) accepts) in
      let told_here : accepted [] ≡ answer (Call.page n room) x (finished_table x) =
      e ∙ ap (λ (k : ℕ). answer (Call.page n k) x here) long ∙ same_answer in
      let whole = page (decode x) here n in
      let size_is : length whole ≡ r = page_length (decode x) here n (decode_is_job x accepts) ∙ sym (fits.right (header x) read) in
      ap (take r) (w ∙ buffer_accepted x here n b [] e)
      ∙ take_at whole (drop (length whole) b) r size_is
      ∙ ap (λ (t : Table). page (decode x) t n) (same_table (header x) read)
      ∙ ap (λ (a : Answer). printed a (page (decode x) (finished_table x) n)) told_here

  -- the two numbers do
  pub refusal_said :
      (b bytes : Text) (room_here number at : ℕ)
      → room_here ≡ room
      → 11 ≤ length b
      → refused number at 0 ≡ answer (Call.page n room_here) x here
      → bytes ≡ sets b 0 (line (number ∷ at ∷ []))
      → take 11 bytes ≡ said x n
  unfolding said printed
  refusal_said b bytes room_here number at long enough e w =
      let told_here : refused number at 0 ≡ answer (Call.page n room) x (finished_table x) =
      e ∙ ap (λ (k : ℕ). answer (Call.page n k) x here) long ∙ same_answer in
      let numbers = line (number ∷ at ∷ []) in
      let eleven : length numbers ≡ 11 = line_length_lem (number ∷ at ∷ []) in
      ap (take 11) (w ∙ sets-eq numbers b 0 (omega arith))
      ∙ take_at numbers (drop (0 + length numbers) b) 11 eleven
      ∙ ap (λ (a : Answer). printed a (page (decode x) (finished_table x) n)) told_here
