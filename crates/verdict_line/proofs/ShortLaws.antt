-- Every number that verdict prints has at most five digits. Assumes nothing.
use Prim.Native.Nat.{ℕ, ◌*◌, ◌≤◌}
use mathlib.Core.Path.{◌≡◌, refl, sym, subst}
use mathlib.Core.List.{List}
use mathlib.Core.Option.{Option-elim}
use native.Mathlib.Omega.{arith}
use native.Mathlib.Nat.{mul-le-mul}
use lib.ListN.{length, replicate, length-replicate}
use Rattle.law.proofs.Count.{count_le}
use Rattle.text.specs.Field.{Text}
use Rattle.text.specs.Decimal.{Short}
use Rattle.job.specs.Question.{of_call, refusal, no_number}
use Rattle.job.specs.Questions.{text_questions, Accepted as Text-accepted}
use Rattle.job.specs.Answer.{Answer, accepted, refused, numbers}
use Rattle.job.specs.Read.{header, read_answer}
use Rattle.job.specs.Job.{Job, decode, size}
use Rattle.job.specs.Written.{IsJob}
use Rattle.job.proofs.QuestionLaws.{accepted_none}
use Rattle.job.proofs.SmallLaws.{refused_small}
use Rattle.job.proofs.Exact.{decode_is_job}
use Rattle.cells.specs.Table.{Table, table_length, fresh_table, filled, empty_cells}
use Rattle.cells.specs.Finish.{finish, verdict}
use Rattle.cells.specs.Questions.{table_size, table_cells}
use Rattle.cells.specs.Calls.{Call, answer, told, width, own_questions}
use Rattle.cells.proofs.Formed.{Formed, is_formed_lem, fresh_table_formed}
use Rattle.cells.proofs.Finish.{finish_rounds_lem, finish_cells}
use Rattle.cells.proofs.Verdict.{verdict_filled}
use Rattle.cells.proofs.CallLaws.{text_refused, own_accepted}

-- finish on a fresh table of an accepted text
module _ (x : Text) (own : List ℕ) (read : accepted own ≡ read_answer x) where
  abbrev J : Job
  J = decode x

  abbrev t : Table
  t = replicate (table_length J) 2

  accepts : Text-accepted x
  unfolding read_answer Text-accepted
  accepts = accepted_none (text_questions x) 4 (header x) own read

  is_job : IsJob J
  is_job = decode_is_job x accepts

  t_formed : Formed J t
  unfolding fresh_table
  t_formed =
      let long : length t ≡ table_length J = length-replicate (table_length J) 2 in
      subst (λ n. Formed J (replicate n 2)) long (fresh_table_formed J t long)

  small : length t ≤ 65536
  unfolding table_length
  small =
      let rows : J.nodes * size J ≤ 8 * 256 = mul-le-mul is_job.nodes.below is_job.states.below in
      subst (λ n. n ≤ 65536) (sym t_formed.long) (mul-le-mul rows is_job.subformulas.below)

  fresh_finish : accepted (told Call.finish J t) ≡ answer Call.finish x t
  unfolding own_questions table_size table_cells of_call no_number refusal Option-elim
  fresh_finish =
      let (long, right) = is_formed_lem J t t_formed in
      (own_accepted Call.finish x t accepts 0 (simp (long, right)) refl).0

  finish_short : Short (numbers (accepted (told Call.finish J t)))
  unfolding Short told numbers empty_cells filled
  finish_short =
      let done = finish J t in
      let v : verdict J done.table ≤ 1 = verdict_filled J is_job t t_formed in
      let empty : empty_cells J t ≤ length t = count_le _ (length t) in
      let rounds : done.rounds ≤ 99999 = omega (arith, finish_rounds_lem J t, small) in
      let some : filled t done.table ≤ length t = count_le _ (length t) in
      let cells : done.cells ≤ 99999 = omega (arith, finish_cells J t, small) in
      omega arith

pub answer_short : (x : Text) → Short (numbers (answer Call.finish x (replicate (table_length (decode x)) 2)))
unfolding Short numbers width
answer_short x = by_answer (read_answer x) refl
  where
    by_answer : (r : Answer) → read_answer x ≡ r → Short (numbers (answer Call.finish x (replicate (table_length (decode x)) 2)))
    by_answer (accepted own) e = rw (sym (fresh_finish x own (sym e))) (finish_short x own (sym e))
    by_answer (refused number line others) e =
        let small = refused_small x number line others (sym e) in
        rw (sym (text_refused Call.finish x (replicate (table_length (decode x)) 2) number line others (sym e)).0) (omega arith)
