-- The table that the programs use: by line 1 alone it has the job's length. Assumes nothing.
use Prim.Native.Nat.{ℕ, zero, suc, ◌-◌, ◌*◌, ◌≤◌}
use mathlib.Core.Path.{◌≡◌, refl, sym, ◌∙◌, ap, ap₂, subst}
use mathlib.Core.List.{List, ◌∷◌, ◌++◌}
use native.Mathlib.Omega.{arith}
use lib.ListN.{length, length-replicate, replicate, take}
use lib.Seq.{take_at}
use Rattle.text.specs.Field.{Text}
use Rattle.job.specs.Job.{decode}
use Rattle.job.specs.Answer.{accepted}
use Rattle.job.specs.Read.{read_answer, read_told, head_answer}
use Rattle.job.specs.declared.reading.Header.{Header}
use Rattle.job.specs.declared.refusal.Refusal.{Refusal}
use Rattle.job.specs.Refused.{number_of, line_of_refusal}
use Rattle.std.proofs.Common.{Ok, Err}
use Rattle.job.proofs.QuestionLaws.{refused_not_accepted, by_refusal, afterwards_none, afterwards_some}
use Rattle.job.proofs.LayoutLaws.{head_fits}
use Rattle.job.proofs.ReadLaws.{read_head_refused, product_small, decode_length}
use Rattle.cells.specs.Table.{Table, table_length}
use Rattle.cells.specs.Finish.{finish}
use Rattle.cells.specs.Calls.{Call, questions, left, after}
use Rattle.cells.proofs.Grown.{finish_grown}
use Rattle.from_fresh.specs.LineOne.{LineOne}

-- line 1 is accepted: its numbers are the job's
module _ (x : Text) (h : Header) (told : read_told (Ok h) ≡ head_answer x) where
  pub head_numbers : LineOne x h
  unfolding table_length
  head_numbers =
      let fits = head_fits x h told in
      let (nodes_are, states_are, subformulas_are) = decode_length x in
      let size_is = states_are ∙ fits.states_are in
      let (rows, cells) = product_small x h fits in
      record {
        states_few = fits.states_to;
        rows_few = rows;
        cells_few = cells;
        right = λ own read. (sym size_is, sym (ap₂ ◌*◌ (ap₂ ◌*◌ (nodes_are ∙ fits.nodes_are) size_is) (subformulas_are ∙ fits.subformulas_are)));
      }

-- line 1 is refused: the text is not accepted
pub size_refused :
    (x : Text) (own : List ℕ) (why : Refusal)
    → read_told (Err why) ≡ head_answer x
    → accepted own ≡ read_answer x
    → ⊥
unfolding read_told
size_refused x own why told read =
    refused_not_accepted own (number_of why) (line_of_refusal why) 4 (read ∙ sym (read_head_refused x (number_of why) (line_of_refusal why) told))

-- the first cells of a fresh table are a fresh table
take_fresh : (n m : ℕ) → n ≤ m → take {A = ℕ} n (replicate m 2) ≡ replicate n 2
take_fresh zero m h = refl
take_fresh (suc n) zero h = absurd (omega arith)
take_fresh (suc n) (suc m) h = ap (λ (l : List ℕ). 2 ∷ l) (take_fresh n m (omega arith))

pub part_fresh : (n : ℕ) (cells : List ℕ) → n ≤ length cells → cells ≡ replicate 65536 2 → take (n - 0) cells ≡ replicate n 2
part_fresh n cells fits fresh =
    let small : n ≤ 65536 = subst (λ c. n ≤ c) (ap length fresh ∙ length-replicate {A = ℕ} 65536 2) fits in
    let all : n - 0 ≡ n = omega arith in
    ap₂ take all fresh ∙ take_fresh n 65536 small

-- finish leaves as many cells as it is lent
finish_length : (x : Text) (t : Table) → length (after Call.finish x t) ≡ length t
unfolding after left
finish_length x t =
    let qs = questions Call.finish x t in
    let made = (finish (decode x) t).table in
    by_refusal qs
    (λ e. ap length (afterwards_none qs t made e) ∙ (finish_grown (decode x) t).long)
    (λ q e. ap length (afterwards_some qs t made q e))

-- the first cells of the array that they are a part of are what it leaves
pub part_finished :
    (x : Text) (n : ℕ) (before part rest : List ℕ)
    → before ≡ replicate n 2
    → part ≡ after Call.finish x before
    → take n (part ++ rest) ≡ after Call.finish x (replicate n 2)
part_finished x n before part rest fresh e =
    let is : part ≡ after Call.finish x (replicate n 2) = e ∙ ap (after Call.finish x) fresh in
    let long : length part ≡ n = ap length is ∙ finish_length x (replicate n 2) ∙ length-replicate {A = ℕ} n 2 in
    take_at part rest n long ∙ is
