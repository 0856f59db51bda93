-- From bytes to truth: what `verdict` prints of any text, in the words of `specs/Demand2.antt`. Assumes nothing.
use mathlib.Core.Path.{◌≡◌, sym, ◌∙◌, ap, subst}
use Prim.Native.Nat.{ℕ}
use mathlib.Core.List.{List, [], ◌∷◌, append-nil}
use mathlib.Core.Option as opt
use lib.ListN.{length, replicate, length-replicate}
use Rattle.text.specs.Field.{Text}
use Rattle.job.specs.Job.{decode}
use Rattle.job.specs.Answer.{numbers}
use Rattle.job.specs.Question.{Question, refusal}
use Rattle.job.specs.Questions.{text_questions, Accepted}
use Rattle.job.specs.Read.{read_answer, header}
use Rattle.text.specs.Decimal.{line, Short}
use Rattle.cells.specs.Table.{Table, table_length, fresh_table}
use Rattle.cells.specs.Calls.{finish, width, answer}
use Rattle.cells.proofs.Sound.{Sound, fresh_table_sound}
use Rattle.cells.proofs.CallLaws.{text_refused}
use Rattle.job.proofs.QuestionLaws.{by_refusal, answered_some}
use Rattle.text.specs.Fields.{numbers_at}
use Rattle.text.proofs.Line.{reads_numbers, line_reads}
use Rattle.verdict_line.specs.VerdictLine.{verdict_line}
use Rattle.verdict_line.proofs.ShortLaws.{answer_short}
use Rattle.promises.specs.CallContracts.{Loan, Prints}
use Rattle.promises.specs.Demand2.{Shows, Judged, as_refused, as_true}
use Rattle.promises.proofs.Contracts.{prints_defined}
use Rattle.promises.proofs.Ends.{sound_finishes}

module _ (x : Text) where
  abbrev pub start : Table
  start = replicate (table_length (decode x)) 2

  pub start_sound : Sound (decode x) start
  unfolding fresh_table
  start_sound =
      let long : length start ≡ table_length (decode x) = length-replicate (table_length (decode x)) 2 in
      subst (λ n. Sound (decode x) (replicate n 2)) long (fresh_table_sound (decode x) start long)

  line_shows :
      (a b c d e : ℕ)
      → let ns = a ∷ b ∷ c ∷ d ∷ e ∷ [] in
      numbers (answer finish x start) ≡ ns → Shows (verdict_line x) ns
  unfolding verdict_line numbers_at
  line_shows a b c d e is =
      let ns : List ℕ = a ∷ b ∷ c ∷ d ∷ e ∷ [] in
      let short : Short ns = subst Short is (answer_short x) in
      let said : verdict_line x ≡ line ns = ap line is in
      record {
        bytes = said;
        reads = reads_numbers (verdict_line x) ns 0 (line_reads (verdict_line x) ns 0 [] (said ∙ sym (append-nil (line ns))) short);
      }

  line_judged : Judged x (verdict_line x)
  unfolding read_answer numbers width Accepted
  line_judged = by_refusal (text_questions x) as_true_lem as_refused_lem
    where
      as_true_lem : Accepted x → Judged x (verdict_line x)
      as_true_lem e =
          let f = sound_finishes x e start start_sound in
          as_true f.verdict f.rounds f.cells e f.truth (line_shows 0 0 f.verdict f.rounds f.cells (ap numbers f.told))

      as_refused_lem : (q : Question) → refusal (text_questions x) ≡ opt.some q → Judged x (verdict_line x)
      as_refused_lem q e =
          let why = answered_some (text_questions x) 4 (header x) q e in
          as_refused _ _ why (line_shows _ _ 0 0 0 (ap numbers (sym (text_refused finish x start _ _ _ (sym why)).0)))

  pub prints_judged : (l : Loan) (said : List ℕ) → Prints l x said → Judged x said
  prints_judged l said prints = rw (prints_defined l x said prints) line_judged
