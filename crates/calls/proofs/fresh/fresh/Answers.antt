-- `fresh`: the reader's refusal, the one question of its own, or the fresh table.
use Rattle.std.proofs.Common.{◌*◌, ◌≤◌, ◌≡◌, sym, ◌∙◌, Ok, arith}
use Rattle.std.proofs.lemmas.Result.{err_from_is_err_and}
use Rattle.text.specs.Field.{Text}
use Rattle.job.specs.Read.{read_told, read_answer}
use Rattle.job.specs.declared.reading.Header.{Header}
use Rattle.job.proofs.ReadLaws.{text_accepted, read_fits, product_small}
use Rattle.cells.specs.Calls.{Call, width}
use Rattle.cells.proofs.CallLaws.{reading_refused, fresh_refused, fresh_accepted, length_read}
use Rattle.calls.specs.Told.{fresh_told}
use Rattle.calls.proofs.fresh.fresh.Goals as goal
use Rattle.calls.proofs.fresh.fresh.Goals.{In_ok-h}

pub returns-in_err-h : goal.returns-in_err-h
unfolding fresh_told width
returns-in_err-h c =
    let p = err_from_is_err_and c.from_residual.result c.from_residual.ensures.1 in
    let both = reading_refused Call.fresh c.args.text.now c.args.table.now _ c.in_err-h.ensures in
    rw (p.1, p.2) (record { told = both.0; left = both.1 })

-- the text, and line 1's numbers where the reader accepts
module _ (c : In_ok-h) where
  abbrev text_of : Text
  text_of = c.args.text.now

  abbrev header_of : Header
  header_of = c.in_ok-h.h

  told_here : read_told (Ok header_of) ≡ read_answer text_of
  told_here = c.in_ok-h.ensures

  small_here :
      (header_of.nodes * header_of.states ≤ 2048) × (header_of.nodes * header_of.states * header_of.subformulas ≤ 65536)
  small_here = product_small text_of header_of (read_fits text_of header_of told_here)

pub overflow_mul-h : goal.overflow_mul-h
overflow_mul-h c = let small = small_here (goal.at.overflow_mul-h c).In_ok-h in omega arith

pub overflow_mul-h-2 : goal.overflow_mul-h-2
overflow_mul-h-2 c = let small = small_here (goal.at.overflow_mul-h-2 c).In_ok-h in omega arith

pub returns-then-table-h : goal.returns-then-table-h
unfolding fresh_told
returns-then-table-h c =
    let here = (goal.at.returns-then-table-h c).In_ok-h in
    let x = text_of here in
    let told = told_here here in
    let both =
    fresh_refused x c.args.table.now (text_accepted x (header_of here) told)
    (λ e. c.if-table-h.true (e ∙ length_read x (header_of here) told)) in
    record { told = both.0; left = both.1 }

pub returns : goal.returns
unfolding fresh_told
returns c =
    let here = (goal.at.returns c).In_ok-h in
    let x = text_of here in
    let told = told_here here in
    let both =
    fresh_accepted x c.args.table.now (text_accepted x (header_of here) told)
    (c.if-table-h.false ∙ sym (length_read x (header_of here) told)) in
    record { told = both.0; left = c.clear.ensures ∙ both.1 }
