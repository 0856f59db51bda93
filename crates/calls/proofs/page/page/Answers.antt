-- `page`: the questions, and the page written.
use Rattle.std.proofs.Common.{◌+◌, ◌*◌, ◌<◌, ◌≤◌, length, refl, sym}
use Rattle.std.proofs.lemmas.Result.{err_from_is_err_and}
use Rattle.job.specs.Job.{size}
use Rattle.cells.specs.Calls.{Call, width, told, left}
use Rattle.cells.proofs.CallLaws.{reading_refused}
use Rattle.image.specs.Denoted.{job_of}
use Rattle.image.proofs.ImageLaws.{image_job}
use Rattle.table.specs.Lent.{Ready}
use Rattle.questions.proofs.FineLaws.{page_fine}
use Rattle.page_text.proofs.BufferLaws.{buffer_stays, buffer_written}
use Rattle.calls.specs.Told.{page_told}
use Rattle.calls.proofs.AskedLaws.{own_no, told_is, left_is}
use Rattle.calls.proofs.page.page.Goals as goal
use Rattle.calls.proofs.page.page.Goals.{In_ok-ask_page}

pub returns-in_err-m : goal.returns-in_err-m
unfolding page_told width
returns-in_err-m c =
    let p = err_from_is_err_and c.from_residual.result c.from_residual.ensures.1 in
    let both = reading_refused (Call.page c.args.node (length c.args.buffer.now)) c.args.text.now c.args.table.now _ c.in_err-m.ensures in
    rw (p.1, p.2) (record { told = both.0; left = both.1; written = sym (buffer_stays _ _ _ _ _ _ _ both.0) })

pub returns-in_err-ask_page : goal.returns-in_err-ask_page
unfolding page_told width
returns-in_err-ask_page c =
    let p = err_from_is_err_and c.from_residual-in_err-ask_page.result c.from_residual-in_err-ask_page.ensures.1 in
    let no = c.in_err-ask_page.ensures in
    let call = Call.page c.args.node (length c.args.buffer.now) in
    let both = own_no call c.args.text.now c.args.table.now _ c.in_ok-m.ensures _ no.first_no no.no_line in
    rw (p.1, p.2) (record { told = both.0; left = both.1; written = sym (buffer_stays _ _ _ _ _ _ _ both.0) })

-- no question is answered no
fine_here :
    (c : In_ok-ask_page)
    → Ready c.in_ok-m.m c.args.table.now
    × ((c.args.node < (job_of c.in_ok-m.m).nodes) × (80 * (size (job_of c.in_ok-m.m) + 1) ≤ length c.args.buffer.now))
fine_here c = page_fine c.in_ok-m.m c.args.table.now 0 refl _ _ c.in_ok-ask_page.ensures.first_no

pub write_page-requires : goal.write_page-requires
write_page-requires c =
    let both = fine_here (goal.at.write_page-requires c).In_ok-ask_page in
    record { ready = both.0; n_bound = both.1 }

pub returns : goal.returns
unfolding page_told told left
returns c =
    let a = c.args in
    let m = c.in_ok-m.m in
    let read = c.in_ok-m.ensures in
    let call = Call.page a.node (length a.buffer.now) in
    let none = c.in_ok-ask_page.ensures.first_no in
    let accepted_is = told_is call a.text.now a.table.now m read none in
    let fine = fine_here (goal.at.returns c).In_ok-ask_page in
    record {
      told = accepted_is;
      left = left_is call a.text.now a.table.now m read none;
      written = buffer_written _ _ _ _ (job_of m) _ _ read.denotes (image_job m) fine.1.1 accepted_is c.write_page.ensures;
    }
