-- `offer`: the questions, and the owner's cell.
use Rattle.std.proofs.Common.{ℕ, ◌<◌, refl, ap, ◌∙◌, [], ◌∷◌}
use Rattle.std.proofs.lemmas.Result.{err_from_is_err_and}
use Rattle.job.specs.Answer.{accepted}
use Rattle.cells.specs.Calls.{Call, width, told, left}
use Rattle.cells.proofs.CallLaws.{reading_refused}
use Rattle.image.specs.Denoted.{job_of}
use Rattle.job.specs.Job.{size, subformula_count}
use Rattle.table.specs.Lent.{Ready}
use Rattle.questions.proofs.FineLaws.{offer_fine}
use Rattle.calls.specs.Told.{offer_told}
use Rattle.calls.proofs.AskedLaws.{own_no, told_is, left_is}
use Rattle.calls.proofs.offer.offer.Goals as goal
use Rattle.calls.proofs.offer.offer.Goals.{In_ok-ask_offer}

pub returns-in_err-m : goal.returns-in_err-m
unfolding offer_told width
returns-in_err-m c =
    let p = err_from_is_err_and c.from_residual.result c.from_residual.ensures.1 in
    let both = reading_refused (Call.offer c.args.state c.args.subformula) c.args.text.now c.args.table.now _ c.in_err-m.ensures in
    rw (p.1, p.2) (record { told = both.0; left = both.1 })

pub returns-in_err-ask_offer : goal.returns-in_err-ask_offer
unfolding offer_told width
returns-in_err-ask_offer c =
    let p = err_from_is_err_and c.from_residual-in_err-ask_offer.result c.from_residual-in_err-ask_offer.ensures.1 in
    let no = c.in_err-ask_offer.ensures in
    let both = own_no (Call.offer c.args.state c.args.subformula) c.args.text.now c.args.table.now _ c.in_ok-m.ensures _ no.first_no no.no_line in
    rw (p.1, p.2) (record { told = both.0; left = both.1 })

-- no question is answered no
fine_here : (c : In_ok-ask_offer) → Ready c.in_ok-m.m c.args.table.now × ((c.args.state < size (job_of c.in_ok-m.m)) × (c.args.subformula < subformula_count (job_of c.in_ok-m.m)))
fine_here c = offer_fine c.in_ok-m.m c.args.table.now 0 refl _ _ c.in_ok-ask_offer.ensures.first_no

pub owner_cell-requires : goal.owner_cell-requires
owner_cell-requires c = let both = fine_here (goal.at.owner_cell-requires c).In_ok-ask_offer in record { lent = both.0.lent; s_bound = both.1 }

pub returns : goal.returns
unfolding offer_told told left
returns c =
    let a = c.args in
    let call = Call.offer a.state a.subformula in
    let none = c.in_ok-ask_offer.ensures.first_no in
    record {
      told = ap (λ (v : ℕ). accepted (a.state ∷ a.subformula ∷ v ∷ [])) c.owner_cell.ensures ∙ told_is call a.text.now a.table.now _ c.in_ok-m.ensures none;
      left = left_is call a.text.now a.table.now _ c.in_ok-m.ensures none;
    }
