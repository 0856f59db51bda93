-- What sound tables say, in the words of `specs/Demand3.antt`: filled cells are truth by walks, and so is the verdict of finish. Truth
-- does not mention the cutting. Assumes nothing.
use Prim.Native.Nat.{ℕ, ◌-◌, ◌<◌}
use mathlib.Core.Path.{◌≡◌, sym, ◌∙◌, subst₂}
use mathlib.Core.List.{List, [], ◌∷◌}
use native.Mathlib.Omega.{arith}
use lib.ListN.{length}
use Rattle.law.proofs.Bool.{clash}
use Rattle.law.proofs.Bounded.{by_equal}
use Rattle.text.specs.Field.{Text}
use Rattle.job.specs.Job.{Job, Structure, decode, size, subformula_count}
use Rattle.job.specs.declared.subformula.Subformula.{Subformula}
use Rattle.job.specs.Answer.{Answer, accepted}
use Rattle.job.specs.Questions.{Accepted}
use Rattle.job.specs.Written.{IsJob}
use Rattle.job.proofs.Exact.{decode_is_job}
use Rattle.ctl.specs.Truth.{Holds}
use Rattle.ctl.proofs.Total.{total_job}
use Rattle.ctl.proofs.Truth.{holds_sat}
use Rattle.cells.specs.Table.{Table, cell}
use Rattle.cells.specs.Finish as finishing
use Rattle.cells.specs.Calls.{told, answer, finish}
use Rattle.promises.specs.CallContracts.{Loan, Happens}
use Rattle.promises.specs.Demand2.{IsTruth}
use Rattle.promises.specs.Demand3.{Happened, last_table, Meant, FreshFor, ListOfCalls, left_by, AsDefined, CellsTrue, Finishes, OneMoreFinish, OneMachine}
use Rattle.cells.proofs.Tells.{Tells}
use Rattle.cells.proofs.Formed.{cell_low}
use Rattle.cells.proofs.Sound.{truth, Sound}
use Rattle.cells.proofs.Determined.{Filled}
use Rattle.cells.proofs.Exhausted.{cell_one}
use Rattle.cells.proofs.Finish.{finish_rounds_lem}
use Rattle.cells.proofs.Verdict.{first_state, verdict_filled, verdict_tells}
use Rattle.promises.proofs.Contracts.{happens_defined}
use Rattle.promises.proofs.Calls.{taken_told, finish_taken}
use Rattle.promises.proofs.Invariant.{happened_defined, fresh_read, run_sound}

module _ (x : Text) (is : Accepted x) where
  abbrev J : Job
  J = decode x

  job : IsJob J
  job = decode_is_job x is

  -- a filled cell that is right about what is labelled true is right about truth by walks
  filled_truth : (k s c : ℕ) → s < size J → Filled c → Tells 1 c (truth J k s) → IsTruth x k s c
  unfolding size
  filled_truth k s c state low tells =
      let (to, from) = holds_sat J.structure (total_job J job) J.formula k s state in
      let b = truth J k s in
      record {
        known = low;
        one = (λ e. from (tells.inside e), λ h. cell_one c b low tells (to h));
        zero = (
          (λ e h. clash b (to h) (tells.outside e)),
          (λ no. by_equal c 0 (λ e. e) (λ n. absurd (no (from (tells.inside (omega arith)))))),
        );
      }

  pub sound_cells : (t : Table) → Sound J t → CellsTrue x t
  sound_cells t sound n s k node state subformula filled =
      let c = cell J t n s k in
      let low = cell_low J t sound.formed n s k in
      filled_truth k s c state (omega arith) (sound.tells n s k node state subformula)

  pub sound_finishes : (t : Table) → Sound J t → Finishes x t (answer finish x t)
  unfolding told
  sound_finishes t sound =
      let done = finishing.finish J t in
      record {
        verdict = finishing.verdict J done.table;
        rounds = done.rounds;
        cells = done.cells;
        told = taken_told finish x t (finish_taken x t is sound.formed);
        truth =
            filled_truth (subformula_count J - 1) 0 (finishing.verdict J done.table) (first_state J job)
            (verdict_filled J job t sound.formed)
            (verdict_tells J job t sound);
        few = finish_rounds_lem J t;
      }

  -- "one more finish", by its contract
  pub sound_finish : (t : Table) → Sound J t → OneMoreFinish x t
  sound_finish t sound l a u happens = rw (happens_defined l x finish t a u happens).0 (sound_finishes t sound)

-- After a list of calls on a fresh table.
module _ (x : Text) (calls : ListOfCalls x) where
  abbrev is : Accepted x
  is = fresh_read x calls.start calls.fresh_start

  left_sound : Sound (decode x) (left_by calls)
  left_sound = run_sound x calls.start calls.fresh_start calls.events calls.happened calls.meant

  pub calls_defined : AsDefined calls.start calls.events
  calls_defined = happened_defined calls.events calls.start calls.happened

  pub calls_cells : CellsTrue x (left_by calls)
  calls_cells = sound_cells x is (left_by calls) left_sound

  pub calls_finish : OneMoreFinish x (left_by calls)
  calls_finish = sound_finish x is (left_by calls) left_sound

pub fresh_finish : (x : Text) (t : Table) → FreshFor x t → OneMoreFinish x t
unfolding Happened Meant last_table
fresh_finish x t new = calls_finish x (record { start = t; fresh_start = new; events = []; happened = tt; meant = tt })

-- One machine and rule have one truth at the first state, so two finishes that answer it have one verdict.
module _ (x y : Text) (same : OneMachine x y) where
  same_truth : (t u : Table) (a b : Answer) (f : Finishes x t a) (g : Finishes y u b) → f.verdict ≡ g.verdict
  unfolding subformula_count
  same_truth t u a b f g =
      let v = f.verdict in
      let whole : Structure → List Subformula → Type 0 = λ M f. Holds M f (length f - 1) 0 in
      let there = subst₂ whole same.structure same.formula in
      let back = subst₂ whole (sym same.structure) (sym same.formula) in
      by_equal v 1
      (λ one. one ∙ sym (g.truth.one.1 (there (f.truth.one.0 one))))
      (λ other.
      let zero : v ≡ 0 = omega (arith, f.truth.known) in
      zero ∙ sym (g.truth.zero.1 (λ h. f.truth.zero.0 zero (back h))))

  pub same_verdict :
      (calls : ListOfCalls x) (others : ListOfCalls y)
      → (l m : Loan) (v w : ℕ) (more rest : List ℕ) (t u : Table)
      → Happens l x finish (left_by calls) (accepted (v ∷ more)) t
      → Happens m y finish (left_by others) (accepted (w ∷ rest)) u
      → v ≡ w
  same_verdict calls others l m v w more rest t u one two =
      let f = calls_finish x calls l (accepted (v ∷ more)) t one in
      let g = calls_finish y others m (accepted (w ∷ rest)) u two in
      let here : v ≡ f.verdict = cc f.told in
      let there : w ≡ g.verdict = cc g.told in
      here ∙ same_truth (left_by calls) (left_by others) _ _ f g ∙ sym there
