-- What every call of a list of demand 3 keeps: the table is sound, and each message handed out so far is true. Truth does not
-- mention the table, so a message stays true however late, often or overtaken it comes. Assumes nothing.
use Prim.Native.Nat.{ℕ}
use mathlib.Core.Path.{◌≡◌, refl, sym, ◌∙◌, subst}
use mathlib.Core.List.Memᴰ
use mathlib.Core.List.{List, [], ◌∷◌, ◌++◌, Memᴰ}
use mathlib.Core.Logic.{⊎_elim}
use Rattle.text.specs.Field.{Text}
use Rattle.job.specs.Job.{Job, decode}
use Rattle.job.specs.Answer.{accepted, refused}
use Rattle.job.specs.Questions.{Accepted}
use Rattle.job.specs.Written.{IsJob}
use Rattle.job.proofs.Exact.{decode_is_job}
use Rattle.cells.specs.Table.{Table}
use Rattle.cells.specs.Calls.{Call, fresh, step, offer, accept, look, close, finish, page, told, left, answer, after}
use Rattle.promises.specs.Demand3.{Event, Happened, last_table, Message, handed_out, Allowed, is_refused, is_meant, Meant, FreshFor, AsDefined}
use Rattle.cells.proofs.Tells.{Tells}
use Rattle.cells.proofs.Sound.{truth, Sound, fresh_table_sound, owner_cell_tells, step_table_sound, accept_table_sound}
use Rattle.cells.proofs.Settled.{settled_is}
use Rattle.cells.proofs.Close.{close_table_sound}
use Rattle.cells.proofs.Verdict.{finish_sound}
use Rattle.promises.proofs.Contracts.{happens_defined}
use Rattle.promises.proofs.Calls.{Taken, refused_leaves, accepted_taken, by_answer, taken_told, taken_left, taken_accepted, fresh_asked, step_asked, offer_asked, accept_asked, close_asked}

abbrev MessageTrue : Job → Message → Type 0
MessageTrue J m = Tells 1 m.value (truth J m.subformula m.state)

pub record Invariant (J : Job) (out : List Message) (t : Table) : Type 0 where
  pub sound : Sound J t
  pub true_out : (m : Message) → Memᴰ m out → MessageTrue J m

module _ (x : Text) (is : Accepted x) where
  abbrev J : Job
  J = decode x

  job : IsJob J
  job = decode_is_job x is

  -- An accepted call, where the message of an accept is true.
  module _ (t : Table) (sound : Sound J t) where
    left_sound :
        (c : Call)
        → Taken c x t
        → ((n s k v : ℕ) → c ≡ accept n s k v → MessageTrue J (record { state = s; subformula = k; value = v }))
        → Sound J (left c J t)
    unfolding left
    left_sound fresh taken message = fresh_table_sound J t sound.formed.long
    left_sound (step n) taken message = step_table_sound J job n (step_asked x t n taken) t sound
    left_sound (offer s k) taken message = sound
    left_sound (accept n s k v) taken message =
        accept_table_sound J job t sound n s k v (accept_asked x t n s k v taken) (message n s k v refl)
    left_sound (look n s k) taken message = sound
    left_sound close taken message =
        let (still, some) = close_asked x t taken in
        close_table_sound J job t sound (settled_is J t sound.formed.long still) some
    left_sound finish taken message = finish_sound J job t sound
    left_sound (page n room) taken message = sound

    -- what it hands out is true
    handed_true :
        (c : Call)
        → Taken c x t
        → (m : Message)
        → Memᴰ m (handed_out (accepted (told c J t)) c)
        → MessageTrue J m
    unfolding handed_out told
    handed_true fresh taken m h = absurd (Memᴰ.not-nil h)
    handed_true (step n) taken m h = absurd (Memᴰ.not-nil h)
    handed_true (offer s k) taken m h =
        let (state, subformula) = offer_asked x t s k taken in
        subst (MessageTrue J) (sym (Memᴰ.eq_of_singleton h)) (owner_cell_tells J job t sound s k state subformula)
    handed_true (accept n s k v) taken m h = absurd (Memᴰ.not-nil h)
    handed_true (look n s k) taken m h = absurd (Memᴰ.not-nil h)
    handed_true close taken m h = absurd (Memᴰ.not-nil h)
    handed_true finish taken m h = absurd (Memᴰ.not-nil h)
    handed_true (page n room) taken m h = absurd (Memᴰ.not-nil h)

  module _ (out : List Message) (t : Table) (before : Invariant J out t) where
    abbrev Kept : Call → Text → Type 0
    Kept c y = Invariant J (handed_out (answer c y t) c ++ out) (after c y t)

    refused_keeps : (c : Call) (y : Text) (number line others : ℕ) → answer c y t ≡ refused number line others → Kept c y
    unfolding handed_out
    refused_keeps c y number line others e = rw (refused_leaves c y t number line others e, e) before

    taken_keeps :
        (c : Call)
        → Taken c x t
        → ((n s k v : ℕ) → c ≡ accept n s k v → Memᴰ (record { state = s; subformula = k; value = v }) out)
        → Kept c x
    taken_keeps c taken message =
        rw (taken_left c x t taken, taken_told c x t taken)
        (record {
          sound =
              left_sound t before.sound c taken
              (λ n s k v e. before.true_out (record { state = s; subformula = k; value = v }) (message n s k v e));
          true_out =
              λ m h.
              ⊎_elim (handed_true t before.sound c taken m) (before.true_out m)
              (Memᴰ.append_cases (handed_out (accepted (told c J t)) c) h);
        })

    allowed_keeps : (e : Event) → e.told ≡ answer e.call e.text t → Allowed x out e → Kept e.call e.text
    allowed_keeps e is (is_refused number line others told_is) =
        refused_keeps e.call e.text number line others (sym is ∙ told_is)
    allowed_keeps e is (is_meant same message) =
        rw same (by_answer e.call x t (refused_keeps e.call x) (λ taken. taken_keeps e.call taken message))

  meant_sound :
      (es : List Event) (out : List Message) (t : Table)
      → Invariant J out t
      → AsDefined t es
      → Meant x out es
      → Sound J (last_table t es)
  unfolding last_table AsDefined Meant
  meant_sound [] out t before defined meant = before.sound
  meant_sound (e ∷ es) out t before (told_is, left_is, defined) (allowed, meant) =
      meant_sound es (handed_out e.told e.call ++ out) e.left
      (rw (told_is, left_is) (allowed_keeps out t before e told_is allowed)) defined meant

-- Calls that happened did what is defined.
pub happened_defined : (es : List Event) (t : Table) → Happened t es → AsDefined t es
unfolding Happened AsDefined
happened_defined [] t happened = tt
happened_defined (e ∷ es) t (now, later) =
    let (told_is, left_is) = happens_defined e.lent e.text e.call t e.told e.left now in
    (told_is, left_is, happened_defined es e.left later)

-- A table fresh for a text: the text is accepted, and the table is of its length, with no filled cell.
module _ (x : Text) (t : Table) (new : FreshFor x t) where
  fresh_taken : Taken fresh x new.before
  fresh_taken =
      accepted_taken fresh x new.before [] (sym (happens_defined new.lent x fresh new.before (accepted []) t new.made).0)

  pub fresh_read : Accepted x
  fresh_read = taken_accepted fresh x new.before fresh_taken

  fresh_sound : Sound (decode x) t
  unfolding left
  fresh_sound =
      rw (
        (happens_defined new.lent x fresh new.before (accepted []) t new.made).1,
        taken_left fresh x new.before fresh_taken,
      )
      (fresh_table_sound (decode x) new.before (fresh_asked x new.before fresh_taken))

  -- Nothing is handed out yet.
  pub run_sound : (es : List Event) → Happened t es → Meant x [] es → Sound (decode x) (last_table t es)
  run_sound es happened =
      meant_sound x fresh_read es [] t
      (record { sound = fresh_sound; true_out = λ m h. absurd (Memᴰ.not-nil h) })
      (happened_defined es t happened)
