-- The hypotheses of demand 3 and of requests (ii), (iii) and (v) can be met: every list of calls can be made, every accepted text has a table
-- fresh for it, one machine has two cuttings, and there is a list with a message in it: on case C2 node 1 steps and offers what it knows of
-- its border state, node 0 accepts it, accepts it again, and node 1 and an empty text are refused; a look without a node is accepted there;
-- there are jobs with EG and with AG, and a list on a ring with EG in which a close fills 1; there is a list with pages, accepted and refused, and
-- before and after a step a node has two pages, whose cells differ. Assumes nothing.
use Prim.Native.Nat.{ℕ}
use Prim.Native.String.{String}
use mathlib.Core.Path.{◌≡◌, refl, sym, ◌∙◌, ap, subst}
use mathlib.Core.List.{List, [], ◌∷◌, Memᴰ}
use lib.ListN.{length, length-replicate}
use lib.Dec.{lit≤}
use native.Mathlib.Omega.{arith}
use Rattle.text.specs.Field.{Text}
use Rattle.job.specs.Job.{decode}
use Rattle.job.specs.declared.subformula.Subformula.TheVariants.{Eg, Ag}
use Rattle.job.specs.Answer.{accepted, refused}
use Rattle.job.specs.Questions.{Accepted}
use Rattle.job.proofs.Exact.{decode_is_job}
use Rattle.cells.specs.Table.{Table, table_length}
use Rattle.cells.specs.Calls.{Call, fresh, step, offer, accept, look, close, page, answer, after}
use Rattle.cells.specs.Cases.{bytes, job_v, job2, job3, zeros}
use Rattle.cells.specs.AllAlong.{ring_job, implies_job}
use Rattle.cells.proofs.CallLaws.{fresh_accepted}
use Rattle.cells.proofs.Printed.{printed}
use Rattle.page_text.specs.PageCall.{page_buffer}
use Rattle.promises.specs.CallContracts.{Loan, Happens, Pages}
use Rattle.promises.specs.Demand3.{Event, Happened, Message, handed_out, is_refused, is_meant, Meant, FreshFor, ListOfCalls, calls_of, OneMachine}
use Rattle.promises.specs.AllAlong.{HasLine}
use Rattle.promises.specs.OnPaper.{SameCells}
use Rattle.promises.proofs.Contracts.{may_happen}

-- some references
abbrev pub lent : Loan
lent =
    record {
      lifetimes = ([], ([], ([], tt)));
      text = record { ref_ptr = (0, 0); now = [] };
      table = record { ref_ptr = (0, 0); ghost_name = 0; now = [] };
      buffer = record { ref_ptr = (0, 0); ghost_name = 0; now = [] };
    }

-- a call with its text, and what comes of a list of them by the definitions
pub record Made : Type 0 where
  pub text : Text
  pub call : Call

unfoldable pub played : List Made → Table → List Event
played [] t = []
played (c ∷ cs) t =
    let u = after c.call c.text t in
    record { lent = lent; text = c.text; call = c.call; told = answer c.call c.text t; left = u } ∷ played cs u

pub played_happened : (cs : List Made) (t : Table) → Happened t (played cs t)
unfolding played Happened
played_happened [] t = tt
played_happened (c ∷ cs) t =
    ((may_happen lent c.text).call c.call t, played_happened cs (after c.call c.text t))

pub fresh_for : (x : Text) → Accepted x → FreshFor x (after fresh x (zeros x))
unfolding zeros
fresh_for x is =
    let told = (fresh_accepted x (zeros x) is (length-replicate (table_length (decode x)) 0)).0 in
    record {
      lent = lent;
      before = zeros x;
      made = subst (λ a. Happens lent x fresh (zeros x) a (after fresh x (zeros x))) (sym told) ((may_happen lent x).call fresh (zeros x));
    }

-- C1 and C3: V with two nodes and with one
pub one_machine : OneMachine (bytes job_v) (bytes job3)
unfolding printed
one_machine = record { structure = refl; formula = refl }

-- A list of calls from a fresh table.
unfoldable pub start : Text → Table
start x = after fresh x (zeros x)

pub listed : (x : Text) → Accepted x → (cs : List Made) → Meant x [] (played cs (start x)) → ListOfCalls x
unfolding start
listed x is cs meant =
    record {
      start = start x;
      fresh_start = fresh_for x is;
      events = played cs (start x);
      happened = played_happened cs (start x);
      meant = meant;
    }

-- an accept's message is the one that it names; that another call is no accept, `cc` finds
accept_known :
    (out : List Message) (m a b w : ℕ)
    → Memᴰ (record { state = a; subformula = b; value = w }) out
    → (n s k v : ℕ) → accept m a b w ≡ accept n s k v → Memᴰ (record { state = s; subformula = k; value = v }) out
accept_known out m a b w known n s k v e =
    let p : a ≡ s = cc in
    let q : b ≡ k = cc in
    let r : w ≡ v = cc in
    subst (λ u. Memᴰ (record { state = u; subformula = k; value = v }) out) p
    (subst (λ u. Memᴰ (record { state = a; subformula = u; value = v }) out) q
    (subst (λ u. Memᴰ (record { state = a; subformula = b; value = u }) out) r known))

unfoldable pub of_job : String → Call → Made
of_job j c = record { text = bytes j; call = c }

unfoldable pub calls : List Made
calls =
    of_job job2 (step 1) ∷ of_job job2 (offer 1 2) ∷ of_job job2 (accept 0 1 2 1) ∷ of_job job2 (accept 0 1 2 1)
    ∷ of_job job2 (accept 1 1 2 1)
    ∷ record { text = []; call = close }
    ∷ []

unfoldable pub events : List Event
events = played calls (start (bytes job2))

pub events_meant : Meant (bytes job2) [] events
unfolding printed calls of_job start events played Meant handed_out
events_meant = (
  is_meant refl (λ n s k v e. cc),
  (
    is_meant refl (λ n s k v e. cc),
    (
      is_meant refl (accept_known _ 0 1 2 1 (Memᴰ.head refl)),
      (is_meant refl (accept_known _ 0 1 2 1 (Memᴰ.head refl)), (is_refused 16 0 1 refl, (is_refused 1 1 2 refl, tt))),
    ),
  ),
)

-- the list, and what its calls answered
pub example :
    (calls : ListOfCalls (bytes job2))
    × (calls_of calls
    ≡ (step 1, accepted (5 ∷ []))
    ∷ (offer 1 2, accepted (1 ∷ 2 ∷ 1 ∷ []))
    ∷ (accept 0 1 2 1, accepted (1 ∷ []))
    ∷ (accept 0 1 2 1, accepted (0 ∷ []))
    ∷ (accept 1 1 2 1, refused 16 0 1)
    ∷ (close, refused 1 1 2)
    ∷ [])
unfolding printed calls of_job start events played listed Accepted
example = (listed (bytes job2) refl calls events_meant, refl)

-- Jobs with EG and with AG.
pub has_eg : HasLine (bytes ring_job) 1 (Eg 0)
unfolding printed ring_job Accepted
has_eg = (decode_is_job (bytes ring_job) refl, lit≤ tt, refl)

pub has_ag : HasLine (bytes implies_job) 1 (Ag 0)
unfolding printed implies_job Accepted
has_ag = (decode_is_job (bytes implies_job) refl, lit≤ tt, refl)

-- On the ring with EG p0 both nodes step, a close fills 1, and what it filled is offered and accepted.
unfoldable pub ring_calls : List Made
ring_calls =
    of_job ring_job (step 0) ∷ of_job ring_job (step 1) ∷ of_job ring_job close ∷ of_job ring_job (offer 0 1)
    ∷ of_job ring_job (accept 1 0 1 1)
    ∷ []

unfoldable pub ring_events : List Event
ring_events = played ring_calls (start (bytes ring_job))

pub ring_meant : Meant (bytes ring_job) [] ring_events
unfolding printed ring_job ring_calls of_job start ring_events played Meant handed_out
ring_meant = (
  is_meant refl (λ n s k v e. cc),
  (
    is_meant refl (λ n s k v e. cc),
    (is_meant refl (λ n s k v e. cc), (is_meant refl (λ n s k v e. cc), (is_meant refl (accept_known _ 1 0 1 1 (Memᴰ.head refl)), tt))),
  ),
)

pub ring_example :
    (calls : ListOfCalls (bytes ring_job))
    × (calls_of calls
    ≡ (step 0, accepted (2 ∷ []))
    ∷ (step 1, accepted (2 ∷ []))
    ∷ (close, accepted (1 ∷ 4 ∷ []))
    ∷ (offer 0 1, accepted (0 ∷ 1 ∷ 1 ∷ []))
    ∷ (accept 1 0 1 1, accepted (0 ∷ []))
    ∷ [])
unfolding printed ring_job ring_calls of_job start ring_events played listed Accepted
ring_example = (listed (bytes ring_job) refl ring_calls ring_meant, refl)

-- On C2 node 1 has stepped and no message has come: the owner's cell of state 1 is filled, node 0's is not.
looked_at : Table
looked_at = after (step 1) (bytes job2) (start (bytes job2))

pub looked : (t : Table) × Happens lent (bytes job2) (look 255 1 2) t (accepted (1 ∷ [])) t
unfolding printed start looked_at
looked = (looked_at, (may_happen lent (bytes job2)).call (look 255 1 2) looked_at)

-- On V node 0 steps, and its page is asked for with enough bytes, with a byte too few, and of a node that there is not.
unfoldable pub page_calls : List Made
page_calls =
    of_job job_v (page 0 240) ∷ of_job job_v (step 0) ∷ of_job job_v (page 0 240) ∷ of_job job_v (page 0 239) ∷ of_job job_v (page 2 239) ∷ []

unfoldable pub page_events : List Event
page_events = played page_calls (start (bytes job_v))

pub page_meant : Meant (bytes job_v) [] page_events
unfolding printed page_calls of_job start page_events played Meant handed_out
page_meant = (
  is_meant refl (λ n s k v e. cc),
  (
    is_meant refl (λ n s k v e. cc),
    (is_meant refl (λ n s k v e. cc), (is_refused 24 0 0 refl, (is_refused 11 0 0 refl, tt))),
  ),
)

pub page_example :
    (calls : ListOfCalls (bytes job_v))
    × (calls_of calls
    ≡ (page 0 240, accepted [])
    ∷ (step 0, accepted (4 ∷ []))
    ∷ (page 0 240, accepted [])
    ∷ (page 0 239, refused 24 0 0)
    ∷ (page 2 239, refused 11 0 0)
    ∷ [])
unfolding printed page_calls of_job start page_events played listed Accepted
page_example = (listed (bytes job_v) refl page_calls page_meant, refl)

-- Pages before and after the step, into any buffer of 240 bytes.
written_page :
    (t : Table) → answer (page 0 240) (bytes job_v) t ≡ accepted [] → (b : List ℕ) → length b ≡ 240 → (w : List ℕ) × Pages lent (bytes job_v) t 0 b (accepted []) w
written_page t told_is b long =
    let x = bytes job_v in (
      page_buffer x t 0 b,
      subst (λ a. Pages lent x t 0 b a (page_buffer x t 0 b)) (ap (λ k. answer (page 0 k) x t) long ∙ told_is) ((may_happen lent x).page_written t 0 b),
    )

stepped : Table
stepped = after (step 0) (bytes job_v) (start (bytes job_v))

pub paged :
    (t : Table)
    × (u : Table)
    × ((b : List ℕ) → length b ≡ 240 → (w : List ℕ) × Pages lent (bytes job_v) t 0 b (accepted []) w)
    × ((b : List ℕ) → length b ≡ 240 → (w : List ℕ) × Pages lent (bytes job_v) u 0 b (accepted []) w)
    × (SameCells (decode (bytes job_v)) 0 t u → ⊥)
unfolding printed start stepped
paged = (
  start (bytes job_v),
  stepped,
  written_page (start (bytes job_v)) refl,
  written_page stepped refl,
  λ same. let wrong : ◌≡◌ {A = ℕ} 2 1 = same 0 0 (lit≤ tt) (lit≤ tt) in omega arith,
)
