-- The contracts of the calls, of rule and of what `verdict`, `rule` and `page` print, as statements about what is passed and what comes of it.
-- `Learnt` of a function is what its `ensures` clauses promise a caller, `Asked` what its `requires` clauses ask, as the toolchain reads them off the
-- source: of the lifetimes, the arguments, the result, and the arguments at exit. Assumes nothing.
use Rattle.std.specs.Prelude.{ℕ, ◌≡◌, List, length, Result}
use contract.Lifetimes.{Lfts}
use denote.Ref.{Bor, MutBor, at_last, as_bor}
use Rattle.text.specs.Field.{Text}
use Rattle.job.specs.Answer.{Answer}
use Rattle.job.specs.Read.{read_told, read_answer, line_of}
use Rattle.job.specs.declared.reading.Header.{Header}
use Rattle.job.specs.declared.refusal.Refusal.{Refusal}
use Rattle.cells.specs.Table.{Table}
use Rattle.cells.specs.Calls.{Call, fresh, step, offer, accept, look, close, finish, page, answer, after}
use Rattle.calls.specs.Told.{fresh_told, step_told, offer_told, accept_told, look_told, close_told, finish_told, page_told}
use Rattle.calls.specs.declared.offer.Message.{Message}
use Rattle.closing.specs.declared.Closing.{Closing}
use Rattle.rounds.specs.declared.finish.Outcome.{Outcome}
use Rattle.page_text.specs.PageCall.{page_buffer}
use Rattle.page_output.specs.PageOutput.{page_output}
use Rattle.verdict_line.specs.VerdictLine.{verdict_line}
use Rattle.rule_text.specs.RuleCall.{rule_answer, rule_buffer}
use Rattle.rule_call.specs.Ruled.{ruled_told}
use Rattle.rule_output.specs.RuleOutput.{rule_output}
use Rattle.calls.proofs.read.read.Reads as reading
use Rattle.calls.proofs.line.line.Reads as lining
use Rattle.calls.proofs.fresh.fresh.Reads as clearing
use Rattle.calls.proofs.step.step.Reads as stepping
use Rattle.calls.proofs.offer.offer.Reads as offering
use Rattle.calls.proofs.accept.accept.Reads as accepting
use Rattle.calls.proofs.look.look.Reads as looking
use Rattle.calls.proofs.close.close.Reads as closing
use Rattle.calls.proofs.finish.finish.Reads as finishing
use Rattle.calls.proofs.page.page.Reads as paging
use Rattle.verdict_line.proofs.verdict_line.Reads as printing
use Rattle.rule_call.proofs.rule.rule.Reads as ruling
use Rattle.rule_output.proofs.rule_output.Reads as outputting
use Rattle.page_output.proofs.page_output.Reads as printing_page

-- How text, table and buffer are lent: the text to be read alone, the others to be written or read. Contracts speak only of the values behind the
-- references.
pub record Loan : Type 0 where
  -- for how long, and by which references
  pub lifetimes : Lfts 3
  pub text : Bor (List ℕ)
  pub table : MutBor (List ℕ)
  pub buffer : MutBor (List ℕ)

module _ (l : Loan) (x : Text) where
  abbrev text : Bor (List ℕ)
  text = record { ref_ptr = l.text.ref_ptr; now = x }

  abbrev table : Table → MutBor (List ℕ)
  table t = at_last l.table t

  abbrev buffer : List ℕ → MutBor (List ℕ)
  buffer b = at_last l.buffer b

  -- the same, lent to be read alone
  abbrev table_read : Table → Bor (List ℕ)
  table_read t = as_bor (table t)

  abbrev buffer_read : List ℕ → Bor (List ℕ)
  buffer_read b = as_bor (buffer b)

  -- of a call that is lent one thing, or two
  abbrev one : Lfts 1
  one = (l.lifetimes.0, tt)

  abbrev two : Lfts 2
  two = (l.lifetimes.0, (l.lifetimes.1.0, tt))

  -- page with text x, table t, node n and buffer b may answer a and leave the buffer w. The table can only be read.
  unfoldable pub Pages : Table → ℕ → List ℕ → Answer → List ℕ → Type 0
  Pages t n b a w =
      (r : Result Unit Refusal)
      × (page_told r ≡ a)
      × paging.Learnt l.lifetimes (text, (table_read t, (n, (buffer b, tt)))) r (text, (table_read t, (n, (buffer w, tt))))

  -- The call with text x and table t may answer a and leave table u: the contract of its function holds of these. The table that offer,
  -- look and page are lent can only be read, so it stays; page writes a buffer of so many bytes, of any content.
  unfoldable pub Happens : Call → Table → Answer → Table → Type 0
  Happens fresh t a u =
      (r : Result Unit Refusal)
      × (fresh_told r ≡ a)
      × clearing.Learnt two (text, (table t, tt)) r (text, (table u, tt))
  Happens (step n) t a u =
      (r : Result ℕ Refusal)
      × (step_told r ≡ a)
      × stepping.Learnt two (text, (table t, (n, tt))) r (text, (table u, (n, tt)))
  Happens (offer s k) t a u =
      (r : Result Message Refusal)
      × (offer_told r ≡ a)
      × (u ≡ t)
      × offering.Learnt two (text, (table_read t, (s, (k, tt)))) r (text, (table_read t, (s, (k, tt))))
  Happens (accept n s k v) t a u =
      let m : Message = record { state = s; subformula = k; value = v } in
      (r : Result ℕ Refusal)
      × (accept_told r ≡ a)
      × accepting.Learnt two (text, (table t, (n, (m, tt)))) r (text, (table u, (n, (m, tt))))
  Happens (look n s k) t a u =
      (r : Result ℕ Refusal)
      × (look_told r ≡ a)
      × (u ≡ t)
      × looking.Learnt two (text, (table_read t, (n, (s, (k, tt))))) r (text, (table_read t, (n, (s, (k, tt)))))
  Happens close t a u =
      (r : Result Closing Refusal)
      × (close_told r ≡ a)
      × closing.Learnt two (text, (table t, tt)) r (text, (table u, tt))
  Happens finish t a u =
      (r : Result Outcome Refusal)
      × (finish_told r ≡ a)
      × finishing.Learnt two (text, (table t, tt)) r (text, (table u, tt))
  Happens (page n room) t a u = (b : List ℕ) × (w : List ℕ) × (length b ≡ room) × (u ≡ t) × Pages t n b a w

  -- read may answer a, line n may hand back this part, and verdict may print these bytes
  unfoldable pub Reads : Answer → Type 0
  Reads a = (r : Result Header Refusal) × (read_told r ≡ a) × reading.Learnt one (text, tt) r (text, tt)

  unfoldable pub HandsBack : ℕ → List ℕ → Type 0
  HandsBack n part =
      (r : Bor (List ℕ)) × (r.now ≡ part) × lining.Learnt one (text, (n, tt)) r (text, (n, tt))

  unfoldable pub Prints : List ℕ → Type 0
  Prints said = printing.Learnt one (text, tt) said (text, tt)

  -- rule with rule text x and the buffer b may answer a and leave the buffer u
  unfoldable pub Rules : List ℕ → Answer → List ℕ → Type 0
  Rules b a u =
      (r : Result ℕ Refusal)
      × (ruled_told r ≡ a)
      × ruling.Learnt two (text, (buffer b, tt)) r (text, (buffer u, tt))

  -- the program rule may print these bytes of its input
  unfoldable pub PrintsRule : List ℕ → Type 0
  PrintsRule said =
      outputting.Learnt one (text, tt) said (text, tt)

  -- the program page may print these bytes of its argument, which is lent as a buffer is, and its input, x
  unfoldable pub PrintsPage : List ℕ → List ℕ → Type 0
  PrintsPage argument said =
      printing_page.Learnt two (buffer_read argument, (text, tt)) said (buffer_read argument, (text, tt))

-- Whatever is lent, what is defined may happen.
pub record MayHappen (l : Loan) (x : Text) : Type 0 where
  pub call : (c : Call) (t : Table) → Happens l x c t (answer c x t) (after c x t)
  pub read : Reads l x (read_answer x)
  pub line : (n : ℕ) → HandsBack l x n (line_of x n)
  pub verdict : Prints l x (verdict_line x)
  pub rule : (b : List ℕ) → Rules l x b (rule_answer x b) (rule_buffer x b)
  pub printed_rule : PrintsRule l x (rule_output x)
  pub page_written : (t : Table) (n : ℕ) (b : List ℕ) → Pages l x t n b (answer (page n (length b)) x t) (page_buffer x t n b)
  pub printed_page : (argument : List ℕ) → PrintsPage l x argument (page_output argument x)
