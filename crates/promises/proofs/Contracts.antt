-- What the contract of a call promises is what is defined, no less and no more: the definitions' answer and table are a way for it to
-- happen, and the only one. Assumes nothing.
use Prim.Native.Nat.{ℕ, ◌+◌, ◌≤◌}
use mathlib.Core.Path.{◌≡◌, refl, sym, ◌∙◌, ap, ap₂, subst}
use mathlib.Core.List.{List, [], ◌∷◌}
use lib.ListN.{length, take, replicate, length-replicate}
use lib.Seq.{take-length}
use native.Mathlib.Nat.{le_refl}
use mathlib.Core.Option as opt
use native.Mathlib.Omega.{arith}
use Rattle.text.specs.Field.{Text}
use Rattle.job.specs.Layout as layout
use Rattle.job.specs.Job.{decode}
use Rattle.job.specs.Answer.{Answer, accepted, refused}
use Rattle.job.specs.Question.{Question, refusal}
use Rattle.job.specs.Questions.{text_questions}
use Rattle.job.specs.Read.{read_told, read_answer, line_of as part_of, header}
use Rattle.job.specs.declared.reading.Header as head
use Rattle.job.specs.declared.refusal.Refusal.{Refusal}
use Rattle.job.specs.Refused.{number_of, line_of_refusal}
use Rattle.std.proofs.Common.{Result, Ok, Err}
use Rattle.promises.proofs.Expressed.{Expressed, call_expressed, text_expressed, rule_expressed, refusal_expressed}
use Rattle.calls.specs.declared.offer.Message.{Message}
use Rattle.cells.specs.Table.{Table, owner_cell, filled, empty_cells}
use Rattle.cells.specs.Close.{smallest_open, close_table}
use Rattle.cells.specs.Finish as finishing
use Rattle.job.proofs.QuestionLaws.{by_refusal, answered_none, answered_some, accepted_own, afterwards_none, afterwards_some}
use Rattle.cells.proofs.Finish.{finish_rounds_lem}
use Rattle.cells.specs.Calls.{Call, fresh, step, offer, accept, look, close, finish, page, questions, width, told, left, answer, after}
use Rattle.calls.specs.Told.{fresh_told, step_told, offer_told, accept_told, look_told, close_told, finish_told, finish_rounds, page_told}
use Rattle.closing.specs.declared.Closing as closing
use Rattle.rounds.specs.declared.finish.Outcome as outcome
use Rattle.page_text.specs.PageCall.{page_buffer}
use Rattle.page_output.specs.PageOutput.{page_output}
use Rattle.verdict_line.specs.VerdictLine.{verdict_line}
use Rattle.rule_text.specs.RuleCall.{rule_lines, rule_questions, rule_answer, rule_buffer}
use Rattle.rule_call.specs.Ruled.{ruled_told}
use Rattle.rule_output.specs.RuleOutput.{rule_output}
use Rattle.promises.specs.CallContracts.{Loan, Pages, Happens, Reads, HandsBack, Prints, Rules, PrintsRule, PrintsPage, MayHappen}

module _ (l : Loan) (x : Text) where
  pub pages_defined :
      (t : Table) (n : ℕ) (b : List ℕ) (a : Answer) (w : List ℕ)
      → Pages l x t n b a w
      → (a ≡ answer (page n (length b)) x t) × (w ≡ page_buffer x t n b)
  unfolding Pages
  pages_defined t n b a w (r, is, (told, (left, written))) = (sym is ∙ told, written)

  page_left : (t : Table) (n : ℕ) (b : List ℕ) (a : Answer) (w : List ℕ) → Pages l x t n b a w → t ≡ after (page n (length b)) x t
  unfolding Pages
  page_left t n b a w (r, is, (told, (left, written))) = left

  pub happens_defined : (c : Call) (t : Table) (a : Answer) (u : Table) → Happens l x c t a u → (a ≡ answer c x t) × (u ≡ after c x t)
  unfolding Happens
  happens_defined fresh t a u (r, is, (told, left)) = (sym is ∙ told, left)
  happens_defined (step n) t a u (r, is, (told, left)) = (sym is ∙ told, left)
  happens_defined (offer s k) t a u (r, is, same, (told, left)) = (sym is ∙ told, same ∙ left)
  happens_defined (accept n s k v) t a u (r, is, (told, left)) = (sym is ∙ told, left)
  happens_defined (look n s k) t a u (r, is, same, (told, left)) = (sym is ∙ told, same ∙ left)
  happens_defined close t a u (r, is, (told, left)) = (sym is ∙ told, left)
  happens_defined finish t a u (r, is, (told, (left, few))) = (sym is ∙ told, left)
  happens_defined (page n room) t a u (b, w, long, same, pages) = (
    (pages_defined t n b a w pages).0 ∙ ap (λ k. answer (page n k) x t) long,
    same ∙ page_left t n b a w pages ∙ ap (λ k. after (page n k) x t) long,
  )

  -- a result of a call for its answer: `own` is what the call has of its own where it is accepted
  module _ {A : Type 0} (says : Result A Refusal → Answer) (c : Call) (t : Table) where
    result_case :
        (own : A)
        → says (Ok own) ≡ accepted (told c (decode x) t)
        → ((why : Refusal) → says (Err why) ≡ refused (number_of why) (line_of_refusal why) (width c))
        → (z : Result A Refusal) × (says z ≡ answer c x t)
    unfolding answer
    result_case own own_says why_says =
        let qs = questions c x t in
        by_refusal qs
        (λ e. (Ok own, own_says ∙ sym (answered_none qs (width c) (told c (decode x) t) e)))
        (λ q e.
        let (why, number_is, line_is) = refusal_expressed qs q (call_expressed c x t) e in
        (Err why, why_says why ∙ ap₂ (λ n l. refused n l (width c)) number_is line_is ∙ sym (answered_some qs (width c) (told c (decode x) t) q e)))

  module _ (t : Table) where
    fresh_case : (z : Result Unit Refusal) × (fresh_told z ≡ answer fresh x t)
    unfolding fresh_told told width
    fresh_case = result_case fresh_told fresh t tt refl (λ why. refl)

    step_case : (n : ℕ) → (z : Result ℕ Refusal) × (step_told z ≡ answer (step n) x t)
    unfolding step_told told width
    step_case n = result_case step_told (step n) t _ refl (λ why. refl)

    offer_case : (s k : ℕ) → (z : Result Message Refusal) × (offer_told z ≡ answer (offer s k) x t)
    unfolding offer_told told width
    offer_case s k =
        result_case offer_told (offer s k) t (record { state = s; subformula = k; value = owner_cell (decode x) t s k }) refl (λ why. refl)

    accept_case : (n s k v : ℕ) → (z : Result ℕ Refusal) × (accept_told z ≡ answer (accept n s k v) x t)
    unfolding accept_told told width
    accept_case n s k v = result_case accept_told (accept n s k v) t _ refl (λ why. refl)

    look_case : (n s k : ℕ) → (z : Result ℕ Refusal) × (look_told z ≡ answer (look n s k) x t)
    unfolding look_told told width
    look_case n s k = result_case look_told (look n s k) t _ refl (λ why. refl)

    close_case : (z : Result closing.Closing Refusal) × (close_told z ≡ answer close x t)
    unfolding close_told told width
    close_case =
        let own : closing.Closing = record { subformula = smallest_open (decode x) t; filled = filled t (close_table (decode x) t) } in
        result_case close_told close t own refl (λ why. refl)

    finish_case : (z : Result outcome.Outcome Refusal) × (finish_told z ≡ answer finish x t)
    unfolding finish_told told width
    finish_case =
        let done = finishing.finish (decode x) t in
        let own : outcome.Outcome = record { verdict = finishing.verdict (decode x) done.table; rounds = done.rounds; cells = done.cells } in
        result_case finish_told finish t own refl (λ why. refl)

    page_case : (n room : ℕ) → (z : Result Unit Refusal) × (page_told z ≡ answer (page n room) x t)
    unfolding page_told told width
    page_case n room = result_case page_told (page n room) t tt refl (λ why. refl)

    -- its rounds are those of the definition, or 0
    finish_few : (z : Result outcome.Outcome Refusal) → finish_told z ≡ answer finish x t → finish_rounds z ≤ empty_cells (decode x) t + 1
    unfolding finish_told finish_rounds answer told
    finish_few (Ok own) is =
        let same = accepted_own (questions finish x t) (width finish) (told finish (decode x) t) _ is in
        let rounds : own.rounds ≡ (finishing.finish (decode x) t).rounds = cc in
        omega (arith, finish_rounds_lem (decode x) t)
    finish_few (Err why) is = omega arith

  -- offer, look and page leave the table
  stays : (c : Call) (t : Table) → left c (decode x) t ≡ t → after c x t ≡ t
  unfolding after
  stays c t same =
      let qs = questions c x t in
      by_refusal qs (λ e. afterwards_none qs t (left c (decode x) t) e ∙ same) (λ q e. afterwards_some qs t (left c (decode x) t) q e)

  offer_stays : (s k : ℕ) (t : Table) → after (offer s k) x t ≡ t
  unfolding left
  offer_stays s k t = stays (offer s k) t refl

  look_stays : (n s k : ℕ) (t : Table) → after (look n s k) x t ≡ t
  unfolding left
  look_stays n s k t = stays (look n s k) t refl

  page_stays : (n room : ℕ) (t : Table) → after (page n room) x t ≡ t
  unfolding left
  page_stays n room t = stays (page n room) t refl

  defined_pages : (t : Table) (n : ℕ) (b : List ℕ) → Pages l x t n b (answer (page n (length b)) x t) (page_buffer x t n b)
  unfolding Pages
  defined_pages t n b = let (z, is) = page_case t n (length b) in (z, is, (is, (sym (page_stays n (length b) t), refl)))

  defined_happens : (c : Call) (t : Table) → Happens l x c t (answer c x t) (after c x t)
  unfolding Happens
  defined_happens fresh t = let (z, is) = fresh_case t in (z, is, (is, refl))
  defined_happens (step n) t = let (z, is) = step_case t n in (z, is, (is, refl))
  defined_happens (offer s k) t =
      let (z, is) = offer_case t s k in
      (z, is, offer_stays s k t, (is, sym (offer_stays s k t)))
  defined_happens (accept n s k v) t = let (z, is) = accept_case t n s k v in (z, is, (is, refl))
  defined_happens (look n s k) t =
      let (z, is) = look_case t n s k in
      (z, is, look_stays n s k t, (is, sym (look_stays n s k t)))
  defined_happens close t = let (z, is) = close_case t in (z, is, (is, refl))
  defined_happens finish t = let (z, is) = finish_case t in (z, is, (is, (refl, finish_few t z is)))
  defined_happens (page n room) t =
      let b : List ℕ = replicate room 0 in
      let long : length b ≡ room = length-replicate room 0 in
      (b, page_buffer x t n b, long, page_stays n room t, subst (λ k. Pages l x t n b (answer (page n k) x t) (page_buffer x t n b)) long (defined_pages t n b))

  -- rule
  pub rules_defined : (b : List ℕ) (a : Answer) (u : List ℕ) → Rules l x b a u → (a ≡ rule_answer x b) × (u ≡ rule_buffer x b)
  unfolding Rules
  rules_defined b a u (r, is, (told, left)) = (sym is ∙ told, left)

  defined_rules : (b : List ℕ) → Rules l x b (rule_answer x b) (rule_buffer x b)
  unfolding Rules rule_answer ruled_told
  defined_rules b =
      let qs = rule_questions x b in
      let own = length (rule_lines x) ∷ [] in
      let answered : (z : Result ℕ Refusal) × (ruled_told z ≡ rule_answer x b) =
      by_refusal qs
      (λ e. (Ok (length (rule_lines x)), sym (answered_none qs 1 own e)))
      (λ q e.
      let (why, number_is, line_is) = refusal_expressed qs q (rule_expressed x b) e in
      (Err why, ap₂ (λ n l. refused n l 1) number_is line_is ∙ sym (answered_some qs 1 own q e))) in
      let (z, is) = answered in
      (z, is, (is, refl))

  -- read, line and the printed line
  pub reads_defined : (a : Answer) → Reads l x a → a ≡ read_answer x
  unfolding Reads
  reads_defined a (r, is, told) = sym is ∙ told

  defined_reads : Reads l x (read_answer x)
  unfolding Reads read_answer read_told header
  defined_reads = let (z, is) = by_refusal (text_questions x) as_accepted as_refused_lem in (z, is, is)
    where
      as_accepted : refusal (text_questions x) ≡ opt.none → (z : Result head.Header Refusal) × (read_told z ≡ read_answer x)
      as_accepted e =
          let own : head.Header =
          record { states = layout.states x; edges = layout.edges x; subformulas = layout.subformulas x; nodes = layout.nodes x } in
          (Ok own, sym (answered_none (text_questions x) 4 (header x) e))

      as_refused_lem : (q : Question) → refusal (text_questions x) ≡ opt.some q → (z : Result head.Header Refusal) × (read_told z ≡ read_answer x)
      as_refused_lem q e =
          let (why, number_is, line_is) = refusal_expressed (text_questions x) q (text_expressed x) e in
          (Err why, ap₂ (λ n l. refused n l 4) number_is line_is ∙ sym (answered_some (text_questions x) 4 (header x) q e))

  pub back_defined : (n : ℕ) (part : List ℕ) → HandsBack l x n part → part ≡ part_of x n
  unfolding HandsBack
  back_defined n part (r, is, told) = sym is ∙ told

  pub prints_defined : (said : List ℕ) → Prints l x said → said ≡ verdict_line x
  unfolding Prints
  prints_defined said told = told

  pub prints_rule_defined : (said : List ℕ) → PrintsRule l x said → said ≡ rule_output x
  unfolding PrintsRule
  prints_rule_defined said told = told

  defined_prints_rule : PrintsRule l x (rule_output x)
  unfolding PrintsRule
  defined_prints_rule = refl

  pub prints_page_defined : (argument said : List ℕ) → PrintsPage l x argument said → said ≡ page_output argument x
  unfolding PrintsPage
  prints_page_defined argument said told = told

  defined_prints_page : (argument : List ℕ) → PrintsPage l x argument (page_output argument x)
  unfolding PrintsPage
  defined_prints_page argument = refl

  pub may_happen : MayHappen l x
  unfolding HandsBack Prints
  may_happen =
      record {
        call = defined_happens;
        read = defined_reads;
        line = λ n. (record { ref_ptr = l.text.ref_ptr; now = part_of x n }, refl, refl);
        verdict = refl;
        rule = defined_rules;
        printed_rule = defined_prints_rule;
        page_written = defined_pages;
        printed_page = defined_prints_page;
      }
