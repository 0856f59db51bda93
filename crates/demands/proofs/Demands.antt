-- The demands and what the change requests promise, sentence by sentence and in their words, each proved by citing what did the work. What a call
-- comes to is said by its function's contract: `Happens l x c t a u`, the call c with text x on table t answers a and leaves u; `Rules l x b a u`,
-- rule with text x on buffer b answers a and leaves u; `Pages l x t n b a w`, page of node n with text x and table t on buffer b answers a and leaves
-- w. The words are those of `promises/specs`. Assumes nothing.
use Prim.Native.Nat.{ℕ, suc, ◌<◌, ◌≤◌}
use mathlib.Core.Path.{◌≡◌}
use mathlib.Core.Bool.{true, false}
use mathlib.Core.List.{List, [], ◌∷◌, ◌++◌}
use mathlib.Core.Logic.{◌↔◌}
use lib.ListN.{length, take}
use Rattle.text.specs.Field.{Text}
use Rattle.job.specs.Job.{Job, Structure, for_all, exists, size, subformula_count, subformula, owner, decode}
use Rattle.job.specs.Answer.{Answer, accepted, refused}
use Rattle.job.specs.Layout.{source_field, target_field}
use Rattle.job.specs.Questions.{text_questions, edge_lines, edges_out, formula_lines, Accepted}
use Rattle.job.specs.Read.{header, line_of}
use Rattle.job.specs.Written.{IsJob}
use Rattle.job.specs.declared.subformula.Subformula.TheVariants.{Eg, Ag}
use Rattle.edge_pass.specs.EdgePass.{kept_after, kept_of, question6, question7}
use Rattle.ctl.specs.Truth.{Walk, Holds}
use Rattle.ctl.proofs.Total.{State, Total, total_job}
use Rattle.cells.specs.Table.{Table, cell, owner_cell}
use Rattle.cells.specs.SetRule.{SetRule}
use Rattle.cells.specs.Close.{is_temporal}
use Rattle.cells.specs.Calls.{Call, step, offer, accept, look, close, finish, page, questions, width, told}
use Rattle.cells.specs.Cases.{bytes, job_v, job2, job3}
use Rattle.cells.specs.AllAlong.{ring_job, implies_job}
use Rattle.rule_text.specs.declared.token.Prefix.{Prefix as PrefixOperator}
use Rattle.rule_text.specs.declared.token.Token.TheVariants.{Prefix}
use Rattle.rule_text.specs.Tree.{Tree, prefix}
use Rattle.rule_text.specs.Token.{spelling}
use Rattle.rule_text.specs.Grammar.{Means}
use Rattle.rule_text.specs.RuleCall.{rule_lines, rule_questions, InLimits}
use Rattle.rule_text.proofs.Reading.{means_one}
use Rattle.rule_text.proofs.RuleTruth.{rule_truth}
use Rattle.rule_text.proofs.Prefixes.{prefix_means}
use Rattle.rule_text.proofs.Worked.{example_rule, example_limits}
use Rattle.promises.specs.CallContracts.{Loan, Happens, Reads, HandsBack, Prints, Rules, PrintsRule, Pages, PrintsPage, MayHappen}
use Rattle.promises.specs.Demand1.{AnswersBy}
use Rattle.promises.specs.Demand2.{Accepts, JobText, FilledByRules, SmallestAndLargest, Judged}
use Rattle.promises.specs.Demand3.{FreshFor, ListOfCalls, left_by, calls_of, AsDefined, CellsTrue, OneMoreFinish, OneMachine}
use Rattle.promises.specs.UnnamedNode.{unnamed_questions, unknown_node_questions}
use Rattle.promises.specs.AllAlong.{HasLine, FilledAllAlong, ClosedByKind, kinds_admitted}
use Rattle.promises.specs.OneWalk.{LetThrough, walked_questions, bytes_kept, lower_job}
use Rattle.promises.specs.OnPaper.{page_bytes, PageWritten, SameCells, PagePrinted}
use Rattle.promises.specs.RuleText.{LinesWritten, LastLineIsTruth, LinesInOrder, InJob, RulePrinted}
use Rattle.demands.specs.Functions.{AsksNothing, Proved}
use Rattle.demands.proofs.Proved.{asks_nothing, proved}
use Rattle.promises.proofs.Contracts.{back_defined, may_happen}
use Rattle.promises.proofs.Calls.{happens_first, happens_stays}
use Rattle.promises.proofs.Reading.{reads_first, reads_exact}
use Rattle.promises.proofs.Filled.{happens_filled, sets_are}
use Rattle.promises.proofs.Ends.{calls_defined, calls_cells, calls_finish, fresh_finish, same_verdict}
use Rattle.promises.proofs.Judged.{prints_judged}
use Rattle.promises.proofs.RuleText.{rules_first, rules_stay, rules_exact, rules_written, rules_in_job, means_in_order, rules_agree, prints_rule}
use Rattle.promises.proofs.UnnamedNode.{happens_named, happens_owner, happens_unnamed, happens_never_18, happens_step_255, happens_accept_255, happens_page_255}
use Rattle.promises.proofs.AllAlong.{eg_walks, ag_walks, eg_ag_temporal, happens_eg, happens_ag, happens_closed, question_8}
use Rattle.promises.proofs.OneWalk.{line_alone, kept_small, kept_6, kept_7, reads_walked, accepted_let_through, lower_through, lower_fails}
use Rattle.promises.proofs.OnPaper.{pages_first, pages_stay, pages_written, pages_agree, prints_page}
use Rattle.promises.proofs.Hypotheses.{lent, fresh_for, one_machine, example, looked, has_eg, has_ag, ring_example, page_example, paged}

-- Demand 1. "Any bytes and any numbers:
pub any_bytes_and_any_numbers : AsksNothing
any_bytes_and_any_numbers = asks_nothing

-- every call reads or refuses under the number of the first check that fails,
module _ (l : Loan) (x : Text) where
  pub reads_or_refuses : (c : Call) (t u : Table) (a : Answer) → Happens l x c t a u → AnswersBy (questions c x t) (width c) (told c (decode x) t) a
  reads_or_refuses = happens_first l x

  pub read_reads_or_refuses : (a : Answer) → Reads l x a → AnswersBy (text_questions x) 4 (header x) a
  read_reads_or_refuses = reads_first x l

  pub line_hands_back : (n : ℕ) (part : List ℕ) → HandsBack l x n part → part ≡ line_of x n
  line_hands_back = back_defined l x

  -- a refused call changes no byte of the table,
  pub refused_changes_nothing :
      (c : Call) (t u : Table) (number line others : ℕ) → Happens l x c t (refused number line others) u → u ≡ t
  refused_changes_nothing = happens_stays l x

-- every call ends."
pub every_call_ends : {M : Type 1} → Proved M
every_call_ends = proved

-- Demand 2. "Reading accepts exactly the job layout;
pub reading_is_exact : (l : Loan) (x : Text) (a : Answer) → Reads l x a → Accepts a ↔ JobText x
reading_is_exact l x = reads_exact x l

-- a step fills exactly the cells that the rules fill;
pub step_fills_by_the_rules :
    (l : Loan) (x : Text) (n : ℕ) (t u : Table) (own : List ℕ) → Happens l x (step n) t (accepted own) u → FilledByRules (decode x) n t own u
step_fills_by_the_rules = happens_filled

pub sets_of_the_rules : (J : Job) (n : ℕ) (own : ℕ → ℕ) (R : SetRule) → SmallestAndLargest J n own R
sets_of_the_rules = sets_are

-- the verdict from a fresh table is yes exactly when the formula is true at state 0 by CTL on the uncut structure, over walks."
pub verdict_from_fresh : (x : Text) (t : Table) → FreshFor x t → OneMoreFinish x t
verdict_from_fresh = fresh_finish

pub printed_is_truth : (l : Loan) (x : Text) (said : List ℕ) → Prints l x said → Judged x said
printed_is_truth l x = prints_judged x l

-- Demand 3. "Whatever list of calls is made from a fresh table, refused ones and late, repeated, overtaken messages included: each call fills
-- and answers as defined, every filled cell is the CTL truth, and one more finish answers the truth at state 0 within (empty cells + 1) rounds.
pub demand_3 :
    (x : Text) (calls : ListOfCalls x)
    → AsDefined calls.start calls.events × CellsTrue x (left_by calls) × OneMoreFinish x (left_by calls)
demand_3 x calls = (calls_defined x calls, calls_cells x calls, calls_finish x calls)

-- So two cuttings of one job always agree."
pub cuttings_agree :
    (x y : Text) (same : OneMachine x y) (calls : ListOfCalls x) (others : ListOfCalls y)
    → (l m : Loan) (v w : ℕ) (more rest : List ℕ) (t u : Table)
    → Happens l x finish (left_by calls) (accepted (v ∷ more)) t
    → Happens m y finish (left_by others) (accepted (w ∷ rest)) u
    → v ≡ w
cuttings_agree = same_verdict

-- Request (i), rules typed as text. "Errors: [..] asked in this order."
module _ (l : Loan) (x : Text) (b : List ℕ) where
  pub rule_reads_or_refuses : (a : Answer) (u : List ℕ) → Rules l x b a u → AnswersBy (rule_questions x b) 1 (length (rule_lines x) ∷ []) a
  rule_reads_or_refuses = rules_first l x b

  pub refused_rule_changes_nothing : (number line others : ℕ) (u : List ℕ) → Rules l x b (refused number line others) u → u ≡ b
  refused_rule_changes_nothing = rules_stay l x b

  -- "Within the limits below, a text is accepted exactly when the grammar derives it,
  pub rule_is_exact : (a : Answer) (u : List ℕ) → Rules l x b a u → Accepts a ↔ InLimits x b
  rule_is_exact = rules_exact l x b

  -- "The answer is the number of lines, the whole rule's being the last." "Bytes after the lines stay."
  pub rule_writes_its_lines : (a : Answer) (u : List ℕ) → Rules l x b a u → (is : InLimits x b) → LinesWritten is.tree b a u
  rule_writes_its_lines = rules_written l x b

-- it has one reading,
pub one_reading : (x : Text) (f g : Tree) → Means x f → Means x g → f ≡ g
one_reading = means_one

-- and its CTL truth is that of the lines."
pub rule_truth_is_that_of_its_lines : (M : Structure) → Total M → (f : Tree) (s : ℕ) → State M s → LastLineIsTruth M f s
rule_truth_is_that_of_its_lines = rule_truth

-- "A line equal to an earlier one is not written again", and operands come before what uses them,
pub lines_in_order : (x : Text) (f : Tree) → Means x f → LinesInOrder f
lines_in_order = means_in_order

-- so that the lines put into a job are accepted, and the job says of its machine what the rule says.
pub rule_in_a_job :
    (l : Loan) (x : Text) (b : List ℕ) (a : Answer) (u : List ℕ)
    → Rules l x b a u
    → (is : InLimits x b) (J : Job)
    → IsJob J
    → InJob J is.tree u
rule_in_a_job = rules_in_job

-- What the program rule prints: number and lines, and then the lines themselves.
pub printed_is_the_rule : (l : Loan) (x : Text) (said : List ℕ) → PrintsRule l x said → RulePrinted x said
printed_is_the_rule = prints_rule

-- Different spellings of one tree come to the same.
pub spellings_agree :
    (x y : Text) (f : Tree)
    → Means x f
    → Means y f
    → length x ≤ 512
    → length y ≤ 512
    → (l m : Loan) (b : List ℕ) (a c : Answer) (u w : List ℕ)
    → Rules l x b a u
    → Rules m y b c w
    → (a ≡ c) × (u ≡ w)
spellings_agree = rules_agree

-- Request (ii), an unnamed node means the owner. "From now on 255 is read as the owner of the state":
module _ (l : Loan) (x : Text) (s k : ℕ) (t u : Table) where
  -- look answers as it does to whoever names the owner,
  pub unnamed_is_the_owner :
      (m : Loan) (w : Table) (a b : Answer)
      → s < size (decode x)
      → Happens l x (look 255 s k) t a u
      → Happens m x (look (owner (decode x) s) s k) t b w
      → a ≡ b
  unnamed_is_the_owner = happens_named x t s k l u

  -- and gives the owner's cell.
  pub unnamed_gives_the_owners_cell : (own : List ℕ) → Happens l x (look 255 s k) t (accepted own) u → own ≡ owner_cell (decode x) t s k ∷ []
  unnamed_gives_the_owners_cell = happens_owner x t s k l u

  -- It is refused under 1 to 10 and 12 alone, in this order: where there is no such state no owner is sought.
  pub unnamed_reads_or_refuses :
      (a : Answer) → Happens l x (look 255 s k) t a u → AnswersBy (unnamed_questions x t s k) 1 (owner_cell (decode x) t s k ∷ []) a
  unnamed_reads_or_refuses = happens_unnamed x t s k l u

  -- "For 255, number 18 can no longer occur."
  pub unnamed_never_18 : (number line others : ℕ) → Happens l x (look 255 s k) t (refused number line others) u → number ≡ 18 → ⊥
  unnamed_never_18 = happens_never_18 x t s k l u

-- Every other call that names a node refuses 255 as before, with 11 where nothing before it fails.
module _ (l : Loan) (x : Text) (t u : Table) (a : Answer) where
  pub step_refuses_255 : Happens l x (step 255) t a u → AnswersBy (unknown_node_questions x t) 1 [] a
  step_refuses_255 = happens_step_255 x t l a u

  pub accept_refuses_255 : (s k v : ℕ) → Happens l x (accept 255 s k v) t a u → AnswersBy (unknown_node_questions x t) 1 [] a
  accept_refuses_255 = happens_accept_255 x t l a u

  pub page_refuses_255 : (room : ℕ) → Happens l x (page 255 room) t a u → AnswersBy (unknown_node_questions x t) 0 [] a
  page_refuses_255 = happens_page_255 x t l a u

-- Request (iii), rules that hold all along. "EG a: on some walk a holds everywhere; AG a: on every walk."
module _ (J : Job) (is : IsJob J) (k a s : ℕ) (l : k < subformula_count J) where
  pub eg_on_some_walk :
      subformula J.formula k ≡ Eg a
      → Holds J.structure J.formula k s
      ↔ ((w : Walk J.structure s) × ((i : ℕ) → Holds J.structure J.formula a (w.at i)))
  eg_on_some_walk = eg_walks J is k a l s

  pub ag_on_every_walk :
      subformula J.formula k ≡ Ag a
      → Holds J.structure J.formula k s
      ↔ ((w : Walk J.structure s) (i : ℕ) → Holds J.structure J.formula a (w.at i))
  ag_on_every_walk = ag_walks J is k a l s

-- "With b 0 and both temporal" (b: see question 8):
pub both_temporal :
    (J : Job) (k a : ℕ)
    → (subformula J.formula k ≡ Eg a → is_temporal J k ≡ true) × (subformula J.formula k ≡ Ag a → is_temporal J k ≡ true)
both_temporal = eg_ag_temporal

-- "In a step EG's true cells are the largest set already true, or with a true and some successor in the set. Its false cells are the smallest
-- set already false, or with a false, or with all successors in the set. AG has all for some and some for all; document 01's restriction on
-- smallest and largest sets binds these too." The quantifier named here is that of the false cells.
module _ (l : Loan) (x : Text) (t u : Table) (own : List ℕ) (n k a : ℕ) where
  pub eg_fills_by_its_sets :
      Happens l x (step n) t (accepted own) u
      → k < subformula_count (decode x)
      → subformula (decode x).formula k ≡ Eg a
      → FilledAllAlong (decode x) n (λ s. cell (decode x) t n s k) (λ s. cell (decode x) u n s a) for_all (λ s. cell (decode x) u n s k)
  eg_fills_by_its_sets = happens_eg l x t u own n k a

  pub ag_fills_by_its_sets :
      Happens l x (step n) t (accepted own) u
      → k < subformula_count (decode x)
      → subformula (decode x).formula k ≡ Ag a
      → FilledAllAlong (decode x) n (λ s. cell (decode x) t n s k) (λ s. cell (decode x) u n s a) exists (λ s. cell (decode x) u n s k)
  ag_fills_by_its_sets = happens_ag l x t u own n k a

-- "Close now fills by kind: 0 for kinds 6 and 7, 1 for kinds 8 and 9."
pub close_fills_by_kind :
    (l : Loan) (x : Text) (t u : Table) (own : List ℕ) → Happens l x close t (accepted own) u → ClosedByKind (decode x) t own u
close_fills_by_kind = happens_closed

-- "Question 8 admits 1 to 9",
pub question_8_admits : (x : Text) → formula_lines x ≡ kinds_admitted x
question_8_admits = question_8

-- "and rule text takes `EG` and `AG` as prefixes like `AX`": behind each of them, as behind every prefix, a rule in parentheses is a rule.
pub prefixes_alike :
    (p : PrefixOperator) (x : Text) (f : Tree) → Means x f → Means (spelling (Prefix p) ++ (40 ∷ (x ++ (41 ∷ [])))) (prefix p f)
prefixes_alike = prefix_means

-- "Every order of messages still has to end in CTL truth for jobs with the two kinds": that is `demand_3`, which is about every job.

-- Request (iv), one walk over the edge lines. "What the pass keeps after an edge line, at most 1,024 bytes,
pub kept_in_1024_bytes : (x : Text) (e : ℕ) → bytes_kept (kept_after x e) ≤ 1024
kept_in_1024_bytes = kept_small

-- follows from what it kept before and from that line alone;
pub kept_by_that_line_alone :
    (x y : Text) (e : ℕ)
    → kept_after x e ≡ kept_after y e
    → source_field x e ≡ source_field y e
    → target_field x e ≡ target_field y e
    → kept_after x (suc e) ≡ kept_after y (suc e)
kept_by_that_line_alone = line_alone

-- both answers follow from what it keeps after the last." They are questions 6 and 7 as document 01 has them, the answer and the line that a no
-- reports: 6 on every text, 7 on every text that question 5 lets through, whatever its edge lines.
pub question_6_from_what_is_kept : (x : Text) → question6 (kept_of x) ≡ edge_lines x
question_6_from_what_is_kept = kept_6

pub question_7_from_what_is_kept : (x : Text) → LetThrough x → question7 (kept_of x) ≡ edges_out x
question_7_from_what_is_kept = kept_7

-- "With the same number and line for each text": read answers by the questions with these two in their places.
pub read_by_one_walk : (l : Loan) (x : Text) (a : Answer) → Reads l x a → AnswersBy (walked_questions x) 4 (header x) a
read_by_one_walk l x = reads_walked x l

-- Request (v), the table on paper. "Errors: 24 the buffer is shorter than 80 × (S + 1), asked after 11."
module _ (l : Loan) (x : Text) (t : Table) (n : ℕ) (b : List ℕ) where
  pub page_reads_or_refuses : (a : Answer) (w : List ℕ) → Pages l x t n b a w → AnswersBy (questions (page n (length b)) x t) 0 [] a
  page_reads_or_refuses = pages_first l x t n b

  pub refused_page_changes_nothing : (number line others : ℕ) (w : List ℕ) → Pages l x t n b (refused number line others) w → w ≡ b
  refused_page_changes_nothing = pages_stay l x t n b

  -- "Write one node's table as lines of exactly 79 columns and byte 10. [..] There are S + 1 lines in a lent buffer, and bytes past them stay." What
  -- stands in the column of a state and a subformula is its cell.
  pub page_is_written : (own w : List ℕ) → Pages l x t n b (accepted own) w → PageWritten (decode x) t n b w
  page_is_written = pages_written l x t n b

-- "Equal pages for one job mean equal cells of that node", and equal cells equal pages.
pub equal_pages_equal_cells :
    (x : Text) (n : ℕ) (t u : Table) (l m : Loan) (b c v w own told : List ℕ)
    → Pages l x t n b (accepted own) v
    → Pages m x u n c (accepted told) w
    → (take (page_bytes (decode x)) v ≡ take (page_bytes (decode x)) w) ↔ SameCells (decode x) n t u
equal_pages_equal_cells = pages_agree

-- A list of calls may have pages in it: that is `demand_3`, of whose calls page is one.

-- The program page prints number and line of the refusal, 11 where no node is named, or the page of the table after finish from fresh: each `0` and `1`
-- there is the CTL truth, and at a state that the node owns none is `.`.
pub printed_page_is_truth : (l : Loan) (argument x : Text) (said : List ℕ) → PrintsPage l x argument said → PagePrinted argument x said
printed_page_is_truth = prints_page

-- What is supposed here can be had: what is defined may happen, a table fresh for a text, two cuttings of one machine, a list with messages, a
-- rule within the limits, structures in which each state has an edge out, a look without a node that is accepted, jobs with EG and AG, a list
-- with steps of EG, a close that fills 1 and a message about it, texts that question 5 lets through: every accepted one, and one that fails 6 and 7;
-- a list with pages, accepted and refused, and two tables with different cells whose pages are accepted, whatever the buffer of 240 bytes holds.
pub defined_may_happen : (l : Loan) (x : Text) → MayHappen l x
defined_may_happen = may_happen

pub fresh_tables : (x : Text) → Accepted x → (t : Table) × FreshFor x t
fresh_tables x is = (_, fresh_for x is)

pub two_cuttings : OneMachine (bytes job_v) (bytes job3)
two_cuttings = one_machine

pub calls_with_messages :
    (calls : ListOfCalls (bytes job2))
    × (calls_of calls
    ≡ (step 1, accepted (5 ∷ []))
    ∷ (offer 1 2, accepted (1 ∷ 2 ∷ 1 ∷ []))
    ∷ (accept 0 1 2 1, accepted (1 ∷ []))
    ∷ (accept 0 1 2 1, accepted (0 ∷ []))
    ∷ (accept 1 1 2 1, refused 16 0 1)
    ∷ (close, refused 1 1 2)
    ∷ [])
calls_with_messages = example

pub a_rule_in_limits : (b : List ℕ) → length b ≡ 512 → InLimits example_rule b
a_rule_in_limits = example_limits

pub jobs_have_edges_out : (J : Job) → IsJob J → Total J.structure
jobs_have_edges_out = total_job

pub a_look_without_a_node : (t : Table) × Happens lent (bytes job2) (look 255 1 2) t (accepted (1 ∷ [])) t
a_look_without_a_node = looked

pub a_job_with_eg : HasLine (bytes ring_job) 1 (Eg 0)
a_job_with_eg = has_eg

pub a_job_with_ag : HasLine (bytes implies_job) 1 (Ag 0)
a_job_with_ag = has_ag

pub calls_all_along :
    (calls : ListOfCalls (bytes ring_job))
    × (calls_of calls
    ≡ (step 0, accepted (2 ∷ []))
    ∷ (step 1, accepted (2 ∷ []))
    ∷ (close, accepted (1 ∷ 4 ∷ []))
    ∷ (offer 0 1, accepted (0 ∷ 1 ∷ 1 ∷ []))
    ∷ (accept 1 0 1 1, accepted (0 ∷ []))
    ∷ [])
calls_all_along = ring_example

pub accepted_texts_let_through : (x : Text) → Accepted x → LetThrough x
accepted_texts_let_through = accepted_let_through

pub let_through_and_wrong :
    LetThrough (bytes lower_job) × ((edge_lines (bytes lower_job)).test ≡ false) × ((edges_out (bytes lower_job)).test ≡ false)
let_through_and_wrong = (lower_through, lower_fails.0, lower_fails.1)

pub calls_with_pages :
    (calls : ListOfCalls (bytes job_v))
    × (calls_of calls
    ≡ (page 0 240, accepted [])
    ∷ (step 0, accepted (4 ∷ []))
    ∷ (page 0 240, accepted [])
    ∷ (page 0 239, refused 24 0 0)
    ∷ (page 2 239, refused 11 0 0)
    ∷ [])
calls_with_pages = page_example

pub two_pages_accepted :
    (t : Table)
    × (u : Table)
    × ((b : List ℕ) → length b ≡ 240 → (w : List ℕ) × Pages lent (bytes job_v) t 0 b (accepted []) w)
    × ((b : List ℕ) → length b ≡ 240 → (w : List ℕ) × Pages lent (bytes job_v) u 0 b (accepted []) w)
    × (SameCells (decode (bytes job_v)) 0 t u → ⊥)
two_pages_accepted = paged
