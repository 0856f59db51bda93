-- An answer's numbers as they are stored, how many each answer has, and that `selahmur_line` names the part that the call line hands back.
-- Assumes nothing.
use Prim.Native.Nat.{ℕ, ◌+◌, ◌≤◌}
use mathlib.Core.Path.{◌≡◌, refl, ap, subst, ◌∙◌}
use mathlib.Core.List.{List, [], ◌∷◌}
use native.Mathlib.Omega.{arith}
use lib.ListN.{length, take, drop, length-replicate}
use Rattle.text.specs.Field.{Text}
use Rattle.job.specs.Job.{Job, decode}
use Rattle.job.specs.Answer.{Answer, numbers}
use Rattle.job.specs.Question.{Question, answered}
use Rattle.job.specs.Read.{line_start, line_length, line_of}
use Rattle.job.proofs.QuestionLaws.{by_refusal, answered_none, answered_some}
use Rattle.rule_text.specs.RuleCall.{rule_lines, rule_questions, rule_answer}
use Rattle.cells.specs.Table.{Table}
use Rattle.cells.specs.Calls.{Call, fresh, step, offer, accept, look, close, finish, page, width, told, questions, answer}
use Rattle.numbers.specs.Stored.{stored}
use Rattle.numbers.proofs.StoredLaws.{stored_front}
use Rattle.selahmur.specs.StoredAnswer.{stored_answer}

-- the numbers of what a call told, which is its answer
pub stored_told : (out : List ℕ) {last : List ℕ} {a b : Answer} → a ≡ b → last ≡ stored out (numbers a) → last ≡ stored out (numbers b)
stored_told out same e = e ∙ ap (λ a. stored out (numbers a)) same

own_width : (c : Call) (J : Job) (t : Table) → length (told c J t) ≡ width c
unfolding told width
own_width fresh J t = refl
own_width (step n) J t = refl
own_width (offer s k) J t = refl
own_width (accept n s k v) J t = refl
own_width (look n s k) J t = refl
own_width close J t = refl
own_width finish J t = refl
own_width (page n room) J t = refl

-- number, line, and as many numbers as a call has of its own, whatever it asks
answered_width : (qs : List Question) (others : ℕ) (own : List ℕ) → length own ≡ others → length (numbers (answered qs others own)) ≡ 2 + others
unfolding numbers
answered_width qs others own same =
    by_refusal qs
    (λ e. rw (answered_none qs others own e) (omega (arith, same)))
    (λ q e. rw (answered_some qs others own q e) (omega (arith, length-replicate {A = ℕ} others 0)))

pub answer_width : (c : Call) (x : Text) (t : Table) → length (numbers (answer c x t)) ≡ 2 + width c
unfolding answer
answer_width c x t = answered_width (questions c x t) (width c) (told c (decode x) t) (own_width c (decode x) t)

pub rule_width : (x : Text) (buffer : List ℕ) → length (numbers (rule_answer x buffer)) ≡ 3
unfolding rule_answer
rule_width x buffer = answered_width (rule_questions x buffer) 1 (length (rule_lines x) ∷ []) refl

-- so an array with room for that many begins with the answer, all of it
all_stored : (out ns : List ℕ) (n : ℕ) → length ns ≡ n → n ≤ length out → take n (stored out ns) ≡ ns
all_stored out ns n w room = subst (λ m. take m (stored out ns) ≡ ns) w (stored_front out ns (omega (arith, w)))

pub answer_stored : (c : Call) (x : Text) (t : Table) (out : List ℕ) → 2 + width c ≤ length out
    → take (2 + width c) (stored_answer out c x t) ≡ numbers (answer c x t)
answer_stored c x t out = all_stored out (numbers (answer c x t)) (2 + width c) (answer_width c x t)

pub rule_stored : (x : Text) (buffer out : List ℕ) → 3 ≤ length out
    → take 3 (stored out (numbers (rule_answer x buffer))) ≡ numbers (rule_answer x buffer)
rule_stored x buffer out = all_stored out (numbers (rule_answer x buffer)) 3 (rule_width x buffer)

-- the bytes that start and length name are the line
pub line_named : (x : Text) (l : ℕ) → take (line_length x l) (drop (line_start x l) x) ≡ line_of x l
unfolding line_of
line_named x l = refl
