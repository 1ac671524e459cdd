-- How many calls a step answers.
use Rattle.std.proofs.Common.{◌≡◌, ℕ, suc, ◌+◌, ◌-◌, ◌≤◌, true, false, List, [], ◌∷◌, ◌++◌, length, refl, ap, ◌∙◌, arith}
use Rattle.std.proofs.lemmas.Grind.{flat_map-append}
use Rattle.file_tree.specs.Book.{Entry}
use Rattle.group_rules.specs.Form.{role_of}
use Rattle.group_rules.specs.Moves.{Accepting, Appending, Heeding, Move, Noting, Reading, Saying}
use Rattle.group_rules.specs.Places.{Place}
use Rattle.group_rules.specs.Replicate.{answers}
use Rattle.group_rules.specs.Said.{Answer, answered_by, answers_said}
use Rattle.group_rules.specs.State.{Ack, Answers, Lists, Open, Refuses, Server}
use Rattle.group_rules.specs.Step.{Ask, Comes, Does, Input as Begins}
use Rattle.harp_types.specs.declared.call.Call.{Call}
use Rattle.harp_types.specs.declared.cred.Cred.{Cred}
use Rattle.trace_laws.proofs.MoveKinds.{AreMild, AreTail, IsMild, Kind, accepts, appends, commits, fronts_mild, heeds, mild, notes, plain, reads, repeats, tails_mild}

-- ---- moves that answer nobody

mild_answers : (m : Move Entry) → IsMild m → answered_by m ≡ []
mild_answers (Saying (Answers n e)) h = absurd h
mild_answers (Saying (Refuses client number cause)) h = refl
mild_answers (Saying (Lists n)) h = refl
mild_answers (Reading n e) h = absurd h
mild_answers m h = refl

milds_answer : (ms : List (Move Entry)) → AreMild ms → answers_said ms ≡ []
milds_answer [] h = refl
milds_answer (m ∷ ms) h = ap (λ (xs : List Answer). xs ++ answers_said ms) (mild_answers m h.0)
    ∙ milds_answer ms h.1

tails_answer : (ms : List (Move Entry)) → AreTail ms → answers_said ms ≡ []
tails_answer ms h = milds_answer ms (tails_mild ms h)

-- behind moves that answer nobody
answered_last : (a b : List (Move Entry)) → answers_said a ≡ [] → answers_said (a ++ b)
    ≡ answers_said b
answered_last a b none = flat_map-append answered_by a b
    ∙ ap (λ (xs : List Answer). xs ++ answers_said b) none

each_answer : (n : ℕ) (es : List Entry) (after : List (Move Entry)) → answers_said after ≡ []
    → length (answers_said (answers n es ++ after)) ≡ length es
each_answer n [] after none = ap (λ (xs : List Answer). length xs) none
each_answer n (e ∷ es) after none = ap (λ k. suc k) (each_answer (n + 1) es after none)

-- ---- steps

-- how many answers a step may give: one to an ask, and to an Ack one for each of so many records
pub record MayAnswer (s : Server Entry) (i : Begins) (most : ℕ) : Type 0 where
  pub ask : (client number : ℕ) (cred : Cred) (call : Call)
      → i ≡ Does (Ask client number cred call) → 1 ≤ most
  pub ack : (from : Place) (t lb until : ℕ) → s.mode ≡ Open
      → i ≡ Comes from (Ack s.accepted t lb until) → t - s.cp ≤ most

-- what comes to one answer and then a tail
one_answer : (x : Answer) (after : List (Move Entry)) (most : ℕ) → AreTail after → 1 ≤ most
    → length (x ∷ answers_said after) ≤ most
one_answer x after most t le =
    omega (arith, le, ap (λ (xs : List Answer). length xs) (tails_answer after t))

no_answer : (ms : List (Move Entry)) (most : ℕ) → answers_said ms ≡ []
    → length (answers_said ms) ≤ most
no_answer ms most none = omega (arith, ap (λ (xs : List Answer). length xs) none)

pub answers_few : (q : Place) (clock : ℕ) (s : Server Entry) (i : Begins) (most : ℕ)
    → MayAnswer s i most → (ms : List (Move Entry)) → Kind q clock s i ms
    → length (answers_said ms) ≤ most
answers_few q clock s i most may _ (plain _ (mild ms h)) = no_answer ms most (milds_answer ms h)
answers_few q clock s i most may _ (plain _ (accepts plan n before after f t)) =
    no_answer (before ++ Accepting plan (role_of plan.storers q) n ∷ after) most
    (answered_last before (Accepting plan (role_of plan.storers q) n ∷ after)
    (milds_answer before (fronts_mild before f)) ∙ tails_answer after t)
answers_few q clock s i most may _ (plain _ (heeds items cp base after t)) =
    no_answer (Heeding items cp base ∷ after) most (tails_answer after t)
answers_few q clock s i most may _ (appends e after o is u t) =
    no_answer (Appending e ∷ after) most (tails_answer after t)
answers_few q clock s i most may _ (reads e after o is u l t) =
    one_answer (record { index = s.cp; entry = e; reads = true }) after most t
    (may.ask e.client e.number e.cred e.call is)
answers_few q clock s i most may _ (repeats index e client number cred call after o is u l t) =
    one_answer (record { index = index; entry = e; reads = false }) after most t
    (may.ask client number cred call is)
answers_few q clock s i most may _ (notes from t lb until after o is tail) =
    no_answer (Noting t lb until ∷ after) most (tails_answer after tail)
answers_few q clock s i most may _ (commits from t lb until es after o is l few tail) =
    omega (
      arith,
      few,
      may.ack from t lb until o is,
      each_answer s.cp es after (tails_answer after tail),
    )
