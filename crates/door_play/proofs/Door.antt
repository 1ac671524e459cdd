-- The calls of a door, one after the other.
use Rattle.std.proofs.Common.{◌≡◌, ℕ, suc, ◌+◌, ◌-◌, ◌%◌, ◌<◌, ◌≤◌, ◌==◌, if◌then◌else◌, true, List, [], ◌∷◌, ◌++◌, length, Option, None, Some, refl, sym, ap, ◌∙◌, subst, inl, inr, arith}
use Rattle.std.proofs.lemmas.Bool.{cases_Bool}
use Rattle.harp_types.specs.declared.call.Call.{Call}
use Rattle.harp_types.specs.declared.cred.Cred.{Cred}
use Rattle.harp_types.specs.declared.reply.Reply.{Reply}
use Rattle.harp_types.specs.Update.{is_update}
use Rattle.trace_types.specs.declared.line.LineFault.{LineFault}
use Rattle.trace_types.specs.declared.step.Step.{Step}
use Rattle.trace_types.specs.declared.step.Step.TheVariants as step
use Rattle.file_tree.specs.Book.{Entry}
use Rattle.file_tree.specs.Calls.{outcome}
use Rattle.file_tree.specs.Tree.{Tree, first_tree}
use Rattle.group_rules.specs.Ask.{new_entry}
use Rattle.group_rules.proofs.Tests.{by_if}
use Rattle.group_trace.specs.Run.{run, run_lines}
use Rattle.group_trace.specs.Scene.{Measures, Scene, first_scene}
use Rattle.group_trace.specs.Pump.{most_deliveries}
use Rattle.schedule_play.specs.Reading.{Reading, with_step}
use Rattle.door_play.specs.Played.{reading_of_calls}
use Rattle.door_play.specs.Replies.{answers_in, numbered_from, replies_from, replies_to}
use Rattle.door_play.specs.Steps.{cut, door_steps, steps_of_call, steps_of_calls, taken_from, upkeep}
use Rattle.door_play.specs.Laws.{AnswersAreReplies, AnswersGoOn, HasBytes, OneAnswerMore, OneCallMore, OnlyFullNetRefuses, ReadStepsAreTaken, RefusedStays}
use Rattle.rpc_door.specs.Results.{is_reply_to}
use Rattle.door_play.proofs.Answered.{answers-append}
use Rattle.door_play.proofs.Forms.{replies_fit}
use Rattle.door_play.proofs.Opening.{first_known, opens}
use Rattle.door_play.proofs.ReadCalls.{after_read, read_call}
use Rattle.door_play.proofs.Readings.{Answers, door_more, lines-append, nothing_read, pumped, read_are_taken, read_on, read_stays, then_steps}
use Rattle.door_play.proofs.Ready.{Knows, Ready, after_update, asked_step, reply_of_update, update_call}
use Rattle.door_play.proofs.Upkeep.{kept_up}

-- what is left of the steps of the call with this number
abbrev left : ℕ → List Step
left number = if number % 64 == 0 then upkeep else []

-- the upkeep comes after each 64th call
maybe_kept_up : (m : Measures) (v : Scene) (es : List Entry) (number most : ℕ) (ss : List Step)
    (ys : List (ℕ × Reply)) → Ready v es (most + 1) → 0 < number → most ≤ (number - 1) % 64
    → ((v : Scene) (most : ℕ) → most ≤ number % 64 → Ready v es most
    → Answers m v ys (taken_from m ss v))
    → Answers m v ys (taken_from m (left number ++ ss) v)
maybe_kept_up m v es number most ss ys r some few more =
    by_if (λ (x : List Step). Answers m v ys (taken_from m (x ++ ss) v))
    (number % 64 == 0) upkeep []
    (λ e. kept_up m v es (most + 1) ss ys r (omega arith) (λ v r. more v 0 (omega arith) r))
    (λ e. let other : (number % 64 ≡ 0) → ⊥ = λ z. cc in
    more v (most + 1) (omega (arith, other)) r)

served : (m : Measures) (cred : Cred) (calls : List Call) (w : Scene) (es : List Entry)
    (number most : ℕ) (tree : Tree) → Ready w es most → Knows es number tree → 0 < number
    → most ≤ (number - 1) % 64 → HasBytes m
    → Answers m w (numbered_from number (replies_from cred tree calls))
    (taken_from m (steps_of_calls cred number calls) w)
unfolding numbered_from replies_from
served m cred [] w es number most tree r known some recent bytes = nothing_read m w
served m cred (c ∷ calls) w es number most tree r known some recent bytes =
    let x = cut c in
    let after = (outcome tree cred x 2050).1 in
    let e = new_entry 2050 es 0 number cred x in
    let ss = steps_of_calls cred (number + 1) calls in
    let ys = numbered_from (number + 1) (replies_from cred after calls) in
    let rest = taken_from m (left number ++ ss) in
    then_steps m w (asked_step number cred x) (step.Pump None ∷ (left number ++ ss)) _ refl
    (elim (cases_Bool (is_update x)) [
      | inl u ↦
          subst (λ (reply : Reply). Answers m w ((number, reply) ∷ ys)
          (with_step m 0 (asked_step number cred x) (pumped m most_deliveries rest) w))
          (reply_of_update es number tree cred x known)
          (update_call m w es most number tree cred x rest ys r known u (omega arith) bytes
          (λ v r. maybe_kept_up m v (es ++ e ∷ []) number most ss ys r some recent
          (λ v most recent r. served m cred calls v (es ++ e ∷ []) (number + 1) most after r
          (after_update es number tree cred x u known) (omega arith) (omega arith) bytes)))
      | inr u ↦
          read_call m w es most number tree cred x rest ys r known u
          (λ v r. maybe_kept_up m v es number most ss ys r some recent
          (λ v most recent r. served m cred calls v es (number + 1) most after r
          (after_read es number tree cred x u known) (omega arith) (omega arith) bytes))
    ])

answered : (m : Measures) (cred : Cred) (calls : List Call) → HasBytes m
    → Answers m first_scene (numbered_from 1 (replies_to cred calls))
    (reading_of_calls m cred calls)
answered m cred calls bytes =
    opens m (steps_of_calls cred 1 calls) _
    (λ v r. served m cred calls v [] 1 0 first_tree r first_known (omega arith) (omega arith) bytes)

pub answers_are_replies : AnswersAreReplies
answers_are_replies m cred calls bytes taken = (answered m cred calls bytes).said_are taken

pub only_full_net_refuses : OnlyFullNetRefuses
only_full_net_refuses m cred calls bytes x refused = (answered m cred calls bytes).full x refused

pub read_steps_are_taken : ReadStepsAreTaken
read_steps_are_taken m cred calls = read_are_taken m (door_steps cred calls) first_scene

pub one_call_more : OneCallMore
one_call_more m cred calls c taken =
    ap (λ (ss : List Step). taken_from m ss first_scene) (door_more cred calls c)
    ∙ read_on m (door_steps cred calls) _ first_scene taken

pub answers_go_on : AnswersGoOn
answers_go_on m cred calls c taken =
    let old = (reading_of_calls m cred calls).steps in
    let new = (taken_from m (steps_of_call cred (length calls + 1) c)
    (run m first_scene old)).steps in
    ap (λ (r : Reading). answers_in (run_lines m first_scene r.steps))
    (one_call_more m cred calls c taken)
    ∙ ap answers_in (lines-append m old new first_scene)
    ∙ answers-append (run_lines m first_scene old) (run_lines m (run m first_scene old) new)

pub refused_stays : RefusedStays
refused_stays m cred calls c x refused =
    ap (λ (ss : List Step). taken_from m ss first_scene) (door_more cred calls c)
    ∙ read_stays m (door_steps cred calls) _ first_scene x refused

-- ---- one answer more

-- the reply to a call after others
abbrev reply_after : Cred → Tree → List Call → Call → Reply
reply_after cred tree [] c = (outcome tree cred (cut c) 2050).0
reply_after cred tree (x ∷ calls) c = reply_after cred (outcome tree cred (cut x) 2050).1 calls c

replies_more : (cred : Cred) (tree : Tree) (calls : List Call) (c : Call)
    → replies_from cred tree (calls ++ c ∷ [])
    ≡ replies_from cred tree calls ++ reply_after cred tree calls c ∷ []
unfolding replies_from
replies_more cred tree [] c = refl
replies_more cred tree (x ∷ calls) c =
    ap (λ (rs : List Reply). (outcome tree cred (cut x) 2050).0 ∷ rs)
    (replies_more cred (outcome tree cred (cut x) 2050).1 calls c)

as_many : (cred : Cred) (tree : Tree) (calls : List Call)
    → length (replies_from cred tree calls) ≡ length calls
unfolding replies_from
as_many cred tree [] = refl
as_many cred tree (x ∷ calls) = ap suc (as_many cred (outcome tree cred (cut x) 2050).1 calls)

form_after : (cred : Cred) (tree : Tree) (calls : List Call) (c : Call)
    → is_reply_to c (reply_after cred tree calls c) ≡ true
form_after cred tree [] c = replies_fit tree cred c 2050
form_after cred tree (x ∷ calls) c = form_after cred (outcome tree cred (cut x) 2050).1 calls c

numbered_more : (number : ℕ) (rs : List Reply) (r : Reply)
    → numbered_from number (rs ++ r ∷ []) ≡ numbered_from number rs ++ (length rs + number, r) ∷ []
unfolding numbered_from
numbered_more number [] r = ap (λ (n : ℕ). (n, r) ∷ []) (omega arith)
numbered_more number (x ∷ rs) r =
    ap (λ (xs : List (ℕ × Reply)). (number, x) ∷ xs)
    (numbered_more (number + 1) rs r
    ∙ ap (λ (n : ℕ). numbered_from (number + 1) rs ++ (n, r) ∷ []) (omega arith))

-- what is refused of the calls before is refused of all
before_is : (m : Measures) (cred : Cred) (calls : List Call) (c : Call)
    (o : Option (ℕ × LineFault)) → (reading_of_calls m cred calls).refused ≡ o
    → (reading_of_calls m cred (calls ++ c ∷ [])).refused ≡ None
    → (reading_of_calls m cred calls).refused ≡ None
before_is m cred calls c None is taken = is
before_is m cred calls c (Some x) is taken =
    let same = refused_stays m cred calls c x is in
    sym (ap (λ (r : Reading). r.refused) same) ∙ taken

pub one_answer_more : OneAnswerMore
one_answer_more m cred calls c bytes taken =
    let r = reply_after cred first_tree calls c in
    let before = before_is m cred calls c (reading_of_calls m cred calls).refused refl taken in
    let more = replies_more cred first_tree calls c in
    record {
      reply = r;
      replies = more;
      before = before;
      answers = answers_are_replies m cred (calls ++ c ∷ []) bytes taken
          ∙ ap (numbered_from 1) more
          ∙ numbered_more 1 (replies_to cred calls) r
          ∙ ap (λ (n : ℕ). numbered_from 1 (replies_to cred calls) ++ (n + 1, r) ∷ [])
          (as_many cred first_tree calls)
          ∙ ap (λ (xs : List (ℕ × Reply)). xs ++ (length calls + 1, r) ∷ [])
          (sym (answers_are_replies m cred calls bytes before));
      form = form_after cred first_tree calls c;
    }
