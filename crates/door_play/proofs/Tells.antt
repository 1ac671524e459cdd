-- What a played group tells, before a call and behind it.
use Rattle.std.proofs.Common.{◌≡◌, ℕ, ◌+◌, false, true, List, [], ◌∷◌, ◌++◌, append-nil, length, length-append, map, refl, sym, ap, ◌∙◌, subst, Some, None, arith}
use Rattle.std.specs.List.{AllByRecursion}
use Rattle.std.proofs.lemmas.List.{append_cancel_left, length-map, map-append}
use Rattle.harp_types.specs.declared.call.Call.{Call}
use Rattle.harp_types.specs.declared.cred.Cred.{Cred}
use Rattle.harp_types.specs.declared.reply.Reply.{Reply}
use Rattle.trace_types.specs.declared.step.Step.{Step}
use Rattle.file_tree.specs.Calls.{outcome}
use Rattle.file_tree.specs.Tree.{Tree, first_tree}
use Rattle.group_trace.specs.Pump.{spelled_out}
use Rattle.group_trace.specs.Refusals.{refusal}
use Rattle.group_trace.specs.Run.{next, run, run_lines}
use Rattle.group_trace.specs.Scene.{Measures, Scene, first_scene}
use Rattle.group_trace.specs.DiskCalls.{Spellings, measures_of}
use Rattle.group_trace.specs.DiskRun.{DiskScene, disk_run, first_disk_scene}
use Rattle.rpc_door.specs.declared.group.Exchange.{Exchange}
use Rattle.rpc_door.specs.Results.{is_reply_to}
use Rattle.schedule_play.specs.Reading.{Reading, all_read, then_read, unless_refused, with_steps}
use Rattle.door_play.specs.Played.{HasAnswered, HasGivenUp, calls_of, reading_of_calls}
use Rattle.door_play.specs.Replies.{answers_in, numbered_from, replies_from, replies_to, stamp}
use Rattle.door_play.specs.Steps.{cut, opening, steps_of_call, taken_from}
use Rattle.door_play.specs.Laws.{AnswersAreReplies, HasBytes, OneCallMore, OnlyFullNetRefuses, ReadStepsAreTaken, RepliesFit}
use Rattle.door_play.specs.OnTheWay.{HasHeard, HasStopped, taken_then}
use Rattle.door_play.specs.Told.{AreOf, HasTold, HasToldOf}

-- what is known of the calls of a door
pub record DoorLaws : Type 0 where
  pub answers : AnswersAreReplies
  pub full : OnlyFullNetRefuses
  pub taken : ReadStepsAreTaken
  pub more : OneCallMore
  pub fits : RepliesFit

-- ---- replies

numbered_more : (k : ℕ) (rs more : List Reply)
    → numbered_from k (rs ++ more) ≡ numbered_from k rs ++ numbered_from (k + length rs) more
unfolding numbered_from
numbered_more k [] more = let same : k + 0 ≡ k = omega arith in ap (λ n. numbered_from n more) (sym same)
numbered_more k (r ∷ rs) more =
    let same : k + 1 + length rs ≡ k + length (r ∷ rs) = omega arith in
    ap (λ xs. (k, r) ∷ xs) (numbered_more (k + 1) rs more
    ∙ ap (λ n. numbered_from (k + 1) rs ++ numbered_from n more) same)

-- the tree after calls
tree_behind : Cred → Tree → List Call → Tree
tree_behind cred tree [] = tree
tree_behind cred tree (c ∷ cs) = tree_behind cred (outcome tree cred (cut c) stamp).1 cs

-- the reply to one call more
pub last_reply : Cred → List Call → Call → Reply
last_reply cred calls c = (outcome (tree_behind cred first_tree calls) cred (cut c) stamp).0

replies_more_from : (cred : Cred) (tree : Tree) (calls : List Call) (c : Call)
    → replies_from cred tree (calls ++ c ∷ []) ≡ replies_from cred tree calls
    ++ (outcome (tree_behind cred tree calls) cred (cut c) stamp).0 ∷ []
unfolding replies_from tree_behind
replies_more_from cred tree [] c = refl
replies_more_from cred tree (d ∷ calls) c =
    ap (λ rs. (outcome tree cred (cut d) stamp).0 ∷ rs)
    (replies_more_from cred (outcome tree cred (cut d) stamp).1 calls c)

replies_more : (cred : Cred) (calls : List Call) (c : Call)
    → replies_to cred (calls ++ c ∷ []) ≡ replies_to cred calls ++ last_reply cred calls c ∷ []
unfolding last_reply
replies_more cred calls c = replies_more_from cred first_tree calls c

pub last_fits : (laws : DoorLaws) (cred : Cred) (calls : List Call) (c : Call)
    → is_reply_to c (last_reply cred calls c) ≡ true
unfolding last_reply
last_fits laws cred calls c = laws.fits (tree_behind cred first_tree calls) cred c stamp

numbered_one : (k : ℕ) (r : Reply) → numbered_from k (r ∷ []) ≡ (k, r) ∷ []
unfolding numbered_from
numbered_one k r = refl

-- ---- what is read

same_on : (m : Measures) (ss : List Step) (one other : Scene → Reading) (w : Scene)
    → ((v : Scene) → one v ≡ other v) → with_steps m 0 ss one w ≡ with_steps m 0 ss other w
unfolding with_steps
same_on m [] one other w e = e w
same_on m (s ∷ ss) one other w e =
    ap (λ r. unless_refused 0 (refusal m w s) (then_read (s ∷ []) r))
    (same_on m ss one other (next m w s) e)

pub taken_is : (m : Measures) (ss : List Step) (w : Scene)
    → taken_from m ss w ≡ taken_then m ss (λ v. all_read) w
unfolding taken_then
taken_is m [] w = refl
taken_is m (s ∷ ss) w =
    same_on m (spelled_out m w s) (taken_from m ss) (taken_then m ss (λ v. all_read)) w
    (λ v. taken_is m ss v)

-- behind all that is read no step was refused, and the steps are those that were taken
record IsThrough (all : Reading) (done : List Step) : Type 0 where
  free : all.refused ≡ None
  steps : all.steps ≡ done

through : (all : Reading) (done : List Step) → all ≡ then_read done all_read → IsThrough all done
through all done is = record {
  free = ap (λ (r : Reading). r.refused) is;
  steps = ap (λ (r : Reading). r.steps) is ∙ append-nil done;
}

-- ---- the opening

-- before its view is opened a door has heard nothing
pub begins : (f : Spellings) (cred : Cred) (stands : DiskScene → Type 0) → stands first_disk_scene
    → HasHeard f (reading_of_calls (measures_of f) cred [])
    (taken_then (measures_of f) opening (λ v. all_read)) [] stands
unfolding run run_lines disk_run answers_in
begins f cred stands first =
    let m = measures_of f in
    record {
      done = [];
      taken = tt;
      reading_is = ap (λ ss. taken_from m ss first_scene) (append-nil opening)
          ∙ taken_is m opening first_scene;
      said = refl;
      left = first;
    }

none_numbered : numbered_from 1 [] ≡ []
unfolding numbered_from
none_numbered = refl

no_replies : (cred : Cred) → replies_to cred [] ≡ []
unfolding replies_from
no_replies cred = refl

-- once it is open it has answered no call
pub opened : (laws : DoorLaws) (f : Spellings) (cred : Cred) (stands : DiskScene → Type 0)
    (goes_on : Type 0) (heard : List (ℕ × Reply))
    → HasHeard f (reading_of_calls (measures_of f) cred []) (λ v. all_read) heard stands
    → HasTold f 1 goes_on stands cred []
opened laws f cred stands goes_on heard h bytes made =
    let m = measures_of f in
    let all = reading_of_calls m cred [] in
    let t = through all h.done h.reading_is in
    record {
      answered = record {
        replies = sym (no_replies cred);
        taken = t.free;
        said = laws.answers m cred [] bytes t.free ∙ ap (numbered_from 1) (no_replies cred);
      };
      next_is = refl;
      left = λ goes. subst (λ ss. stands (disk_run f first_disk_scene ss)) (sym t.steps) h.left;
    }

-- a step was refused, so the network is full
pub given_up : (laws : DoorLaws) (f : Spellings) (cred : Cred) (calls : List Call)
    (stands : DiskScene → Type 0)
    → HasStopped f (reading_of_calls (measures_of f) cred calls) stands
    → HasBytes (measures_of f) → HasGivenUp f cred calls stands
given_up laws f cred calls stands h bytes =
    let m = measures_of f in
    let full = laws.full m cred calls bytes (0, h.fault) h.refused in
    record { refused = h.refused ∙ ap (λ x. Some x) full; left = h.left }

-- ---- a call

-- before a call its steps are still read where those of the calls before led
pub asks : (laws : DoorLaws) (f : Spellings) (cred : Cred) (made : List Exchange) (next : ℕ)
    (c : Call) (goes_on : Type 0) (stands : DiskScene → Type 0) → goes_on
    → (t : HasToldOf f next goes_on stands cred made)
    → HasHeard f (reading_of_calls (measures_of f) cred (calls_of made ++ c ∷ []))
    (taken_then (measures_of f) (steps_of_call cred next c) (λ v. all_read))
    (numbered_from 1 (map (λ x. x.reply) made)) stands
asks laws f cred made next c goes_on stands goes t =
    let m = measures_of f in
    let calls = calls_of made in
    let done = (reading_of_calls m cred calls).steps in
    let w = run m first_scene done in
    let number : length calls + 1 ≡ next =
    ap (λ n. n + 1) (length-map made (λ x. x.call)) ∙ sym t.next_is in
    record {
      done = done;
      taken = laws.taken m cred calls;
      reading_is = laws.more m cred calls c t.answered.taken
          ∙ ap (λ n. then_read done (taken_from m (steps_of_call cred n c) w)) number
          ∙ ap (then_read done) (taken_is m (steps_of_call cred next c) w);
      said = t.answered.said;
      left = t.left goes;
    }

-- behind it just one answer more was heard
pub one_heard : (laws : DoorLaws) (f : Spellings) (cred : Cred) (made : List Exchange) (c : Call)
    (stands : DiskScene → Type 0) (heard : List (ℕ × Reply)) → HasBytes (measures_of f)
    → HasAnswered f cred made
    → HasHeard f (reading_of_calls (measures_of f) cred (calls_of made ++ c ∷ [])) (λ v. all_read)
    (numbered_from 1 (map (λ x. x.reply) made) ++ heard) stands
    → heard ≡ (1 + length made, last_reply cred (calls_of made) c) ∷ []
one_heard laws f cred made c stands heard bytes answered h =
    let m = measures_of f in
    let calls = calls_of made in
    let all = reading_of_calls m cred (calls ++ c ∷ []) in
    let old = map (λ x. x.reply) made in
    let r = last_reply cred calls c in
    let t = through all h.done h.reading_is in
    let told = sym (ap (λ ss. answers_in (run_lines m first_scene ss)) t.steps ∙ h.said)
    ∙ laws.answers m cred (calls ++ c ∷ []) bytes t.free
    ∙ ap (numbered_from 1) (replies_more cred calls c
    ∙ ap (λ rs. rs ++ r ∷ []) (sym answered.replies))
    ∙ numbered_more 1 old (r ∷ []) in
    append_cancel_left (numbered_from 1 old) heard (numbered_from (1 + length old) (r ∷ [])) told
    ∙ numbered_one (1 + length old) r
    ∙ ap (λ n. (1 + n, r) ∷ []) (length-map made (λ x. x.reply))

-- and the call is one that was answered
pub tells_more : (laws : DoorLaws) (f : Spellings) (cred : Cred) (made : List Exchange)
    (x : Exchange) (next : ℕ) (old_on new_on : Type 0) (old new : DiskScene → Type 0)
    (heard : List (ℕ × Reply)) → HasBytes (measures_of f)
    → (t : HasToldOf f next old_on old cred made)
    → x.reply ≡ last_reply cred (calls_of made) x.call
    → HasHeard f (reading_of_calls (measures_of f) cred (calls_of made ++ x.call ∷ []))
    (λ v. all_read) heard new
    → HasToldOf f (next + 1) new_on new cred (made ++ x ∷ [])
tells_more laws f cred made x next old_on new_on old new heard bytes t is h =
    let m = measures_of f in
    let calls = calls_of made in
    let calls_are : calls_of (made ++ x ∷ []) ≡ calls ++ x.call ∷ [] =
    map-append (λ y. y.call) made (x ∷ []) in
    let reads = reading_of_calls m cred (calls ++ x.call ∷ []) in
    let g = through reads h.done h.reading_is in
    let replies_are : map (λ y. y.reply) (made ++ x ∷ []) ≡ replies_to cred (calls ++ x.call ∷ []) =
    map-append (λ y. y.reply) made (x ∷ [])
    ∙ ap (λ rs. rs ++ x.reply ∷ []) t.answered.replies
    ∙ ap (λ r. replies_to cred calls ++ r ∷ []) is
    ∙ sym (replies_more cred calls x.call) in
    let free = ap (λ cs. (reading_of_calls m cred cs).refused) calls_are ∙ g.free in
    record {
      answered = record {
        replies = replies_are ∙ ap (replies_to cred) (sym calls_are);
        taken = free;
        said = laws.answers m cred (calls_of (made ++ x ∷ [])) bytes free
            ∙ ap (numbered_from 1) (ap (replies_to cred) calls_are ∙ sym replies_are);
      };
      next_is = ap (λ n. n + 1) t.next_is
          ∙ ap (λ n. n + 1) (sym (length-append made (x ∷ [])));
      left = λ goes. subst (λ ss. new (disk_run f first_disk_scene ss))
          (sym (ap (λ cs. (reading_of_calls m cred cs).steps) calls_are ∙ g.steps)) h.left;
    }

-- the calls before the last were by the same user and group, and fewer
pub of_before : (cred : Cred) (made : List Exchange) (x : Exchange) → AreOf cred (made ++ x ∷ [])
    → AreOf cred made
of_before cred made x h =
    let counted = length-append made (x ∷ []) in
    let few = h.few in
    record {
      creds = all_before cred made x h.creds;
      few = omega (arith, counted, few);
    }
  where
    all_before : (cred : Cred) (made : List Exchange) (x : Exchange)
        → AllByRecursion (λ y. y.cred ≡ cred) (made ++ x ∷ []) → AllByRecursion (λ y. y.cred ≡ cred) made
    all_before cred [] x all = tt
    all_before cred (y ∷ made) x all = (all.0, all_before cred made x all.1)

pub last_of : (cred : Cred) (made : List Exchange) (x : Exchange) → AreOf cred (made ++ x ∷ [])
    → x.cred ≡ cred
last_of cred made x h = by made h.creds
  where
    by : (made : List Exchange) → AllByRecursion (λ y. y.cred ≡ cred) (made ++ x ∷ []) → x.cred ≡ cred
    by [] all = all.0
    by (y ∷ made) all = by made all.1

-- a group that goes on no more has answered what it had answered
pub tells-same : (f : Spellings) (next now : ℕ) (opens : Type 0) (here there : DiskScene → Type 0)
    (start : Cred) (before : List Exchange) → now ≡ next → HasTold f next opens here start before
    → HasTold f now (false ≡ true) there start (before ++ [])
tells-same f next now opens here there start before same told =
    subst (λ xs. HasTold f now (false ≡ true) there start xs) (sym (append-nil before))
    (λ bytes of_.
    let t = told bytes of_ in
    record {
      answered = t.answered;
      next_is = same ∙ t.next_is;
      left = λ (on : false ≡ true). absurd cc;
    })
