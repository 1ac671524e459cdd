-- A step of the world, the answers in its lines, and where a door has come then.
use Rattle.std.proofs.Common.{◌≡◌, ◌≢◌, ℕ, ◌+◌, ◌<◌, ◌≤◌, true, List, [], ◌∷◌, ◌++◌, append-nil, append_assoc, arith, drop, get_or, length, set, refl, sym, ap, ◌∙◌, subst, Some, None}
use Rattle.std.specs.Prelude.{IfSome}
use Rattle.std.proofs.lemmas.List.{at_drop_all, drop-set-lt, drop_more}
use Rattle.harp_types.specs.declared.reply.Reply.{Reply}
use Rattle.harp_types.specs.declared.server.ServerId.{ServerId}
use Rattle.trace_types.specs.declared.line.Line.{Line}
use Rattle.trace_types.specs.declared.line.Line.TheVariants as line
use Rattle.trace_types.specs.declared.line.LineFault.{LineFault}
use Rattle.trace_types.specs.declared.step.Step.{Step}
use Rattle.group_trace.specs.Refusals.{refusal}
use Rattle.group_trace.specs.Run.{is_elementary, next, run, run_lines, step_lines}
use Rattle.group_trace.specs.Scene.{Measures, Scene, first_scene}
use Rattle.group_trace.specs.DiskCalls.{Spellings, measures_of}
use Rattle.group_trace.specs.DiskRun.{DiskScene, disk_run, first_disk_scene}
use Rattle.schedule_play.specs.declared.refusal.Refusal.{Refusal}
use Rattle.schedule_play.specs.declared.refusal.Refusal.TheVariants as refusals
use Rattle.schedule_play.specs.Reading.{Reading, then_read, unless_refused, with_step}
use Rattle.schedule_play.specs.Stage.{IsReached, IsRefused, IsTaken, fault_of}
use Rattle.schedule_play.proofs.Runs.{disk_more, disk_scene, reached, run-append, run_lines-append}
use Rattle.schedule_play.proofs.TakenLaws.{taken-more}
use Rattle.door_play.specs.Replies.{answers_in}
use Rattle.door_play.specs.OnTheWay.{HasHeard, HasStopped}

-- ---- answers

one-answer : (l : Line) (ls : List Line) → answers_in (l ∷ ls) ≡ answers_in (l ∷ []) ++ answers_in ls
unfolding answers_in
one-answer (line.Event step) ls = refl
one-answer (line.Entered place entry) ls = refl
one-answer (line.Answered server client number index reply) ls = refl
one-answer (line.Refused server client number cause) ls = refl
one-answer (line.Sent packet from to message) ls = refl
one-answer (line.State server state) ls = refl
one-answer (line.Down server) ls = refl
one-answer (line.Listed server cp objects) ls = refl
one-answer (line.Unlisted server) ls = refl
one-answer (line.Object attr) ls = refl
one-answer (line.Slot dir slot number name) ls = refl
one-answer (line.Block file block bytes) ls = refl
one-answer (line.Text link text) ls = refl
one-answer (line.Bad number fault) ls = refl
one-answer (line.End entered) ls = refl

pub answers-append : (xs ys : List Line) → answers_in (xs ++ ys) ≡ answers_in xs ++ answers_in ys
unfolding answers_in
answers-append [] ys = refl
answers-append (l ∷ xs) ys =
    one-answer l (xs ++ ys) ∙ ap (λ found. answers_in (l ∷ []) ++ found) (answers-append xs ys)
    ∙ sym (append_assoc (answers_in (l ∷ [])) (answers_in xs) (answers_in ys))
    ∙ ap (λ found. found ++ answers_in ys) (sym (one-answer l xs))

-- a line of another kind is no answer
pub no-answer : (l : Line)
    → ((server : ServerId) (client number index : ℕ) (reply : Reply)
    → l ≡ line.Answered server client number index reply → ⊥)
    → answers_in (l ∷ []) ≡ []
unfolding answers_in
no-answer (line.Answered server client number index reply) not =
    absurd (not server client number index reply refl)
no-answer (line.Event step) not = refl
no-answer (line.Entered place entry) not = refl
no-answer (line.Refused server client number cause) not = refl
no-answer (line.Sent packet from to message) not = refl
no-answer (line.State server state) not = refl
no-answer (line.Down server) not = refl
no-answer (line.Listed server cp objects) not = refl
no-answer (line.Unlisted server) not = refl
no-answer (line.Object attr) not = refl
no-answer (line.Slot dir slot number name) not = refl
no-answer (line.Block file block bytes) not = refl
no-answer (line.Text link text) not = refl
no-answer (line.Bad number fault) not = refl
no-answer (line.End entered) not = refl

-- an answer is one
pub this-answer : (server : ServerId) (client number index : ℕ) (reply : Reply)
    → answers_in (line.Answered server client number index reply ∷ []) ≡ (number, reply) ∷ []
unfolding answers_in
this-answer server client number index reply = refl

no_answers : answers_in [] ≡ []
unfolding answers_in
no_answers = refl

-- with no lines
pub answers-none : (before : List (ℕ × Reply)) → before ≡ before ++ answers_in []
answers-none before = sym (append-nil before) ∙ ap (λ found. before ++ found) (sym no_answers)

-- the answer that a line is comes before those of the lines behind it, whatever the line is then
pub answers-next : (heard found : List (ℕ × Reply)) (lines : List Line) (i : ℕ) (l new : Line)
    → i < length lines → l ≡ get_or lines i l → found ≡ heard ++ answers_in (l ∷ [])
    → found ++ answers_in (drop (i + 1) (set lines i new)) ≡ heard ++ answers_in (drop i lines)
answers-next heard found lines i l new lt at is =
    let left = drop (i + 1) lines in
    ap (λ (ls : List Line). found ++ answers_in ls)
    (drop-set-lt (i + 1) lines i new (omega arith))
    ∙ ap (λ (xs : List (ℕ × Reply)). xs ++ answers_in left) is
    ∙ append_assoc heard (answers_in (l ∷ [])) (answers_in left)
    ∙ ap (λ (xs : List (ℕ × Reply)). heard ++ xs) (sym (one-answer l left))
    ∙ ap (λ (x : Line). heard ++ answers_in (x ∷ left)) at
    ∙ ap (λ (ls : List Line). heard ++ answers_in ls) (sym (drop_more lines i l lt))

-- no line is left
pub answers-all : (heard : List (ℕ × Reply)) (lines : List Line) (i : ℕ) → length lines ≤ i
    → heard ≡ heard ++ answers_in (drop i lines)
answers-all heard lines i all =
    answers-none heard
    ∙ sym (at_drop_all (λ (ls : List Line). heard ++ answers_in ls) lines i all)

-- the event line answers nothing
pub answers-behind : (s : Step) (ls : List Line) → answers_in (line.Event s ∷ ls) ≡ answers_in ls
unfolding answers_in
answers-behind s ls = refl

pub answers-more : (m : Measures) (done : List Step) (s : Step) (ls : List Line)
    → line.Event s ∷ ls ≡ step_lines m (run m first_scene done) s
    → answers_in (run_lines m first_scene (done ++ s ∷ []))
    ≡ answers_in (run_lines m first_scene done) ++ answers_in ls
unfolding run_lines
answers-more m done s ls are =
    ap answers_in (run_lines-append m first_scene done (s ∷ []))
    ∙ ap (λ x. answers_in (run_lines m first_scene done ++ x))
    (append-nil (step_lines m (run m first_scene done) s) ∙ sym are)
    ∙ answers-append (run_lines m first_scene done) (line.Event s ∷ ls)
    ∙ ap (λ found. answers_in (run_lines m first_scene done) ++ found) (answers-behind s ls)

-- ---- where a door has come

-- what is still read may be said in other words
pub hears : (f : Spellings) (all : Reading) (here there : Scene → Reading)
    (answers : List (ℕ × Reply)) (stands : DiskScene → Type 0)
    → (h : HasHeard f all here answers stands)
    → here (run (measures_of f) first_scene h.done) ≡ there (run (measures_of f) first_scene h.done)
    → HasHeard f all there answers stands
hears f all here there answers stands h is = record {
  done = h.done;
  taken = h.taken;
  reading_is = h.reading_is ∙ ap (λ r. then_read h.done r) is;
  said = h.said;
  left = h.left;
}

-- what a world says of a step that it took
abbrev pub Takes : Spellings → (DiskScene → Type 0) → (DiskScene → Type 0) → Step → List Line
    → Type 0
Takes f old new s ls = (w : DiskScene) → IsReached f w → old w → IsTaken f w s ls new

run_more : (m : Measures) (done : List Step) (s : Step) → next m (run m first_scene done) s
    ≡ run m first_scene (done ++ s ∷ [])
unfolding run
run_more m done s = sym (run-append m first_scene done (s ∷ []))

read_more : (m : Measures) (all : Reading) (s : Step) (rest : Scene → Reading) (done : List Step)
    → all ≡ then_read done (with_step m 0 s rest (run m first_scene done))
    → refusal m (run m first_scene done) s ≡ None
    → all ≡ then_read (done ++ s ∷ []) (rest (run m first_scene (done ++ s ∷ [])))
read_more m all s rest done is taken =
    let r = rest (next m (run m first_scene done) s) in
    is ∙ ap (λ o. then_read done (unless_refused 0 o (then_read (s ∷ []) r))) taken
    ∙ ap (λ ss. record { steps = ss; refused = r.refused })
    (sym (append_assoc done (s ∷ []) r.steps))
    ∙ ap (λ w. then_read (done ++ s ∷ []) (rest w)) (run_more m done s)

-- a step was taken, and the answers in its lines are heard
pub hears-on : (f : Spellings) (all : Reading) (rest : Scene → Reading)
    (answers : List (ℕ × Reply)) (old new : DiskScene → Type 0) (s : Step) (ls : List Line)
    → is_elementary s ≡ true
    → HasHeard f all (with_step (measures_of f) 0 s rest) answers old
    → Takes f old new s ls
    → HasHeard f all rest (answers ++ answers_in ls) new
hears-on f all rest answers old new s ls e h takes =
    let m = measures_of f in
    let x = disk_run f first_disk_scene h.done in
    let t = takes x (reached f h.done h.taken) h.left in
    let there = disk_scene f h.done in
    let free : refusal m (run m first_scene h.done) s ≡ None =
    sym (ap (λ w. refusal m w s) there) ∙ t.not_refused in
    record {
      done = h.done ++ s ∷ [];
      taken = taken-more m first_scene h.done s h.taken free e;
      reading_is = read_more m all s rest h.done h.reading_is free;
      said = answers-more m h.done s ls (t.lines_are ∙ ap (λ w. step_lines m w s) there)
          ∙ ap (λ found. found ++ answers_in ls) h.said;
      left = subst new (disk_more f h.done s) t.left;
    }

-- a step was refused, and the world stands where it stood
pub stops : (f : Spellings) (all : Reading) (rest : Scene → Reading)
    (answers : List (ℕ × Reply)) (old : DiskScene → Type 0) (s : Step) (why : Refusal)
    (fault : LineFault)
    → HasHeard f all (with_step (measures_of f) 0 s rest) answers old
    → ((w : DiskScene) → IsReached f w → old w → IsRefused f w s why)
    → fault_of why ≡ Some fault
    → HasStopped f all old
stops f all rest answers old s why fault h refused is =
    let m = measures_of f in
    let w = run m first_scene h.done in
    let x = disk_run f first_disk_scene h.done in
    let there : refusal m x.scene s ≡ Some fault = subst (λ o. IfSome o (λ y. refusal m x.scene s ≡
    Some y)) is (refused x (reached f h.done h.taken) h.left) in
    let here : refusal m w s ≡ Some fault =
    sym (ap (λ v. refusal m v s) (disk_scene f h.done)) ∙ there in
    let all_is = h.reading_is
    ∙ ap (λ o. then_read h.done (unless_refused 0 o (then_read (s ∷ []) (rest (next m w s))))) here in
    record {
      fault = fault;
      refused = ap (λ (r : Reading). r.refused) all_is;
      left = subst (λ ss. old (disk_run f first_disk_scene ss))
          (sym (ap (λ (r : Reading). r.steps) all_is ∙ append-nil h.done)) h.left;
    }

pub fault-not-memory : (why : Refusal) (fault : LineFault) → fault_of why ≡ Some fault
    → why ≢ refusals.NoMemory
fault-not-memory why fault is none =
    let no : None ≡ Some fault = sym (ap fault_of none) ∙ is in absurd cc
