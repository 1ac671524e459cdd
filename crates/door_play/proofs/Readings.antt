-- What is read of steps: up to the first that is refused, and on from there.
use Rattle.std.proofs.Common.{◌≡◌, ℕ, zero, suc, ◌+◌, ◌-◌, true, List, [], ◌∷◌, ◌++◌, append_assoc, append-nil, length, Option, None, Some, refl, sym, ap, ◌∙◌, subst, arith, not, ◌&&◌, nat_lt}
use Rattle.harp_types.specs.declared.call.Call.{Call}
use Rattle.harp_types.specs.declared.cred.Cred.{Cred}
use Rattle.harp_types.specs.declared.reply.Reply.{Reply}
use Rattle.harp_types.specs.declared.server.ServerId.{ServerId}
use Rattle.trace_types.specs.declared.line.Line.{Line}
use Rattle.trace_types.specs.declared.line.LineFault.{LineFault}
use Rattle.trace_types.specs.declared.line.LineFault.TheVariants as fault
use Rattle.trace_types.specs.declared.step.Step.{Step}
use Rattle.trace_types.specs.declared.step.Step.TheVariants as step
use Rattle.file_tree.specs.Book.{Entry}
use Rattle.group_rules.specs.Moves.{Move}
use Rattle.group_rules.specs.Places.{Place}
use Rattle.group_rules.proofs.Tests.{by_if}
use Rattle.group_trace.specs.Pump.{deliveries, due, most_deliveries, spelled_out}
use Rattle.group_trace.specs.Refusals.{before_it, net_limit, net_refusal, own_refusal, passes_full_net, refusal}
use Rattle.group_trace.specs.Run.{AreTaken, is_elementary, next, run, run_lines, step_lines}
use Rattle.group_trace.specs.Scene.{Measures, Scene}
use Rattle.schedule_play.specs.Reading.{Reading, all_read, then_read, unless_refused, with_step, with_steps}
use Rattle.door_play.specs.Replies.{answers_in}
use Rattle.door_play.specs.Steps.{door_steps, opening, steps_of_call, steps_of_calls, taken_from}
use Rattle.door_play.proofs.Answered.{answers-append, said, step_said}
use Rattle.door_play.proofs.Scenes.{Turns}

-- ---- steps that are read are taken

abbrev AreElementary : List Step → Type 0
AreElementary [] = Unit {0}
AreElementary (s ∷ ss) = (is_elementary s ≡ true) × AreElementary ss

-- what a pump delivers, by what is due
abbrev delivers : Measures → ℕ → Option (ServerId × ServerId) → Scene → Option ℕ → List Step
delivers m most among w None = []
delivers m most among w (Some n) =
    step.Deliver n ∷ deliveries m most among (next m w (step.Deliver n))

delivers_one : (m : Measures) (most : ℕ) (among : Option (ServerId × ServerId)) (w : Scene)
    → ((v : Scene) → AreElementary (deliveries m most among v)) → (o : Option ℕ)
    → AreElementary (delivers m most among w o)
delivers_one m most among w h None = tt
delivers_one m most among w h (Some n) = (refl, h (next m w (step.Deliver n)))

deliveries_are : (m : Measures) (most : ℕ) (among : Option (ServerId × ServerId)) (w : Scene)
    → deliveries m (suc most) among w ≡ delivers m most among w (due among w)
unfolding deliveries
deliveries_are m most among w = refl

deliveries_one : (m : Measures) (most : ℕ) (among : Option (ServerId × ServerId)) (w : Scene)
    → AreElementary (deliveries m most among w)
unfolding deliveries
deliveries_one m zero among w = tt
deliveries_one m (suc most) among w =
    subst (λ (ss : List Step). AreElementary ss) (sym (deliveries_are m most among w))
    (delivers_one m most among w (λ v. deliveries_one m most among v) (due among w))

spelled_one : (m : Measures) (w : Scene) (s : Step) → AreElementary (spelled_out m w s)
spelled_one m w (step.Pump among) = deliveries_one m most_deliveries among w
spelled_one m w s = (refl, tt)

unless_taken : (m : Measures) (w : Scene) (s : Step) (o : Option LineFault) (r : Reading)
    → refusal m w s ≡ o → is_elementary s ≡ true → AreTaken m (next m w s) r.steps
    → AreTaken m w (unless_refused 0 o (then_read (s ∷ []) r)).steps
unless_taken m w s None r is one h = (is, one, h)
unless_taken m w s (Some f) r is one h = tt

steps_taken : (m : Measures) (ss : List Step) (rest : Scene → Reading) (w : Scene)
    → AreElementary ss → ((v : Scene) → AreTaken m v (rest v).steps)
    → AreTaken m w (with_steps m 0 ss rest w).steps
unfolding with_steps
steps_taken m [] rest w one h = h w
steps_taken m (s ∷ ss) rest w one h =
    unless_taken m w s (refusal m w s) (with_steps m 0 ss rest (next m w s)) refl one.0
    (steps_taken m ss rest (next m w s) one.1 h)

pub read_are_taken : (m : Measures) (ss : List Step) (w : Scene)
    → AreTaken m w (taken_from m ss w).steps
read_are_taken m [] w = tt
read_are_taken m (s ∷ ss) w =
    steps_taken m (spelled_out m w s) (taken_from m ss) w (spelled_one m w s) (read_are_taken m ss)

-- ---- more steps

-- of two ways to read on, one goes further than the other
abbrev GoesOn : Measures → (Scene → Reading) → (Scene → Reading) → (Scene → Reading) → Scene
    → Type 0
GoesOn m f g more w = (f w).refused ≡ None
    → g w ≡ then_read (f w).steps (more (run m w (f w).steps))

unless_on : (m : Measures) (s : Step) (w : Scene) (o : Option LineFault) (r t : Reading)
    (more : Scene → Reading)
    → (r.refused ≡ None → t ≡ then_read r.steps (more (run m (next m w s) r.steps)))
    → (unless_refused 0 o (then_read (s ∷ []) r)).refused ≡ None
    → unless_refused 0 o (then_read (s ∷ []) t)
    ≡ then_read (unless_refused 0 o (then_read (s ∷ []) r)).steps
    (more (run m w (unless_refused 0 o (then_read (s ∷ []) r)).steps))
unfolding run
unless_on m s w None r t more h e = ap (then_read (s ∷ [])) (h e)
unless_on m s w (Some f) r t more h e = cc

steps_on : (m : Measures) (ss : List Step) (f g more : Scene → Reading) (w : Scene)
    → ((v : Scene) → GoesOn m f g more v)
    → GoesOn m (with_steps m 0 ss f) (with_steps m 0 ss g) more w
unfolding with_steps
steps_on m [] f g more w h = h w
steps_on m (s ∷ ss) f g more w h =
    unless_on m s w (refusal m w s) (with_steps m 0 ss f (next m w s))
    (with_steps m 0 ss g (next m w s)) more (steps_on m ss f g more (next m w s) h)

pub read_on : (m : Measures) (ss more : List Step) (w : Scene) → (taken_from m ss w).refused ≡ None
    → taken_from m (ss ++ more) w
    ≡ then_read (taken_from m ss w).steps (taken_from m more (run m w (taken_from m ss w).steps))
unfolding run
read_on m [] more w e = refl
read_on m (s ∷ ss) more w e =
    steps_on m (spelled_out m w s) (taken_from m ss) (taken_from m (ss ++ more)) (taken_from m more)
    w (λ v. read_on m ss more v) e

pub lines-append : (m : Measures) (ss more : List Step) (w : Scene)
    → run_lines m w (ss ++ more) ≡ run_lines m w ss ++ run_lines m (run m w ss) more
unfolding run_lines run
lines-append m [] more w = refl
lines-append m (s ∷ ss) more w =
    ap (λ (ls : List Line). step_lines m w s ++ ls) (lines-append m ss more (next m w s))
    ∙ sym (append_assoc (step_lines m w s) (run_lines m (next m w s) ss) _)

-- ---- where a step is refused, nothing more is read

unless_stays : (s : Step) (o : Option LineFault) (r t : Reading) (x : ℕ × LineFault)
    → (r.refused ≡ Some x → t ≡ r) → (unless_refused 0 o (then_read (s ∷ []) r)).refused ≡ Some x
    → unless_refused 0 o (then_read (s ∷ []) t) ≡ unless_refused 0 o (then_read (s ∷ []) r)
unless_stays s None r t x h e = ap (then_read (s ∷ [])) (h e)
unless_stays s (Some f) r t x h e = refl

steps_stay : (m : Measures) (ss : List Step) (f g : Scene → Reading) (w : Scene)
    (x : ℕ × LineFault) → ((v : Scene) → (f v).refused ≡ Some x → g v ≡ f v)
    → (with_steps m 0 ss f w).refused ≡ Some x
    → with_steps m 0 ss g w ≡ with_steps m 0 ss f w
unfolding with_steps
steps_stay m [] f g w x h = h w
steps_stay m (s ∷ ss) f g w x h =
    unless_stays s (refusal m w s) (with_steps m 0 ss f (next m w s))
    (with_steps m 0 ss g (next m w s)) x (steps_stay m ss f g (next m w s) x h)

pub read_stays : (m : Measures) (ss more : List Step) (w : Scene) (x : ℕ × LineFault)
    → (taken_from m ss w).refused ≡ Some x
    → taken_from m (ss ++ more) w ≡ taken_from m ss w
read_stays m [] more w x e = cc
read_stays m (s ∷ ss) more w x e =
    steps_stay m (spelled_out m w s) (taken_from m ss) (taken_from m (ss ++ more)) w x
    (λ v. read_stays m ss more v x) e

-- ---- one call more

one_more : (cred : Cred) (number : ℕ) (calls : List Call) (c : Call)
    → steps_of_calls cred number (calls ++ c ∷ [])
    ≡ steps_of_calls cred number calls ++ steps_of_call cred (length calls + number) c
one_more cred number [] c =
    append-nil (steps_of_call cred number c)
    ∙ ap (λ (n : ℕ). steps_of_call cred n c) (omega arith)
one_more cred number (x ∷ calls) c =
    ap (λ (ss : List Step). steps_of_call cred number x ++ ss) (one_more cred (number + 1) calls c)
    ∙ ap (λ (n : ℕ). steps_of_call cred number x ++ (steps_of_calls cred (number + 1) calls
    ++ steps_of_call cred n c)) (omega arith)
    ∙ sym (append_assoc (steps_of_call cred number x) (steps_of_calls cred (number + 1) calls) _)

pub door_more : (cred : Cred) (calls : List Call) (c : Call)
    → door_steps cred (calls ++ c ∷ [])
    ≡ door_steps cred calls ++ steps_of_call cred (length calls + 1) c
door_more cred calls c =
    ap (λ (ss : List Step). opening ++ ss) (one_more cred 1 calls c)
    ∙ sym (append_assoc opening (steps_of_calls cred 1 calls) _)

-- ---- answers

-- What is read of steps in a scene: they are taken, one is refused only for a full network, and
-- where none is, these are the answers in the lines
pub record Answers (m : Measures) (w : Scene) (xs : List (ℕ × Reply)) (r : Reading) : Type 0 where
  pub full : (x : ℕ × LineFault) → r.refused ≡ Some x → x ≡ (0, fault.NetFull)
  pub said_are : r.refused ≡ None → answers_in (run_lines m w r.steps) ≡ xs

pub nothing_read : (m : Measures) (w : Scene) → Answers m w [] all_read
unfolding run_lines answers_in
nothing_read m w = record { full = λ x e. cc; said_are = λ e. refl }

unless : (m : Measures) (w : Scene) (s : Step) (o : Option LineFault) (r : Reading)
    (xs ys : List (ℕ × Reply)) → ((f : LineFault) → o ≡ Some f → f ≡ fault.NetFull)
    → answers_in (step_lines m w s) ≡ xs → Answers m (next m w s) ys r
    → Answers m w (xs ++ ys) (unless_refused 0 o (then_read (s ∷ []) r))
unfolding run_lines
unless m w s None r xs ys only is h = record {
  full = h.full;
  said_are = λ e. answers-append (step_lines m w s) (run_lines m (next m w s) r.steps)
      ∙ ap (λ (zs : List (ℕ × Reply)). zs ++ answers_in (run_lines m (next m w s) r.steps)) is
      ∙ ap (λ (zs : List (ℕ × Reply)). xs ++ zs) (h.said_are e);
}
unless m w s (Some f) r xs ys only is h = record {
  full = λ x e. let y : f ≡ fault.NetFull = only f refl in
      let z : x ≡ (0, f) = cc in
      z ∙ ap (λ (f : LineFault). (0, f)) y;
  said_are = λ e. cc;
}

net_only : (w : Scene) (s : Step) (f : LineFault) → net_refusal w s ≡ Some f → f ≡ fault.NetFull
net_only w s f = by_if (λ (o : Option LineFault). o ≡ Some f → f ≡ fault.NetFull)
    (not (passes_full_net s) && nat_lt net_limit w.sent) (Some fault.NetFull) None
    (λ _ e. cc) (λ _ e. cc)

-- a step that has no reason of its own to be refused
pub one_step : (m : Measures) (w : Scene) (s : Step) (rest : Scene → Reading)
    (xs ys : List (ℕ × Reply)) → own_refusal m w.group s ≡ None
    → answers_in (step_lines m w s) ≡ xs → Answers m (next m w s) ys (rest (next m w s))
    → Answers m w (xs ++ ys) (with_step m 0 s rest w)
one_step m w s rest xs ys own is h =
    let net : refusal m w s ≡ net_refusal w s =
    ap (λ (o : Option LineFault). before_it o (net_refusal w s)) own in
    unless m w s (refusal m w s) (rest (next m w s)) xs ys
    (λ f e. net_only w s f (sym net ∙ e)) is h

full_or : (m : Measures) (w : Scene) (s : Step) (rest : Scene → Reading) (xs : List (ℕ × Reply))
    (o : Option LineFault) → own_refusal m w.group s ≡ None → net_refusal w s ≡ o
    → (net_refusal w s ≡ None → Answers m w xs (with_step m 0 s rest w))
    → Answers m w xs (with_step m 0 s rest w)
full_or m w s rest xs None own is h = h is
full_or m w s rest xs (Some f) own is h =
    let net : refusal m w s ≡ Some f =
    ap (λ (o : Option LineFault). before_it o (net_refusal w s)) own ∙ is in
    let only = net_only w s f is in
    subst (λ (o : Option LineFault). Answers m w xs
    (unless_refused 0 o (then_read (s ∷ []) (rest (next m w s))))) (sym net)
    (record {
      full = λ x e. let z : x ≡ (0, f) = cc in z ∙ ap (λ (f : LineFault). (0, f)) only;
      said_are = λ e. cc;
    })

-- a step that has no reason of its own to be refused, where the network isn't full
pub unless_full : (m : Measures) (w : Scene) (s : Step) (rest : Scene → Reading)
    (xs : List (ℕ × Reply)) → own_refusal m w.group s ≡ None
    → (net_refusal w s ≡ None → Answers m w xs (with_step m 0 s rest w))
    → Answers m w xs (with_step m 0 s rest w)
unless_full m w s rest xs own h = full_or m w s rest xs (net_refusal w s) own refl h

-- a server's step
pub turn_step : (m : Measures) (w : Scene) (s : Step) (q : Place) (ms : List (Move Entry))
    (rest : Scene → Reading) (ys : List (ℕ × Reply)) → Turns m w s q ms
    → Answers m (next m w s) ys (rest (next m w s))
    → Answers m w (said ms ++ ys) (with_step m 0 s rest w)
turn_step m w s q ms rest ys t h =
    one_step m w s rest (said ms) ys t.own (step_said m w s q ms t) h

-- a step that is elementary, and more
pub then_steps : (m : Measures) (w : Scene) (s : Step) (ss : List Step) (xs : List (ℕ × Reply))
    → spelled_out m w s ≡ s ∷ [] → Answers m w xs (with_step m 0 s (taken_from m ss) w)
    → Answers m w xs (taken_from m (s ∷ ss) w)
unfolding with_steps
then_steps m w s ss xs e h =
    subst (λ (x : List Step). Answers m w xs (with_steps m 0 x (taken_from m ss) w)) (sym e) h

-- ---- a pump

-- the deliveries that a pump still has after so many
abbrev pub left_after : ℕ → ℕ
left_after n = 1099511627776 - n

-- what a pump that delivers at most so many reads, and then the rest
abbrev pub pumped : Measures → ℕ → (Scene → Reading) → Scene → Reading
pumped m most rest w = with_steps m 0 (deliveries m most None w) rest w

pump_is : (m : Measures) (most : ℕ) (rest : Scene → Reading) (w : Scene) (xs : List (ℕ × Reply))
    (o : Option ℕ) → due None w ≡ o
    → Answers m w xs (with_steps m 0 (delivers m most None w o) rest w)
    → Answers m w xs (pumped m (suc most) rest w)
pump_is m most rest w xs o is h =
    subst (λ (ss : List Step). Answers m w xs (with_steps m 0 ss rest w))
    (sym (deliveries_are m most None w ∙ ap (delivers m most None w) is)) h

pub pump_ends : (m : Measures) (most : ℕ) (rest : Scene → Reading) (w : Scene)
    (xs : List (ℕ × Reply)) → due None w ≡ None → Answers m w xs (rest w)
    → Answers m w xs (pumped m (suc most) rest w)
unfolding with_steps
pump_ends m most rest w xs none h = pump_is m most rest w xs None none h

pub pump_delivers : (m : Measures) (most n : ℕ) (rest : Scene → Reading) (w : Scene)
    (xs : List (ℕ × Reply)) → due None w ≡ Some n
    → Answers m w xs (with_step m 0 (step.Deliver n) (pumped m most rest) w)
    → Answers m w xs (pumped m (suc most) rest w)
unfolding with_steps
pump_delivers m most n rest w xs one h = pump_is m most rest w xs (Some n) one h
