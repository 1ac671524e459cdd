-- The steps of an opening leave a group that is ready, with no update.
use Rattle.std.proofs.Common.{◌≡◌, ℕ, suc, List, [], ◌∷◌, ◌++◌, None, Some, refl, sym, arith}
use Rattle.harp_types.specs.declared.reply.Reply.{Reply}
use Rattle.harp_types.specs.declared.server.ServerId.TheVariants as server
use Rattle.trace_types.specs.declared.step.Step.{Step}
use Rattle.trace_types.specs.declared.step.Step.TheVariants as step
use Rattle.file_tree.specs.Tree.{first_tree}
use Rattle.group_rules.specs.Limits.{limit, room}
use Rattle.group_rules.specs.Places.{all_of}
use Rattle.group_rules.specs.Shown.{same_state}
use Rattle.group_trace.specs.Lines.{entered_lines, packet_lines}
use Rattle.group_trace.specs.Pump.{due, lowest_due, most_deliveries}
use Rattle.group_trace.specs.Refusals.{own_refusal}
use Rattle.group_trace.specs.Run.{next, step_lines}
use Rattle.group_trace.specs.Scene.{Measures, Scene, first_scene}
use Rattle.schedule_play.specs.Reading.{Reading, with_step}
use Rattle.door_play.specs.Replies.{answers_in}
use Rattle.door_play.specs.Steps.{opening, taken_from}
use Rattle.door_play.proofs.Readings.{Answers, left_after, one_step, pump_delivers, pump_ends, pumped, then_steps}
use Rattle.door_play.proofs.Ready.{Knows, Ready}
use Rattle.door_play.proofs.Scenes.{IsDelivered, Stands, delivered_more}
use Rattle.door_play.proofs.Servers.{following, leading, lt_not}

-- ---- the scenes of an opening

abbrev s1 : Measures → Scene
s1 m = next m first_scene (step.Suspect server.Zero)

abbrev s2 : Measures → Scene
s2 m = next m (s1 m) (step.Deliver 0)

abbrev s3 : Measures → Scene
s3 m = next m (s2 m) (step.Deliver 1)

abbrev s4 : Measures → Scene
s4 m = next m (s3 m) (step.Deliver 2)

abbrev s5 : Measures → Scene
s5 m = next m (s4 m) (step.Deliver 3)

abbrev s6 : Measures → Scene
s6 m = next m (s5 m) (step.Deliver 4)

abbrev s7 : Measures → Scene
s7 m = next m (s6 m) (step.Deliver 5)

abbrev s8 : Measures → Scene
s8 m = next m (s7 m) (step.Advance 2050)

abbrev s9 : Measures → Scene
s9 m = next m (s8 m) (step.Tick server.Zero)

abbrev s10 : Measures → Scene
s10 m = next m (s9 m) (step.Deliver 6)

abbrev s11 : Measures → Scene
s11 m = next m (s10 m) (step.Deliver 7)

abbrev s12 : Measures → Scene
s12 m = next m (s11 m) (step.Deliver 8)

-- ---- the last one

none_yet : IsDelivered [] 0
none_yet k = sym (lt_not k 0 (omega arith))

nine : IsDelivered (8 ∷ 7 ∷ 6 ∷ 5 ∷ 4 ∷ 3 ∷ 2 ∷ 1 ∷ 0 ∷ []) 9
nine = delivered_more (7 ∷ 6 ∷ 5 ∷ 4 ∷ 3 ∷ 2 ∷ 1 ∷ 0 ∷ []) 8
    (delivered_more (6 ∷ 5 ∷ 4 ∷ 3 ∷ 2 ∷ 1 ∷ 0 ∷ []) 7
    (delivered_more (5 ∷ 4 ∷ 3 ∷ 2 ∷ 1 ∷ 0 ∷ []) 6
    (delivered_more (4 ∷ 3 ∷ 2 ∷ 1 ∷ 0 ∷ []) 5
    (delivered_more (3 ∷ 2 ∷ 1 ∷ 0 ∷ []) 4
    (delivered_more (2 ∷ 1 ∷ 0 ∷ []) 3
    (delivered_more (1 ∷ 0 ∷ []) 2
    (delivered_more (0 ∷ []) 1 (delivered_more [] 0 none_yet))))))))

opened : (m : Measures) → Stands (s12 m) (leading 0 0 0 0 [] 0 0) (following 0 0 0 0 []) [] 9 []
unfolding all_of limit room
opened m = record {
  leader = refl;
  partner = refl;
  list_is = refl;
  clock_zero = refl;
  clock_one = refl;
  armed_zero = refl;
  armed_one = refl;
  delivered = nine;
  sent = (s12 m).group.packets;
  packets = refl;
  count = refl;
}

-- ---- its steps

-- a step that nothing but a full network refuses, and that answers nothing
record Quiet (m : Measures) (w : Scene) (s : Step) : Type 0 where
  own : own_refusal m w.group s ≡ None
  silent : answers_in (step_lines m w s) ≡ []

-- up to the first tick
quiet_first : (m : Measures) → Quiet m first_scene (step.Suspect server.Zero)
    × Quiet m (s1 m) (step.Deliver 0) × Quiet m (s2 m) (step.Deliver 1)
    × Quiet m (s3 m) (step.Deliver 2) × Quiet m (s4 m) (step.Deliver 3)
    × Quiet m (s5 m) (step.Deliver 4) × Quiet m (s6 m) (step.Deliver 5)
    × Quiet m (s7 m) (step.Advance 2050)
unfolding all_of limit room answers_in entered_lines packet_lines same_state
quiet_first m = (
  record { own = refl; silent = refl },
  record { own = refl; silent = refl },
  record { own = refl; silent = refl },
  record { own = refl; silent = refl },
  record { own = refl; silent = refl },
  record { own = refl; silent = refl },
  record { own = refl; silent = refl },
  record { own = refl; silent = refl },
)

-- and from it on
quiet_then : (m : Measures) → Quiet m (s8 m) (step.Tick server.Zero)
    × Quiet m (s9 m) (step.Deliver 6) × Quiet m (s10 m) (step.Deliver 7)
    × Quiet m (s11 m) (step.Deliver 8)
unfolding all_of limit room answers_in entered_lines packet_lines same_state
quiet_then m = (
  record { own = refl; silent = refl },
  record { own = refl; silent = refl },
  record { own = refl; silent = refl },
  record { own = refl; silent = refl },
)

-- what is due in the scenes of the first pump
due_first : (m : Measures) → (due None (s1 m) ≡ Some 0) × (due None (s2 m) ≡ Some 1)
    × (due None (s3 m) ≡ Some 2) × (due None (s4 m) ≡ Some 3) × (due None (s5 m) ≡ Some 4)
    × (due None (s6 m) ≡ Some 5) × (due None (s7 m) ≡ None)
unfolding all_of limit room lowest_due
due_first m = (refl, refl, refl, refl, refl, refl, refl)

-- and of the second
due_then : (m : Measures) → (due None (s9 m) ≡ Some 6) × (due None (s10 m) ≡ Some 7)
    × (due None (s11 m) ≡ Some 8) × (due None (s12 m) ≡ None)
unfolding all_of limit room lowest_due
due_then m = (refl, refl, refl, refl)

quiet_step : (m : Measures) (w : Scene) (s : Step) (rest : Scene → Reading)
    (ys : List (ℕ × Reply)) → Quiet m w s → Answers m (next m w s) ys (rest (next m w s))
    → Answers m w ys (with_step m 0 s rest w)
quiet_step m w s rest ys q h = one_step m w s rest [] ys q.own q.silent h

quiet_delivery : (m : Measures) (w : Scene) (most n : ℕ) (rest : Scene → Reading)
    (ys : List (ℕ × Reply)) → due None w ≡ Some n → Quiet m w (step.Deliver n)
    → Answers m (next m w (step.Deliver n)) ys (pumped m most rest (next m w (step.Deliver n)))
    → Answers m w ys (pumped m (suc most) rest w)
quiet_delivery m w most n rest ys d q h =
    pump_delivers m most n rest w ys d
    (quiet_step m w (step.Deliver n) (pumped m most rest) ys q h)

-- a group that is ready for the first call
first_ready : (m : Measures) → Ready (s12 m) [] 0
first_ready m = record {
  disk = 0;
  items = [];
  told_top = 0;
  told_lb = 0;
  cp = 0;
  base' = 0;
  items' = [];
  cp' = 0;
  packets = 9;
  stands = opened m;
  long = refl;
  long' = refl;
  all = refl;
  told = omega arith;
  heard = omega arith;
  dropped = omega arith;
  not_above = omega arith;
  recent = omega arith;
  fewer = omega arith;
}

pub first_known : Knows [] 1 first_tree
first_known = record { tree_is = refl; stamps = omega arith; numbers = tt }

first_part : (m : Measures) (rest : Scene → Reading) (ys : List (ℕ × Reply))
    → Answers m (s7 m) ys (rest (s7 m)) → Answers m (s1 m) ys (pumped m most_deliveries rest (s1 m))
unfolding most_deliveries
first_part m rest ys h =
    let q = quiet_first m in
    let d = due_first m in
    quiet_delivery m (s1 m) (left_after 1) 0 rest ys d.0 q.1
    (quiet_delivery m (s2 m) (left_after 2) 1 rest ys d.1 q.2
    (quiet_delivery m (s3 m) (left_after 3) 2 rest ys d.2 q.3
    (quiet_delivery m (s4 m) (left_after 4) 3 rest ys d.3 q.4
    (quiet_delivery m (s5 m) (left_after 5) 4 rest ys d.4 q.5
    (quiet_delivery m (s6 m) (left_after 6) 5 rest ys d.5 q.6
    (pump_ends m (left_after 7) rest (s7 m) ys d.6 h))))))

second_part : (m : Measures) (rest : Scene → Reading) (ys : List (ℕ × Reply))
    → Answers m (s12 m) ys (rest (s12 m))
    → Answers m (s9 m) ys (pumped m most_deliveries rest (s9 m))
unfolding most_deliveries
second_part m rest ys h =
    let q = quiet_then m in
    let d = due_then m in
    quiet_delivery m (s9 m) (left_after 1) 6 rest ys d.0 q.1
    (quiet_delivery m (s10 m) (left_after 2) 7 rest ys d.1 q.2
    (quiet_delivery m (s11 m) (left_after 3) 8 rest ys d.2 q.3
    (pump_ends m (left_after 4) rest (s12 m) ys d.3 h)))

pub opens : (m : Measures) (ss : List Step) (ys : List (ℕ × Reply))
    → ((v : Scene) → Ready v [] 0 → Answers m v ys (taken_from m ss v))
    → Answers m first_scene ys (taken_from m (opening ++ ss) first_scene)
opens m ss ys h =
    let r4 = step.Pump None ∷ ss in
    let r3 = step.Tick server.Zero ∷ r4 in
    let r2 = step.Advance 2050 ∷ r3 in
    let r1 = step.Pump None ∷ r2 in
    let q = quiet_first m in
    then_steps m first_scene (step.Suspect server.Zero) r1 ys refl
    (quiet_step m first_scene (step.Suspect server.Zero) (taken_from m r1) ys q.0
    (first_part m (taken_from m r2) ys
    (then_steps m (s7 m) (step.Advance 2050) r3 ys refl
    (quiet_step m (s7 m) (step.Advance 2050) (taken_from m r3) ys q.7
    (then_steps m (s8 m) (step.Tick server.Zero) r4 ys refl
    (quiet_step m (s8 m) (step.Tick server.Zero) (taken_from m r4) ys (quiet_then m).0
    (second_part m (taken_from m ss) ys (h (s12 m) (first_ready m)))))))))
