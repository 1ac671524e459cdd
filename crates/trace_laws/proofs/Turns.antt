-- A step that is taken changes the clocks or the group's delta alone, or is made of a server's
-- moves.
use Rattle.std.proofs.Common.{◌≡◌, ℕ, ◌+◌, ◌≤◌, ◌⊎◌, Bool, true, false, List, [], ◌∷◌, Option, Some, None, refl, sym, inl, inr, arith, le_refl, nat_lt, true≢false, if◌then◌else◌}
use Rattle.std.specs.Prelude.{⊤}
use Rattle.harp_types.specs.declared.call.Call.{Call}
use Rattle.harp_types.specs.declared.cred.Cred.{Cred}
use Rattle.harp_types.specs.declared.server.ServerId.{ServerId}
use Rattle.harp_types.specs.declared.server.ServerId.TheVariants as server
use Rattle.trace_types.specs.declared.step.Step.{Step}
use Rattle.trace_types.specs.declared.step.Step.TheVariants as step
use Rattle.trace_types.specs.declared.line.LineFault.{LineFault}
use Rattle.trace_types.specs.declared.line.LineFault.TheVariants as fault
use Rattle.trace_types.specs.declared.line.Line.{Line}
use Rattle.trace_types.specs.declared.line.Line.TheVariants as line
use Rattle.harp_types.specs.Server.{same_server}
use Rattle.trace_claims.specs.Servers.{clock_next}
use Rattle.file_tree.specs.Book.{Entry}
use Rattle.group_safety.specs.Laws.{Whole}
use Rattle.group_rules.specs.Limits.{delta_tests}
use Rattle.group_rules.specs.Moves.{Booting, Falling, Move, moved_by}
use Rattle.group_rules.specs.Names.{id_of, place_of}
use Rattle.group_rules.specs.Places.{Zero, One, Two, Place, all_of, at}
use Rattle.group_rules.specs.State.{Group, Packet}
use Rattle.group_rules.specs.Step.{Apply, Ask, Comes, Crash, Deed, Does, Flush, Input, ListTree, Power, Suspect, Tick, list_of, near, numbered, step_of}
use Rattle.group_rules.proofs.Tests.{by_if, each_of, is_le, not_lt}
use Rattle.group_safety.proofs.Common.{each_at}
use Rattle.group_safety.proofs.Moving.{Goes}
use Rattle.group_safety.proofs.Safe.{boot_goes, delta_whole, good_of, input_goes, later_whole, near_at, near_of, sent_known}
use Rattle.group_safety.proofs.Steps.{Known, falls}
use Rattle.group_trace.specs.Lines.{lines_of_moves, listing_of}
use Rattle.group_trace.specs.Calls.{calls_of, moves_of, passes}
use Rattle.group_trace.specs.Refusals.{before_it, clock_refusal, own_refusal, where_down}
use Rattle.group_trace.specs.Run.{delivery, group_after, is_elementary, lines_where, moved_where, turn, with_delta}
use Rattle.group_trace.specs.Scene.{Measures, Scene}
use Rattle.trace_laws.proofs.MoveKinds.{Kind, mild, plain}
use Rattle.trace_laws.proofs.StepKinds.{step_kind}

-- ---- the clocks

clock_fits : (g : Group Entry) (q : Place) (reading : ℕ) → clock_refusal g q reading ≡ None
    → (g.clock q ≤ reading) × (near reading (at g.clock q reading) ≡ true)
clock_fits g q reading e = by (nat_lt reading (g.clock q)) (near reading (at g.clock q reading))
    refl refl e
  where
    by : (b n : Bool) → nat_lt reading (g.clock q) ≡ b → near reading (at g.clock q reading) ≡ n
        → (if b then Some fault.ClockBack else (if n then None else Some fault.ClockApart)) ≡ None
        → (g.clock q ≤ reading) × (near reading (at g.clock q reading) ≡ true)
    by true n x y e = absurd cc
    by false true x y e = (not_lt reading (g.clock q) x, y)
    by false false x y e = absurd cc

pub clock_whole : (g : Group Entry) → Whole g → (q : Place) (reading : ℕ)
    → clock_refusal g q reading ≡ None → Whole (record g { clock = at g.clock q reading })
clock_whole g h q reading e =
    let fits = clock_fits g q reading e in
    later_whole g h (at g.clock q reading) (each_at (λ y c. g.clock y ≤ c) g.clock q reading
    (λ y. le_refl _) fits.0)
    (near_at g.clock q reading h.near (near_of reading (at g.clock q reading) fits.1))

pub advance_whole : (g : Group Entry) → Whole g → (millis : ℕ)
    → Whole (record g { clock = λ q. g.clock q + millis })
advance_whole g h millis = later_whole g h (λ q. g.clock q + millis) (λ x. omega arith)
    (λ x y. let a = h.near x y in omega arith)

-- a clock that is set
set_clock : (f : Place → ℕ) (s : ServerId) (reading : ℕ) (x : Place)
    → (if same_server s (id_of x) then reading else f x) ≡ at f (place_of s) reading x
set_clock f s reading x = by s x
  where
    by : (s : ServerId) (x : Place) → (if same_server s (id_of x) then reading else f x) ≡
        at f (place_of s) reading x
    by server.Zero Zero = refl
    by server.Zero One = refl
    by server.Zero Two = refl
    by server.One Zero = refl
    by server.One One = refl
    by server.One Two = refl
    by server.Two Zero = refl
    by server.Two One = refl
    by server.Two Two = refl

-- ---- what begins a step

abbrev pub IsOther : Step → Type 0
IsOther (step.Ask server client number cred call) = ⊥
IsOther (step.Deliver n) = ⊥
IsOther (step.Clock server reading) = ⊥
IsOther (step.Advance millis) = ⊥
IsOther s = ⊤

abbrev pub IsNoAsk : Deed → Type 0
IsNoAsk (Ask client number cred call) = ⊥
IsNoAsk d = ⊤

-- an ask, a delivery, or something else than an ask
pub data IsBegunBy (g : Group Entry) : Step → Place → Input → Type 0 where
  asked : (server : ServerId) (client number : ℕ) (cred : Cred) (call : Call)
      → IsBegunBy g (step.Ask server client number cred call) (place_of server)
      (Does (Ask client number cred call))
  came : (n : ℕ) (p : Packet Entry) → numbered g.packets n ≡ Some p
      → IsBegunBy g (step.Deliver n) p.to (Comes p.from p.body)
  other : (s : Step) (q : Place) (d : Deed) → IsOther s → IsNoAsk d → IsBegunBy g s q (Does d)

-- the server of a step, other than a delivery
abbrev pub IsAt : Step → Place → Type 0
IsAt (step.Ask server client number cred call) q = q ≡ place_of server
IsAt (step.Deliver n) q = ⊤
IsAt (step.Tick server) q = q ≡ place_of server
IsAt (step.Suspect server) q = q ≡ place_of server
IsAt (step.Apply server most) q = q ≡ place_of server
IsAt (step.Flush server) q = q ≡ place_of server
IsAt (step.List server) q = q ≡ place_of server
IsAt (step.Boot server) q = q ≡ place_of server
IsAt (step.Power server) q = q ≡ place_of server
IsAt (step.PowerCut server calls pick) q = q ≡ place_of server
IsAt (step.Crash server pick) q = q ≡ place_of server
IsAt s q = ⊥

-- a step as its rule says, one that a stop cut, or a boot
pub data Made (g : Group Entry) (q : Place) (i : Input) : List (Move Entry) → Type 0 where
  whole : (size : List Entry → Entry → ℕ) → (g.server q).up ≡ true
      → Made g q i (step_of size g q i)
  fell : (g.server q).up ≡ true → Made g q i (Falling ∷ [])
  boot : (g.server q).up ≡ false → Made g q i (Booting g.delta ∷ [])

-- A step of a server: how and where it begins, of which kind it is, that its moves keep the facts,
-- and that the server was up or boots
pub record Turned (g : Group Entry) (s : Step) (q : Place) (i : Input)
    (ms : List (Move Entry)) : Type 0 where
  pub begun : IsBegunBy g s q i
  pub at' : IsAt s q
  pub made : Made g q i ms
  pub kind : Kind q (g.clock q) (g.server q) i ms
  pub goes : Goes g q (g.server q) ms
  pub up : ((g.server q).up ≡ true) ⊎ (ms ≡ Booting g.delta ∷ [])

turned : (m : Measures) (g : Group Entry) → Whole g
    → (s : Step) (q : Place) (i : Input) (stop : Option ℕ) → (g.server q).up ≡ true
    → IsBegunBy g s q i → IsAt s q → Known g q i → Turned g s q i (moves_of m g stop q i)
turned m g h s q i stop up b a k =
    by_if (Turned g s q i) (passes stop (calls_of m q (g.clock q) (list_of g q) (g.server q)
    (step_of m.size g q i))) (step_of m.size g q i) (Falling ∷ [])
    (λ _. record {
      begun = b;
      at' = a;
      made = whole m.size up;
      kind = step_kind m.size q (g.clock q) (list_of g q) (g.server q) i;
      goes = input_goes m.size g h q up i k;
      up = inl up;
    })
    (λ _. record {
      begun = b;
      at' = a;
      made = fell up;
      kind = plain (Falling ∷ []) (mild (Falling ∷ []) (tt, tt));
      goes = falls g q (g.server q) (good_of g h q);
      up = inl up;
    })

boots : (g : Group Entry) → Whole g → (s : Step) (q : Place) → IsOther s → IsAt s q
    → (g.server q).up ≡ false → Turned g s q (Does Crash) (Booting g.delta ∷ [])
boots g h s q o a down = record {
  begun = other s q Crash o tt;
  at' = a;
  made = boot down;
  kind = plain (Booting g.delta ∷ []) (mild (Booting g.delta ∷ []) (tt, tt));
  goes = boot_goes g h q;
  up = inr refl;
}

-- ---- a step that changes no server

-- only the clocks may differ, as the event line says, and the delta of later boots
pub record SameBut (g g' : Group Entry) (s : Step) : Type 0 where
  pub server : g'.server ≡ g.server
  pub page : g'.page ≡ g.page
  pub packets : g'.packets ≡ g.packets
  pub book : g'.book ≡ g.book
  pub answered : g'.answered ≡ g.answered
  pub clocks : (q : Place) → clock_next (id_of q) (g.clock q) (line.Event s) ≡ g'.clock q

pub is_up : (g : Group Entry) (server : ServerId) → where_down g server ≡ None
    → (g.server (place_of server)).up ≡ true
is_up g server e = by (g.server (place_of server)).up e
  where
    by : (b : Bool) → (if b then None else Some fault.ServerDown) ≡ None → b ≡ true
    by true e = refl
    by false e = absurd cc

is_down : (g : Group Entry) (server : ServerId)
    → (if (g.server (place_of server)).up then Some fault.ServerUp else None) ≡ None
    → (g.server (place_of server)).up ≡ false
is_down g server e = by (g.server (place_of server)).up e
  where
    by : (b : Bool) → (if b then Some fault.ServerUp else None) ≡ None → b ≡ false
    by true e = absurd cc
    by false e = refl

-- a group as it was, whose clocks the event line leaves
unchanged : (g : Group Entry) (s : Step)
    → ((q : Place) → clock_next (id_of q) (g.clock q) (line.Event s) ≡ g.clock q) → SameBut g g s
unchanged g s clocks = record {
  server = refl;
  page = refl;
  packets = refl;
  book = refl;
  answered = refl;
  clocks = clocks;
}

-- a delta that is set
pub delta_set : (g : Group Entry) → Whole g → (millis : ℕ) → Whole (with_delta g millis)
    × SameBut g (with_delta g millis) (step.Delta millis)
delta_set g h millis = by_if (λ g'. Whole g' × SameBut g g' (step.Delta millis))
    (all_of (delta_tests millis)) _ g
    (λ t. let a = each_of (delta_tests millis) t in (
      delta_whole g h millis (
        is_le 500 millis a.0,
        is_le millis 100000 a.1.0,
      ),
      record {
        server = refl;
        page = refl;
        packets = refl;
        book = refl;
        answered = refl;
        clocks = λ q. refl;
      },
    ))
    (λ _. (
      h,
      unchanged g (step.Delta millis) (λ q. refl),
    ))

-- what is so of both is so of each step that is taken
pub take_step : (C : Group Entry → List Line → Type 0) (m : Measures) (w : Scene) → Whole w.group
    → (s : Step) → own_refusal m w.group s ≡ None → is_elementary s ≡ true
    → ((g' : Group Entry) → Whole g' → SameBut w.group g' s → C g' [])
    → ((q : Place) (i : Input) (ms : List (Move Entry)) → Turned w.group s q i ms
    → C (moved_by w.group q (w.group.server q) ms) (lines_of_moves w.group
    (moved_by w.group q (w.group.server q) ms) q ms (listing_of w.group s)))
    → C (group_after m w s) (lines_where w.group (turn m w s) (listing_of w.group s))
take_step C m w h (step.Ask server client number cred call) r e quiet moved =
    let q = place_of server in
    moved q (Does (Ask client number cred call)) _ (turned m w.group h _ q
    (Does (Ask client number cred call)) (w.armed q) (is_up w.group server r)
    (asked server client number cred call) refl tt)
take_step C m w h (step.Tick server) r e quiet moved =
    let q = place_of server in
    moved q (Does Tick) _ (turned m w.group h _ q (Does Tick) (w.armed q) (is_up w.group server r)
    (other (step.Tick server) q Tick tt tt) refl tt)
take_step C m w h (step.Suspect server) r e quiet moved =
    let q = place_of server in
    moved q (Does Suspect) _ (turned m w.group h _ q (Does Suspect) (w.armed q)
    (is_up w.group server r) (other (step.Suspect server) q Suspect tt tt) refl tt)
take_step C m w h (step.Apply server most) r e quiet moved =
    let q = place_of server in
    moved q (Does (Apply most)) _ (turned m w.group h _ q (Does (Apply most)) (w.armed q)
    (is_up w.group server r) (other (step.Apply server most) q (Apply most) tt tt) refl tt)
take_step C m w h (step.Flush server) r e quiet moved =
    let q = place_of server in
    moved q (Does Flush) _ (turned m w.group h _ q (Does Flush) (w.armed q)
    (is_up w.group server r) (other (step.Flush server) q Flush tt tt) refl tt)
take_step C m w h (step.List server) r e quiet moved =
    let q = place_of server in
    moved q (Does ListTree) _ (turned m w.group h _ q (Does ListTree) (w.armed q)
    (is_up w.group server r) (other (step.List server) q ListTree tt tt) refl tt)
take_step C m w h (step.Boot server) r e quiet moved = moved (place_of server) (Does Crash)
    (Booting w.group.delta ∷ []) (boots w.group h (step.Boot server) (place_of server) tt refl
    (is_down w.group server r))
take_step C m w h (step.Power server) r e quiet moved =
    let q = place_of server in
    moved q (Does Power) _ (turned m w.group h _ q (Does Power) None (is_up w.group server r)
    (other (step.Power server) q Power tt tt) refl tt)
take_step C m w h (step.PowerCut server calls pick) r e quiet moved =
    let q = place_of server in
    moved q (Does Power) _ (turned m w.group h _ q (Does Power) (Some calls)
    (is_up w.group server r) (other (step.PowerCut server calls pick) q Power tt tt) refl tt)
take_step C m w h (step.Crash server pick) r e quiet moved =
    let q = place_of server in
    moved q (Does Crash) _ (turned m w.group h _ q (Does Crash) None (is_up w.group server r)
    (other (step.Crash server pick) q Crash tt tt) refl tt)
take_step C m w h (step.Deliver n) r e quiet moved = arrives (numbered w.group.packets n) refl
  where
    g : Group Entry
    g = w.group

    arrives : (o : Option (Packet Entry)) → numbered g.packets n ≡ o
        → C (moved_where g (delivery m w o)) (lines_where g (delivery m w o) [])
    arrives None is = quiet g h (unchanged g (step.Deliver n) (λ q. refl))
    arrives (Some p) is = by_if (λ x. C (moved_where g x) (lines_where g x [])) (g.server p.to).up
        (Some (p.to, moves_of m g (w.armed p.to) p.to (Comes p.from p.body))) None
        (λ up. moved p.to (Comes p.from p.body) _ (turned m g h (step.Deliver n) p.to
        (Comes p.from p.body) (w.armed p.to) up (came n p is) tt (sent_known g h n p is)))
        (λ _. quiet g h (unchanged g (step.Deliver n) (λ q. refl)))
take_step C m w h (step.Pump among) r e quiet moved = absurd (true≢false (sym e))
take_step C m w h (step.Stop server calls pick) r e quiet moved =
    quiet w.group h (unchanged w.group (step.Stop server calls pick) (λ q. refl))
take_step C m w h (step.Noise server bytes) r e quiet moved =
    quiet w.group h (unchanged w.group (step.Noise server bytes) (λ q. refl))
take_step C m w h (step.Clock server reading) r e quiet moved =
    quiet (record w.group { clock = at w.group.clock (place_of server) reading })
    (clock_whole w.group h (place_of server) reading r)
    (record {
      server = refl;
      page = refl;
      packets = refl;
      book = refl;
      answered = refl;
      clocks =
          λ q. set_clock w.group.clock server reading q;
    })
take_step C m w h (step.Advance millis) r e quiet moved =
    quiet (record w.group { clock = λ q. w.group.clock q + millis })
    (advance_whole w.group h millis)
    (record {
      server = refl;
      page = refl;
      packets = refl;
      book = refl;
      answered = refl;
      clocks =
          λ q. refl;
    })
take_step C m w h (step.Delta millis) r e quiet moved =
    let set = delta_set w.group h millis in
    quiet (with_delta w.group millis) set.0 set.1

-- no refusal of a step's own, where none comes
pub own_none : (a b : Option LineFault) → before_it a b ≡ None → a ≡ None
own_none None b e = refl
own_none (Some f) b e = absurd cc
