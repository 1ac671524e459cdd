-- The state line of a step, and the first lines that are open in a view.
use Rattle.std.proofs.Common.{◌≡◌, ℕ, ◌==◌, ◌≤◌, ◌&&◌, Bool, true, false, List, [], ◌∷◌, ◌++◌, Option, Some, None, refl, sym, ap, ◌∙◌, subst, inl, inr, true≢false, if◌then◌else◌}
use Rattle.std.specs.List.{AllByRecursion}
use Rattle.std.proofs.lemmas.Bool.{eqb-true, eq-eqb}
use Rattle.harp_types.specs.Server.{number_of}
use Rattle.harp_types.specs.View.{View}
use Rattle.harp_types.specs.declared.server.ServerId.{ServerId}
use Rattle.harp_types.specs.declared.server.ServerId.TheVariants as server
use Rattle.harp_types.specs.declared.state.Held.TheVariants as held
use Rattle.harp_types.specs.declared.state.Mode.TheVariants as mode
use Rattle.harp_types.specs.declared.state.StateLine.{StateLine}
use Rattle.trace_types.specs.declared.step.Step.{Step}
use Rattle.trace_types.specs.declared.line.Line.{Line}
use Rattle.trace_types.specs.declared.line.Line.TheVariants as line
use Rattle.harp_types.specs.Server.{same_server}
use Rattle.trace_claims.specs.Servers.{first_open, first_state, opens, is_open, same_view}
use Rattle.trace_claims.specs.Trace.{Trace}
use Rattle.trace_claims.proofs.Places.{all-append}
use Rattle.file_tree.specs.Book.{Entry}
use Rattle.group_safety.specs.Laws.{Grows, Whole}
use Rattle.group_rules.specs.Limits.{by_held}
use Rattle.group_rules.specs.Moves.{Move, moved_by}
use Rattle.group_rules.specs.Names.{id_of, view_of}
use Rattle.group_rules.specs.Places.{Zero, One, Two, Place}
use Rattle.group_rules.specs.State.{Duty, Group, Held, Log, Lost, Empty, Mode, Joins, Collects, Chose, NoDuty, Live, Open, Page, Plan, Pulls, Rests, Waits, top}
use Rattle.group_rules.specs.Step.{Input}
use Rattle.group_safety.specs.Words.{IsActive}
use Rattle.group_safety.proofs.Moving.{goes_good}
use Rattle.group_safety.proofs.Safe.{whole_of}
use Rattle.group_trace.specs.Lines.{lines_of_moves, listing_of, state_line, state_lines}
use Rattle.group_rules.specs.Shown.{held_shown, mode_joined, mode_shown, state_of}
use Rattle.group_trace.specs.Shown.{same_shown, shown_of}
use Rattle.trace_laws.proofs.LineParts.{AreStateless}
use Rattle.trace_laws.proofs.Standing.{IsSound, SoundState, Stands, before_state, before_stateless, parts_are, stateless-listing}
use Rattle.trace_laws.proofs.StateLines.{either_line, first_is, first_open-append, not_own, server_is, state_stands, which}
use Rattle.trace_laws.proofs.Turns.{Turned}

pub held_is : (h : Held) → held_shown h ≡ held.Held → h ≡ Log
held_is Log e = refl
held_is Lost e = cc
held_is Empty e = cc

joined_closed : (d : Duty) → mode_joined d ≡ mode.Open → ⊥
joined_closed (Collects reports) e = cc
joined_closed (Chose v plan) e = cc
joined_closed NoDuty e = cc

pub open_shown : (m : Mode) (d : Duty) → mode_shown m d ≡ mode.Open → m ≡ Open
open_shown Rests d e = cc
open_shown Joins d e = absurd (joined_closed d e)
open_shown Pulls d e = cc
open_shown Waits d e = cc
open_shown Open d e = refl
open_shown Live d e = cc

pub sound_state : (g : Group Entry) → Whole g → (q : Place)
    → SoundState g.page (state_of (g.server q))
sound_state g w q =
    let s = g.server q in
    let fine = w.ok.server q in (
      s.accepted,
      refl,
      fine.views.formed,
      (λ h. let l = held_is s.held h in subst (λ n. (g.page s.accepted).plan.start ≤
          n) (ap (λ x. by_held x (top s) s.lb) (sym l)) (fine.logs.log l).holds.from_start),
      (λ o.
          let open' = open_shown s.mode s.duty o in
          let l = (fine.modes.active (subst IsActive (sym open') tt)).0 in (
            subst (λ n. (g.page s.accepted).plan.start ≤ n) (ap (λ x. by_held x s.cp s.lb) (sym l))
                ((w.settled.server q).settled (inl open')),
            (fine.modes.leads open').1,
          )),
    )

line_sound : (g : Group Entry) → Whole g → (q x : Place)
    → IsSound g.page (state_line x (shown_of (g.server q)))
line_sound g w q x = by (g.server q).up
  where
    by : (b : Bool) → IsSound g.page (state_line x (if b then Some (state_of (g.server q)) else
        None))
    by true = sound_state g w q
    by false = tt

state_sound : (g : Group Entry) → Whole g → (q : Place) (old : Option StateLine)
    → AllByRecursion (IsSound g.page) (state_lines q old (shown_of (g.server q)))
state_sound g w q old = by (same_shown old (shown_of (g.server q)))
  where
    by : (b : Bool) → AllByRecursion (IsSound g.page) (if b then [] else
        state_line q (shown_of (g.server q)) ∷ [])
    by true = tt
    by false = (line_sound g w q q, tt)

stateless_sound : (page : ℕ → Page Entry) (ls : List Line) → AreStateless ls
    → AllByRecursion (IsSound page) ls
stateless_sound page [] h = tt
stateless_sound page (line.State server st ∷ ls) h = absurd h.0
stateless_sound page (l ∷ ls) h = (tt, stateless_sound page ls h.1)

pub sound_grows : (g g' : Group Entry)
    → Grows g.page g'.page g.committed g'.committed g.joins g'.joins
    → (ls : List Line) → AllByRecursion (IsSound g.page) ls → AllByRecursion (IsSound g'.page) ls
sound_grows g g' grow [] h = tt
sound_grows g g' grow (line.State server st ∷ ls) h =
    let x = h.0 in
    let p = grow.each x.0 x.2 in (
      (
        x.0,
        x.1,
        p.formed,
        (λ l. subst (λ (a : Plan). a.start ≤ st.top) (sym p.plan) (x.3 l)),
        (λ o. (subst (λ (a : Plan). a.start ≤ st.cp) (sym p.plan) (x.4 o).0, p.opened (x.4 o).1)),
      ),
      sound_grows g g' grow ls h.1,
    )
sound_grows g g' grow (l ∷ ls) h = (tt, sound_grows g g' grow ls h.1)

pub turn_sound : (before : Trace) (g : Group Entry) → Stands before g
    → (s : Step) (q : Place) (i : Input) (ms : List (Move Entry)) → Turned g s q i ms
    → AllByRecursion (IsSound (moved_by g q (g.server q) ms).page) (line.Event s
    ∷ lines_of_moves g (moved_by g q (g.server q) ms) q ms (listing_of g s))
turn_sound before g h s q i ms t =
    let g' = moved_by g q (g.server q) ms in
    let w = whole_of _ q _ (goes_good ms g q (g.server q) t.goes) in
    let P = IsSound g'.page in (
      tt,
      subst (AllByRecursion P) (sym (parts_are g g' q ms (listing_of g s)))
          (all-append P (before_state g g' q ms) _ (stateless_sound g'.page _
          (before_stateless g g' q ms))
          (all-append P (state_lines q (shown_of (g.server q)) (shown_of (g'.server q)))
          (listing_of g s) (state_sound g' w q (shown_of (g.server q)))
          (stateless_sound g'.page _ (stateless-listing g s)))),
    )

same_self : (s : ServerId) → same_server s s ≡ true
same_self server.Zero = refl
same_self server.One = refl
same_self server.Two = refl

stateless_first : (ls : List Line) (x : ServerId) (v : View) → AreStateless ls → first_open ls x v
    ≡ None
stateless_first [] x v h = refl
stateless_first (line.State server st ∷ ls) x v h = absurd h.0
stateless_first (l ∷ ls) x v h = stateless_first ls x v h.1

-- a state line that is the first open one
pub record OpensNow (q x : Place) (v : View) (new : Option StateLine)
    (st : StateLine) : Type 0 where
  pub its : x ≡ q
  pub is : new ≡ Some st
  pub opens' : opens v st ≡ true

pub and_left : (a b : Bool) → (a && b) ≡ true → (a ≡ true) × (b ≡ true)
and_left true b e = (refl, e)
and_left false b e = absurd (true≢false (sym e))

line_opens : (q x : Place) (v : View) (new : Option StateLine) (st : StateLine)
    → first_open (state_line q new ∷ []) (id_of x) v ≡ Some st → OpensNow q x v new st
line_opens q x v None st e = absurd cc
line_opens q x v (Some y) st e = by (same_server (id_of q) (id_of x) && opens v y) refl e
  where
    by : (b : Bool) → (same_server (id_of q) (id_of x) && opens v y) ≡ b
        → (if b then Some y else None) ≡ Some st → OpensNow q x v (Some y) st
    by false c e = absurd cc
    by true c e =
        let both = and_left (same_server (id_of q) (id_of x)) (opens v y) c in
        let is : y ≡ st = cc in
        record {
          its = elim (which x q) [
            | inl same ↦ same
            | inr apart ↦ absurd (true≢false (sym both.0 ∙ not_own q x apart))
          ];
          is = ap Some is;
          opens' = subst (λ z. opens v z ≡ true) is both.1;
        }

lines_open : (q x : Place) (v : View) (old new : Option StateLine) (st : StateLine)
    → first_open (state_lines q old new) (id_of x) v ≡ Some st → OpensNow q x v new st
lines_open q x v old new st e = by (same_shown old new) e
  where
    by : (b : Bool) → first_open (if b then [] else state_line q new ∷ []) (id_of x) v ≡ Some st
        → OpensNow q x v new st
    by true e = absurd cc
    by false e = line_opens q x v new st e

pub either_none : (a b : Option StateLine) → a ≡ None → either_line a b ≡ b
either_none None b e = refl
either_none (Some st) b e = absurd cc

none_behind : (a : Option StateLine) → either_line a None ≡ a
none_behind None = refl
none_behind (Some st) = refl

-- an open line among those of a step
pub turn_opens : (g g' : Group Entry) (q x : Place) (ms : List (Move Entry)) (s : Step) (v : View)
    (st : StateLine)
    → first_open (line.Event s ∷ lines_of_moves g g' q ms (listing_of g s)) (id_of x) v ≡ Some st
    → OpensNow q x v (shown_of (g'.server q)) st
turn_opens g g' q x ms s v st e =
    let old = shown_of (g.server q) in
    let new = shown_of (g'.server q) in
    let t = state_lines q old new in
    let ls = listing_of g s in
    let b = before_state g g' q ms in
    lines_open q x v old new st
    (sym (ap (λ z. first_open z (id_of x) v) (parts_are g g' q ms ls)
    ∙ first_open-append b (t ++ ls) (id_of x) v ∙ either_none (first_open b (id_of x) v) _
    (stateless_first b (id_of x) v (before_stateless g g' q ms))
    ∙ first_open-append t ls (id_of x) v ∙ ap (either_line (first_open t (id_of x) v))
    (stateless_first ls (id_of x) v (stateless-listing g s))
    ∙ none_behind (first_open t (id_of x) v)) ∙ e)

pub same_view_is : (v w : View) → same_view v w ≡ true → v ≡ w
same_view_is v w e =
    let both = and_left (v.count == w.count) (same_server v.coordinator w.coordinator) e in
    let counts = eqb-true v.count w.count both.0 in
    let servers = server_is v.coordinator w.coordinator (eqb-true (number_of v.coordinator)
    (number_of w.coordinator) both.1) in
    rw (counts, servers) refl

view_same : (v : View) → same_view v v ≡ true
view_same v = rw (eq-eqb v.count v.count refl, same_self v.coordinator) refl

pub is_open_mode : (m : _) → is_open m ≡ true → m ≡ mode.Open
is_open_mode mode.Open e = refl
is_open_mode m e = absurd (true≢false (sym e))

-- a server that is open in a view has an open line of it
pub open_has_line : (before : Trace) (g : Group Entry) → Stands before g → (q : Place)
    → (g.server q).up ≡ true → (g.server q).mode ≡ Open
    → (st : StateLine) × (first_open before (id_of q) (view_of (g.server q).accepted) ≡ Some st)
open_has_line before g h q up o =
    let st = state_of (g.server q) in
    let shown : shown_of (g.server q) ≡ Some st = rw up refl in
    let mode_is : st.mode ≡ mode.Open = ap (λ m. mode_shown m (g.server q).duty) o in
    let opens' : opens (view_of (g.server q).accepted) st ≡ true = rw (
      mode_is,
      view_same (view_of (g.server q).accepted),
    ) refl in
    elim (state_stands before (id_of q) (Some (first_state (id_of q))) st (h.states q ∙ shown)) [
      | inl same ↦ let z : first_state (id_of q) ≡ st = cc in
          absurd (first_rests q (ap (λ (x : StateLine). x.mode) z ∙ mode_is))
      | inr stands ↦
          let found = first_is stands.earlier stands.later (id_of q)
          (view_of (g.server q).accepted) st (same_self (id_of q)) opens' in (
            found.0,
            ap (λ b. first_open b (id_of q) (view_of (g.server q).accepted)) stands.stands
                ∙ found.1,
          )
    ]
  where
    first_rests : (q : Place) → (first_state (id_of q)).mode ≡ mode.Open → ⊥
    first_rests Zero e = cc
    first_rests One e = cc
    first_rests Two e = cc
