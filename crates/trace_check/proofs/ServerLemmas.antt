-- What is kept of servers, as a trace grows.
use Rattle.std.proofs.Common.{◌≡◌, ℕ, ◌≤◌, Bool, true, false, [], ◌∷◌, ◌++◌, Option, Some, None, refl, sym, ap, subst, ◌∙◌, ◌==◌, ◌&&◌, inl, inr}
use Rattle.std.specs.Prelude.{◌↔◌, ◌⊎◌, MatchBool}
use Rattle.std.specs.Bool.{if◌then◌else◌}
use Rattle.std.specs.Option.{option_map}
use Rattle.std.proofs.lemmas.Bool.{eq-eqb, eqb-true}
use Rattle.std.proofs.lemmas.List.Sums.{fold_push}
use Rattle.harp_types.specs.Server.{number_of}
use Rattle.harp_types.specs.Trio.{value_of, with_value}
use Rattle.harp_types.specs.View.{View}
use Rattle.harp_types.specs.declared.server.ServerId.{ServerId}
use Rattle.harp_types.specs.declared.server.ServerId.TheVariants as server
use Rattle.harp_types.specs.declared.state.StateLine.{StateLine}
use Rattle.harp_types.specs.declared.trio.Trio.{Trio}
use Rattle.trace_types.specs.declared.line.Line.{Line}
use Rattle.trace_types.specs.declared.line.Line.TheVariants as line
use Rattle.trace_claims.specs.Trace.{Trace}
use Rattle.harp_types.specs.Server.{same_server}
use Rattle.trace_claims.specs.Servers.{HasShown, first_open, first_state, is_open, last_state, later_state, opens}
use Rattle.trace_check.specs.Keys.{place_key}
use Rattle.trace_check.specs.Marks.{mark_at, is_key, or_else, Entries, IsNoted, IsRaised, IsWithin, Reaches}
use Rattle.trace_check.specs.Readings.{state_told}
use Rattle.trace_check.specs.ServersSeen.{AreServersOf, IsAt, ShowsState}
use Rattle.trace_check.specs.declared.servers.Servers.{Servers}
use Rattle.trace_check.proofs.Somewhere.{Somewhere, somewhere_push, somewhere_nothing}

abbrev pub Told : Type 0
Told = Option (ServerId × Option StateLine)

-- ---- last states

abbrev told_state : ServerId → Option StateLine → Told → Option StateLine
told_state s before None = before
told_state s before (Some (server, state)) = if same_server server s then state else before

later_by_told : (s : ServerId) (before : Option StateLine) (l : Line)
    → later_state s before l ≡ told_state s before (state_told l)
later_by_told s before (line.State server state) = refl
later_by_told s before (line.Down server) = refl
later_by_told s before l = refl

last_push : (t : Trace) (l : Line) (s : ServerId)
    → last_state (t ++ l ∷ []) s ≡ told_state s (last_state t s) (state_told l)
last_push t l s = fold_push (later_state s) (Some (first_state s)) t l
    ∙ later_by_told s (last_state t s) l

pub value_with : {T : Type 0} (trio : Trio T) (place s : ServerId) (x : T)
    → value_of (with_value trio place x) s ≡ (if same_server place s then x else value_of trio s)
value_with trio server.Zero server.Zero x = refl
value_with trio server.Zero server.One x = refl
value_with trio server.Zero server.Two x = refl
value_with trio server.One server.Zero x = refl
value_with trio server.One server.One x = refl
value_with trio server.One server.Two x = refl
value_with trio server.Two server.Zero x = refl
value_with trio server.Two server.One x = refl
value_with trio server.Two server.Two x = refl

-- ---- states that were shown

abbrev pub ShownTold : ServerId → View → ℕ → Told → Type 0
ShownTold s view n None = ⊥
ShownTold s view n (Some (server, None)) = ⊥
ShownTold s view n (Some (server, Some state)) = (server ≡ s) × (state.accepted ≡ view)
    × (n ≤ state.top)

abbrev ShowsHere : ServerId → View → ℕ → Trace → Line → Type 0
ShowsHere s view n before l = ShownTold s view n (state_told l)

shown_somewhere : (t : Trace) (s : ServerId) (view : View) (n : ℕ) → HasShown t s view n
    → Somewhere (ShowsHere s view n) t
shown_somewhere t s view n h = record {
  earlier = h.earlier;
  at = line.State s h.state;
  later = h.later;
  stands = h.stands;
  holds = (refl, h.accepted, h.reaches);
}

shown_at : (t earlier later : Trace) (l : Line) (s : ServerId) (view : View) (n : ℕ)
    → t ≡ earlier ++ l ∷ later → ShownTold s view n (state_told l) → HasShown t s view n
shown_at t earlier later (line.State server state) s view n e h = record {
  earlier = earlier;
  later = later;
  state = state;
  stands = subst (λ (x : ServerId). t ≡ earlier ++ line.State x state ∷ later) h.0 e;
  accepted = h.1;
  reaches = h.2;
}
shown_at t earlier later l s view n e h = absurd h

pub shown_push : (t : Trace) (l : Line) (s : ServerId) (view : View) (n : ℕ)
    → HasShown (t ++ l ∷ []) s view n ↔ (HasShown t s view n ⊎ ShownTold s view n (state_told l))
shown_push t l s view n =
    let P = ShowsHere s view n in (
      λ h. elim ((somewhere_push P t l).0 (shown_somewhere (t ++ l ∷ []) s view n h)) [
        | inl w ↦ inl (shown_at t w.earlier w.later w.at s view n w.stands w.holds)
        | inr p ↦ inr p
      ],
      λ h. let w = (somewhere_push P t l).1 (elim h as (λ _. Somewhere P t ⊎ P t l) [
        | inl g ↦ inl (shown_somewhere t s view n g)
        | inr p ↦ inr p
      ]) in shown_at (t ++ l ∷ []) w.earlier w.later w.at s view n w.stands w.holds,
    )

pub number_same : (s t : ServerId) → number_of s ≡ number_of t → s ≡ t
number_same server.Zero server.Zero e = refl
number_same server.One server.One e = refl
number_same server.Two server.Two e = refl
number_same server.Zero server.One e = absurd cc
number_same server.Zero server.Two e = absurd cc
number_same server.One server.Zero e = absurd cc
number_same server.One server.Two e = absurd cc
number_same server.Two server.Zero e = absurd cc
number_same server.Two server.One e = absurd cc

pub view_same : (v w : View) → v.count ≡ w.count → number_of v.coordinator ≡ number_of w.coordinator
    → v ≡ w
view_same v w c n =
    let k : v.coordinator ≡ w.coordinator = number_same v.coordinator w.coordinator n in
    ap (λ (x : ℕ). record { count = x; coordinator = v.coordinator }) c
    ∙ ap (λ (x : ServerId). record { count = w.count; coordinator = x }) k

pub place_same : (s t : ServerId) (v w : View) → place_key s v ≡ place_key t w → (s ≡ t) × (v ≡ w)
place_same s t v w e = (
  number_same s t (ap (λ k. k.0) e),
  view_same v w (ap (λ k. k.1) e) (ap (λ k. k.2) e),
)

-- ---- marks of one server

or_else_none : (o : Option ℕ) → o ≡ or_else o None
or_else_none None = refl
or_else_none (Some n) = refl

same_number : (s t : ServerId) → s ≡ t → same_server s t ≡ true
same_number s t e = eq-eqb (number_of s) (number_of t) (ap number_of e)

other_stays : (old new : Trio Entries) (server s : ServerId) (marks : Entries)
    → new ≡ with_value old server marks → same_server server s ≡ false
    → value_of new s ≡ value_of old s
other_stays old new server s marks is other =
    ap (λ (t : Trio Entries). value_of t s) is ∙ value_with old server s marks
    ∙ ap (λ (b : Bool). if b then marks else value_of old s) other

raised_at : (old new : Trio Entries) (server : ServerId) (at : View) (top : ℕ)
    → IsAt server (IsRaised (place_key server at) top) old new → (s : ServerId) (view : View) (n : ℕ)
    → Reaches (value_of new s) (place_key s view) n ↔ (Reaches (value_of old s) (place_key s view) n
    ⊎ ((place_key s view ≡ place_key server at) × (n ≤ top)))
raised_at old new server at top h s view n = by (same_server server s) refl
  where
    by : (b : Bool) → same_server server s ≡ b
        → Reaches (value_of new s) (place_key s view) n
        ↔ (Reaches (value_of old s) (place_key s view) n
        ⊎ ((place_key s view ≡ place_key server at) × (n ≤ top)))
    by true e =
        let is : server ≡ s = number_same server s (eqb-true (number_of server) (number_of s) e) in
        subst (λ (x : ServerId). Reaches (value_of new x) (place_key x view) n
        ↔ (Reaches (value_of old x) (place_key x view) n
        ⊎ ((place_key x view ≡ place_key server at) × (n ≤ top)))) is
        (h.1 (place_key server view) n)
    by false e =
        let same = other_stays old new server s (value_of new server) h.0 e in (
          λ r. inl (subst (λ (m : Entries). Reaches m (place_key s view) n) same r),
          λ r. elim r [
            | inl q ↦ subst (λ (m : Entries). Reaches m (place_key s view) n) (sym same) q
            | inr p ↦ (let is = same_number server s (sym (place_same s server view at p.0).0) in
                let wrong : false ≡ true = sym e ∙ is in absurd cc)
          ],
        )

noted_at : (old new : Trio Entries) (server : ServerId) (at : View) (cp : ℕ)
    → IsAt server (IsNoted (place_key server at) cp) old new → (s : ServerId) (view : View)
    → mark_at (value_of new s) (place_key s view)
    ≡ or_else (mark_at (value_of old s) (place_key s view))
    (if is_key (place_key server at) (place_key s view) then Some cp else None)
noted_at old new server at cp h s view = by (same_server server s) refl
  where
    by : (b : Bool) → same_server server s ≡ b → mark_at (value_of new s) (place_key s view)
        ≡ or_else (mark_at (value_of old s) (place_key s view))
        (if is_key (place_key server at) (place_key s view) then Some cp else None)
    by true e =
        let is : server ≡ s = number_same server s (eqb-true (number_of server) (number_of s) e) in
        subst (λ (x : ServerId). mark_at (value_of new x) (place_key x view)
        ≡ or_else (mark_at (value_of old x) (place_key x view))
        (if is_key (place_key server at) (place_key x view) then Some cp else None)) is
        (h.1 (place_key server view))
    by false e =
        let same = other_stays old new server s (value_of new server) h.0 e in
        ap (λ (m : Entries). mark_at m (place_key s view)) same
        ∙ or_else_none (mark_at (value_of old s) (place_key s view))
        ∙ sym (ap (λ (b : Bool). or_else (mark_at (value_of old s) (place_key s view))
        (if ((b && (at.count == view.count))
        && (number_of at.coordinator == number_of view.coordinator)) && true
        then Some cp else None)) e)

shown_more : (old new : Servers) (before : Trace) (l : Line) (server : ServerId) (state : StateLine)
    → AreServersOf old before → state_told l ≡ Some (server, Some state)
    → IsAt server (IsRaised (place_key server state.accepted) state.top) old.shown new.shown
    → (s : ServerId) (view : View) (n : ℕ) → Reaches (value_of new.shown s) (place_key s view) n
    ↔ HasShown (before ++ l ∷ []) s view n
shown_more old new before l server state a told raised s view n =
    let push = shown_push before l s view n in
    let here = raised_at old.shown new.shown server state.accepted state.top raised s view n in (
      λ r. push.1 (elim (here.0 r) as (λ _. HasShown before s view n
          ⊎ ShownTold s view n (state_told l)) [
            | inl q ↦ inl ((a.shown s view n).0 q)
            | inr p ↦ inr (let same = place_same s server view state.accepted p.0 in
                subst (ShownTold s view n) (sym told) (sym same.0, sym same.1, p.1))
          ]),
      λ h. here.1 (elim (push.0 h) as (λ _. Reaches (value_of old.shown s) (place_key s view) n
          ⊎ ((place_key s view ≡ place_key server state.accepted) × (n ≤ state.top))) [
            | inl q ↦ inl ((a.shown s view n).1 q)
            | inr p ↦ inr (let is = subst (ShownTold s view n) told p in (
              sym (ap (λ (x : ServerId). place_key x state.accepted) is.0 ∙ ap (λ (v : View).
                  place_key s v) is.1),
              is.2,
            ))
          ]),
    )

shown_stays : (old new : Servers) (before : Trace) (l : Line) → AreServersOf old before
    → ((s : ServerId) (view : View) (n : ℕ) → ShownTold s view n (state_told l) → ⊥)
    → new.shown ≡ old.shown
    → (s : ServerId) (view : View) (n : ℕ) → Reaches (value_of new.shown s) (place_key s view) n
    ↔ HasShown (before ++ l ∷ []) s view n
shown_stays old new before l a none same s view n =
    let push = shown_push before l s view n in (
      λ r. push.1 (inl ((a.shown s view n).0
          (subst (λ (m : Trio Entries). Reaches (value_of m s) (place_key s view) n) same r))),
      λ h. subst (λ (m : Trio Entries). Reaches (value_of m s) (place_key s view) n) (sym same)
          (elim (push.0 h) [
            | inl q ↦ (a.shown s view n).1 q
            | inr p ↦ absurd (none s view n p)
          ]),
    )

-- ---- openings

abbrev or_state : Option StateLine → Option StateLine → Option StateLine
or_state None other = other
or_state (Some state) other = Some state

abbrev opened_told : ServerId → View → Told → Option StateLine
opened_told s view None = None
opened_told s view (Some (server, None)) = None
opened_told s view (Some (server, Some state)) =
    if same_server server s && opens view state then Some state else None

taken_or : (b : Bool) (state : StateLine) (other : Option StateLine)
    → (if b then Some state else other) ≡ or_state (if b then Some state else None) other
taken_or true state other = refl
taken_or false state other = refl

open_head : (l : Line) (lines : Trace) (s : ServerId) (view : View)
    → first_open (l ∷ lines) s view
    ≡ or_state (opened_told s view (state_told l)) (first_open lines s view)
open_head (line.State server state) lines s view =
    taken_or (same_server server s && opens view state) state (first_open lines s view)
open_head (line.Down server) lines s view = refl
open_head l lines s view = refl

or_assoc : (a b d : Option StateLine) → or_state a (or_state b d) ≡ or_state (or_state a b) d
or_assoc None b d = refl
or_assoc (Some x) b d = refl

or_none : (a : Option StateLine) → or_state a None ≡ a
or_none None = refl
or_none (Some x) = refl

pub open_push : (t : Trace) (l : Line) (s : ServerId) (view : View)
    → first_open (t ++ l ∷ []) s view
    ≡ or_state (first_open t s view) (opened_told s view (state_told l))
open_push [] l s view = open_head l [] s view ∙ or_none (opened_told s view (state_told l))
open_push (x ∷ t) l s view =
    open_head x (t ++ l ∷ []) s view
    ∙ ap (or_state (opened_told s view (state_told x))) (open_push t l s view)
    ∙ or_assoc (opened_told s view (state_told x)) (first_open t s view)
    (opened_told s view (state_told l))
    ∙ ap (λ o. or_state o (opened_told s view (state_told l))) (sym (open_head x t s view))

abbrev cp_of : Option StateLine → Option ℕ
cp_of o = option_map (λ (state : StateLine). state.cp) o

cp_or : (a b : Option StateLine) → cp_of (or_state a b) ≡ or_else (cp_of a) (cp_of b)
cp_or None b = refl
cp_or (Some x) b = refl

-- the mark of an opening, beside the state that opens
marks_same : (a b d : Bool) (state : StateLine)
    → (if ((a && b) && d) && true then Some state.cp else None)
    ≡ cp_of (if a && (true && (b && d)) then Some state else None)
marks_same true true true state = refl
marks_same true true false state = refl
marks_same true false d state = refl
marks_same false b d state = refl

opens_at : (is a b d : Bool) (state : StateLine) → is ≡ true
    → (if ((a && b) && d) && true then Some state.cp else None)
    ≡ cp_of (if a && (is && (b && d)) then Some state else None)
opens_at true a b d state h = marks_same a b d state
opens_at false a b d state h = absurd cc

opens_not : (is a b d : Bool) (state : StateLine) → is ≡ false
    → cp_of (if a && (is && (b && d)) then Some state else None) ≡ None
opens_not true a b d state h = absurd cc
opens_not false true b d state h = refl
opens_not false false b d state h = refl

opened_with : (old new : Servers) (before : Trace) (l : Line) (w : Option ℕ) (s : ServerId)
    (view : View) → AreServersOf old before
    → mark_at (value_of new.opened s) (place_key s view)
    ≡ or_else (mark_at (value_of old.opened s) (place_key s view)) w
    → w ≡ cp_of (opened_told s view (state_told l))
    → mark_at (value_of new.opened s) (place_key s view) ≡ cp_of (first_open (before ++ l ∷ []) s view)
opened_with old new before l w s view a e is =
    e ∙ ap (λ o. or_else o w) (a.opened s view)
    ∙ ap (or_else (cp_of (first_open before s view))) is
    ∙ sym (cp_or (first_open before s view) (opened_told s view (state_told l)))
    ∙ ap cp_of (sym (open_push before l s view))

same_marks : (old new : Trio Entries) (s : ServerId) (k : ℕ × ℕ × ℕ × ℕ) → new ≡ old
    → mark_at (value_of new s) k ≡ or_else (mark_at (value_of old s) k) None
same_marks old new s k e = ap (λ (m : Trio Entries). mark_at (value_of m s) k) e
    ∙ or_else_none (mark_at (value_of old s) k)

opened_more : (old new : Servers) (before : Trace) (l : Line) (server : ServerId)
    (state : StateLine) (is : Bool) → AreServersOf old before
    → state_told l ≡ Some (server, Some state) → is_open state.mode ≡ is
    → MatchBool is (IsAt server (IsNoted (place_key server state.accepted) state.cp) old.opened
    new.opened)
    (new.opened ≡ old.opened)
    → (s : ServerId) (view : View)
    → mark_at (value_of new.opened s) (place_key s view) ≡ cp_of (first_open (before ++ l ∷ []) s view)
opened_more old new before l server state true a told is noted s view =
    opened_with old new before l
    (if is_key (place_key server state.accepted) (place_key s view) then Some state.cp else None)
    s view a (noted_at old.opened new.opened server state.accepted state.cp noted s view)
    (opens_at (is_open state.mode) (number_of server == number_of s)
    (state.accepted.count == view.count)
    (number_of state.accepted.coordinator == number_of view.coordinator) state is
    ∙ ap (λ o. cp_of (opened_told s view o)) (sym told))
opened_more old new before l server state false a told is same s view =
    opened_with old new before l None s view a
    (same_marks old.opened new.opened s (place_key s view) same)
    (sym (ap (λ o. cp_of (opened_told s view o)) told
    ∙ opens_not (is_open state.mode) (number_of server == number_of s)
    (state.accepted.count == view.count)
    (number_of state.accepted.coordinator == number_of view.coordinator) state is))

-- ---- a line

pub takes_state : (old new : Servers) (before : Trace) (l : Line) (server : ServerId)
    (state : StateLine) → AreServersOf old before → state_told l ≡ Some (server, Some state)
    → ShowsState server state old new → AreServersOf new (before ++ l ∷ [])
takes_state old new before l server state a told shows = record {
  last = λ s. ap (λ (t : Trio (Option StateLine)). value_of t s) shows.last
      ∙ value_with old.last server s (Some state)
      ∙ ap (λ (o : Option StateLine). if same_server server s then Some state else o) (a.last s)
      ∙ told_last s
      ∙ sym (last_push before l s);
  shown = shown_more old new before l server state a told shows.shown;
  opened = opened_more old new before l server state (is_open state.mode) a told refl shows.opened;
}
  where
    told_last : (s : ServerId) → (if same_server server s then Some state else last_state before s)
        ≡ told_state s (last_state before s) (state_told l)
    told_last s = ap (told_state s (last_state before s)) (sym told)

nothing_shown : (server : ServerId) (l : Line) → state_told l ≡ Some (server, None) → (s : ServerId)
    (view : View) (n : ℕ) → ShownTold s view n (state_told l) → ⊥
nothing_shown server l told s view n h = subst (ShownTold s view n) told h

pub takes_down : (old new : Servers) (before : Trace) (l : Line) (server : ServerId)
    → AreServersOf old before → state_told l ≡ Some (server, None)
    → new ≡ record old { last = with_value old.last server None }
    → AreServersOf new (before ++ l ∷ [])
takes_down old new before l server a told is = record {
  last = λ s. ap (λ (t : Servers). value_of t.last s) is
      ∙ value_with old.last server s None
      ∙ ap (λ (o : Option StateLine). if same_server server s then None else o) (a.last s)
      ∙ told_last s
      ∙ sym (last_push before l s);
  shown = shown_stays old new before l a (nothing_shown server l told)
      (ap (λ (t : Servers). t.shown) is);
  opened = λ s view. opened_with old new before l None s view a
      (same_marks old.opened new.opened s (place_key s view) (ap (λ (t : Servers). t.opened) is))
      (sym (ap (λ o. cp_of (opened_told s view o)) told));
}
  where
    told_last : (s : ServerId) → (if same_server server s then None else last_state before s)
        ≡ told_state s (last_state before s) (state_told l)
    told_last s = ap (told_state s (last_state before s)) (sym told)

pub takes_nothing : (servers : Servers) (before : Trace) (l : Line) → AreServersOf servers before
    → state_told l ≡ None → AreServersOf servers (before ++ l ∷ [])
takes_nothing servers before l a told = record {
  last = λ s. a.last s ∙ told_last s ∙ sym (last_push before l s);
  shown = shown_stays servers servers before l a
      (λ s view n h. subst (ShownTold s view n) told h) refl;
  opened = λ s view. opened_with servers servers before l None s view a
      (same_marks servers.opened servers.opened s (place_key s view) refl)
      (sym (ap (λ o. cp_of (opened_told s view o)) told));
}
  where
    told_last : (s : ServerId) → last_state before s
        ≡ told_state s (last_state before s) (state_told l)
    told_last s = ap (told_state s (last_state before s)) (sym told)

pub no_line : (servers : Servers)
    → ((s : ServerId) → value_of servers.last s ≡ Some (first_state s))
    → ((s : ServerId) (key : ℕ × ℕ × ℕ × ℕ) → mark_at (value_of servers.shown s) key ≡ None)
    → ((s : ServerId) (key : ℕ × ℕ × ℕ × ℕ) → mark_at (value_of servers.opened s) key ≡ None)
    → AreServersOf servers []
no_line servers last shown opened = record {
  last = last;
  shown = λ s view n. (
    λ r. absurd (nowhere (mark_at (value_of servers.shown s) (place_key s view)) n
        (shown s (place_key s view)) r),
    λ h. absurd (somewhere_nothing (ShowsHere s view n) (shown_somewhere [] s view n h)),
  );
  opened = λ s view. opened s (place_key s view);
}
  where
    nowhere : (o : Option ℕ) (n : ℕ) → o ≡ None → IsWithin n o → ⊥
    nowhere None n e h = h
    nowhere (Some m) n e h = absurd cc

pub no_state : (l : Line)
    → ((server : ServerId) (state : StateLine) → l ≡ line.State server state → ⊥)
    → ((server : ServerId) → l ≡ line.Down server → ⊥) → state_told l ≡ None
no_state (line.State server state) shows down = absurd (shows server state refl)
no_state (line.Down server) shows down = absurd (down server refl)
no_state l shows down = refl
