-- Each step keeps what stands between the lines and the group.
use Rattle.std.proofs.Common.{◌≡◌, ℕ, ◌<◌, ◌≤◌, Bool, true, false, List, [], ◌∷◌, ◌++◌, append_assoc, append-nil, Option, Some, None, refl, sym, ap, ◌∙◌, subst, inl, inr, arith, fold, ⊎_elim, max, if◌then◌else◌}
use Rattle.std.specs.List.{AllByRecursion}
use Rattle.std.proofs.lemmas.List.Sums.{fold-append}
use Rattle.harp_types.specs.View.{View}
use Rattle.harp_types.specs.declared.server.ServerId.{ServerId}
use Rattle.harp_types.specs.declared.state.StateLine.{StateLine}
use Rattle.trace_types.specs.declared.step.Step.{Step}
use Rattle.trace_types.specs.declared.step.Step.TheVariants as step
use Rattle.trace_types.specs.declared.line.Line.{Line}
use Rattle.trace_types.specs.declared.line.Line.TheVariants as line
use Rattle.trace_claims.specs.Servers.{AckDelivered, HasShown, PromiseDelivered, ack_packet, clock_next, first_open, last_state, later_state, packet_in, is_open, same_view}
use Rattle.trace_claims.specs.Trace.{Trace, entries, steps}
use Rattle.trace_claims.proofs.Places.{all-append, entries-append}
use Rattle.file_tree.specs.Book.{Entry}
use Rattle.group_safety.specs.Facts.{BodyOk}
use Rattle.group_safety.specs.Laws.{Whole}
use Rattle.group_rules.specs.Limits.{by_held}
use Rattle.group_rules.specs.Moves.{Booting, Move, acts, moved_by}
use Rattle.group_rules.specs.Names.{id_of, view_of}
use Rattle.group_rules.specs.Places.{Place, partner}
use Rattle.group_rules.specs.State.{Ack, Group, Log, Message, Open, Packet, Page, Plan, Server, mark_of, top}
use Rattle.group_rules.specs.Step.{Input}
use Rattle.group_safety.specs.Words.{In, IsActive}
use Rattle.group_safety.proofs.Moving.{goes_good, goes_grows}
use Rattle.group_safety.proofs.Safe.{sent_known, whole_of}
use Rattle.group_trace.specs.Lines.{lines_of_moves, listing_of}
use Rattle.group_rules.specs.Shown.{state_of}
use Rattle.group_trace.specs.Shown.{shown_of}
use Rattle.trace_laws.proofs.After.{moved_clock, moved_other, moved_server}
use Rattle.trace_laws.proofs.Amid.{AllShown, Amid, FirstOk, IsThere, OpenOk, PartnerShown, RoleOk, SomeShown, booted_idle, open_kept}
use Rattle.trace_laws.proofs.Ends.{AcksCame, apart_some, kind_amid, kind_some}
use Rattle.trace_laws.proofs.LineParts.{ShowsPackets, shown_at, sendless_same}
use Rattle.trace_laws.proofs.Packets.{shown_where}
use Rattle.trace_laws.proofs.Standing.{AskedIn, IsSound, Stands, asked_more, moves_begin, moves_enter, packets_after_moves, said-listing, sendless-listing, stateless-listing, states_after}
use Rattle.trace_laws.proofs.StateLines.{either_line, first_more, first_open-append, has_shown, shown_more, which}
use Rattle.trace_laws.proofs.StepKinds.{kind_each}
use Rattle.trace_laws.proofs.Turns.{IsBegunBy, SameBut, Turned, asked, came, other}
use Rattle.trace_laws.proofs.Views.{not_first, view_is}
use Rattle.trace_laws.proofs.Asked.{AskedMove, AllAsked, asked_moves, with_event, kind_asked}
use Rattle.trace_laws.proofs.OpenLines.{open_shown, sound_grows, turn_sound, OpensNow, and_left, either_none, turn_opens, same_view_is, is_open_mode, open_has_line}

pub acked_more : (before more : Trace) (from to : ServerId) (view : View) (n : ℕ)
    → AckDelivered before from to view n → AckDelivered (before ++ more) from to view n
acked_more before more from to view n h = record {
  earlier = h.earlier;
  later = h.later ++ more;
  packet = h.packet;
  top = h.top;
  lb = h.lb;
  until = h.until;
  stands = ap (λ ls. ls ++ more) h.stands
      ∙ append_assoc h.earlier (line.Event (step.Deliver h.packet) ∷ h.later) more;
  packet_is = h.packet_is;
  reaches = h.reaches;
}

pub promise_more : (before more : Trace) (from to : ServerId) (view : View) (n : ℕ)
    → PromiseDelivered before from to view n → PromiseDelivered (before ++ more) from to view n
promise_more before more from to view n h = record {
  earlier = h.earlier;
  later = h.later ++ more;
  packet = h.packet;
  top = h.top;
  lb = h.lb;
  until = h.until;
  stands = ap (λ ls. ls ++ more) h.stands
      ∙ append_assoc h.earlier (line.Event (step.Deliver h.packet) ∷ h.later) more;
  packet_is = h.packet_is;
  beyond = h.beyond;
}

pub told_more : (before more : Trace) (page : ℕ → Page Entry) (q : Place) (s : Server Entry)
    → OpenOk before page q s → OpenOk (before ++ more) page q s
told_more before more page q s h = record {
  acked = λ o n l. ⊎_elim (λ x. inl x) (λ x. inr (acked_more before more _ _ _ n x))
      (h.acked o n l);
  granted = λ o n l. promise_more before more _ _ _ n (h.granted o n l);
}

pub all_shown_more : (before more : Trace) (page : ℕ → Page Entry) → AllShown before page
    → AllShown (before ++ more) page
all_shown_more before more page h =
    record { each = λ v f z i. shown_more before more _ (view_of v) _ (h.each v f z i) }

-- lines that begin no step change no clock
pub clock_keeps : (ls : List Line) (s : ServerId) (c : ℕ) → steps ls ≡ []
    → fold (clock_next s) c ls ≡ c
clock_keeps [] s c e = refl
clock_keeps (line.Event x ∷ ls) s c e = absurd cc
clock_keeps (l ∷ ls) s c e = clock_keeps ls s c e

pub quiet_stands : (before : Trace) (g g' : Group Entry) (s : Step) → Stands before g → Whole g'
    → SameBut g g' s → Stands (before ++ line.Event s ∷ []) g'
quiet_stands before g g' s h w same = record {
  whole = w;
  entered = entries-append before (line.Event s ∷ []) ∙ append-nil (entries before) ∙ h.entered
      ∙ sym same.book;
  states = λ q. fold-append (later_state (id_of q)) _ before (line.Event s ∷ []) ∙ h.states q
      ∙ ap (λ (f : Place → Server Entry). shown_of (f q)) (sym same.server);
  packets = λ n. sendless_same before (line.Event s ∷ []) n (tt, tt) ∙ h.packets n
      ∙ ap (λ (ps : List (Packet Entry)). shown_at ps n) (sym same.packets);
  clocks = λ q. fold-append (clock_next (id_of q)) 0 before (line.Event s ∷ [])
      ∙ ap (λ c. clock_next (id_of q) c (line.Event s)) (h.clocks q) ∙ same.clocks q;
  asked = λ v e i. asked_more before (line.Event s ∷ []) e
      (h.asked v e (subst (λ (f : ℕ → Page Entry). In (f v).list e) same.page i));
  roles = λ q. subst (λ (f : Place → Server Entry). RoleOk q (f q)) (sym same.server) (h.roles q);
  told = λ q. subst (λ (f : Place → Server Entry). OpenOk (before ++ line.Event s ∷ []) g'.page q
      (f q)) (sym same.server)
      (subst (λ (f : ℕ → Page Entry). OpenOk (before ++ line.Event s ∷ []) f q (g.server q))
      (sym same.page) (told_more before (line.Event s ∷ []) g.page q (g.server q) (h.told q)));
  shown = subst (AllShown (before ++ line.Event s ∷ [])) (sym same.page)
      (all_shown_more before (line.Event s ∷ []) g.page h.shown);
  first = λ q v st e. subst (λ (f : ℕ → Page Entry). ((f v).formed ≡ true)
      × (st.cp ≡ (f v).plan.start)) (sym same.page) (h.first q v st (first_now q v st e));
  lines = all-append (IsSound g'.page) before (line.Event s ∷ [])
      (subst (λ (f : ℕ → Page Entry). AllByRecursion (IsSound f) before) (sym same.page) h.lines)
      (tt, tt);
}
  where
    nothing : (o : Option StateLine) → either_line o None ≡ o
    nothing None = refl
    nothing (Some st) = refl

    first_now : (q : Place) (v : ℕ) (st : StateLine)
        → first_open (before ++ line.Event s ∷ []) (id_of q) (view_of v) ≡ Some st
        → first_open before (id_of q) (view_of v) ≡ Some st
    first_now q v st e = sym (nothing (first_open before (id_of q) (view_of v)))
        ∙ sym (first_open-append before (line.Event s ∷ []) (id_of q) (view_of v)) ∙ e

pub acks_came : (before : Trace) (g : Group Entry) → Whole g → ShowsPackets before g.packets
    → (s : Step) (q : Place) (i : Input) → IsBegunBy g s q i
    → AcksCame (with_event before s) q (g.server q) i
acks_came before g w shown s q i (asked server client number cred call) o from t lb until is =
    absurd cc
acks_came before g w shown s q i (other s' q' d x n) o from t lb until is = absurd cc
acks_came before g w shown s q i (came k p at) o from t lb until is =
    let body : p.body ≡ Ack (g.server q).accepted t lb until = cc in
    let known = (sent_known g w k p at).0 in
    let from_is : p.from ≡ partner (g.page (g.server q).accepted).plan.storers =
    (subst (λ (m : Message Entry). BodyOk g.page g.joins g.committed p.from p.to m) body
    known).2 in
    let plan : (g.server q).plan ≡ (g.page (g.server q).accepted).plan =
    (w.ok.server q).modes.plan (subst IsActive (sym o) tt) in
    let partner_is : p.from ≡ partner (g.server q).plan.storers = from_is
    ∙ ap (λ (l : Plan). partner l.storers) (sym plan) in
    let packet : packet_in before k ≡ Some (ack_packet (id_of (partner (g.server q).plan.storers))
    (id_of q) (view_of (g.server q).accepted) t lb until) =
    shown k ∙ shown_where g.packets k p at ∙ rw (partner_is, body) refl in
    record {
      acked = λ n l. record {
        earlier = before;
        later = [];
        packet = k;
        top = t;
        lb = lb;
        until =
            until;
        stands = refl;
        packet_is = packet;
        reaches = l;
      };
      promised = λ n l. record {
        earlier = before;
        later = [];
        packet = k;
        top = t;
        lb =
            lb;
        until = until;
        stands = refl;
        packet_is = packet;
        beyond = l;
      };
    }

in_parts : (before : Trace) (x : Line) (ls : List Line) → (before ++ x ∷ []) ++ ls ≡ before ++ x
    ∷ ls
in_parts before x ls = append_assoc before (x ∷ []) ls

abbrev pub turn_lines : Group Entry → Step → Place → List (Move Entry) → List Line
turn_lines g s q ms = line.Event s ∷ lines_of_moves g (moved_by g q (g.server q) ms) q ms
    (listing_of g s)

abbrev pub turn_group : Group Entry → Place → List (Move Entry) → Group Entry
turn_group g q ms = moved_by g q (g.server q) ms

pub turn_whole : (g : Group Entry) (s : Step) (q : Place) (i : Input) (ms : List (Move Entry))
    → Turned g s q i ms → Whole (turn_group g q ms)
turn_whole g s q i ms t = whole_of _ q _ (goes_good ms g q (g.server q) t.goes)

turn_amid : (before : Trace) (g : Group Entry) → Stands before g
    → (s : Step) (q : Place) (i : Input) (ms : List (Move Entry)) → Turned g s q i ms
    → Amid (with_event before s) (g.server q) (turn_group g q ms) q
    (acts q (g.clock q) (g.server q) ms)
turn_amid before g h s q i ms t =
    kind_amid (with_event before s) g q (g.server q) i ms t.kind t.goes
    (acks_came before g h.whole h.packets s q i t.begun) (record {
      role = h.roles q;
      told = told_more before (line.Event s ∷ []) g.page q (g.server q) (h.told q);
      first = record { opened = λ o. inl (o, refl) };
    })

pub clock_stays : (g : Group Entry) (s : Step) (q : Place) (i : Input) → IsBegunBy g s q i
    → (x : ServerId) (c : ℕ) → clock_next x c (line.Event s) ≡ c
clock_stays g s q i (asked server client number cred call) x c = refl
clock_stays g s q i (came n p at) x c = refl
clock_stays g s q i (other (step.Clock server reading) q' d o n) x c = absurd o
clock_stays g s q i (other (step.Advance millis) q' d o n) x c = absurd o
clock_stays g s q i (other s' q' d o n) x c = refl

-- each entry of a view's list was asked for, before the lines of the step
pub turn_asked : (before : Trace) (g : Group Entry) → Stands before g
    → (s : Step) (q : Place) (i : Input) (ms : List (Move Entry)) → Turned g s q i ms
    → AllAsked (with_event before s) (turn_group g q ms).page
turn_asked before g h s q i ms t =
    let b = with_event before s in
    asked_moves ms b g q (g.server q) (kind_each q (g.clock q) (g.server q) i (AskedMove b)
    (kind_asked before g s q i t.begun) ms t.kind)
    (λ v e x. asked_more before (line.Event s ∷ []) e (h.asked v e x))

pub turn_stands : (before : Trace) (g : Group Entry) → Stands before g
    → (s : Step) (q : Place) (i : Input) (ms : List (Move Entry)) → Turned g s q i ms
    → Stands (before ++ turn_lines g s q ms) (turn_group g q ms)
turn_stands before g h s q i ms t =
    let listing = listing_of g s in
    let g' = turn_group g q ms in
    let ls = lines_of_moves g g' q ms listing in
    let b = with_event before s in
    let said = said-listing g s in
    let grow = goes_grows ms g q (g.server q) t.goes in
    let amid = turn_amid before g h s q i ms t in
    let server : g'.server q ≡ acts q (g.clock q) (g.server q) ms =
    moved_server ms g q (g.server q) refl in
    let stays = λ (x : Place) (n : x ≡ q → ⊥). moved_other ms g q x (g.server q) n in
    record {
      whole = turn_whole g s q i ms t;
      entered = entries-append before (line.Event s ∷ ls) ∙ ap (λ es. es ++ entries ls) h.entered
          ∙ moves_enter g q ms listing said;
      states = λ x. fold-append (later_state (id_of x)) _ before (line.Event s ∷ ls)
          ∙ ap (λ st. fold (later_state (id_of x)) st ls) (h.states x)
          ∙ states_after g q ms listing (stateless-listing g s) x;
      packets = packets_after_moves before g s q ms listing (sendless-listing g s) h.packets;
      clocks = λ x. fold-append (clock_next (id_of x)) 0 before (line.Event s ∷ ls)
          ∙ ap (λ c. fold (clock_next (id_of x)) c (line.Event s ∷ ls)) (h.clocks x)
          ∙ clock_keeps ls (id_of x) _ (moves_begin g g' q ms listing said)
          ∙ clock_stays g s q i t.begun (id_of x) (g.clock x) ∙ ap (λ (c : Place → ℕ). c x)
          (sym (moved_clock ms g q (g.server q)));
      asked = λ v e x. subst (λ b. AskedIn b e) (in_parts before (line.Event s) ls)
          (asked_more b ls e (turn_asked before g h s q i ms t v e x));
      roles = λ x. elim (which x q) [
        | inl same ↦ subst (λ y. RoleOk y (g'.server y)) (sym same)
            (subst (RoleOk q) (sym server) amid.role)
        | inr apart ↦ subst (RoleOk x) (sym (stays x apart)) (h.roles x)
      ];
      told = λ x. subst (λ b. OpenOk b g'.page x (g'.server x)) (in_parts before (line.Event s) ls)
          (told_more b ls g'.page x (g'.server x) (elim (which x q) [
            | inl same ↦ subst (λ y. OpenOk b g'.page y (g'.server y)) (sym same)
                (subst (OpenOk b g'.page q) (sym server) amid.told)
            | inr apart ↦ subst (OpenOk b g'.page x) (sym (stays x apart))
                (open_kept b g.page g'.page x (g.server x) (grow.each (g.server x).accepted
                (h.whole.ok.server x).views.formed).plan
                (told_more before (line.Event s ∷ []) g.page x (g.server x) (h.told x)))
          ]));
      shown = shown_now;
      first = λ x v st e. first_now x v st (first_open before (id_of x) (view_of v)) refl e;
      lines = all-append (IsSound g'.page) before (line.Event s
          ∷ ls) (sound_grows g g' grow before h.lines) (turn_sound before g h s q i ms t);
    }
  where
    g1 : Group Entry
    g1 = turn_group g q ms

    b1 : Trace
    b1 = before ++ turn_lines g s q ms

    w1 : Whole g1
    w1 = turn_whole g s q i ms t

    some : SomeShown before g1.page q (acts q (g.clock q) (g.server q) ms)
    some = elim t.up [
      | inl up ↦ kind_some before g q (g.server q) i ms t.kind up t.goes h.shown
      | inr boot ↦ subst (λ ms. SomeShown before (turn_group g q ms).page q
          (acts q (g.clock q) (g.server q) ms)) (sym boot)
          (apart_some (Booting g.delta ∷ []) before g q (g.server q) (tt, tt) h.shown)
    ]

    there : (v : ℕ) → 0 < v → IsThere v (g1.page v) q (g1.server q) → PartnerShown b1 v (g1.page v)
    there v z x =
        let up : shown_of (g1.server q) ≡ Some (state_of (g1.server q)) = rw (x.3) refl in
        let log = (w1.ok.server q).logs.log x.2 in
        let top_is : (state_of (g1.server q)).top ≡ top (g1.server q) =
        ap (λ l. by_held l (top (g1.server q)) (g1.server q).lb) x.2 in
        let start : (g1.page v).plan.start ≤ top (g1.server q) =
        subst (λ n. (g1.page n).plan.start ≤ top (g1.server q)) x.1 log.holds.from_start in
        let twice : (g1.page v).held_twice ≤ top (g1.server q) =
        subst (λ n. (g1.page n).held_twice ≤ top (g1.server q)) x.1 log.holds.held_twice in
        let state : last_state b1 (id_of q) ≡ Some (state_of (g1.server q)) =
        fold-append (later_state (id_of q)) _ before (turn_lines g s q ms)
        ∙ ap (λ st. fold (later_state (id_of q)) st (turn_lines g s q ms)) (h.states q)
        ∙ states_after g q ms (listing_of g s) (stateless-listing g s) q ∙ up in
        subst (λ p. HasShown b1 (id_of p) (view_of v) (max (g1.page v).plan.start
        (g1.page v).held_twice)) x.0
        (has_shown b1 (id_of q) (state_of (g1.server q)) (view_of v) _ state (ap view_of x.1)
        (not_first v z) (subst (λ n. max (g1.page v).plan.start (g1.page v).held_twice ≤
        n) (sym top_is) (omega arith)))

    shown_now : AllShown b1 g1.page
    shown_now = record {
      each = λ v f z j. ⊎_elim
          (λ x. shown_more before (turn_lines g s q ms) _ (view_of v) _ x)
          (λ x. there v z (subst (IsThere v (g1.page v) q)
          (sym (moved_server ms g q (g.server q) refl)) x))
          (some.each v f z j);
    }

    opens_first : (x : Place) (v : ℕ) (st : StateLine) → first_open before (id_of x) (view_of v) ≡
        None → OpensNow q x (view_of v) (shown_of (g1.server q)) st → ((g1.page v).formed ≡ true)
        × (st.cp ≡ (g1.page v).plan.start)
    opens_first x v st none now = elim t.up [
      | inl up ↦ opened up
      | inr boot ↦ absurd (boot_closed boot)
    ]
      where
        s1 : Server Entry
        s1 = g1.server q

        state_now : (b : Bool) → (if b then Some (state_of s1) else None) ≡ Some st
            → (b ≡ true) × (state_of s1 ≡ st)
        state_now true e = (refl, let z : state_of s1 ≡ st = cc in z)
        state_now false e = absurd cc

        its : state_of s1 ≡ st
        its = (state_now s1.up now.is).1

        parts : (is_open st.mode ≡ true) × (same_view st.accepted (view_of v) ≡ true)
        parts = and_left (is_open st.mode) (same_view st.accepted (view_of v)) now.opens'

        open_now : s1.mode ≡ Open
        open_now = open_shown s1.mode s1.duty (ap (λ (y : StateLine). y.mode) its
            ∙ is_open_mode st.mode parts.0)

        view_now : s1.accepted ≡ v
        view_now = view_is s1.accepted v (ap (λ (y : StateLine). y.accepted) its
            ∙ same_view_is st.accepted (view_of v) parts.1)

        log : s1.held ≡ Log
        log = ((w1.ok.server q).modes.active (subst IsActive (sym open_now) tt)).0

        cp_now : st.cp ≡ s1.cp
        cp_now = ap (λ (y : StateLine). y.cp) (sym its) ∙ ap (λ l. by_held l s1.cp s1.lb) log

        amid : FirstOk (g.server q) g1.page s1
        amid = subst (FirstOk (g.server q) g1.page) (sym (moved_server ms g q (g.server q) refl))
            (turn_amid before g h s q i ms t).first

        formed : (g1.page v).formed ≡ true
        formed = subst (λ n. (g1.page n).formed ≡ true) view_now (w1.ok.server q).views.formed

        opened : (g.server q).up ≡ true → ((g1.page v).formed ≡ true)
            × (st.cp ≡ (g1.page v).plan.start)
        opened up = ⊎_elim
            (λ old.
            let line = open_has_line before g h q up old.0 in
            let found : first_open before (id_of x) (view_of v) ≡ Some line.0 =
            ap (λ y. first_open before (id_of y) (view_of v)) now.its
            ∙ ap (λ y. first_open before (id_of q) (view_of y)) (sym (old.1 ∙ view_now))
            ∙ line.1 in
            absurd (let clash : None ≡ Some line.0 = sym none ∙ found in cc))
            (λ (new : s1.cp ≡ (g1.page s1.accepted).plan.start). (
              formed,
              cp_now ∙ new ∙ ap (λ n. (g1.page n).plan.start) view_now,
            ))
            (amid.opened open_now)

        boot_closed : ms ≡ Booting g.delta ∷ [] → ⊥
        boot_closed e = booted_idle q (g.clock q) g.delta (mark_of (g.server q))
            (subst IsActive
            (sym (ap (λ (y : Server Entry). y.mode) (sym (moved_server (Booting g.delta ∷ []) g q
            (g.server q) refl))
            ∙ ap (λ ms. ((turn_group g q ms).server q).mode) (sym e) ∙ open_now)) tt)

    first_now : (x : Place) (v : ℕ) (st : StateLine) (o : Option StateLine)
        → first_open before (id_of x) (view_of v) ≡ o → first_open b1 (id_of x) (view_of v) ≡
        Some st → ((g1.page v).formed ≡ true) × (st.cp ≡ (g1.page v).plan.start)
    first_now x v st (Some y) is e =
        let same : Some y ≡ Some st = sym (first_more before (turn_lines g s q ms) (id_of x)
        (view_of v) y is) ∙ e in
        let one : y ≡ st = cc in
        let old = h.first x v y is in
        let grows = (goes_grows ms g q (g.server q) t.goes).each v old.0 in (
          grows.formed,
          subst (λ (z : StateLine). z.cp ≡ (g1.page v).plan.start) one (old.1
              ∙ ap (λ (p : Plan). p.start) (sym grows.plan)),
        )
    first_now x v st None is e =
        opens_first x v st is (turn_opens g g1 q x ms s (view_of v) st
        (sym (first_open-append before (turn_lines g s q ms) (id_of x) (view_of v)
        ∙ either_none (first_open before (id_of x) (view_of v)) _ is) ∙ e))
