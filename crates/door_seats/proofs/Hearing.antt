-- What stands at a seat whose call is asked again, or of which a datagram says something.
use Rattle.std.proofs.Common.{◌≡◌, ℕ, Bool, true, false, cond, List, [], ◌∷◌, Option, Some, None, ap, inr, nat_le, refl, subst, sym, ◌∙◌}
use Rattle.node_link.specs.declared.link.Datagram.{Datagram}
use Rattle.nfs_door.specs.Steps.{after}
use Rattle.nfs_door.specs.declared.step.Step.TheVariants as step
use Rattle.client_calls.specs.Waits.{asked_again, hinted}
use Rattle.group_client.specs.Rule.{Asked, news}
use Rattle.group_client.specs.declared.news.News.{News}
use Rattle.group_client.specs.declared.news.News.TheVariants.{Nothing, Refused, Answered}
use Rattle.client_calls.specs.declared.wait.Wait.{Wait}
use Rattle.door_seats.specs.Answers.{Asks, IsAskedIn, IsExchange, came, went}
use Rattle.door_seats.specs.Events.{Event, Hears, Reminds}
use Rattle.door_seats.specs.Kept.{Kept}
use Rattle.door_seats.specs.Seats.{Moved, Sent, call_of, hears_datagram, hears_of_datagram, moved, reminded, reminded_of, told, waiting}
use Rattle.door_seats.specs.declared.rule.Moment.{Moment}
use Rattle.door_seats.specs.declared.seat.Seat.{Seat}
use Rattle.door_seats.specs.declared.seat.Visit.{Visit}
use Rattle.door_seats.proofs.Changing.{none_left, seat_changed, seat_rests}
use Rattle.door_seats.proofs.Coming.{come_later, come_on, heard_rightly}
use Rattle.door_seats.proofs.Following.{HasNext, IsMoved, IsSending, follows, none_asked, only_asked}
use Rattle.door_seats.proofs.Keeping.{AreKept, kept_later}
use Rattle.door_seats.proofs.Standing.{IsSeated, Stands, below_later, served_later}

-- ---- a call that waits

module _ (m : Moment) (first : ℕ) (e : Event) (es : List Event) (n : ℕ) (s : Seat) (kept : Kept)
    (h : IsSeated m.rule first es n s) (keeps : AreKept m.rule es kept)
    (same_came : came n (e ∷ es) ≡ came n es) (same_went : went n (e ∷ es) ≡ went n es) where
  stands_with : (v : Visit) → s.visit ≡ Some v
      → Stands m.rule es s h.served.unread h.extra (Some v)
  stands_with v is =
      subst (λ (o : Option Visit). Stands m.rule es s h.served.unread h.extra o) is h.stands

  -- it waits otherwise, and what is asked was asked before
  waits : (v : Visit) (w : Wait) (what : Option Sent) → s.visit ≡ Some v
      → ((q : Asked) → Asks e q → (q.client ≡ s.client) × IsAskedIn es q)
      → IsMoved m.rule first e es n s.client s.next (moved (waiting w v s) kept what)
  waits v w what is again = record {
    seat = seat_changed m.rule first e es n s (waiting w v s) h.extra same_came same_went h h.ungone
        (stands_with v is) h.client
        (below_later e es s.client s.next h.below
        (λ q asks same within. h.below q (again q asks).1 same within));
    kept = kept_later m.rule e es kept keeps;
    fresh = λ q asks. let old = again q asks in (old.0, inr old.1);
  }

-- ---- a call that is asked again

module _ (m : Moment) (first : ℕ) (es : List Event) (n : ℕ) (sent : Option Sent) (s : Seat)
    (kept : Kept) (h : IsSeated m.rule first es n s) (keeps : AreKept m.rule es kept) where
  abbrev e : Event
  e = Reminds n sent

  abbrev MovesTo : Moved → Type 0
  MovesTo x = x.sent ≡ sent → IsMoved m.rule first e es n s.client s.next x

  sends_as : (what : Option Sent) → what ≡ sent → IsSending e what
  sends_as what is = subst (λ (o : Option Sent). IsSending e o) (sym is)
      (record { tells = λ q asks. asks; told = λ q to is. (to, is) })

  stays : MovesTo (moved s kept None)
  stays is = seat_rests m.rule first e es n s kept (sends_as None is) refl refl h keeps

  by_due : (v : Visit) (b : Bool) → s.visit ≡ Some v
      → MovesTo (cond b (moved (waiting (asked_again m.now v.wait) v s) kept
      (Some (record { asked = call_of m s v.errand v.number; to = v.wait.place })))
      (moved s kept None))
  by_due v true visits is =
      let x : Sent = record { asked = call_of m s v.errand v.number; to = v.wait.place } in
      let asked = (stands_with m first e es n s kept h keeps refl refl v visits).7 in
      waits m first e es n s kept h keeps refl refl v (asked_again m.now v.wait) (Some x) visits
      (λ (q : Asked) (asks : Asks e q).
      let same = only_asked e x q (sends_as (Some x) is) asks in
      (ap (λ (p : Asked). p.client) same, subst (IsAskedIn es) (sym same) asked))
  by_due v false visits is = stays is

  by_visit : (o : Option Visit) → s.visit ≡ o → MovesTo (reminded_of m s kept o)
  by_visit None visits is = stays is
  by_visit (Some v) visits is = by_due v (nat_le v.wait.due m.now) visits is

  -- A seat asks its call again, where its pause is over
  pub reminds_rightly : (reminded m s kept).sent ≡ sent
      → IsMoved m.rule first e es n s.client s.next (reminded m s kept)
  reminds_rightly is = by_visit s.visit refl is

-- ---- what is heard of a call

module _ (m : Moment) (first : ℕ) (es : List Event) (n : ℕ) (d : Datagram) (sent : Option Sent)
    (s : Seat) (kept : Kept) (h : IsSeated m.rule first es n s)
    (keeps : AreKept m.rule es kept) where
  abbrev hearing : Event
  hearing = Hears n d sent

  abbrev HearsTo : Moved → Type 0
  HearsTo x = x.sent ≡ sent → IsMoved m.rule first hearing es n s.client s.next x

  hearing_as : (what : Option Sent) → what ≡ sent → IsSending hearing what
  hearing_as what is = subst (λ (o : Option Sent). IsSending hearing o) (sym is)
      (record { tells = λ q asks. asks; told = λ q to is. (to, is) })

  rests : HearsTo (moved s kept None)
  rests is = seat_rests m.rule first hearing es n s kept (hearing_as None is) refl refl h keeps

  by_news : (v : Visit) (x : News) → s.visit ≡ Some v → news (call_of m s v.errand v.number) d ≡ x
      → HearsTo (told m s kept v x)
  by_news v Nothing visits says is = rests is
  by_news v (Refused by cause) visits says is =
      waits m first hearing es n s kept h keeps refl refl v (hinted by cause v.wait) None visits
      (λ (q : Asked) (asks : Asks hearing q).
      absurd (none_asked hearing q (hearing_as None is) asks))
  by_news v (Answered x) visits says is =
      let q = call_of m s v.errand v.number in
      let st = stands_with m first hearing es n s kept h keeps refl refl v visits in
      let t : Seat = record s { visit = None; place = x.by } in
      let next : HasNext m.rule (hearing ∷ es) n t v.request = record {
        served = served_later m.rule hearing es n refl refl h.served;
        rest = st.3;
        is_next = st.4;
        ungone = h.ungone ∙ none_left s.unsent h.extra st.1 st.2;
        unsent = st.1;
        line = st.0;
        held = st.5;
        visit = refl;
      } in
      let exchange : IsExchange m.rule (hearing ∷ es)
      (record { cred = v.errand.cred; call = v.errand.call; reply = x.reply }) = record {
        asked = q;
        heard = d;
        by = x.by;
        seat = n;
        sent = sent;
        later = [];
        earlier = es;
        port = refl;
        cred = refl;
        call = refl;
        says = says;
        order = refl;
        was_asked = st.7;
      } in
      let come = come_on m.rule (hearing ∷ es) v.request v.errand x.reply
      (come_later m.rule hearing es v.request (step.Call v.errand) st.6) exchange
      (heard_rightly q d x says) in
      follows m first hearing es n t kept v.request (after v.errand x.reply) (hearing_as _ is) next
      come (kept_later m.rule hearing es kept keeps) h.client h.below

  heard_by_visit : (o : Option Visit) → s.visit ≡ o → HearsTo (hears_of_datagram m d s kept o)
  heard_by_visit None visits is = rests is
  heard_by_visit (Some v) visits is =
      by_news v (news (call_of m s v.errand v.number) d) visits refl is

  -- A seat hears what a datagram says of its call
  pub hears_rightly : (hears_datagram m d s kept).sent ≡ sent
      → IsMoved m.rule first hearing es n s.client s.next (hears_datagram m d s kept)
  hears_rightly is = heard_by_visit s.visit refl is
