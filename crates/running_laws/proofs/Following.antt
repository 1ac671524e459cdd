-- Events follow: one, and then all.
use Rattle.std.proofs.Common.{List, [], ◌∷◌, ◌++◌, append-nil, append_assoc, Contains, refl, sym, ap, ◌∙◌, subst}
use Rattle.group_trace.specs.DiskRun.{DiskScene}
use Rattle.harp_types.specs.declared.trio.Trio.{Trio}
use Rattle.world.specs.World.{WorldValue}
use Rattle.world_lines.specs.Given.{answered_lines}
use Rattle.running_laws.specs.Books.{AddTo, AddsTo, answers_in}
use Rattle.running_laws.specs.Events.{EachAfter, Event, Site}
use Rattle.running_laws.specs.Follows.{ClocksFollow, Follows, FollowsOn, EventsFollow}
use Rattle.running_laws.specs.Histories.{IsInTime, IsSentBefore}
use Rattle.running_laws.specs.Lives.{Happens}
use Rattle.running_laws.specs.Statement.{answer_lines}
use Rattle.running_laws.proofs.Askers.{steps_more}
use Rattle.running_laws.proofs.Clocks.{clocks_follow, clocks_led}
use Rattle.running_laws.proofs.Entered.{book_asked, book_is}
use Rattle.running_laws.proofs.Moving.{LedTo, answers_nowhere, answers_of, answers_on, leads_nowhere, leads_on}
use Rattle.running_laws.proofs.Standing.{places_are}
use Rattle.running_laws.proofs.Left.{IsNext, sent_more}
use Rattle.running_laws.proofs.Happened.{set_world}
use Rattle.running_laws.proofs.Happening.{cut_or_whole}

-- ONE EVENT follows
event_follows : (before : List Event) (e : Event) (a c : Trio Site) (w : DiskScene)
    (x : WorldValue) → Follows before a w x → Happens e a c → IsInTime before e
    → IsSentBefore before e → FollowsOn before (e ∷ []) c w x
unfolding AddTo
event_follows before e a c w x f h in_time network =
    let es = before ++ e ∷ [] in
    let next : IsNext before e a c w x =
    record { follows = f; happens = h; in_time = in_time } in
    let first : LedTo es w (set_world before e a c w x next) [] =
    clocks_led before e x.clocks f.clocks in_time w x refl
    (record {
      reached = f.reached;
      asks = steps_more before (e ∷ []) f.reached.steps f.asks;
      stands = f.stands;
    }) in
    let last = cut_or_whole before e a c w x next first.scene first.there e.cut
    h.here network in
    let y = last.world in
    let led = leads_on w first.scene last.led.scene first.led last.led.led in
    let follows : Follows (before ++ e ∷ []) c last.led.scene y = record {
      reached = last.led.there.reached;
      asks = last.led.there.asks;
      stands = last.led.there.stands;
      sites_are = last.left.sites_are;
      no_stop = last.left.no_stop;
      posted = λ d has. last.left.posted d
          (subst (λ ds. Contains ds d) (sent_more before e) has);
      clocks = subst (ClocksFollow (before ++ e ∷ [])) (sym last.left.clocks)
          (clocks_follow before e x.clocks f.clocks in_time);
      askers = last.left.askers;
    } in
    let adds : AddsTo before e x.book.entries y.book.entries = record {
      more = last.more;
      grows = last.grows;
      is_book = book_is es last.led.scene y last.led.there;
      asked = book_asked es last.led.scene y last.led.there;
      answers = last.answers;
    } in
    record {
      scene = last.led.scene;
      world = y;
      led = led;
      follows = follows;
      places = places_are (before ++ e ∷ []) c last.led.scene y follows;
      answers = answers_on w first.scene last.led.scene first.led last.led.led
          ∙ ap (λ ls. ls ++ answers_of first.scene last.led.led.steps) first.says
          ∙ last.led.says
          ∙ sym (append-nil (answered_lines e.place (answers_in e.outs)));
      book = (y.book.entries, adds, refl);
    }

-- EVENTS FOLLOW
pub events_follow : EventsFollow
unfolding EachAfter AddTo
events_follow before [] a c w x f chain network clocks =
    let led = leads_nowhere w in
    let follows : Follows (before ++ []) c w x =
    subst (λ (z : Trio Site). Follows (before ++ []) z w x) (sym chain)
    (subst (λ (es : List Event). Follows es a w x) (sym (append-nil before)) f) in
    record {
      scene = w;
      world = x;
      led = led;
      follows = follows;
      places = places_are (before ++ []) c w x follows;
      answers = answers_nowhere w;
      book = refl;
    }
events_follow before (e ∷ es) a c w x f chain network clocks =
    let one = event_follows before e a chain.0 w x f chain.1 clocks.0 network.0 in
    let more = events_follow (before ++ e ∷ []) es chain.0 c one.scene one.world one.follows
    chain.2 network.1 clocks.1 in
    let led = leads_on w one.scene more.scene one.led more.led in
    let follows = subst (λ (hs : List Event). Follows hs c more.scene more.world)
    (append_assoc before (e ∷ []) es) more.follows in
    record {
      scene = more.scene;
      world = more.world;
      led = led;
      follows = follows;
      places = places_are (before ++ (e ∷ es)) c more.scene more.world follows;
      answers = answers_on w one.scene more.scene one.led more.led
          ∙ ap (λ ls. ls ++ answers_of one.scene more.led.steps) one.answers
          ∙ ap (λ ls. answer_lines (e ∷ []) ++ ls) more.answers
          ∙ ap (λ ls. ls ++ answer_lines es)
          (append-nil (answered_lines e.place (answers_in e.outs)));
      book = (
        one.world.book.entries,
        subst (AddsTo before e x.book.entries) (sym one.book.2) one.book.1,
        more.book,
      );
    }
