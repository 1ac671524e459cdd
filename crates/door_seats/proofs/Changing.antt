-- What stands at a seat where its connection comes, gives bytes, takes bytes and goes.
use Rattle.std.proofs.Common.{◌≡◌, ℕ, ◌+◌, true, is_some, List, [], ◌∷◌, ◌++◌, Option, Some, None, ap, append_assoc, refl, subst, sym, true≢false, ◌∙◌}
use Rattle.std.proofs.lemmas.Bool.{eq-eqb}
use Rattle.group_client.specs.Rule.{Asked}
use Rattle.rpc_door.specs.Serving.{AreRecords}
use Rattle.door_seats.specs.Answers.{Asks, came, went}
use Rattle.door_seats.specs.Events.{Arrives, Breaks, Comes, Ends, Event, Goes, Leaves}
use Rattle.door_seats.specs.Kept.{Kept}
use Rattle.door_seats.specs.Seats.{arrived, come, gone, is_leaving, is_over, left, lost, moved, over}
use Rattle.door_seats.specs.declared.rule.Rule.{Rule}
use Rattle.door_seats.specs.declared.seat.Line.{Line}
use Rattle.door_seats.specs.declared.seat.Line.TheVariants.{Free, Open, Over, Done, Lost}
use Rattle.door_seats.specs.declared.seat.Seat.{Seat}
use Rattle.door_seats.specs.declared.seat.Visit.{Visit}
use Rattle.door_seats.proofs.Following.{IsMoved, IsSending, below_quiet, no_sent, none_asked}
use Rattle.door_seats.proofs.Keeping.{AreKept, kept_later}
use Rattle.door_seats.proofs.Later.{all_answered_later}
use Rattle.door_seats.proofs.MoreBytes.{records_more, whole_more}
use Rattle.door_seats.proofs.Standing.{IsBelow, IsHeld, IsSeated, MayAsk, Stands, below_later, served_later, stands_later}

-- ---- where nothing comes or goes

pub seat_changed : (rule : Rule) (first : ℕ) (e : Event) (es : List Event) (n : ℕ) (s t : Seat)
    (extra : List ℕ) → came n (e ∷ es) ≡ came n es → went n (e ∷ es) ≡ went n es
    → (h : IsSeated rule first es n s) → h.served.ungone ≡ t.unsent ++ extra
    → Stands rule es t h.served.unread extra t.visit → t.client ≡ first + n
    → IsBelow (e ∷ es) t.client t.next → IsSeated rule first (e ∷ es) n t
seat_changed rule first e es n s t extra same_came same_went h ungone stands client below = record {
  served = served_later rule e es n same_came same_went h.served;
  extra = extra;
  ungone = ungone;
  stands = stands_later rule e es t h.served.unread extra t.visit stands;
  client = client;
  below = below;
}

-- another seat stays as it was
pub seat_stays : (rule : Rule) (first : ℕ) (e : Event) (es : List Event) (n : ℕ) (s : Seat)
    → came n (e ∷ es) ≡ came n es → went n (e ∷ es) ≡ went n es → IsSeated rule first es n s
    → ((q : Asked) → Asks e q → q.client ≡ s.client → ⊥) → IsSeated rule first (e ∷ es) n s
seat_stays rule first e es n s same_came same_went h other =
    seat_changed rule first e es n s s h.extra same_came same_went h h.ungone h.stands h.client
    (below_later e es s.client s.next h.below (λ q asks is within. absurd (other q asks is)))

pub is_quiet : (e : Event) → ((q : Asked) → Asks e q → ⊥) → IsSending e None
is_quiet e none = record {
  tells = λ q asks. absurd (none q asks);
  told = λ q to is. absurd (no_sent (record { asked = q; to = to }) is);
}

-- a seat that asks nothing
pub moves_quietly : (rule : Rule) (first : ℕ) (e : Event) (es : List Event) (n : ℕ) (s t : Seat)
    (kept : Kept) → IsSending e None → AreKept rule es kept → IsSeated rule first (e ∷ es) n t
    → IsMoved rule first e es n s.client s.next (moved t kept None)
moves_quietly rule first e es n s t kept sends keeps seat = record {
  seat = seat;
  kept = kept_later rule e es kept keeps;
  fresh = λ q asks. absurd (none_asked e q sends asks);
}

-- a seat that only its connection or its wait changes
pub seat_turns : (rule : Rule) (first : ℕ) (e : Event) (es : List Event) (n : ℕ) (s t : Seat)
    (extra : List ℕ) → IsSending e None → came n (e ∷ es) ≡ came n es
    → went n (e ∷ es) ≡ went n es → (h : IsSeated rule first es n s)
    → h.served.ungone ≡ t.unsent ++ extra → Stands rule es t h.served.unread extra t.visit
    → t.client ≡ s.client → t.next ≡ s.next → IsSeated rule first (e ∷ es) n t
seat_turns rule first e es n s t extra sends same_came same_went h ungone stands client next =
    seat_changed rule first e es n s t extra same_came same_went h ungone stands (client ∙ h.client)
    (below_quiet e es t.client t.next
    (λ q asked is. rw next (h.below q asked (is ∙ client))) sends)

-- one that does nothing
pub seat_rests : (rule : Rule) (first : ℕ) (e : Event) (es : List Event) (n : ℕ) (s : Seat)
    (kept : Kept) → IsSending e None → came n (e ∷ es) ≡ came n es → went n (e ∷ es) ≡ went n es
    → IsSeated rule first es n s → AreKept rule es kept
    → IsMoved rule first e es n s.client s.next (moved s kept None)
seat_rests rule first e es n s kept sends same_came same_went h keeps =
    moves_quietly rule first e es n s s kept sends keeps
    (seat_turns rule first e es n s s h.extra sends same_came same_went h h.ungone h.stands refl
    refl)

-- ---- a connection comes

no_visit : (rule : Rule) (es : List Event) (s : Seat) (pending extra : List ℕ) (o : Option Visit)
    → s.line ≡ Free → Stands rule es s pending extra o → o ≡ None
no_visit rule es s pending extra None is h = refl
no_visit rule es s pending extra (Some v) is h = absurd (subst MayAsk is h.0)

pub arrives : (rule : Rule) (first : ℕ) (es : List Event) (n : ℕ) (s : Seat) → s.line ≡ Free
    → IsSeated rule first es n s → IsSeated rule first (Arrives n ∷ es) n (arrived s)
arrives rule first es n s is h =
    let same = eq-eqb n n refl in
    let came_is : came n (Arrives n ∷ es) ≡ [] = rw same refl in
    let went_is : went n (Arrives n ∷ es) ≡ [] = rw same refl in
    let none = no_visit rule es s h.served.unread h.extra s.visit is h.stands in
    record {
      served = record {
        records = [];
        unread = [];
        answers = [];
        ungone = [];
        read = sym came_is;
        answered = refl;
        front = sym (ap (λ (u : List ℕ). u ++ []) went_is);
      };
      extra = [];
      ungone = refl;
      stands = subst (λ (o : Option Visit). Stands rule (Arrives n ∷ es) (arrived s) [] [] o)
          (sym none) (λ held. (refl, refl));
      client = h.client;
      below = below_quiet (Arrives n) es s.client s.next h.below
          (is_quiet (Arrives n) (λ q asks. asks));
    }

-- ---- bytes come, and no more

come_stands : (rule : Rule) (es : List Event) (s : Seat) (pending extra bytes : List ℕ)
    (o : Option Visit) → Stands rule es s pending extra o
    → Stands rule es (come bytes s) (pending ++ bytes) extra o
come_stands rule es s pending extra bytes None h =
    λ held. (ap (λ (u : List ℕ). u ++ bytes) (h held).0, (h held).1)
come_stands rule es s pending extra bytes (Some v) h = (
  h.0,
  h.1,
  h.2,
  h.3 ++ bytes,
  whole_more pending bytes v.request h.3 h.4,
  λ held. ap (λ (u : List ℕ). u ++ bytes) (h.5 held),
  h.6,
  h.7,
)

pub comes : (rule : Rule) (first : ℕ) (es : List Event) (n : ℕ) (s : Seat) (bytes : List ℕ)
    → IsSeated rule first es n s → IsSeated rule first (Comes n bytes ∷ es) n (come bytes s)
comes rule first es n s bytes h =
    let e = Comes n bytes in
    let i = h.served in
    let same = eq-eqb n n refl in
    let came_is : came n (e ∷ es) ≡ came n es ++ bytes = rw same refl in
    record {
      served = record {
        records = i.records;
        unread = i.unread ++ bytes;
        answers = i.answers;
        ungone = i.ungone;
        read = subst (λ (u : List ℕ). AreRecords u i.records (i.unread ++ bytes)) (sym came_is)
            (records_more (came n es) bytes i.records i.unread i.read);
        answered = all_answered_later rule e es i.records i.answers i.answered;
        front = i.front;
      };
      extra = h.extra;
      ungone = h.ungone;
      stands = stands_later rule e es (come bytes s) (i.unread ++ bytes) h.extra s.visit
          (come_stands rule es s i.unread h.extra bytes s.visit h.stands);
      client = h.client;
      below = below_quiet e es s.client s.next h.below (is_quiet e (λ q asks. asks));
    }

over_stands : (rule : Rule) (es : List Event) (s : Seat) (pending extra : List ℕ) (o : Option Visit)
    → s.line ≡ Open → Stands rule es s pending extra o → Stands rule es (over s) pending extra o
over_stands rule es s pending extra None is h = λ held. h (subst IsHeld (sym is) tt)
over_stands rule es s pending extra (Some v) is h =
    (tt, h.1, h.2, h.3, h.4, λ held. h.5 (subst IsHeld (sym is) tt), h.6, h.7)

pub ends : (rule : Rule) (first : ℕ) (es : List Event) (n : ℕ) (s : Seat) → s.line ≡ Open
    → IsSeated rule first es n s → IsSeated rule first (Ends n ∷ es) n (over s)
ends rule first es n s is h =
    seat_turns rule first (Ends n) es n s (over s) h.extra (is_quiet (Ends n) (λ q asks. asks)) refl
    refl h h.ungone (over_stands rule es s h.served.unread h.extra s.visit is h.stands) refl refl

-- ---- bytes go

no_rest : (bytes rest : List ℕ) → bytes ++ rest ≡ [] → rest ≡ []
no_rest [] rest is = is
no_rest (b ∷ bs) rest is = absurd cc

gone_stands : (rule : Rule) (es : List Event) (s : Seat) (pending extra bytes rest : List ℕ)
    (o : Option Visit) → s.unsent ≡ bytes ++ rest → Stands rule es s pending extra o
    → Stands rule es (gone rest s) pending extra o
gone_stands rule es s pending extra bytes rest None is h = h
gone_stands rule es s pending extra bytes rest (Some v) is h =
    (h.0, no_rest bytes rest (sym is ∙ h.1), h.2, h.3, h.4, h.5, h.6, h.7)

pub goes : (rule : Rule) (first : ℕ) (es : List Event) (n : ℕ) (s : Seat) (bytes rest : List ℕ)
    → s.unsent ≡ bytes ++ rest → IsSeated rule first es n s
    → IsSeated rule first (Goes n bytes ∷ es) n (gone rest s)
goes rule first es n s bytes rest is h =
    let e = Goes n bytes in
    let i = h.served in
    let same = eq-eqb n n refl in
    let went_is : went n (e ∷ es) ≡ went n es ++ bytes = rw same refl in
    let left_is : i.ungone ≡ bytes ++ (rest ++ h.extra) =
    h.ungone ∙ ap (λ (u : List ℕ). u ++ h.extra) is ∙ append_assoc bytes rest h.extra in
    record {
      served = record {
        records = i.records;
        unread = i.unread;
        answers = i.answers;
        ungone = rest ++ h.extra;
        read = i.read;
        answered = all_answered_later rule e es i.records i.answers i.answered;
        front = i.front ∙ ap (λ (u : List ℕ). went n es ++ u) left_is
            ∙ sym (append_assoc (went n es) bytes (rest ++ h.extra))
            ∙ ap (λ (u : List ℕ). u ++ (rest ++ h.extra)) (sym went_is);
      };
      extra = h.extra;
      ungone = refl;
      stands = stands_later rule e es (gone rest s) i.unread h.extra s.visit
          (gone_stands rule es s i.unread h.extra bytes rest s.visit is h.stands);
      client = h.client;
      below = below_quiet e es s.client s.next h.below (is_quiet e (λ q asks. asks));
    }

-- ---- a connection goes

pub none_left : (unsent extra : List ℕ) → unsent ≡ [] → extra ≡ [] → unsent ++ extra ≡ []
none_left unsent extra p q = ap (λ (u : List ℕ). u ++ extra) p ∙ q

lost_stands : (rule : Rule) (es : List Event) (s : Seat) (pending extra : List ℕ) (o : Option Visit)
    → Stands rule es s pending extra o
    → Stands rule es (lost s) pending (s.unsent ++ extra) o
lost_stands rule es s pending extra None h = λ held. absurd held
lost_stands rule es s pending extra (Some v) h =
    (tt, refl, none_left s.unsent extra h.1 h.2, h.3, h.4, λ held. absurd held, h.6, h.7)

pub breaks : (rule : Rule) (first : ℕ) (es : List Event) (n : ℕ) (s : Seat)
    → IsSeated rule first es n s → IsSeated rule first (Breaks n ∷ es) n (lost s)
breaks rule first es n s h =
    seat_turns rule first (Breaks n) es n s (lost s) (s.unsent ++ h.extra)
    (is_quiet (Breaks n) (λ q asks. asks)) refl refl h h.ungone
    (lost_stands rule es s h.served.unread h.extra s.visit h.stands) refl refl

stays_here : (l : Line) → MayAsk l → is_over true l ≡ true → ⊥
stays_here Free may is = may
stays_here Open may is = true≢false (sym is)
stays_here Over may is = true≢false (sym is)
stays_here Done may is = may
stays_here Lost may is = true≢false (sym is)

left_stands : (rule : Rule) (es : List Event) (s : Seat) (pending extra : List ℕ) (o : Option Visit)
    → is_over (is_some o) s.line ≡ true → Stands rule es s pending extra o
    → Stands rule es (left s) pending (s.unsent ++ extra) o
left_stands rule es s pending extra None is h = λ held. absurd held
left_stands rule es s pending extra (Some v) is h = absurd (stays_here s.line h.0 is)

pub leaves : (rule : Rule) (first : ℕ) (es : List Event) (n : ℕ) (s : Seat) → is_leaving s ≡ true
    → IsSeated rule first es n s → IsSeated rule first (Leaves n ∷ es) n (left s)
leaves rule first es n s is h =
    seat_turns rule first (Leaves n) es n s (left s) (s.unsent ++ h.extra)
    (is_quiet (Leaves n) (λ q asks. asks)) refl refl h h.ungone
    (left_stands rule es s h.served.unread h.extra s.visit is h.stands) refl refl
