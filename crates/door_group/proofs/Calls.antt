-- A call on its way, and calls one after the other.
use Rattle.std.proofs.Common.{◌≡◌, ℕ, zero, suc, ◌+◌, ◌-◌, ◌<◌, Bool, true, false, cond, ◌&&◌, List, [], ◌∷◌, ◌++◌, ap, arith, inl, inr, refl, subst, sym, ◌∙◌}
use Rattle.std.specs.Prelude.{fold}
use Rattle.harp_types.specs.declared.call.Call.{Call}
use Rattle.harp_types.specs.declared.reply.Reply.{Reply}
use Rattle.harp_types.specs.declared.server.ServerId.{ServerId}
use Rattle.rpc_door.specs.declared.group.Exchange.{Exchange}
use Rattle.rpc_door.specs.declared.group.GroupFault.{GroupFault}
use Rattle.rpc_door.specs.declared.group.GroupFault.TheVariants as group
use Rattle.harp_types.specs.declared.cause.Cause.{Cause}
use Rattle.door_group.specs.declared.brought.Brought.{Brought}
use Rattle.door_group.specs.declared.brought.Brought.TheVariants.{Nothing, Refused, Ended}
use Rattle.rpc_door.specs.Results.{is_reply_to}
use Rattle.door_group.specs.declared.brought.Next.{Next}
use Rattle.door_group.specs.declared.brought.Next.TheVariants.{Ends, AsksAt, WaitsOn}
use Rattle.node_loop.specs.Run.{Asked}
use Rattle.node_loop.specs.declared.heard.Heard.{Heard}
use Rattle.node_loop.specs.declared.heard.Heard.TheVariants.{Answer, CannotServe}
use Rattle.door_group.specs.Rule.{AreMade, Asks, AsksAgain, Before, EndsRightly, Follows, GivesUp, IsMade, LeadsOn, Outcome, TurnBrings, Waits, brings, follow, hear, is_of, later, news}
use Rattle.door_group.specs.Rule.Outcome.{Broken, Done, Spent}

module _ {W T : Type 0} (turns : W → List Heard → W → Type 0)
    (asks : ServerId → Asked → W → List Heard → W → Type 0) (turn_breaks : W → T → Type 0)
    (ask_breaks : ServerId → Asked → W → T → Type 0) (most : ℕ) (q : Asked) (start : ServerId)
    (first : W) where
  abbrev MadeOf : Outcome W T → Type 0
  MadeOf o = IsMade turns asks turn_breaks ask_breaks most q o start first

  abbrev WaitsOf : ℕ → Outcome W T → ℕ → List Heard → ServerId → W → Type 0
  WaitsOf left o = Waits turns asks turn_breaks ask_breaks left q o

  -- a fault of the servers gives it up
  pub gives_up : (stands : W → Type 0) (trail : T) (why : GroupFault) → (why ≡ group.Spent → ⊥)
      → MadeOf (Broken trail) → GivesUp stands trail MadeOf why
  gives_up stands trail group.Failed unspent h = h
  gives_up stands trail group.Spent unspent h = absurd (unspent refl)
  gives_up stands trail group.NoMemory unspent h = h

  -- a call that was asked first at a place waits now
  pub record IsWaiting (stands : W → Type 0) (said : List Heard) (left quiet : ℕ)
      (place : ServerId) : Type 0 where
    pub scene : W
    pub is : stands scene
    pub rest : (o : Outcome W T)
        → Waits turns asks turn_breaks ask_breaks left q o quiet said place scene
        → IsMade turns asks turn_breaks ask_breaks most q o start first

  pub fewer : (stands : W → Type 0) (said : List Heard) (left quiet : ℕ) (place : ServerId) → 0 < left
      → IsWaiting stands said left quiet place → IsWaiting stands said (suc (left - 1)) quiet place
  fewer stands said left quiet place some i =
      let is : left ≡ suc (left - 1) = omega (arith, some) in
      subst (λ (n : ℕ). IsWaiting stands said n quiet place) is i

  module _ (old new : W → Type 0) (said : List Heard) (left quiet : ℕ) (place : ServerId)
      (b : Brought) (i : IsWaiting old said (suc left) quiet place)
      (t : TurnBrings turns new q.client q.number q.call said b i.scene) where
    -- the rest of a call after this turn
    after_turn : (next : Next) → follow place quiet b ≡ next → (o : Outcome W T)
        → Follows turns asks turn_breaks ask_breaks left quiet (WaitsOf left o) q o next place t.1
        → MadeOf o
    after_turn next is o f =
        let same : next ≡ follow place quiet (brings q.client q.number q.call (said ++ t.0)) =
        sym is ∙ ap (follow place quiet) t.4 in
        i.rest o (inl (
          t.0,
          t.1,
          t.2,
          subst (λ (n : Next).
              Follows turns asks turn_breaks ask_breaks left quiet (WaitsOf left o) q o n place t.1)
              same f,
        ))

    pub ends : (reply : Reply) → follow place quiet b ≡ Ends reply
        → (v : W) × MadeOf (Done reply place v) × new v
    ends reply is = (t.1, after_turn (Ends reply) is (Done reply place t.1) refl, t.3)

    pub waits_on : (now : List Heard) → follow place quiet b ≡ WaitsOn → now ≡ []
        → IsWaiting new now left (quiet + 1) place
    waits_on now is none = record {
      scene = t.1;
      is = t.3;
      rest = λ o h. after_turn WaitsOn is o
          (subst (λ (s : List Heard). WaitsOf left o (quiet + 1) s place t.1) none h);
    }

    spent_with : (n : ℕ) (o : Outcome W T) (after : List Heard → ServerId → W → Type 0)
        (next : ServerId) (w : W) → n ≡ 0 → o ≡ Spent w → AsksAgain turns asks turn_breaks ask_breaks n after q o next w
    spent_with zero o after next w none h = h
    spent_with (suc n) o after next w none h = absurd (omega (arith, none))

    -- no turn is left
    pub over : (next : ServerId) → follow place quiet b ≡ AsksAt next → left ≡ 0
        → (v : W) × MadeOf (Spent v) × new v
    over next is none = (
      t.1,
      after_turn (AsksAt next) is (Spent t.1)
          (spent_with left (Spent t.1) (WaitsOf left (Spent t.1) 0) next t.1 none refl),
      t.3,
    )

    again_with : (n : ℕ) (o : Outcome W T) (after : List Heard → ServerId → W → Type 0)
        (next : ServerId) (w : W) → 0 < n
        → Asks turns asks turn_breaks ask_breaks after q o next w
        → AsksAgain turns asks turn_breaks ask_breaks n after q o next w
    again_with zero o after next w some h = absurd (omega (arith, some))
    again_with (suc n) o after next w some h = h

    pub asks_again : (next : ServerId) (mid : W → Type 0) (heard now : List Heard)
        → follow place quiet b ≡ AsksAt next → 0 < left → heard ≡ []
        → LeadsOn (asks next q) mid heard now t.1 → IsWaiting mid now left 0 next
    asks_again next mid heard now is some none a =
        let said_now : now ≡ a.0 = a.4 ∙ ap (λ (s : List Heard). s ++ a.0) none in
        record {
          scene = a.1;
          is = a.3;
          rest = λ o h. after_turn (AsksAt next) is o (again_with left o (WaitsOf left o 0) next t.1
              some (inl (
                a.0,
                a.1,
                a.2,
                subst (λ (s : List Heard). WaitsOf left o 0 s next a.1) said_now h,
              )));
        }

    -- it is asked again, and the ask fails
    pub breaks_again : (next : ServerId) (trail : T) → follow place quiet b ≡ AsksAt next → 0 < left
        → ask_breaks next q t.1 trail → MadeOf (Broken trail)
    breaks_again next trail is some h = after_turn (AsksAt next) is (Broken trail)
        (again_with left (Broken trail) (WaitsOf left (Broken trail) 0) next t.1 some
        (inr (trail, refl, h)))

  -- a turn of a call that waits fails
  pub breaks : (stands : W → Type 0) (said : List Heard) (left quiet : ℕ) (place : ServerId)
      (trail : T) (i : IsWaiting stands said (suc left) quiet place) → turn_breaks i.scene trail
      → MadeOf (Broken trail)
  breaks stands said left quiet place trail i h = i.rest (Broken trail) (inr (trail, refl, h))

  -- none is left while it waits
  pub waits_out : (stands : W → Type 0) (said : List Heard) (left quiet : ℕ) (place : ServerId)
      → left ≡ 0 → IsWaiting stands said left quiet place
      → (v : W) × MadeOf (Spent v) × stands v
  waits_out stands said zero quiet place none i = (i.scene, i.rest (Spent i.scene) refl, i.is)
  waits_out stands said (suc left) quiet place none i = absurd (omega (arith, none))

  -- the first ask leads to where it waits
  pub asked_first : (stands : W → Type 0) (said : List Heard)
      → LeadsOn (asks start q) stands [] said first → IsWaiting stands said most 0 start
  asked_first stands said a = record {
    scene = a.1;
    is = a.3;
    rest = λ o h. inl (
      a.0,
      a.1,
      a.2,
      subst (λ (s : List Heard). WaitsOf most o 0 s start a.1) a.4 h,
    );
  }

  -- or it fails
  pub breaks_first : (trail : T) → ask_breaks start q first trail → MadeOf (Broken trail)
  breaks_first trail h = inr (trail, refl, h)

-- ---- what ends a call is a reply to it

right_if : (call : Call) (mine fits : Bool) (reply : Reply) → is_reply_to call reply ≡ fits
    → EndsRightly call (cond (mine && fits) (Ended reply) Nothing)
right_if call true true reply is = is
right_if call true false reply is = tt
right_if call false true reply is = tt
right_if call false false reply is = tt

refused_if : (call : Call) (mine : Bool) (cause : Cause)
    → EndsRightly call (cond mine (Refused cause) Nothing)
refused_if call true cause = tt
refused_if call false cause = tt

news_rightly : (client number : ℕ) (call : Call) (h : Heard)
    → EndsRightly call (news client number call h)
news_rightly client number call (Answer c n index reply) =
    right_if call (is_of client number c n) (is_reply_to call reply) reply refl
news_rightly client number call (CannotServe c n cause) =
    refused_if call (is_of client number c n) cause

later_rightly : (call : Call) (b d : Brought) → EndsRightly call b → EndsRightly call d
    → EndsRightly call (later b d)
later_rightly call (Ended reply) d p q = p
later_rightly call Nothing d p q = q
later_rightly call (Refused last) Nothing p q = tt
later_rightly call (Refused last) (Refused cause) p q = tt
later_rightly call (Refused last) (Ended reply) p q = q

hears_rightly : (client number : ℕ) (call : Call) (b : Brought) (h : Heard) → EndsRightly call b
    → EndsRightly call (hear client number call b h)
hears_rightly client number call b h right =
    later_rightly call b (news client number call h) right (news_rightly client number call h)

all_rightly : (client number : ℕ) (call : Call) (hs : List Heard) (b : Brought) → EndsRightly call b
    → EndsRightly call (fold (hear client number call) b hs)
all_rightly client number call [] b right = right
all_rightly client number call (h ∷ hs) b right =
    all_rightly client number call hs (hear client number call b h)
    (hears_rightly client number call b h right)

pub brings_rightly : (client number : ℕ) (call : Call) (hs : List Heard)
    → EndsRightly call (brings client number call hs)
brings_rightly client number call hs = all_rightly client number call hs Nothing tt

-- ---- one call after the other

module _ {W T : Type 0} (turns : W → List Heard → W → Type 0)
    (asks : ServerId → Asked → W → List Heard → W → Type 0) (turn_breaks : W → T → Type 0)
    (ask_breaks : ServerId → Asked → W → T → Type 0) (client most : ℕ) where
  abbrev Made : List Exchange → Before W → Before W → Type 0
  Made = AreMade turns asks turn_breaks ask_breaks client most

  pub made_then : (before more : List Exchange) (a c d : Before W) → Made before a c → Made more c d
      → Made (before ++ more) a d
  made_then [] more a c d p r = subst (λ (x : Before W). Made more x d) p r
  made_then (x ∷ xs) more a c d p r = (p.0, p.1, p.2, made_then xs more p.0 c d p.3 r)
