-- What was heard before makes no difference to what servers do: it stays in front of what they say.
use Rattle.std.proofs.Common.{◌≡◌, ◌∙◌, ℕ, List, [], ◌∷◌, ◌++◌, ap, inl, inr, refl, subst, sym}
use Rattle.std.proofs.lemmas.List.{append-nil, append_assoc}
use Rattle.harp_types.specs.declared.server.ServerId.{ServerId}
use Rattle.node.specs.declared.input.Input.{Input}
use Rattle.node_loop.specs.declared.heard.Heard.{Heard}
use Rattle.node_loop.specs.Chain.{Chain, Stops}
use Rattle.node_loop.specs.Outgoing.{heards}
use Rattle.node_loop.specs.Cut.{IsGivenInPart, IsTurnInPart, SpotLeft, TurnsAtInPart, WorkLeft, work_left}
use Rattle.node_loop.specs.Run.{Gives, GivesAt, IsGiven, Turns, TurnsAt}
use Rattle.node_loop.specs.Scene.{Around, AtWork, Scene, Spot, at_work, with_heard}

-- A move says this, and leads on so whatever was heard before
pub record Says {S : Type 0} (heard_of : S → List Heard) (with_heard : List Heard → S → S)
    (R : S → S → Type 0) (a c : S) : Type 0 where
  pub said : List Heard
  pub is : heard_of c ≡ heard_of a ++ said
  pub leads : (before : List Heard) → R (with_heard before a) (with_heard (before ++ said) c)

chain_says : {A S : Type 0} (heard_of : S → List Heard) (with_heard : List Heard → S → S)
    (R : A → S → S → Type 0)
    → ((x : A) (a c : S) → R x a c → Says heard_of with_heard (R x) a c)
    → (xs : List A) (a c : S) → Chain R xs a c → Says heard_of with_heard (Chain R xs) a c
chain_says heard_of with_heard R move [] a c is = record {
  said = [];
  is = ap heard_of is ∙ sym (append-nil (heard_of a));
  leads = λ before.
      ap (λ hs. with_heard hs c) (append-nil before) ∙ ap (with_heard before) is;
}
chain_says heard_of with_heard R move (x ∷ xs) a c h =
    let one = move x a h.0 h.1 in
    let rest = chain_says heard_of with_heard R move xs h.0 c h.2 in
    record {
      said = one.said ++ rest.said;
      is = rest.is ∙ ap (λ hs. hs ++ rest.said) one.is
          ∙ append_assoc (heard_of a) one.said rest.said;
      leads = λ before. (
        with_heard (before ++ one.said) h.0,
        one.leads before,
        subst (λ hs. Chain R xs (with_heard (before ++ one.said) h.0) (with_heard hs c))
            (append_assoc before one.said rest.said) (rest.leads (before ++ one.said)),
      );
    }

-- moves that stop stop so whatever was heard before
stops_say : {A S T : Type 0} (heard_of : S → List Heard) (with_heard : List Heard → S → S)
    (R : A → S → S → Type 0) (P : A → S → T → Type 0)
    → ((x : A) (a c : S) → R x a c → Says heard_of with_heard (R x) a c)
    → ((x : A) (a : S) (left : T) → P x a left → (hs : List Heard) → P x (with_heard hs a) left)
    → (xs : List A) (a : S) (left : T) → Stops R P xs a left → (hs : List Heard)
    → Stops R P xs (with_heard hs a) left
stops_say heard_of with_heard R P move part [] a left h hs = absurd h
stops_say heard_of with_heard R P move part (x ∷ xs) a left (inl h) hs = inl (part x a left h hs)
stops_say heard_of with_heard R P move part (x ∷ xs) a left (inr h) hs =
    let one = move x a h.0 h.1 in
    inr (
      with_heard (hs ++ one.said) h.0,
      one.leads hs,
      stops_say heard_of with_heard R P move part xs h.0 left h.2 (hs ++ one.said),
    )

-- ---- inputs

abbrev work_heard : List Heard → AtWork → AtWork
work_heard hs a = record a { heard = hs }

given_says : (place : ServerId) (now : ℕ) (input : Input) (a c : AtWork)
    → IsGiven place now input a c
    → Says (λ (w : AtWork). w.heard) work_heard (IsGiven place now input) a c
given_says place now input a c h = record {
  said = heards h.outs;
  is = h.heard;
  leads = λ before. record {
    outs = h.outs;
    step = h.step;
    link = h.link;
    sent = h.sent;
    heard = refl;
    spelled = h.spelled;
  };
}

given_part : (place : ServerId) (now : ℕ) (input : Input) (a : AtWork)
    (left : WorkLeft) → IsGivenInPart place now input a left → (hs : List Heard)
    → IsGivenInPart place now input (work_heard hs a) left
given_part place now input a left (inl h) hs = inl (record { disk = h.disk; link = h.link })
given_part place now input a left (inr h) hs = inr (record {
  node = h.node;
  outs = h.outs;
  step = h.step;
  spelled = h.spelled;
  sends = h.sends;
})

-- ---- at a spot

abbrev spot_heard : List Heard → Spot → Spot
spot_heard hs s = record s { heard = hs }

turns_say : (place : ServerId) (a c : Spot) → Turns place a c
    → Says (λ (s : Spot). s.heard) spot_heard (Turns place) a c
turns_say place a c h =
    let all = chain_says (λ (w : AtWork). w.heard) work_heard (IsGiven place h.turned.now)
    (given_says place h.turned.now) h.turned.inputs.items
    (at_work (record a { link = h.before })) (at_work c) h.given in
    record {
      said = all.said;
      is = all.is;
      leads = λ hs. record {
        turned = h.turned;
        before = h.before;
        turn = h.turn;
        link = h.link;
        clock = h.clock;
        taken = h.taken;
        given = all.leads hs;
      };
    }

turn_part : (place : ServerId) (a : Spot) (left : SpotLeft)
    → IsTurnInPart place a left → (hs : List Heard) → IsTurnInPart place (spot_heard hs a) left
turn_part place a left (inl h) hs = inl (record { fails = h.fails; disk = h.disk })
turn_part place a left (inr h) hs = inr (record {
  turned = h.turned;
  before = h.before;
  pace = h.pace;
  turn = h.turn;
  link = h.link;
  clock = h.clock;
  given = stops_say (λ (w : AtWork). w.heard) work_heard (IsGiven place h.turned.now)
      (IsGivenInPart place h.turned.now) (given_says place h.turned.now)
      (given_part place h.turned.now) h.turned.inputs.items
      (at_work (record a { link = h.before })) (work_left left.disk left.link) h.given hs;
})

gives_say : (place : ServerId) (input : Input) (a c : Spot) → Gives place input a c
    → Says (λ (s : Spot). s.heard) spot_heard (Gives place input) a c
gives_say place input a c h =
    let one = given_says place h.now input (at_work a) (at_work c) h.given in
    record {
      said = one.said;
      is = one.is;
      leads = λ before. record {
        now = h.now;
        clock = h.clock;
        given = one.leads before;
        pace = h.pace;
        taken = h.taken;
      };
    }

-- ---- in a scene

abbrev pub heard_in : Scene → List Heard
heard_in a = a.heard

turn_says : (place : ServerId) (a c : Scene) → TurnsAt place a c
    → Says heard_in with_heard (TurnsAt place) a c
turn_says place a c h =
    let all = turns_say place h.old h.new h.turns in
    record {
      said = all.said;
      is = ap heard_in h.is ∙ all.is ∙ ap (λ (b : Scene). b.heard ++ all.said) (sym h.was);
      leads = λ before. record {
        old = spot_heard before h.old;
        new = spot_heard (before ++ all.said) h.new;
        was = ap (with_heard before) h.was;
        turns = all.leads before;
        is = ap (with_heard (before ++ all.said)) h.is;
      };
    }

-- A ROUND OF TURNS says the same whatever was heard before
pub turns-say : (places : List ServerId) (a c : Scene) → Chain TurnsAt places a c
    → Says heard_in with_heard (Chain TurnsAt places) a c
turns-say places a c h = chain_says heard_in with_heard TurnsAt turn_says places a c h

part_says : (place : ServerId) (a : Scene) (left : Around)
    → TurnsAtInPart place a left → (hs : List Heard)
    → TurnsAtInPart place (with_heard hs a) left
part_says place a left h hs = record {
  old = spot_heard hs h.old;
  new = h.new;
  was = ap (with_heard hs) h.was;
  turns = turn_part place h.old h.new h.turns hs;
  is = h.is;
}

-- also where it stops
pub stops-say : (places : List ServerId) (a : Scene) (left : Around)
    → Stops TurnsAt TurnsAtInPart places a left → (hs : List Heard)
    → Stops TurnsAt TurnsAtInPart places (with_heard hs a) left
stops-say places a left h hs =
    stops_say heard_in with_heard TurnsAt TurnsAtInPart turn_says part_says places a left h hs

-- AND SO DOES AN INPUT between turns
pub gives-say : (place : ServerId) (input : Input) (a c : Scene) → GivesAt place input a c
    → Says heard_in with_heard (GivesAt place input) a c
gives-say place input a c h =
    let one = gives_say place input h.old h.new h.gives in
    record {
      said = one.said;
      is = ap heard_in h.is ∙ one.is ∙ ap (λ (b : Scene). b.heard ++ one.said) (sym h.was);
      leads = λ before. record {
        old = spot_heard before h.old;
        new = spot_heard (before ++ one.said) h.new;
        was = ap (with_heard before) h.was;
        gives = one.leads before;
        is = ap (with_heard (before ++ one.said)) h.is;
      };
    }
