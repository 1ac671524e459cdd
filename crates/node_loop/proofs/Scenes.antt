-- Servers in a scene.
use Rattle.std.proofs.Common.{◌≡◌, ℕ, zero, suc, ◌+◌, List, [], ◌∷◌, ◌++◌, ◌∙◌, ◌≤◌, Option, None, Some, ap, arith, inl, inr, refl, subst, sym}
use Rattle.harp_types.specs.Trio.{value_of, with_value}
use Rattle.node.specs.declared.input.Input.{Input}
use Rattle.harp_types.specs.declared.server.ServerId.{ServerId}
use Rattle.harp_types.specs.declared.trio.Trio.{Trio}
use Rattle.harp_types.specs.declared.server.ServerId.TheVariants.{Zero, One, Two}
use Rattle.harp_store.specs.Disk.{Moments}
use Rattle.node_link.specs.Traffic.{Traffic}
use Rattle.node_link.specs.declared.clock.Reading.{Reading}
use Rattle.node_loop.specs.declared.counts.Counts.{Counts}
use Rattle.node_loop.specs.declared.habit.Habit.{Habit}
use Rattle.node_loop.specs.declared.habit.Habit.TheVariants.{Plain}
use Rattle.node_loop.specs.declared.heard.Heard.{Heard}
use Rattle.node_loop.specs.declared.ledger.Ledger.{Ledger}
use Rattle.node_loop.specs.declared.running.Running.{Running}
use Rattle.node_loop.specs.Chain.{Chain, Stops}
use Rattle.node_loop.specs.Cut.{BootsAtInPart, BootsInPart, GivesAtInPart, GivesInPart, IsTurnInPart, SpotLeft, TurnsAtInPart, spot_left, with_left}
use Rattle.node_loop.specs.Run.{BootsAt, BootsWith, Gives, GivesAt, IsBooted, Turns, TurnsAt, rounds}
use Rattle.node_loop.specs.Scene.{AreUp, IsUp, NoneFell, Scene, Spot, all_places, alone, around, each, nobody, only, scene, spot, start, with_spot}
use Rattle.node_loop.proofs.Chains.{stops-front}

-- the last one counts
pub spot-again : (place : ServerId) (s t : Spot) (a : Scene)
    → with_spot place t (with_spot place s a) ≡ with_spot place t a
spot-again Zero s t a = refl
spot-again One s t a = refl
spot-again Two s t a = refl

-- ---- one server alone

pub turns-alone : (place : ServerId) (s t : Spot) → Turns place s t
    → TurnsAt place (alone place s) (alone place t)
turns-alone place s t h = record {
  old = s;
  new = t;
  was = sym (spot-again place s s (start nobody None None));
  turns = h;
  is = sym (spot-again place s t (start nobody None None));
}

left_alone : (place : ServerId) (s : Spot) (left : SpotLeft)
    → around (only place left.disk) left.link left.clock ≡ with_left place left (alone place s)
left_alone Zero s left = refl
left_alone One s left = refl
left_alone Two s left = refl

pub part-alone : (place : ServerId) (s : Spot) (left : SpotLeft) → IsTurnInPart place s left
    → TurnsAtInPart place (alone place s) (around (only place left.disk) left.link left.clock)
part-alone place s left h = record {
  old = s;
  new = left;
  was = sym (spot-again place s s (start nobody None None));
  turns = h;
  is = left_alone place s left;
}

disk_of : (place : ServerId) (disk : Option Moments) → value_of (only place disk) place ≡ disk
disk_of Zero disk = refl
disk_of One disk = refl
disk_of Two disk = refl

-- before anything was counted
abbrev pub none : Counts
none = record { taken = 0; sent = 0 }

-- a server that was just booted alone
abbrev new_spot : Running → Option Moments → Option Traffic → Option (List Reading) → Spot
new_spot r disk link clock =
    record { server = r; disk = disk; link = link; clock = clock; counts = none; heard = [] }

spot_is_new : (r : Running) (disk : Option Moments) (link : Option Traffic)
    (clock : Option (List Reading)) (k : Ledger) → k.counts ≡ none → k.heard.items ≡ []
    → spot r disk link clock k ≡ new_spot r disk link clock
spot_is_new r disk link clock k counts heard =
    ap (λ (n : Counts). record {
      server = r;
      disk = disk;
      link = link;
      clock = clock;
      counts = n;
      heard = k.heard.items;
    }) counts
    ∙ ap (λ (hs : List Heard). record {
      server = r;
      disk = disk;
      link = link;
      clock = clock;
      counts = none;
      heard = hs;
    }) heard

-- what a boot makes of a scene
abbrev booted_in : ServerId → Running → Option Moments → Option (List Reading) → Scene → Scene
booted_in place r disk clock a = record a {
  servers = with_value a.servers place (Some r);
  disks = with_value a.disks place disk;
  clock = clock;
}

alone_from : (place : ServerId) (r : Running) (old new : Option Moments) (link : Option Traffic)
    (before after : Option (List Reading))
    → alone place (new_spot r new link after)
    ≡ booted_in place r new after (start (only place old) link before)
alone_from Zero r old new link before after = refl
alone_from One r old new link before after = refl
alone_from Two r old new link before after = refl

pub boots-alone : (habit : Habit) (delta : ℕ) (place : ServerId) (r : Running) (old new : Option Moments)
    (link : Option Traffic) (before after : Option (List Reading)) (k : Ledger)
    → k.counts ≡ none → k.heard.items ≡ [] → IsBooted habit place delta r old new before after
    → Chain (BootsWith habit delta) (place ∷ []) (start (only place old) link before)
    (alone place (spot r new link after k))
boots-alone habit delta place r old new link before after k counts heard h =
    subst (λ s. Chain (BootsWith habit delta) (place ∷ []) (start (only place old) link before)
    (alone place s)) (sym (spot_is_new r new link after k counts heard)) (
      alone place (new_spot r new link after),
      record {
        server = r;
        disk = new;
        clock = after;
        boots = subst (λ d. IsBooted habit place delta r d new before after) (sym (disk_of place old))
            h;
        is = alone_from place r old new link before after;
      },
      refl,
    )

around_from : (place : ServerId) (old new : Option Moments) (link : Option Traffic)
    (after : Option (List Reading))
    → around (only place new) link after ≡ around (with_value (only place old) place new) link after
around_from Zero old new link after = refl
around_from One old new link after = refl
around_from Two old new link after = refl

-- or it failed
pub boots-in-part : (habit : Habit) (delta : ℕ) (place : ServerId) (old new : Option Moments)
    (link : Option Traffic) (before after : Option (List Reading))
    → BootsInPart place delta old new before after
    → Stops (BootsWith habit delta) (BootsAtInPart delta) (place ∷ [])
    (start (only place old) link before)
    (around (only place new) link after)
boots-in-part habit delta place old new link before after h = inl (record {
  disk = new;
  boots = subst (λ d. BootsInPart place delta d new before after) (sym (disk_of place old)) h;
  is = around_from place old new link after;
})

-- ---- rounds

pub rounds-more : (n : ℕ) (places : List ServerId) → rounds (n + 1) places ≡ rounds n places ++ places
rounds-more n places =
    let next : n + 1 ≡ suc n = omega arith in
    ap (λ k. rounds k places) next

-- they stopped already in fewer rounds
pub stops-sooner : {S T : Type 0} (R : ServerId → S → S → Type 0)
    (P : ServerId → S → T → Type 0) (places : List ServerId) (a : S) (left : T) (more n m : ℕ)
    → m ≡ more + n → Stops R P (rounds n places) a left → Stops R P (rounds m places) a left
stops-sooner R P places a left zero n m is h =
    let same : n ≡ m = omega (arith, is) in
    subst (λ k. Stops R P (rounds k places) a left) same h
stops-sooner R P places a left (suc more) n m is h =
    let next : suc (more + n) ≡ m = omega (arith, is) in
    let before : more + n ≡ more + n = refl in
    subst (λ k. Stops R P (rounds k places) a left) next
    (stops-front R P (rounds (more + n) places) places a left
    (stops-sooner R P places a left more n (more + n) before h))

-- ---- three servers

-- three that were just booted
abbrev new_scene : Trio Running → Trio (Option Moments) → Option Traffic → Option (List Reading)
    → Scene
new_scene r disks link clock = record {
  servers = each Some r;
  disks = disks;
  link = link;
  clock = clock;
  counts = none;
  heard = [];
}

scene_is_new : (r : Trio Running) (disks : Trio (Option Moments)) (link : Option Traffic)
    (clock : Option (List Reading)) (k : Ledger) → k.counts ≡ none → k.heard.items ≡ []
    → scene r disks link clock k ≡ new_scene r disks link clock
scene_is_new r disks link clock k counts heard =
    ap (λ (n : Counts). record {
      servers = each Some r;
      disks = disks;
      link = link;
      clock = clock;
      counts = n;
      heard = k.heard.items;
    }) counts
    ∙ ap (λ (hs : List Heard). record {
      servers = each Some r;
      disks = disks;
      link = link;
      clock = clock;
      counts = none;
      heard = hs;
    }) heard

pub boots-three : (delta : ℕ) (r : Trio Running) (old new : Trio (Option Moments))
    (link : Option Traffic) (before first second after : Option (List Reading)) (k : Ledger)
    → k.counts ≡ none → k.heard.items ≡ []
    → IsBooted Plain Zero delta r.zero old.zero new.zero before first
    → IsBooted Plain One delta r.one old.one new.one first second
    → IsBooted Plain Two delta r.two old.two new.two second after
    → Chain (BootsAt delta) all_places (start old link before) (scene r new link after k)
boots-three delta r old new link before first second after k counts heard h0 h1 h2 =
    let a = start old link before in
    let b = booted_in Zero r.zero new.zero first a in
    let c = booted_in One r.one new.one second b in
    let d = booted_in Two r.two new.two after c in
    subst (λ end. Chain (BootsAt delta) all_places a end)
    (sym (scene_is_new r new link after k counts heard)) (
      b,
      record { server = r.zero; disk = new.zero; clock = first; boots = h0; is = refl },
      (
        c,
        record { server = r.one; disk = new.one; clock = second; boots = h1; is = refl },
        (
          d,
          record { server = r.two; disk = new.two; clock = after; boots = h2; is = refl },
          refl,
        ),
      ),
    )

module _ (delta : ℕ) (old : Trio (Option Moments)) (link : Option Traffic)
    (before : Option (List Reading)) where
  pub boot-first : (disk : Option Moments) (after : Option (List Reading))
      → BootsInPart Zero delta old.zero disk before after
      → Stops (BootsAt delta) (BootsAtInPart delta) all_places (start old link before)
      (around (record { zero = disk; one = old.one; two = old.two }) link after)
  boot-first disk after h = inl (record { disk = disk; boots = h; is = refl })

  module _ (r0 : Running) (disk0 : Option Moments) (first : Option (List Reading))
      (h0 : IsBooted Plain Zero delta r0 old.zero disk0 before first) where
    abbrev booted_0 : Scene
    booted_0 = booted_in Zero r0 disk0 first (start old link before)

    boots_0 : BootsAt delta Zero (start old link before) booted_0
    boots_0 = record { server = r0; disk = disk0; clock = first; boots = h0; is = refl }

    pub boot-second : (disk : Option Moments) (after : Option (List Reading))
        → BootsInPart One delta old.one disk first after
        → Stops (BootsAt delta) (BootsAtInPart delta) all_places (start old link before)
        (around (record { zero = disk0; one = disk; two = old.two }) link after)
    boot-second disk after h =
        inr (booted_0, boots_0, inl (record { disk = disk; boots = h; is = refl }))

    pub boot-third : (r1 : Running) (disk1 : Option Moments) (second : Option (List Reading))
        → IsBooted Plain One delta r1 old.one disk1 first second
        → (disk : Option Moments) (after : Option (List Reading))
        → BootsInPart Two delta old.two disk second after
        → Stops (BootsAt delta) (BootsAtInPart delta) all_places (start old link before)
        (around (record { zero = disk0; one = disk1; two = disk }) link after)
    boot-third r1 disk1 second h1 disk after h = inr (
      booted_0,
      boots_0,
      inr (
        booted_in One r1 disk1 second booted_0,
        record { server = r1; disk = disk1; clock = second; boots = h1; is = refl },
        inl (record { disk = disk; boots = h; is = refl }),
      ),
    )

-- a server with its disk, which shares what is shared at a spot
abbrev pub beside : Running → Option Moments → Spot → Spot
beside r disk s = record s { server = r; disk = disk }

-- three that share it
abbrev pub sharing : Trio Running → Trio (Option Moments) → Spot → Scene
sharing r disks s = record {
  servers = each Some r;
  disks = disks;
  link = s.link;
  clock = s.clock;
  counts = s.counts;
  heard = s.heard;
}

stands : (place : ServerId) (r : Trio Running) (d : Trio (Option Moments)) (s : Spot)
    → sharing r d s
    ≡ with_spot place (beside (value_of r place) (value_of d place) s) (sharing r d s)
stands Zero r d s = refl
stands One r d s = refl
stands Two r d s = refl

turn_in : (place : ServerId) (r : Trio Running) (d : Trio (Option Moments)) (s t : Spot)
    → Turns place (beside (value_of r place) (value_of d place) s) t
    → TurnsAt place (sharing r d s) (with_spot place t (sharing r d s))
turn_in place r d s t h = record {
  old = beside (value_of r place) (value_of d place) s;
  new = t;
  was = stands place r d s;
  turns = h;
  is = refl;
}

part_in : (place : ServerId) (r : Trio Running) (d : Trio (Option Moments)) (s : Spot)
    (left : SpotLeft) → IsTurnInPart place (beside (value_of r place) (value_of d place) s) left
    → TurnsAtInPart place (sharing r d s) (with_left place left (sharing r d s))
part_in place r d s left h = record {
  old = beside (value_of r place) (value_of d place) s;
  new = left;
  was = stands place r d s;
  turns = h;
  is = refl;
}

-- an input between turns
pub gives-in : (place here : ServerId) → here ≡ place → (input : Input) (r : Trio Running)
    (d : Trio (Option Moments)) (s t : Spot)
    → Gives place input (beside (value_of r place) (value_of d place) s) t
    → GivesAt here input (sharing r d s) (with_spot place t (sharing r d s))
gives-in place here is input r d s t h =
    subst (λ p. GivesAt p input (sharing r d s) (with_spot place t (sharing r d s))) (sym is)
    (record {
      old = beside (value_of r place) (value_of d place) s;
      new = t;
      was = stands place r d s;
      gives = h;
      is = refl;
    })

pub gives-part : (place here : ServerId) → here ≡ place → (input : Input) (r : Trio Running)
    (d : Trio (Option Moments)) (s : Spot) (left : SpotLeft)
    → GivesInPart place input (beside (value_of r place) (value_of d place) s) left
    → GivesAtInPart here input (sharing r d s) (with_left place left (sharing r d s))
gives-part place here is input r d s left h =
    subst (λ p. GivesAtInPart p input (sharing r d s) (with_left place left (sharing r d s)))
    (sym is) (record {
      old = beside (value_of r place) (value_of d place) s;
      new = left;
      was = stands place r d s;
      gives = h;
      is = refl;
    })

-- nothing was done yet
pub gives-none : (place : ServerId) (input : Input) (r : Trio Running)
    (d : Trio (Option Moments)) (s : Spot)
    → GivesAtInPart place input (sharing r d s) (around d s.link s.clock)
gives-none Zero input r d s =
    gives-part Zero Zero refl input r d s (spot_left d.zero s.link s.clock) (inl refl)
gives-none One input r d s =
    gives-part One One refl input r d s (spot_left d.one s.link s.clock) (inl refl)
gives-none Two input r d s =
    gives-part Two Two refl input r d s (spot_left d.two s.link s.clock) (inl refl)

module _ (r : Trio Running) (d : Trio (Option Moments)) (s : Spot) where
  -- once server 0 has turned
  abbrev scene_1 : Spot → Scene
  scene_1 t = sharing (record { zero = t.server; one = r.one; two = r.two })
      (record { zero = t.disk; one = d.one; two = d.two }) t

  -- and once server 1 has
  abbrev scene_2 : Spot → Spot → Scene
  scene_2 t u = sharing (record { zero = t.server; one = u.server; two = r.two })
      (record { zero = t.disk; one = u.disk; two = d.two }) u

  first_turn : (t : Spot) → Turns Zero (beside r.zero d.zero s) t
      → TurnsAt Zero (sharing r d s) (scene_1 t)
  first_turn t h = turn_in Zero r d s t h

  second_turn : (t u : Spot) → Turns One (beside r.one d.one t) u
      → TurnsAt One (scene_1 t) (scene_2 t u)
  second_turn t u h = turn_in One (record { zero = t.server; one = r.one; two = r.two })
      (record { zero = t.disk; one = d.one; two = d.two }) t u h

  pub round-turns : (t u v : Spot) → Turns Zero (beside r.zero d.zero s) t
      → Turns One (beside r.one d.one t) u → Turns Two (beside r.two d.two u) v
      → Chain TurnsAt all_places (sharing r d s)
      (sharing (record { zero = t.server; one = u.server; two = v.server })
      (record { zero = t.disk; one = u.disk; two = v.disk }) v)
  round-turns t u v h0 h1 h2 = (
    scene_1 t,
    first_turn t h0,
    (
      scene_2 t u,
      second_turn t u h1,
      (
        sharing (record { zero = t.server; one = u.server; two = v.server })
            (record { zero = t.disk; one = u.disk; two = v.disk }) v,
        turn_in Two (record { zero = t.server; one = u.server; two = r.two })
            (record { zero = t.disk; one = u.disk; two = d.two }) u v h2,
        refl,
      ),
    ),
  )

  pub round-first : (left : SpotLeft) → IsTurnInPart Zero (beside r.zero d.zero s) left
      → Stops TurnsAt TurnsAtInPart all_places (sharing r d s)
      (around (record { zero = left.disk; one = d.one; two = d.two }) left.link left.clock)
  round-first left h0 = inl (part_in Zero r d s left h0)

  pub round-second : (t : Spot) (left : SpotLeft) → Turns Zero (beside r.zero d.zero s) t
      → IsTurnInPart One (beside r.one d.one t) left
      → Stops TurnsAt TurnsAtInPart all_places (sharing r d s)
      (around (record { zero = t.disk; one = left.disk; two = d.two }) left.link left.clock)
  round-second t left h0 h1 = inr (
    scene_1 t,
    first_turn t h0,
    inl (part_in One (record { zero = t.server; one = r.one; two = r.two })
        (record { zero = t.disk; one = d.one; two = d.two }) t left h1),
  )

  pub round-third : (t u : Spot) (left : SpotLeft) → Turns Zero (beside r.zero d.zero s) t
      → Turns One (beside r.one d.one t) u → IsTurnInPart Two (beside r.two d.two u) left
      → Stops TurnsAt TurnsAtInPart all_places (sharing r d s)
      (around (record { zero = t.disk; one = u.disk; two = left.disk }) left.link left.clock)
  round-third t u left h0 h1 h2 = inr (
    scene_1 t,
    first_turn t h0,
    inr (
      scene_2 t u,
      second_turn t u h1,
      inl (part_in Two (record { zero = t.server; one = u.server; two = r.two })
          (record { zero = t.disk; one = u.disk; two = d.two }) u left h2),
    ),
  )

-- ---- of each place

-- no count fell
pub none-fell : (old new : Trio ℕ) → old.zero ≤ new.zero → old.one ≤ new.one → old.two ≤ new.two
    → NoneFell old new
none-fell old new h0 h1 h2 Zero = h0
none-fell old new h0 h1 h2 One = h1
none-fell old new h0 h1 h2 Two = h2

-- each server is up
pub are-up : (r : Trio Running) (d : Trio (Option Moments)) → IsUp r.zero.node d.zero
    → IsUp r.one.node d.one → IsUp r.two.node d.two → AreUp r d
are-up r d h0 h1 h2 Zero = h0
are-up r d h0 h1 h2 One = h1
are-up r d h0 h1 h2 Two = h2
