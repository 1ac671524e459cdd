-- What servers do in one call, one thing after the other.
use Rattle.std.proofs.Common.{◌≡◌, List, [], ◌∷◌, ◌++◌, append-nil, append_assoc, flat_map, Option, None, Some, refl, sym, ap, ◌∙◌, subst, arith, ⊎_elim}
use Rattle.std.proofs.lemmas.List.Concat.{flat_map-append}
use Rattle.std.proofs.lemmas.List.Elements.{Contains-append_cases}
use Rattle.harp_store.specs.Disk.{Moments}
use Rattle.harp_types.specs.Trio.{value_of, with_value}
use Rattle.harp_types.specs.declared.server.ServerId.{ServerId}
use Rattle.harp_types.specs.declared.server.ServerId.TheVariants as server
use Rattle.harp_types.specs.declared.trio.Trio.{Trio}
use Rattle.node_link.specs.Traffic.{Traffic}
use Rattle.node_link.specs.declared.clock.Reading.{Reading}
use Rattle.node_loop.specs.Chain.{Chain}
use Rattle.node_loop.specs.Scene.{Scene}
use Rattle.node_loop.specs.declared.running.Running.{Running}
use Rattle.world.proofs.Tables.{value_there}
use Rattle.running_laws.specs.Events.{Event, Site, sent_by}
use Rattle.running_laws.specs.Lives.{Happens, HappensBy}
use Rattle.running_laws.specs.Parts.{AreReadIn, ClockDid, Did, IsSiteOf, LinkDid, reading_of, taken_by}

-- ---- nothing

nothing_read : (old : Option (List Reading)) → ClockDid [] old old
unfolding AreReadIn
nothing_read None = tt
nothing_read (Some rs) = ([], sym (append-nil rs), tt)

pub nothing_linked : (old : Option Traffic) → LinkDid [] old old
nothing_linked None = refl
nothing_linked (Some t) = (t, refl, sym (append-nil t.taken), sym (append-nil t.sent))

pub did_nothing : (places : List ServerId) (a : Scene) → Did places a a
did_nothing places a = record {
  events = [];
  there = λ e h. absurd (omega (arith, h.1));
  happen = λ old sites. (old, sites, refl);
  link = nothing_linked a.link;
  clock = nothing_read a.clock;
}

-- ---- one, and then the other

pub chain_then : (xs ys : List Event) (a b c : Trio Site) → Chain Happens xs a b
    → Chain Happens ys b c → Chain Happens (xs ++ ys) a c
chain_then [] ys a b c h k = subst (λ (z : Trio Site). Chain Happens ys z c) h k
chain_then (x ∷ xs) ys a b c h k = (h.0, h.1, chain_then xs ys h.0 b c h.2 k)

-- what comes to both
both_came : {X : Type 0} (f : Event → List X) (xs ys : List Event) (old mid new : List X)
    → mid ≡ old ++ flat_map f xs
    → new ≡ mid ++ flat_map f ys
    → new ≡ old ++ flat_map f (xs ++ ys)
both_came f xs ys old mid new h k = k
    ∙ ap (λ zs. zs ++ flat_map f ys) h
    ∙ append_assoc old (flat_map f xs) (flat_map f ys)
    ∙ ap (λ zs. old ++ zs) (sym (flat_map-append f xs ys))

pub link_then : (xs ys : List Event) (old mid new : Option Traffic) → LinkDid xs old mid
    → LinkDid ys mid new → LinkDid (xs ++ ys) old new
link_then xs ys None mid new h k =
    subst (λ (o : Option Traffic). LinkDid ys o new) h k
link_then xs ys (Some t) mid new h k =
    let rest = subst (λ (o : Option Traffic). LinkDid ys o new) h.1 k in (
      rest.0,
      rest.1,
      both_came taken_by xs ys t.taken h.0.taken rest.0.taken h.2 rest.2,
      both_came sent_by xs ys t.sent h.0.sent rest.0.sent h.3 rest.3,
    )

read_behind : (es : List Event) (front rs : List Reading) → AreReadIn es rs
    → AreReadIn es (front ++ rs)
unfolding AreReadIn
read_behind [] front rs h = tt
read_behind (e ∷ es) front rs h = (
  front ++ h.0,
  h.1,
  ap (λ zs. front ++ zs) h.2 ∙ sym (append_assoc front h.0 (reading_of e ∷ h.1)),
  h.3,
)

read_then : (xs ys : List Event) (rs more : List Reading) → AreReadIn xs rs → AreReadIn ys more
    → AreReadIn (xs ++ ys) (rs ++ more)
unfolding AreReadIn
read_then [] ys rs more h k = read_behind ys rs more k
read_then (e ∷ xs) ys rs more h k = (
  h.0,
  h.1 ++ more,
  ap (λ zs. zs ++ more) h.2 ∙ append_assoc h.0 (reading_of e ∷ h.1) more,
  read_then xs ys (reading_of e ∷ h.1) more h.3 k,
)

pub clock_then : (xs ys : List Event) (old mid new : Option (List Reading))
    → ClockDid xs old mid → ClockDid ys mid new → ClockDid (xs ++ ys) old new
clock_then xs ys old mid None h k = tt
clock_then xs ys old None (Some new) h k = absurd k
clock_then xs ys None (Some mid) (Some new) h k = absurd h
clock_then xs ys (Some old) (Some mid) (Some new) h k = (
  h.0 ++ k.0,
  k.1 ∙ ap (λ zs. zs ++ k.0) h.1 ∙ append_assoc old h.0 k.0,
  read_then xs ys h.0 k.0 h.2 k.2,
)

pub did_then : (places : List ServerId) (a b c : Scene) → Did places a b → Did places b c
    → Did places a c
did_then places a b c h k = record {
  events = h.events ++ k.events;
  there = λ e has. ⊎_elim (λ first. h.there e first) (λ later. k.there e later)
      (Contains-append_cases h.events k.events e has);
  happen = λ old sites.
      let first = h.happen old sites in
      let later = k.happen first.0 first.1 in (
        later.0,
        later.1,
        chain_then h.events k.events old first.0 later.0 first.2 later.2,
      );
  link = link_then h.events k.events a.link b.link c.link h.link k.link;
  clock = clock_then h.events k.events a.clock b.clock c.clock h.clock k.clock;
}

-- ---- at one place

-- an event there makes this of its site
pub record HappensThere (place : ServerId) (e : Event) (a b : Site) : Type 0 where
  pub at : e.place ≡ place
  pub by : HappensBy place e.now e.what e.cut e.outs a b

same_value : (t : Trio Site) (p : ServerId) → with_value t p (value_of t p) ≡ t
same_value t server.Zero = refl
same_value t server.One = refl
same_value t server.Two = refl

twice_value : (t : Trio Site) (p : ServerId) (x y : Site)
    → with_value (with_value t p x) p y ≡ with_value t p y
twice_value t server.Zero x y = refl
twice_value t server.One x y = refl
twice_value t server.Two x y = refl

pub happens_so : (place : ServerId) (e : Event) (old : Trio Site) (b : Site)
    → HappensThere place e (value_of old place) b → Happens e old (with_value old place b)
happens_so place e old b h =
    let new = with_value old place b in
    record {
      here = subst (λ (p : ServerId). HappensBy p e.now e.what e.cut e.outs (value_of old p)
          (value_of new p)) (sym h.at)
          (subst (λ (s : Site). HappensBy place e.now e.what e.cut e.outs (value_of old place) s)
          (sym (value_there old place b)) h.by);
      is = subst (λ (p : ServerId). new ≡ with_value old p (value_of new p)) (sym h.at)
          (sym (ap (with_value old place) (value_there old place b)));
    }

-- events at a place, of the three
pub all_happen : (place : ServerId) (es : List Event) (old : Trio Site) (a b : Site)
    → value_of old place ≡ a → Chain (HappensThere place) es a b
    → Chain Happens es old (with_value old place b)
all_happen place [] old a b is chain =
    ap (with_value old place) (chain ∙ sym is) ∙ same_value old place
all_happen place (e ∷ es) old a b is chain =
    let mid = chain.0 in
    let next = with_value old place mid in (
      next,
      happens_so place e old mid
          (subst (λ (s : Site). HappensThere place e s mid) (sym is) chain.1),
      subst (λ (t : Trio Site). Chain Happens es next t) (twice_value old place mid b)
          (all_happen place es next mid b (value_there old place mid) chain.2),
    )

-- ---- the sites of a scene

-- a place has another server, disk and site; the others stay
pub site_set : (servers : Trio (Option Running)) (disks : Trio (Option Moments))
    (old : Trio Site) (p : ServerId) (r : Running) (d : Option Moments) (b : Site)
    → b.node ≡ Some r.node → d ≡ Some b.disk → (q : ServerId)
    → IsSiteOf servers disks q (value_of old q)
    → IsSiteOf (with_value servers p (Some r)) (with_value disks p d) q
    (value_of (with_value old p b) q)
site_set servers disks old server.Zero r d b n k server.Zero h = record { node = n; disk = k }
site_set servers disks old server.Zero r d b n k server.One h =
    record { node = h.node; disk = h.disk }
site_set servers disks old server.Zero r d b n k server.Two h =
    record { node = h.node; disk = h.disk }
site_set servers disks old server.One r d b n k server.Zero h =
    record { node = h.node; disk = h.disk }
site_set servers disks old server.One r d b n k server.One h = record { node = n; disk = k }
site_set servers disks old server.One r d b n k server.Two h =
    record { node = h.node; disk = h.disk }
site_set servers disks old server.Two r d b n k server.Zero h =
    record { node = h.node; disk = h.disk }
site_set servers disks old server.Two r d b n k server.One h =
    record { node = h.node; disk = h.disk }
site_set servers disks old server.Two r d b n k server.Two h = record { node = n; disk = k }
