-- Calls that are cut off: amid which event of which place the process is gone.
use Rattle.std.proofs.Common.{◌≡◌, ℕ, true, false, List, [], ◌∷◌, ◌++◌, flat_map, Contains, Option, None, Some, inl, inr, refl, sym, ap, ◌∙◌, subst, arith, ⊎_elim}
use Rattle.std.specs.List.{AllByRecursion}
use Rattle.std.specs.Option.{option_map}
use Rattle.std.proofs.lemmas.List.Elements.{Contains-append_right}
use Rattle.harp_store.specs.Disk.{Moments}
use Rattle.harp_types.specs.Trio.{value_of, with_value}
use Rattle.harp_types.specs.declared.server.ServerId.{ServerId}
use Rattle.harp_types.specs.declared.trio.Trio.{Trio}
use Rattle.node.specs.Boot.{after_boot}
use Rattle.node.specs.declared.input.Input.{Input}
use Rattle.node_link.specs.Traffic.{Traffic}
use Rattle.node_loop.specs.Chain.{Stops}
use Rattle.node_loop.specs.Cut.{BootsAtInPart, FailsAt, IsGivenInPart, IsUnstartedWith, SendsAFront, SendsInPart, WorkLeft}
use Rattle.node_loop.specs.Outgoing.{datagrams}
use Rattle.node_loop.specs.Run.{BootsWith, IsGiven}
use Rattle.node_loop.specs.declared.habit.Habit.{Habit}
use Rattle.node_loop.specs.Scene.{Around, AtWork, Scene}
use Rattle.node_loop.specs.Step.{FailsStep, IsStep}
use Rattle.node_loop.specs.declared.running.Running.{Running}
use Rattle.promise.specs.Promise.{IsDelta}
use Rattle.world.proofs.Tables.{value_there}
use Rattle.running_laws.specs.Events.{Boots, Does, Event, Site, What, sent_by}
use Rattle.running_laws.specs.Lives.{HappensBy, IsOwn, PartOfBoot, PartOfStep, WholeStep}
use Rattle.running_laws.specs.Parts.{AreSitesOf, Did, DidInPart, IsGone, LinkDid, taken_by, taken_in}
use Rattle.running_laws.proofs.Given.{IsGivenAs, IsWorkOf, Works, nothing_given, one_more, sent_none}
use Rattle.running_laws.proofs.Living.{AreFree, did_boot, unlinked}
use Rattle.running_laws.proofs.Parts.{did_nothing, did_then, happens_so}
use Rattle.running_laws.proofs.Told.{stepped_tells}

same_moments : (h k : Moments) → Some h ≡ Some k → h ≡ k
same_moments h k e = cc

pub then_gone : (places : List ServerId) (a b : Scene) (left : Around) → Did places a b
    → DidInPart places b left → DidInPart places a left
then_gone places a b left did part = record {
  mid = part.mid;
  did = did_then places a b part.mid did part.did;
  gone = part.gone;
}

-- ---- boots

gone_boot : (places : List ServerId) (delta : ℕ) (p : ServerId) (a : Scene) (left : Around)
    → IsDelta delta → Contains places p → value_of a.servers p ≡ None
    → BootsAtInPart delta p a left → DidInPart places a left
gone_boot places delta p a left length has none boots =
    let e : Event = record {
      place = p;
      now = boots.boots.now;
      what = Boots delta;
      cut = true;
      outs = None;
    } in
    let disks_are = ap (λ (z : Around). z.disks) boots.is in
    let disk_is = ap (λ (disks : Trio (Option Moments)). value_of disks p) disks_are
    ∙ value_there a.disks p boots.disk in
    record {
      mid = a;
      did = did_nothing places a;
      gone = inr (inl (record {
        event = e;
        there = has;
        happens = λ h b told left_of old sites.
            let here = sites p has in
            let amid : boots.disk ≡ Some h = sym disk_is ∙ told in
            let part : PartOfBoot p delta (value_of old p) (record { node = None; disk = b }) =
            record {
              none = here.node ∙ ap (option_map (λ (r : Running). r.node)) none;
              length = length;
              still = refl;
              amid = h;
              part = ⊎_elim
                  (λ (stays : boots.disk ≡ value_of a.disks p).
                  inl (same_moments h (value_of old p).disk (sym amid ∙ stays ∙ here.disk)))
                  (λ (written : boots.disk ≡ after_boot p delta (value_of a.disks p)).
                  inr (sym amid ∙ written ∙ ap (after_boot p delta) here.disk))
                  boots.boots.disk;
              left = left_of;
            } in
            happens_so p e old (record { node = None; disk = b })
            (record { at = refl; by = (part, refl) });
        others = disks_are ∙ ap (with_value a.disks p) (sym disk_is);
        link = subst (λ (l : Option Traffic). LinkDid (e ∷ []) a.link l)
            (sym (ap (λ (z : Around). z.link) boots.is))
            (unlinked (e ∷ []) a.link a.link refl (sym (sent_none a.link)));
      }));
    }

gone_boots : (places ps : List ServerId) (habit : Habit) (delta : ℕ) (a : Scene) (left : Around)
    → IsDelta delta → ((p : ServerId) → Contains ps p → Contains places p)
    → AreFree ps a.servers → Stops (BootsWith habit delta) (BootsAtInPart delta) ps a left
    → DidInPart places a left
gone_boots places [] habit delta a left length within free stops = absurd stops
gone_boots places (p ∷ ps) habit delta a left length within free (inl part) =
    gone_boot places delta p a left length (within p (0, omega arith, refl)) free.0 part
gone_boots places (p ∷ ps) habit delta a left length within free (inr on) =
    let boots = on.1 in
    let rest_free = subst (λ (z : Scene). AreFree ps z.servers) (sym boots.is)
    (free.1 boots.server) in
    then_gone places a on.0 left
    (did_boot places habit delta p a on.0 length (within p (0, omega arith, refl)) free.0 boots)
    (gone_boots places ps habit delta on.0 left length
    (λ q has. within q (Contains-append_right (p ∷ []) ps q has)) rest_free on.2)

pub gone_unstarted : (places : List ServerId) (habit : Habit) (delta : ℕ) (a : Scene)
    (left : Around) → IsDelta delta → AreFree places a.servers
    → IsUnstartedWith habit delta places a left
    → DidInPart places a left
gone_unstarted places habit delta a left length free (inl same) = record {
  mid = a;
  did = did_nothing places a;
  gone = inl (ap (λ (z : Around). z.disks) same);
}
gone_unstarted places habit delta a left length free (inr stops) =
    gone_boots places places habit delta a left length (λ p has. has) free stops

-- ---- inputs

-- a part of what is given so is an event that is cut
abbrev pub IsCutAs : ServerId → ℕ → What → Input → Type 0
IsCutAs place now what given = (a b : Site) → PartOfStep now given None a b
    → HappensBy place now what true None a b

-- what is given is this, whole and cut
pub record FitsAs (place : ServerId) (now : ℕ) (what : What) (given : Input) : Type 0 where
  pub whole : IsGivenAs place now what given
  pub cut : IsCutAs place now what given

-- a front is given, and the next one in part
pub record Breaks (place : ServerId) (now : ℕ) (x : AtWork) (left : WorkLeft) : Type 0 where
  pub fronts : List What
  pub y : AtWork
  pub works : Works place now fronts x y
  pub what : What
  pub given : Input
  pub fits : FitsAs place now what given
  pub part : IsGivenInPart place now given y left

-- what a server does by itself is given in part
pub own_breaks : (place : ServerId) (now : ℕ) (inputs : List Input) (x : AtWork) (left : WorkLeft)
    → AllByRecursion IsOwn inputs
    → Stops (IsGiven place now) (IsGivenInPart place now) inputs x left
    → (k : Breaks place now x left) × (flat_map (taken_in place) k.fronts ≡ [])
    × (taken_in place k.what ≡ [])
own_breaks place now [] x left own stops = absurd stops
own_breaks place now (i ∷ inputs) x left own (inl part) = (
  record {
    fronts = [];
    y = x;
    works = nothing_given place now x x refl;
    what = Does i;
    given = i;
    fits = record {
      whole = λ outs a b step. (own.0, step);
      cut = λ a b step. (own.0, step);
    };
    part = part;
  },
  refl,
  refl,
)
own_breaks place now (i ∷ inputs) x left own (inr on) =
    let rest = own_breaks place now inputs on.0 left own.1 on.2 in
    let k = rest.0 in (
      record {
        fronts = Does i ∷ k.fronts;
        y = k.y;
        works = one_more place now (Does i) k.fronts i x on.0 k.y
            (λ outs a b step. (own.0, step)) on.1 k.works;
        what = k.what;
        given = k.given;
        fits = k.fits;
        part = k.part;
      },
      rest.1,
      rest.2,
    )

-- events that take and send the same do the same to the link
pub same_link : (d e : Event) (old new : Option Traffic) → taken_by d ≡ taken_by e
    → sent_by d ≡ sent_by e → LinkDid (d ∷ []) old new → LinkDid (e ∷ []) old new
same_link d e None new took sent h = h
same_link d e (Some t) new took sent h = (
  h.0,
  h.1,
  h.2 ∙ ap (λ ts. t.taken ++ (ts ++ [])) took,
  h.3 ∙ ap (λ ts. t.sent ++ (ts ++ [])) sent,
)

-- ---- the input that is given in part

-- where it was taken from
pub record IsAtPlace (places : List ServerId) (place : ServerId) (mid : Scene) (y : AtWork)
    (h : Option Moments) (left : Around) : Type 0 where
  pub has : Contains places place
  pub site : (sites : Trio Site) → AreSitesOf places mid sites → IsWorkOf y (value_of sites place)
  pub disk : value_of left.disks place ≡ h
  pub others : left.disks ≡ with_value mid.disks place h

module _ (places : List ServerId) (place : ServerId) (now : ℕ) (what : What) (given : Input)
    (fits : FitsAs place now what given) (mid : Scene) (y : AtWork) (w : WorkLeft)
    (left : Around) (at : IsAtPlace places place mid y w.disk left) where
  others_are : left.disks ≡ with_value mid.disks place (value_of left.disks place)
  others_are = at.others ∙ ap (with_value mid.disks place) (sym at.disk)

  -- a step that fails
  pub gone_amid : FailsAt now given y w
      → LinkDid (record { place = place; now = now; what = what; cut = true; outs = None } ∷ [])
      mid.link left.link
      → IsGone places mid left
  gone_amid fails link =
      let e : Event = record {
        place = place;
        now = now;
        what = what;
        cut = true;
        outs = None;
      } in
      inr (inl (record {
        event = e;
        there = at.has;
        happens = λ h b told left_of old sites.
            let site = at.site old sites in
            let amid : w.disk ≡ Some h = sym at.disk ∙ told in
            let disk = subst (λ (d : Option Moments). FailsStep given now y.node d w.disk)
            site.disk fails.disk in
            let part : PartOfStep now given None (value_of old place)
            (record { node = None; disk = b }) = record {
              old = y.node;
              was = site.node;
              gone = refl;
              silent = refl;
              amid = h;
              part = subst (λ (d : Option Moments).
                  FailsStep given now y.node (Some (value_of old place).disk) d) amid disk;
              left = left_of;
            } in
            happens_so place e old (record { node = None; disk = b })
            (record {
              at = refl;
              by = fits.cut (value_of old place) (record { node = None; disk = b }) part;
            });
        others = others_are;
        link = link;
      }))

  -- a step of which a front is sent
  pub gone_behind : (front : SendsAFront place now given y w) → (took : Option Traffic)
      → LinkDid (record { place = place; now = now; what = what; cut = false; outs = None } ∷ [])
      mid.link took
      → SendsInPart (datagrams place front.outs) took left.link → IsGone places mid left
  gone_behind front took takes sends =
      let e : Event = record {
        place = place;
        now = now;
        what = what;
        cut = false;
        outs = Some front.outs;
      } in
      inr (inr (record {
        event = e;
        outs = front.outs;
        puts = refl;
        there = at.has;
        happens = λ old sites.
            let site = at.site old sites in
            let told = subst (λ (d : Option Moments).
            IsStep given now y.node front.node d w.disk front.outs) site.disk front.step in
            let amid = stepped_tells given now y.node front.node (value_of old place).disk w.disk
            front.outs told in
            let b : Site = record { node = Some front.node; disk = amid.0 } in
            let whole : WholeStep now given (Some front.outs) (value_of old place) b = record {
              old = y.node;
              new = front.node;
              puts = front.outs;
              was = site.node;
              is = refl;
              outs_are = refl;
              step = subst (λ (d : Option Moments). IsStep given now y.node front.node
                  (Some (value_of old place).disk) d front.outs) amid.1 told;
              fit = front.spelled;
            } in (
              b,
              at.disk ∙ amid.1,
              happens_so place e old b (record {
                at = refl;
                by = fits.whole (Some front.outs) (value_of old place) b whole;
              }),
            );
        others = others_are;
        took = took;
        takes = takes;
        sends = sends;
      }))
