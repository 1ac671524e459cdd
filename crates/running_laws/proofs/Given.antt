-- What a place is given in one turn, as events there.
use Rattle.std.proofs.Common.{◌≡◌, ℕ, false, List, [], ◌∷◌, ◌++◌, append-nil, append_assoc, flat_map, Contains, Option, None, Some, refl, sym, ap, ◌∙◌, subst, arith, ⊎_elim}
use Rattle.std.specs.Prelude.{⊤}
use Rattle.std.proofs.lemmas.List.Elements.{Contains-append_cases, Contains-push_cases}
use Rattle.harp_store.specs.Disk.{Moments}
use Rattle.harp_types.specs.declared.server.ServerId.{ServerId}
use Rattle.node.specs.declared.input.Input.{Input}
use Rattle.node_link.specs.Traffic.{Traffic}
use Rattle.node_link.specs.declared.link.SentDatagram.{SentDatagram}
use Rattle.node_link.specs.declared.link.TakenDatagram.{TakenDatagram}
use Rattle.node_loop.specs.Chain.{Chain}
use Rattle.node_loop.specs.Outgoing.{datagrams}
use Rattle.node_loop.specs.Run.{IsGiven}
use Rattle.node_loop.specs.Scene.{AtWork, with_all_sent}
use Rattle.node_loop.specs.Step.{IsStep}
use Rattle.node_outputs.specs.declared.outputs.Outputs.{Outputs}
use Rattle.running_laws.specs.Events.{Event, Site, What, all_sent}
use Rattle.running_laws.specs.Lives.{HappensBy, WholeStep}
use Rattle.running_laws.specs.Parts.{all_taken, taken_in}
use Rattle.running_laws.proofs.Parts.{HappensThere}
use Rattle.running_laws.proofs.Told.{stepped_tells}

-- a site is a node at work over its disk
pub record IsWorkOf (x : AtWork) (s : Site) : Type 0 where
  pub node : s.node ≡ Some x.node
  pub disk : x.disk ≡ Some s.disk

sent_twice : (ds es : List SentDatagram) (l : Option Traffic)
    → with_all_sent es (with_all_sent ds l) ≡ with_all_sent (ds ++ es) l
sent_twice ds es None = refl
sent_twice ds es (Some t) = ap (λ (sent : List SentDatagram). Some (record {
  taken = t.taken;
  sent = sent;
  left = t.left;
})) (append_assoc t.sent ds es)

pub sent_none : (l : Option Traffic) → with_all_sent [] l ≡ l
sent_none None = refl
sent_none (Some t) = ap (λ (sent : List SentDatagram). Some (record {
  taken = t.taken;
  sent = sent;
  left = t.left;
})) (append-nil t.sent)

-- what is given so is a whole step
abbrev pub IsGivenAs : ServerId → ℕ → What → Input → Type 0
IsGivenAs place now what given = (outs : Option Outputs) (a b : Site)
    → WholeStep now given outs a b → HappensBy place now what false outs a b

abbrev pub AreGivenAs : ServerId → ℕ → List What → List Input → Type 0
AreGivenAs place now [] [] = ⊤
AreGivenAs place now [] (i ∷ is) = ⊥
AreGivenAs place now (w ∷ ws) [] = ⊥
AreGivenAs place now (w ∷ ws) (i ∷ is) = IsGivenAs place now w i × AreGivenAs place now ws is

-- EVENTS AT A PLACE, at one reading, lead from one state of its node at work to another
pub record Works (place : ServerId) (now : ℕ) (whats : List What) (x y : AtWork) : Type 0 where
  pub events : List Event
  pub there : (e : Event) → Contains events e → (e.place ≡ place) × (e.now ≡ now)
  pub happen : (s : Site) → IsWorkOf x s
      → (u : Site) × IsWorkOf y u × Chain (HappensThere place) events s u
  pub sent : y.link ≡ with_all_sent (all_sent events) x.link
  pub took : all_taken events ≡ flat_map (taken_in place) whats

module _ (place : ServerId) (now : ℕ) where
  event_of : What → Outputs → Event
  event_of what outs = record {
    place = place;
    now = now;
    what = what;
    cut = false;
    outs = Some outs;
  }

  -- a node that is given something takes a whole step
  pub whole_of : (given : Input) (x y : AtWork) (g : IsGiven place now given x y) (s : Site)
      → IsWorkOf x s
      → (u : Site) × IsWorkOf y u × WholeStep now given (Some g.outs) s u
  whole_of given x y g s w =
      let told = subst (λ (d : Option Moments). IsStep given now x.node y.node d y.disk g.outs)
      w.disk g.step in
      let left = stepped_tells given now x.node y.node s.disk y.disk g.outs told in
      let u : Site = record { node = Some y.node; disk = left.0 } in (
        u,
        record { node = refl; disk = left.1 },
        record {
          old = x.node;
          new = y.node;
          puts = g.outs;
          was = w.node;
          is = refl;
          outs_are = refl;
          step = subst (λ (d : Option Moments).
              IsStep given now x.node y.node (Some s.disk) d g.outs) left.1 told;
          fit = g.spelled;
        },
      )

  pub nothing_given : (x y : AtWork) → y ≡ x → Works place now [] x y
  nothing_given x y same = record {
    events = [];
    there = λ e h. absurd (omega (arith, h.1));
    happen = λ s w. (s, subst (λ (z : AtWork). IsWorkOf z s) (sym same) w, refl);
    sent = ap (λ (z : AtWork). z.link) same ∙ sym (sent_none x.link);
    took = refl;
  }

  pub one_more : (what : What) (whats : List What) (given : Input) (x y z : AtWork)
      → IsGivenAs place now what given → (g : IsGiven place now given x y)
      → Works place now whats y z
      → Works place now (what ∷ whats) x z
  unfolding event_of
  one_more what whats given x y z fits g rest =
      let e = event_of what g.outs in
      record {
        events = e ∷ rest.events;
        there = λ k h. ⊎_elim
            (λ (first : Contains (e ∷ []) k). ⊎_elim
            (λ (none : Contains [] k). absurd (omega (arith, none.1)))
            (λ (same : e ≡ k). (
              sym (ap (λ (j : Event). j.place) same),
              sym (ap (λ (j : Event). j.now) same),
            ))
            (Contains-push_cases [] e k first))
            (λ (later : Contains rest.events k). rest.there k later)
            (Contains-append_cases (e ∷ []) rest.events k h);
        happen = λ s w.
            let step = whole_of given x y g s w in
            let more = rest.happen step.0 step.1 in (
              more.0,
              more.1,
              (
                step.0,
                record { at = refl; by = fits (Some g.outs) s step.0 step.2 },
                more.2,
              ),
            );
        sent = rest.sent ∙ ap (with_all_sent (all_sent rest.events)) g.link
            ∙ sent_twice (datagrams place g.outs) (all_sent rest.events) x.link;
        took = ap (λ (ts : List TakenDatagram). taken_in place what ++ ts) rest.took;
      }

  -- WHAT IS GIVEN, one after the other
  pub all_given : (whats : List What) (inputs : List Input) (x y : AtWork)
      → AreGivenAs place now whats inputs → Chain (IsGiven place now) inputs x y
      → Works place now whats x y
  all_given [] [] x y fits chain = nothing_given x y chain
  all_given [] (i ∷ is) x y fits chain = absurd fits
  all_given (w ∷ ws) [] x y fits chain = absurd fits
  all_given (w ∷ ws) (i ∷ is) x y fits chain = one_more w ws i x chain.0 y fits.0 chain.1
      (all_given ws is chain.0 y fits.1 chain.2)
