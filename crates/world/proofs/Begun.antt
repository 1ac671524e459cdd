-- A step that begins rightly, with what the laws say of it.
use Rattle.std.proofs.Common.{◌≡◌, ℕ, Bool, true, false, List, [], ◌∷◌, Option, None, Some, refl, sym, ap, ◌∙◌, subst}
use Rattle.std.specs.Option.{option_map}
use Rattle.world_laws.specs.Books.{BookGrows}
use Rattle.event_record.specs.declared.record.RecordFields.{RecordFields}
use Rattle.file_tree.specs.Book.{Entry}
use Rattle.group_rules.proofs.Tests.{if_is}
use Rattle.group_rules.specs.Effects.{demoted_by}
use Rattle.group_rules.specs.Moves.{Booting, Demoting, Falling, Move, Saving, act, acts, moved, moved_by}
use Rattle.group_rules.specs.Names.{place_of}
use Rattle.group_rules.specs.Places.{Place}
use Rattle.group_rules.specs.State.{Group, Message, Packet, Page, Server}
use Rattle.group_rules.specs.Step.{At, Comes, Deed, Deliver, Does, Input as Begins, list_of, step_of, steps}
use Rattle.group_safety.proofs.Moving.{Goes}
use Rattle.group_safety.proofs.Safe.{input_goes, sent_known}
use Rattle.group_safety.specs.Laws.{Whole}
use Rattle.world_laws.specs.Begins.{MayBegin}
use Rattle.node.specs.Input.{came, input_of}
use Rattle.node.specs.declared.input.Input.{Input}
use Rattle.node.specs.declared.input.Input.TheVariants as input
use Rattle.node_outputs.specs.Messages.{heard}
use Rattle.world_laws.proofs.Logs.{stocks_stay}
use Rattle.world_laws.proofs.Moves.{Fed, Feeds}
use Rattle.world_laws.proofs.Rules.{deed_step_fed, message_step_fed}
use Rattle.world_laws.proofs.Sends.{deeds_send, deliveries_send}
use Rattle.world_laws.proofs.StockSteps.{deeds_keep, deliveries_keep}
use Rattle.world_laws.specs.StockLaws.{StepKeeps, Stays}
use Rattle.world_laws.specs.Sent.{SendsRight}
use Rattle.world.specs.Turns.{BeginsRightly}
use Rattle.world.proofs.Laws.{Laws}

-- ---- a step leaves its server up

demoted_up : (b : Bool) (s : Server Entry) (v : ℕ) → (demoted_by b s v).up ≡ s.up
demoted_up true s v = refl
demoted_up false s v = refl

move_up : (page : ℕ → Page Entry) (list : List Entry) (came : List RecordFields) (q : Place)
    (clock : ℕ) (s : Server Entry) (m : Move Entry) → Feeds page list came q s m
    → (act q clock s m).up ≡ s.up
move_up page list came q clock s Falling f = absurd f
move_up page list came q clock s Saving f = absurd f
move_up page list came q clock s (Booting d) f = absurd f
move_up page list came q clock s (Demoting v) f = demoted_up _ s v
move_up page list came q clock s m f = refl

stays_up : (ms : List (Move Entry)) (g : Group Entry) (q : Place) (s : Server Entry)
    → Goes g q s ms → (list : List Entry) (came : List RecordFields) → Fed g q s list came ms
    → (acts q (g.clock q) s ms).up ≡ s.up
unfolding Goes Fed
stays_up [] g q s h list came f = refl
stays_up (m ∷ ms) g q s h list came f =
    stays_up ms (moved g q s m) q (act q (g.clock q) s m) h.2 list came f.1
    ∙ move_up g.page list came q (g.clock q) s m (f.0 h.0)

-- ---- what comes with it

no_deed : (from : Place) (o : Option (Message Entry)) (d : Deed)
    → option_map (Comes from) o ≡ Some (Does d) → ⊥
no_deed from None d e = cc
no_deed from (Some m) d e = cc

-- with a deed no record comes
deed_came : (given : Input) (d : Deed) → input_of given ≡ Some (Does d) → came given ≡ []
deed_came input.Tick d e = refl
deed_came input.Suspect d e = refl
deed_came (input.Message from message) d e =
    absurd (no_deed (place_of from) (heard message) d e)
deed_came (input.Ask peer client number cred call) d e = refl
deed_came (input.Apply most) d e = refl
deed_came input.Flush d e = refl
deed_came input.List d e = refl

-- ---- all of it

pub record Begun (size : List Entry → Entry → ℕ) (g : Group Entry) (q : Place) (given : Input)
    (i : Begins) : Type 0 where
  pub keeps : StepKeeps size g q i (came given)
  pub sends : SendsRight size g q i
  pub stays : Stays g (moved_by g q (g.server q) (step_of size g q i))
  pub may : MayBegin g q i
  pub up : (acts q (g.clock q) (g.server q) (step_of size g q i)).up ≡ true
  pub grows : BookGrows size g q i

pub begun : Laws → (size : List Entry → Entry → ℕ) (g : Group Entry) → Whole g → (q : Place)
    → (g.server q).up ≡ true → (given : Input) (i : Begins) → input_of given ≡ Some i
    → BeginsRightly g q given i → Begun size g q given i
begun l size g w q up given (Does d) e r = record {
  keeps = subst (StepKeeps size g q (Does d)) (sym (deed_came given d e))
      (deeds_keep size g w q up d r);
  sends = deeds_send size g w q up d;
  stays = subst (Stays g) (if_is (g.server q).up _ g up) (stocks_stay size g w (At q d ∷ []));
  may = tt;
  up = stays_up (step_of size g q (Does d)) g q (g.server q)
      (input_goes size g w q up (Does d) tt) (list_of g q) []
      (deed_step_fed size g q (g.server q) (list_of g q) [] refl d r) ∙ up;
  grows = l.deeds_grow size g w q up d;
}
begun l size g w q up given (Comes from m) e r =
    let p : Packet Entry = record { from = from; to = q; body = m } in
    let known = sent_known g w r.0 p r.1 in
    record {
      keeps = deliveries_keep size g w r.0 p r.1 up (came given) r.2;
      sends = deliveries_send size g w r.0 p r.1 up;
      stays = subst (Stays g) (ap (λ o. elim o [
        | None ↦ g
        | Some p ↦ steps size g p.to (Comes p.from p.body)
      ]) r.1 ∙ if_is (g.server q).up _ g up) (stocks_stay size g w (Deliver r.0 ∷ []));
      may = (r.0, r.1);
      up = stays_up (step_of size g q (Comes from m)) g q (g.server q)
          (input_goes size g w q up (Comes from m) known) (list_of g q) (came given)
          (message_step_fed size g q (g.server q) (list_of g q) (came given) from m r.2 known.0)
          ∙ up;
      grows = l.deliveries_grow size g w r.0 p r.1 up;
    }
