-- The turns and asks of three servers, beside what they say.
use Rattle.std.proofs.Common.{◌≡◌, ◌∙◌, ℕ, List, [], ◌∷◌, ◌++◌, ap, refl, subst, sym}
use Rattle.harp_types.specs.declared.server.ServerId.{ServerId}
use Rattle.node_loop.specs.Chain.{Chain}
use Rattle.node_loop.specs.Run.{Asked, AsksAt, BootsAt, TurnsAt, ask_of}
use Rattle.node_loop.specs.Scene.{Scene, all_places, with_heard}
use Rattle.node_loop.specs.declared.heard.Heard.{Heard}
use Rattle.node_loop.proofs.HeardLaws.{gives-say, heard_in, turns-say}
use Rattle.door_group.specs.Rule.{LeadsOn}

-- a move says this behind what was heard, and leads from a scene where nothing was heard to one
pub record Moved (moves : Scene → List Heard → Scene → Type 0) (a c : Scene) : Type 0 where
  pub said : List Heard
  pub leads : moves (with_heard [] a) said (with_heard [] c)
  pub is : c.heard ≡ a.heard ++ said

pub leads_on : (moves : Scene → List Heard → Scene → Type 0) (a c w : Scene)
    → w ≡ with_heard [] a → Moved moves a c
    → LeadsOn moves (λ (v : Scene). v ≡ with_heard [] c) a.heard c.heard w
leads_on moves a c w is m = (
  m.said,
  with_heard [] c,
  subst (λ (x : Scene). moves x m.said (with_heard [] c)) (sym is) m.leads,
  refl,
  m.is,
)

-- a round of turns
pub turned : (a c w : Scene) → w ≡ with_heard [] a → Chain TurnsAt all_places a c
    → LeadsOn (λ w said v. Chain TurnsAt all_places w (with_heard said v))
    (λ (v : Scene). v ≡ with_heard [] c) a.heard c.heard w
turned a c w is h =
    let says = turns-say all_places a c h in
    leads_on (λ w said v. Chain TurnsAt all_places w (with_heard said v)) a c w is (record {
      said = says.said;
      leads = says.leads [];
      is = says.is;
    })

-- an ask
pub asked : (place : ServerId) (q : Asked) (a c w : Scene) → w ≡ with_heard [] a
    → AsksAt place q a c → LeadsOn (λ w said v. AsksAt place q w (with_heard said v))
    (λ (v : Scene). v ≡ with_heard [] c) a.heard c.heard w
asked place q a c w is h =
    let says = gives-say place (ask_of q) a c h in
    leads_on (λ w said v. AsksAt place q w (with_heard said v)) a c w is (record {
      said = says.said;
      leads = says.leads [];
      is = says.is;
    })

-- servers that were booted have heard what was heard before
pub none_heard : (delta : ℕ) (places : List ServerId) (a c : Scene)
    → Chain (BootsAt delta) places a c → c.heard ≡ a.heard
none_heard delta [] a c is = ap heard_in is
none_heard delta (p ∷ ps) a c h = none_heard delta ps h.0 c h.2 ∙ ap heard_in h.1.is
