-- Servers that fall, and that boot.
use Rattle.std.proofs.Common.{◌≡◌, ℕ, true, false, List, [], ◌∷◌, refl, sym, ap, ◌∙◌, subst, true≢false, Option, None, Some, ◌&&◌}
use Rattle.event_record.specs.declared.record.RecordFields.{RecordFields}
use Rattle.file_tree.specs.Book.{Entry}
use Rattle.group_trace.specs.DiskCalls.{measures_of}
use Rattle.group_trace.specs.DiskRun.{DiskScene, Stores}
use Rattle.schedule_play.specs.Stage.{IsReached}
use Rattle.group_rules.proofs.Tests.{by_if, if_is, if_not}
use Rattle.group_rules.specs.Effects.{booted, down, lengthened, load_tests, loaded, saving}
use Rattle.group_rules.specs.Limits.{can_have, is_outside}
use Rattle.group_rules.specs.Moves.{Booting, Falling, Move, Saving, act, moved_by}
use Rattle.group_rules.specs.Names.{place_of}
use Rattle.group_rules.specs.Places.{Place, all_of, is_p2}
use Rattle.group_rules.specs.State.{Group, Mark, Saved, Server, mark_of}
use Rattle.group_rules.specs.Step.{At, Boot, Crash, Power, boot}
use Rattle.group_safety.proofs.Moving.{at_self}
use Rattle.group_safety.specs.Laws.{Whole}
use Rattle.harp_types.specs.Trio.{value_of}
use Rattle.harp_types.specs.declared.server.ServerId.{ServerId}
use Rattle.world_laws.specs.Waits.{HasWaits}
use Rattle.world_rules.specs.Host.{HostValue, IsHost, no_stock}
use Rattle.world_rules.specs.Spellings.{spellings}
use Rattle.world_rules.specs.Steps.{Boots, Falls, saved_after}
use Rattle.world_laws.proofs.Logs.{stocks_stay}
use Rattle.world_laws.proofs.StockSteps.{boots_are_right, falls_are_right}
use Rattle.world_laws.specs.StockLaws.{Stays}
use Rattle.world_laws.specs.Stocks.{AreSaved, HasStock, booted_stock}
use Rattle.world.specs.World.{IsServer, IsWorld, WorldValue}
use Rattle.world.proofs.Laws.{Laws}
use Rattle.world.proofs.Scenes.{scene_after}
use Rattle.world.proofs.Servers.{turned_to}
use Rattle.world.proofs.Silent.{silent_stands}

-- ---- falls

module _ (l : Laws) (w : DiskScene) (reached : IsReached spellings w) (x : WorldValue)
    (world : IsWorld w x) (server : ServerId) (up : (w.scene.group.server (place_of server)).up
    ≡ true) (disks : Stores)
    (others : (y : Place) → (y ≡ place_of server → ⊥) → disks y ≡ w.disks y)
    (h : HostValue) (me : h.me ≡ place_of server) where
  abbrev q : Place
  q = place_of server

  abbrev g : Group Entry
  g = w.scene.group

  abbrev own : IsServer w server (value_of x.hosts server)
  own = world.servers server

  whole : Whole g
  whole = l.whole w reached

  server_is : (m : Move Entry)
      → (moved_by g q (g.server q) (m ∷ [])).server q ≡ act q (g.clock q) (g.server q) m
  server_is m = at_self g.server q (act q (g.clock q) (g.server q) m)

  -- a server that fell, over a mark that it has, with these records of the saved log
  down_now : (m : Move Entry) (mark : Mark Entry) → act q (g.clock q) (g.server q) m ≡ down mark
      → (saved : List RecordFields) → IsHost (down mark) no_stock saved (disks q) h
      → HasStock (moved_by g q (g.server q) (m ∷ [])) q no_stock
      → AreSaved (moved_by g q (g.server q) (m ∷ [])).page
      ((moved_by g q (g.server q) (m ∷ [])).server q) saved
      → IsServer (scene_after w q (m ∷ []) disks) server h
  down_now m mark is saved host has_stock are_saved =
      let there = server_is m ∙ is in
      record {
        me = me;
        stock = no_stock;
        saved = saved;
        host = subst (λ (s : Server Entry). IsHost s no_stock saved (disks q) h) (sym there) host;
        has_stock = has_stock;
        are_saved = are_saved;
        waits = subst (λ (s : Server Entry). HasWaits s no_stock) (sym there)
            (l.rest.after_fall mark no_stock);
        rests = λ _. refl;
      }

  -- one that falls
  pub fallen : Falls (g.server q) own.saved (disks q) h
      → IsWorld (scene_after w q (Falling ∷ []) disks) (turned_to x server h x.packets x.book)
  fallen host =
      let f = falls_are_right (measures_of spellings).size g whole q in
      silent_stands w x server Falling disks h tt world
      (subst (Stays g) (if_is (g.server q).up _ g up
      ∙ ap (λ ms. moved_by g q (g.server q) ms) f.crashed)
      (stocks_stay (measures_of spellings).size g whole (At q Crash ∷ [])))
      others (down_now Falling (mark_of (g.server q)) refl own.saved host f.fallen
      (f.kept own.saved own.are_saved))

  -- one that saves its log, and falls
  pub saved : Falls (saving q (g.server q) (g.server q).saved)
      (saved_after (g.server q) own.stock own.saved) (disks q) h
      → IsWorld (scene_after w q (Saving ∷ []) disks) (turned_to x server h x.packets x.book)
  saved host =
      let f = falls_are_right (measures_of spellings).size g whole q in
      silent_stands w x server Saving disks h tt world
      (subst (Stays g) (if_is (g.server q).up _ g up
      ∙ ap (λ ms. moved_by g q (g.server q) ms) f.powered)
      (stocks_stay (measures_of spellings).size g whole (At q Power ∷ [])))
      others (down_now Saving (mark_of (saving q (g.server q) (g.server q).saved)) refl
      (saved_after (g.server q) own.stock own.saved) host f.failed
      (f.saved own.stock own.saved own.has_stock own.are_saved))

-- ---- boots

booted_up : (q : Place) (clock delta : ℕ) (m : Mark Entry) → (booted q clock delta m).up ≡ true
booted_up q clock delta m = by_if (λ (s : Server Entry). s.up ≡ true) (is_p2 q && is_outside m.role)
    _ _ (λ _. refl) (λ _. loads m.saved)
  where
    loads : (o : Option (Saved Entry)) → (loaded q clock delta (lengthened delta m) o).up ≡ true
    loads None = refl
    loads (Some v) = by_if (λ (s : Server Entry). s.up ≡ true)
        (all_of (can_have q m.role ∷ load_tests m.lb v)) _ _ (λ _. refl) (λ _. refl)

-- a server that was down boots
pub boots : Laws → (w : DiskScene) → IsReached spellings w → (x : WorldValue) → (world : IsWorld w x)
    → (server : ServerId) → (w.scene.group.server (place_of server)).up ≡ false → (h : HostValue)
    → h.me ≡ place_of server
    → Boots w.scene.group (place_of server) (world.servers server).saved
    (w.disks (place_of server)) h
    → IsWorld (scene_after w (place_of server) (Booting w.scene.group.delta ∷ []) w.disks)
    (turned_to x server h x.packets x.book)
boots l w reached x world server is_down h me host =
    let q = place_of server in
    let g = w.scene.group in
    let own = world.servers server in
    let whole = l.whole w reached in
    let m : Move Entry = Booting g.delta in
    let mark = mark_of (g.server q) in
    let new : Server Entry = booted q (g.clock q) g.delta mark in
    let now : boot g q ≡ moved_by g q (g.server q) (m ∷ []) = if_not (g.server q).up g _ is_down in
    let b = boots_are_right g whole q is_down own.saved own.are_saved in
    let there : (moved_by g q (g.server q) (m ∷ [])).server q ≡ new =
    at_self g.server q (act q (g.clock q) (g.server q) m) in
    let stock = booted_stock new own.saved in
    silent_stands w x server m w.disks h tt world
    (subst (Stays g) now (stocks_stay (measures_of spellings).size g whole (Boot q ∷ [])))
    (λ y n. refl)
    (record {
      me = me;
      stock = stock;
      saved = own.saved;
      host = subst (λ (s : Server Entry). IsHost s stock own.saved (w.disks q) h) (sym there) host;
      has_stock = subst
          (λ (s : Server Entry). HasStock (moved_by g q (g.server q) (m ∷ [])) q
          (booted_stock s own.saved)) there
          (subst (λ (x : Group Entry). HasStock x q (booted_stock (x.server q) own.saved)) now
          b.stock);
      are_saved = subst (λ (x : Group Entry). AreSaved x.page (x.server q) own.saved) now b.saved;
      waits = subst (λ (s : Server Entry). HasWaits s stock) (sym there)
          (l.rest.after_boot q (g.clock q) g.delta mark stock);
      rests = λ down. absurd (true≢false (sym (booted_up q (g.clock q) g.delta mark)
          ∙ sym (ap (λ (s : Server Entry). s.up) there) ∙ down));
    })
