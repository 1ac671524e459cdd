-- A turn in which nothing is sent or entered: a server falls, saves its log and falls, or boots.
use Rattle.std.proofs.Common.{◌≡◌, List, [], ◌∷◌, ◌++◌, append-nil, drop, length, map, refl, sym, ap, ◌∙◌, subst, arith}
use Rattle.std.specs.Prelude.{⊤}
use Rattle.file_tree.specs.Book.{Entry}
use Rattle.group_trace.specs.DiskCalls.{measures_of}
use Rattle.group_trace.specs.DiskRun.{DiskScene, Stores}
use Rattle.group_rules.specs.Moves.{Booting, Falling, Move, Saving, moved_by}
use Rattle.group_rules.specs.Names.{place_of}
use Rattle.group_rules.specs.Places.{Place}
use Rattle.group_rules.specs.Said.{answers_said, refusals_said, sends_said}
use Rattle.group_rules.specs.State.{Group}
use Rattle.group_rules.specs.Step.{list_of}
use Rattle.group_trace.specs.Lines.{answered_line, entered_lines, packet_lines, refused_line, state_lines}
use Rattle.group_trace.specs.Run.{bytes_of, moved_in}
use Rattle.group_trace.specs.Shown.{shown_of}
use Rattle.harp_types.specs.declared.server.ServerId.{ServerId}
use Rattle.world_rules.specs.Host.{HostValue}
use Rattle.world_rules.specs.Spellings.{spellings}
use Rattle.world_lines.specs.Machine.{StandFor}
use Rattle.world_laws.specs.StockLaws.{Stays}
use Rattle.world.specs.World.{IsServer, IsWorld, WorldValue}
use Rattle.world.proofs.Moved.{bytes_in, bytes_said}
use Rattle.world.proofs.Packets.{carried_still}
use Rattle.world.proofs.Scenes.{lines_after, scene_after, scene_turns}
use Rattle.world.proofs.Servers.{turned_to, world_turned}

abbrev pub IsSilent : Move Entry → Type 0
IsSilent Falling = ⊤
IsSilent Saving = ⊤
IsSilent (Booting delta) = ⊤
IsSilent m = ⊥

record Silent (g : Group Entry) (q : Place) (ms : List (Move Entry)) : Type 0 where
  packets : (moved_by g q (g.server q) ms).packets ≡ g.packets
  committed : (moved_by g q (g.server q) ms).committed ≡ g.committed
  book : (moved_by g q (g.server q) ms).book ≡ g.book
  sends : sends_said ms ≡ []
  answers : answers_said ms ≡ []
  refusals : refusals_said ms ≡ []

silent : (g : Group Entry) (q : Place) (m : Move Entry) → IsSilent m → Silent g q (m ∷ [])
silent g q Falling s = record {
  packets = refl;
  committed = refl;
  book = refl;
  sends = refl;
  answers = refl;
  refusals = refl;
}
silent g q Saving s = record {
  packets = refl;
  committed = refl;
  book = refl;
  sends = refl;
  answers = refl;
  refusals = refl;
}
silent g q (Booting delta) s = record {
  packets = refl;
  committed = refl;
  book = refl;
  sends = refl;
  answers = refl;
  refusals = refl;
}
silent g q m s = absurd s

pub silent_stands : (w : DiskScene) (x : WorldValue) (server : ServerId) (m : Move Entry)
    (disks : Stores) (h : HostValue) → IsSilent m → IsWorld w x
    → Stays w.scene.group (moved_in w.scene.group (place_of server, m ∷ []))
    → ((y : Place) → (y ≡ place_of server → ⊥) → disks y ≡ w.disks y)
    → IsServer (scene_after w (place_of server) (m ∷ []) disks) server h
    → IsWorld (scene_after w (place_of server) (m ∷ []) disks)
    (turned_to x server h x.packets x.book)
silent_stands w x server m disks h is world stays others own =
    let q = place_of server in
    let g = w.scene.group in
    let g' = moved_in g (q, m ∷ []) in
    let s = silent g q m is in
    let none : bytes_of (measures_of spellings) (list_of g' q) (m ∷ []) ≡ 0 =
    bytes_said (measures_of spellings) (list_of g' q) (m ∷ [])
    ∙ ap (bytes_in ((measures_of spellings).bytes (list_of g' q))) s.sends in
    let old = world.packets in
    world_turned w (scene_after w q (m ∷ []) disks) x server h x.packets x.book world
    (scene_turns w q (m ∷ []) disks stays others) own
    (record {
      packets = subst (λ ps. StandFor x.packets ps w.scene.delivered) (sym s.packets) old.packets;
      records = carried_still g g' x.packets w.scene.delivered stays old.packets old.records;
      bytes = omega (arith, none, old.bytes);
    })
    (record {
      entries = world.book.entries ∙ sym s.book;
      updates = world.book.updates ∙ ap length (sym s.committed);
    })

all_dropped : (xs : List Entry) → drop (length xs) xs ≡ []
all_dropped [] = refl
all_dropped (x ∷ xs) = all_dropped xs

pub silent_lines : (w : DiskScene) (q : Place) (m : Move Entry) → IsSilent m
    → state_lines q (shown_of (w.scene.group.server q))
    (shown_of ((moved_in w.scene.group (q, m ∷ [])).server q)) ≡ lines_after w q (m ∷ [])
unfolding entered_lines packet_lines
silent_lines w q m is =
    let g = w.scene.group in
    let g' = moved_in g (q, m ∷ []) in
    let s = silent g q m is in
    let now = state_lines q (shown_of (g.server q)) (shown_of (g'.server q)) in
    sym (ap (λ es. entered_lines (length g.book) es ++ (map (answered_line q)
    (answers_said (m ∷ [])) ++ (map (refused_line q) (refusals_said (m ∷ []))
    ++ (packet_lines (length g.packets) q (sends_said (m ∷ [])) ++ (now ++ [])))))
    (ap (drop (length g.book)) s.book ∙ all_dropped g.book)
    ∙ ap (λ xs. map (answered_line q) xs ++ (map (refused_line q) (refusals_said (m ∷ []))
    ++ (packet_lines (length g.packets) q (sends_said (m ∷ [])) ++ (now ++ [])))) s.answers
    ∙ ap (λ rs. map (refused_line q) rs
    ++ (packet_lines (length g.packets) q (sends_said (m ∷ [])) ++ (now ++ []))) s.refusals
    ∙ ap (λ xs. packet_lines (length g.packets) q xs ++ (now ++ [])) s.sends ∙ append-nil now)
