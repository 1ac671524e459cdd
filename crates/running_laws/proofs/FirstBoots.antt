-- The first boot at a place whose disk is new: that a run booted there before makes no difference.
use Rattle.std.proofs.Common.{◌≡◌, ℕ, max, Bool, true, false, List, [], ◌∷◌, length, Option, None, Some, refl, sym, ap, ◌∙◌, subst, arith, if◌then◌else◌}
use Rattle.event_record.specs.declared.record.RecordFields.{RecordFields}
use Rattle.file_tree.specs.Book.{Entry}
use Rattle.group_rules.proofs.Tests.{if_not, is_le}
use Rattle.group_rules.specs.Effects.{booted, first_mark as first_mark_of, rested}
use Rattle.group_rules.specs.Names.{place_of}
use Rattle.group_rules.specs.Places.{Place}
use Rattle.harp_store.specs.Disk.{Disk as ToldDisk, Moments, after_step, reads, then_disk, with_mark}
use Rattle.harp_store.specs.Mark.{MarkFields, SavedNumbers, first_mark}
use Rattle.harp_store.specs.Memory.{nothing_stored}
use Rattle.harp_types.specs.Limits.{first_promise}
use Rattle.harp_types.specs.declared.server.ServerId.{ServerId}
use Rattle.harp_types.specs.declared.server.ServerId.TheVariants as server
use Rattle.node.specs.Boot.{HasBase, HoldSaved, HoldWhole, after_boot, boot_mark, booted_disk, has_boot_mark, mark_before}
use Rattle.node.specs.Node.{mark_with, server}
use Rattle.world_host.proofs.Stops.{now_at}
use Rattle.world_rules.specs.Host.{HostValue}
use Rattle.running_laws.specs.Events.{Site}
use Rattle.running_laws.specs.Follows.{IsNew, first_disk}
use Rattle.running_laws.specs.Lives.{WholeBoot}
use Rattle.running_laws.proofs.Bootings.{IsBootAt}

none_long : {A : Type 0} (xs : List A) → 0 ≡ length xs → xs ≡ []
none_long [] e = refl
none_long (x ∷ xs) e = absurd (omega (arith, e))

same_top : (a b : SavedNumbers) → Some a ≡ Some b → a.top ≡ b.top
same_top a b e = cc

-- a first mark's saved log has no record
none_held : (cells : _) (place : ServerId) (longest : ℕ) (items : List Entry)
    → HoldSaved cells (first_mark place longest) items → items ≡ []
none_held cells place longest items h =
    let long = same_top _ _ h.numbers in none_long items (omega (arith, long))

-- two first marks boot alike where both have the same longest promise afterwards
same_booted : (place : ServerId) (now delta longest : ℕ)
    → max delta first_promise ≡ max delta longest
    → booted (place_of place) now delta (mark_with [] (first_mark place first_promise))
    ≡ booted (place_of place) now delta (first_mark_of Entry longest (place_of place))
same_booted server.Zero now delta longest e = ap (λ (n : ℕ). rested (place_of server.Zero) now delta
    (record (first_mark_of Entry longest (place_of server.Zero)) { longest = Some n })) e
same_booted server.One now delta longest e = ap (λ (n : ℕ). rested (place_of server.One) now delta
    (record (first_mark_of Entry longest (place_of server.One)) { longest = Some n })) e
same_booted server.Two now delta longest e = ap (λ (n : ℕ). rested (place_of server.Two) now delta
    (record (first_mark_of Entry longest (place_of server.Two)) { longest = Some n })) e

module _ (h : HostValue) (place : ServerId) (now delta : ℕ) (a b : Site) (k : IsNew place h a)
    (written : Some b.disk ≡ after_boot place delta (Some a.disk)) where
  abbrev q : Place
  q = place_of place

  -- the disk of the run
  abbrev pub from : Moments
  from = record { past = []; now = first_disk place }

  -- the disk of the place afterwards
  abbrev marked_disk : ℕ → ToldDisk
  marked_disk n = with_mark (first_mark place n) nothing_stored.now

  no_mark : a.disk.now.mark ≡ None
  no_mark = ap (λ (d : ToldDisk). d.mark) k.new.empty

  -- ---- what is held

  held_there : (items : List Entry)
      → HoldSaved (reads from.now) (boot_mark place delta from.now.mark) items
      → HoldSaved (reads a.disk.now) (boot_mark place delta a.disk.now.mark) items
  unfolding reads
  held_there items held = subst (λ (d : ToldDisk).
      HoldSaved (reads d) (boot_mark place delta d.mark) items) (sym k.new.empty) held

  whole_there : (saved : List RecordFields)
      → HoldWhole (reads from.now) (boot_mark place delta from.now.mark) saved
      → HoldWhole (reads a.disk.now) (boot_mark place delta a.disk.now.mark) saved
  unfolding reads
  whole_there saved held = subst (λ (d : ToldDisk).
      HoldWhole (reads d) (boot_mark place delta d.mark) saved) (sym k.new.empty) held

  boots_empty : (w : WholeBoot place now delta a b)
      → HoldSaved (reads from.now) (boot_mark place delta from.now.mark) []
      → server w.node [] ≡ booted q now delta (mark_with [] (first_mark place first_promise))
  boots_empty w held =
      subst (λ (o : Option MarkFields). server w.node []
      ≡ booted q now delta (mark_before place delta [] o)) no_mark
      (w.boot.boots a.disk [] refl (held_there [] held))
      ∙ sym (same_booted place now delta (max delta first_promise) (omega arith))

  boots_from : (w : WholeBoot place now delta a b) (items : List Entry)
      → HoldSaved (reads from.now) (boot_mark place delta from.now.mark) items
      → server w.node items ≡ booted q now delta (mark_before place delta items from.now.mark)
  boots_from w items held =
      let mark = first_mark place first_promise in
      let none = none_held (reads from.now) place (max delta first_promise) items held in
      subst (λ (es : List Entry). server w.node es ≡ booted q now delta (mark_with es mark))
      (sym none) (boots_empty w (subst (λ (es : List Entry).
      HoldSaved (reads from.now) (boot_mark place delta from.now.mark) es) none held))

  mark_is : (w : WholeBoot place now delta a b)
      → w.node.mark ≡ boot_mark place delta from.now.mark
  mark_is w = subst (λ (o : Option MarkFields). HasBase q (boot_mark place delta o)
      → w.node.mark ≡ boot_mark place delta o) no_mark (w.boot.mark a.disk refl) (λ two. refl)

  -- ---- what is written

  pub left_by : Bool → Moments
  left_by true = from
  left_by false = then_disk (booted_disk place delta from.now) from

  written_by : (b : Bool) → Some (left_by b)
      ≡ (if b then Some from else after_step (booted_disk place delta) (Some from))
  unfolding left_by
  written_by true = refl
  written_by false = refl

  left_now : (b : Bool) → has_boot_mark delta from.now.mark ≡ b
      → (left_by b).now ≡ marked_disk (max delta first_promise)
  unfolding left_by
  left_now true e =
      let le = is_le delta first_promise e in
      let same : first_promise ≡ max delta first_promise = omega (arith, le) in
      ap marked_disk same
  left_now false e = refl

  disk_there : b.disk.now ≡ marked_disk (max delta first_promise)
  disk_there = now_at b.disk (then_disk (booted_disk place delta a.disk.now) a.disk)
      (written ∙ if_not (has_boot_mark delta a.disk.now.mark) (Some a.disk)
      (after_step (booted_disk place delta) (Some a.disk)) (ap (has_boot_mark delta) no_mark))
      ∙ ap (booted_disk place delta) k.new.empty

  -- what a boot of the run leaves
  abbrev pub new_left : Moments
  new_left = left_by (has_boot_mark delta from.now.mark)

  pub new_written : Some new_left ≡ after_boot place delta (Some from)
  new_written = written_by (has_boot_mark delta from.now.mark)

  pub new_there : new_left.now ≡ b.disk.now
  new_there = left_now (has_boot_mark delta from.now.mark) refl ∙ sym disk_there

  -- A FIRST BOOT is one from the disk of the run
  pub first_boot : WholeBoot place now delta a b → IsBootAt h place now delta b
  first_boot w = record {
    none = k.node;
    node = w.node;
    is = w.is;
    old = from;
    left = new_left;
    disk = k.disk;
    there = new_there;
    boots = record {
      boots = boots_from w;
      records = λ saved held. w.boot.records a.disk saved refl (whole_there saved held);
      me = w.boot.me_is;
      served = w.boot.is_server;
      mark = λ base. mark_is w;
      written = new_written;
    };
  }
