-- What room a new object finds, and the blocks that are used behind it.
use Rattle.std.proofs.Common.{◌≡◌, ℕ, ◌+◌, ◌-◌, ◌*◌, ◌≤◌, ltb, leb, Bool, true, false, List, [], ◌++◌, length, Ok, refl, sym, ap, ◌∙◌}
use Rattle.std.proofs.lemmas.Bool.{ltb-false}
use Rattle.harp_types.specs.declared.reply.Status.{Status}
use Rattle.harp_types.specs.declared.reply.Status.TheVariants.{NoSpc}
use Rattle.file_tree.specs.declared.object.Slot.{Slot}
use Rattle.file_tree.specs.Tree.{Tree, Slots, place, slots_of, with_entry, blocks_of, blocks_at, used_blocks}
use Rattle.file_tree.specs.Tries.{◌>>=◌, refuse, Tried}
use Rattle.harp_types.specs.Limits.{object_numbers}
use Rattle.file_tree.specs.Outcome.{room_for}
use Rattle.harp_cells.specs.declared.change.Change.{Change}
use Rattle.harp_cells.specs.declared.value.Inode.{Inode}
use Rattle.nfs_calls.specs.declared.parts.totals.Totals.{Totals}
use Rattle.nfs_calls.specs.Plans.{totals_of}
use Rattle.nfs_calls.specs.Space.{replaced_blocks}
use Rattle.nfs_calls.specs.TreeCells.{IsDirectory, IsInode}

both_refuse : (s : Status) (b : Bool) (n : ℕ) (x : Slots)
    → ((refuse s b >>= λ (u : Unit {0}). Ok n) >>= λ (m : ℕ). Ok x)
    ≡ (refuse s b >>= λ (u : Unit {0}). Ok x)
both_refuse s true n x = refl
both_refuse s false n x = refl

pub blocks_stored : (tree : Tree) (number : ℕ) (i : Inode) → IsInode tree number i
    → blocks_at (place tree number) ≡ blocks_of i.size
blocks_stored tree number i is = ap blocks_at is.at
    ∙ ap (λ (j : Inode). blocks_of j.size) (sym is.is)

-- the steps of the room for a new object, by what is stored
pub room_for_steps : (tree : Tree) (dir : ℕ) (i : Inode) (s : Slot) (size : ℕ) (totals : Totals)
    → IsDirectory tree dir i → totals ≡ totals_of tree → s.number ≡ totals.next
    → room_for tree dir (slots_of (place tree dir)) s.name size
    ≡ (refuse NoSpc (leb object_numbers totals.next)
    >>= λ (u : Unit {0}). replaced_blocks (totals.used + blocks_of size) i.size
    (264 * length (with_entry (slots_of (place tree dir)) s))
    >>= λ (n : ℕ). Ok (with_entry (slots_of (place tree dir)) s))
unfolding room_for
room_for_steps tree dir i s size totals is are number =
    let slots = slots_of (place tree dir) in
    let own : s.number ≡ length tree = number ∙ ap (λ (t : Totals). t.next) are in
    let entry : record { name = s.name; number = length tree } ≡ s =
    ap (λ (n : ℕ). let slot : Slot = record { name = s.name; number = n } in slot) (sym own) in
    rw (are, blocks_stored tree dir i is.own, entry)
    (ap (λ (r : Tried Slots). refuse NoSpc (leb object_numbers (length tree))
    >>= λ (u : Unit {0}). r)
    (sym (both_refuse NoSpc (ltb (65536 + blocks_of i.size)
    (used_blocks tree + blocks_of size + blocks_of (264 * length (with_entry slots s)))) _
    (with_entry slots s))))

pub chained : (n0 n1 n2 n3 n4 x y z w : List Change) → n0 ≡ [] → n1 ≡ n0 ++ x → n2 ≡ n1 ++ y
    → n3 ≡ n2 ++ z → n4 ≡ n3 ++ w → n4 ≡ x ++ y ++ z ++ w
chained n0 n1 n2 n3 n4 x y z w a b c d e = rw (e, d, c, b, a) refl

-- the used blocks that are told where there is room
pub record IsReplaced (used old new after : ℕ) : Type 0 where
  pub fits : used + blocks_of new ≤ 65536 + blocks_of old
  pub is : after ≡ used + blocks_of new - blocks_of old

replaced_from : (used old new after : ℕ) (b : Bool)
    → ltb (65536 + blocks_of old) (used + blocks_of new) ≡ b
    → (refuse NoSpc b >>= λ (u : Unit {0}). Ok (used + blocks_of new - blocks_of old)) ≡ Ok after
    → IsReplaced used old new after
replaced_from used old new after true test e = absurd cc
replaced_from used old new after false test e =
    record {
      fits = ltb-false _ _ test;
      is = let same : used + blocks_of new - blocks_of old ≡ after = cc in sym same;
    }

pub replaced_is : (used old new after : ℕ) → replaced_blocks used old new ≡ Ok after
    → IsReplaced used old new after
replaced_is used old new after e = replaced_from used old new after _ refl e
