-- The disks of a run have few blocks for each object.
use Rattle.std.proofs.Common.{◌≡◌, ℕ, ◌*◌, ◌≤◌, Bool, true, false, List, [], ◌∷◌, length, take, Option, None, Some, refl, ◌∙◌, subst, arith, if◌then◌else◌}
use Rattle.harp_types.specs.Limits.{block_size}
use Rattle.harp_types.specs.Update.{is_update}
use Rattle.harp_cells.specs.CellsOfTree.{content_of}
use Rattle.harp_cells.specs.declared.cell.Cell.TheVariants as cell
use Rattle.file_tree.specs.Book.{Entry, tree_after, updates}
use Rattle.file_tree.specs.Sound.{IsSoundBody, IsSoundObject}
use Rattle.file_tree.specs.Tree.{place}
use Rattle.file_tree.specs.declared.object.Body.{Body}
use Rattle.file_tree.specs.declared.object.Body.TheVariants as body
use Rattle.file_tree.specs.declared.object.Object.{Object}
use Rattle.file_tree.proofs.SoundLaws.{book_sound}
use Rattle.record_changes.specs.Records.{AreUpdates}
use Rattle.record_changes.proofs.Histories.{stand}
use Rattle.group_rules.specs.Places.{Place}
use Rattle.group_rules.specs.State.{Group}
use Rattle.group_safety.specs.Laws.{Whole}
use Rattle.group_trace.specs.Picks.{most_blocks}
use Rattle.group_trace.specs.DiskRun.{Stores}
use Rattle.trace_laws.specs.DiskLaws.{HasFewBlocks}
use Rattle.trace_laws.specs.StoreLaws.{IsFuzzyAt}

-- a sound object has fewer bytes than these blocks hold
content_within : (o : Option Object) → IsSoundObject o → (block : ℕ) → 524288 ≤ block
    → length (content_of o) ≤ block_size * block
content_within None h block l = omega arith
content_within (Some o) h block l = by o.body h.1
  where
    by : (b : Body) → IsSoundBody b
        → length {A = ℕ} (elim b [
          | body.Regular bytes ↦ bytes
          | body.Directory slots ↦ []
          | body.Link text ↦ text
        ])
        ≤ block_size * block
    by (body.Regular bytes) k = omega arith
    by (body.Directory slots) k = omega arith
    by (body.Link text) k = omega arith

all_updates : (entries : List Entry) → AreUpdates (updates entries)
all_updates [] = tt
all_updates (e ∷ entries) = by (is_update e.call) refl (all_updates entries)
  where
    by : (b : Bool) → is_update e.call ≡ b → AreUpdates (updates entries)
        → AreUpdates (if b then e ∷ updates entries else updates entries)
    by true u h = (u, h)
    by false u h = h

pub few_blocks : (g : Group Entry) → Whole g → (q : Place) (stores : Stores) → IsFuzzyAt g q stores
    → HasFewBlocks (stores q)
unfolding most_blocks
few_blocks g w q stores h n object block l =
    let it = h.left n (cell.Block object block) refl in
    let listed : AreUpdates g.committed = subst AreUpdates w.books.updates (all_updates g.book) in
    let tree = (stand g.committed listed it.count).tree in
    let sound = (book_sound (take it.count g.committed)).objects object in
    it.is ∙ tree.ends object block
    (content_within (place (tree_after (take it.count g.committed)) object) sound block l)
