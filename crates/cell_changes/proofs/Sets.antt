-- The changes of SETATTR and WRITE lead.
use Rattle.std.proofs.Common.{◌≡◌, ℕ, ◌+◌, ◌==◌, not, max, Bool, true, false, List, [], ◌∷◌, ◌++◌, length, set, Option, Some, None, Ok, refl, sym, ap, ◌∙◌, subst, inl, inr, ◌⊎◌}
use Rattle.std.specs.Bool.{if◌then◌else◌}
use Rattle.std.specs.List.{list_any}
use Rattle.std.specs.Prelude.{nat_lt}
use Rattle.std.proofs.lemmas.Bool.{cases_eq, ne_eqb, or_from}
use Rattle.harp_types.specs.declared.attr.Time.{Time}
use Rattle.harp_types.specs.declared.attr.SetAttr.{SetAttr}
use Rattle.harp_types.specs.declared.call.Call.TheVariants as call
use Rattle.harp_types.specs.declared.cred.Cred.{Cred}
use Rattle.harp_types.specs.declared.reply.Reply.{Reply}
use Rattle.harp_types.specs.declared.reply.Status.TheVariants.{Perm, FBig}
use Rattle.file_tree.specs.declared.object.Body.{Body}
use Rattle.file_tree.specs.declared.object.Body.TheVariants as body
use Rattle.file_tree.specs.declared.object.Object.{Object}
use Rattle.file_tree.specs.Tree.{Tree, place, slots_of, slots_within, names_in, is_directory}
use Rattle.file_tree.specs.Tries.{live, bytes_in, room}
use Rattle.file_tree.specs.Permissions.{writing, allowed, may_set}
use Rattle.harp_types.specs.Limits.{field_left, largest_file}
use Rattle.file_tree.specs.Outcome.{change, body_with, resized, written, rewritten, with_fields, with_size, set_fields, set_attr, write}
use Rattle.file_tree.proofs.Kept.{live_place}
use Rattle.file_tree.proofs.Reslots.{place_set, change_is}
use Rattle.file_tree.proofs.TryLaws.{Given, done, step, unless, either, given_at, bytes_are}
use Rattle.harp_cells.specs.declared.cell.Cell.TheVariants as cell
use Rattle.harp_cells.specs.declared.change.Change.{Change}
use Rattle.harp_cells.specs.Effect.{Cells, after, is_cell}
use Rattle.harp_cells.specs.CellsOfTree.{content_of, is_regular_at}
use Rattle.inode_blocks.specs.Holds.{HoldsBytes}
use Rattle.inode_blocks.specs.Changes.{LeadTo, puts, cuts, kept_in}
use Rattle.inode_blocks.proofs.PutLaws.{puts_lead}
use Rattle.inode_blocks.proofs.CutLaws.{cuts_lead}
use Rattle.inode_blocks.proofs.TreeLaws.{trees_hold}
use Rattle.inode_dirs.specs.Slots.{HoldsSlots}
use Rattle.cell_changes.specs.TreeCells.{TreeCells}
use Rattle.cell_changes.specs.Stands.{AllStand, StandsAt, is_cell_of}
use Rattle.cell_changes.specs.Table.{set_by, content_size, resizes, sets, tree_changes}
use Rattle.cell_changes.proofs.Frame.{stands_by, each_stands, unmoved_still}
use Rattle.cell_changes.proofs.SetCells.{is_among, in_a_row}
use Rattle.cell_changes.proofs.Unmoved.{unmoved_set}
use Rattle.cell_changes.proofs.Touched.{among_first, other_blocks, blocks_stay, file_stands, touched, untouched, slots_set}

-- the cell of an object is no block and no slot
no_block : (number of block : ℕ) → is_among (cell.Object of ∷ []) (cell.Block number block) ≡ false
unfolding is_cell
no_block number of block = refl

not_of : (number of : ℕ) → (number ≡ of → ⊥)
    → list_any (is_cell_of number) (cell.Object of ∷ []) ≡ false
not_of number of other = or_from (of == number) false (ne_eqb of number (λ e. other (sym e))) refl

-- ---- an object of the same kind

-- an object gets other attributes, and keeps its body
pub object_changed : (t : TreeCells) (number : ℕ) (o p : Object) (new : Tree)
    → new ≡ set t.tree number (Some p)
    → place t.tree number ≡ Some o
    → p.body ≡ o.body → AllStand (after (set_by new (cell.Object number ∷ [])) t.cells) new
object_changed t number o p new is at body k =
    let stand = each_stands t.cells t.tree t.stamp t.stand k in
    elim (cases_eq k number) [
      | inl e ↦
          let here : place new k ≡ Some p = ap (λ (n : ℕ). place new n) e
          ∙ ap (λ (x : Tree). place x number) is
          ∙ place_set t.tree number o p at in
          let was : place t.tree k ≡ Some o = ap (place t.tree) e ∙ at in
          let content : content_of (place new k) ≡ content_of (place t.tree k) =
          ap content_of here ∙ ap (λ (b : Body). content_of (Some (record o { body = b }))) body
          ∙ sym (ap content_of was) in
          let kind : is_regular_at (place new k) ≡ is_regular_at (place t.tree k) =
          ap is_regular_at here ∙ ap
          (λ (b : Body). is_regular_at (Some (record o { body = b }))) body
          ∙ sym (ap is_regular_at was) in
          let slots : slots_of (place new k) ≡ slots_of (place t.tree k) = ap slots_of here
          ∙ ap slots_within body
          ∙ sym (ap slots_of was) in
          subst (λ (n : ℕ). StandsAt (after (set_by new (cell.Object n ∷ [])) t.cells) new k) e
          (touched t.cells new (cell.Object k ∷ []) k (among_first (cell.Object k) [])
          (λ block. no_block k k block)
          (blocks_stay t.cells t.tree new k content kind stand)
          (slots_set t.cells new (cell.Object k ∷ []) k (slots_of (place new k))
          (rw slots stand.slot)
          (λ slot other. refl)))
      | inr ne ↦
          untouched t.cells new (cell.Object number ∷ []) k (not_of k number ne)
          (unmoved_still t.cells t.tree new k
          (rw is (unmoved_set t.tree number o p k at (ap is_directory body)
          (λ m. ap (λ (b : Body). names_in m (slots_within b)) body) ne)) stand)
    ]

-- a file gets other bytes, by changes that lead to them
pub file_changed : (t : TreeCells) (number : ℕ) (o p : Object) (old bytes : List ℕ)
    (changes : List Change)
    (new : Tree)
    → new ≡ set t.tree number (Some p) → place t.tree number ≡ Some o → o.body ≡ body.Regular old
    → p.body ≡ body.Regular bytes
    → LeadTo changes t.cells number (content_size t.tree number) bytes
    → AllStand (after (changes ++ set_by new (cell.Object number ∷ [])) t.cells) new
file_changed t number o p old bytes changes new is at was becomes lead k =
    let stand = each_stands t.cells t.tree t.stamp t.stand k in
    in_a_row changes (set_by new (cell.Object number ∷ [])) t.cells new k
    (elim (cases_eq k number) [
      | inl e ↦
          let here : place new k ≡ Some p = ap (λ (n : ℕ). place new n) e
          ∙ ap (λ (x : Tree). place x number) is
          ∙ place_set t.tree number o p at in
          let there : place t.tree k ≡ Some o = ap (place t.tree) e ∙ at in
          let leads : LeadTo changes t.cells k (content_size t.tree k) bytes = rw e lead in
          let slots : slots_of (place new k) ≡ slots_of (place t.tree k) =
          ap slots_of here ∙ ap slots_within becomes
          ∙ sym (ap slots_of there ∙ ap slots_within was) in
          subst (λ (n : ℕ). StandsAt
          (after (set_by new (cell.Object n ∷ [])) (after changes t.cells)) new k) e
          (touched (after changes t.cells) new (cell.Object k ∷ []) k
          (among_first (cell.Object k) [])
          (λ block. no_block k k block)
          (file_stands (after changes t.cells) new k bytes
          (ap is_regular_at here ∙ ap
          (λ (b : Body). is_regular_at (Some (record o { body = b }))) becomes)
          (ap content_of here ∙ ap (λ (b : Body). content_of
          (Some (record o { body = b }))) becomes)
          leads.holds (leads.ends stand.ends))
          (slots_set (after changes t.cells) new (cell.Object k ∷ []) k (slots_of (place new k))
          (λ slot. leads.others (cell.Slot k slot) refl
          ∙ subst (HoldsSlots t.cells k) (sym slots) stand.slot slot)
          (λ slot other. refl)))
      | inr ne ↦
          let kind : is_directory p.body ≡ is_directory o.body = ap is_directory becomes
          ∙ sym (ap is_directory was) in
          let names : (m : ℕ) → names_in m (slots_within p.body)
          ≡ names_in m (slots_within o.body) = λ (m : ℕ).
          ap (λ (b : Body). names_in m (slots_within b)) becomes
          ∙ sym (ap (λ (b : Body). names_in m (slots_within b)) was) in
          untouched (after changes t.cells) new (cell.Object number ∷ []) k (not_of k number ne)
          (stands_by t.cells (after changes t.cells) new k
          (λ c of. lead.others c (other_blocks k number c ne of))
          (unmoved_still t.cells t.tree new k
          (rw is (unmoved_set t.tree number o p k at kind names ne)) stand))
    ])

-- ---- SETATTR

-- no bytes where a size is left, and else those of a file at the size
abbrev IsSized : ℕ → Body → Option (List ℕ) → Type 0
IsSized size b bytes =
    (((size == field_left) ≡ true) × (bytes ≡ None))
    ⊎ (((size == field_left) ≡ false) × (old : List ℕ) × (b ≡ body.Regular old)
    × (bytes ≡ Some (resized old size)))

sized : (tree : Tree) (cred : Cred) (number : ℕ) (b : Body) (size : ℕ)
    → Given (with_size tree cred number b size) (IsSized size b)
unfolding with_size
sized tree cred number b size =
    either (size == field_left) _ _ (IsSized size b)
    (λ e. done None (IsSized size b) (inl (e, refl)))
    (λ e. step (bytes_in b) _ (IsSized size b) (λ old is.
    step (allowed tree cred number writing) _ (IsSized size b) (λ v may.
    unless FBig (nat_lt largest_file size) _ (IsSized size b) (λ small.
    step (room tree number size) _ (IsSized size b) (λ u enough.
    done (Some (resized old size)) (IsSized size b) (inr (e, old, bytes_are b old is, refl)))))))

-- the content of a file in a tree
content_is : (tree : Tree) (number : ℕ) (o : Object) (old : List ℕ) → place tree number ≡ Some o
    → o.body ≡ body.Regular old
    → content_of (place tree number) ≡ old
content_is tree number o old at was = ap content_of at
    ∙ ap (λ (b : Body). content_of (Some (record o { body = b }))) was

cut_leads : (t : TreeCells) (number size : ℕ) (o : Object) (old : List ℕ)
    → place t.tree number ≡ Some o
    → o.body ≡ body.Regular old
    → LeadTo (cuts number (content_size t.tree number) size
    (kept_in t.cells number size)) t.cells number
    (content_size t.tree number) (resized old size)
cut_leads t number size o old at was =
    let content = content_is t.tree number o old at was in
    cuts_lead t.cells number (content_size t.tree number) old size
    (subst (HoldsBytes t.cells number) content (trees_hold t.cells t.tree t.stamp t.stand number))
    (sym (ap length content))

fields_lead : (t : TreeCells) (number : ℕ) (o : Object) (a : SetAttr) (bytes : Option (List ℕ))
    (now : Time)
    (new : Tree) → place t.tree number ≡ Some o
    → IsSized a.size o.body bytes → new ≡ change t.tree number (with_fields a bytes now)
    → AllStand (after (sets t.cells t.tree new number a.size) t.cells) new
fields_lead t number o a bytes now new at (inl sized) is =
    let left : resizes t.cells t.tree number a.size ≡ [] =
    ap (λ (b : Bool). if◌then◌else◌ {A = List Change} b []
    (cuts number (content_size t.tree number) a.size (kept_in t.cells number a.size))) sized.0 in
    subst (λ (changes : List Change). AllStand
    (after (changes ++ set_by new (cell.Object number ∷ [])) t.cells) new)
    (sym left)
    (object_changed t number o (with_fields a bytes now o) new
    (is ∙ change_is t.tree number (with_fields a bytes now) o at) at
    (ap (body_with o.body) sized.1))
fields_lead t number o a bytes now new at (inr sized) is =
    let cut : resizes t.cells t.tree number a.size ≡ cuts number (content_size t.tree number) a.size
    (kept_in t.cells number a.size) =
    ap (λ (b : Bool). if◌then◌else◌ {A = List Change} b []
    (cuts number (content_size t.tree number) a.size (kept_in t.cells number a.size))) sized.0 in
    subst (λ (changes : List Change). AllStand
    (after (changes ++ set_by new (cell.Object number ∷ [])) t.cells) new)
    (sym cut)
    (file_changed t number o (with_fields a bytes now o) sized.1 (resized sized.1 a.size)
    (cuts number (content_size t.tree number) a.size (kept_in t.cells number a.size)) new
    (is ∙ change_is t.tree number (with_fields a bytes now) o at) at sized.2
    (ap (body_with o.body) sized.3) (cut_leads t number a.size o sized.1 at sized.2))

-- the attributes of a file, a directory or a link are set
pub set_fields_leads : (t : TreeCells) (cred : Cred) (number : ℕ) (a : SetAttr) (now : Time)
    (new : Tree)
    → set_fields t.tree cred number a now ≡ Ok new
    → AllStand (after (sets t.cells t.tree new number a.size) t.cells) new
unfolding set_fields
set_fields_leads t cred number a now new e =
    given_at (set_fields t.tree cred number a now)
    (λ n. AllStand (after (sets t.cells t.tree n number a.size) t.cells) n) new
    (step (live t.tree number) _ (λ n. AllStand
    (after (sets t.cells t.tree n number a.size) t.cells) n) (λ o lives.
    unless Perm (not (may_set cred a o.uid o.gid)) _
    (λ n. AllStand (after (sets t.cells t.tree n number a.size) t.cells) n) (λ may.
    step (with_size t.tree cred number o.body a.size) _
    (λ n. AllStand (after (sets t.cells t.tree n number a.size) t.cells) n) (λ bytes f.
    done _ (λ n. AllStand (after (sets t.cells t.tree n number a.size) t.cells) n)
    (fields_lead t number o a bytes now _ (live_place t.tree number o lives)
    (given_at (with_size t.tree cred number o.body a.size) (IsSized a.size o.body) bytes
    (sized t.tree cred number o.body a.size) f) refl))))) e

pub set_attr_leads : (t : TreeCells) (cred : Cred) (number : ℕ) (a : SetAttr) (now : Time)
    (reply : Reply) (new : Tree)
    → set_attr t.tree cred number a now ≡ Ok (reply, new)
    → AllStand (after (tree_changes t.cells t.tree new (call.SetAttr number a)) t.cells) new
unfolding set_attr tree_changes
set_attr_leads t cred number a now reply new e =
    given_at (set_attr t.tree cred number a now)
    (λ x. AllStand (after (sets t.cells t.tree x.1 number a.size) t.cells) x.1) (reply, new)
    (step (set_fields t.tree cred number a now) _
    (λ x. AllStand (after (sets t.cells t.tree x.1 number a.size) t.cells) x.1) (λ n f.
    done _ (λ x. AllStand (after (sets t.cells t.tree x.1 number a.size) t.cells) x.1)
    (set_fields_leads t cred number a now n f))) e

-- ---- WRITE

-- the changes of a write
writes : Cells → Tree → Tree → ℕ → ℕ → List ℕ → List Change
writes cells old new number offset bytes =
    puts cells number (content_size old number) offset bytes ++ set_by new (cell.Object number ∷ [])

bytes_lead : (t : TreeCells) (number offset : ℕ) (bytes : List ℕ) (o : Object) (old : List ℕ)
    (now : Time)
    (new : Tree) → place t.tree number ≡ Some o
    → o.body ≡ body.Regular old → new
    ≡ change t.tree number (rewritten now (written old offset bytes))
    → AllStand (after (writes t.cells t.tree new number offset bytes) t.cells) new
unfolding writes
bytes_lead t number offset bytes o old now new at was is =
    let content = content_is t.tree number o old at was in
    file_changed t number o (rewritten now (written old offset bytes) o) old
    (written old offset bytes)
    (puts t.cells number (content_size t.tree number) offset bytes) new
    (is ∙ change_is t.tree number (rewritten now (written old offset bytes)) o at) at was refl
    (puts_lead t.cells number (content_size t.tree number) old offset bytes
    (subst (HoldsBytes t.cells number) content (trees_hold t.cells t.tree t.stamp t.stand number))
    (sym (ap length content)))

-- what a write leads to
abbrev WriteLeads : TreeCells → ℕ → ℕ → List ℕ → Tree → Type 0
WriteLeads t number offset bytes new =
    AllStand (after (if length bytes == 0 then []
    else writes t.cells t.tree new number offset bytes) t.cells) new

nothing_leads : (t : TreeCells) (number offset : ℕ) (bytes : List ℕ) → (length bytes == 0) ≡ true
    → WriteLeads t number offset bytes t.tree
nothing_leads t number offset bytes e =
    subst (λ (b : Bool). AllStand
    (after (if◌then◌else◌ {A = List Change} b []
    (writes t.cells t.tree t.tree number offset bytes)) t.cells) t.tree)
    (sym e)
    (each_stands t.cells t.tree t.stamp t.stand)

some_lead : (t : TreeCells) (number offset : ℕ) (bytes : List ℕ) (new : Tree)
    → (length bytes == 0) ≡ false
    → AllStand (after (writes t.cells t.tree new number offset bytes) t.cells) new
    → WriteLeads t number offset bytes new
some_lead t number offset bytes new e stand =
    subst (λ (b : Bool). AllStand
    (after (if◌then◌else◌ {A = List Change} b []
    (writes t.cells t.tree new number offset bytes)) t.cells) new)
    (sym e)
    stand

pub write_leads : (t : TreeCells) (cred : Cred) (number offset : ℕ) (bytes : List ℕ) (now : Time)
    (reply : Reply) (new : Tree)
    → write t.tree cred number offset bytes now ≡ Ok (reply, new)
    → AllStand (after (tree_changes t.cells t.tree new (call.Write number offset bytes)) t.cells)
    new
unfolding write tree_changes writes
write_leads t cred number offset bytes now reply new e =
    given_at (write t.tree cred number offset bytes now) (λ x. WriteLeads t number offset bytes x.1)
    (reply, new)
    (step (live t.tree number) _ (λ x. WriteLeads t number offset bytes x.1) (λ o lives.
    step (bytes_in o.body) _ (λ x. WriteLeads t number offset bytes x.1) (λ old was.
    step (allowed t.tree cred number writing) _ (λ x. WriteLeads t number offset bytes x.1)
    (λ v may.
    unless FBig (nat_lt largest_file (offset + length bytes)) _
    (λ x. WriteLeads t number offset bytes x.1) (λ small.
    either (length bytes == 0) _ _ (λ x. WriteLeads t number offset bytes x.1)
    (λ none. done _ (λ x. WriteLeads t number offset bytes x.1)
    (nothing_leads t number offset bytes none))
    (λ some. step (room t.tree number (max (length old) (offset + length bytes))) _
    (λ x. WriteLeads t number offset bytes x.1) (λ u enough.
    done _ (λ x. WriteLeads t number offset bytes x.1)
    (some_lead t number offset bytes _ some
    (bytes_lead t number offset bytes o old now _ (live_place t.tree number o lives)
    (bytes_are o.body old was) refl))))))))) e
