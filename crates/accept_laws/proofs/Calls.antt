-- Each call that a schedule can spell leaves a tree that fits, and shows it.
use Rattle.std.proofs.Common.{◌≡◌, ℕ, ◌<◌, ◌^◌, ◌==◌, ◌&&◌, not, ltb, List, [], length, replicate, Option, Some, None, Ok, Err, refl, subst, arith}
use Rattle.harp_base.specs.Attributes.{TimeFits}
use Rattle.harp_types.specs.Limits.{largest_file}
use Rattle.harp_types.specs.Time.{time_of}
use Rattle.harp_types.specs.declared.attr.SetAttr.{SetAttr}
use Rattle.harp_types.specs.declared.attr.Time.{Time}
use Rattle.harp_types.specs.declared.call.Call.{Call}
use Rattle.harp_types.specs.declared.call.Call.TheVariants as call
use Rattle.harp_types.specs.declared.cred.Cred.{Cred}
use Rattle.harp_types.specs.declared.reply.Status.TheVariants.{Exist, FBig, IsDir, NameTooLong, NoEnt, NotDir, NotEmpty, Perm}
use Rattle.text_spelling.specs.Fits.{CallFits, CredFits}
use Rattle.std.specs.List.{AllByRecursion}
use Rattle.file_tree.specs.declared.object.Body.TheVariants.{Directory, Link, Regular}
use Rattle.file_tree.specs.declared.object.Slot.{Slot}
use Rattle.file_tree.specs.Tree.{Tree, Slots, entry, is_directory, is_directory_at, place, slots_of}
use Rattle.file_tree.specs.Tries.{check_name, entry_name, is_dots, live, room, slots_in, some_or}
use Rattle.file_tree.specs.Permissions.{allowed, heeded, may_make, searched, searching, writing}
use Rattle.file_tree.specs.Outcome.{Outcome, add_entry, create, create_again, create_at, create_new, doomed, free_name, given, has_entry, has_no_entry, is_regular_at, link, made, make_dir, make_link, remove, remove_dir, room_for, set_ctime, set_fields, slot_changed}
use Rattle.file_tree.specs.Rename.{check_target, freed, is_above, moved_in, moved_over, moved_to, rename}
use Rattle.file_tree.specs.Calls.{outcome, settled}
use Rattle.file_tree.specs.Sound.{IsSound}
use Rattle.file_tree.proofs.Kept.{live_place}
use Rattle.file_tree.proofs.SlotLaws.{found}
use Rattle.file_tree.proofs.SoundLaws.{outcome_sound}
use Rattle.file_tree.proofs.TryLaws.{Given, IsDirectoryOf, done, either, free_name_is, given_at, room_for_is, searched_is, slots_are, some_is, step, unless}
use Rattle.std.proofs.lemmas.Bool.{cond_both}
use Rattle.accept_laws.specs.Trees.{AreOctets, BodyFits, NameFits, SlotFits, TreeFits}
use Rattle.accept_laws.specs.Replies.{AnswersBriefly, CallsKeepFits, IsBrief}
use Rattle.accept_laws.proofs.Attrs.{object_fits}
use Rattle.accept_laws.proofs.Changes.{SetFits, checked, entered, fits_change, fits_heeded, fits_lost, fits_made, fits_object, fits_removed, found_number, keeps_ctime, keeps_reslotted, keeps_slot, with_entry_fits}
use Rattle.accept_laws.proofs.TreeLists.{all-replicate, all-set}
use Rattle.accept_laws.proofs.Shown.{Shown, shown_fits}
use Rattle.accept_laws.proofs.ReadCalls.{Brief, LeavesBrief, LeavesFit, attr_is, bytes_fit, fields_fit, get_attr_fits, lookup_fits, read_dir_fits, read_fits, read_link_fits, set_attr_fits, set_fit, slots_fit, stat_fs_fits, write_fits}

-- ---- new objects

-- the slots with an entry for the next object
full_fits : (tree : Tree) (dir : ℕ) (slots : Slots) (name : List ℕ) (size : ℕ) (full : Slots)
    → TreeFits tree → IsDirectoryOf tree dir slots → NameFits name → AreOctets name
    → room_for tree dir slots name size ≡ Ok full
    → AllByRecursion SlotFits full × (length tree < 2 ^ 32)
full_fits tree dir slots name size full h d n b e =
    let r = room_for_is tree dir slots name size full e in
    let lt : length tree < 2 ^ 32 = omega (arith, r.few) in
    let s : Slot = record { name = name; number = length tree } in (
      rw r.slots_are (with_entry_fits slots s (lt, n, b) (slots_fit tree dir slots h d)),
      lt,
    )

create_new_fits : (tree : Tree) (cred : Cred) (dir : ℕ) (slots : Slots) (name : List ℕ)
    (a : SetAttr) (now : Time) → TreeFits tree → CredFits cred → IsDirectoryOf tree dir slots
    → NameFits name → AreOctets name → SetFits a → TimeFits now
    → LeavesBrief (create_new tree cred dir slots name a now)
unfolding create_new
create_new_fits tree cred dir slots name a now h c d n b f t =
    step (may_make tree cred dir a) _ Brief (λ v may.
    unless FBig (ltb largest_file (given a.size 0)) _ Brief (λ small.
    step (room_for tree dir slots name (given a.size 0)) _ Brief (λ full e.
    let both = full_fits tree dir slots name (given a.size 0) full h d n b e in
    let body = Regular (replicate (given a.size 0) 0) in
    let zeros = all-replicate (λ (b : ℕ). b < 256) (given a.size 0) 0 (omega arith) in
    done _ Brief (
      fits_object tree dir full (made cred a body now) now t both.0
          (fits_made cred a body now c.0 c.1 f zeros t) h,
      (both.1, attr_is _ (length tree) both.1),
      tt,
    ))))

create_again_fits : (tree : Tree) (cred : Cred) (n : ℕ) (a : SetAttr) (now : Time)
    → TreeFits tree → n < 2 ^ 32 → SetFits a → TimeFits now
    → LeavesBrief (create_again tree cred n a now)
unfolding create_again
create_again_fits tree cred n a now h lt f t =
    unless Exist (not (is_regular_at (place tree n))) _ Brief (λ regular.
    step (live tree n) _ Brief (λ o lives.
    let fields = heeded cred o.uid a in
    step (set_fields tree cred n fields now) _ Brief (λ new e.
    done _ Brief (
      given_at (set_fields tree cred n fields now) (λ t. TreeFits t) new
          (fields_fit tree cred n fields now h (fits_heeded cred o.uid a f) t) e,
      (lt, attr_is new n lt),
      tt,
    ))))

create_at_fits : (tree : Tree) (cred : Cred) (dir : ℕ) (slots : Slots) (name : List ℕ)
    (x : Option (ℕ × ℕ)) (a : SetAttr) (now : Time) → TreeFits tree → CredFits cred
    → IsDirectoryOf tree dir slots → NameFits name → AreOctets name → SetFits a → TimeFits now
    → entry slots name ≡ x → LeavesBrief (create_at tree cred dir slots name x a now)
create_at_fits tree cred dir slots name (Some x) a now h c d n b f t e =
    create_again_fits tree cred x.1 a now h
    (found_number slots name x (slots_fit tree dir slots h d) (found slots name x e)) f t
create_at_fits tree cred dir slots name None a now h c d n b f t e =
    create_new_fits tree cred dir slots name a now h c d n b f t

create_fits : (tree : Tree) (cred : Cred) (dir : ℕ) (name : List ℕ) (a : SetAttr) (now : Time)
    → TreeFits tree → CredFits cred → AreOctets name → SetFits a → TimeFits now
    → LeavesBrief (create tree cred dir name a now)
unfolding create
create_fits tree cred dir name a now h c b f t =
    step (searched tree cred dir) _ Brief (λ slots e.
    step (entry_name name) _ Brief (λ u right.
    create_at_fits tree cred dir slots name (entry slots name) a now h c
    (searched_is tree cred dir slots e) (entered name right) b f t refl))

make_dir_fits : (tree : Tree) (cred : Cred) (dir : ℕ) (name : List ℕ) (a : SetAttr) (now : Time)
    → TreeFits tree → CredFits cred → AreOctets name → SetFits a → TimeFits now
    → LeavesBrief (make_dir tree cred dir name a now)
unfolding make_dir
make_dir_fits tree cred dir name a now h c b f t =
    step (searched tree cred dir) _ Brief (λ slots e.
    step (free_name slots name) _ Brief (λ u free.
    step (may_make tree cred dir a) _ Brief (λ v may.
    step (room_for tree dir slots name 0) _ Brief (λ full g.
    let d = searched_is tree cred dir slots e in
    let n = entered name (free_name_is slots name free).right in
    let both = full_fits tree dir slots name 0 full h d n b g in
    done _ Brief (
      fits_object tree dir full (made cred a (Directory []) now) now t both.0
          (fits_made cred a (Directory []) now c.0 c.1 f tt t) h,
      (both.1, attr_is _ (length tree) both.1),
      tt,
    )))))

make_link_fits : (tree : Tree) (cred : Cred) (dir : ℕ) (name text : List ℕ) (a : SetAttr)
    (now : Time) → TreeFits tree → CredFits cred → AreOctets name → AreOctets text → SetFits a
    → TimeFits now → LeavesBrief (make_link tree cred dir name text a now)
unfolding make_link
make_link_fits tree cred dir name text a now h c b b' f t =
    step (searched tree cred dir) _ Brief (λ slots e.
    step (entry_name name) _ Brief (λ u right.
    unless NameTooLong (ltb 1024 (length text)) _ Brief (λ short.
    unless Exist (has_entry slots name) _ Brief (λ new.
    step (may_make tree cred dir a) _ Brief (λ v may.
    step (room_for tree dir slots name (length text)) _ Brief (λ full g.
    let d = searched_is tree cred dir slots e in
    let both = full_fits tree dir slots name (length text) full h d (entered name right) b g in
    done _ Brief (
      fits_object tree dir full (made cred a (Link text) now) now t both.0
          (fits_made cred a (Link text) now c.0 c.1 f b' t) h,
      tt,
      tt,
    )))))))

-- ---- entries that go and move

remove_fits : (tree : Tree) (cred : Cred) (dir : ℕ) (name : List ℕ) (now : Time) → TreeFits tree
    → TimeFits now → LeavesBrief (remove tree cred dir name now)
unfolding remove
remove_fits tree cred dir name now h t =
    step (searched tree cred dir) _ Brief (λ slots e.
    step (doomed slots name) _ Brief (λ x f.
    step (allowed tree cred dir writing) _ Brief (λ v may.
    unless IsDir (is_directory_at (place tree x.1)) _ Brief (λ file.
    done _ Brief (fits_removed tree dir x now t h, tt, tt)))))

remove_dir_fits : (tree : Tree) (cred : Cred) (dir : ℕ) (name : List ℕ) (now : Time)
    → TreeFits tree → TimeFits now → LeavesBrief (remove_dir tree cred dir name now)
unfolding remove_dir
remove_dir_fits tree cred dir name now h t =
    step (searched tree cred dir) _ Brief (λ slots e.
    step (doomed slots name) _ Brief (λ x f.
    step (allowed tree cred dir writing) _ Brief (λ v may.
    unless NotDir (not (is_directory_at (place tree x.1))) _ Brief (λ kind.
    unless NotEmpty (not (has_no_entry (slots_of (place tree x.1)))) _ Brief (λ empty.
    done _ Brief (fits_removed tree dir x now t h, tt, tt))))))

add_fits : (tree : Tree) (dir : ℕ) (slots : Slots) (s : Slot) (now : Time) → TreeFits tree
    → AllByRecursion SlotFits slots → SlotFits (Some s) → TimeFits now
    → Given (add_entry tree dir slots s now) (λ t. TreeFits t)
unfolding add_entry
add_fits tree dir slots s now h fit f t =
    step (room tree dir _) _ (λ t. TreeFits t) (λ u enough.
    done _ (λ t. TreeFits t)
    (fits_change tree dir _ (keeps_reslotted now _ t (with_entry_fits slots s f fit)) h))

link_fits : (tree : Tree) (cred : Cred) (n dir : ℕ) (name : List ℕ) (now : Time) → TreeFits tree
    → n < 2 ^ 32 → AreOctets name → TimeFits now → LeavesBrief (link tree cred n dir name now)
unfolding link
link_fits tree cred n dir name now h lt b t =
    step (live tree n) _ Brief (λ o lives.
    step (searched tree cred dir) _ Brief (λ slots e.
    unless Perm (is_directory o.body) _ Brief (λ file.
    step (free_name slots name) _ Brief (λ u free.
    step (allowed tree cred dir writing) _ Brief (λ v may.
    let s : Slot = record { name = name; number = n } in
    let fits = slots_fit tree dir slots h (searched_is tree cred dir slots e) in
    let named = entered name (free_name_is slots name free).right in
    step (add_entry tree dir slots s now) _ Brief (λ new g.
    let old : TreeFits new = given_at (add_entry tree dir slots s now) (λ t. TreeFits t) new
    (add_fits tree dir slots s now h fits (lt, named, b) t) g in
    done _ Brief (fits_change new n (set_ctime now) (keeps_ctime now t) old, tt, tt)))))))

moved_over_fits : (tree : Tree) (dir : ℕ) (x : ℕ × ℕ) (to_dir : ℕ) (to_name : List ℕ) (y : ℕ × ℕ)
    (now : Time) → TreeFits tree → SlotFits (Some (record { name = to_name; number = x.1 }))
    → TimeFits now → TreeFits (moved_over tree dir x to_dir to_name y now)
unfolding moved_over
moved_over_fits tree dir x to_dir to_name y now h s t =
    fits_change _ x.1 (set_ctime now) (keeps_ctime now t)
    (fits_lost _ y.1 now t
    (fits_change _ dir (slot_changed now x.0 None) (keeps_slot now x.0 None t tt)
    (fits_change tree to_dir
    (slot_changed now y.0 (Some (record { name = to_name; number = x.1 })))
    (keeps_slot now y.0 (Some (record { name = to_name; number = x.1 })) t s) h)))

freed_fits : (dir to_dir i : ℕ) (slots : Slots) → AllByRecursion SlotFits slots
    → AllByRecursion SlotFits (freed dir to_dir i slots)
freed_fits dir to_dir i slots h =
    cond_both (dir == to_dir) _ slots (λ (ss : Slots). AllByRecursion SlotFits ss)
    (λ e. all-set SlotFits slots i None tt h) (λ e. h)

moved_in_fits : (tree : Tree) (dir : ℕ) (x : ℕ × ℕ) (to_dir : ℕ) (to_slots : Slots)
    (to_name : List ℕ) (now : Time) → TreeFits tree → AllByRecursion SlotFits to_slots
    → SlotFits (Some (record { name = to_name; number = x.1 })) → TimeFits now
    → Given (moved_in tree dir x to_dir to_slots to_name now) (λ t. TreeFits t)
unfolding moved_in
moved_in_fits tree dir x to_dir to_slots to_name now h fits s t =
    step (room tree to_dir _) _ (λ t. TreeFits t) (λ u enough.
    done _ (λ t. TreeFits t)
    (fits_change _ x.1 (set_ctime now) (keeps_ctime now t)
    (fits_change _ to_dir _ (keeps_reslotted now _ t
    (with_entry_fits (freed dir to_dir x.0 to_slots) (record { name = to_name; number = x.1 }) s
    (freed_fits dir to_dir x.0 to_slots fits)))
    (fits_change tree dir (slot_changed now x.0 None) (keeps_slot now x.0 None t tt) h))))

moved_to_fits : (tree : Tree) (dir : ℕ) (x : ℕ × ℕ) (to_dir : ℕ) (to_slots : Slots)
    (to_name : List ℕ) (target : Option (ℕ × ℕ)) (now : Time) → TreeFits tree
    → AllByRecursion SlotFits to_slots
    → SlotFits (Some (record { name = to_name; number = x.1 })) → TimeFits now
    → Given (moved_to tree dir x to_dir to_slots to_name target now) (λ t. TreeFits t)
moved_to_fits tree dir x to_dir to_slots to_name None now h fits s t =
    moved_in_fits tree dir x to_dir to_slots to_name now h fits s t
moved_to_fits tree dir x to_dir to_slots to_name (Some y) now h fits s t =
    either (y.1 == x.1) _ _ (λ t. TreeFits t) (λ same. done tree (λ t. TreeFits t) h)
    (λ other. done _ (λ t. TreeFits t) (moved_over_fits tree dir x to_dir to_name y now h s t))

rename_fits : (tree : Tree) (cred : Cred) (dir : ℕ) (name : List ℕ) (to_dir : ℕ)
    (to_name : List ℕ) (now : Time) → TreeFits tree → AreOctets to_name → TimeFits now
    → LeavesBrief (rename tree cred dir name to_dir to_name now)
unfolding rename
rename_fits tree cred dir name to_dir to_name now h b t =
    step (live tree dir) _ Brief (λ d d_lives.
    step (live tree to_dir) _ Brief (λ e e_lives.
    step (slots_in d.body) _ Brief (λ slots d_slots.
    step (slots_in e.body) _ Brief (λ to_slots e_slots.
    step (allowed tree cred dir searching) _ Brief (λ a may_search.
    step (allowed tree cred to_dir searching) _ Brief (λ v may_search_to.
    unless Perm (is_dots name) _ Brief (λ dots.
    unless Perm (is_dots to_name) _ Brief (λ to_dots.
    step (check_name name) _ Brief (λ u was_checked.
    step (check_name to_name) _ Brief (λ w to_checked.
    step (some_or NoEnt (entry slots name)) _ Brief (λ x x_is.
    step (allowed tree cred dir writing) _ Brief (λ i may_write.
    step (allowed tree cred to_dir writing) _ Brief (λ j may_write_to.
    unless Perm (is_directory_at (place tree x.1) && is_above (length tree) tree x.1 to_dir) _ Brief
    (λ apart.
    step (check_target tree x.1 (entry to_slots to_name)) _ Brief (λ k target.
    step (moved_to tree dir x to_dir to_slots to_name (entry to_slots to_name) now) _ Brief
    (λ new g.
    let from : AllByRecursion SlotFits slots = subst BodyFits (slots_are d.body slots d_slots)
    (object_fits tree dir d h (live_place tree dir d d_lives)).body in
    let to : AllByRecursion SlotFits to_slots =
    subst BodyFits (slots_are e.body to_slots e_slots)
    (object_fits tree to_dir e h (live_place tree to_dir e e_lives)).body in
    let number = found_number slots name x from
    (found slots name x (some_is NoEnt (entry slots name) x x_is)) in
    done _ Brief (
      given_at (moved_to tree dir x to_dir to_slots to_name (entry to_slots to_name) now)
          (λ t. TreeFits t) new
          (moved_to_fits tree dir x to_dir to_slots to_name (entry to_slots to_name) now h to
          (number, checked to_name to_checked, b) t) g,
      tt,
      tt,
    )))))))))))))))))

-- ---- each call

settled_fits : (tree : Tree) (o : Outcome) → TreeFits tree → LeavesFit o
    → TreeFits (settled tree o).1 × Shown (settled tree o).0 (settled tree o).1
unfolding Given
settled_fits tree (Ok x) h l = l
settled_fits tree (Err s) h l = (h, tt)

settled_brief : (tree : Tree) (o : Outcome) → TreeFits tree → LeavesBrief o
    → TreeFits (settled tree o).1 × Shown (settled tree o).0 (settled tree o).1
    × IsBrief (settled tree o).0
unfolding Given
settled_brief tree (Ok x) h l = l
settled_brief tree (Err s) h l = (h, tt, tt)

now_fits : (stamp : ℕ) → TimeFits (time_of stamp)
now_fits stamp = (omega arith, omega arith)

both_fit : (tree : Tree) (cred : Cred) (c : Call) (stamp : ℕ) → IsSound tree → TreeFits tree
    → CredFits cred → CallFits c → TreeFits (outcome tree cred c stamp).1
    × Shown (outcome tree cred c stamp).0 (outcome tree cred c stamp).1
    × AnswersBriefly c (outcome tree cred c stamp).0
both_fit tree cred call.Null stamp is h c f = (h, tt, tt)
both_fit tree cred (call.GetAttr handle) stamp is h c f =
    settled_brief tree _ h (get_attr_fits tree handle h f)
both_fit tree cred (call.SetAttr handle attr) stamp is h c f =
    settled_brief tree _ h
    (set_attr_fits tree cred handle attr (time_of stamp) h f.0 (set_fit attr f.1)
    (now_fits stamp))
both_fit tree cred (call.Lookup dir name) stamp is h c f =
    settled_brief tree _ h (lookup_fits tree cred dir name is h f.0)
both_fit tree cred (call.ReadLink handle) stamp is h c f =
    settled_brief tree _ h (read_link_fits tree handle is h)
both_fit tree cred (call.Read handle offset count) stamp is h c f =
    let both = settled_fits tree _ h (read_fits tree cred handle offset count h f.0) in
    (both.0, both.1, tt)
both_fit tree cred (call.Write handle offset bytes) stamp is h c f =
    settled_brief tree _ h (write_fits tree cred handle offset bytes (time_of stamp) h f.0
    (bytes_fit 8192 bytes f.2) (now_fits stamp))
both_fit tree cred (call.Create dir name attr) stamp is h c f =
    settled_brief tree _ h (create_fits tree cred dir name attr (time_of stamp) h c
    (bytes_fit 4096 name f.1) (set_fit attr f.2) (now_fits stamp))
both_fit tree cred (call.Remove dir name) stamp is h c f =
    settled_brief tree _ h (remove_fits tree cred dir name (time_of stamp) h (now_fits stamp))
both_fit tree cred (call.Rename dir name to_dir to_name) stamp is h c f =
    settled_brief tree _ h (rename_fits tree cred dir name to_dir to_name (time_of stamp) h
    (bytes_fit 4096 to_name f.3) (now_fits stamp))
both_fit tree cred (call.Link handle dir name) stamp is h c f =
    settled_brief tree _ h (link_fits tree cred handle dir name (time_of stamp) h f.0
    (bytes_fit 4096 name f.2) (now_fits stamp))
both_fit tree cred (call.SymLink dir name text attr) stamp is h c f =
    settled_brief tree _ h (make_link_fits tree cred dir name text attr (time_of stamp) h c
    (bytes_fit 4096 name f.1) (bytes_fit 4096 text f.2) (set_fit attr f.3) (now_fits stamp))
both_fit tree cred (call.MkDir dir name attr) stamp is h c f =
    settled_brief tree _ h (make_dir_fits tree cred dir name attr (time_of stamp) h c
    (bytes_fit 4096 name f.1) (set_fit attr f.2) (now_fits stamp))
both_fit tree cred (call.RmDir dir name) stamp is h c f =
    settled_brief tree _ h (remove_dir_fits tree cred dir name (time_of stamp) h (now_fits stamp))
both_fit tree cred (call.ReadDir dir cookie count) stamp is h c f =
    let both = settled_fits tree _ h (read_dir_fits tree cred dir cookie count is h f.0) in
    (both.0, both.1, tt)
both_fit tree cred (call.StatFs handle) stamp is h c f =
    settled_brief tree _ h (stat_fs_fits tree handle h)

pub calls_fit : CallsKeepFits
calls_fit tree cred c stamp is h cr f =
    let both = both_fit tree cred c stamp is h cr f in (
      both.0,
      shown_fits (outcome tree cred c stamp).0 (outcome tree cred c stamp).1
          (outcome_sound tree cred c stamp is) both.0 both.1,
      both.2,
    )
