-- The reply to a call is of a form that the call can get.
use Rattle.std.proofs.Common.{◌≡◌, ℕ, ◌+◌, ◌==◌, ◌&&◌, Bool, true, false, List, length, max, nat_lt, not, Option, Some, None, Ok, Err, refl}
use Rattle.harp_types.specs.declared.attr.SetAttr.{SetAttr}
use Rattle.harp_types.specs.declared.attr.Time.{Time}
use Rattle.harp_types.specs.declared.call.Call.{Call}
use Rattle.harp_types.specs.declared.call.Call.TheVariants as call
use Rattle.harp_types.specs.declared.cred.Cred.{Cred}
use Rattle.harp_types.specs.declared.reply.Reply.TheVariants as reply
use Rattle.harp_types.specs.declared.reply.Status.{Status}
use Rattle.harp_types.specs.declared.reply.Status.TheVariants.{Exist, FBig, IsDir, NameTooLong, NoEnt, NotDir, NotEmpty, Perm}
use Rattle.harp_types.specs.Limits.{largest_file, longest_path}
use Rattle.harp_types.specs.Time.{time_of}
use Rattle.file_tree.specs.Tree.{Tree, Slots, entry, is_directory, is_directory_at, place, slots_of}
use Rattle.file_tree.specs.Tries.{Tried, ◌>>=◌, bytes_in, check_name, directory, entry_name, is_dots, live, refuse, room, slots_in, some_or, text_in}
use Rattle.file_tree.specs.Permissions.{allowed, heeded, may_make, reading, searched, searching, writing}
use Rattle.file_tree.specs.Outcome.{Outcome, add_entry, create, create_again, create_at, create_new, doomed, free_name, get_attr, given, has_entry, has_no_entry, is_regular_at, link, lookup, make_dir, make_link, read, read_dir, read_link, remove, remove_dir, resolve, room_for, set_attr, set_fields, stat_fs, write}
use Rattle.file_tree.specs.Rename.{check_target, is_above, moved_to, rename}
use Rattle.file_tree.specs.Calls.{answered, settled}
use Rattle.rpc_door.specs.Results.{is_reply_to}
use Rattle.door_play.specs.Steps.{cut, cut_attr}
use Rattle.door_play.specs.Laws.{RepliesFit}

-- what a call gives is of a form that it can get
record Fits (c : Call) (tree : Tree) (o : Outcome) : Type 0 where
  fits : is_reply_to c (settled tree o).0 ≡ true

-- a call that can be refused
abbrev MayRefuse : Call → Type 0
MayRefuse c = (s : Status) → is_reply_to c (reply.Refused s) ≡ true

-- a try, and what comes of its value
tried : {A : Type 0} (c : Call) (tree : Tree) (r : Tried A) (f : A → Outcome) → MayRefuse c
    → ((x : A) → Fits c tree (f x)) → Fits c tree (r >>= f)
tried c tree (Ok x) f may h = h x
tried c tree (Err s) f may h = record { fits = may s }

-- either of two ways
chosen : (c : Call) (tree : Tree) (b : Bool) (x y : Outcome) → Fits c tree x → Fits c tree y
    → Fits c tree (elim b [ true ↦ x | false ↦ y ])
chosen c tree true x y a b = a
chosen c tree false x y a b = b

made_at : (dir : ℕ) (name : List ℕ) (a : SetAttr) (tree : Tree) (cred : Cred) (slots : Slots)
    (b : SetAttr) (now : Time) (o : Option (ℕ × ℕ))
    → Fits (call.Create dir name a) tree (create_at tree cred dir slots name o b now)
unfolding create_again create_new
made_at dir name a tree cred slots b now (Some x) =
    let c = call.Create dir name a in
    tried c tree (refuse Exist (not (is_regular_at (place tree x.1)))) _ (λ s. refl) (λ u.
    tried c tree (live tree x.1) _ (λ s. refl) (λ o.
    tried c tree (set_fields tree cred x.1 (heeded cred o.uid b) now) _ (λ s. refl) (λ new.
    record { fits = refl })))
made_at dir name a tree cred slots b now None =
    let c = call.Create dir name a in
    tried c tree (may_make tree cred dir b) _ (λ s. refl) (λ u.
    tried c tree (refuse FBig (nat_lt largest_file (given b.size 0))) _ (λ s. refl) (λ v.
    tried c tree (room_for tree dir slots name (given b.size 0)) _ (λ s. refl) (λ more.
    record { fits = refl })))

each_fits : (tree : Tree) (cred : Cred) (c : Call) (now : Time)
    → Fits c tree (answered tree cred (cut c) now)
unfolding get_attr set_attr lookup read_link read write create remove rename link make_link make_dir
    remove_dir read_dir stat_fs
each_fits tree cred call.Null now = record { fits = refl }
each_fits tree cred (call.GetAttr handle) now =
    let c = call.GetAttr handle in
    tried c tree (live tree handle) _ (λ s. refl) (λ o.
    record { fits = refl })
each_fits tree cred (call.SetAttr handle a) now =
    let c = call.SetAttr handle a in
    tried c tree (set_fields tree cred handle (cut_attr a) now) _ (λ s. refl) (λ new.
    record { fits = refl })
each_fits tree cred (call.Lookup dir name) now =
    let c = call.Lookup dir name in
    tried c tree (searched tree cred dir) _ (λ s. refl) (λ slots.
    tried c tree (resolve tree dir slots name) _ (λ s. refl) (λ number.
    record { fits = refl }))
each_fits tree cred (call.ReadLink handle) now =
    let c = call.ReadLink handle in
    tried c tree (live tree handle) _ (λ s. refl) (λ o.
    tried c tree (text_in o.body) _ (λ s. refl) (λ text.
    record { fits = refl }))
each_fits tree cred (call.Read handle offset count) now =
    let c = call.Read handle offset count in
    tried c tree (live tree handle) _ (λ s. refl) (λ o.
    tried c tree (bytes_in o.body) _ (λ s. refl) (λ bytes.
    tried c tree (allowed tree cred handle reading) _ (λ s. refl) (λ u.
    record { fits = refl })))
each_fits tree cred (call.Write handle offset bytes) now =
    let c = call.Write handle offset bytes in
    tried c tree (live tree handle) _ (λ s. refl) (λ o.
    tried c tree (bytes_in o.body) _ (λ s. refl) (λ old.
    tried c tree (allowed tree cred handle writing) _ (λ s. refl) (λ u.
    tried c tree (refuse FBig (nat_lt largest_file (offset + length bytes))) _ (λ s. refl) (λ v.
    chosen c tree (length bytes == 0) _ _ (record { fits = refl })
    (tried c tree (room tree handle (max (length old) (offset + length bytes))) _ (λ s. refl)
    (λ z. record { fits = refl }))))))
each_fits tree cred (call.Create dir name a) now =
    let c = call.Create dir name a in
    tried c tree (searched tree cred dir) _ (λ s. refl) (λ slots.
    tried c tree (entry_name name) _ (λ s. refl) (λ u.
    made_at dir name a tree cred slots (cut_attr a) now (entry slots name)))
each_fits tree cred (call.Remove dir name) now =
    let c = call.Remove dir name in
    tried c tree (searched tree cred dir) _ (λ s. refl) (λ slots.
    tried c tree (doomed slots name) _ (λ s. refl) (λ x.
    tried c tree (allowed tree cred dir writing) _ (λ s. refl) (λ u.
    tried c tree (refuse IsDir (is_directory_at (place tree x.1))) _ (λ s. refl) (λ v.
    record { fits = refl }))))
each_fits tree cred (call.Rename dir name to_dir to_name) now =
    let c = call.Rename dir name to_dir to_name in
    tried c tree (live tree dir) _ (λ s. refl) (λ d.
    tried c tree (live tree to_dir) _ (λ s. refl) (λ e.
    tried c tree (slots_in d.body) _ (λ s. refl) (λ slots.
    tried c tree (slots_in e.body) _ (λ s. refl) (λ to_slots.
    tried c tree (allowed tree cred dir searching) _ (λ s. refl) (λ u1.
    tried c tree (allowed tree cred to_dir searching) _ (λ s. refl) (λ u2.
    tried c tree (refuse Perm (is_dots name)) _ (λ s. refl) (λ u3.
    tried c tree (refuse Perm (is_dots to_name)) _ (λ s. refl) (λ u4.
    tried c tree (check_name name) _ (λ s. refl) (λ u5.
    tried c tree (check_name to_name) _ (λ s. refl) (λ u6.
    tried c tree (some_or NoEnt (entry slots name)) _ (λ s. refl) (λ x.
    tried c tree (allowed tree cred dir writing) _ (λ s. refl) (λ u7.
    tried c tree (allowed tree cred to_dir writing) _ (λ s. refl) (λ u8.
    tried c tree (refuse Perm (is_directory_at (place tree x.1)
    && is_above (length tree) tree x.1 to_dir)) _ (λ s. refl) (λ u9.
    tried c tree (check_target tree x.1 (entry to_slots to_name)) _ (λ s. refl) (λ u10.
    tried c tree (moved_to tree dir x to_dir to_slots to_name (entry to_slots to_name) now) _
    (λ s. refl) (λ new.
    record { fits = refl }))))))))))))))))
each_fits tree cred (call.Link handle dir name) now =
    let c = call.Link handle dir name in
    tried c tree (live tree handle) _ (λ s. refl) (λ o.
    tried c tree (searched tree cred dir) _ (λ s. refl) (λ slots.
    tried c tree (refuse Perm (is_directory o.body)) _ (λ s. refl) (λ u.
    tried c tree (free_name slots name) _ (λ s. refl) (λ v.
    tried c tree (allowed tree cred dir writing) _ (λ s. refl) (λ x.
    tried c tree (add_entry tree dir slots (record { name = name; number = handle }) now) _
    (λ s. refl) (λ new.
    record { fits = refl }))))))
each_fits tree cred (call.SymLink dir name text a) now =
    let c = call.SymLink dir name text a in
    tried c tree (searched tree cred dir) _ (λ s. refl) (λ slots.
    tried c tree (entry_name name) _ (λ s. refl) (λ u.
    tried c tree (refuse NameTooLong (nat_lt longest_path (length text))) _ (λ s. refl) (λ v.
    tried c tree (refuse Exist (has_entry slots name)) _ (λ s. refl) (λ x.
    tried c tree (may_make tree cred dir (cut_attr a)) _ (λ s. refl) (λ y.
    tried c tree (room_for tree dir slots name (length text)) _ (λ s. refl) (λ more.
    record { fits = refl }))))))
each_fits tree cred (call.MkDir dir name a) now =
    let c = call.MkDir dir name a in
    tried c tree (searched tree cred dir) _ (λ s. refl) (λ slots.
    tried c tree (free_name slots name) _ (λ s. refl) (λ u.
    tried c tree (may_make tree cred dir (cut_attr a)) _ (λ s. refl) (λ v.
    tried c tree (room_for tree dir slots name 0) _ (λ s. refl) (λ more.
    record { fits = refl }))))
each_fits tree cred (call.RmDir dir name) now =
    let c = call.RmDir dir name in
    tried c tree (searched tree cred dir) _ (λ s. refl) (λ slots.
    tried c tree (doomed slots name) _ (λ s. refl) (λ x.
    tried c tree (allowed tree cred dir writing) _ (λ s. refl) (λ u.
    tried c tree (refuse NotDir (not (is_directory_at (place tree x.1)))) _ (λ s. refl) (λ v.
    tried c tree (refuse NotEmpty (not (has_no_entry (slots_of (place tree x.1))))) _ (λ s. refl)
    (λ y.
    record { fits = refl })))))
each_fits tree cred (call.ReadDir dir cookie count) now =
    let c = call.ReadDir dir cookie count in
    tried c tree (directory tree dir) _ (λ s. refl) (λ slots.
    tried c tree (allowed tree cred dir reading) _ (λ s. refl) (λ u.
    record { fits = refl }))
each_fits tree cred (call.StatFs handle) now =
    let c = call.StatFs handle in
    tried c tree (live tree handle) _ (λ s. refl) (λ o.
    record { fits = refl })

pub replies_fit : RepliesFit
replies_fit tree cred c stamp = (each_fits tree cred c (time_of stamp)).fits
