-- A refused call leaves the tree as it is: an outcome with a new tree has another reply than a
-- refusal.
use Rattle.std.proofs.Common.{◌≡◌, ℕ, ◌+◌, ◌==◌, ◌&&◌, not, ltb, List, length, Option, Some, None, Ok, Err, refl}
use Rattle.harp_types.specs.declared.attr.Time.{Time}
use Rattle.harp_types.specs.declared.attr.SetAttr.{SetAttr}
use Rattle.harp_types.specs.declared.call.Call.{Call}
use Rattle.harp_types.specs.declared.call.Call.TheVariants as call
use Rattle.harp_types.specs.declared.cred.Cred.{Cred}
use Rattle.harp_types.specs.declared.reply.Reply.{Reply}
use Rattle.harp_types.specs.declared.reply.Reply.TheVariants.{Refused}
use Rattle.harp_types.specs.declared.reply.Status.{Status}
use Rattle.harp_types.specs.declared.reply.Status.TheVariants.{Perm, NoEnt, NotDir, Exist, IsDir, FBig, NameTooLong, NotEmpty}
use Rattle.harp_types.specs.Time.{time_of}
use Rattle.file_tree.specs.Tree.{Tree, Slots, place, slots_of, entry, is_directory, is_directory_at}
use Rattle.file_tree.specs.Tries.{some_or, live, slots_in, bytes_in, text_in, directory, is_dots, check_name, entry_name, room}
use Rattle.file_tree.specs.Permissions.{reading, writing, searching, allowed, searched, may_make, heeded}
use Rattle.file_tree.specs.Outcome.{Outcome, given, get_attr, set_fields, set_attr, lookup, resolve, read_link, read, write, has_entry, free_name, room_for, is_regular_at, create_again, create_new, create_at, create, make_dir, make_link, doomed, remove, remove_dir, has_no_entry, add_entry, link, read_dir, stat_fs}
use Rattle.harp_types.specs.Limits.{largest_file}
use Rattle.file_tree.specs.Rename.{is_above, check_target, moved_to, rename}
use Rattle.file_tree.specs.Calls.{answered, settled, outcome}
use Rattle.file_tree.proofs.TryLaws.{Given, done, step, unless, either}

abbrev IsAnswer : Reply × Tree → Type 0
IsAnswer x = (status : Status) → x.0 ≡ Refused status → ⊥

abbrev Answers : Outcome → Type 0
Answers outcome = Given outcome IsAnswer

get_attr_answers : (tree : Tree) (handle : ℕ) → Answers (get_attr tree handle)
unfolding get_attr
get_attr_answers tree handle =
    step (live tree handle) _ IsAnswer (λ o e. done _ IsAnswer (λ s r. absurd cc))

set_attr_answers : (tree : Tree) (cred : Cred) (handle : ℕ) (a : SetAttr) (now : Time)
    → Answers (set_attr tree cred handle a now)
unfolding set_attr
set_attr_answers tree cred handle a now =
    step (set_fields tree cred handle a now) _ IsAnswer
    (λ new e. done _ IsAnswer (λ s r. absurd cc))

lookup_answers : (tree : Tree) (cred : Cred) (dir : ℕ) (name : List ℕ)
    → Answers (lookup tree cred dir name)
unfolding lookup
lookup_answers tree cred dir name =
    step (searched tree cred dir) _ IsAnswer
    (λ slots e. step (resolve tree dir slots name) _ IsAnswer
    (λ number f. done _ IsAnswer (λ s r. absurd cc)))

read_link_answers : (tree : Tree) (handle : ℕ) → Answers (read_link tree handle)
unfolding read_link
read_link_answers tree handle =
    step (live tree handle) _ IsAnswer
    (λ o e. step (text_in o.body) _ IsAnswer (λ text f. done _ IsAnswer (λ s r. absurd cc)))

read_answers : (tree : Tree) (cred : Cred) (handle offset count : ℕ)
    → Answers (read tree cred handle offset count)
unfolding read
read_answers tree cred handle offset count =
    step (live tree handle) _ IsAnswer
    (λ o e. step (bytes_in o.body) _ IsAnswer
    (λ bytes f. step (allowed tree cred handle reading) _ IsAnswer
    (λ u g. done _ IsAnswer (λ s r. absurd cc))))

write_answers : (tree : Tree) (cred : Cred) (handle offset : ℕ) (bytes : List ℕ) (now : Time)
    → Answers (write tree cred handle offset bytes now)
unfolding write
write_answers tree cred handle offset bytes now =
    step (live tree handle) _ IsAnswer
    (λ o e. step (bytes_in o.body) _ IsAnswer
    (λ old f. step (allowed tree cred handle writing) _ IsAnswer
    (λ v h. unless FBig (ltb largest_file (offset + length bytes)) _ IsAnswer (λ small.
    either (length bytes == 0) _ _ IsAnswer (λ t. done _ IsAnswer (λ s r. absurd cc))
    (λ t. step (room tree handle _) _ IsAnswer (λ u g. done _ IsAnswer (λ s r. absurd cc)))))))

create_again_answers : (tree : Tree) (cred : Cred) (number : ℕ) (a : SetAttr) (now : Time)
    → Answers (create_again tree cred number a now)
unfolding create_again
create_again_answers tree cred number a now =
    unless Exist (not (is_regular_at (place tree number))) _ IsAnswer
    (λ t. step (live tree number) _ IsAnswer (λ o f.
    step (set_fields tree cred number (heeded cred o.uid a) now) _ IsAnswer
    (λ new e. done _ IsAnswer (λ s r. absurd cc))))

create_new_answers : (tree : Tree) (cred : Cred) (dir : ℕ) (slots : Slots) (name : List ℕ)
    (a : SetAttr) (now : Time) → Answers (create_new tree cred dir slots name a now)
unfolding create_new
create_new_answers tree cred dir slots name a now =
    step (may_make tree cred dir a) _ IsAnswer
    (λ u f. unless FBig (ltb largest_file (given a.size 0)) _ IsAnswer
    (λ t. step (room_for tree dir slots name (given a.size 0)) _ IsAnswer
    (λ full e. done _ IsAnswer (λ s r. absurd cc))))

create_at_answers : (tree : Tree) (cred : Cred) (dir : ℕ) (slots : Slots) (name : List ℕ)
    (x : Option (ℕ × ℕ)) (a : SetAttr) (now : Time)
    → Answers (create_at tree cred dir slots name x a now)
create_at_answers tree cred dir slots name (Some x) a now = create_again_answers tree cred x.1 a now
create_at_answers tree cred dir slots name None a now =
    create_new_answers tree cred dir slots name a now

create_answers : (tree : Tree) (cred : Cred) (dir : ℕ) (name : List ℕ) (a : SetAttr) (now : Time)
    → Answers (create tree cred dir name a now)
unfolding create
create_answers tree cred dir name a now =
    step (searched tree cred dir) _ IsAnswer
    (λ slots e. step (entry_name name) _ IsAnswer
    (λ u f. create_at_answers tree cred dir slots name (entry slots name) a now))

make_dir_answers : (tree : Tree) (cred : Cred) (dir : ℕ) (name : List ℕ) (a : SetAttr) (now : Time)
    → Answers (make_dir tree cred dir name a now)
unfolding make_dir
make_dir_answers tree cred dir name a now =
    step (searched tree cred dir) _ IsAnswer
    (λ slots e. step (free_name slots name) _ IsAnswer (λ u f.
    step (may_make tree cred dir a) _ IsAnswer
    (λ v h. step (room_for tree dir slots name 0) _ IsAnswer
    (λ full g. done _ IsAnswer (λ s r. absurd cc)))))

make_link_answers : (tree : Tree) (cred : Cred) (dir : ℕ) (name text : List ℕ) (a : SetAttr)
    (now : Time) → Answers (make_link tree cred dir name text a now)
unfolding make_link
make_link_answers tree cred dir name text a now =
    step (searched tree cred dir) _ IsAnswer (λ slots e. step (entry_name name) _ IsAnswer (λ u f.
    unless NameTooLong (ltb 1024 (length text)) _ IsAnswer
    (λ short. unless Exist (has_entry slots name) _ IsAnswer (λ new.
    step (may_make tree cred dir a) _ IsAnswer
    (λ v h. step (room_for tree dir slots name (length text)) _ IsAnswer
    (λ full g. done _ IsAnswer (λ s r. absurd cc)))))))

remove_answers : (tree : Tree) (cred : Cred) (dir : ℕ) (name : List ℕ) (now : Time)
    → Answers (remove tree cred dir name now)
unfolding remove
remove_answers tree cred dir name now =
    step (searched tree cred dir) _ IsAnswer (λ slots e. step (doomed slots name) _ IsAnswer (λ x f.
    step (allowed tree cred dir writing) _ IsAnswer
    (λ u g. unless IsDir (is_directory_at (place tree x.1)) _ IsAnswer
    (λ t. done _ IsAnswer (λ s r. absurd cc)))))

remove_dir_answers : (tree : Tree) (cred : Cred) (dir : ℕ) (name : List ℕ) (now : Time)
    → Answers (remove_dir tree cred dir name now)
unfolding remove_dir
remove_dir_answers tree cred dir name now =
    step (searched tree cred dir) _ IsAnswer (λ slots e. step (doomed slots name) _ IsAnswer (λ x f.
    step (allowed tree cred dir writing) _ IsAnswer
    (λ v g. unless NotDir (not (is_directory_at (place tree x.1))) _ IsAnswer (λ t.
    unless NotEmpty (not (has_no_entry (slots_of (place tree x.1)))) _ IsAnswer
    (λ u. done _ IsAnswer (λ s r. absurd cc))))))

link_answers : (tree : Tree) (cred : Cred) (handle dir : ℕ) (name : List ℕ) (now : Time)
    → Answers (link tree cred handle dir name now)
unfolding link
link_answers tree cred handle dir name now =
    step (live tree handle) _ IsAnswer
    (λ o e. step (searched tree cred dir) _ IsAnswer
    (λ slots f. unless Perm (is_directory o.body) _ IsAnswer (λ t.
    step (free_name slots name) _ IsAnswer
    (λ u g. step (allowed tree cred dir writing) _ IsAnswer (λ v i.
    step (add_entry tree dir slots _ now) _ IsAnswer
    (λ new h. done _ IsAnswer (λ s r. absurd cc)))))))

rename_answers : (tree : Tree) (cred : Cred) (dir : ℕ) (name : List ℕ) (to_dir : ℕ)
    (to_name : List ℕ) (now : Time) → Answers (rename tree cred dir name to_dir to_name now)
unfolding rename
rename_answers tree cred dir name to_dir to_name now =
    step (live tree dir) _ IsAnswer (λ d a. step (live tree to_dir) _ IsAnswer (λ e b.
    step (slots_in d.body) _ IsAnswer (λ slots f. step (slots_in e.body) _ IsAnswer (λ to_slots g.
    step (allowed tree cred dir searching) _ IsAnswer
    (λ p n. step (allowed tree cred to_dir searching) _ IsAnswer (λ q o.
    unless Perm (is_dots name) _ IsAnswer (λ t. unless Perm (is_dots to_name) _ IsAnswer (λ u.
    step (check_name name) _ IsAnswer (λ v h. step (check_name to_name) _ IsAnswer (λ w i.
    step (some_or NoEnt (entry slots name)) _ IsAnswer (λ x j.
    step (allowed tree cred dir writing) _ IsAnswer
    (λ r' s'. step (allowed tree cred to_dir writing) _ IsAnswer (λ t' u'.
    unless Perm (is_directory_at (place tree x.1)
    && is_above (length tree) tree x.1 to_dir) _ IsAnswer (λ k.
    step (check_target tree x.1 (entry to_slots to_name)) _ IsAnswer (λ y l.
    step (moved_to tree dir x to_dir to_slots to_name (entry to_slots to_name) now) _ IsAnswer
    (λ new m. done _ IsAnswer (λ s r. absurd cc)))))))))))))))))

read_dir_answers : (tree : Tree) (cred : Cred) (dir cookie count : ℕ)
    → Answers (read_dir tree cred dir cookie count)
unfolding read_dir
read_dir_answers tree cred dir cookie count =
    step (directory tree dir) _ IsAnswer
    (λ slots e. step (allowed tree cred dir reading) _ IsAnswer
    (λ u f. done _ IsAnswer (λ s r. absurd cc)))

stat_fs_answers : (tree : Tree) (handle : ℕ) → Answers (stat_fs tree handle)
unfolding stat_fs
stat_fs_answers tree handle =
    step (live tree handle) _ IsAnswer (λ o e. done _ IsAnswer (λ s r. absurd cc))

answers : (tree : Tree) (cred : Cred) (c : Call) (now : Time) → Answers (answered tree cred c now)
answers tree cred call.Null now = done _ IsAnswer (λ s r. absurd cc)
answers tree cred (call.GetAttr handle) now = get_attr_answers tree handle
answers tree cred (call.SetAttr handle attr) now = set_attr_answers tree cred handle attr now
answers tree cred (call.Lookup dir name) now = lookup_answers tree cred dir name
answers tree cred (call.ReadLink handle) now = read_link_answers tree handle
answers tree cred (call.Read handle offset count) now = read_answers tree cred handle offset count
answers tree cred (call.Write handle offset bytes) now =
    write_answers tree cred handle offset bytes now
answers tree cred (call.Create dir name attr) now = create_answers tree cred dir name attr now
answers tree cred (call.Remove dir name) now = remove_answers tree cred dir name now
answers tree cred (call.Rename dir name to_dir to_name) now =
    rename_answers tree cred dir name to_dir to_name now
answers tree cred (call.Link handle dir name) now = link_answers tree cred handle dir name now
answers tree cred (call.SymLink dir name text attr) now =
    make_link_answers tree cred dir name text attr now
answers tree cred (call.MkDir dir name attr) now = make_dir_answers tree cred dir name attr now
answers tree cred (call.RmDir dir name) now = remove_dir_answers tree cred dir name now
answers tree cred (call.ReadDir dir cookie count) now = read_dir_answers tree cred dir cookie count
answers tree cred (call.StatFs handle) now = stat_fs_answers tree handle

settled_keeps : (tree : Tree) (o : Outcome) (status : Status) → Answers o
    → (settled tree o).0 ≡ Refused status → (settled tree o).1 ≡ tree
unfolding Given
settled_keeps tree (Ok x) status h e = absurd (h status e)
settled_keeps tree (Err s) status h e = refl

pub refusal_keeps : (tree : Tree) (cred : Cred) (c : Call) (stamp : ℕ) (status : Status)
    → (outcome tree cred c stamp).0 ≡ Refused status → (outcome tree cred c stamp).1 ≡ tree
refusal_keeps tree cred c stamp status e =
    settled_keeps tree (answered tree cred c (time_of stamp)) status
    (answers tree cred c (time_of stamp)) e
