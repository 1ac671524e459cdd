-- What reads give, and attributes and bytes, of a tree that fits.
use Rattle.std.proofs.Common.{◌≡◌, ℕ, ◌+◌, ◌<◌, ◌^◌, ◌==◌, max, min, not, ltb, List, length, drop, Some, None, Ok, Err, refl, subst, arith}
use Rattle.std.proofs.lemmas.List.{length-take}
use Rattle.harp_base.specs.Attributes.{TimeFits}
use Rattle.harp_types.specs.Limits.{field_left, largest_file}
use Rattle.harp_types.specs.declared.attr.SetAttr.{SetAttr}
use Rattle.harp_types.specs.declared.attr.Time.{Time}
use Rattle.harp_types.specs.declared.cred.Cred.{Cred}
use Rattle.harp_types.specs.declared.reply.Reply.{Reply}
use Rattle.harp_types.specs.declared.reply.Status.TheVariants.{FBig, NoEnt, Perm}
use Rattle.text_spelling.specs.Fits.{AreBytes, SetAttrFits}
use Rattle.std.specs.List.{AllByRecursion}
use Rattle.file_tree.specs.declared.object.Body.{Body}
use Rattle.file_tree.specs.Tree.{Tree, Slots, attr_at, entry, parent_of}
use Rattle.file_tree.specs.Tries.{Tried, bytes_in, check_name, directory, is_dot, is_dot_dot, live, room, some_or, text_in}
use Rattle.file_tree.specs.Permissions.{allowed, may_set, reading, searched, writing}
use Rattle.file_tree.specs.Outcome.{Outcome, find, get_attr, lookup, read, read_dir, read_link, resized, resolve, rewritten, set_attr, set_fields, stat_fs, with_fields, with_size, write, written}
use Rattle.file_tree.specs.Calls.{outcome}
use Rattle.file_tree.specs.Sound.{IsSound}
use Rattle.file_tree.proofs.Holders.{parent_of-lt}
use Rattle.file_tree.proofs.Kept.{live_place}
use Rattle.file_tree.proofs.Reslots.{root_within}
use Rattle.file_tree.proofs.SlotLaws.{IsFound, found}
use Rattle.file_tree.proofs.TryLaws.{Given, IsDirectoryOf, bytes_are, directory_is, done, either, given_at, searched_is, some_is, step, unless}
use Rattle.accept_laws.specs.Trees.{AreOctets, BodyFits, SlotFits, TreeFits}
use Rattle.accept_laws.specs.Replies.{IsBrief}
use Rattle.accept_laws.proofs.Attrs.{object_fits}
use Rattle.accept_laws.proofs.Changes.{BytesFit, SetFits, fits_change, found_number, keeps_bytes, keeps_fields, resized_fits, written_fits}
use Rattle.accept_laws.proofs.TreeLists.{all-drop, all-take, octets}
use Rattle.accept_laws.proofs.Shown.{IsAttrOf, Shown, page_shown, path_shown, text_is}

-- the tree that is left fits, and the reply shows it
abbrev pub Left : Reply × Tree → Type 0
Left x = TreeFits x.1 × Shown x.0 x.1

abbrev pub LeavesFit : Outcome → Type 0
LeavesFit outcome = Given outcome Left

-- and it is brief
abbrev pub Brief : Reply × Tree → Type 0
Brief x = TreeFits x.1 × Shown x.0 x.1 × IsBrief x.0

abbrev pub LeavesBrief : Outcome → Type 0
LeavesBrief outcome = Given outcome Brief

pub set_fit : (a : SetAttr) → SetAttrFits a → SetFits a
set_fit a f = record { uid = f.uid; gid = f.gid; atime = f.atime; mtime = f.mtime }

pub bytes_fit : (most : ℕ) (bytes : List ℕ) → AreBytes most bytes → AreOctets bytes
bytes_fit most bytes f = octets bytes f.fit

pub attr_is : (tree : Tree) (n : ℕ) → n < 2 ^ 32 → IsAttrOf tree (attr_at tree n)
attr_is tree n lt = record { number = n; fits = lt; is = refl }

pub slots_fit : (tree : Tree) (dir : ℕ) (slots : Slots) → TreeFits tree → IsDirectoryOf tree dir slots
    → AllByRecursion SlotFits slots
slots_fit tree dir slots h d = subst BodyFits d.body (object_fits tree dir d.object h d.at).body

-- ---- reads

pub get_attr_fits : (tree : Tree) (n : ℕ) → TreeFits tree → n < 2 ^ 32 → LeavesBrief (get_attr tree n)
unfolding get_attr
get_attr_fits tree n h lt =
    step (live tree n) _ Brief (λ o lives. done _ Brief (h, attr_is tree n lt, tt))

pub found_in : (slots : Slots) (name : List ℕ) (r : Tried (ℕ × ℕ))
    → some_or NoEnt (entry slots name) ≡ r → Given r (IsFound slots name)
unfolding Given
found_in slots name (Ok x) e = found slots name x (some_is NoEnt (entry slots name) x e)
found_in slots name (Err s) e = tt

pub find_is : (slots : Slots) (name : List ℕ) (x : ℕ × ℕ) → find slots name ≡ Ok x
    → IsFound slots name x
find_is slots name x e =
    given_at (find slots name) (IsFound slots name) x
    (step (check_name name) _ (IsFound slots name)
    (λ u c. found_in slots name (some_or NoEnt (entry slots name)) refl)) e

pub resolved : (tree : Tree) (dir : ℕ) (slots : Slots) (name : List ℕ) → IsSound tree → dir < 2 ^ 32
    → AllByRecursion SlotFits slots → Given (resolve tree dir slots name) (λ n. n < 2 ^ 32)
resolved tree dir slots name is lt h =
    let up = parent_of-lt tree dir (root_within tree is.root) in
    either (is_dot name) _ _ (λ n. n < 2 ^ 32) (λ e. done dir (λ n. n < 2 ^ 32) lt)
    (λ e. either (is_dot_dot name) _ _ (λ n. n < 2 ^ 32)
    (λ e. done (parent_of tree dir) (λ n. n < 2 ^ 32) (omega (arith, up, is.limits.few)))
    (λ e. step (find slots name) _ (λ n. n < 2 ^ 32)
    (λ x f. done x.1 (λ n. n < 2 ^ 32) (found_number slots name x h (find_is slots name x f)))))

pub lookup_fits : (tree : Tree) (cred : Cred) (dir : ℕ) (name : List ℕ) → IsSound tree → TreeFits tree
    → dir < 2 ^ 32 → LeavesBrief (lookup tree cred dir name)
unfolding lookup
lookup_fits tree cred dir name is h lt =
    step (searched tree cred dir) _ Brief (λ slots e.
    let d = searched_is tree cred dir slots e in
    step (resolve tree dir slots name) _ Brief (λ n r.
    let small : n < 2 ^ 32 = given_at (resolve tree dir slots name) (λ n. n < 2 ^ 32) n
    (resolved tree dir slots name is lt (slots_fit tree dir slots h d)) r in
    done _ Brief (h, (small, attr_is tree n small), tt)))

pub read_link_fits : (tree : Tree) (n : ℕ) → IsSound tree → TreeFits tree
    → LeavesBrief (read_link tree n)
unfolding read_link
read_link_fits tree n is h =
    step (live tree n) _ Brief (λ o lives.
    step (text_in o.body) _ Brief (λ text e.
    done _ Brief (
      h,
      path_shown tree n o text is h (live_place tree n o lives)
          (text_is o.body text e),
      tt,
    )))

pub read_fits : (tree : Tree) (cred : Cred) (n offset count : ℕ) → TreeFits tree → n < 2 ^ 32
    → LeavesFit (read tree cred n offset count)
unfolding read
read_fits tree cred n offset count h lt =
    step (live tree n) _ Left (λ o lives.
    step (bytes_in o.body) _ Left (λ bytes e.
    step (allowed tree cred n reading) _ Left (λ u may.
    let old : AreOctets bytes = subst BodyFits (bytes_are o.body bytes e)
    (object_fits tree n o h (live_place tree n o lives)).body in
    let P : ℕ → Type 0 = λ b. b < 256 in
    let long = length-take (min count 8192) (drop offset bytes) in
    done _ Left (
      h,
      (
        attr_is tree n lt,
        omega (arith, long),
        all-take P (min count 8192) (drop offset bytes) (all-drop P offset bytes old),
      ),
    ))))

pub read_dir_fits : (tree : Tree) (cred : Cred) (dir cookie count : ℕ) → IsSound tree → TreeFits tree
    → dir < 2 ^ 32 → LeavesFit (read_dir tree cred dir cookie count)
unfolding read_dir
read_dir_fits tree cred dir cookie count is h lt =
    step (directory tree dir) _ Left (λ slots e.
    step (allowed tree cred dir reading) _ Left (λ u may.
    done _ Left (
      h,
      page_shown tree dir cookie (min count 8192) slots is h lt (omega arith)
          (directory_is tree dir slots e),
    )))

pub stat_fs_fits : (tree : Tree) (n : ℕ) → TreeFits tree → LeavesBrief (stat_fs tree n)
unfolding stat_fs
stat_fs_fits tree n h =
    step (live tree n) _ Brief (λ o lives. done _ Brief (
      h,
      (omega arith, omega arith, omega arith, omega arith, omega arith),
      tt,
    ))

-- ---- attributes and bytes

pub sized : (tree : Tree) (cred : Cred) (n : ℕ) (b : Body) (size : ℕ) → BodyFits b
    → Given (with_size tree cred n b size) BytesFit
unfolding with_size
sized tree cred n b size h =
    either (size == field_left) _ _ BytesFit
    (λ e. done None BytesFit tt)
    (λ e. step (bytes_in b) _ BytesFit (λ old is.
    step (allowed tree cred n writing) _ BytesFit (λ v may.
    unless FBig (ltb largest_file size) _ BytesFit (λ small.
    step (room tree n size) _ BytesFit (λ u enough.
    done (Some (resized old size)) BytesFit
    (resized_fits old size (subst BodyFits (bytes_are b old is) h)))))))

pub fields_fit : (tree : Tree) (cred : Cred) (n : ℕ) (a : SetAttr) (now : Time) → TreeFits tree
    → SetFits a → TimeFits now → Given (set_fields tree cred n a now) (λ t. TreeFits t)
unfolding set_fields
fields_fit tree cred n a now h f t =
    step (live tree n) _ (λ t. TreeFits t) (λ o lives.
    unless Perm (not (may_set cred a o.uid o.gid)) _ (λ t. TreeFits t) (λ may.
    step (with_size tree cred n o.body a.size) _ (λ t. TreeFits t) (λ bytes e.
    let old = object_fits tree n o h (live_place tree n o lives) in
    done _ (λ t. TreeFits t)
    (fits_change tree n (with_fields a bytes now) (keeps_fields a bytes now f
    (given_at (with_size tree cred n o.body a.size) BytesFit bytes
    (sized tree cred n o.body a.size old.body) e) t) h))))

pub set_attr_fits : (tree : Tree) (cred : Cred) (n : ℕ) (a : SetAttr) (now : Time) → TreeFits tree
    → n < 2 ^ 32 → SetFits a → TimeFits now → LeavesBrief (set_attr tree cred n a now)
unfolding set_attr
set_attr_fits tree cred n a now h lt f t =
    step (set_fields tree cred n a now) _ Brief (λ new e.
    done _ Brief (
      given_at (set_fields tree cred n a now) (λ t. TreeFits t) new
          (fields_fit tree cred n a now h f t) e,
      attr_is new n lt,
      tt,
    ))

pub write_fits : (tree : Tree) (cred : Cred) (n offset : ℕ) (bytes : List ℕ) (now : Time)
    → TreeFits tree → n < 2 ^ 32 → AreOctets bytes → TimeFits now
    → LeavesBrief (write tree cred n offset bytes now)
unfolding write
write_fits tree cred n offset bytes now h lt b t =
    step (live tree n) _ Brief (λ o lives.
    step (bytes_in o.body) _ Brief (λ old e.
    step (allowed tree cred n writing) _ Brief (λ v may.
    unless FBig (ltb largest_file (offset + length bytes)) _ Brief (λ small.
    either (length bytes == 0) _ _ Brief
    (λ e. done _ Brief (h, attr_is tree n lt, tt))
    (λ z. step (room tree n (max (length old) (offset + length bytes))) _ Brief (λ u enough.
    let was : AreOctets old = subst BodyFits (bytes_are o.body old e)
    (object_fits tree n o h (live_place tree n o lives)).body in
    done _ Brief (
      fits_change tree n (rewritten now (written old offset bytes))
          (keeps_bytes now (written old offset bytes) t (written_fits old offset bytes was b)) h,
      attr_is _ n lt,
      tt,
    )))))))
