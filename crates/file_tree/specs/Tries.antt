-- What a call tries, one after the other: each gives a value, or the status of a refusal.
use Rattle.std.specs.Prelude.{ℕ, ◌+◌, Bool, true, false, ◌||◌, ◌==◌, nat_lt, List, [], ◌∷◌, length, Option, Some, None, Result, Ok, Err}
use Rattle.std.specs.List.{list_any}
use Rattle.std.specs.Str.{bytes_eq}
use Rattle.harp_types.specs.Limits.{longest_name, tree_blocks}
use Rattle.harp_types.specs.declared.reply.Status.{Status}
use Rattle.harp_types.specs.declared.reply.Status.TheVariants.{Io, Acces, Exist, NotDir, IsDir, NoSpc, NameTooLong, Stale}
use Rattle.file_tree.specs.declared.object.Body.{Body}
use Rattle.file_tree.specs.declared.object.Body.TheVariants as body
use Rattle.file_tree.specs.declared.object.Object.{Object}
use Rattle.file_tree.specs.Tree.{Tree, Slots, place, used_blocks, blocks_of, blocks_at}

abbrev pub Tried : Type 0 → Type 0
Tried A = Result A Status

infixl 10 ◌>>=◌
abbrev pub ◌>>=◌ : {A B : Type 0} → Result A Status → (A → Result B Status) → Result B Status
(Ok x) >>= f = f x
(Err s) >>= f = Err s

-- a refusal, where its cause holds
abbrev pub refuse : Status → Bool → Tried (Unit {0})
refuse status true = Err status
refuse status false = Ok tt

abbrev pub some_or : {A : Type 0} → Status → Option A → Tried A
some_or status None = Err status
some_or status (Some x) = Ok x

-- the object that a number names
abbrev pub live : Tree → ℕ → Tried Object
live tree number = some_or Stale (place tree number)

abbrev pub slots_in : Body → Tried Slots
slots_in (body.Directory slots) = Ok slots
slots_in (body.Regular bytes) = Err NotDir
slots_in (body.Link text) = Err NotDir

abbrev pub bytes_in : Body → Tried (List ℕ)
bytes_in (body.Regular bytes) = Ok bytes
bytes_in (body.Directory slots) = Err IsDir
bytes_in (body.Link text) = Err Io

abbrev pub text_in : Body → Tried (List ℕ)
text_in (body.Link text) = Ok text
text_in (body.Regular bytes) = Err Io
text_in (body.Directory slots) = Err Io

-- the slots of the directory that a number names
abbrev pub directory : Tree → ℕ → Tried Slots
directory tree number = do
  o ← live tree number
  slots_in o.body

abbrev pub is_dot : List ℕ → Bool
is_dot name = bytes_eq name (46 ∷ [])

abbrev pub is_dot_dot : List ℕ → Bool
is_dot_dot name = bytes_eq name (46 ∷ 46 ∷ [])

abbrev pub is_dots : List ℕ → Bool
is_dots name = is_dot name || is_dot_dot name

abbrev pub is_empty : {A : Type 0} → List A → Bool
is_empty [] = true
is_empty (x ∷ xs) = false

-- a slash or a zero
abbrev pub is_odd_byte : ℕ → Bool
is_odd_byte b = (b == 47) || (b == 0)

-- empty, or with a slash or a zero byte
abbrev pub is_odd : List ℕ → Bool
is_odd name = (length name == 0) || list_any is_odd_byte name

-- a name of 1 to 255 bytes, without a slash or a zero
abbrev pub check_name : List ℕ → Tried (Unit {0})
check_name name = do
  _ ← refuse NameTooLong (nat_lt longest_name (length name))
  refuse Acces (is_odd name)

-- a name that an entry can have
abbrev pub entry_name : List ℕ → Tried (Unit {0})
entry_name name = do
  _ ← check_name name
  refuse Exist (is_dots name)

abbrev pub is_some : {A : Type 0} → Option A → Bool
is_some None = false
is_some (Some x) = true

-- the blocks stay within the limit where the object of a number gets a size. The blocks that it has
-- go, and are added to the limit in place of being taken from those used, since a difference of
-- natural numbers stops at 0
abbrev pub room : Tree → ℕ → ℕ → Tried (Unit {0})
room tree number size =
    refuse NoSpc (nat_lt (tree_blocks + blocks_at (place tree number))
    (used_blocks tree + blocks_of size))
