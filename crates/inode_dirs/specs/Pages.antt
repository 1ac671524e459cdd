-- Pages of a directory.
use Rattle.std.specs.Prelude.{ℕ, Bool, List, [], ◌∷◌, ◌++◌, Option, Some, None}
use Rattle.harp_types.specs.declared.reply.DirEntry.{DirEntry}
use Rattle.file_tree.specs.Tree.{Slots}
use Rattle.file_tree.specs.Outcome.{entries_from, page_of}

-- `.`, `..` and the slots of a directory with this parent, each with its cookie
abbrev pub entries_under : ℕ → ℕ → Slots → List DirEntry
entries_under dir parent slots =
    record { fileid = dir; name = 46 ∷ []; cookie = 1 }
    ∷ record { fileid = parent; name = 46 ∷ 46 ∷ []; cookie = 2 }
    ∷ entries_from 3 slots

abbrev pub entry_list : Option DirEntry → List DirEntry
entry_list None = []
entry_list (Some e) = e ∷ []

-- the page that these entries become by further ones above a cookie that fit into the room left
abbrev pub page_after : List DirEntry → ℕ → ℕ → List DirEntry → List DirEntry × Bool
page_after entries above room more =
    (entries ++ (page_of above room more).0, (page_of above room more).1)
