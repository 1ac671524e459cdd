-- The names of files.
use Rattle.std.specs.Prelude.{ℕ, ◌==◌, List, ◌++◌, ◌∷◌, codes, decimal, if◌then◌else◌}

-- the path of a file in a folder
abbrev pub in_folder : List ℕ → List ℕ → List ℕ
in_folder folder name = folder ++ 47 ∷ name

-- a word and a number
abbrev pub numbered : List ℕ → ℕ → List ℕ
numbered word n = word ++ decimal n

-- the name of a cell's file, by the cell's kind and numbers
abbrev pub cell_name : ℕ × ℕ × ℕ → List ℕ
cell_name (kind, first, second) =
    if kind == 1 then codes "meta"
    else (if kind == 2 then numbered (codes "object-") first
    else (if kind == 3 then numbered (codes "block-") first ++ numbered (codes "-") second
    else (if kind == 4 then numbered (codes "slot-") first ++ numbered (codes "-") second
    else (if kind == 5 then numbered (codes "client-") first
    else numbered (codes "saved-") first))))
