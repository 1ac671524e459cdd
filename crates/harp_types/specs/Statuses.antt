-- The numbers of statuses.
use Rattle.std.specs.Prelude.{ℕ, List, [], ◌∷◌}
use Rattle.harp_types.specs.declared.reply.Status.{Status}
use Rattle.harp_types.specs.declared.reply.Status.TheVariants as status

-- the status numbers of NFS version 2
abbrev pub status_number : Status → ℕ
status_number status.Perm = 1
status_number status.NoEnt = 2
status_number status.Io = 5
status_number status.NxIo = 6
status_number status.Acces = 13
status_number status.Exist = 17
status_number status.NotDir = 20
status_number status.IsDir = 21
status_number status.FBig = 27
status_number status.NoSpc = 28
status_number status.NameTooLong = 63
status_number status.NotEmpty = 66
status_number status.Stale = 70

abbrev pub statuses : List Status
statuses =
    status.Perm ∷ status.NoEnt ∷ status.Io ∷ status.NxIo ∷ status.Acces ∷ status.Exist
    ∷ status.NotDir ∷ status.IsDir
    ∷ status.FBig ∷ status.NoSpc ∷ status.NameTooLong ∷ status.NotEmpty ∷ status.Stale ∷ []
