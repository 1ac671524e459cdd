use Rattle.nfs_door.proofs.CredentialLaws.{read_unix_auth, sent_unix_auth}
use Rattle.nfs_door.proofs.laws.read_credentials.Goals as goal

pub returns : goal.returns
returns c = record { read = read_unix_auth; sent = λ bytes a fits. sent_unix_auth bytes a fits }
