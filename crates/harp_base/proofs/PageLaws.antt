-- The entries of a page undo their bytes.
use Rattle.std.proofs.Common.{arith, refl}
use Rattle.harp_base.specs.Replies.{EntryFits, EntriesFit, entry_bytes, entry_at, entries_bytes, entries_at}
use Rattle.harp_base.proofs.Codec.{IsCodec, u32_codec, counted_codec, field_as_codec}
use Rattle.harp_base.proofs.AttributeLaws.{then}
use Rattle.harp_base.proofs.ListLaws.{list_codec}

entry_codec : IsCodec entry_at entry_bytes EntryFits
unfolding entry_at entry_bytes
entry_codec =
    field_as_codec (λ x. record { fileid = x.0.0; name = x.0.1; cookie = x.1 }) _ _ _
    (then (then u32_codec (counted_codec 255 (omega arith))) u32_codec)
    (λ e. ((e.fileid, e.name), e.cookie)) entry_bytes EntryFits
    (λ e. refl) (λ x f. (refl, (f.0.0, f.0.1, f.1))) (λ e f. (refl, ((f.0, f.1), f.2)))

pub entries_codec : IsCodec entries_at entries_bytes EntriesFit
unfolding entries_at entries_bytes
entries_codec = list_codec entry_codec
