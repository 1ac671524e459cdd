-- Reading a record that may be of the old form.
use Rattle.std.specs.Prelude.{Bool, true, false, Ok}
use Rattle.harp_types.specs.declared.cred.Cred.{Cred}
use Rattle.harp_base.specs.Fields.{Reader, ◌⊗◌, field_as}
use Rattle.harp_base.specs.Names.{cred_at}
use Rattle.event_record.specs.declared.record.RecordFields.{RecordFields}
use Rattle.event_record.specs.Bytes.{head_at, record_from, superuser, tail_at}

-- its credential
unfoldable pub caller_at : Bool → Reader Cred
caller_at is_old bytes at =
    elim is_old [ true ↦ Ok (superuser, at) | false ↦ cred_at bytes at ]

-- its fields
unfoldable pub fields_at : Bool → Reader RecordFields
fields_at is_old =
    field_as (λ x. record_from x.0.0 x.0.1 x.1) (head_at ⊗ caller_at is_old ⊗ tail_at)
