-- The messages undo their bytes.
use Rattle.std.proofs.Common.{◌≡◌, ℕ, ◌+◌, List, [], ◌∷◌, ◌++◌, length, drop, Some, Ok, refl, arith}
use Rattle.harp_base.specs.Fields.{Reader, Spells, ◌⊗◌, field_as, u32_at, u64_at}
use Rattle.harp_types.specs.Numbered.{value_with_number}
use Rattle.harp_base.specs.Names.{view_at}
use Rattle.harp_base.proofs.Codec.{IsBytes, IsCodec, u32_codec, u64_codec, part_takes, field_as_again, fields_by_tag_codec}
use Rattle.harp_base.proofs.AttributeLaws.{then}
use Rattle.harp_base.proofs.NameLaws.{server_codec, view_codec, cred_codec}
use Rattle.harp_base.proofs.CallLaws.{call_codec}
use Rattle.harp_base.proofs.ReplyLaws.{reply_codec}
use Rattle.event_record.proofs.RecordLaws.{item_codec}
use Rattle.wire.specs.declared.message.Message.{Message}
use Rattle.wire.specs.declared.message.Message.TheVariants as message
use Rattle.wire.specs.declared.forms.Form.{Form}
use Rattle.wire.specs.declared.forms.Form.TheVariants as form
use Rattle.wire.specs.Messages.{form_of, form_number, forms, message_fields, message_bytes, MessageFits, message_fields_at, message_at}
use Rattle.wire.proofs.PartLaws.{deadline_codec, held_codec, storers_codec, cause_codec, records_codec}

whole_form : (f : Form) → value_with_number form_number forms (form_number f) ≡ Some f
whole_form form.Invite = refl
whole_form form.Join = refl
whole_form form.Form = refl
whole_form form.Fetch = refl
whole_form form.Give = refl
whole_form form.Formed = refl
whole_form form.Event = refl
whole_form form.Beat = refl
whole_form form.Ack = refl
whole_form form.Demote = refl
whole_form form.Ask = refl
whole_form form.Answer = refl
whole_form form.CannotServe = refl

module _ {A : Type 0} {r : Reader A} {s : A → List ℕ} {F : A → Type 0} (codec : IsCodec r s F) where
  takes : (f : A → Message) (t : Form)
      → ((a : A) → F a → (message_fields (f a) ≡ s a) × MessageFits (f a) × (form_of (f a) ≡ t))
      → (bytes : List ℕ) (at : ℕ) (x : Message × ℕ) → IsBytes bytes → field_as f r bytes at ≡ Ok x
      → Spells bytes at (message_fields x.0) x.1 × MessageFits x.0 × (form_of x.0 ≡ t)
  takes f t = part_takes codec f message_fields MessageFits form_of t

  again : (f : A → Message) (a : A) → F a → (bytes : List ℕ) (at : ℕ) (rest : List ℕ)
      → drop at bytes ≡ s a ++ rest → field_as f r bytes at ≡ Ok (f a, at + length (s a))
  again f a fits bytes at rest e = field_as_again f r s F codec bytes at a rest fits e

fields_take : (t : Form) (bytes : List ℕ) (at : ℕ) (x : Message × ℕ) → IsBytes bytes
    → message_fields_at t bytes at ≡ Ok x
    → Spells bytes at (message_fields x.0) x.1 × MessageFits x.0 × (form_of x.0 ≡ t)
unfolding message_fields_at
fields_take form.Invite bytes at x fits e =
    takes view_codec message.Invite form.Invite (λ x f. (refl, f, refl)) bytes at x fits e
fields_take form.Join bytes at x fits e =
    takes (then (then (then (then (then (then (then view_codec held_codec) view_codec) u64_codec)
    u64_codec) u64_codec) u64_codec) deadline_codec)
    (λ x. message.Join x.0.0.0.0.0.0.0 x.0.0.0.0.0.0.1 x.0.0.0.0.0.1 x.0.0.0.0.1 x.0.0.0.1 x.0.0.1
    x.0.1 x.1) form.Join
    (λ x f. (
      refl,
      (f.0.0.0.0.0.0.0, f.0.0.0.0.0.1, f.0.0.0.0.1, f.0.0.0.1, f.0.0.1, f.0.1, f.1),
      refl,
    )) bytes at x fits e
fields_take form.Form bytes at x fits e =
    takes (then (then (then (then (then (then view_codec storers_codec) server_codec) u64_codec)
    u64_codec) u64_codec) deadline_codec)
    (λ x. message.Form x.0.0.0.0.0.0 x.0.0.0.0.0.1 x.0.0.0.0.1 x.0.0.0.1 x.0.0.1 x.0.1 x.1)
    form.Form
    (λ x f. (refl, (f.0.0.0.0.0.0, f.0.0.0.1, f.0.0.1, f.0.1, f.1), refl)) bytes at x fits e
fields_take form.Fetch bytes at x fits e =
    takes (then view_codec u64_codec) (λ x. message.Fetch x.0 x.1) form.Fetch
    (λ x f. (refl, f, refl)) bytes at x fits e
fields_take form.Give bytes at x fits e =
    takes (then (then view_codec u64_codec) records_codec) (λ x. message.Give x.0.0 x.0.1 x.1)
    form.Give (λ x f. (refl, (f.0.0, f.0.1, f.1), refl)) bytes at x fits e
fields_take form.Formed bytes at x fits e =
    takes (then view_codec u64_codec) (λ x. message.Formed x.0 x.1) form.Formed
    (λ x f. (refl, f, refl)) bytes at x fits e
fields_take form.Event bytes at x fits e =
    takes (then (then (then view_codec u64_codec) u64_codec) item_codec)
    (λ x. message.Event x.0.0.0 x.0.0.1 x.0.1 x.1) form.Event
    (λ x f. (refl, (f.0.0.0, f.0.0.1, f.0.1, f.1), refl)) bytes at x fits e
fields_take form.Beat bytes at x fits e =
    takes (then (then view_codec u64_codec) u64_codec) (λ x. message.Beat x.0.0 x.0.1 x.1)
    form.Beat (λ x f. (refl, (f.0.0, f.0.1, f.1), refl)) bytes at x fits e
fields_take form.Ack bytes at x fits e =
    takes (then (then (then view_codec u64_codec) u64_codec) deadline_codec)
    (λ x. message.Ack x.0.0.0 x.0.0.1 x.0.1 x.1) form.Ack
    (λ x f. (refl, (f.0.0.0, f.0.0.1, f.0.1, f.1), refl)) bytes at x fits e
fields_take form.Demote bytes at x fits e =
    takes view_codec message.Demote form.Demote (λ x f. (refl, f, refl)) bytes at x fits e
fields_take form.Ask bytes at x fits e =
    takes (then (then (then u32_codec u64_codec) cred_codec) call_codec)
    (λ x. message.Ask x.0.0.0 x.0.0.1 x.0.1 x.1) form.Ask
    (λ x f. (refl, (f.0.0.0, f.0.0.1, f.0.1, f.1), refl)) bytes at x fits e
fields_take form.Answer bytes at x fits e =
    takes (then (then (then u32_codec u64_codec) u64_codec) reply_codec)
    (λ x. message.Answer x.0.0.0 x.0.0.1 x.0.1 x.1) form.Answer
    (λ x f. (refl, (f.0.0.0, f.0.0.1, f.0.1, f.1), refl)) bytes at x fits e
fields_take form.CannotServe bytes at x fits e =
    takes (then (then u32_codec u64_codec) cause_codec)
    (λ x. message.CannotServe x.0.0 x.0.1 x.1) form.CannotServe
    (λ x f. (refl, f.0, refl)) bytes at x fits e

fields_again : (m : Message) (bytes : List ℕ) (at : ℕ) (rest : List ℕ) → MessageFits m
    → drop at bytes ≡ message_fields m ++ rest
    → message_fields_at (form_of m) bytes at ≡ Ok (m, at + length (message_fields m))
unfolding message_fields_at
fields_again (message.Invite v) bytes at rest f e =
    again view_codec message.Invite v f bytes at rest e
fields_again (message.Join v h a b l c t d) bytes at rest f e =
    again (then (then (then (then (then (then (then view_codec held_codec) view_codec) u64_codec)
    u64_codec) u64_codec) u64_codec) deadline_codec)
    (λ x. message.Join x.0.0.0.0.0.0.0 x.0.0.0.0.0.0.1 x.0.0.0.0.0.1 x.0.0.0.0.1 x.0.0.0.1 x.0.0.1
    x.0.1 x.1) (((((((v, h), a), b), l), c), t), d)
    (((((((f.0, tt), f.1), f.2), f.3), f.4), f.5), f.6) bytes at rest e
fields_again (message.Form v s w b c t d) bytes at rest f e =
    again (then (then (then (then (then (then view_codec storers_codec) server_codec) u64_codec)
    u64_codec) u64_codec) deadline_codec)
    (λ x. message.Form x.0.0.0.0.0.0 x.0.0.0.0.0.1 x.0.0.0.0.1 x.0.0.0.1 x.0.0.1 x.0.1 x.1)
    ((((((v, s), w), b), c), t), d)
    ((((((f.0, tt), tt), f.1), f.2), f.3), f.4) bytes at rest e
fields_again (message.Fetch v n) bytes at rest f e =
    again (then view_codec u64_codec) (λ x. message.Fetch x.0 x.1) (v, n) f bytes at rest e
fields_again (message.Give v n rs) bytes at rest f e =
    again (then (then view_codec u64_codec) records_codec) (λ x. message.Give x.0.0 x.0.1 x.1)
    ((v, n), rs) ((f.0, f.1), f.2) bytes at rest e
fields_again (message.Formed v n) bytes at rest f e =
    again (then view_codec u64_codec) (λ x. message.Formed x.0 x.1) (v, n) f bytes at rest e
fields_again (message.Event v c b r) bytes at rest f e =
    again (then (then (then view_codec u64_codec) u64_codec) item_codec)
    (λ x. message.Event x.0.0.0 x.0.0.1 x.0.1 x.1) (((v, c), b), r) (((f.0, f.1), f.2), f.3)
    bytes at rest e
fields_again (message.Beat v c b) bytes at rest f e =
    again (then (then view_codec u64_codec) u64_codec) (λ x. message.Beat x.0.0 x.0.1 x.1)
    ((v, c), b) ((f.0, f.1), f.2) bytes at rest e
fields_again (message.Ack v t l u) bytes at rest f e =
    again (then (then (then view_codec u64_codec) u64_codec) deadline_codec)
    (λ x. message.Ack x.0.0.0 x.0.0.1 x.0.1 x.1) (((v, t), l), u) (((f.0, f.1), f.2), f.3)
    bytes at rest e
fields_again (message.Demote v) bytes at rest f e =
    again view_codec message.Demote v f bytes at rest e
fields_again (message.Ask c n w a) bytes at rest f e =
    again (then (then (then u32_codec u64_codec) cred_codec) call_codec)
    (λ x. message.Ask x.0.0.0 x.0.0.1 x.0.1 x.1) (((c, n), w), a) (((f.0, f.1), f.2), f.3)
    bytes at rest e
fields_again (message.Answer c n i r) bytes at rest f e =
    again (then (then (then u32_codec u64_codec) u64_codec) reply_codec)
    (λ x. message.Answer x.0.0.0 x.0.0.1 x.0.1 x.1) (((c, n), i), r) (((f.0, f.1), f.2), f.3)
    bytes at rest e
fields_again (message.CannotServe c n w) bytes at rest f e =
    again (then (then u32_codec u64_codec) cause_codec)
    (λ x. message.CannotServe x.0.0 x.0.1 x.1) ((c, n), w) (f, tt) bytes at rest e

pub message_codec : IsCodec message_at message_bytes MessageFits
unfolding message_at
message_codec =
    fields_by_tag_codec form_number forms message_fields_at form_of message_fields MessageFits
    whole_form fields_take fields_again
