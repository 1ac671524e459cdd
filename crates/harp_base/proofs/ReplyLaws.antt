-- The replies undo their bytes.
use Rattle.std.proofs.Common.{◌≡◌, ℕ, ◌+◌, ◌≤◌, Bool, true, false, List, [], ◌∷◌, ◌++◌, length, drop, Some, Ok, refl, ap, arith}
use Rattle.harp_types.specs.declared.reply.Status.{Status}
use Rattle.harp_types.specs.declared.reply.Status.TheVariants as status
use Rattle.harp_types.specs.declared.reply.Reply.{Reply}
use Rattle.harp_types.specs.declared.reply.Reply.TheVariants as reply
use Rattle.harp_base.specs.declared.reply_form.ReplyForm.{ReplyForm}
use Rattle.harp_base.specs.declared.reply_form.ReplyForm.TheVariants as form
use Rattle.harp_base.specs.Fields.{Read, Reader, Spells, field_as, tag_at, bytes_at, counted_bytes}
use Rattle.harp_types.specs.Numbered.{value_with_number}
use Rattle.harp_types.specs.Statuses.{status_number, statuses}
use Rattle.harp_base.specs.Replies.{flag_number, flags, form_of, form_number, forms, reply_fields_of, reply_bytes, ReplyFits, reply_fields_at, reply_at}
use Rattle.harp_base.proofs.Codec.{IsBytes, IsCodec, u32_codec, counted_codec, tag_codec, part_takes, nothing_takes, field_as_again, fields_by_tag_codec}
use Rattle.harp_base.proofs.AttributeLaws.{then, attr_codec}
use Rattle.harp_base.proofs.PageLaws.{entries_codec}

abbrev ok_reply : Reply → ℕ → Read Reply
ok_reply r n = Ok (r, n)

whole_status : (s : Status) → value_with_number status_number statuses (status_number s) ≡ Some s
whole_status status.Perm = refl
whole_status status.NoEnt = refl
whole_status status.Io = refl
whole_status status.NxIo = refl
whole_status status.Acces = refl
whole_status status.Exist = refl
whole_status status.NotDir = refl
whole_status status.IsDir = refl
whole_status status.FBig = refl
whole_status status.NoSpc = refl
whole_status status.NameTooLong = refl
whole_status status.NotEmpty = refl
whole_status status.Stale = refl

whole_flag : (b : Bool) → value_with_number flag_number flags (flag_number b) ≡ Some b
whole_flag false = refl
whole_flag true = refl

whole_form : (f : ReplyForm) → value_with_number form_number forms (form_number f) ≡ Some f
whole_form form.Refused = refl
whole_form form.Done = refl
whole_form form.Attr = refl
whole_form form.Node = refl
whole_form form.Path = refl
whole_form form.Bytes = refl
whole_form form.Page = refl
whole_form form.Space = refl

status_codec : IsCodec (tag_at status_number statuses) (λ s. status_number s ∷ []) (λ _. Unit {0})
status_codec = tag_codec status_number statuses whole_status

flag_codec : IsCodec (tag_at flag_number flags) (λ b. flag_number b ∷ []) (λ _. Unit {0})
flag_codec = tag_codec flag_number flags whole_flag

path_codec : IsCodec (bytes_at 1024) counted_bytes (λ t. length t ≤ 1024)
path_codec = counted_codec 1024 (omega arith)

data_codec : IsCodec (bytes_at 8192) counted_bytes (λ t. length t ≤ 8192)
data_codec = counted_codec 8192 (omega arith)

module _ {A : Type 0} {r : Reader A} {s : A → List ℕ} {F : A → Type 0} (codec : IsCodec r s F) where
  reply_takes : (f : A → Reply) (t : ReplyForm)
      → ((a : A) → F a → (reply_fields_of (f a) ≡ s a) × ReplyFits (f a) × (form_of (f a) ≡ t))
      → (bytes : List ℕ) (at : ℕ) (x : Reply × ℕ) → IsBytes bytes → field_as f r bytes at ≡ Ok x
      → Spells bytes at (reply_fields_of x.0) x.1 × ReplyFits x.0 × (form_of x.0 ≡ t)
  reply_takes f t = part_takes codec f reply_fields_of ReplyFits form_of t

  reply_again : (f : A → Reply) (a : A) → F a → (bytes : List ℕ) (at : ℕ) (rest : List ℕ)
      → drop at bytes ≡ s a ++ rest → field_as f r bytes at ≡ Ok (f a, at + length (s a))
  reply_again f a fits bytes at rest e = field_as_again f r s F codec bytes at a rest fits e

fields_take : (t : ReplyForm) (bytes : List ℕ) (at : ℕ) (x : Reply × ℕ) → IsBytes bytes
    → reply_fields_at t bytes at ≡ Ok x
    → Spells bytes at (reply_fields_of x.0) x.1 × ReplyFits x.0 × (form_of x.0 ≡ t)
unfolding reply_fields_at
fields_take form.Refused bytes at x fits e =
    reply_takes status_codec reply.Refused form.Refused (λ s f. (refl, tt, refl)) bytes at x fits e
fields_take form.Done bytes at x fits e =
    nothing_takes reply.Done reply_fields_of ReplyFits form_of form.Done refl tt refl bytes at x e
fields_take form.Attr bytes at x fits e =
    reply_takes attr_codec reply.Attr form.Attr (λ s f. (refl, f, refl)) bytes at x fits e
fields_take form.Node bytes at x fits e =
    reply_takes (then u32_codec attr_codec) (λ x. reply.Node x.0 x.1) form.Node
    (λ s f. (refl, f, refl)) bytes at x fits e
fields_take form.Path bytes at x fits e =
    reply_takes path_codec reply.Path form.Path (λ s f. (refl, f, refl)) bytes at x fits e
fields_take form.Bytes bytes at x fits e =
    reply_takes (then attr_codec data_codec) (λ x. reply.Bytes x.0 x.1) form.Bytes
    (λ s f. (refl, f, refl)) bytes at x fits e
fields_take form.Page bytes at x fits e =
    reply_takes (then entries_codec flag_codec) (λ x. reply.Page x.0 x.1) form.Page
    (λ s f. (refl, f.0, refl)) bytes at x fits e
fields_take form.Space bytes at x fits e =
    reply_takes (then (then (then (then u32_codec u32_codec) u32_codec) u32_codec) u32_codec)
    (λ x. reply.Space x.0.0.0.0 x.0.0.0.1 x.0.0.1 x.0.1 x.1) form.Space
    (λ s f. (refl, (f.0.0.0.0, f.0.0.0.1, f.0.0.1, f.0.1, f.1), refl)) bytes at x fits e

fields_again : (r : Reply) (bytes : List ℕ) (at : ℕ) (rest : List ℕ) → ReplyFits r
    → drop at bytes ≡ reply_fields_of r ++ rest
    → reply_fields_at (form_of r) bytes at ≡ Ok (r, at + length (reply_fields_of r))
unfolding reply_fields_at
fields_again (reply.Refused s) bytes at rest f e =
    reply_again status_codec reply.Refused s tt bytes at rest e
fields_again reply.Done bytes at rest f e = ap (λ (n : ℕ). ok_reply reply.Done n) (omega arith)
fields_again (reply.Attr a) bytes at rest f e =
    reply_again attr_codec reply.Attr a f bytes at rest e
fields_again (reply.Node h a) bytes at rest f e =
    reply_again (then u32_codec attr_codec) (λ x. reply.Node x.0 x.1) (h, a) f bytes at rest e
fields_again (reply.Path t) bytes at rest f e =
    reply_again path_codec reply.Path t f bytes at rest e
fields_again (reply.Bytes a b) bytes at rest f e =
    reply_again (then attr_codec data_codec) (λ x. reply.Bytes x.0 x.1) (a, b) f bytes at rest e
fields_again (reply.Page es b) bytes at rest f e =
    reply_again (then entries_codec flag_codec) (λ x. reply.Page x.0 x.1) (es, b)
    (f, tt) bytes at rest e
fields_again (reply.Space t b c f a) bytes at rest fit e =
    reply_again (then (then (then (then u32_codec u32_codec) u32_codec) u32_codec) u32_codec)
    (λ x. reply.Space x.0.0.0.0 x.0.0.0.1 x.0.0.1 x.0.1 x.1) ((((t, b), c), f), a)
    ((((fit.0, fit.1), fit.2), fit.3), fit.4) bytes at rest e

pub reply_codec : IsCodec reply_at reply_bytes ReplyFits
unfolding reply_at
reply_codec =
    fields_by_tag_codec form_number forms reply_fields_at form_of reply_fields_of ReplyFits
    whole_form fields_take fields_again
