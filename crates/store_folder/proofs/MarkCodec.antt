-- The fields of a mark's file undo their bytes.
use Rattle.std.proofs.Common.{◌≡◌, ℕ, ◌+◌, ◌<◌, ◌^◌, Bool, true, false, List, ◌++◌, length, drop, Option, Some, None, Ok, refl, ap, arith}
use Rattle.std.specs.Prelude.{is_some}
use Rattle.harp_base.specs.Fields.{Read, Reader, Spells, u32_at, u32_bytes}
use Rattle.harp_types.specs.Numbered.{value_with_number}
use Rattle.harp_types.specs.declared.server.ServerId.TheVariants.{Zero, One, Two}
use Rattle.harp_types.specs.declared.state.Role.{Role}
use Rattle.harp_types.specs.declared.state.Role.TheVariants.{Leads, Follows, Outside}
use Rattle.harp_base.proofs.Codec.{IsBytes, IsCodec, u32_codec, below_codec, tag_codec, part_takes, nothing_takes, field_as_again, field_as_codec, fields_by_tag_codec}
use Rattle.harp_base.proofs.AttributeLaws.{then}
use Rattle.harp_base.proofs.NameLaws.{view_codec}
use Rattle.store_folder.specs.MarkFile.{flag_number, flags, bytes_behind, option_bytes, field_behind, option_at, role_number, roles, NumbersFit, numbers_bytes, numbers_at, OptionFits, FirstFit, first_bytes, first_at, LastFit, last_bytes, last_at}

-- ---- a field that may be absent

whole_flag : (b : Bool) → value_with_number flag_number flags (flag_number b) ≡ Some b
whole_flag false = refl
whole_flag true = refl

abbrev ok_option : {A : Type 0} → Option A → ℕ → Read (Option A)
ok_option o n = Ok (o, n)

module _ {A : Type 0} (r : Reader A) (spell : A → List ℕ) (Fits : A
    → Type 0) (codec : IsCodec r spell Fits) where
  behind_takes : (t : Bool) (bytes : List ℕ) (at : ℕ) (x : Option A × ℕ) → IsBytes bytes
      → field_behind r t bytes at ≡ Ok x
      → Spells bytes at (bytes_behind spell x.0) x.1 × OptionFits Fits x.0 × (is_some x.0 ≡ t)
  behind_takes false bytes at x fits e =
      nothing_takes None (bytes_behind spell) (OptionFits Fits) is_some false refl tt refl bytes at
      x e
  behind_takes true bytes at x fits e =
      part_takes codec Some (bytes_behind spell) (OptionFits Fits) is_some true
      (λ a f. (refl, f, refl)) bytes at x fits e

  behind_again : (o : Option A) (bytes : List ℕ) (at : ℕ) (rest : List ℕ) → OptionFits Fits o
      → drop at bytes ≡ bytes_behind spell o ++ rest
      → field_behind r (is_some o) bytes at ≡ Ok (o, at + length (bytes_behind spell o))
  behind_again None bytes at rest fits e = ap (λ (n : ℕ). ok_option None n) (omega arith)
  behind_again (Some x) bytes at rest fits e =
      field_as_again Some r spell Fits codec bytes at x rest fits e

  pub option_codec : IsCodec (option_at r) (option_bytes spell) (OptionFits Fits)
  option_codec =
      fields_by_tag_codec flag_number flags (field_behind r) is_some (bytes_behind spell)
      (OptionFits Fits) whole_flag behind_takes behind_again

-- ---- roles

whole_role : (r : Role) → value_with_number role_number roles (role_number r) ≡ Some r
whole_role Outside = refl
whole_role (Leads Zero) = refl
whole_role (Leads One) = refl
whole_role (Leads Two) = refl
whole_role (Follows Zero) = refl
whole_role (Follows One) = refl
whole_role (Follows Two) = refl

-- ---- rows of fields

numbers_codec : IsCodec numbers_at numbers_bytes NumbersFit
unfolding numbers_at numbers_bytes
numbers_codec =
    let one = below_codec (2 ^ 62) (omega arith) in
    field_as_codec (λ x. record { base = x.0.0; cp = x.0.1; top = x.1 }) _ _ _
    (then (then one one) one) (λ n. ((n.base, n.cp), n.top)) numbers_bytes NumbersFit
    (λ n. refl) (λ x fits. (refl, (fits.0.0, fits.0.1, fits.1)))
    (λ n fits. (refl, ((fits.0, fits.1), fits.2)))

pub first_codec : IsCodec first_at first_bytes FirstFit
unfolding first_at first_bytes
first_codec =
    field_as_codec (λ x. record {
      promised = x.0.0.0.0;
      accepted = x.0.0.0.1;
      role = x.0.0.1;
      lb = x.0.1;
      numbers = x.1;
    }) _ _ _
    (then (then (then (then view_codec view_codec) (tag_codec role_number roles whole_role))
    (below_codec (2 ^ 62) (omega arith)))
    (option_codec numbers_at numbers_bytes NumbersFit numbers_codec))
    (λ f. ((((f.promised, f.accepted), f.role), f.lb), f.numbers)) first_bytes FirstFit
    (λ f. refl)
    (λ x fits. (refl, (fits.0.0.0.0, fits.0.0.0.1, fits.0.1, fits.1)))
    (λ f fits. (refl, ((((fits.0, fits.1), tt), fits.2), fits.3)))

pub last_codec : IsCodec last_at last_bytes LastFit
unfolding last_at last_bytes
last_codec =
    let one = option_codec u32_at u32_bytes (λ n. n < 2 ^ 32) u32_codec in
    field_as_codec (λ x. record { longest = x.0; ring = x.1 }) _ _ _ (then one one)
    (λ f. (f.longest, f.ring)) last_bytes LastFit (λ f. refl) (λ x fits. (refl, fits))
    (λ f fits. (refl, fits))
