-- Views and attributes: what is read is spelled so, and what is spelled so is read.
use Rattle.std.proofs.Common.{◌≡◌, ℕ, ◌+◌, ◌^◌, ◌<◌, inl, inr, cond, eqb, List, [], ◌∷◌, ◌++◌, length, get_or, Option, Some, None, Ok, Err, refl, sym, ap, subst, ◌∙◌, arith}
use Rattle.std.specs.Prelude.{decimal}
use Rattle.std.proofs.lemmas.Bool.{eqb-true}
use Rattle.std.proofs.lemmas.Fmt.{decimal_digit}
use Rattle.harp_base.specs.Attributes.{AttrFits, TimeFits}
use Rattle.harp_types.specs.declared.attr.Time.{Time}
use Rattle.harp_types.specs.declared.attr.Kind.{Kind}
use Rattle.harp_types.specs.declared.attr.Kind.TheVariants as kind
use Rattle.harp_types.specs.declared.attr.Attr.{Attr}
use Rattle.text_spelling.specs.Text.{spaced, comma, kind_number, octal, time_text, attr_owner, attr_extent, attr_times, attr_text}
use Rattle.text_spelling.specs.Lines.{view_text}
use Rattle.schedule_text.specs.declared.fault.TextFault.TheVariants.{Grammar}
use Rattle.schedule_text.specs.Fields.{Reader, Read}
use Rattle.schedule_text.proofs.Places.{Spells, Spells-byte, head_at, chosen, ok_is, read_of}
use Rattle.schedule_text.proofs.Faults as faults
use Rattle.schedule_text.proofs.Rows.{IsRow, spaced_row}
use Rattle.trace_text.specs.Fields.{comma_at, colon_at, view_at, spaced_view_at, view_of, kind_of, kind_at, moment_at, time_of, owner_at, extent_at, times_at, attr_of, attr_at, spaced_attr_at}
use Rattle.trace_text.specs.Fits.{ViewFits}
use Rattle.trace_text.proofs.Pieces.{IsPiece, IsTail, field_of, both_piece, both_tail, behind_tail, made_piece, u32_piece, count_piece, mode_piece, server_piece}

-- ---- views

view_piece : IsPiece view_at view_text ViewFits
unfolding view_at view_text
view_piece =
    made_piece (both_piece count_piece
    (behind_tail 46 (omega arith) (inl (omega arith)) server_piece)) (λ x. view_of x.0 x.1) (record {
      back = λ v. (v.count, v.coordinator);
      there = λ a fits. (refl, fits.0);
      here = λ v fits. ((fits, tt), (refl, refl));
    })

pub view_row : IsRow spaced_view_at (λ v. spaced (view_text v)) ViewFits
view_row = spaced_row view_at view_text ViewFits (field_of view_piece) (view_piece.placed)

-- ---- kinds

kind_text : Kind → List ℕ
kind_text k = decimal (kind_number k)

abbrev no_kind : Option Kind
no_kind = None

kind_digit : (k : Kind) → kind_text k ≡ (48 + kind_number k) ∷ []
unfolding kind_text
kind_digit kind.Regular = decimal_digit 1 (omega arith)
kind_digit kind.Directory = decimal_digit 2 (omega arith)
kind_digit kind.Link = decimal_digit 5 (omega arith)

kind_byte : (b : ℕ) (k : Kind) → kind_of b ≡ Some k → b ≡ 48 + kind_number k
kind_byte b k e =
    elim (chosen (eqb b 49) (Some kind.Regular)
    (cond (eqb b 50) (Some kind.Directory) (cond (eqb b 53) (Some kind.Link) None)) (Some k) e) [
      | inl one ↦ eqb-true b 49 one.0
          ∙ ap (λ (j : Kind). 48 + kind_number j) (some_is kind.Regular k one.1)
      | inr more ↦ elim (chosen (eqb b 50) (Some kind.Directory)
          (cond (eqb b 53) (Some kind.Link) None) (Some k) more.1) [
            | inl two ↦ eqb-true b 50 two.0
                ∙ ap (λ (j : Kind). 48 + kind_number j) (some_is kind.Directory k two.1)
            | inr others ↦ elim (chosen (eqb b 53) (Some kind.Link) None (Some k) others.1) [
              | inl five ↦ eqb-true b 53 five.0
                  ∙ ap (λ (j : Kind). 48 + kind_number j) (some_is kind.Link k five.1)
              | inr none ↦ absurd (none_is k none.1)
            ]
          ]
    ]
  where
    some_is : (j k : Kind) → Some j ≡ Some k → j ≡ k
    some_is j k e = cc

    none_is : (k : Kind) → no_kind ≡ Some k → ⊥
    none_is k e = cc

kind_back : (k : Kind) → kind_of (48 + kind_number k) ≡ Some k
kind_back kind.Regular = refl
kind_back kind.Directory = refl
kind_back kind.Link = refl

abbrev kind_read : List ℕ → ℕ → Option Kind → Read Kind
kind_read line at o = elim o [ None ↦ Err (Grammar at) | Some k ↦ Ok (k, at + 1) ]

abbrev AnyKind : Kind → Type 0
AnyKind k = Unit {0}

kind_takes : (line : List ℕ) (at : ℕ) (o : Option Kind) (x : Kind × ℕ)
    → kind_of (get_or line at 0) ≡ o → kind_read line at o ≡ Ok x
    → Spells line at (kind_text x.0) x.1 × AnyKind x.0
kind_takes line at None x is e = absurd cc
kind_takes line at (Some k) x is e =
    let here = Spells-byte line at (48 + kind_number k) (kind_byte (get_or line at 0) k is)
    (omega arith) in
    subst (λ (z : Kind × ℕ). Spells line at (kind_text z.0) z.1 × AnyKind z.0)
    (ok_is (k, at + 1) x e)
    (subst (λ (l : List ℕ). Spells line at l (at + 1)) (sym (kind_digit k)) here, tt)

kind_piece : IsPiece kind_at kind_text AnyKind
kind_piece = record {
  takes = λ line at x e. kind_takes line at (kind_of (get_or line at 0)) x refl e;
  again = λ line at k rest fits stops e.
      let byte = head_at line at ((48 + kind_number k) ∷ rest)
      (e ∙ ap (λ (l : List ℕ). l ++ rest) (kind_digit k)) in
      ap (λ b. kind_read line at (kind_of b)) byte ∙ ap (kind_read line at) (kind_back k)
      ∙ ap (λ (l : List ℕ). read_of k (at + length l)) (sym (kind_digit k));
  placed = λ line at. faults.option (kind_of (get_or line at 0)) at (λ k. (k, at + 1));
}

-- ---- attributes

comma_tail : {A : Type 0} {r : Reader A} {spell : A → List ℕ} {Fits : A → Type 0}
    → IsPiece r spell Fits → IsTail (comma_at r) (λ x. comma (spell x)) Fits
comma_tail p = behind_tail 44 (omega arith) (inl (omega arith)) p

pub colon_tail : {A : Type 0} {r : Reader A} {spell : A → List ℕ} {Fits : A → Type 0}
    → IsPiece r spell Fits → IsTail (colon_at r) (λ x. 58 ∷ spell x) Fits
colon_tail p = behind_tail 58 (omega arith) (inr refl) p

moment_piece : IsPiece moment_at time_text TimeFits
unfolding moment_at time_text
moment_piece = made_piece (both_piece u32_piece (colon_tail u32_piece)) (λ x. time_of x.0 x.1) (record {
  back = λ t. (t.seconds, t.micros);
  there = λ a fits. (refl, fits);
  here = λ t fits. (fits, (refl, refl));
})

abbrev Owner : Type 0
Owner = (((Kind × ℕ) × ℕ) × ℕ) × ℕ

abbrev owner_text : Owner → List ℕ
owner_text x =
    kind_text x.0.0.0.0 ++ comma (octal x.0.0.0.1) ++ comma (decimal x.0.0.1)
    ++ comma (decimal x.0.1) ++ comma (decimal x.1)

abbrev OwnerFits : Owner → Type 0
OwnerFits x =
    (((AnyKind x.0.0.0.0 × (x.0.0.0.1 < 2 ^ 16)) × (x.0.0.1 < 2 ^ 32)) × (x.0.1 < 2 ^ 32))
    × (x.1 < 2 ^ 32)

owner_piece : IsPiece owner_at owner_text OwnerFits
unfolding owner_at
owner_piece =
    both_piece (both_piece (both_piece (both_piece kind_piece (comma_tail mode_piece))
    (comma_tail u32_piece)) (comma_tail u32_piece)) (comma_tail u32_piece)

abbrev Extent : Type 0
Extent = (ℕ × ℕ) × ℕ

abbrev extent_text : Extent → List ℕ
extent_text x = comma (decimal x.0.0) ++ comma (decimal x.0.1) ++ comma (decimal x.1)

abbrev ExtentFits : Extent → Type 0
ExtentFits x = ((x.0.0 < 2 ^ 32) × (x.0.1 < 2 ^ 32)) × (x.1 < 2 ^ 32)

extent_tail : IsTail extent_at extent_text ExtentFits
unfolding extent_at
extent_tail =
    both_tail (both_tail (comma_tail u32_piece) (comma_tail u32_piece)) (comma_tail u32_piece)

abbrev Times : Type 0
Times = (Time × Time) × Time

abbrev times_text : Times → List ℕ
times_text x = comma (time_text x.0.0) ++ comma (time_text x.0.1) ++ comma (time_text x.1)

abbrev TimesFit : Times → Type 0
TimesFit x = (TimeFits x.0.0 × TimeFits x.0.1) × TimeFits x.1

times_tail : IsTail times_at times_text TimesFit
unfolding times_at
times_tail =
    both_tail (both_tail (comma_tail moment_piece) (comma_tail moment_piece))
    (comma_tail moment_piece)

attr_spelled : (x : (Owner × Extent) × Times)
    → attr_text (attr_of x) ≡ (owner_text x.0.0 ++ extent_text x.0.1) ++ times_text x.1
unfolding attr_text attr_owner attr_extent attr_times kind_text
attr_spelled x = refl

attr_parts : Attr → (Owner × Extent) × Times
attr_parts a = (
  (((((a.kind, a.mode), a.links), a.uid), a.gid), ((a.size, a.blocks), a.fileid)),
  ((a.atime, a.mtime), a.ctime),
)

attr_piece : IsPiece attr_at attr_text AttrFits
unfolding attr_at attr_parts
attr_piece = made_piece (both_piece (both_piece owner_piece extent_tail) times_tail) attr_of (record {
  back = attr_parts;
  there = λ a f. (
    attr_spelled a,
    (
      f.0.0.0.0.0.1,
      f.0.0.0.0.1,
      f.0.0.0.1,
      f.0.0.1,
      f.0.1.0.0,
      f.0.1.0.1,
      f.0.1.1,
      f.1.0.0,
      f.1.0.1,
      f.1.1,
    ),
  );
  here = λ a f. (
    ((((((tt, f.0), f.1), f.2), f.3), ((f.4, f.5), f.6)), ((f.7, f.8), f.9)),
    (refl, attr_spelled (attr_parts a)),
  );
})

pub attr_row : IsRow spaced_attr_at (λ a. spaced (attr_text a)) AttrFits
attr_row = spaced_row attr_at attr_text AttrFits (field_of attr_piece) (attr_piece.placed)
